use Rattle.std.proofs.Common.{◌≡◌, Option, Bool, List, None, Some, cond, false, length, length-append, get_or}
use Rattle.std.proofs.Common.{map, arith, ap, sym, ◌∙◌, ◌++◌}
use Rattle.ij_bits.specs.BitLists.{bits_of}
use Rattle.ij_bits.proofs.WordBits.{length-bits_of}
use Rattle.ij_text.specs.Numbers.{open_bits}
use Rattle.ij_text.proofs.Numbers.{open_length}
use Rattle.ij_text.proofs.OpenDigits.{open_append, digit_is, digit_zero, zero_append}
use Rattle.ij_text.proofs.open_bits.OpenBits.push_digit.Goals as goal

pub append_number_reserved-requires-clause-short : goal.append_number_reserved-requires-clause-short
append_number_reserved-requires-clause-short c =
    let long = open_length c.self.inside.value.items c.self.inside.care.items c.self.invariant.0 in
    let same = ap length c.self.view_is in
    let kept = ap length c.reserve.ensures.items in
    omega (arith, long, same, kept, c.requires)

pub append_number_reserved-requires-2-clause-short : goal.append_number_reserved-requires-2-clause-short
append_number_reserved-requires-2-clause-short c =
    let long = open_length c.self.inside.value.items c.self.inside.care.items c.self.invariant.0 in
    let same = ap length c.self.view_is in
    let kept = ap length c.reserve-2.ensures.items in
    omega (arith, long, same, kept, c.requires, c.self.invariant.0)

pub returns-clause-ok : goal.returns-clause-ok
returns-clause-ok c =
    let n = c.args.n in
    let vs = c.self.inside.value.items in
    let cs = c.self.inside.care.items in
    let v = c.unless_open.result in
    let w = c.unless_open-2.result in
    let value = c.append_number_reserved.ensures.items
    ∙ ap (λ (l : List Bool). l ++ bits_of n v) c.reserve.ensures.items in
    let care = c.append_number_reserved-2.ensures.items
    ∙ ap (λ (l : List Bool). l ++ bits_of n w) c.reserve-2.ensures.items in
    ap (λ (l : List Bool). open_bits l c.append_number_reserved-2.new.self.items) value
    ∙ ap (open_bits (vs ++ bits_of n v)) care
    ∙ open_append vs cs (bits_of n v) (bits_of n w) c.self.invariant.0
    ∙ ap (λ (l : List (Option Bool)). open_bits vs cs ++ l) (digit_is c.args.is_open n c.args.value v w
    c.requires.word c.unless_open.ensures c.unless_open-2.ensures)
    ∙ ap (λ (l : List (Option Bool)). l
    ++ map (λ bit. cond c.args.is_open None (Some bit)) (bits_of n c.args.value)) c.self.view_is

pub invariant_of-self-2 : goal.invariant_of-self-2
invariant_of-self-2 c =
    let n = c.args.n in
    let vs = c.self.inside.value.items in
    let cs = c.self.inside.care.items in
    let v = c.unless_open.result in
    let w = c.unless_open-2.result in
    let value : c.append_number_reserved.new.self.items ≡ vs ++ bits_of n v =
    c.append_number_reserved.ensures.items
    ∙ ap (λ (l : List Bool). l ++ bits_of n v) c.reserve.ensures.items in
    let care : c.append_number_reserved-2.new.self.items ≡ cs ++ bits_of n w =
    c.append_number_reserved-2.ensures.items
    ∙ ap (λ (l : List Bool). l ++ bits_of n w) c.reserve-2.ensures.items in
    let long : length (vs ++ bits_of n v) ≡ length (cs ++ bits_of n w) =
    omega (
      arith,
      length-append vs (bits_of n v),
      length-append cs (bits_of n w),
      length-bits_of n v,
      length-bits_of n w,
      c.self.invariant.0,
    ) in (
      ap length value ∙ long ∙ sym (ap length care),
      λ k e. ap (λ (l : List Bool). get_or l k false) value
          ∙ zero_append vs cs (bits_of n v) (bits_of n w) c.self.invariant.0 c.self.invariant.1
          (digit_zero c.args.is_open n c.args.value v w c.requires.word
          c.unless_open.ensures c.unless_open-2.ensures) k
          (sym (ap (λ (l : List Bool). get_or l k false) care) ∙ e),
    )
