use Rattle.std.proofs.Common.{◌≡◌, ◌-◌, ◌++◌, Bool, List, true, false, length, get_or, replicate, take, arith}
use Rattle.std.proofs.Common.{ap, sym, ◌∙◌}
use Rattle.std.proofs.Math.ListN.{length-replicate}
use Rattle.std.proofs.lemmas.Slice.{between_from_start}
use Rattle.ij_text.specs.Numbers.{open_bits}
use Rattle.ij_text.proofs.OpenDigits.{in_width, in_width_zero, in_width_length}
use Rattle.ij_text.proofs.fitting.tern_in_width.Goals as goal

pub returns : goal.returns
returns c =
    let t = c.args.t.now in
    let w = c.args.width in
    let n = c.min-n.result in
    let value = c.from.ensures ∙ c.in_ok-append.ensures.ok ∙ ap (λ (l : List Bool). l ++
    c.in_ok-above.above.items)
    (c.in_ok-value.ensures ∙ between_from_start t.value.items n)
    ∙ ap (λ (l : List Bool). take n t.value.items ++ l) c.in_ok-above.ensures in
    let care = c.from-2.ensures ∙ c.in_ok-append-2.ensures.ok ∙ ap (λ (l : List Bool). l ++
    c.fill.new.self.items)
    (c.in_ok-care.ensures ∙ between_from_start t.care.items n)
    ∙ ap (λ (l : List Bool). take n t.care.items ++ l) (c.fill.ensures.items
    ∙ ap (λ k. replicate k true) (ap length c.in_ok-above.ensures ∙ length-replicate (w - n) false)) in
    ap (λ (l : List Bool). open_bits l c.from-2.result.items) value
    ∙ ap (open_bits (take n t.value.items ++ replicate (w - n) false)) care
    ∙ in_width t.value.items t.care.items n w t.same_length (omega arith)

pub invariant_of-result : goal.invariant_of-result
invariant_of-result c =
    let t = c.args.t.now in
    let w = c.args.width in
    let n = c.min-n.result in
    let value : c.from.result.items ≡ take n t.value.items ++ replicate (w - n) false =
    c.from.ensures ∙ c.in_ok-append.ensures.ok ∙ ap (λ (l : List Bool). l ++ c.in_ok-above.above.items)
    (c.in_ok-value.ensures ∙ between_from_start t.value.items n)
    ∙ ap (λ (l : List Bool). take n t.value.items ++ l) c.in_ok-above.ensures in
    let care : c.from-2.result.items ≡ take n t.care.items ++ replicate (w - n) true =
    c.from-2.ensures ∙ c.in_ok-append-2.ensures.ok ∙ ap (λ (l : List Bool). l ++ c.fill.new.self.items)
    (c.in_ok-care.ensures ∙ between_from_start t.care.items n)
    ∙ ap (λ (l : List Bool). take n t.care.items ++ l) (c.fill.ensures.items
    ∙ ap (λ k. replicate k true) (ap length c.in_ok-above.ensures ∙ length-replicate (w - n) false)) in
    record {
      same_length = ap length value
          ∙ in_width_length t.value.items t.care.items n w t.same_length (omega arith) ∙ sym (ap length care);
      open_is_zero = λ k e. ap (λ (l : List Bool). get_or l k false) value
          ∙ in_width_zero t.value.items t.care.items n w t.same_length (omega arith) t.open_is_zero k
          (sym (ap (λ (l : List Bool). get_or l k false) care) ∙ e);
    }
