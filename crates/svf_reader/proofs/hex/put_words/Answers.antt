use Rattle.std.proofs.Common.{◌≡◌, ◌+◌, ◌++◌, Bool, List, length, drop, arith, ap, sym, ◌∙◌}
use Rattle.std.proofs.lemmas.List.{length-append}
use Rattle.ij_bits.specs.BitLists.{bits_of, number_of}
use Rattle.svf_reader.specs.Values.{hex_bits, fitted}
use Rattle.svf_reader.proofs.Packing.{InParts, fitted_none, fitted_more, last_bits, left_more}
use Rattle.ij_bits.proofs.WordBits.{length-bits_of}
use Rattle.svf_reader.proofs.hex.put_words.Goals as goal

pub loop-parts-init : goal.loop-parts-init
loop-parts-init c =
    let none : length c.args.bits.now.items ≡ 0 = ap length c.requires.empty in
    let all = hex_bits c.args.digits.now in
    record {
      items = c.requires.empty ∙ fitted_none all ∙ ap (λ n. fitted n all) (sym none);
      left = ap (λ n. drop n all) none;
      within = omega (arith, none);
      room = omega (arith, none, c.requires.room);
    }

pub loop-parts-preserved : goal.loop-parts-preserved
loop-parts-preserved c =
    let all = hex_bits c.args.digits.now in
    let old = c.loop-parts.bits.items in
    let k = length old in
    let rest = c.loop-parts.rest.now in
    let front = c.split_last-parts.result.front.now in
    let last = c.split_last-parts.result.last.now in
    let parts : InParts rest front last = record {
      all = c.split_last-parts.ensures.all;
      few = c.split_last-parts.ensures.few;
      lone = c.split_last-parts.ensures.front;
    } in
    let new = c.append_number_reserved.new.self.items in
    let is : new ≡ old ++ bits_of 64 (number_of (hex_bits last)) =
    c.append_number_reserved.ensures.items ∙ ap (λ v. old ++ bits_of 64 v) c.digits_number.ensures in
    let long : length new ≡ k + 64 = ap length is ∙ length-append old (bits_of 64 (number_of (hex_bits last)))
    ∙ ap (λ n. k + n) (length-bits_of 64 (number_of (hex_bits last))) in
    let added : bits_of 64 (number_of (hex_bits last)) ≡ fitted 64 (drop k all) =
    sym (ap (fitted 64) c.loop-parts.invariant.left ∙ last_bits 64 rest front last parts (omega arith)) in
    record {
      items = is ∙ ap (λ (l : List Bool). l ++ bits_of 64 (number_of (hex_bits last)))
          c.loop-parts.invariant.items ∙ ap (λ (l : List Bool). fitted k all ++ l) added
          ∙ sym (fitted_more k 64 all) ∙ ap (λ n. fitted n all) (sym long);
      left = ap (λ n. drop n all) long ∙ left_more k all rest front last parts c.loop-parts.invariant.left;
      within = omega (arith, long, c.loop-parts-test.true, c.len.ensures, c.loop-parts.invariant.within);
      room = omega (arith, long, c.loop-parts.invariant.room, c.append_number_reserved.ensures.spare);
    }
