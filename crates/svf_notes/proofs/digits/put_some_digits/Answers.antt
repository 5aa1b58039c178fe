use Rattle.std.proofs.Common.{◌≡◌, ◌+◌, ◌-◌, ◌++◌, ◌∷◌, [], ℕ, ap, sym, ◌∙◌, arith, drop}
use Rattle.std.proofs.lemmas.List.{drop_all, length-replicate, length-set, take_more_set}
use Rattle.svf_notes.specs.Notes.{digit_of, digits}
use Rattle.svf_notes.specs.Packed.{part_bits}
use Rattle.svf_notes.proofs.Packed.{length-part_bits}
use Rattle.svf_notes.proofs.digits.put_some_digits.Goals as goal

pub loop-j-preserved : goal.loop-j-preserved
loop-j-preserved c =
    let shown = c.args.shown in
    let bits = part_bits c.args.part.now in
    let n = c.args.part.now.count in
    let j = c.loop-j.j in
    let i = n - 1 - j in
    let d = c.digit_of.result in
    let next : i + 1 ≡ n - j = omega (arith, c.loop-j-test.true) in
    let place : i ≡ n - (j + 1) = omega arith in
    let here : digits shown (drop i bits) ≡ digits shown (drop (n - j) bits) ++ d ∷ [] =
    ap (digits shown) c.at.ensures ∙ ap (λ k. digits shown (drop k bits) ++ digit_of shown c.at.result ∷ [])
    next ∙ ap (λ x. digits shown (drop (n - j) bits) ++ x ∷ []) (sym c.digit_of.ensures) in
    record {
      long = length-set c.loop-j.text j d ∙ c.loop-j.invariant.long;
      filled = take_more_set c.loop-j.text j d
          (omega (arith, c.loop-j.invariant.long, c.requires, c.loop-j-test.true)) ∙ ap (λ t. t ++ d ∷ [])
          c.loop-j.invariant.filled ∙ sym here ∙ ap (λ k. digits shown (drop k bits)) place;
    }

pub loop-j-init : goal.loop-j-init
loop-j-init c =
    let p = c.args.part.now in
    record {
      long = length-replicate {A = ℕ} 64 0;
      filled = sym (ap (digits c.args.shown)
          (drop_all (p.count - 0) (part_bits p) (omega (arith, length-part_bits p))));
    }
