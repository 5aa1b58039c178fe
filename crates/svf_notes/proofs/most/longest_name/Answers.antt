use Rattle.std.proofs.Common.{◌≤◌, ⊎_elim, ℕ, length, subst, arith}
use Rattle.std.proofs.lemmas.Bool.Decides.{eqb_tells}
use Rattle.svf_notes.specs.Most.{named}
use Rattle.svf_notes.proofs.most.longest_name.Goals as goal

pub loop-reg-preserved : goal.loop-reg-preserved
loop-reg-preserved c = λ r below.
    let net = c.args.net.now in
    let here : length (named net c.loop-reg.reg)
    ≤ c.max-longest.result = omega (arith, c.max-longest.ensures, c.in_ok-register_name_len.ensures) in
    ⊎_elim
    (λ same. subst (λ (k : ℕ). length (named net k) ≤ c.max-longest.result) same.1 here)
    (λ other. let before = c.loop-reg.invariant r (omega (arith, below, other.1)) in
    omega (arith, before, c.max-longest.ensures))
    (eqb_tells c.loop-reg.reg r)
