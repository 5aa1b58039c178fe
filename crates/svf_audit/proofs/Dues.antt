-- Redundant groups before what is due, and cycles after them.
use Rattle.std.proofs.Common.{◌≡◌, ⊎_elim, length, ℕ, zero, suc, ◌+◌, ◌-◌, ◌<◌, ◌≤◌, Bool, true, false, None}
use Rattle.std.proofs.Common.{List, [], ◌∷◌, ◌++◌, refl, sym, ap, ◌∙◌, subst, arith}
use Rattle.std.specs.Prelude.{All, option_and_then, replicate, ◌==◌}
use Rattle.std.proofs.lemmas.Bool.Decides.{eqb_tells}
use Rattle.std.proofs.lemmas.List.Elements.{All-drop, All-tail}
use Rattle.net_graph.specs.Signals.{Holds}
use Rattle.tap_machine.specs.Play.{is_empty}
use Rattle.svf_audit.specs.declared.left.Left.{Left}
use Rattle.svf_audit.specs.Left.{redundant_first, work_left, AreHeld, IsHeldPiece, IsSettled, IsWithin}
use Rattle.svf_audit.specs.Work.{Work, Cycle, is_redundant, due, after_cycle, after_cycles}
use Rattle.svf_audit.proofs.Cycles.{cycles_after, cycles_split}
use Rattle.svf_audit.proofs.Lefts.{drop_front, due_stays, no_piece, some_piece}

-- ---- redundant groups before cycles

pub due_first : (h : Holds) (ws : List Work) → redundant_first h (due h ws) ≡ false
due_first h [] = refl
due_first h (w ∷ ws) = by (is_redundant h w) refl (due_first h ws)
  where
    by : (t : Bool) → is_redundant h w ≡ t → redundant_first h (due h ws) ≡ false
        → redundant_first h (due h (w ∷ ws)) ≡ false
    by true e f = ap (λ b. redundant_first h (elim b [ true ↦ due h ws | false ↦ w ∷ ws ])) e ∙ f
    by false e f = ap (λ b. redundant_first h (elim b [ true ↦ due h ws | false ↦ w ∷ ws ])) e ∙ e

pub due_twice : (h : Holds) (ws : List Work) → due h (due h ws) ≡ due h ws
due_twice h ws = due_stays h (due h ws) (due_first h ws)

pub due_all : (P : Work → Type 0) (h : Holds) (ws : List Work) → All P ws → All P (due h ws)
due_all P h [] a = a
due_all P h (w ∷ ws) a = by (is_redundant h w) refl (due_all P h ws (All-tail P w ws a))
  where
    by : (t : Bool) → is_redundant h w ≡ t → All P (due h ws) → All P (due h (w ∷ ws))
    by true e f = subst (λ b. All P (elim b [ true ↦ due h ws | false ↦ w ∷ ws ])) (sym e) f
    by false e f = subst (λ b. All P (elim b [ true ↦ due h ws | false ↦ w ∷ ws ])) (sym e) a

-- one cycle more asks for what is due
pub cycles_due : (h : Holds) (n : ℕ) (ws : List Work) → 0 < n
    → after_cycles h n (due h ws) ≡ after_cycles h n ws
cycles_due h zero ws l = absurd (omega (arith, l))
cycles_due h (suc n) ws l = ap (λ x. option_and_then (after_cycles h n) (after_cycle x)) (due_twice h ws)

-- no cycle is due
pub no_cycles : (h : Holds) (n : ℕ) (ws : List Work) → 0 < n
    → after_cycle (due h ws) ≡ None → after_cycles h n ws ≡ None
no_cycles h zero ws l e = absurd (omega (arith, l))
no_cycles h (suc n) ws l e = ap (option_and_then (after_cycles h n)) e

-- some of them are done
pub cycles_done : (h : Holds) (n k : ℕ) (ws now more : List Work) → 0 < n → k ≤ n → now ≡ due h ws
    → now ≡ replicate k Cycle ++ more → after_cycles h (n - k) more ≡ after_cycles h n ws
cycles_done h n k ws now more l m d e =
    let all : k + (n - k) ≡ n = omega arith in
    sym (
    sym (cycles_due h n ws l)
    ∙ ap (after_cycles h n) (sym d ∙ e)
    ∙ ap (λ j. after_cycles h j (replicate k Cycle ++ more)) (sym all)
    ∙ cycles_split h k (n - k) (replicate k Cycle ++ more)
    ∙ ap (option_and_then (after_cycles h (n - k))) (cycles_after h k more)
    )

-- nothing is left exactly after the last step
pub done_is : (l : Left) (n : ℕ) → IsWithin l → IsSettled l
    → n ≡ length l.steps.now.items → (l.at == n) ≡ is_empty (work_left l)
done_is l n w s e =
    ⊎_elim
    (λ t. t.0 ∙ sym (ap is_empty (no_piece l (t.1 ∙ e))))
    (λ t. let there : l.at < length l.steps.now.items = omega (arith, w.steps, e, t.1) in
    t.0 ∙ sym (ap is_empty (some_piece l there (s there))))
    (eqb_tells l.at n)

-- the bits of what is left after some cycles are there
pub held_on : (h : Holds) (k : ℕ) (ws now more : List Work) → AreHeld h ws → now ≡ due h ws
    → now ≡ replicate k Cycle ++ more → AreHeld h more
held_on h k ws now more a d e =
    let all : AreHeld h (replicate k Cycle ++ more) =
    subst (AreHeld h) (sym d ∙ e) (due_all (IsHeldPiece h) h ws a) in
    subst (AreHeld h) (drop_front k more) (All-drop (IsHeldPiece h) k (replicate k Cycle ++ more) all)
