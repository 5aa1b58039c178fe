-- Rows whose muxes are done: they write nothing more.
use Rattle.std.proofs.Common.{◌≡◌, ℕ, ◌<◌, Bool, true, false, List, [], ◌∷◌, ◌++◌, length, refl, sym, ap, ◌∙◌}
use Rattle.std.proofs.Common.{subst, arith}
use Rattle.std.specs.Prelude.{All, slice_set}
use Rattle.std.proofs.lemmas.List.{get_or-set_same, length-set, set-get_or}
use Rattle.std.proofs.lemmas.List.Elements.{All-head, All-tail, All-cons}
use Rattle.ij_bits.specs.BitLists.{bit}
use Rattle.net_graph.specs.declared.branch.Branch.{Branch}
use Rattle.net_graph.specs.declared.net.Net.{Net}
use Rattle.net_graph.specs.declared.step.WriteBit.{WriteBit}
use Rattle.net_graph.specs.Signals.{Holds}
use Rattle.path_planner.specs.Collecting.{all_done, row_writes, settle_writes}
use Rattle.path_planner.specs.Planning.{IsBranchOf}
use Rattle.path_planner.proofs.Collecting.{marked_stays}

-- the muxes of some rows are done
abbrev pub AreDone : List Bool → List Branch → Type 0
AreDone done bs = All (λ b. bit done b.mux ≡ true) bs

stays_done : (bs : List Branch) (done : List Bool) (m : ℕ)
    → bit done m ≡ true → bit (all_done done bs) m ≡ true
stays_done [] done m e = e
stays_done (b ∷ bs) done m e = stays_done bs (slice_set done b.mux true) m (marked_stays done b.mux m e)

-- what is marked is done
marked_done : (bs : List Branch) (done : List Bool)
    → All (λ b. b.mux < length done) bs → AreDone (all_done done bs) bs
marked_done [] done h = λ k d l. absurd (omega (arith, l))
marked_done (b ∷ bs) done h =
    let there : b.mux < length done = All-head (λ c. c.mux < length done) b bs h in
    let rest : All (λ c. c.mux < length (slice_set done b.mux true)) bs = λ k d l.
    let t = All-tail (λ c. c.mux < length done) b bs h k d l in
    omega (arith, t, length-set done b.mux true) in
    All-cons (λ c. bit (all_done (slice_set done b.mux true) bs) c.mux ≡ true) b bs
    (stays_done bs (slice_set done b.mux true) b.mux (get_or-set_same done b.mux true false there))
    (marked_done bs (slice_set done b.mux true) rest)

pub now_done : (net : Net) (bs : List Branch) (done now : List Bool) → All (IsBranchOf net) bs
    → length done ≡ length net.muxes.items → now ≡ all_done done bs → AreDone now bs
now_done net bs done now h long e =
    let P : List Bool → Type 0 = λ l. AreDone l bs in
    subst P (sym e) (marked_done bs done (λ k d l. let t = (h k d l).mux in omega (arith, t, long)))

-- one more time they change nothing
same_set : (done : List Bool) (m : ℕ) → bit done m ≡ true → slice_set done m true ≡ done
same_set done m e = ap (slice_set done m) (sym e) ∙ set-get_or done m false

pub done_again : (bs : List Branch) (done : List Bool) → AreDone done bs → done ≡ all_done done bs
done_again [] done h = refl
done_again (b ∷ bs) done h =
    done_again bs done (All-tail (λ c. bit done c.mux ≡ true) b bs h)
    ∙ ap (λ l. all_done l bs) (sym (same_set done b.mux (All-head (λ c. bit done c.mux ≡ true) b bs h)))

module _ (net : Net) (before : Holds) (path : List ℕ) where
  abbrev first : Bool → Branch → List WriteBit
  first d b = elim d [ true ↦ [] | false ↦ row_writes net before path b ]

  pub none_again : (bs : List Branch) (done : List Bool) → AreDone done bs
      → settle_writes net before path done bs ≡ []
  none_again [] done h = refl
  none_again (b ∷ bs) done h =
      let is : bit done b.mux ≡ true = All-head (λ c. bit done c.mux ≡ true) b bs h in
      ap (λ d. first d b ++ settle_writes net before path (slice_set done b.mux true) bs) is
      ∙ ap (λ l. settle_writes net before path l bs) (same_set done b.mux is)
      ∙ none_again bs done (All-tail (λ c. bit done c.mux ≡ true) b bs h)
