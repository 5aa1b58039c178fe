-- What one branch alone writes and reads.
use Rattle.std.proofs.Common.{◌≡◌, ⊎_elim, ℕ, Bool, List, [], ◌∷◌, ◌++◌, length, Some, refl, ap, ◌∙◌, subst}
use Rattle.std.proofs.Common.{arith}
use Rattle.std.specs.Prelude.{All, filter, flat_map}
use Rattle.std.proofs.lemmas.List.Elements.{All-head, All-tail}
use Rattle.net_graph.specs.declared.step.ReadBit.{ReadBit}
use Rattle.net_graph.specs.declared.step.WriteBit.{WriteBit}
use Rattle.net_graph.specs.SeenSteps.{SeenGroup, SeenStep, Apply, Run, Reset}
use Rattle.pdl_targets.specs.Laws.{rounds_of}
use Rattle.pdl_targets.specs.Rounds.{Places}
use Rattle.merge_order.specs.Laws.{AreTurns, in_all, writes_in, reads_in}
use Rattle.merge_order.specs.Merge.{Branch, merged}
use Rattle.merge_order.proofs.Whole.{merges_have_each_write, merges_have_each_read}
use Rattle.merge_order.specs.MergeLaws.{NoneWrites, NoneReads, WritesOfOneStay, ReadsOfOneStay}
use Rattle.merge_order.specs.Order.{StandIn, Does, DoBranch, DoesRound, DoRounds}
use Rattle.merge_order.proofs.Standing.{stand_all, stand_after, stand_both, stand_filtered}
use Rattle.merge_order.proofs.MergeTurning.{merged_does, one_is_done}

-- ---- a part of each round, such as its writes

module _ {X : Type 0} (part : SeenGroup → List X) (kept : (h g : SeenGroup)
    → DoesRound h g → StandIn (part g) (part h)) where
  abbrev pub parts_in : List SeenStep → List X
  parts_in [] = []
  parts_in (s ∷ ss) = flat_map part (rounds_of (Some s)) ++ parts_in ss

  pub rounds_stand : (hs gs : List SeenGroup) → DoRounds hs gs → StandIn (flat_map part gs) (flat_map part hs)
  rounds_stand [] [] h = tt
  rounds_stand [] (g ∷ gs) h = absurd h
  rounds_stand (h ∷ hs) [] k = absurd k
  rounds_stand (h ∷ hs) (g ∷ gs) k = stand_both (part g) (part h) (flat_map part gs)
      (flat_map part hs) (kept h g k.0) (rounds_stand hs gs k.1)

  pub step_stands : (m s : SeenStep) → Does m s
      → StandIn (flat_map part (rounds_of (Some s))) (flat_map part (rounds_of (Some m)))
  step_stands (Apply hs) (Apply gs) h = rounds_stand hs gs h
  step_stands (Apply hs) (Run n) h = absurd h
  step_stands (Apply hs) Reset h = absurd h
  step_stands (Run m) (Apply gs) h = absurd h
  step_stands (Run m) (Run n) h = tt
  step_stands (Run m) Reset h = absurd h
  step_stands Reset s h = absurd h

  pub branch_stands : (ms : List SeenStep) (b : Branch) → DoBranch ms b → StandIn (parts_in b) (parts_in ms)
  branch_stands ms [] h = tt
  branch_stands [] (s ∷ ss) h = absurd h
  branch_stands (m ∷ ms) (s ∷ ss) h =
      ⊎_elim (λ p. stand_both (flat_map part (rounds_of (Some s))) (flat_map part (rounds_of (Some m)))
      (parts_in ss) (parts_in ms) (step_stands m s p.0) (branch_stands ms ss p.1))
      (λ q. stand_after (parts_in (s ∷ ss)) (flat_map part (rounds_of (Some m)))
      (parts_in ms) (branch_stands ms (s ∷ ss) q)) h

-- ---- writes, reads

pub writes_kept : (h g : SeenGroup) → DoesRound h g → StandIn g.writes h.writes
writes_kept h g d = d.0

pub reads_kept : (h g : SeenGroup) → DoesRound h g → StandIn g.reads h.reads
reads_kept h g d = d.1

pub writes_are : (ss : List SeenStep) → parts_in (λ g. g.writes) writes_kept ss ≡ writes_in ss
writes_are [] = refl
writes_are (s ∷ ss) =
    ap (λ l. flat_map (λ (g : SeenGroup). g.writes) (rounds_of (Some s)) ++ l) (writes_are ss)

reads_are : (ss : List SeenStep) → parts_in (λ g. g.reads) reads_kept ss ≡ reads_in ss
reads_are [] = refl
reads_are (s ∷ ss) = ap (λ l. flat_map (λ (g : SeenGroup). g.reads) (rounds_of (Some s)) ++ l) (reads_are ss)

-- the numbers of all branches, where one alone has something
module _ {X : Type 0} (test : X → Bool) (all_of : Branch → List X) where
  abbrev count : Branch → ℕ
  count b = length (filter test (all_of b))

  abbrev None : List Branch → Type 0
  None bs = All (λ c. filter test (all_of c) ≡ []) bs

  none_counted : (bs : List Branch) → None bs → in_all count bs ≡ 0
  none_counted [] h = refl
  none_counted (c ∷ bs) h =
      let ih = none_counted bs (All-tail (λ c. filter test (all_of c) ≡ []) c bs h) in
      let one = ap length (All-head (λ c. filter test (all_of c) ≡ []) c bs h) in
      omega (arith, ih, one)

  pub one_counted : (before : List Branch) (b : Branch) (following : List Branch) → None before
      → None following → in_all count (before ++ b ∷ following) ≡ count b
  one_counted [] b following h k = let none = none_counted following k in omega (arith, none)
  one_counted (c ∷ before) b following h k =
      let ih = one_counted before b following (All-tail (λ c. filter test (all_of c) ≡ []) c before h) k in
      let one = ap length (All-head (λ c. filter test (all_of c) ≡ []) c before h) in
      omega (arith, ih, one)

abbrev pub do_one : (places : Places) (before : List Branch) (b : Branch) (following : List Branch)
    → AreTurns b → DoBranch (merged places (before ++ b ∷ following)) b
do_one places before b following are = one_is_done places (merged places (before ++ b ∷ following)) before b
    following (merged_does places (before ++ b ∷ following)) are

pub counted_writes : (places : Places) (before : List Branch) (b : Branch)
    (following : List Branch) (test : WriteBit → Bool)
    → NoneWrites test before → NoneWrites test following
    → length (filter test (writes_in (merged places (before ++ b ∷ following))))
    ≡ length (filter test (writes_in b))
counted_writes places before b following test h k = merges_have_each_write places
    (before ++ b ∷ following) test ∙ one_counted test writes_in before b following h k

counted_reads : (places : Places) (before : List Branch) (b : Branch)
    (following : List Branch) (test : ReadBit → Bool)
    → NoneReads test before → NoneReads test following
    → length (filter test (reads_in (merged places (before ++ b ∷ following))))
    ≡ length (filter test (reads_in b))
counted_reads places before b following test h k = merges_have_each_read places (before ++ b ∷ following) test
    ∙ one_counted test reads_in before b following h k

pub writes_of_one_stay : WritesOfOneStay
writes_of_one_stay places before b following test are h k =
    let ms = merged places (before ++ b ∷ following) in
    let stand : StandIn (filter test (writes_in b)) (filter test (writes_in ms)) =
    stand_filtered test (writes_in b) (writes_in ms)
    (subst (λ l. StandIn l (writes_in ms)) (writes_are b)
    (subst (λ l. StandIn (parts_in (λ g. g.writes) writes_kept b) l) (writes_are ms)
    (branch_stands (λ g. g.writes) writes_kept ms b (do_one places before b following are)))) in
    let same = counted_writes places before b following test h k in
    stand_all (filter test (writes_in b)) (filter test (writes_in ms)) stand (omega (arith, same))

pub reads_of_one_stay : ReadsOfOneStay
reads_of_one_stay places before b following test are h k =
    let ms = merged places (before ++ b ∷ following) in
    let stand : StandIn (filter test (reads_in b)) (filter test (reads_in ms)) =
    stand_filtered test (reads_in b) (reads_in ms)
    (subst (λ l. StandIn l (reads_in ms)) (reads_are b)
    (subst (λ l. StandIn (parts_in (λ g. g.reads) reads_kept b) l) (reads_are ms)
    (branch_stands (λ g. g.reads) reads_kept ms b (do_one places before b following are)))) in
    let same = counted_reads places before b following test h k in
    stand_all (filter test (reads_in b)) (filter test (reads_in ms)) stand (omega (arith, same))
