-- Each iApply of a turn is done by a join.
use Rattle.std.proofs.Common.{◌≡◌, ◌≤◌, ◌⊎◌, inl, inr, ℕ, zero, suc, Bool, true, false, cond, List, [], ◌∷◌}
use Rattle.std.proofs.Common.{length, refl, arith}
use Rattle.net_graph.specs.SeenSteps.{SeenGroup}
use Rattle.pdl_targets.specs.Rounds.{Places}
use Rattle.merge_order.specs.Merge.{all_joins, after_first, both, first_join, joined, joins, joins_upto}
use Rattle.merge_order.specs.Merge.{unjoined, with_first}
use Rattle.merge_order.proofs.Turning.{after_few}
use Rattle.merge_order.specs.Order.{DoesRound, DoRounds}
use Rattle.merge_order.proofs.Standing.{stand_self, stand_front, stand_after}

pub does_itself : (g : SeenGroup) → DoesRound g g
does_itself g = (stand_self g.writes, stand_self g.reads)

pub do_themselves : (gs : List SeenGroup) → DoRounds gs gs
do_themselves [] = tt
do_themselves (g ∷ gs) = (does_itself g, do_themselves gs)

first_does : (x g h : SeenGroup) → DoesRound g x → DoesRound (both g h) x
first_does x g h d = (stand_front x.writes g.writes h.writes d.0, stand_front x.reads g.reads h.reads d.1)

second_does : (x g h : SeenGroup) → DoesRound h x → DoesRound (both g h) x
second_does x g h d = (stand_after x.writes g.writes h.writes d.0, stand_after x.reads g.reads h.reads d.1)

-- one of some iApplys does these rounds
abbrev pub OneDoes : List (List SeenGroup) → List SeenGroup → Type 0
OneDoes [] gs = ⊥
OneDoes (a ∷ rest) gs = DoRounds a gs ⊎ OneDoes rest gs

-- each of some iApplys has what is said
abbrev pub Each : (List SeenGroup → Type 0) → List (List SeenGroup) → Type 0
Each P [] = Unit {0}
Each P (a ∷ rest) = P a × Each P rest

each_goes : (P Q : List SeenGroup → Type 0) → ((a : List SeenGroup) → P a → Q a)
    → (applies : List (List SeenGroup)) → Each P applies → Each Q applies
each_goes P Q f [] h = tt
each_goes P Q f (a ∷ rest) h = (f a h.0, each_goes P Q f rest h.1)

module _ (places : Places) where
  with_first_does : (x g : SeenGroup) (a : List SeenGroup) → DoesRound g x → DoesRound (with_first g a) x
  with_first_does x g [] d = d
  with_first_does x g (h ∷ more) d = first_does x g h d

  joined_does : (x g : SeenGroup) (applies : List (List SeenGroup))
      → DoesRound g x → DoesRound (joined places g applies) x
  joined_does x g [] d = d
  joined_does x g (a ∷ rest) d = by_join (λ h e. joined_does x h rest e) (joins places g a)
    where
      by_join : ((h : SeenGroup) → DoesRound h x → DoesRound (joined places h rest) x) → (b : Bool)
          → DoesRound (cond b (joined places (with_first g a) rest) (joined places g rest)) x
      by_join ih true = ih (with_first g a) (with_first_does x g a d)
      by_join ih false = ih g d

  -- an iApply that joins
  joiner_done : (g : SeenGroup) (a : List SeenGroup) (rest : List (List SeenGroup)) → joins places g a ≡ true
      → DoRounds (joined places (with_first g a) rest ∷ []) a
  joiner_done g [] rest e = absurd cc
  joiner_done g (h ∷ []) rest e = (joined_does h (both g h) rest (second_does h g h (does_itself h)), tt)
  joiner_done g (h ∷ i ∷ more) rest e = absurd cc

  -- each later iApply joins, or is left
  join_or_left : (P : List SeenGroup → Type 0) (g : SeenGroup) (applies : List (List SeenGroup))
      → Each P (unjoined places g applies)
      → Each (λ a. DoRounds (joined places g applies ∷ []) a ⊎ P a) applies
  join_or_left P g [] h = tt
  join_or_left P g (a ∷ rest) h = by_join (λ k. join_or_left P k rest) (joins places g a) refl h
    where
      by_join : ((k : SeenGroup) → Each P (unjoined places k rest)
          → Each (λ c. DoRounds (joined places k rest ∷ []) c ⊎ P c) rest) → (b : Bool) → joins places g a ≡ b
          → Each P (cond b (unjoined places (with_first g a) rest) (a ∷ unjoined places g rest))
          → Each (λ c. DoRounds (cond b (joined places (with_first g a) rest) (joined places g rest) ∷ []) c
          ⊎ P c) (a ∷ rest)
      by_join ih true e left = (inl (joiner_done g a rest e), ih (with_first g a) left)
      by_join ih false e left = (inr left.0, ih g left.1)

  first_done : (a : List SeenGroup) (rest : List (List SeenGroup)) → DoRounds (first_join places a rest) a
  first_done [] rest = tt
  first_done (g ∷ []) rest = (joined_does g g rest (does_itself g), tt)
  first_done (g ∷ h ∷ more) rest = do_themselves (g ∷ h ∷ more)

  after_done : (P : List SeenGroup → Type 0) (a : List SeenGroup) (rest : List (List SeenGroup))
      → Each P (after_first places a rest)
      → Each (λ c. DoRounds (first_join places a rest) c ⊎ P c) rest
  after_done P [] rest h = each_goes P (λ c. DoRounds [] c ⊎ P c) (λ c p. inr p) rest h
  after_done P (g ∷ []) rest h = join_or_left P g rest h
  after_done P (g ∷ i ∷ more) rest h =
      each_goes P (λ c. DoRounds (g ∷ i ∷ more) c ⊎ P c) (λ c p. inr p) rest h

  joins_do : (n : ℕ) (applies : List (List SeenGroup)) → length applies ≤ n
      → Each (OneDoes (joins_upto places n applies)) applies
  joins_do n [] h = tt
  joins_do zero (a ∷ rest) h = absurd (omega (arith, h))
  joins_do (suc n) (a ∷ rest) h =
      let few = after_few places a rest in
      let ih = joins_do n (after_first places a rest) (omega (arith, h, few)) in (
        inl (first_done a rest),
        after_done (OneDoes (joins_upto places n (after_first places a rest))) a rest ih,
      )

  pub each_is_joined : (applies : List (List SeenGroup)) → Each (OneDoes (all_joins places applies)) applies
  each_is_joined applies = joins_do (length applies) applies (omega arith)
