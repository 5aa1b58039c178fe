-- Joins that come one after the other are those that iApplys are put into.
use Rattle.std.proofs.Common.{◌≡◌, ◌≢◌, inl, inr, ◌==◌, ◌<◌, ◌≤◌, ℕ, zero, suc, Bool, true, false, cond, List}
use Rattle.std.proofs.Common.{get_or, [], ◌∷◌, ◌++◌, length, refl, sym, ap, ◌∙◌, arith}
use Rattle.std.specs.Prelude.{Vec, not, ◌&&◌, ◌||◌}
use Rattle.std.specs.declared.alloc.Global.{Global}
use Rattle.std.proofs.Math.ListN.{set}
use Rattle.std.proofs.lemmas.List.{get_or-map, length-map, map-append, map-set}
use Rattle.std.proofs.lemmas.Bool.Decides.{eqb_tells}
use Rattle.net_graph.specs.SeenSteps.{SeenGroup}
use Rattle.net_graph.specs.declared.step.Group.{Group}
use Rattle.pdl_targets.specs.Rounds.{Places}
use Rattle.pdl_targets.specs.SeenRounds.{seen_groups}
use Rattle.merge_order.specs.Merge.{all_joins, after_first, both, can_join, first_join, joined, joins_upto}
use Rattle.merge_order.specs.Merge.{unjoined}
use Rattle.merge_order.specs.Insertion.{is_closed, join_at, no_group, open_round, put_all, put_at, put_round}
use Rattle.merge_order.specs.Insertion.{takes, with_round}
use Rattle.merge_order.specs.SeenJoins.{seen_joins}
use Rattle.merge_order.proofs.Turning.{after_few}

module _ (places : Places) where
  -- a join of one round takes all that can join it
  put_joined : (g : SeenGroup) (joins applies : List (List SeenGroup))
      → put_all places ((g ∷ []) ∷ joins) applies
      ≡ (joined places g applies ∷ []) ∷ put_all places joins (unjoined places g applies)
  put_joined g joins [] = refl
  put_joined g joins ([] ∷ applies) = put_joined g (joins ++ [] ∷ []) applies
  put_joined g joins ((h ∷ []) ∷ applies) = by_join (λ k js. put_joined k js applies) (can_join places g h)
    where
      by_join : ((k : SeenGroup) (js : List (List SeenGroup)) → put_all places ((k ∷ []) ∷ js) applies
          ≡ (joined places k applies ∷ []) ∷ put_all places js (unjoined places k applies))
          → (b : Bool) → put_all places
          (cond b ((both g h ∷ []) ∷ joins) ((g ∷ []) ∷ put_round places h joins)) applies
          ≡ (cond b (joined places (both g h) applies) (joined places g applies) ∷ [])
          ∷ put_all places joins
          (cond b (unjoined places (both g h) applies) ((h ∷ []) ∷ unjoined places g applies))
      by_join ih true = ih (both g h) joins
      by_join ih false = ih g (put_round places h joins)
  put_joined g joins ((h ∷ i ∷ more) ∷ applies) = put_joined g (joins ++ (h ∷ i ∷ more) ∷ []) applies

  -- a join of no round takes none
  put_none : (joins applies : List (List SeenGroup))
      → put_all places ([] ∷ joins) applies ≡ [] ∷ put_all places joins applies
  put_none joins [] = refl
  put_none joins ([] ∷ applies) = put_none (joins ++ [] ∷ []) applies
  put_none joins ((k ∷ []) ∷ applies) = put_none (put_round places k joins) applies
  put_none joins ((k ∷ l ∷ most) ∷ applies) = put_none (joins ++ (k ∷ l ∷ most) ∷ []) applies

  -- nor does one of more rounds than one
  put_several : (g h : SeenGroup) (more : List SeenGroup) (joins applies : List (List SeenGroup))
      → put_all places ((g ∷ h ∷ more) ∷ joins) applies ≡ (g ∷ h ∷ more) ∷ put_all places joins applies
  put_several g h more joins [] = refl
  put_several g h more joins ([] ∷ applies) = put_several g h more (joins ++ [] ∷ []) applies
  put_several g h more joins ((k ∷ []) ∷ applies) = put_several g h more (put_round places k joins) applies
  put_several g h more joins ((k ∷ l ∷ most) ∷ applies) =
      put_several g h more (joins ++ (k ∷ l ∷ most) ∷ []) applies

  put_first : (a : List SeenGroup) (applies : List (List SeenGroup))
      → put_all places [] (a ∷ applies)
      ≡ first_join places a applies ∷ put_all places [] (after_first places a applies)
  put_first [] applies = put_none [] applies
  put_first (g ∷ []) applies = put_joined g [] applies
  put_first (g ∷ h ∷ more) applies = put_several g h more [] applies

  put_upto : (n : ℕ) (applies : List (List SeenGroup)) → length applies ≤ n
      → put_all places [] applies ≡ joins_upto places n applies
  put_upto zero [] few = refl
  put_upto zero (a ∷ applies) few = absurd (omega (arith, few))
  put_upto (suc n) [] few = refl
  put_upto (suc n) (a ∷ applies) few =
      let fewer = after_few places a applies in
      put_first a applies ∙ ap (λ js. first_join places a applies ∷ js)
      (put_upto n (after_first places a applies) (omega (arith, few, fewer)))

  pub put_is : (applies : List (List SeenGroup)) → put_all places [] applies ≡ all_joins places applies
  put_is applies = put_upto (length applies) applies (omega arith)

  -- the join that a round goes into is the first that can take it
  pub put_there : (h : SeenGroup) (joins : List (List SeenGroup)) (p : ℕ) → p ≤ length joins
      → ((k : ℕ) → k < p → takes places (join_at joins k) h ≡ false)
      → (p < length joins → takes places (join_at joins p) h ≡ true)
      → put_at p h joins ≡ put_round places h joins
  put_there h [] p within before at = refl
  put_there h (join ∷ joins) zero within before at = chosen (takes places join h) (at (omega arith))
    where
      chosen : (b : Bool) → b ≡ true → put_at zero h (join ∷ joins)
          ≡ cond b (put_at zero h (join ∷ joins)) (join ∷ put_round places h joins)
      chosen true e = refl
      chosen false e = absurd cc
  put_there h (join ∷ joins) (suc p) within before at =
      passed (takes places join h) (before zero (omega arith))
      ∙ ap (λ js. cond (takes places join h) (put_at zero h (join ∷ joins)) (join ∷ js))
      (put_there h joins p (omega (arith, within))
      (λ k below. before (suc k) (omega (arith, below))) (λ below. at (omega (arith, below))))
    where
      passed : (b : Bool) → b ≡ false
          → join ∷ put_at p h joins ≡ cond b (put_at zero h (join ∷ joins)) (join ∷ put_at p h joins)
      passed true e = absurd cc
      passed false e = refl

-- ---- joins by number

-- the join that a round goes into
put_same : (h : SeenGroup) (joins : List (List SeenGroup)) (p : ℕ) → p ≤ length joins
    → join_at (put_at p h joins) p ≡ with_round (join_at joins p) h
put_same h [] zero within = refl
put_same h [] (suc p) within = absurd (omega (arith, within))
put_same h (join ∷ joins) zero within = refl
put_same h (join ∷ joins) (suc p) within = put_same h joins p (omega (arith, within))

-- the others stay
put_other : (h : SeenGroup) (joins : List (List SeenGroup)) (p k : ℕ) → p ≤ length joins → k ≢ p
    → join_at (put_at p h joins) k ≡ join_at joins k
put_other h [] zero zero within away = absurd (away refl)
put_other h [] zero (suc k) within away = refl
put_other h [] (suc p) k within away = absurd (omega (arith, within))
put_other h (join ∷ joins) zero zero within away = absurd (away refl)
put_other h (join ∷ joins) zero (suc k) within away = refl
put_other h (join ∷ joins) (suc p) zero within away = refl
put_other h (join ∷ joins) (suc p) (suc k) within away =
    put_other h joins p k (omega (arith, within)) (λ e. away (ap suc e))

-- the round that others may join
pub put_open : (h : SeenGroup) (joins : List (List SeenGroup)) (p k : ℕ) → p ≤ length joins
    → open_round (join_at (put_at p h joins) k)
    ≡ cond (k == p) (both (open_round (join_at joins k)) h) (open_round (join_at joins k))
put_open h joins p k within =
    elim (eqb_tells k p) [
      | inl same ↦
          ap (λ n. open_round (join_at (put_at p h joins) n)) same.1
          ∙ ap open_round (put_same h joins p within)
          ∙ ap (λ n. both (open_round (join_at joins n)) h) (sym same.1)
          ∙ ap (λ t. cond t (both (open_round (join_at joins k)) h) (open_round (join_at joins k)))
          (sym same.0)
      | inr apart ↦
          ap open_round (put_other h joins p k within apart.1)
          ∙ ap (λ t. cond t (both (open_round (join_at joins k)) h) (open_round (join_at joins k)))
          (sym apart.0)
    ]

-- an open join stays open, and a closed one closed
pub put_closed : (h : SeenGroup) (joins : List (List SeenGroup)) (p k : ℕ)
    → p ≤ length joins → is_closed (join_at joins p) ≡ false
    → is_closed (join_at (put_at p h joins) k) ≡ is_closed (join_at joins k)
put_closed h joins p k within open_there =
    elim (eqb_tells k p) [
      | inl same ↦
          ap (λ n. is_closed (join_at (put_at p h joins) n)) same.1
          ∙ ap is_closed (put_same h joins p within)
          ∙ sym open_there
          ∙ ap (λ n. is_closed (join_at joins n)) (sym same.1)
      | inr apart ↦ ap is_closed (put_other h joins p k within apart.1)
    ]

-- one join more
more_same : (joins : List (List SeenGroup)) (rounds : List SeenGroup)
    → join_at (joins ++ rounds ∷ []) (length joins) ≡ rounds
more_same [] rounds = refl
more_same (join ∷ joins) rounds = more_same joins rounds

more_other : (joins : List (List SeenGroup)) (rounds : List SeenGroup) (k : ℕ) → k ≢ length joins
    → join_at (joins ++ rounds ∷ []) k ≡ join_at joins k
more_other [] rounds zero away = absurd (away refl)
more_other [] rounds (suc k) away = refl
more_other (join ∷ joins) rounds zero away = refl
more_other (join ∷ joins) rounds (suc k) away = more_other joins rounds k (λ e. away (ap suc e))

-- after the joins
none_there : (joins : List (List SeenGroup)) → join_at joins (length joins) ≡ no_group ∷ []
none_there [] = refl
none_there (join ∷ joins) = none_there joins

-- no round, or more than one, leaves none that others may join
none_open : (rounds : List SeenGroup) → is_closed rounds ≡ true → open_round rounds ≡ no_group
none_open [] shut = refl
none_open (g ∷ []) shut = absurd cc
none_open (g ∷ h ∷ more) shut = refl

module _ (joins : List (List SeenGroup)) (rounds : List SeenGroup) (shut : is_closed rounds ≡ true) where
  pub more_open : (k : ℕ) → open_round (join_at (joins ++ rounds ∷ []) k) ≡ open_round (join_at joins k)
  more_open k =
      elim (eqb_tells k (length joins)) [
        | inl same ↦
            ap (λ n. open_round (join_at (joins ++ rounds ∷ []) n)) same.1
            ∙ ap open_round (more_same joins rounds)
            ∙ none_open rounds shut
            ∙ sym (ap open_round (none_there joins))
            ∙ ap (λ n. open_round (join_at joins n)) (sym same.1)
        | inr apart ↦ ap open_round (more_other joins rounds k apart.1)
      ]

  pub more_closed : (k : ℕ)
      → is_closed (join_at (joins ++ rounds ∷ []) k) ≡ (k == length joins || is_closed (join_at joins k))
  more_closed k =
      elim (eqb_tells k (length joins)) [
        | inl same ↦
            ap (λ n. is_closed (join_at (joins ++ rounds ∷ []) n)) same.1
            ∙ ap is_closed (more_same joins rounds)
            ∙ shut
            ∙ ap (λ t. t || is_closed (join_at joins k)) (sym same.0)
        | inr apart ↦ ap is_closed (more_other joins rounds k apart.1)
            ∙ ap (λ t. t || is_closed (join_at joins k)) (sym apart.0)
      ]

-- the join that a round goes into isn't closed
pub open_there : (places : Places) (h : SeenGroup) (joins : List (List SeenGroup)) (p : ℕ) → p ≤ length joins
    → (p < length joins → takes places (join_at joins p) h ≡ true)
    → is_closed (join_at joins p) ≡ false
open_there places h joins p within at =
    elim (eqb_tells p (length joins)) [
      | inl same ↦ ap (λ n. is_closed (join_at joins n)) same.1 ∙ ap is_closed (none_there joins)
      | inr apart ↦ taken (is_closed (join_at joins p))
          (can_join places (open_round (join_at joins p)) h) (at (below apart.1))
    ]
  where
    below : p ≢ length joins → p < length joins
    below away = omega arith

    taken : (closed can : Bool) → (not closed && can) ≡ true → closed ≡ false
    taken true can e = absurd cc
    taken false can e = refl

-- a round goes into a join that is there
put_set : (h : SeenGroup) (joins : List (List SeenGroup)) (p : ℕ) → p < length joins
    → put_at p h joins ≡ set joins p (with_round (join_at joins p) h)
put_set h [] p within = absurd (omega (arith, within))
put_set h (join ∷ joins) zero within = refl
put_set h (join ∷ joins) (suc p) within = ap (λ js. join ∷ js) (put_set h joins p (omega (arith, within)))

-- or is one after
put_after : (h : SeenGroup) (joins : List (List SeenGroup)) (p : ℕ) → length joins ≤ p
    → put_at p h joins ≡ joins ++ (h ∷ []) ∷ []
put_after h [] p past = refl
put_after h (join ∷ joins) zero past = absurd (omega (arith, past))
put_after h (join ∷ joins) (suc p) past = ap (λ js. join ∷ js) (put_after h joins p (omega (arith, past)))

-- ---- joins in memory

-- a join that is written
pub written_join : (items : List (Vec Group Global)) (p : ℕ) (join new : Vec Group Global)
    (old now : List Group) (h : SeenGroup) → p < length items → join ≡ get_or items p join
    → old ≡ join.items → new.items ≡ now
    → (is_closed (seen_groups old) ≡ false → seen_groups now ≡ with_round (seen_groups old) h)
    → is_closed (join_at (seen_joins items) p) ≡ false
    → seen_joins (set items p new) ≡ put_at p h (seen_joins items)
written_join items p join new old now h within is old_is now_is put open_join =
    let rounds = λ (j : Vec Group Global). seen_groups j.items in
    let there : seen_groups old ≡ join_at (seen_joins items) p =
    ap seen_groups old_is ∙ ap rounds is ∙ sym (get_or-map rounds items p join (no_group ∷ []) within) in
    let len = length-map items rounds in
    map-set rounds items p new
    ∙ ap (λ r. set (seen_joins items) p r)
    (ap seen_groups now_is ∙ put (ap is_closed there ∙ open_join) ∙ ap (λ j. with_round j h) there)
    ∙ sym (put_set h (seen_joins items) p (omega (arith, within, len)))

-- a join that is pushed
pub pushed_join : (items new : List (Vec Group Global)) (p : ℕ) (join : Vec Group Global) (h : SeenGroup)
    → length items ≤ p → new ≡ items ++ join ∷ []
    → seen_groups join.items ≡ h ∷ [] → seen_joins new ≡ put_at p h (seen_joins items)
pushed_join items new p join h past is one =
    let rounds = λ (j : Vec Group Global). seen_groups j.items in
    let len = length-map items rounds in
    ap seen_joins is
    ∙ map-append rounds items (join ∷ [])
    ∙ ap (λ r. seen_joins items ++ r ∷ []) one
    ∙ sym (put_after h (seen_joins items) p (omega (arith, past, len)))
