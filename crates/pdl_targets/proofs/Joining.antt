-- The first round that a register can join, by the rows that its rounds exclude.
use Rattle.std.proofs.Common.{◌≡◌, ℕ, zero, suc, ◌<◌, ◌≤◌, ◌==◌, Bool, true, false, cond, List, [], ◌∷◌, ◌++◌}
use Rattle.std.proofs.Common.{length, get_or, set, refl, sym, ap, ◌∙◌, subst, append_assoc, arith}
use Rattle.std.specs.Prelude.{◌&&◌, ◌||◌, flat_map}
use Rattle.std.specs.List.{list_any}
use Rattle.std.proofs.lemmas.Bool.{eqb-true, eqb-false}
use Rattle.std.proofs.lemmas.List.Folds.{list_any-append}
use Rattle.ij_bits.specs.Room.{Listed}
use Rattle.net_graph.specs.declared.branch.Branch.{Branch}
use Rattle.pdl_targets.specs.Rounds.{Places, clashes, exclude}
use Rattle.pdl_targets.specs.Insertion.{AreExcluded, put_at, put_in}
use Rattle.pdl_targets.specs.SeenRounds.{seen_rounds}
use Rattle.pdl_targets.proofs.Together.{any_swapped}
use Rattle.std.proofs.Math.Bool.{or_comm}
use Rattle.ij_bits.proofs.Lists.{any_flat, any_same}

-- ---- the first round that a register can join

module _ (places : Places) where
  -- a register clashes with a round that excludes one of the rows around it
  clash_is : (rss : List (List ℕ)) (excluded : Branch → ℕ → Bool) (k r : ℕ) → AreExcluded places rss excluded
      → list_any (λ b. excluded b k) (places r) ≡ clashes places (get_or rss k []) r
  clash_is rss excluded k r h =
      any_same (λ b. excluded b k)
      (λ b. list_any (λ a. exclude a b) (flat_map places (get_or rss k []))) (λ b. h b k) (places r)
      ∙ sym (any_swapped exclude (flat_map places (get_or rss k [])) (places r))
      ∙ any_flat (λ a. list_any (exclude a) (places r)) places (get_or rss k [])

  put_first : (rss : List (List ℕ)) (k r : ℕ) → k ≤ length rss
      → ((j : ℕ) → j < k → clashes places (get_or rss j []) r ≡ true)
      → (k < length rss → clashes places (get_or rss k []) r ≡ false)
      → put_at rss k r ≡ put_in places rss r
  put_first [] k r l before at = refl
  put_first (q ∷ rss) zero r l before at =
      sym (ap (λ b. cond b (q ∷ put_in places rss r) ((q ++ r ∷ []) ∷ rss)) (at (omega arith)))
  put_first (q ∷ rss) (suc k) r l before at =
      ap (λ l. q ∷ l) (put_first rss k r (omega (arith, l))
      (λ j s. before (suc j) (omega (arith, s))) (λ s. at (omega (arith, s))))
      ∙ sym (ap (λ b. cond b (q ∷ put_in places rss r) ((q ++ r ∷ []) ∷ rss)) (before zero (omega arith)))

  pub joins_first : (rss : List (List ℕ)) (excluded : Branch → ℕ → Bool) (place : List Branch) (k r n : ℕ)
      → place ≡ places r → n ≡ length rss → AreExcluded places rss excluded → k ≤ n
      → ((j : ℕ) → j < k → list_any (λ b. excluded b j) place ≡ true)
      → (k < n → list_any (λ b. excluded b k) place ≡ false) → put_at rss k r ≡ put_in places rss r
  joins_first rss excluded place k r n e c h l before at =
      put_first rss k r (omega (arith, l, c))
      (λ j s. sym (clash_is rss excluded j r h)
      ∙ ap (λ p. list_any (λ b. excluded b j) p) (sym e) ∙ before j s)
      (λ s. sym (clash_is rss excluded k r h)
      ∙ ap (λ p. list_any (λ b. excluded b k) p) (sym e) ∙ at (omega (arith, s, c)))

  -- ---- the rows that are excluded with one register more

  at_same : (rss : List (List ℕ)) (k r : ℕ) → k ≤ length rss
      → get_or (put_at rss k r) k [] ≡ get_or rss k [] ++ r ∷ []
  at_same [] zero r l = refl
  at_same [] (suc k) r l = absurd (omega (arith, l))
  at_same (q ∷ rss) zero r l = refl
  at_same (q ∷ rss) (suc k) r l = at_same rss k r (omega (arith, l))

  at_other : (rss : List (List ℕ)) (k r j : ℕ) → k ≤ length rss → (j ≡ k → ⊥)
      → get_or (put_at rss k r) j [] ≡ get_or rss j []
  at_other [] zero r zero l other = absurd (other refl)
  at_other [] zero r (suc j) l other = refl
  at_other [] (suc k) r j l other = absurd (omega (arith, l))
  at_other (q ∷ rss) zero r zero l other = absurd (other refl)
  at_other (q ∷ rss) zero r (suc j) l other = refl
  at_other (q ∷ rss) (suc k) r zero l other = refl
  at_other (q ∷ rss) (suc k) r (suc j) l other = at_other rss k r j (omega (arith, l)) (λ e. other (ap suc e))

  at_round : (rss : List (List ℕ)) (k r j : ℕ) → k ≤ length rss
      → get_or (put_at rss k r) j [] ≡ cond (j == k) (get_or rss j [] ++ r ∷ []) (get_or rss j [])
  at_round rss k r j l = by_test (j == k) refl
    where
      by_test : (t : Bool) → (j == k) ≡ t
          → get_or (put_at rss k r) j [] ≡ cond t (get_or rss j [] ++ r ∷ []) (get_or rss j [])
      by_test true e = subst (λ i. get_or (put_at rss k r) i [] ≡ get_or rss i [] ++ r ∷ [])
          (sym (eqb-true j k e)) (at_same rss k r l)
      by_test false e = at_other rss k r j l (eqb-false j k e)

  flat_more : (rs : List ℕ) (r : ℕ) → flat_map places (rs ++ r ∷ []) ≡ flat_map places rs ++ places r
  flat_more [] r = append_none (places r)
    where
      append_none : (bs : List Branch) → bs ++ [] ≡ bs
      append_none [] = refl
      append_none (b ∷ bs) = ap (λ l. b ∷ l) (append_none bs)
  flat_more (q ∷ rs) r = ap (λ l. places q ++ l) (flat_more rs r)
      ∙ sym (append_assoc (places q) (flat_map places rs) (places r))

  one_round : (rs : List ℕ) (r : ℕ) (b : Branch) (t : Bool)
      → ((t && list_any (λ a. exclude a b) (places r)) || list_any (λ a. exclude a b) (flat_map places rs))
      ≡ list_any (λ a. exclude a b) (flat_map places (cond t (rs ++ r ∷ []) rs))
  one_round rs r b false = refl
  one_round rs r b true =
      or_comm (list_any (λ a. exclude a b) (places r)) (list_any (λ a. exclude a b) (flat_map places rs))
      ∙ sym (list_any-append (λ a. exclude a b) (flat_map places rs) (places r))
      ∙ ap (λ l. list_any (λ a. exclude a b) l) (sym (flat_more rs r))

  pub excludes_more : (rss : List (List ℕ)) (old now : Branch → ℕ → Bool) (place : List Branch) (k r n : ℕ)
      → place ≡ places r → n ≡ length rss → k ≤ n → AreExcluded places rss old
      → ((b : Branch) (j : ℕ) → now b j ≡ ((j == k && list_any (λ a. exclude a b) place) || old b j))
      → AreExcluded places (put_at rss k r) now
  excludes_more rss old now place k r n e c l h more b j =
      more b j
      ∙ ap (λ p. (j == k && list_any (λ a. exclude a b) p) || old b j) e
      ∙ ap (λ t. (j == k && list_any (λ a. exclude a b) (places r)) || t) (h b j)
      ∙ one_round (get_or rss j []) r b (j == k)
      ∙ ap (λ q. list_any (λ a. exclude a b) (flat_map places q))
      (sym (at_round rss k r j (omega (arith, l, c))))

-- ---- the rounds as they are made

pub joined : (rounds : List (Listed ℕ)) (k r : ℕ) (old new : Listed ℕ) → k < length rounds
    → old ≡ get_or rounds k old → new.items ≡ old.items ++ r ∷ []
    → seen_rounds (set rounds k new) ≡ put_at (seen_rounds rounds) k r
joined [] k r old new l o n = absurd (omega (arith, l))
joined (q ∷ qs) zero r old new l o n =
    ap (λ (rs : List ℕ). rs ∷ seen_rounds qs) (n ∙ ap (λ (d : Listed ℕ). d.items ++ r ∷ []) o)
joined (q ∷ qs) (suc k) r old new l o n =
    ap (λ (rss : List (List ℕ)). q.items ∷ rss) (joined qs k r old new (omega (arith, l)) o n)

pub opened : (rounds now : List (Listed ℕ)) (k r : ℕ) (round : Listed ℕ) → length rounds ≤ k
    → round.items ≡ r ∷ [] → now ≡ rounds ++ round ∷ [] → seen_rounds now ≡ put_at (seen_rounds rounds) k r
opened rounds now k r round l e n = ap seen_rounds n ∙ after rounds k l
  where
    after : (qs : List (Listed ℕ)) (k : ℕ) → length qs ≤ k
        → seen_rounds (qs ++ round ∷ []) ≡ put_at (seen_rounds qs) k r
    after [] k l = ap (λ (rs : List ℕ). rs ∷ []) e
    after (q ∷ qs) zero l = absurd (omega (arith, l))
    after (q ∷ qs) (suc k) l = ap (λ (rss : List (List ℕ)). q.items ∷ rss) (after qs k (omega (arith, l)))

pub so_many : (rounds : List (Listed ℕ)) (n : ℕ) → n ≡ length rounds → n ≡ length (seen_rounds rounds)
so_many rounds n e = e ∙ sym (go rounds)
  where
    go : (qs : List (Listed ℕ)) → length (seen_rounds qs) ≡ length qs
    go [] = refl
    go (q ∷ qs) = ap suc (go qs)
