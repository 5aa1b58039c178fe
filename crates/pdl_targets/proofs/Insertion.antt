-- Rounds that are made in one pass are those that are made one after the other.
use Rattle.std.proofs.Common.{◌≡◌, ℕ, zero, suc, ◌≤◌, Bool, true, false, cond, List, [], ◌∷◌, ◌++◌, length}
use Rattle.std.proofs.Common.{refl, ap, ◌∙◌, append_assoc, arith}
use Rattle.pdl_targets.specs.Rounds.{Places, clashes, left_over, round, rounds, rounds_upto}
use Rattle.pdl_targets.specs.Insertion.{put_in, put_all}
use Rattle.pdl_targets.proofs.Apart.{fewer}

append_none : (rs : List ℕ) → rs ≡ rs ++ []
append_none [] = refl
append_none (r ∷ rs) = ap (λ (l : List ℕ). r ∷ l) (append_none rs)

module _ (places : Places) where
  -- the first round takes what it can, and leaves the others to the rounds after
  first_takes : (q : List ℕ) (rss : List (List ℕ)) (rs : List ℕ)
      → put_all places (q ∷ rss) rs ≡ (q ++ round places q rs) ∷ put_all places rss (left_over places q rs)
  first_takes q rss [] = ap (λ l. l ∷ rss) (append_none q)
  first_takes q rss (r ∷ rs) = by_clash (λ p qss. first_takes p qss rs) (clashes places q r)
    where
      by_clash : ((p : List ℕ) (qss : List (List ℕ)) → put_all places (p ∷ qss) rs
          ≡ (p ++ round places p rs) ∷ put_all places qss (left_over places p rs)) → (b : Bool)
          → put_all places (cond b (q ∷ put_in places rss r) ((q ++ r ∷ []) ∷ rss)) rs
          ≡ (q ++ cond b (round places q rs) (r ∷ round places (q ++ r ∷ []) rs))
          ∷ put_all places rss (cond b (r ∷ left_over places q rs) (left_over places (q ++ r ∷ []) rs))
      by_clash ih true = ih q (put_in places rss r)
      by_clash ih false =
          ih (q ++ r ∷ []) rss
          ∙ ap (λ l. l ∷ put_all places rss (left_over places (q ++ r ∷ []) rs))
          (append_assoc q (r ∷ []) (round places (q ++ r ∷ []) rs))

  put_upto : (n : ℕ) (rs : List ℕ) → length rs ≤ n → put_all places [] rs ≡ rounds_upto places n rs
  put_upto zero [] h = refl
  put_upto zero (r ∷ rs) h = absurd (omega (arith, h))
  put_upto (suc n) [] h = refl
  put_upto (suc n) (r ∷ rs) h =
      first_takes (r ∷ []) [] rs
      ∙ ap (λ rss. (r ∷ round places (r ∷ []) rs) ∷ rss)
      (put_upto n (left_over places (r ∷ []) rs) (omega (arith, fewer places (r ∷ []) rs, h)))

  pub put_all_is : (rs : List ℕ) → put_all places [] rs ≡ rounds places rs
  put_all_is rs = put_upto (length rs) rs (omega arith)

  -- one register more, put last
  pub put_more : (rss : List (List ℕ)) (rs : List ℕ) (r : ℕ)
      → put_all places rss (rs ++ r ∷ []) ≡ put_in places (put_all places rss rs) r
  put_more rss [] r = refl
  put_more rss (q ∷ rs) r = put_more (put_in places rss q) rs r
