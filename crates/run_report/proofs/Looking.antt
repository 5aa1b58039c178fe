-- Reads that are looked up by scan and position.
use Rattle.std.proofs.Common.{◌≡◌, ◌≢◌, ◌⊎◌, inl, inr, ◌<◌, ◌≤◌, ◌+◌, ℕ, suc, ◌==◌, Bool, true, false, ◌&&◌}
use Rattle.std.proofs.Common.{cond, List, [], ◌∷◌, ◌++◌, length, get_or, drop, Option, Some, None, refl, sym}
use Rattle.std.proofs.Common.{ap, ◌∙◌, arith, append_assoc, append-nil}
use Rattle.std.specs.Prelude.{All, map}
use Rattle.std.proofs.lemmas.List.{at_drop_all}
use Rattle.std.proofs.Math.Seq.{drop-cons}
use Rattle.std.proofs.lemmas.Bool.Decides.{eqb_tells}
use Rattle.std.proofs.lemmas.List.Elements.{All-head, All-tail}
use Rattle.net_graph.specs.declared.step.ReadBit.{ReadBit}
use Rattle.run_report.specs.Places.{read_at}
use Rattle.run_report.specs.declared.place.ReadPlace.{ReadPlace}

abbrev is_some_read : Option ReadBit → ℕ
is_some_read None = 0
is_some_read (Some r) = 1

no_read : (r : ReadBit) → Some r ≡ None → ⊥
no_read r e = let z : 1 ≡ 0 = ap is_some_read e in omega (arith, z)

abbrev is_there : ReadPlace → ℕ → ℕ → Bool
is_there p scan bit = (p.scan == scan) && (p.bit == bit)

skip_test : (t : Bool) (r : ReadBit) (here both there : Option ReadBit) → (here ≡ None → both ≡ there)
    → cond t (Some r) here ≡ None → cond t (Some r) both ≡ there
skip_test true r here both there f z = absurd (no_read r z)
skip_test false r here both there f z = f z

-- where the first places have none, it is looked up among the others
pub none_front : (xs ys : List ReadPlace) (scan bit : ℕ) → read_at xs scan bit ≡ None
    → read_at (xs ++ ys) scan bit ≡ read_at ys scan bit
none_front [] ys scan bit e = refl
none_front (x ∷ xs) ys scan bit e =
    skip_test (is_there x scan bit) x.read (read_at xs scan bit) (read_at (xs ++ ys) scan bit)
    (read_at ys scan bit) (none_front xs ys scan bit) e

-- and where the others have none, among the first
pub none_back : (xs ys : List ReadPlace) (scan bit : ℕ) → read_at ys scan bit ≡ None
    → read_at (xs ++ ys) scan bit ≡ read_at xs scan bit
none_back [] ys scan bit e = e
none_back (x ∷ xs) ys scan bit e = ap (cond (is_there x scan bit) (Some x.read)) (none_back xs ys scan bit e)

other_scan : (x : ReadPlace) (scan bit : ℕ) → x.scan ≢ scan → is_there x scan bit ≡ false
other_scan x scan bit n = by_scan (eqb_tells x.scan scan)
  where
    by_scan : (((x.scan == scan) ≡ true) × (x.scan ≡ scan)) ⊎ (((x.scan == scan) ≡ false) × (x.scan ≢ scan))
        → is_there x scan bit ≡ false
    by_scan (inl e) = absurd (n e.1)
    by_scan (inr e) = ap (λ (t : Bool). t && (x.bit == bit)) e.0

-- places of other scans have none
pub none_of : (xs : List ReadPlace) (scan bit : ℕ) → All (λ p. p.scan ≢ scan) xs → read_at xs scan bit ≡ None
none_of [] scan bit a = refl
none_of (x ∷ xs) scan bit a =
    ap (λ (t : Bool). cond t (Some x.read) (read_at xs scan bit))
    (other_scan x scan bit (All-head (λ p. p.scan ≢ scan) x xs a))
    ∙ none_of xs scan bit (All-tail (λ p. p.scan ≢ scan) x xs a)

-- ---- places one after the other

pub at_next : (ps : List ReadPlace) (i : ℕ) (d : ReadPlace) (scan bit : ℕ) → i < length ps
    → read_at (drop i ps) scan bit ≡ cond (is_there (get_or ps i d) scan bit)
    (Some (get_or ps i d).read) (read_at (drop (i + 1) ps) scan bit)
at_next ps i d scan bit l =
    let next : suc i ≡ i + 1 = omega arith in
    ap (λ qs. read_at qs scan bit) (drop-cons ps i d l)
    ∙ ap (λ (k : ℕ). cond (is_there (get_or ps i d) scan bit)
    (Some (get_or ps i d).read) (read_at (drop k ps) scan bit)) next

-- ---- a list that grows by what is made of another

module _ {A B : Type 0} (f : A → B) (xs : List A) (now all : List B) (i : ℕ)
    (is : now ++ map f (drop i xs) ≡ all) where
  pub one_more : (d : A) (y : B) (next : List B) → i < length xs → y ≡ f (get_or xs i d)
      → next ≡ now ++ y ∷ [] → next ++ map f (drop (i + 1) xs) ≡ all
  one_more d y next l made pushed =
      let n : suc i ≡ i + 1 = omega arith in
      let rest = map f (drop (i + 1) xs) in
      let x = get_or xs i d in
      let front : drop i xs ≡ x ∷ drop (i + 1) xs = drop-cons xs i d l ∙ ap (λ k. x ∷ drop k xs) n in
      ap (λ ys. ys ++ rest) (pushed ∙ ap (λ z. now ++ z ∷ []) made) ∙ append_assoc now (f x ∷ []) rest
      ∙ sym (ap (λ zs. now ++ map f zs) front) ∙ is

  pub none_more : length xs ≤ i → now ≡ all
  none_more l = sym (append-nil now) ∙ sym (at_drop_all (λ zs. now ++ map f zs) xs i l) ∙ is
