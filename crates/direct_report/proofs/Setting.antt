-- Marks that are set and taken away one by one, as loops do.
use Rattle.std.proofs.Common.{◌≡◌, ◌<◌, ◌≤◌, ◌+◌, ℕ, zero, suc, Bool, true, false, cond, List, [], ◌∷◌, ◌++◌}
use Rattle.std.proofs.Common.{length, take, drop, get_or, refl, sym, ap, ◌∙◌, subst, arith, append-nil}
use Rattle.std.specs.Prelude.{◌||◌, map, filter, Contains}
use Rattle.std.specs.List.{list_any}
use Rattle.std.proofs.lemmas.List.{at_drop_more, take_more, length-take-le}
use Rattle.std.proofs.lemmas.List.Elements.{filter-append}
use Rattle.ij_bits.specs.Different.{AreDifferent}
use Rattle.net_graph.specs.declared.net.BitId.{BitId}
use Rattle.net_graph.specs.declared.step.ReadBit.{ReadBit}
use Rattle.net_graph.proofs.Places.{place_is}
use Rattle.net_graph.specs.Marks.{Marks, HasMark, mark_at, set_mark}
use Rattle.net_graph.proofs.Setting.{set_is_there, others_stay, bits_stay}
use Rattle.direct_report.specs.Marked.{marked, IsMarked, AreMarked, AreBlank}
use Rattle.direct_report.proofs.Finding.{at, bits_in, none_at, new_at, still_marked, last_marked}
use Rattle.direct_report.proofs.Finding.{mark_is_none, none_passes}

-- ---- setting

-- one read more is marked
one_more : (xs : List ReadBit) (r : ReadBit) (marks after : Marks) (n : ℕ) → n ≡ suc (length xs)
    → ((b : BitId) → b ≡ r.bit → filter (at b) xs ≡ []) → HasMark marks r.bit → after ≡ set_mark marks r.bit n
    → AreMarked xs marks → AreMarked (xs ++ r ∷ []) after
one_more xs r marks after n at_end new has is m b = by_place (at b r) refl
  where
    parts : (p : Bool) → at b r ≡ p → filter (at b) (xs ++ r ∷ []) ≡ filter (at b) xs ++ cond p (r ∷ []) []
    parts p e = filter-append (at b) xs (r ∷ []) ∙ ap (λ (q : Bool). filter (at b) xs ++ cond q (r ∷ []) []) e

    by_place : (p : Bool) → at b r ≡ p → IsMarked (xs ++ r ∷ []) b (mark_at after b)
    by_place true e =
        let here : b ≡ r.bit = place_is b r.bit e in
        let mark : mark_at after b ≡ suc (length xs) =
        ap (λ (x : Marks). mark_at x b) is ∙ ap (λ (x : BitId). mark_at (set_mark marks r.bit n) x) here
        ∙ set_is_there marks r.bit n has ∙ at_end in
        record {
          within = omega (arith, mark, length_more xs);
          there = parts true e ∙ ap (λ (ys : List ReadBit). ys ++ r ∷ []) (new b here)
              ∙ sym (last_marked xs r) ∙ sym (ap (marked (xs ++ r ∷ [])) mark);
        }
      where
        length_more : (ys : List ReadBit) → length (ys ++ r ∷ []) ≡ suc (length ys)
        length_more [] = refl
        length_more (y ∷ ys) = ap suc (length_more ys)
    by_place false e =
        let same : mark_at after b ≡ mark_at marks b =
        ap (λ (x : Marks). mark_at x b) is ∙ others_stay marks r.bit b n e in
        let was = m b in
        record {
          within = omega (arith, same, was.within, length_more xs);
          there = parts false e ∙ append-nil (filter (at b) xs) ∙ was.there ∙ sym
              (still_marked xs (r ∷ []) (mark_at marks b) was.within) ∙ sym (ap (marked (xs ++ r ∷ [])) same);
        }
      where
        length_more : (ys : List ReadBit) → length ys ≤ length (ys ++ r ∷ [])
        length_more [] = omega arith
        length_more (y ∷ ys) = omega (arith, length_more ys)

pub next_marked : (reads : List ReadBit) (i : ℕ) (d : ReadBit) (marks after : Marks) → i < length reads
    → AreDifferent (map (λ r. r.bit) reads) → HasMark marks (get_or reads i d).bit
    → after ≡ set_mark marks (get_or reads i d).bit (i + 1)
    → AreMarked (take i reads) marks → AreMarked (take (i + 1) reads) after
next_marked reads i d marks after l once has is m =
    let r = get_or reads i d in
    let wide : length (take i reads) ≡ i = length-take-le i reads (omega (arith, l)) in
    let place : i + 1 ≡ suc (length (take i reads)) = omega (arith, wide) in
    subst (λ (xs : List ReadBit). AreMarked xs after) (sym (take_more reads i d l))
    (one_more (take i reads) r marks after (i + 1) place (λ b e. none_at (take i reads) b (subst
    (λ (x : BitId). Contains (bits_in (take i reads)) x → ⊥) (sym e) (new_at reads i d once l))) has is m)

-- ---- taking away

-- of the bits that are still to be read none else has a mark
abbrev pub AreLeft : List ReadBit → Marks → Type 0
AreLeft left marks = (b : BitId) → list_any (at b) left ≡ false → mark_at marks b ≡ 0

pub start_left : (reads : List ReadBit) (marks : Marks) → AreMarked reads marks → AreLeft reads marks
start_left reads marks m b e =
    let was = m b in
    mark_is_none reads (mark_at marks b) was.within (sym was.there ∙ none_passes (at b) reads e)

one_less : (r : ReadBit) (rs : List ReadBit) (marks after : Marks) → HasMark marks r.bit
    → after ≡ set_mark marks r.bit 0 → AreLeft (r ∷ rs) marks → AreLeft rs after
one_less r rs marks after has is left b e = by_place (at b r) refl
  where
    by_place : (p : Bool) → at b r ≡ p → mark_at after b ≡ 0
    by_place true f = ap (λ (x : Marks). mark_at x b) is
        ∙ ap (λ (x : BitId). mark_at (set_mark marks r.bit 0) x) (place_is b r.bit f)
        ∙ set_is_there marks r.bit 0 has
    by_place false f = ap (λ (x : Marks). mark_at x b) is ∙ others_stay marks r.bit b 0 f
        ∙ left b (ap (λ (q : Bool). q || list_any (at b) rs) f ∙ e)

pub next_left : (reads : List ReadBit) (i : ℕ) (d : ReadBit) (marks after : Marks) → i < length reads
    → HasMark marks (get_or reads i d).bit → after ≡ set_mark marks (get_or reads i d).bit 0
    → AreLeft (drop i reads) marks → AreLeft (drop (i + 1) reads) after
next_left reads i d marks after l has is left =
    one_less (get_or reads i d) (drop (i + 1) reads) marks after has is
    (λ b e. left b (at_drop_more (list_any (at b)) reads i d l ∙ e))

pub none_left : (reads : List ReadBit) (i : ℕ) (marks : Marks) → length reads ≤ i
    → AreLeft (drop i reads) marks → AreBlank marks
none_left reads i marks l left b = left b (ap (list_any (at b)) (gone reads i l))
  where
    gone : (xs : List ReadBit) (j : ℕ) → length xs ≤ j → drop j xs ≡ []
    gone [] zero k = refl
    gone [] (suc j) k = refl
    gone (x ∷ xs) zero k = absurd (omega (arith, k))
    gone (x ∷ xs) (suc j) k = gone xs j (omega (arith, k))

-- ---- bits that have a mark keep one

pub mark_kept : (marks after : Marks) (b c : BitId) (n : ℕ)
    → after ≡ set_mark marks b n → HasMark marks c → HasMark after c
mark_kept marks after b c n is h = subst (λ (x : Marks). HasMark x c) (sym is) (bits_stay marks b c n h)
