-- The bits that select, marked one after the other.
use Rattle.std.proofs.Common.{◌≡◌, ℕ, suc, ◌+◌, ◌<◌, ◌==◌, Bool, true, false, List, [], ◌∷◌, ◌++◌, length}
use Rattle.std.proofs.Common.{get_or, drop, refl, sym, ap, ◌∙◌, arith}
use Rattle.std.specs.Prelude.{All, not, ◌||◌, flat_map}
use Rattle.std.specs.List.{list_any}
use Rattle.std.proofs.Math.Seq.{drop-cons}
use Rattle.net_graph.specs.declared.net.BitId.{BitId}
use Rattle.net_graph.specs.declared.net.Mux.{Mux}
use Rattle.net_graph.specs.declared.net.Net.{Net}
use Rattle.net_graph.specs.Named.{IsBitOf}
use Rattle.net_graph.specs.Path.{same_place}
use Rattle.net_graph.proofs.Places.{place_is}
use Rattle.net_graph.specs.MarkLaws.{EachBitHasOne, OthersStay, SetIsThere, ZerosAreZero}
use Rattle.net_graph.specs.Marks.{HasMark, Marks, mark_at, set_mark, zero_marks}
use Rattle.net_graph.specs.MarkedSelects.{is_marked}

pub marked_one : SetIsThere → OthersStay → (marks now : Marks) (bit b : BitId) → HasMark marks bit
    → now ≡ set_mark marks bit 1 → is_marked now b ≡ (same_place b bit || is_marked marks b)
marked_one there stay marks now bit b h n = ap (λ m. is_marked m b) n ∙ by_same (same_place b bit) refl
  where
    by_same : (t : Bool) → same_place b bit ≡ t
        → is_marked (set_mark marks bit 1) b ≡ (t || is_marked marks b)
    by_same true e = ap (λ k. not (k == 0))
        (ap (mark_at (set_mark marks bit 1)) (place_is b bit e) ∙ there marks bit 1 h)
    by_same false e = ap (λ k. not (k == 0)) (stay marks bit b 1 e)

swapped : (p q r : Bool) → ((p || q) || r) ≡ (q || (p || r))
swapped true true r = refl
swapped true false r = refl
swapped false true r = refl
swapped false false r = refl

-- one bit more of those to mark
pub one_bit_more : (bit b : BitId) (rest : List BitId) (before now all : Bool)
    → (list_any (same_place b) (bit ∷ rest) || before) ≡ all → now ≡ (same_place b bit || before)
    → (list_any (same_place b) rest || now) ≡ all
one_bit_more bit b rest before now all e n = ap (λ t. list_any (same_place b) rest || t) n
    ∙ sym (swapped (same_place b bit) (list_any (same_place b) rest) before) ∙ e

any_both : (p : BitId → Bool) (xs ys : List BitId) → list_any p (xs ++ ys) ≡ (list_any p xs || list_any p ys)
any_both p [] ys = refl
any_both p (x ∷ xs) ys = ap (λ t. p x || t) (any_both p xs ys) ∙ grouped (p x) (list_any p xs) (list_any p ys)
  where
    grouped : (a b c : Bool) → (a || (b || c)) ≡ ((a || b) || c)
    grouped true b c = refl
    grouped false b c = refl

-- one mux more of those whose bits to mark
pub one_mux_more : (bits rest : List BitId) (b : BitId) (before now all : Bool)
    → (list_any (same_place b) (bits ++ rest) || before) ≡ all
    → now ≡ (list_any (same_place b) bits || before) → (list_any (same_place b) rest || now) ≡ all
one_mux_more bits rest b before now all e n =
    ap (λ t. list_any (same_place b) rest || t) n
    ∙ sym (swapped (list_any (same_place b) bits) (list_any (same_place b) rest) before)
    ∙ ap (λ t. t || before) (sym (any_both (same_place b) bits rest)) ∙ e

pub none_marked : ZerosAreZero → (net : Net) (b : BitId) (all : Bool)
    → (all || is_marked (zero_marks net) b) ≡ all
none_marked zeros net b all = ap (λ k. all || not (k == 0)) (zeros net b) ∙ or_none all
  where
    or_none : (a : Bool) → (a || false) ≡ a
    or_none true = refl
    or_none false = refl

pub all_there : EachBitHasOne → (net : Net) (marks : Marks)
    → ((b : BitId) → HasMark (zero_marks net) b → HasMark marks b) → (bits : List BitId)
    → All (IsBitOf net) bits → All (HasMark marks) bits
all_there each net marks stay bits h k d l = stay (get_or bits k d) (each net (get_or bits k d) (h k d l))

-- any bit
abbrev pub first_bit : BitId
first_bit = record { reg = 0; pos = 0 }

pub next_bit : (bits : List BitId) (i : ℕ) → i < length bits
    → drop i bits ≡ get_or bits i first_bit ∷ drop (i + 1) bits
next_bit bits i h = let e : suc i ≡ i + 1 = omega arith in
    drop-cons bits i first_bit h ∙ ap (λ k. get_or bits i first_bit ∷ drop k bits) e

pub next_mux : (muxes : List Mux) (i : ℕ) (mux : Mux) → i < length muxes → mux ≡ get_or muxes i mux
    → flat_map (λ m. m.select.items) (drop i muxes)
    ≡ mux.select.items ++ flat_map (λ m. m.select.items) (drop (i + 1) muxes)
next_mux muxes i mux h is =
    let e : suc i ≡ i + 1 = omega arith in
    ap (flat_map (λ m. m.select.items))
    (drop-cons muxes i mux h ∙ ap (λ y. y ∷ drop (suc i) muxes) (sym is) ∙ ap (λ k. mux ∷ drop k muxes) e)
