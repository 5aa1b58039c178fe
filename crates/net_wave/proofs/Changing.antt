-- Changes of one variable after the other.
use Rattle.std.proofs.Common.{◌≡◌, ℕ, zero, suc, ◌+◌, ◌<◌, ◌≤◌, Bool, true, false, not, cond, append-nil}
use Rattle.std.proofs.Common.{List, [], ◌∷◌, ◌++◌, length, get_or, set, take, drop, refl, ap, sym, ◌∙◌, arith}
use Rattle.std.proofs.Common.{add-one, append_assoc}
use Rattle.std.specs.List.{flat_map}
use Rattle.std.specs.Prelude.{◌==◌}
use Rattle.std.specs.Str.{bytes_eq}
use Rattle.std.proofs.lemmas.Bool.Decides.{nat_tests}
use Rattle.std.proofs.lemmas.Slice.Eq.{bytes_eq-Decides}
use Rattle.std.proofs.lemmas.List.{get_or-map}
use Rattle.ij_bits.specs.Room.{Listed}
use Rattle.net_wave.specs.Left.{told_of}
use Rattle.net_wave.specs.Changes.{later_at, later_changes}
use Rattle.net_wave.specs.Moments.{Change, change_if, change_text}
use Rattle.net_wave.specs.Vars.{up_to}
use Rattle.net_wave.proofs.PinTexts.{flat_both}

-- one list more is told
pub told_next : (xs : List (Listed ℕ)) (x : Listed ℕ) (now old : List (List ℕ)) (i : ℕ) → i < length now
    → length old ≡ length now → told_of xs ≡ take i now ++ drop i old → x.items ≡ get_or now i []
    → told_of (set xs i x) ≡ take (suc i) now ++ drop (suc i) old
told_next xs x [] old i h same so_far is = absurd (omega arith)
told_next xs x (n ∷ ns) [] i h same so_far is = absurd (omega (arith, same))
told_next [] x (n ∷ ns) (o ∷ os) zero h same so_far is = absurd (cc)
told_next (y ∷ ys) x (n ∷ ns) (o ∷ os) zero h same so_far is =
    let rest : told_of ys ≡ os = cc in
    ap (λ (l : List ℕ). l ∷ told_of ys) is ∙ ap (λ (l : List (List ℕ)). n ∷ l) rest
told_next [] x (n ∷ ns) (o ∷ os) (suc i) h same so_far is = absurd (cc)
told_next (y ∷ ys) x (n ∷ ns) (o ∷ os) (suc i) h same so_far is =
    let first : y.items ≡ n = cc in
    let rest : told_of ys ≡ take i ns ++ drop i os = cc in
    ap (λ (l : List ℕ). l ∷ told_of (set ys i x)) first
    ∙ ap (λ (l : List (List ℕ)). n ∷ l)
    (told_next ys x ns os i (omega (arith, h)) (omega (arith, same)) rest is)

-- what was told at a place that was not come to yet is what was told at the start
still_old : (now old : List (List ℕ)) (i : ℕ) → i < length now → length old ≡ length now
    → get_or (take i now ++ drop i old) i [] ≡ get_or old i []
still_old [] old i h same = absurd (omega arith)
still_old (n ∷ ns) [] i h same = absurd (omega (arith, same))
still_old (n ∷ ns) (o ∷ os) zero h same = refl
still_old (n ∷ ns) (o ∷ os) (suc i) h same = still_old ns os i (omega (arith, h)) (omega (arith, same))

there : (xs : List (Listed ℕ)) (now old : List (List ℕ)) (i : ℕ) → i < length now → length old ≡ length now
    → told_of xs ≡ take i now ++ drop i old → i < length xs
there xs [] old i h same is = absurd (omega arith)
there xs (n ∷ ns) [] i h same is = absurd (omega (arith, same))
there [] (n ∷ ns) (o ∷ os) zero h same is = absurd (cc)
there (y ∷ ys) (n ∷ ns) (o ∷ os) zero h same is = omega arith
there [] (n ∷ ns) (o ∷ os) (suc i) h same is = absurd (cc)
there (y ∷ ys) (n ∷ ns) (o ∷ os) (suc i) h same is =
    let rest : told_of ys ≡ take i ns ++ drop i os = cc in
    let more = there ys ns os i (omega (arith, h)) (omega (arith, same)) rest in omega (arith, more)

pub told_before : (xs : List (Listed ℕ)) (x : Listed ℕ) (now old : List (List ℕ)) (i : ℕ) → i < length now
    → length old ≡ length now → told_of xs ≡ take i now ++ drop i old
    → x ≡ get_or xs i x → x.items ≡ get_or old i []
told_before xs x now old i h same so_far is =
    ap (λ (d : Listed ℕ). d.items) is
    ∙ sym (get_or-map (λ (d : Listed ℕ). d.items) xs i x [] (there xs now old i h same so_far))
    ∙ ap (λ (l : List (List ℕ)). get_or l i []) so_far
    ∙ still_old now old i h same

pub text_next : (first : Bool) (before now : List (List ℕ)) (i : ℕ) (old piece new b n : List ℕ)
    → piece ≡ old ++ flat_map change_text (up_to (later_at first before now) i)
    → b ≡ get_or before i [] → n ≡ get_or now i []
    → new ≡ piece ++ flat_map change_text (change_if first (i + 10) b n)
    → new ≡ old ++ flat_map change_text (up_to (later_at first before now) (i + 1))
text_next first before now i old piece new b n so_far is at more =
    let f = later_at first before now in
    more
    ∙ ap (λ (x : List ℕ). piece ++ flat_map change_text (change_if first (i + 10) x n)) is
    ∙ ap (λ (x : List ℕ). piece ++ flat_map change_text (change_if first (i + 10) (get_or before i []) x)) at
    ∙ ap (λ (x : List ℕ). x ++ flat_map change_text (f i)) so_far
    ∙ append_assoc old (flat_map change_text (up_to f i)) (flat_map change_text (f i))
    ∙ ap (λ (x : List ℕ). old ++ x) (sym (flat_both (up_to f i) (f i)))
    ∙ ap (λ (k : ℕ). old ++ flat_map change_text (up_to f k)) (sym (add-one i))

-- ---- variables that stay

told_again : (number : ℕ) (d : List ℕ) → change_if false number d d ≡ []
told_again number d =
    let same : bytes_eq d d ≡ true = (bytes_eq-Decides d d).1 refl in
    ap (λ (b : Bool). cond (not b) (record { number = number; digits = d } ∷ []) []) same

pub rest_told : (now old : List (List ℕ)) (n : ℕ) → length old ≡ length now
    → ((k : ℕ) → n ≤ k → k < length now → get_or old k [] ≡ get_or now k []) → take n now ++ drop n old ≡ now
rest_told [] [] zero same h = refl
rest_told [] [] (suc n) same h = refl
rest_told [] (o ∷ os) n same h = absurd (omega (arith, same))
rest_told (x ∷ xs) [] n same h = absurd (omega (arith, same))
rest_told (x ∷ xs) (o ∷ os) zero same h =
    let later = rest_told xs os zero (omega (arith, same))
    (λ k l m. h (suc k) (omega (arith, l)) (omega (arith, m))) in
    ap (λ (y : List ℕ). y ∷ os) (h zero (omega arith) (omega arith)) ∙ ap (λ (l : List (List ℕ)). x ∷ l) later
rest_told (x ∷ xs) (o ∷ os) (suc n) same h =
    ap (λ (l : List (List ℕ)). x ∷ l)
    (rest_told xs os n (omega (arith, same)) (λ k l m. h (suc k) (omega (arith, l)) (omega (arith, m))))

pub rest_untold : (old now : List (List ℕ)) (n m : ℕ) → n ≤ m
    → ((k : ℕ) → n ≤ k → k < m → get_or old k [] ≡ get_or now k [])
    → up_to (later_at false old now) m ≡ up_to (later_at false old now) n
rest_untold old now n zero h same =
    let none : n ≡ 0 = omega (arith, h) in ap (up_to (later_at false old now)) (sym none)
rest_untold old now n (suc m) h same =
    cases (λ l. rest_untold old now n m l (λ k a b. same k a (omega (arith, b)))) (n == suc m) refl
  where
    cases : (n ≤ m → up_to (later_at false old now) m ≡ up_to (later_at false old now) n) → (b : Bool)
        → (n == suc m) ≡ b → up_to (later_at false old now) (suc m) ≡ up_to (later_at false old now) n
    cases high true e =
        let all : n ≡ suc m = grind (arith, nat_tests) in ap (up_to (later_at false old now)) (sym all)
    cases high false e =
        let other : n ≡ suc m → ⊥ = λ d. grind (arith, nat_tests) in
        let fewer : n ≤ m = omega (arith, h, other) in
        let here : later_at false old now m ≡ [] =
        ap (λ (d : List ℕ). change_if false (m + 10) d (get_or now m [])) (same m fewer (omega arith))
        ∙ told_again (m + 10) (get_or now m []) in
        ap (λ (l : List Change). up_to (later_at false old now) m ++ l) here
        ∙ append-nil (up_to (later_at false old now) m) ∙ high fewer

pub stays_text : (first : Bool) (number : ℕ) (piece before now : List ℕ) → first ≡ false → before ≡ now
    → piece ≡ piece ++ flat_map change_text (change_if first number before now)
stays_text first number piece before now later same =
    sym (append-nil piece)
    ∙ ap (λ (l : List Change). piece ++ flat_map change_text l) (sym (told_again number now))
    ∙ ap (λ (d : List ℕ). piece ++ flat_map change_text (change_if false number d now)) (sym same)
    ∙ ap (λ (b : Bool). piece ++ flat_map change_text (change_if b number before now)) (sym later)

-- after the last variable that is looked at
module _ (first : Bool) (old now : List (List ℕ)) (n : ℕ) (same : length old ≡ length now)
    (within : n ≤ length now) (all : first ≡ true → n ≡ length now) (stay : first ≡ false → (k : ℕ) → n ≤ k
    → k < length now → get_or old k [] ≡ get_or now k []) where
  stays : (b : Bool) → first ≡ b → (k : ℕ) → n ≤ k → k < length now → get_or old k [] ≡ get_or now k []
  stays true e k l m = absurd (omega (arith, l, m, all e))
  stays false e k l m = stay e k l m

  pub all_told : (told : List (List ℕ)) → told ≡ take n now ++ drop n old → told ≡ now
  all_told told is = is ∙ rest_told now old n same (stays first refl)

  untold_is : (b : Bool) → first ≡ b → up_to (later_at b old now) (length now) ≡ up_to (later_at b old now) n
  untold_is true e = ap (up_to (later_at true old now)) (sym (all e))
  untold_is false e = rest_untold old now n (length now) within (stay e)

  pub all_text : (piece new : List ℕ) → new ≡ piece ++ flat_map change_text (up_to (later_at first old now) n)
      → new ≡ piece ++ flat_map change_text (later_changes first old now)
  all_text piece new is =
      is ∙ ap (λ (l : List Change). piece ++ flat_map change_text l) (sym (untold_is first refl))
