-- How the layouts of tokens add up.
use Rattle.std.proofs.Common.{◌≡◌, ◌<◌, ◌≤◌, ◌+◌, ◌-◌, ℕ, suc, Option, List, [], ◌∷◌, ◌++◌, length, get_or}
use Rattle.std.proofs.Common.{take, drop, arith, map, Bool, true, false, IsTrue, ◌↔◌, refl, sym, ap, ◌∙◌}
use Rattle.std.proofs.Common.{subst, append_assoc, append-nil, add-one}
use Rattle.std.proofs.Math.Seq.{drop-cons, take-length}
use Rattle.std.proofs.Math.ListN.{drop_of_length-le}
use Rattle.icl_printer.specs.Canonical.{in_turn, after, separated, braced}
use Rattle.ij_io.specs.Bytes.{Adds, AddsPart}
use Rattle.ij_io.proofs.Adding.{adds_both, adds_front, adds_then_part, with_none}
use Rattle.ij_io.proofs.Fronts.{AddsFront, front_next, front_part, front_all}
use Rattle.icl_printer.specs.Layout.{Spelling, mark, with_blank, layout}

pub layout-append : (x y : List Spelling) → layout (x ++ y) ≡ layout x ++ layout y
unfolding layout
layout-append [] y = refl
layout-append (t ∷ x) y = ap (λ (z : List ℕ). with_blank t ++ z) (layout-append x y)
    ∙ sym (append_assoc (with_blank t) (layout x) (layout y))

-- some tokens, and then others
pub laid_both : {old between new : Option (List ℕ)} (x y : List Spelling) → Adds old between (layout x)
    → Adds between new (layout y) → Adds old new (layout (x ++ y))
laid_both {old} {between} {new} x y first second =
    subst (λ (bytes : List ℕ). Adds old new bytes) (sym (layout-append x y)) (adds_both first second)

-- part of some tokens is part of them and more
pub laid_front : {old new : Option (List ℕ)} (x y : List Spelling)
    → AddsPart old new (layout x) → AddsPart old new (layout (x ++ y))
laid_front {old} {new} x y part =
    subst (λ (bytes : List ℕ). AddsPart old new bytes) (sym (layout-append x y)) (adds_front (layout y) part)

-- some tokens, and then part of others
pub laid_then_part : {old between new : Option (List ℕ)} (x y : List Spelling) → Adds old between (layout x)
    → AddsPart between new (layout y) → AddsPart old new (layout (x ++ y))
laid_then_part {old} {between} {new} x y first part =
    subst (λ (bytes : List ℕ). AddsPart old new bytes) (sym (layout-append x y)) (adds_then_part first part)

-- ---- lists of parts

-- the parts from i on begin with that one
in_turn_from : {T A : Type 0} (f : A → List Spelling) (v : T → A) (xs : List T) (i : ℕ) (d : T)
    → i < length xs
    → in_turn f (map v (drop i xs)) ≡ f (v (get_or xs i d)) ++ in_turn f (map v (drop (suc i) xs))
in_turn_from f v xs i d h = ap (λ ys. in_turn f (map v ys)) (drop-cons xs i d h)

-- some front of the parts' tokens is added, and the parts from i on are left
abbrev pub PartsLeft : {T A : Type 0} → (A → List Spelling) → (T → A) → List T → ℕ
    → Option (List ℕ) → Option (List ℕ) → Type 0
PartsLeft f v xs i old now =
    AddsFront old now (layout (in_turn f (map v (drop i xs)))) (layout (in_turn f (map v xs)))

rest_is : {T A : Type 0} (f : A → List Spelling) (v : T → A) (xs : List T) (i : ℕ) (d : T) → i < length xs
    → layout (in_turn f (map v (drop i xs)))
    ≡ layout (f (v (get_or xs i d))) ++ layout (in_turn f (map v (drop (suc i) xs)))
rest_is f v xs i d h = ap layout (in_turn_from f v xs i d h)
    ∙ layout-append (f (v (get_or xs i d))) (in_turn f (map v (drop (suc i) xs)))

pub part_next : {T A : Type 0} {old between new : Option (List ℕ)} (f : A → List Spelling) (v : T
    → A) (xs : List T) (i : ℕ) (x : T) → i < length xs → x ≡ get_or xs i x
    → PartsLeft f v xs i old between → Adds between new (layout (f (v x))) → PartsLeft f v xs (i + 1) old new
part_next {T} {A} {old} {between} {new} f v xs i x h is front added =
    let here : layout (in_turn f (map v (drop i xs)))
    ≡ layout (f (v x)) ++ layout (in_turn f (map v (drop (suc i) xs))) =
    rest_is f v xs i x h
    ∙ ap (λ y. layout (f (v y)) ++ layout (in_turn f (map v (drop (suc i) xs)))) (sym is) in
    rw add-one (front_next (layout (f (v x))) (layout (in_turn f (map v (drop (suc i) xs))))
    (subst (λ (rest : List ℕ). AddsFront old between rest (layout (in_turn f (map v xs)))) here front) added)

pub part_refused : {T A : Type 0} {old between new : Option (List ℕ)} (f : A → List Spelling) (v : T
    → A) (xs : List T) (i : ℕ) (x : T) → i < length xs → x ≡ get_or xs i x
    → PartsLeft f v xs i old between → AddsPart between new (layout (f (v x)))
    → AddsPart old new (layout (in_turn f (map v xs)))
part_refused {T} {A} {old} {between} {new} f v xs i x h is front added =
    let here : layout (in_turn f (map v (drop i xs)))
    ≡ layout (f (v x)) ++ layout (in_turn f (map v (drop (suc i) xs))) =
    rest_is f v xs i x h
    ∙ ap (λ y. layout (f (v y)) ++ layout (in_turn f (map v (drop (suc i) xs)))) (sym is) in
    front_part (layout (f (v x))) (layout (in_turn f (map v (drop (suc i) xs))))
    (subst (λ (rest : List ℕ). AddsFront old between rest (layout (in_turn f (map v xs)))) here front) added

pub parts_done : {T A : Type 0} {old now : Option (List ℕ)} (f : A → List Spelling) (v : T
    → A) (xs : List T) (i : ℕ) → length xs ≤ i → PartsLeft f v xs i old now
    → Adds old now (layout (in_turn f (map v xs)))
unfolding layout
parts_done {T} {A} {old} {now} f v xs i h front =
    let none : drop i xs ≡ [] = drop_of_length-le xs h in
    let here : layout (in_turn f (map v (drop i xs))) ≡ [] = ap (λ ys. layout (in_turn f (map v ys))) none in
    front_all (subst (λ (rest : List ℕ). AddsFront old now rest (layout (in_turn f (map v xs)))) here front)

-- ---- single tokens

abbrev pub one_token : Spelling → List Spelling
one_token t = t ∷ []

singles : (ts : List Spelling) → in_turn one_token ts ≡ ts
singles [] = refl
singles (t ∷ ts) = ap (λ (us : List Spelling). t ∷ us) (singles ts)

layout_one : (t : Spelling) → with_blank t ≡ layout (one_token t)
unfolding layout
layout_one t = sym (append-nil (with_blank t))

pub token_next : {T : Type 0} {old between new : Option (List ℕ)} (v : T
    → Spelling) (xs : List T) (i : ℕ) (x : T) → i < length xs → x ≡ get_or xs i x
    → PartsLeft one_token v xs i old between → Adds between new (with_blank (v x))
    → PartsLeft one_token v xs (i + 1) old new
token_next {T} {old} {between} {new} v xs i x h is front added =
    part_next one_token v xs i x h is front
    (subst (λ (bytes : List ℕ). Adds between new bytes) (layout_one (v x)) added)

pub token_refused : {T : Type 0} {old between new : Option (List ℕ)} (v : T
    → Spelling) (xs : List T) (i : ℕ) (x : T) → i < length xs → x ≡ get_or xs i x
    → PartsLeft one_token v xs i old between
    → AddsPart between new (with_blank (v x)) → AddsPart old new (layout (map v xs))
token_refused {T} {old} {between} {new} v xs i x h is front added =
    subst (λ (ts : List Spelling). AddsPart old new (layout ts)) (singles (map v xs))
    (part_refused one_token v xs i x h is front
    (subst (λ (bytes : List ℕ). AddsPart between new bytes) (layout_one (v x)) added))

pub tokens_done : {T : Type 0} {old now : Option (List ℕ)} (v : T → Spelling) (xs : List T) (i : ℕ)
    → length xs ≤ i → PartsLeft one_token v xs i old now → Adds old now (layout (map v xs))
tokens_done {T} {old} {now} v xs i h front =
    subst (λ (ts : List Spelling). Adds old now (layout ts))
    (singles (map v xs)) (parts_done one_token v xs i h front)

-- ---- in other words

pub part_as : {old new : Option (List ℕ)} {x y : List Spelling} → x ≡ y
    → AddsPart old new (layout y) → AddsPart old new (layout x)
part_as {old} {new} {x} {y} e part = subst (λ (ts : List Spelling). AddsPart old new (layout ts)) (sym e) part

pub whole_as : {old new : Option (List ℕ)} {x y : List Spelling} → x ≡ y
    → Adds old new (layout y) → Adds old new (layout x)
whole_as {old} {new} {x} {y} e whole = subst (λ (ts : List Spelling). Adds old new (layout ts)) (sym e) whole

-- parts that are there stand in braces
pub braced_full : {T A : Type 0} (f : A → List Spelling) (v : T → A) (xs : List T) (none : Bool)
    → (IsTrue none ↔ (xs ≡ [])) → none ≡ false
    → braced f (map v xs) ≡ mark 123 ∷ (in_turn f (map v xs) ++ (mark 125 ∷ []))
braced_full f v [] none e full = absurd (let there : none ≡ true = e.1 refl in cc)
braced_full f v (x ∷ xs) none e full = refl

pub none_added : (old : Option (List ℕ)) → Adds old old (layout [])
unfolding layout
none_added old = record { added = with_none old }

-- a first part, and the others after it
pub cut_first : {T A : Type 0} (c : ℕ) (f : A → List Spelling) (v : T → A) (xs : List T) (x : T)
    → 1 ≤ length xs → x ≡ get_or xs 0 x
    → separated c f (map v xs) ≡ f (v x) ++ in_turn (after c f) (map v (take (length xs - 1) (drop 1 xs)))
cut_first c f v [] x h is = absurd (omega arith)
cut_first {T} c f v (y ∷ ys) x h is =
    let count : length (y ∷ ys) - 1 ≡ length ys = omega arith in
    let rest : take (length (y ∷ ys) - 1) ys ≡ ys = ap (λ n. take n ys) count ∙ take-length ys in
    ap (λ (z : T). f (v z) ++ in_turn (after c f) (map v ys)) (sym is)
    ∙ ap (λ (zs : List T). f (v x) ++ in_turn (after c f) (map v zs)) (sym rest)

pub separated_none : {T A : Type 0} (c : ℕ) (f : A → List Spelling) (v : T → A) (xs : List T)
    → length xs < 1 → separated c f (map v xs) ≡ []
separated_none c f v [] h = refl
separated_none c f v (x ∷ xs) h = absurd (omega arith)
