-- No select value is in two rows of a multiplexer, where no two rows overlap.
use Rattle.std.proofs.Common.{◌≡◌, ◌≤◌, Bool, true, false, not, ◌||◌, cond, List, [], ◌∷◌, map, length}
use Rattle.std.proofs.Common.{filter, Some, None, refl, sym, subst, ◌∙◌, arith}
use Rattle.std.specs.List.{AllByRecursion, list_any}
use Rattle.std.proofs.lemmas.Bool.{true≢false, and_parts, or_parts}
use Rattle.ij_bits.specs.BitLists.{same_bit}
use Rattle.ij_bits.specs.declared.tern.Tern.{Tern}
use Rattle.ij_text.specs.Numbers.{open_bits, tern_bits}
use Rattle.icl_declarations.specs.Values.{OpenBits}
use Rattle.icl_references.specs.Muxes.{meet_at, meet, rows_meet, some_meet}
use Rattle.icl_references.specs.Roles.{Choice}
use Rattle.net_graph.specs.declared.net.Row.{Row}
use Rattle.net_graph.specs.Nets.{rows_with}
use Rattle.net_graph.specs.Signals.{lists_bits, matches, some_matches}
use Rattle.icl_signals.proofs.Paired.{all_passing}
use Rattle.icl_signals.proofs.ApartItems.{Apart, apart_kept, apart_weaker, apart_of_map, apart_in_map}

-- ---- values that list the same bits meet

bits_meet : (c d x y z : Bool) → (not c || same_bit x z) ≡ true → (not d || same_bit y z) ≡ true
    → meet_at (cond c (Some x) None) (cond d (Some y) None) ≡ true
bits_meet false d x y z h g = refl
bits_meet true false x y z h g = refl
bits_meet true true true true z h g = refl
bits_meet true true false false z h g = refl
bits_meet true true true false true h g = absurd (true≢false (sym g))
bits_meet true true true false false h g = absurd (true≢false (sym h))
bits_meet true true false true true h g = absurd (true≢false (sym h))
bits_meet true true false true false h g = absurd (true≢false (sym g))

lists_meet : (v c w d b : List Bool) → lists_bits v c b ≡ true → lists_bits w d b ≡ true
    → meet (open_bits v c) (open_bits w d) ≡ true
lists_meet [] c w d b h g = refl
lists_meet (x ∷ v) [] w d b h g = refl
lists_meet (x ∷ v) (y ∷ c) [] d b h g = refl
lists_meet (x ∷ v) (y ∷ c) (u ∷ w) [] b h g = refl
lists_meet (x ∷ v) (y ∷ c) (u ∷ w) (k ∷ d) [] h g = absurd (true≢false (sym h))
lists_meet (x ∷ v) (y ∷ c) (u ∷ w) (k ∷ d) (z ∷ b) h g =
    let p = and_parts (not y || same_bit x z) (lists_bits v c b) h in
    let q = and_parts (not k || same_bit u z) (lists_bits w d b) g in
    rw (bits_meet y k x u z p.0 q.0) (lists_meet v c w d b p.1 q.1)

-- ---- rows

abbrev values_meet : List OpenBits → List OpenBits → Bool
values_meet us vs = list_any (λ (u : OpenBits). list_any (meet u) vs) us

one_meets : (t : Tern) (us : List Tern) (bits : List Bool)
    → matches t bits ≡ true → some_matches us bits ≡ true
    → list_any (meet (tern_bits t)) (map tern_bits us) ≡ true
one_meets t [] bits h g = absurd (true≢false (sym g))
one_meets t (u ∷ us) bits h g = by_test (matches u bits) refl g (λ k. one_meets t us bits h k)
  where
    or_true : (b : Bool) → (b || true) ≡ true
    or_true true = refl
    or_true false = refl

    by_test : (b : Bool) → matches u bits ≡ b → (b || some_matches us bits) ≡ true
        → (some_matches us bits ≡ true → list_any (meet (tern_bits t)) (map tern_bits us) ≡ true)
        → (meet (tern_bits t) (tern_bits u) || list_any (meet (tern_bits t)) (map tern_bits us)) ≡ true
    by_test true e k again =
        rw (lists_meet t.value.items t.care.items u.value.items u.care.items bits h e) refl
    by_test false e k again = rw (again k) (or_true (meet (tern_bits t) (tern_bits u)))

some_meets : (ts us : List Tern) (bits : List Bool)
    → some_matches ts bits ≡ true → some_matches us bits ≡ true
    → values_meet (map tern_bits ts) (map tern_bits us) ≡ true
some_meets [] us bits h g = absurd (true≢false (sym h))
some_meets (t ∷ ts) us bits h g = by_test (matches t bits) refl h (λ k. some_meets ts us bits k g)
  where
    or_true : (b : Bool) → (b || true) ≡ true
    or_true true = refl
    or_true false = refl

    by_test : (b : Bool) → matches t bits ≡ b → (b || some_matches ts bits) ≡ true
        → (some_matches ts bits ≡ true → values_meet (map tern_bits ts) (map tern_bits us) ≡ true)
        → (list_any (meet (tern_bits t)) (map tern_bits us) || values_meet
        (map tern_bits ts) (map tern_bits us)) ≡ true
    by_test true e k again = rw (one_meets t us bits e g) refl
    by_test false e k again = rw (again k) (or_true (list_any (meet (tern_bits t)) (map tern_bits us)))

none_any : {A : Type 0} (test : A → Bool) (xs : List A) → list_any test xs ≡ false
    → AllByRecursion (λ x. test x ≡ false) xs
none_any test [] h = tt
none_any test (x ∷ xs) h = let p = or_parts (test x) (list_any test xs) h in (p.0, none_any test xs p.1)

rows_apart : (rows : List Choice) → some_meet rows ≡ false
    → Apart (λ (r s : Choice). values_meet r.values s.values ≡ false) rows
rows_apart [] h = tt
rows_apart (r ∷ rows) h = let p = or_parts (list_any (rows_meet r) rows) (some_meet rows) h in
    (none_any (rows_meet r) rows p.0, rows_apart rows p.1)

few : {A : Type 0} (test : A → Bool) (ys : List A) → AllByRecursion (λ y. test y ≡ true) ys
    → Apart (λ y z. test y ≡ true → test z ≡ true → ⊥) ys → length ys ≤ 1
few test [] p a = omega arith
few test (y ∷ []) p a = omega arith
few test (y ∷ z ∷ ys) p a = absurd (a.0.0 p.0 p.1.0)

one_kept : {A : Type 0} (test : A → Bool) (xs : List A)
    → Apart (λ y z. test y ≡ true → test z ≡ true → ⊥) xs → length (filter test xs) ≤ 1
one_kept test xs a = few test (filter test xs) (all_passing test xs)
    (apart_kept (λ y z. test y ≡ true → test z ≡ true → ⊥) test xs a)

pub one_row_with : (choices : List Choice) (rows : List Row) → some_meet choices ≡ false
    → map (λ (c : Choice). c.values) choices ≡ map (λ (row : Row). map tern_bits row.values.items) rows
    → (bits : List Bool)
    → length (rows_with rows bits) ≤ 1
one_row_with choices rows h e bits =
    let apart : Apart (λ us vs. values_meet us vs ≡ false) (map (λ (c : Choice). c.values) choices) =
    apart_of_map (λ (c : Choice). c.values)
    (λ us vs. values_meet us vs ≡ false) choices (rows_apart choices h) in
    let seen = apart_in_map (λ (row : Row). map tern_bits row.values.items)
    (λ us vs. values_meet us vs ≡ false) rows
    (subst (Apart (λ us vs. values_meet us vs ≡ false)) e apart) in
    one_kept (λ (row : Row). some_matches row.values.items bits) rows
    (apart_weaker
    (λ (r s : Row). values_meet (map tern_bits r.values.items) (map tern_bits s.values.items) ≡ false)
    (λ r s. some_matches r.values.items bits ≡ true → some_matches s.values.items bits ≡ true → ⊥)
    (λ r s no p q. true≢false (sym (some_meets r.values.items s.values.items bits p q) ∙ no)) rows seen)
