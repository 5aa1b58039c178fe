-- Bits that are numbered one after the other, and what is found by their numbers.
use Rattle.std.proofs.Common.{◌≡◌, ℕ, zero, suc, ◌+◌, ◌<◌, ◌≤◌, inl, inr, Bool, true, false, List, [], ◌∷◌}
use Rattle.std.proofs.Common.{◌++◌, length, take, get_or, Option, Some, None, refl, sym, ap, ◌∙◌, subst}
use Rattle.std.proofs.Common.{arith, Contains, length-append}
use Rattle.std.specs.Prelude.{All, ◌||◌, ◌&&◌, ◌==◌, not, map, sum}
use Rattle.std.specs.Cmp.{IsEquivalence}
use Rattle.std.specs.List.{AllByRecursion, IsDistinct, list_all, list_any, position, position_or_len}
use Rattle.std.specs.Option.{is_some}
use Rattle.std.proofs.lemmas.Bool.{cases_lt, false≢true, or_left, or_right}
use Rattle.std.proofs.lemmas.List.{get_or-map, length-map, length-take-le, take_all, take_more}
use Rattle.std.proofs.lemmas.List.{get_or_default}
use Rattle.std.proofs.lemmas.List.Elements.{All-cons, All-head, All-map, All-nil, All-tail, All-weaker}
use Rattle.std.proofs.lemmas.List.Folds.{list_any-append, list_any_at, list_any_none}
use Rattle.std.proofs.lemmas.List.Quantifiers.{position-Some}
use Rattle.std.proofs.lemmas.List.Sums.{fails_before_first, sum_by-cons}
use Rattle.std.proofs.lemmas.Map.Made.{length-le_from_is_member}
use Rattle.ij_bits.specs.Different.{AreDifferent}
use Rattle.net_graph.specs.declared.net.BitId.{BitId}
use Rattle.net_graph.specs.declared.net.Net.{Net}
use Rattle.net_graph.specs.declared.net.Reg.{Reg}
use Rattle.net_graph.specs.declared.step.ReadBit.{ReadBit}
use Rattle.net_graph.specs.declared.step.WriteBit.{WriteBit}
use Rattle.net_graph.specs.Chain.{IsRoute, NotIn}
use Rattle.net_graph.specs.Named.{IsBitOf, bits_from}
use Rattle.net_graph.specs.Nets.{IsNet, IsReg}
use Rattle.net_graph.specs.Path.{same_place}
use Rattle.net_graph.specs.SeenSteps.{SeenGroup}
use Rattle.net_graph.specs.Steps.{IsDataBit, IsGroup}
use Rattle.net_graph.proofs.PlainNet.{length-bits_from}
use Rattle.net_graph.proofs.Places.{place_is}
use Rattle.net_graph.specs.Marks.{HasMark, Marks}
use Rattle.net_graph.specs.Numbered.{AreNumbered, HaveMarks, bits_compared, bits_written, first_bit}
use Rattle.net_graph.specs.Numbered.{first_bits}
use Rattle.net_graph.proofs.Numbering.{no_position}
use Rattle.svf_audit.specs.Audit.{expected_of, same_expects}
use Rattle.svf_audit.specs.Numbers.{AreCountable}
use Rattle.svf_audit.proofs.Places.{place_of}

-- ---- one bit after the other

-- a bit isn't one of those before it
pub bit_before : (bits : List BitId) (i : ℕ) (d : BitId) → AreDifferent bits → i < length bits
    → All (λ c. same_place c (get_or bits i d) ≡ false) (take i bits)
bit_before [] i d a l = absurd (omega (arith, l))
bit_before (b ∷ bs) zero d a l = All-nil (λ c. same_place c b ≡ false)
bit_before (b ∷ bs) (suc i) d a l =
    let x = get_or bs i d in
    All-cons (λ c. same_place c x ≡ false) b (take i bs) (by (same_place b x) refl)
    (bit_before bs i d a.1 (omega (arith, l)))
  where
    by : (t : Bool) → same_place b (get_or bs i d) ≡ t → t ≡ false
    by true e =
        let short : i < length bs = omega (arith, l) in
        absurd (a.0 (i, short, get_or_default bs i b d short ∙ sym (place_is b (get_or bs i d) e)))
    by false e = refl

pub number_next : (net : Net) (old new : Marks) (bits : List BitId) (i : ℕ) (d b : BitId)
    → AreDifferent bits → i < length bits → b ≡ get_or bits i d
    → ((xs : List BitId) → AreNumbered net old xs → length xs ≡ i
    → All (λ c. same_place c b ≡ false) xs → AreNumbered net new (xs ++ b ∷ []))
    → AreNumbered net old (take i bits) → AreNumbered net new (take (i + 1) bits)
number_next net old new bits i d b once l is goes numbered =
    let P : List BitId → Type 0 = AreNumbered net new in
    let Q : BitId → Type 0 = λ x. All (λ c. same_place c x ≡ false) (take i bits) in
    subst P (ap (λ x. take i bits ++ x ∷ []) is ∙ sym (take_more bits i d l))
    (goes (take i bits) numbered (length-take-le i bits (omega (arith, l)))
    (subst Q (sym is) (bit_before bits i d once l)))

-- ---- different bits of a network are few

abbrev all_of : ℕ → List ℕ → List BitId
all_of r [] = []
all_of r (w ∷ ws) = bits_from r 0 w ++ all_of (suc r) ws

same_places : IsEquivalence same_place
same_places = record {
  refl = λ x. place_of x x refl refl;
  symm = λ x y. by x y (same_place x y) (same_place y x) refl refl;
  congr = λ x y z e. ap (λ b. same_place b z) (place_is x y e);
}
  where
    by : (x y : BitId) (s t : Bool) → same_place x y ≡ s → same_place y x ≡ t → s ≡ t
    by x y true true e f = refl
    by x y true false e f =
        absurd (false≢true (sym f ∙ ap (same_place y) (place_is x y e) ∙ place_of y y refl refl))
    by x y false true e f =
        absurd (false≢true (sym e ∙ ap (same_place x) (place_is y x f) ∙ place_of x x refl refl))
    by x y false false e f = refl

none_same : (x : BitId) (xs : List BitId) → (Contains xs x → ⊥)
    → AllByRecursion (λ y. same_place x y ≡ false) xs
none_same x [] h = tt
none_same x (y ∷ ys) h =
    (by (same_place x y) refl, none_same x ys (λ k. h (suc k.0, (let l = k.1 in omega (arith, l)), k.2)))
  where
    by : (t : Bool) → same_place x y ≡ t → t ≡ false
    by true e = absurd (h (0, omega arith, sym (place_is x y e)))
    by false e = refl

distinct : (bits : List BitId) → AreDifferent bits → IsDistinct same_place bits
unfolding IsDistinct
distinct [] h = tt
distinct (b ∷ bs) h = (none_same b bs h.0, distinct bs h.1)

all_long : (r : ℕ) (ws : List ℕ) → length (all_of r ws) ≡ sum ws
all_long r [] = refl
all_long r (w ∷ ws) =
    omega (
      arith,
      length-append (bits_from r 0 w) (all_of (suc r) ws),
      length-bits_from r 0 w,
      all_long (suc r) ws,
      sum_by-cons (λ k. k) w ws,
    )

in_register : (c : BitId) (r k n : ℕ) → c.reg ≡ r → k ≤ c.pos → c.pos < k + n
    → list_any (same_place c) (bits_from r k n) ≡ true
in_register c r k zero e low high = absurd (omega (arith, low, high))
in_register c r k (suc n) e low high =
    elim (cases_lt k c.pos) [
      | inl later ↦ or_right (same_place c (record { reg = r; pos = k })) (list_any (same_place c)
          (bits_from r (suc k) n)) (in_register c r (suc k) n e (omega (arith, later)) (omega (arith, high)))
      | inr here ↦ or_left (same_place c (record { reg = r; pos = k })) (list_any (same_place c)
          (bits_from r (suc k) n)) (place_of c (record { reg = r; pos = k }) e (omega (arith, here, low)))
    ]

in_some : (c : BitId) (r k : ℕ) (ws : List ℕ) → c.reg ≡ r + k → c.pos < get_or ws k 0
    → list_any (same_place c) (all_of r ws) ≡ true
in_some c r k [] e h = absurd (omega (arith, h))
in_some c r zero (w ∷ ws) e h =
    list_any-append (same_place c) (bits_from r 0 w) (all_of (suc r) ws)
    ∙ or_left (list_any (same_place c) (bits_from r 0 w)) (list_any (same_place c) (all_of (suc r) ws))
    (in_register c r 0 w (omega (arith, e)) (omega arith) (omega (arith, h)))
in_some c r (suc k) (w ∷ ws) e h =
    list_any-append (same_place c) (bits_from r 0 w) (all_of (suc r) ws)
    ∙ or_right (list_any (same_place c) (bits_from r 0 w)) (list_any (same_place c) (all_of (suc r) ws))
    (in_some c (suc r) k ws (omega (arith, e)) h)

in_net : (net : Net) (bits : List BitId) → All (IsBitOf net) bits → (q : BitId)
    → list_any (same_place q) bits ≡ true → IsBitOf net q
in_net net [] h q e = absurd (false≢true e)
in_net net (b ∷ bs) h q e = by (same_place q b) refl (in_net net bs (All-tail (IsBitOf net) b bs h) q)
  where
    by : (t : Bool) → same_place q b ≡ t → (list_any (same_place q) bs ≡ true → IsBitOf net q) → IsBitOf net q
    by true f rest =
        let P : BitId → Type 0 = IsBitOf net in subst P (sym (place_is q b f)) (All-head (IsBitOf net) b bs h)
    by false f rest = rest (sym (ap (λ t. t || list_any (same_place q) bs) f) ∙ e)

pub bits_few : (net : Net) (bits : List BitId) → IsNet net → All (IsBitOf net) bits
    → AreDifferent bits → length bits ≤ 4096
bits_few net bits n there once =
    let ws = map (λ (reg : Reg). reg.width) net.regs.items in
    let all : (q : BitId) → list_any (same_place q) bits ≡ true → list_any (same_place q) (all_of 0 ws)
    ≡ true = λ q e. in_some q 0 q.reg ws (omega arith) (in_net net bits there q e) in
    let short : length bits ≤ length (all_of 0 ws) =
    length-le_from_is_member same_places bits (all_of 0 ws) (distinct bits once) all in
    omega (arith, short, all_long 0 ws, n.bits_within_limit)

countable : (net : Net) (bits : List BitId) → IsNet net → All (IsBitOf net) bits
    → AreDifferent bits → AreCountable net bits
countable net bits n there once =
    let few = bits_few net bits n there once in
    record { few = omega (arith, few); there = there; once = once }

pub writes_countable : (net : Net) (g : SeenGroup) (ws : List WriteBit) → IsNet net → IsGroup net g
    → ws ≡ g.writes → AreCountable net (bits_written ws)
writes_countable net g ws n h e =
    let P : List WriteBit → Type 0 = λ xs. AreCountable net (bits_written xs) in
    subst P (sym e) (countable net (bits_written g.writes) n (All-map (IsBitOf net)
    (λ (w : WriteBit). w.bit) g.writes (All-weaker (λ (w : WriteBit). IsDataBit net w.bit)
    (λ (w : WriteBit). IsBitOf net w.bit) (λ w d. d.there) g.writes h.written)) h.written_once)

pub reads_countable : (net : Net) (g : SeenGroup) (rs : List ReadBit) → IsNet net → IsGroup net g
    → rs ≡ g.reads → AreCountable net (bits_compared rs)
reads_countable net g rs n h e =
    let P : List ReadBit → Type 0 = λ xs. AreCountable net (bits_compared xs) in
    subst P (sym e) (countable net (bits_compared g.reads) n (All-map (IsBitOf net)
    (λ (r : ReadBit). r.bit) g.reads (All-weaker (λ (r : ReadBit). IsDataBit net r.bit)
    (λ (r : ReadBit). IsBitOf net r.bit) (λ r d. d.there) g.reads h.read)) h.read_once)

-- ---- items, by their bits

pub item_there : {A : Type 0} (f : A → BitId) (net : Net) (marks : Marks) (xs : List A) (i : ℕ) (d : A)
    → AreCountable net (map f xs) → i < length xs
    → AreNumbered net marks (take i (map f xs)) → HasMark marks (f (get_or xs i d))
item_there f net marks xs i d count l numbered =
    let b = f (get_or xs i d) in
    let P : BitId → Type 0 = HasMark marks in
    subst P (get_or-map f xs i d b l)
    (numbered.there (get_or (map f xs) i b) (count.there i b (omega (arith, l, length-map xs f))))

pub item_next : {A : Type 0} (f : A → BitId) (net : Net) (old new : Marks) (xs : List A) (i : ℕ) (d : A)
    → AreCountable net (map f xs) → i < length xs
    → ((bs : List BitId) → AreNumbered net old bs → length bs ≡ i
    → All (λ c. same_place c (f (get_or xs i d)) ≡ false) bs
    → AreNumbered net new (bs ++ f (get_or xs i d) ∷ []))
    → AreNumbered net old (take i (map f xs)) → AreNumbered net new (take (i + 1) (map f xs))
item_next f net old new xs i d count l goes numbered =
    let b = f (get_or xs i d) in
    number_next net old new (map f xs) i b b count.once (omega (arith, l, length-map xs f))
    (sym (get_or-map f xs i d b l)) goes numbered

-- ---- the registers of a path

not_first : (r : ℕ) (rs : List ℕ) → NotIn r rs → Contains (first_bits rs) (first_bit r) → ⊥
not_first r [] h k = let l = k.1 in absurd (omega (arith, l))
not_first r (x ∷ xs) h (zero, l, e) = h.0 (ap (λ (b : BitId). b.reg) e)
not_first r (x ∷ xs) h (suc k, l, e) = not_first r xs h.1 (k, omega (arith, l), e)

firsts_differ : (n : ℕ) (path : List ℕ) → IsRoute n path → AreDifferent (first_bits path)
firsts_differ n [] h = tt
firsts_differ n (r ∷ rs) h = (not_first r rs h.1, firsts_differ n rs h.2)

some_width : (net : Net) (regs : List Reg) (r : ℕ) → All (IsReg net) regs → r < length regs
    → 0 < get_or (map (λ (reg : Reg). reg.width) regs) r 0
some_width net [] r h l = absurd (omega (arith, l))
some_width net (g ∷ gs) zero h l = let k = (All-head (IsReg net) g gs h).at_least_one_bit in omega (arith, k)
some_width net (g ∷ gs) (suc r) h l = some_width net gs r (All-tail (IsReg net) g gs h) (omega (arith, l))

firsts_there : (net : Net) (path : List ℕ) → IsNet net
    → IsRoute (length net.regs.items) path → All (IsBitOf net) (first_bits path)
firsts_there net [] n h = All-nil (IsBitOf net)
firsts_there net (r ∷ rs) n h = All-cons (IsBitOf net) (first_bit r) (first_bits rs)
    (some_width net net.regs.items r n.regs h.0) (firsts_there net rs n h.2)

pub path_countable : (net : Net) (path : List ℕ) → IsNet net
    → IsRoute (length net.regs.items) path → AreCountable net (first_bits path)
path_countable net path n h = countable net (first_bits path) n (firsts_there net path n h)
    (firsts_differ (length net.regs.items) path h)

-- ---- what is found

pub any_position : {A : Type 0} (p : A → Bool) (xs : List A) → is_some (position p xs) ≡ list_any p xs
any_position {A = A} p [] = refl
any_position {A = A} p (x ∷ xs) = by (position p (x ∷ xs)) refl
  where
    by : (o : Option ℕ) → position p (x ∷ xs) ≡ o → is_some (position p (x ∷ xs)) ≡ list_any p (x ∷ xs)
    by (Some i) e =
        let at = position-Some p (x ∷ xs) i x e in
        ap is_some e ∙ sym (list_any_at p (x ∷ xs) i x at.0 at.1)
    by None e =
        let long = no_position p (x ∷ xs) (sym e) in
        ap is_some e ∙ sym (list_any_none p (x ∷ xs) (λ k d h. none_at k d h long))
      where
        none_at : (k : ℕ) (d : A) → k < length (x ∷ xs)
            → length (x ∷ xs) ≤ position_or_len p (x ∷ xs) → p (get_or (x ∷ xs) k d) ≡ false
        none_at k d h long = fails_before_first p (x ∷ xs) k d (omega (arith, h, long))

pub expected_none : (rs : List ReadBit) (b : BitId)
    → list_any (λ r. same_place r.bit b) rs ≡ false → expected_of rs b ≡ None
expected_none [] b e = refl
expected_none (r ∷ rs) b e = by (same_place r.bit b) refl (expected_none rs b)
  where
    by : (t : Bool) → same_place r.bit b ≡ t
        → (list_any (λ q. same_place q.bit b) rs ≡ false → expected_of rs b ≡ None)
        → expected_of (r ∷ rs) b ≡ None
    by true f rest = absurd (false≢true (sym e ∙ ap (λ t. t || list_any (λ q. same_place q.bit b) rs) f))
    by false f rest =
        ap (λ t. elim t [ true ↦ Some r.expect | false ↦ expected_of rs b ]) f
        ∙ rest (sym (ap (λ t. t || list_any (λ q. same_place q.bit b) rs) f) ∙ e)

pub expected_some : (rs : List ReadBit) (b : BitId) (i : ℕ) (d : ReadBit) → i < length rs
    → same_place (get_or rs i d).bit b ≡ true → ((k : ℕ) → k < i → same_place (get_or rs k d).bit b ≡ false)
    → expected_of rs b ≡ Some (get_or rs i d).expect
expected_some [] b i d l e before = absurd (omega (arith, l))
expected_some (r ∷ rs) b zero d l e before =
    ap (λ t. elim t [ true ↦ Some r.expect | false ↦ expected_of rs b ]) e
expected_some (r ∷ rs) b (suc i) d l e before =
    ap (λ t. elim t [ true ↦ Some r.expect | false ↦ expected_of rs b ]) (before 0 (omega arith))
    ∙ expected_some rs b i d (omega (arith, l)) e (λ k h. before (suc k) (omega (arith, h)))

pub read_found : (rs : List ReadBit) (b : BitId) (i : ℕ) (d : ReadBit)
    → Some i ≡ position (λ r. same_place r.bit b) rs → Some (get_or rs i d).expect ≡ expected_of rs b
read_found rs b i d e =
    let at = position-Some (λ r. same_place r.bit b) rs i d (sym e) in
    sym (expected_some rs b i d at.0 at.1 at.2)

pub read_not_found : (rs : List ReadBit) (b : BitId)
    → None ≡ position (λ r. same_place r.bit b) rs → None ≡ expected_of rs b
read_not_found rs b e =
    sym (expected_none rs b (sym (any_position (λ r. same_place r.bit b) rs) ∙ sym (ap is_some e)))

-- without reads nothing may be expected
pub nothing_expected : (es : List (Option Bool)) (bits : List BitId) → length es ≡ length bits
    → same_expects es (map (expected_of []) bits) ≡ not (list_any is_some es)
nothing_expected [] [] e = refl
nothing_expected [] (b ∷ bs) e = absurd (omega (arith, e))
nothing_expected (x ∷ xs) [] e = absurd (omega (arith, e))
nothing_expected (None ∷ xs) (b ∷ bs) e = nothing_expected xs bs (omega (arith, e))
nothing_expected (Some v ∷ xs) (b ∷ bs) e = refl

and_true : (t : Bool) → (t && true) ≡ t
and_true true = refl
and_true false = refl

pub reads_none : (es : List (Option Bool)) (bits : List BitId) (path : List ℕ) (rs : List ReadBit)
    → length es ≡ length bits → rs ≡ []
    → not (list_any is_some es) ≡ (same_expects es (map (expected_of rs) bits) && list_all
    (λ r. list_any (λ x. x == r.bit.reg) path) rs)
reads_none es bits path rs long none =
    let Both : List ReadBit → Bool = λ qs. same_expects es (map (expected_of qs) bits) && list_all
    (λ r. list_any (λ x. x == r.bit.reg) path) qs in
    sym (ap Both none ∙ and_true (same_expects es (map (expected_of []) bits))
    ∙ nothing_expected es bits long)
