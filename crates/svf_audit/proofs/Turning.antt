-- A path takes bits, one after the other.
use Rattle.std.proofs.Common.{◌≡◌, ℕ, zero, suc, ◌+◌, ◌-◌, ◌*◌, ◌<◌, ◌≤◌, ◌≢◌, inl, inr, Bool, true, false}
use Rattle.std.proofs.Common.{List, [], ◌∷◌, ◌++◌, length, get_or, take, drop, map, refl, sym, ap, ◌∙◌, arith}
use Rattle.std.proofs.Common.{append_assoc, length-append}
use Rattle.std.specs.Prelude.{filter, not, cond, slice_range, slice_set, if◌then◌else◌}
use Rattle.std.proofs.lemmas.Bool.{cases_lt}
use Rattle.std.proofs.lemmas.List.{get_or-set_same, get_or-set_other, set-set, set_comm, drop-set-lt}
use Rattle.std.proofs.lemmas.List.{drop-set-add, take-set-le, drop_more, drop-drop, drop_all, take_all}
use Rattle.std.proofs.lemmas.List.{take_more, take_more_set, length-drop, length-take}
use Rattle.std.proofs.Math.Seq.{take-set-lt}
use Rattle.ij_bits.specs.BitLists.{number_of, same_bit}
use Rattle.ij_bits.proofs.SameBits.{same_self}
use Rattle.net_graph.specs.declared.net.BitId.{BitId}
use Rattle.net_graph.specs.Chain.{NotIn, IsRoute, chain, put_chain}
use Rattle.net_graph.specs.Held.{set_hold}
use Rattle.net_graph.specs.Named.{bits_from}
use Rattle.net_graph.specs.Signals.{Holds, bits_at}
use Rattle.net_graph.proofs.Chains.{length-put_chain}
use Rattle.net_graph.proofs.PlainNet.{length-bits_from}
use Rattle.svf_audit.specs.Audit.{bits_on}
use Rattle.svf_audit.specs.Registers.{differing}
use Rattle.svf_audit.proofs.Places.{first, on_first, on_rest}

-- ---- one bit of a path is set

-- a bit of a path is one of a register on it
reg_apart : (s : Holds) (rs : List ℕ) (r k : ℕ) → NotIn r rs → k < length (bits_on s rs)
    → (get_or (bits_on s rs) k first).reg ≢ r
reg_apart s [] r k n l = absurd (omega (arith, l))
reg_apart s (x ∷ xs) r k n l =
    let w = length (bits_at s x) in
    elim (cases_lt k w) [
      | inl before ↦ λ e. n.0 (sym (ap (λ b. b.reg) (on_first s x xs k before)) ∙ e)
      | inr after ↦
          let at : w + (k - w) ≡ k = omega (arith, after) in
          let short : k - w < length (bits_on s xs) = omega
          (arith, after, l, length-append (bits_from x 0 w) (bits_on s xs), length-bits_from x 0 w) in
          λ e. reg_apart s xs r (k - w) n.1 short (sym (ap (λ b. b.reg)
          (ap (λ j. get_or (bits_on s (x ∷ xs)) j first) (sym at) ∙ on_rest s x xs (k - w))) ∙ e)
    ]

pub set_on : (s : Holds) (path : List ℕ) (c : List Bool) (k : ℕ) (v : Bool) → IsRoute (length s) path
    → length c ≡ length (chain path s) → length (bits_on s path) ≡ length c → k < length c
    → set_hold (put_chain path c s) (get_or (bits_on s path) k first) v ≡ put_chain path (slice_set c k v) s
set_on s [] c k v h e f l = absurd (omega (arith, e, l))
set_on s (r ∷ rs) c k v h e f l =
    let w = length (bits_at s r) in
    let t = put_chain rs (drop w c) s in
    let x = slice_set t r (take w c) in
    let there : r < length t = omega (arith, h.0, length-put_chain rs (drop w c) s) in
    elim (cases_lt k w) [
      | inl before ↦
          let own : bits_at x r ≡ take w c = get_or-set_same t r (take w c) [] there in
          ap (λ b. set_hold x b v) (on_first s r rs k before)
          ∙ ap (λ bs. slice_set x r (slice_set bs k v)) own
          ∙ set-set t r (take w c) (slice_set (take w c) k v)
          ∙ ap (slice_set t r) (sym (take-set-lt w c k v before))
          ∙ ap (λ z. slice_set (put_chain rs z s) r (take w (slice_set c k v)))
          (sym (drop-set-lt w c k v before))
      | inr after ↦
          let j = k - w in
          let at : k ≡ w + j = omega (arith, after) in
          let b = get_or (bits_on s rs) j first in
          let short : j < length (bits_on s rs) = omega
          (arith, after, l, f, length-append (bits_from r 0 w) (bits_on s rs), length-bits_from r 0 w) in
          let fits : length (drop w c) ≡ length (chain rs s) =
          omega (arith, length-drop w c, e, length-append (bits_at s r) (chain rs s)) in
          let wide : length (bits_on s rs) ≡ length (drop w c) = omega (
            arith,
            length-drop w c,
            f,
            length-append (bits_from r 0 w) (bits_on s rs),
            length-bits_from r 0 w,
          ) in
          let apart : b.reg ≢ r = reg_apart s rs r j h.1 short in
          ap (λ y. set_hold x y v) (ap (λ n. get_or (bits_on s (r ∷ rs)) n first) at ∙ on_rest s r rs j)
          ∙ ap (λ bs. slice_set x b.reg (slice_set bs b.pos v))
          (get_or-set_other t r b.reg (take w c) [] apart)
          ∙ set_comm t r b.reg (take w c) (slice_set (bits_at t b.reg) b.pos v) (λ z. apart (sym z))
          ∙ ap (λ y. slice_set y r (take w c))
          (set_on s rs (drop w c) j v h.2 fits wide (omega (arith, short, wide)))
          ∙ ap (λ z. slice_set (put_chain rs z s) r (take w c))
          (sym (drop-set-add w c j v) ∙ ap (λ n. drop w (slice_set c n v)) (sym at))
          ∙ ap (slice_set (put_chain rs (drop w (slice_set c k v)) s) r) (sym (take-set-le w c k v after))
    ]

-- ---- the bits that change

-- where nothing changes at a position
pub skips : (bits : List BitId) (before now : List Bool) (k : ℕ) → k < length bits → k < length before
    → k < length now → same_bit (get_or now k false) (get_or before k false) ≡ true
    → differing (drop k bits) (drop k before) (drop k now)
    ≡ differing (drop (k + 1) bits) (drop (k + 1) before) (drop (k + 1) now)
skips bits before now k l m n e =
    ap (λ b. differing b (drop k before) (drop k now)) (drop_more bits k first l)
    ∙ ap (λ x. differing (get_or bits k first ∷ drop (k + 1) bits) x (drop k now))
    (drop_more before k false m)
    ∙ ap (λ y. differing (get_or bits k first ∷ drop (k + 1) bits)
    (get_or before k false ∷ drop (k + 1) before) y) (drop_more now k false n)
    ∙ ap (λ t. elim t [
      | true ↦ differing (drop (k + 1) bits) (drop (k + 1) before) (drop (k + 1) now)
      | false
          ↦ get_or bits k first ∷ differing (drop (k + 1) bits) (drop (k + 1) before) (drop (k + 1) now)
    ]) e

pub moves : (bits : List BitId) (before now : List Bool) (k : ℕ) → k < length bits → k < length before
    → k < length now → same_bit (get_or now k false) (get_or before k false) ≡ false
    → differing (drop k bits) (drop k before) (drop k now)
    ≡ get_or bits k first ∷ differing (drop (k + 1) bits) (drop (k + 1) before) (drop (k + 1) now)
moves bits before now k l m n e =
    ap (λ b. differing b (drop k before) (drop k now)) (drop_more bits k first l)
    ∙ ap (λ x. differing (get_or bits k first ∷ drop (k + 1) bits) x (drop k now))
    (drop_more before k false m)
    ∙ ap (λ y. differing (get_or bits k first ∷ drop (k + 1) bits)
    (get_or before k false ∷ drop (k + 1) before) y) (drop_more now k false n)
    ∙ ap (λ t. elim t [
      | true ↦ differing (drop (k + 1) bits) (drop (k + 1) before) (drop (k + 1) now)
      | false
          ↦ get_or bits k first ∷ differing (drop (k + 1) bits) (drop (k + 1) before) (drop (k + 1) now)
    ]) e

-- one bit more has moved
pub moved_one : (moved bits : List BitId) (before now : List Bool) (k : ℕ) (b : BitId) (v : Bool)
    → b ≡ get_or bits k first → k < length bits → k < length before → k < length now
    → same_bit (get_or now k false) (get_or before k false) ≡ false
    → (moved ++ b ∷ []) ++ differing (drop (k + 1) bits) (drop (k + 1) (slice_set before k v))
    (drop (k + 1) now) ≡ moved ++ differing (drop k bits) (drop k before) (drop k now)
moved_one moved bits before now k b v is l m n e =
    append_assoc moved (b ∷ [])
    (differing (drop (k + 1) bits) (drop (k + 1) (slice_set before k v)) (drop (k + 1) now))
    ∙ ap (λ xs. moved ++ b ∷ differing (drop (k + 1) bits) xs (drop (k + 1) now))
    (drop-set-lt (k + 1) before k v (omega arith))
    ∙ ap (λ x. moved ++ x ∷ differing (drop (k + 1) bits) (drop (k + 1) before) (drop (k + 1) now)) is
    ∙ ap (λ xs. moved ++ xs) (sym (moves bits before now k l m n e))

pub taken_one : (before now : List Bool) (k : ℕ) (v : Bool) → k < length before → k < length now
    → v ≡ get_or now k false → take k before ≡ take k now
    → take (k + 1) (slice_set before k v) ≡ take (k + 1) now
taken_one before now k v l m is e =
    take_more_set before k v l ∙ ap (λ xs. xs ++ v ∷ []) e
    ∙ ap (λ x. take k now ++ x ∷ []) is ∙ sym (take_more now k false m)

-- where nothing changes over some positions
pub skips_all : (n : ℕ) (bits : List BitId) (before now : List Bool) → take n before ≡ take n now
    → n ≤ length bits → n ≤ length before → n ≤ length now
    → differing bits before now ≡ differing (drop n bits) (drop n before) (drop n now)
skips_all zero bits before now e l m k = refl
skips_all (suc n) [] before now e l m k = absurd (omega (arith, l))
skips_all (suc n) (b ∷ bs) [] now e l m k = absurd (omega (arith, m))
skips_all (suc n) (b ∷ bs) (x ∷ xs) [] e l m k = absurd (omega (arith, k))
skips_all (suc n) (b ∷ bs) (x ∷ xs) (y ∷ ys) e l m k =
    let same : x ≡ y = ap (λ (zs : List Bool). get_or zs 0 false) e in
    ap (λ t. elim t [ true ↦ differing bs xs ys | false ↦ b ∷ differing bs xs ys ])
    (ap (same_bit y) same ∙ same_self y)
    ∙ skips_all n bs xs ys (ap (λ (zs : List Bool). drop 1 zs) e)
    (omega (arith, l)) (omega (arith, m)) (omega (arith, k))

-- the bits of a path that change are those that hold something else then
pub differing_is : (f g : BitId → Bool) (bits : List BitId)
    → differing bits (map f bits) (map g bits) ≡ filter (λ b. not (same_bit (g b) (f b))) bits
differing_is f g [] = refl
differing_is f g (b ∷ bs) = by (same_bit (g b) (f b)) refl (differing_is f g bs)
  where
    by : (t : Bool) → same_bit (g b) (f b) ≡ t
        → differing bs (map f bs) (map g bs) ≡ filter (λ x. not (same_bit (g x) (f x))) bs
        → differing (b ∷ bs) (map f (b ∷ bs)) (map g (b ∷ bs))
        ≡ filter (λ x. not (same_bit (g x) (f x))) (b ∷ bs)
    by true e rest =
        ap (λ t. elim t [
          | true ↦ differing bs (map f bs) (map g bs)
          | false ↦ b ∷ differing bs (map f bs) (map g bs)
        ]) e
        ∙ rest
        ∙ sym (ap (λ t. cond (not t) (b ∷ filter (λ x. not (same_bit (g x) (f x))) bs)
        (filter (λ x. not (same_bit (g x) (f x))) bs)) e)
    by false e rest =
        ap (λ t. elim t [
          | true ↦ differing bs (map f bs) (map g bs)
          | false ↦ b ∷ differing bs (map f bs) (map g bs)
        ]) e
        ∙ ap (λ xs. b ∷ xs) rest
        ∙ sym (ap (λ t. cond (not t) (b ∷ filter (λ x. not (same_bit (g x) (f x))) bs)
        (filter (λ x. not (same_bit (g x) (f x))) bs)) e)

-- ---- words

one_number : (x y : Bool) (a b : ℕ)
    → (if x then 1 else 0) + 2 * a ≡ (if y then 1 else 0) + 2 * b → (x ≡ y) × (a ≡ b)
one_number true true a b e = (refl, omega (arith, e))
one_number true false a b e = absurd (omega (arith, e))
one_number false true a b e = absurd (omega (arith, e))
one_number false false a b e = (refl, omega (arith, e))

-- one number of as many bits is that of the same bits
pub number_same : (xs ys : List Bool) → length xs ≡ length ys → number_of xs ≡ number_of ys → xs ≡ ys
number_same [] [] l e = refl
number_same [] (y ∷ ys) l e = absurd (omega (arith, l))
number_same (x ∷ xs) [] l e = absurd (omega (arith, l))
number_same (x ∷ xs) (y ∷ ys) l e =
    let n = one_number x y (number_of xs) (number_of ys) e in
    ap (λ b. b ∷ xs) n.0 ∙ ap (λ bs. y ∷ bs) (number_same xs ys (omega (arith, l)) n.1)

pub take_both : (xs ys : List Bool) (k n : ℕ) → take k xs ≡ take k ys
    → take n (drop k xs) ≡ take n (drop k ys) → k + n ≤ length xs
    → k + n ≤ length ys → take (k + n) xs ≡ take (k + n) ys
take_both xs ys zero n e f l m =
    let none : 0 + n ≡ n = omega arith in ap (λ k. take k xs) none ∙ f ∙ ap (λ k. take k ys) (sym none)
take_both [] ys (suc k) n e f l m = absurd (omega (arith, l))
take_both (x ∷ xs) [] (suc k) n e f l m = absurd (omega (arith, m))
take_both (x ∷ xs) (y ∷ ys) (suc k) n e f l m =
    let more : suc k + n ≡ suc (k + n) = omega arith in
    ap (λ j. take j (x ∷ xs)) more
    ∙ ap (λ b. b ∷ take (k + n) xs) (ap (λ (zs : List Bool). get_or zs 0 false) e)
    ∙ ap (λ bs. y ∷ bs)
    (take_both xs ys k n (ap (λ (zs : List Bool). drop 1 zs) e) f (omega (arith, l)) (omega (arith, m)))
    ∙ ap (λ j. take j (y ∷ ys)) (sym more)

-- ---- a word that is the same

pub word_same : (xs ys : List Bool) (from n : ℕ) → from + n ≤ length xs → from + n ≤ length ys
    → number_of (slice_range xs from (from + n)) ≡ number_of (slice_range ys from (from + n))
    → take n (drop from xs) ≡ take n (drop from ys)
word_same xs ys from n l m e =
    let size : n ≡ from + n - from = omega arith in
    let wide : (zs : List Bool) → from + n ≤ length zs
    → length (take n (drop from zs)) ≡ n = λ zs h. simp (length-take, length-drop) (omega (arith, h)) in
    number_same (take n (drop from xs)) (take n (drop from ys)) (wide xs l ∙ sym (wide ys m))
    (ap (λ k. number_of (take k (drop from xs))) size ∙ e
    ∙ ap (λ k. number_of (take k (drop from ys))) (sym size))

some_left : {A : Type 0} (zs : List A) (from n : ℕ) → from + n ≤ length zs → n ≤ length (drop from zs)
some_left zs from n h = simp (length-drop) (omega (arith, h))

pub word_skips : (bits : List BitId) (before now : List Bool) (from n : ℕ) → from + n ≤ length bits
    → from + n ≤ length before → from + n ≤ length now → take n (drop from before) ≡ take n (drop from now)
    → differing (drop (from + n) bits) (drop (from + n) before) (drop (from + n) now)
    ≡ differing (drop from bits) (drop from before) (drop from now)
word_skips bits before now from n l m k e =
    sym (
    skips_all n (drop from bits) (drop from before) (drop from now) e (some_left bits from n l)
    (some_left before from n m) (some_left now from n k)
    ∙ ap (λ b. differing b (drop n (drop from before)) (drop n (drop from now))) (drop-drop n from bits)
    ∙ ap (λ x. differing (drop (from + n) bits) x (drop n (drop from now))) (drop-drop n from before)
    ∙ ap (differing (drop (from + n) bits) (drop (from + n) before)) (drop-drop n from now)
    )

-- all positions are done
pub all_taken : (xs ys : List Bool) → length xs ≡ length ys
    → take (length xs) xs ≡ take (length xs) ys → xs ≡ ys
all_taken xs ys l e = sym (take_all (length xs) xs (omega arith)) ∙ e
    ∙ take_all (length xs) ys (omega (arith, l))

pub none_left : (bits : List BitId) (before now : List Bool) (n : ℕ) → length bits ≤ n
    → differing (drop n bits) (drop n before) (drop n now) ≡ []
none_left bits before now n l = ap (λ b. differing b (drop n before) (drop n now)) (drop_all n bits l)
