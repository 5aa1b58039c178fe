-- Reads put in order are the same reads, and few.
use Rattle.std.proofs.Common.{◌≡◌, ◌≢◌, ◌⊎◌, inl, inr, ◌<◌, ◌≤◌, ◌+◌, ℕ, zero, suc, ◌==◌, Bool, true, false}
use Rattle.std.proofs.Common.{◌&&◌, cond, List, [], ◌∷◌, ◌++◌, length, drop, refl, sym, ap, ◌∙◌, subst, arith}
use Rattle.std.proofs.Common.{length-append}
use Rattle.std.specs.Prelude.{map, filter, sum, All}
use Rattle.std.proofs.Math.Seq.{drop-cons}
use Rattle.std.proofs.lemmas.Bool.Decides.{eqb_tells}
use Rattle.std.proofs.lemmas.List.{length-map}
use Rattle.std.proofs.lemmas.List.Sums.{sum_by-cons}
use Rattle.std.proofs.lemmas.List.Elements.{All-head, All-tail, All-map, All-weaker, filter-append}
use Rattle.net_graph.specs.Named.{IsBitOf, bits_from, width_of}
use Rattle.net_graph.specs.Path.{same_place}
use Rattle.net_graph.specs.Steps.{IsDataBit}
use Rattle.net_graph.specs.declared.net.BitId.{BitId}
use Rattle.net_graph.specs.declared.net.Net.{Net}
use Rattle.net_graph.specs.declared.net.Reg.{Reg}
use Rattle.net_graph.specs.declared.step.ReadBit.{ReadBit}
use Rattle.net_graph.proofs.Places.{place_self}
use Rattle.direct_report.specs.Laws.{OrderKeepsReads, ReadsAreFew}
use Rattle.direct_report.specs.Report.{all_bits, bits_of_registers, in_order, reads_at, reads_on}
use Rattle.direct_report.proofs.Finding.{at, once_at}
use Rattle.direct_report.proofs.Lining.{told_at}
use Rattle.net_graph.proofs.PlainNet.{length-bits_from}
use Rattle.net_graph.proofs.Widths.{register_there}

abbrev Read : Type 0
Read = ReadBit × Bool

-- ---- counts

abbrev count : {A : Type 0} → (A → Bool) → List A → ℕ
count test xs = length (filter test xs)

count_next : {A : Type 0} (test : A → Bool) (x : A) (xs : List A) (t : Bool) → test x ≡ t
    → count test (x ∷ xs) ≡ cond t (suc (count test xs)) (count test xs)
count_next test x xs true e = ap (λ (u : Bool). length (cond u (x ∷ filter test xs) (filter test xs))) e
count_next test x xs false e = ap (λ (u : Bool). length (cond u (x ∷ filter test xs) (filter test xs))) e

count_both : {A : Type 0} (test : A → Bool) (xs ys : List A)
    → count test (xs ++ ys) ≡ count test xs + count test ys
count_both test xs ys =
    ap length (filter-append test xs ys) ∙ length-append (filter test xs) (filter test ys)

count_all : {A : Type 0} (xs : List A) → count (λ x. true) xs ≡ length xs
count_all [] = refl
count_all (x ∷ xs) = ap suc (count_all xs)

-- how often a bit is among others
abbrev times : BitId → List BitId → ℕ
times c bs = count (λ b. same_place b c) bs

-- ---- each bit of the network is there once

abbrev bit_at : ℕ → ℕ → BitId
bit_at r k = record { reg = r; pos = k }

other_reg : (c : BitId) (r k : ℕ) → r ≢ c.reg → same_place (bit_at r k) c ≡ false
other_reg c r k h = by_reg (eqb_tells r c.reg)
  where
    by_reg : (((r == c.reg) ≡ true) × (r ≡ c.reg)) ⊎ (((r == c.reg) ≡ false) × (r ≢ c.reg))
        → same_place (bit_at r k) c ≡ false
    by_reg (inl e) = absurd (h e.1)
    by_reg (inr e) = ap (λ (t : Bool). t && (k == c.pos)) e.0

other_pos : (c : BitId) (r k : ℕ) → k ≢ c.pos → same_place (bit_at r k) c ≡ false
other_pos c r k h = by_pos (eqb_tells k c.pos)
  where
    and_false : (t : Bool) → (t && false) ≡ false
    and_false true = refl
    and_false false = refl

    by_pos : (((k == c.pos) ≡ true) × (k ≡ c.pos)) ⊎ (((k == c.pos) ≡ false) × (k ≢ c.pos))
        → same_place (bit_at r k) c ≡ false
    by_pos (inl e) = absurd (h e.1)
    by_pos (inr e) = ap (λ (t : Bool). (r == c.reg) && t) e.0 ∙ and_false (r == c.reg)

-- not in another register
elsewhere : (c : BitId) (r k n : ℕ) → r ≢ c.reg → times c (bits_from r k n) ≡ 0
elsewhere c r k zero h = refl
elsewhere c r k (suc n) h =
    count_next (λ b. same_place b c) (bit_at r k) (bits_from r (suc k) n) false (other_reg c r k h)
    ∙ elsewhere c r (suc k) n h

-- nor after its place
following : (c : BitId) (r k n : ℕ) → c.pos < k → times c (bits_from r k n) ≡ 0
following c r k zero h = refl
following c r k (suc n) h =
    count_next (λ b. same_place b c) (bit_at r k) (bits_from r (suc k) n) false
    (other_pos c r k (λ e. omega (arith, e, h)))
    ∙ following c r (suc k) n (omega (arith, h))

-- but once in its register
at_its_place : (c : BitId) (r k n : ℕ) → r ≡ c.reg → k ≡ c.pos → times c (bits_from r k (suc n)) ≡ 1
at_its_place c r k n e f =
    let same : same_place (bit_at r k) c ≡ true = ap (λ (q : ℕ). same_place (bit_at q k) c) e
    ∙ ap (λ (p : ℕ). same_place (bit_at c.reg p) c) f ∙ place_self c in
    count_next (λ b. same_place b c) (bit_at r k) (bits_from r (suc k) n) true same
    ∙ ap suc (following c r (suc k) n (omega (arith, f)))

before_its_place : (c : BitId) (r k n : ℕ) → k ≢ c.pos
    → times c (bits_from r (suc k) n) ≡ 1 → times c (bits_from r k (suc n)) ≡ 1
before_its_place c r k n h rest =
    count_next (λ b. same_place b c) (bit_at r k) (bits_from r (suc k) n) false (other_pos c r k h) ∙ rest

in_register : (c : BitId) (r k n : ℕ) → r ≡ c.reg → k ≤ c.pos → c.pos < k + n → times c (bits_from r k n) ≡ 1
in_register c r k zero e low high = absurd (omega (arith, low, high))
in_register c r k (suc n) e low high =
    elim (eqb_tells k c.pos) [
      | inl f ↦ at_its_place c r k n e f.1
      | inr f ↦ let place = f.1 in before_its_place c r k n place
          (in_register c r (suc k) n e (omega (arith, low, place)) (omega (arith, high)))
    ]

later_registers : (net : Net) (c : BitId) (r n : ℕ) → c.reg < r → times c (bits_of_registers net r n) ≡ 0
later_registers net c r zero h = refl
later_registers net c r (suc n) h =
    let here = elsewhere c r 0 (width_of net r) (λ e. omega (arith, e, h)) in
    let rest = later_registers net c (suc r) n (omega (arith, h)) in
    let both = count_both (λ b. same_place b c)
    (bits_from r 0 (width_of net r)) (bits_of_registers net (suc r) n) in
    omega (arith, here, rest, both)

registers_both : (net : Net) (c : BitId) (r n : ℕ) → times c (bits_of_registers net r (suc n))
    ≡ times c (bits_from r 0 (width_of net r)) + times c (bits_of_registers net (suc r) n)
registers_both net c r n =
    count_both (λ b. same_place b c) (bits_from r 0 (width_of net r)) (bits_of_registers net (suc r) n)

in_this_register : (net : Net) (c : BitId) (r n : ℕ) → IsBitOf net c → r ≡ c.reg
    → times c (bits_of_registers net r (suc n)) ≡ 1
in_this_register net c r n is place =
    let fits : c.pos < width_of net r = subst (λ (q : ℕ). c.pos < width_of net q) (sym place) is in
    let here = in_register c r 0 (width_of net r) place (omega arith) (omega (arith, fits)) in
    let rest = later_registers net c (suc r) n (omega (arith, place)) in
    omega (arith, registers_both net c r n, here, rest)

in_later_register : (net : Net) (c : BitId) (r n : ℕ) → r ≢ c.reg
    → times c (bits_of_registers net (suc r) n) ≡ 1 → times c (bits_of_registers net r (suc n)) ≡ 1
in_later_register net c r n place rest =
    omega (arith, registers_both net c r n, elsewhere c r 0 (width_of net r) place, rest)

in_registers : (net : Net) (c : BitId) (r n : ℕ) → IsBitOf net c → r ≤ c.reg → c.reg < r + n
    → times c (bits_of_registers net r n) ≡ 1
in_registers net c r zero is low high = absurd (omega (arith, low, high))
in_registers net c r (suc n) is low high =
    elim (eqb_tells r c.reg) [
      | inl f ↦ in_this_register net c r n is f.1
      | inr f ↦ let place = f.1 in in_later_register net c r n place
          (in_registers net c (suc r) n is (omega (arith, low, place)) (omega (arith, high)))
    ]

each_once : (net : Net) (c : BitId) → IsBitOf net c → times c (all_bits net) ≡ 1
each_once net c is =
    in_registers net c 0 (length net.regs.items) is (omega arith) (omega (arith, register_there net c is))

-- ---- so each read is there once

no_reads : (bs : List BitId) → reads_on [] bs ≡ []
no_reads [] = refl
no_reads (b ∷ bs) = no_reads bs

-- how many reads on one bit pass a test, with one read more
at_more : (test : Read → Bool) (x : Read) (xs : List Read) (b : BitId) (p t : Bool) → same_place b x.0.bit ≡ p
    → test x ≡ t → count test (reads_at (x ∷ xs) b) ≡ cond p
    (cond t (suc (count test (reads_at xs b))) (count test (reads_at xs b))) (count test (reads_at xs b))
at_more test x xs b true t e f = ap (λ (q : Bool). count test (cond q (x ∷ reads_at xs b) (reads_at xs b))) e
    ∙ count_next test x (reads_at xs b) t f
at_more test x xs b false t e f = ap (λ (q : Bool). count test (cond q (x ∷ reads_at xs b) (reads_at xs b))) e

on_more : (test : Read → Bool) (x : Read) (xs : List Read) (b : BitId) (bs : List BitId) (p t : Bool)
    → same_place b x.0.bit ≡ p → test x ≡ t
    → count test (reads_on (x ∷ xs) bs) ≡ cond t (times x.0.bit bs) 0 + count test (reads_on xs bs)
    → count test (reads_on (x ∷ xs) (b ∷ bs))
    ≡ cond t (times x.0.bit (b ∷ bs)) 0 + count test (reads_on xs (b ∷ bs))
on_more test x xs b bs true true e f rest =
    omega (
      arith,
      rest,
      count_both test (reads_at (x ∷ xs) b) (reads_on (x ∷ xs) bs),
      count_both test (reads_at xs b) (reads_on xs bs),
      at_more test x xs b true true e f,
      count_next (λ c. same_place c x.0.bit) b bs true e,
    )
on_more test x xs b bs true false e f rest =
    omega (
      arith,
      rest,
      count_both test (reads_at (x ∷ xs) b) (reads_on (x ∷ xs) bs),
      count_both test (reads_at xs b) (reads_on xs bs),
      at_more test x xs b true false e f,
    )
on_more test x xs b bs false true e f rest =
    omega (
      arith,
      rest,
      count_both test (reads_at (x ∷ xs) b) (reads_on (x ∷ xs) bs),
      count_both test (reads_at xs b) (reads_on xs bs),
      at_more test x xs b false true e f,
      count_next (λ c. same_place c x.0.bit) b bs false e,
    )
on_more test x xs b bs false false e f rest =
    omega (
      arith,
      rest,
      count_both test (reads_at (x ∷ xs) b) (reads_on (x ∷ xs) bs),
      count_both test (reads_at xs b) (reads_on xs bs),
      at_more test x xs b false false e f,
    )

none_of : (t : Bool) → 0 ≡ cond t 0 0 + 0
none_of true = refl
none_of false = refl

read_more : (test : Read → Bool) (x : Read) (xs : List Read) (t : Bool) → test x ≡ t → (bs : List BitId)
    → count test (reads_on (x ∷ xs) bs) ≡ cond t (times x.0.bit bs) 0 + count test (reads_on xs bs)
read_more test x xs t f [] = none_of t
read_more test x xs t f (b ∷ bs) =
    on_more test x xs b bs (same_place b x.0.bit) t refl f (read_more test x xs t f bs)

one_of : (t : Bool) (n m : ℕ) → n ≡ 1 → cond t n 0 + m ≡ cond t (suc m) m
one_of true n m e = omega (arith, e)
one_of false n m e = omega arith

reads_kept : (test : Read → Bool) (bs : List BitId) (xs : List Read) → All (λ x. times x.0.bit bs ≡ 1) xs
    → count test (reads_on xs bs) ≡ count test xs
reads_kept test bs [] a = ap (λ (ys : List Read). count test ys) (no_reads bs)
reads_kept test bs (x ∷ xs) a =
    let rest = reads_kept test bs xs (All-tail (λ x. times x.0.bit bs ≡ 1) x xs a) in
    let once = All-head (λ x. times x.0.bit bs ≡ 1) x xs a in
    read_more test x xs (test x) refl bs
    ∙ one_of (test x) (times x.0.bit bs) (count test (reads_on xs bs)) once
    ∙ ap (λ (n : ℕ). cond (test x) (suc n) n) rest
    ∙ sym (count_next test x xs (test x) refl)

pub order_keeps_reads : OrderKeepsReads
order_keeps_reads net reads there test =
    reads_kept test (all_bits net) reads (All-weaker (λ (x : Read). IsBitOf net x.0.bit)
    (λ (x : Read). times x.0.bit (all_bits net) ≡ 1) (λ x is. each_once net x.0.bit is) reads there)

-- ---- few

fewer : (xs : List Read) (bs : List BitId)
    → ((b : BitId) → length (reads_at xs b) ≤ 1) → length (reads_on xs bs) ≤ length bs
fewer xs [] h = omega arith
fewer xs (b ∷ bs) h = omega (arith, length-append (reads_at xs b) (reads_on xs bs), h b, fewer xs bs h)

all_wide : (net : Net) (r n : ℕ) → r + n ≡ length net.regs.items
    → length (bits_of_registers net r n) ≡ sum (drop r (map (λ reg. reg.width) net.regs.items))
all_wide net r zero e = sym (ap sum (gone (map (λ reg. reg.width) net.regs.items) r
    (omega (arith, e, length-map net.regs.items (λ (reg : Reg). reg.width)))))
  where
    gone : (xs : List ℕ) (j : ℕ) → length xs ≤ j → drop j xs ≡ []
    gone [] zero k = refl
    gone [] (suc j) k = refl
    gone (x ∷ xs) zero k = absurd (omega (arith, k))
    gone (x ∷ xs) (suc j) k = gone xs j (omega (arith, k))
all_wide net r (suc n) e =
    let ws = map (λ (reg : Reg). reg.width) net.regs.items in
    let within : r < length ws = omega (arith, e, length-map net.regs.items (λ (reg : Reg). reg.width)) in
    let rest = all_wide net (suc r) n (omega (arith, e)) in
    let next : sum (drop r ws) ≡ width_of net r + sum (drop (suc r) ws) =
    ap sum (drop-cons ws r 0 within) ∙ sum_by-cons (λ x. x) (width_of net r) (drop (suc r) ws) in
    omega (
      arith,
      rest,
      next,
      length-bits_from r 0 (width_of net r),
      length-append (bits_from r 0 (width_of net r)) (bits_of_registers net (suc r) n),
    )

pub reads_are_few : ReadsAreFew
reads_are_few net g n is =
    let quiet_read : ReadBit → Read = λ r. (r, false) in
    let xs : List Read = map (λ (r : ReadBit). (r, false)) g.reads in
    let there : All (λ (x : Read). IsBitOf net x.0.bit) xs = All-map (λ (x : Read). IsBitOf net x.0.bit)
    (λ (r : ReadBit). (r, false)) g.reads (All-weaker (λ (r : ReadBit). IsDataBit net r.bit)
    (λ (r : ReadBit). IsBitOf net r.bit) (λ r d. d.there) g.reads is.read) in
    let same = order_keeps_reads net xs there (λ x. true) in
    let one : (b : BitId)
    → length (reads_at xs b) ≤ 1 = λ b. omega (
      arith,
      ap length (told_at (λ r. false) g.reads b),
      length-map (filter (at b) g.reads) quiet_read,
      once_at g.reads b is.read_once,
    ) in
    let few = fewer xs (all_bits net) one in
    let size = all_wide net 0 (length net.regs.items) (omega arith) in
    omega (
      arith,
      same,
      count_all xs,
      count_all (in_order net xs),
      few,
      size,
      n.bits_within_limit,
      length-map g.reads quiet_read,
    )
