-- What the queue of an iApply has after each step.
use Rattle.std.proofs.Common.{◌≡◌, ℕ, Bool, true, false, cond, List, [], ◌∷◌, map, refl, sym, ap, ◌∙◌, arith}
use Rattle.std.specs.Prelude.{◌==◌, ◌||◌, All, Contains, filter, Some, None}
use Rattle.std.proofs.lemmas.List.Elements.{All-head, All-tail, All-map, All-filter, All-contains, All-nil}
use Rattle.std.proofs.lemmas.List.Elements.{All-cons}
use Rattle.ij_bits.specs.Different.{AreDifferent}
use Rattle.net_graph.specs.declared.net.BitId.{BitId}
use Rattle.net_graph.specs.declared.step.WriteBit.{WriteBit}
use Rattle.net_graph.specs.declared.step.ReadBit.{ReadBit}
use Rattle.net_graph.specs.Path.{same_place, is_in}
use Rattle.net_graph.proofs.Places.{place_self, place_is}
use Rattle.pdl_targets.specs.Rounds.{mention, put_write, put_writes, put_read, put_reads}
use Rattle.pdl_targets.specs.Laws.{AreItsRegisters, AreOnce, AreReadOnce, written_at, read_at}
use Rattle.pdl_targets.proofs.Mentioned.{mentions_are_once, each_is_mentioned}
use Rattle.std.proofs.Math.Bool.{or_comm, or_assoc}

-- ---- what holds of each write and read

pub puts_all : (P : WriteBit → Type 0) (vs ws : List WriteBit)
    → All P vs → All P ws → All P (put_writes vs ws)
puts_all P vs [] h k = h
puts_all P vs (w ∷ ws) h k =
    puts_all P (put_write vs w) ws (put_all vs (All-head P w ws k) h) (All-tail P w ws k)
  where
    put_all : (vs : List WriteBit) → P w → All P vs → All P (put_write vs w)
    put_all [] p h = All-cons P w [] p (All-nil P)
    put_all (v ∷ vs) p h = by_place (same_place v.bit w.bit) (put_all vs p (All-tail P v vs h))
      where
        by_place : (t : Bool) → All P (put_write vs w) → All P (cond t (w ∷ vs) (v ∷ put_write vs w))
        by_place true ih = All-cons P w vs p (All-tail P v vs h)
        by_place false ih = All-cons P v (put_write vs w) (All-head P v vs h) ih

pub puts_all_reads : (P : ReadBit → Type 0) (vs ws : List ReadBit)
    → All P vs → All P ws → All P (put_reads vs ws)
puts_all_reads P vs [] h k = h
puts_all_reads P vs (w ∷ ws) h k =
    puts_all_reads P (put_read vs w) ws (put_all vs (All-head P w ws k) h) (All-tail P w ws k)
  where
    put_all : (vs : List ReadBit) → P w → All P vs → All P (put_read vs w)
    put_all [] p h = All-cons P w [] p (All-nil P)
    put_all (v ∷ vs) p h = by_place (same_place v.bit w.bit) (put_all vs p (All-tail P v vs h))
      where
        by_place : (t : Bool) → All P (put_read vs w) → All P (cond t (w ∷ vs) (v ∷ put_read vs w))
        by_place true ih = All-cons P w vs p (All-tail P v vs h)
        by_place false ih = All-cons P v (put_read vs w) (All-head P v vs h) ih

-- ---- registers

or_none : (a : Bool) → a ≡ (a || false)
or_none true = refl
or_none false = refl

swapped : (a b c : Bool) → ((a || b) || c) ≡ ((a || c) || b)
swapped true b c = refl
swapped false b c = or_comm b c

twice : (a b : Bool) → (a || b) ≡ ((a || b) || a)
twice true b = refl
twice false b = or_none b

module _ (r : ℕ) where
  one_written : (vs : List WriteBit) (w : WriteBit) → is_in (map (λ w. w.bit.reg) (put_write vs w)) r
      ≡ (is_in (map (λ w. w.bit.reg) vs) r || (w.bit.reg == r))
  one_written [] w = sym (or_none (w.bit.reg == r))
  one_written (v ∷ vs) w = by_place (same_place v.bit w.bit) refl (one_written vs w)
    where
      by_place : (t : Bool) → same_place v.bit w.bit ≡ t → is_in (map (λ w. w.bit.reg) (put_write vs w)) r
          ≡ (is_in (map (λ w. w.bit.reg) vs) r || (w.bit.reg == r))
          → is_in (map (λ w. w.bit.reg) (cond t (w ∷ vs) (v ∷ put_write vs w))) r
          ≡ (is_in (map (λ w. w.bit.reg) (v ∷ vs)) r || (w.bit.reg == r))
      by_place true e ih =
          twice (w.bit.reg == r) (is_in (map (λ w. w.bit.reg) vs) r)
          ∙ ap (λ (b : BitId). ((b.reg == r) || is_in (map (λ w. w.bit.reg) vs) r) || (w.bit.reg == r))
          (sym (place_is v.bit w.bit e))
      by_place false e ih = ap (λ t. (v.bit.reg == r) || t) ih
          ∙ sym (or_assoc (v.bit.reg == r) (is_in (map (λ w. w.bit.reg) vs) r) (w.bit.reg == r))

  some_written : (vs ws : List WriteBit) → is_in (map (λ w. w.bit.reg) (put_writes vs ws)) r
      ≡ (is_in (map (λ w. w.bit.reg) vs) r || is_in (map (λ w. w.bit.reg) ws) r)
  some_written vs [] = or_none (is_in (map (λ w. w.bit.reg) vs) r)
  some_written vs (w ∷ ws) =
      some_written (put_write vs w) ws ∙ ap (λ t. t || is_in (map (λ w. w.bit.reg) ws) r) (one_written vs w)
      ∙ or_assoc (is_in (map (λ w. w.bit.reg) vs) r) (w.bit.reg == r) (is_in (map (λ w. w.bit.reg) ws) r)

  one_read : (vs : List ReadBit) (w : ReadBit) → is_in (map (λ w. w.bit.reg) (put_read vs w)) r
      ≡ (is_in (map (λ w. w.bit.reg) vs) r || (w.bit.reg == r))
  one_read [] w = sym (or_none (w.bit.reg == r))
  one_read (v ∷ vs) w = by_place (same_place v.bit w.bit) refl (one_read vs w)
    where
      by_place : (t : Bool) → same_place v.bit w.bit ≡ t → is_in (map (λ w. w.bit.reg) (put_read vs w)) r
          ≡ (is_in (map (λ w. w.bit.reg) vs) r || (w.bit.reg == r))
          → is_in (map (λ w. w.bit.reg) (cond t (w ∷ vs) (v ∷ put_read vs w))) r
          ≡ (is_in (map (λ w. w.bit.reg) (v ∷ vs)) r || (w.bit.reg == r))
      by_place true e ih =
          twice (w.bit.reg == r) (is_in (map (λ w. w.bit.reg) vs) r)
          ∙ ap (λ (b : BitId). ((b.reg == r) || is_in (map (λ w. w.bit.reg) vs) r) || (w.bit.reg == r))
          (sym (place_is v.bit w.bit e))
      by_place false e ih = ap (λ t. (v.bit.reg == r) || t) ih
          ∙ sym (or_assoc (v.bit.reg == r) (is_in (map (λ w. w.bit.reg) vs) r) (w.bit.reg == r))

  some_read : (vs ws : List ReadBit) → is_in (map (λ w. w.bit.reg) (put_reads vs ws)) r
      ≡ (is_in (map (λ w. w.bit.reg) vs) r || is_in (map (λ w. w.bit.reg) ws) r)
  some_read vs [] = or_none (is_in (map (λ w. w.bit.reg) vs) r)
  some_read vs (w ∷ ws) =
      some_read (put_read vs w) ws ∙ ap (λ t. t || is_in (map (λ w. w.bit.reg) ws) r) (one_read vs w)
      ∙ or_assoc (is_in (map (λ w. w.bit.reg) vs) r) (w.bit.reg == r) (is_in (map (λ w. w.bit.reg) ws) r)

module _ (writes : List WriteBit) (reads : List ReadBit) (registers : List ℕ)
    (h : AreItsRegisters writes reads registers) where
  pub with_writes_named : (ws : List WriteBit)
      → AreItsRegisters (put_writes writes ws) reads (mention registers (map (λ w. w.bit.reg) ws))
  with_writes_named ws = record {
    once = λ r. mentions_are_once registers (map (λ w. w.bit.reg) ws) r (h.once r);
    each = λ r. each_is_mentioned registers (map (λ w. w.bit.reg) ws) r
        ∙ ap (λ t. t || is_in (map (λ w. w.bit.reg) ws) r) (h.each r)
        ∙ swapped (is_in (map (λ w. w.bit.reg) writes) r)
        (is_in (map (λ r. r.bit.reg) reads) r) (is_in (map (λ w. w.bit.reg) ws) r)
        ∙ ap (λ t. t || is_in (map (λ r. r.bit.reg) reads) r) (sym (some_written r writes ws));
  }

  pub with_reads_named : (rs : List ReadBit)
      → AreItsRegisters writes (put_reads reads rs) (mention registers (map (λ r. r.bit.reg) rs))
  with_reads_named rs = record {
    once = λ r. mentions_are_once registers (map (λ r. r.bit.reg) rs) r (h.once r);
    each = λ r. each_is_mentioned registers (map (λ r. r.bit.reg) rs) r
        ∙ ap (λ t. t || is_in (map (λ r. r.bit.reg) rs) r) (h.each r)
        ∙ or_assoc (is_in (map (λ w. w.bit.reg) writes) r)
        (is_in (map (λ r. r.bit.reg) reads) r) (is_in (map (λ r. r.bit.reg) rs) r)
        ∙ ap (λ t. is_in (map (λ w. w.bit.reg) writes) r || t) (sym (some_read r reads rs));
  }

pub none_named : AreItsRegisters [] [] []
none_named = record { once = λ r. omega arith; each = λ r. refl }

-- ---- each bit once

others_written : (ws : List WriteBit) (b : BitId) → written_at ws b ≡ None
    → All (λ w. same_place w.bit b ≡ false) ws
others_written [] b e = All-nil (λ w. same_place w.bit b ≡ false)
others_written (w ∷ ws) b e = by_place (same_place w.bit b) refl (others_written ws b) e
  where
    by_place : (t : Bool) → same_place w.bit b ≡ t
        → (written_at ws b ≡ None → All (λ w. same_place w.bit b ≡ false) ws)
        → cond t (Some w.value) (written_at ws b) ≡ None → All (λ w. same_place w.bit b ≡ false) (w ∷ ws)
    by_place true f again e = absurd cc
    by_place false f again e = All-cons (λ w. same_place w.bit b ≡ false) w ws f (again e)

pub writes_differ : (p : WriteBit → Bool) (ws : List WriteBit) → AreOnce ws
    → AreDifferent (map (λ w. w.bit) (filter p ws))
writes_differ p [] h = tt
writes_differ p (w ∷ ws) h = by_test (p w) (writes_differ p ws h.1)
  where
    other : Contains (map (λ (w : WriteBit). w.bit) (filter p ws)) w.bit → ⊥
    other i =
        let off : same_place w.bit w.bit ≡ false =
        All-contains (λ c. same_place c w.bit ≡ false) (map (λ (w : WriteBit). w.bit) (filter p ws)) w.bit
        (All-map (λ c. same_place c w.bit ≡ false) (λ (w : WriteBit). w.bit) (filter p ws)
        (All-filter p (λ v. same_place v.bit w.bit ≡ false) ws (others_written ws w.bit h.0))) i in
        let on = place_self w.bit in absurd cc

    by_test : (t : Bool) → AreDifferent (map (λ (w : WriteBit). w.bit) (filter p ws))
        → AreDifferent (map (λ (w : WriteBit). w.bit) (cond t (w ∷ filter p ws) (filter p ws)))
    by_test true ih = (other, ih)
    by_test false ih = ih

others_read : (ws : List ReadBit) (b : BitId) → read_at ws b ≡ None → All (λ w. same_place w.bit b ≡ false) ws
others_read [] b e = All-nil (λ w. same_place w.bit b ≡ false)
others_read (w ∷ ws) b e = by_place (same_place w.bit b) refl (others_read ws b) e
  where
    by_place : (t : Bool) → same_place w.bit b ≡ t
        → (read_at ws b ≡ None → All (λ w. same_place w.bit b ≡ false) ws)
        → cond t (Some w) (read_at ws b) ≡ None → All (λ w. same_place w.bit b ≡ false) (w ∷ ws)
    by_place true f again e = absurd cc
    by_place false f again e = All-cons (λ w. same_place w.bit b ≡ false) w ws f (again e)

pub reads_differ : (p : ReadBit → Bool) (ws : List ReadBit) → AreReadOnce ws
    → AreDifferent (map (λ w. w.bit) (filter p ws))
reads_differ p [] h = tt
reads_differ p (w ∷ ws) h = by_test (p w) (reads_differ p ws h.1)
  where
    other : Contains (map (λ (w : ReadBit). w.bit) (filter p ws)) w.bit → ⊥
    other i =
        let off : same_place w.bit w.bit ≡ false =
        All-contains (λ c. same_place c w.bit ≡ false) (map (λ (w : ReadBit). w.bit) (filter p ws)) w.bit
        (All-map (λ c. same_place c w.bit ≡ false) (λ (w : ReadBit). w.bit) (filter p ws)
        (All-filter p (λ v. same_place v.bit w.bit ≡ false) ws (others_read ws w.bit h.0))) i in
        let on = place_self w.bit in absurd cc

    by_test : (t : Bool) → AreDifferent (map (λ (w : ReadBit). w.bit) (filter p ws))
        → AreDifferent (map (λ (w : ReadBit). w.bit) (cond t (w ∷ filter p ws) (filter p ws)))
    by_test true ih = (other, ih)
    by_test false ih = ih
