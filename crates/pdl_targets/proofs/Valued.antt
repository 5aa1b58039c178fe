-- The bits of a value, one by one, and the writes and reads of a step.
use Rattle.std.proofs.Common.{◌≡◌, ℕ, zero, suc, ◌+◌, ◌<◌, ◌≤◌, Bool, true, false, cond, List, [], ◌∷◌, ◌++◌}
use Rattle.std.proofs.Common.{length, get_or, drop, Option, Some, None, refl, sym, ap, subst, ◌∙◌, arith}
use Rattle.std.proofs.Math.Seq.{drop-cons}
use Rattle.ij_bits.specs.declared.tern.Tern.{Tern}
use Rattle.ij_text.specs.declared.Place.{Place}
use Rattle.ij_bits.specs.BitLists.{bits_of}
use Rattle.ij_text.specs.Numbers.{Written, InDecimal, InBits, bits_in, tern_bits}
use Rattle.ij_text.proofs.Widths.{open_get, read_bit as as_read}
use Rattle.ij_text.proofs.Numbers.{tern_length}
use Rattle.std.proofs.lemmas.List.{length-map, append-nil}
use Rattle.std.proofs.lemmas.List.FromFn.{length-map-range_with_len}
use Rattle.net_graph.specs.declared.net.Net.{Net}
use Rattle.net_graph.specs.declared.net.Spot.{Spot}
use Rattle.net_graph.specs.declared.net.Spot.TheVariants.{Held}
use Rattle.pdl_targets.specs.declared.picks.Picked.{Picked}
use Rattle.net_graph.specs.declared.step.WriteBit.{WriteBit}
use Rattle.net_graph.specs.declared.step.ReadBit.{ReadBit}
use Rattle.pdl_targets.specs.declared.fault.TargetFault.{TargetFault}
use Rattle.pdl_targets.specs.Seen.{Refuses}
use Rattle.pdl_targets.specs.Targets.{Found, Is, Fails, IsValueWide, compared, fitted, found_then, is_wide}
use Rattle.pdl_targets.specs.Targets.{one_read, one_write, or_skip, read_bit, reads_of, write_bit, writes_of}
use Rattle.pdl_targets.specs.Targets.{written}
use Rattle.pdl_targets.proofs.Finding.{after, after_more, refused_as, refused_more}
use Rattle.ij_bits.proofs.WordBits.{length-bits_of}

pub value_read : (t : Tern) (i : ℕ) (result : Option Bool) → i < length t.value.items
    → (get_or t.care.items i false ≡ true → result ≡ Some (get_or t.value.items i false))
    → (get_or t.care.items i false ≡ false → result ≡ None)
    → result ≡ get_or (tern_bits t) i (Some false)
value_read t i result h counts free = as_read result (get_or t.value.items i false)
    (get_or t.care.items i false) counts free ∙ sym (open_get t.value.items t.care.items i t.same_length h)

-- any bit
abbrev pub first_spot : Spot
first_spot = Held (record { reg = 0; pos = 0 })

next_spot : (spots : List Spot) (i : ℕ) (spot : Spot) → i < length spots → spot ≡ get_or spots i first_spot
    → drop i spots ≡ spot ∷ drop (i + 1) spots
next_spot spots i spot h is =
    let e : suc i ≡ i + 1 = omega arith in
    drop-cons spots i first_spot h ∙ ap (λ y. y ∷ drop (suc i) spots) (sym is)
    ∙ ap (λ k. spot ∷ drop k spots) e

next_value : (vs : List (Option Bool)) (i : ℕ) (v : Option Bool) → i < length vs
    → v ≡ get_or vs i (Some false) → drop i vs ≡ v ∷ drop (i + 1) vs
next_value vs i v h is =
    let e : suc i ≡ i + 1 = omega arith in
    drop-cons vs i (Some false) h ∙ ap (λ y. y ∷ drop (suc i) vs) (sym is) ∙ ap (λ k. v ∷ drop k vs) e

nothing_left : {A : Type 0} (xs : List A) (i : ℕ) → length xs ≤ i → drop i xs ≡ []
nothing_left [] zero h = refl
nothing_left [] (suc i) h = refl
nothing_left (x ∷ xs) zero h = absurd (omega (arith, h))
nothing_left (x ∷ xs) (suc i) h = nothing_left xs i (omega (arith, h))

-- a bit of a target with the value for it
pub record Pair (spots : List Spot) (values : List (Option Bool)) (i : ℕ)
    (spot : Spot) (v : Option Bool) : Type 0 where
  pub below : i < length spots
  pub many : length values ≡ length spots
  pub spot_is : spot ≡ get_or spots i first_spot
  pub value_is : v ≡ get_or values i (Some false)

module _ (net : Net) (at : Place) (spots : List Spot) (values : List (Option Bool)) where
  writes_next : (i : ℕ) (spot : Spot) (v : Option Bool) → Pair spots values i spot v
      → writes_of net at (drop i spots) (drop i values)
      ≡ or_skip (one_write net at spot v) (writes_of net at (drop (i + 1) spots) (drop (i + 1) values))
  writes_next i spot v p =
      ap (λ l. writes_of net at l (drop i values)) (next_spot spots i spot p.below p.spot_is)
      ∙ ap (writes_of net at (spot ∷ drop (i + 1) spots))
      (next_value values i v (omega (arith, p.below, p.many)) p.value_is)

  pub skipped : (i : ℕ) (spot : Spot) (ws now : List WriteBit) (all : Found (List WriteBit))
      → Pair spots values i spot None → now ≡ ws
      → after ws (writes_of net at (drop i spots) (drop i values)) ≡ all
      → after now (writes_of net at (drop (i + 1) spots) (drop (i + 1) values)) ≡ all
  skipped i spot ws now all p n e =
      ap (λ l. after l (writes_of net at (drop (i + 1) spots) (drop (i + 1) values))) n
      ∙ ap (after ws) (sym (writes_next i spot None p)) ∙ e

  pub written_next : (i : ℕ) (spot : Spot) (v : Bool) (o : Option Picked) (w : WriteBit)
      (ws now : List WriteBit) (all : Found (List WriteBit)) → Pair spots values i spot (Some v)
      → o ≡ written spot → write_bit net at o v ≡ Is w → now ≡ ws ++ w ∷ []
      → after ws (writes_of net at (drop i spots) (drop i values)) ≡ all
      → after now (writes_of net at (drop (i + 1) spots) (drop (i + 1) values)) ≡ all
  written_next i spot v o w ws now all p is f n e =
      ap (λ l. after l (writes_of net at (drop (i + 1) spots) (drop (i + 1) values))) n
      ∙ sym (after_more ws (write_bit net at (written spot) v) w (writes_of net at (drop (i + 1) spots)
      (drop (i + 1) values)) (ap (λ x. write_bit net at x v) (sym is) ∙ f))
      ∙ ap (after ws) (sym (writes_next i spot (Some v) p)) ∙ e

  pub write_refused : (i : ℕ) (spot : Spot) (v : Bool) (o : Option Picked) (ws : List WriteBit)
      (all : Found (List WriteBit)) (fault : TargetFault) → Pair spots values i spot (Some v)
      → o ≡ written spot → Refuses (write_bit net at o v) fault
      → after ws (writes_of net at (drop i spots) (drop i values)) ≡ all → Refuses all fault
  write_refused i spot v o ws all fault p is f e =
      refused_as all (after ws (or_skip (one_write net at spot (Some v))
      (writes_of net at (drop (i + 1) spots) (drop (i + 1) values)))) fault
      (sym e ∙ ap (after ws) (writes_next i spot (Some v) p))
      (refused_more ws (write_bit net at (written spot) v)
      (writes_of net at (drop (i + 1) spots) (drop (i + 1) values)) fault
      (refused_as (write_bit net at (written spot) v) (write_bit net at o v) fault
      (ap (λ x. write_bit net at x v) (sym is)) f))

  pub all_written : (i : ℕ) (ws : List WriteBit) (all : Found (List WriteBit)) → length spots ≤ i
      → after ws (writes_of net at (drop i spots) (drop i values)) ≡ all → all ≡ Is ws
  all_written i ws all h e =
      sym e ∙ ap (λ l. after ws (writes_of net at l (drop i values)))
      (nothing_left spots i h) ∙ ap Is (append-nil ws)

module _ (net : Net) (at : Place) (number : ℕ) (spots : List Spot) (values : List (Option Bool)) where
  reads_next : (i : ℕ) (spot : Spot) (v : Option Bool) → Pair spots values i spot v
      → reads_of net at number i (drop i spots) (drop i values) ≡ or_skip (one_read net at number i spot v)
      (reads_of net at number (i + 1) (drop (i + 1) spots) (drop (i + 1) values))
  reads_next i spot v p =
      ap (λ l. reads_of net at number i l (drop i values)) (next_spot spots i spot p.below p.spot_is)
      ∙ ap (reads_of net at number i (spot ∷ drop (i + 1) spots))
      (next_value values i v (omega (arith, p.below, p.many)) p.value_is)

  pub not_read : (i : ℕ) (spot : Spot) (rs now : List ReadBit) (all : Found (List ReadBit))
      → Pair spots values i spot None → now ≡ rs
      → after rs (reads_of net at number i (drop i spots) (drop i values)) ≡ all
      → after now (reads_of net at number (i + 1) (drop (i + 1) spots) (drop (i + 1) values)) ≡ all
  not_read i spot rs now all p n e =
      ap (λ l. after l (reads_of net at number (i + 1) (drop (i + 1) spots) (drop (i + 1) values))) n
      ∙ ap (after rs) (sym (reads_next i spot None p)) ∙ e

  pub read_next : (i : ℕ) (spot : Spot) (v : Bool) (o : Option Picked) (r : ReadBit) (rs now : List ReadBit)
      (all : Found (List ReadBit)) → Pair spots values i spot (Some v) → o ≡ compared net spot
      → read_bit net at number i o v ≡ Is r → now ≡ rs ++ r ∷ []
      → after rs (reads_of net at number i (drop i spots) (drop i values)) ≡ all
      → after now (reads_of net at number (i + 1) (drop (i + 1) spots) (drop (i + 1) values)) ≡ all
  read_next i spot v o r rs now all p is f n e =
      ap (λ l. after l (reads_of net at number (i + 1) (drop (i + 1) spots) (drop (i + 1) values))) n
      ∙ sym (after_more rs (read_bit net at number i (compared net spot) v) r (reads_of net at number (i + 1)
      (drop (i + 1) spots) (drop (i + 1) values)) (ap (λ x. read_bit net at number i x v) (sym is) ∙ f))
      ∙ ap (after rs) (sym (reads_next i spot (Some v) p)) ∙ e

  pub read_refused : (i : ℕ) (spot : Spot) (v : Bool) (o : Option Picked) (rs : List ReadBit)
      (all : Found (List ReadBit)) (fault : TargetFault) → Pair spots values i spot (Some v)
      → o ≡ compared net spot → Refuses (read_bit net at number i o v) fault
      → after rs (reads_of net at number i (drop i spots) (drop i values)) ≡ all → Refuses all fault
  read_refused i spot v o rs all fault p is f e =
      refused_as all (after rs (or_skip (one_read net at number i spot (Some v))
      (reads_of net at number (i + 1) (drop (i + 1) spots) (drop (i + 1) values)))) fault
      (sym e ∙ ap (after rs) (reads_next i spot (Some v) p))
      (refused_more rs (read_bit net at number i (compared net spot) v)
      (reads_of net at number (i + 1) (drop (i + 1) spots) (drop (i + 1) values)) fault
      (refused_as (read_bit net at number i (compared net spot) v) (read_bit net at number i o v) fault
      (ap (λ x. read_bit net at number i x v) (sym is)) f))

  pub all_read : (i : ℕ) (rs : List ReadBit) (all : Found (List ReadBit)) → length spots ≤ i
      → after rs (reads_of net at number i (drop i spots) (drop i values)) ≡ all → all ≡ Is rs
  all_read i rs all h e =
      sym e ∙ ap (λ l. after rs (reads_of net at number i l (drop i values)))
      (nothing_left spots i h) ∙ ap Is (append-nil rs)

-- ---- the width of a value

in_length : (width : ℕ) (w : Written) → length (bits_in width w) ≡ width
in_length width (InDecimal n) = length-map (bits_of width n) (λ bit. Some bit) ∙ length-bits_of width n
in_length width (InBits bits) = length-map-range_with_len (λ k. get_or bits k (Some false)) 0 width

abbrev HasWidth : ℕ → Found (List (Option Bool)) → Type 0
HasWidth width (Is vs) = length vs ≡ width
HasWidth width (Fails fault) = Unit {0}

fitted_width : (at : Place) (width : ℕ) (w : Written) → HasWidth width (fitted at width w)
fitted_width at width w = by_test (is_wide width w)
  where
    by_test : (t : Bool) → HasWidth width (cond t (Fails (IsValueWide at)) (Is (bits_in width w)))
    by_test true = tt
    by_test false = in_length width w

then_width : (at : Place) (width : ℕ) (x : Found Written) → HasWidth width (found_then x (fitted at width))
then_width at width (Is w) = fitted_width at width w
then_width at width (Fails fault) = tt

pub value_width : (at : Place) (width : ℕ) (x : Found Written) (t : Tern)
    → found_then x (fitted at width) ≡ Is (tern_bits t) → length t.value.items ≡ width
value_width at width x t e = sym (tern_length t) ∙ subst (HasWidth width) e (then_width at width x)
