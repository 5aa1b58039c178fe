-- What is written and compared are bits of the network.
use Rattle.std.proofs.Common.{◌≡◌, ℕ, zero, suc, ◌+◌, ◌-◌, ◌<◌, Bool, true, false, cond, List, [], ◌∷◌}
use Rattle.std.proofs.Common.{length, map, get_or, drop, Option, Some, None, refl, sym, ap, ◌∙◌, subst, arith}
use Rattle.std.specs.Prelude.{◌==◌, ◌&&◌, not, nat_lt, All}
use Rattle.std.specs.Str.{bytes_eq}
use Rattle.std.proofs.lemmas.List.Elements.{All-head, All-tail, All-take, All-drop, All-weaker, All-nil}
use Rattle.std.proofs.lemmas.List.Elements.{All-cons}
use Rattle.ij_text.specs.declared.Place.{Place}
use Rattle.ij_text.specs.Options.{or_else}
use Rattle.net_graph.specs.declared.net.BitId.{BitId}
use Rattle.net_graph.specs.declared.net.Net.{Net}
use Rattle.net_graph.specs.declared.net.Reg.{Reg}
use Rattle.net_graph.specs.declared.net.Sig.{Sig}
use Rattle.net_graph.specs.declared.net.Sig.TheVariants.{Absent, Zero, One, Bit, Out}
use Rattle.net_graph.specs.declared.net.Spot.{Spot}
use Rattle.net_graph.specs.declared.net.Spot.TheVariants.{Held, Inward, Outward}
use Rattle.net_graph.specs.declared.net.Thing.{Thing}
use Rattle.net_graph.specs.declared.step.WriteBit.{WriteBit}
use Rattle.net_graph.specs.declared.step.ReadBit.{ReadBit}
use Rattle.net_graph.specs.Named.{IsBitOf, IsSpotOf, width_of}
use Rattle.net_graph.specs.Nets.{IsNet, IsReg, IsThing}
use Rattle.net_graph.specs.Path.{is_select}
use Rattle.net_graph.specs.Signals.{capture_signal}
use Rattle.net_graph.specs.Steps.{IsDataBit, IsReadable}
use Rattle.pdl_parser.specs.Values.{AValue, ATarget}
use Rattle.pdl_targets.specs.declared.picks.Picked.{Picked}
use Rattle.pdl_targets.specs.Targets.{AFault, Found, Is, Fails, found_then, and_more, unless_select}
use Rattle.pdl_targets.specs.Targets.{select_written, select_compared, captured_select, same_source, differ}
use Rattle.pdl_targets.specs.Targets.{is_inverted, capturing, captured_from, picked_if_captures, write_bit}
use Rattle.pdl_targets.specs.Targets.{read_bit, written, compared, writes_of, reads_of, named, target_thing}
use Rattle.pdl_targets.specs.Targets.{thing_in, thing_of, thing_at, spots_of, has_index, position_of}
use Rattle.pdl_targets.specs.Targets.{number_at, fitted}
use Rattle.pdl_targets.specs.Laws.{OfFound, WriteNoSelect, ReadNoSelect, WritesAreOfTheNetwork}
use Rattle.pdl_targets.specs.Laws.{ReadsAreOfTheNetwork}
use Rattle.pdl_targets.proofs.Selects.{then_of, writes_select_nothing, reads_select_nothing}

-- ---- values that are found

-- a value is such one, if there is one
abbrev pub OfOption : {A : Type 0} → (A → Type 0) → Option A → Type 0
OfOption P None = Unit {0}
OfOption P (Some a) = P a

pub then_with : {A B : Type 0} (P : A → Type 0) (Q : B → Type 0) (x : Found A) (next : A → Found B)
    → OfFound P x → ((a : A) → P a → OfFound Q (next a)) → OfFound Q (found_then x next)
then_with P Q (Is a) next p h = h a p
then_with P Q (Fails fault) next p h = tt

pub both_found : {A : Type 0} (P Q R : A → Type 0) → ((a : A) → P a → Q a → R a) → (x : Found A)
    → OfFound P x → OfFound Q x → OfFound R x
both_found P Q R f (Is a) p q = f a p q
both_found P Q R f (Fails fault) p q = tt

found_where : {A : Type 0} (P : A → Type 0) (t : Bool) (a : A) (fault : AFault) → P a
    → OfFound P (cond t (Is a) (Fails fault))
found_where P true a fault p = p
found_where P false a fault p = tt

more_found : {A : Type 0} (P : A → Type 0) (x : Found A) (more : Found (List A)) → OfFound P x
    → OfFound (All P) more → OfFound (All P) (and_more x more)
more_found P (Is a) (Is more) p ps = All-cons P a more p ps
more_found P (Is a) (Fails fault) p ps = tt
more_found P (Fails fault) more p ps = tt

if_no_select : {A : Type 0} (P : A → Type 0) (at : Place) (o : Option BitId) (a : A)
    → P a → OfFound P (unless_select at o a)
if_no_select P at None a p = p
if_no_select P at (Some b) a p = tt

-- ---- things

pub found_thing : (P : Thing → Type 0) (things : List Thing) (node : ℕ) (name : List ℕ) → All P things
    → OfOption P (thing_in things node name)
found_thing P [] node name h = tt
found_thing P (t ∷ ts) node name h = by_test ((t.node == node) && bytes_eq t.name.items name)
    (All-head P t ts h) (found_thing P ts node name (All-tail P t ts h))
  where
    by_test : (b : Bool) → P t → OfOption P (thing_in ts node name)
        → OfOption P (cond b (Some t) (thing_in ts node name))
    by_test true p ps = p
    by_test false p ps = ps

target_found : (P : Thing → Type 0) (at : Place) (o : Option Thing)
    → OfOption P o → OfFound P (target_thing at o)
target_found P at None p = tt
target_found P at (Some t) p = p

spots_found : (P : Spot → Type 0) (at : Place) (t : Thing) (range : Option (ℕ × ℕ))
    → All P t.bits.items → OfFound (All P) (spots_of at t range)
spots_found P at t None h = h
spots_found P at t (Some range) h =
    let wide : ℕ = position_of t range.0 - position_of t range.1 + 1 in
    found_where (All P) (has_index t range.0 && has_index t range.1 && not
    (nat_lt (position_of t range.0) (position_of t range.1))) _ _
    (All-take P wide (drop (position_of t range.1) t.bits.items)
    (All-drop P (position_of t range.1) t.bits.items h))

module _ (net : Net) (well : IsNet net) where
  thing_found : (node : Option ℕ) (name : List ℕ) → OfOption (IsThing net) (thing_of net node name)
  thing_found None name = tt
  thing_found (Some node) name = found_thing (IsThing net) net.things.items node name well.things

  named_spots : (at : Place) (node : ℕ) (target : ATarget) (value : AValue)
      → OfFound (λ n. All (IsSpotOf net) n.spots) (named net at node target value)
  named_spots at node target value =
      then_with (IsThing net) (λ n. All (IsSpotOf net) n.spots)
      (target_thing at (thing_at net node target.path)) _
      (target_found (IsThing net) at (thing_at net node target.path) (thing_found _ _))
      (λ t there. then_with (All (IsSpotOf net)) (λ n. All (IsSpotOf net) n.spots)
      (spots_of at t target.range) _ (spots_found (IsSpotOf net) at t target.range there.spots)
      (λ spots h. then_of (λ n. All (IsSpotOf net) n.spots) (number_at at t value) _
      (λ w. then_of (λ n. All (IsSpotOf net) n.spots) (fitted at (length spots) w) _ (λ vs. h))))

  -- ---- writes

  abbrev IsThere : WriteBit → Type 0
  IsThere w = IsBitOf net w.bit

  is_written : (spot : Spot) → IsSpotOf net spot → OfOption (λ p. IsBitOf net p.bit) (written spot)
  is_written (Held b) h = h
  is_written (Inward (Bit b inverted)) h = h
  is_written (Inward Absent) h = tt
  is_written (Inward Zero) h = tt
  is_written (Inward One) h = tt
  is_written (Inward (Out inst port pos inverted)) h = tt
  is_written (Outward s) h = tt

  write_there : (at : Place) (o : Option Picked) (v : Bool) → OfOption (λ p. IsBitOf net p.bit) o
      → OfFound IsThere (write_bit net at o v)
  write_there at None v h = tt
  write_there at (Some p) v h = if_no_select IsThere at (select_written net p.bit) _ h

  writes_there : (at : Place) (spots : List Spot) (values : List (Option Bool)) → All (IsSpotOf net) spots
      → OfFound (All IsThere) (writes_of net at spots values)
  writes_there at [] values h = All-nil IsThere
  writes_there at (spot ∷ spots) [] h = All-nil IsThere
  writes_there at (spot ∷ spots) (None ∷ vs) h =
      writes_there at spots vs (All-tail (IsSpotOf net) spot spots h)
  writes_there at (spot ∷ spots) (Some v ∷ vs) h =
      more_found IsThere (write_bit net at (written spot) v) (writes_of net at spots vs)
      (write_there at (written spot) v (is_written spot (All-head (IsSpotOf net) spot spots h)))
      (writes_there at spots vs (All-tail (IsSpotOf net) spot spots h))

  -- ---- reads

  abbrev HasSource : Sig → Type 0
  HasSource Absent = ⊥
  HasSource Zero = Unit {0}
  HasSource One = Unit {0}
  HasSource (Bit b inverted) = Unit {0}
  HasSource (Out inst port pos inverted) = Unit {0}

  -- a bit of the network that captures something
  abbrev Captures : BitId → Type 0
  Captures b = IsBitOf net b × HasSource (capture_signal net b)

  abbrev IsCaptured : ReadBit → Type 0
  IsCaptured r = Captures r.bit

  has_source : (c s : Sig) → same_source c s ≡ true → HasSource c
  has_source Absent s e = absurd cc
  has_source Zero s e = tt
  has_source One s e = tt
  has_source (Bit b inverted) s e = tt
  has_source (Out inst port pos inverted) s e = tt

  -- a place among the captured signals of a register
  abbrev IsAt : List Sig → ℕ → ℕ → BitId → Type 0
  IsAt cs reg pos b = (k : ℕ) × (k < length cs)
      × (b ≡ record { reg = reg; pos = pos + k }) × HasSource (get_or cs k Absent)

  is_capturing : (reg pos : ℕ) (cs : List Sig) (s : Sig)
      → OfOption (λ p. IsAt cs reg pos p.bit) (capturing reg pos cs s)
  is_capturing reg pos [] s = tt
  is_capturing reg pos (c ∷ cs) s =
      by_test (same_source c s) refl (capturing reg (pos + 1) cs s) (is_capturing reg (pos + 1) cs s)
    where
      after : (o : Option Picked) → OfOption (λ p. IsAt cs reg (pos + 1) p.bit) o
          → OfOption (λ p. IsAt (c ∷ cs) reg pos p.bit) o
      after None h = tt
      after (Some p) h = (
        suc h.0,
        omega (arith, h.1),
        h.2 ∙ ap (λ (k : ℕ). record { reg = reg; pos = k }) (omega arith),
        h.3,
      )

      by_test : (t : Bool) → same_source c s ≡ t → (o : Option Picked)
          → OfOption (λ p. IsAt cs reg (pos + 1) p.bit) o
          → OfOption (λ p. IsAt (c ∷ cs) reg pos p.bit) (cond t (Some (record
          { bit = record { reg = reg; pos = pos }; inverted = differ (is_inverted c) (is_inverted s) })) o)
      by_test true e o h =
          (zero, omega arith, ap (λ (k : ℕ). record { reg = reg; pos = k }) (omega arith), has_source c s e)
      by_test false e o h = after o h

  abbrev captures_of : List Reg → ℕ → List Sig
  captures_of regs j = get_or (map (λ reg. reg.capture.items) regs) j []

  -- a place among the captured signals of some registers
  abbrev IsAmong : List Reg → ℕ → BitId → Type 0
  IsAmong regs r b = (j : ℕ) × (k : ℕ) × (k < length (captures_of regs j))
      × (b ≡ record { reg = r + j; pos = k }) × HasSource (get_or (captures_of regs j) k Absent)

  is_among : (r : ℕ) (regs : List Reg) (s : Sig)
      → OfOption (λ p. IsAmong regs r p.bit) (captured_from r regs s)
  is_among r [] s = tt
  is_among r (reg ∷ regs) s = first (capturing r 0 reg.capture.items s) (captured_from (r + 1) regs s)
      (is_capturing r 0 reg.capture.items s) (is_among (r + 1) regs s)
    where
      place : (b : BitId) (q p n k : ℕ) → b ≡ record { reg = q; pos = p } → q ≡ n
          → p ≡ k → b ≡ record { reg = n; pos = k }
      place b q p n k e f g = e ∙ ap (λ (i : ℕ). record { reg = i; pos = p }) f
          ∙ ap (λ (i : ℕ). record { reg = n; pos = i }) g

      first : (o other : Option Picked) → OfOption (λ p. IsAt reg.capture.items r 0 p.bit) o
          → OfOption (λ p. IsAmong regs (r + 1) p.bit) other
          → OfOption (λ p. IsAmong (reg ∷ regs) r p.bit) (or_else o other)
      first None None h i = tt
      first None (Some p) h i =
          (suc i.0, i.1, i.2, place p.bit (r + 1 + i.0) i.1 (r + suc i.0) i.1 i.3 (omega arith) refl, i.4)
      first (Some p) other h i =
          (zero, h.0, h.1, place p.bit r (0 + h.0) (r + 0) h.0 h.2 (omega arith) (omega arith), h.3)

  widths : (regs : List Reg) → All (λ reg. length reg.capture.items ≡ reg.width) regs → (j : ℕ)
      → length (captures_of regs j) ≡ get_or (map (λ reg. reg.width) regs) j 0
  widths [] h zero = refl
  widths [] h (suc j) = refl
  widths (reg ∷ regs) h zero = All-head (λ reg. length reg.capture.items ≡ reg.width) reg regs h
  widths (reg ∷ regs) h (suc j) =
      widths regs (All-tail (λ reg. length reg.capture.items ≡ reg.width) reg regs h) j

  of_network : (b : BitId) → IsAmong net.regs.items 0 b → Captures b
  of_network b h =
      let wide : length (captures_of net.regs.items h.0)
      ≡ width_of net h.0 = widths net.regs.items (All-weaker (IsReg net)
      (λ reg. length reg.capture.items ≡ reg.width) (λ reg w. w.captures) net.regs.items well.regs) h.0 in
      let same : b ≡ record { reg = h.0; pos = h.1 } =
      h.3 ∙ ap (λ (n : ℕ). record { reg = n; pos = h.1 }) (omega arith) in
      subst Captures (sym same) (subst (λ n. h.1 < n) wide h.2, h.4)

  captured_there : (o : Option Picked)
      → OfOption (λ p. IsAmong net.regs.items 0 p.bit) o → OfOption (λ p. Captures p.bit) o
  captured_there None h = tt
  captured_there (Some p) h = of_network p.bit h

  is_held : (b : BitId) → IsBitOf net b → (s : Sig) → capture_signal net b ≡ s
      → OfOption (λ p. Captures p.bit) (picked_if_captures b s)
  is_held b h Absent e = tt
  is_held b h Zero e = (h, subst HasSource (sym e) tt)
  is_held b h One e = (h, subst HasSource (sym e) tt)
  is_held b h (Bit c inverted) e = (h, subst HasSource (sym e) tt)
  is_held b h (Out inst port pos inverted) e = (h, subst HasSource (sym e) tt)

  is_compared : (spot : Spot) → IsSpotOf net spot → OfOption (λ p. Captures p.bit) (compared net spot)
  is_compared (Held b) h = is_held b h (capture_signal net b) refl
  is_compared (Inward s) h = captured_there (captured_from 0 net.regs.items s) (is_among 0 net.regs.items s)
  is_compared (Outward s) h = captured_there (captured_from 0 net.regs.items s) (is_among 0 net.regs.items s)

  module _ (at : Place) (number : ℕ) where
    read_there : (index : ℕ) (o : Option Picked) (v : Bool) → OfOption (λ p. Captures p.bit) o
        → OfFound IsCaptured (read_bit net at number index o v)
    read_there index None v h = tt
    read_there index (Some p) v h = if_no_select IsCaptured at (select_compared net p.bit) _ h

    reads_there : (index : ℕ) (spots : List Spot) (values : List (Option Bool)) → All (IsSpotOf net) spots
        → OfFound (All IsCaptured) (reads_of net at number index spots values)
    reads_there index [] values h = All-nil IsCaptured
    reads_there index (spot ∷ spots) [] h = All-nil IsCaptured
    reads_there index (spot ∷ spots) (None ∷ vs) h =
        reads_there (index + 1) spots vs (All-tail (IsSpotOf net) spot spots h)
    reads_there index (spot ∷ spots) (Some v ∷ vs) h =
        more_found IsCaptured (read_bit net at number index (compared net spot) v)
        (reads_of net at number (index + 1) spots vs)
        (read_there index (compared net spot) v (is_compared spot (All-head (IsSpotOf net) spot spots h)))
        (reads_there (index + 1) spots vs (All-tail (IsSpotOf net) spot spots h))

  -- ---- both

  data_writes : (ws : List WriteBit) → All IsThere ws
      → WriteNoSelect net ws → All (λ w. IsDataBit net w.bit) ws
  data_writes [] h free = All-nil (λ w. IsDataBit net w.bit)
  data_writes (w ∷ ws) h free =
      All-cons (λ w. IsDataBit net w.bit) w ws (record { there = All-head IsThere w ws h; data_bit = free.0 })
      (data_writes ws (All-tail IsThere w ws h) free.1)

  readable : (s : Sig) → HasSource s → captured_select net s ≡ None → IsReadable net s
  readable Absent h e = h
  readable Zero h e = tt
  readable One h e = tt
  readable (Out inst port pos inverted) h e = tt
  readable (Bit b inverted) h e = by_test (is_select net b) e
    where
      by_test : (t : Bool) → cond t (Some b) None ≡ None → t ≡ false
      by_test true e = absurd cc
      by_test false e = refl

  abbrev IsData : ReadBit → Type 0
  IsData r = IsDataBit net r.bit × IsReadable net (capture_signal net r.bit)

  data_reads : (rs : List ReadBit) → All IsCaptured rs → ReadNoSelect net rs → All IsData rs
  data_reads [] h free = All-nil IsData
  data_reads (r ∷ rs) h free =
      let here : Captures r.bit = All-head IsCaptured r rs h in
      All-cons IsData r rs (
        record { there = here.0; data_bit = free.0.0 },
        readable
            (capture_signal net r.bit) here.1 free.0.1,
      ) (data_reads rs (All-tail IsCaptured r rs h) free.1)

pub writes_are_of_the_network : WritesAreOfTheNetwork
writes_are_of_the_network net at node target value well =
    both_found (All (IsThere net well)) (WriteNoSelect net)
    (All (λ w. IsDataBit net w.bit)) (data_writes net well)
    (found_then (named net at node target value) (λ n. writes_of net at n.spots n.values))
    (then_with (λ n. All (IsSpotOf net) n.spots) (All (IsThere net well)) (named net at node target value) _
    (named_spots net well at node target value) (λ n h. writes_there net well at n.spots n.values h))
    (writes_select_nothing net at node target value)

pub reads_are_of_the_network : ReadsAreOfTheNetwork
reads_are_of_the_network net at node number target None well =
    then_of (All (IsData net well)) (target_thing at (thing_at net node target.path)) _ (λ t. then_of
    (All (IsData net well)) (spots_of at t target.range) _ (λ spots. All-nil (IsData net well)))
reads_are_of_the_network net at node number target (Some value) well =
    both_found (All (IsCaptured net well)) (ReadNoSelect net) (All (IsData net well)) (data_reads net well)
    (found_then (named net at node target value) (λ n. reads_of net at number 0 n.spots n.values))
    (then_with (λ n. All (IsSpotOf net) n.spots) (All (IsCaptured net well))
    (named net at node target value) _ (named_spots net well at node target value)
    (λ n h. reads_there net well at number 0 n.spots n.values h))
    (reads_select_nothing net at node number target (Some value))
