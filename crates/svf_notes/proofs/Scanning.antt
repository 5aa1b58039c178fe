-- Scans clock by clock.
use Rattle.std.proofs.Common.{◌≡◌, ℕ, suc, ◌<◌, ◌≤◌, Bool, true, false, cond, Option, Some, None, Result, Ok}
use Rattle.std.proofs.Common.{Err, List, [], ◌∷◌, ◌++◌, length, drop, get_or, map, refl, ap, sym, ◌∙◌, arith}
use Rattle.std.specs.Prelude.{◌==◌, IfOk, MatchOption}
use Rattle.ij_bits.specs.BitLists.{bits_of}
use Rattle.ij_bits.proofs.Lists.{none_below}
use Rattle.ij_bits.proofs.WordBits.{length-bits_of}
use Rattle.instruments.specs.declared.Counts.{Counts}
use Rattle.net_bench.specs.Bench.{Chip, State, clock, tdo}
use Rattle.net_bench.specs.Pieces.{tdos}
use Rattle.net_bench.specs.Playing.{after_pins}
use Rattle.tap_machine.specs.declared.Piece.{Piece}
use Rattle.tap_machine.specs.declared.Pins.{Pins}
use Rattle.tap_machine.specs.Pieces.{piece_pins, stretch}
use Rattle.tap_machine.specs.Play.{is_empty, masked}
use Rattle.svf_notes.specs.declared.scan.Shifted.{Shifted}
use Rattle.svf_notes.specs.Scans.{Scan, led_by, shifted_at, shifted_bits, last_bit, with_clock, scans_of}

module _ {L : Type 0} where
  -- bits before those of the first scan
  abbrev pub led : List Shifted → List (Scan L) → List (Scan L)
  led [] xs = xs
  led (b ∷ bs) xs = led_by b (led bs xs)

  led_more : (bs : List Shifted) (b : Shifted) (xs : List (Scan L))
      → led (bs ++ b ∷ []) xs ≡ led bs (led_by b xs)
  led_more [] b xs = refl
  led_more (c ∷ cs) b xs = ap (led_by c) (led_more cs b xs)

  pub led_none : (bs : List Shifted) → led bs [] ≡ []
  led_none [] = refl
  led_none (b ∷ bs) = ap (led_by b) (led_none bs)

  led_some : (bs : List Shifted) (x : Scan L) (xs : List (Scan L))
      → led bs (x ∷ xs) ≡ record x { bits = bs ++ x.bits } ∷ xs
  led_some [] x xs = refl
  led_some (b ∷ bs) x xs = ap (led_by b) (led_some bs x xs)

  led_both : (cs bs : List Shifted) (xs : List (Scan L)) → led (cs ++ bs) xs ≡ led cs (led bs xs)
  led_both [] bs xs = refl
  led_both (c ∷ cs) bs xs = ap (led_by c) (led_both cs bs xs)

-- some clocks at once
module _ {L : Type 0} (chip : Chip L) where
  -- nothing is shifted
  none_shifted : (scan k : ℕ) (tms : Bool) (ts : List Bool) (es : List (Option Bool))
      (qs : List Pins) (s : State L) → (scan == 0) ≡ true
      → scans_of chip (stretch scan k tms ts es ++ qs) s
      ≡ scans_of chip qs (after_pins chip (stretch scan k tms ts es) s)
  none_shifted scan k tms [] es qs s none = refl
  none_shifted scan k tms (t ∷ ts) es qs s none =
      let p : Pins = record {
        tms = cond (is_empty ts) tms false;
        tdi = t;
        expect = get_or es 0 None;
        scan = scan;
        bit = k;
      } in
      let u = clock chip p.tms t s in
      let later = scans_of chip (stretch scan (suc k) tms ts (drop 1 es) ++ qs) u in
      ap (λ z. cond z later
      (cond p.tms (last_bit p (tdo chip s) u ∷ later) (led_by (shifted_at p (tdo chip s)) later))) none
      ∙ none_shifted scan (suc k) tms ts (drop 1 es) qs u none

  module _ (scan : ℕ) (qs : List Pins) (shifts : (scan == 0) ≡ false) where
    -- one of the bits that others of its scan follow
    one_shifted : (p : Pins) (ps : List Pins) (s : State L) (fs : List Bool) (later : List (Scan L))
        → p.scan ≡ scan → p.tms ≡ false
        → later ≡ led (shifted_bits ps fs) (scans_of chip qs (after_pins chip ps (clock chip p.tms p.tdi s)))
        → with_clock p (tdo chip s) (clock chip p.tms p.tdi s) later
        ≡ led (shifted_bits (p ∷ ps) (tdo chip s ∷ fs)) (scans_of chip qs (after_pins chip (p ∷ ps) s))
    one_shifted p ps s fs later own more is =
        let u = clock chip p.tms p.tdi s in
        ap (λ n. cond (n == 0) later
        (cond p.tms (last_bit p (tdo chip s) u ∷ later) (led_by (shifted_at p (tdo chip s)) later))) own
        ∙ ap (λ z. cond z later (cond p.tms (last_bit p (tdo chip s) u ∷ later)
        (led_by (shifted_at p (tdo chip s)) later))) shifts
        ∙ ap (λ z. cond z (last_bit p (tdo chip s) u ∷ later) (led_by (shifted_at p (tdo chip s)) later)) more
        ∙ ap (led_by (shifted_at p (tdo chip s))) is

    none_last : (ts : List Bool) → cond (is_empty ts) false false ≡ false
    none_last [] = refl
    none_last (t ∷ ts) = refl

    -- bits that others follow
    more_shifted : (k : ℕ) (ts : List Bool) (es : List (Option Bool)) (s : State L)
        → scans_of chip (stretch scan k false ts es ++ qs) s
        ≡ led (shifted_bits (stretch scan k false ts es) (tdos chip (stretch scan k false ts es) s))
        (scans_of chip qs (after_pins chip (stretch scan k false ts es) s))
    more_shifted k [] es s = refl
    more_shifted k (t ∷ ts) es s =
        let p : Pins = record {
          tms = cond (is_empty ts) false false;
          tdi = t;
          expect = get_or es 0 None;
          scan = scan;
          bit = k;
        } in
        let ps = stretch scan (suc k) false ts (drop 1 es) in
        let u = clock chip p.tms t s in
        one_shifted p ps s (tdos chip ps u) (scans_of chip (ps ++ qs) u) refl
        (none_last ts) (more_shifted (suc k) ts (drop 1 es) u)

    -- the last bits of a scan
    last_shifted : (k : ℕ) (t : Bool) (ts : List Bool) (es : List (Option Bool)) (s : State L)
        → scans_of chip (stretch scan k true (t ∷ ts) es ++ qs) s ≡ record {
          number = scan;
          bits =
              shifted_bits (stretch scan k true (t ∷ ts) es) (tdos chip (stretch scan k true (t ∷ ts) es) s);
          state = after_pins chip (stretch scan k true (t ∷ ts) es) s;
        }
        ∷ scans_of chip qs (after_pins chip (stretch scan k true (t ∷ ts) es) s)
    last_shifted k t [] es s =
        let p : Pins = record { tms = true; tdi = t; expect = get_or es 0 None; scan = scan; bit = k } in
        let u = clock chip true t s in
        let later = scans_of chip qs u in
        ap (λ z. cond z later (last_bit p (tdo chip s) u ∷ later)) shifts
    last_shifted k t (v ∷ vs) es s =
        let p : Pins = record { tms = false; tdi = t; expect = get_or es 0 None; scan = scan; bit = k } in
        let ps = stretch scan (suc k) true (v ∷ vs) (drop 1 es) in
        let u = clock chip false t s in
        let later = scans_of chip (ps ++ qs) u in
        ap (λ z. cond z later (led_by (shifted_at p (tdo chip s)) later)) shifts
        ∙ ap (led_by (shifted_at p (tdo chip s))) (last_shifted (suc k) v vs (drop 1 es) u)

    ended_scan : (k : ℕ) (ts : List Bool) (es : List (Option Bool)) (s : State L) → 0 < length ts
        → scans_of chip (stretch scan k true ts es ++ qs) s
        ≡ record {
          number = scan;
          bits = shifted_bits (stretch scan k true ts es)
              (tdos chip (stretch scan k true ts es) s);
          state = after_pins chip (stretch scan k true ts es) s;
        }
        ∷ scans_of chip qs (after_pins chip (stretch scan k true ts es) s)
    ended_scan k [] es s none = absurd (none_below none)
    ended_scan k (t ∷ ts) es s some = last_shifted k t ts es s

  -- with what was shifted before
  module _ (piece : Piece) (ps qs : List Pins) (s t : State L) (found : List Bool) (bs : List Shifted) (all :
      List (Scan L)) (given : qs ≡ piece_pins piece ++ ps) (is : found ≡ tdos chip (piece_pins piece) s)
      (next : t ≡ after_pins chip (piece_pins piece) s) (left : led bs (scans_of chip qs s) ≡ all) where
    here : led bs (scans_of chip (piece_pins piece ++ ps) s) ≡ all
    here = ap (λ (l : List Pins). led bs (scans_of chip l s)) (sym given) ∙ left

    abbrev expects : List (Option Bool)
    expects = masked (bits_of piece.count piece.expected) (bits_of piece.count piece.compared)

    -- nothing is shifted
    pub in_none : (piece.scan == 0) ≡ true → led bs (scans_of chip ps t) ≡ all
    in_none none =
        ap (λ u. led bs (scans_of chip ps u)) next
        ∙ ap (led bs) (sym (none_shifted piece.scan piece.bit piece.tms
        (bits_of piece.count piece.tdi) expects ps s none)) ∙ here

    module _ (shifts : (piece.scan == 0) ≡ false) (now : List Shifted)
        (more : now ≡ bs ++ shifted_bits (piece_pins piece) found) where
      now_is : now ≡ bs ++ shifted_bits (piece_pins piece) (tdos chip (piece_pins piece) s)
      now_is = more ∙ ap (λ fs. bs ++ shifted_bits (piece_pins piece) fs) is

      -- bits that others follow
      pub goes_on : piece.tms ≡ false → led now (scans_of chip ps t) ≡ all
      goes_on e =
          let pins : Bool
          → List Pins = λ b. stretch piece.scan piece.bit b (bits_of piece.count piece.tdi) expects in
          ap (λ l. led l (scans_of chip ps t)) now_is
          ∙ led_both bs (shifted_bits (pins piece.tms) (tdos chip (pins piece.tms) s)) (scans_of chip ps t)
          ∙ ap (λ u. led bs
          (led (shifted_bits (pins piece.tms) (tdos chip (pins piece.tms) s)) (scans_of chip ps u))) next
          ∙ ap (λ b. led bs (led (shifted_bits (pins b) (tdos chip (pins b) s))
          (scans_of chip ps (after_pins chip (pins b) s)))) e
          ∙ ap (led bs)
          (sym (more_shifted piece.scan ps shifts piece.bit (bits_of piece.count piece.tdi) expects s))
          ∙ ap (λ b. led bs (scans_of chip (pins b ++ ps) s)) (sym e)
          ∙ here

      -- the last bits
      pub ends : piece.tms ≡ true → 1 ≤ piece.count
          → all ≡ record { number = piece.scan; bits = now; state = t } ∷ scans_of chip ps t
      ends e some =
          let pins : List Bool → Bool → List Pins = λ ts b. stretch piece.scan piece.bit b ts expects in
          let bits : List Bool = bits_of piece.count piece.tdi in
          let ended : State L → List Shifted → List (Scan L) =
          λ u l. record { number = piece.scan; bits = l; state = u } ∷ scans_of chip ps u in
          sym here
          ∙ ap (λ b. led bs (scans_of chip (pins bits b ++ ps) s)) e
          ∙ ap (led bs) (ended_scan piece.scan ps shifts piece.bit bits expects s
          (omega (arith, length-bits_of piece.count piece.tdi, some)))
          ∙ led_some bs (record {
            number = piece.scan;
            bits = shifted_bits (pins bits true)
                (tdos chip (pins bits true) s);
            state = after_pins chip (pins bits true) s;
          })
          (scans_of chip ps (after_pins chip (pins bits true) s))
          ∙ ap (λ b. ended (after_pins chip (pins bits b) s)
          (bs ++ shifted_bits (pins bits b) (tdos chip (pins bits b) s))) (sym e)
          ∙ ap (λ u. ended u (bs ++ shifted_bits (piece_pins piece) (tdos chip (piece_pins piece) s)))
          (sym next)
          ∙ ap (ended t) (sym now_is)

pub no_clock : {L : Type 0} (chip : Chip L) (qs : List Pins) (s : State L) (bs : List Shifted)
    (all : List (Scan L)) → qs ≡ [] → led bs (scans_of chip qs s) ≡ all → all ≡ []
no_clock {L} chip qs s bs all none left =
    sym left ∙ ap (λ (l : List Pins). led bs (scans_of chip l s)) none ∙ led_none bs

-- what is left after a scan, on the same chip
pub scan_left : {E : Type 0} (r : Result (Option ℕ) E) (chip now : Chip Counts) (qs ps : List Pins)
    (s t : State Counts) (bits : List Shifted) → now ≡ chip
    → IfOk r (λ number. MatchOption number ((scans_of chip qs s ≡ []) × (ps ≡ []))
    (λ n. scans_of chip qs s ≡ record { number = n; bits = bits; state = t } ∷ scans_of chip ps t))
    → IfOk r (λ number. MatchOption number ((scans_of chip qs s ≡ []) × (scans_of now ps t ≡ []))
    (λ n. scans_of chip qs s ≡ record { number = n; bits = bits; state = t } ∷ scans_of now ps t))
scan_left (Ok None) chip now qs ps s t bits same is = (is.0, ap (λ (l : List Pins). scans_of now l t) is.1)
scan_left (Ok (Some n)) chip now qs ps s t bits same is =
    is ∙ ap (λ (c : Chip Counts). let x : Scan Counts = record { number = n; bits = bits; state = t } in
    x ∷ scans_of c ps t) (sym same)
scan_left (Err e) chip now qs ps s t bits same is = is

-- ---- notes of scans

module _ (f : Scan Counts → List ℕ) (old new : List (Scan Counts)) where
  pub no_notes : old ≡ [] → new ≡ [] → (map f old ≡ []) × (map f new ≡ drop 1 (map f old))
  no_notes none left =
      let one : map f old ≡ [] = ap (map f) none in
      (one, ap (map f) left ∙ sym (ap (drop 1) one))

  pub one_note : (x : Scan Counts) (text : List ℕ) → old ≡ x ∷ new → text ≡ f x
      → (map f old ≡ text ∷ map f new) × (map f new ≡ drop 1 (map f old))
  one_note x text is here =
      let one : map f old ≡ f x ∷ map f new = ap (map f) is in
      (one ∙ ap (λ (l : List ℕ). l ∷ map f new) (sym here), sym (ap (drop 1) one))
