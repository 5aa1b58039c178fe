-- The shift clocks of a scan, one by one.
use Rattle.std.proofs.Common.{◌≡◌, ℕ, zero, suc, ◌+◌, ◌<◌, ◌≤◌, Bool, true, false, List, [], ◌∷◌, ◌++◌}
use Rattle.std.proofs.Common.{length, drop, Option, Some, None, refl, ap, ◌∙◌, subst, arith}
use Rattle.std.specs.Prelude.{get_or, cond, map}
use Rattle.std.proofs.Math.Seq.{drop-cons}
use Rattle.std.proofs.lemmas.List.{get_or-drop, drop_all, length-drop}
use Rattle.svf_writer.specs.Fits.{HasLength}
use Rattle.tap_machine.specs.declared.Pins.{Pins}
use Rattle.tap_machine.specs.Play.{no_shift, shifts, masked, expected, is_empty, Played}
use Rattle.tap_machine.specs.Remaining.{pins_from}

nothing_below : (k : ℕ) → k < 0 → ⊥
nothing_below k h = omega arith

pub masked_at : (t m : List Bool) (k : ℕ) → k < length t
    → get_or (masked t m) k None ≡ cond (get_or m k false) (Some (get_or t k false)) None
masked_at [] m k h = absurd (nothing_below k h)
masked_at (x ∷ ts) [] zero h = refl
masked_at (x ∷ ts) [] (suc k) h = masked_at ts [] k (omega (arith, h))
masked_at (x ∷ ts) (m ∷ ms) zero h = refl
masked_at (x ∷ ts) (m ∷ ms) (suc k) h = masked_at ts ms k (omega (arith, h))

pub has_length : (n : ℕ) (o : Option (List Bool)) (bits : List Bool)
    → HasLength n o → o ≡ Some bits → length bits ≡ n
has_length n o bits h e = subst (HasLength n) e h

-- what is expected at a position of a scan with TDO
pub expected_at : (len k : ℕ) (tdo : Option (List Bool)) (bits mask : List Bool) (compared : Bool)
    → HasLength len tdo → tdo ≡ Some bits → k < len → get_or mask k false ≡ compared
    → get_or (expected len tdo mask) k None ≡ cond compared (Some (get_or bits k false)) None
expected_at len k tdo bits mask compared has given within is =
    ap (λ t. get_or (expected len t mask) k None) given
    ∙ masked_at bits mask k (omega (arith, has_length len tdo bits has given))
    ∙ ap (λ b. cond b (Some (get_or bits k false)) None) is

pub drop_twice : {X : Type 0} (k : ℕ) (xs : List X) → drop 1 (drop k xs) ≡ drop (suc k) xs
drop_twice zero xs = refl
drop_twice (suc k) [] = refl
drop_twice (suc k) (x ∷ xs) = drop_twice k xs

some_left : (xs : List Bool) → 0 < length xs → is_empty xs ≡ false
some_left [] e = absurd (omega arith)
some_left (x ∷ xs) e = refl

module _ (scan : ℕ) (p : Played) (k : ℕ) (within : k < length p.tdi) where
  abbrev pub pin : Bool → Pins
  pin last = record {
    tms = last;
    tdi = get_or p.tdi k false;
    expect = get_or p.expects k None;
    scan = scan;
    bit = k;
  }

  pub expects_here : get_or (drop k p.expects) 0 None ≡ get_or p.expects k None
  expects_here =
      let z : k + 0 ≡ k = omega arith in get_or-drop k p.expects 0 None ∙ ap (λ i. get_or p.expects i None) z

  -- the first of the shift clocks, and the others
  pub one_shift : pins_from scan p k ≡ pin (is_empty (drop (suc k) p.tdi)) ∷ pins_from scan p (suc k)
  one_shift =
      ap (λ ts. shifts scan k ts (drop k p.expects) ++ map no_shift (true ∷ false ∷ []))
      (drop-cons p.tdi k false within)
      ∙ ap (λ e. record {
        tms = is_empty (drop (suc k) p.tdi);
        tdi = get_or p.tdi k false;
        expect = e;
        scan = scan;
        bit = k;
      } ∷ (shifts scan (suc k) (drop (suc k) p.tdi) (drop 1 (drop k p.expects))
      ++ map no_shift (true ∷ false ∷ []))) expects_here
      ∙ ap (λ es. pin (is_empty (drop (suc k) p.tdi)) ∷ (shifts scan (suc k) (drop (suc k) p.tdi) es
      ++ map no_shift (true ∷ false ∷ []))) (drop_twice k p.expects)

  pub last_shift : suc k ≡ length p.tdi → pins_from scan p k ≡ pin true ∷ map no_shift (true ∷ false ∷ [])
  last_shift e =
      let all : length p.tdi ≤ suc k = omega arith in
      one_shift ∙ ap (λ ts. pin (is_empty ts) ∷ (shifts scan (suc k) ts (drop (suc k) p.expects)
      ++ map no_shift (true ∷ false ∷ []))) (drop_all (suc k) p.tdi all)

  pub other_shift : suc k < length p.tdi → pins_from scan p k ≡ pin false ∷ pins_from scan p (suc k)
  other_shift l =
      one_shift ∙ ap (λ b. pin b ∷ pins_from scan p (suc k))
      (some_left (drop (suc k) p.tdi) (omega (arith, length-drop (suc k) p.tdi)))
