-- The names of a made design's files are different, since their endings are.
use Rattle.std.proofs.Common.{◌≡◌, ◌≢◌, ℕ, List, [], ◌∷◌, ◌++◌, codes, ap, arith, get_or, drop}
use Rattle.ijtag_work.specs.Command.{made_names}
use Rattle.ijtag_work.specs.Loads.{IsNoneOf}
use Rattle.ijtag_work.specs.Order.{written_as}
use Rattle.ijtag_core.specs.Files.{AreApart}

front_cancels : (stem a b : List ℕ) → stem ++ a ≡ stem ++ b → a ≡ b
front_cancels [] a b e = e
front_cancels (x ∷ stem) a b e = front_cancels stem a b (ap (λ (xs : List ℕ). drop 1 xs) e)

-- endings differ in the byte after the dot
ends_differ : (stem a b : List ℕ) → (get_or a 1 0 ≡ get_or b 1 0 → ⊥) → stem ++ a ≢ stem ++ b
ends_differ stem a b other e = other (ap (λ (xs : List ℕ). get_or xs 1 0) (front_cancels stem a b e))

module _ (stem : List ℕ) where
  icl_pdl : stem ++ codes ".icl" ≢ stem ++ codes ".pdl"
  icl_pdl = ends_differ stem (codes ".icl") (codes ".pdl") (λ (e : 105 ≡ 112). omega (arith, e))

  icl_dev : stem ++ codes ".icl" ≢ stem ++ codes ".dev"
  icl_dev = ends_differ stem (codes ".icl") (codes ".dev") (λ (e : 105 ≡ 100). omega (arith, e))

  icl_tab : stem ++ codes ".icl" ≢ stem ++ codes ".tab"
  icl_tab = ends_differ stem (codes ".icl") (codes ".tab") (λ (e : 105 ≡ 116). omega (arith, e))

  pdl_dev : stem ++ codes ".pdl" ≢ stem ++ codes ".dev"
  pdl_dev = ends_differ stem (codes ".pdl") (codes ".dev") (λ (e : 112 ≡ 100). omega (arith, e))

  pdl_tab : stem ++ codes ".pdl" ≢ stem ++ codes ".tab"
  pdl_tab = ends_differ stem (codes ".pdl") (codes ".tab") (λ (e : 112 ≡ 116). omega (arith, e))

  dev_tab : stem ++ codes ".dev" ≢ stem ++ codes ".tab"
  dev_tab = ends_differ stem (codes ".dev") (codes ".tab") (λ (e : 100 ≡ 116). omega (arith, e))

  svf_icl : stem ++ codes ".svf" ≢ stem ++ codes ".icl"
  svf_icl = ends_differ stem (codes ".svf") (codes ".icl") (λ (e : 115 ≡ 105). omega (arith, e))

  svf_pdl : stem ++ codes ".svf" ≢ stem ++ codes ".pdl"
  svf_pdl = ends_differ stem (codes ".svf") (codes ".pdl") (λ (e : 115 ≡ 112). omega (arith, e))

  svf_dev : stem ++ codes ".svf" ≢ stem ++ codes ".dev"
  svf_dev = ends_differ stem (codes ".svf") (codes ".dev") (λ (e : 115 ≡ 100). omega (arith, e))

  svf_tab : stem ++ codes ".svf" ≢ stem ++ codes ".tab"
  svf_tab = ends_differ stem (codes ".svf") (codes ".tab") (λ (e : 115 ≡ 116). omega (arith, e))

  pub made_apart : (a b c d : List ℕ) → AreApart (written_as (made_names stem) (a ∷ b ∷ c ∷ d ∷ []))
  made_apart a b c d =
      ((icl_pdl, (icl_dev, (icl_tab, tt))), ((pdl_dev, (pdl_tab, tt)), ((dev_tab, tt), (tt, tt))))

  -- the SVF file has another name
  pub svf_apart : IsNoneOf (made_names stem) (stem ++ codes ".svf")
  svf_apart = (svf_icl, (svf_pdl, (svf_dev, (svf_tab, tt))))
