-- The last lines of reports.
use Rattle.std.specs.Prelude.{ℕ, List, [], ◌∷◌, ◌++◌, codes, decimal}
use Rattle.report.specs.declared.totals.Totals.{Totals}
use Rattle.report.specs.declared.totals.Totals.TheVariants.{Play, Direct, Made}

abbrev pub play_text : ℕ → ℕ → ℕ → List ℕ
play_text scans clocks differs =
    codes "scans " ++ (decimal scans
    ++ (codes " clocks " ++ (decimal clocks ++ (codes " differs " ++ (decimal differs ++ 10 ∷ [])))))

abbrev pub direct_text : ℕ → ℕ → List ℕ
direct_text reads differs = codes "reads "
    ++ (decimal reads ++ (codes " differs " ++ (decimal differs ++ 10 ∷ [])))

-- a text and a number
abbrev pub counted : List ℕ → ℕ → List ℕ
counted text n = text ++ decimal n

abbrev pub size_text : ℕ → ℕ → ℕ → ℕ → List ℕ
size_text registers muxes instruments groups =
    counted (codes "made registers ") registers ++ (counted (codes " muxes ") muxes
    ++ (counted (codes " instruments ") instruments ++ (counted (codes " groups ") groups ++ 32 ∷ [])))

abbrev pub totals_text : Totals → List ℕ
totals_text (Play scans clocks differs) = play_text scans clocks differs
totals_text (Direct reads differs) = direct_text reads differs
totals_text (Made registers muxes instruments groups scans clocks differs) =
    size_text registers muxes instruments groups ++ play_text scans clocks differs
