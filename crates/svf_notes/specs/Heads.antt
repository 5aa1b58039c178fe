-- What the row of a register begins with, up to its values, and what comes after it.
use Rattle.std.specs.Prelude.{◌≡◌, ◌⊎◌, ℕ, suc, Bool, cond, List, [], ◌∷◌, ◌++◌, codes, length}
use Rattle.std.specs.List.{list_any}
use Rattle.ij_bits.specs.BitLists.{bits_eq}
use Rattle.net_graph.specs.declared.net.Net.{Net}
use Rattle.net_graph.specs.Named.{width_of}
use Rattle.report.specs.Paths.{register_path}
use Rattle.svf_notes.specs.declared.heads.Head.{Head}
use Rattle.svf_notes.specs.declared.scan.Shifted.{Shifted}
use Rattle.svf_notes.specs.declared.scan.Shown.TheVariants.{Written, Expected, Found}
use Rattle.svf_notes.specs.Notes.{differs, digits, is_compared, positions_text, range_text, tdi_bits}

abbrev pub row_head : Net → ℕ → ℕ → List ℕ
row_head net r at =
    codes "\n!:" ++ (positions_text at (width_of net r)
    ++ (register_path net r ++ (range_text net r (width_of net r) ++ codes " writes ")))

abbrev pub values_after : List Bool → List Shifted → List ℕ
values_after held bits =
    digits Written bits
    ++ (cond (bits_eq (tdi_bits bits) held) (codes " as before") []
    ++ (cond (list_any is_compared bits) (codes " expects " ++ digits Expected bits) []
    ++ cond (list_any differs bits) (codes " finds " ++ digits Found bits) []))

-- what is kept for a register: nothing, or what its row begins with at a position
abbrev pub IsHead : Net → ℕ → Head → Type 0
IsHead net r head = (head.text.items ≡ []) ⊎ (head.text.items ≡ row_head net r head.at)

-- those of the registers from r on
abbrev pub AreHeadsFrom : Net → ℕ → List Head → Type 0
AreHeadsFrom net r [] = Unit {0}
AreHeadsFrom net r (head ∷ heads) = IsHead net r head × AreHeadsFrom net (suc r) heads

pub record AreHeads (net : Net) (heads : List Head) : Type 0 where
  pub count : length heads ≡ length net.regs.items
  pub each : AreHeadsFrom net 0 heads
