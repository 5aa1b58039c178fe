-- The lines of compares that differ: where they stand, what was expected and what was found.
use Rattle.std.specs.Prelude.{ℕ, ◌==◌, cond, List, [], ◌∷◌, ◌++◌, codes, decimal, Option, Some, None, Bool}
use Rattle.net_graph.specs.declared.step.ReadBit.{ReadBit}
use Rattle.report.specs.declared.differ.Differ.{Differ}
use Rattle.report.specs.Registers.{digit}

-- the iRead of a bit, its line, and the bit's place in what it names
abbrev pub iread_text : ReadBit → List ℕ
iread_text r = codes " iread "
    ++ (decimal r.read ++ (codes " line " ++ (decimal r.line ++ (codes " index " ++ decimal r.index))))

abbrev pub maybe_iread : Option ReadBit → List ℕ
maybe_iread None = []
maybe_iread (Some r) = iread_text r

abbrev pub found_text : Bool → Bool → List ℕ
found_text expect found = codes " expected " ++ (digit expect ∷ (codes " read " ++ digit found ∷ []))

abbrev pub scan_text : ℕ → ℕ → List ℕ
scan_text scan bit = codes " scan " ++ (decimal scan ++ (codes " bit " ++ decimal bit))

-- of a procedure's read, without a scan
abbrev pub read_text : Differ → List ℕ
read_text d = codes "differs" ++ (maybe_iread d.read ++ (found_text d.expect d.found ++ 10 ∷ []))

-- of a scan's compare
abbrev pub compare_text : Differ → List ℕ
compare_text d =
    codes "differs"
    ++ (scan_text d.scan d.bit ++ (found_text d.expect d.found ++ (maybe_iread d.read ++ 10 ∷ [])))

-- scans are counted from 1
abbrev pub differ_text : Differ → List ℕ
differ_text d = cond (d.scan == 0) (read_text d) (compare_text d)
