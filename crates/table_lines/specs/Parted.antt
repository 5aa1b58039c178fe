-- The parts of a row as the reader goes over them.
use Rattle.std.specs.Prelude.{ℕ, suc, Bool, cond, List, [], ◌∷◌, ◌++◌, length, Option, Some, None, codes}
use Rattle.std.proofs.Common.{Bor}
use Rattle.table_lines.specs.declared.parts.LinePart.{LinePart}
use Rattle.table_lines.specs.Reading.{texts}
use Rattle.table_lines.specs.Said.{Words, is, parts, sets, row_of, SaidCond, SaidRow}

-- how many words come before the first comma
abbrev pub part_length : Words → ℕ
part_length [] = 0
part_length (w ∷ ws) = cond (is (codes ",") w) 0 (suc (part_length ws))

abbrev pub after_parts : Option (Bor (List (Bor (List ℕ)))) → List Words
after_parts None = []
after_parts (Some rest) = parts (texts rest.now)

-- a part and those after it
abbrev pub part_list : LinePart → List Words
part_list p = texts p.front.now ∷ after_parts p.after

-- a row with some conditions more before
abbrev pub with_conds : List SaidCond → Option SaidRow → Option SaidRow
with_conds cs None = None
with_conds cs (Some row) = Some (record row { conds = cs ++ row.conds })

-- how many words come after a part
abbrev pub words_after : Option (Bor (List (Bor (List ℕ)))) → ℕ
words_after None = 0
words_after (Some rest) = suc (length rest.now)

-- `do` and assignments after some conditions
abbrev pub do_sets : Bool → List SaidCond → Words → List Words → Option SaidRow
do_sets second cs [] ps = None
do_sets second cs (w ∷ ws) ps = cond (is (codes "do") w) (with_conds cs (row_of (sets second (ws ∷ ps)))) None
