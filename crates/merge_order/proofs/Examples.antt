-- Merges of two branches.
use Rattle.std.proofs.Common.{◌≡◌, ℕ, Bool, true, false, List, [], ◌∷◌, refl}
use Rattle.net_graph.specs.declared.branch.Branch.{Branch as Row}
use Rattle.net_graph.specs.declared.step.WriteBit.{WriteBit}
use Rattle.net_graph.specs.SeenSteps.{SeenGroup, SeenStep, Apply, Run}
use Rattle.pdl_targets.specs.Rounds.{Places}
use Rattle.merge_order.specs.Merge.{merged}

abbrev sets : ℕ → ℕ → Bool → WriteBit
sets r p v = record { bit = record { reg = r; pos = p }; value = v }

-- a round that writes two bits of a register, position 0 first
abbrev two : ℕ → Bool → Bool → List WriteBit
two r low high = sets r 0 low ∷ sets r 1 high ∷ []

abbrev group : List WriteBit → SeenGroup
group writes = record { writes = writes; reads = [] }

abbrev writing : List WriteBit → SeenStep
writing writes = Apply (group writes ∷ [])

-- ---- two registers one after the other, 0 and 1

abbrev in_line : Places
in_line r = []

-- one branch writes 1, runs 10 clocks and writes 2; the other writes 3 and runs 30
turns_are_shared :
    merged in_line ((writing (two 0 true false) ∷ Run 10 ∷ writing (two 0 false true) ∷ [])
    ∷ (writing (two 1 true true) ∷ Run 30 ∷ []) ∷ [])
    ≡ Apply (record {
      writes = sets 0 0 true ∷ sets 0 1 false ∷ sets 1 0 true ∷ sets 1 1 true ∷ [];
      reads =
          [];
    } ∷ []) ∷ Run 30 ∷ writing (two 0 false true) ∷ []
turns_are_shared = refl

-- ---- two registers in two rows of one mux

abbrev row_of : ℕ → List Row
row_of r = record { mux = 0; row = r } ∷ []

abbrev in_rows : Places
in_rows r = row_of r

-- each branch writes its own register
rows_are_kept_apart : merged in_rows ((writing (two 0 true false) ∷ []) ∷ (writing (two 1 false true) ∷ [])
    ∷ []) ≡ writing (two 0 true false) ∷ writing (two 1 false true) ∷ []
rows_are_kept_apart = refl

-- ---- both branches write one bit

bits_are_kept_apart : merged in_line ((writing (two 0 true false) ∷ []) ∷ (writing (two 0 false true) ∷ [])
    ∷ []) ≡ writing (two 0 true false) ∷ writing (two 0 false true) ∷ []
bits_are_kept_apart = refl

-- a third branch joins the first, after one that can't
later_branches_join :
    merged in_line ((writing (sets 0 0 true ∷ []) ∷ []) ∷ (writing (sets 0 0 false ∷ []) ∷ [])
    ∷ (writing (sets 1 0 true ∷ []) ∷ []) ∷ [])
    ≡ writing (sets 0 0 true ∷ sets 1 0 true ∷ []) ∷ writing (sets 0 0 false ∷ []) ∷ []
later_branches_join = refl

-- an iApply of two rounds is alone
rounds_stand_alone :
    merged in_line ((Apply (group (sets 0 0 true ∷ []) ∷ group (sets 1 0 true ∷ []) ∷ []) ∷ [])
    ∷ (writing (sets 2 0 true ∷ []) ∷ []) ∷ [])
    ≡ Apply (group (sets 0 0 true ∷ []) ∷ group (sets 1 0 true ∷ []) ∷ []) ∷ writing (sets 2 0 true ∷ []) ∷ []
rounds_stand_alone = refl
