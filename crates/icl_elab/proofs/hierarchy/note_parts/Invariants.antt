use Rattle.std.proofs.Common.{◌≡◌, ◌<◌, ℕ, None, cond, length, drop}
use Rattle.std.specs.List.{position_from}
use Rattle.ij_text.specs.Options.{or_else}
use Rattle.icl_references.specs.Names.{is_in}
use Rattle.icl_elab.specs.Placing.{home_at, is_of_cell, parent_in}
use Rattle.icl_references.specs.Tables.{frames_of}
use Rattle.icl_elab.proofs.hierarchy.note_parts.Given as goal

abbrev pub invariant-loop-k : goal.invariant-loop-k
invariant-loop-k l = (c : ℕ) → c < length l.fn.homes →
    or_else (home_at l.homes c) (cond (is_in (parent_in (frames_of l.tables) c) l.here)
    (position_from (is_of_cell c) l.k (drop l.k l.parts)) None)
    ≡ or_else (home_at l.fn.homes c)
    (cond (is_in (parent_in (frames_of l.tables) c) l.here) (position_from (is_of_cell c) 0 l.parts) None)
