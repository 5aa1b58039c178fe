-- The levels around all registers and muxes of a form, in tables that one pass over its marks fills.
use Rattle.std.specs.Prelude.{ℕ, zero, suc, ◌+◌, Bool, true, false, cond, List, [], ◌∷◌, ◌++◌, length}
use Rattle.std.specs.Prelude.{replicate, reverse, slice_get, slice_set, Option, Some, None}
use Rattle.net_graph.specs.declared.net.Net.{Net}
use Rattle.net_graph.specs.declared.net.Point.{Point}
use Rattle.net_graph.specs.declared.net.Point.TheVariants.{Entry, Reg, Mux}
use Rattle.net_tree.specs.declared.mark.Mark.{Mark}
use Rattle.net_tree.specs.declared.mark.Mark.TheVariants.{Reg as RegMark, Mux as MuxMark, Row as RowMark}
use Rattle.net_tree.specs.declared.mark.Mark.TheVariants.{End as EndMark}
use Rattle.nest_check.specs.declared.place.BegunMux.{BegunMux}
use Rattle.nest_check.specs.declared.tables.MetMux.{MetMux}
use Rattle.nest_check.specs.declared.tables.Tables.{Tables}

-- the levels that were met have the numbers from 1 on. `here` is the innermost one around the marks at hand,
-- 0 for none; a register or mux that was named has the number of the one around it
pub record Table : Type 0 where
  pub met : List MetMux
  pub here : ℕ
  pub regs : List (Option ℕ)
  pub muxes : List (Option ℕ)

abbrev pub table_of : Tables → Table
table_of t = record { met = t.met.items; here = t.here; regs = t.regs.items; muxes = t.muxes.items }

abbrev pub around_at : List MetMux → ℕ → Option MetMux
around_at met zero = None
around_at met (suc k) = slice_get met k

-- ---- the pass

-- an item that isn't named yet
abbrev pub is_new : Option (Option ℕ) → Bool
is_new None = false
is_new (Some None) = true
is_new (Some (Some k)) = false

abbrev pub noted : List (Option ℕ) → ℕ → ℕ → List (Option ℕ)
noted numbers item here = cond (is_new (slice_get numbers item)) (slice_set numbers item (Some here)) numbers

abbrev pub level : ℕ → ℕ → BegunMux
level mux begun = record { mux = mux; begun = begun }

abbrev pub entered : Table → BegunMux → ℕ → Table
entered t l outer = record {
  met = t.met ++ record { level = l; outer = outer } ∷ [];
  here = length t.met + 1;
  regs = t.regs;
  muxes = t.muxes;
}

-- the next row of the level at hand
abbrev pub next_row : Table → Option MetMux → Table
next_row t None = t
next_row t (Some a) = entered t (level a.level.mux (a.level.begun + 1)) a.outer

abbrev pub outside : Table → Option MetMux → Table
outside t None = t
outside t (Some a) = record { met = t.met; here = a.outer; regs = t.regs; muxes = t.muxes }

abbrev pub note_register : Table → ℕ → Table
note_register t r = record { met = t.met; here = t.here; regs = noted t.regs r t.here; muxes = t.muxes }

abbrev pub note_mux : Table → ℕ → Table
note_mux t m = record { met = t.met; here = t.here; regs = t.regs; muxes = noted t.muxes m t.here }

unfoldable pub step : Table → Mark → Table
step t (RegMark r) = note_register t r
step t (MuxMark m) = entered (note_mux t m) (level m 0) t.here
step t RowMark = next_row t (around_at t.met t.here)
step t EndMark = outside t (around_at t.met t.here)

abbrev pub pass : Table → List Mark → Table
pass t [] = t
pass t (m ∷ ms) = pass (step t m) ms

unfoldable pub no_marks_taken : ℕ → ℕ → Table
no_marks_taken regs muxes =
    record { met = []; here = 0; regs = replicate regs None; muxes = replicate muxes None }

abbrev pub table : Net → List Mark → Table
table net marks = pass (no_marks_taken (length net.regs.items) (length net.muxes.items)) marks

-- ---- the levels of an item

-- from a level outwards, this many at most
abbrev pub climbed_on : (ℕ → List BegunMux) → Option MetMux → List BegunMux
climbed_on further None = []
climbed_on further (Some a) = a.level ∷ further a.outer

abbrev pub levels_out : ℕ → List MetMux → ℕ → List BegunMux
levels_out zero met here = []
levels_out (suc n) met here = climbed_on (levels_out n met) (around_at met here)

abbrev pub levels_from : List MetMux → Option (Option ℕ) → List BegunMux
levels_from met None = []
levels_from met (Some None) = []
levels_from met (Some (Some here)) = reverse (levels_out here met here)

abbrev pub number_of : Table → Point → Option (Option ℕ)
number_of t Entry = None
number_of t (Reg r) = slice_get t.regs r
number_of t (Mux m) = slice_get t.muxes m

-- outermost first
unfoldable pub levels_in : Table → Point → List BegunMux
levels_in t item = levels_from t.met (number_of t item)
