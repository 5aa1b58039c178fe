-- Rows of muxes: in which rounds any row of a mux is, in which several are, and in which each row is.
use Rattle.std.specs.Prelude.{◌≡◌, ◌≤◌, ℕ, ◌==◌, Bool, true, false, not, ◌&&◌, ◌||◌, List, [], slice_index_or}
use Rattle.net_graph.specs.declared.branch.Branch.{Branch}
use Rattle.pdl_targets.specs.Sets.{StampedSet, has_round, no_set}

-- two rows of one mux
abbrev pub exclude : Branch → Branch → Bool
exclude a b = (a.mux == b.mux) && not (a.row == b.row)

-- the rounds of a mux
pub record MuxSets : Type 0 where
  pub any : StampedSet
  pub several : StampedSet
  pub rows : List StampedSet

abbrev pub no_mux : MuxSets
no_mux = record { any = no_set; several = no_set; rows = [] }

abbrev pub row_at : List StampedSet → ℕ → StampedSet
row_at rows row = slice_index_or rows row no_set

-- a round has a row of the mux that is another one
abbrev pub has_other : ℕ → MuxSets → ℕ → ℕ → Bool
has_other stamp m row k =
    has_round stamp m.several k || (has_round stamp m.any k && not (has_round stamp (row_at m.rows row) k))

-- no stamp of the mux is above that of the table, any has the rounds of each row, and several has those of
-- two rows
pub record AreMuxSets (stamp : ℕ) (m : MuxSets) : Type 0 where
  pub any_below : m.any.stamp ≤ stamp
  pub several_below : m.several.stamp ≤ stamp
  pub row_below : (row : ℕ) → (row_at m.rows row).stamp ≤ stamp
  pub any_has : (row k : ℕ) → has_round stamp (row_at m.rows row) k ≡ true → has_round stamp m.any k ≡ true
  pub several_has : (row other k : ℕ) → (row == other) ≡ false → has_round stamp (row_at m.rows row) k ≡ true
      → has_round stamp (row_at m.rows other) k ≡ true
      → has_round stamp m.several k ≡ true

pub record StampedRows : Type 0 where
  pub stamp : ℕ
  pub muxes : List MuxSets

abbrev pub mux_at : List MuxSets → ℕ → MuxSets
mux_at muxes mux = slice_index_or muxes mux no_mux

-- a round has a row that the row of a mux excludes
abbrev pub excluded_at : StampedRows → Branch → ℕ → Bool
excluded_at t b k = has_other t.stamp (mux_at t.muxes b.mux) b.row k

-- the stamp of the table is 1 or more, and its muxes are as they must be
pub record AreRowsStamped (stamp : ℕ) (muxes : List MuxSets) : Type 0 where
  pub some : 1 ≤ stamp
  pub each : (mux : ℕ) → AreMuxSets stamp (mux_at muxes mux)
