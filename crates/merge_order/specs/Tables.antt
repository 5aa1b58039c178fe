-- What the joins of a turn name, in tables that grow as joins are put in. A set counts where its stamp is
-- that of the table, so that a new stamp empties the table.
use Rattle.std.specs.Prelude.{◌≡◌, ◌≤◌, ℕ, Bool, ◌||◌, List, [], ◌++◌, flat_map, slice_index_or}
use Rattle.std.specs.List.{list_any}
use Rattle.net_graph.specs.declared.branch.Branch.{Branch}
use Rattle.net_graph.specs.declared.net.BitId.{BitId}
use Rattle.net_graph.specs.SeenSteps.{SeenGroup}
use Rattle.pdl_targets.specs.Rounds.{Places}
use Rattle.pdl_targets.specs.Sets.{StampedSet, has_round}
use Rattle.pdl_targets.specs.Rows.{row_at}

-- ---- bits

-- at each position of a register the joins that name the bit there
abbrev pub sets_of : List (List StampedSet) → ℕ → List StampedSet
sets_of regs reg = slice_index_or regs reg []

-- no set has a stamp above this one
abbrev pub AreStamped : ℕ → List StampedSet → Type 0
AreStamped stamp sets = (pos : ℕ) → (row_at sets pos).stamp ≤ stamp

-- a set for each bit, and one for the joins that nothing joins
pub record StampedBits : Type 0 where
  pub stamp : ℕ
  pub closed : StampedSet
  pub regs : List (List StampedSet)

-- a join names a bit
abbrev pub has_bit : StampedBits → BitId → ℕ → Bool
has_bit t b k = has_round t.stamp (row_at (sets_of t.regs b.reg) b.pos) k

-- a join names a bit that a round names
abbrev pub names_one : StampedBits → SeenGroup → ℕ → Bool
names_one t g k = list_any (λ w. has_bit t w.bit k) g.writes || list_any (λ r. has_bit t r.bit k) g.reads

-- nothing joins a join
abbrev pub is_shut : StampedBits → ℕ → Bool
is_shut t k = has_round t.stamp t.closed k

-- the stamp of the table is 1 or more, and no other is above it
pub record AreBitsStamped (stamp : ℕ) (closed : StampedSet) (regs : List (List StampedSet)) : Type 0 where
  pub some : 1 ≤ stamp
  pub of_closed : closed.stamp ≤ stamp
  pub of_regs : (reg : ℕ) → AreStamped stamp (sets_of regs reg)

-- ---- rounds

-- the rows around the registers that a round names
abbrev pub rows_around : Places → SeenGroup → List Branch
rows_around places g = flat_map (λ w. places w.bit.reg) g.writes ++ flat_map (λ r. places r.bit.reg) g.reads

-- the same rows, however often each is there
abbrev pub SameRows : List Branch → List Branch → Type 0
SameRows xs ys = (test : Branch → Bool) → list_any test xs ≡ list_any test ys
