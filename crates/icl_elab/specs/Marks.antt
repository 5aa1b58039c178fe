-- The bindings of an instance, and a table of the bits that they bind: for each part and position the number
-- of its binding.
use Rattle.std.specs.Prelude.{◌≡◌, ℕ, nat_lt, ◌==◌, Bool, not, ◌||◌, List, [], length, slice_index_or, Option}
use Rattle.std.specs.Prelude.{None, Ok}
use Rattle.std.specs.List.{list_any, list_all, position_from, range_with_len}
use Rattle.icl_lexer.specs.Values.{SeenRange, SeenSig}
use Rattle.ij_text.specs.declared.Place.{Place}
use Rattle.icl_declarations.specs.Faults.{Answer, ◌>>=◌, refuse_if, DoubleName, WrongKind}
use Rattle.icl_frames.specs.FirstPass.{Frame}
use Rattle.icl_declarations.specs.Parts.{is_input, port_that}
use Rattle.icl_declarations.specs.Ranges.{positions, named_positions, width}
use Rattle.icl_elab.specs.declared.bindings.Bound.{Bound as BoundAt}
use Rattle.icl_references.specs.Names.{Here, Member, named}
use Rattle.icl_references.specs.Tables.{here_at}
use Rattle.icl_elab.specs.Bindings.{Bound, binds_bit, is_bound, bound_refs}

abbrev pub seen_bound : BoundAt → Bound
seen_bound b = record { part = b.part; stretch = b.stretch; refs = b.refs.items }

-- ---- the table

abbrev pub mark_at : List (Option ℕ) → ℕ → Option ℕ
mark_at row pos = slice_index_or row pos None

abbrev pub row_at : List (List (Option ℕ)) → ℕ → List (Option ℕ)
row_at rows part = slice_index_or rows part []

abbrev pub has_marks : List (Option ℕ) → Bool
has_marks row = nat_lt 0 (length row)

-- a table of these bindings; of two that bind one bit the first counts
pub record AreMarked (rows : List (List (Option ℕ))) (bs : List Bound) : Type 0 where
  pub bits : (part pos : ℕ) → mark_at (row_at rows part) pos ≡ position_from (binds_bit part pos) 0 bs
  pub parts : (part : ℕ) → has_marks (row_at rows part) ≡ list_any (λ b. b.part == part) bs

-- a part that is bound somewhere is bound everywhere
abbrev pub is_whole_part : List Bound → Member → Bool
is_whole_part bs m = not (list_any (λ b. b.part == m.part) bs) || list_all
    (is_bound bs m.part) (range_with_len 0 (width m.bounds))

-- ---- one binding of a port

-- no cell, where none matters
abbrev pub nowhere : Here
nowhere = here_at [] 0

-- the bits that it binds, none of them bound already, and what it binds them to
unfoldable pub bound_in : List Frame → Here → Frame → List Bound → Place → List ℕ
    → Option SeenRange → List SeenSig → Answer Bound
bound_in frames here child bs at name range ss = do
  m ← named child at name
  input ← refuse_if (not (port_that is_input m.item.what)) (WrongKind at)
  s ← named_positions here.frame.params m.bounds range
  once ← refuse_if (list_any (is_bound bs m.part) (positions s)) (DoubleName at name)
  refs ← bound_refs frames here child at m.item.what s ss
  Ok (record { part = m.part; stretch = s; refs = refs })
