-- Files that are whole are written in turn; and what is all done is a first part of it.
use Rattle.std.specs.Prelude.{option_map}
use Rattle.std.proofs.Common.{◌≡◌, ◌∙◌, inl, inr, sym, ap, ℕ, Bool, Option, Some, List, [], ◌∷◌, length}
use Rattle.std.proofs.Common.{arith}
use Rattle.std.proofs.lemmas.List.{take_all}
use Rattle.retargeter.specs.Files.{HoldsPart}
use Rattle.ij_io.specs.Files.{Files, file_at}
use Rattle.ijtag_stages.specs.Refusals.{Part}
use Rattle.ijtag_work.specs.Late.{IsPartOf}
use Rattle.ijtag_work.specs.Leaves.{Leaves, Written}
use Rattle.ijtag_work.specs.Runs.{AllHold, HoldInTurn, IsDone, Seen}
use Rattle.ijtag_work.proofs.Told.{adds_all}

pub whole_is_part : (old new : Option Files) (name bytes : List ℕ)
    → file_at new name ≡ option_map (λ _. Some bytes) old → HoldsPart old new name bytes
whole_is_part old new name bytes held =
    inr (
      length bytes,
      held ∙ ap (λ (bs : List ℕ). option_map (λ _. Some bs) old)
          (sym (take_all (length bytes) bytes (omega arith))),
    )

pub all_in_turn : (ws : List Written) (old new : Option Files) → AllHold ws old new → HoldInTurn ws old new
all_in_turn [] old new whole = tt
all_in_turn (w ∷ ws) old new whole = inl (whole.0, all_in_turn ws old new whole.1)

pub done_is_part : (work : Part Leaves) (old new : Seen) (differs : Bool)
    → IsDone work old new differs → IsPartOf work old new
done_is_part work old new differs d =
    inr (record {
      leaves = d.leaves;
      given = d.given;
      files = all_in_turn d.leaves.files old.files new.files
          d.files;
      printed = adds_all d.printed;
      in_order = inr d.files;
    })
