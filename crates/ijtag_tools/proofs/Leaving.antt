-- What a tighten leaves where it is done, or in part; and what its file then has.
use Rattle.std.specs.Prelude.{IfSome, option_map}
use Rattle.std.proofs.Common.{◌≡◌, ◌∙◌, ap, refl, subst, ℕ, Bool, false, List, Option}
use Rattle.std.proofs.Common.{Some, None}
use Rattle.ij_io.specs.Bytes.{Adds, AddsPart}
use Rattle.ij_io.specs.Files.{Files, file_at}
use Rattle.ij_io.specs.Pieces.{HoldsPart}
use Rattle.ijtag_work.specs.Accepted.{SeenAccepted}
use Rattle.ijtag_work.specs.Late.{IsPartOf}
use Rattle.ijtag_work.specs.Leaves.{Leaves}
use Rattle.ijtag_work.specs.Runs.{AllHold, IsDone, Seen}
use Rattle.ijtag_work.specs.Task.{work}
use Rattle.ijtag_work.proofs.Ends.{all_done, file_cut, text_cut}
use Rattle.ijtag_tools.specs.Command.{Command, Tighten, Tightens}
use Rattle.ijtag_tools.specs.Order.{cost_line, left_of, task, tightened}
use Rattle.ijtag_tools.specs.Planned.{IsTightened as Found, seen_cost}
use Rattle.ijtag_tools.specs.Promises.{IfTightens, IsTightened}
use Rattle.ijtag_tools.specs.Tight.{Cost, cost_of}
use Rattle.ijtag_tools.specs.declared.planned.Tightened.{Tightened}

module _ (name : List ℕ) (it : SeenAccepted) (t : Tightened) (is : Found it t) where
  abbrev pub text : List ℕ
  text = cost_line (seen_cost t.cost) (seen_cost t.before) t.least

  abbrev pub left : Leaves
  left = left_of name t.svf (seen_cost t.cost) (seen_cost t.before) t.least

  pub given : (tightened name it).gives left
  unfolding tightened
  given = (
    t.svf,
    is.tight,
    ap (λ (c : Cost). left_of name t.svf c (seen_cost t.before) t.least) is.takes
        ∙ ap (λ (c : Cost). left_of name t.svf (cost_of is.tight.commands) c t.least) is.took
        ∙ ap (left_of name t.svf (cost_of is.tight.commands) (cost_of is.tight.before)) is.least,
  )

  pub can : (leaves : Leaves) × (tightened name it).gives leaves
  can = (left, given)

  module _ (old new : Seen) where
    -- the file is cut off
    pub file_part : HoldsPart old.files new.files name t.svf
        → new.printed ≡ old.printed → IsPartOf (tightened name it) old new
    file_part = file_cut (tightened name it) name t.svf text false given old new

    module _ (whole : file_at new.files name ≡ option_map (λ _. Some t.svf) old.files) where
      -- the line is cut off
      pub line_part : AddsPart old.printed new.printed text → IsPartOf (tightened name it) old new
      line_part = text_cut (tightened name it) name t.svf text false given old new whole

      pub line_done : Adds old.printed new.printed text → IsDone (tightened name it) old new false
      line_done printed =
          all_done (tightened name it) name t.svf text false given old new whole false printed refl

-- ---- what is done has such a file

module _ (files : Option Files) (printed : Option (List ℕ)) (new : Seen) where
  abbrev before : Seen
  before = record { files = files; printed = printed }

  tight_file : (t : Tighten) (differs : Bool) → IsDone (work files (task (Tightens t))) before new differs
      → IsTightened files t (file_at new.files t.svf)
  unfolding tightened
  tight_file t differs d =
      let g = d.given in
      let left = g.2.2 in
      record {
        texts = g.0;
        it = g.2.0;
        read = g.1;
        accepted = g.2.1;
        holds = record {
          bytes = left.0;
          written =
              (subst (λ (l : Leaves). AllHold l.files files new.files) left.2 d.files).0;
          tight = left.1;
        };
      }

  pub tight_done : (words : Option Command) (differs : Bool)
      → IfSome words (λ command. IsDone (work files (task command)) before new differs)
      → IfSome words (λ command. IfTightens command (λ t. IsTightened files t (file_at new.files t.svf)))
  tight_done None differs d = tt
  tight_done (Some (Tightens t)) differs d = tight_file t differs d
  tight_done (Some _) differs d = tt
