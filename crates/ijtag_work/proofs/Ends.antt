-- How a command ends that writes one file, or prints one text, or both, from how its parts do.
use Rattle.std.specs.Prelude.{option_map}
use Rattle.std.proofs.Common.{◌≡◌, inl, inr, ℕ, Bool, Option, Some, List, [], refl}
use Rattle.retargeter.specs.Files.{HoldsPart}
use Rattle.ij_io.specs.Bytes.{Adds, AddsPart}
use Rattle.ij_io.specs.Files.{Files, file_at}
use Rattle.ij_io.proofs.Adding.{with_none, adds_none}
use Rattle.ijtag_stages.specs.Refusals.{Part}
use Rattle.ijtag_work.specs.Late.{IsPartOf}
use Rattle.ijtag_work.specs.Leaves.{Leaves}
use Rattle.ijtag_work.specs.Order.{ran, told}
use Rattle.ijtag_work.specs.Runs.{IsDone, Seen}
use Rattle.ijtag_work.proofs.Whole.{whole_is_part}

-- nothing is printed
pub none_added : (old : Option (List ℕ)) → Adds old old []
none_added old = record { added = with_none old }

-- one file is written, and then a text is printed
module _ (work : Part Leaves) (name bytes text : List ℕ) (wanted : Bool)
    (given : work.gives (ran name bytes text wanted)) (old new : Seen) where
  -- the file is cut off
  pub file_cut : HoldsPart old.files new.files name bytes → new.printed ≡ old.printed → IsPartOf work old new
  file_cut part silent =
      inr (record {
        leaves = ran name bytes text wanted;
        given = given;
        files = inr (part, tt);
        printed = adds_none text silent;
        in_order = inl silent;
      })

  module _ (whole : file_at new.files name ≡ option_map (λ _. Some bytes) old.files) where
    -- the text is cut off
    pub text_cut : AddsPart old.printed new.printed text → IsPartOf work old new
    text_cut part =
        inr (record {
          leaves = ran name bytes text wanted;
          given = given;
          files = inr (whole_is_part old.files new.files name bytes whole, tt);
          printed = part;
          in_order = inr (whole, tt);
        })

    pub all_done : (differs : Bool) → Adds old.printed new.printed text → differs ≡ wanted
        → IsDone work old new differs
    all_done differs printed verdict =
        record {
          leaves = ran name bytes text wanted;
          given = given;
          files = (whole, tt);
          printed = printed;
          verdict = verdict;
        }

-- or nothing is printed
module _ (work : Part Leaves) (files new : Option Files) (printed : Option (List ℕ)) (name bytes : List ℕ)
    (wanted : Bool) (given : work.gives (ran name bytes [] wanted)) where
  abbrev with_files : Option Files → Seen
  with_files fs = record { files = fs; printed = printed }

  pub file_done : file_at new name ≡ option_map (λ _. Some bytes) files
      → IsDone work (with_files files) (with_files new) wanted
  file_done whole =
      all_done work name bytes [] wanted given (with_files files) (with_files new) whole wanted
      (none_added printed) refl

  pub file_part : HoldsPart files new name bytes → IsPartOf work (with_files files) (with_files new)
  file_part part =
      file_cut work name bytes [] wanted given (with_files files) (with_files new) part refl

module _ (work : Part Leaves) (files : Option Files) (old new : Option (List ℕ)) (text : List ℕ)
    (wanted : Bool) (given : work.gives (told text wanted)) where
  pub told_done : (differs : Bool) → Adds old new text → differs ≡ wanted → IsDone work
      (record { files = files; printed = old }) (record { files = files; printed = new }) differs
  told_done differs printed verdict =
      record { leaves = told text wanted; given = given; files = tt; printed = printed; verdict = verdict }

  pub told_part : AddsPart old new text
      → IsPartOf work (record { files = files; printed = old }) (record { files = files; printed = new })
  told_part part =
      inr (record { leaves = told text wanted; given = given; files = tt; printed = part; in_order = inr tt })
