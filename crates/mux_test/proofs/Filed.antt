-- The scans of a test that are written one after the other, each after a piece.
use Rattle.std.specs.Prelude.{All}
use Rattle.std.proofs.lemmas.List.Elements.{All-head, All-tail}
use Rattle.std.proofs.Common.{◌≡◌, ℕ, Option, Some, List, [], ◌∷◌, ◌++◌, refl, sym, ap, ◌∙◌, subst}
use Rattle.std.proofs.Common.{append_assoc}
use Rattle.std.specs.Option.{option_map}
use Rattle.ij_io.specs.Bytes.{Adds, AddsPart}
use Rattle.ij_io.specs.Files.{Files, file_at, told_bytes}
use Rattle.ij_io.specs.Pieces.{HoldsFront, HoldsPart, IsThere, with_piece}
use Rattle.ij_io.proofs.Adding.{adds_both, adds_then_part, adds_none}
use Rattle.ij_io.proofs.Pieces.{all_held, first_piece, part_held, piece_adds}
use Rattle.net_graph.specs.declared.device.Device.{Device}
use Rattle.net_graph.specs.declared.net.Net.{Net}
use Rattle.svf_writer.specs.Written.{preface}
use Rattle.mux_test.specs.Flushes.{SeenTestScan}
use Rattle.mux_test.specs.Texts.{CanWrite, scan_text, scans_text}

-- of these scans those that are left are still to be written: what was written before them is added
pub record Go (net : Net) (all : List SeenTestScan) (old : Option (List ℕ))
    (left : List SeenTestScan) (now : Option (List ℕ)) : Type 0 where
  pub written : List ℕ
  pub text : scans_text net all ≡ written ++ scans_text net left
  pub added : Adds old now written

pub at_first : (net : Net) (all : List SeenTestScan) (old : Option (List ℕ))
    → Adds old old [] → Go net all old all old
at_first net all old none = record { written = []; text = refl; added = none }

module _ (net : Net) (all : List SeenTestScan) (old : Option (List ℕ)) (name : List ℕ)
    (left : List SeenTestScan) (files : Option Files) (piece : List ℕ)
    (go : Go net all old left (with_piece files name piece)) where
  -- what the file holds is a first part of the text of all scans
  pub is_part : (now : Option Files) → HoldsFront now name (with_piece files name piece)
      → (text : Option (List ℕ)) × AddsPart old text (scans_text net all) × HoldsFront now name text
  is_part now h =
      let part : AddsPart old (with_piece files name piece) (go.written ++ scans_text net left) =
      adds_then_part go.added (adds_none (scans_text net left) refl) in
      (with_piece files name piece, subst (AddsPart old (with_piece files name piece)) (sym go.text) part, h)

  -- a scan is written after the piece, and this may have gone to the file
  pub one_more : (scan : SeenTestScan) (later : List SeenTestScan) (longer next : List ℕ) (now : Option Files)
      → left ≡ scan ∷ later → Adds (Some piece) (Some longer) (scan_text net scan)
      → with_piece now name next ≡ with_piece files name longer
      → Go net all old later (with_piece now name next)
  one_more scan later longer next now e w same =
      record {
        written = go.written ++ scan_text net scan;
        text = go.text ∙ ap (λ l. go.written ++ scans_text net l) e
            ∙ sym (append_assoc go.written (scan_text net scan) (scans_text net later));
        added = subst (λ n. Adds old n (go.written ++ scan_text net scan)) (sym same)
            (adds_both go.added (piece_adds files name piece longer (scan_text net scan) w));
      }

-- a list that begins with what was given, and the rest of it
pub first_can : (net : Net) (left : List SeenTestScan) (scan : SeenTestScan) (later : List SeenTestScan)
    → left ≡ scan ∷ later → All (CanWrite net) left → CanWrite net scan
first_can net left scan later e a = All-head (CanWrite net) scan later (subst (All (CanWrite net)) e a)

pub later_can : (net : Net) (left : List SeenTestScan) (scan : SeenTestScan) (later : List SeenTestScan)
    → left ≡ scan ∷ later → All (CanWrite net) left → All (CanWrite net) later
later_can net left scan later e a = All-tail (CanWrite net) scan later (subst (All (CanWrite net)) e a)

-- ---- the whole text in the file, from an empty one on

module _ (net : Net) (all : List SeenTestScan) (device : Device) (old : Option Files) (name : List ℕ) where
  abbrev whole_text : List ℕ
  whole_text = preface device ++ scans_text net all

  module _ (begun : Option Files) (piece : List ℕ) (front : Adds (Some []) (Some piece) (preface device))
      (empty : file_at begun name ≡ option_map (λ f. Some []) old) (new : Option Files) where
    pub part_of : ((text : Option (List ℕ)) × AddsPart (with_piece begun name piece) text (scans_text net all)
        × HoldsFront new name text) → HoldsPart old new name whole_text
    part_of (text, part, held) =
        part_held old new name whole_text text
        (adds_then_part (first_piece old begun name piece (preface device) front empty) part) held

    pub all_of : Adds (with_piece begun name piece) (told_bytes new name) (scans_text net all)
        → IsThere new name → file_at new name ≡ option_map (λ _. Some whole_text) old
    all_of added there =
        all_held old new name whole_text there
        (adds_both (first_piece old begun name piece (preface device) front empty) added)
