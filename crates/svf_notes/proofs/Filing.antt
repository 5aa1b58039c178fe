-- The whole text in its file.
use Rattle.std.proofs.Common.{◌≡◌, ℕ, Option, Some, List, [], map, ap, ◌∙◌, subst}
use Rattle.std.specs.Option.{option_map}
use Rattle.std.specs.Prelude.{Result, Ok, Err, OnOk}
use Rattle.ij_io.specs.Bytes.{Adds}
use Rattle.ij_io.specs.Files.{Files, file_at, told_bytes}
use Rattle.ij_io.specs.Pieces.{HoldsPart, IsThere, with_piece}
use Rattle.ij_io.proofs.Adding.{adds_both, adds_then_part}
use Rattle.ij_io.proofs.Pieces.{all_held, first_piece, nothing, part_held}
use Rattle.instruments.specs.declared.Counts.{Counts}
use Rattle.instruments.specs.Seen.{SeenModel}
use Rattle.net_graph.specs.declared.device.Device.{Device}
use Rattle.net_graph.specs.declared.net.Net.{Net}
use Rattle.svf_writer.specs.SeenCommands.{SeenCommand}
use Rattle.svf_notes.specs.declared.playing.Playing.{Playing}
use Rattle.svf_notes.specs.Explained.{HoldsSome, explained, explained_text}
use Rattle.svf_notes.specs.Left.{left_notes, left_scans}
use Rattle.svf_notes.specs.Notes.{note_of, note_text, played_scans}
use Rattle.svf_notes.specs.Scans.{Scan}

-- the notes that are left, by an earlier state of the same play
pub same_notes : (p q : Playing) → q.net.now ≡ p.net.now → q.device.now ≡ p.device.now
    → left_notes q ≡ map (λ x. note_text (note_of p.net.now p.device.now x)) (left_scans q)
unfolding left_notes
same_notes p q n d =
    ap (λ (m : Net). map (λ x. note_text (note_of m q.device.now x)) (left_scans q)) n
    ∙ ap (λ (e : Device). map (λ x. note_text (note_of p.net.now e x)) (left_scans q)) d

-- the notes that are left at the start are those of the play
pub start_text : (p : Playing) (net : Net) (device : Device) (models : List SeenModel)
    (commands : List SeenCommand) (src : List ℕ) → p.net.now ≡ net → p.device.now ≡ device
    → left_scans p ≡ played_scans net device models commands
    → explained (left_notes p) src ≡ explained_text net device models commands src
unfolding left_notes explained_text
start_text p net device models commands src n d is =
    ap (λ (m : Net). explained (map (λ x. note_text (note_of m p.device.now x)) (left_scans p)) src) n
    ∙ ap (λ (e : Device). explained (map (λ x. note_text (note_of net e x)) (left_scans p)) src) d
    ∙ ap (λ (xs : List (Scan Counts)). explained (map (λ x. note_text (note_of net device x)) xs) src) is

module _ (old begun new : Option Files) (name piece text whole : List ℕ) (none : piece ≡ [])
    (empty : file_at begun name ≡ option_map (λ f. Some []) old) (same : text ≡ whole) where
  first : Adds (nothing old) (with_piece begun name piece) []
  first = first_piece old begun name piece [] (record { added = ap Some none }) empty

  pub part_of : HoldsSome new name (with_piece begun name piece) text → HoldsPart old new name whole
  part_of (held, part, there) =
      subst (HoldsPart old new name) same (part_held old new name text held (adds_then_part first part) there)

  pub all_of : Adds (with_piece begun name piece) (told_bytes new name) text → IsThere new name
      → file_at new name ≡ option_map (λ _. Some whole) old
  all_of added there =
      subst (λ (bytes : List ℕ). file_at new name ≡ option_map (λ _. Some bytes) old) same
      (all_held old new name text there (adds_both first added))

-- two facts of one answer
pub on_both : {T E P Q R : Type 0} (r : Result T E) → (P → Q → R) → OnOk r P → OnOk r Q → OnOk r R
on_both (Ok x) f p q = f p q
on_both (Err e) f p q = tt
