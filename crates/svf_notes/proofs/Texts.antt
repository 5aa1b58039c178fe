-- A text with notes, command by command.
use Rattle.std.proofs.Common.{◌≡◌, ℕ, suc, ◌+◌, ◌-◌, ◌^◌, Bool, false, Option, Some, List, [], ◌∷◌, ◌++◌}
use Rattle.std.proofs.Common.{length, take, drop, refl, ap, sym, ◌∙◌, subst, arith, append_assoc}
use Rattle.std.specs.Prelude.{min}
use Rattle.ij_io.specs.Bytes.{AddsPart}
use Rattle.ij_io.specs.Files.{Files}
use Rattle.ij_io.specs.Pieces.{HoldsFront, with_piece}
use Rattle.ij_io.proofs.Adding.{adds_then_part, adds_none}
use Rattle.ij_io.proofs.Fronts.{AddsFront, front_next}
use Rattle.ij_io.proofs.Pieces.{piece_adds}
use Rattle.svf_reader.specs.Commands.{is_scan}
use Rattle.svf_reader.specs.Texts.{plain, texts, words}
use Rattle.svf_reader.proofs.Cuts.{plain_length}
use Rattle.svf_reader.proofs.Whole.{texts_some}
use Rattle.svf_notes.specs.Explained.{explained, note_at, notes_left, with_notes}

front_taken : (front rest : List ℕ) (b : ℕ) → take (suc (length front)) (front ++ b ∷ rest) ≡ front ++ b ∷ []
front_taken [] rest b = refl
front_taken (x ∷ xs) rest b = ap (λ (l : List ℕ). x ∷ l) (front_taken xs rest b)

front_dropped : (front rest : List ℕ) (b : ℕ) → drop (suc (length front)) (front ++ b ∷ rest) ≡ rest
front_dropped [] rest b = refl
front_dropped (x ∷ xs) rest b = front_dropped xs rest b

-- a command with its `;`, its note if it is a scan, and the rest
pub next_is : (notes : List (List ℕ)) (text command rest : List ℕ)
    → texts (plain text) ≡ plain command ∷ texts (plain rest) → text ≡ command ++ 59 ∷ rest
    → explained notes text ≡ (command ++ 59 ∷ [] ++ note_at (is_scan (words (plain command))) notes rest)
    ++ explained (notes_left (is_scan (words (plain command))) notes) rest
unfolding explained
next_is notes text command rest cut whole =
    cases (texts_some (plain rest)).0 (texts_some (plain rest)).1 (texts_some (plain rest)).2
  where
    scans : Bool
    scans = is_scan (words (plain command))

    left : List (List ℕ)
    left = notes_left scans notes

    cases : (u : List ℕ) (us : List (List ℕ)) → texts (plain rest) ≡ u ∷ us
        → with_notes (texts (plain text)) notes text
        ≡ (command ++ 59 ∷ [] ++ note_at scans notes rest) ++ with_notes (texts (plain rest)) left rest
    cases u us is =
        let n = suc (length command) in
        let long : suc (length (plain command)) ≡ n = ap suc (plain_length false command) in
        let taken : take n text ≡ command ++ 59 ∷ [] = ap (take n) whole ∙ front_taken command rest 59 in
        let dropped : drop n text ≡ rest = ap (drop n) whole ∙ front_dropped command rest 59 in
        ap (λ (l : List (List ℕ)). with_notes l notes text)
        (cut ∙ ap (λ (l : List (List ℕ)). plain command ∷ l) is)
        ∙ ap (λ (k : ℕ). take k text
        ++ (note_at scans notes (drop k text) ++ with_notes (u ∷ us) left (drop k text))) long
        ∙ ap (λ (l : List ℕ). l
        ++ (note_at scans notes (drop n text) ++ with_notes (u ∷ us) left (drop n text))) taken
        ∙ ap (λ (l : List ℕ). (command ++ 59 ∷ [])
        ++ (note_at scans notes l ++ with_notes (u ∷ us) left l)) dropped
        ∙ sym (append_assoc (command ++ 59 ∷ []) (note_at scans notes rest) (with_notes (u ∷ us) left rest))
        ∙ ap (λ (l : List (List ℕ)). (command ++ 59 ∷ [] ++ note_at scans notes rest)
        ++ with_notes l left rest) (sym is)

pub last_is : (notes : List (List ℕ)) (text : List ℕ)
    → texts (plain text) ≡ plain text ∷ [] → explained notes text ≡ text
unfolding explained
last_is notes text cut = ap (λ (l : List (List ℕ)). with_notes l notes text) cut

-- ---- the length

-- one command more: no more is counted than 64 bits can hold
pub next_count : (all here later before now : ℕ) (command note : ℕ)
    → min (before + (here + later)) (2 ^ 64 - 1) ≡ min all (2 ^ 64 - 1) → here ≡ command + note
    → now ≡ min (min (before + command) (2 ^ 64 - 1) + min note (2 ^ 64 - 1)) (2 ^ 64 - 1)
    → min (now + later) (2 ^ 64 - 1) ≡ min all (2 ^ 64 - 1)
next_count all here later before now command note so_far is counted = omega (arith, so_far, is, counted)

-- ---- the file

module _ (files : Option Files) (name : List ℕ) (old : Option (List ℕ)) (all : List ℕ) where
  -- a command more is in the piece, and this may have gone to the file
  pub one_more : (here later rest piece longer : List ℕ)
      → AddsFront old (with_piece files name piece) rest all → rest ≡ here ++ later → longer ≡ piece ++ here
      → AddsFront old (with_piece files name longer) later all
  one_more here later rest piece longer front is more =
      front_next here later (subst (λ (l : List ℕ). AddsFront old (with_piece files name piece) l all) is
      front) (piece_adds files name piece longer here (record { added = ap Some more }))

  pub gone : (later longer next : List ℕ) (now : Option Files)
      → AddsFront old (with_piece files name longer) later all
      → with_piece now name next ≡ with_piece files name longer
      → AddsFront old (with_piece now name next) later all
  gone later longer next now front same =
      subst (λ (n : Option (List ℕ)). AddsFront old n later all) (sym same) front

  -- what the file holds is a first part of the text
  pub is_part : (rest piece : List ℕ) (now : Option Files)
      → AddsFront old (with_piece files name piece) rest all
      → HoldsFront now name (with_piece files name piece)
      → (text : Option (List ℕ)) × AddsPart old text all × HoldsFront now name text
  is_part rest piece now front h =
      let part : AddsPart old (with_piece files name piece) (front.front ++ rest) =
      adds_then_part front.added (adds_none rest refl) in
      (with_piece files name piece, subst (AddsPart old (with_piece files name piece)) front.whole part, h)
