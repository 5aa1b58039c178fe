-- The text in the file, moment by moment.
use Rattle.std.proofs.Common.{◌≡◌, ℕ, Option, Some, List, [], ◌++◌, refl, ap, sym, subst}
use Rattle.std.specs.Option.{option_map}
use Rattle.ij_io.specs.Bytes.{Adds, AddsPart}
use Rattle.ij_io.specs.Files.{Files, file_at, told_bytes}
use Rattle.ij_io.specs.Pieces.{HoldsFront, HoldsPart, IsThere, with_piece}
use Rattle.ij_io.proofs.Adding.{adds_both, adds_then_part, adds_none}
use Rattle.ij_io.proofs.Fronts.{AddsFront, front_next}
use Rattle.ij_io.proofs.Pieces.{all_held, first_piece, nothing, part_held, piece_adds}
use Rattle.net_wave.specs.Wave.{HoldsSome}

module _ (files : Option Files) (name : List ℕ) (old : Option (List ℕ)) (all : List ℕ) where
  -- a moment more is in the piece, and this may have gone to the file
  pub one_more : (here later rest piece longer : List ℕ)
      → AddsFront old (with_piece files name piece) rest all → rest ≡ here ++ later → longer ≡ piece ++ here
      → AddsFront old (with_piece files name longer) later all
  one_more here later rest piece longer front is more =
      front_next here later (subst (λ (l : List ℕ). AddsFront old (with_piece files name piece) l all) is
      front) (piece_adds files name piece longer here (record { added = ap Some more }))

  pub gone : (later longer next : List ℕ) (now : Option Files)
      → AddsFront old (with_piece files name longer) later all
      → with_piece now name next ≡ with_piece files name longer
      → AddsFront old (with_piece now name next) later all
  gone later longer next now front same =
      subst (λ (n : Option (List ℕ)). AddsFront old n later all) (sym same) front

  -- what the file holds is a first part of the text
  pub is_part : (rest piece : List ℕ) (now : Option Files)
      → AddsFront old (with_piece files name piece) rest all
      → HoldsFront now name (with_piece files name piece)
      → (text : Option (List ℕ)) × AddsPart old text all × HoldsFront now name text
  is_part rest piece now front h =
      let part : AddsPart old (with_piece files name piece) (front.front ++ rest) =
      adds_then_part front.added (adds_none rest refl) in
      (with_piece files name piece, subst (AddsPart old (with_piece files name piece)) front.whole part, h)

-- ---- the whole text, of which the piece holds the declarations before the file is begun

module _ (old begun new : Option Files) (name piece front rest whole : List ℕ) (is : piece ≡ front)
    (empty : file_at begun name ≡ option_map (λ f. Some []) old) (text : front ++ rest ≡ whole) where
  first : Adds (nothing old) (with_piece begun name piece) front
  first = first_piece old begun name piece front (record { added = ap Some is }) empty

  pub part_of : HoldsSome new name (with_piece begun name piece) rest → HoldsPart old new name whole
  part_of (held, part, there) =
      subst (HoldsPart old new name) text
      (part_held old new name (front ++ rest) held (adds_then_part first part) there)

  pub all_of : Adds (with_piece begun name piece) (told_bytes new name) rest → IsThere new name
      → file_at new name ≡ option_map (λ _. Some whole) old
  all_of added there =
      subst (λ (bytes : List ℕ). file_at new name ≡ option_map (λ _. Some bytes) old) text
      (all_held old new name (front ++ rest) there (adds_both first added))
