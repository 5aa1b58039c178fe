-- A text that goes to a file piece by piece.
use Rattle.std.specs.Prelude.{◌≡◌, ◌⊎◌, ℕ, Option, Some, List, ◌++◌, take}
use Rattle.std.specs.Option.{option_map}
use Rattle.ij_io.specs.Files.{Files, file_at, told_bytes}

-- the file is there
abbrev pub IsThere : Option Files → List ℕ → Type 0
IsThere files name = file_at files name ≡ option_map (λ bytes. Some bytes) (told_bytes files name)

-- what the file holds, and then a piece
abbrev pub with_piece : Option Files → List ℕ → List ℕ → Option (List ℕ)
with_piece files name piece = option_map (λ bytes. bytes ++ piece) (told_bytes files name)

-- the file is there, and holds the text or a first part of it
pub record HoldsFront (files : Option Files) (name : List ℕ) (text : Option (List ℕ)) : Type 0 where
  pub held : Option (List ℕ)
  pub rest : List ℕ
  pub there : file_at files name ≡ option_map (λ bytes. Some bytes) held
  pub front : text ≡ option_map (λ bytes. bytes ++ rest) held

-- the file is as before, or holds some first bytes
abbrev pub HoldsPart : Option Files → Option Files → List ℕ → List ℕ → Type 0
HoldsPart old new name bytes = (file_at new name ≡ file_at old name)
    ⊎ ((count : ℕ) × (file_at new name ≡ option_map (λ _. Some (take count bytes)) old))
