-- What a file holds that was begun and then grown.
use Rattle.std.specs.Prelude.{unwrap_or, option_map, ◌⊎◌}
use Rattle.std.proofs.Common.{◌≡◌, inl, inr, ℕ, Option, Some, None, List, [], ◌++◌, take, length, take_all}
use Rattle.std.proofs.Common.{le_refl, ap, sym, ◌∙◌}
use Rattle.retargeter.specs.Files.{HoldsPart}
use Rattle.ij_io.specs.Files.{Files, file_at, bytes_of, Grows, GrowsPart}
use Rattle.std.proofs.lemmas.Option.{same_Some}

-- after a refused begin
pub not_begun : (old new : Option Files) (name bytes : List ℕ) → (file_at new name ≡ file_at old name)
    ⊎ (file_at new name ≡ option_map (λ f. Some []) old) → HoldsPart old new name bytes
not_begun old new name bytes either = elim either [ inl same ↦ inl same | inr empty ↦ inr (0, empty) ]

-- after a begin and a refused append
pub begun : (old mid new : Option Files) (name piece : List ℕ)
    → file_at mid name ≡ option_map (λ f. Some []) old
    → GrowsPart mid new name piece → HoldsPart old new name piece
begun None None new name piece empty grows = elim grows.either [ inl same ↦ inl same | inr part ↦ inl part.1 ]
begun None (Some m) new name piece empty grows = absurd (cc)
begun (Some f) None new name piece empty grows = absurd (cc)
begun (Some f) (Some m) new name piece empty grows =
    let is : m name ≡ Some [] = same_Some (m name) (Some []) empty in
    elim grows.either [
      | inl same ↦ inr (0, same ∙ empty)
      | inr part ↦ inr (
        part.0,
        part.1 ∙ ap (λ (file : Option (List ℕ)). Some (Some (unwrap_or file [] ++ take part.0 piece))) is,
      )
    ]

-- after a begin, an append, and a refused end: all of it
pub ended : (old mid new : Option Files) (name piece : List ℕ)
    → file_at mid name ≡ option_map (λ f. Some []) old
    → Grows mid new name piece → HoldsPart old new name piece
ended old mid new name piece empty grows =
    begun old mid new name piece empty (record {
      either = inr (
        length piece,
        grows.grown ∙ ap (λ (bytes : List ℕ). option_map (λ f. Some (bytes_of f name ++ bytes)) mid)
            (sym (take_all (length piece) piece (le_refl (length piece)))),
      );
    })
