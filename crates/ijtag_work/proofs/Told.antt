-- What a stream was told, whole or in part.
use Rattle.std.specs.Prelude.{Result, Ok, Err, OnOk, OnErr}
use Rattle.std.proofs.Common.{◌≡◌, ℕ, Option, List, ◌++◌, length, sym, ap, subst, ◌∙◌}
use Rattle.std.proofs.Math.Seq.{take-length}
use Rattle.std.specs.Option.{option_map}
use Rattle.ij_io.specs.Bytes.{Adds, AddsPart}

-- the whole text is a part of it
pub adds_all : {old new : Option (List ℕ)} {text : List ℕ} → Adds old new text → AddsPart old new text
adds_all {old} {new} {text} adds = record {
  count = length text;
  added = adds.added
      ∙ ap (λ (t : List ℕ). option_map (λ (bytes : List ℕ). bytes ++ t) old) (sym (take-length text));
}

pub told_part : {T E : Type 0} {old new : Option (List ℕ)} {text : List ℕ} (result : Result T E)
    → OnOk result (Adds old new text) → OnErr result (AddsPart old new text) → AddsPart old new text
told_part (Ok x) whole part = adds_all whole
told_part (Err e) whole part = part
