-- A part of a list by its number.
use Rattle.std.proofs.Common.{◌≡◌, ◌<◌, ◌∙◌, sym, ap, ℕ, List, length, map, get_or}
use Rattle.std.specs.Prelude.{slice_index_or}
use Rattle.std.proofs.lemmas.List.{get_or-map}

pub got : {X Z : Type 0} (g : X → Z) (xs : List X) (i : ℕ) (x : X) (e : Z) → i < length xs
    → x ≡ slice_index_or xs i x → g x ≡ get_or (map g xs) i e
got g xs i x e lt is = ap g is ∙ sym (get_or-map g xs i x e lt)
