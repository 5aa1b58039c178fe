-- Loops that take the items of a list into a state, one by one or piece by piece.
use Rattle.std.proofs.Common.{◌≡◌, ℕ, ◌+◌, ◌<◌, List, length, drop, get_or, sym, ap, ◌∙◌}
use Rattle.std.specs.Prelude.{flat_map, fold}
use Rattle.std.proofs.lemmas.List.Sums.{fold-append}
use Rattle.std.proofs.lemmas.List.{drop_more}

-- the state after item i, where the items from it on led from the state before to the whole
pub fold_item : {S A : Type 0} (f : S → A → S) (xs : List A) (i : ℕ) (d : A) (before after whole : S)
    → i < length xs → after ≡ f before (get_or xs i d) → fold f before (drop i xs) ≡ whole
    → fold f after (drop (i + 1) xs) ≡ whole
fold_item f xs i d before after whole h e w =
    ap (λ s. fold f s (drop (i + 1) xs)) e ∙ ap (fold f before) (sym (drop_more xs i d h)) ∙ w

-- the same of a piece that item i has
pub fold_piece : {S A B : Type 0} (f : S → A → S) (g : B
    → List A) (xs : List B) (i : ℕ) (d : B) (before after whole : S) → i < length xs
    → after ≡ fold f before (g (get_or xs i d)) → fold f before (flat_map g (drop i xs)) ≡ whole
    → fold f after (flat_map g (drop (i + 1) xs)) ≡ whole
fold_piece f g xs i d before after whole h e w =
    ap (λ s. fold f s (flat_map g (drop (i + 1) xs))) e
    ∙ sym (fold-append f before (g (get_or xs i d)) (flat_map g (drop (i + 1) xs)))
    ∙ ap (λ l. fold f before (flat_map g l)) (sym (drop_more xs i d h))
    ∙ w
