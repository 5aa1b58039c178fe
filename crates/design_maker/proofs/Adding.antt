-- Items that are added one after the other, and the lists that they are made of.
use Rattle.std.proofs.Common.{◌≡◌, List, [], ◌∷◌, ◌++◌, map, ap, ◌∙◌, subst, append_assoc}
use Rattle.std.proofs.lemmas.List.{map-append}
use Rattle.icl_lexer.specs.Values.{SeenItem}
use Rattle.design_maker.specs.Parts.{HasAdded, seen_items}
use Rattle.design_maker.specs.declared.items.Items.{Items}

-- some, and then more
pub then_more : (a b c : Items) (xs ys : List SeenItem) → HasAdded a b xs
    → HasAdded b c ys → HasAdded a c (xs ++ ys)
unfolding HasAdded
then_more a b c xs ys first second = second ∙ ap (λ l. l ++ ys) first ∙ append_assoc (seen_items a) xs ys

-- one, which is the other
pub added_as : (a b : Items) {x y : SeenItem} → HasAdded a b (x ∷ []) → x ≡ y → HasAdded a b (y ∷ [])
added_as a b {x} {y} added same = subst (λ (z : SeenItem). HasAdded a b (z ∷ [])) same added

-- one more, as it is seen
pub pushed : {A B : Type 0} (view : A → B) (xs : List A) {ys : List A} {x : A} {done : List B} {y : B}
    → map view xs ≡ done → ys ≡ xs ++ x ∷ [] → view x ≡ y → map view ys ≡ done ++ y ∷ []
pushed {A} {B} view xs {ys} {x} {done} {y} before push seen =
    ap (map view) push ∙ map-append view xs (x ∷ [])
    ∙ ap (λ l. l ++ view x ∷ []) before ∙ ap (λ z. done ++ z ∷ []) seen

-- a list of one, as it is seen
pub alone : {A B : Type 0} (view : A → B) {xs : List A} {x : A} {y : B}
    → xs ≡ x ∷ [] → view x ≡ y → map view xs ≡ y ∷ []
alone {A} {B} view {xs} {x} {y} one seen = ap (map view) one ∙ ap (λ z. z ∷ []) seen

pub both : {A B C : Type 0} (f : A → B → C) {a x : A} {b y : B} → a ≡ x → b ≡ y → f a b ≡ f x y
both {A} {B} {C} f {a} {x} {b} {y} first second = ap (λ z. f z b) first ∙ ap (f x) second
