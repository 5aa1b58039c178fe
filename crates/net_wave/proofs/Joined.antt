-- Pieces that are added one after the other.
use Rattle.std.proofs.Common.{◌≡◌, List, ◌++◌, ap, ◌∙◌, append_assoc}

module _ {T : Type 0} where
  pub two : (old p q a b : List T) → p ≡ old ++ a → q ≡ p ++ b → q ≡ old ++ (a ++ b)
  two old p q a b e f = f ∙ ap (λ l. l ++ b) e ∙ append_assoc old a b

  pub three : (old p q r a b c : List T) → p ≡ old ++ a → q ≡ p ++ b → r ≡ q ++ c → r ≡ old ++ (a ++ (b ++ c))
  three old p q r a b c e f g = two old p r a (b ++ c) e (two p q r b c f g)

  pub four : (old p q r s a b c d : List T) → p ≡ old ++ a → q ≡ p ++ b → r ≡ q ++ c
      → s ≡ r ++ d → s ≡ old ++ (a ++ (b ++ (c ++ d)))
  four old p q r s a b c d e f g h = two old p s a (b ++ (c ++ d)) e (three p q r s b c d f g h)

  pub five : (old p q r s t a b c d x : List T) → p ≡ old ++ a → q ≡ p ++ b → r ≡ q ++ c → s ≡ r ++ d
      → t ≡ s ++ x → t ≡ old ++ (a ++ (b ++ (c ++ (d ++ x))))
  five old p q r s t a b c d x e f g h i =
      two old p t a (b ++ (c ++ (d ++ x))) e (four p q r s t b c d x f g h i)

  pub six : (old p q r s t u a b c d x y : List T) → p ≡ old ++ a → q ≡ p ++ b → r ≡ q ++ c → s ≡ r ++ d
      → t ≡ s ++ x → u ≡ t ++ y → u ≡ old ++ (a ++ (b ++ (c ++ (d ++ (x ++ y)))))
  six old p q r s t u a b c d x y e f g h i j =
      two old p u a (b ++ (c ++ (d ++ (x ++ y)))) e (five p q r s t u b c d x y f g h i j)
