-- The tokens of an operation, part by part.
use Rattle.std.proofs.Common.{◌≡◌, ◌+◌, ℕ, Bool, List, ◌∷◌, ◌++◌, sym, ap, ◌∙◌, nat_lt}
use Rattle.ij_text.specs.declared.Place.{Place}
use Rattle.icl_lexer.specs.declared.tree.Sign.{Sign}
use Rattle.icl_lexer.specs.Values.{SeenExpr, AnOp}
use Rattle.icl_printer.specs.Layout.{Spelling, mark}
use Rattle.icl_printer.specs.Canonical.{binding, binding_of, sign_mark, in_parentheses, formula_tokens}

-- the operands and the mark between them, as they are written
abbrev pub written : Bool → SeenExpr → ℕ → Bool → SeenExpr → List Spelling
written l a m r b = in_parentheses l (formula_tokens a) ++ (mark m ∷ in_parentheses r (formula_tokens b))

pub operation_is : (at : Place) (sign : Sign) (a b f a' b' : SeenExpr) (l r : Bool) (p m : ℕ)
    → f ≡ AnOp at sign a b → a' ≡ a → b' ≡ b → p ≡ binding_of sign
    → l ≡ nat_lt (binding a) p → r ≡ nat_lt (binding b) (p + 1) → m ≡ sign_mark sign
    → formula_tokens f ≡ written l a' m r b'
operation_is at sign a b f a' b' l r p m is left right prec around_left around_right sign_is =
    let la : nat_lt (binding a) (binding_of sign)
    ≡ l = ap (λ n. nat_lt (binding a) n) (sym prec) ∙ sym around_left in
    let ra : nat_lt (binding b) (binding_of sign + 1)
    ≡ r = ap (λ n. nat_lt (binding b) (n + 1)) (sym prec) ∙ sym around_right in
    ap formula_tokens is
    ∙ ap (λ c. written c a (sign_mark sign) (nat_lt (binding b) (binding_of sign + 1)) b) la
    ∙ ap (λ c. written l a (sign_mark sign) c b) ra
    ∙ ap (λ n. written l a n r b) (sym sign_is)
    ∙ ap (λ x. written l x m r b) (sym left)
    ∙ ap (λ x. written l a' m r x) (sym right)
