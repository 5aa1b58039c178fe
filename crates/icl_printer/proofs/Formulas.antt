-- Formulas that are printed, derived again.
use Rattle.std.proofs.Common.{◌≡◌, ◌≤◌, ◌+◌, ℕ, zero, suc, Bool, true, false, nat_lt, List, ◌∷◌, ◌++◌, refl}
use Rattle.std.proofs.Common.{sym, ap, subst, append-nil, arith}
use Rattle.std.proofs.lemmas.Bool.{ltb-false}
use Rattle.std.specs.Prelude.{max}
use Rattle.ij_text.specs.declared.Place.{Place}
use Rattle.icl_lexer.specs.declared.tree.Sign.{Sign}
use Rattle.icl_lexer.specs.declared.tree.Sign.TheVariants.{Plus, Minus, Times, Over, Rest}
use Rattle.icl_lexer.specs.Values.{SeenExpr, ADecimal, ASized, AQuoted, AParam, AnOp}
use Rattle.icl_lexer.specs.Grammar.{Counted, sum_sign, product_sign, factor, term, sum_of}
use Rattle.icl_printer.specs.Layout.{Spelling, mark}
use Rattle.icl_printer.specs.Canonical.{sign_mark, binding, binding_of, in_parentheses, formula_tokens}
use Rattle.icl_printer.proofs.Printed.{Printed}
use Rattle.icl_printer.proofs.Leaves.{Sound, p_decimal_leaf, p_sized_leaf, p_quoted_leaf, p_param_leaf}
use Rattle.icl_printer.proofs.Chains.{ops, around, inner, nest, is_lone, placeless_counted, counted, p_up}
use Rattle.icl_printer.proofs.Chains.{p_more, p_operand, p_enclosed, p_leaf, IsSign, plus_is, minus_is}
use Rattle.icl_printer.proofs.Chains.{times_is, over_is, rest_is}

-- what is to be had of a formula, by how tightly it binds
pub record Again (f : SeenExpr) : Type 0 where
  pub as_sum : (d used : ℕ) → inner f ≤ d → used + ops f ≤ 256
      → Printed (sum_of d used) placeless_counted (formula_tokens f) (counted f (used + ops f) (is_lone f))
  pub as_term : 2 ≤ binding f → (d : ℕ) (alone : Bool) (used : ℕ) → inner f ≤ d → used + ops f ≤ 256
      → Printed (term d alone used) placeless_counted (formula_tokens f) (counted f (used + ops f) false)
  pub as_factor : 3 ≤ binding f → (d : ℕ) (alone : Bool) (used : ℕ) → inner f ≤ d → used + ops f ≤ 256
      → Printed (factor d alone used) placeless_counted (formula_tokens f) (counted f (used + ops f) false)

term_up : (d : ℕ) (alone : Bool) (used : ℕ) (x : List Spelling) (c : Counted)
    → Printed (factor d alone used) placeless_counted x c → Printed (term d alone used) placeless_counted x c
term_up d alone used x c p = p_up (factor d alone) (factor d false) product_sign used p

sum_up : (d used : ℕ) (x : List Spelling) (c : Counted) → Printed (term d true used) placeless_counted x c
    → Printed (sum_of d used) placeless_counted x c
sum_up d used x c p = p_up (term d true) (term d false) sum_sign used p

-- what is alone binds most tightly
from_factor : (f : SeenExpr) → is_lone f ≡ false
    → ((d : ℕ) (alone : Bool) (used : ℕ) → inner f ≤ d → used + ops f ≤ 256
    → Printed (factor d alone used) placeless_counted (formula_tokens f) (counted f (used + ops f) false))
    → Again f
from_factor f plain p = record {
  as_sum = λ d used deep many.
      subst (λ (lone : Bool). Printed (sum_of d used) placeless_counted (formula_tokens f)
      (counted f (used + ops f) lone)) (sym plain)
      (sum_up d used (formula_tokens f) (counted f (used + ops f) false) (term_up d true used
      (formula_tokens f) (counted f (used + ops f) false) (p d true used deep many)));
  as_term = λ tight d alone used deep many. term_up d alone used (formula_tokens f)
      (counted f (used + ops f) false) (p d alone used deep many);
  as_factor = λ tight d alone used deep many. p d alone used deep many;
}

-- ---- operands

not_lone : (f : SeenExpr) → 1 ≤ binding f → is_lone f ≡ false
not_lone (ADecimal n) h = refl
not_lone (ASized t) h = absurd (omega arith)
not_lone (AQuoted t) h = refl
not_lone (AParam at n) h = refl
not_lone (AnOp at sign a b) h = refl

-- in parentheses
enclosed : (f : SeenExpr) (d : ℕ) (alone : Bool) (used : ℕ) → Again f → suc (inner f) ≤ d → used + ops f ≤ 256
    → Printed (factor d alone used) placeless_counted
    (in_parentheses true (formula_tokens f)) (counted f (used + ops f) false)
enclosed f zero alone used g deep many = absurd (omega arith)
enclosed f (suc d) alone used g deep many = p_enclosed d alone used (formula_tokens f)
    (counted f (used + ops f) (is_lone f)) (g.as_sum d used (omega arith) many)

no_parentheses : (x : List Spelling) → in_parentheses false x ≡ x
no_parentheses x = append-nil x

pub as_left_of_sum : (f : SeenExpr) (d used : ℕ) → Again f → nest 1 f ≤ d → used + ops f ≤ 256
    → Printed (sum_of d used) placeless_counted
    (in_parentheses (nat_lt (binding f) 1) (formula_tokens f)) (counted f (used + ops f) false)
as_left_of_sum f d used g = by_cases (nat_lt (binding f) 1) refl
  where
    by_cases : (b : Bool) → nat_lt (binding f) 1 ≡ b → around b (inner f) ≤ d → used + ops f ≤ 256
        → Printed (sum_of d used) placeless_counted
        (in_parentheses b (formula_tokens f)) (counted f (used + ops f) false)
    by_cases true is deep many =
        let c = counted f (used + ops f) false in let x = in_parentheses true (formula_tokens f) in
        sum_up d used x c (term_up d true used x c (enclosed f d true used g deep many))
    by_cases false is deep many =
        subst (λ (x : List Spelling). Printed (sum_of d used) placeless_counted x
        (counted f (used + ops f) false)) (sym (no_parentheses (formula_tokens f)))
        (subst (λ (lone : Bool). Printed (sum_of d used) placeless_counted (formula_tokens f) (counted f
        (used + ops f) lone)) (not_lone f (ltb-false (binding f) 1 is)) (g.as_sum d used deep many))

pub as_term_operand : (f : SeenExpr) (d : ℕ) (alone : Bool) (used : ℕ)
    → Again f → nest 2 f ≤ d → used + ops f ≤ 256
    → Printed (term d alone used) placeless_counted
    (in_parentheses (nat_lt (binding f) 2) (formula_tokens f)) (counted f (used + ops f) false)
as_term_operand f d alone used g = by_cases (nat_lt (binding f) 2) refl
  where
    by_cases : (b : Bool) → nat_lt (binding f) 2 ≡ b → around b (inner f) ≤ d → used + ops f ≤ 256
        → Printed (term d alone used) placeless_counted
        (in_parentheses b (formula_tokens f)) (counted f (used + ops f) false)
    by_cases true is deep many = term_up d alone used (in_parentheses true (formula_tokens f))
        (counted f (used + ops f) false) (enclosed f d alone used g deep many)
    by_cases false is deep many =
        subst (λ (x : List Spelling). Printed (term d alone used) placeless_counted x
        (counted f (used + ops f) false)) (sym (no_parentheses (formula_tokens f)))
        (g.as_term (ltb-false (binding f) 2 is) d alone used deep many)

pub as_factor_operand : (f : SeenExpr) (d used : ℕ) → Again f → nest 3 f ≤ d → used + ops f ≤ 256
    → Printed (factor d false used) placeless_counted
    (in_parentheses (nat_lt (binding f) 3) (formula_tokens f)) (counted f (used + ops f) false)
as_factor_operand f d used g = by_cases (nat_lt (binding f) 3) refl
  where
    by_cases : (b : Bool) → nat_lt (binding f) 3 ≡ b → around b (inner f) ≤ d → used + ops f ≤ 256
        → Printed (factor d false used) placeless_counted
        (in_parentheses b (formula_tokens f)) (counted f (used + ops f) false)
    by_cases true is deep many = enclosed f d false used g deep many
    by_cases false is deep many =
        subst (λ (x : List Spelling). Printed (factor d false used) placeless_counted x
        (counted f (used + ops f) false)) (sym (no_parentheses (formula_tokens f)))
        (g.as_factor (ltb-false (binding f) 3 is) d false used deep many)

-- ---- operations

-- the count after an operation's right operand
count_is : (used m n : ℕ) → used + m + 1 + n ≡ used + (m + (1 + n))
count_is used m n = omega arith

sum_again : (sign : Sign) (at : Place) (a b : SeenExpr) → IsSign sum_sign sign → binding_of sign ≡ 1 → Again a
    → Again b → (d used : ℕ) → nest 1 a ≤ d → nest 2 b ≤ d → used + (ops a + (1 + ops b)) ≤ 256
    → Printed (sum_of d used) placeless_counted (in_parentheses (nat_lt (binding a) 1) (formula_tokens a)
    ++ (mark (sign_mark sign) ∷ in_parentheses (nat_lt (binding b) 2) (formula_tokens b)))
    (counted (AnOp at sign a b) (used + (ops a + (1 + ops b))) false)
sum_again sign at a b is level ga gb d used left right many =
    let n = used + ops a in
    subst (λ k. Printed (sum_of d used) placeless_counted
    (in_parentheses (nat_lt (binding a) 1) (formula_tokens a)
    ++ (mark (sign_mark sign) ∷ in_parentheses (nat_lt (binding b) 2) (formula_tokens b)))
    (counted (AnOp at sign a b) k false)) (count_is used (ops a) (ops b))
    (p_more (term d true) (term d false) sum_sign used (as_left_of_sum a d used ga left (omega arith))
    (λ c same.
    let count : c.used ≡ n = ap (λ (z : Counted). z.used) same in
    let p = as_term_operand b d false (n + 1) gb right (omega arith) in
    p_operand (term d false) sum_sign sign at (in_parentheses (nat_lt (binding b) 2) (formula_tokens b)) c
    (counted b (n + 1 + ops b) false) is (omega arith) (ap (λ (z : Counted). z.lone) same)
    (subst (λ k. Printed (term d false (k + 1)) placeless_counted (in_parentheses (nat_lt (binding b) 2)
    (formula_tokens b)) (counted b (n + 1 + ops b) false)) (sym count) p)))

product_again : (sign : Sign) (at : Place) (a b : SeenExpr) → IsSign product_sign sign → binding_of sign ≡ 2
    → Again a → Again b → (d : ℕ) (alone : Bool) (used : ℕ) → nest 2 a ≤ d
    → nest 3 b ≤ d → used + (ops a + (1 + ops b)) ≤ 256
    → Printed (term d alone used) placeless_counted (in_parentheses (nat_lt (binding a) 2) (formula_tokens a)
    ++ (mark (sign_mark sign) ∷ in_parentheses (nat_lt (binding b) 3) (formula_tokens b)))
    (counted (AnOp at sign a b) (used + (ops a + (1 + ops b))) false)
product_again sign at a b is level ga gb d alone used left right many =
    let n = used + ops a in
    subst (λ k. Printed (term d alone used) placeless_counted
    (in_parentheses (nat_lt (binding a) 2) (formula_tokens a)
    ++ (mark (sign_mark sign) ∷ in_parentheses (nat_lt (binding b) 3) (formula_tokens b)))
    (counted (AnOp at sign a b) k false)) (count_is used (ops a) (ops b))
    (p_more (factor d alone) (factor d false) product_sign used
    (as_term_operand a d alone used ga left (omega arith))
    (λ c same.
    let count : c.used ≡ n = ap (λ (z : Counted). z.used) same in
    let p = as_factor_operand b d (n + 1) gb right (omega arith) in
    p_operand (factor d false) product_sign sign at (in_parentheses (nat_lt (binding b) 3) (formula_tokens b))
    c (counted b (n + 1 + ops b) false) is (omega arith) (ap (λ (z : Counted). z.lone) same)
    (subst (λ k. Printed (factor d false (k + 1)) placeless_counted (in_parentheses (nat_lt (binding b) 3)
    (formula_tokens b)) (counted b (n + 1 + ops b) false)) (sym count) p)))

operation_text : (at : Place) (sign : Sign) (a b : SeenExpr) (n : ℕ) → binding_of sign ≡ n
    → formula_tokens (AnOp at sign a b) ≡ in_parentheses (nat_lt (binding a) n) (formula_tokens a)
    ++ (mark (sign_mark sign) ∷ in_parentheses (nat_lt (binding b) (n + 1)) (formula_tokens b))
operation_text at sign a b n e = ap (λ k. in_parentheses (nat_lt (binding a) k) (formula_tokens a)
    ++ (mark (sign_mark sign) ∷ in_parentheses (nat_lt (binding b) (k + 1)) (formula_tokens b))) e

inner_is : (at : Place) (sign : Sign) (a b : SeenExpr) (n : ℕ) → binding_of sign ≡ n
    → inner (AnOp at sign a b) ≡ max (nest n a) (nest (n + 1) b)
inner_is at sign a b n e = ap (λ k. max (nest k a) (nest (k + 1) b)) e

a_sum : (sign : Sign) (at : Place) (a b : SeenExpr) → IsSign sum_sign sign → binding_of sign ≡ 1
    → Again a → Again b → Again (AnOp at sign a b)
a_sum sign at a b is level ga gb = record {
  as_sum = λ d used deep many.
      let deeper : max (nest 1 a) (nest 2 b) ≤ d = subst (λ n. n ≤ d) (inner_is at sign a b 1 level) deep in
      subst (λ (x : List Spelling). Printed (sum_of d used) placeless_counted x (counted (AnOp at sign a b)
      (used + (ops a + (1 + ops b))) false)) (sym (operation_text at sign a b 1 level))
      (sum_again sign at a b is level ga gb d used (omega arith) (omega arith) many);
  as_term = λ tight d alone used deep many. absurd (omega arith);
  as_factor = λ tight d alone used deep many. absurd (omega arith);
}

a_product : (sign : Sign) (at : Place) (a b : SeenExpr) → IsSign product_sign sign → binding_of sign ≡ 2
    → Again a → Again b → Again (AnOp at sign a b)
a_product sign at a b is level ga gb =
    let product : (d : ℕ) (alone : Bool) (used : ℕ)
    → inner (AnOp at sign a b) ≤ d → used + ops (AnOp at sign a b) ≤ 256
    → Printed (term d alone used) placeless_counted (formula_tokens (AnOp at sign a b))
    (counted (AnOp at sign a b) (used + ops (AnOp at sign a b)) false) =
    λ d alone used deep many.
    let deeper : max (nest 2 a) (nest 3 b) ≤ d = subst (λ n. n ≤ d) (inner_is at sign a b 2 level) deep in
    subst (λ (x : List Spelling). Printed (term d alone used) placeless_counted x (counted (AnOp at sign a b)
    (used + (ops a + (1 + ops b))) false)) (sym (operation_text at sign a b 2 level))
    (product_again sign at a b is level ga gb d alone used (omega arith) (omega arith) many) in
    record {
      as_sum = λ d used deep many. sum_up d used (formula_tokens (AnOp at sign a b))
          (counted (AnOp at sign a b) (used + ops (AnOp at sign a b)) false) (product d true used deep many);
      as_term = λ tight d alone used deep many. product d alone used deep many;
      as_factor = λ tight d alone used deep many. absurd (omega arith);
    }

-- ---- all formulas

none_more : (used : ℕ) → used + 0 ≡ used
none_more used = omega arith

pub formula_again : (f : SeenExpr) → Sound f → Again f
unfolding Sound
formula_again (ADecimal n) s =
    from_factor (ADecimal n) refl
    (λ d alone used deep many. subst (λ k. Printed (factor d alone used) placeless_counted
    (formula_tokens (ADecimal n)) (counted (ADecimal n) k false)) (sym (none_more used))
    (p_leaf d alone used (formula_tokens (ADecimal n))
    (counted (ADecimal n) used false) (p_decimal_leaf alone used n s)))
formula_again (AQuoted t) s =
    from_factor (AQuoted t) refl
    (λ d alone used deep many. subst (λ k. Printed (factor d alone used) placeless_counted
    (formula_tokens (AQuoted t)) (counted (AQuoted t) k false)) (sym (none_more used))
    (p_leaf d alone used (formula_tokens (AQuoted t))
    (counted (AQuoted t) used false) (p_quoted_leaf alone used t s)))
formula_again (AParam at n) s =
    from_factor (AParam at n) refl
    (λ d alone used deep many. subst (λ k. Printed (factor d alone used) placeless_counted
    (formula_tokens (AParam at n)) (counted (AParam at n) k false)) (sym (none_more used))
    (p_leaf d alone used (formula_tokens (AParam at n))
    (counted (AParam at n) used false) (p_param_leaf alone used at n s)))
formula_again (ASized t) s = record {
  as_sum = λ d used deep many.
      subst (λ k. Printed (sum_of d used) placeless_counted (formula_tokens (ASized t))
      (counted (ASized t) k true)) (sym (none_more used))
      (sum_up d used (formula_tokens (ASized t)) (counted (ASized t) used true)
      (term_up d true used (formula_tokens (ASized t)) (counted (ASized t) used true) (p_leaf d true used
      (formula_tokens (ASized t)) (counted (ASized t) used true) (p_sized_leaf used t s))));
  as_term = λ tight d alone used deep many. absurd (omega arith);
  as_factor = λ tight d alone used deep many. absurd (omega arith);
}
formula_again (AnOp at Plus a b) s =
    a_sum Plus at a b plus_is refl (formula_again a s.0) (formula_again b s.1)
formula_again (AnOp at Minus a b) s =
    a_sum Minus at a b minus_is refl (formula_again a s.0) (formula_again b s.1)
formula_again (AnOp at Times a b) s =
    a_product Times at a b times_is refl (formula_again a s.0) (formula_again b s.1)
formula_again (AnOp at Over a b) s =
    a_product Over at a b over_is refl (formula_again a s.0) (formula_again b s.1)
formula_again (AnOp at Rest a b) s =
    a_product Rest at a b rest_is refl (formula_again a s.0) (formula_again b s.1)
