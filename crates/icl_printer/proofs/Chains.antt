-- Expressions that are printed, derived again: chains of operators, and parentheses.
use Rattle.std.proofs.Common.{◌≡◌, ◌<◌, ◌+◌, ◌-◌, ℕ, zero, suc, Bool, true, false, nat_lt, List, [], ◌∷◌}
use Rattle.std.proofs.Common.{◌++◌, Option, Some, refl, sym, ap, ◌∙◌, subst, append_assoc, append-nil, arith}
use Rattle.std.proofs.Common.{inl, inr}
use Rattle.std.specs.Prelude.{max}
use Rattle.ij_text.specs.declared.Place.{Place}
use Rattle.ij_text.specs.Symbol.{Parts, one}
use Rattle.icl_lexer.specs.Seen.{SeenToken}
use Rattle.icl_lexer.specs.declared.tree.Sign.{Sign}
use Rattle.icl_lexer.specs.declared.tree.Sign.TheVariants.{Plus, Minus, Times, Over, Rest}
use Rattle.icl_lexer.specs.Values.{SeenExpr, ADecimal, ASized, AQuoted, AParam, AnOp}
use Rattle.icl_lexer.specs.Grammar.{Of, Counted, Signed, Operand, operator, operand, with_operand, chain}
use Rattle.icl_lexer.specs.Grammar.{sum_sign, product_sign, in_parentheses, factor, sum_of, leaf_at}
use Rattle.icl_printer.specs.Layout.{Spelling, mark}
use Rattle.icl_printer.specs.Canonical.{sign_mark, binding, binding_of}
use Rattle.icl_printer.specs.Again.{IsSpelled, placeless_formula}
use Rattle.icl_printer.proofs.Printed.{cut, all_append, Printed, p_turn, p_last, p_mark, p_token}
use Rattle.ij_text.specs.Places.{no_place}

-- ---- what counts of a formula

-- how many operators it has
abbrev pub ops : SeenExpr → ℕ
ops (ADecimal n) = 0
ops (ASized t) = 0
ops (AQuoted t) = 0
ops (AParam at n) = 0
ops (AnOp at sign a b) = ops a + (1 + ops b)

abbrev pub around : Bool → ℕ → ℕ
around false n = n
around true n = suc n

-- how deep its parentheses are
abbrev pub inner : SeenExpr → ℕ
inner (ADecimal n) = 0
inner (ASized t) = 0
inner (AQuoted t) = 0
inner (AParam at n) = 0
inner (AnOp at sign a b) = max (around (nat_lt (binding a) (binding_of sign)) (inner a))
    (around (nat_lt (binding b) (binding_of sign + 1)) (inner b))

-- and with those round it, where it has to bind so tightly
abbrev pub nest : ℕ → SeenExpr → ℕ
nest level f = around (nat_lt (binding f) level) (inner f)

abbrev pub is_lone : SeenExpr → Bool
is_lone (ADecimal n) = false
is_lone (ASized t) = true
is_lone (AQuoted t) = false
is_lone (AParam at n) = false
is_lone (AnOp at sign a b) = false

abbrev pub placeless_counted : Counted → Counted
placeless_counted c = record { formula = placeless_formula c.formula; used = c.used; lone = c.lone }

abbrev pub counted : SeenExpr → ℕ → Bool → Counted
counted f used lone = record { formula = f; used = used; lone = lone }

abbrev pub placeless_signed : Signed → Signed
placeless_signed s = record { sign = s.sign; at = no_place }

abbrev pub placeless_operand : Operand → Operand
placeless_operand o = record { sign = placeless_signed o.sign; right = placeless_counted o.right }

-- ---- chains

-- a first part alone
pub p_up : (first part : ℕ → Of Counted) (sign : SeenToken
    → Option Signed) (used : ℕ) {x : List Spelling} {c : Counted} → Printed (first used) placeless_counted x c
    → Printed (chain first part sign used) placeless_counted x c
p_up first part sign used p = record {
  good = p.good;
  again = λ us e. let r = p.again us e in
      (r.0, (us, [], r.0, sym (append-nil us), r.1, (0, (refl, refl))), r.2);
}

parts_snoc : (part : ℕ → Of Counted) (sign : SeenToken
    → Option Signed) (n : ℕ) (s mid : Counted) (ts us : List SeenToken) (o : Operand)
    → Parts (operand part sign) with_operand n s ts mid → (operand part sign mid).derives us o
    → Parts (operand part sign) with_operand (suc n) s (ts ++ us) (with_operand mid o)
parts_snoc part sign zero s mid ts us o h d = (
  us,
  [],
  o,
  ap (λ (x : List SeenToken). x ++ us) h.0 ∙ sym (append-nil us),
  subst (λ m. (operand part sign m).derives us o) h.1 d,
  (refl, ap (λ m. with_operand m o) h.1),
)
parts_snoc part sign (suc n) s mid ts us o h d = (
  h.0,
  h.1 ++ us,
  h.2,
  ap (λ (x : List SeenToken). x ++ us) h.3 ∙ append_assoc h.0 h.1 us,
  h.4,
  parts_snoc part sign n (with_operand s h.2) mid h.1 us o h.5 d,
)

-- one operator and operand more
pub p_more : (first part : ℕ → Of Counted) (sign : SeenToken
    → Option Signed) (used : ℕ) {x y : List Spelling} {a : Counted} {o : Operand}
    → Printed (chain first part sign used) placeless_counted x a → ((a' : Counted)
    → placeless_counted a' ≡ placeless_counted a → Printed (operand part sign a') placeless_operand y o)
    → Printed (chain first part sign used) placeless_counted (x ++ y) (with_operand a o)
p_more first part sign used {x} {y} {a} {o} p q = record {
  good = all_append x y p.good (q a refl).good;
  again = λ us e.
      let c = cut us x y e in
      let left = p.again c.front c.front_is in
      let right = (q left.0 left.2).again c.back c.back_is in
      let d = left.1 in (
        with_operand left.0 right.0,
        (
          d.0,
          d.1 ++ c.back,
          d.2,
          c.whole ∙ ap (λ (z : List SeenToken). z ++ c.back) d.3 ∙ append_assoc d.0 d.1 c.back,
          d.4,
          (suc d.5.0, parts_snoc part sign d.5.0 d.2 left.0 d.1 c.back right.0 d.5.1 right.1),
        ),
        same_operation left.0 a right.0 o left.2 right.2,
      );
}
  where
    same_operation : (l a : Counted) (r o : Operand) → placeless_counted l ≡ placeless_counted a
        → placeless_operand r ≡ placeless_operand o
        → placeless_counted (with_operand l r) ≡ placeless_counted (with_operand a o)
    same_operation l a r o e h =
        let left = ap (λ (c : Counted). c.formula) e in
        ap (λ f. counted (AnOp no_place r.sign.sign f (placeless_formula r.right.formula)) r.right.used false)
        left
        ∙ ap (λ (p : Operand). counted
        (AnOp no_place p.sign.sign (placeless_formula a.formula) p.right.formula) p.right.used false) h

-- ---- operators

-- the operators of a chain, told by the mark
pub record IsSign (read : SeenToken → Option Signed) (sign : Sign) : Type 0 where
  pub takes : (at : Place)
      → read (record { kind = (mark (sign_mark sign)).kind; at = at; text = sign_mark sign ∷ [] })
      ≡ Some (record { sign = sign; at = at })
  pub spelled : IsSpelled (mark (sign_mark sign))

pub plus_is : IsSign sum_sign Plus
plus_is = record { takes = λ at. refl; spelled = refl }

pub minus_is : IsSign sum_sign Minus
minus_is = record { takes = λ at. refl; spelled = refl }

pub times_is : IsSign product_sign Times
times_is = record { takes = λ at. refl; spelled = refl }

pub over_is : IsSign product_sign Over
over_is = record { takes = λ at. refl; spelled = refl }

pub rest_is : IsSign product_sign Rest
rest_is = record { takes = λ at. refl; spelled = refl }

p_operator : (spare : ℕ) (lone : Bool) (read : SeenToken → Option Signed) (sign : Sign) (at : Place)
    → IsSign read sign → 0 < spare → lone ≡ false
    → Printed (operator spare lone read) placeless_signed
    (mark (sign_mark sign) ∷ []) (record { sign = sign; at = at })
p_operator zero lone read sign at is more alone = absurd (omega arith)
p_operator (suc spare) true read sign at is more alone = absurd (cc)
p_operator (suc spare) false read sign at is more alone = p_token (mark (sign_mark sign))
    (record { sign = sign; at = at }) (λ p. record { sign = sign; at = p }) is.spelled is.takes (λ p. refl)

pub p_operand : (part : ℕ → Of Counted) (read : SeenToken
    → Option Signed) (sign : Sign) (at : Place) (y : List Spelling) (a b : Counted)
    → IsSign read sign → a.used < 256 → a.lone ≡ false
    → Printed (part (a.used + 1)) placeless_counted y b → Printed (operand part read a) placeless_operand
    (mark (sign_mark sign) ∷ y) (record { sign = record { sign = sign; at = at }; right = b })
p_operand part read sign at y a b is few alone p =
    let more : 0 < 256 - a.used = omega arith in
    p_turn (p_operator (256 - a.used) a.lone read sign at is more alone)
    (λ s e. p_last p (λ c h. ap (λ (r : Signed). record { sign = r; right = placeless_counted c }) e
    ∙ ap (λ (r : Counted). record { sign = record { sign = sign; at = no_place }; right = r }) h))

-- ---- parentheses

pub p_parentheses : (whole : ℕ → Of Counted) (used : ℕ) (x : List Spelling) (c : Counted)
    → Printed (whole used) placeless_counted x c
    → Printed (in_parentheses whole used) placeless_counted
    (mark 40 ∷ (x ++ (mark 41 ∷ []))) (counted c.formula c.used false)
p_parentheses whole used x c p =
    p_turn (p_mark 40 no_place refl refl)
    (λ o e. p_turn p (λ d same. p_last (p_mark 41 no_place refl refl)
    (λ m h. ap (λ (z : Counted). counted z.formula z.used false) same)))

-- a factor in parentheses
pub p_enclosed : (depth : ℕ) (alone : Bool) (used : ℕ) (x : List Spelling) (c : Counted)
    → Printed (sum_of depth used) placeless_counted x c
    → Printed (factor (suc depth) alone used) placeless_counted
    (mark 40 ∷ (x ++ (mark 41 ∷ []))) (counted c.formula c.used false)
unfolding factor
p_enclosed depth alone used x c p =
    let q = p_parentheses (sum_of depth) used x c p in
    record { good = q.good; again = λ us e. let r = q.again us e in (r.0, inl r.1, r.2) }

-- a factor of one token
pub p_leaf : (depth : ℕ) (alone : Bool) (used : ℕ) (x : List Spelling) (c : Counted)
    → Printed (one (leaf_at alone used)) placeless_counted x c
    → Printed (factor depth alone used) placeless_counted x c
unfolding factor
p_leaf zero alone used x c p =
    record { good = p.good; again = λ us e. let r = p.again us e in (r.0, inr r.1, r.2) }
p_leaf (suc depth) alone used x c p =
    record { good = p.good; again = λ us e. let r = p.again us e in (r.0, inr r.1, r.2) }
