-- What formulas that are derived have: sound leaves, few operators, and few levels of parentheses.
use Rattle.std.proofs.Common.{◌≡◌, ◌<◌, ◌≤◌, ◌+◌, ◌-◌, ℕ, zero, suc, Bool, true, false, nat_lt, cond, List}
use Rattle.std.proofs.Common.{[], ◌∷◌, ◌++◌, Option, Some, None, refl, sym, ap, ◌∙◌, subst, arith, inl, inr}
use Rattle.std.specs.Prelude.{max}
use Rattle.std.proofs.lemmas.Bool.{ltb-true, ltb-false, le-ltb}
use Rattle.ij_text.specs.declared.Place.{Place}
use Rattle.ij_text.specs.Symbol.{Parts, IsOne, ◌>>=◌, give, repeat}
use Rattle.icl_lexer.specs.declared.tree.Sign.{Sign}
use Rattle.icl_lexer.specs.declared.tree.Sign.TheVariants.{Plus, Minus, Times, Over, Rest}
use Rattle.icl_lexer.specs.Seen.{SeenToken, is_mark}
use Rattle.icl_lexer.specs.Values.{SeenExpr, ADecimal, ASized, AQuoted, AParam, AnOp}
use Rattle.icl_lexer.specs.Grammar.{Of, Counted, Signed, Operand, operator, operand, with_operand, chain}
use Rattle.icl_lexer.specs.Grammar.{sum_sign, product_sign, in_parentheses, factor, term, sum_of, leaf_at}
use Rattle.icl_lexer.specs.Grammar.{expr, mark as a_mark}
use Rattle.icl_printer.specs.Canonical.{binding, binding_of, formula_tokens}
use Rattle.icl_printer.specs.Again.{spellings, AllSpelled, placeless_formula}
use Rattle.icl_printer.proofs.Printed.{Printed, Law, p_last, turned, all_front, all_back, single}
use Rattle.icl_printer.proofs.Leaves.{Sound, IsLeaf, IsTight, IsSizedNumber, leaf_is}
use Rattle.icl_printer.proofs.Chains.{ops, around, inner, nest, counted}
use Rattle.icl_printer.proofs.Formulas.{formula_again}

-- a formula that is derived with at most d levels of parentheses, where it has to bind so tightly, after so
-- many operators
pub record Derived (d level used : ℕ) (c : Counted) : Type 0 where
  pub sound : Sound c.formula
  pub count : c.used ≡ used + ops c.formula
  pub few : c.used ≤ 256
  pub deep : c.lone ≡ false → nest level c.formula ≤ d
  pub flat : c.lone ≡ true → IsSizedNumber c.formula

-- ---- levels

around_le : (b : Bool) (n : ℕ) → n ≤ around b n
around_le true n = omega arith
around_le false n = omega arith

nest_down : (k level : ℕ) (f : SeenExpr) → nest (k + level) f ≡ nest (k + level) f → (d : ℕ)
    → nest (level + 1) f ≤ d → nest level f ≤ d
nest_down k level f e d h = by_cases (nat_lt (binding f) level) (nat_lt (binding f) (level + 1)) refl refl h
  where
    by_cases : (b c : Bool) → nat_lt (binding f) level ≡ b → nat_lt (binding f) (level + 1) ≡ c
        → around c (inner f) ≤ d → around b (inner f) ≤ d
    by_cases true true e g h = h
    by_cases false c e g h = omega (arith, around_le c (inner f))
    by_cases true false e g h =
        absurd (omega (arith, ltb-true (binding f) level e, ltb-false (binding f) (level + 1) g))

pub inner_le : (level d : ℕ) (f : SeenExpr) → nest level f ≤ d → inner f ≤ d
inner_le level d f h = omega (arith, around_le (nat_lt (binding f) level) (inner f))

nest_op : (level : ℕ) (at : Place) (sign : Sign) (a b : SeenExpr) → binding_of sign ≡ level
    → nest level (AnOp at sign a b) ≡ max (nest level a) (nest (level + 1) b)
nest_op level at sign a b e =
    let here : nat_lt (binding_of sign) level ≡ false = le-ltb (binding_of sign) level (omega arith) in
    ap (λ c. around c (inner (AnOp at sign a b))) here ∙ ap (λ k. max (nest k a) (nest (k + 1) b)) e

lower : (d level used : ℕ) (c : Counted) → Derived d (level + 1) used c → Derived d level used c
lower d level used c h = record {
  sound = h.sound;
  count = h.count;
  few = h.few;
  deep = λ e. nest_down 0 level c.formula refl d (h.deep e);
  flat = h.flat;
}

-- ---- chains

pub record Operated (used : ℕ) (lone : Bool) (sign : SeenToken
    → Option Signed) (ts : List SeenToken) (s : Signed) : Type 0 where
  pub few : used < 256
  pub plain : lone ≡ false
  pub token : SeenToken
  pub takes : sign token ≡ Some s

operated : (used : ℕ) (lone : Bool) (sign : SeenToken → Option Signed) (ts : List SeenToken) (s : Signed)
    → (operator (256 - used) lone sign).derives ts s → Operated used lone sign ts s
operated used lone sign ts s h = by_cases (256 - used) lone refl refl h
  where
    by_cases : (spare : ℕ) (l : Bool) → 256 - used ≡ spare → lone ≡ l
        → (operator spare l sign).derives ts s → Operated used lone sign ts s
    by_cases zero l e g h = absurd h
    by_cases (suc spare) true e g h = absurd h
    by_cases (suc spare) false e g h =
        let o = single sign ts s h in
        record { few = omega arith; plain = g; token = o.token; takes = o.takes }

-- the signs of a level
abbrev pub AreOfLevel : (SeenToken → Option Signed) → ℕ → Type 0
AreOfLevel sign level = (t : SeenToken) (s : Signed) → sign t ≡ Some s → binding_of s.sign ≡ level

module _ (d level : ℕ) (sign : SeenToken → Option Signed) (part : ℕ
    → Of Counted) (of_level : AreOfLevel sign level)
    (parts : (ts : List SeenToken) (used : ℕ) (c : Counted) → used ≤ 256 → AllSpelled (spellings ts)
    → (part used).derives ts c → Derived d (level + 1) used c × (c.lone ≡ false)) where
  -- one operator and operand more
  step : (used : ℕ) (ts : List SeenToken) (a : Counted) (o : Operand) → Derived d level used a
      → AllSpelled (spellings ts) → (operand part sign a).derives ts o
      → Derived d level used (with_operand a o)
  unfolding Sound
  step used ts a o h good k =
      let s = turned (operator (256 - a.used) a.lone sign)
      (λ s. part (a.used + 1) >>= λ b. give (record { sign = s; right = b })) ts o good k in
      let b = turned (part (a.used + 1))
      (λ b. give (record { sign = s.value; right = b })) s.back o s.good_rest s.rest in
      let op = operated a.used a.lone sign s.front s.value s.derived in
      let right = parts b.front (a.used + 1) b.value (omega arith) b.good b.derived in
      let is : Operand = record { sign = s.value; right = b.value } in
      let fits : binding_of s.value.sign ≡ level = of_level op.token s.value op.takes in
      let f = AnOp s.value.at s.value.sign a.formula b.value.formula in
      let nested : nest level f ≤ d = omega (
        arith,
        nest_op level s.value.at s.value.sign a.formula
            b.value.formula fits,
        h.deep op.plain,
        right.0.deep right.1,
      ) in
      let whole : Derived d level used (with_operand a is) = record {
        sound = (h.sound, right.0.sound);
        count = omega (arith, h.count, right.0.count);
        few = right.0.few;
        deep = λ e. nested;
        flat = λ e. absurd (cc);
      } in
      subst (λ (x : Operand). Derived d level used (with_operand a x)) (sym b.rest.1) whole

  steps : (n used : ℕ) (ts : List SeenToken) (a last : Counted) → Derived d level used a
      → AllSpelled (spellings ts) → Parts (operand part sign) with_operand n a ts last
      → Derived d level used last × (a.lone ≡ false → last.lone ≡ false)
  steps zero used ts a last h good k =
      (subst (Derived d level used) (sym k.1) h, λ e. ap (λ (c : Counted). c.lone) k.1 ∙ e)
  steps (suc n) used ts a last h good k =
      let both : AllSpelled (spellings (k.0 ++ k.1)) =
      subst (λ (us : List SeenToken). AllSpelled (spellings us)) k.3 good in
      let rest = steps n used k.1 (with_operand a k.2) last
      (step used k.0 a k.2 h (all_front k.0 k.1 both) k.4) (all_back k.0 k.1 both) k.5 in
      (rest.0, λ e. rest.1 refl)

  pub chain_derived : (first : ℕ → Of Counted) (used : ℕ) (ts : List SeenToken) (c : Counted)
      → ((us : List SeenToken) (x : Counted) → AllSpelled (spellings us) → (first used).derives us x
      → Derived d (level + 1) used x) → AllSpelled (spellings ts)
      → (chain first part sign used).derives ts c → Derived d level used c
  chain_derived first used ts c firsts good k =
      let f = turned (first used) (λ a. repeat (operand part sign) with_operand a) ts c good k in
      (steps f.rest.0 used f.back f.value c
      (lower d level used f.value (firsts f.front f.value f.good f.derived)) f.good_rest f.rest.1).0

  pub chain_plain : (first : ℕ → Of Counted) (used : ℕ) (ts : List SeenToken) (c : Counted)
      → ((us : List SeenToken) (x : Counted) → AllSpelled (spellings us) → (first used).derives us x
      → Derived d (level + 1) used x × (x.lone ≡ false)) → AllSpelled (spellings ts)
      → (chain first part sign used).derives ts c
      → Derived d level used c × (c.lone ≡ false)
  chain_plain first used ts c firsts good k =
      let f = turned (first used) (λ a. repeat (operand part sign) with_operand a) ts c good k in
      let p = firsts f.front f.value f.good f.derived in
      let r = steps f.rest.0 used f.back f.value c (lower d level used f.value p.0) f.good_rest f.rest.1 in
      (r.0, r.1 p.1)

-- ---- signs

sums : AreOfLevel sum_sign 1
sums t s h = by_cases (is_mark 43 t) (is_mark 45 t) h
  where
    by_cases : (a b : Bool) → cond a (Some (record { sign = Plus; at = t.at }))
        (cond b (Some (record { sign = Minus; at = t.at })) None) ≡ Some s → binding_of s.sign ≡ 1
    by_cases true b h =
        let e : (record { sign = Plus; at = t.at }) ≡ s = cc in ap (λ (x : Signed). binding_of x.sign) (sym e)
    by_cases false true h =
        let e : (record { sign = Minus; at = t.at }) ≡ s = cc in
        ap (λ (x : Signed). binding_of x.sign) (sym e)
    by_cases false false h = absurd (cc)

products : AreOfLevel product_sign 2
products t s h = by_cases (is_mark 42 t) (is_mark 47 t) (is_mark 37 t) h
  where
    by_cases : (a b c : Bool) → cond a (Some (record { sign = Times; at = t.at })) (cond b
        (Some (record { sign = Over; at = t.at })) (cond c (Some (record { sign = Rest; at = t.at })) None))
        ≡ Some s → binding_of s.sign ≡ 2
    by_cases true b c h =
        let e : (record { sign = Times; at = t.at }) ≡ s = cc in
        ap (λ (x : Signed). binding_of x.sign) (sym e)
    by_cases false true c h =
        let e : (record { sign = Over; at = t.at }) ≡ s = cc in ap (λ (x : Signed). binding_of x.sign) (sym e)
    by_cases false false true h =
        let e : (record { sign = Rest; at = t.at }) ≡ s = cc in ap (λ (x : Signed). binding_of x.sign) (sym e)
    by_cases false false false h = absurd (cc)

-- ---- factors

tight_nest : (f : SeenExpr) → IsTight f → nest 3 f ≤ 0
tight_nest (ADecimal n) h = omega arith
tight_nest (ASized t) h = absurd h
tight_nest (AQuoted t) h = omega arith
tight_nest (AParam at n) h = omega arith
tight_nest (AnOp at sign a b) h = absurd h

no_ops : (f : SeenExpr) → IsTight f → ops f ≡ 0
no_ops (ADecimal n) h = refl
no_ops (ASized t) h = absurd h
no_ops (AQuoted t) h = refl
no_ops (AParam at n) h = refl
no_ops (AnOp at sign a b) h = absurd h

no_ops_sized : (f : SeenExpr) → IsSizedNumber f → ops f ≡ 0
no_ops_sized (ADecimal n) h = absurd h
no_ops_sized (ASized t) h = refl
no_ops_sized (AQuoted t) h = absurd h
no_ops_sized (AParam at n) h = absurd h
no_ops_sized (AnOp at sign a b) h = absurd h

leaf_derived : (d : ℕ) (alone : Bool) (used : ℕ) (c : Counted) → used ≤ 256 → IsLeaf alone used c
    → Derived d 3 used c × (alone ≡ false → c.lone ≡ false)
leaf_derived d alone used c few l = by_cases c.lone refl
  where
    by_cases : (b : Bool) → c.lone ≡ b → Derived d 3 used c × (alone ≡ false → c.lone ≡ false)
    by_cases true e = (
      record {
        sound = l.sound;
        count = omega (arith, l.used_is, no_ops_sized c.formula (l.lone e));
        few = omega (arith, l.used_is);
        deep = λ g. absurd (cc);
        flat = l.lone;
      },
      l.first,
    )
    by_cases false e = (
      record {
        sound = l.sound;
        count = omega (arith, l.used_is, no_ops c.formula (l.plain e));
        few = omega (arith, l.used_is);
        deep = λ g. omega (arith, tight_nest c.formula (l.plain e));
        flat = l.lone;
      },
      l.first,
    )

one_leaf : (alone : Bool) (used : ℕ) (ts : List SeenToken) (c : Counted) → AllSpelled (spellings ts)
    → IsOne (leaf_at alone used) ts c → IsLeaf alone used c
one_leaf alone used ts c good h =
    let o = single (leaf_at alone used) ts c h in
    let here : AllSpelled (spellings (o.token ∷ [])) =
    subst (λ (us : List SeenToken). AllSpelled (spellings us)) o.alone good in
    leaf_is alone used o.token.kind o.token.at o.token.text c here.0 o.takes

-- a formula in parentheses
enclosed_nest : (d : ℕ) (f : SeenExpr) → inner f ≤ d → nest 3 f ≤ suc d
enclosed_nest d f h = by_cases (nat_lt (binding f) 3)
  where
    by_cases : (b : Bool) → around b (inner f) ≤ suc d
    by_cases true = omega arith
    by_cases false = omega arith

flat_inner : (f : SeenExpr) → IsSizedNumber f → inner f ≡ 0
flat_inner (ADecimal n) h = absurd h
flat_inner (ASized t) h = refl
flat_inner (AQuoted t) h = absurd h
flat_inner (AParam at n) h = absurd h
flat_inner (AnOp at sign a b) h = absurd h

pub derived_inner : (d level used : ℕ) (c : Counted) → Derived d level used c → inner c.formula ≤ d
derived_inner d level used c h = by_cases c.lone refl
  where
    by_cases : (b : Bool) → c.lone ≡ b → inner c.formula ≤ d
    by_cases true e = omega (arith, flat_inner c.formula (h.flat e))
    by_cases false e = inner_le level d c.formula (h.deep e)

enclosed_derived : (d used : ℕ) (whole : ℕ → Of Counted) (ts : List SeenToken) (c : Counted)
    → ((us : List SeenToken) (x : Counted) → AllSpelled (spellings us) → (whole used).derives us x
    → Derived d 1 used x) → AllSpelled (spellings ts)
    → (in_parentheses whole used).derives ts c → Derived (suc d) 3 used c × (c.lone ≡ false)
enclosed_derived d used whole ts c sums good h =
    let o = turned (a_mark 40)
    (λ o. whole used >>= λ e. a_mark 41 >>= λ k. give (counted e.formula e.used false)) ts c good h in
    let e = turned (whole used)
    (λ e. a_mark 41 >>= λ k. give (counted e.formula e.used false)) o.back c o.good_rest o.rest in
    let k = turned (a_mark 41)
    (λ k. give (counted e.value.formula e.value.used false)) e.back c e.good_rest e.rest in
    let x = sums e.front e.value e.good e.derived in
    subst (λ (z : Counted). Derived (suc d) 3 used z × (z.lone ≡ false)) (sym k.rest.1) (
      record {
        sound = x.sound;
        count = x.count;
        few = x.few;
        deep = λ g. enclosed_nest d e.value.formula (derived_inner d 1 used e.value x);
        flat = λ g. absurd (cc);
      },
      refl,
    )

factor_derived : (d : ℕ) (alone : Bool) (used : ℕ) (ts : List SeenToken) (c : Counted) → used ≤ 256
    → AllSpelled (spellings ts) → (factor d alone used).derives ts c
    → Derived d 3 used c × (alone ≡ false → c.lone ≡ false)
unfolding factor
factor_derived zero alone used ts c few good (inl h) = absurd h
factor_derived zero alone used ts c few good (inr h) =
    leaf_derived zero alone used c few (one_leaf alone used ts c good h)
factor_derived (suc d) alone used ts c few good (inr h) =
    leaf_derived (suc d) alone used c few (one_leaf alone used ts c good h)
factor_derived (suc d) alone used ts c few good (inl h) =
    let factors : (us : List SeenToken) (n : ℕ) (x : Counted) → n ≤ 256 → AllSpelled (spellings us)
    → (factor d false n).derives us x → Derived d 3 n x × (x.lone ≡ false) =
    λ us n x m g k. let r = factor_derived d false n us x m g k in (r.0, r.1 refl) in
    let terms : (us : List SeenToken) (n : ℕ) (x : Counted) → n ≤ 256 → AllSpelled (spellings us)
    → (term d false n).derives us x → Derived d 2 n x × (x.lone ≡ false) =
    λ us n x m g k. chain_plain d 2 product_sign (factor d false) products factors (factor d false) n us x
    (λ vs y p q. factors vs n y m p q) g k in
    let first : (us : List SeenToken) (x : Counted) → AllSpelled (spellings us)
    → (term d true used).derives us x → Derived d 2 used x =
    λ us x g k. chain_derived d 2 product_sign (factor d false) products factors (factor d true) used us x
    (λ vs y p q. (factor_derived d true used vs y few p q).0) g k in
    let e = enclosed_derived d used (sum_of d) ts c (λ us x g k. chain_derived d 1 sum_sign
    (term d false) sums terms (term d true) used us x first g k) good h in
    (e.0, λ g. e.1)

pub sum_derived : (d used : ℕ) (ts : List SeenToken) (c : Counted) → used ≤ 256 → AllSpelled (spellings ts)
    → (sum_of d used).derives ts c → Derived d 1 used c
sum_derived d used ts c few good h =
    let factors : (us : List SeenToken) (n : ℕ) (x : Counted) → n ≤ 256 → AllSpelled (spellings us)
    → (factor d false n).derives us x → Derived d 3 n x × (x.lone ≡ false) =
    λ us n x m g k. let r = factor_derived d false n us x m g k in (r.0, r.1 refl) in
    let terms : (us : List SeenToken) (n : ℕ) (x : Counted) → n ≤ 256 → AllSpelled (spellings us)
    → (term d false n).derives us x → Derived d 2 n x × (x.lone ≡ false) =
    λ us n x m g k. chain_plain d 2 product_sign (factor d false) products factors (factor d false) n us x
    (λ vs y p q. factors vs n y m p q) g k in
    let first : (us : List SeenToken) (x : Counted) → AllSpelled (spellings us)
    → (term d true used).derives us x → Derived d 2 used x =
    λ us x g k. chain_derived d 2 product_sign (factor d false) products factors (factor d true) used us x
    (λ vs y p q. (factor_derived d true used vs y few p q).0) g k in
    chain_derived d 1 sum_sign (term d false) sums terms (term d true) used ts c first good h

-- ---- whole expressions

pub expr_law : Law expr placeless_formula formula_tokens
unfolding expr
expr_law ts f good h =
    let e = turned (sum_of 64 0) (λ (c : Counted). give c.formula) ts f good h in
    let c = sum_derived 64 0 e.front e.value (omega arith) e.good e.derived in
    let g = formula_again e.value.formula c.sound in
    let p = g.as_sum 64 0 (derived_inner 64 1 0 e.value c) (omega (arith, c.count, c.few)) in
    subst (λ x. Printed expr placeless_formula (formula_tokens x) x) (sym e.rest.1)
    (p_last p (λ x same. ap (λ (z : Counted). z.formula) same))
