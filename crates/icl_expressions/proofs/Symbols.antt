-- The readers of expressions read their symbols.
use Rattle.std.proofs.Common.{◌≡◌, ℕ, zero, suc, ◌+◌, ◌-◌, Bool, true, false, cond, List, [], ◌∷◌, length}
use Rattle.std.proofs.Common.{Option, Some, None, Err, refl, subst, is_some}
use Rattle.std.specs.Prelude.{◌||◌}
use mathlib.Core.Path.{fun_ext}
use Rattle.ij_text.specs.Symbol.{one, give, barred, ◌>>=◌, repeat}
use Rattle.ij_text.specs.Reading.{read_one, read_barred, read_in_turn, read_repeat}
use Rattle.ij_text.proofs.Combinators.{Reads, one_reads, barred_reads, give_reads, none_reads, turn_reads}
use Rattle.ij_text.proofs.Combinators.{either_reads, wider_reads}
use Rattle.ij_text.proofs.Laws.{repeat_reads}
use Rattle.icl_lexer.specs.declared.token.TokenKind.{TokenKind}
use Rattle.icl_lexer.specs.declared.token.TokenKind.TheVariants.{Word, Decimal, Sized, Quoted, Param, Mark}
use Rattle.ij_text.specs.declared.Place.{Place}
use Rattle.icl_lexer.specs.declared.words.Limit.{Limit}
use Rattle.icl_lexer.specs.declared.words.Limit.TheVariants.{OfExpression}
use Rattle.icl_lexer.specs.Seen.{SeenToken, if_mark, is_mark, mark_at}
use Rattle.icl_lexer.specs.Grammar.{Of, mark, Counted, leaf_of, leaf_at, Signed, sum_sign, product_sign}
use Rattle.icl_lexer.specs.Grammar.{too_many, operator, operand, with_operand, chain, in_parentheses}
use Rattle.icl_lexer.specs.Grammar.{too_deep, factor, term, sum_of, expr}
use Rattle.icl_expressions.specs.Reading.{Reading, gives, is_sign, no_close, read_mark, read_leaf}
use Rattle.icl_expressions.specs.Reading.{operator_of, read_operator, read_operand, read_chain}
use Rattle.icl_expressions.specs.Reading.{read_parentheses, read_factor, read_term, read_sum, read_expr}
use Rattle.icl_expressions.proofs.Tokens.{nothing, no_mark, marks, either_true, marks_apart, no_mark_is}
use Rattle.icl_expressions.proofs.Tokens.{no_mark_closes, mark_closes}
use Rattle.ij_bits.proofs.Tests.{some_cond, or_right_false}
use Rattle.std.proofs.lemmas.Bool.{or_from}

-- ---- a reader that reads the same

pub same_reads : {A : Type 0} {S : Of A} {first more : SeenToken
    → Bool} {nullable : Bool} {r : Reading A} (r' : Reading A) → ((ts : List SeenToken) → r ts ≡ r' ts)
    → Reads S first more nullable r → Reads S first more nullable r'
same_reads {A} {S} {first} {more} {nullable} r' h law =
    subst (λ q. Reads S first more nullable q) (fun_ext h) law

-- ---- one part after another, told by the laws of the parts

pub then_reads : {A B : Type 0} {S : Of A} {firstS moreS : SeenToken → Bool} {r : Reading A} (next : A
    → Of B) (firstN moreN : SeenToken → Bool) (nullN : Bool) (rn : A → Reading B)
    → Reads S firstS moreS false r → ((a : A) → Reads (next a) firstN moreN nullN (rn a))
    → ((t : SeenToken) → firstN t ≡ true → moreS t ≡ false)
    → Reads (S >>= next) firstS (λ t. cond nullN (moreN t || moreS t) (moreN t)) false (read_in_turn r rn)
then_reads {A} {B} {S} {firstS} {moreS} {r} next firstN moreN nullN rn law laws apart =
    turn_reads S next firstS moreS firstN moreN false nullN r rn law laws apart

pub mark_reads : (c : ℕ) → Reads (mark c) (is_mark c) nothing false (read_mark c)
mark_reads c = wider_reads (one_reads Limit (mark_at c)) (is_mark c) nothing
    (λ t h. some_cond (is_mark c t) t.at h) (λ t h. refl)

-- a part, and a value made of it
pub made_reads : {A B : Type 0} {S : Of A} {first more : SeenToken → Bool} {r : Reading A} (make : A → B)
    → Reads S first more false r
    → Reads (S >>= λ a. give (make a)) first more false (read_in_turn r (λ a. gives (make a)))
made_reads {A} {B} {S} {first} {more} {r} make law =
    turn_reads S (λ a. give (make a)) first more nothing nothing false true r (λ a. gives (make a)) law
    (λ a. give_reads (make a)) (λ t h. absurd cc)

-- ---- operators

bars_sign : (o : Option Signed) → is_some (too_many o) ≡ true → is_some o ≡ true
bars_sign None h = absurd cc
bars_sign (Some s) h = refl

operator_zero : (lone : Bool) (sign : SeenToken → Option Signed) (ts : List SeenToken)
    → read_barred (λ t. too_many (sign t)) ts ≡ read_operator 0 lone sign ts
unfolding read_operator
operator_zero lone sign [] = refl
operator_zero lone sign (t ∷ ts) = by_cases (sign t)
  where
    by_cases : (o : Option Signed)
        → Err (suc (length ts), too_many o) ≡ operator_of 0 lone o (suc (length ts)) ts
    by_cases None = refl
    by_cases (Some s) = refl

operator_lone : (spare : ℕ) (sign : SeenToken → Option Signed) (ts : List SeenToken)
    → Err (length ts, None) ≡ read_operator (suc spare) true sign ts
unfolding read_operator
operator_lone spare sign [] = refl
operator_lone spare sign (t ∷ ts) = by_cases (sign t)
  where
    by_cases : (o : Option Signed)
        → Err (suc (length ts), None) ≡ operator_of (suc spare) true o (suc (length ts)) ts
    by_cases None = refl
    by_cases (Some s) = refl

operator_there : (spare : ℕ) (sign : SeenToken → Option Signed) (ts : List SeenToken)
    → read_one sign ts ≡ read_operator (suc spare) false sign ts
unfolding read_operator
operator_there spare sign [] = refl
operator_there spare sign (t ∷ ts) = by_cases (sign t)
  where
    by_cases : (o : Option Signed)
        → read_one (λ u. o) (t ∷ ts) ≡ operator_of (suc spare) false o (suc (length ts)) ts
    by_cases None = refl
    by_cases (Some s) = refl

pub operator_reads : (spare : ℕ) (lone : Bool) (sign : SeenToken → Option Signed)
    → Reads (operator spare lone sign) (is_sign sign) nothing false (read_operator spare lone sign)
operator_reads zero lone sign =
    same_reads (read_operator 0 lone sign) (operator_zero lone sign)
    (wider_reads (barred_reads Signed (λ t. too_many (sign t))) (is_sign sign) nothing
    (λ t h. bars_sign (sign t) h) (λ t h. refl))
operator_reads (suc spare) true sign =
    same_reads (read_operator (suc spare) true sign) (operator_lone spare sign)
    (wider_reads none_reads (is_sign sign) nothing (λ t h. absurd cc) (λ t h. refl))
operator_reads (suc spare) false sign =
    same_reads (read_operator (suc spare) false sign) (operator_there spare sign) (one_reads Limit sign)

-- ---- chains

module _ (head part : ℕ → Of Counted) (rh rp : ℕ → Reading Counted) (sign : SeenToken
    → Option Signed) (first more : SeenToken → Bool)
    (law_head : (used : ℕ) → Reads (head used) first more false (rh used)) (law : (used : ℕ)
    → Reads (part used) first more false (rp used))
    (apart : (t : SeenToken) → is_sign sign t ≡ true → more t ≡ false) where
  pub operand_reads : (a : Counted)
      → Reads (operand part sign a) (is_sign sign) more false (read_operand rp sign a)
  unfolding read_operand
  operand_reads a =
      then_reads (λ s. part (a.used + 1) >>= λ b. give (record { sign = s; right = b })) first more false
      (λ s. read_in_turn (rp (a.used + 1)) (λ b. gives (record { sign = s; right = b })))
      (operator_reads (256 - a.used) a.lone sign)
      (λ s. made_reads (λ b. record { sign = s; right = b }) (law (a.used + 1)))
      (λ t h. refl)

  pub chain_reads : (used : ℕ) → Reads (chain head part sign used) first
      (λ t. is_sign sign t || more t) false (read_chain rh rp sign used)
  unfolding read_chain
  chain_reads used =
      wider_reads
      (then_reads (λ a. repeat (operand part sign) with_operand a) (is_sign sign) (λ t. is_sign sign t || more
      t) true (λ a. read_repeat (is_sign sign) (read_operand rp sign) with_operand a)
      (law_head used)
      (repeat_reads (operand part sign) with_operand (is_sign sign) more
      (read_operand rp sign) operand_reads apart)
      apart)
      first (λ t. is_sign sign t || more t) (λ t h. h) (λ t h. again (is_sign sign t) (more t) h)
    where
      again : (a b : Bool) → a || b ≡ false → (a || b) || b ≡ false
      again true b h = h
      again false true h = h
      again false false h = h

-- ---- which tokens exclude one another

leaf_kind : (alone : Bool) (used : ℕ) (k : TokenKind) (at : Place) (text : List ℕ)
    → is_some (leaf_of alone used k at text) ≡ true → if_mark k false true ≡ true
leaf_kind alone used Word at text h = absurd cc
leaf_kind alone used Decimal at text h = refl
leaf_kind alone used Sized at text h = refl
leaf_kind alone used Quoted at text h = refl
leaf_kind alone used Param at text h = refl
leaf_kind alone used Mark at text h = absurd cc

leaf_no_mark : (alone : Bool) (used : ℕ) (t : SeenToken)
    → is_some (leaf_at alone used t) ≡ true → no_mark t ≡ true
leaf_no_mark alone used t h = leaf_kind alone used t.kind t.at t.text h

-- `+` and `-`
abbrev pub sum_marks : List ℕ
sum_marks = 43 ∷ 45 ∷ []

-- `*`, `/` and `%`
abbrev pub product_marks : List ℕ
product_marks = 42 ∷ 47 ∷ 37 ∷ []

two_signs : (p m : Bool) (a b : Signed) → p || (m || false) ≡ false
    → is_some (cond p (Some a) (cond m (Some b) None)) ≡ false
two_signs true m a b h = absurd cc
two_signs false true a b h = absurd cc
two_signs false false a b h = refl

three_signs : (x d r : Bool) (a b c : Signed) → x || (d || (r || false)) ≡ false
    → is_some (cond x (Some a) (cond d (Some b) (cond r (Some c) None))) ≡ false
three_signs true d r a b c h = absurd cc
three_signs false true r a b c h = absurd cc
three_signs false false true a b c h = absurd cc
three_signs false false false a b c h = refl

no_sum : (t : SeenToken) → marks sum_marks t ≡ false → is_sign sum_sign t ≡ false
no_sum t h = two_signs (is_mark 43 t) (is_mark 45 t) _ _ h

no_product : (t : SeenToken) → marks product_marks t ≡ false → is_sign product_sign t ≡ false
no_product t h = three_signs (is_mark 42 t) (is_mark 47 t) (is_mark 37 t) _ _ _ h

-- a sign of a sum is none of a product
sum_no_product : (t : SeenToken) → is_sign sum_sign t ≡ true → is_sign product_sign t ≡ false
sum_no_product t h = no_product t (by_signs (is_mark 43 t) (is_mark 45 t) _ _ h
    (marks_apart 43 product_marks refl t) (marks_apart 45 product_marks refl t))
  where
    by_signs : (p m : Bool) (a b : Signed) → is_some (cond p (Some a) (cond m (Some b) None)) ≡ true
        → (p ≡ true → marks product_marks t ≡ false)
        → (m ≡ true → marks product_marks t ≡ false) → marks product_marks t ≡ false
    by_signs true m a b h f g = f refl
    by_signs false true a b h f g = g refl
    by_signs false false a b h f g = absurd cc

-- ---- factors and expressions

-- by which an expression begins: anything that isn't `}`
abbrev pub more_term : SeenToken → Bool
more_term t = is_sign product_sign t || false

abbrev pub more_sum : SeenToken → Bool
more_sum t = is_sign sum_sign t || (is_sign product_sign t || false)

-- `+`, `-`, `*`, `/` and `%`
abbrev pub sign_marks : List ℕ
sign_marks = 43 ∷ 45 ∷ 42 ∷ 47 ∷ 37 ∷ []

pub sum_ends : (t : SeenToken) → marks sign_marks t ≡ false → more_sum t ≡ false
sum_ends t h =
    let two : marks sum_marks t ≡ false = front (is_mark 43 t) (is_mark 45 t) _ h in
    let three : marks product_marks t ≡ false =
    or_right_false (is_mark 45 t) _ (or_right_false (is_mark 43 t) _ h) in
    or_from _ _ (no_sum t two) (or_from _ _ (no_product t three) refl)
  where
    front : (a b r : Bool) → a || (b || r) ≡ false → a || (b || false) ≡ false
    front true b r h = h
    front false true r h = h
    front false false r h = refl

pub sum_apart : (t : SeenToken) → is_sign sum_sign t ≡ true → more_term t ≡ false
sum_apart t h = or_from _ _ (sum_no_product t h) refl

parentheses_reads : (whole : ℕ → Of Counted) (rw' : ℕ → Reading Counted)
    → ((used : ℕ) → Reads (whole used) no_close more_sum false (rw' used)) → (used : ℕ)
    → Reads (in_parentheses whole used) (is_mark 40) nothing false (read_parentheses rw' used)
unfolding read_parentheses
parentheses_reads whole rw' law used =
    then_reads (λ a. whole used >>= λ e. mark 41 >>= λ b. give (record
    { formula = e.formula; used = e.used; lone = false })) no_close nothing false _ (mark_reads 40)
    (λ a. then_reads (λ e. mark 41 >>= λ b. give
    (record { formula = e.formula; used = e.used; lone = false })) (is_mark 41) nothing false _ (law used)
    (λ e. made_reads (λ b. record { formula = e.formula; used = e.used; lone = false }) (mark_reads 41))
    (λ t h. sum_ends t (marks_apart 41 sign_marks refl t h)))
    (λ t h. refl)

deep_mark : (b : Bool) → is_some (cond b (Some OfExpression) None) ≡ true → b ≡ true
deep_mark true h = refl
deep_mark false h = absurd cc

leaf_reads : (alone : Bool) (used : ℕ)
    → Reads (one (leaf_at alone used)) no_mark nothing false (read_leaf alone used)
leaf_reads alone used = wider_reads (one_reads Limit (leaf_at alone used)) no_mark nothing
    (λ t h. leaf_no_mark alone used t h) (λ t h. refl)

pub factor_reads : (depth : ℕ) (alone : Bool) (used : ℕ)
    → Reads (factor depth alone used) no_close nothing false (read_factor depth alone used)
unfolding factor read_factor
factor_reads zero alone used =
    wider_reads
    (either_reads (barred too_deep) (one (leaf_at alone used)) (is_mark 40) nothing no_mark nothing false
    (read_barred too_deep) (read_leaf alone used)
    (wider_reads (barred_reads Counted too_deep) (is_mark 40) nothing
    (λ t h. deep_mark (is_mark 40 t) h) (λ t h. refl))
    (leaf_reads alone used) (λ t h. no_mark_is 40 t h))
    no_close nothing (λ t h. either_true (is_mark 40 t) (no_mark t)
    (mark_closes 40 refl t) (no_mark_closes t) h) (λ t h. refl)
factor_reads (suc depth) alone used =
    wider_reads
    (either_reads (in_parentheses (sum_of depth) used) (one (leaf_at alone used)) (is_mark 40) nothing no_mark
    nothing false (read_parentheses (read_sum depth) used) (read_leaf alone used)
    (parentheses_reads (sum_of depth) (read_sum depth)
    (chain_reads (term depth true) (term depth false) (read_term depth true)
    (read_term depth false) sum_sign no_close more_term
    (chain_reads (factor depth true) (factor depth false) (read_factor depth true) (read_factor depth false)
    product_sign no_close nothing (factor_reads depth true) (factor_reads depth false) (λ t h. refl))
    (chain_reads (factor depth false) (factor depth false) (read_factor depth false) (read_factor depth false)
    product_sign no_close nothing (factor_reads depth false) (factor_reads depth false) (λ t h. refl))
    sum_apart)
    used)
    (leaf_reads alone used) (λ t h. no_mark_is 40 t h))
    no_close nothing (λ t h. either_true (is_mark 40 t) (no_mark t)
    (mark_closes 40 refl t) (no_mark_closes t) h) (λ t h. refl)

pub term_reads : (depth : ℕ) (alone : Bool) (used : ℕ)
    → Reads (term depth alone used) no_close more_term false (read_term depth alone used)
term_reads depth alone used = chain_reads (factor depth alone) (factor depth false) (read_factor depth alone)
    (read_factor depth false) product_sign no_close nothing (factor_reads depth alone)
    (factor_reads depth false) (λ t h. refl) used

pub sum_reads : (depth used : ℕ) → Reads (sum_of depth used) no_close more_sum false (read_sum depth used)
sum_reads depth used = chain_reads (term depth true) (term depth false) (read_term depth true)
    (read_term depth false) sum_sign no_close more_term
    (term_reads depth true) (term_reads depth false) sum_apart used

pub expr_reads : Reads expr no_close (marks sign_marks) false read_expr
unfolding expr read_expr
expr_reads = wider_reads (made_reads (λ e. e.formula) (sum_reads 64 0)) no_close
    (marks sign_marks) (λ t h. h) sum_ends
