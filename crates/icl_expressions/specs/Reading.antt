-- What each function reads: the readers of the productions, put together as the productions are.
use Rattle.std.specs.Prelude.{◌≡◌, ◌<◌, ℕ, zero, suc, ◌+◌, ◌-◌, Bool, true, false, not, List, [], ◌∷◌, length}
use Rattle.std.specs.Prelude.{Option, Some, None, Result, Ok, Err, is_some}
use Rattle.ij_text.specs.Reading.{Stop as Unfit, Reader, read_barred, read_one, read_in_turn, read_either}
use Rattle.ij_text.specs.Reading.{read_repeat}
use Rattle.ij_text.specs.declared.Place.{Place}
use Rattle.icl_lexer.specs.declared.words.Limit.{Limit}
use Rattle.icl_lexer.specs.declared.words.Limit.TheVariants.{OfExpression}
use Rattle.icl_lexer.specs.Seen.{SeenToken, if_word, is_mark, mark_at, word_at, name_at}
use Rattle.ij_text.specs.Symbol.{appended}
use Rattle.icl_lexer.specs.Values.{SeenExpr, SeenRange, APath, SeenSig}
use Rattle.icl_lexer.specs.Grammar.{Counted, leaf_at, Signed, sum_sign, product_sign, Operand, with_operand}
use Rattle.icl_lexer.specs.Grammar.{too_deep, Located, number_at, Named, named_at, decimal_token}

abbrev pub Reading : Type 0 → Type 0
Reading A = Reader SeenToken Limit A

-- a part takes one token at least
abbrev pub Shrinks : {A : Type 0} → Reading A → Type 0
Shrinks {A} r = (ts rest : List SeenToken) (a : A) → r ts ≡ Ok (a, rest) → length rest < length ts

-- ---- tests on the next token

abbrev pub begins : (SeenToken → Bool) → List SeenToken → Bool
begins first [] = false
begins first (t ∷ ts) = first t

abbrev pub is_name : SeenToken → Bool
is_name t = if_word t.kind true false

-- no `}`
abbrev pub no_close : SeenToken → Bool
no_close t = not (is_mark 125 t)

abbrev pub any : SeenToken → Bool
any t = true

abbrev pub is_sign : (SeenToken → Option Signed) → SeenToken → Bool
is_sign sign t = is_some (sign t)

-- ---- readers of any parts

abbrev pub gives : {A : Type 0} → A → Reading A
gives a ts = Ok (a, ts)

-- a part, which changes a state
abbrev pub read_put : {A S : Type 0} → Reading A → (S → A → S) → S → Reading S
read_put r next s = read_in_turn r (λ a. gives (next s a))

abbrev pub read_mark : ℕ → Reading Place
read_mark c = read_one (mark_at c)

abbrev pub read_word : List ℕ → Reading Place
read_word w = read_one (word_at w)

abbrev pub read_name : Reading (List ℕ)
read_name = read_one name_at

-- a part after a mark
abbrev pub read_after : {A : Type 0} → ℕ → Reading A → Reading A
read_after c r = read_in_turn (read_mark c) (λ m. r)

-- a part before a mark
abbrev pub read_ended : {A : Type 0} → ℕ → Reading A → Reading A
read_ended c r = read_in_turn r (λ a. read_in_turn (read_mark c) (λ e. gives a))

-- a part that begins with a mark, if the mark is there
abbrev pub read_maybe : {A : Type 0} → ℕ → Reading A → Reading (Option A)
read_maybe c r = read_either (is_mark c) (read_in_turn r (λ a. gives (Some a))) (gives None)

-- parts after some that are read already: each after a mark, or up to a `}` or the end
abbrev pub more_parted : {A : Type 0} → ℕ → Reading A → List A → Reading (List A)
more_parted {A} c r xs ts = read_repeat (is_mark c) (λ (ys : List A). read_after c r) appended xs ts

abbrev pub more : {A : Type 0} → Reading A → List A → Reading (List A)
more {A} r xs ts = read_repeat no_close (λ (ys : List A). r) appended xs ts

-- parts with a mark between them
abbrev pub read_parted : {A : Type 0} → ℕ → Reading A → Reading (List A)
read_parted {A} c r =
    read_in_turn r (λ a. read_repeat (is_mark c) (λ (xs : List A). read_after c r) appended (a ∷ []))

-- parts up to a `}` or the end
abbrev pub read_many : {A : Type 0} → Reading A → Reading (List A)
read_many {A} r = read_repeat no_close (λ (xs : List A). r) appended []

abbrev pub read_braced : {A : Type 0} → Reading A → Reading A
read_braced r = read_in_turn (read_mark 123) (λ o. read_ended 125 r)

-- ---- expressions

abbrev pub read_leaf : Bool → ℕ → Reading Counted
read_leaf alone used = read_one (leaf_at alone used)

-- the operator that a token is, with this many tokens left: refused where the expression may have no further
-- one, or where a sized number comes before
abbrev pub operator_of : ℕ → Bool → Option Signed → ℕ → List SeenToken
    → Result (Signed × List SeenToken) (Unfit Limit)
operator_of spare lone None n ts = Err (n, None)
operator_of zero lone (Some s) n ts = Err (n, Some OfExpression)
operator_of (suc spare) true (Some s) n ts = Err (n, None)
operator_of (suc spare) false (Some s) n ts = Ok (s, ts)

unfoldable pub read_operator : ℕ → Bool → (SeenToken → Option Signed) → Reading Signed
read_operator spare lone sign [] = Err (0, None)
read_operator spare lone sign (t ∷ ts) = operator_of spare lone (sign t) (suc (length ts)) ts

unfoldable pub read_operand : (ℕ → Reading Counted) → (SeenToken → Option Signed) → Counted → Reading Operand
read_operand part sign a = read_in_turn (read_operator (256 - a.used) a.lone sign)
    (λ s. read_in_turn (part (a.used + 1)) (λ b. gives (record { sign = s; right = b })))

unfoldable pub read_chain : (ℕ → Reading Counted) → (ℕ → Reading Counted)
    → (SeenToken → Option Signed) → ℕ → Reading Counted
read_chain first part sign used =
    read_in_turn (first used) (λ a. read_repeat (is_sign sign) (read_operand part sign) with_operand a)

unfoldable pub read_parentheses : (ℕ → Reading Counted) → ℕ → Reading Counted
read_parentheses whole used =
    read_in_turn (read_mark 40) (λ a. read_in_turn (whole used) (λ e. read_in_turn (read_mark 41)
    (λ b. gives (record { formula = e.formula; used = e.used; lone = false }))))

unfoldable pub read_factor : ℕ → Bool → ℕ → Reading Counted
read_factor zero alone used = read_either (is_mark 40) (read_barred too_deep) (read_leaf alone used)
read_factor (suc depth) alone used =
    read_either (is_mark 40)
    (read_parentheses (read_chain (read_chain (read_factor depth true) (read_factor depth false) product_sign)
    (read_chain (read_factor depth false) (read_factor depth false) product_sign) sum_sign) used)
    (read_leaf alone used)

abbrev pub read_term : ℕ → Bool → ℕ → Reading Counted
read_term depth alone used = read_chain (read_factor depth alone) (read_factor depth false) product_sign used

abbrev pub read_sum : ℕ → ℕ → Reading Counted
read_sum depth used = read_chain (read_term depth true) (read_term depth false) sum_sign used

-- an operator with its two operands
abbrev pub joined : Counted → Signed → Counted → List SeenToken
    → Result (Counted × List SeenToken) (Unfit Limit)
joined a s b ts = Ok (with_operand a (record { sign = s; right = b }), ts)

unfoldable pub read_expr : Reading SeenExpr
read_expr = read_in_turn (read_sum 64 0) (λ e. gives e.formula)

unfoldable pub read_value : Reading (List SeenExpr)
read_value = read_parted 44 read_expr

unfoldable pub read_expr_after : ℕ → Reading SeenExpr
read_expr_after c = read_after c read_expr

unfoldable pub read_range : Reading SeenRange
read_range = read_in_turn (read_mark 91)
    (λ at. read_in_turn read_expr (λ left. read_in_turn (read_maybe 58 (read_expr_after 58))
    (λ right. read_in_turn (read_mark 93) (λ close. gives (record { at = at; left = left; right = right })))))

-- ---- signals

abbrev pub read_number : Reading Located
read_number = read_one number_at

unfoldable pub read_path_after : List ℕ → Reading (List (List ℕ))
read_path_after first =
    read_repeat (is_mark 46) (λ (ns : List (List ℕ)). read_after 46 read_name) appended (first ∷ [])

unfoldable pub read_named_after : Named → Reading Located
read_named_after first = read_in_turn (read_path_after first.name) (λ path. read_in_turn
    (read_maybe 91 read_range) (λ r. gives (record { at = first.at; what = APath path r })))

unfoldable pub read_named_sig : Reading Located
read_named_sig = read_in_turn (read_one named_at) read_named_after

abbrev pub read_plain_sig : Reading Located
read_plain_sig = read_either is_name read_named_sig read_number

unfoldable pub read_inverted : Reading SeenSig
read_inverted = read_in_turn (read_mark 126)
    (λ at. read_in_turn read_plain_sig (λ s. gives (record { at = at; inverted = true; what = s.what })))

unfoldable pub read_straight : Reading SeenSig
read_straight = read_in_turn read_plain_sig
    (λ s. gives (record { at = s.at; inverted = false; what = s.what }))

unfoldable pub read_sig : Reading SeenSig
read_sig = read_either (is_mark 126) read_inverted read_straight

unfoldable pub read_sigs : Reading (List SeenSig)
read_sigs = read_parted 44 read_sig

abbrev pub read_decimal : Reading ℕ
read_decimal = read_one decimal_token
