-- Lists of parts, printed and derived again.
use Rattle.std.proofs.Common.{◌≡◌, ◌==◌, ℕ, zero, suc, true, List, [], ◌∷◌, ◌++◌, map, Some, None, refl, sym}
use Rattle.std.proofs.Common.{ap, ◌∙◌, subst, append_assoc, append-nil, inl, inr}
use Rattle.std.specs.Option.{option_map}
use Rattle.ij_text.specs.Symbol.{give, ◌>>=◌, repeat, many, Parts, appended, maybe}
use Rattle.icl_lexer.specs.Seen.{SeenToken}
use Rattle.icl_lexer.specs.Grammar.{Of, mark as a_mark, parted}
use Rattle.icl_printer.specs.Layout.{Spelling, mark}
use Rattle.icl_printer.specs.Canonical.{in_turn, after, separated, if_there}
use Rattle.icl_printer.specs.Again.{spellings, IsSpelled, AllSpelled}
use Rattle.icl_printer.proofs.Printed.{cut, all_append, all_front, all_back, Printed, Law, p_turn, p_last}
use Rattle.icl_printer.proofs.Printed.{p_give, p_left, p_right, p_mark, turned, nothing_spelled}
use Rattle.std.proofs.lemmas.List.{map-append}

pub snoc_same : {A B : Type 0} (f : A → B) (xs ys : List A) (x y : A) → map f xs ≡ map f ys → f x ≡ f y
    → map f (xs ++ x ∷ []) ≡ map f (ys ++ y ∷ [])
snoc_same f xs ys x y e h = map-append f xs (x ∷ []) ∙ ap (λ zs. zs ++ f x ∷ []) e
    ∙ ap (λ z. map f ys ++ z ∷ []) h ∙ sym (map-append f ys (y ∷ []))

-- ---- lists that a loop makes

-- what a loop that starts with xs appends: these parts
pub record Appends {A A' : Type 0} (S : Of A) (bare : A → A') (canon : A
    → List Spelling) (xs last : List A) : Type 0 where
  pub more : List A
  pub is : last ≡ xs ++ more
  pub printed : (zs : List A) → map bare zs ≡ map bare xs
      → Printed (repeat (λ (ys : List A). S) appended zs) (map bare) (in_turn canon more) last

ends_here : {A A' : Type 0} (S : Of A) (bare : A → A') (xs zs last : List A) → last ≡ xs
    → map bare zs ≡ map bare xs → Printed (repeat (λ (ys : List A). S) appended zs) (map bare) [] last
ends_here S bare xs zs last is same = record {
  good = tt;
  again = λ us e. (zs, (0, (nothing_spelled us e, refl)), same ∙ ap (map bare) (sym is));
}

goes_on : {A A' : Type 0} (S : Of A) (bare : A → A') (canon : A → List Spelling) (xs last : List A) (x : A)
    → Printed S bare (canon x) x → Appends S bare canon (xs ++ x ∷ []) last → Appends S bare canon xs last
goes_on {A} {A'} S bare canon xs last x p rest = record {
  more = x ∷ rest.more;
  is = rest.is ∙ append_assoc xs (x ∷ []) rest.more;
  printed = λ zs same. record {
    good = all_append (canon x) (in_turn canon rest.more) p.good (rest.printed (xs ++ x ∷ []) refl).good;
    again = λ us e.
        let c = cut us (canon x) (in_turn canon rest.more) e in
        let first = p.again c.front c.front_is in
        let others = (rest.printed (zs ++ first.0 ∷ []) (snoc_same bare zs xs first.0 x same first.2)).again
        c.back c.back_is in
        (others.0, (suc others.1.0, (c.front, c.back, first.0, c.whole, first.1, others.1.1)), others.2);
  };
}

pub appends : {A A' : Type 0} (S : Of A) (bare : A → A') (canon : A → List Spelling) → Law S bare canon
    → (n : ℕ) (ts : List SeenToken) (xs last : List A) → AllSpelled (spellings ts)
    → Parts (λ (ys : List A). S) appended n xs ts last → Appends S bare canon xs last
appends S bare canon law zero ts xs last good h = record {
  more = [];
  is = h.1 ∙ sym (append-nil xs);
  printed = λ zs same. ends_here S bare xs zs last h.1 same;
}
appends {A} S bare canon law (suc n) ts xs last good h =
    let both : AllSpelled (spellings (h.0 ++ h.1)) =
    subst (λ (us : List SeenToken). AllSpelled (spellings us)) h.3 good in
    goes_on S bare canon xs last h.2 (law h.0 h.2 (all_front h.0 h.1 both) h.4)
    (appends S bare canon law n h.1 (xs ++ h.2 ∷ []) last (all_back h.0 h.1 both) h.5)

pub many_law : {A A' : Type 0} (S : Of A) (bare : A → A') (canon : A → List Spelling) → Law S bare canon
    → Law (many S) (map bare) (in_turn canon)
many_law {A} S bare canon law ts xs good h =
    let a = appends S bare canon law h.0 ts [] xs good h.1 in
    subst (λ (ys : List A). Printed (many S) (map bare) (in_turn canon ys) xs) (sym a.is) (a.printed [] refl)

-- ---- after marks

pub after_law : {A A' : Type 0} (c : ℕ) (S : Of A) (bare : A → A') (canon : A → List Spelling)
    → IsSpelled (mark c) → (c == c) ≡ true → Law S bare canon → Law (a_mark c >>= λ m. S) bare (after c canon)
after_law c S bare canon ok same law ts a good h =
    let m = turned (a_mark c) (λ m. S) ts a good h in
    p_turn (p_mark c m.value ok same) (λ at e. law m.back a m.good_rest m.rest)

pub parted_law : {A A' : Type 0} (c : ℕ) (S : Of A) (bare : A → A') (canon : A → List Spelling)
    → IsSpelled (mark c) → (c == c) ≡ true → Law S bare canon
    → Law (parted c S) (map bare) (separated c canon)
parted_law {A} c S bare canon ok same law ts xs good h =
    let f = turned S (λ a. repeat (λ (ys : List A). a_mark c >>= λ m. S) appended (a ∷ [])) ts xs good h in
    let a = appends (a_mark c >>= λ m. S) bare (after c canon)
    (after_law c S bare canon ok same law) f.rest.0 f.back (f.value ∷ []) xs f.good_rest f.rest.1 in
    subst (λ (ys : List A). Printed (parted c S) (map bare) (separated c canon ys) xs) (sym a.is)
    (p_turn (law f.front f.value f.good f.derived) (λ y e. a.printed (y ∷ []) (ap (λ z. z ∷ []) e)))

-- ---- parts that may be absent

pub maybe_law : {A A' : Type 0} (S : Of A) (bare : A → A') (canon : A → List Spelling) → Law S bare canon
    → Law (maybe S) (option_map bare) (if_there canon)
maybe_law S bare canon law ts o good (inl h) =
    let a = turned S (λ x. give (Some x)) ts o good h in
    subst (λ o. Printed (maybe S) (option_map bare) (if_there canon o) o) (sym a.rest.1)
    (p_left (p_last (law a.front a.value a.good a.derived) (λ x e. ap Some e)))
maybe_law S bare canon law ts o good (inr h) =
    subst (λ o. Printed (maybe S) (option_map bare) (if_there canon o) o)
    (sym h.1) (p_right (p_give None None refl))
