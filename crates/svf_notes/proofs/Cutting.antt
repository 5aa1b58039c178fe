-- A text is cut after the `;` of its first command, and what is there may be anything.
use Rattle.std.proofs.Common.{◌≡◌, ℕ, suc, ◌<◌, Bool, true, false, cond, List, [], ◌∷◌, ◌++◌, length, take}
use Rattle.std.proofs.Common.{drop, refl, ap, sym, ◌∙◌, arith}
use Rattle.std.specs.Prelude.{◌==◌, ◌⊎◌}
use Rattle.std.proofs.Common.{inl, inr}
use Rattle.std.proofs.lemmas.Bool.Decides.{nat_tests}
use Rattle.ij_text.specs.Parts.{before}
use Rattle.svf_reader.specs.Texts.{first, in_comment, plain_from, plain, texts}
use Rattle.svf_reader.proofs.Whole.{texts_some}

-- a text whose plain text has a command t with its `;`: what comes after it is cut apart from it
pub record IsCut (inside : Bool) (src t : List ℕ) (later : List (List ℕ)) : Type 0 where
  pub rest : texts (plain (drop (suc (length t)) src)) ≡ later
  pub any : (xs : List ℕ) → texts (plain_from inside (take (suc (length t)) src ++ xs)) ≡ t ∷ texts (plain xs)

-- a byte that ends no command
in_command : (c : ℕ) (ys t : List ℕ) (later : List (List ℕ)) → (c == 59) ≡ false
    → before c (texts ys) ≡ t ∷ later → (w : List ℕ) × (texts ys ≡ w ∷ later) × (t ≡ c ∷ w)
in_command c ys t later other e = cases (texts_some ys).0 (texts_some ys).1 (texts_some ys).2
  where
    cases : (w : List ℕ) (ws : List (List ℕ)) → texts ys ≡ w ∷ ws
        → (v : List ℕ) × (texts ys ≡ v ∷ later) × (t ≡ c ∷ v)
    cases w ws is =
        let both : (c ∷ w) ∷ ws ≡ t ∷ later = ap (before c) (sym is) ∙ e in
        let heads : t ≡ c ∷ w = cc in
        let tails : ws ≡ later = cc in
        (w, is ∙ ap (λ (l : List (List ℕ)). w ∷ l) tails, heads)

front_of : (c : ℕ) (ys w : List ℕ) (later : List (List ℕ)) → (c == 59) ≡ false
    → texts ys ≡ w ∷ later → texts (c ∷ ys) ≡ (c ∷ w) ∷ later
front_of c ys w later other is =
    ap (λ k. cond k ([] ∷ texts ys) (before c (texts ys))) other ∙ ap (before c) is

-- a `;` outside of comments begins none, and is in none
no_comment : (inside : Bool) (next other : ℕ)
    → in_comment inside 59 next ≡ false → in_comment inside 59 other ≡ false
no_comment true next other h = absurd (cc)
no_comment false next other h = refl

-- the byte after a byte of the command stays
same_next : (inside : Bool) (b : ℕ) (bs xs : List ℕ) (n : ℕ) → 0 < length bs
    → in_comment inside b (first (take (suc n) bs ++ xs)) ≡ in_comment inside b (first bs)
same_next inside b [] xs n some = absurd (omega arith)
same_next inside b (c ∷ cs) xs n some = refl

-- two commands are more than no byte
some_byte : (inside : Bool) (bs t u : List ℕ) (us : List (List ℕ))
    → texts (plain_from inside bs) ≡ t ∷ u ∷ us → 0 < length bs
some_byte inside [] t u us e = absurd (cc)
some_byte inside (b ∷ bs) t u us e = omega arith

shown : Bool → ℕ → ℕ
shown h b = cond h 32 b

no_end : (h : Bool) (b : ℕ) → (cond h 32 b == 59) ≡ false ⊎ ((h ≡ false) × (b ≡ 59))
no_end true b = inl refl
no_end false b = cases (b == 59) refl
  where
    cases : (k : Bool) → (b == 59) ≡ k → ((b == 59) ≡ false) ⊎ ((false ≡ false) × (b ≡ 59))
    cases true e = inr (refl, grind (arith, nat_tests))
    cases false e = inl e

cut_after : (inside : Bool) (b : ℕ) (bs t u : List ℕ) (us : List (List ℕ)) (h : Bool)
    → in_comment inside b (first bs) ≡ h → texts (cond h 32 b ∷ plain_from h bs) ≡ t ∷ u ∷ us
    → ((w : List ℕ) → texts (plain_from h bs) ≡ w ∷ u ∷ us → IsCut h bs w (u ∷ us))
    → IsCut inside (b ∷ bs) t (u ∷ us)
cut_after inside b bs t u us h eh e more =
    elim (no_end h b) [ inl other ↦ within other | inr end ↦ at_end end.0 end.1 ]
  where
    within : (cond h 32 b == 59) ≡ false → IsCut inside (b ∷ bs) t (u ∷ us)
    within other =
        let c = cond h 32 b in
        let front : before c (texts (plain_from h bs)) ≡ t ∷ u ∷ us = sym (ap
        (λ k. cond k ([] ∷ texts (plain_from h bs)) (before c (texts (plain_from h bs)))) other) ∙ e in
        let part = in_command c (plain_from h bs) t (u ∷ us) other front in
        let w = part.0 in
        let is = more w part.1 in
        let long : length t ≡ suc (length w) = ap length part.2 in
        let some = some_byte h bs w u us part.1 in
        record {
          rest = ap (λ (n : ℕ). texts (plain (drop (suc n) (b ∷ bs)))) long ∙ is.rest;
          any = λ xs.
              let tail = take (suc (length w)) bs ++ xs in
              let next : in_comment inside b (first tail)
              ≡ h = same_next inside b bs xs (length w) some ∙ eh in
              ap (λ (n : ℕ). texts (plain_from inside (take (suc n) (b ∷ bs) ++ xs))) long
              ∙ ap (λ (k : Bool). texts (cond k 32 b ∷ plain_from k tail)) next
              ∙ front_of c (plain_from h tail) w (texts (plain xs)) other (is.any xs)
              ∙ ap (λ (v : List ℕ). v ∷ texts (plain xs)) (sym part.2);
        }

    at_end : h ≡ false → b ≡ 59 → IsCut inside (b ∷ bs) t (u ∷ us)
    at_end shown_here is =
        let whole : [] ∷ texts (plain bs) ≡ t ∷ u ∷ us = sym (ap (λ (x : ℕ). texts (x ∷ plain bs)) is)
        ∙ ap (λ (k : Bool). texts (cond k 32 b ∷ plain_from k bs)) (sym shown_here) ∙ e in
        let none : t ≡ [] = cc in
        let later : texts (plain bs) ≡ u ∷ us = cc in
        let outside : in_comment inside 59 (first bs)
        ≡ false = ap (λ (x : ℕ). in_comment inside x (first bs)) (sym is) ∙ eh ∙ shown_here in
        record {
          rest = ap (λ (v : List ℕ). texts (plain (drop (suc (length v)) (b ∷ bs)))) none ∙ later;
          any = λ xs.
              ap (λ (v : List ℕ). texts (plain_from inside (take (suc (length v)) (b ∷ bs) ++ xs))) none
              ∙ ap (λ (x : ℕ). texts (plain_from inside (x ∷ xs))) is
              ∙ ap (λ (k : Bool). texts (cond k 32 59 ∷ plain_from k xs))
              (no_comment inside (first bs) (first xs) outside)
              ∙ ap (λ (v : List ℕ). v ∷ texts (plain xs)) (sym none);
        }

pub cut : (inside : Bool) (src t u : List ℕ) (us : List (List ℕ))
    → texts (plain_from inside src) ≡ t ∷ u ∷ us → IsCut inside src t (u ∷ us)
cut inside [] t u us e = absurd (cc)
cut inside (b ∷ bs) t u us e =
    let h = in_comment inside b (first bs) in
    cut_after inside b bs t u us h refl e (λ w is. cut h bs w u us is)
