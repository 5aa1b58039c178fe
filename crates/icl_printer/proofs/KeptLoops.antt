-- Lists that a loop makes of what it keeps, printed and derived again.
use Rattle.std.proofs.Common.{◌≡◌, ℕ, zero, suc, List, [], ◌∷◌, ◌++◌, map, Option, Some, None, refl, sym, ap}
use Rattle.std.proofs.Common.{◌∙◌, subst, append_assoc, append-nil}
use Rattle.std.specs.Option.{option_map}
use Rattle.ij_text.specs.Symbol.{repeat, Parts}
use Rattle.icl_lexer.specs.Seen.{SeenToken}
use Rattle.icl_lexer.specs.Grammar.{Of}
use Rattle.icl_printer.specs.Layout.{Spelling}
use Rattle.icl_printer.specs.Canonical.{in_turn}
use Rattle.icl_printer.specs.Again.{spellings, AllSpelled}
use Rattle.icl_printer.proofs.Printed.{cut, all_append, halves, Printed, nothing_spelled}
use Rattle.icl_printer.proofs.Loops.{snoc_same}

module _ {A A' : Type 0} (part : List A → Of (Option A)) (keep : List A → Option A
    → List A) (bare : A → A') (canon : A → List Spelling)
    (keep_none : (xs : List A) → keep xs None ≡ xs) (keep_some : (xs : List A) (x : A)
    → keep xs (Some x) ≡ xs ++ x ∷ [])
    (law : (xs : List A) (ts : List SeenToken) (o : Option A) → AllSpelled (spellings ts)
    → (part xs).derives ts o → (x : A) → o ≡ Some x → (zs : List A) → map bare zs ≡ map bare xs
    → Printed (part zs) (option_map bare) (canon x) (Some x)) where
  -- what the loop keeps after xs
  pub record Keeps (xs last : List A) : Type 0 where
    pub more : List A
    pub is : last ≡ xs ++ more
    pub printed : (zs : List A) → map bare zs ≡ map bare xs
        → Printed (repeat part keep zs) (map bare) (in_turn canon more) last

  keeps_none : (xs last : List A) → last ≡ xs → Keeps xs last
  keeps_none xs last is = record {
    more = [];
    is = is ∙ sym (append-nil xs);
    printed = λ zs same. record {
      good = tt;
      again = λ us e. (zs, (0, (nothing_spelled us e, refl)), same ∙ ap (map bare) (sym is));
    };
  }

  -- what was kept, again
  pub record Kept (o : Option A) (x : A) : Type 0 where
    pub value : A
    pub is : o ≡ Some value
    pub same : bare value ≡ bare x

  kept : (o : Option A) (x : A) → option_map bare o ≡ Some (bare x) → Kept o x
  kept None x e = absurd (cc)
  kept (Some y) x e = record { value = y; is = refl; same = cc }

  keeps_one : (xs last : List A) (x : A)
      → ((zs : List A) → map bare zs ≡ map bare xs → Printed (part zs) (option_map bare) (canon x) (Some x))
      → Keeps (xs ++ x ∷ []) last → Keeps xs last
  keeps_one xs last x p rest = record {
    more = x ∷ rest.more;
    is = rest.is ∙ append_assoc xs (x ∷ []) rest.more;
    printed = λ zs same. record {
      good = all_append (canon x) (in_turn canon rest.more) (p zs same).good
          (rest.printed (xs ++ x ∷ []) refl).good;
      again = λ us e.
          let c = cut us (canon x) (in_turn canon rest.more) e in
          let first = (p zs same).again c.front c.front_is in
          let y = kept first.0 x first.2 in
          let state : keep zs first.0 ≡ zs ++ y.value ∷ [] = ap (keep zs) y.is ∙ keep_some zs y.value in
          let others = (rest.printed (zs ++ y.value ∷ []) (snoc_same bare zs xs y.value x same y.same)).again
          c.back c.back_is in (
            others.0,
            (
              suc others.1.0,
              (
                c.front,
                c.back,
                first.0,
                c.whole,
                first.1,
                subst (λ s. Parts part keep others.1.0 s c.back others.0) (sym state) others.1.1,
              ),
            ),
            others.2,
          );
    };
  }

  pub keeps : (n : ℕ) (ts : List SeenToken) (xs last : List A) → AllSpelled (spellings ts)
      → Parts part keep n xs ts last → Keeps xs last
  keeps zero ts xs last good h = keeps_none xs last h.1
  keeps (suc n) ts xs last good h =
      let g = halves h.0 h.1 ts h.3 good in
      by_cases h.2 refl (λ s e. keeps n h.1 s last g.1 (subst (λ z. Parts part keep n z h.1 last) e h.5))
      (λ x e zs same. law xs h.0 h.2 g.0 h.4 x e zs same)
    where
      by_cases : (o : Option A) → h.2 ≡ o → ((s : List A) → keep xs h.2 ≡ s → Keeps s last)
          → ((x : A) → h.2 ≡ Some x → (zs : List A) → map bare zs ≡ map bare xs
          → Printed (part zs) (option_map bare) (canon x) (Some x)) → Keeps xs last
      by_cases None e next p = next xs (ap (keep xs) e ∙ keep_none xs)
      by_cases (Some x) e next p =
          keeps_one xs last x (p x e) (next (xs ++ x ∷ []) (ap (keep xs) e ∙ keep_some xs x))
