-- A text has one design or one fault at most.
use Rattle.std.proofs.Common.{◌≡◌, ℕ, cond, List, [], ◌∷◌, length, Option, Some, None, refl, sym, ap, ◌∙◌}
use Rattle.ij_text.specs.Reading.{Stop as Unfit}
use Rattle.ij_text.specs.Refusal.{Refused}
use Rattle.ij_text.proofs.Verdicts.{refusals_are_one, derived_not_refused}
use Rattle.ij_text.specs.declared.Place.{Place}
use Rattle.ij_text.specs.Places.{end_of}
use Rattle.icl_lexer.specs.declared.words.Limit.{Limit}
use Rattle.icl_lexer.specs.Seen.{SeenToken}
use Rattle.icl_lexer.specs.Values.{SeenModule}
use Rattle.icl_lexer.specs.Modules.{design}
use Rattle.icl_parser.specs.declared.fault.ParseFault.{ParseFault}
use Rattle.icl_parser.specs.declared.fault.ParseFault.TheVariants.{OutOfMemory, LeftOut, ExprLimit, Syntax}
use Rattle.icl_parser.specs.Refusals.{left_out_at, IsFaultOf, IsRefused}
use Rattle.icl_parser.specs.Laws.{SeenFault, ALeftOut, AnExprLimit, ASyntax, seen_fault}
use Rattle.icl_parser.proofs.DesignLaws.{design_reads}
use Rattle.icl_parser.proofs.Verdicts.{design_read, design_only, rest_of}

pub one_design : (tokens : List SeenToken) (d e : List SeenModule)
    → design.derives tokens d → design.derives tokens e → d ≡ e
one_design tokens d e h k = design_only tokens e d (design_read tokens d h) k

-- the fault where these tokens are left
fault_of : Place → List SeenToken → Option Limit → SeenFault
fault_of end [] why = ASyntax end
fault_of end (t ∷ rest) (Some limit) = AnExprLimit t.at
fault_of end (t ∷ rest) None = cond (left_out_at t) (ALeftOut t.at t.text) (ASyntax t.at)

told_is : (end : Place) (rest : List SeenToken) (why : Option Limit) (fault : ParseFault)
    → IsFaultOf end rest why fault → seen_fault fault ≡ fault_of end rest why
unfolding fault_of
told_is end [] why OutOfMemory h = absurd h
told_is end [] why (LeftOut at word) h = absurd h
told_is end [] why (ExprLimit at) h = absurd h
told_is end [] why (Syntax at) h = ap ASyntax h
told_is end (t ∷ rest) (Some limit) OutOfMemory h = absurd h
told_is end (t ∷ rest) (Some limit) (LeftOut at word) h = absurd h
told_is end (t ∷ rest) (Some limit) (ExprLimit at) h = ap AnExprLimit h
told_is end (t ∷ rest) (Some limit) (Syntax at) h = absurd h
told_is end (t ∷ rest) None OutOfMemory h = absurd h
told_is end (t ∷ rest) None (LeftOut at word) h = rw (h.0, h.1, h.2) refl
told_is end (t ∷ rest) None (ExprLimit at) h = absurd h
told_is end (t ∷ rest) None (Syntax at) h = rw (h.0, h.1) refl

as_refused : (text : List ℕ) (tokens : List SeenToken) (fault : ParseFault) (p : IsRefused text tokens fault)
    → Refused design tokens (length p.rest, p.why)
as_refused text tokens fault p = (p.front, p.rest, p.whole, refl, p.viable, p.stuck)

pub one_fault : (text : List ℕ) (tokens : List SeenToken) (fault other : ParseFault)
    → IsRefused text tokens fault → IsRefused text tokens other → seen_fault fault ≡ seen_fault other
one_fault text tokens fault other p q =
    let same = refusals_are_one design_reads tokens (length p.rest, p.why) (length q.rest, q.why)
    (as_refused text tokens fault p) (as_refused text tokens other q) in
    let lengths : length p.rest ≡ length q.rest = ap (λ (x : Unfit Limit). x.0) same in
    let whys : p.why ≡ q.why = ap (λ (x : Unfit Limit). x.1) same in
    let rests : p.rest ≡ q.rest = sym (rest_of tokens p.front p.rest (length p.rest) p.whole refl)
    ∙ rest_of tokens q.front q.rest (length p.rest) q.whole (sym lengths) in
    told_is (end_of text) p.rest p.why fault p.told
    ∙ ap (λ l. fault_of (end_of text) l p.why) rests
    ∙ ap (λ w. fault_of (end_of text) q.rest w) whys
    ∙ sym (told_is (end_of text) q.rest q.why other q.told)

pub not_both : (text : List ℕ) (tokens : List SeenToken) (d : List SeenModule) (fault : ParseFault)
    → design.derives tokens d → IsRefused text tokens fault → ⊥
not_both text tokens d fault h p =
    derived_not_refused design_reads tokens d (length p.rest, p.why) h (as_refused text tokens fault p)
