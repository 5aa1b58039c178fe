-- Instances, enumerations, interfaces and links that are printed, derived again.
use Rattle.std.proofs.Common.{◌≡◌, ℕ, List, [], ◌∷◌, ◌++◌, map, Option, Some, None, refl, sym, ap, ◌∙◌, subst}
use Rattle.std.proofs.Common.{append_assoc, inl, inr}
use Rattle.std.specs.Prelude.{codes}
use Rattle.std.specs.Option.{option_map}
use Rattle.ij_text.specs.declared.Place.{Place}
use Rattle.ij_text.specs.Symbol.{one}
use Rattle.icl_lexer.specs.declared.token.TokenKind.TheVariants.{Word}
use Rattle.icl_lexer.specs.declared.tree.LinkKind.{LinkKind}
use Rattle.icl_lexer.specs.declared.tree.LinkKind.TheVariants.{Std2001, Std2013}
use Rattle.icl_lexer.specs.declared.words.BindKeyword.{BindKeyword}
use Rattle.icl_lexer.specs.declared.words.BindKeyword.TheVariants.{BindsPort, BindsParameter, BindsAttribute}
use Rattle.icl_lexer.specs.declared.words.MemberKeyword.{MemberKeyword}
use Rattle.icl_lexer.specs.declared.words.MemberKeyword.TheVariants.{MemberPort, MemberAttribute}
use Rattle.icl_lexer.specs.Seen.{SeenToken}
use Rattle.icl_lexer.specs.Words.{link_word, link_named, bind_named, member_named}
use Rattle.icl_lexer.specs.Values.{SeenBind, ABoundPort, ABoundParameter, ABoundAttribute, SeenEnumWord}
use Rattle.icl_lexer.specs.Values.{SeenLinkInstr, SeenWhat, AChild, SomeWords, AnInterface, ALink}
use Rattle.icl_lexer.specs.Grammar.{Of, ended_by, AttributeSaid}
use Rattle.icl_lexer.specs.Modules.{BindBegin, begun_by, bind_begin_at, bound_port, bound_parameter}
use Rattle.icl_lexer.specs.Modules.{bound_attribute, bind_after, bind, binds, braced as a_braced, child}
use Rattle.icl_lexer.specs.Modules.{enum_word, words, member_word_at, member_after, member, with_member}
use Rattle.icl_lexer.specs.Modules.{interface, Selected, selected, selecting, instruction, link_kind_at}
use Rattle.icl_lexer.specs.Modules.{entity, link}
use Rattle.icl_printer.specs.Layout.{Spelling, word, mark}
use Rattle.icl_printer.specs.Canonical.{in_turn, after, braced, if_there, name_tokens, formula_tokens}
use Rattle.icl_printer.specs.Canonical.{range_tokens, signals_tokens, binding_tokens, enum_tokens}
use Rattle.icl_printer.specs.Canonical.{member_tokens, instruction_tokens}
use Rattle.icl_printer.specs.Again.{spellings, IsSpelled, AllSpelled, placeless_binding, placeless_word}
use Rattle.icl_printer.specs.Again.{placeless_meaning}
use Rattle.icl_printer.proofs.Printed.{Printed, Law, p_turn, p_last, p_left, p_right, p_mark, p_word, p_token}
use Rattle.icl_printer.proofs.Printed.{itself, name_law, halves}
use Rattle.icl_printer.proofs.Loops.{many_law}
use Rattle.icl_printer.proofs.KeptLoops.{keeps}
use Rattle.icl_printer.proofs.SignalLaws.{value_law, after_expr_law, maybe_range_law, sigs_law, same_itself}
use Rattle.icl_printer.proofs.ItemLaws.{attribute_said_law}
use Rattle.ij_text.specs.Places.{no_place}

-- ---- instances

abbrev bind_word : BindKeyword → List ℕ
bind_word BindsPort = codes "InputPort"
bind_word BindsParameter = codes "Parameter"
bind_word BindsAttribute = codes "Attribute"

bind_again : (w : BindKeyword) → bind_named (bind_word w) ≡ Some w
unfolding bind_named
bind_again BindsPort = refl
bind_again BindsParameter = refl
bind_again BindsAttribute = refl

bind_spelled : (w : BindKeyword) → IsSpelled (word (bind_word w))
bind_spelled BindsPort = refl
bind_spelled BindsParameter = refl
bind_spelled BindsAttribute = refl

p_bind_begin : (b : BindBegin) → Printed (one bind_begin_at) (λ z. z.word) (word (bind_word b.word) ∷ []) b
p_bind_begin b = p_token (word (bind_word b.word)) b (λ at. record { at = at; word = b.word })
    (bind_spelled b.word) (λ at. ap (begun_by at) (bind_again b.word)) (λ at. refl)

-- what comes after the word of a binding: with any place the same
record Bound (w : BindKeyword) (b : SeenBind) : Type 0 where
  middle : List Spelling
  tokens_are : binding_tokens b ≡ word (bind_word w) ∷ (middle ++ (mark 59 ∷ []))
  printed : (at : Place) → Printed (bind_after at w) placeless_binding middle b

bound_port_law : (at : Place) (ts : List SeenToken) (b : SeenBind) → AllSpelled (spellings ts)
    → (bound_port at).derives ts b → Bound BindsPort b
unfolding bound_port
bound_port_law at ts b good h =
    let g1 = halves h.0 h.1 ts h.3 good in
    let h2 = h.5 in
    let g2 = halves h2.0 h2.1 h.1 h2.3 g1.1 in
    let h3 = h2.5 in
    let g3 = halves h3.0 h3.1 h2.1 h3.3 g2.1 in
    let h4 = h3.5 in
    let g4 = halves h4.0 h4.1 h3.1 h4.3 g3.1 in
    let x = ABoundPort at h.2 h2.2 h4.2 in
    let cs : List Spelling = word h.2 ∷ (if_there range_tokens h2.2 ++ (mark 61 ∷ signals_tokens h4.2)) in
    let here : Bound BindsPort x = record {
      middle = cs;
      tokens_are = ap (λ (y : List Spelling). word (codes "InputPort") ∷ word h.2 ∷ y)
          (sym (append_assoc (if_there range_tokens h2.2) (mark 61 ∷ signals_tokens h4.2) (mark 59 ∷ [])));
      printed = λ p. p_turn (name_law h.0 h.2 g1.0 h.4)
          (λ n en. p_turn (maybe_range_law h2.0 h2.2 g2.0 h2.4) (λ r er. p_turn (p_mark 61 no_place refl refl)
          (λ e ee. p_last (sigs_law h4.0 h4.2 g4.0 h4.4) (λ ss es. cc (en, er, es)))));
    } in
    subst (Bound BindsPort) (sym h4.5.1) here

bound_parameter_law : (at : Place) (ts : List SeenToken) (b : SeenBind) → AllSpelled (spellings ts)
    → (bound_parameter at).derives ts b → Bound BindsParameter b
unfolding bound_parameter
bound_parameter_law at ts b good h =
    let g1 = halves h.0 h.1 ts h.3 good in
    let h2 = h.5 in
    let g2 = halves h2.0 h2.1 h.1 h2.3 g1.1 in
    let here : Bound BindsParameter (ABoundParameter at h.2 h2.2) = record {
      middle = word h.2 ∷ mark 61 ∷ formula_tokens h2.2;
      tokens_are = refl;
      printed = λ p. p_turn (name_law h.0 h.2 g1.0 h.4)
          (λ n en. p_last (after_expr_law 61 refl refl h2.0 h2.2 g2.0 h2.4) (λ v ev. cc (en, ev)));
    } in
    subst (Bound BindsParameter) (sym h2.5.1) here

bound_attribute_law : (ts : List SeenToken) (b : SeenBind) → AllSpelled (spellings ts)
    → bound_attribute.derives ts b → Bound BindsAttribute b
unfolding bound_attribute
bound_attribute_law ts b good h =
    let g1 = halves h.0 h.1 ts h.3 good in
    let here : Bound BindsAttribute (ABoundAttribute h.2.name h.2.value) = record {
      middle = word h.2.name ∷ if_there (after 61 formula_tokens) h.2.value;
      tokens_are = refl;
      printed = λ p. p_last (attribute_said_law h.0 h.2 g1.0 h.4)
          (λ a ea. ap (λ (z : AttributeSaid). ABoundAttribute z.name z.value) ea);
    } in
    subst (Bound BindsAttribute) (sym h.5.1) here

bind_after_law : (at : Place) (w : BindKeyword) (ts : List SeenToken) (b : SeenBind)
    → AllSpelled (spellings ts) → (bind_after at w).derives ts b → Bound w b
bind_after_law at BindsPort ts b good h = bound_port_law at ts b good h
bind_after_law at BindsParameter ts b good h = bound_parameter_law at ts b good h
bind_after_law at BindsAttribute ts b good h = bound_attribute_law ts b good h

bind_law : Law bind placeless_binding binding_tokens
unfolding bind
bind_law ts b good h =
    let g1 = halves h.0 h.1 ts h.3 good in
    let h2 = h.5 in
    let g2 = halves h2.0 h2.1 h.1 h2.3 g1.1 in
    let r = bind_after_law h.2.at h.2.word h2.0 h2.2 g2.0 h2.4 in
    let again : Printed bind placeless_binding (binding_tokens h2.2) h2.2 =
    subst (λ (x : List Spelling). Printed bind placeless_binding x h2.2) (sym r.tokens_are)
    (p_turn (p_bind_begin h.2)
    (λ w ew. subst (λ u. Printed (ended_by 59 (bind_after w.at u)) placeless_binding
    (r.middle ++ (mark 59 ∷ [])) h2.2) (sym ew)
    (p_turn (r.printed w.at) (λ x ex. p_last (p_mark 59 no_place refl refl) (λ c ec. ex))))) in
    subst (λ z. Printed bind placeless_binding (binding_tokens z) z) (sym h2.5.5.1) again

-- a list in braces
pub braced_again : {A A' : Type 0} (S : Of A) (bare : A → A') (canon : A → List Spelling) → Law S bare canon
    → Law (a_braced S) (map bare) (λ xs. mark 123 ∷ (in_turn canon xs ++ (mark 125 ∷ [])))
braced_again S bare canon law ts xs good h =
    let g1 = halves h.0 h.1 ts h.3 good in
    let h2 = h.5 in
    let g2 = halves h2.0 h2.1 h.1 h2.3 g1.1 in
    let again = p_turn (p_mark 123 no_place refl refl)
    (λ o eo. p_turn (many_law S bare canon law h2.0 h2.2 g2.0 h2.4)
    (λ ys ey. p_last (p_mark 125 no_place refl refl) (λ c ec. ey))) in
    subst (λ z. Printed (a_braced S) (map bare) (mark 123 ∷ (in_turn canon z ++ (mark 125 ∷ []))) z)
    (sym h2.5.5.1) again

no_binds : Printed binds (map placeless_binding) (mark 59 ∷ []) []
unfolding binds
no_binds = p_left (p_last (p_mark 59 no_place refl refl) (λ e ee. refl))

some_binds : (bs : List SeenBind)
    → Printed binds (map placeless_binding) (mark 123 ∷ (in_turn binding_tokens bs ++ (mark 125 ∷ []))) bs
    → Printed binds (map placeless_binding) (braced binding_tokens bs) bs
some_binds [] p = no_binds
some_binds (b ∷ bs) p = p

binds_law : Law binds (map placeless_binding) (braced binding_tokens)
unfolding binds
binds_law ts bs good (inl h) =
    subst (λ z. Printed binds (map placeless_binding) (braced binding_tokens z) z) (sym h.5.1) no_binds
binds_law ts bs good (inr h) =
    some_binds bs (p_right (braced_again bind placeless_binding binding_tokens bind_law ts bs good h))

pub child_law : (ts : List SeenToken) (m : SeenWhat) → AllSpelled (spellings ts) → child.derives ts m
    → (n : List ℕ) × (bs : List SeenBind) × (m ≡ AChild n bs) × (Printed child placeless_meaning
    (word (codes "Of") ∷ word n ∷ braced binding_tokens bs) (AChild n bs))
unfolding child
child_law ts m good h =
    let g1 = halves h.0 h.1 ts h.3 good in
    let h2 = h.5 in
    let g2 = halves h2.0 h2.1 h.1 h2.3 g1.1 in
    let h3 = h2.5 in
    let g3 = halves h3.0 h3.1 h2.1 h3.3 g2.1 in (
      h2.2,
      h3.2,
      h3.5.1,
      p_turn (p_word (codes "Of") no_place refl refl) (λ o eo. p_turn (name_law h2.0 h2.2 g2.0 h2.4)
          (λ n en. p_last (binds_law h3.0 h3.2 g3.0 h3.4) (λ bs eb. cc (en, eb)))),
    )

-- ---- enumerations

enum_law : Law enum_word placeless_word enum_tokens
unfolding enum_word
enum_law ts w good h =
    let g1 = halves h.0 h.1 ts h.3 good in
    let h2 = h.5 in
    let g2 = halves h2.0 h2.1 h.1 h2.3 g1.1 in
    let h3 = h2.5 in
    let g3 = halves h3.0 h3.1 h2.1 h3.3 g2.1 in
    subst (λ z. Printed enum_word placeless_word (enum_tokens z) z) (sym h3.5.5.1)
    (p_turn (name_law h.0 h.2 g1.0 h.4)
    (λ n en. p_turn (p_mark 61 no_place refl refl) (λ e ee. p_turn (value_law h3.0 h3.2 g3.0 h3.4)
    (λ v ev. p_last (p_mark 59 no_place refl refl) (λ s es. cc (en, ev))))))

pub words_law : (ts : List SeenToken) (m : SeenWhat) → AllSpelled (spellings ts) → words.derives ts m
    → (ws : List SeenEnumWord) × (m ≡ SomeWords ws) × (Printed words placeless_meaning
    (mark 123 ∷ (in_turn enum_tokens ws ++ (mark 125 ∷ []))) (SomeWords ws))
unfolding words
words_law ts m good h =
    let g1 = halves h.0 h.1 ts h.3 good in (
      h.2,
      h.5.1,
      p_last (braced_again enum_word placeless_word enum_tokens enum_law h.0 h.2 g1.0 h.4)
          (λ ws ew. ap SomeWords ew),
    )

-- ---- interfaces

member_takes : (at : Place)
    → member_word_at (record { kind = Word; at = at; text = codes "Port" }) ≡ Some MemberPort
unfolding member_named
member_takes at = refl

member_law : (xs : List (List ℕ)) (ts : List SeenToken) (o : Option (List ℕ)) → AllSpelled (spellings ts)
    → member.derives ts o → (x : List ℕ) → o ≡ Some x
    → (zs : List (List ℕ)) → map itself zs ≡ map itself xs
    → Printed member (option_map itself) (member_tokens x) (Some x)
unfolding member
member_law xs ts o good h x is zs same =
    by_word h.2 (h.5.4) (sym h.5.5.5.1 ∙ is) (halves h.5.0 h.5.1 h.1 h.5.3 (halves h.0 h.1 ts h.3 good).1).0
  where
    by_word : (w : MemberKeyword) → (member_after w).derives h.5.0 h.5.2 → h.5.2 ≡ Some x
        → AllSpelled (spellings h.5.0) → Printed member (option_map itself) (member_tokens x) (Some x)
    by_word MemberAttribute d e g = absurd (let none : None ≡ Some x = sym d.5.1 ∙ e in cc)
    by_word MemberPort d e g =
        let some : Some d.2 ≡ Some x = sym d.5.1 ∙ e in
        let name_is : d.2 ≡ x = cc in
        let n = halves d.0 d.1 h.5.0 d.3 g in
        let kept : Printed (member_after MemberPort) (option_map itself) (name_tokens d.2) (Some d.2) =
        p_last (name_law d.0 d.2 n.0 d.4) (λ y ey. ap Some ey) in
        subst (λ y. Printed member (option_map itself) (member_tokens y) (Some y)) name_is
        (p_turn (p_token {bare = itself} (word (codes "Port")) MemberPort
        (λ at. MemberPort) refl member_takes (λ at. refl))
        (λ w ew. subst (λ u. Printed (ended_by 59 (member_after u)) (option_map itself)
        (word d.2 ∷ mark 59 ∷ []) (Some d.2)) (sym ew)
        (p_turn kept (λ a ea. p_last (p_mark 59 no_place refl refl) (λ c ec. ea)))))

pub interface_law : (ts : List SeenToken) (m : SeenWhat) → AllSpelled (spellings ts) → interface.derives ts m
    → (ns : List (List ℕ)) × (m ≡ AnInterface ns) × (Printed interface placeless_meaning
    (mark 123 ∷ (in_turn member_tokens ns ++ (mark 125 ∷ []))) (AnInterface ns))
unfolding interface
interface_law ts m good h =
    let g1 = halves h.0 h.1 ts h.3 good in
    let h2 = h.5 in
    let g2 = halves h2.0 h2.1 h.1 h2.3 g1.1 in
    let k = keeps (λ (ns : List (List ℕ)). member) with_member itself member_tokens (λ xs. refl)
    (λ xs x. refl) member_law h2.4.0 h2.0 [] h2.2 g2.0 h2.4.1 in (
      k.more,
      h2.5.5.1 ∙ ap AnInterface k.is,
      p_turn (p_mark 123 no_place refl refl)
          (λ o eo. p_turn (k.printed [] refl) (λ ns en. p_last (p_mark 125 no_place refl refl)
          (λ c ec. ap AnInterface (same_itself ns h2.2 en ∙ k.is)))),
    )

-- ---- access links

selected_law : Law selected itself (λ s. word s.cell ∷ mark 46 ∷ word s.interface ∷ mark 59 ∷ [])
unfolding selected
selected_law ts s good h =
    let g1 = halves h.0 h.1 ts h.3 good in
    let h2 = h.5 in
    let g2 = halves h2.0 h2.1 h.1 h2.3 g1.1 in
    let h3 = h2.5 in
    let g3 = halves h3.0 h3.1 h2.1 h3.3 g2.1 in
    subst (λ (z : Selected). Printed selected itself
    (word z.cell ∷ mark 46 ∷ word z.interface ∷ mark 59 ∷ []) z) (sym h3.5.5.1)
    (p_turn (name_law h.0 h.2 g1.0 h.4)
    (λ n en. p_turn (p_mark 46 no_place refl refl) (λ d ed. p_turn (name_law h3.0 h3.2 g3.0 h3.4)
    (λ i ei. p_last (p_mark 59 no_place refl refl) (λ s es. cc (en, ei))))))

selecting_law : Law selecting itself (λ s. word (codes "ScanInterface") ∷ mark 123 ∷ word s.cell ∷ mark 46
    ∷ word s.interface ∷ mark 59 ∷ mark 125 ∷ [])
unfolding selecting
selecting_law ts s good h =
    let g1 = halves h.0 h.1 ts h.3 good in
    let h2 = h.5 in
    let g2 = halves h2.0 h2.1 h.1 h2.3 g1.1 in
    let h3 = h2.5 in
    let g3 = halves h3.0 h3.1 h2.1 h3.3 g2.1 in
    subst (λ (z : Selected). Printed selecting itself (word (codes "ScanInterface") ∷ mark 123 ∷ word z.cell
    ∷ mark 46 ∷ word z.interface ∷ mark 59 ∷ mark 125 ∷ []) z) (sym h3.5.5.1)
    (p_turn (p_word (codes "ScanInterface") no_place refl refl)
    (λ w ew. p_turn (p_mark 123 no_place refl refl) (λ o eo. p_turn (selected_law h3.0 h3.2 g3.0 h3.4)
    (λ x ex. p_last (p_mark 125 no_place refl refl) (λ c ec. ex)))))

instruction_law : Law instruction itself instruction_tokens
unfolding instruction
instruction_law ts i good h =
    let g1 = halves h.0 h.1 ts h.3 good in
    let h2 = h.5 in
    let g2 = halves h2.0 h2.1 h.1 h2.3 g1.1 in
    let h3 = h2.5 in
    let g3 = halves h3.0 h3.1 h2.1 h3.3 g2.1 in
    subst (λ z. Printed instruction itself (instruction_tokens z) z) (sym h3.5.5.1)
    (p_turn (name_law h.0 h.2 g1.0 h.4)
    (λ n en. p_turn (p_mark 123 no_place refl refl) (λ o eo. p_turn (selecting_law h3.0 h3.2 g3.0 h3.4)
    (λ s es. p_last (p_mark 125 no_place refl refl) (λ c ec. cc (en, es))))))

entity_law : Law entity itself (λ n. word (codes "BSDLEntity") ∷ word n ∷ mark 59 ∷ [])
unfolding entity
entity_law ts n good h =
    let g1 = halves h.0 h.1 ts h.3 good in
    let h2 = h.5 in
    let g2 = halves h2.0 h2.1 h.1 h2.3 g1.1 in
    subst (λ z. Printed entity itself (word (codes "BSDLEntity") ∷ word z ∷ mark 59 ∷ []) z) (sym h2.5.5.1)
    (p_turn (p_word (codes "BSDLEntity") no_place refl refl) (λ w ew. p_turn (name_law h2.0 h2.2 g2.0 h2.4)
    (λ m em. p_last (p_mark 59 no_place refl refl) (λ s es. em))))

link_again : (k : LinkKind) → link_named (link_word k) ≡ Some k
unfolding link_named
link_again Std2001 = refl
link_again Std2013 = refl

link_spelled : (k : LinkKind) → IsSpelled (word (link_word k))
link_spelled Std2001 = refl
link_spelled Std2013 = refl

p_link_kind : (k : LinkKind) → Printed (one link_kind_at) itself (word (link_word k) ∷ []) k
p_link_kind k = p_token (word (link_word k)) k (λ at. k) (link_spelled k) (λ at. link_again k) (λ at. refl)

pub link_law : (ts : List SeenToken) (m : SeenWhat) → AllSpelled (spellings ts) → link.derives ts m
    → (k : LinkKind) × (e : List ℕ) × (is : List SeenLinkInstr) × (m ≡ ALink k e is)
    × (Printed link placeless_meaning (word (codes "Of") ∷ word (link_word k) ∷ mark 123 ∷ word (codes
    "BSDLEntity") ∷ word e ∷ mark 59 ∷ (in_turn instruction_tokens is ++ (mark 125 ∷ []))) (ALink k e is))
unfolding link
link_law ts m good h =
    let g1 = halves h.0 h.1 ts h.3 good in
    let h2 = h.5 in
    let g2 = halves h2.0 h2.1 h.1 h2.3 g1.1 in
    let h3 = h2.5 in
    let g3 = halves h3.0 h3.1 h2.1 h3.3 g2.1 in
    let h4 = h3.5 in
    let g4 = halves h4.0 h4.1 h3.1 h4.3 g3.1 in
    let h5 = h4.5 in
    let g5 = halves h5.0 h5.1 h4.1 h5.3 g4.1 in (
      h2.2,
      h4.2,
      h5.2,
      h5.5.5.1,
      p_turn (p_word (codes "Of") no_place refl refl)
          (λ o eo. p_turn (p_link_kind h2.2)
          (λ k ek. p_turn (p_mark 123 no_place refl refl) (λ b eb. p_turn (entity_law h4.0 h4.2 g4.0 h4.4)
          (λ e ee. p_turn (many_law instruction itself instruction_tokens instruction_law h5.0 h5.2 g5.0 h5.4)
          (λ is ei. p_last (p_mark 125 no_place refl refl) (λ c ec.
          let same : is ≡ h5.2 = same_itself is h5.2 ei in cc (ek, ee, same))))))),
    )
