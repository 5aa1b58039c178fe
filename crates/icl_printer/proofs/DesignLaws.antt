-- Items, modules and designs that are printed, derived again.
use Rattle.std.proofs.Common.{◌≡◌, ℕ, true, false, List, [], ◌∷◌, Some, refl, sym, ap, subst}
use Rattle.std.specs.Prelude.{codes}
use Rattle.ij_text.specs.Symbol.{one, ◌>>=◌, give}
use Rattle.icl_lexer.specs.declared.tree.PortKind.TheVariants.{ScanInPort, ScanOutPort, DataInPort}
use Rattle.icl_lexer.specs.declared.tree.PortKind.TheVariants.{DataOutPort, SelectPort, CaptureEnPort}
use Rattle.icl_lexer.specs.declared.tree.PortKind.TheVariants.{ShiftEnPort, UpdateEnPort, ResetPort, TCKPort}
use Rattle.icl_lexer.specs.declared.tree.PortKind.TheVariants.{TMSPort, TRSTPort, ClockPort, ToSelectPort}
use Rattle.icl_lexer.specs.declared.tree.PortKind.TheVariants.{ToCaptureEnPort, ToShiftEnPort, ToUpdateEnPort}
use Rattle.icl_lexer.specs.declared.tree.PortKind.TheVariants.{ToResetPort, ToTCKPort, ToTMSPort, ToTRSTPort}
use Rattle.icl_lexer.specs.declared.tree.PortKind.TheVariants.{ToClockPort, ToIRSelectPort}
use Rattle.icl_lexer.specs.declared.words.ItemKeyword.{ItemKeyword}
use Rattle.icl_lexer.specs.declared.words.ItemKeyword.TheVariants.{OfPort, OfRegister, OfMux, OfChild}
use Rattle.icl_lexer.specs.declared.words.ItemKeyword.TheVariants.{OfAlias, OfEnum, OfParameter, OfAttribute}
use Rattle.icl_lexer.specs.declared.words.ItemKeyword.TheVariants.{OfInterface, OfLink}
use Rattle.icl_lexer.specs.Seen.{SeenToken}
use Rattle.icl_lexer.specs.Words.{port_word, port_named, data_port_named, control_port_named, to_port_named}
use Rattle.icl_lexer.specs.Words.{other_item_named, item_named}
use Rattle.icl_lexer.specs.Values.{SeenWhat, APort, ARegister, AMux, AChild, AnAlias, SomeWords, AParameter}
use Rattle.icl_lexer.specs.Values.{AnInterface, ALink, AnAttribute, SeenItem, SeenModule}
use Rattle.icl_lexer.specs.Modules.{ItemBegin, item_begun, item_begin_at, meaning_after, item, module_of}
use Rattle.icl_lexer.specs.Modules.{design}
use Rattle.icl_printer.specs.Layout.{Spelling, word}
use Rattle.icl_printer.specs.Canonical.{parameter_word, item_tokens, thing_tokens, module_tokens, tokens_of}
use Rattle.icl_printer.specs.Again.{spellings, IsSpelled, AllSpelled, placeless_meaning, placeless_thing}
use Rattle.icl_printer.specs.Again.{placeless_block, placeless_design, PrintedTokensDeriveIt}
use Rattle.icl_printer.proofs.Printed.{Printed, Law, p_turn, p_last, p_word, p_token, name_law, halves}
use Rattle.icl_printer.proofs.Loops.{many_law}
use Rattle.icl_printer.proofs.ItemLaws.{port_law, register_law, alias_law, parameter_law, attribute_law}
use Rattle.icl_printer.proofs.ItemLaws.{mux_law}
use Rattle.icl_printer.proofs.InstanceLaws.{braced_again, child_law, words_law, interface_law, link_law}
use Rattle.ij_text.specs.Places.{no_place}

-- ---- the words of items

abbrev item_word : ItemKeyword → List ℕ
item_word (OfPort k) = port_word k
item_word OfRegister = codes "ScanRegister"
item_word OfMux = codes "ScanMux"
item_word OfChild = codes "Instance"
item_word OfAlias = codes "Alias"
item_word OfEnum = codes "Enum"
item_word (OfParameter local) = parameter_word local
item_word OfAttribute = codes "Attribute"
item_word OfInterface = codes "ScanInterface"
item_word OfLink = codes "AccessLink"

item_again : (w : ItemKeyword) → item_named (item_word w) ≡ Some w
unfolding item_named port_named data_port_named control_port_named to_port_named other_item_named
item_again (OfPort ScanInPort) = refl
item_again (OfPort ScanOutPort) = refl
item_again (OfPort DataInPort) = refl
item_again (OfPort DataOutPort) = refl
item_again (OfPort SelectPort) = refl
item_again (OfPort CaptureEnPort) = refl
item_again (OfPort ShiftEnPort) = refl
item_again (OfPort UpdateEnPort) = refl
item_again (OfPort ResetPort) = refl
item_again (OfPort TCKPort) = refl
item_again (OfPort TMSPort) = refl
item_again (OfPort TRSTPort) = refl
item_again (OfPort ClockPort) = refl
item_again (OfPort ToSelectPort) = refl
item_again (OfPort ToCaptureEnPort) = refl
item_again (OfPort ToShiftEnPort) = refl
item_again (OfPort ToUpdateEnPort) = refl
item_again (OfPort ToResetPort) = refl
item_again (OfPort ToTCKPort) = refl
item_again (OfPort ToTMSPort) = refl
item_again (OfPort ToTRSTPort) = refl
item_again (OfPort ToClockPort) = refl
item_again (OfPort ToIRSelectPort) = refl
item_again OfRegister = refl
item_again OfMux = refl
item_again OfChild = refl
item_again OfAlias = refl
item_again OfEnum = refl
item_again (OfParameter true) = refl
item_again (OfParameter false) = refl
item_again OfAttribute = refl
item_again OfInterface = refl
item_again OfLink = refl

item_spelled : (w : ItemKeyword) → IsSpelled (word (item_word w))
item_spelled (OfPort ScanInPort) = refl
item_spelled (OfPort ScanOutPort) = refl
item_spelled (OfPort DataInPort) = refl
item_spelled (OfPort DataOutPort) = refl
item_spelled (OfPort SelectPort) = refl
item_spelled (OfPort CaptureEnPort) = refl
item_spelled (OfPort ShiftEnPort) = refl
item_spelled (OfPort UpdateEnPort) = refl
item_spelled (OfPort ResetPort) = refl
item_spelled (OfPort TCKPort) = refl
item_spelled (OfPort TMSPort) = refl
item_spelled (OfPort TRSTPort) = refl
item_spelled (OfPort ClockPort) = refl
item_spelled (OfPort ToSelectPort) = refl
item_spelled (OfPort ToCaptureEnPort) = refl
item_spelled (OfPort ToShiftEnPort) = refl
item_spelled (OfPort ToUpdateEnPort) = refl
item_spelled (OfPort ToResetPort) = refl
item_spelled (OfPort ToTCKPort) = refl
item_spelled (OfPort ToTMSPort) = refl
item_spelled (OfPort ToTRSTPort) = refl
item_spelled (OfPort ToClockPort) = refl
item_spelled (OfPort ToIRSelectPort) = refl
item_spelled OfRegister = refl
item_spelled OfMux = refl
item_spelled OfChild = refl
item_spelled OfAlias = refl
item_spelled OfEnum = refl
item_spelled (OfParameter true) = refl
item_spelled (OfParameter false) = refl
item_spelled OfAttribute = refl
item_spelled OfInterface = refl
item_spelled OfLink = refl

p_item_begin : (b : ItemBegin) → Printed (one item_begin_at) (λ z. z.word) (word (item_word b.word) ∷ []) b
p_item_begin b = p_token (word (item_word b.word)) b (λ at. record { at = at; word = b.word })
    (item_spelled b.word) (λ at. ap (item_begun at) (item_again b.word)) (λ at. refl)

-- ---- items

-- what comes after the word and the name of an item
record Meant (w : ItemKeyword) (m : SeenWhat) : Type 0 where
  middle : List Spelling
  tokens_are : (n : List ℕ) → item_tokens n m ≡ word (item_word w) ∷ word n ∷ middle
  printed : Printed (meaning_after w) placeless_meaning middle m

meaning_law : (w : ItemKeyword) (ts : List SeenToken) (m : SeenWhat) → AllSpelled (spellings ts)
    → (meaning_after w).derives ts m → Meant w m
meaning_law (OfPort k) ts m good h =
    let r = port_law k ts m good h in
    subst (Meant (OfPort k)) (sym r.2) (let z : Meant (OfPort k) (APort k r.0 r.1) =
    record { middle = _; tokens_are = λ n. refl; printed = r.3 } in z)
meaning_law OfRegister ts m good h =
    let r = register_law ts m good h in
    subst (Meant OfRegister) (sym r.2) (let z : Meant OfRegister (ARegister r.0 r.1) =
    record { middle = _; tokens_are = λ n. refl; printed = r.3 } in z)
meaning_law OfMux ts m good h =
    let r = mux_law ts m good h in
    subst (Meant OfMux) (sym r.2) (let z : Meant OfMux (AMux r.0 r.1) =
    record { middle = _; tokens_are = λ n. refl; printed = r.3 } in z)
meaning_law OfChild ts m good h =
    let r = child_law ts m good h in
    subst (Meant OfChild) (sym r.2) (let z : Meant OfChild (AChild r.0 r.1) =
    record { middle = _; tokens_are = λ n. refl; printed = r.3 } in z)
meaning_law OfAlias ts m good h =
    let r = alias_law ts m good h in
    subst (Meant OfAlias) (sym r.3) (let z : Meant OfAlias (AnAlias r.0 r.1 r.2) =
    record { middle = _; tokens_are = λ n. refl; printed = r.4 } in z)
meaning_law OfEnum ts m good h =
    let r = words_law ts m good h in
    subst (Meant OfEnum) (sym r.1) (let z : Meant OfEnum (SomeWords r.0) =
    record { middle = _; tokens_are = λ n. refl; printed = r.2 } in z)
meaning_law (OfParameter local) ts m good h =
    let r = parameter_law local ts m good h in
    subst (Meant (OfParameter local)) (sym r.1) (let z : Meant (OfParameter local) (AParameter local r.0) =
    record { middle = _; tokens_are = λ n. refl; printed = r.2 } in z)
meaning_law OfAttribute ts m good h =
    let r = attribute_law ts m good h in
    subst (Meant OfAttribute) (sym r.1) (let z : Meant OfAttribute (AnAttribute r.0) =
    record { middle = _; tokens_are = λ n. refl; printed = r.2 } in z)
meaning_law OfInterface ts m good h =
    let r = interface_law ts m good h in
    subst (Meant OfInterface) (sym r.1) (let z : Meant OfInterface (AnInterface r.0) =
    record { middle = _; tokens_are = λ n. refl; printed = r.2 } in z)
meaning_law OfLink ts m good h =
    let r = link_law ts m good h in
    subst (Meant OfLink) (sym r.3) (let z : Meant OfLink (ALink r.0 r.1 r.2) =
    record { middle = _; tokens_are = λ n. refl; printed = r.4 } in z)

item_law : Law item placeless_thing thing_tokens
unfolding item
item_law ts t good h =
    let g1 = halves h.0 h.1 ts h.3 good in
    let h2 = h.5 in
    let g2 = halves h2.0 h2.1 h.1 h2.3 g1.1 in
    let h3 = h2.5 in
    let g3 = halves h3.0 h3.1 h2.1 h3.3 g2.1 in
    let r = meaning_law h.2.word h3.0 h3.2 g3.0 h3.4 in
    let x : SeenItem = record { at = h.2.at; name = h2.2; what = h3.2 } in
    let again : Printed item placeless_thing (thing_tokens x) x =
    subst (λ (y : List Spelling). Printed item placeless_thing y x) (sym (r.tokens_are h2.2))
    (p_turn (p_item_begin h.2)
    (λ b eb. p_turn (name_law h2.0 h2.2 g2.0 h2.4)
    (λ n en. subst (λ u. Printed (meaning_after u >>= λ m. give (record { at = b.at; name = n; what = m }))
    placeless_thing r.middle x) (sym eb)
    (p_last r.printed (λ m em. cc (en, em)))))) in
    subst (λ z. Printed item placeless_thing (thing_tokens z) z) (sym h3.5.1) again

-- ---- modules and designs

module_law : Law module_of placeless_block module_tokens
unfolding module_of
module_law ts m good h =
    let g1 = halves h.0 h.1 ts h.3 good in
    let h2 = h.5 in
    let g2 = halves h2.0 h2.1 h.1 h2.3 g1.1 in
    let h3 = h2.5 in
    let g3 = halves h3.0 h3.1 h2.1 h3.3 g2.1 in
    subst (λ z. Printed module_of placeless_block (module_tokens z) z) (sym h3.5.1)
    (p_turn (p_word (codes "Module") no_place refl refl)
    (λ a ea. p_turn (name_law h2.0 h2.2 g2.0 h2.4) (λ n en. p_last (braced_again item placeless_thing
    thing_tokens item_law h3.0 h3.2 g3.0 h3.4) (λ is ei. cc (en, ei)))))

pub design_law : Law design placeless_design tokens_of
unfolding design tokens_of placeless_design
design_law = many_law module_of placeless_block module_tokens module_law

pub printed_tokens_derive_it : PrintedTokensDeriveIt
printed_tokens_derive_it read printed d good h spelled = (design_law read d good h).again printed spelled

pub printed_tokens_are_pieces : (read : List SeenToken) (d : List SeenModule) → AllSpelled (spellings read)
    → design.derives read d → AllSpelled (tokens_of d)
printed_tokens_are_pieces read d good h = (design_law read d good h).good
