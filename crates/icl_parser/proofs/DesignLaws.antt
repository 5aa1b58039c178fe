-- The readers of enumerations, interfaces, access links, items and modules read their symbols.
use Rattle.std.proofs.Common.{◌≡◌, ℕ, true, false, List, [], ◌∷◌, Option, Some, None, refl, is_some}
use Rattle.std.specs.Prelude.{codes}
use Rattle.ij_text.specs.Symbol.{one, give, ◌>>=◌, repeat, many, appended}
use Rattle.ij_text.specs.Reading.{read_in_turn}
use Rattle.ij_text.proofs.Combinators.{Reads, one_reads, wider_reads}
use Rattle.ij_text.proofs.Laws.{repeat_reads}
use Rattle.icl_lexer.specs.declared.token.TokenKind.{TokenKind}
use Rattle.icl_lexer.specs.declared.token.TokenKind.TheVariants.{Word, Decimal, Sized, Quoted, Param, Mark}
use Rattle.ij_text.specs.declared.Place.{Place}
use Rattle.icl_lexer.specs.declared.words.Limit.{Limit}
use Rattle.icl_lexer.specs.declared.words.ItemKeyword.{ItemKeyword}
use Rattle.icl_lexer.specs.declared.words.ItemKeyword.TheVariants.{OfPort, OfRegister, OfMux, OfChild}
use Rattle.icl_lexer.specs.declared.words.ItemKeyword.TheVariants.{OfAlias, OfEnum, OfParameter, OfAttribute}
use Rattle.icl_lexer.specs.declared.words.ItemKeyword.TheVariants.{OfInterface, OfLink}
use Rattle.icl_lexer.specs.declared.words.MemberKeyword.{MemberKeyword}
use Rattle.icl_lexer.specs.declared.words.MemberKeyword.TheVariants.{MemberPort, MemberAttribute}
use Rattle.icl_lexer.specs.Seen.{SeenToken, if_word, if_mark, is_mark}
use Rattle.icl_lexer.specs.Values.{SeenLinkInstr, SomeWords, AnInterface, ALink, SeenModule}
use Rattle.icl_lexer.specs.Grammar.{mark, name, value, ended_by}
use Rattle.icl_lexer.specs.Modules.{braced, enum_word, words, member_word_at, member_after, member}
use Rattle.icl_lexer.specs.Modules.{with_member, interface, selected, selecting, instruction, link_kind_at}
use Rattle.icl_lexer.specs.Modules.{entity, link, item_begun, item_begin_at, meaning_after, item, module_of}
use Rattle.icl_lexer.specs.Modules.{design}
use Rattle.icl_expressions.specs.Reading.{Shrinks, gives, any, is_name, no_close, read_mark, read_ended}
use Rattle.icl_parser.specs.Reading.{read_enum_word, read_many_words, read_enum, read_member_word}
use Rattle.icl_parser.specs.Reading.{read_member_after, read_member, read_members, read_interface}
use Rattle.icl_parser.specs.Reading.{read_selected, read_selecting, read_instruction, read_instructions}
use Rattle.icl_parser.specs.Reading.{read_entity, read_link_kind, read_link, read_item_begin}
use Rattle.icl_parser.specs.Reading.{read_meaning_after, read_item, read_items, read_module, read_design}
use Rattle.icl_expressions.proofs.Tokens.{nothing, marks_apart, no_mark_closes}
use Rattle.icl_expressions.proofs.Symbols.{then_reads, mark_reads, made_reads, sign_marks}
use Rattle.icl_expressions.proofs.Steps.{reads_shrink}
use Rattle.icl_expressions.proofs.SignalLaws.{value_reads, name_reads}
use Rattle.icl_parser.proofs.BodyLaws.{attribute_said_reads}
use Rattle.icl_parser.proofs.ItemLaws.{word_reads, braced_reads, port_reads, register_reads, alias_reads}
use Rattle.icl_parser.proofs.ItemLaws.{parameter_reads, attribute_reads, mux_reads, child_reads}
use Rattle.icl_expressions.proofs.Lists.{parts_then_reads, ended_reads}

name_closes : (t : SeenToken) → is_name t ≡ true → no_close t ≡ true
name_closes t h = no_mark_closes t (by_kind t.kind h)
  where
    by_kind : (k : TokenKind) → if_word k true false ≡ true → if_mark k false true ≡ true
    by_kind Word h = refl
    by_kind Decimal h = absurd cc
    by_kind Sized h = absurd cc
    by_kind Quoted h = absurd cc
    by_kind Param h = absurd cc
    by_kind Mark h = absurd cc

-- ---- enumerations

pub enum_word_reads : Reads enum_word no_close nothing false read_enum_word
unfolding enum_word read_enum_word
enum_word_reads =
    wider_reads
    (then_reads (λ n. mark 61 >>= λ e. value >>= λ v. mark 59 >>= λ s. give (record { name = n; value = v }))
    (is_mark 61) nothing false _ name_reads
    (λ n. then_reads (λ e. value >>= λ v. mark 59 >>= λ s. give (record { name = n; value = v }))
    no_close nothing false _ (mark_reads 61)
    (λ e. then_reads (λ v. mark 59 >>= λ s. give (record { name = n; value = v })) (is_mark 59) nothing false
    _ value_reads (λ v. made_reads (λ s. record { name = n; value = v }) (mark_reads 59))
    (λ t h. marks_apart 59 (44 ∷ sign_marks) refl t h))
    (λ t h. refl))
    (λ t h. refl))
    no_close nothing name_closes (λ t h. refl)

pub enum_word_shrinks : Shrinks read_enum_word
enum_word_shrinks = reads_shrink enum_word_reads

words_reads : Reads words any nothing false read_enum
unfolding words read_enum read_many_words
words_reads = wider_reads (made_reads (λ ws. SomeWords ws)
    (braced_reads enum_word read_enum_word enum_word_reads)) any nothing (λ t h. refl) (λ t h. refl)

-- ---- interfaces

member_word_reads : Reads {W = Limit} (one member_word_at) no_close nothing false read_member_word
member_word_reads = wider_reads (one_reads Limit member_word_at) no_close nothing
    (λ t h. no_mark_closes t (by_kind t.kind _ h)) (λ t h. refl)
  where
    by_kind : (k : TokenKind) (o : Option MemberKeyword)
        → is_some (if_word k o None) ≡ true → if_mark k false true ≡ true
    by_kind Word o h = refl
    by_kind Decimal o h = absurd cc
    by_kind Sized o h = absurd cc
    by_kind Quoted o h = absurd cc
    by_kind Param o h = absurd cc
    by_kind Mark o h = absurd cc

member_ended_reads : (w : MemberKeyword)
    → Reads (ended_by 59 (member_after w)) any nothing false (read_ended 59 (read_member_after w))
member_ended_reads MemberPort = ended_reads 59 (made_reads (λ n. Some n) name_reads) (λ t h. refl)
member_ended_reads MemberAttribute = ended_reads 59 (made_reads (λ a. None) attribute_said_reads)
    (λ t h. marks_apart 59 (61 ∷ sign_marks) refl t h)

pub member_reads : Reads member no_close nothing false read_member
unfolding member read_member
member_reads = then_reads (λ w. ended_by 59 (member_after w)) any nothing false
    (λ w. read_ended 59 (read_member_after w)) member_word_reads member_ended_reads (λ t h. refl)

interface_reads : Reads interface any nothing false read_interface
unfolding interface read_interface read_members
interface_reads =
    wider_reads
    (then_reads (λ o. repeat (λ (ns : List (List ℕ)). member) with_member [] >>= λ ps. mark 125
    >>= λ c. give (AnInterface ps)) any nothing false _ (mark_reads 123)
    (λ o. parts_then_reads (λ (ns : List (List ℕ)). member) with_member (λ ns. read_member)
    (λ ns. member_reads) [] (λ ps. mark 125 >>= λ c. give (AnInterface ps))
    (λ ps. read_in_turn (read_mark 125) (λ c. gives (AnInterface ps)))
    (λ ps. made_reads (λ c. AnInterface ps) (mark_reads 125)))
    (λ t h. refl))
    any nothing (λ t h. refl) (λ t h. refl)

-- ---- access links

selected_reads : Reads selected is_name nothing false read_selected
unfolding selected read_selected
selected_reads =
    then_reads (λ cell. mark 46 >>= λ d. name >>= λ i. mark 59
    >>= λ s. give (record { cell = cell; interface = i })) (is_mark 46) nothing false _ name_reads
    (λ cell. then_reads (λ d. name >>= λ i. mark 59 >>= λ s. give (record { cell = cell; interface = i }))
    is_name nothing false _ (mark_reads 46)
    (λ d. then_reads (λ i. mark 59 >>= λ s. give (record { cell = cell; interface = i }))
    (is_mark 59) nothing false _ name_reads
    (λ i. made_reads (λ s. record { cell = cell; interface = i }) (mark_reads 59)) (λ t h. refl))
    (λ t h. refl))
    (λ t h. refl)

selecting_reads : Reads selecting any nothing false read_selecting
unfolding selecting read_selecting
selecting_reads =
    then_reads (λ w. mark 123 >>= λ o. selected >>= λ s. mark 125 >>= λ c. give s)
    (is_mark 123) nothing false _ (word_reads (codes "ScanInterface"))
    (λ w. then_reads (λ o. selected >>= λ s. mark 125 >>= λ c. give s)
    is_name nothing false _ (mark_reads 123)
    (λ o. then_reads (λ s. mark 125 >>= λ c. give s) (is_mark 125) nothing false _ selected_reads
    (λ s. made_reads (λ c. s) (mark_reads 125)) (λ t h. refl))
    (λ t h. refl))
    (λ t h. refl)

pub instruction_reads : Reads instruction no_close nothing false read_instruction
unfolding instruction read_instruction
instruction_reads =
    wider_reads
    (then_reads (λ n. mark 123 >>= λ o. selecting >>= λ s. mark 125 >>= λ c. give (record
    { name = n; cell = s.cell; interface = s.interface })) (is_mark 123) nothing false _ name_reads
    (λ n. then_reads (λ o. selecting >>= λ s. mark 125 >>= λ c. give
    (record { name = n; cell = s.cell; interface = s.interface })) any nothing false _ (mark_reads 123)
    (λ o. then_reads (λ s. mark 125 >>= λ c. give (record
    { name = n; cell = s.cell; interface = s.interface })) (is_mark 125) nothing false _ selecting_reads
    (λ s. made_reads (λ c. record { name = n; cell = s.cell; interface = s.interface }) (mark_reads 125))
    (λ t h. refl))
    (λ t h. refl))
    (λ t h. refl))
    no_close nothing name_closes (λ t h. refl)

pub instruction_shrinks : Shrinks read_instruction
instruction_shrinks = reads_shrink instruction_reads

entity_reads : Reads entity any nothing false read_entity
unfolding entity read_entity
entity_reads =
    then_reads (λ w. name >>= λ n. mark 59 >>= λ s. give n) is_name nothing false _
    (word_reads (codes "BSDLEntity"))
    (λ w. then_reads (λ n. mark 59 >>= λ s. give n) (is_mark 59) nothing false _ name_reads
    (λ n. made_reads (λ s. n) (mark_reads 59)) (λ t h. refl))
    (λ t h. refl)

link_kind_reads : Reads {W = Limit} (one link_kind_at) any nothing false read_link_kind
link_kind_reads = wider_reads (one_reads Limit link_kind_at) any nothing (λ t h. refl) (λ t h. refl)

link_reads : Reads link any nothing false read_link
unfolding link read_link read_instructions
link_reads =
    then_reads (λ of. one link_kind_at >>= λ k. mark 123 >>= λ o. entity >>= λ e. many instruction
    >>= λ is. mark 125 >>= λ c. give (ALink k e is)) any nothing false _ (word_reads (codes "Of"))
    (λ of. then_reads (λ k. mark 123 >>= λ o. entity >>= λ e. many instruction >>= λ is. mark 125
    >>= λ c. give (ALink k e is)) (is_mark 123) nothing false _ link_kind_reads
    (λ k. then_reads (λ o. entity >>= λ e. many instruction >>= λ is. mark 125 >>= λ c. give (ALink k e is))
    any nothing false _ (mark_reads 123)
    (λ o. then_reads (λ e. many instruction >>= λ is. mark 125 >>= λ c. give (ALink k e is))
    any nothing false _ entity_reads
    (λ e. parts_then_reads (λ (is : List SeenLinkInstr). instruction) appended (λ is. read_instruction)
    (λ is. instruction_reads) [] (λ is. mark 125 >>= λ c. give (ALink k e is)) (λ is. read_in_turn
    (read_mark 125) (λ c. gives (ALink k e is))) (λ is. made_reads (λ c. ALink k e is) (mark_reads 125)))
    (λ t h. refl))
    (λ t h. refl))
    (λ t h. refl))
    (λ t h. refl)

-- ---- items, modules and designs

item_begin_reads : Reads {W = Limit} (one item_begin_at) no_close nothing false read_item_begin
item_begin_reads = wider_reads (one_reads Limit item_begin_at) no_close nothing
    (λ t h. no_mark_closes t (by_kind t.kind t.at _ h)) (λ t h. refl)
  where
    by_kind : (k : TokenKind) (at : Place) (o : Option ItemKeyword)
        → is_some (item_begun at (if_word k o None)) ≡ true → if_mark k false true ≡ true
    by_kind Word at o h = refl
    by_kind Decimal at o h = absurd cc
    by_kind Sized at o h = absurd cc
    by_kind Quoted at o h = absurd cc
    by_kind Param at o h = absurd cc
    by_kind Mark at o h = absurd cc

meaning_reads : (w : ItemKeyword) → Reads (meaning_after w) any nothing false (read_meaning_after w)
unfolding read_meaning_after
meaning_reads (OfPort kind) = port_reads kind
meaning_reads OfRegister = register_reads
meaning_reads OfMux = mux_reads
meaning_reads OfChild = child_reads
meaning_reads OfAlias = alias_reads
meaning_reads OfEnum = words_reads
meaning_reads (OfParameter local) = parameter_reads local
meaning_reads OfAttribute = attribute_reads
meaning_reads OfInterface = interface_reads
meaning_reads OfLink = link_reads

pub item_reads : Reads item no_close nothing false read_item
unfolding item read_item
item_reads =
    then_reads (λ b. name >>= λ n. meaning_after b.word
    >>= λ m. give (record { at = b.at; name = n; what = m })) is_name nothing false _ item_begin_reads
    (λ b. then_reads (λ n. meaning_after b.word >>= λ m. give (record { at = b.at; name = n; what = m }))
    any nothing false _ name_reads
    (λ n. made_reads (λ m. record { at = b.at; name = n; what = m }) (meaning_reads b.word)) (λ t h. refl))
    (λ t h. refl)

pub item_shrinks : Shrinks read_item
item_shrinks = reads_shrink item_reads

pub module_reads : Reads module_of any nothing false read_module
unfolding module_of read_module read_items
module_reads =
    then_reads (λ at. name >>= λ n. braced item >>= λ items. give
    (record { name = n; at = at; items = items })) is_name nothing false _ (word_reads (codes "Module"))
    (λ at. then_reads (λ n. braced item >>= λ items. give (record { name = n; at = at; items = items }))
    (is_mark 123) nothing false _ name_reads
    (λ n. made_reads (λ items. record { name = n; at = at; items = items })
    (braced_reads item read_item item_reads)) (λ t h. refl))
    (λ t h. refl)

pub design_reads : Reads design any any true read_design
unfolding design read_design
design_reads = wider_reads (repeat_reads (λ (bs : List SeenModule). module_of) appended any nothing
    (λ bs. read_module) (λ bs. module_reads) (λ t h. refl) []) any any (λ t h. h) (λ t h. absurd cc)
