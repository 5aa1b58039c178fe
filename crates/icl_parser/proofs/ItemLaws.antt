-- The readers of ports, registers, multiplexers and instances read their symbols.
use Rattle.std.proofs.Common.{◌≡◌, ℕ, Bool, true, false, List, [], ◌∷◌, Option, None, refl, is_some}
use Rattle.std.specs.Prelude.{◌||◌, codes}
use Rattle.ij_text.specs.Symbol.{one, give, ◌>>=◌, repeat, many, appended, maybe}
use Rattle.ij_text.specs.Reading.{read_in_turn}
use Rattle.ij_text.proofs.Combinators.{Reads, one_reads, give_reads, turn_reads, either_reads, wider_reads}
use Rattle.icl_lexer.specs.declared.token.TokenKind.{TokenKind}
use Rattle.icl_lexer.specs.declared.token.TokenKind.TheVariants.{Word, Decimal, Sized, Quoted, Param, Mark}
use Rattle.ij_text.specs.declared.Place.{Place}
use Rattle.icl_lexer.specs.declared.tree.PortKind.{PortKind}
use Rattle.icl_lexer.specs.declared.words.Limit.{Limit}
use Rattle.icl_lexer.specs.declared.words.BindKeyword.{BindKeyword}
use Rattle.icl_lexer.specs.declared.words.BindKeyword.TheVariants.{BindsPort, BindsParameter, BindsAttribute}
use Rattle.icl_lexer.specs.declared.words.BodyKind.{BodyKind}
use Rattle.icl_lexer.specs.declared.words.BodyKind.TheVariants.{ScanIn, ScanOut, DataIn, DataOut, Control}
use Rattle.icl_lexer.specs.declared.words.BodyKind.TheVariants.{Register, Alias}
use Rattle.icl_lexer.specs.Seen.{SeenToken, if_word, if_mark, is_mark, word_at}
use Rattle.icl_lexer.specs.Values.{SeenRow, ABoundPort, ABoundParameter, ABoundAttribute, APort, ARegister}
use Rattle.icl_lexer.specs.Values.{AMux, AChild, AnAlias, AParameter, AnAttribute}
use Rattle.icl_lexer.specs.Grammar.{Of, mark, word, name, value, expr_after, ended_by, parted, range, sig}
use Rattle.icl_lexer.specs.Grammar.{sigs, body}
use Rattle.icl_lexer.specs.Modules.{owner_of, port_range, port, register, alias, parameter, attribute, row}
use Rattle.icl_lexer.specs.Modules.{rows, mux, begun_by, bind_begin_at, bound_port, bound_parameter}
use Rattle.icl_lexer.specs.Modules.{bound_attribute, bind_after, bind, braced, binds, child}
use Rattle.icl_expressions.specs.Reading.{Reading, Shrinks, gives, any, is_name, no_close, read_mark}
use Rattle.icl_expressions.specs.Reading.{read_word, read_maybe, read_ended, read_many, read_braced}
use Rattle.icl_expressions.specs.Reading.{read_expr_after, read_range}
use Rattle.icl_parser.specs.Reading.{read_port_range, read_port, read_register, read_alias, read_parameter}
use Rattle.icl_parser.specs.Reading.{read_attribute, read_values, read_row, read_rows, read_mux}
use Rattle.icl_parser.specs.Reading.{read_bind_begin, read_bound_port, read_bound_parameter}
use Rattle.icl_parser.specs.Reading.{read_bound_attribute, read_bind_after, read_bind, read_many_binds}
use Rattle.icl_parser.specs.Reading.{read_braced_binds, read_binds, read_child}
use Rattle.icl_expressions.proofs.Tokens.{nothing, marks, marks_apart, mark_apart, no_mark_closes}
use Rattle.icl_expressions.proofs.Symbols.{then_reads, mark_reads, made_reads, sign_marks}
use Rattle.icl_expressions.proofs.Steps.{reads_shrink}
use Rattle.icl_expressions.proofs.SignalLaws.{value_reads, expr_after_reads, maybe_reads, maybe_range_reads}
use Rattle.icl_expressions.proofs.SignalLaws.{name_reads, path_marks, sig_reads, sigs_marks, sigs_reads}
use Rattle.icl_parser.proofs.BodyLaws.{attribute_said_reads, body_marks, body_reads}
use Rattle.icl_expressions.proofs.Lists.{parted_reads, parts_reads, parts_then_reads, ended_reads}
use Rattle.std.proofs.lemmas.Bool.{or_from}
use Rattle.ij_bits.proofs.Tests.{or_left_false}

pub word_reads : (w : List ℕ) → Reads (word w) any nothing false (read_word w)
word_reads w = wider_reads (one_reads Limit (word_at w)) any nothing (λ t h. refl) (λ t h. refl)

-- ---- ports, registers, aliases, parameters and attributes

port_range_reads : (owner : BodyKind)
    → Reads (port_range owner) (is_mark 91) (is_mark 91) true (read_port_range owner)
port_range_reads ScanIn =
    wider_reads (give_reads None) (is_mark 91) (is_mark 91) (λ t h. absurd cc) (λ t h. refl)
port_range_reads ScanOut =
    wider_reads (give_reads None) (is_mark 91) (is_mark 91) (λ t h. absurd cc) (λ t h. refl)
port_range_reads DataIn = maybe_range_reads
port_range_reads DataOut = maybe_range_reads
port_range_reads Control = maybe_range_reads
port_range_reads Register = maybe_range_reads
port_range_reads Alias = maybe_range_reads

-- a body doesn't begin as a range does, nor as signals go on
body_no : (ds : List ℕ) → marks ds ≡ marks ds → (t : SeenToken) → (is_mark 59 t ≡ true → marks ds t ≡ false)
    → (is_mark 123 t ≡ true → marks ds t ≡ false) → marks body_marks t ≡ true → marks ds t ≡ false
body_no ds e t f g h = by_cases (is_mark 59 t) (is_mark 123 t) f g h
  where
    by_cases : (a b : Bool) → (a ≡ true → marks ds t ≡ false) → (b ≡ true → marks ds t ≡ false)
        → a || (b || false) ≡ true → marks ds t ≡ false
    by_cases true b f g h = f refl
    by_cases false true f g h = g refl
    by_cases false false f g h = absurd cc

body_no_range : (t : SeenToken) → marks body_marks t ≡ true → is_mark 91 t ≡ false
body_no_range t h = or_left_false (is_mark 91 t) false
    (body_no (91 ∷ []) refl t (marks_apart 59 (91 ∷ []) refl t) (marks_apart 123 (91 ∷ []) refl t) h)

body_no_sigs : (t : SeenToken) → marks body_marks t ≡ true → marks sigs_marks t ≡ false
body_no_sigs t h = body_no sigs_marks refl t
    (marks_apart 59 sigs_marks refl t) (marks_apart 123 sigs_marks refl t) h

pub port_reads : (kind : PortKind) → Reads (port kind) any nothing false (read_port kind)
unfolding port read_port
port_reads kind =
    wider_reads
    (turn_reads (port_range (owner_of kind)) (λ r. body (owner_of kind) >>= λ ps. give (APort kind r ps))
    (is_mark 91) (is_mark 91) (marks body_marks) nothing true false (read_port_range (owner_of kind)) _
    (port_range_reads (owner_of kind))
    (λ r. made_reads (λ ps. APort kind r ps) (body_reads (owner_of kind))) body_no_range)
    any nothing (λ t h. refl) (λ t h. refl)

pub register_reads : Reads register any nothing false read_register
unfolding register read_register
register_reads =
    wider_reads
    (turn_reads (maybe range) (λ r. body Register >>= λ ps. give (ARegister r ps)) (is_mark 91) (is_mark 91)
    (marks body_marks) nothing true false (read_maybe 91 read_range) _
    maybe_range_reads (λ r. made_reads (λ ps. ARegister r ps) (body_reads Register)) body_no_range)
    any nothing (λ t h. refl) (λ t h. refl)

pub alias_reads : Reads alias any nothing false read_alias
unfolding alias read_alias
alias_reads =
    wider_reads
    (turn_reads (maybe range) (λ r. mark 61 >>= λ e. sigs >>= λ ss. body Alias >>= λ ps. give (AnAlias r ss
    ps)) (is_mark 91) (is_mark 91) (is_mark 61) nothing true false (read_maybe 91 read_range) _
    maybe_range_reads
    (λ r. then_reads (λ e. sigs >>= λ ss. body Alias >>= λ ps. give (AnAlias r ss ps))
    any nothing false _ (mark_reads 61)
    (λ e. then_reads (λ ss. body Alias >>= λ ps. give (AnAlias r ss ps)) (marks body_marks) nothing false _
    sigs_reads (λ ss. made_reads (λ ps. AnAlias r ss ps) (body_reads Alias)) body_no_sigs)
    (λ t h. refl))
    (λ t h. mark_apart 61 91 refl t h))
    any nothing (λ t h. refl) (λ t h. refl)

pub parameter_reads : (local : Bool) → Reads (parameter local) any nothing false (read_parameter local)
unfolding parameter read_parameter
parameter_reads local =
    wider_reads
    (then_reads (λ v. mark 59 >>= λ s. give (AParameter local v)) (is_mark 59) nothing false _
    (expr_after_reads 61) (λ v. made_reads (λ s. AParameter local v) (mark_reads 59))
    (λ t h. marks_apart 59 sign_marks refl t h))
    any nothing (λ t h. refl) (λ t h. refl)

pub attribute_reads : Reads attribute any nothing false read_attribute
unfolding attribute read_attribute
attribute_reads =
    wider_reads
    (turn_reads (maybe (expr_after 61)) (λ v. mark 59 >>= λ s. give (AnAttribute v)) (is_mark 61)
    (marks (61 ∷ sign_marks)) (is_mark 59) nothing true false (read_maybe 61 (read_expr_after 61)) _
    (maybe_reads 61 (marks sign_marks) (expr_after_reads 61)) (λ v. made_reads (λ s. AnAttribute v)
    (mark_reads 59)) (λ t h. marks_apart 59 (61 ∷ sign_marks) refl t h))
    any nothing (λ t h. refl) (λ t h. refl)

-- ---- multiplexers

-- `|`, `,` and the operators
abbrev pub values_marks : List ℕ
values_marks = 124 ∷ 44 ∷ sign_marks

values_reads : Reads (parted 124 value) no_close (marks values_marks) false read_values
unfolding read_values
values_reads = parted_reads 124 value_reads (λ t h. marks_apart 124 (44 ∷ sign_marks) refl t h)

pub row_reads : Reads row no_close nothing false read_row
unfolding row read_row
row_reads =
    then_reads (λ vs. mark 58 >>= λ c. sig >>= λ s. mark 59
    >>= λ e. give (record { values = vs; source = s })) (is_mark 58) nothing false _ values_reads
    (λ vs. then_reads (λ c. sig >>= λ s. mark 59 >>= λ e. give (record { values = vs; source = s }))
    any nothing false _ (mark_reads 58)
    (λ c. then_reads (λ s. mark 59 >>= λ e. give (record { values = vs; source = s })) (is_mark 59) nothing
    false _ sig_reads (λ s. made_reads (λ e. record { values = vs; source = s }) (mark_reads 59))
    (λ t h. marks_apart 59 path_marks refl t h))
    (λ t h. refl))
    (λ t h. marks_apart 58 values_marks refl t h)

pub row_shrinks : Shrinks read_row
row_shrinks = reads_shrink row_reads

pub rows_reads : Reads rows no_close no_close false read_rows
unfolding rows read_rows
rows_reads =
    wider_reads
    (then_reads (λ first. repeat (λ (rs : List SeenRow). row) appended (first ∷ [])) no_close
    (λ t. no_close t || false) true _ row_reads (λ first. parts_reads
    (λ (rs : List SeenRow). row) appended (λ rs. read_row) (λ rs. row_reads) (first ∷ [])) (λ t h. refl))
    no_close no_close (λ t h. h) (λ t h. or_from _ _ (or_from _ _ h refl) refl)

-- a `}` closes
closes : (t : SeenToken) → is_mark 125 t ≡ true → no_close t ≡ false
closes t h = rw h refl

pub mux_reads : Reads mux any nothing false read_mux
unfolding mux read_mux
mux_reads =
    then_reads (λ by. sigs >>= λ ss. mark 123 >>= λ o. rows >>= λ rs. mark 125 >>= λ c. give (AMux ss rs)) any
    nothing false _ (word_reads (codes "SelectedBy"))
    (λ by. then_reads (λ ss. mark 123 >>= λ o. rows >>= λ rs. mark 125 >>= λ c. give (AMux ss rs))
    (is_mark 123) nothing false _ sigs_reads
    (λ ss. then_reads (λ o. rows >>= λ rs. mark 125 >>= λ c. give (AMux ss rs))
    no_close nothing false _ (mark_reads 123)
    (λ o. then_reads (λ rs. mark 125 >>= λ c. give (AMux ss rs)) (is_mark 125) nothing false _ rows_reads
    (λ rs. made_reads (λ c. AMux ss rs) (mark_reads 125)) closes)
    (λ t h. refl))
    (λ t h. marks_apart 123 sigs_marks refl t h))
    (λ t h. refl)

-- ---- instances

bind_begin_reads : Reads {W = Limit} (one bind_begin_at) no_close nothing false read_bind_begin
bind_begin_reads = wider_reads (one_reads Limit bind_begin_at) no_close nothing
    (λ t h. no_mark_closes t (by_kind t.kind t.at _ h)) (λ t h. refl)
  where
    by_kind : (k : TokenKind) (at : Place) (o : Option BindKeyword)
        → is_some (begun_by at (if_word k o None)) ≡ true → if_mark k false true ≡ true
    by_kind Word at o h = refl
    by_kind Decimal at o h = absurd cc
    by_kind Sized at o h = absurd cc
    by_kind Quoted at o h = absurd cc
    by_kind Param at o h = absurd cc
    by_kind Mark at o h = absurd cc

bound_port_reads : (at : Place) → Reads (bound_port at) is_name (marks sigs_marks) false (read_bound_port at)
unfolding bound_port read_bound_port
bound_port_reads at =
    then_reads (λ n. maybe range >>= λ r. mark 61 >>= λ e. sigs >>= λ ss. give (ABoundPort at n r ss)) any
    (marks sigs_marks) false _ name_reads
    (λ n. wider_reads (turn_reads (maybe range)
    (λ r. mark 61 >>= λ e. sigs >>= λ ss. give (ABoundPort at n r ss)) (is_mark 91) (is_mark 91)
    (is_mark 61) (marks sigs_marks) true false (read_maybe 91 read_range) _ maybe_range_reads
    (λ r. then_reads (λ e. sigs >>= λ ss. give (ABoundPort at n r ss)) any (marks sigs_marks) false _
    (mark_reads 61) (λ e. made_reads (λ ss. ABoundPort at n r ss) sigs_reads) (λ t h. refl))
    (λ t h. mark_apart 61 91 refl t h)) any (marks sigs_marks) (λ t h. refl) (λ t h. h))
    (λ t h. refl)

bound_parameter_reads : (at : Place)
    → Reads (bound_parameter at) is_name (marks sign_marks) false (read_bound_parameter at)
unfolding bound_parameter read_bound_parameter
bound_parameter_reads at =
    then_reads (λ n. expr_after 61 >>= λ v. give (ABoundParameter at n v)) (is_mark 61) (marks sign_marks)
    false _ name_reads (λ n. made_reads (λ v. ABoundParameter at n v) (expr_after_reads 61)) (λ t h. refl)

bound_attribute_reads : Reads bound_attribute is_name (marks (61 ∷ sign_marks)) false read_bound_attribute
unfolding bound_attribute read_bound_attribute
bound_attribute_reads = made_reads (λ a. ABoundAttribute a.name a.value) attribute_said_reads

bind_ended_reads : (at : Place) (w : BindKeyword)
    → Reads (ended_by 59 (bind_after at w)) any nothing false (read_ended 59 (read_bind_after at w))
bind_ended_reads at BindsPort =
    ended_reads 59 (bound_port_reads at) (λ t h. marks_apart 59 sigs_marks refl t h)
bind_ended_reads at BindsParameter =
    ended_reads 59 (bound_parameter_reads at) (λ t h. marks_apart 59 sign_marks refl t h)
bind_ended_reads at BindsAttribute =
    ended_reads 59 bound_attribute_reads (λ t h. marks_apart 59 (61 ∷ sign_marks) refl t h)

pub bind_reads : Reads bind no_close nothing false read_bind
unfolding bind read_bind
bind_reads = then_reads (λ b. ended_by 59 (bind_after b.at b.word)) any nothing false (λ b. read_ended 59
    (read_bind_after b.at b.word)) bind_begin_reads (λ b. bind_ended_reads b.at b.word) (λ t h. refl)

pub bind_shrinks : Shrinks read_bind
bind_shrinks = reads_shrink bind_reads

-- parts in braces
pub braced_reads : {A : Type 0} (S : Of A) (r : Reading A) → Reads S no_close nothing false r
    → Reads (braced S) (is_mark 123) nothing false (read_braced (read_many r))
braced_reads {A} S r law =
    then_reads (λ o. many S >>= λ xs. mark 125 >>= λ c. give xs) any nothing false
    (λ o. read_ended 125 (read_many r)) (mark_reads 123)
    (λ o. parts_then_reads (λ (xs : List A). S) appended (λ xs. r) (λ xs. law) []
    (λ xs. mark 125 >>= λ c. give xs) (λ xs. read_in_turn (read_mark 125) (λ e. gives xs))
    (λ xs. made_reads (λ c. xs) (mark_reads 125)))
    (λ t h. refl)

braced_binds_reads : Reads (braced bind) (is_mark 123) nothing false read_braced_binds
unfolding read_braced_binds read_many_binds
braced_binds_reads = braced_reads bind read_bind bind_reads

binds_reads : Reads binds (marks body_marks) nothing false read_binds
unfolding binds read_binds
binds_reads =
    wider_reads
    (either_reads (mark 59 >>= λ e. give []) (braced bind) (is_mark 59) nothing (is_mark 123) nothing false
    (read_in_turn (read_mark 59) (λ e. gives [])) read_braced_binds
    (made_reads (λ e. []) (mark_reads 59)) braced_binds_reads (λ t h. mark_apart 123 59 refl t h))
    (marks body_marks) nothing (λ t h. wide (is_mark 59 t) (is_mark 123 t) h) (λ t h. refl)
  where
    wide : (a b : Bool) → a || b ≡ true → a || (b || false) ≡ true
    wide true b h = h
    wide false true h = h
    wide false false h = h

pub child_reads : Reads child any nothing false read_child
unfolding child read_child
child_reads =
    then_reads (λ of. name >>= λ m. binds >>= λ bs. give (AChild m bs)) is_name
    nothing false _ (word_reads (codes "Of"))
    (λ of. then_reads (λ m. binds >>= λ bs. give (AChild m bs)) (marks body_marks) nothing false _ name_reads
    (λ m. made_reads (λ bs. AChild m bs) binds_reads) (λ t h. refl))
    (λ t h. refl)
