-- Each stage comes to an end: it can't be that it gives nothing and refuses nothing.
use Rattle.std.specs.Prelude.{Option, None, Result, Ok, Err, IsSome, IfSome}
use Rattle.std.proofs.Common.{◌≡◌, ◌≤◌, ◌-◌, ◌^◌, ◌==◌, nat_lt, nat_le, subst, refl, sym, ap, ℕ, suc}
use Rattle.std.proofs.Common.{Bool, true, false, cond, Some, List, [], ◌∷◌, inl, inr, length, take, drop}
use Rattle.bench_file.specs.Device.{Link, Said, and_then as then_said, device}
use Rattle.bench_file.specs.Device.{read_from_head_line as device_from_head, read_from_idcode_line}
use Rattle.bench_file.specs.Device.{read_from_ir_line, read_from_link_line}
use Rattle.bench_file.specs.Device.{idcode_line, idcode_words, ir_words, is_head, is_idcode, is_identity}
use Rattle.bench_file.specs.Device.{device_with, link_line, link_said, link_words, needed, nothing_more}
use Rattle.bench_file.specs.Device.{opcode_in}
use Rattle.bench_file.specs.Fits.{before as model_before, extra, fitted, has_ports, inst_path, missing}
use Rattle.bench_file.specs.Fits.{models_from, names_one, one_model, table_named, unless}
use Rattle.bench_file.specs.declared.fault.DeviceFault.TheVariants.{OpcodeOnes, OpcodeTwice, OpcodeWide}
use Rattle.bench_file.specs.declared.fault.FitsFault.{FitsFault}
use Rattle.bench_file.specs.declared.fault.FitsFault.TheVariants.{ExtraTable, NoTable}
use Rattle.icl_elab.specs.Hierarchy.{hierarchy}
use Rattle.icl_elab.specs.WellFormed.{IsHierarchy}
use Rattle.icl_elab.proofs.NamedCells.{hierarchies_are_well_formed}
use Rattle.icl_frames.specs.Written.{AreWritten}
use Rattle.icl_frames.proofs.Derivations.{designs_are_written}
use Rattle.icl_lexer.specs.Modules.{design}
use Rattle.icl_lexer.specs.Seen.{SeenToken, seen_tokens}
use Rattle.icl_lexer.specs.Values.{SeenModule}
use Rattle.icl_lexer.specs.declared.words.Limit.{Limit}
use Rattle.icl_lexer.proofs.FewTokens.{few_tokens}
use Rattle.icl_lexer.proofs.Total.{cut_or_fault, tokens_in_text}
use Rattle.icl_parser.specs.Reading.{whole_design}
use Rattle.icl_parser.specs.Refusals.{IsFaultAt, IsFaultOf, left_out_at}
use Rattle.icl_parser.specs.declared.fault.ParseFault.{ParseFault}
use Rattle.icl_parser.specs.declared.fault.ParseFault.TheVariants.{LeftOut as ParseLeftOut}
use Rattle.icl_parser.specs.declared.fault.ParseFault.TheVariants.{ExprLimit as ParseExprLimit}
use Rattle.icl_parser.specs.declared.fault.ParseFault.TheVariants.{Syntax as ParseSyntax}
use Rattle.icl_parser.proofs.Verdicts.{design_found, refused_at as design_refused_at}
use Rattle.icl_references.specs.Roles.{CellOf}
use Rattle.icl_signals.specs.Connecting.{network}
use Rattle.icl_signals.proofs.NetsWellFormed.{nets_are_well_formed}
use Rattle.ij_bits.specs.Room.{full}
use Rattle.ij_bits.proofs.Lists.{some_of}
use Rattle.ij_text.specs.Places.{end_of, place_at}
use Rattle.ij_text.specs.Reading.{Stop}
use Rattle.ij_text.specs.declared.Place.{Place}
use Rattle.instruments.specs.Seen.{SeenModel}
use Rattle.merge_order.specs.BitSteps.{AFault as StepFault, bit_steps}
use Rattle.net_graph.specs.declared.device.Device.{Device}
use Rattle.net_graph.specs.declared.net.Inst.{Inst}
use Rattle.net_graph.specs.declared.net.Net.{Net}
use Rattle.net_graph.specs.Nets.{IsNet}
use Rattle.pdl_parser.specs.Cutting.{Word, words_of}
use Rattle.pdl_parser.specs.Reading.{whole_text}
use Rattle.pdl_parser.specs.Refusals.{fault_of as words_fault}
use Rattle.pdl_parser.specs.Values.{AProc}
use Rattle.pdl_parser.specs.declared.words.Rule.{Rule}
use Rattle.pdl_parser.specs.declared.words.Rule.TheVariants.{LeftOut as RuleLeftOut, NotInLevel0}
use Rattle.pdl_parser.specs.declared.words.Rule.TheVariants.{AnotherLevel, BadNumber, TooWide, ProcTwice}
use Rattle.pdl_parser.specs.declared.words.Rule.TheVariants.{NoArg}
use Rattle.pdl_parser.proofs.Verdicts.{text_found, refused_at as text_refused_at}
use Rattle.svf_reader.specs.Meaning.{Cause, LeftOut as CauseLeftOut, SvfSyntax as CauseSyntax}
use Rattle.svf_reader.specs.Meaning.{SvfLimit as CauseLimit, HexWide as CauseWide, TdiMissing as CauseNoTdi}
use Rattle.svf_reader.specs.Meaning.{Refusal as SvfRefusal, svf}
use Rattle.svf_reader.specs.declared.fault.SvfFault.TheVariants.{LeftOut, SvfSyntax, SvfLimit, HexWide}
use Rattle.svf_reader.specs.declared.fault.SvfFault.TheVariants.{TdiMissing}
use Rattle.svf_writer.specs.SeenCommands.{SeenCommand}
use Rattle.table_file.specs.Tables.{Block, SeenTable, Tables, after_head, and_then, at_end, block_line}
use Rattle.table_file.specs.Tables.{from_head, has_table, is_end, limit_fault, line_said, name_fault}
use Rattle.table_file.specs.Tables.{new_block, next_line, no_tables, put_block, rank, read_lines, tables}
use Rattle.table_file.specs.Tables.{width_fault}
use Rattle.table_file.specs.declared.fault.TableFault.{TableFault}
use Rattle.table_file.specs.declared.fault.TableFault.TheVariants.{TableLimit, TableName, TableSyntax}
use Rattle.table_file.specs.declared.fault.TableFault.TheVariants.{TableWidth}
use Rattle.table_lines.specs.Lines.{Line, end_of as last_line, lines_of}
use Rattle.table_lines.specs.Said.{SaidLine, instrument, line, version}
use Rattle.ijtag_stages.specs.Connected.{connected}
use Rattle.ijtag_stages.specs.DeviceText.{device_fault, device_text}
use Rattle.ijtag_stages.specs.Elaborated.{elaborated}
use Rattle.ijtag_stages.specs.Fitted.{fit_refusal, models_of}
use Rattle.ijtag_stages.specs.IclText.{lex_refusal, parse_refusal, icl_design, icl_text, icl_tokens}
use Rattle.ijtag_stages.specs.Networks.{network_below}
use Rattle.ijtag_stages.specs.declared.network.Network.{Network}
use Rattle.ijtag_stages.specs.PdlText.{pdl_text, pdl_refusal}
use Rattle.ijtag_stages.specs.Procedure.{procedure, step_refusal}
use Rattle.ijtag_stages.specs.Refusals.{Refusal}
use Rattle.ijtag_stages.specs.SvfText.{svf_text}
use Rattle.ijtag_stages.specs.TablesText.{tables_fault, tables_text}
use Rattle.ijtag_stages.specs.Laws.{StagesAreTotal}
use Rattle.ijtag_stages.specs.Nested.{IsNested, nested}
use Rattle.ijtag_stages.specs.Work.{IsTotal}
use Rattle.ijtag_stages.proofs.NestedTotals.{nested_total}
use Rattle.ijtag_stages.proofs.Turns.{give_total, in_turn_total, reported_total}

-- ---- a fault that is reported, and not want of memory

module _ {E : Type 0} (tell : E → Option Refusal) where
  -- what is refused is reported
  abbrev Told : {A : Type 0} → Result A E → Type 0
  Told (Ok a) = Unit {0}
  Told (Err fault) = IsSome (tell fault)

  cond_told : {A : Type 0} (b : Bool) (r s : Result A E) → Told r → Told s → Told (cond b r s)
  cond_told true r s p q = p
  cond_told false r s p q = q

-- ---- the ICL text

tokens_total : (text : List ℕ) → IsTotal (icl_tokens text)
unfolding icl_tokens
tokens_total text none free =
    elim (cut_or_fault text) [
      | inl cut ↦ none (seen_tokens text cut.0) (cut.0, cut.1, refl)
      | inr fault ↦ free (lex_refusal fault.0) (fault.0, fault.1, refl)
    ]

-- the fault at the token that doesn't fit, or at the end
fault_at_word : (t : SeenToken) (b : Bool) → left_out_at t ≡ b
    → (fault : ParseFault) × (r : Refusal) × IsFaultAt t None fault × (parse_refusal fault ≡ Some r)
fault_at_word t true e = (ParseLeftOut t.at (full t.text), _, (e, refl, refl), refl)
fault_at_word t false e = (ParseSyntax t.at, _, (e, refl), refl)

parse_fault : (end : Place) (rest : List SeenToken) (why : Option Limit)
    → (fault : ParseFault) × (r : Refusal) × IsFaultOf end rest why fault × (parse_refusal fault ≡ Some r)
parse_fault end [] why = (ParseSyntax end, _, refl, refl)
parse_fault end (t ∷ rest) (Some limit) = (ParseExprLimit t.at, _, refl, refl)
parse_fault end (t ∷ rest) None = fault_at_word t (left_out_at t) refl

design_total : (text : List ℕ) (tokens : List SeenToken) → IsTotal (icl_design text tokens)
unfolding icl_design
design_total text tokens none free = by_reading (whole_design tokens) refl
  where
    by_reading : (r : Result (List SeenModule) (Stop Limit)) → whole_design tokens ≡ r → ⊥
    by_reading (Ok d) e = none d (design_found tokens d e)
    by_reading (Err stop) e =
        let f = parse_fault (end_of text) (drop (length tokens - stop.0) tokens) stop.1 in
        free f.1 (
          f.0,
          design_refused_at text tokens (drop (length tokens - stop.0) tokens) stop f.0 e refl f.2,
          f.3,
        )

icl_total : (text : List ℕ) → IsTotal (icl_text text)
unfolding icl_text
icl_total text = in_turn_total (icl_tokens text) _ (tokens_total text)
    (λ tokens given. design_total text tokens)

-- ---- the device's text

abbrev IsToldSaid : {A : Type 0} → Said A → Type 0
IsToldSaid = Told device_fault

then_told : {A B : Type 0} (r : Said A) (next : A → Said B) → IsToldSaid r
    → ((a : A) → IsToldSaid (next a)) → IsToldSaid (then_said r next)
then_told (Ok a) next h n = n a
then_told (Err fault) next h n = h

needed_told : {A : Type 0} (at : Place) (o : Option A) → IsToldSaid (needed at o)
needed_told at None = refl
needed_told at (Some a) = tt

opcode_told : (ir : ℕ) (at : Place) (n : ℕ) → IsToldSaid (opcode_in ir at n)
opcode_told ir at n = by_tests (nat_le (2 ^ ir) n) (n == 2 ^ ir - 1)
  where
    by_tests : (wide ones : Bool)
        → IsToldSaid (cond wide (Err (OpcodeWide at)) (cond ones (Err (OpcodeOnes at)) (Ok n)))
    by_tests true ones = refl
    by_tests false true = refl
    by_tests false false = tt

link_told : (ir : ℕ) (idcode : Option (ℕ × ℕ)) (l : Line) → IsToldSaid (link_line ir idcode l)
link_told ir idcode l =
    then_told (needed l.at (link_words l.words)) (link_said ir idcode l.at)
    (needed_told l.at (link_words l.words)) (λ link.
    then_told (opcode_in ir l.at link.opcode) _ (opcode_told ir l.at link.opcode)
    (λ opcode. by_identity link (is_identity idcode opcode)))
  where
    by_identity : (link : Link) (twice : Bool)
        → IsToldSaid (cond twice (Err (OpcodeTwice l.at)) (Ok (device_with ir idcode link)))
    by_identity link true = refl
    by_identity link false = tt

more_told : (d : Device) (ls : List Line) → IsToldSaid (nothing_more d ls)
more_told d [] = tt
more_told d (l ∷ ls) = refl

from_link_told : (end : Place) (ir : ℕ) (idcode : Option (ℕ × ℕ)) (ls : List Line)
    → IsToldSaid (read_from_link_line end ir idcode ls)
from_link_told end ir idcode [] = refl
from_link_told end ir idcode (l ∷ ls) =
    then_told (link_line ir idcode l) _ (link_told ir idcode l) (λ d. more_told d ls)

idcode_told : (ir : ℕ) (l : Line) → IsToldSaid (idcode_line ir l)
idcode_told ir l =
    then_told (needed l.at (idcode_words l.words)) _ (needed_told l.at (idcode_words l.words)) (λ idcode.
    then_told (opcode_in ir l.at idcode.1) _ (opcode_told ir l.at idcode.1) (λ opcode. tt))

from_idcode_told : (end : Place) (ir : ℕ) (ls : List Line) → IsToldSaid (read_from_idcode_line end ir ls)
from_idcode_told end ir [] = refl
from_idcode_told end ir (l ∷ ls) =
    cond_told device_fault (is_idcode l.words) _ _
    (then_told (idcode_line ir l) _ (idcode_told ir l) (λ idcode. from_link_told end ir (Some idcode) ls))
    (from_link_told end ir None (l ∷ ls))

from_ir_told : (end : Place) (ls : List Line) → IsToldSaid (read_from_ir_line end ls)
from_ir_told end [] = refl
from_ir_told end (l ∷ ls) = then_told (needed l.at (ir_words l.words)) _
    (needed_told l.at (ir_words l.words)) (λ ir. from_idcode_told end ir ls)

device_told : (text : List ℕ) → IsToldSaid (device text)
unfolding device
device_told text = from_head_told (last_line text) (lines_of text)
  where
    from_head_told : (end : Place) (ls : List Line) → IsToldSaid (device_from_head end ls)
    from_head_told end [] = refl
    from_head_told end (l ∷ ls) = cond_told device_fault (is_head l.words) _ _ (from_ir_told end ls) refl

device_total : (text : List ℕ) → IsTotal (device_text text)
unfolding device_text
device_total text =
    reported_total (device text) device_fault (λ fault e. subst (Told device_fault) e (device_told text))

-- ---- the tables' text

abbrev Read : {A : Type 0} → Result A TableFault → Type 0
Read = Told tables_fault

line_told : (at : Place) (b : Block) (l : Option SaidLine) → Read (line_said at b l)
line_told at b None = refl
line_told at b (Some l) =
    by_tests (nat_lt (rank l) b.rank) (name_fault b.model l) (width_fault b.model l) (limit_fault b.model l) _
  where
    by_tests : (early named wide many : Bool) (next : Block)
        → Read (cond early (Err (TableSyntax at)) (cond named (Err (TableName at))
        (cond wide (Err (TableWidth at)) (cond many (Err (TableLimit at)) (Ok next)))))
    by_tests true named wide many next = refl
    by_tests false true wide many next = refl
    by_tests false false true many next = refl
    by_tests false false false true next = refl
    by_tests false false false false next = tt

block_told : (at : Place) (ts : List SeenTable) (path : Option (List (List ℕ))) → Read (new_block at ts path)
block_told at ts None = refl
block_told at ts (Some path) = cond_told tables_fault (has_table path ts) _ _ refl tt

put_told : (ts : List SeenTable) (r : Result Block TableFault) → Read r → Read (put_block ts r)
put_told ts (Err fault) h = h
put_told ts (Ok b) h = cond_told tables_fault (is_end b.rank) _ _ tt tt

next_told : (second : Bool) (ts : List SeenTable) (b : Option Block) (l : Line)
    → Read (next_line second ts b l)
next_told second ts None l =
    put_told ts (new_block l.at ts (instrument l.words)) (block_told l.at ts (instrument l.words))
next_told second ts (Some b) l = put_told ts (block_line second b l) (line_told l.at b (line second l.words))

end_told : (end : Place) (ts : List SeenTable) (b : Option Block) → Read (at_end end ts b)
end_told end ts None = tt
end_told end ts (Some b) = refl

go_on_told : {A B : Type 0} (r : Result A TableFault) (next : A → Result B TableFault) → Read r
    → ((a : A) → Read (next a)) → Read (and_then r next)
go_on_told (Ok a) next h n = n a
go_on_told (Err fault) next h n = h

lines_told : (second : Bool) (end : Place) (t : Tables) (ls : List Line) → Read (read_lines second end t ls)
lines_told second end t [] = end_told end t.tables t.block
lines_told second end t (l ∷ ls) = go_on_told (next_line second t.tables t.block l) _
    (next_told second t.tables t.block l) (λ u. lines_told second end u ls)

head_told : (end at : Place) (v : Option Bool) (ls : List Line) → Read (after_head end at v ls)
head_told end at None ls = refl
head_told end at (Some second) ls = lines_told second end no_tables ls

tables_told : (text : List ℕ) → Read (tables text)
unfolding tables
tables_told text = from_head_told (last_line text) (lines_of text)
  where
    from_head_told : (end : Place) (ls : List Line) → Read (from_head end ls)
    from_head_told end [] = refl
    from_head_told end (l ∷ ls) = head_told end l.at (version l.words) ls

tables_total : (text : List ℕ) → IsTotal (tables_text text)
unfolding tables_text
tables_total text =
    reported_total (tables text) tables_fault (λ fault e. subst (Told tables_fault) e (tables_told text))

-- ---- whether the tables fit

module _ (net : Net) where
  abbrev Fits : {A : Type 0} → Result A FitsFault → Type 0
  Fits = Told (fit_refusal net)

  -- a fault that there may be
  abbrev Misfits : Option FitsFault → Type 0
  Misfits o = IfSome o (λ fault. IsSome (fit_refusal net fault))

  missing_told : (ts : List SeenTable) (i : ℕ) (insts : List Inst) → Misfits (missing net ts i insts)
  missing_told ts i [] = tt
  missing_told ts i (inst ∷ insts) = by_table (missing net ts (suc i) insts)
      (missing_told ts (suc i) insts) (table_named ts (inst_path net inst))
    where
      by_table : (later : Option FitsFault) → Misfits later → (o : Option SeenTable)
          → Misfits (elim o [ None ↦ Some (NoTable i) | Some t ↦ later ])
      by_table later told None = refl
      by_table later told (Some t) = told

  extra_told : (ts : List SeenTable) → Misfits (extra net ts)
  extra_told [] = tt
  extra_told (t ∷ ts) = by_name (extra net ts) (extra_told ts) (names_one net net.insts.items t.path)
    where
      by_name : (later : Option FitsFault) → Misfits later → (b : Bool)
          → Misfits (cond b later (Some (ExtraTable t.at)))
      by_name later told true = told
      by_name later told false = refl

  before_told : (m : SeenModel) (r : Result (List SeenModel) FitsFault) → Fits r → Fits (model_before m r)
  before_told m (Ok ms) h = tt
  before_told m (Err fault) h = h

  one_told : (i : ℕ) (inst : Inst) (t : Option SeenTable) (rest : Result (List SeenModel) FitsFault)
      → Fits rest → Fits (one_model i inst t rest)
  one_told i inst None rest h = refl
  one_told i inst (Some t) rest h =
      cond_told (fit_refusal net) (has_ports inst t.model) _ _ (before_told _ rest h) refl

  models_told : (ts : List SeenTable) (i : ℕ) (insts : List Inst) → Fits (models_from net ts i insts)
  models_told ts i [] = tt
  models_told ts i (inst ∷ insts) = one_told i inst (table_named ts (inst_path net inst))
      (models_from net ts (suc i) insts) (models_told ts (suc i) insts)

  unless_told : (o : Option FitsFault) (rest : Result (List SeenModel) FitsFault)
      → Misfits o → Fits rest → Fits (unless o rest)
  unless_told (Some fault) rest p h = p
  unless_told None rest p h = h

  fitted_told : (ts : List SeenTable) → Fits (fitted net ts)
  unfolding fitted
  fitted_told ts =
      unless_told (missing net ts 0 net.insts.items) _ (missing_told ts 0 net.insts.items)
      (unless_told (extra net ts) _ (extra_told ts) (models_told ts 0 net.insts.items))

fit_total : (net : Net) (ts : List SeenTable) → IsTotal (models_of net ts)
unfolding models_of
fit_total net ts =
    reported_total (fitted net ts) (fit_refusal net)
    (λ fault e. subst (Told (fit_refusal net)) e (fitted_told net ts))

-- ---- the SVF text

svf_total : (text : List ℕ) → IsTotal (svf_text text)
unfolding svf_text
svf_total text none free = by_reading (svf text) refl
  where
    refused : (cause : Cause) (start : ℕ) → svf text ≡ Err (record { cause = cause; start = start }) → ⊥
    refused (CauseLeftOut word) start e =
        free _ (LeftOut (place_at text start) (full word), (start, e, refl), refl)
    refused CauseSyntax start e = free _ (SvfSyntax (place_at text start), (start, e, refl), refl)
    refused CauseLimit start e = free _ (SvfLimit (place_at text start), (start, e, refl), refl)
    refused CauseWide start e = free _ (HexWide (place_at text start), (start, e, refl), refl)
    refused CauseNoTdi start e = free _ (TdiMissing (place_at text start), (start, e, refl), refl)

    by_reading : (r : Result (List SeenCommand) SvfRefusal) → svf text ≡ r → ⊥
    by_reading (Ok commands) e = none commands e
    by_reading (Err refusal) e = refused refusal.cause refusal.start e

-- ---- the PDL text

words_told : (end : Place) (front rest : List Word) (why : Option Rule)
    → IsSome (pdl_refusal (words_fault end front rest why))
words_told end front [] why = refl
words_told end front (w ∷ rest) None = refl
words_told end front (w ∷ rest) (Some RuleLeftOut) = refl
words_told end front (w ∷ rest) (Some NotInLevel0) = refl
words_told end front (w ∷ rest) (Some AnotherLevel) = refl
words_told end front (w ∷ rest) (Some BadNumber) = refl
words_told end front (w ∷ rest) (Some TooWide) = refl
words_told end front (w ∷ rest) (Some ProcTwice) = refl
words_told end front (w ∷ rest) (Some NoArg) = refl

pdl_total : (text : List ℕ) → IsTotal (pdl_text text)
unfolding pdl_text
pdl_total text none free = by_reading (whole_text (words_of text)) refl
  where
    by_reading : (r : Result (List AProc) (Stop Rule)) → whole_text (words_of text) ≡ r → ⊥
    by_reading (Ok ps) e = none ps (text_found (words_of text) ps e)
    by_reading (Err stop) e =
        let front = take (length (words_of text) - stop.0) (words_of text) in
        let rest = drop (length (words_of text) - stop.0) (words_of text) in
        let fault = words_fault (end_of text) front rest stop.1 in
        let r = some_of (pdl_refusal fault) (words_told (end_of text) front rest stop.1) in
        free r.0 (fault, text_refused_at text front rest stop fault e refl refl refl, r.1)

-- ---- the procedure

procedure_total : (procs : List AProc) (network : Network) (name : List ℕ)
    → IsTotal (procedure procs network name)
unfolding procedure
procedure_total procs network name none free =
    by_fault (bit_steps procs network.net network.form name).fault refl
  where
    by_fault : (o : Option StepFault) → (bit_steps procs network.net network.form name).fault ≡ o → ⊥
    by_fault None e =
        none (bit_steps procs network.net network.form name).steps (ap (λ (o : Option StepFault).
        record { steps = (bit_steps procs network.net network.form name).steps; fault = o }) e)
    by_fault (Some fault) e = free (step_refusal network.net fault) (fault, e, refl)

-- ---- the network below the top module

elaborated_total : (modules : List SeenModule) (top : List ℕ) → IsTotal (elaborated modules top)
unfolding elaborated
elaborated_total modules top = reported_total (hierarchy modules top) _ (λ fault e. refl)

connected_total : (cells : List CellOf) (d : Device) → IsTotal (connected cells d)
unfolding connected
connected_total cells d = reported_total (network cells d.link.items d.instr.items) _ (λ fault e. refl)

-- the hierarchy of modules that are written as ICL's grammar has them is well formed, and so is its network
hierarchy_well_formed : (modules : List SeenModule) (top : List ℕ) (cells : List CellOf) → AreWritten modules
    → (elaborated modules top).gives cells → IsHierarchy cells
unfolding elaborated
hierarchy_well_formed modules top cells written e = hierarchies_are_well_formed modules top cells written e

network_well_formed : (cells : List CellOf) (d : Device) (net : Net) → IsHierarchy cells
    → (connected cells d).gives net → IsNet net
unfolding connected
network_well_formed cells d net h g = nets_are_well_formed cells d.link.items d.instr.items net h g

modules_are_written : (text : List ℕ) (modules : List SeenModule) → length text ≤ 134217728
    → (icl_text text).gives modules → AreWritten modules
unfolding icl_text icl_tokens icl_design
modules_are_written text modules short g =
    let cut = g.1 in
    designs_are_written text cut.0 modules cut.1 (few_tokens tokens_in_text text cut.0 short cut.1)
    (subst (λ (ts : List SeenToken). design.derives ts modules) cut.2 g.2)

network_total : (text : List ℕ) (modules : List SeenModule) (top : List ℕ) (d : Device)
    → length text ≤ 134217728 → (icl_text text).gives modules → IsTotal (network_below modules top d)
unfolding network_below
network_total text modules top d short g =
    in_turn_total (elaborated modules top) _ (elaborated_total modules top) (λ cells made.
    in_turn_total (connected cells d) _ (connected_total cells d) (λ net given.
    in_turn_total (nested net) _ (nested_total net (network_well_formed cells d net (hierarchy_well_formed
    modules top cells (modules_are_written text modules short g) made) given)) (λ form described.
    give_total _)))

pub stages_total : StagesAreTotal
stages_total = record {
  icl = icl_total;
  device = device_total;
  tables = tables_total;
  svf = svf_total;
  network = network_total;
  fit = fit_total;
  pdl = pdl_total;
  procedure = procedure_total;
}

-- ---- what is known of what they give

pub network_is_nested : (modules : List SeenModule) (top : List ℕ) (d : Device) (network : Network)
    → (network_below modules top d).gives network → IsNested network.net network.form
unfolding network_below nested
network_is_nested modules top d network g =
    let described = g.2.2 in
    subst (λ (n : Network). IsNested n.net n.form) (sym described.2) described.1
