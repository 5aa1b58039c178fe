-- Each stage comes to one end at most: what is given is one value, and then nothing is refused; and a refusal
-- is one.
use Rattle.std.specs.Prelude.{Option, None, Result, Ok, Err, codes}
use Rattle.std.proofs.Common.{refl, ◌≡◌, ◌≢◌, ◌∙◌, sym, ap, ℕ, Some, List}
use Rattle.icl_lexer.specs.Cutting.{AreTokens, tokens_from}
use Rattle.icl_lexer.specs.Seen.{SeenToken, seen_tokens}
use Rattle.icl_lexer.specs.Laws.{TokenizationIsUnique, CutTextsHaveNoFault, FaultsAreOne}
use Rattle.icl_lexer.specs.Token.{Token}
use Rattle.icl_parser.specs.Laws.{DesignsAreOne, DesignsAreNotRefused, RefusalsAreOne, SeenFault, NoMemory}
use Rattle.icl_parser.specs.Laws.{ALeftOut, AnExprLimit, ASyntax, seen_fault}
use Rattle.icl_parser.specs.declared.fault.ParseFault.{ParseFault}
use Rattle.icl_parser.specs.declared.fault.ParseFault.TheVariants.{LeftOut as ParseLeftOut}
use Rattle.icl_parser.specs.declared.fault.ParseFault.TheVariants.{ExprLimit as ParseExprLimit}
use Rattle.icl_parser.specs.declared.fault.ParseFault.TheVariants.{Syntax as ParseSyntax}
use Rattle.icl_parser.specs.declared.fault.ParseFault.TheVariants.{OutOfMemory as ParseMemory}
use Rattle.icl_lexer.specs.declared.fault.LexFault.{LexFault}
use Rattle.ij_text.specs.Places.{first_place, place_at}
use Rattle.ij_text.specs.declared.Place.{Place}
use Rattle.svf_reader.specs.Answers.{Refuses, IsRefused}
use Rattle.svf_reader.specs.Meaning.{svf, Cause, LeftOut as CauseLeftOut, SvfSyntax as CauseSyntax}
use Rattle.svf_reader.specs.Meaning.{SvfLimit as CauseLimit, HexWide as CauseWide, TdiMissing as CauseNoTdi}
use Rattle.svf_reader.specs.Meaning.{Refusal as SvfRefusal}
use Rattle.svf_reader.specs.declared.fault.SvfFault.{SvfFault}
use Rattle.svf_reader.specs.declared.fault.SvfFault.TheVariants.{LeftOut, SvfSyntax, SvfLimit, HexWide}
use Rattle.svf_reader.specs.declared.fault.SvfFault.TheVariants.{TdiMissing, OutOfMemory}
use Rattle.svf_writer.specs.SeenCommands.{SeenCommand}
use Rattle.icl_lexer.specs.Values.{SeenModule}
use Rattle.icl_references.specs.Roles.{CellOf}
use Rattle.icl_elab.specs.Hierarchy.{hierarchy}
use Rattle.bench_file.specs.Device.{device}
use Rattle.bench_file.specs.Fits.{fitted}
use Rattle.table_file.specs.Tables.{SeenTable, tables}
use Rattle.icl_signals.specs.Connecting.{network}
use Rattle.net_graph.specs.declared.device.Device.{Device}
use Rattle.net_graph.specs.declared.net.Net.{Net}
use Rattle.net_graph.specs.SeenSteps.{SeenStep}
use Rattle.net_tree.specs.Form.{Items}
use Rattle.nest_check.specs.Laws.{OneForm, OneCause, LawfulHasNone}
use Rattle.nest_check.specs.declared.fault.NestFault.{NestFault}
use Rattle.nest_check.specs.declared.fault.NestFault.TheVariants.{OutOfMemory as NestMemory}
use Rattle.pdl_parser.specs.Laws.{ProceduresAreOne, ProceduresAreNotRefused}
use Rattle.pdl_parser.specs.Laws.{RefusalsAreOne as PdlRefusalsAreOne}
use Rattle.pdl_parser.specs.Refusals.{AFault}
use Rattle.pdl_parser.specs.Values.{AProc}
use Rattle.merge_order.specs.BitSteps.{AFault as StepFault, BitStepsOf, bit_steps}
use Rattle.ijtag_stages.specs.Connected.{connect_refusal, connected}
use Rattle.ijtag_stages.specs.DeviceText.{device_fault, device_text}
use Rattle.ijtag_stages.specs.Elaborated.{elab_refusal, elaborated}
use Rattle.ijtag_stages.specs.Fitted.{fit_refusal, models_of}
use Rattle.ijtag_stages.specs.IclText.{lex_refusal, parse_refusal, icl_tokens, icl_design, icl_text}
use Rattle.ijtag_stages.specs.Laws.{StagesAreDecided}
use Rattle.ijtag_stages.specs.Nested.{IsNested, IsUnnested, nested, nest_refusal}
use Rattle.ijtag_stages.specs.Networks.{network_below}
use Rattle.ijtag_stages.specs.declared.network.Network.{Network}
use Rattle.ijtag_stages.specs.PdlText.{pdl_text, pdl_refusal}
use Rattle.ijtag_stages.specs.Procedure.{procedure, step_refusal}
use Rattle.ijtag_stages.specs.Refusals.{Refusal, refused_at, refused_word}
use Rattle.ijtag_stages.specs.SvfText.{svf_text, svf_fault}
use Rattle.ijtag_stages.specs.TablesText.{tables_fault, tables_text}
use Rattle.ijtag_stages.specs.Work.{IsDecided}
use Rattle.ijtag_stages.specs.declared.refusal.Stage.TheVariants.{Icl, Svf}
use Rattle.ijtag_stages.proofs.Turns.{give_decided, in_turn_decided, reported_decided}
use Rattle.std.proofs.lemmas.Option.{same_Some}

tokens_one : TokenizationIsUnique → (text : List ℕ) (tokens others : List Token) → AreTokens text tokens
    → AreTokens text others → tokens ≡ others
tokens_one cuttings text tokens others a b =
    a.2 ∙ ap (tokens_from 0 first_place) (cuttings text a.0 b.0 a.1 b.1) ∙ sym b.2

lex_alike : (fault other : LexFault) (r s : Refusal) → fault ≡ other
    → lex_refusal fault ≡ r → lex_refusal other ≡ s → r ≡ s
lex_alike fault other r s same p q = cc

tokens_decided : TokenizationIsUnique → CutTextsHaveNoFault → FaultsAreOne
    → (text : List ℕ) → IsDecided (icl_tokens text)
unfolding icl_tokens
tokens_decided cuttings no_fault faults text =
    record {
      one = λ seen others p q. p.2 ∙ ap (seen_tokens text) (tokens_one cuttings text p.0 q.0 p.1 q.1)
          ∙ sym q.2;
      apart = λ seen r p q. no_fault text p.0 q.0 p.1 q.1;
      alike = λ r s p q. lex_alike p.0 q.0 r s (faults text p.0 q.0 p.1 q.1) p.2 q.2;
    }

-- how a fault is reported, without where its words lie in memory
abbrev told_fault : SeenFault → Option Refusal
told_fault NoMemory = None
told_fault (ALeftOut at word) = Some (refused_word Icl (codes "LeftOut") at word)
told_fault (AnExprLimit at) = Some (refused_at Icl (codes "ExprLimit") at)
told_fault (ASyntax at) = Some (refused_at Icl (codes "Syntax") at)

told_as_seen : (fault : ParseFault) → parse_refusal fault ≡ told_fault (seen_fault fault)
told_as_seen ParseMemory = refl
told_as_seen (ParseLeftOut at word) = refl
told_as_seen (ParseExprLimit at) = refl
told_as_seen (ParseSyntax at) = refl

parse_alike : (fault other : ParseFault) (r s : Refusal) → seen_fault fault ≡ seen_fault other
    → parse_refusal fault ≡ Some r → parse_refusal other ≡ Some s → r ≡ s
parse_alike fault other r s same p q =
    let a = told_as_seen fault in
    let b = told_as_seen other in
    let c = ap told_fault same in cc

design_decided : DesignsAreOne → DesignsAreNotRefused → RefusalsAreOne
    → (text : List ℕ) (tokens : List SeenToken) → IsDecided (icl_design text tokens)
unfolding icl_design
design_decided one not_refused refusals text tokens =
    record {
      one = λ d e p q. one _ d e p q;
      apart = λ d r p q. not_refused text _ d q.0 p q.1;
      alike = λ r s p q. parse_alike p.0 q.0 r s (refusals text _ p.0 q.0 p.1 q.1) p.2 q.2;
    }

ok_is : {A E : Type 0} (x y : A) (r : Result A E) → r ≡ Ok x → r ≡ Ok y → x ≡ y
ok_is x y r p q = cc

read_not_refused : (text : List ℕ) (commands : List SeenCommand) (fault : SvfFault) (r : Refusal)
    → svf text ≡ Ok commands → Refuses text fault → svf_fault fault ≡ Some r → ⊥
read_not_refused text commands (LeftOut at word) r read is told = let refused = is.1 in cc
read_not_refused text commands (SvfSyntax at) r read is told = let refused = is.1 in cc
read_not_refused text commands (SvfLimit at) r read is told = let refused = is.1 in cc
read_not_refused text commands (HexWide at) r read is told = let refused = is.1 in cc
read_not_refused text commands (TdiMissing at) r read is told = let refused = is.1 in cc
read_not_refused text commands OutOfMemory r read is told = cc

device_decided : (text : List ℕ) → IsDecided (device_text text)
unfolding device_text
device_decided text = reported_decided (device text) device_fault

tables_decided : (text : List ℕ) → IsDecided (tables_text text)
unfolding tables_text
tables_decided text = reported_decided (tables text) tables_fault

pub elaborated_decided : (modules : List SeenModule) (top : List ℕ) → IsDecided (elaborated modules top)
unfolding elaborated
elaborated_decided modules top = reported_decided (hierarchy modules top) (λ fault. Some (elab_refusal fault))

pub connected_decided : (cells : List CellOf) (of : Device) → IsDecided (connected cells of)
unfolding connected
connected_decided cells of =
    reported_decided (network cells of.link.items of.instr.items) (λ fault. Some (connect_refusal fault))

fit_decided : (net : Net) (ts : List SeenTable) → IsDecided (models_of net ts)
unfolding models_of
fit_decided net ts = reported_decided (fitted net ts) (fit_refusal net)

-- how a cause is reported
abbrev told_cause : Cause → Place → Refusal
told_cause (CauseLeftOut word) at = refused_word Svf (codes "LeftOut") at word
told_cause CauseSyntax at = refused_at Svf (codes "SvfSyntax") at
told_cause CauseLimit at = refused_at Svf (codes "SvfLimit") at
told_cause CauseWide at = refused_at Svf (codes "HexWide") at
told_cause CauseNoTdi at = refused_at Svf (codes "TdiMissing") at

-- the one cause and its place, from the text alone
abbrev told_in : List ℕ → Result (List SeenCommand) SvfRefusal → Option Refusal
told_in text (Ok commands) = None
told_in text (Err e) = Some (told_cause e.cause (place_at text e.start))

told_of_text : (text : List ℕ) (cause : Cause) (at : Place) (r : Refusal) → IsRefused text cause at
    → told_cause cause at ≡ r → told_in text (svf text) ≡ Some r
told_of_text text cause at r is told = let read = is.1 in
    let place = is.2 in
    ap (told_in text) read ∙ ap (λ p. Some (told_cause cause p)) (sym place) ∙ ap Some told

refuses_alike : (text : List ℕ) (fault : SvfFault) (r : Refusal) → Refuses text fault
    → svf_fault fault ≡ Some r → told_in text (svf text) ≡ Some r
refuses_alike text (LeftOut at word) r is told =
    told_of_text text (CauseLeftOut word.items) at r is (same_Some _ r told)
refuses_alike text (SvfSyntax at) r is told = told_of_text text CauseSyntax at r is (same_Some _ r told)
refuses_alike text (SvfLimit at) r is told = told_of_text text CauseLimit at r is (same_Some _ r told)
refuses_alike text (HexWide at) r is told = told_of_text text CauseWide at r is (same_Some _ r told)
refuses_alike text (TdiMissing at) r is told = told_of_text text CauseNoTdi at r is (same_Some _ r told)
refuses_alike text OutOfMemory r is told = cc

svf_decided : (text : List ℕ) → IsDecided (svf_text text)
unfolding svf_text
svf_decided text =
    record {
      one = λ a b p q. ok_is a b (svf text) p q;
      apart = λ a r p q. read_not_refused text a q.0 r p q.1 q.2;
      alike =
          λ r s p q. same_Some r s
          (sym (refuses_alike text p.0 r p.1 p.2) ∙ refuses_alike text q.0 s q.1 q.2);
    }

pdl_alike : (fault other : AFault) (r s : Refusal) → fault ≡ other
    → pdl_refusal fault ≡ Some r → pdl_refusal other ≡ Some s → r ≡ s
pdl_alike fault other r s same p q = cc

-- ---- the procedure

steps_one : (all : BitStepsOf) (xs ys : List SeenStep) → all ≡ record { steps = xs; fault = None }
    → all ≡ record { steps = ys; fault = None } → xs ≡ ys
steps_one all xs ys p q = ap (λ (b : BitStepsOf). b.steps) (sym p ∙ q)

steps_not_refused : (all : BitStepsOf) (xs : List SeenStep) (fault : StepFault)
    → all ≡ record { steps = xs; fault = None } → all.fault ≡ Some fault → ⊥
steps_not_refused all xs fault p q = let none = ap (λ (b : BitStepsOf). b.fault) p in cc

steps_alike : (all : BitStepsOf) (of : Net) (fault other : StepFault) (r s : Refusal)
    → all.fault ≡ Some fault → all.fault ≡ Some other
    → r ≡ step_refusal of fault → s ≡ step_refusal of other → r ≡ s
steps_alike all of fault other r s a b p q = cc

procedure_decided : (procs : List AProc) (network : Network) (name : List ℕ)
    → IsDecided (procedure procs network name)
unfolding procedure
procedure_decided procs network name =
    let all = bit_steps procs network.net network.form name in
    record {
      one = λ xs ys p q. steps_one all xs ys p q;
      apart = λ xs r p q. steps_not_refused all xs q.0 p q.1;
      alike = λ r s p q. steps_alike all network.net p.0 q.0 r s p.1 q.1 p.2 q.2;
    }

-- ---- the network, and all stages

module _ (one_form : OneForm) (one_cause : OneCause) (lawful_none : LawfulHasNone)
    (procs_one : ProceduresAreOne) (procs_not_refused : ProceduresAreNotRefused)
    (pdl_refusals : PdlRefusalsAreOne)
    (cuttings : TokenizationIsUnique) (no_fault : CutTextsHaveNoFault) (faults : FaultsAreOne)
    (designs : DesignsAreOne) (not_refused : DesignsAreNotRefused) (refusals : RefusalsAreOne) where
  nested_apart : (net : Net) (form : Items) (fault : NestFault) (r : Refusal) → IsNested net form
      → IsUnnested net fault → nest_refusal net fault ≡ Some r → ⊥
  nested_apart net form fault r is not told =
      let none = lawful_none net form fault is.well_formed is.describes is.lawful not.cause in cc

  nested_alike : (net : Net) (fault next : NestFault) (r s : Refusal) → IsUnnested net fault
      → IsUnnested net next → nest_refusal net fault ≡ Some r
      → nest_refusal net next ≡ Some s → r ≡ s
  nested_alike net fault next r s one two told also =
      let first : fault ≢ NestMemory = λ (e : fault ≡ NestMemory). absurd (cc) in
      let second : next ≢ NestMemory = λ (e : next ≡ NestMemory). absurd (cc) in
      let e = one_cause net fault next one.well_formed first second one.cause two.cause in
      cc

  nested_decided : (net : Net) → IsDecided (nested net)
  unfolding nested
  nested_decided net =
      record {
        one = λ x y is too. one_form net x y is.well_formed is.describes too.describes;
        apart = λ x r is (fault, not, told). nested_apart net x fault r is not told;
        alike = λ r s (fault, one, told) (next, two, tells).
            nested_alike net fault next r s one two told tells;
      }

  network_decided : (modules : List SeenModule) (top : List ℕ) (of : Device)
      → IsDecided (network_below modules top of)
  unfolding network_below
  network_decided modules top of =
      in_turn_decided (elaborated modules top) _ (elaborated_decided modules top)
      (λ cells. in_turn_decided (connected cells of) _ (connected_decided cells of)
      (λ net. in_turn_decided (nested net) _ (nested_decided net) (λ form. give_decided _)))

  pdl_decided : (text : List ℕ) → IsDecided (pdl_text text)
  unfolding pdl_text
  pdl_decided text =
      record {
        one = λ x y p q. procs_one _ x y p q;
        apart = λ x r p q. procs_not_refused text x q.0 p q.1;
        alike = λ r s p q. pdl_alike p.0 q.0 r s (pdl_refusals text p.0 q.0 p.1 q.1) p.2 q.2;
      }

  icl_decided : (text : List ℕ) → IsDecided (icl_text text)
  unfolding icl_text
  icl_decided text = in_turn_decided (icl_tokens text) _ (tokens_decided cuttings no_fault faults text)
      (design_decided designs not_refused refusals text)

  pub stages_decided : StagesAreDecided
  stages_decided = record {
    icl = icl_decided;
    device = device_decided;
    tables = tables_decided;
    svf = svf_decided;
    network = network_decided;
    fit = fit_decided;
    pdl = pdl_decided;
    procedure = procedure_decided;
  }
