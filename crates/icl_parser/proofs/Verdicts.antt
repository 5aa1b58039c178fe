-- What reading a whole list of tokens says of it.
use Rattle.std.proofs.Common.{◌≡◌, ◌↔◌, ℕ, suc, Bool, ◌<◌, ◌-◌, true, false, List, [], ◌∷◌, ◌++◌, length}
use Rattle.std.proofs.Common.{drop, Ok, Err, refl, sym, ap, subst, ◌∙◌, arith, length-append}
use Rattle.std.proofs.Math.Seq.{drop-append_seam}
use Rattle.ij_text.specs.Places.{end_of}
use Rattle.ij_text.specs.Reading.{Stop as Unfit, ended}
use Rattle.ij_text.specs.Refusal.{Refused}
use Rattle.ij_text.proofs.Combinators.{ok_is}
use Rattle.ij_text.proofs.Verdicts.{found, only, refused}
use Rattle.icl_lexer.specs.declared.words.Limit.{Limit}
use Rattle.icl_lexer.specs.Seen.{SeenToken}
use Rattle.ij_text.specs.Symbol.{appended}
use Rattle.icl_lexer.specs.Values.{SeenModule}
use Rattle.icl_lexer.specs.Modules.{design}
use Rattle.icl_parser.specs.declared.fault.ParseFault.{ParseFault}
use Rattle.icl_parser.specs.declared.fault.ParseFault.TheVariants.{OutOfMemory, LeftOut, ExprLimit, Syntax}
use Rattle.icl_expressions.specs.declared.stop.ReadStop.{ReadStop}
use Rattle.icl_expressions.specs.declared.stop.ReadStop.TheVariants.{Memory, At}
use Rattle.icl_expressions.specs.Seen.{Fails}
use Rattle.icl_expressions.specs.Reading.{begins, any, read_put}
use Rattle.icl_parser.specs.Reading.{read_module, read_design, whole_design}
use Rattle.icl_parser.specs.Refusals.{IsFaultOf, IsRefused, OnRefusal}
use Rattle.icl_expressions.proofs.Steps.{reads_shrink, go_on, round_fails, ends}
use Rattle.icl_parser.proofs.More.{more_modules}
use Rattle.icl_parser.proofs.DesignLaws.{module_reads, design_reads}

-- ---- the loop of modules

pub begins_any : (none : Bool) (ts : List SeenToken)
    → (none ≡ true) ↔ (ts ≡ []) → none ≡ false → begins any ts ≡ true
begins_any true [] h e = absurd cc
begins_any false [] h e = let k : false ≡ true = h.1 refl in absurd cc
begins_any none (t ∷ ts) h e = refl

pub begins_none : (none : Bool) (ts : List SeenToken)
    → (none ≡ true) ↔ (ts ≡ []) → none ≡ true → begins any ts ≡ false
begins_none none ts h e = let k : ts ≡ [] = h.0 e in rw k refl

pub modules_go_on : (bs : List SeenModule) (ts : List SeenToken) (x : List SeenModule × List SeenToken)
    → begins any ts ≡ true → read_put read_module appended bs ts ≡ Ok x
    → more_modules x.0 x.1 ≡ more_modules bs ts
modules_go_on = go_on appended any (λ (bs : List SeenModule). read_module) (λ bs. reads_shrink module_reads)

modules_round_fails : (bs : List SeenModule) (ts : List SeenToken) (stop : ReadStop) → begins any ts ≡ true
    → Fails stop (read_put read_module appended bs ts) → Fails stop (more_modules bs ts)
modules_round_fails =
    round_fails appended any (λ (bs : List SeenModule). read_module) (λ bs. reads_shrink module_reads)

modules_end : (bs : List SeenModule) (ts : List SeenToken)
    → begins any ts ≡ false → more_modules bs ts ≡ Ok (bs, ts)
modules_end = ends appended any (λ (bs : List SeenModule). read_module) (λ bs. reads_shrink module_reads)

pub design_fails : (all : List SeenToken) (bs : List SeenModule) (ts : List SeenToken) (stop : ReadStop)
    → begins any ts ≡ true → Fails stop (read_put read_module appended bs ts)
    → more_modules bs ts ≡ read_design all → Fails stop (whole_design all)
unfolding whole_design
design_fails all bs ts Memory h k e = tt
design_fails all bs ts (At n why) h k e = ap ended (sym e ∙ modules_round_fails bs ts (At n why) h k)

pub design_ends : (all : List SeenToken) (bs : List SeenModule) (ts : List SeenToken) → begins any ts ≡ false
    → more_modules bs ts ≡ read_design all → whole_design all ≡ Ok bs
unfolding whole_design
design_ends all bs [] h e = ap ended (sym e ∙ modules_end bs [] h)
design_ends all bs (t ∷ ts) h e = absurd cc

-- ---- the three laws of a whole list

pub design_found : (ts : List SeenToken) (d : List SeenModule) → whole_design ts ≡ Ok d → design.derives ts d
unfolding whole_design
design_found ts d h = found design_reads ts d h

pub design_read : (ts : List SeenToken) (d : List SeenModule) → design.derives ts d → whole_design ts ≡ Ok d
unfolding whole_design
design_read ts d h = only design_reads ts d h

pub design_only : (ts : List SeenToken) (d e : List SeenModule)
    → whole_design ts ≡ Ok e → design.derives ts d → e ≡ d
design_only ts d e h k = ok_is {A = List SeenModule} {E = Unfit Limit} e d (sym h ∙ design_read ts d k)

pub design_not : (ts : List SeenToken) (d : List SeenModule) (stop : Unfit Limit)
    → whole_design ts ≡ Err stop → design.derives ts d → ⊥
design_not ts d stop h k = let yes = design_read ts d k in absurd cc

pub design_refused : (ts : List SeenToken) (stop : Unfit Limit)
    → whole_design ts ≡ Err stop → Refused design ts stop
unfolding whole_design
design_refused ts stop h = refused design_reads ts stop h

-- ---- where the text is refused

pub rest_of : (ts front rest : List SeenToken) (n : ℕ) → ts ≡ front ++ rest
    → length rest ≡ n → drop (length ts - n) ts ≡ rest
rest_of ts front rest n e k =
    let all : length ts ≡ length (front ++ rest) = ap length e in
    let len : length ts - n ≡ length front = omega (arith, all, length-append front rest, k) in
    ap (λ m. drop m ts) len ∙ ap (drop (length front)) e ∙ drop-append_seam front rest

pub refused_at : (text : List ℕ) (ts us : List SeenToken) (stop : Unfit Limit) (fault : ParseFault)
    → whole_design ts ≡ Err stop → us ≡ drop (length ts - stop.0) ts
    → IsFaultOf (end_of text) us stop.1 fault → IsRefused text ts fault
refused_at text ts us stop fault h e told =
    let p = design_refused ts stop h in
    let same : us ≡ p.1 = e ∙ rest_of ts p.0 p.1 stop.0 p.2 p.3 in
    record {
      front = p.0;
      rest = p.1;
      why = stop.1;
      whole = p.2;
      viable = p.4;
      stuck = p.5;
      told = subst (λ l. IsFaultOf (end_of text) l stop.1 fault) same told;
    }

pub on_refusal : (text : List ℕ) (ts : List SeenToken) (fault : ParseFault)
    → IsRefused text ts fault → OnRefusal text ts fault
on_refusal text ts OutOfMemory h = tt
on_refusal text ts (LeftOut at word) h = h
on_refusal text ts (ExprLimit at) h = h
on_refusal text ts (Syntax at) h = h

-- without the first token as many are left
pub rest_later : (ts us : List SeenToken) (left : ℕ) → left < length ts → us ≡ drop 1 ts
    → drop (length us - left) us ≡ drop (length ts - left) ts
rest_later [] us left h e = absurd (omega (arith, h))
rest_later (t ∷ ts) us left h e =
    let k : suc (length ts) - left ≡ suc (length ts - left) = omega (arith, h) in rw (e, k) refl
