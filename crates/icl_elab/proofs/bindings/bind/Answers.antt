use Rattle.std.proofs.Common.{◌∙◌, ◌++◌, ◌∷◌, [], map, Ok, sym, ap}
use Rattle.std.specs.Option.{option_map}
use Rattle.std.proofs.lemmas.Result.{err_from_is_err_and}
use Rattle.icl_lexer.specs.declared.tree.Bind.{Bind}
use Rattle.icl_lexer.specs.Views.{seen_bind, seen_range, seen_sig}
use Rattle.icl_declarations.specs.Faults.{◌>>=◌, seen_fault}
use Rattle.icl_declarations.proofs.Each.{fails_along}
use Rattle.icl_elab.specs.Bindings.{bind}
use Rattle.icl_elab.specs.Marks.{bound_in, seen_bound}
use Rattle.icl_references.specs.Tables.{frames_of, here_in}
use Rattle.icl_elab.proofs.Binding.{bind_parts}
use Rattle.icl_elab.proofs.Rounds.{step_fails, step_goes, gives_if}
use Rattle.ij_text.specs.Options.{same}
use Rattle.icl_elab.proofs.bindings.bind.Goals as goal

pub returns-in_err-bound-in-Port : goal.returns-in_err-bound-in-Port
returns-in_err-bound-in-Port c =
    let p = err_from_is_err_and c.from_residual.result c.from_residual.ensures.1 in
    let frames = frames_of c.args.tables.now in
    let here = here_in c.args.tables.now c.args.here in
    let child = (here_in c.args.tables.now c.args.child).frame in
    let port = c.in-Port in
    let e = seen_fault c.in_err-bound-in-Port.field-0.0 in
    let whole = ap (λ (b : Bind). bind frames here child c.args.bindings (seen_bind b)) port.is
    ∙ bind_parts frames here child c.args.bindings port.at port.name.items
    (option_map seen_range port.range) (map seen_sig port.sigs.items)
    ∙ ap (λ l. bound_in frames here child c.args.bindings port.at port.name.items (option_map seen_range
    port.range) (map seen_sig l) >>= λ b. Ok (c.args.bindings ++ b ∷ [])) (sym c.as_slice.ensures) in
    rw (p.1, p.2) (fails_along e _ _ (sym whole)
    (step_fails e _ (λ b. Ok (c.args.bindings ++ b ∷ [])) c.in_err-bound-in-Port.ensures))

pub returns-in_ok-bound-in-Port : goal.returns-in_ok-bound-in-Port
returns-in_ok-bound-in-Port c =
    let frames = frames_of c.args.tables.now in
    let here = here_in c.args.tables.now c.args.here in
    let child = (here_in c.args.tables.now c.args.child).frame in
    let port = c.in-Port in
    let whole = ap (λ (b : Bind). bind frames here child c.args.bindings (seen_bind b)) port.is
    ∙ bind_parts frames here child c.args.bindings port.at port.name.items
    (option_map seen_range port.range) (map seen_sig port.sigs.items)
    ∙ ap (λ l. bound_in frames here child c.args.bindings port.at port.name.items (option_map seen_range
    port.range) (map seen_sig l) >>= λ b. Ok (c.args.bindings ++ b ∷ [])) (sym c.as_slice.ensures) in
    gives_if same c.with.result _ (c.args.bindings ++ seen_bound c.in_ok-bound-in-Port.bound ∷ [])
    (whole ∙ step_goes _ (seen_bound c.in_ok-bound-in-Port.bound) (λ b. Ok (c.args.bindings ++ b ∷ []))
    c.in_ok-bound-in-Port.ensures) c.with.ensures.ok c.with.ensures.told
