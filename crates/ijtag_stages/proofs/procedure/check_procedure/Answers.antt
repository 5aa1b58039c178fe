use Rattle.std.proofs.Common.{ℕ, List, map, subst}
use Rattle.std.specs.Option.{option_map}
use Rattle.merge_order.specs.BitSteps.{bit_steps}
use Rattle.merge_order.specs.Seen.{EndsIn}
use Rattle.pdl_parser.specs.Views.{seen_proc, seen_procs}
use Rattle.pdl_parser.specs.declared.tree.Proc.{Proc}
use Rattle.ijtag_stages.specs.Procedure.{fault_of, procedure, step_refusal}
use Rattle.ijtag_stages.proofs.Faults.{told_fault}
use Rattle.ijtag_stages.proofs.Steps.{ends_told}
use Rattle.ijtag_stages.proofs.procedure.check_procedure.Goals as goal

pub returns-in-Err-clause-follows : goal.returns-in-Err-clause-follows
unfolding procedure
returns-in-Err-clause-follows c =
    let network = c.args.network.now in
    let procs = seen_procs c.args.procs.now in
    let name = c.args.name.now in
    let net = network.net in
    let named : EndsIn
    (bit_steps (map seen_proc c.as_slice.result.now) network.net network.form name).fault c.in-Err.fault =
    subst (λ (n : List ℕ). EndsIn (bit_steps (map seen_proc c.as_slice.result.now) network.net network.form
    n).fault c.in-Err.fault) c.as_bytes.ensures.value c.in-Err.ensures.refused in
    let ends : EndsIn (bit_steps procs network.net network.form name).fault c.in-Err.fault =
    subst (λ (ps : List Proc). EndsIn (bit_steps (map seen_proc ps) network.net network.form name).fault
    c.in-Err.fault) c.as_slice.ensures named in
    told_fault (procedure procs network name)
    (option_map (step_refusal net) (fault_of c.in-Err.fault)) c.refusal_of.result c.refusal_of.ensures
    (λ r told. ends_told (bit_steps procs network.net network.form name).fault net c.in-Err.fault r ends told)
