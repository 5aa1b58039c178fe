use Rattle.pdl_parser.specs.Views.{seen_procs}
use Rattle.ijtag_work.proofs.Made.{plannable}
use Rattle.ijtag_core.proofs.run.can_be_run.Goals as goal

pub returns : goal.returns
returns c =
    let nested = c.requires.usable.nested in
    let net = c.args.it.now.network.net in
    let form = c.args.it.now.network.form in
    let procs = seen_procs c.args.procedure.now.procs in
    let name = c.args.procedure.now.name.items in
    record {
      network =
          record { well_formed = nested.well_formed; describes = nested.describes; lawful = nested.lawful };
      no_fault = c.requires.ends.ends;
      plannable =
          plannable c.bit_steps_are_of_the_network.ensures.steps c.bit_steps_are_of_the_network.ensures.paths
          c.procedures_are_plannable.ensures.steps procs net form name nested.well_formed nested.describes;
      few = record {
        few_steps = c.bit_steps_are_few.ensures.steps procs net form name;
        few_rounds = c.bit_steps_are_few.ensures.rounds procs net form name;
        few_cycles = c.bit_steps_are_few.ensures.cycles procs net form name;
      };
    }
