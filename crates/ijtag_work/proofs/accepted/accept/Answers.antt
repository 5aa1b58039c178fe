use Rattle.std.specs.Prelude.{Err}
use Rattle.std.proofs.Common.{◌≡◌, ◌∙◌, rules, sym, subst}
use Rattle.ijtag_stages.specs.Follows.{Follows}
use Rattle.ijtag_work.specs.Accepted.{Texts, accepted}
use Rattle.ijtag_work.specs.Using.{IsShort, seen_accepted, seen_named}
use Rattle.ijtag_work.proofs.Accepting.{all_given, if_mapped, there_mapped, svf_refused, network_refused}
use Rattle.ijtag_work.proofs.Accepting.{fit_refused, procedure_refused}
use Rattle.ijtag_work.proofs.accepted.accept.Goals as goal

pub returns-in_err-commands-clause-follows : goal.returns-in_err-commands-clause-follows
returns-in_err-commands-clause-follows c =
    let t : Texts = seen_named c.args.texts.now in
    let is : c.from_residual-in_err-commands.result ≡ Err c.in_err-commands.field-0.0 = search rules in
    subst (Follows (accepted t) seen_accepted) (sym is)
    (svf_refused t _ c.in_ok-modules.ensures.follows _ c.in_ok-device.ensures.follows _
    c.in_ok-tables.ensures.follows c.in_err-commands.field-0.0 c.in_err-commands.ensures.follows)

pub returns-in_err-network-clause-follows : goal.returns-in_err-network-clause-follows
returns-in_err-network-clause-follows c =
    let t : Texts = seen_named c.args.texts.now in
    let is : c.from_residual-in_err-network.result ≡ Err c.in_err-network.field-0.0 = search rules in
    subst (Follows (accepted t) seen_accepted) (sym is)
    (network_refused t _ c.in_ok-modules.ensures.follows _
    c.in_ok-device.ensures.follows _ c.in_ok-tables.ensures.follows
    _ c.in_ok-commands.ensures.follows c.in_err-network.field-0.0 c.in_err-network.ensures.follows)

pub returns-in_err-models-clause-follows : goal.returns-in_err-models-clause-follows
returns-in_err-models-clause-follows c =
    let t : Texts = seen_named c.args.texts.now in
    let is : c.from_residual-in_err-models.result ≡ Err c.in_err-models.field-0.0 = search rules in
    subst (Follows (accepted t) seen_accepted) (sym is)
    (fit_refused t _ c.in_ok-modules.ensures.follows _
    c.in_ok-device.ensures.follows _ c.in_ok-tables.ensures.follows
    _ c.in_ok-commands.ensures.follows _ c.in_ok-network.ensures.follows
    c.in_err-models.field-0.0 c.in_err-models.ensures.follows)

pub returns-in_err-procedure-clause-follows : goal.returns-in_err-procedure-clause-follows
returns-in_err-procedure-clause-follows c =
    let t : Texts = seen_named c.args.texts.now in
    let is : c.from_residual-in_err-procedure.result ≡ Err c.in_err-procedure.field-0.0 = search rules in
    subst (Follows (accepted t) seen_accepted) (sym is)
    (procedure_refused t _ c.in_ok-modules.ensures.follows _
    c.in_ok-device.ensures.follows _ c.in_ok-tables.ensures.follows
    _ c.in_ok-commands.ensures.follows _ c.in_ok-network.ensures.follows _ c.in_ok-models.ensures.follows
    c.in_err-procedure.field-0.0 c.in_err-procedure.ensures.follows)

pub returns-clause-follows : goal.returns-clause-follows
returns-clause-follows c =
    all_given (seen_named c.args.texts.now) _ c.in_ok-modules.ensures.follows _
    c.in_ok-device.ensures.follows _ c.in_ok-tables.ensures.follows
    _ c.in_ok-commands.ensures.follows _ c.in_ok-network.ensures.follows _
    c.in_ok-models.ensures.follows _ c.in_ok-procedure.ensures.follows

pub returns-clause-can : goal.returns-clause-can
returns-clause-can c =
    let texts = c.args.texts.now in
    record {
      usable = record {
        nested = c.in_ok-network.ensures.nested;
        device = c.in_ok-device.ensures.valid;
        models = c.in_ok-models.ensures.models;
        short = if_mapped _ IsShort texts.svf c.requires.svf;
        read = c.in_ok-commands.ensures.read;
        commands = c.in_ok-commands.ensures.playable;
        procedure = c.in_ok-procedure.ensures.ends;
      };
      models = c.in_ok-models.ensures.given
          ∙ (c.in_ok-tables.ensures.given ∙ sym (there_mapped _ texts.tables));
      svf = sym (there_mapped _ texts.svf);
      commands = c.in_ok-commands.ensures.given ∙ sym (there_mapped _ texts.svf);
      procedure = c.in_ok-procedure.ensures.given ∙ sym (there_mapped _ texts.pdl);
    }
