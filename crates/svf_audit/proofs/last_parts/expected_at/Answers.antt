use Rattle.std.proofs.Common.{ap, sym, ◌∙◌, Some, true, false}
use Rattle.svf_audit.specs.LastParts.{seen_last}
use Rattle.svf_audit.proofs.Looking.{expected_given, is_there}
use Rattle.svf_audit.proofs.last_parts.expected_at.Goals as goal

pub returns-then-is_compared : goal.returns-then-is_compared
returns-then-is_compared c =
    ap Some c.get.ensures
    ∙ sym (expected_given c.args.kept.now.len c.args.k c.args.tdo.now (seen_last c.args.kept.now).mask true
    c.requires.tdo (is_there c.is_given.result c.args.tdo.now c.is_given.ensures c.if-not-is_given.false)
    c.requires.within (sym c.is_compared.ensures ∙ c.if-is_compared.true))

pub returns-else-is_compared : goal.returns-else-is_compared
returns-else-is_compared c =
    sym (expected_given c.args.kept.now.len c.args.k c.args.tdo.now (seen_last c.args.kept.now).mask false
    c.requires.tdo (is_there c.is_given.result c.args.tdo.now c.is_given.ensures c.if-not-is_given.false)
    c.requires.within (sym c.is_compared.ensures ∙ c.if-is_compared.false))
