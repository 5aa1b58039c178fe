use Rattle.std.proofs.Common.{rules, sym, ◌∙◌, subst}
use Rattle.path_planner.specs.Scannable.{IsScannable}
use Rattle.path_planner.proofs.Starting.{start_scannable}
use Rattle.retargeter.proofs.retargeter.Retargeter.new.Goals as goal

pub of-requires-clause-holds : goal.of-requires-clause-holds
of-requires-clause-holds c =
    (subst (IsScannable c.args.net.now) (sym c.in_ok-holds.ensures)
    (start_scannable c.args.net.now c.args.tree.now c.requires.network.lawful)).widths

pub of-requires-clause-listed : goal.of-requires-clause-listed
of-requires-clause-listed c =
    (subst (IsScannable c.args.net.now) (sym c.in_ok-holds.ensures)
    (start_scannable c.args.net.now c.args.tree.now c.requires.network.lawful)).rows

pub invariant_of-result : goal.invariant_of-result
invariant_of-result c = (
  record {
    network = c.requires.network;
    device = c.requires.device;
    scannable = subst (IsScannable c.args.net.now) (sym (c.holds.view_is ∙ c.in_ok-holds.ensures))
        (start_scannable c.args.net.now c.args.tree.now c.requires.network.lawful);
  },
  search rules,
  search rules,
  search rules,
)
