use Rattle.std.proofs.Common.{◌≡◌, ◌++◌, map}
use Rattle.net_wave.specs.Vars.{up_to, inst_item}
use Rattle.instruments.specs.Seen.{seen_model}
use Rattle.net_wave.proofs.items.add_insts.Given as goal

abbrev pub invariant-loop-inst : goal.invariant-loop-inst
invariant-loop-inst l = l.items.items
    ≡ l.fn.items.items ++ up_to (inst_item l.net (map seen_model l.models.items) l.node) l.inst
