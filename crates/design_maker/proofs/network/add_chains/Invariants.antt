use Rattle.std.proofs.Common.{◌≡◌, ◌+◌, ◌++◌, drop}
use Rattle.design_maker.specs.Network.{chain_items}
use Rattle.design_maker.specs.Numbered.{numbered}
use Rattle.design_maker.specs.Parts.{seen_items}
use Rattle.design_maker.proofs.network.add_chains.Given as goal

abbrev pub invariant-loop-i : goal.invariant-loop-i
invariant-loop-i l =
    seen_items l.items ++ numbered chain_items (l.i + 1) (drop l.i l.instruments.items)
    ≡ seen_items l.fn.items ++ numbered chain_items 1 l.instruments.items
