use Rattle.std.proofs.Common.{◌∙◌, arith}
use Rattle.ijtag_stages.specs.NetNames.{index_of}
use Rattle.ijtag_stages.proofs.Parts.{got}
use Rattle.ijtag_stages.proofs.net_names.bit_index.Goals as goal

pub returns-then-thing-len : goal.returns-then-thing-len
returns-then-thing-len c =
    c.index_of.ensures
    ∙ got (index_of c.args.pos) c.args.net.now.things.items c.args.thing c.get.result.now 0
    (omega (arith, c.if-thing-len.true, c.len.ensures)) c.get.ensures
