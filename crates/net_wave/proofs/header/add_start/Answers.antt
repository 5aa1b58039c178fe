use Rattle.net_wave.proofs.Joined.{three}
use Rattle.net_wave.proofs.header.add_start.Goals as goal

pub returns : goal.returns
returns c = three c.args.piece.now c.add.new.piece c.add_top.new.piece c.add-2.new.piece _ _ _
    c.in_ok-add.ensures c.in_ok-add_top.ensures c.in_ok-add-2.ensures
