use Rattle.net_wave.proofs.Joined.{three}
use Rattle.net_wave.proofs.header.add_scope.Goals as goal

pub returns : goal.returns
returns c = three c.args.piece.now c.add.new.piece c.add_scope_name.new.piece c.add-2.new.piece _ _ _
    c.in_ok-add.ensures c.in_ok-add_scope_name.ensures c.in_ok-add-2.ensures
