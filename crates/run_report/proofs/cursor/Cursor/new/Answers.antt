use Rattle.std.proofs.Common.{refl}
use Rattle.run_report.proofs.Standing.{first_cursor}
use Rattle.run_report.proofs.cursor.Cursor.new.Goals as goal

pub returns-clause-cursor : goal.returns-clause-cursor
returns-clause-cursor c =
    first_cursor c.args.net.now c.args.tree.now _ _ c.in_ok-steps_of.ensures c.requires.can
    c.in_ok-holds.ensures c.in_ok-route.ensures.room c.new-2.ensures refl refl
