use Rattle.std.proofs.Common.{◌++◌, ℕ, List, codes, ap, ◌∙◌}
use Rattle.std.proofs.lemmas.Result.{on_ok_weaker}
use Rattle.net_wave.proofs.Joined.{two}
use Rattle.net_wave.proofs.PinTexts.{rising_is}
use Rattle.net_wave.proofs.moments.add_rising.Goals as goal

pub returns : goal.returns
returns c =
    on_ok_weaker c.add-2.result
    (λ e. two c.args.piece.now c.add.new.piece c.add-2.new.piece c.args.digits.now
    (codes "\n1!\n") c.in_ok-add.ensures e
    ∙ ap (λ (l : List ℕ). c.args.piece.now ++ l) (rising_is c.args.clock c.args.digits.now c.requires.digits))
    c.add-2.ensures
