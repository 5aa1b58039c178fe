use Rattle.std.proofs.Common.{◌++◌, ◌∙◌, List, ap}
use Rattle.std.proofs.lemmas.Result.{on_ok_weaker}
use Rattle.svf_notes.specs.declared.scan.Shifted.{Shifted}
use Rattle.svf_notes.proofs.Shifting.{piece_is}
use Rattle.svf_notes.proofs.scan.add_bits.Goals as goal

pub returns : goal.returns
returns c =
    on_ok_weaker c.append.result (λ e. e ∙ ap (λ (l : List Shifted). c.args.bits.now.items ++ l)
    (piece_is c.args.played.now.piece c.args.played.now.found)) c.append.ensures
