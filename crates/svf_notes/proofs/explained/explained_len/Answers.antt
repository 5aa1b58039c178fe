use Rattle.std.proofs.Common.{◌≡◌, ◌-◌, ◌^◌, ℕ, List, length, map, subst}
use Rattle.std.specs.Prelude.{IfOk, min}
use Rattle.instruments.specs.Seen.{seen_model}
use Rattle.svf_notes.proofs.Filing.{start_text}
use Rattle.svf_notes.proofs.explained.explained_len.Goals as goal

pub returns : goal.returns
returns c =
    let a = c.args in
    let is = c.in_ok-playing.ensures in
    subst (λ (text : List ℕ). IfOk c.text_len.result (λ n. n ≡ min (length text) (2 ^ 64 - 1)))
    (start_text c.in_ok-playing.playing a.net.now a.device.now (map seen_model a.models.now.items)
    a.commands.now a.src.now is.net is.device is.scans) c.text_len.ensures
