-- The scans among commands are counted one command at a time.
use Rattle.std.proofs.Common.{◌≡◌, ℕ, ◌+◌, ◌<◌, List, [], ◌∷◌, length, drop, sym, ap, ◌∙◌, arith}
use Rattle.std.specs.Prelude.{get_or}
use Rattle.std.proofs.lemmas.List.{at_drop_more}
use Rattle.svf_writer.specs.SeenCommands.{SIR, SDR, Reset, Idle, Run, SeenCommand}
use Rattle.tap_machine.specs.Play.{scans_in}

pub scans_first : (c : SeenCommand) (cs : List SeenCommand)
    → scans_in (c ∷ cs) ≡ scans_in (c ∷ []) + scans_in cs
scans_first (SIR s) cs = omega arith
scans_first (SDR s) cs = omega arith
scans_first Reset cs = omega arith
scans_first Idle cs = omega arith
scans_first (Run n) cs = omega arith

pub scans_next : (cs : List SeenCommand) (i : ℕ) (c : SeenCommand) → i < length cs → c ≡ get_or cs i c
    → scans_in (drop i cs) ≡ scans_in (c ∷ []) + scans_in (drop (i + 1) cs)
scans_next cs i c within is =
    at_drop_more scans_in cs i c within
    ∙ ap (λ d. scans_in (d ∷ drop (i + 1) cs)) (sym is) ∙ scans_first c (drop (i + 1) cs)
