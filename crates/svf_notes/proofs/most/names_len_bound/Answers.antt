use Rattle.std.proofs.Common.{◌≡◌, ◌+◌, ◌*◌, ◌-◌, ◌^◌, ℕ, ap, arith}
use Rattle.std.specs.Prelude.{min}
use Rattle.svf_notes.proofs.Longest.{scaled}
use Rattle.svf_notes.proofs.most.names_len_bound.Goals as goal

pub returns : goal.returns
returns c =
    let rows = min c.args.bits c.args.regs in
    let each : c.saturating_add.result
    ≡ min (51 + c.args.name) (2 ^ 64 - 1) = omega (arith, c.saturating_add.ensures) in
    let all = ap (λ (k : ℕ). min (rows * k) (2 ^ 64 - 1)) each in
    let few : c.min.result ≡ rows = omega (arith, c.min.ensures) in
    let first = ap (λ (k : ℕ). min (k * c.saturating_add.result) (2 ^ 64 - 1)) few in
    omega (arith, scaled rows (51 + c.args.name), all, first, c.saturating_mul.ensures)
