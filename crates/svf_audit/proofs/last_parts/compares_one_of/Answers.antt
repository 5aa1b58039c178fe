use Rattle.std.proofs.Common.{◌≡◌, ◌+◌, ◌-◌, ◌==◌, ap, sym, ◌∙◌, arith, true, [], take, drop}
use Rattle.std.specs.Prelude.{not, replicate, slice_range, unwrap_or}
use Rattle.ij_bits.specs.BitLists.{has_one}
use Rattle.svf_writer.specs.Lent.{lent}
use Rattle.svf_audit.proofs.Looking.{ones_some}
use Rattle.ij_bits.proofs.Hex.{number_zero}
use Rattle.svf_audit.proofs.last_parts.compares_one_of.Goals as goal

pub returns-in-Some : goal.returns-in-Some
returns-in-Some c =
    let k = c.args.kept.now in
    let to = c.args.from + c.args.n in
    ap (λ x. not (x == 0)) c.number.ensures
    ∙ number_zero (slice_range (unwrap_or c.in-Some.mask.now []) c.args.from to)
    ∙ ap (λ o. has_one (slice_range (unwrap_or (lent o) (replicate k.len true)) c.args.from to))
    (sym c.in-Some.is)

pub returns-in-None : goal.returns-in-None
returns-in-None c =
    let k = c.args.kept.now in
    let to = c.args.from + c.args.n in
    let size : c.args.n ≡ to - c.args.from = omega arith in
    sym (ones_some k.len c.args.from c.args.n c.requires.within)
    ∙ ap (λ x. has_one (take x (drop c.args.from (replicate k.len true)))) size
    ∙ ap (λ o. has_one (slice_range (unwrap_or (lent o) (replicate k.len true)) c.args.from to))
    (sym c.in-None.is)
