use Rattle.std.proofs.Common.{◌≤◌, ℕ, nat_lt, IsTrue, arith}
use Rattle.std.proofs.lemmas.Bool.Decides.{nat_tests}
use Rattle.ij_text.proofs.Widths.{shifted, beyond}
use Rattle.ij_text.proofs.fitting.is_wide_decimal.Goals as goal

pub returns-then-width-lt128 : goal.returns-then-width-lt128
returns-then-width-lt128 c = shifted c.args.n c.args.width

no_less : (w : ℕ) → 128 ≤ w → IsTrue (nat_lt w 128) → ⊥
no_less w le h = grind (arith, nat_tests)

pub returns-else-width-lt128 : goal.returns-else-width-lt128
returns-else-width-lt128 c = (
  λ h. absurd (no_less c.args.width c.if-width-lt128.false h),
  λ h. absurd (beyond c.args.n c.args.width c.ranges.n.fits c.if-width-lt128.false h),
)
