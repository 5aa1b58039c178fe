use Rattle.std.specs.List.{list_any}
use Rattle.pdl_targets.specs.Rows.{excluded_at}
use Rattle.pdl_targets.proofs.Tables.{all_before, full_word, open_at, open_before}
use Rattle.pdl_targets.proofs.rows.RowSets.first_open_round.Goals as goal

pub returns-in-Some-clause-before : goal.returns-in-Some-clause-before
returns-in-Some-clause-before c j below =
    open_before (λ i. list_any (λ b. excluded_at c.args.self.now b i) c.args.branches.now)
    c.excluded_word.result c.loop-w.w c.in-Some.k c.args.rounds c.min.result j
    c.loop-w.invariant c.excluded_word.ensures c.in-Some.ensures.some c.min.ensures below

pub returns-in-Some-clause-at : goal.returns-in-Some-clause-at
returns-in-Some-clause-at c inside =
    open_at (λ i. list_any (λ b. excluded_at c.args.self.now b i) c.args.branches.now) c.excluded_word.result
    c.loop-w.w c.in-Some.k c.args.rounds c.min.result
    c.excluded_word.ensures c.in-Some.ensures.some c.min.ensures inside

pub loop-w-preserved : goal.loop-w-preserved
loop-w-preserved c j below =
    full_word (λ i. list_any (λ b. excluded_at c.args.self.now b i) c.args.branches.now)
    c.excluded_word.result c.loop-w.w j
    c.loop-w.invariant c.excluded_word.ensures c.in_default.ensures.none below

pub returns-clause-before : goal.returns-clause-before
returns-clause-before c j below =
    all_before (λ i. list_any (λ b. excluded_at c.args.self.now b i) c.args.branches.now)
    c.args.rounds c.div_ceil-w-end.result c.loop-w.w j
    c.loop-w.invariant c.div_ceil-w-end.ensures c.loop-w-test.false below
