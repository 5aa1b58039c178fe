use Rattle.icl_declarations.proofs.Sizes.{size_after}
use Rattle.icl_declarations.specs.Tables.{seen_table}
use Rattle.icl_declarations.proofs.sized.size_of.Goals as goal

pub returns-then-first-eq36 : goal.returns-then-first-eq36
returns-then-first-eq36 c = rw (size_after (seen_table c.args.params.now) c.args.at c.args.text.now
    c.in-len1-up.len_at_least c.if-first-eq36.true) c.parameter_size.ensures
