use Rattle.std.proofs.Common.{◌≡◌, drop, map}
use Rattle.icl_lexer.specs.Views.{seen_prop}
use Rattle.icl_lexer.specs.Grammar.{stands}
use Rattle.icl_parser.proofs.bodies.stands.Given as goal

abbrev pub invariant-loop-prop : goal.invariant-loop-prop
invariant-loop-prop l = stands l.word (map seen_prop (drop l.prop-index l.props))
    ≡ stands l.word (map seen_prop l.props)
