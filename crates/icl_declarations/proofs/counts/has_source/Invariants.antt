use Rattle.std.proofs.Common.{◌≡◌, map, drop}
use Rattle.std.specs.List.{list_any}
use Rattle.icl_lexer.specs.Views.{seen_prop}
use Rattle.icl_declarations.specs.Parts.{is_source}
use Rattle.icl_declarations.proofs.counts.has_source.Given as goal

abbrev pub invariant-loop-prop : goal.invariant-loop-prop
invariant-loop-prop l = list_any is_source (map seen_prop (drop l.prop-index l.props))
    ≡ list_any is_source (map seen_prop l.props)
