use Rattle.std.proofs.Common.{ap, ◌∙◌}
use Rattle.std.specs.Option.{option_map}
use Rattle.icl_declarations.specs.Values.{seen_value}
use Rattle.icl_declarations.proofs.ParamLists.{found, map_twice}
use Rattle.icl_declarations.proofs.params.ParamTable.find.Goals as goal

pub returns : goal.returns
returns c = map_twice (λ x. x.now) seen_value c.get.result ∙ ap (option_map seen_value) c.get.ensures.value
    ∙ found (λ k. k.items) seen_value c.args.name.now c.args.self.now.table.entries
