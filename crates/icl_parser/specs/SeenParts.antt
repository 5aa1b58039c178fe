-- What the functions that read bodies and items give, without where it lies in memory.
use Rattle.std.specs.Option.{option_map}
use Rattle.icl_lexer.specs.Grammar.{AttributeSaid}
use Rattle.icl_lexer.specs.Modules.{BindBegin, ItemBegin, Selected}
use Rattle.icl_lexer.specs.Views.{seen_expr}
use Rattle.icl_parser.specs.declared.bodies.Said.{Said}
use Rattle.icl_parser.specs.declared.items.BindBegin.{BindBegin as BindStart}
use Rattle.icl_parser.specs.declared.links.Selected.{Selected as SelectedNames}
use Rattle.icl_parser.specs.declared.modules.ItemBegin.{ItemBegin as ItemStart}

abbrev pub seen_said : Said → AttributeSaid
seen_said a = record { name = a.name.items; value = option_map seen_expr a.value }

abbrev pub seen_bind_begin : BindStart → BindBegin
seen_bind_begin b = record { at = b.at; word = b.word }

abbrev pub seen_item_begin : ItemStart → ItemBegin
seen_item_begin b = record { at = b.at; word = b.word }

abbrev pub seen_selected : SelectedNames → Selected
seen_selected s = record { cell = s.cell.items; interface = s.interface.items }
