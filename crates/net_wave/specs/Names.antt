-- Bytes that the names of a wave's declarations don't have.
use Rattle.std.specs.Prelude.{◌≢◌, ℕ, List, All}
use Rattle.instruments.specs.Seen.{SeenModel}
use Rattle.net_graph.specs.declared.net.Net.{Net}
use Rattle.net_wave.specs.declared.var.Item.{Item}
use Rattle.net_wave.specs.declared.var.Item.TheVariants.{Open, Declare, Close}
use Rattle.net_wave.specs.declared.var.WaveKind.{WaveKind}
use Rattle.net_wave.specs.Header.{scope_name, var_name}
use Rattle.net_wave.specs.Vars.{items}

abbrev pub Without : ℕ → List ℕ → Type 0
Without b name = All (λ x. x ≢ b) name

-- the name of a scope or a variable that is declared
abbrev pub NamedWithout : ℕ → Net → List SeenModel → Item → Type 0
NamedWithout b net models (Open s) = Without b (scope_name net s)
NamedWithout b net models (Declare v) = Without b (var_name net models v)
NamedWithout b net models Close = Unit {0}

-- all names that are declared, that of the top with them
pub record NamesWithout (b : ℕ) (kind : WaveKind) (net : Net)
    (models : List SeenModel) (top : List ℕ) : Type 0 where
  pub outermost : Without b top
  pub others : All (NamedWithout b net models) (items kind net models)
