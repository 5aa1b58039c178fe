-- The scopes of a wave's variables are the instance paths of what they show, where the nodes of the network
-- are in preorder (IEEE 1687-2014, ICL: Instance; IEEE 1364-2005, 18.2.3: $scope).
use Rattle.std.specs.Prelude.{◌≡◌, ◌<◌, ◌≤◌, ℕ, suc, codes, List, [], ◌∷◌, ◌++◌, get_or, length, map, take}
use Rattle.instruments.specs.Seen.{SeenModel}
use Rattle.net_graph.specs.declared.net.Net.{Net}
use Rattle.net_graph.specs.Nets.{IsNet, path_of}
use Rattle.net_wave.specs.declared.var.Var.{Var}
use Rattle.net_wave.specs.declared.var.Var.TheVariants.{Update, Shift, OnPath, Row, Input, Output, Word}
use Rattle.net_wave.specs.declared.var.WaveKind.{WaveKind}
use Rattle.net_wave.specs.Header.{mux_name, register_name}
use Rattle.net_wave.specs.Laws.{scopes_from}
use Rattle.net_wave.specs.Vars.{inst_node, items, mux_node, register_node, vars}

-- the instance names of a node below the top
abbrev pub path_at : Net → ℕ → List (List ℕ)
path_at net k = get_or (map path_of net.nodes.items) k []

-- a path that comes next in preorder: a front of the one before, or all of it, and a name
pub record Follows (before now : List (List ℕ)) : Type 0 where
  pub kept : ℕ
  pub name : List ℕ
  pub within : kept ≤ length before
  pub is : now ≡ take kept before ++ name ∷ []

abbrev pub IsPreorder : Net → Type 0
IsPreorder net = (k : ℕ) → suc k < length net.nodes.items → Follows (path_at net k) (path_at net (suc k))

-- scopes with those of some names inside, the innermost first
abbrev pub inside : List (List ℕ) → List (List ℕ) → List (List ℕ)
inside scopes [] = scopes
inside scopes (name ∷ names) = inside (name ∷ scopes) names

abbrev pub node_scopes : Net → List ℕ → ℕ → List (List ℕ)
node_scopes net top k = inside (top ∷ []) (path_at net k)

-- a register and a multiplexer have a scope of their own, and so have the words of an instrument
abbrev pub scopes_of : Net → List ℕ → Var → List (List ℕ)
scopes_of net top (Update r) = register_name net r ∷ node_scopes net top (register_node net r)
scopes_of net top (Shift r) = register_name net r ∷ node_scopes net top (register_node net r)
scopes_of net top (OnPath r) = register_name net r ∷ node_scopes net top (register_node net r)
scopes_of net top (Row m) = mux_name net m ∷ node_scopes net top (mux_node net m)
scopes_of net top (Input i p) = node_scopes net top (inst_node net i)
scopes_of net top (Output i p) = node_scopes net top (inst_node net i)
scopes_of net top (Word i w) = codes "words" ∷ node_scopes net top (inst_node net i)
scopes_of net top _ = top ∷ []

abbrev pub ScopesArePaths : Type 0
ScopesArePaths =
    (kind : WaveKind) (net : Net) (models : List SeenModel) (top : List ℕ) → IsNet net → IsPreorder net
    → scopes_from net (top ∷ []) (items kind net models) ≡ map (scopes_of net top) (vars kind net models)
