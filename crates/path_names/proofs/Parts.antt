-- The paths of a network, by their parts.
use Rattle.std.proofs.Common.{◌≡◌, ℕ, ◌<◌, ◌≤◌, List, [], ◌++◌, length, take, drop, ◌-◌, map, ap, sym, ◌∙◌}
use Rattle.std.proofs.Common.{arith}
use Rattle.std.specs.Prelude.{get_or}
use Rattle.std.specs.List.{flat_map}
use Rattle.std.proofs.Math.Seq.{drop-cons}
use Rattle.std.proofs.lemmas.List.{take_all, length-drop}
use Rattle.ij_bits.specs.Room.{Listed}
use Rattle.net_graph.specs.declared.net.Net.{Net}
use Rattle.net_graph.specs.PathNames.{with_dot, after_dot, joined, node_names, thing_path, mux_path}

pub thing_is : (net : Net) (t : ℕ) (names : List (Listed ℕ)) (name : List ℕ) (n : ℕ)
    → n ≡ get_or (map (λ thing. thing.node) net.things.items) t 0 → names ≡ node_names net n
    → name ≡ get_or (map (λ thing. thing.name.items) net.things.items) t []
    → flat_map with_dot names ++ name ≡ thing_path net t
thing_is net t names name n node path own =
    ap (λ (ns : List (Listed ℕ)). flat_map with_dot ns ++ name) (path ∙ ap (node_names net) node)
    ∙ ap (λ (x : List ℕ). flat_map with_dot
    (node_names net (get_or (map (λ thing. thing.node) net.things.items) t 0)) ++ x) own

pub mux_is : (net : Net) (m : ℕ) (names : List (Listed ℕ)) (name : List ℕ) (n : ℕ)
    → n ≡ get_or (map (λ mux. mux.node) net.muxes.items) m 0 → names ≡ node_names net n
    → name ≡ get_or (map (λ mux. mux.name.items) net.muxes.items) m []
    → flat_map with_dot names ++ name ≡ mux_path net m
mux_is net m names name n node path own =
    ap (λ (ns : List (Listed ℕ)). flat_map with_dot ns ++ name) (path ∙ ap (node_names net) node)
    ∙ ap (λ (x : List ℕ). flat_map with_dot
    (node_names net (get_or (map (λ mux. mux.node) net.muxes.items) m 0)) ++ x) own

pub joined_is : (names : List (Listed ℕ)) (first : Listed ℕ) → 1 ≤ length names → first ≡ get_or names 0 first
    → first.items ++ flat_map after_dot (take (length names - 1) (drop 1 names)) ≡ joined names
joined_is names first some is =
    let within : 0 < length names = omega arith in
    let rest : length (drop 1 names) ≤ length names - 1 = omega (arith, length-drop 1 names) in
    ap (λ (ns : List (Listed ℕ)). first.items ++ flat_map after_dot ns)
    (take_all (length names - 1) (drop 1 names) rest)
    ∙ sym (ap joined (drop-cons names 0 first within)
    ∙ ap (λ (x : Listed ℕ). x.items ++ flat_map after_dot (drop 1 names)) (sym is))
