-- The nodes of a network by their paths and modules.
use Rattle.std.proofs.Common.{◌≡◌, ◌+◌, ℕ, suc, List, [], ◌∷◌, map, get_or, refl, sym, ap, ◌∙◌, arith}
use Rattle.std.specs.List.{enumerate_from}
use Rattle.ij_bits.specs.Room.{full}
use Rattle.icl_references.specs.Roles.{CellOf}
use Rattle.net_graph.specs.Nets.{path_of}
use Rattle.net_graph.specs.declared.net.Node.{Node}
use Rattle.icl_signals.specs.Connecting.{node_of, paths_from, nodes_of}
use Rattle.icl_signals.proofs.OneNumber.{path_back}
use Rattle.ij_bits.proofs.Lists.{tail_same}

head_is : {A : Type 0} (d : A) (x y : A) (xs ys : List A) → x ∷ xs ≡ y ∷ ys → x ≡ y
head_is d x y xs ys h = ap (λ l. get_or l 0 d) h

from : (paths : List (List (List ℕ))) (s : ℕ) (ns : List Node) (cells : List CellOf)
    → ((i : ℕ) → get_or paths (s + i) [] ≡ get_or (map path_of ns) i [])
    → map (λ n. n.«module».items) ns ≡ map (λ c. c.module_name) cells
    → ns ≡ map (node_of paths) (enumerate_from s cells)
from paths s [] [] p m = refl
from paths s [] (c ∷ cells) p m = absurd cc
from paths s (n ∷ ns) [] p m = absurd cc
from paths s (n ∷ ns) (c ∷ cells) p m =
    let e : s ≡ s + 0 = omega arith in
    let path : path_of n ≡ get_or paths s [] = sym (ap (λ k. get_or paths k []) e ∙ p 0) in
    let name = head_is n.«module».items n.«module».items c.module_name
    (map (λ k. k.«module».items) ns) (map (λ d. d.module_name) cells) m in
    let rest = from paths (s + 1) ns cells (λ i. let k : s + 1 + i ≡ s + suc i = omega arith in
    ap (λ j. get_or paths j []) k ∙ p (suc i)) (tail_same n.«module».items c.module_name
    (map (λ k. k.«module».items) ns) (map (λ d. d.module_name) cells) m) in
    ap (λ q. record { path = full q; «module» = n.«module» } ∷ ns)
    (sym (path_back n.path.items) ∙ ap (map full) path)
    ∙ ap (λ q. record { path = full (map full (get_or paths s [])); «module» = full q } ∷ ns) name
    ∙ ap (λ l. node_of paths (s, c) ∷ l) rest

pub nodes_are : (ns : List Node) (cells : List CellOf) → map path_of ns ≡ paths_from [] cells
    → map (λ n. n.«module».items) ns ≡ map (λ c. c.module_name) cells → ns ≡ nodes_of cells
nodes_are ns cells p m = from (paths_from [] cells) 0 ns cells (λ i. let z : 0 + i ≡ i = omega arith in
    ap (λ k. get_or (paths_from [] cells) k []) z ∙ ap (λ l. get_or l i []) (sym p)) m
