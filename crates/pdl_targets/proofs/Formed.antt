-- What a well formed network has: things of their widths, few registers, short registers.
use Rattle.std.proofs.Common.{◌≡◌, ℕ, ◌+◌, ◌^◌, ◌<◌, ◌≤◌, List, [], ◌∷◌, ◌++◌, length, map, Option, Some}
use Rattle.std.proofs.Common.{None, sym, subst, arith}
use Rattle.std.specs.Prelude.{All, sum}
use Rattle.std.proofs.lemmas.List.Sums.{sum_by-cons}
use Rattle.std.proofs.lemmas.List.Elements.{All-head, All-tail, All-cons, All-nil}
use Rattle.net_graph.specs.declared.net.Net.{Net}
use Rattle.net_graph.specs.declared.net.Reg.{Reg}
use Rattle.net_graph.specs.declared.net.Thing.{Thing}
use Rattle.net_graph.specs.Nets.{IsNet, IsReg, IsThing}
use Rattle.pdl_expand.specs.Values.{cells_of}
use Rattle.pdl_expand.specs.Expansion.{but_last, cell, cell_at, dotted, last}
use Rattle.pdl_targets.specs.Targets.{thing_at, thing_of}
use Rattle.pdl_targets.proofs.Bits.{OfOption, found_thing}

pub thing_formed : (net : Net) → IsNet net → (node : ℕ) (path : List (List ℕ)) (t : Thing)
    → Some t ≡ thing_at net node path → IsThing net t
thing_formed net is_net node path t e = subst (OfOption (IsThing net)) (sym e)
    (in_cell (cell_at (cells_of net) ((cell (cells_of net) node).path ++ but_last path)))
  where
    in_cell : (o : Option ℕ) → OfOption (IsThing net) (thing_of net o (last path))
    in_cell None = tt
    in_cell (Some n) = found_thing (IsThing net) net.things.items n (last path) is_net.things

few_of : (net : Net) (regs : List Reg) → All (IsReg net) regs
    → length regs ≤ sum (map (λ reg. reg.width) regs)
few_of net [] h = omega arith
few_of net (r ∷ rs) h =
    let one = All-head (IsReg net) r rs h in
    let e : sum (map (λ reg. reg.width) (r ∷ rs))
    ≡ r.width + sum (map (λ reg. reg.width) rs) = sum_by-cons (λ x. x) r.width (map (λ reg. reg.width) rs) in
    omega (arith, e, one.at_least_one_bit, few_of net rs (All-tail (IsReg net) r rs h))

pub few_regs : (net : Net) → IsNet net → length net.regs.items < 2 ^ 32
few_regs net is_net = omega (arith, few_of net net.regs.items is_net.regs, is_net.bits_within_limit)

short_of : (net : Net) (regs : List Reg) → All (IsReg net) regs → sum (map (λ reg. reg.width) regs) ≤ 4096
    → All (λ reg. length reg.capture.items < 2 ^ 32) regs
short_of net [] h s = All-nil (λ reg. length reg.capture.items < 2 ^ 32)
short_of net (r ∷ rs) h s =
    let one = All-head (IsReg net) r rs h in
    let e : sum (map (λ reg. reg.width) (r ∷ rs)) ≡ r.width + sum (map (λ reg. reg.width) rs) =
    sum_by-cons (λ x. x) r.width (map (λ reg. reg.width) rs) in
    All-cons (λ reg. length reg.capture.items < 2 ^ 32) r rs (omega (arith, e, one.captures, s))
    (short_of net rs (All-tail (IsReg net) r rs h) (omega (arith, s)))

pub short_regs : (net : Net) → IsNet net → All (λ reg. length reg.capture.items < 2 ^ 32) net.regs.items
short_regs net is_net = short_of net net.regs.items is_net.regs is_net.bits_within_limit
