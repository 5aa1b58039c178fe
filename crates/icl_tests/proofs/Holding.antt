-- Update stages whose registers have their bits.
use Rattle.std.proofs.Common.{◌≡◌, ◌<◌, Bool, length, get_or, sym, ap, ◌∙◌, arith}
use Rattle.std.specs.Prelude.{map}
use Rattle.std.proofs.lemmas.List.{get_or-map}
use Rattle.net_graph.specs.declared.net.BitId.{BitId}
use Rattle.net_graph.specs.declared.net.Net.{Net}
use Rattle.net_graph.specs.declared.net.Reg.{Reg}
use Rattle.net_graph.specs.Held.{AreHolds, set_hold}
use Rattle.net_graph.specs.Named.{IsBitOf}
use Rattle.net_graph.specs.Signals.{Holds}
use Rattle.net_graph.proofs.Writing.{set_hold-shape}

-- a position below the width of a register is a bit of the network
pub is_bit : (net : Net) (b : BitId) (reg : Reg) → b.reg < length net.regs.items
    → reg ≡ get_or net.regs.items b.reg reg → b.pos < reg.width → IsBitOf net b
is_bit net b reg l e p =
    let wide : get_or (map (λ reg. reg.width) net.regs.items) b.reg 0 ≡ reg.width =
    get_or-map (λ reg. reg.width) net.regs.items b.reg reg 0 l ∙ ap (λ reg. reg.width) (sym e) in
    omega (arith, wide, p)

pub set_held : (net : Net) (holds after : Holds) (b : BitId) (v : Bool) → AreHolds net holds
    → after ≡ set_hold holds b v → AreHolds net after
set_held net holds after b v h e = ap (map length) e ∙ set_hold-shape holds b v ∙ h
