-- The bits of writes and reads are bits of the network.
use Rattle.std.proofs.Common.{◌≡◌, List, sym, subst}
use Rattle.std.specs.Prelude.{All}
use Rattle.net_graph.specs.declared.net.Net.{Net}
use Rattle.net_graph.specs.declared.step.ReadBit.{ReadBit}
use Rattle.net_graph.specs.declared.step.WriteBit.{WriteBit}
use Rattle.net_graph.specs.Named.{IsBitOf}
use Rattle.net_graph.specs.Signals.{capture_signal}
use Rattle.net_graph.specs.Steps.{IsDataBit, IsReadable}
use Rattle.pdl_targets.specs.Laws.{OfFound}
use Rattle.pdl_targets.specs.Targets.{Found, Is}

pub written_there : (net : Net) (found : Found (List WriteBit)) (ws s : List WriteBit)
    → OfFound (All (λ w. IsDataBit net w.bit)) found → found ≡ Is ws → s ≡ ws → All (λ w. IsBitOf net w.bit) s
written_there net found ws s h e same k d l =
    let P : Found (List WriteBit) → Type 0 = OfFound (All (λ w. IsDataBit net w.bit)) in
    let all : All (λ w. IsDataBit net w.bit) ws = subst P e h in
    let Q : List WriteBit → Type 0 = All (λ w. IsDataBit net w.bit) in
    let there : All (λ w. IsDataBit net w.bit) s = subst Q (sym same) all in
    (there k d l).there

pub read_there : (net : Net) (found : Found (List ReadBit)) (rs s : List ReadBit)
    → OfFound (All (λ r. IsDataBit net r.bit × IsReadable net (capture_signal net r.bit))) found
    → found ≡ Is rs → s ≡ rs → All (λ r. IsBitOf net r.bit) s
read_there net found rs s h e same k d l =
    let P : Found (List ReadBit)
    → Type 0 = OfFound (All (λ r. IsDataBit net r.bit × IsReadable net (capture_signal net r.bit))) in
    let all : All (λ r. IsDataBit net r.bit × IsReadable net (capture_signal net r.bit)) rs = subst P e h in
    let Q : List ReadBit
    → Type 0 = All (λ r. IsDataBit net r.bit × IsReadable net (capture_signal net r.bit)) in
    let there : All (λ r. IsDataBit net r.bit × IsReadable net (capture_signal net r.bit)) s =
    subst Q (sym same) all in
    (there k d l).0.there
