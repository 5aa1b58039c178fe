-- The registers of a well formed network: each has a bit, and a capture signal for each of its bits.
use Rattle.std.proofs.Common.{◌≡◌, ℕ, zero, suc, ◌<◌, ◌≤◌, List, [], ◌∷◌, length, get_or, refl, ap, ◌∙◌}
use Rattle.std.proofs.Common.{arith}
use Rattle.std.specs.Prelude.{map, All}
use Rattle.std.proofs.lemmas.List.Elements.{All-head, All-tail}
use Rattle.net_graph.specs.declared.net.Net.{Net}
use Rattle.net_graph.specs.declared.net.Reg.{Reg}
use Rattle.net_graph.specs.Nets.{IsReg}

pub captures_wide : (net : Net) (regs : List Reg) → All (IsReg net) regs
    → map (λ reg. length reg.capture.items) regs ≡ map (λ reg. reg.width) regs
captures_wide net [] a = refl
captures_wide net (r ∷ rs) a =
    ap (λ n. n ∷ map (λ reg. length reg.capture.items) rs) (All-head (IsReg net) r rs a).captures
    ∙ ap (λ ns. r.width ∷ ns) (captures_wide net rs (All-tail (IsReg net) r rs a))

pub wide_at : (net : Net) (rs : List Reg) (k : ℕ) → All (IsReg net) rs → k < length rs
    → 1 ≤ get_or (map (λ reg. reg.width) rs) k 0
wide_at net [] k a l = absurd (omega (arith, l))
wide_at net (r ∷ rs) zero a l = (All-head (IsReg net) r rs a).at_least_one_bit
wide_at net (r ∷ rs) (suc k) a l = wide_at net rs k (All-tail (IsReg net) r rs a) (omega (arith, l))
