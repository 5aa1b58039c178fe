-- Bits of a named thing that follow one another: what the lists in runs of ij_runs ask of them.
use Rattle.std.specs.Prelude.{◌≡◌, ◌+◌, ◌-◌, ◌^◌, ℕ, refl}
use Rattle.std.proofs.Common.{ap, arith}
use Rattle.net_graph.specs.declared.net.BitId.{BitId}
use Rattle.net_graph.specs.declared.net.Sig.{Sig}
use Rattle.net_graph.specs.declared.net.Sig.TheVariants.{Absent, Zero, One, Bit, Out}
use Rattle.net_graph.specs.declared.net.Spot.{Spot}
use Rattle.net_graph.specs.declared.net.Spot.TheVariants.{Held, Inward, Outward}

-- the bit this many positions after one
abbrev pub bit_after : ℕ → BitId → BitId
bit_after n b = record { reg = b.reg; pos = b.pos + n }

-- the signal this many positions after one; the same constant, or none
abbrev pub sig_after : ℕ → Sig → Sig
sig_after n (Bit b inverted) = Bit (bit_after n b) inverted
sig_after n (Out inst port pos inverted) = Out inst port (pos + n) inverted
sig_after n sig = sig

abbrev pub spot_after : ℕ → Spot → Spot
spot_after n (Held b) = Held (bit_after n b)
spot_after n (Inward s) = Inward (sig_after n s)
spot_after n (Outward s) = Outward (sig_after n s)

-- how many positions can be counted after it
abbrev pub sig_room : Sig → ℕ
sig_room (Bit b inverted) = 2 ^ 32 - 1 - b.pos
sig_room (Out inst port pos inverted) = 2 ^ 32 - 1 - pos
sig_room sig = 2 ^ 32 - 1

abbrev pub spot_room : Spot → ℕ
spot_room (Held b) = 2 ^ 32 - 1 - b.pos
spot_room (Inward s) = sig_room s
spot_room (Outward s) = sig_room s

bit_stays : (b : BitId) → bit_after 0 b ≡ b
bit_stays b = let e : b.pos + 0 ≡ b.pos = omega arith in ap (λ p. record { reg = b.reg; pos = p }) e

sig_stays : (s : Sig) → sig_after 0 s ≡ s
sig_stays Absent = refl
sig_stays Zero = refl
sig_stays One = refl
sig_stays (Bit b inverted) = ap (λ c. Bit c inverted) (bit_stays b)
sig_stays (Out inst port pos inverted) =
    let e : pos + 0 ≡ pos = omega arith in ap (λ p. Out inst port p inverted) e

pub none_after : (s : Spot) → spot_after 0 s ≡ s
none_after (Held b) = ap Held (bit_stays b)
none_after (Inward s) = ap Inward (sig_stays s)
none_after (Outward s) = ap Outward (sig_stays s)

bit_goes_on : (m n : ℕ) (b : BitId) → bit_after m (bit_after n b) ≡ bit_after (n + m) b
bit_goes_on m n b =
    let e : b.pos + n + m ≡ b.pos + (n + m) = omega arith in ap (λ p. record { reg = b.reg; pos = p }) e

sig_goes_on : (m n : ℕ) (s : Sig) → sig_after m (sig_after n s) ≡ sig_after (n + m) s
sig_goes_on m n Absent = refl
sig_goes_on m n Zero = refl
sig_goes_on m n One = refl
sig_goes_on m n (Bit b inverted) = ap (λ c. Bit c inverted) (bit_goes_on m n b)
sig_goes_on m n (Out inst port pos inverted) =
    let e : pos + n + m ≡ pos + (n + m) = omega arith in ap (λ p. Out inst port p inverted) e

pub both_after : (m n : ℕ) (s : Spot) → spot_after m (spot_after n s) ≡ spot_after (n + m) s
both_after m n (Held b) = ap Held (bit_goes_on m n b)
both_after m n (Inward s) = ap Inward (sig_goes_on m n s)
both_after m n (Outward s) = ap Outward (sig_goes_on m n s)
