-- Commands whose scans are given are written where they take few clocks.
use Rattle.std.proofs.Common.{◌≡◌, ℕ, ◌+◌, ◌≤◌, Bool, true, false, List, [], ◌∷◌, ◌++◌, refl, arith}
use Rattle.std.specs.Prelude.{map, All}
use Rattle.std.proofs.lemmas.List.Elements.{All-head, All-tail}
use Rattle.ij_bits.proofs.WordBits.{length-bits_of}
use Rattle.net_graph.specs.declared.device.Device.{Device}
use Rattle.net_graph.specs.Devices.{IsDevice}
use Rattle.svf_writer.specs.Clocks.{clocks_from, with_leave}
use Rattle.svf_writer.specs.Fits.{IsWrittenScan, IsWrittenCommand}
use Rattle.svf_writer.specs.SeenCommands.{SIR, SDR, Reset, Idle, Run, SeenCommand, SeenScan}
use Rattle.svf_writer.specs.Written.{load_link}

-- leaving Test-Logic-Reset takes no fewer clocks
pub at_least : (b : Bool) (n : ℕ) → n ≤ with_leave b n
at_least true n = omega arith
at_least false n = omega arith

-- commands that are written
abbrev pub AreAllWritten : List SeenCommand → Type 0
AreAllWritten [] = Unit {0}
AreAllWritten (c ∷ cs) = IsWrittenCommand c × AreAllWritten cs

-- a command whose scan is given as it is written
abbrev pub IsGiven : SeenCommand → Type 0
IsGiven (SIR s) = IsWrittenScan s
IsGiven (SDR s) = IsWrittenScan s
IsGiven Reset = Unit {0}
IsGiven Idle = Unit {0}
IsGiven (Run n) = Unit {0}

-- and each of several
abbrev pub AreGiven : List SeenCommand → Type 0
AreGiven [] = Unit {0}
AreGiven (c ∷ cs) = IsGiven c × AreGiven cs

pub given_both : (xs ys : List SeenCommand) → AreGiven xs → AreGiven ys → AreGiven (xs ++ ys)
given_both [] ys hx hy = hy
given_both (x ∷ xs) ys hx hy = (hx.0, given_both xs ys hx.1 hy)

-- commands of few clocks are written, where their scans are
pub few_written : (cs : List SeenCommand) (b : Bool) → AreGiven cs
    → clocks_from b cs ≤ 999999999 → AreAllWritten cs
few_written [] b g few = tt
few_written (SIR s ∷ cs) b g few = (g.0, few_written cs false g.1 (omega (arith, few)))
few_written (SDR s ∷ cs) b g few = (g.0, few_written cs false g.1 (omega (arith, few)))
few_written (Reset ∷ cs) b g few = (tt, few_written cs true g.1 (omega (arith, few)))
few_written (Idle ∷ cs) b g few = (tt, few_written cs false g.1 (omega (arith, few)))
few_written (Run n ∷ cs) b g few =
    (omega (arith, few, at_least b n), few_written cs false g.1 (omega (arith, few)))

-- whether commands end in Test-Logic-Reset
abbrev pub after : Bool → List SeenCommand → Bool
after b [] = b
after b (SIR s ∷ cs) = after false cs
after b (SDR s ∷ cs) = after false cs
after b (Reset ∷ cs) = after true cs
after b (Idle ∷ cs) = after false cs
after b (Run n ∷ cs) = after false cs

pub clocks_both : (cs ds : List SeenCommand) (b : Bool)
    → clocks_from b (cs ++ ds) ≡ clocks_from b cs + clocks_from (after b cs) ds
clocks_both [] ds b = omega arith
clocks_both (SIR s ∷ cs) ds b = omega (arith, clocks_both cs ds false)
clocks_both (SDR s ∷ cs) ds b = omega (arith, clocks_both cs ds false)
clocks_both (Reset ∷ cs) ds b = omega (arith, clocks_both cs ds true)
clocks_both (Idle ∷ cs) ds b = omega (arith, clocks_both cs ds false)
clocks_both (Run n ∷ cs) ds b = omega (arith, clocks_both cs ds false)

pub scans_given : (xs : List SeenScan) → All IsWrittenScan xs → AreGiven (map SDR xs)
scans_given [] w = tt
scans_given (x ∷ xs) w = (All-head IsWrittenScan x xs w, scans_given xs (All-tail IsWrittenScan x xs w))

-- the scan that loads the link's instruction
pub load_given : (device : Device) → IsDevice device → IsGiven (load_link device)
load_given device d =
    record {
      at_least_one_bit = omega (arith, d.two_bits);
      bits_within_limit = omega (arith, d.bits_within_limit);
      given = refl;
      tdi = length-bits_of device.ir device.opcode;
      tdo = tt;
      mask = tt;
      together = refl;
      smask = refl;
    }
