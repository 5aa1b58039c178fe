-- A play of which no pin is left rests where it ends.
use Rattle.std.proofs.Common.{◌≡◌, ℕ, false, List, [], ◌∷◌, ◌++◌, Option, None, refl, sym, ap, subst}
use Rattle.std.specs.Prelude.{replicate, drop, MatchOption, IsNone}
use Rattle.svf_writer.specs.SeenCommands.{SIR, SDR, Reset, Idle, Run, SeenCommand}
use Rattle.tap_machine.specs.declared.Pins.{Pins}
use Rattle.tap_machine.specs.declared.Stable.{Stable}
use Rattle.tap_machine.specs.declared.Stable.TheVariants.{Reset as InReset, Idle as InIdle}
use Rattle.tap_machine.specs.Remaining.{first_of}
use Rattle.tap_machine.specs.Play.{LastScan, no_shift, pins_with, rests_after}

-- without a first pin there is none
pub no_pins : (ps : List Pins) → None ≡ first_of ps → ps ≡ []
no_pins [] e = refl
no_pins (p ∷ ps) e = absurd (cc)

-- pins with one before aren't empty
some_pin : (p : Pins) (ps : List Pins) → p ∷ ps ≡ [] → ⊥
some_pin p ps e = absurd (cc)

back_empty : (a b : List Pins) → a ++ b ≡ [] → b ≡ []
back_empty [] b e = e
back_empty (x ∷ a) b e = absurd (cc)

-- commands without pins leave the controller where it is
pub no_pins_rests : (ir dr : LastScan) (from : Stable) (scans : ℕ) (cs : List SeenCommand)
    → pins_with ir dr from scans cs ≡ [] → from ≡ rests_after from cs
no_pins_rests ir dr from scans [] e = refl
no_pins_rests ir dr InReset scans (SIR s ∷ cs) e = absurd (some_pin _ _ e)
no_pins_rests ir dr InIdle scans (SIR s ∷ cs) e = absurd (some_pin _ _ e)
no_pins_rests ir dr InReset scans (SDR s ∷ cs) e = absurd (some_pin _ _ e)
no_pins_rests ir dr InIdle scans (SDR s ∷ cs) e = absurd (some_pin _ _ e)
no_pins_rests ir dr from scans (Reset ∷ cs) e = absurd (some_pin _ _ e)
no_pins_rests ir dr InReset scans (Idle ∷ cs) e = absurd (some_pin _ _ e)
no_pins_rests ir dr InIdle scans (Idle ∷ cs) e = no_pins_rests ir dr InIdle scans cs e
no_pins_rests ir dr InReset scans (Run n ∷ cs) e = absurd (some_pin _ _ e)
no_pins_rests ir dr InIdle scans (Run n ∷ cs) e =
    no_pins_rests ir dr InIdle scans cs (back_empty (replicate n (no_shift false)) _ e)

pub nothing_left : (a : List Pins) (ir dr : LastScan) (from : Stable) (scans : ℕ) (cs : List SeenCommand)
    → a ++ pins_with ir dr from scans cs ≡ [] → from ≡ rests_after from cs
nothing_left a ir dr from scans cs e = no_pins_rests ir dr from scans cs (back_empty a _ e)

-- what the first pin and the others are to a caller
pub one_given : (ps qs : List Pins) (r : Option Pins) → r ≡ first_of ps → qs ≡ drop 1 ps
    → MatchOption r (ps ≡ []) (λ p. ps ≡ p ∷ qs)
one_given [] qs r e f =
    subst (λ (o : Option Pins). MatchOption o (◌≡◌ {A = List Pins} [] []) (λ p. [] ≡ p ∷ qs)) (sym e) refl
one_given (x ∷ ps) qs r e f = subst (λ (o : Option Pins). MatchOption o (x ∷ ps ≡ []) (λ p. x ∷ ps ≡ p ∷ qs))
    (sym e) (ap (λ q. x ∷ q) (sym f))

pub none_given : (ps qs : List Pins) (r : Option Pins) → r ≡ first_of ps → qs ≡ drop 1 ps → IsNone r → qs ≡ []
none_given [] qs r e f n = f
none_given (x ∷ ps) qs r e f n = absurd (cc (subst IsNone e n))
