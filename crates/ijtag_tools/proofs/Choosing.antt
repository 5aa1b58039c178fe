-- The text that is written is one that takes no more than the text that a compile writes.
use Rattle.std.proofs.Common.{◌≡◌, ◌≤◌, ap, ℕ, arith}
use Rattle.ijtag_work.specs.Accepted.{SeenAccepted}
use Rattle.ijtag_tools.specs.Planned.{IsCompiled, IsSound, IsTightened}
use Rattle.ijtag_tools.specs.Tight.{Cost, least_of}
use Rattle.ijtag_tools.specs.declared.planned.Planned.{Planned}

as_many : (n : ℕ) → n ≤ n
as_many n = omega arith

no_more : (a b x y : ℕ) → a ≡ x → b ≡ y → a ≤ b → x ≤ y
no_more a b x y p q less = omega (arith, p, q, less)

-- that text itself
pub own : (it : SeenAccepted) (p : Planned) (least : ℕ) → least ≡ least_of it → IsCompiled it p
    → IsTightened it (record { svf = p.svf; cost = p.cost; before = p.cost; least = least })
own it p least bound is =
    record {
      tight = record {
        commands = is.sound.commands;
        read = is.sound.read;
        does = is.sound.does;
        compiled = p.svf;
        written = is.written;
        before = is.sound.commands;
        read_compiled = is.sound.read;
        no_more_scans = as_many _;
        no_more_clocks = as_many _;
      };
      takes = is.sound.takes;
      took = is.sound.takes;
      least = bound;
    }

-- or another one
pub other : (it : SeenAccepted) (p q : Planned) (least : ℕ) → least ≡ least_of it → IsCompiled it p
    → IsSound it q → q.cost.scans ≤ p.cost.scans → q.cost.clocks ≤ p.cost.clocks
    → IsTightened it (record { svf = q.svf; cost = q.cost; before = p.cost; least = least })
other it p q least bound is sound scans clocks =
    record {
      tight = record {
        commands = sound.commands;
        read = sound.read;
        does = sound.does;
        compiled = p.svf;
        written = is.written;
        before = is.sound.commands;
        read_compiled = is.sound.read;
        no_more_scans = no_more q.cost.scans p.cost.scans _ _ (ap (λ (c : Cost). c.scans) sound.takes)
            (ap (λ (c : Cost). c.scans) is.sound.takes) scans;
        no_more_clocks = no_more q.cost.clocks p.cost.clocks _ _ (ap (λ (c : Cost). c.clocks) sound.takes)
            (ap (λ (c : Cost). c.clocks) is.sound.takes) clocks;
      };
      takes = sound.takes;
      took = is.sound.takes;
      least = bound;
    }
