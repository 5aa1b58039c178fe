-- What each step of a procedure makes of the queue, and which bit steps come of it.
use Rattle.std.specs.Prelude.{ℕ, ◌+◌, ◌==◌, nat_lt, cond, List, [], ◌∷◌, length, map, Option, Some, None}
use Rattle.ij_text.specs.declared.Place.{Place}
use Rattle.ij_text.specs.declared.Which.TheVariants.{Groups, RunLoop, RunCycles}
use Rattle.ij_text.specs.Numbers.{InDecimal, InBits}
use Rattle.net_graph.specs.declared.net.Net.{Net}
use Rattle.net_graph.specs.declared.step.WriteBit.{WriteBit}
use Rattle.net_graph.specs.declared.step.ReadBit.{ReadBit}
use Rattle.net_graph.specs.SeenSteps.{SeenGroup, SeenStep, Apply, Run, Reset}
use Rattle.pdl_parser.specs.Values.{AValue, ANumber, AWord, AnArgument}
use Rattle.pdl_expand.specs.Values.{AnAction, Writes, Reads, Applies, Runs, Resets, BeginsMerge, EndsBranch}
use Rattle.pdl_expand.specs.Values.{EndsMerge, AStep}
use Rattle.pdl_targets.specs.Targets.{AFault, IsBadCount, IsLimit, IsUnapplied, Found, Is, Fails, found_then}
use Rattle.pdl_targets.specs.Targets.{write_bits, read_bits}
use Rattle.pdl_targets.specs.Rounds.{Places, put_writes, put_reads, mention, groups}

-- what came since the last iApply: the writes and reads, the registers in the order of their first mention,
-- and the place of the first iWrite or iRead; and from the begin on how many iReads, rounds and run cycles
-- there were
pub record Queue : Type 0 where
  pub writes : List WriteBit
  pub reads : List ReadBit
  pub registers : List ℕ
  pub pending : Option Place
  pub asked : ℕ
  pub rounds : ℕ
  pub cycles : ℕ

abbrev pub empty : Queue
empty = record { writes = []; reads = []; registers = []; pending = None; asked = 0; rounds = 0; cycles = 0 }

-- a step's answer: the queue after it, and its bit step
pub record Answer : Type 0 where
  pub queue : Queue
  pub step : Option SeenStep

abbrev pub first_of : Option Place → Place → Option Place
first_of None at = Some at
first_of (Some first) at = Some first

abbrev pub with_writes : Queue → Place → List WriteBit → Queue
with_writes q at ws = record q {
  writes = put_writes q.writes ws;
  registers = mention q.registers (map (λ w. w.bit.reg) ws);
  pending = first_of q.pending at;
}

abbrev pub with_reads : Queue → Place → List ReadBit → Queue
with_reads q at rs = record q {
  reads = put_reads q.reads rs;
  registers =
      mention q.registers (map (λ r. r.bit.reg) rs);
  pending = first_of q.pending at;
  asked = q.asked + 1;
}

abbrev pub applied : List SeenGroup → Option SeenStep
applied [] = None
applied (g ∷ gs) = Some (Apply (g ∷ gs))

-- the groups of an iApply; at most 4096 rounds in all
abbrev pub apply : Place → Queue → List SeenGroup → Found Answer
apply at q gs =
    cond (nat_lt 4096 (q.rounds + length gs)) (Fails (IsLimit at Groups 4096))
    (Is (record {
      queue = record q {
        writes = [];
        reads = [];
        registers =
            [];
        pending = None;
        rounds = q.rounds + length gs;
      };
      step = applied gs;
    }))

abbrev pub run_of : ℕ → Option SeenStep
run_of n = cond (n == 0) None (Some (Run n))

-- a run of at most 1,000,000 cycles, and of 4,000,000 in all
abbrev pub run : Place → Queue → ℕ → Found Answer
run at q n =
    cond (nat_lt 1000000 n) (Fails (IsLimit at RunLoop 1000000))
    (cond (nat_lt 4000000 (q.cycles + n)) (Fails (IsLimit at RunCycles 4000000))
    (Is (record { queue = record q { cycles = q.cycles + n }; step = run_of n })))

-- the number of cycles is a decimal
abbrev pub run_value : Place → Queue → AValue → Found Answer
run_value at q (ANumber (InDecimal n)) = run at q n
run_value at q (ANumber (InBits bits)) = Fails (IsBadCount at)
run_value at q (AWord name) = Fails (IsBadCount at)
run_value at q (AnArgument name) = Fails (IsBadCount at)

abbrev pub nothing_done : Queue → Found Answer
nothing_done q = Is (record { queue = q; step = None })

-- a step; the marks of a merge aren't handed in
abbrev pub feed : Net → Places → Queue → AStep → Found Answer
feed net places q s = action s.what
  where
    action : AnAction → Found Answer
    action (Writes target value) =
        found_then (write_bits net s.at s.node target value) (λ ws. nothing_done (with_writes q s.at ws))
    action (Reads target value) = found_then (read_bits net s.at s.node (q.asked + 1) target value)
        (λ rs. nothing_done (with_reads q s.at rs))
    action Applies = apply s.at q (groups places q.writes q.reads q.registers)
    action (Runs value) = run_value s.at q value
    action Resets = Is (record { queue = q; step = Some Reset })
    action BeginsMerge = nothing_done q
    action EndsBranch = nothing_done q
    action EndsMerge = nothing_done q

-- no iWrite or iRead is left without an iApply
abbrev pub finish : Queue → Option AFault
finish q = elim q.pending [ None ↦ None | Some at ↦ Some (IsUnapplied at) ]

-- ---- a whole procedure

-- its bit steps, up to its end or to its first fault
pub record Bound : Type 0 where
  pub steps : List SeenStep
  pub fault : Option AFault

abbrev pub with_step : Option SeenStep → Bound → Bound
with_step None b = b
with_step (Some s) b = record { steps = s ∷ b.steps; fault = b.fault }

abbrev pub bound_from : Net → Places → Queue → List AStep → Bound
bound_from net places q [] = record { steps = []; fault = finish q }
bound_from net places q (s ∷ ss) = elim (feed net places q s) [
  | Is answer ↦ with_step answer.step (bound_from net places answer.queue ss)
  | Fails fault ↦ record { steps = []; fault = Some fault }
]

unfoldable pub bound : Net → Places → List AStep → Bound
bound net places steps = bound_from net places empty steps
