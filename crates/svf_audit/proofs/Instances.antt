-- The premises of the laws can be met together: on a register of four bits a write and a read of it, audited
-- and played.
use Rattle.std.proofs.Common.{◌≡◌, true, List, [], ◌∷◌, Some, None, refl, arith}
use Rattle.std.specs.Prelude.{All}
use Rattle.std.proofs.lemmas.List.Elements.{All-nil, All-cons}
use Rattle.ij_bits.specs.BitLists.{bits_of}
use Rattle.ij_bits.specs.Room.{full}
use Rattle.net_graph.specs.declared.device.Device.{Device}
use Rattle.net_graph.specs.declared.step.ReadBit.{ReadBit}
use Rattle.net_graph.specs.declared.step.WriteBit.{WriteBit}
use Rattle.net_graph.specs.Devices.{IsDevice}
use Rattle.net_graph.specs.OneRegister.{plain_net}
use Rattle.net_graph.specs.SeenSteps.{SeenGroup, SeenStep, Apply, Run as RunStep}
use Rattle.net_graph.specs.Steps.{IsDataBit, IsReadable, IsGroup, IsStep}
use Rattle.net_graph.specs.Signals.{capture_signal}
use Rattle.net_graph.proofs.PlainNet.{plain_net_is_net}
use Rattle.instruments.specs.Machine.{whole_log}
use Rattle.svf_writer.specs.SeenCommands.{SeenCommand, SDR, SIR, Reset as StateReset, Run as RunTest}
use Rattle.net_bench.specs.Bench.{fault_free}
use Rattle.svf_audit.specs.Audit.{Reading, Yes, audit}
use Rattle.svf_audit.specs.Law.{DoesAll}
use Rattle.svf_audit.proofs.Audited.{audited_plays_do_all}

abbrev dev : Device
dev = record { ir = 8; idcode = None; link = full []; instr = full []; opcode = 0xA0 }

dev_is_device : IsDevice dev
dev_is_device =
    record {
      two_bits = omega arith;
      bits_within_limit = omega arith;
      link = record { fits = omega arith; not_bypass = λ e. omega (arith, e) };
      identity = tt;
    }

-- iWrite of 1 to bit 0, iApply, iRunLoop 3, iRead of 1 from bit 0, iApply
abbrev write1 : WriteBit
write1 = record { bit = record { reg = 0; pos = 0 }; value = true }

abbrev read1 : ReadBit
read1 = record { bit = record { reg = 0; pos = 0 }; expect = true; read = 1; line = 5; index = 0 }

abbrev writes : SeenGroup
writes = record { writes = write1 ∷ []; reads = [] }

abbrev reads : SeenGroup
reads = record { writes = []; reads = read1 ∷ [] }

abbrev steps : List SeenStep
steps = Apply (writes ∷ []) ∷ RunStep 3 ∷ Apply (reads ∷ []) ∷ []

-- SVF of another make: no STATE IDLE, the run in two parts, TDI taken from the scan before
abbrev commands : List SeenCommand
commands =
    StateReset
    ∷ SIR (record { len = 8; tdi = Some (bits_of 8 0xA0); tdo = None; mask = None; smask = None })
    ∷ SDR (record { len = 4; tdi = Some (bits_of 4 1); tdo = None; mask = None; smask = None })
    ∷ RunTest 1
    ∷ RunTest 2
    ∷ SDR (record { len = 4; tdi = None; tdo = Some (bits_of 4 1); mask = Some (bits_of 4 1); smask = None })
    ∷ []

abbrev readings : List Reading
readings = record { scan = 3; holds = bits_of 4 1 ∷ []; group = reads } ∷ []

says_yes : audit (plain_net 4) dev steps commands ≡ Yes readings
says_yes = refl

writes_valid : IsGroup (plain_net 4) writes
writes_valid =
    record {
      written = All-cons (λ w. IsDataBit (plain_net 4) w.bit) write1 []
          (record { there = omega arith; data_bit = refl }) (All-nil (λ w. IsDataBit (plain_net 4) w.bit));
      written_once = (λ c. omega (arith, c.1), tt);
      read = All-nil (λ r. IsDataBit (plain_net 4) r.bit);
      read_once = tt;
      captured = All-nil (λ r. IsReadable (plain_net 4) (capture_signal (plain_net 4) r.bit));
    }

reads_valid : IsGroup (plain_net 4) reads
reads_valid =
    record {
      written = All-nil (λ w. IsDataBit (plain_net 4) w.bit);
      written_once = tt;
      read = All-cons (λ r. IsDataBit (plain_net 4) r.bit) read1 []
          (record { there = omega arith; data_bit = refl }) (All-nil (λ r. IsDataBit (plain_net 4) r.bit));
      read_once = (λ c. omega (arith, c.1), tt);
      captured = All-cons (λ r. IsReadable (plain_net 4) (capture_signal (plain_net 4) r.bit)) read1 [] refl
          (All-nil (λ r. IsReadable (plain_net 4) (capture_signal (plain_net 4) r.bit)));
    }

steps_valid : All (IsStep (plain_net 4)) steps
steps_valid =
    let group : (g : SeenGroup) → IsGroup (plain_net 4) g → IsStep (plain_net 4) (Apply (g ∷ [])) =
    λ g v. (omega arith, All-cons (IsGroup (plain_net 4)) g [] v (All-nil (IsGroup (plain_net 4)))) in
    All-cons (IsStep (plain_net 4)) (Apply (writes ∷ [])) (RunStep 3 ∷ Apply (reads ∷ []) ∷ [])
    (group writes writes_valid) (All-cons (IsStep (plain_net 4)) (RunStep 3) (Apply (reads ∷ []) ∷ [])
    (omega arith) (All-cons (IsStep (plain_net 4)) (Apply (reads ∷ [])) []
    (group reads reads_valid) (All-nil (IsStep (plain_net 4)))))

-- so it does what the steps mean
foreign_does_all : DoesAll (fault_free whole_log (plain_net 4) dev []) steps commands readings
foreign_does_all =
    audited_plays_do_all (plain_net 4) dev [] steps commands readings
    (plain_net_is_net 4 (omega arith) (omega arith)) (All-nil _) dev_is_device steps_valid (
      record { some = omega arith; tdi = refl; tdo = tt; mask = tt; smask = tt; taken = tt },
      (
        record { some = omega arith; tdi = refl; tdo = tt; mask = tt; smask = tt; taken = tt },
        (
          record
              { some = omega arith; tdi = tt; tdo = refl; mask = refl; smask = tt; taken = refl },
          tt,
        ),
      ),
    ) says_yes
