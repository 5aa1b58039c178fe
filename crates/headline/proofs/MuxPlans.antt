-- The premises of the law can be met: the network of the two rounds is well formed, and its script is
-- planned.
use Rattle.std.proofs.Common.{◌≡◌, ℕ, zero, suc, ◌<◌, ◌≤◌, Bool, true, false, List, [], ◌∷◌, length, Option}
use Rattle.std.proofs.Common.{Some, None, refl, sym, ap, arith}
use Rattle.std.specs.Prelude.{All, Contains, get_or, is_some, replicate, IsTrue, codes}
use Rattle.ij_bits.specs.Room.{Listed, full}
use Rattle.ij_text.specs.Words.{is_name}
use Rattle.std.proofs.lemmas.Bool.{true≢false}
use Rattle.std.proofs.lemmas.List.Elements.{All-nil, All-cons}
use Rattle.net_graph.specs.declared.net.BitId.{BitId}
use Rattle.net_graph.specs.declared.net.Mux.{Mux}
use Rattle.net_graph.specs.declared.net.Node.{Node}
use Rattle.net_graph.specs.declared.net.Point.TheVariants.{Entry, Reg as FromReg}
use Rattle.net_graph.specs.declared.net.Sig.TheVariants.{Bit}
use Rattle.net_graph.specs.declared.net.Spot.{Spot}
use Rattle.net_graph.specs.declared.net.Spot.TheVariants.{Held}
use Rattle.net_graph.specs.declared.step.ReadBit.{ReadBit}
use Rattle.net_graph.specs.declared.step.WriteBit.{WriteBit}
use Rattle.net_graph.specs.Devices.{IsDevice}
use Rattle.net_graph.specs.Named.{IsBitOf, IsSignalOf, IsSpotOf}
use Rattle.net_graph.specs.Nets.{IsNet, IsReg, IsMux, IsRow, IsInst, IsThing, HaveThings, rows_with}
use Rattle.net_graph.specs.OneRegister.{plain_register, plain_top, plain_instance}
use Rattle.net_graph.specs.Path.{is_select}
use Rattle.net_graph.specs.Resets.{start_holds}
use Rattle.net_graph.specs.Signals.{Holds, bits_at, hold_at}
use Rattle.net_graph.specs.Steps.{IsDataBit, IsGroup}
use Rattle.svf_writer.specs.Fits.{IsWrittenScan}
use Rattle.headline.specs.Headline.{PlaysOn}
use Rattle.headline.specs.Planned.{ExpectsReads, IsOpening, IsPlannedRound, IsPlanned}
use Rattle.headline.proofs.MuxExamples.{dev, mux_by, row, shift_in, thing, rounds_net, first_round}
use Rattle.headline.proofs.MuxExamples.{second_round, rounds_script}
use Rattle.headline.proofs.PlannedScripts.{planned_scripts_play}
use Rattle.ij_bits.proofs.Contained.{none_in, only_in}
use Rattle.net_graph.proofs.PlainNet.{some_path, named_instance}

abbrev bit : ℕ → ℕ → BitId
bit r p = record { reg = r; pos = p }

-- ---- the network

two_bits : (r : ℕ) → IsBitOf rounds_net (bit r 0) → IsBitOf rounds_net (bit r 1)
    → All (IsSignalOf rounds_net) (plain_register r 2 (FromReg 2)).capture.items
two_bits r a b =
    All-cons (IsSignalOf rounds_net) (Bit (bit r 0) false) (Bit (bit r 1) false ∷ []) a
    (All-cons (IsSignalOf rounds_net) (Bit (bit r 1) false) [] b (All-nil (IsSignalOf rounds_net)))

first_reg : IsReg rounds_net (plain_register 0 2 (FromReg 2))
first_reg =
    record {
      at_least_one_bit = omega arith;
      source = omega arith;
      captures = refl;
      signals = two_bits 0 (omega arith) (omega arith);
      resets = refl;
      thing = omega arith;
    }

second_reg : IsReg rounds_net (plain_register 1 2 (FromReg 2))
second_reg =
    record {
      at_least_one_bit = omega arith;
      source = omega arith;
      captures = refl;
      signals = two_bits 1 (omega arith) (omega arith);
      resets = refl;
      thing = omega arith;
    }

select_reg : IsReg rounds_net (plain_register 2 1 Entry)
select_reg =
    record {
      at_least_one_bit = omega arith;
      source = tt;
      captures = refl;
      signals = All-cons (IsSignalOf rounds_net) (Bit (bit 2 0) false) [] (omega arith)
          (All-nil (IsSignalOf rounds_net));
      resets = refl;
      thing = omega arith;
    }

abbrev the_mux : Mux
the_mux = mux_by (bit 2 0) (FromReg 0) (FromReg 1)

one_row : (bits : List Bool) → length (rows_with the_mux.rows.items bits) ≤ 1
one_row [] = omega arith
one_row (true ∷ []) = omega arith
one_row (false ∷ []) = omega arith
one_row (true ∷ (y ∷ ys)) = omega arith
one_row (false ∷ (y ∷ ys)) = omega arith

row_fits : (value : Bool) (r : ℕ) → r < 3 → IsRow rounds_net 1 (row value (FromReg r))
row_fits value r l =
    record {
      some_values = omega arith;
      values = All-cons (λ v. length v.value.items ≡ 1) _ [] refl
          (All-nil (λ v. length v.value.items ≡ 1));
      source = l;
    }

mux_fits : IsMux rounds_net the_mux
mux_fits =
    record {
      named = refl;
      at_least_one_bit = omega arith;
      select = All-cons (IsBitOf rounds_net) (bit 2 0) [] (omega arith) (All-nil (IsBitOf rounds_net));
      some_rows = omega arith;
      rows = All-cons (IsRow rounds_net 1) (row false (FromReg 0)) (row true (FromReg 1) ∷ [])
          (row_fits false 0 (omega arith)) (All-cons (IsRow rounds_net 1) (row true (FromReg 1)) []
          (row_fits true 1 (omega arith)) (All-nil (IsRow rounds_net 1)));
      one_row = one_row;
      few_rows = omega arith;
      node = omega arith;
    }

abbrev Spots : List Spot → Type 0
Spots spots = All (IsSpotOf rounds_net) spots

wide_thing : (r letter : ℕ) → IsTrue (is_name (letter ∷ [])) → IsBitOf rounds_net (bit r 0)
    → IsBitOf rounds_net (bit r 1) → IsThing rounds_net (thing r 2 letter)
wide_thing r letter name a b =
    let spots : Spots (Held (bit r 0) ∷ Held (bit r 1) ∷ []) =
    All-cons (IsSpotOf rounds_net) (Held (bit r 0)) (Held (bit r 1) ∷ []) a
    (All-cons (IsSpotOf rounds_net) (Held (bit r 1)) [] b (All-nil (IsSpotOf rounds_net))) in
    record {
      node = omega arith;
      named = name;
      wide = refl;
      bits_within_limit = omega arith;
      spots = spots;
      words = All-nil _;
      word_names = tt;
    }

select_thing : IsThing rounds_net (thing 2 1 83)
select_thing =
    record {
      node = omega arith;
      named = refl;
      wide = refl;
      bits_within_limit = omega arith;
      spots =
          All-cons (IsSpotOf rounds_net) (Held (bit 2 0)) [] (omega arith) (All-nil (IsSpotOf rounds_net));
      words = All-nil _;
      word_names = tt;
    }

abbrev letter : ℕ → ℕ × List ℕ
letter c = (1, c ∷ [])

letters_differ : (a b : ℕ) → letter a ≡ letter b → a ≡ b
letters_differ a b e = ap (λ (x : ℕ × List ℕ). get_or x.1 0 0) e

no_second : Contains (letter 66 ∷ letter 83 ∷ []) (letter 65) → ⊥
no_second (zero, l, e) = let n : 66 ≡ 65 = letters_differ 66 65 e in omega (arith, n)
no_second (suc zero, l, e) = let n : 83 ≡ 65 = letters_differ 83 65 e in omega (arith, n)
no_second (suc (suc k), l, e) = omega (arith, l)

no_third : Contains (letter 83 ∷ []) (letter 66) → ⊥
no_third c = let n : 66 ≡ 83 = letters_differ 66 83 (only_in (letter 83) (letter 66) c) in omega (arith, n)

abbrev IsNear : Node → Type 0
IsNear node = length node.path.items ≤ 64

abbrev IsNamed : Listed ℕ → Type 0
IsNamed name = IsTrue (is_name name.items)

abbrev HasNames : Node → Type 0
HasNames node = All IsNamed node.path.items

abbrev instance_name : Listed ℕ
instance_name = full (codes "net")

reg_things : HaveThings rounds_net
reg_things zero l = refl
reg_things (suc zero) l = refl
reg_things (suc (suc zero)) l = refl
reg_things (suc (suc (suc r))) l = absurd (omega (arith, l))

pub rounds_net_is_net : IsNet rounds_net
rounds_net_is_net =
    record {
      regs = All-cons (IsReg rounds_net) _ (_ ∷ _ ∷ []) first_reg (All-cons (IsReg rounds_net) _
          (_ ∷ []) second_reg (All-cons (IsReg rounds_net) _ [] select_reg (All-nil (IsReg rounds_net))));
      muxes = All-cons (IsMux rounds_net) the_mux [] mux_fits (All-nil (IsMux rounds_net));
      insts = All-nil (IsInst rounds_net);
      output = omega arith;
      things = All-cons (IsThing rounds_net) _ (_ ∷ _ ∷ []) (wide_thing 0 65 refl (omega arith) (omega arith))
          (All-cons (IsThing rounds_net) _ (_ ∷ []) (wide_thing 1 66 refl (omega arith) (omega arith))
          (All-cons (IsThing rounds_net) _ [] select_thing (All-nil (IsThing rounds_net))));
      top = omega arith;
      top_path = refl;
      node_paths = (λ c. some_path _ (only_in _ _ c), (none_in _, tt));
      path_names = All-cons HasNames plain_top (plain_instance ∷ []) (All-nil IsNamed)
          (All-cons HasNames plain_instance [] named_instance (All-nil HasNames));
      inst_nodes = tt;
      thing_names = (no_second, (no_third, (none_in _, tt)));
      reg_things = reg_things;
      bits_within_limit = omega arith;
      few_muxes = omega arith;
      few_insts = omega arith;
      few_nodes = omega arith;
      few_levels = All-cons IsNear plain_top (plain_instance ∷ []) (omega arith)
          (All-cons IsNear plain_instance [] (omega arith) (All-nil IsNear));
    }

pub dev_is_device : IsDevice dev
dev_is_device =
    record {
      two_bits = omega arith;
      bits_within_limit = omega arith;
      link = record { fits = omega arith; not_bypass = λ e. omega (arith, e) };
      identity = tt;
    }

-- ---- the script

abbrev pub written_first : Holds
written_first = (true ∷ false ∷ []) ∷ (false ∷ false ∷ []) ∷ (false ∷ []) ∷ []

abbrev pub opened : Holds
opened = (true ∷ false ∷ []) ∷ (false ∷ false ∷ []) ∷ (true ∷ []) ∷ []

abbrev written_both : Holds
written_both = (true ∷ false ∷ []) ∷ (false ∷ true ∷ []) ∷ (true ∷ []) ∷ []

scan_written : (tdi : ℕ) → IsWrittenScan (shift_in 3 tdi)
scan_written tdi =
    record {
      at_least_one_bit = omega arith;
      bits_within_limit = omega arith;
      given = refl;
      tdi = refl;
      tdo = tt;
      mask = tt;
      together = refl;
      smask = refl;
    }

pub expects_none : (n i : ℕ) (e : Bool) → get_or (replicate {A = Option Bool} n None) i None ≡ Some e → ⊥
expects_none zero i e g = true≢false (sym (ap is_some g))
expects_none (suc n) zero e g = true≢false (sym (ap is_some g))
expects_none (suc n) (suc i) e g = expects_none n i e g

no_reads : (path : List ℕ) (holds : Holds) → ExpectsReads path holds [] (replicate 3 None)
no_reads path holds =
    record { compared = λ i e g. absurd (expects_none 3 i e g); read = λ r c. absurd (none_in r c) }

two_differ : (r : ℕ) → Contains (bit r 1 ∷ []) (bit r 0) → ⊥
two_differ r c =
    let n : 0 ≡ 1 = ap (λ (b : BitId). b.pos) (only_in (bit r 1) (bit r 0) c) in
    omega (arith, n)

writes_two : (r : ℕ) (v w : Bool) → IsBitOf rounds_net (bit r 0) → IsBitOf rounds_net (bit r 1)
    → is_select rounds_net (bit r 0) ≡ false
    → is_select rounds_net (bit r 1) ≡ false → IsGroup rounds_net (record
    { writes = record { bit = bit r 0; value = v } ∷ record { bit = bit r 1; value = w } ∷ []; reads = [] })
writes_two r v w a b c d =
    let At : WriteBit → Type 0 = λ w. IsDataBit rounds_net w.bit in
    record {
      written = All-cons At (record { bit = bit r 0; value = v }) (record { bit = bit r 1; value = w } ∷ [])
          (record { there = a; data_bit = c }) (All-cons At (record { bit = bit r 1; value = w }) []
          (record { there = b; data_bit = d }) (All-nil At));
      written_once = (two_differ r, (none_in (bit r 1), tt));
      read = All-nil _;
      read_once = tt;
      captured = All-nil _;
    }

named : (ws : List WriteBit) (w : WriteBit) (rs : List ReadBit) → ¬ ((w ∷ ws ≡ []) × (rs ≡ []))
named ws w rs e =
    let n = ap length e.0 in
    omega (arith, n)

on_path : (path : List ℕ) (r : ℕ) → Contains path r → All (Contains path) (r ∷ r ∷ [])
on_path path r c = All-cons (Contains path) r (r ∷ []) c
    (All-cons (Contains path) r [] c (All-nil (Contains path)))

pub first_planned : IsPlannedRound rounds_net (start_holds rounds_net) first_round written_first
first_planned =
    record {
      named = named _ _ [];
      valid = writes_two 0 true false (omega arith) (omega arith) refl refl;
      scans = (
        record {
          scans = record {
            path = 0 ∷ 2 ∷ [];
            traced = refl;
            written = scan_written 1;
            long = refl;
            tdi = refl;
          };
          on_path = on_path (0 ∷ 2 ∷ []) 0 (0, omega arith, refl);
          compared = refl;
          unmasked = λ i e. refl;
          expects = no_reads _ _;
        },
        refl,
      );
    }

off_path : (r : ℕ) → ¬ Contains (0 ∷ 2 ∷ []) r → bits_at opened r ≡ bits_at written_first r
off_path zero n = refl
off_path (suc zero) n = refl
off_path (suc (suc zero)) n = absurd (n (1, omega arith, refl))
off_path (suc (suc (suc r))) n = refl

data_stays : (r p : ℕ) → is_select rounds_net (bit r p) ≡ false
    → hold_at opened (bit r p) ≡ hold_at written_first (bit r p)
data_stays zero p d = refl
data_stays (suc zero) p d = refl
data_stays (suc (suc zero)) zero d = absurd (true≢false d)
data_stays (suc (suc zero)) (suc p) d = refl
data_stays (suc (suc (suc r))) p d = refl

opens : IsOpening rounds_net written_first opened (shift_in 3 5)
opens =
    record {
      scans =
          record { path = 0 ∷ 2 ∷ []; traced = refl; written = scan_written 5; long = refl; tdi = refl };
      widths = refl;
      off_path = off_path;
      data_stays = λ b d. data_stays b.reg b.pos d;
      quiet = refl;
    }

pub second_planned : IsPlannedRound rounds_net written_first second_round written_both
second_planned =
    record {
      named = named _ _ [];
      valid = writes_two 1 false true (omega arith) (omega arith) refl refl;
      scans = (
        opened,
        opens,
        (
          record {
            scans = record {
              path = 1 ∷ 2 ∷ [];
              traced = refl;
              written =
                  scan_written 6;
              long = refl;
              tdi = refl;
            };
            on_path = on_path (1 ∷ 2 ∷ []) 1 (0, omega arith, refl);
            compared = refl;
            unmasked = λ i e. refl;
            expects = no_reads _ _;
          },
          refl,
        ),
      );
    }

rounds_planned : IsPlanned rounds_net (start_holds rounds_net) rounds_script
rounds_planned =
    (omega arith, (written_both, (written_first, first_planned, (written_both, second_planned, refl)), tt))

-- so the two rounds, played, do what the iApply means
rounds_play : PlaysOn rounds_net dev [] rounds_script
rounds_play =
    planned_scripts_play rounds_net dev [] rounds_script rounds_net_is_net
    (All-nil _) dev_is_device rounds_planned
