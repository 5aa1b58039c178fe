-- What is read counts the clocks of its commands.
use Rattle.std.proofs.Common.{◌≡◌, ℕ, suc, ◌+◌, ◌≤◌, Bool, true, false, cond, List, [], ◌∷◌, ◌++◌, length}
use Rattle.std.proofs.Common.{Option, Some, None, refl, ap, subst, arith, Result, Ok, Err, nat_le, nat_lt}
use Rattle.std.proofs.lemmas.Bool.Decides.{nat_tests}
use Rattle.svf_writer.specs.SeenCommands.{SIR, SDR, Reset, Idle, Run, SeenCommand}
use Rattle.svf_reader.specs.declared.so_far.ReadSoFar.{ReadSoFar}
use Rattle.svf_reader.specs.declared.parsed.Register.{Register}
use Rattle.svf_reader.specs.declared.parsed.Register.TheVariants.{Instruction, Data}
use Rattle.svf_reader.specs.Commands.{SeenParsed, Scans, ToReset, ToIdle, Runs, NoEffect, Parts}
use Rattle.svf_reader.specs.Commands.{command_of_words, left_out}
use Rattle.svf_reader.specs.Texts.{words, after_word, texts, plain, blanks}
use Rattle.svf_writer.specs.Clocks.{clocks_from}
use Rattle.svf_reader.specs.Meaning.{Cause, SvfLimit, SvfSyntax, HexWide, TdiMissing, LeftOut, Refusal, Step}
use Rattle.svf_reader.specs.Meaning.{at_first, with_length, last_length, with_leaving_clock, scan_clocks}
use Rattle.svf_reader.specs.Meaning.{emit_within_clock_limit, any_wide, tdi_missing, scan_with, scan_command}
use Rattle.svf_reader.specs.Meaning.{scanned, effect_of, if_parsed, unless_left_out, read_command, listed}
use Rattle.svf_reader.specs.Meaning.{before, at_end, and_then, read_from, svf}
use Rattle.svf_reader.specs.Scripts.{ReadCommandsAreWithinLimits}

-- ---- one command

-- a step counts the clocks of its command
abbrev Counts : ReadSoFar → Step → Type 0
Counts kept (None, next) = (next.clocks ≡ kept.clocks) × (next.in_reset ≡ kept.in_reset)
Counts kept (Some c, next) = (next.clocks ≤ 1000000000) × ((ds : List SeenCommand)
    → kept.clocks + clocks_from kept.in_reset (c ∷ ds) ≡ next.clocks + clocks_from next.in_reset ds)

abbrev step_ok : Step → Result Step Cause
step_ok step = Ok step

step_or : Result Step Cause → Step → Step
step_or (Ok step) other = step
step_or (Err cause) other = other

same_step : (x step : Step) → step_ok x ≡ step_ok step → x ≡ step
unfolding step_or
same_step x step e = ap (λ r. step_or r x) e

no_step : (cause : Cause) (step : Step) (A : Type 0)
    → (let r : Result Step Cause = Err cause in r) ≡ Ok step → A
no_step cause step A e = absurd (cc)

clocked_counts : (kept k : ReadSoFar) (in_reset : Bool) (n : ℕ) (c : SeenCommand) (step : Step)
    → k.clocks ≡ kept.clocks
    → ((ds : List SeenCommand) → clocks_from kept.in_reset (c ∷ ds) ≡ n + clocks_from in_reset ds)
    → emit_within_clock_limit k in_reset n c ≡ Ok step → Counts kept step
clocked_counts kept k in_reset n c step same clocks e = cases (nat_le (k.clocks + n) 1000000000) refl e
  where
    cases : (b : Bool) → nat_le (k.clocks + n) 1000000000 ≡ b → cond b
        (let r : Result Step Cause = Ok (Some c, record k { in_reset = in_reset; clocks = k.clocks + n }) in
        r) (Err SvfLimit) ≡ Ok step → Counts kept step
    cases true few e =
        let le : k.clocks + n ≤ 1000000000 = grind (arith, nat_tests, few) in
        subst (Counts kept) (same_step (Some c, record k { in_reset = in_reset; clocks = k.clocks + n }) step
        e) (le, (λ ds. omega (arith, clocks ds, same)))
    cases false few e = no_step SvfLimit step (Counts kept step) e

peel : (b : Bool) (cause : Cause) (r : Result Step Cause) (step : Step)
    → cond b (Err cause) r ≡ Ok step → r ≡ Ok step
peel true cause r step e = no_step cause step (r ≡ Ok step) e
peel false cause r step e = e

scanned_counts : (kept : ReadSoFar) (register : Register) (len : ℕ) (p : Parts) (step : Step)
    → scanned kept register len p ≡ Ok step → Counts kept step
unfolding scanned
scanned_counts kept Instruction len p step e =
    let r = emit_within_clock_limit (with_length Instruction len kept) false (with_leaving_clock kept
    (scan_clocks Instruction len)) (scan_command Instruction (scan_with len p)) in
    let third = peel (tdi_missing (last_length Instruction kept) len p) TdiMissing r step in
    let second = peel (any_wide len p) HexWide
    (cond (tdi_missing (last_length Instruction kept) len p) (Err TdiMissing) r) step in
    clocked_counts kept (with_length Instruction len kept) false (with_leaving_clock kept (len + 6))
    (SIR (scan_with len p)) step refl (λ ds. refl)
    (third (second (peel (nat_lt 65536 len) SvfLimit _ step e)))
scanned_counts kept Data len p step e =
    let r = emit_within_clock_limit (with_length Data len kept) false
    (with_leaving_clock kept (scan_clocks Data len)) (scan_command Data (scan_with len p)) in
    let third = peel (tdi_missing (last_length Data kept) len p) TdiMissing r step in
    let second = peel (any_wide len p) HexWide
    (cond (tdi_missing (last_length Data kept) len p) (Err TdiMissing) r) step in
    clocked_counts kept (with_length Data len kept) false (with_leaving_clock kept (len + 5))
    (SDR (scan_with len p)) step refl (λ ds. refl)
    (third (second (peel (nat_lt 65536 len) SvfLimit _ step e)))

done_counts : (kept : ReadSoFar) (s : SeenParsed) (step : Step)
    → effect_of kept s ≡ Ok step → Counts kept step
unfolding effect_of
done_counts kept (Scans register len p) step e = scanned_counts kept register len p step e
done_counts kept ToReset step e = clocked_counts kept kept true 5 Reset step refl (λ ds. refl) e
done_counts kept ToIdle step e =
    clocked_counts kept kept false (with_leaving_clock kept 0) Idle step refl (λ ds. refl) e
done_counts kept (Runs n) step e =
    clocked_counts kept kept false (with_leaving_clock kept n) (Run n) step refl (λ ds. refl) e
done_counts kept NoEffect step e = subst (Counts kept) (same_step (None, kept) step e) (refl, refl)

parsed_counts : (kept : ReadSoFar) (s : Option SeenParsed) (step : Step)
    → if_parsed kept s ≡ Ok step → Counts kept step
parsed_counts kept None step e = no_step SvfSyntax step (Counts kept step) e
parsed_counts kept (Some s) step e = done_counts kept s step e

ended_counts : (kept : ReadSoFar) (ended : Bool) (text : List ℕ) (o : Option (List ℕ)) (step : Step)
    → unless_left_out kept ended text o ≡ Ok step → Counts kept step
ended_counts kept ended text (Some word) step e = no_step (LeftOut word) step (Counts kept step) e
ended_counts kept true text None step e = parsed_counts kept (command_of_words (words text)) step e
ended_counts kept false text None step e = no_step SvfSyntax step (Counts kept step) e

comes_counts : (kept : ReadSoFar) (ended : Bool) (text : List ℕ) (step : Step)
    → read_command kept ended text ≡ Ok step → Counts kept step
unfolding read_command
comes_counts kept ended text step e =
    ended_counts kept ended text (left_out (words text) (after_word text)) step e

-- ---- a text

abbrev AreFew : ReadSoFar → List SeenCommand → Type 0
AreFew kept cs = kept.clocks + clocks_from kept.in_reset cs ≤ 1000000000

abbrev pub list_ok : List SeenCommand → Result (List SeenCommand) Refusal
list_ok cs = Ok cs

list_or : Result (List SeenCommand) Refusal → List SeenCommand
list_or (Ok cs) = cs
list_or (Err refusal) = []

pub same_list : (xs cs : List SeenCommand) → list_ok xs ≡ list_ok cs → xs ≡ cs
unfolding list_or
same_list xs cs e = ap list_or e

pub no_list : (refusal : Refusal) (cs : List SeenCommand) (A : Type 0)
    → (let r : Result (List SeenCommand) Refusal = Err refusal in r) ≡ Ok cs → A
no_list refusal cs A e = absurd (cc)

none_few : (kept : ReadSoFar) (cs : List SeenCommand) → kept.clocks ≤ 1000000000
    → list_ok [] ≡ list_ok cs → AreFew kept cs
none_few kept cs few e = subst (AreFew kept) (same_list [] cs e) (omega (arith, few))

end_few : (kept : ReadSoFar) (ws : List (List ℕ)) (r : Result Step Cause) (start : ℕ) (cs : List SeenCommand)
    → kept.clocks ≤ 1000000000 → at_end ws r start ≡ Ok cs → AreFew kept cs
end_few kept [] r start cs few e = none_few kept cs few e
end_few kept (w ∷ ws) (Ok step) start cs few e = none_few kept cs few e
end_few kept (w ∷ ws) (Err cause) start cs few e =
    no_list (record { cause = cause; start = start }) cs (AreFew kept cs) e

both_few : (kept : ReadSoFar) (step : Step) (ds : List SeenCommand) → Counts kept step
    → AreFew step.1 ds → AreFew kept (listed step.0 ++ ds)
both_few kept (None, next) ds counts few =
    subst (λ b. kept.clocks + clocks_from b ds ≤ 1000000000) counts.1 (omega (arith, few, counts.0))
both_few kept (Some c, next) ds counts few = omega (arith, few, counts.1 ds)

still_few : (kept : ReadSoFar) (step : Step) → kept.clocks ≤ 1000000000
    → Counts kept step → step.1.clocks ≤ 1000000000
still_few kept (None, next) few counts = omega (arith, few, counts.0)
still_few kept (Some c, next) few counts = counts.0

front_few : (kept : ReadSoFar) (step : Step) (q : Result (List SeenCommand) Refusal) (cs : List SeenCommand)
    → Counts kept step → ((ds : List SeenCommand) → q ≡ Ok ds → AreFew step.1 ds)
    → before (listed step.0) q ≡ Ok cs → AreFew kept cs
front_few kept step (Ok ds) cs counts later e =
    subst (AreFew kept) (same_list (listed step.0 ++ ds) cs e) (both_few kept step ds counts (later ds refl))
front_few kept step (Err refusal) cs counts later e = no_list refusal cs (AreFew kept cs) e

then_few : (kept : ReadSoFar) (r : Result Step Cause) (start : ℕ) (next : ReadSoFar
    → Result (List SeenCommand) Refusal) (cs : List SeenCommand) → kept.clocks ≤ 1000000000
    → ((step : Step) → r ≡ Ok step → Counts kept step)
    → ((k : ReadSoFar) (ds : List SeenCommand) → k.clocks ≤ 1000000000 → next k ≡ Ok ds → AreFew k ds)
    → and_then r start next ≡ Ok cs → AreFew kept cs
then_few kept (Ok step) start next cs few counts later e =
    let here = counts step refl in
    front_few kept step (next step.1) cs here (λ ds is. later step.1 ds (still_few kept step few here) is) e
then_few kept (Err cause) start next cs few counts later e =
    no_list (record { cause = cause; start = start }) cs (AreFew kept cs) e

read_few : (ts : List (List ℕ)) (kept : ReadSoFar) (at : ℕ) (cs : List SeenCommand) → kept.clocks ≤ 1000000000
    → read_from kept at ts ≡ Ok cs → AreFew kept cs
read_few [] kept at cs few e = none_few kept cs few e
read_few (t ∷ []) kept at cs few e =
    end_few kept (words t) (read_command kept false t) (at + blanks t) cs few e
read_few (t ∷ (u ∷ us)) kept at cs few e =
    then_few kept (read_command kept true t) (at + blanks t) (λ next. read_from next (suc (at + length t))
    (u ∷ us)) cs few (λ step is. comes_counts kept true t step is)
    (λ k ds less is. read_few (u ∷ us) k (suc (at + length t)) ds less is) e

pub read_commands_are_within_limits : ReadCommandsAreWithinLimits
unfolding svf
read_commands_are_within_limits src cs e =
    let all = read_few (texts (plain src)) at_first 0 cs (omega arith) e in omega (arith, all)
