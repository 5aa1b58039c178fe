use Rattle.std.proofs.Common.{◌≡◌, ◌≤◌, ℕ, true, false, arith, ap, sym, ◌∙◌, subst, nat_lt}
use Rattle.std.proofs.lemmas.Bool.Decides.{nat_tests}
use Rattle.std.proofs.lemmas.Result.{err_from_is_err_and}
use Rattle.svf_writer.specs.SeenCommands.{SeenCommand, seen_scan, seen_command}
use Rattle.svf_reader.specs.declared.so_far.ReadSoFar.{ReadSoFar}
use Rattle.svf_reader.specs.Meaning.{tdi_missing, with_length, with_leaving_clock, scan_clocks, scan_command}
use Rattle.svf_reader.specs.Meaning.{emit_within_clock_limit, scanned}
use Rattle.svf_reader.specs.Answers.{scan_value}
use Rattle.svf_reader.specs.Seen.{Leaves, seen_parts}
use Rattle.svf_reader.proofs.Scans.{fails_on, scanned_err, scanned_ok_at}
use Rattle.svf_reader.proofs.meaning.scanned.Goals as goal

below : (len : ℕ) → len ≤ 65536 → nat_lt 65536 len ≡ false
below len h = grind (arith, nat_tests)

pub returns-in_err-scan : goal.returns-in_err-scan
returns-in_err-scan c =
    let p = seen_parts c.args.parts.now in
    let at = err_from_is_err_and c.from_residual.result c.from_residual.ensures.1 in
    rw (at.1, at.2) (fails_on c.in_err-scan.field-0.0 (scan_value c.args.len p)
    (scanned c.args.kept c.args.register c.args.len p) c.in_err-scan.ensures
    (λ cause e. scanned_err c.args.kept c.args.register c.args.len p cause
    (below c.args.len (omega (arith, c.from.ensures, c.if-len-from.false))) e))

pub returns-then-tdi_missing : goal.returns-then-tdi_missing
returns-then-tdi_missing c =
    let p = seen_parts c.args.parts.now in
    let missing = ap (λ l. tdi_missing l c.args.len p) (sym c.last_length.ensures)
    ∙ sym c.tdi_missing.ensures ∙ c.if-tdi_missing.true in
    scanned_ok_at c.args.kept c.args.register c.args.len p (seen_scan c.in_ok-scan.scan) true
    (below c.args.len (omega (arith, c.from.ensures, c.if-len-from.false))) c.in_ok-scan.ensures missing

pub returns : goal.returns
returns c =
    let p = seen_parts c.args.parts.now in
    let kept = c.args.kept in
    let register = c.args.register in
    let len = c.args.len in
    let there = ap (λ l. tdi_missing l len p) (sym c.last_length.ensures)
    ∙ sym c.tdi_missing.ensures ∙ c.if-tdi_missing.false in
    let is = scanned_ok_at kept register len p (seen_scan c.in_ok-scan.scan) false
    (below len (omega (arith, c.from.ensures, c.if-len-from.false))) c.in_ok-scan.ensures there in
    let n = c.with_leaving_clock-clocks.ensures ∙ ap (with_leaving_clock kept) c.scan_clocks.ensures in
    let read : emit_within_clock_limit c.with_length.result false c.with_leaving_clock-clocks.result
    (seen_command c.scan_command.result) ≡ emit_within_clock_limit (with_length register len kept) false
    (with_leaving_clock kept (scan_clocks register len))
    (scan_command register (seen_scan c.in_ok-scan.scan)) =
    ap (λ (k : ReadSoFar). emit_within_clock_limit k false c.with_leaving_clock-clocks.result
    (seen_command c.scan_command.result)) c.with_length.ensures
    ∙ ap (λ (m : ℕ). emit_within_clock_limit (with_length register len kept) false m
    (seen_command c.scan_command.result)) n
    ∙ ap (λ (x : SeenCommand). emit_within_clock_limit (with_length register len kept) false
    (with_leaving_clock kept (scan_clocks register len)) x) c.scan_command.ensures in
    subst (λ r. Leaves c.emit_within_clock_limit.new.out c.emit_within_clock_limit.result r)
    (read ∙ sym is) c.emit_within_clock_limit.ensures
