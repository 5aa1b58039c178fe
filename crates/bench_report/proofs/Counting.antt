-- Compares clock by clock.
use Rattle.std.proofs.Common.{◌≡◌, ℕ, ◌+◌, ◌≤◌, Bool, true, false, cond, List, [], ◌∷◌, ◌++◌, length, drop}
use Rattle.std.proofs.Common.{Option, Some, None, refl, ap, sym, ◌∙◌, arith, append_assoc, append-nil}
use Rattle.std.proofs.Common.{length-append}
use Rattle.std.proofs.lemmas.List.{drop_all}
use Rattle.net_graph.specs.declared.step.ReadBit.{ReadBit}
use Rattle.ij_bits.specs.BitLists.{same_bit}
use Rattle.net_bench.specs.Bench.{Chip, State, clock, tdo}
use Rattle.report.specs.Differs.{differ_text}
use Rattle.instruments.specs.declared.Counts.{Counts}
use Rattle.net_bench.specs.Board.{SeenBench}
use Rattle.net_bench.specs.Pieces.{pin_compares}
use Rattle.net_bench.specs.Playing.{Compare, compare_of, compares, differing}
use Rattle.tap_machine.specs.declared.Pins.{Pins}
use Rattle.bench_report.specs.Report.{Names, compare_at, named_lines}
pub use Rattle.net_bench.proofs.Differing.{differing_both}

abbrev line : Names → Compare → List ℕ
line names c = differ_text
    (record { scan = c.scan; bit = c.bit; expect = c.expect; found = c.found; read = names c.scan c.bit })

pub lines_both : (names : Names) (xs ys : List Compare)
    → named_lines names (xs ++ ys) ≡ named_lines names xs ++ named_lines names ys
lines_both names [] ys = refl
lines_both names (x ∷ xs) ys =
    ap (λ l. line names x ++ l) (lines_both names xs ys)
    ∙ sym (append_assoc (line names x) (named_lines names xs) (named_lines names ys))

-- the line of a clock's compare
pub line_is : (names : Names) (p : Pins) (expect found : Bool) (read : Option ReadBit)
    → read ≡ names p.scan p.bit
    → differ_text (record { scan = p.scan; bit = p.bit; expect = expect; found = found; read = read })
    ≡ named_lines names (compare_at p expect found ∷ [])
line_is names p expect found read is =
    ap (λ (r : Option ReadBit). differ_text
    (record { scan = p.scan; bit = p.bit; expect = expect; found = found; read = r })) is
    ∙ sym (append-nil (line names (compare_at p expect found)))

pub few_of : (o : Option Bool) (scan bit : ℕ) (found : Bool)
    → length (differing (compare_of o scan bit found)) ≤ 1
few_of None scan bit found = omega arith
few_of (Some true) scan bit true = omega arith
few_of (Some true) scan bit false = omega arith
few_of (Some false) scan bit true = omega arith
few_of (Some false) scan bit false = omega arith

-- at most one compare differs at a clock
pub few_differ : {L : Type 0} (chip : Chip L) (ps : List Pins) (s : State L)
    → length (differing (compares chip ps s)) ≤ length ps
few_differ chip [] s = omega arith
few_differ chip (p ∷ ps) s =
    let here = compare_of p.expect p.scan p.bit (tdo chip s) in
    let rest = compares chip ps (clock chip p.tms p.tdi s) in
    omega (
      arith,
      ap length (differing_both here rest),
      length-append (differing here) (differing rest),
      few_of p.expect p.scan p.bit (tdo chip s),
      few_differ chip ps (clock chip p.tms p.tdi s),
    )

-- ---- the compares of some clocks, and those that follow

module _ (all cs rest : List Compare) (given : all ≡ cs ++ rest) where
  here_and_later : differing all ≡ differing cs ++ differing rest
  here_and_later = ap differing given ∙ differing_both cs rest

  pub lines_here : (names : Names) → named_lines names (differing all)
      ≡ named_lines names (differing cs) ++ named_lines names (differing rest)
  lines_here names = ap (named_lines names) here_and_later ∙ lines_both names (differing cs) (differing rest)

  pub count_here : length (differing all) ≡ length (differing cs) + length (differing rest)
  count_here = ap length here_and_later ∙ length-append (differing cs) (differing rest)

-- one of some clocks, and those after it
pub compares_step : (p : Pins) (ps qs : List Pins) (f : Bool) (fs gs : List Bool) → qs ≡ p ∷ ps → gs ≡ f ∷ fs
    → pin_compares qs gs ≡ compare_of p.expect p.scan p.bit f ++ pin_compares ps fs
compares_step p ps qs f fs gs given is = ap (λ l. pin_compares l gs) given ∙ ap (pin_compares (p ∷ ps)) is

-- at most one of each clock differs
pub few_compare : (qs : List Pins) (gs : List Bool) → length (differing (pin_compares qs gs)) ≤ length qs
few_compare [] gs = omega arith
few_compare (p ∷ ps) [] = omega arith
few_compare (p ∷ ps) (f ∷ fs) =
    let here = compare_of p.expect p.scan p.bit f in
    let rest = pin_compares ps fs in
    omega (
      arith,
      ap length (differing_both here rest),
      length-append (differing here) (differing rest),
      few_of p.expect p.scan p.bit f,
      few_compare ps fs,
    )

-- after the last of them
pub compares_end : (qs : List Pins) (gs : List Bool) (n : ℕ)
    → length qs ≡ n → pin_compares (drop n qs) gs ≡ []
compares_end qs gs n len = ap (λ l. pin_compares l gs) (drop_all n qs (omega arith))

-- the same device, network and models after a step as at the beginning
pub same_step : (new b first : SeenBench) (u : State Counts) → new ≡ record b { state = u }
    → b ≡ record first { state = b.state } → new ≡ record first { state = new.state }
same_step new b first u is same =
    is ∙ ap (λ (x : SeenBench). record x { state = u }) same
    ∙ ap (λ (v : State Counts). record first { state = v }) (sym (ap (λ (x : SeenBench). x.state) is))
