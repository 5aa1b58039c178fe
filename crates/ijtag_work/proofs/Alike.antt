-- Some compare of a run differs exactly where some read of the procedure's meaning does.
use Rattle.std.proofs.Common.{◌≡◌, ◌≢◌, zero, suc, Bool, true, false, not, cond, List, [], ◌∷◌, refl, sym, ap}
use Rattle.std.proofs.Common.{◌∙◌, subst, arith}
use Rattle.std.specs.Prelude.{◌↔◌, Contains, filter, map, Result, Ok}
use Rattle.std.proofs.lemmas.Bool.{true≢false}
use Rattle.ij_bits.specs.BitLists.{same_bit}
use Rattle.instruments.specs.After.{machine_of}
use Rattle.instruments.specs.declared.Counts.{Counts}
use Rattle.instruments.specs.Machine.{whole_log}
use Rattle.net_graph.specs.declared.step.ReadBit.{ReadBit}
use Rattle.svf_reader.specs.Meaning.{Refusal}
use Rattle.svf_writer.specs.SeenCommands.{SeenCommand}
use Rattle.tap_machine.specs.Play.{is_empty}
use Rattle.net_bench.specs.Bench.{power_up}
use Rattle.net_bench.specs.Counting.{CountsBegin, CountsCompare, counting, listing}
use Rattle.net_bench.specs.Playing.{Compare, compares_from, differing}
use Rattle.pdl_meaning.specs.Direct.{Direct, direct}
use Rattle.headline.specs.Differences.{PlaysDifferAlike, SomeCompareDiffers, SomeReadDiffers}
use Rattle.headline.specs.Headline.{at_end, compared}
use Rattle.headline.specs.Script.{script_commands}
use Rattle.headline.specs.Retargeting.{script_of}
use Rattle.net_graph.specs.Resets.{start_holds}
use Rattle.bench_report.specs.Report.{differs_of}
use Rattle.direct_report.specs.Report.{differs, direct_differs}
use Rattle.ijtag_work.specs.Laws.{RunsDifferAlike}
use Rattle.ijtag_work.proofs.Counted.{meanings_are_counted}
use Rattle.ij_bits.proofs.Contained.{first_in, later_in}

-- ---- bits that are the same

other_is : (a b : Bool) → same_bit a b ≡ false → a ≢ b
other_is true true e = λ z. true≢false e
other_is true false e = λ z. true≢false z
other_is false true e = λ z. true≢false (sym z)
other_is false false e = λ z. true≢false e

is_other : (a b : Bool) → a ≢ b → same_bit a b ≡ false
is_other true true n = absurd (n refl)
is_other true false n = refl
is_other false true n = refl
is_other false false n = absurd (n refl)

-- two tests are alike where each is false where the other is
alike : (a b : Bool) → (a ≡ false → b ≡ false) → (b ≡ false → a ≡ false) → a ≡ b
alike true true f g = refl
alike true false f g = g refl
alike false true f g = sym (f refl)
alike false false f g = refl

-- ---- compares, and reads, some of which differ

compare_test : (c : Compare) (cs : List Compare) → (is_empty (differing cs) ≡ false → SomeCompareDiffers cs)
    → (t : Bool) → same_bit c.expect c.found ≡ t
    → is_empty (cond t (differing cs) (c ∷ differing cs)) ≡ false → SomeCompareDiffers (c ∷ cs)
compare_test c cs f true s n = let (x, i, d) = f n in (x, later_in c x cs i, d)
compare_test c cs f false s n = (c, first_in c cs, other_is c.expect c.found s)

some_compare : (cs : List Compare) → is_empty (differing cs) ≡ false → SomeCompareDiffers cs
some_compare [] e = absurd (true≢false e)
some_compare (c ∷ cs) e = compare_test c cs (some_compare cs) (same_bit c.expect c.found) refl e

still_some : {X : Type 0} (t : Bool) (x : X) (xs : List X)
    → is_empty xs ≡ false → is_empty (cond t xs (x ∷ xs)) ≡ false
still_some true x xs e = e
still_some false x xs e = refl

compare_some : (cs : List Compare) (c : Compare) → Contains cs c
    → c.expect ≢ c.found → is_empty (differing cs) ≡ false
compare_some [] c i d = absurd (omega (arith, i.1))
compare_some (x ∷ xs) c (zero, l, e) d =
    let differ : x.expect ≢ x.found = subst (λ (z : Compare). z.expect ≢ z.found) (sym e) d in
    ap (λ t. is_empty (cond t (differing xs) (x ∷ differing xs))) (is_other x.expect x.found differ)
compare_some (x ∷ xs) c (suc k, l, e) d =
    still_some (same_bit x.expect x.found) x (differing xs) (compare_some xs c (k, omega (arith, l), e) d)

abbrev Read : Type 0
Read = ReadBit × Bool

read_test : (r : Read) (rs : List Read) → (is_empty (filter differs rs) ≡ false → SomeReadDiffers rs)
    → (t : Bool) → same_bit r.0.expect r.1 ≡ t
    → is_empty (cond (not t) (r ∷ filter differs rs) (filter differs rs)) ≡ false → SomeReadDiffers (r ∷ rs)
read_test r rs f true s n = let (x, i, d) = f n in (x, later_in r x rs i, d)
read_test r rs f false s n = (r, first_in r rs, other_is r.0.expect r.1 s)

some_read : (rs : List Read) → is_empty (filter differs rs) ≡ false → SomeReadDiffers rs
some_read [] e = absurd (true≢false e)
some_read (r ∷ rs) e = read_test r rs (some_read rs) (same_bit r.0.expect r.1) refl e

still_read : {X : Type 0} (t : Bool) (x : X) (xs : List X) → is_empty xs ≡ false
    → is_empty (cond (not t) (x ∷ xs) xs) ≡ false
still_read true x xs e = e
still_read false x xs e = refl

read_some : (rs : List Read) (r : Read) → Contains rs r
    → r.0.expect ≢ r.1 → is_empty (filter differs rs) ≡ false
read_some [] r i d = absurd (omega (arith, i.1))
read_some (x ∷ xs) r (zero, l, e) d =
    let differ : x.0.expect ≢ x.1 = subst (λ (z : Read). z.0.expect ≢ z.1) (sym e) d in
    ap (λ t. is_empty (cond (not t) (x ∷ filter differs xs) (filter differs xs)))
    (is_other x.0.expect x.1 differ)
read_some (x ∷ xs) r (suc k, l, e) d =
    still_read (same_bit x.0.expect x.1) x (filter differs xs) (read_some xs r (k, omega (arith, l), e) d)

-- ---- a run and its meaning

both_alike : (cs : List Compare) (rs : List Read) → (SomeCompareDiffers cs ↔ SomeReadDiffers rs)
    → is_empty (differing cs) ≡ is_empty (filter differs rs)
both_alike cs rs both =
    alike (is_empty (differing cs)) (is_empty (filter differs rs)) (λ e.
    let (r, i, d) = both.0 (some_compare cs e) in
    read_some rs r i d) (λ e. let (c, i, d) = both.1 (some_read rs e) in compare_some cs c i d)

pub ok_same : (a b : List SeenCommand) → ◌≡◌ {A = Result (List SeenCommand) Refusal} (Ok a) (Ok b) → a ≡ b
ok_same a b e = cc

pub runs_differ_alike : CountsBegin → CountsCompare → PlaysDifferAlike → RunsDifferAlike
runs_differ_alike begins compare law net form device models steps bytes commands right read =
    let machines = map machine_of models in
    let ds = script_of net (start_holds net) right.plans in
    let are : commands ≡ script_commands device ds =
    ok_same commands (script_commands device ds) (sym read ∙ right.read) in
    let start = power_up (listing net device machines) in
    let listed : differs_of net device models (script_commands device ds)
    ≡ differing (compared (listing net device machines) ds) =
    ap (λ s. differing (compares_from (counting net device machines) 0 (script_commands device ds) s))
    (begins net device machines)
    ∙ ap differing (compare net device machines 0 (script_commands device ds) start) in
    let meant : direct_differs net models steps
    ≡ filter differs (at_end (listing net device machines) ds).reads =
    ap (λ (d : Direct Counts). filter differs d.reads) (meanings_are_counted net machines steps)
    ∙ ap (λ ss. filter differs (direct whole_log net machines ss).reads) (sym right.right.does) in
    ap (λ cs. is_empty (differs_of net device models cs)) are
    ∙ ap is_empty listed
    ∙ both_alike (compared (listing net device machines) ds) (at_end (listing net device machines) ds).reads
    (law net device machines ds (right.right.plays machines))
    ∙ ap is_empty (sym meant)
