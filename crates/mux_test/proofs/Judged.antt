-- Rows that are judged scan by scan are judged as the whole test judges them.
use Rattle.std.proofs.Common.{◌≡◌, ℕ, zero, suc, ◌+◌, ◌<◌, ◌≤◌, Bool, true, false, List, [], ◌∷◌, ◌++◌}
use Rattle.std.proofs.Common.{length, drop, get_or, refl, sym, ap, ◌∙◌, subst, arith}
use Rattle.std.specs.Prelude.{◌==◌, not, cond, map, filter, take, slice_set, All}
use Rattle.std.specs.Str.{bytes_eq as same_registers}
use Rattle.std.proofs.lemmas.List.{drop_more}
use Rattle.std.proofs.lemmas.List.Elements.{All-nil, All-cons, All-head, All-tail, All-weaker}
use Rattle.std.proofs.lemmas.Slice.Eq.{bytes_eq-Decides}
use Rattle.net_graph.specs.Chain.{chain, IsRoute}
use Rattle.net_graph.specs.Held.{IsHeld, AreHolds}
use Rattle.net_graph.specs.Named.{IsBitOf}
use Rattle.net_graph.specs.Nets.{IsNet}
use Rattle.net_graph.specs.Writes.{write_all}
use Rattle.net_graph.proofs.Selecting.{is_held}
use Rattle.net_graph.proofs.Widths.{chain_fits}
use Rattle.path_planner.specs.Planning.{IsBranchOf}
use Rattle.net_graph.specs.declared.branch.Branch.{Branch}
use Rattle.net_graph.specs.declared.net.Net.{Net}
use Rattle.net_graph.specs.declared.step.WriteBit.{WriteBit}
use Rattle.net_graph.specs.Path.{route_of}
use Rattle.net_graph.specs.Signals.{Holds}
use Rattle.net_graph.specs.Stuck.{stuck_route}
use Rattle.mux_test.specs.declared.judge.RowVerdict.{RowVerdict}
use Rattle.mux_test.specs.declared.judge.Verdict.{Verdict}
use Rattle.mux_test.specs.declared.judge.Verdict.TheVariants.{Open, Seen, Unseen}
use Rattle.mux_test.specs.Judged.{judge, judged_at, judged_row, judged_rows, verdict_of, open_row, is_untold}
use Rattle.mux_test.specs.Judged.{untold_rows, unseen_rows}
use Rattle.mux_test.specs.Seen.{begins, is_seen}
use Rattle.mux_test.specs.declared.planned.PlannedScan.{PlannedScan}
use Rattle.mux_test.specs.Planned.{AreFlushable, holds_after, seen_planned}

module _ (net : Net) where
  -- one row after all scans
  judged : List Holds → RowVerdict → RowVerdict
  judged [] r = r
  judged (h ∷ hs) r = judged hs (judged_row net h r)

  each : (hs : List Holds) (r : RowVerdict) (rs : List RowVerdict)
      → judged_rows net hs (r ∷ rs) ≡ judged hs r ∷ judged_rows net hs rs
  unfolding judged
  each [] r rs = refl
  each (h ∷ hs) r rs = each hs (judged_row net h r)
      (map (judged_row net h) rs)

  none : (hs : List Holds) → judged_rows net hs [] ≡ []
  none [] = refl
  none (h ∷ hs) = none hs

  same_branch : (hs : List Holds) (r : RowVerdict) → (judged hs r).branch ≡ r.branch
  unfolding judged
  same_branch [] r = refl
  same_branch (h ∷ hs) r = same_branch hs (judged_row net h r)

  -- what was found stays
  seen_stays : (hs : List Holds) (b : Branch)
      → is_untold (judged hs (record { branch = b; verdict = Seen })) ≡ false
  unfolding judged
  seen_stays [] b = refl
  seen_stays (h ∷ hs) b = seen_stays hs b

  unseen_stays : (hs : List Holds) (b : Branch)
      → is_untold (judged hs (record { branch = b; verdict = Unseen })) ≡ true
  unfolding judged
  unseen_stays [] b = refl
  unseen_stays (h ∷ hs) b = unseen_stays hs b

  -- a row that no scan was judged for
  from_open : (hs : List Holds) (b : Branch) → is_untold (judged hs (open_row b)) ≡ not (is_seen net b hs)
  unfolding judged
  from_open [] b = refl
  from_open (h ∷ hs) b =
      on (same_registers (route_of net h) (stuck_route net b h))
      (length (chain (route_of net h) h) == length (chain (stuck_route net b h) h)) (from_open hs b)
    where
      on : (s t : Bool) → is_untold (judged hs (open_row b)) ≡ not (is_seen net b hs)
          → is_untold (judged hs (record {
            branch = b;
            verdict = elim s as (λ _. Verdict) [
              | true ↦ Open
              | false ↦ elim t as (λ _. Verdict) [ true ↦ Unseen | false ↦ Seen ]
            ];
          }))
          ≡ not (elim s as (λ _. Bool) [ true ↦ is_seen net b hs | false ↦ not t ])
      on true t later = later
      on false true later = unseen_stays hs b
      on false false later = seen_stays hs b

  -- all rows, from the beginning of the test
  pub judged_is : (bs : List Branch) (hs : List Holds)
      → untold_rows (judged_rows net hs (map open_row bs)) ≡ unseen_rows net bs hs
  judged_is [] hs = ap untold_rows (none hs)
  judged_is (b ∷ bs) hs =
      ap untold_rows (each hs (open_row b) (map open_row bs))
      ∙ ap (λ (t : Bool). map (λ r. r.branch)
      (cond t (judged hs (open_row b) ∷ filter is_untold (judged_rows net hs (map open_row bs)))
      (filter is_untold (judged_rows net hs (map open_row bs))))) (from_open hs b)
      ∙ on (not (is_seen net b hs)) (judged_is bs hs)
    where
      on : (t : Bool) → untold_rows (judged_rows net hs (map open_row bs)) ≡ unseen_rows net bs hs
          → map (λ r. r.branch)
          (cond t (judged hs (open_row b) ∷ filter is_untold (judged_rows net hs (map open_row bs)))
          (filter is_untold (judged_rows net hs (map open_row bs))))
          ≡ cond t (b ∷ unseen_rows net bs hs) (unseen_rows net bs hs)
      on true later = ap (λ x. x ∷ untold_rows (judged_rows net hs (map open_row bs)))
          (same_branch hs (open_row b)) ∙ ap (λ xs. b ∷ xs) later
      on false later = later

-- ---- judging, as loops do it

-- a scan without a write
pub was_empty : (b : Bool) → not b ≡ false → b ≡ true
was_empty true e = refl
was_empty false e = sym e

-- what a scan says of a row it says again
module _ (net : Net) (h : Holds) where
  says_again : (b : Branch) (v : Verdict) → judge net h b (judge net h b v) ≡ judge net h b v
  says_again b Seen = refl
  says_again b Unseen = refl
  says_again b Open =
      let own = route_of net h in
      let other = stuck_route net b h in
      on (same_registers own other) (length (chain own h) == length (chain other h)) refl
    where
      on : (s t : Bool) → same_registers (route_of net h) (stuck_route net b h) ≡ s
          → judge net h b (elim s as (λ _. Verdict) [
            | true ↦ Open
            | false ↦ elim t as (λ _. Verdict) [ true ↦ Unseen | false ↦ Seen ]
          ])
          ≡ elim s as (λ _. Verdict) [
            | true ↦ Open
            | false ↦ elim t as (λ _. Verdict) [ true ↦ Unseen | false ↦ Seen ]
          ]
      on true t e =
          ap (λ (s : Bool). elim s as (λ _. Verdict) [
            | true ↦ Open
            | false ↦ elim (length (chain (route_of net h) h) == length
                (chain (stuck_route net b h) h)) as (λ _. Verdict) [ true ↦ Unseen | false ↦ Seen ]
          ]) e
      on false true e = refl
      on false false e = refl

  judged_again : (rows : List RowVerdict)
      → map (judged_row net h) (map (judged_row net h) rows) ≡ map (judged_row net h) rows
  judged_again [] = refl
  judged_again (r ∷ rs) =
      ap (λ v. record { branch = r.branch; verdict = v } ∷ map (judged_row net h) (map (judged_row net h) rs))
      (says_again r.branch r.verdict)
      ∙ ap (λ xs. judged_row net h r ∷ xs) (judged_again rs)

  -- after a scan that changes nothing, rows are judged already
  pub next_alike : (next : Holds) (ws : List WriteBit) (rows now : List RowVerdict) → next ≡ write_all h ws
      → ws ≡ [] → now ≡ map (judged_row net h) rows → map (judged_row net next) now ≡ now
  next_alike next ws rows now n e a =
      let same : next ≡ h = n ∙ ap (write_all h) e in
      ap (λ k. map (judged_row net k) now) same ∙ ap (map (judged_row net h)) a ∙ judged_again rows ∙ sym a

-- what doesn't change the path says nothing
pub says_nothing : (h : Holds) (own other : List ℕ) → other ≡ own → Open ≡ verdict_of h own other
says_nothing h own other e =
    let same : same_registers own other ≡ true = (bytes_eq-Decides own other).1 (sym e) in
    ap (λ (t : Bool). elim t as (λ _. Verdict) [
      | true ↦ Open
      | false ↦ elim (length (chain own h) == length
          (chain other h)) as (λ _. Verdict) [ true ↦ Unseen | false ↦ Seen ]
    ]) (sym same)

-- a path of a network is short
pub path_short : (net : Net) (p : List ℕ) (h : Holds) → IsNet net → AreHolds net h
    → IsRoute (length h) p → length (chain p h) ≤ 4096
path_short net p h w a r = omega (arith, chain_fits net p h a r, w.bits_within_limit)

-- ---- one row judged in its place

module _ (net : Net) (h : Holds) where
  one_more : (rows : List RowVerdict) (i : ℕ)
      → judged_at net h i (map (judged_row net h) (take i rows) ++ drop i rows)
      ≡ map (judged_row net h) (take (suc i) rows) ++ drop (suc i) rows
  one_more [] zero = refl
  one_more [] (suc i) = refl
  one_more (r ∷ rs) zero = refl
  one_more (r ∷ rs) (suc i) = ap (λ xs. judged_row net h r ∷ xs) (one_more rs i)

  -- one more of them is judged
  pub next_row_judged : (rows before now : List RowVerdict) (i : ℕ)
      → before ≡ map (judged_row net h) (take i rows) ++ drop i rows → now ≡ judged_at net h i before
      → now ≡ map (judged_row net h) (take (i + 1) rows) ++ drop (i + 1) rows
  next_row_judged rows before now i e a =
      let one : suc i ≡ i + 1 = omega arith in
      a ∙ ap (judged_at net h i) e ∙ one_more rows i
      ∙ ap (λ k. map (judged_row net h) (take k rows) ++ drop k rows) one

  put : (rows : List RowVerdict) (i : ℕ) (r : RowVerdict) → r ≡ get_or rows i r
      → slice_set rows i (judged_row net h r) ≡ judged_at net h i rows
  put [] zero r e = refl
  put [] (suc i) r e = refl
  put (x ∷ xs) zero r e = ap (λ y. judged_row net h y ∷ xs) e
  put (x ∷ xs) (suc i) r e = ap (λ ys. x ∷ ys) (put xs i r e)

  -- where it is put in its place
  pub row_put : (rows now : List RowVerdict) (i : ℕ) (r judged : RowVerdict) → r ≡ get_or rows i r
      → judged ≡ judged_row net h r → now ≡ slice_set rows i judged → now ≡ judged_at net h i rows
  row_put rows now i r judged e j a = a ∙ ap (slice_set rows i) j ∙ put rows i r e

  -- where it stays as it is
  pub row_stays : (rows : List RowVerdict) (i : ℕ) (r : RowVerdict) → r ≡ get_or rows i r
      → judged_row net h r ≡ r → rows ≡ judged_at net h i rows
  row_stays [] zero r e s = refl
  row_stays [] (suc i) r e s = refl
  row_stays (x ∷ xs) zero r e s = ap (λ y. y ∷ xs) (sym e ∙ sym s ∙ ap (judged_row net h) e)
  row_stays (x ∷ xs) (suc i) r e s = ap (λ ys. x ∷ ys) (row_stays xs i r e s)

-- the rows stay those of the network's muxes
pub row_there : (net : Net) (h : Holds) (rows now : List RowVerdict) (i : ℕ) → now ≡ judged_at net h i rows
    → All (λ r. IsBranchOf net r.branch) rows → All (λ r. IsBranchOf net r.branch) now
row_there net h rows now i e a = subst (All (λ r. IsBranchOf net r.branch)) (sym e) (each_there rows i a)
  where
    each_there : (rows : List RowVerdict) (i : ℕ) → All (λ r. IsBranchOf net r.branch) rows
        → All (λ r. IsBranchOf net r.branch) (judged_at net h i rows)
    each_there [] zero a = a
    each_there [] (suc i) a = a
    each_there (r ∷ rs) zero a =
        All-cons (λ (r : RowVerdict). IsBranchOf net r.branch) (judged_row net h r) rs
        (All-head (λ (r : RowVerdict). IsBranchOf net r.branch) r rs a)
        (All-tail (λ (r : RowVerdict). IsBranchOf net r.branch) r rs a)
    each_there (r ∷ rs) (suc i) a =
        All-cons (λ (r : RowVerdict). IsBranchOf net r.branch) r (judged_at net h i rs)
        (All-head (λ (r : RowVerdict). IsBranchOf net r.branch) r rs a)
        (each_there rs i (All-tail (λ (r : RowVerdict). IsBranchOf net r.branch) r rs a))

pub all_judged : (net : Net) (h : Holds) (rows now : List RowVerdict) → now ≡ map (judged_row net h) rows
    → All (λ r. IsBranchOf net r.branch) rows → All (λ r. IsBranchOf net r.branch) now
all_judged net h rows now e a = subst (All (λ r. IsBranchOf net r.branch)) (sym e) (each_judged rows a)
  where
    each_judged : (rows : List RowVerdict) → All (λ r. IsBranchOf net r.branch) rows
        → All (λ r. IsBranchOf net r.branch) (map (judged_row net h) rows)
    each_judged [] a = All-nil (λ (r : RowVerdict). IsBranchOf net r.branch)
    each_judged (r ∷ rs) a =
        All-cons (λ (r : RowVerdict). IsBranchOf net r.branch) (judged_row net h r)
        (map (judged_row net h) rs)
        (All-head (λ (r : RowVerdict). IsBranchOf net r.branch) r rs a)
        (each_judged rs (All-tail (λ (r : RowVerdict). IsBranchOf net r.branch) r rs a))

pub all_open : (net : Net) (bs : List Branch) (rows : List RowVerdict) → rows ≡ map open_row bs
    → All (IsBranchOf net) bs → All (λ r. IsBranchOf net r.branch) rows
all_open net bs rows e a = subst (All (λ r. IsBranchOf net r.branch)) (sym e) (each_open bs a)
  where
    each_open : (bs : List Branch) → All (IsBranchOf net) bs
        → All (λ r. IsBranchOf net r.branch) (map open_row bs)
    each_open [] a = All-nil (λ (r : RowVerdict). IsBranchOf net r.branch)
    each_open (b ∷ bs) a =
        All-cons (λ (r : RowVerdict). IsBranchOf net r.branch) (open_row b) (map open_row bs)
        (All-head (IsBranchOf net) b bs a) (each_open bs (All-tail (IsBranchOf net) b bs a))

-- the bits that a scan writes are held before it
pub writes_held : (net : Net) (scans : List PlannedScan) (i : ℕ) (x : PlannedScan) → i < length scans
    → x ≡ get_or scans i x → (h : Holds) → AreFlushable net h (map seen_planned (drop i scans))
    → All (λ w. IsHeld h w.bit) x.plan.writes.items
writes_held net scans i x l is h a =
    let left : map seen_planned (drop i scans) ≡ seen_planned x ∷ map seen_planned (drop (i + 1) scans) =
    ap (map seen_planned) (drop_more scans i x l ∙ ap (λ y. y ∷ drop (i + 1) scans) (sym is)) in
    let b = subst (AreFlushable net h) left a in
    let (path, active, p) = b.1 in
    All-weaker (λ w. IsBitOf net w.bit) (λ w. IsHeld h w.bit)
    (λ w k. is_held net h w.bit p.widths k) x.plan.writes.items p.writes

module _ (net : Net) (scans : List PlannedScan) (i : ℕ) (x : PlannedScan) (l : i < length scans)
    (is : x ≡ get_or scans i x) (h next : Holds) (n : next ≡ write_all h x.plan.writes.items) where
  -- the next scan, and those after it
  pub left_is : map seen_planned (drop i scans) ≡ seen_planned x ∷ map seen_planned (drop (i + 1) scans)
  left_is = ap (map seen_planned) (drop_more scans i x l ∙ ap (λ y. y ∷ drop (i + 1) scans) (sym is))

  pub next_can : AreFlushable net h (map seen_planned (drop i scans))
      → AreFlushable net next (map seen_planned (drop (i + 1) scans))
  next_can a =
      let b = subst (AreFlushable net h) left_is a in
      subst (λ k. AreFlushable net k (map seen_planned (drop (i + 1) scans))) (sym n) b.2

  pub next_judged : (rows now all : List RowVerdict) → now ≡ map (judged_row net h) rows
      → judged_rows net (begins h (holds_after h (map seen_planned (drop i scans)))) rows ≡ all
      → judged_rows net (begins next (holds_after next (map seen_planned (drop (i + 1) scans)))) now ≡ all
  next_judged rows now all e j =
      let ps = map seen_planned (drop (i + 1) scans) in
      ap (λ rs. judged_rows net (begins next (holds_after next ps)) rs) e
      ∙ ap (λ k. judged_rows net (begins k (holds_after k ps)) (map (judged_row net h) rows)) n
      ∙ ap (λ qs. judged_rows net (begins h (holds_after h qs)) rows) (sym left_is)
      ∙ j
