-- The text of a test is that of its scans, one after the other.
use Rattle.std.proofs.Common.{◌≡◌, ℕ, zero, suc, Bool, true, false, List, [], ◌∷◌, ◌++◌, length, refl, sym}
use Rattle.std.proofs.Common.{ap, ◌∙◌, append_assoc}
use Rattle.std.specs.Prelude.{◌<◌, map, not, All}
use Rattle.std.proofs.lemmas.List.Elements.{All-nil, All-cons, All-append, All-filter, All-head, All-tail}
use Rattle.std.proofs.lemmas.List.Elements.{All-weaker}
use Rattle.net_graph.specs.declared.branch.Branch.{Branch}
use Rattle.net_graph.specs.declared.net.Net.{Net}
use Rattle.net_graph.specs.Held.{AreHolds}
use Rattle.net_graph.specs.Nets.{IsNet}
use Rattle.net_graph.specs.Resets.{start_holds}
use Rattle.net_graph.specs.Signals.{Holds}
use Rattle.net_tree.specs.Form.{Items}
use Rattle.path_planner.specs.Opening.{AreUnseen, last_holds}
use Rattle.path_planner.specs.Planning.{IsBranchOf}
use Rattle.path_planner.specs.RowScans.{row_scans, scans_of_row}
use Rattle.path_planner.specs.Rows.{all_in, row_needs}
use Rattle.path_planner.specs.Scannable.{IsScannable}
use Rattle.path_planner.specs.Settling.{settle}
use Rattle.path_planner.proofs.RowScans.{rows_are_scanned}
use Rattle.path_planner.proofs.Starting.{start_scannable}
use Rattle.svf_writer.specs.RowMarks.{row_mark}
use Rattle.svf_writer.specs.SeenCommands.{SDR}
use Rattle.svf_writer.specs.Written.{preface, text_of, texts_of}
use Rattle.mux_test.specs.Flushes.{SeenTestScan, row_flushes, rows_flushes}
use Rattle.mux_test.specs.Laws.{IsTestable}
use Rattle.mux_test.specs.Seen.{is_seen_in_test, unseen}
use Rattle.mux_test.specs.Test.{branches, flush, flushes, rows_text, tested_from}
use Rattle.mux_test.specs.Texts.{CanWrite, ScansMakeTheText, scan_text, scans_text}
use Rattle.mux_test.proofs.Reading.{flush_given}
use Rattle.mux_test.proofs.Testing.{all_branches}

-- ---- a row has a scan

some_scan : (net : Net) (bs : List Branch) (n : ℕ) (h : Holds)
    → (k : Holds) × (ks : List Holds) × (row_scans net bs n h ≡ k ∷ ks)
some_scan net bs zero h = (h, [], refl)
some_scan net bs (suc n) h = by (all_in net bs h)
  where
    by : (b : Bool) → (k : Holds) × (ks : List Holds) × (elim b [
      | true ↦ h ∷ []
      | false ↦
          let next = settle net bs h in next ∷ row_scans net bs n next
    ] ≡ k ∷ ks)
    by true = (h, [], refl)
    by false = (settle net bs h, row_scans net bs n (settle net bs h), refl)

-- ---- the texts

scans_both : (net : Net) (xs ys : List SeenTestScan)
    → scans_text net (xs ++ ys) ≡ scans_text net xs ++ scans_text net ys
scans_both net [] ys = refl
scans_both net (x ∷ xs) ys =
    ap (λ l. scan_text net x ++ l) (scans_both net xs ys)
    ∙ sym (append_assoc (scan_text net x) (scans_text net xs) (scans_text net ys))

later_text : (net : Net) (b : Branch) (h : Holds) (hs : List Holds)
    → scans_text net (row_flushes net b false h hs) ≡ texts_of (map SDR (flushes net h hs))
later_text net b h [] = refl
later_text net b h (k ∷ ks) = ap (λ l. text_of (SDR (flush net h k)) ++ l) (later_text net b k ks)

row_text : (net : Net) (b : Branch) (h k : Holds) (hs ks : List Holds) → hs ≡ k ∷ ks
    → scans_text net (row_flushes net b true h hs) ≡ row_mark net b ++ texts_of (map SDR (flushes net h hs))
row_text net b h k hs ks e =
    ap (λ xs. scans_text net (row_flushes net b true h xs)) e
    ∙ append_assoc (row_mark net b) (text_of (SDR (flush net h k)))
    (scans_text net (row_flushes net b false k ks))
    ∙ ap (λ l. row_mark net b ++ (text_of (SDR (flush net h k)) ++ l)) (later_text net b k ks)
    ∙ ap (λ xs. row_mark net b ++ texts_of (map SDR (flushes net h xs))) (sym e)

rows_are : (net : Net) (form : Items) (h : Holds) (bs : List Branch)
    → scans_text net (rows_flushes net h (tested_from net form h bs))
    ≡ rows_text net h (tested_from net form h bs)
rows_are net form h [] = refl
rows_are net form h (b ∷ bs) =
    let hs = scans_of_row net form b h in
    let rest = tested_from net form (last_holds h hs) bs in
    let (k, ks, e) = some_scan net (row_needs form b) (length (row_needs form b)) h in
    let own = texts_of (map SDR (flushes net h hs)) in
    scans_both net (row_flushes net b true h hs) (rows_flushes net (last_holds h hs) rest)
    ∙ ap (λ l. l ++ scans_text net (rows_flushes net (last_holds h hs) rest)) (row_text net b h k hs ks e)
    ∙ append_assoc (row_mark net b) own (scans_text net (rows_flushes net (last_holds h hs) rest))
    ∙ ap (λ l. row_mark net b ++ (own ++ l)) (rows_are net form (last_holds h hs) bs)

-- ---- they can be written

module _ (net : Net) (w : IsNet net) where
  row_can : (b : Branch) (first : Bool) (h : Holds) (hs : List Holds) → IsBranchOf net b → AreHolds net h
      → AreUnseen net h hs → All (CanWrite net) (row_flushes net b first h hs)
  row_can b first h [] there wide u = All-nil (CanWrite net)
  row_can b first h (k ∷ ks) there wide u =
      All-cons (CanWrite net) (record { branch = b; first = first; scan = SDR (flush net h k) })
      (row_flushes net b false k ks)
      (record { there = there.mux; written = (flush_given net h k w wide u.0.scan.shape).0 })
      (row_can b false k ks there (u.0.scan.shape ∙ wide) u.1)

rows_can : (net : Net) (form : Items) → IsTestable net form → (h : Holds) (bs : List Branch)
    → All (IsBranchOf net) bs → IsScannable net h
    → All (CanWrite net) (rows_flushes net h (tested_from net form h bs))
rows_can net form t h [] a s = All-nil (CanWrite net)
rows_can net form t h (b ∷ bs) a s =
    let there = All-head (IsBranchOf net) b bs a in
    let o = rows_are_scanned net form b h t.well_formed t.describes t.lawful there s in
    let hs = scans_of_row net form b h in
    All-append (CanWrite net) (row_flushes net b true h hs)
    (rows_flushes net (last_holds h hs) (tested_from net form (last_holds h hs) bs))
    (row_can net t.well_formed b true h hs there s.widths o.unseen)
    (rows_can net form t (last_holds h hs) bs (All-tail (IsBranchOf net) b bs a) o.listed)

-- ---- the muxes of unseen rows are there

unseen_there : (net : Net) (form : Items) → IsTestable net form
    → All (λ b. b.mux < length net.muxes.items) (unseen net form)
unseen_there net form t =
    All-weaker (IsBranchOf net) (λ (b : Branch). b.mux < length net.muxes.items)
    (λ b there. there.mux) (unseen net form)
    (All-filter (λ b. not (is_seen_in_test net form b)) (IsBranchOf net)
    (branches net) (all_branches net form t))

pub scans_make_the_text : ScansMakeTheText
scans_make_the_text net form t =
    record {
      can = rows_can net form t (start_holds net) (branches net)
          (all_branches net form t) (start_scannable net form t.lawful);
      there = unseen_there net form t;
      text = λ device. ap (λ l. preface device ++ l) (rows_are net form (start_holds net) (branches net));
    }
