-- The groups with reads that an audit notes, and the compares that they stand for, one group after the other.
use Rattle.std.proofs.Common.{◌≡◌, ⊎_elim, suc, ◌≤◌, Bool, true, false, List, [], ◌∷◌, ◌++◌, length, take}
use Rattle.std.proofs.Common.{drop, sym, ap, ◌∙◌, arith, append_assoc, length-append, length-drop}
use Rattle.std.specs.Prelude.{map}
use Rattle.std.proofs.lemmas.Bool.{cases_Bool}
use Rattle.std.proofs.lemmas.List.{append-nil, take_all, take-append-le, drop-append-le, nil_from_length}
use Rattle.net_graph.specs.declared.net.Net.{Net}
use Rattle.net_graph.specs.declared.step.ReadBit.{ReadBit}
use Rattle.net_graph.specs.SeenSteps.{SeenGroup}
use Rattle.net_graph.specs.Path.{route_of}
use Rattle.net_bench.specs.Playing.{Compare}
use Rattle.headline.specs.Agreement.{read_compare}
use Rattle.tap_machine.specs.Play.{is_empty}
use Rattle.svf_audit.specs.Audit.{Reading, State, note}
use Rattle.svf_audit.specs.Law.{reads_of, read_compares}
use Rattle.svf_audit.proofs.Working.{empty_is}

reads-append : (xs : List Reading) (x : Reading) → reads_of (xs ++ x ∷ []) ≡ reads_of xs ++ x.group.reads
reads-append [] x = append-nil x.group.reads
reads-append (y ∷ ys) x =
    ap (λ l. y.group.reads ++ l) (reads-append ys x)
    ∙ sym (append_assoc y.group.reads (reads_of ys) x.group.reads)

module _ (net : Net) where
  abbrev compare_of : Reading → ReadBit × Bool → Compare
  compare_of x = read_compare x.scan (route_of net x.holds) x.holds

  compares-append : (xs : List Reading) (x : Reading) (found more : List (ReadBit × Bool))
      → length found ≡ length (reads_of xs) → length more ≡ length x.group.reads
      → read_compares net (xs ++ x ∷ []) (found ++ more)
      ≡ read_compares net xs found ++ map (compare_of x) more
  compares-append [] x (f ∷ found) more e l = absurd (omega (arith, e))
  compares-append [] x [] more e l =
      append-nil (map (compare_of x) (take (length x.group.reads) more))
      ∙ ap (map (compare_of x)) (take_all (length x.group.reads) more (omega (arith, l)))
  compares-append (y ∷ ys) x found more e l =
      let n = length y.group.reads in
      let long : n ≤ length found = omega (arith, e, length-append y.group.reads (reads_of ys)) in
      let rest : length (drop n found) ≡ length (reads_of ys) =
      omega (arith, e, length-append y.group.reads (reads_of ys), length-drop n found) in
      ap (λ t. map (compare_of y) t ++ read_compares net (ys ++ x ∷ []) (drop n (found ++ more)))
      (take-append-le n found more long)
      ∙ ap (λ t. map (compare_of y) (take n found) ++ read_compares net (ys ++ x ∷ []) t)
      (drop-append-le n found more long)
      ∙ ap (λ t. map (compare_of y) (take n found) ++ t) (compares-append ys x (drop n found) more rest l)
      ∙ sym (append_assoc (map (compare_of y) (take n found))
      (read_compares net ys (drop n found)) (map (compare_of x) more))

  module _ (a : State) (g : SeenGroup) where
    abbrev new : Reading
    new = record { scan = suc a.scans; holds = a.holds; group = g }

    abbrev noted : Bool → List Reading
    noted t = elim t [ true ↦ a.readings | false ↦ a.readings ++ new ∷ [] ]

    pub note_reads : reads_of (note a g) ≡ reads_of a.readings ++ g.reads
    note_reads =
        ⊎_elim
        (λ t. ap (λ b. reads_of (noted b)) t ∙ sym (append-nil (reads_of a.readings))
        ∙ ap (λ rs. reads_of a.readings ++ rs) (sym (empty_is g.reads t)))
        (λ t. ap (λ b. reads_of (noted b)) t ∙ reads-append a.readings new)
        (cases_Bool (is_empty g.reads))

    pub note_compares : (found more : List (ReadBit × Bool)) → length found ≡ length (reads_of a.readings)
        → length more ≡ length g.reads → read_compares net (note a g) (found ++ more)
        ≡ read_compares net a.readings found ++ map (compare_of new) more
    note_compares found more e l =
        ⊎_elim
        (λ t. let none : more ≡ [] = nil_from_length more (l ∙ ap length (empty_is g.reads t)) in
        ap (λ b. read_compares net (noted b) (found ++ more)) t
        ∙ ap (λ m. read_compares net a.readings (found ++ m)) none ∙ ap (read_compares net a.readings)
        (append-nil found) ∙ sym (append-nil (read_compares net a.readings found))
        ∙ ap (λ m. read_compares net a.readings found ++ map (compare_of new) m) (sym none))
        (λ t. ap (λ b. read_compares net (noted b) (found ++ more)) t
        ∙ compares-append a.readings new found more e l)
        (cases_Bool (is_empty g.reads))
