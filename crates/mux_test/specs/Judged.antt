-- Rows that a mux may be stuck in, judged scan by scan (IEEE 1687-2014: ScanMux, active scan path).
use Rattle.std.specs.Prelude.{ℕ, zero, suc, ◌==◌, Bool, true, false, not, List, [], ◌∷◌, length, map, filter}
use Rattle.std.specs.Str.{bytes_eq as same_registers}
use Rattle.net_graph.specs.Chain.{chain}
use Rattle.net_graph.specs.declared.branch.Branch.{Branch}
use Rattle.net_graph.specs.declared.net.Net.{Net}
use Rattle.net_graph.specs.Path.{route_of}
use Rattle.net_graph.specs.Signals.{Holds}
use Rattle.net_graph.specs.Stuck.{stuck_route}
use Rattle.mux_test.specs.Seen.{is_seen}
use Rattle.mux_test.specs.declared.judge.RowVerdict.{RowVerdict}
use Rattle.mux_test.specs.declared.judge.Verdict.{Verdict}
use Rattle.mux_test.specs.declared.judge.Verdict.TheVariants.{Open, Seen, Unseen}

-- what two paths say: the same registers say nothing yet, another path is told by its number of bits
abbrev pub verdict_of : Holds → List ℕ → List ℕ → Verdict
verdict_of h own other =
    elim (same_registers own other) [
      | true ↦ Open
      | false ↦ elim (length (chain own h) == length (chain other h)) [ true ↦ Unseen | false ↦ Seen ]
    ]

-- a row at a scan that begins with these update stages: what was found stays
abbrev pub judge : Net → Holds → Branch → Verdict → Verdict
judge net h b Open = verdict_of h (route_of net h) (stuck_route net b h)
judge net h b Seen = Seen
judge net h b Unseen = Unseen

abbrev pub judged_row : Net → Holds → RowVerdict → RowVerdict
judged_row net h r = record { branch = r.branch; verdict = judge net h r.branch r.verdict }

-- rows of which the one at an index is judged
abbrev pub judged_at : Net → Holds → ℕ → List RowVerdict → List RowVerdict
judged_at net h i [] = []
judged_at net h zero (r ∷ rows) = judged_row net h r ∷ rows
judged_at net h (suc i) (r ∷ rows) = r ∷ judged_at net h i rows

-- rows after scans that begin with these update stages
abbrev pub judged_rows : Net → List Holds → List RowVerdict → List RowVerdict
judged_rows net [] rows = rows
judged_rows net (h ∷ hs) rows = judged_rows net hs (map (judged_row net h) rows)

-- a row that no scan was judged for
abbrev pub open_row : Branch → RowVerdict
open_row b = record { branch = b; verdict = Open }

-- a row that no scan has told
abbrev pub is_untold : RowVerdict → Bool
is_untold r = elim r.verdict [ Open ↦ true | Seen ↦ false | Unseen ↦ true ]

abbrev pub untold_rows : List RowVerdict → List Branch
untold_rows rows = map (λ r. r.branch) (filter is_untold rows)

-- of these rows those that a mux may be stuck in unseen, by scans that begin with these update stages
abbrev pub unseen_rows : Net → List Branch → List Holds → List Branch
unseen_rows net bs hs = filter (λ b. not (is_seen net b hs)) bs
