-- The entries of a hierarchy are its parts, at their numbers.
use Rattle.std.proofs.Common.{◌≡◌, ◌+◌, ℕ, zero, suc, Bool, true, false, List, [], ◌∷◌, map, refl, sym, ap}
use Rattle.std.proofs.Common.{subst, arith}
use Rattle.std.specs.Prelude.{filter, slice_get}
use Rattle.std.specs.List.{AllByRecursion, enumerate_from}
use Rattle.icl_references.specs.Roles.{Role, PartOf, CellOf}
use Rattle.icl_signals.specs.declared.entries.PartAt.{PartAt}
use Rattle.icl_signals.specs.Moves.{entry_of, entries}
use Rattle.icl_signals.specs.Connecting.{entries_that}
use Rattle.icl_signals.specs.Inside.{numbered}
use Rattle.icl_signals.specs.TrueEnds.{seen_entry, ArePlaced}
use Rattle.icl_signals.proofs.Joined.{Known, all_known}
use Rattle.ij_bits.proofs.Everywhere.{all_kept}

by_number : (cells : List CellOf) (all : List PartAt)
    → AllByRecursion (Known cells) (map seen_entry all) → ArePlaced cells all
by_number cells [] h k d lt = absurd (omega (arith, lt))
by_number cells (e ∷ all) h zero d lt = h.0
by_number cells (e ∷ all) h (suc k) d lt = by_number cells all h.1 k d (omega (arith, lt))

pub placed : (cells : List CellOf) (test : Role → Bool) (all : List PartAt)
    → map seen_entry all ≡ entries_that test cells → ArePlaced cells all
placed cells test all h =
    let known = all_kept (Known cells) (λ e. test e.what.role) (entries cells)
    (all_known cells cells 0 (λ i. let z : 0 + i ≡ i = omega arith in ap (slice_get cells) z)) in
    by_number cells all (subst (AllByRecursion (Known cells)) (sym h) known)

-- ---- with their numbers in one cell

pub numbered_each : (all : List PartAt)
    → map (λ e. numbered (seen_entry e)) all ≡ map numbered (map seen_entry all)
numbered_each [] = refl
numbered_each (e ∷ all) = ap (λ l. numbered (seen_entry e) ∷ l) (numbered_each all)

pub numbered_are : (test : Role → Bool) (n s : ℕ) (ps : List PartOf)
    → map numbered (filter (λ e. test e.what.role) (map (entry_of n) (enumerate_from s ps)))
    ≡ filter (λ p. test p.1.role) (enumerate_from s ps)
numbered_are test n s [] = refl
numbered_are test n s (p ∷ ps) = by_test (test p.role) refl (numbered_are test n (s + 1) ps)
  where
    by_test : (b : Bool) → test p.role ≡ b
        → map numbered (filter (λ e. test e.what.role) (map (entry_of n) (enumerate_from (s + 1) ps)))
        ≡ filter (λ q. test q.1.role) (enumerate_from (s + 1) ps)
        → map numbered (filter (λ e. test e.what.role) (map (entry_of n) (enumerate_from s (p ∷ ps))))
        ≡ filter (λ q. test q.1.role) (enumerate_from s (p ∷ ps))
    by_test true e g = rw e (ap (λ l. (s, p) ∷ l) g)
    by_test false e g = rw e g
