-- What tables tell of the joins of a turn.
use Rattle.std.proofs.Common.{◌≡◌, ◌≤◌, ◌==◌, ℕ, true, false, List, [], ◌∷◌, ◌++◌, length, sym, ap, ◌∙◌}
use Rattle.std.specs.Prelude.{not, ◌&&◌, ◌||◌}
use Rattle.std.specs.List.{list_any}
use Rattle.net_graph.specs.declared.branch.Branch.{Branch}
use Rattle.net_graph.specs.declared.net.BitId.{BitId}
use Rattle.net_graph.specs.SeenSteps.{SeenGroup}
use Rattle.pdl_targets.specs.Rounds.{Places, exclude}
use Rattle.pdl_targets.specs.Rows.{StampedRows, excluded_at}
use Rattle.merge_order.specs.declared.named.Named.{Named}
use Rattle.merge_order.specs.Insertion.{is_closed, join_at, open_round, put_at, takes}
use Rattle.merge_order.specs.Merge.{names}
use Rattle.merge_order.specs.Named.{Tells, refuses}
use Rattle.merge_order.specs.Tables.{SameRows, StampedBits, has_bit, is_shut, rows_around}
use Rattle.merge_order.proofs.Insertions.{more_closed, more_open, put_closed, put_open}
use Rattle.merge_order.proofs.Tabled.{bit_told, row_told, takes_told}

module _ (places : Places) where
  -- empty tables
  pub none_told : (t : Named) → ((b : BitId) (k : ℕ) → has_bit t.bits b k ≡ false)
      → ((k : ℕ) → is_shut t.bits k ≡ false) → ((b : Branch) (k : ℕ) → excluded_at t.rows b k ≡ false)
      → Tells places t []
  none_told t no_bit no_join no_row = record {
    closed = λ k. no_join k;
    bits = λ k b. no_bit b k;
    rows = λ k b. no_row b k;
  }

  -- tables with one round more
  pub put_told : (old : Named) (bits : StampedBits) (rows : StampedRows) (h : SeenGroup)
      (around : List Branch) (joins : List (List SeenGroup)) (p : ℕ)
      → SameRows around (rows_around places h) → Tells places old joins
      → p ≤ length joins → is_closed (join_at joins p) ≡ false
      → ((b : BitId) (k : ℕ) → has_bit bits b k ≡ (k == p && names h b || has_bit old.bits b k))
      → ((k : ℕ) → is_shut bits k ≡ is_shut old.bits k)
      → ((b : Branch) (k : ℕ)
      → excluded_at rows b k ≡ (k == p && list_any (λ a. exclude a b) around || excluded_at old.rows b k))
      → Tells places (record { bits = bits; rows = rows }) (put_at p h joins)
  put_told old bits rows h around joins p same tells within open_join put_bits put_shut put_rows = record {
    closed = λ k. put_shut k ∙ tells.closed k ∙ sym (put_closed h joins p k within open_join);
    bits = λ k b.
        bit_told places (k == p) (open_round (join_at joins k)) h b (has_bit old.bits b k)
        (has_bit bits b k) (tells.bits k b) (put_bits b k)
        ∙ ap (λ (g : SeenGroup). names g b) (sym (put_open h joins p k within));
    rows = λ k b.
        row_told places (k == p) (open_round (join_at joins k)) h around b (excluded_at old.rows b k)
        (excluded_at rows b k) same (tells.rows k b) (put_rows b k)
        ∙ ap (λ (g : SeenGroup). list_any (λ a. exclude a b) (rows_around places g))
        (sym (put_open h joins p k within));
  }

  -- tables with one closed join more
  pub closed_told : (old : Named) (bits : StampedBits)
      (joins : List (List SeenGroup)) (p : ℕ) (rounds : List SeenGroup)
      → Tells places old joins → p ≡ length joins → is_closed rounds ≡ true
      → ((b : BitId) (k : ℕ) → has_bit bits b k ≡ has_bit old.bits b k)
      → ((k : ℕ) → is_shut bits k ≡ (k == p || is_shut old.bits k))
      → Tells places (record { bits = bits; rows = old.rows }) (joins ++ rounds ∷ [])
  closed_told old bits joins p rounds tells following shut same put_shut = record {
    closed = λ k.
        put_shut k ∙ ap (λ n. k == n || is_shut old.bits k) following
        ∙ ap (λ t. k == length joins || t) (tells.closed k) ∙ sym (more_closed joins rounds shut k);
    bits = λ k b. same b k ∙ tells.bits k b
        ∙ ap (λ (g : SeenGroup). names g b) (sym (more_open joins rounds shut k));
    rows = λ k b. tells.rows k b ∙ ap (λ (g : SeenGroup). list_any (λ a. exclude a b) (rows_around places g))
        (sym (more_open joins rounds shut k));
  }

  module _ (t : Named) (h : SeenGroup) (around : List Branch) (joins : List (List SeenGroup))
      (same : SameRows around (rows_around places h)) (tells : Tells places t joins) where
    -- a join takes what it doesn't refuse
    taken_told : (k : ℕ) → not (refuses t h around k) ≡ takes places (join_at joins k) h
    taken_told k =
        takes_told places (is_shut t.bits k) (is_closed (join_at joins k)) (λ b. has_bit t.bits b k)
        (λ b. excluded_at t.rows b k) (open_round (join_at joins k)) h around same
        (tells.closed k) (tells.bits k) (tells.rows k)

    pub refused_told : (k : ℕ) → refuses t h around k ≡ true → takes places (join_at joins k) h ≡ false
    refused_told k e = sym (taken_told k) ∙ ap not e

    pub open_told : (k : ℕ) → refuses t h around k ≡ false → takes places (join_at joins k) h ≡ true
    open_told k e = sym (taken_told k) ∙ ap not e
