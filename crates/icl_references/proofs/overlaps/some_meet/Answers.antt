use Rattle.std.proofs.Common.{◌≡◌, ◌+◌, ◌++◌, Bool, List, false, map, drop, sym, ap, subst, ◌∙◌}
use Rattle.std.specs.Prelude.{◌||◌}
use Rattle.ij_text.specs.Numbers.{tern_bits}
use Rattle.icl_declarations.specs.Values.{OpenBits}
use Rattle.icl_references.specs.Overlaps.{AreRowsAlike, from_left, values_meet, values_of}
use Rattle.icl_references.specs.Roles.{seen_row}
use Rattle.icl_references.proofs.Everywhere.{left_at}
use Rattle.icl_references.proofs.Overlapping.{alike_next, all_from_left}
use Rattle.icl_references.proofs.overlaps.some_meet.Goals as goal

pub loop-row-init : goal.loop-row-init
loop-row-init c =
    let rows = map seen_row c.args.rows.now in
    let none = c.new-seen.ensures.none in
    record {
      seen = c.new-seen.ensures.seen;
      alike = subst (λ (l : List OpenBits). AreRowsAlike l rows) (sym none) c.requires;
      goes_on = ap (λ (l : List OpenBits). from_left l rows) none ∙ all_from_left rows;
    }

pub loop-row-preserved : goal.loop-row-preserved
loop-row-preserved c =
    let i = c.loop-row.row-index in
    let row = seen_row c.row-item.result in
    let rest = map seen_row (drop (i + 1) c.args.rows.now) in
    let vs = values_of c.loop-row.seen in
    let left = left_at seen_row c.args.rows.now i c.row-item.result c.loop-row-test.true c.row-item.is in
    let all = c.in_ok-note_row.ensures.all ∙ ap (λ l. vs ++ map tern_bits l) c.as_slice-in-loop-row.ensures in
    let apart : values_meet vs row.values ≡ false = ap (λ l. values_meet vs (map tern_bits l))
    (sym c.as_slice.ensures) ∙ sym c.in_ok-row_meets.ensures ∙ c.if-branch.false in
    record {
      seen = c.in_ok-note_row.ensures.seen;
      alike = subst (λ (l : List OpenBits). AreRowsAlike l rest) (sym all)
          (alike_next vs row rest (subst (AreRowsAlike vs) left c.loop-row.invariant.alike));
      goes_on = ap (λ (l : List OpenBits). from_left l rest) all
          ∙ sym (ap (from_left vs) left ∙ ap (λ (b : Bool). b || from_left (vs ++ row.values) rest) apart)
          ∙ c.loop-row.invariant.goes_on;
    }
