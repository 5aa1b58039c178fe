use Rattle.std.proofs.Common.{ℕ, List, map, sym, ap, ◌∙◌}
use Rattle.std.specs.List.{list_any}
use Rattle.ij_text.specs.Numbers.{tern_bits}
use Rattle.icl_declarations.specs.Taken.{has_entry}
use Rattle.icl_declarations.specs.Values.{OpenBits}
use Rattle.icl_references.specs.Muxes.{meet}
use Rattle.icl_references.specs.Overlaps.{values_of}
use Rattle.icl_references.proofs.Overlapping.{key_found, key_missing}
use Rattle.icl_references.proofs.overlaps.Seen.meets.Goals as goal

pub returns-then-has : goal.returns-then-has
returns-then-has c =
    let s = c.args.self.now in
    let key = c.deref-2.ensures.value ∙ c.in_ok-key.ensures in
    let closed = sym (c.if-not-is_closed.ensures) in
    key_found (tern_bits c.args.v.now) closed (values_of s) c.requires.wide
    (sym (c.requires.seen.closed _)
    ∙ ap (λ (k : List ℕ). has_entry s.closed k) (sym key) ∙ sym c.if-has.ensures)

pub returns : goal.returns
returns c =
    let s = c.args.self.now in
    let key = c.deref-2.ensures.value ∙ c.in_ok-key.ensures in
    let closed = sym (c.if-not-is_closed.ensures) in
    c.one_meets-2.ensures
    ∙ ap (λ l. list_any (λ (u : OpenBits). meet u (tern_bits c.args.v.now)) (map (λ v. tern_bits v.now) l))
    c.deref-3.ensures.value
    ∙ ap (λ (l : List OpenBits). list_any (λ (u : OpenBits). meet u (tern_bits c.args.v.now)) l)
    c.requires.seen.with_x
    ∙ key_missing (tern_bits c.args.v.now) closed (values_of s) c.requires.wide
    (sym (c.requires.seen.closed _)
    ∙ ap (λ (k : List ℕ). has_entry s.closed k) (sym key) ∙ sym c.if-has.ensures)
