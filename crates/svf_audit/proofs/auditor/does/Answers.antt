use Rattle.std.proofs.Common.{◌≡◌, ℕ, ap, sym, ◌∙◌, Bool, List, length, subst}
use Rattle.std.specs.Prelude.{◌==◌, ◌&&◌, filter, map, not}
use Rattle.std.specs.List.{list_all, list_any}
use Rattle.net_graph.specs.declared.net.BitId.{BitId}
use Rattle.net_graph.specs.Path.{is_select}
use Rattle.net_graph.specs.SeenSteps.{SeenGroup, seen_group}
use Rattle.svf_audit.specs.declared.answer.Cause.TheVariants.{Write, Read}
use Rattle.svf_audit.specs.Audit.{bits_on, changed, does_reads, does_writes, expected_of, need, same_expects}
use Rattle.svf_audit.specs.LastParts.{looked_for}
use Rattle.svf_audit.specs.Registers.{path_in}
use Rattle.svf_audit.proofs.Found.{bits_count, shifted_shape}
use Rattle.net_graph.specs.Chain.{IsRoute}
use Rattle.svf_audit.proofs.Scanning.{changed_as}
use Rattle.net_graph.proofs.Routes.{route_is}
use Rattle.svf_audit.proofs.auditor.does.Goals as goal

pub does_reads-requires-clause-path : goal.does_reads-requires-clause-path
does_reads-requires-clause-path c =
    let r = c.args.r.now in
    let P : List ℕ → Type 0 = IsRoute (length r.net.now.regs.items) in
    subst P (sym (c.as_slice.ensures ∙ c.requires.found.path))
    (route_is r.net.now r.holds c.requires.sound.net)

pub does_writes-requires-clause-now : goal.does_writes-requires-clause-now
does_writes-requires-clause-now c =
    shifted_shape c.args.r.now c.requires.sound c.requires.shifted

pub does_reads-requires-clause-fits : goal.does_reads-requires-clause-fits
does_reads-requires-clause-fits c =
    ap length c.as_slice-bits.ensures.value ∙ bits_count c.args.r.now c.requires.found ∙ sym c.requires.fits

pub returns-then-not-does_writes-clause-does : goal.returns-then-not-does_writes-clause-does
returns-then-not-does_writes-clause-does c =
    let r = c.args.r.now in
    let g : SeenGroup = seen_group c.args.group.now in
    let p : BitId → Bool = λ b. not (is_select r.net.now b) in
    let w : does_writes g (changed r.net.now (path_in r) r.holds r.after) r.after ≡ c.does_writes.result = sym
    (c.does_writes.ensures.done ∙ ap (λ bs. does_writes g (filter p bs) r.after) c.as_slice-moved.ensures
    ∙ ap (λ bs. does_writes g bs r.after) (sym (changed_as r c.requires.shifted))) in
    λ next. ap (λ t. need t Write
    (need (does_reads g (path_in r) r.holds (looked_for c.args.kept.now c.args.tdo.now)) Read next))
    (w ∙ c.if-not-does_writes.true)

pub returns-then-not-does_reads-clause-does : goal.returns-then-not-does_reads-clause-does
returns-then-not-does_reads-clause-does c =
    let r = c.args.r.now in
    let g : SeenGroup = seen_group c.args.group.now in
    let es = looked_for c.args.kept.now c.args.tdo.now in
    let p : BitId → Bool = λ b. not (is_select r.net.now b) in
    let w : does_writes g (changed r.net.now (path_in r) r.holds r.after) r.after ≡ c.does_writes.result = sym
    (c.does_writes.ensures.done ∙ ap (λ bs. does_writes g (filter p bs) r.after) c.as_slice-moved.ensures
    ∙ ap (λ bs. does_writes g bs r.after) (sym (changed_as r c.requires.shifted))) in
    let on : List ℕ → Bool = λ path. list_all (λ x. list_any (λ y. y == x.bit.reg) path) g.reads in
    let d : does_reads g (path_in r) r.holds es ≡ c.does_reads.result = sym (
    c.does_reads.ensures.done
    ∙ ap (λ bs. same_expects es (map (expected_of g.reads) bs) && on c.as_slice.result.now)
    (c.as_slice-bits.ensures.value ∙ c.requires.found.bits)
    ∙ ap (λ path. same_expects es (map (expected_of g.reads) (bits_on r.holds (path_in r))) && on path)
    (c.as_slice.ensures ∙ c.requires.found.path)
    ) in
    λ next. ap (λ t. need t Write (need (does_reads g (path_in r) r.holds es) Read next))
    (w ∙ c.if-not-does_writes.false) ∙ ap (λ t. need t Read next) (d ∙ c.if-not-does_reads.true)

pub returns-clause-does : goal.returns-clause-does
returns-clause-does c =
    let r = c.args.r.now in
    let g : SeenGroup = seen_group c.args.group.now in
    let es = looked_for c.args.kept.now c.args.tdo.now in
    let p : BitId → Bool = λ b. not (is_select r.net.now b) in
    let w : does_writes g (changed r.net.now (path_in r) r.holds r.after) r.after ≡ c.does_writes.result = sym
    (c.does_writes.ensures.done ∙ ap (λ bs. does_writes g (filter p bs) r.after) c.as_slice-moved.ensures
    ∙ ap (λ bs. does_writes g bs r.after) (sym (changed_as r c.requires.shifted))) in
    let on : List ℕ → Bool = λ path. list_all (λ x. list_any (λ y. y == x.bit.reg) path) g.reads in
    let d : does_reads g (path_in r) r.holds es ≡ c.does_reads.result = sym (
    c.does_reads.ensures.done
    ∙ ap (λ bs. same_expects es (map (expected_of g.reads) bs) && on c.as_slice.result.now)
    (c.as_slice-bits.ensures.value ∙ c.requires.found.bits)
    ∙ ap (λ path. same_expects es (map (expected_of g.reads) (bits_on r.holds (path_in r))) && on path)
    (c.as_slice.ensures ∙ c.requires.found.path)
    ) in
    λ next. ap (λ t. need t Write (need (does_reads g (path_in r) r.holds es) Read next))
    (w ∙ c.if-not-does_writes.false) ∙ ap (λ t. need t Read next) (d ∙ c.if-not-does_reads.false)
