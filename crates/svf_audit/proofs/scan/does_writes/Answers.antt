use Rattle.std.proofs.Common.{◌≡◌, Bool, true, false, List, ap, sym, ◌∙◌}
use Rattle.std.specs.Prelude.{◌&&◌, filter, not}
use Rattle.std.specs.List.{list_all}
use Rattle.net_graph.specs.declared.net.BitId.{BitId}
use Rattle.net_graph.specs.declared.step.WriteBit.{WriteBit}
use Rattle.net_graph.specs.Path.{is_select}
use Rattle.svf_audit.specs.Audit.{is_written}
use Rattle.svf_audit.specs.Work.{has_value}
use Rattle.net_graph.specs.SeenSteps.{seen_group}
use Rattle.svf_audit.proofs.Numbering.{writes_countable}
use Rattle.svf_audit.proofs.Walks.{all_kept}
use Rattle.svf_audit.proofs.scan.does_writes.Goals as goal

pub number_writes-requires-clause-bits : goal.number_writes-requires-clause-bits
number_writes-requires-clause-bits c =
    writes_countable c.args.net.now (seen_group c.args.group.now) c.as_slice-writes.result.now c.requires.net
    c.requires.group c.as_slice-writes.ensures

pub returns-then-are_written-clause-done : goal.returns-then-are_written-clause-done
returns-then-are_written-clause-done c =
    let p : BitId → Bool = λ b. not (is_select c.args.net.now b) in
    let all : List WriteBit → Bool = λ ws. list_all (is_written ws)
    (filter p c.args.moved.now) && list_all (has_value c.args.now.now) ws in
    let s = c.as_slice-writes.result.now in
    let k : list_all (is_written s) (filter p c.args.moved.now) ≡ true =
    all_kept p (is_written s) c.args.moved.now ∙ sym c.are_written.ensures ∙ c.if-are_written.true in
    c.have_values.ensures ∙ sym (ap (λ b. b && list_all (has_value c.args.now.now) s) k)
    ∙ ap all c.as_slice-writes.ensures

pub returns-else-are_written-clause-done : goal.returns-else-are_written-clause-done
returns-else-are_written-clause-done c =
    let p : BitId → Bool = λ b. not (is_select c.args.net.now b) in
    let all : List WriteBit → Bool = λ ws. list_all (is_written ws)
    (filter p c.args.moved.now) && list_all (has_value c.args.now.now) ws in
    let s = c.as_slice-writes.result.now in
    let k : list_all (is_written s) (filter p c.args.moved.now) ≡ false =
    all_kept p (is_written s) c.args.moved.now ∙ sym c.are_written.ensures ∙ c.if-are_written.false in
    c.if-are_written.false ∙ sym (ap (λ b. b && list_all (has_value c.args.now.now) s) k)
    ∙ ap all c.as_slice-writes.ensures
