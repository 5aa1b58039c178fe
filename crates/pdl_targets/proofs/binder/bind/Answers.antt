use Rattle.std.proofs.Common.{sym, subst}
use Rattle.pdl_expand.specs.declared.step.Action.{Action}
use Rattle.pdl_expand.specs.Values.{seen_action}
use Rattle.pdl_targets.specs.Binding.{feed}
use Rattle.pdl_targets.specs.SeenGathered.{Binds, seen_gathered}
use Rattle.pdl_targets.specs.SeenPlaces.{places_in}
use Rattle.pdl_targets.proofs.Distinct.{are_once}
use Rattle.pdl_targets.proofs.binder.bind.Goals as goal

pub returns-in-Write-clause-answer : goal.returns-in-Write-clause-answer
returns-in-Write-clause-answer c =
    let step = c.args.step.now in
    let P : Action → Type 0 =
    λ d. Binds (feed c.args.net.now (places_in c.args.tree.now) (seen_gathered c.args.gathered.now)
    (record { at = step.at; node = step.node; what = seen_action d }))
    (seen_gathered c.write.new.gathered) c.write.result in
    subst P (sym c.in-Write.is) c.write.ensures.answer

pub returns-in-Apply-clause-kept : goal.returns-in-Apply-clause-kept
returns-in-Apply-clause-kept c = c.apply.ensures.kept c.args.net.now c.requires.kept

pub returns-in-RunLoop-clause-kept : goal.returns-in-RunLoop-clause-kept
returns-in-RunLoop-clause-kept c = c.run_value.ensures.kept c.args.net.now c.requires.kept

pub apply-requires-clause-once : goal.apply-requires-clause-once
apply-requires-clause-once c =
    let gathered = c.args.gathered.now in
    are_once c.args.net.now gathered.register_marks gathered.registers.items c.requires.kept.registers
