-- The refusals of a binder, as those of a feeder.
use Rattle.std.proofs.Common.{Option, Result, Ok, Err, ap}
use Rattle.std.specs.Result.{IfErr}
use Rattle.pdl_targets.specs.Binding.{Answer}
use Rattle.pdl_targets.specs.Seen.{Refuses as BinderRefuses, EndsWith}
use Rattle.pdl_targets.specs.Targets.{AFault as TargetAFault, Found}
use Rattle.pdl_targets.specs.declared.fault.TargetFault.{TargetFault}
use Rattle.pdl_targets.specs.declared.fault.TargetFault.TheVariants as target
use Rattle.merge_order.specs.Feeding.{Fed, Merging, State, answered, if_applied}
use Rattle.merge_order.specs.SeenFaults.{Refuses, of_target}
use Rattle.merge_order.specs.SeenFeeder.{AFeeder, Feeds}
use Rattle.merge_order.specs.declared.fault.FeedFault.{FeedFault}

module _ (m : Option Merging) (found : Found Answer) where
  pub refused_answer : (e : TargetFault) → BinderRefuses found e → Refuses (answered m found) (of_target e)
  refused_answer target.OutOfMemory h = tt
  refused_answer (target.NoTarget at) h = ap (answered m) h.says
  refused_answer (target.NoValue at) h = ap (answered m) h.says
  refused_answer (target.ValueWide at) h = ap (answered m) h.says
  refused_answer (target.NotWritable at) h = ap (answered m) h.says
  refused_answer (target.NotReadable at) h = ap (answered m) h.says
  refused_answer (target.SelectTarget at bit) h = ap (answered m) h.says
  refused_answer (target.BadCount at) h = ap (answered m) h.says
  refused_answer (target.Limit at which number) h = ap (answered m) h.says
  refused_answer (target.Unapplied at) h = ap (answered m) h.says

module _ (s : State) (end : Option TargetAFault) where
  abbrev ends : Option TargetAFault → Fed
  ends o = if_applied o s

  pub refused_end : (e : TargetFault) → EndsWith end e → Refuses (if_applied end s) (of_target e)
  refused_end target.OutOfMemory h = tt
  refused_end (target.NoTarget at) h = ap ends h.says
  refused_end (target.NoValue at) h = ap ends h.says
  refused_end (target.ValueWide at) h = ap ends h.says
  refused_end (target.NotWritable at) h = ap ends h.says
  refused_end (target.NotReadable at) h = ap ends h.says
  refused_end (target.SelectTarget at bit) h = ap ends h.says
  refused_end (target.BadCount at) h = ap ends h.says
  refused_end (target.Limit at which number) h = ap ends h.says
  refused_end (target.Unapplied at) h = ap ends h.says

pub refused_fed : (fed : Fed) (old new : AFeeder) (result : Result (Unit {0}) FeedFault)
    → Feeds fed old new result → IfErr result (Refuses fed)
refused_fed fed old new (Ok u) h = tt
refused_fed fed old new (Err e) h = h
