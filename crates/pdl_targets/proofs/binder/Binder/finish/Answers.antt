use Rattle.std.proofs.Common.{Option, sym, subst}
use Rattle.pdl_targets.specs.declared.binder.Made.{Made}
use Rattle.pdl_targets.specs.Binding.{finish}
use Rattle.pdl_targets.specs.Seen.{Finishes}
use Rattle.pdl_targets.specs.SeenBinder.{ABinder, queue_in}
use Rattle.pdl_targets.proofs.binder.Binder.finish.Goals as goal

pub returns-in-Some : goal.returns-in-Some
returns-in-Some c =
    let P : ABinder → Type 0 = λ v. Finishes (finish v.queue) c.finish.result in
    let Q : Option Made → Type 0 = λ m. Finishes (finish (queue_in m)) c.finish.result in
    subst P c.self.view_is (subst Q (sym c.in-Some.is) c.finish.ensures)
