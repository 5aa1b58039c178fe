use Rattle.std.proofs.Common.{◌≡◌, rules}
use Rattle.ijtag_work.specs.declared.words.CommandWords.TheVariants.{Compile, Play, Direct, Run, Make}
use Rattle.ijtag_work.specs.declared.words.CommandWords.TheVariants.{Migrate, Audit, MuxTest}
use Rattle.ijtag_core.proofs.commands.CommandWordsCommand.run.Goals as goal

pub returns-in-Compile-clause-done : goal.returns-in-Compile-clause-done
returns-in-Compile-clause-done g c =
    let is : Compile c.in-Compile.it ≡ c.args.self.now = search rules in
    rw (← is) c.accept_and_act.ensures.done

pub returns-in-Play-clause-done : goal.returns-in-Play-clause-done
returns-in-Play-clause-done g c =
    let is : Play c.in-Play.it ≡ c.args.self.now = search rules in
    rw (← is) c.accept_and_act-in-Play.ensures.done

pub returns-in-Direct-clause-done : goal.returns-in-Direct-clause-done
returns-in-Direct-clause-done g c =
    let is : Direct c.in-Direct.it ≡ c.args.self.now = search rules in
    rw (← is) c.accept_and_act-in-Direct.ensures.done

pub returns-in-Run-clause-done : goal.returns-in-Run-clause-done
returns-in-Run-clause-done g c =
    let is : Run c.in-Run.it ≡ c.args.self.now = search rules in
    rw (← is) c.accept_and_act-in-Run.ensures.done

pub returns-in-Make-clause-done : goal.returns-in-Make-clause-done
returns-in-Make-clause-done g c =
    let is : Make c.in-Make.it ≡ c.args.self.now = search rules in
    rw (← is) c.make.ensures.done

pub returns-in-Migrate-clause-done : goal.returns-in-Migrate-clause-done
returns-in-Migrate-clause-done g c =
    let is : Migrate c.in-Migrate.it ≡ c.args.self.now = search rules in
    rw (← is) c.migrate.ensures.done

pub returns-in-Audit-clause-done : goal.returns-in-Audit-clause-done
returns-in-Audit-clause-done g c =
    let is : Audit c.in-Audit.it ≡ c.args.self.now = search rules in
    rw (← is) c.accept_and_act-in-Audit.ensures.done

pub returns-in-MuxTest-clause-done : goal.returns-in-MuxTest-clause-done
returns-in-MuxTest-clause-done g c =
    let is : MuxTest c.in-MuxTest.it ≡ c.args.self.now = search rules in
    rw (← is) c.accept_and_act-in-MuxTest.ensures.done

pub returns-in-Direct-clause-part : goal.returns-in-Direct-clause-part
returns-in-Direct-clause-part g c =
    let is : Direct c.in-Direct.it ≡ c.args.self.now = search rules in
    rw (← is) c.accept_and_act-in-Direct.ensures.part

pub returns-in-Run-clause-stop : goal.returns-in-Run-clause-stop
returns-in-Run-clause-stop g c =
    let is : Run c.in-Run.it ≡ c.args.self.now = search rules in
    rw (← is) c.accept_and_act-in-Run.ensures.stop
