use Rattle.std.proofs.Common.{◌≡◌, rules}
use Rattle.ijtag_tools.specs.declared.words.ToolWords.TheVariants.{List, Explain, Where, Picture, Graph}
use Rattle.ijtag_tools.specs.declared.words.ToolWords.TheVariants.{PictureAt, Tighten, Wave}
use Rattle.ijtag_tools.proofs.commands.ToolWordsCommand.run.Goals as goal

pub returns-in-Tighten-clause-done : goal.returns-in-Tighten-clause-done
returns-in-Tighten-clause-done g c =
    let is : Tighten c.in-Tighten.it ≡ c.args.self.now = search rules in
    rw (← is) c.accept_and_act-in-Tighten.ensures.done

pub returns-in-Explain-clause-done : goal.returns-in-Explain-clause-done
returns-in-Explain-clause-done g c =
    let is : Explain c.in-Explain.it ≡ c.args.self.now = search rules in
    rw (← is) c.accept_and_act-in-Explain.ensures.done

pub returns-in-Where-clause-done : goal.returns-in-Where-clause-done
returns-in-Where-clause-done g c =
    let is : Where c.in-Where.it ≡ c.args.self.now = search rules in
    rw (← is) c.accept_and_act-in-Where.ensures.done

pub returns-in-Picture-clause-done : goal.returns-in-Picture-clause-done
returns-in-Picture-clause-done g c =
    let is : Picture c.in-Picture.it ≡ c.args.self.now = search rules in
    rw (← is) c.accept_and_act-in-Picture.ensures.done

pub returns-in-PictureAt-clause-done : goal.returns-in-PictureAt-clause-done
returns-in-PictureAt-clause-done g c =
    let is : PictureAt c.in-PictureAt.it ≡ c.args.self.now = search rules in
    rw (← is) c.accept_and_act-in-PictureAt.ensures.done

pub returns-in-Wave-clause-done : goal.returns-in-Wave-clause-done
returns-in-Wave-clause-done g c =
    let is : Wave c.in-Wave.it ≡ c.args.self.now = search rules in
    rw (← is) c.accept_and_act-in-Wave.ensures.done

pub returns-in-Graph-clause-done : goal.returns-in-Graph-clause-done
returns-in-Graph-clause-done g c =
    let is : Graph c.in-Graph.it ≡ c.args.self.now = search rules in
    rw (← is) c.draw_graph.ensures.done

pub returns-in-List-clause-done : goal.returns-in-List-clause-done
returns-in-List-clause-done g c =
    let is : List c.in-List.it ≡ c.args.self.now = search rules in
    rw (← is) c.accept_and_act.ensures.done
