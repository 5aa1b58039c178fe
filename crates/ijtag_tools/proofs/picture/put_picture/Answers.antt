use Rattle.std.specs.Prelude.{OnOk}
use Rattle.std.proofs.Common.{◌≡◌, refl, rules, subst, ℕ, List, Some, None}
use Rattle.ij_io.specs.Bytes.{Adds}
use Rattle.net_graph.specs.Signals.{Holds}
use Rattle.net_picture.specs.Dot.{dot_text}
use Rattle.ijtag_work.specs.Accepted.{SeenAccepted}
use Rattle.ijtag_work.specs.Using.{seen_accepted}
use Rattle.ijtag_tools.specs.Order.{drawing_of}
use Rattle.ijtag_tools.specs.declared.words.PictureFormat.{PictureFormat}
use Rattle.ijtag_tools.specs.declared.words.PictureFormat.TheVariants.{Dot}
use Rattle.ijtag_tools.proofs.picture.put_picture.Goals as goal

-- the graph
graph_is : (it : SeenAccepted) (holds : Holds) → dot_text it.network.net holds None ≡ drawing_of Dot it holds
unfolding drawing_of
graph_is it holds = refl

pub returns-in-Dot : goal.returns-in-Dot
returns-in-Dot c =
    let it : SeenAccepted = seen_accepted c.args.it.now in
    let holds : Holds = c.args.holds.now in
    let format : Dot ≡ c.args.format = search rules in
    subst (λ (f : PictureFormat). OnOk c.put_dot.result
    (Adds (Some c.args.text.now) (Some c.put_dot.new.k) (drawing_of f it holds))) format
    (subst (λ (text : List ℕ). OnOk c.put_dot.result (Adds (Some c.args.text.now)
    (Some c.put_dot.new.k) text)) (graph_is it holds) c.put_dot.ensures.whole)
