use Rattle.std.specs.Prelude.{option_map}
use Rattle.std.proofs.Common.{◌≡◌, ◌∙◌, ap, inl, refl, sym, subst, ℕ, false, List, Option, Some}
use Rattle.ij_io.specs.Causes.{Rose}
use Rattle.ij_io.specs.Files.{Files}
use Rattle.ij_io.specs.Pieces.{HoldsPart}
use Rattle.ijtag_tools.specs.Graphs.{Graph}
use Rattle.ijtag_tools.specs.SeenGraphs.{seen_graph}
use Rattle.ijtag_tools.specs.Command.{Picture}
use Rattle.ijtag_tools.specs.Order.{graph, graph_in}
use Rattle.ijtag_tools.specs.Words.{seen_graph_words}
use Rattle.ijtag_work.specs.Follows.{seen_texts}
use Rattle.ijtag_work.specs.Loads.{loaded}
use Rattle.ijtag_work.specs.Order.{filed}
use Rattle.ijtag_work.specs.Runs.{Counts, counts}
use Rattle.ijtag_work.specs.Task.{work}
use Rattle.ijtag_work.proofs.Ends.{file_done, file_part}
use Rattle.ijtag_work.proofs.Late.{begun_in}
use Rattle.ijtag_core.proofs.Acting.{file_stop_of}
use Rattle.ijtag_tools.proofs.graph.draw_graph.Goals as goal

pub returns-in-Ok-clause-done : goal.returns-in-Ok-clause-done
returns-in-Ok-clause-done g c =
    let files : Option Files = g.S.Shelf.files c.args.shelf.now in
    let mid : Option Files = g.S.Shelf.files c.load.new.shelf in
    let new : Option Files = g.S.Shelf.files c.write_file.new.shelf in
    let words : Picture = seen_graph_words c.args.words.now in
    let texts : List (List ℕ) = seen_texts c.in_ok-texts.texts.items in
    let drawn : Graph = seen_graph c.in_ok-graph.graph in
    let bytes : List ℕ = c.bytes.result.now in
    let read : (loaded files (graph words).loads).gives texts = c.in_ok-texts.ensures.follows in
    let is : (graph_in words.network.top texts).gives drawn =
    subst (λ ts. (graph_in words.network.top (seen_texts ts)).gives drawn)
    c.deref.ensures.value c.in_ok-graph.ensures.follows in
    let own : (work files (graph words)).gives (filed words.new bytes) =
    subst (λ (b : List ℕ). (work files (graph words)).gives (filed words.new b))
    (sym (c.bytes.ensures ∙ c.in_ok-text.ensures)) (texts, read, (drawn, is, refl)) in
    let same : mid ≡ files = c.in_ok-texts.ensures.files in
    file_done (work files (graph words)) files new (g.O.Sink.taken c.args._out.now) words.new bytes false own
    (c.in-Ok.ensures.whole ∙ ap (λ (fs : Option Files). option_map (λ _. Some bytes) fs) same)

pub returns-clause-stop : goal.returns-clause-stop
returns-clause-stop g c =
    let files : Option Files = g.S.Shelf.files c.args.shelf.now in
    let mid : Option Files = g.S.Shelf.files c.load.new.shelf in
    let new : Option Files = g.S.Shelf.files c.write_file.new.shelf in
    let words : Picture = seen_graph_words c.args.words.now in
    let texts : List (List ℕ) = seen_texts c.in_ok-texts.texts.items in
    let drawn : Graph = seen_graph c.in_ok-graph.graph in
    let bytes : List ℕ = c.bytes.result.now in
    let read : (loaded files (graph words).loads).gives texts = c.in_ok-texts.ensures.follows in
    let is : (graph_in words.network.top texts).gives drawn =
    subst (λ ts. (graph_in words.network.top (seen_texts ts)).gives drawn)
    c.deref.ensures.value c.in_ok-graph.ensures.follows in
    let own : (work files (graph words)).gives (filed words.new bytes) =
    subst (λ (b : List ℕ). (work files (graph words)).gives (filed words.new b))
    (sym (c.bytes.ensures ∙ c.in_ok-text.ensures)) (texts, read, (drawn, is, refl)) in
    let same : mid ≡ files = c.in_ok-texts.ensures.files in
    let name : List ℕ = words.new in
    let now : ℕ = g.S.Shelf.store_faults c.write_file.new.shelf name in
    let k : Counts = counts g.S.Shelf.load_faults g.S.Shelf.store_faults g.O.Sink.faults c.args.shelf.now
    c.write_file.new.shelf c.args._out.now c.args._out.now in
    file_stop_of files (graph words) k name c.in-Err.fault c.of_file.ensures.stop (filed name bytes, own)
    (inl refl) (λ failed. subst (λ (before : ℕ). Rose before now) (c.in_ok-texts.ensures.stores name)
    (c.in-Err.ensures.cause.failed failed))

pub returns-clause-part : goal.returns-clause-part
returns-clause-part g c =
    let files : Option Files = g.S.Shelf.files c.args.shelf.now in
    let mid : Option Files = g.S.Shelf.files c.load.new.shelf in
    let new : Option Files = g.S.Shelf.files c.write_file.new.shelf in
    let words : Picture = seen_graph_words c.args.words.now in
    let texts : List (List ℕ) = seen_texts c.in_ok-texts.texts.items in
    let drawn : Graph = seen_graph c.in_ok-graph.graph in
    let bytes : List ℕ = c.bytes.result.now in
    let read : (loaded files (graph words).loads).gives texts = c.in_ok-texts.ensures.follows in
    let is : (graph_in words.network.top texts).gives drawn =
    subst (λ ts. (graph_in words.network.top (seen_texts ts)).gives drawn)
    c.deref.ensures.value c.in_ok-graph.ensures.follows in
    let own : (work files (graph words)).gives (filed words.new bytes) =
    subst (λ (b : List ℕ). (work files (graph words)).gives (filed words.new b))
    (sym (c.bytes.ensures ∙ c.in_ok-text.ensures)) (texts, read, (drawn, is, refl)) in
    let same : mid ≡ files = c.in_ok-texts.ensures.files in
    begun_in files (graph words) (work files (graph words)) (λ leaves given. given) _ _
    (file_part (work files (graph words)) files new (g.O.Sink.taken c.args._out.now) words.new bytes false own
    (subst (λ (fs : Option Files). HoldsPart fs new words.new bytes) same c.in-Err.ensures.part))
