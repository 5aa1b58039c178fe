use Rattle.std.proofs.Common.{Bool, cond, ap, ◌∙◌}
use Rattle.net_bench.specs.Board.{SeenBench}
use Rattle.net_graph.specs.Chain.{chain, put_chain}
use Rattle.net_graph.specs.Path.{route_of}
use Rattle.instruments.specs.Runners.{machines_of}
use Rattle.net_wave.specs.Changes.{changes_shift_stages}
use Rattle.net_wave.proofs.Staging.{kept_beside}
use Rattle.net_wave.proofs.playing.step.Goals as goal

pub returns-clause-shape : goal.returns-clause-shape
returns-clause-shape c =
    let b = c.args.bench.now in
    let all = kept_beside b.net b.device (machines_of b.models) c.requires.well_formed c.args.pins.tms
    c.args.pins.tdi b.state c.clock-found.new.self.state c.clock-found.new.self.net c.args.kept
    (changes_shift_stages c.tap.result) c.args.stages.now c.copy_shift_stages_if.new.stages
    (ap (λ (x : SeenBench). x.state) c.clock-found.ensures.next)
    (ap (λ (x : SeenBench). x.net) c.clock-found.ensures.next)
    (ap changes_shift_stages c.tap.ensures) c.requires.stages c.requires.shape
    (c.copy_shift_stages_if.ensures ∙ ap (λ (k : Bool). cond k
    (put_chain (route_of c.clock-found.new.self.net c.clock-found.new.self.state.holds) (chain (route_of
    c.clock-found.new.self.net c.clock-found.new.self.state.holds) c.clock-found.new.self.state.stages)
    c.args.stages.now) c.args.stages.now) c.moves_stages-moves.ensures) in
    all.0

pub returns-clause-stages : goal.returns-clause-stages
returns-clause-stages c =
    let b = c.args.bench.now in
    let all = kept_beside b.net b.device (machines_of b.models) c.requires.well_formed c.args.pins.tms
    c.args.pins.tdi b.state c.clock-found.new.self.state c.clock-found.new.self.net c.args.kept
    (changes_shift_stages c.tap.result) c.args.stages.now c.copy_shift_stages_if.new.stages
    (ap (λ (x : SeenBench). x.state) c.clock-found.ensures.next)
    (ap (λ (x : SeenBench). x.net) c.clock-found.ensures.next)
    (ap changes_shift_stages c.tap.ensures) c.requires.stages c.requires.shape
    (c.copy_shift_stages_if.ensures ∙ ap (λ (k : Bool). cond k
    (put_chain (route_of c.clock-found.new.self.net c.clock-found.new.self.state.holds) (chain (route_of
    c.clock-found.new.self.net c.clock-found.new.self.state.holds) c.clock-found.new.self.state.stages)
    c.args.stages.now) c.args.stages.now) c.moves_stages-moves.ensures) in
    all.1
