use Rattle.net_wave.proofs.Leaving.{next_taken}
use Rattle.net_wave.proofs.playing.Playing.next_pins.Goals as goal

pub returns-clause-some : goal.returns-clause-some
returns-clause-some c = next_taken c.next.result c.args.self.now.left c.args.self.now.player.pins
    c.next.new.self.pins c.if-self-eq0.false c.next.ensures.given
