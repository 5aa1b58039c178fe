use Rattle.std.proofs.Common.{◌≡◌, ◌+◌, ◌*◌, min, ap, sym, ◌∙◌, subst, arith, length}
use Rattle.svf_audit.specs.LastParts.{seen_tdi}
use Rattle.svf_audit.specs.Registers.{to_move, IsTurned}
use Rattle.svf_audit.specs.declared.registers.Registers.{Registers}
use Rattle.svf_audit.proofs.registers.Registers.set_tdi_on_path.Goals as goal

pub set_tdi_word-requires-clause-turned : goal.set_tdi_word-requires-clause-turned
set_tdi_word-requires-clause-turned c =
    let at : min (64 * c.loop-word.word) c.len-n.result ≡ 64 * c.loop-word.word = omega arith in
    subst (IsTurned c.loop-word.self (seen_tdi c.args.kept.now)) at c.loop-word.invariant.turned

pub set_tdi_word-requires-clause-within : goal.set_tdi_word-requires-clause-within
set_tdi_word-requires-clause-within c = omega (arith, c.loop-word.invariant.long)

pub loop-word-preserved : goal.loop-word-preserved
loop-word-preserved c =
    let new = c.set_tdi_word.new.self in
    let tdi = seen_tdi c.args.kept.now in
    let v = c.loop-word.invariant in
    let at : min (64 * c.loop-word.word) c.len-n.result ≡ 64 * c.loop-word.word = omega arith in
    let next : 64 * c.loop-word.word + c.min.result
    ≡ min (64 * (c.loop-word.word + 1)) c.len-n.result = omega arith in
    record {
      turned = subst (IsTurned new tdi) next c.set_tdi_word.ensures.turned;
      moves = ap (to_move new tdi) (sym next) ∙ c.set_tdi_word.ensures.moves
          ∙ ap (to_move c.loop-word.self tdi) (sym at) ∙ v.moves;
      long = c.set_tdi_word.ensures.length ∙ v.long;
      others = c.set_tdi_word.ensures.others ∙ ap
          (λ (z : Registers). record z { chain = new.chain; after = new.after; moved = new.moved }) v.others;
    }

pub returns-clause-turned : goal.returns-clause-turned
returns-clause-turned c =
    let all : min (64 * c.loop-word.word) c.len-n.result ≡ length c.args.self.now.chain.items = omega arith in
    subst (IsTurned c.loop-word.self (seen_tdi c.args.kept.now)) all c.loop-word.invariant.turned

pub returns-clause-moves : goal.returns-clause-moves
returns-clause-moves c =
    let all : min (64 * c.loop-word.word) c.len-n.result ≡ length c.args.self.now.chain.items = omega arith in
    ap (to_move c.loop-word.self (seen_tdi c.args.kept.now)) (sym all) ∙ c.loop-word.invariant.moves
