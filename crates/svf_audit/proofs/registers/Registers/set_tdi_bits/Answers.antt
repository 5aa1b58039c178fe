use Rattle.std.proofs.Common.{◌≡◌, ◌+◌, refl, ap, sym, ◌∙◌, subst, arith}
use Rattle.svf_audit.specs.LastParts.{seen_tdi}
use Rattle.svf_audit.specs.Registers.{to_move, IsTurned}
use Rattle.svf_audit.specs.declared.registers.Registers.{Registers}
use Rattle.svf_audit.proofs.registers.Registers.set_tdi_bits.Goals as goal

pub loop-i-init : goal.loop-i-init
loop-i-init c =
    let r = c.args.self.now in
    let tdi = seen_tdi c.args.kept.now in
    let at : c.args.from ≡ c.args.from + 0 = omega arith in
    record {
      turned = subst (IsTurned r tdi) at c.requires.turned;
      moves = ap (to_move r tdi) (sym at);
      long = refl;
      others = refl;
    }

pub loop-i-preserved : goal.loop-i-preserved
loop-i-preserved c =
    let old = c.args.self.now in
    let new = c.set_tdi_bit.new.self in
    let tdi = seen_tdi c.args.kept.now in
    let v = c.loop-i.invariant in
    let at : c.args.from + c.loop-i.i + 1 ≡ c.args.from + (c.loop-i.i + 1) = omega arith in
    record {
      turned = subst (IsTurned new tdi) at c.set_tdi_bit.ensures.turned;
      moves = ap (to_move new tdi) (sym at) ∙ c.set_tdi_bit.ensures.moves ∙ v.moves;
      long = c.set_tdi_bit.ensures.length ∙ v.long;
      others = c.set_tdi_bit.ensures.others ∙ ap
          (λ (z : Registers). record z { chain = new.chain; after = new.after; moved = new.moved }) v.others;
    }
