use Rattle.std.specs.Prelude.{ℕ}
use Rattle.std.proofs.Common.{◌≡◌, ◌+◌, suc, arith}
use Rattle.std.proofs.lemmas.List.{get_or_default}
use Rattle.ij_io.proofs.Adding.{at_refusal}
use Rattle.net_graph.specs.PathNames.{mux_path}
use Rattle.net_list.specs.Lines.{quoted}
use Rattle.net_list.proofs.Pieces.{item_next, item_part, items_done}
use Rattle.net_list.proofs.register.put_muxes.Goals as goal

pub returns-in_err-put_mux_name-clause-part : goal.returns-in_err-put_mux_name-clause-part
returns-in_err-put_mux_name-clause-part g c =
    at_refusal c.from_residual.result
    (item_part (λ (m : ℕ). quoted c.args.format (mux_path c.args.net.now m)) c.args.between.now
    c.args.muxes.now c.loop-mux.before.now c.loop-mux.mux-index c.loop-mux-test.true (get_or_default _ _ _
    _ c.loop-mux-test.true) c.loop-mux.invariant.front c.in_err-put_mux_name.ensures.part)

pub loop-mux-preserved : goal.loop-mux-preserved
loop-mux-preserved g c =
    let next : c.loop-mux.mux-index + 1 ≡ suc c.loop-mux.mux-index = omega arith in
    record {
      front = item_next (λ (m : ℕ). quoted c.args.format (mux_path c.args.net.now m)) c.args.between.now
          c.args.muxes.now c.loop-mux.before.now c.loop-mux.mux-index
          (c.loop-mux.mux-index + 1) c.loop-mux-test.true (get_or_default _ _ _ _ c.loop-mux-test.true) next
          c.loop-mux.invariant.front c.in_ok-put_mux_name.ensures.whole;
      later = omega (arith, c.put_mux_name.ensures.cause.later);
    }

pub returns-clause-whole : goal.returns-clause-whole
returns-clause-whole g c =
    items_done (λ (m : ℕ). quoted c.args.format (mux_path c.args.net.now m)) c.args.between.now
    c.args.muxes.now c.loop-mux.before.now c.loop-mux.mux-index
    (omega (arith, c.loop-mux-test.false)) c.loop-mux.invariant.front
