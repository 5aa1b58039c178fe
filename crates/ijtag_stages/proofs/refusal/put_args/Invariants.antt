use Rattle.std.proofs.Common.{◌≤◌, take}
use Rattle.std.specs.List.{flat_map}
use Rattle.ij_io.specs.Bytes.{Adds}
use Rattle.ijtag_stages.specs.Refusals.{arg_text}
use Rattle.ijtag_stages.specs.Seen.{seen_arg}
use Rattle.ijtag_stages.proofs.refusal.put_args.Given as goal

abbrev pub invariant-loop-arg : goal.invariant-loop-arg
invariant-loop-arg g l = record {
  so_far : Adds (g.K.Sink.taken l.fn.k) (g.K.Sink.taken l.k)
      (flat_map (λ arg. arg_text (seen_arg arg)) (take l.arg-index l.args));
  later : g.K.Sink.faults l.fn.k ≤ g.K.Sink.faults l.k;
}
