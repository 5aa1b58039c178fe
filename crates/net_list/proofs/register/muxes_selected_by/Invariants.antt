use Rattle.std.proofs.Common.{◌≡◌, ◌<◌, length}
use Rattle.std.specs.Prelude.{All, filter}
use Rattle.std.specs.List.{range_with_len}
use Rattle.net_list.specs.Lines.{selects_in}
use Rattle.net_list.proofs.register.muxes_selected_by.Given as goal

abbrev pub invariant-loop-mux : goal.invariant-loop-mux
invariant-loop-mux l =
    record {
      muxes : l.muxes.items ≡ filter (selects_in l.net l.reg) (range_with_len 0 l.mux);
      there : All (λ m. m < length l.net.muxes.items) l.muxes.items;
    }
