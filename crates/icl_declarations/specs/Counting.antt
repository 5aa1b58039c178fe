-- What is counted over all cells, and this compiler's limits: bits of scan registers, scan multiplexers,
-- instruments, and the ports of each instrument.
use Rattle.std.specs.Prelude.{ℕ, ◌+◌, nat_lt, nat_le, Bool, ◌&&◌, List, zip, count_by, Ok}
use Rattle.std.specs.List.{list_any}
use Rattle.ij_text.specs.declared.Which.TheVariants.{ScanBits, Muxes, Instruments, Ports, PortBits}
use Rattle.icl_lexer.specs.Values.{SeenWhat, ARegister, AMux, SeenModule}
use Rattle.icl_declarations.specs.Faults.{Answer, ◌>>=◌, refuse_if, Limit}
use Rattle.icl_declarations.specs.declared.counts.Counts.{Counts}
use Rattle.icl_declarations.specs.declared.ranges.Bounds.{Bounds}
use Rattle.icl_declarations.specs.Parts.{parts_of, is_data_port, port_that, is_data_in, is_data_out}
use Rattle.icl_declarations.specs.Ranges.{width}

abbrev pub count_part : Counts → Bounds → SeenWhat → Answer Counts
count_part c b (ARegister range props) = refuse_if (nat_lt 4096 (c.bits + width b)) (Limit ScanBits 4096)
    >>= λ u. Ok (record c { bits = c.bits + width b })
count_part c b (AMux select rows) =
    refuse_if (nat_le 1024 c.muxes) (Limit Muxes 1024) >>= λ u. Ok (record c { muxes = c.muxes + 1 })
count_part c b what = Ok c

-- ---- instruments

abbrev pub ports_over : ℕ → (SeenWhat → Bool) → SeenModule → Bool
ports_over n test block = nat_lt n (count_by (λ item. test item.what) block.items)

-- a data port of more than 64 bits
abbrev pub has_wide_port : SeenModule → List Bounds → Bool
has_wide_port block bounds =
    list_any (λ part. is_data_port part.0.what && nat_lt 64 (width part.1)) (zip (parts_of block) bounds)

abbrev pub count_instrument : SeenModule → List Bounds → Counts → Answer Counts
count_instrument block bounds c = do
  all ← refuse_if (nat_le 256 c.instruments) (Limit Instruments 256)
  ins ← refuse_if (ports_over 16 (port_that is_data_in) block) (Limit Ports 16)
  outs ← refuse_if (ports_over 16 (port_that is_data_out) block) (Limit Ports 16)
  wide ← refuse_if (has_wide_port block bounds) (Limit PortBits 64)
  Ok (record c { instruments = c.instruments + 1 })
