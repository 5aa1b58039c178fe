-- A form that names no register twice, and no mux.
use Rattle.ij_bits.specs.Different.{AreDifferent}
use Rattle.net_tree.specs.Form.{Items, registers_in, muxes_in}

abbrev pub NamesOnce : Items → Type 0
NamesOnce form = AreDifferent (registers_in form) × AreDifferent (muxes_in form)
