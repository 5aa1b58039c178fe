-- The instruments of a made design, as they are drawn at first.
use Rattle.std.specs.Prelude.{ℕ, zero, suc, ◌+◌, List, [], ◌∷◌}
use Rattle.rand_pcg.specs.Lcg.{Lcg}
use Rattle.design_maker.specs.Draws.{draw}
use Rattle.design_maker.specs.declared.instrument.Instrument.{Instrument}

-- an instrument that nothing was written to
abbrev pub fresh : ℕ → ℕ → Instrument
fresh width sibs = record { width = width; sibs = sibs; word = 0; input = 0 }

-- 1 to 32 bits, then 1 to 4 SIBs
abbrev pub drawn_instrument : Lcg → Instrument × Lcg
drawn_instrument g =
    let width = draw 32 g in
    let sibs = draw 4 width.1 in
    (fresh (1 + width.0) (1 + sibs.0), sibs.1)

-- this many instruments, and the generator after them
abbrev pub drawn_instruments : ℕ → Lcg → List Instrument × Lcg
drawn_instruments zero g = ([], g)
drawn_instruments (suc n) g =
    let first = drawn_instrument g in
    let rest = drawn_instruments n first.1 in
    (first.0 ∷ rest.0, rest.1)
