-- The texts of a made design, by its seed and its size.
use Rattle.std.specs.Prelude.{ℕ, List}
use Rattle.icl_printer.specs.Canonical.{design_text}
use Rattle.rand_pcg.specs.Lcg.{Lcg}
use Rattle.design_maker.specs.declared.instrument.Instrument.{Instrument}
use Rattle.design_maker.specs.Draws.{generator_of}
use Rattle.design_maker.specs.Instruments.{drawn_instruments}
use Rattle.design_maker.specs.Network.{made_design}
use Rattle.design_maker.specs.Procedure.{procedure_text}
use Rattle.design_maker.specs.Tables.{tables_text}

-- the instruments, and the generator after them
unfoldable pub made_instruments : ℕ → ℕ → List Instrument × Lcg
made_instruments seed size = drawn_instruments size (generator_of seed)

-- the ICL text is the printed design
unfoldable pub made_icl : ℕ → ℕ → List ℕ
made_icl seed size = design_text (made_design (made_instruments seed size).0)

unfoldable pub made_pdl : ℕ → ℕ → List ℕ
made_pdl seed size = procedure_text (made_instruments seed size).0 (made_instruments seed size).1

unfoldable pub made_tables : ℕ → ℕ → List ℕ
made_tables seed size = tables_text (made_instruments seed size).0
