-- The texts of what is drawn.
use Rattle.std.proofs.Common.{◌≡◌, ℕ, List, ap, ◌∙◌}
use Rattle.icl_printer.specs.Canonical.{design_text}
use Rattle.rand_pcg.specs.Lcg.{Lcg}
use Rattle.design_maker.specs.Draws.{generator_of}
use Rattle.design_maker.specs.Instruments.{drawn_instruments}
use Rattle.design_maker.specs.Network.{made_design}
use Rattle.design_maker.specs.Procedure.{procedure_text}
use Rattle.design_maker.specs.Tables.{tables_text}
use Rattle.design_maker.specs.Texts.{made_icl, made_instruments, made_pdl, made_tables}
use Rattle.design_maker.specs.declared.instrument.Instrument.{Instrument}

pub drawn_is : (xs : List Instrument) (g h : Lcg) (seed size : ℕ) → (xs, g) ≡ drawn_instruments size h
    → h ≡ generator_of seed → (xs, g) ≡ made_instruments seed size
unfolding made_instruments
drawn_is xs g h seed size drawn seeded = drawn ∙ ap (drawn_instruments size) seeded

pub icl_is : (xs : List Instrument) (g : Lcg) (seed size : ℕ) → (xs, g) ≡ made_instruments seed size
    → design_text (made_design xs) ≡ made_icl seed size
unfolding made_icl
icl_is xs g seed size drawn = ap (λ (p : List Instrument × Lcg). design_text (made_design p.0)) drawn

pub pdl_is : (xs : List Instrument) (g : Lcg) (seed size : ℕ) → (xs, g) ≡ made_instruments seed size
    → procedure_text xs g ≡ made_pdl seed size
unfolding made_pdl
pdl_is xs g seed size drawn = ap (λ (p : List Instrument × Lcg). procedure_text p.0 p.1) drawn

pub tables_are : (xs : List Instrument) (g : Lcg) (seed size : ℕ) → (xs, g) ≡ made_instruments seed size
    → tables_text xs ≡ made_tables seed size
unfolding made_tables
tables_are xs g seed size drawn = ap (λ (p : List Instrument × Lcg). tables_text p.0) drawn
