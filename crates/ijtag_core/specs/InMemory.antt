-- Files and streams in memory, as a run sees them: they tell all that they hold, and nothing fails.
use Rattle.std.specs.Prelude.{ℕ, List, Some}
use Rattle.ij_io.specs.SureShelf.{sure_files_in}
use Rattle.ij_io.specs.declared.sure_shelf.SureShelf.{SureShelf}
use Rattle.ijtag_work.specs.Ends.{Views, views}

abbrev pub in_memory : Views SureShelf (List ℕ) (List ℕ)
in_memory = views (λ s. Some (sure_files_in s)) (λ s name. 0) (λ s name. 0) (λ s. Some s)
    (λ s. Some s) (λ s. 0) (λ s. Some s) (λ s. 0)
