use Rattle.std.proofs.Common.{◌≡◌, ◌∷◌, ◌++◌, [], map, drop}
use Rattle.icl_lexer.specs.Views.{bytes_of}
use Rattle.icl_references.specs.Names.{path_from}
use Rattle.icl_references.specs.Tables.{IsHere, frames_of, here_in}
use Rattle.icl_references.proofs.paths.path_from.Given as goal

abbrev pub invariant-loop-name : goal.invariant-loop-name
invariant-loop-name l = record {
  there : IsHere l.tables l.cell;
  goes_on : path_from (frames_of l.tables) (here_in l.tables l.cell) l.at
      (map bytes_of (drop l.name-index l.front) ++ l.last.items ∷ [])
      ≡ path_from (frames_of l.tables) (here_in l.tables l.fn.here) l.at (map bytes_of l.fn.path);
}
