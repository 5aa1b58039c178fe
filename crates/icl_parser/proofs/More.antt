-- What is read after some members or modules.
use Rattle.std.proofs.Common.{ℕ, List}
use Rattle.ij_text.specs.Reading.{read_repeat}
use Rattle.icl_lexer.specs.Seen.{SeenToken}
use Rattle.ij_text.specs.Symbol.{appended}
use Rattle.icl_lexer.specs.Values.{SeenModule}
use Rattle.icl_lexer.specs.Modules.{with_member}
use Rattle.icl_expressions.specs.Reading.{any, no_close}
use Rattle.icl_parser.specs.Reading.{read_member, read_module}
use Rattle.icl_expressions.proofs.Steps.{Outcome}

abbrev pub more_members : List (List ℕ) → List SeenToken → Outcome (List (List ℕ))
more_members ns ts = read_repeat no_close (λ (ys : List (List ℕ)). read_member) with_member ns ts

abbrev pub more_modules : List SeenModule → List SeenToken → Outcome (List SeenModule)
more_modules bs ts = read_repeat any (λ (ys : List SeenModule). read_module) appended bs ts
