-- Written lines, put together.
use Rattle.std.proofs.Common.{◌≡◌, List, [], ◌∷◌, ◌++◌, refl, ap, sym, ◌∙◌, append_assoc}
use Rattle.std.specs.Prelude.{map}
use Rattle.svf_writer.specs.SeenCommands.{SeenCommand}
use Rattle.svf_writer.specs.Written.{text_of, texts_of}
use Rattle.svf_writer.proofs.GivenScans.{AreAllWritten}
use Rattle.svf_reader.specs.Scripts.{WrittenLine, EndStates, Mark, Round as LaterMark, Comment, Put}
use Rattle.svf_reader.specs.Scripts.{written_line_text, lines_text, lines_commands, AreWrittenLines}

pub text_both : (xs ys : List WrittenLine) → lines_text (xs ++ ys) ≡ lines_text xs ++ lines_text ys
text_both [] ys = refl
text_both (x ∷ xs) ys =
    ap (λ l. written_line_text x ++ l) (text_both xs ys)
    ∙ sym (append_assoc (written_line_text x) (lines_text xs) (lines_text ys))

pub text_put : (cs : List SeenCommand) → lines_text (map Put cs) ≡ texts_of cs
text_put [] = refl
text_put (c ∷ cs) = ap (λ l. text_of c ++ l) (text_put cs)

pub commands_both : (xs ys : List WrittenLine)
    → lines_commands (xs ++ ys) ≡ lines_commands xs ++ lines_commands ys
commands_both [] ys = refl
commands_both (EndStates ∷ xs) ys = commands_both xs ys
commands_both (Mark n ∷ xs) ys = commands_both xs ys
commands_both (LaterMark n j ∷ xs) ys = commands_both xs ys
commands_both (Comment text ∷ xs) ys = commands_both xs ys
commands_both (Put c ∷ xs) ys = ap (λ l. c ∷ l) (commands_both xs ys)

pub commands_put : (cs : List SeenCommand) → lines_commands (map Put cs) ≡ cs
commands_put [] = refl
commands_put (c ∷ cs) = ap (λ l. c ∷ l) (commands_put cs)

pub written_put : (cs : List SeenCommand) → AreAllWritten cs → AreWrittenLines (map Put cs)
written_put [] w = tt
written_put (c ∷ cs) w = (w.0, written_put cs w.1)

pub written_both : (xs ys : List WrittenLine) → AreWrittenLines xs
    → AreWrittenLines ys → AreWrittenLines (xs ++ ys)
written_both [] ys hx hy = hy
written_both (EndStates ∷ xs) ys hx hy = written_both xs ys hx hy
written_both (Mark n ∷ xs) ys hx hy = (hx.0, written_both xs ys hx.1 hy)
written_both (LaterMark n j ∷ xs) ys hx hy = (hx.0, (hx.1.0, written_both xs ys hx.1.1 hy))
written_both (Comment text ∷ xs) ys hx hy = (hx.0, written_both xs ys hx.1 hy)
written_both (Put c ∷ xs) ys hx hy = (hx.0, written_both xs ys hx.1 hy)
