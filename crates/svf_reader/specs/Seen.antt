-- What the reader has, in the words of the grammar.
use Rattle.std.specs.Prelude.{◌≡◌, ℕ, List, Option, Result, Ok, Err}
use Rattle.std.specs.Option.{option_map}
use Rattle.svf_writer.specs.declared.command.Command.{Command}
use Rattle.svf_writer.specs.SeenCommands.{seen_command}
use Rattle.svf_reader.specs.declared.parsed.PartTexts.{PartTexts}
use Rattle.svf_reader.specs.declared.parsed.Parsed.{Parsed}
use Rattle.svf_reader.specs.declared.parsed.Parsed.TheVariants.{Reset, Idle, Run, Nothing}
use Rattle.svf_reader.specs.declared.fault.SvfCause.{SvfCause}
use Rattle.svf_reader.specs.declared.so_far.ReadSoFar.{ReadSoFar}
use Rattle.svf_reader.specs.Answers.{Fails}
use Rattle.svf_reader.specs.Commands.{Parts, SeenParsed, ToReset, ToIdle, Runs, NoEffect, hex_digits}
use Rattle.svf_reader.specs.Meaning.{Cause, Step}
use Rattle.svf_reader.specs.Reading.{words_of}

-- a part is the text after its `(`
abbrev pub digits_of : List ℕ → List ℕ
digits_of text = hex_digits (words_of text)

abbrev pub seen_parts : PartTexts → Parts
seen_parts p =
    record {
      tdi = option_map (λ t. digits_of t.now) p.tdi;
      tdo = option_map (λ t. digits_of t.now) p.tdo;
      mask = option_map (λ t. digits_of t.now) p.mask;
      smask = option_map (λ t. digits_of t.now) p.smask;
    }

abbrev pub seen_parsed : Parsed → SeenParsed
seen_parsed Reset = ToReset
seen_parsed Idle = ToIdle
seen_parsed (Run cycles) = Runs cycles
seen_parsed Nothing = NoEffect

-- what is kept after a command, and the command that is left; unless memory runs out
abbrev pub Leaves : Option Command → Result ReadSoFar SvfCause → Result Step Cause → Type 0
Leaves out (Ok kept) read = read ≡ Ok (option_map seen_command out, kept)
Leaves out (Err e) read = Fails e read
