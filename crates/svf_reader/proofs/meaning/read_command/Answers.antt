use Rattle.svf_reader.specs.Reading.{words_of}
use Rattle.svf_reader.specs.Texts.{plain}
use Rattle.svf_reader.proofs.Keeping.{nothing_read}
use Rattle.svf_reader.proofs.meaning.read_command.Goals as goal

pub returns-in_default : goal.returns-in_default
unfolding words_of
returns-in_default c =
    nothing_read c.args.kept c.args.ended (plain c.args.text.now) c.in_default.ensures.value
