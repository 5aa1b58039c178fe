use Rattle.ijtag_tools.proofs.Settling.{all_settle}
use Rattle.ijtag_tools.proofs.commands.ToolWordsCommand.works_settle.Goals as goal

pub returns : goal.returns
returns c = all_settle c.texts_are_decided.ensures.loads
    c.texts_are_decided.ensures.texts c.stages_are_decided.ensures
