use Rattle.ijtag_tools.specs.Graphs.{form_or_why}
use Rattle.ijtag_tools.proofs.unnested.find_why_unnested.Goals as goal

pub returns-in-Ok : goal.returns-in-Ok
unfolding form_or_why
returns-in-Ok c = (
  c.in-Ok._form,
  record {
    well_formed = c.requires;
    describes = c.in-Ok.ensures.describes;
    lawful = c.in-Ok.ensures.lawful;
  },
)
