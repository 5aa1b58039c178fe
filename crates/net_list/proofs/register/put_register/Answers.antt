use Rattle.std.proofs.Common.{◌∙◌}
use Rattle.net_list.proofs.Reaching.{place_there}
use Rattle.net_list.proofs.register.put_register.Goals as goal

pub put_register_line-requires-clause-rows : goal.put_register_line-requires-clause-rows
put_register_line-requires-clause-rows g c =
    place_there c.args.net.now c.args.tree.now c.args.reg c.as_slice-2.result.now c.requires.form
    c.requires.there (c.as_slice-2.ensures ∙ c.place_of-place.ensures.place)
