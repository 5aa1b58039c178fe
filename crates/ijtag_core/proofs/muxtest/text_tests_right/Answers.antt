use Rattle.ijtag_work.specs.Using.{seen_accepted}
use Rattle.ijtag_core.proofs.Testing.{right}
use Rattle.ijtag_core.proofs.muxtest.text_tests_right.Goals as goal

pub returns : goal.returns
returns c =
    right (seen_accepted c.args.it.now) c.requires.nested c.mux_tests_law.ensures.quiet
    c.mux_tests_law.ensures.found c.mux_tests_law.ensures.reached
    c.mux_tests_law.ensures.read_again c.requires.device
