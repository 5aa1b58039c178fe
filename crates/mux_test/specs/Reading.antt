-- What a reader of SVF finds in the text of a mux test (Serial Vector Format, revision E).
use Rattle.std.specs.Prelude.{◌≡◌, Ok}
use Rattle.net_graph.specs.declared.device.Device.{Device}
use Rattle.net_graph.specs.declared.net.Net.{Net}
use Rattle.net_graph.specs.Devices.{IsDevice}
use Rattle.net_tree.specs.Form.{Items}
use Rattle.svf_reader.specs.Meaning.{svf}
use Rattle.mux_test.specs.Laws.{IsTestable}
use Rattle.mux_test.specs.Test.{IsWithinLimit, test_commands, test_text}

-- in the text of a test that isn't too long its commands are found
abbrev pub TestsAreReadAgain : Type 0
TestsAreReadAgain =
    (net : Net) (form : Items) (device : Device) → IsTestable net form
    → IsDevice device → IsWithinLimit net form
    → svf (test_text net form device) ≡ Ok (test_commands net form device)
