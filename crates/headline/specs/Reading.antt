-- What a reader of SVF finds in the text of a script (Serial Vector Format, revision E).
use Rattle.std.specs.Prelude.{◌≡◌, ◌≤◌, List, Ok}
use Rattle.net_graph.specs.declared.device.Device.{Device}
use Rattle.net_graph.specs.Devices.{IsDevice}
use Rattle.svf_reader.specs.Meaning.{svf}
use Rattle.headline.specs.Script.{ScannedStep, AreWritten, script_commands, script_text}
use Rattle.headline.specs.Sizes.{clocks}

-- on any network, the text of a script that is written is read as its commands, where they take at most
-- 1,000,000,000 clocks
abbrev pub WrittenScriptsAreRead : Type 0
WrittenScriptsAreRead =
    (device : Device) (ds : List ScannedStep) → IsDevice device → AreWritten ds
    → clocks (script_commands device ds) ≤ 1000000000
    → svf (script_text device ds) ≡ Ok (script_commands device ds)
