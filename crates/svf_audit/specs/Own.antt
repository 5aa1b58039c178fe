-- An audit says yes of what is planned for the same procedure.
use Rattle.std.specs.Prelude.{◌≡◌, ◌≤◌, List, map, Ok}
use Rattle.net_graph.specs.declared.device.Device.{Device}
use Rattle.net_graph.specs.declared.net.Net.{Net}
use Rattle.net_graph.specs.Devices.{IsDevice}
use Rattle.net_graph.specs.Nets.{IsNet}
use Rattle.net_graph.specs.Resets.{start_holds}
use Rattle.net_tree.specs.Form.{Items}
use Rattle.headline.specs.Planned.{IsPlanned}
use Rattle.headline.specs.Script.{ScannedStep, script_commands, script_text, steps_of}
use Rattle.headline.specs.Sizes.{clocks}
use Rattle.svf_reader.specs.Meaning.{svf}
use Rattle.svf_writer.specs.SeenCommands.{SeenCommand}
use Rattle.svf_audit.specs.Audit.{Reading, Yes, audit}
use Rattle.headline.specs.Retargeting.{PlannedStep, seen_of, script_of, StepsArePlanned, IsRetargetable}
use Rattle.svf_audit.specs.Listed.{ScriptLists}

-- on every well formed network, of the commands of a script that is planned and leaves every mux a listed
-- value
abbrev pub PlannedScriptsPass : Type 0
PlannedScriptsPass =
    (net : Net) (device : Device) (ds : List ScannedStep) →
    IsNet net → IsDevice device → IsPlanned net (start_holds net) ds → ScriptLists net (start_holds net) ds →
    (readings : List Reading) × (audit net device (steps_of ds) (script_commands device ds) ≡ Yes readings)

-- so it says yes of what a reader of SVF finds in the text of such a script
abbrev pub PlannedTextsPass : Type 0
PlannedTextsPass =
    (net : Net) (device : Device) (ds : List ScannedStep) (commands : List SeenCommand) →
    IsNet net → IsDevice device → IsPlanned net (start_holds net) ds → ScriptLists net (start_holds net) ds →
    clocks (script_commands device ds) ≤ 1000000000 → svf (script_text device ds) ≡ Ok commands →
    (readings : List Reading) × (audit net device (steps_of ds) commands ≡ Yes readings)

-- the script of planned bit steps leaves every mux a listed value
abbrev pub PlansList : Type 0
PlansList =
    (net : Net) (form : Items) (xs : List PlannedStep) →
    IsRetargetable net form → StepsArePlanned net form (start_holds net) xs →
    ScriptLists net (start_holds net) (script_of net (start_holds net) xs)

-- so an audit for these bit steps says yes of its commands
abbrev pub PlansPass : Type 0
PlansPass =
    (net : Net) (form : Items) (device : Device) (xs : List PlannedStep) →
    IsRetargetable net form → IsDevice device → StepsArePlanned net form (start_holds net) xs →
    (readings : List Reading) × (audit net device (map seen_of xs)
    (script_commands device (script_of net (start_holds net) xs)) ≡ Yes readings)

-- and of what a reader of SVF finds in its text
abbrev pub PlanTextsPass : Type 0
PlanTextsPass =
    (net : Net) (form : Items) (device : Device) (xs : List PlannedStep) (commands : List SeenCommand) →
    IsRetargetable net form → IsDevice device → StepsArePlanned net form (start_holds net) xs →
    clocks (script_commands device (script_of net (start_holds net) xs)) ≤ 1000000000
    → svf (script_text device (script_of net (start_holds net) xs)) ≡ Ok commands →
    (readings : List Reading) × (audit net device (map seen_of xs) commands ≡ Yes readings)
