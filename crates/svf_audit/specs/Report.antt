-- What is printed of an audit of SVF: one line (Serial Vector Format, revision E; IEEE 1687-2014, PDL level
-- 0).
use Rattle.std.specs.Prelude.{ℕ, Bool, true, false, List, [], ◌∷◌, codes, decimal}
use Rattle.ij_io.specs.Bytes.{concat}
use Rattle.net_graph.specs.declared.device.Device.{Device}
use Rattle.net_graph.specs.declared.net.Net.{Net}
use Rattle.net_graph.specs.SeenSteps.{SeenStep}
use Rattle.pdl_targets.specs.Laws.{rounds_in}
use Rattle.svf_audit.specs.Audit.{Verdict, Yes, No, audit}
use Rattle.svf_audit.specs.declared.answer.Audit.{Audit}
use Rattle.svf_audit.specs.declared.answer.Audit.TheVariants.{Yes as SaysYes, No as SaysNo}
use Rattle.svf_audit.specs.declared.answer.Cause.{Cause}
use Rattle.svf_audit.specs.declared.answer.Cause.TheVariants.{Length, Compare, Select, Step, Write, Read, Run}
use Rattle.svf_audit.specs.declared.answer.Cause.TheVariants.{Reset, End}
use Rattle.svf_writer.specs.SeenCommands.{SeenCommand}
use Rattle.tap_machine.specs.Play.{scans_in}

-- how a cause is printed
abbrev pub cause_name : Cause → List ℕ
cause_name Length = codes "Length"
cause_name Compare = codes "Compare"
cause_name Select = codes "Select"
cause_name Step = codes "Step"
cause_name Write = codes "Write"
cause_name Read = codes "Read"
cause_name Run = codes "Run"
cause_name Reset = codes "Reset"
cause_name End = codes "End"

-- a yes tells how many rounds the procedure has, and how many scans the SVF
unfoldable pub yes_text : ℕ → ℕ → List ℕ
yes_text rounds scans =
    concat (codes "audit yes groups " ∷ decimal rounds ∷ codes " scans " ∷ decimal scans ∷ codes "\n" ∷ [])

-- a no tells the scans up to the command at fault and with it, and the cause
unfoldable pub no_text : ℕ → List ℕ → List ℕ
no_text scan cause = concat (codes "audit no scan " ∷ decimal scan ∷ codes " " ∷ cause ∷ codes "\n" ∷ [])

abbrev pub verdict_text : ℕ → ℕ → Verdict → List ℕ
verdict_text rounds scans (Yes readings) = yes_text rounds scans
verdict_text rounds scans (No scan cause) = no_text scan (cause_name cause)

-- the line of an audit
abbrev pub audit_text : Net → Device → List SeenStep → List SeenCommand → List ℕ
audit_text net device steps commands =
    verdict_text (rounds_in steps) (scans_in commands) (audit net device steps commands)

-- whether an audit says no
abbrev pub says_no : Verdict → Bool
says_no (Yes readings) = false
says_no (No scan cause) = true

-- ---- the same of the answer that stands for a verdict

abbrev pub answer_text : ℕ → ℕ → Audit → List ℕ
answer_text rounds scans (SaysYes readings) = yes_text rounds scans
answer_text rounds scans (SaysNo scan cause) = no_text scan (cause_name cause)

abbrev pub is_yes : Audit → Bool
is_yes (SaysYes readings) = true
is_yes (SaysNo scan cause) = false
