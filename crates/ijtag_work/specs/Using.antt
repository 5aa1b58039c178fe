-- Texts and what they are accepted as, as contracts see them: with plain lists; and what is known of what is
-- accepted.
use Rattle.std.specs.Prelude.{◌≡◌, ◌<◌, ◌≤◌, ◌^◌, ℕ, Bool, true, false, List, length, map, Option, Some, None}
use Rattle.std.specs.Prelude.{IfSome, Ok}
use Rattle.std.specs.Option.{option_map}
use Rattle.merge_order.specs.BitSteps.{bit_steps}
use Rattle.ij_text.specs.Numbering.{AreDistinct}
use Rattle.instruments.specs.Seen.{seen_model}
use Rattle.instruments.specs.Runners.{AreModels}
use Rattle.net_graph.specs.Devices.{IsDevice}
use Rattle.net_graph.specs.SeenSteps.{SeenStep}
use Rattle.pdl_parser.specs.Grammar.{full_names}
use Rattle.pdl_parser.specs.Views.{seen_procs}
use Rattle.tap_machine.specs.declared.Stable.TheVariants.{Reset as InReset}
use Rattle.tap_machine.specs.Play.{pins, scans_in}
use Rattle.svf_reader.specs.Meaning.{svf}
use Rattle.svf_writer.specs.Fits.{AreFit}
use Rattle.svf_writer.specs.SeenCommands.{SeenCommand}
use Rattle.ijtag_stages.specs.Nested.{IsNested}
use Rattle.ijtag_stages.specs.declared.network.Network.{Network}
use Rattle.ijtag_work.specs.Accepted.{SeenAccepted, Texts, listed}
use Rattle.ijtag_work.specs.Inputs.{Inputs, OfAudit, OfDirect, OfNetwork, OfPlay, OfProcedure}
use Rattle.ijtag_work.specs.declared.accepted.Accepted.{Accepted}
use Rattle.ijtag_work.specs.declared.accepted.Procedure.{Procedure}
use Rattle.ijtag_work.specs.declared.accepted.Texts.{Texts as NamedTexts}

-- whether there is one
abbrev pub there : {A : Type 0} → Option A → Bool
there None = false
there (Some a) = true

abbrev pub seen_named : NamedTexts → Texts
seen_named texts = record {
  icl = texts.icl.now;
  device = texts.device.now;
  tables = option_map (λ text. text.now) texts.tables;
  svf = option_map (λ text. text.now) texts.svf;
  top = texts.top.now;
  pdl = option_map (λ text. text.now) texts.pdl;
  procedure = texts.procedure.now;
}

-- each is short enough for the readers
abbrev pub IsShort : List ℕ → Type 0
IsShort text = length text ≤ 134217728

pub record AreShortTexts (texts : Texts) : Type 0 where
  pub icl : IsShort texts.icl
  pub device : IsShort texts.device
  pub tables : IfSome texts.tables IsShort
  pub svf : IfSome texts.svf IsShort
  pub pdl : IfSome texts.pdl IsShort

-- the bit steps of a procedure
abbrev pub steps_of : Network → Procedure → List SeenStep
steps_of network p = (bit_steps (seen_procs p.procs) network.net network.form p.name.items).steps

abbrev pub seen_accepted : Accepted → SeenAccepted
seen_accepted it = record {
  network = it.network;
  device = it.device;
  models = listed (option_map (λ ms. map seen_model ms) it.models);
  svf = listed (option_map (λ text. text.now) it.svf);
  commands = listed it.commands;
  steps = listed (option_map (steps_of it.network) it.procedure);
}

-- which of the texts that a command may leave out it has
pub record Needs : Type 0 where
  pub tables : Bool
  pub svf : Bool
  pub pdl : Bool

abbrev pub needs_of : Texts → Needs
needs_of texts = record { tables = there texts.tables; svf = there texts.svf; pdl = there texts.pdl }

abbrev pub needs_in : Inputs → Needs
needs_in (OfNetwork n) = record { tables = false; svf = false; pdl = false }
needs_in (OfProcedure p) = record { tables = false; svf = false; pdl = true }
needs_in (OfDirect d) = record { tables = true; svf = false; pdl = true }
needs_in (OfPlay p) = record { tables = true; svf = true; pdl = false }
needs_in (OfAudit a) = record { tables = false; svf = true; pdl = true }

-- commands that can be played and audited
pub record ArePlayable (commands : List SeenCommand) : Type 0 where
  pub fit : AreFit commands
  pub clocks : length (pins InReset 0 commands) ≤ 1000000000
  pub scans : scans_in commands ≤ 1000000000

-- a procedure that comes to its end on a network
pub record ComesToItsEnd (network : Network) (p : Procedure) : Type 0 where
  pub procs : AreDistinct (full_names (seen_procs p.procs))
  pub few : length p.procs.procs.items < 2 ^ 32
  pub ends : (bit_steps (seen_procs p.procs) network.net network.form p.name.items).fault ≡ None

-- what is known of what is accepted: a lawful network, a device, a model for each instrument, commands that
-- can be played, a procedure that comes to its end
pub record IsUsable (it : Accepted) : Type 0 where
  pub nested : IsNested it.network.net it.network.form
  pub device : IsDevice it.device
  pub models : IfSome it.models (AreModels it.network.net)
  pub short : IfSome it.svf (λ text. IsShort text.now)
  pub read : IfSome it.svf (λ text. svf text.now ≡ Ok (listed it.commands))
  pub commands : IfSome it.commands ArePlayable
  pub procedure : IfSome it.procedure (ComesToItsEnd it.network)

-- and of which of these there are, those that the command has
pub record CanUse (needs : Needs) (it : Accepted) : Type 0 where
  pub usable : IsUsable it
  pub models : there it.models ≡ needs.tables
  pub svf : there it.svf ≡ needs.svf
  pub commands : there it.commands ≡ needs.svf
  pub procedure : there it.procedure ≡ needs.pdl
