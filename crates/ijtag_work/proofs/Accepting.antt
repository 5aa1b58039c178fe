-- Texts that are accepted, and one that is refused after others that are accepted.
use Rattle.std.specs.Prelude.{IfSome, option_map}
use Rattle.std.proofs.Common.{◌≡◌, inl, inr, refl, Option, Some, None, List}
use Rattle.icl_lexer.specs.Values.{SeenModule}
use Rattle.instruments.specs.Seen.{SeenModel}
use Rattle.net_graph.specs.declared.device.Device.{Device}
use Rattle.net_graph.specs.SeenSteps.{SeenStep}
use Rattle.svf_writer.specs.SeenCommands.{SeenCommand}
use Rattle.table_file.specs.Tables.{SeenTable}
use Rattle.ijtag_stages.specs.DeviceText.{device_text}
use Rattle.ijtag_stages.specs.Fitted.{models_of}
use Rattle.ijtag_stages.specs.Follows.{IsFault}
use Rattle.ijtag_stages.specs.IclText.{icl_text}
use Rattle.ijtag_stages.specs.Networks.{network_below}
use Rattle.ijtag_stages.specs.declared.network.Network.{Network}
use Rattle.ijtag_stages.specs.Refusals.{Part, Refusal}
use Rattle.ijtag_stages.specs.Seen.{seen_refusal}
use Rattle.ijtag_stages.specs.SvfText.{svf_text}
use Rattle.ijtag_stages.specs.TablesText.{tables_text}
use Rattle.ijtag_stages.specs.declared.refusal.StageFault.{StageFault}
use Rattle.ijtag_stages.specs.declared.refusal.StageFault.TheVariants.{Refused, OutOfMemory}
use Rattle.ijtag_work.specs.Accepted.{Texts, accepted, followed, if_given, listed}
use Rattle.ijtag_work.specs.Using.{there}

-- ---- what there is, of a text and of what it is seen as

pub there_mapped : {A B : Type 0} (f : A → B) (o : Option A) → there (option_map f o) ≡ there o
there_mapped f None = refl
there_mapped f (Some a) = refl

pub if_mapped : {A B : Type 0} (f : A → B) (P : B → Type 0) (o : Option A)
    → IfSome (option_map f o) P → IfSome o (λ a. P (f a))
if_mapped f P None p = tt
if_mapped f P (Some a) p = p

-- ---- all texts are accepted, or one of them is refused after others that are accepted

-- a fault of a part is one of the whole, where its refusals are
fault_of : {A B : Type 0} (part : Part A) (whole : Part B) (fault : StageFault)
    → ((r : Refusal) → part.refuses r → whole.refuses r) → IsFault part fault → IsFault whole fault
fault_of part whole (Refused r) lift is = lift (seen_refusal r) is
fault_of part whole OutOfMemory lift is = tt

module _ (t : Texts) (modules : List SeenModule) (icl : (icl_text t.icl).gives modules) (device : Device)
    (dev : (device_text t.device).gives device)
    (tables : Option (List SeenTable)) (tab : (if_given t.tables tables_text).gives tables) where
  pub svf_refused : (fault : StageFault)
      → IsFault (if_given t.svf svf_text) fault → IsFault (accepted t) fault
  unfolding accepted
  svf_refused fault is = fault_of (if_given t.svf svf_text) (accepted t) fault
      (λ r own. inr (modules, icl, inr (device, dev, inr (tables, tab, inl own)))) is

  module _ (commands : Option (List SeenCommand)) (svf : (if_given t.svf svf_text).gives commands) where
    pub network_refused : (fault : StageFault)
        → IsFault (network_below modules t.top device) fault → IsFault (accepted t) fault
    unfolding accepted
    network_refused fault is =
        fault_of (network_below modules t.top device) (accepted t) fault
        (λ r own. inr (modules, icl, inr (device, dev, inr (tables, tab, inr (commands, svf, inl own))))) is

    module _ (network : Network) (net : (network_below modules t.top device).gives network) where
      pub fit_refused : (fault : StageFault)
          → IsFault (if_given tables (models_of network.net)) fault → IsFault (accepted t) fault
      unfolding accepted
      fit_refused fault is =
          fault_of (if_given tables (models_of network.net)) (accepted t) fault
          (λ r own. inr (
            modules,
            icl,
            inr (device, dev, inr (tables, tab, inr (commands, svf, inr (network, net, inl own)))),
          )) is

      pub all_given : (models : Option (List SeenModel))
          → (if_given tables (models_of network.net)).gives models
          → (steps : Option (List SeenStep)) → (if_given t.pdl (followed network t.procedure)).gives steps
          → (accepted t).gives (record {
            network = network;
            device = device;
            models = listed models;
            svf = listed t.svf;
            commands = listed commands;
            steps = listed steps;
          })
      unfolding accepted
      all_given models fit steps ends = (
        modules,
        icl,
        (
          device,
          dev,
          (tables, tab, (commands, svf, (network, net, (models, fit, (steps, ends, refl))))),
        ),
      )

      pub procedure_refused : (models : Option (List SeenModel))
          → (if_given tables (models_of network.net)).gives models
          → (fault : StageFault) → IsFault (if_given t.pdl (followed network t.procedure)) fault
          → IsFault (accepted t) fault
      unfolding accepted
      procedure_refused models fit fault is =
          fault_of (if_given t.pdl (followed network t.procedure)) (accepted t) fault
          (λ r own. inr (
            modules,
            icl,
            inr (
              device,
              dev,
              inr (tables, tab, inr (commands, svf, inr (network, net, inr (models, fit, inl own)))),
            ),
          )) is
