-- The texts that commands accept: the files that they are loaded from, in this order, and which of the loaded
-- texts is what.
use Rattle.std.specs.Prelude.{ℕ, List, [], ◌∷◌, Option, Some, None}
use Rattle.ijtag_work.specs.Accepted.{Texts}
use Rattle.ijtag_work.specs.Command.{Audit, Direct, Network, Play, Procedure}
use Rattle.ijtag_work.specs.Loads.{Load, source, svf_file}

pub data Inputs : Type 0 where
  OfNetwork : (words : Network) → Inputs
  OfProcedure : (words : Procedure) → Inputs
  OfDirect : (words : Direct) → Inputs
  OfPlay : (words : Play) → Inputs
  OfAudit : (words : Audit) → Inputs

abbrev pub loads_of : Inputs → List Load
loads_of (OfNetwork n) = source n.icl ∷ source n.device ∷ []
loads_of (OfProcedure p) = source p.network.icl ∷ source p.pdl ∷ source p.network.device ∷ []
loads_of (OfDirect d) = source d.procedure.network.icl ∷ source d.procedure.pdl
    ∷ source d.procedure.network.device ∷ source d.tables ∷ []
loads_of (OfPlay p) = svf_file p.svf ∷ source p.network.icl ∷ source p.network.device ∷ source p.tables ∷ []
loads_of (OfAudit a) = svf_file a.svf ∷ source a.procedure.network.icl ∷ source a.procedure.pdl
    ∷ source a.procedure.network.device ∷ []

abbrev pub texts_of : Inputs → List (List ℕ) → Option Texts
texts_of (OfNetwork n) (icl ∷ device ∷ []) =
    Some (record {
      icl = icl;
      device = device;
      tables = None;
      svf = None;
      top = n.top;
      pdl = None;
      procedure = [];
    })
texts_of (OfProcedure p) (icl ∷ pdl ∷ device ∷ []) =
    Some (record {
      icl = icl;
      device = device;
      tables = None;
      svf = None;
      top = p.network.top;
      pdl = Some pdl;
      procedure = p.name;
    })
texts_of (OfDirect d) (icl ∷ pdl ∷ device ∷ tables ∷ []) =
    Some (record {
      icl = icl;
      device = device;
      tables = Some tables;
      svf = None;
      top = d.procedure.network.top;
      pdl = Some pdl;
      procedure = d.procedure.name;
    })
texts_of (OfPlay p) (svf ∷ icl ∷ device ∷ tables ∷ []) =
    Some (record {
      icl = icl;
      device = device;
      tables = Some tables;
      svf = Some svf;
      top = p.network.top;
      pdl = None;
      procedure = [];
    })
texts_of (OfAudit a) (svf ∷ icl ∷ pdl ∷ device ∷ []) =
    Some (record {
      icl = icl;
      device = device;
      tables = None;
      svf = Some svf;
      top = a.procedure.network.top;
      pdl = Some pdl;
      procedure = a.procedure.name;
    })
texts_of _ _ = None
