-- The machines of models are those of their views.
use Rattle.std.proofs.Common.{◌≡◌, List, [], ◌∷◌, map, refl, ap}
use Rattle.instruments.specs.After.{machine_of}
use Rattle.instruments.specs.Machine.{Machine}
use Rattle.instruments.specs.Seen.{seen_model}
use Rattle.instruments.specs.declared.model.Model.{Model}
use Rattle.instruments.specs.Runners.{machines_of}

pub machines_are : (models : List Model) → machines_of models ≡ map machine_of (map seen_model models)
machines_are [] = refl
machines_are (m ∷ ms) = ap (λ (l : List Machine). machine_of (seen_model m) ∷ l) (machines_are ms)
