-- What a file or a text is refused for, and the line that tells it.
use Rattle.std.specs.Prelude.{ℕ, List, [], ◌∷◌, ◌++◌, codes}
use Rattle.std.specs.List.{flat_map}
use Rattle.std.specs.Fmt.{decimal}
use Rattle.ij_io.specs.Bytes.{concat}
use Rattle.ij_text.specs.declared.Place.{Place}
use Rattle.ijtag_stages.specs.Work.{Work}
use Rattle.ijtag_stages.specs.declared.refusal.Stage.{Stage}
use Rattle.ijtag_stages.specs.declared.refusal.Stage.TheVariants.{File, Icl, Device, Tables, Svf, Elab}
use Rattle.ijtag_stages.specs.declared.refusal.Stage.TheVariants.{Connect, Nest, Fit, Pdl, Make, Muxtest}
use Rattle.ijtag_stages.specs.declared.refusal.Stage.TheVariants.{Explain, Where, Picture, Wave}

-- what comes after the cause: a place, a number, a text as it is, or a bit by its register and index
pub data Arg : Type 0 where
  At : (place : Place) → Arg
  Num : (n : ℕ) → Arg
  Said : (text : List ℕ) → Arg
  Bit : (register : List ℕ) → (index : ℕ) → Arg

-- the stage that refuses, the cause, and what comes after it
pub record Refusal : Type 0 where
  pub stage : Stage
  pub kind : List ℕ
  pub args : List Arg

-- work that may refuse so
abbrev pub Part : Type 0 → Type 1
Part A = Work Refusal A

abbrev pub refused : Stage → List ℕ → Refusal
refused stage kind = record { stage = stage; kind = kind; args = [] }

abbrev pub refused_at : Stage → List ℕ → Place → Refusal
refused_at stage kind place = record { stage = stage; kind = kind; args = At place ∷ [] }

abbrev pub refused_name : Stage → List ℕ → List ℕ → Refusal
refused_name stage kind name = record { stage = stage; kind = kind; args = Said name ∷ [] }

abbrev pub refused_number : Stage → List ℕ → ℕ → Refusal
refused_number stage kind n = record { stage = stage; kind = kind; args = Num n ∷ [] }

abbrev pub refused_limit : Stage → List ℕ → ℕ → Refusal
refused_limit stage which n = record { stage = stage; kind = codes "Limit"; args = Said which ∷ Num n ∷ [] }

abbrev pub refused_word : Stage → List ℕ → Place → List ℕ → Refusal
refused_word stage kind place word = record { stage = stage; kind = kind; args = At place ∷ Said word ∷ [] }

-- ---- the line that tells a refusal: `refused STAGE KIND` and each argument after a blank

unfoldable pub stage_name : Stage → List ℕ
stage_name File = codes "file"
stage_name Icl = codes "icl"
stage_name Device = codes "device"
stage_name Tables = codes "tables"
stage_name Svf = codes "svf"
stage_name Elab = codes "elab"
stage_name Connect = codes "connect"
stage_name Nest = codes "nest"
stage_name Fit = codes "fit"
stage_name Pdl = codes "pdl"
stage_name Make = codes "make"
stage_name Muxtest = codes "muxtest"
stage_name Explain = codes "explain"
stage_name Where = codes "where"
stage_name Picture = codes "picture"
stage_name Wave = codes "wave"

unfoldable pub arg_text : Arg → List ℕ
arg_text (At place) = concat (codes " " ∷ decimal place.line ∷ codes ":" ∷ decimal place.col ∷ [])
arg_text (Num n) = concat (codes " " ∷ decimal n ∷ [])
arg_text (Said text) = concat (codes " " ∷ text ∷ [])
arg_text (Bit register index) = concat (codes " " ∷ register ∷ codes "[" ∷ decimal index ∷ codes "]" ∷ [])

unfoldable pub head_text : Stage → List ℕ → List ℕ
head_text stage kind = concat (codes "refused " ∷ stage_name stage ∷ codes " " ∷ kind ∷ [])

abbrev pub refusal_text : Refusal → List ℕ
refusal_text r = head_text r.stage r.kind ++ (flat_map arg_text r.args ++ codes "\n")
