-- The words that the program is called with.
use Rattle.std.specs.Prelude.{ℕ, ◌==◌, nat_lt, Bool, false, ◌&&◌, ◌||◌, not, cond, List, [], ◌∷◌, ◌++◌}
use Rattle.std.specs.Prelude.{length, Option, Some, None, map, codes}
use Rattle.std.specs.Char.{is_ascii_digit}
use Rattle.std.specs.List.{list_all}
use Rattle.std.specs.Str.{bytes_eq}
use Rattle.std.specs.String.{string_bytes}
use Rattle.std.specs.declared.string.String.{String}
use Rattle.std.specs.declared.alloc.Global.{Global}
use Rattle.ij_text.specs.Numbers.{decimal_from}

-- `ICL DEVICE TOP`: the files of a network and of its device, and the top module
pub record Network : Type 0 where
  pub icl : List ℕ
  pub device : List ℕ
  pub top : List ℕ

-- `ICL PDL DEVICE TOP PROC`: a network, the file of the procedures, and one of them
pub record Procedure : Type 0 where
  pub network : Network
  pub pdl : List ℕ
  pub name : List ℕ

-- `compile ICL PDL DEVICE TOP PROC SVF`: a procedure, and the file that is written
pub record Compile : Type 0 where
  pub procedure : Procedure
  pub svf : List ℕ

-- `play SVF ICL DEVICE TABLES TOP`: the file that is played, a network, and the tables of its instruments
pub record Play : Type 0 where
  pub svf : List ℕ
  pub network : Network
  pub tables : List ℕ

-- `direct ICL PDL DEVICE TABLES TOP PROC`: a procedure, and the tables
pub record Direct : Type 0 where
  pub procedure : Procedure
  pub tables : List ℕ

-- `run ICL PDL DEVICE TABLES TOP PROC SVF`: the words of a direct, and the file that is written
pub record Run : Type 0 where
  pub direct : Direct
  pub svf : List ℕ

-- `make SEED SIZE STEM`: two numbers, and what the names of the files begin with
pub record Make : Type 0 where
  pub seed : ℕ
  pub size : ℕ
  pub stem : List ℕ

-- `migrate TABLES NEW`: the file of tables, and the file that is written
pub record Migrate : Type 0 where
  pub tables : List ℕ
  pub written : List ℕ

-- `audit SVF ICL PDL DEVICE TOP PROC`: the file that is audited, and a procedure
pub record Audit : Type 0 where
  pub svf : List ℕ
  pub procedure : Procedure

-- `muxtest ICL DEVICE TOP SVF`: a network, and the file that is written
pub record MuxTest : Type 0 where
  pub network : Network
  pub svf : List ℕ

-- the compile of the same procedure, to the file that is audited
abbrev pub own_compile : Audit → Compile
own_compile a = record { procedure = a.procedure; svf = a.svf }

pub data Command : Type 0 where
  Compiles : (words : Compile) → Command
  Plays : (words : Play) → Command
  Directs : (words : Direct) → Command
  Runs : (words : Run) → Command
  Makes : (words : Make) → Command
  Migrates : (words : Migrate) → Command
  Audits : (words : Audit) → Command
  MuxTests : (words : MuxTest) → Command

-- a decimal number of 1 to 19 digits, of which the first is 0 in `0` alone
abbrev pub is_number : List ℕ → Bool
is_number [] = false
is_number (b ∷ bs) = is_ascii_digit b && list_all is_ascii_digit bs && nat_lt
    (length bs) 19 && (not (b == 48) || length bs == 0)

abbrev pub number_of : List ℕ → Option ℕ
number_of text = cond (is_number text) (Some (decimal_from 0 text)) None

-- the words of a network and of a procedure
abbrev pub network_of : List ℕ → List ℕ → List ℕ → Network
network_of icl device top = record { icl = icl; device = device; top = top }

abbrev pub procedure_of : List ℕ → List ℕ → List ℕ → List ℕ → List ℕ → Procedure
procedure_of icl pdl device top name = record { network = network_of icl device top; pdl = pdl; name = name }

-- ---- the words after a command's name: exactly this many

abbrev pub compile_of : List (List ℕ) → Option Command
compile_of (icl ∷ pdl ∷ device ∷ top ∷ name ∷ svf ∷ []) =
    Some (Compiles (record { procedure = procedure_of icl pdl device top name; svf = svf }))
compile_of _ = None

abbrev pub play_of : List (List ℕ) → Option Command
play_of (svf ∷ icl ∷ device ∷ tables ∷ top ∷ []) =
    Some (Plays (record { svf = svf; network = network_of icl device top; tables = tables }))
play_of _ = None

abbrev pub direct_of : List (List ℕ) → Option Command
direct_of (icl ∷ pdl ∷ device ∷ tables ∷ top ∷ name ∷ []) =
    Some (Directs (record { procedure = procedure_of icl pdl device top name; tables = tables }))
direct_of _ = None

abbrev pub run_of : List (List ℕ) → Option Command
run_of (icl ∷ pdl ∷ device ∷ tables ∷ top ∷ name ∷ svf ∷ []) =
    Some (Runs (record
    { direct = record { procedure = procedure_of icl pdl device top name; tables = tables }; svf = svf }))
run_of _ = None

abbrev pub made_by : Option ℕ → Option ℕ → List ℕ → Option Command
made_by (Some seed) (Some size) stem = Some (Makes (record { seed = seed; size = size; stem = stem }))
made_by (Some seed) None stem = None
made_by None size stem = None

abbrev pub make_of : List (List ℕ) → Option Command
make_of (seed ∷ size ∷ stem ∷ []) = made_by (number_of seed) (number_of size) stem
make_of _ = None

abbrev pub migrate_of : List (List ℕ) → Option Command
migrate_of (tables ∷ written ∷ []) = Some (Migrates (record { tables = tables; written = written }))
migrate_of _ = None

abbrev pub audit_of : List (List ℕ) → Option Command
audit_of (svf ∷ icl ∷ pdl ∷ device ∷ top ∷ name ∷ []) =
    Some (Audits (record { svf = svf; procedure = procedure_of icl pdl device top name }))
audit_of _ = None

abbrev pub mux_test_of : List (List ℕ) → Option Command
mux_test_of (icl ∷ device ∷ top ∷ svf ∷ []) =
    Some (MuxTests (record { network = network_of icl device top; svf = svf }))
mux_test_of _ = None

-- the command that the first word names
abbrev pub command_of : List (List ℕ) → Option Command
command_of [] = None
command_of (name ∷ words) =
    cond (bytes_eq name (codes "compile")) (compile_of words)
    (cond (bytes_eq name (codes "play")) (play_of words)
    (cond (bytes_eq name (codes "direct")) (direct_of words)
    (cond (bytes_eq name (codes "run")) (run_of words)
    (cond (bytes_eq name (codes "make")) (make_of words)
    (cond (bytes_eq name (codes "migrate")) (migrate_of words)
    (cond (bytes_eq name (codes "audit")) (audit_of words)
    (cond (bytes_eq name (codes "muxtest")) (mux_test_of words) None)))))))

-- the command that the words of the command line are, where they are one
abbrev pub command_in : List (String Global) → Option Command
command_in words = command_of (map string_bytes words)

-- ---- the names of the files of a made design

-- the four files of a made design
abbrev pub made_names : List ℕ → List (List ℕ)
made_names stem = (stem ++ codes ".icl") ∷ (stem ++ codes ".pdl")
    ∷ (stem ++ codes ".dev") ∷ (stem ++ codes ".tab") ∷ []

-- and that of its procedure's SVF
abbrev pub made_svf : List ℕ → List ℕ
made_svf stem = stem ++ codes ".svf"
