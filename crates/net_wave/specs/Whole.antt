-- The variables of a wave are all that its kind shows of a network, each exactly once, and no other.
use Rattle.std.specs.Prelude.{◌≡◌, ◌≤◌, ℕ, ◌+◌, ◌==◌, ◌&&◌, Bool, true, false, cond, List, [], ◌∷◌, length}
use Rattle.net_graph.specs.declared.net.Net.{Net}
use Rattle.net_graph.specs.Nets.{IsNet}
use Rattle.instruments.specs.Seen.{SeenModel}
use Rattle.net_wave.specs.declared.var.Var.{Var}
use Rattle.net_wave.specs.declared.var.Var.TheVariants.{Tms, Tdi, Tdo, Expect, Differs, Tap, Instruction}
use Rattle.net_wave.specs.declared.var.Var.TheVariants.{Scan, Bit, Update, Shift, OnPath, Row, Input, Output}
use Rattle.net_wave.specs.declared.var.Var.TheVariants.{Word}
use Rattle.net_wave.specs.declared.var.WaveKind.{WaveKind}
use Rattle.net_wave.specs.Vars.{IsVar, shows_shift_stages, shows_chip_state, vars}

-- whether two variables are one
abbrev pub same_var : Var → Var → Bool
same_var Tms Tms = true
same_var Tdi Tdi = true
same_var Tdo Tdo = true
same_var Expect Expect = true
same_var Differs Differs = true
same_var Tap Tap = true
same_var Instruction Instruction = true
same_var Scan Scan = true
same_var Bit Bit = true
same_var (Update r) (Update s) = r == s
same_var (Shift r) (Shift s) = r == s
same_var (OnPath r) (OnPath s) = r == s
same_var (Row m) (Row n) = m == n
same_var (Input i p) (Input j q) = (i == j) && (p == q)
same_var (Output i p) (Output j q) = (i == j) && (p == q)
same_var (Word i w) (Word j x) = (i == j) && (w == x)
same_var _ _ = false

-- how often a variable is among some
abbrev pub times : Var → List Var → ℕ
times v [] = 0
times v (x ∷ xs) = cond (same_var v x) 1 0 + times v xs

-- whether a kind of waves has variables of this sort: pins always, and shift stages with all else alone
abbrev pub is_asked : WaveKind → Var → Bool
is_asked kind (Update r) = shows_chip_state kind
is_asked kind (Shift r) = shows_shift_stages kind
is_asked kind (OnPath r) = shows_chip_state kind
is_asked kind (Row m) = shows_chip_state kind
is_asked kind (Input i p) = shows_chip_state kind
is_asked kind (Output i p) = shows_chip_state kind
is_asked kind (Word i w) = shows_chip_state kind
is_asked kind _ = true

-- Each variable that is asked and names something that is there is among the variables once, and no other is.
abbrev pub VarsAreWhole : Type 0
VarsAreWhole =
    (kind : WaveKind) (net : Net) (models : List SeenModel) (v : Var) → IsNet net
    → length models ≡ length net.insts.items
    → (is_asked kind v ≡ true → IsVar net models v → times v (vars kind net models) ≡ 1)
    × (1 ≤ times v (vars kind net models) → (is_asked kind v ≡ true) × IsVar net models v)
