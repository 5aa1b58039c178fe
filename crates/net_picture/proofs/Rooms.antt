-- Rooms of rows, and what comes before a point, one after the other.
use Rattle.std.proofs.Common.{◌≡◌, ℕ, zero, suc, ◌+◌, ◌<◌, List, [], ◌∷◌, ◌++◌, Option, Some, None, length}
use Rattle.std.proofs.Common.{drop, get_or, refl, sym, ap, ◌∙◌, arith, append_assoc, append-nil}
use Rattle.std.specs.Prelude.{max, IfSome}
use Rattle.std.proofs.Math.Seq.{drop-cons}
use Rattle.net_graph.specs.declared.net.Net.{Net}
use Rattle.net_graph.specs.declared.net.Point.{Point}
use Rattle.net_graph.specs.declared.net.Point.TheVariants.{Entry, Reg, Mux}
use Rattle.net_graph.specs.declared.net.Row.{Row}
use Rattle.net_graph.specs.Named.{IsPointOf}
use Rattle.net_graph.specs.Nets.{IsNet}
use Rattle.net_graph.specs.Signals.{Holds}
use Rattle.net_graph.proofs.Tracing.{before_is_point}
use Rattle.net_picture.specs.Met.{before, met_from}
use Rattle.net_picture.specs.Labels.{row_room, values_room}

-- one move less is left
pub met_turn : (net : Net) (holds : Holds) (n m : ℕ) (now next : Option Point) (old new all : List Point)
    → n ≡ suc m → ((k : ℕ) → new ++ met_from net holds k next ≡ old ++ met_from net holds (suc k) now)
    → old ++ met_from net holds n now ≡ all → new ++ met_from net holds m next ≡ all
met_turn net holds n m now next old new all more step left =
    step m ∙ sym (ap (λ (k : ℕ). old ++ met_from net holds k now) more) ∙ left

-- what comes before a point of the network is one, too
some_there : (net : Net) (o b : Option Point) → o ≡ b
    → ((q : Point) → b ≡ Some q → IsPointOf net q) → IfSome o (IsPointOf net)
some_there net None b e f = tt
some_there net (Some q) b e f = f q (sym e)

pub point_there : (net : Net) (holds : Holds) (p : Point) (o : Option Point) → IsNet net → IsPointOf net p
    → o ≡ before net holds p → IfSome o (IsPointOf net)
point_there net holds Entry o n t e = some_there net o None e (λ q h. let no : ⊥ = cc in absurd no)
point_there net holds (Reg r) o n t e =
    some_there net o (before net holds (Reg r)) e (λ q h. before_is_point net holds (Reg r) q n t h)
point_there net holds (Mux m) o n t e =
    some_there net o (before net holds (Mux m)) e (λ q h. before_is_point net holds (Mux m) q n t h)
