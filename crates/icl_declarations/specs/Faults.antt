-- Why a design isn't elaborated, and answers: each a value, or the first fault that is met on the way to it.
use Rattle.std.specs.Prelude.{◌≡◌, ℕ, Bool, List, [], ◌∷◌, Option, Some, None, Result, Ok, Err, cond}
use Rattle.ij_text.specs.declared.Place.{Place}
use Rattle.ij_text.specs.declared.Which.{Which}
use Rattle.icl_declarations.specs.declared.fault.ElabFault.{ElabFault}
use Rattle.icl_declarations.specs.declared.fault.ElabFault.TheVariants as fault

-- a fault without where its name lies in memory
pub data Fault : Type 0 where
  NoModule : List ℕ → Fault
  NoName : Place → List ℕ → Fault
  DoubleName : Place → List ℕ → Fault
  NoParameter : Place → List ℕ → Fault
  DivideByZero : Place → Fault
  BadNumber : Place → Fault
  BadRange : Place → Fault
  WidthDiffers : Place → Fault
  WrongKind : Place → Fault
  RowsOverlap : Place → Fault
  InstanceLoop : Place → Fault
  Limit : Which → ℕ → Fault

abbrev pub Answer : Type 0 → Type 0
Answer A = Result A Fault

-- ---- one after another: the first fault ends the work

infixl 10 ◌>>=◌
abbrev pub ◌>>=◌ : {A B E : Type 0} → Result A E → (A → Result B E) → Result B E
(Ok x) >>= next = next x
(Err e) >>= next = Err e

-- a fault where the test holds
abbrev pub refuse_if : {E : Type 0} → Bool → E → Result (Unit {0}) E
refuse_if test e = cond test (Err e) (Ok tt)

-- what a function gives for each item, in order
abbrev pub each : {A B E : Type 0} → (A → Result B E) → List A → Result (List B) E
each f [] = Ok []
each f (x ∷ xs) = do
  y ← f x
  ys ← each f xs
  Ok (y ∷ ys)

-- a state that each item changes, in order
abbrev pub over : {A S E : Type 0} → (S → A → Result S E) → S → List A → Result S E
over f s [] = Ok s
over f s (x ∷ xs) = f s x >>= λ t. over f t xs

-- ---- what contracts see of answers

-- a returned fault, none where memory ran out
abbrev pub seen_fault : ElabFault → Option Fault
seen_fault fault.OutOfMemory = None
seen_fault (fault.NoModule name) = Some (NoModule name.items)
seen_fault (fault.NoName at name) = Some (NoName at name.items)
seen_fault (fault.DoubleName at name) = Some (DoubleName at name.items)
seen_fault (fault.NoParameter at name) = Some (NoParameter at name.items)
seen_fault (fault.DivideByZero at) = Some (DivideByZero at)
seen_fault (fault.BadNumber at) = Some (BadNumber at)
seen_fault (fault.BadRange at) = Some (BadRange at)
seen_fault (fault.WidthDiffers at) = Some (WidthDiffers at)
seen_fault (fault.WrongKind at) = Some (WrongKind at)
seen_fault (fault.RowsOverlap at) = Some (RowsOverlap at)
seen_fault (fault.InstanceLoop at) = Some (InstanceLoop at)
seen_fault (fault.Limit which number) = Some (Limit which number)

-- the answer is this fault, if it is told
abbrev pub Fails : {Y : Type 0} → Option Fault → Answer Y → Type 0
Fails None answer = Unit {0}
Fails (Some e) answer = answer ≡ Err e

-- what a function returned, seen by a view, is the answer, unless memory ran out
abbrev pub Gives : {X Y : Type 0} → (X → Y) → Result X ElabFault → Answer Y → Type 0
Gives view (Ok x) answer = answer ≡ Ok (view x)
Gives view (Err e) answer = Fails (seen_fault e) answer
