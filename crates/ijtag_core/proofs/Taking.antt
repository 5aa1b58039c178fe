-- The texts of files as they are read: each is no longer than a file may be that is loaded.
use Rattle.std.proofs.Common.{◌≡◌, ◌∙◌, inl, inr, ap, ℕ, List, [], ◌∷◌, arith}
use Rattle.ijtag_stages.specs.Follows.{IsFault}
use Rattle.ijtag_stages.specs.declared.refusal.StageFault.{StageFault}
use Rattle.ijtag_stages.specs.declared.refusal.StageFault.TheVariants.{Refused, OutOfMemory}
use Rattle.ijtag_work.specs.Follows.{AreShort}
use Rattle.ijtag_work.specs.Leaves.{Written}
use Rattle.ijtag_work.specs.Order.{taken, taken_one}

abbrev pub bytes_of_all : List Written → List (List ℕ)
bytes_of_all [] = []
bytes_of_all (w ∷ ws) = w.bytes ∷ bytes_of_all ws

pub taken_are : (ws : List Written) (texts : List (List ℕ)) → (taken ws).gives texts → texts ≡ bytes_of_all ws
unfolding taken_one
taken_are [] texts g = g
taken_are (w ∷ ws) texts g =
    g.2.2 ∙ ap (λ (t : List ℕ). t ∷ g.2.0) g.1.1
    ∙ ap (λ (ts : List (List ℕ)). w.bytes ∷ ts) (taken_are ws g.2.0 g.2.1)

-- so the readers take them
pub taken_fit : (ws : List Written) (texts : List (List ℕ))
    → (taken ws).gives texts → AreShort (bytes_of_all ws)
unfolding taken_one
taken_fit [] texts g = tt
taken_fit (w ∷ ws) texts g = (omega (arith, g.1.0), taken_fit ws g.2.0 g.2.1)

-- one is refused
pub first_refused : (w : Written) (ws : List Written) (fault : StageFault)
    → IsFault (taken_one w) fault → IsFault (taken (w ∷ ws)) fault
first_refused w ws (Refused r) is = inl is
first_refused w ws OutOfMemory is = tt

-- one after another is
pub later_refused : (w : Written) (ws : List Written) (text : List ℕ) (fault : StageFault)
    → (taken_one w).gives text → IsFault (taken ws) fault → IsFault (taken (w ∷ ws)) fault
later_refused w ws text (Refused r) given is = inr (text, given, inl is)
later_refused w ws text OutOfMemory given is = tt
