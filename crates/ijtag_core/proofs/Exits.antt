-- What the exit of a `?` returns, where it is known which error that is; and a refused write.
use Rattle.std.proofs.Common.{◌≡◌, inl, refl, sym, subst, ℕ, List, [], ◌∷◌, Result, Ok, Err, IfErr, IsErrAnd}
use Rattle.ij_io.specs.Causes.{Rose}
use Rattle.ij_io.specs.declared.fault.StoreFault.{StoreFault}
use Rattle.ij_io.specs.declared.fault.StoreFault.TheVariants.{Failed, OutOfMemory as NoStore}
use Rattle.ijtag_stages.specs.Follows.{Follows, IsFault}
use Rattle.ijtag_stages.specs.Refusals.{Part}
use Rattle.ijtag_stages.specs.declared.refusal.StageFault.{StageFault}
use Rattle.ijtag_work.specs.Seen.{file_stop}
use Rattle.ijtag_work.specs.Stops.{Stop}
use Rattle.ijtag_core.specs.Files.{IsWriteStopOf}
use Rattle.ijtag_core.specs.Svf.{IsSvfStop}

pub at_fault : {T E : Type 0} (P : E → Type 0) (result : Result T E) (fault : E)
    → IsErrAnd result (λ e. e ≡ fault) → P fault → IfErr result P
at_fault P (Ok x) fault is told = tt
at_fault P (Err e) fault is told = subst P (sym is) told

-- the same of a call that follows work
pub follows_fault : {A B : Type 0} (work : Part B) (view : A
    → B) (result : Result A StageFault) (fault : StageFault) → IsErrAnd result (λ e. e ≡ fault)
    → IsFault work fault → Follows work view result
follows_fault work view (Ok a) fault is told = absurd is
follows_fault work view (Err e) fault is told = subst (λ (f : StageFault). IsFault work f) (sym is) told

-- what a refused write of a file stops for
pub write_stops : {T : Type 0} {stop : Stop} (name : List ℕ) (before now : List ℕ → ℕ) (fault : StoreFault)
    → stop ≡ file_stop name fault
    → (◌≡◌ {A = Result T StoreFault} (Err fault) (Err Failed) → Rose (before name) (now name))
    → IsWriteStopOf (name ∷ []) before now stop
write_stops name before now Failed is rose =
    subst (λ (s : Stop). IsWriteStopOf (name ∷ []) before now s) (sym is) (inl refl, rose refl)
write_stops name before now NoStore is rose =
    subst (λ (s : Stop). IsWriteStopOf (name ∷ []) before now s) (sym is) tt

-- the same, where there is a text
pub svf_stops : {T : Type 0} {stop : Stop} (work : Part (List ℕ)) (name : List ℕ)
    (before now : List ℕ → ℕ) (fault : StoreFault) → stop ≡ file_stop name fault
    → (◌≡◌ {A = Result T StoreFault} (Err fault) (Err Failed) → (bytes : List ℕ) × work.gives bytes)
    → (◌≡◌ {A = Result T StoreFault} (Err fault) (Err Failed) → Rose (before name) (now name))
    → IsSvfStop work name before now stop
svf_stops work name before now Failed is some rose =
    subst (λ (s : Stop). IsSvfStop work name before now s) (sym is) (some refl, (refl, rose refl))
svf_stops work name before now NoStore is some rose =
    subst (λ (s : Stop). IsSvfStop work name before now s) (sym is) tt
