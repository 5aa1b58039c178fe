-- A well formed network has a lawful nested form, or a cause why it has none: it can't be that it has
-- neither.
use Rattle.std.specs.Prelude.{All}
use Rattle.std.proofs.Common.{◌≡◌, ◌⊎◌, inl, inr, ◌<◌, ◌≤◌, ℕ, zero, suc, List, [], ◌∷◌, length, Some, refl}
use Rattle.std.proofs.Common.{ap, subst, sym, arith}
use Rattle.std.proofs.lemmas.List.Elements.{All-nil, All-cons}
use Rattle.net_graph.specs.declared.net.Net.{Net}
use Rattle.net_graph.specs.declared.net.Point.TheVariants.{Reg, Mux}
use Rattle.net_graph.specs.Nets.{IsNet}
use Rattle.net_tree.specs.Form.{Items, Describes}
use Rattle.net_tree.specs.Lawful.{DrivesNone, HasReset, IsLawfulMux, IsUndriven, IsUnshared, selects_of}
use Rattle.nest_check.specs.Causes.{HasCause, IsFirstAt}
use Rattle.nest_check.specs.Meeting.{IsMet, MuxesMet, RegistersMet}
use Rattle.nest_check.specs.declared.fault.NestFault.{NestFault}
use Rattle.nest_check.specs.declared.fault.NestFault.TheVariants.{Unreached, NotNested, SelectInside}
use Rattle.nest_check.specs.declared.fault.NestFault.TheVariants.{SelectShared, SelectDrives, SelectNoReset}
use Rattle.nest_check.specs.declared.fault.NestFault.TheVariants.{ResetUnlisted, TooDeep}
use Rattle.ijtag_stages.specs.Nested.{IsNested, nest_refusal, nested}
use Rattle.ijtag_stages.specs.Refusals.{Refusal}
use Rattle.ijtag_stages.specs.Work.{IsTotal}

-- something holds of each element of a list, or there is a first of which it doesn't
first_or_all : {A : Type 0} (P : A → Type 0) (xs : List A) → (All P xs → ⊥)
    → ((n : ℕ) (x : A) → IsFirstAt P xs n x → ⊥) → ⊥
first_or_all P [] all first = all (All-nil P)
first_or_all {A} P (x ∷ xs) all first =
    first 0 x (
      [],
      xs,
      refl,
      refl,
      All-nil P,
      λ own.
          first_or_all P xs (λ held. all (All-cons P x xs own held)) (λ n y f. first (suc n) y
          (x ∷ f.0, f.1, ap (λ (l : List A). x ∷ l) f.2, ap suc f.3, All-cons P x f.0 own f.4, f.5)),
    )

below : (n k : ℕ) → k < suc n → (k < n) ⊎ (k ≡ n)
below zero zero lt = inr refl
below zero (suc k) lt = absurd (omega (arith, lt))
below (suc n) zero lt = inl (omega arith)
below (suc n) (suc k) lt = elim (below n k (omega (arith, lt)))
    [ inl less ↦ inl (omega (arith, less)) | inr same ↦ inr (ap suc same) ]

-- what holds of the numbers below n, and of n
one_more : (P : ℕ → Type 0) (n : ℕ) → ((k : ℕ) → k < n → P k) → P n → (k : ℕ) → k < suc n → P k
one_more P n before own k lt =
    elim (below n k lt) [ inl less ↦ before k less | inr same ↦ subst P (sym same) own ]

-- a network of which neither is so
module _ (net : Net) (is : IsNet net) (none : (form : Items) → IsNested net form
    → ⊥) (free : (fault : NestFault) (r : Refusal) → HasCause net fault
    → nest_refusal net fault ≡ Some r → ⊥) where
  each_register : (n : ℕ) → n ≤ length net.regs.items → (RegistersMet net n → ⊥) → ⊥
  each_register zero le not_all = not_all (λ r lt. absurd (omega (arith, lt)))
  each_register (suc n) le not_all =
      each_register n (omega (arith, le)) (λ met. free (Unreached (Reg n)) _
      (omega (arith, le), met, λ own. not_all (one_more (λ r. IsMet net (Reg r)) n met own)) refl)

  each_mux : RegistersMet net (length net.regs.items) → (n : ℕ)
      → n ≤ length net.muxes.items → (MuxesMet net n → ⊥) → ⊥
  each_mux regs zero le not_all = not_all (λ m lt. absurd (omega (arith, lt)))
  each_mux regs (suc n) le not_all =
      each_mux regs n (omega (arith, le)) (λ met. free (Unreached (Mux n)) _
      (omega (arith, le), regs, met, λ own. not_all (one_more (λ m. IsMet net (Mux m)) n met own)) refl)

  module _ (form : Items) (d : Describes net form) where
    lawful_mux : (m : ℕ) → m < length net.muxes.items
        → ((j : ℕ) → j < m → IsLawfulMux net form j) → (IsLawfulMux net form m → ⊥) → ⊥
    lawful_mux m lt before not_lawful =
        let selects = selects_of net m in
        free (SelectInside m) _ (
          form,
          m,
          d,
          lt,
          before,
          (
            refl,
            λ outside.
                first_or_all (IsUnshared net) selects (λ unshared.
                first_or_all (DrivesNone net) selects (λ undriven.
                first_or_all (HasReset net) selects (λ resets.
                free (ResetUnlisted m) _ (
                  form,
                  m,
                  d,
                  lt,
                  before,
                  (
                    outside,
                    unshared,
                    undriven,
                    resets,
                    refl,
                    λ listed.
                        free (TooDeep m) _ (
                          form,
                          m,
                          d,
                          lt,
                          before,
                          (
                            outside,
                            unshared,
                            undriven,
                            resets,
                            listed,
                            refl,
                            λ shallow.
                                not_lawful (record {
                                  outside = outside;
                                  unshared = unshared;
                                  undriven =
                                      undriven;
                                  resets = resets;
                                  listed = listed;
                                  shallow = shallow;
                                }),
                          ),
                        ) refl,
                  ),
                ) refl)
                (λ n bit first. free (SelectNoReset bit) _ (
                  form,
                  m,
                  d,
                  lt,
                  before,
                  (outside, unshared, undriven, (n, first)),
                ) refl))
                (λ n bit first. first_or_all (IsUndriven bit) net.insts.items first.5 (λ inst i driven.
                free (SelectDrives bit inst) _ (
                  form,
                  m,
                  d,
                  lt,
                  before,
                  (outside, unshared, (n, first), (i, driven)),
                ) refl)))
                (λ n bit first. free (SelectShared bit) _
                (form, m, d, lt, before, (outside, (n, first))) refl),
          ),
        ) refl

    each_lawful : (n : ℕ) → n ≤ length net.muxes.items → (((j : ℕ) → j < n → IsLawfulMux net form j) → ⊥) → ⊥
    each_lawful zero le not_all = not_all (λ j lt. absurd (omega (arith, lt)))
    each_lawful (suc n) le not_all =
        each_lawful n (omega (arith, le)) (λ before. lawful_mux n (omega (arith, le)) before
        (λ own. not_all (one_more (IsLawfulMux net form) n before own)))

    no_form : ⊥
    no_form = each_lawful (length net.muxes.items) (omega arith)
        (λ lawful. none form (record { well_formed = is; describes = d; lawful = lawful }))

  neither : ⊥
  neither =
      each_register (length net.regs.items) (omega arith) (λ regs.
      each_mux regs (length net.muxes.items) (omega arith)
      (λ muxes. free NotNested _ ((regs, muxes), no_form) refl))

pub nested_total : (net : Net) → IsNet net → IsTotal (nested net)
unfolding nested
nested_total net is none free = neither net is none
    (λ fault r cause told. free r (fault, record { well_formed = is; cause = cause }, told))
