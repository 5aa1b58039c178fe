use Rattle.std.specs.Prelude.{Some, codes}
use Rattle.std.proofs.Common.{◌≡◌, ◌⊎◌, ◌<◌, ◌∙◌, ap, refl, rules, subst, ℕ, List, [], ◌∷◌}
use Rattle.ijtag_stages.specs.Follows.{IsToldAs}
use Rattle.ijtag_stages.specs.Refusals.{refused_number}
use Rattle.ijtag_stages.specs.declared.refusal.Stage.TheVariants.{Make as MakeStage}
use Rattle.ijtag_stages.proofs.Faults.{told_one}
use Rattle.ijtag_work.specs.Command.{Make, made_names}
use Rattle.ijtag_work.specs.Order.{made_files, written_as}
use Rattle.ijtag_work.specs.Words.{seen_make}
use Rattle.ijtag_core.proofs.made_design.make_design.Goals as goal

-- four files have the same texts
same_texts : (stem : List ℕ) (icl pdl device tables icl' pdl' device' tables' : List ℕ) → icl ≡ icl'
    → pdl ≡ pdl' → device ≡ device' → tables ≡ tables'
    → written_as (made_names stem) (icl ∷ pdl ∷ device ∷ tables ∷ [])
    ≡ written_as (made_names stem) (icl' ∷ pdl' ∷ device' ∷ tables' ∷ [])
same_texts stem icl pdl device tables icl' pdl' device' tables' i p d t =
    ap (λ (x : List ℕ). written_as (made_names stem) (x ∷ pdl ∷ device ∷ tables ∷ [])) i
    ∙ ap (λ (x : List ℕ). written_as (made_names stem) (icl' ∷ x ∷ device ∷ tables ∷ [])) p
    ∙ ap (λ (x : List ℕ). written_as (made_names stem) (icl' ∷ pdl' ∷ x ∷ tables ∷ [])) d
    ∙ ap (λ (x : List ℕ). written_as (made_names stem) (icl' ∷ pdl' ∷ device' ∷ x ∷ [])) t

pub returns-in-Ok : goal.returns-in-Ok
unfolding made_files
returns-in-Ok c = (
  c.in-Ok.ensures.sized.0,
  c.in-Ok.ensures.sized.1,
  same_texts c.args.words.now.stem.now _ _ _ _ _ _ _ _ c.in-Ok.ensures.icl c.in-Ok.ensures.pdl
      c.in-Ok.ensures.device c.in-Ok.ensures.tables,
)

pub returns-in-Err-BadSize : goal.returns-in-Err-BadSize
unfolding made_files
returns-in-Err-BadSize c =
    let m : Make = seen_make c.args.words.now in
    let bad : (c.in-Err-BadSize.size ≡ m.size) × ((m.size < 1) ⊎ (64 < m.size)) =
    c.in-Err-BadSize.ensures.cause c.in-Err-BadSize.size (search rules) in
    let told : IsToldAs (Some (refused_number MakeStage (codes "BadSize") m.size)) c.refused_number.result =
    subst (λ (n : ℕ). IsToldAs (Some (refused_number MakeStage (codes "BadSize") n)) c.refused_number.result)
    bad.0 c.refused_number.ensures in
    told_one (made_files m) (refused_number MakeStage (codes "BadSize") m.size)
    c.refused_number.result told (bad.1, refl)
