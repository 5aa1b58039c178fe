use Rattle.std.specs.Prelude.{Some, codes}
use Rattle.std.proofs.Common.{◌≡◌, ◌<◌, ◌∙◌, refl, subst, arith, ℕ, List, length}
use Rattle.ijtag_stages.specs.Follows.{IsToldAs}
use Rattle.ijtag_stages.specs.Refusals.{refused_name}
use Rattle.ijtag_stages.specs.declared.refusal.Stage.TheVariants.{File}
use Rattle.ijtag_stages.proofs.Faults.{told_one}
use Rattle.ijtag_work.specs.Leaves.{Written}
use Rattle.ijtag_work.specs.Order.{taken_one}
use Rattle.ijtag_core.specs.Files.{seen_file}
use Rattle.ijtag_core.proofs.made_files.check_length.Goals as goal

pub returns-then-file : goal.returns-then-file
unfolding taken_one
returns-then-file c =
    let w : Written = seen_file c.args.file.now in
    let named : c.as_bytes.result.now ≡ w.name = c.as_bytes.ensures.value ∙ c.in_ok-name.ensures in
    let told : IsToldAs (Some (refused_name File (codes "Long") w.name)) c.refused_name.result =
    subst (λ (n : List ℕ). IsToldAs (Some (refused_name File (codes "Long") n)) c.refused_name.result)
    named c.refused_name.ensures in
    let long : 16777216 < length w.bytes = omega arith in
    told_one (taken_one w) (refused_name File (codes "Long") w.name) c.refused_name.result told (long, refl)
