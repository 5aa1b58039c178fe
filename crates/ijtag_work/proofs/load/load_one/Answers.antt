use Rattle.std.specs.Prelude.{IfSome, Some, codes, length}
use Rattle.std.proofs.Common.{◌≡◌, ◌<◌, ◌≤◌, ◌∙◌, refl, rules, subst, ℕ, List, [], ◌∷◌, Option}
use Rattle.ij_io.specs.Files.{Files, bytes_of}
use Rattle.ijtag_work.specs.Loads.{Load}
use Rattle.ijtag_stages.specs.Follows.{IsToldAs}
use Rattle.ijtag_work.specs.Loads.{loaded_one}
use Rattle.ijtag_stages.specs.Refusals.{refused_name}
use Rattle.ijtag_work.specs.Seen.{seen_load}
use Rattle.ijtag_stages.specs.declared.refusal.Stage.TheVariants.{File}
use Rattle.ijtag_work.proofs.Loading.{told_stop}
use Rattle.ijtag_work.proofs.load.load_one.Goals as goal

pub returns-in-Ok-clause-follows : goal.returns-in-Ok-clause-follows
unfolding loaded_one
returns-in-Ok-clause-follows g c =
    let files : Option Files = g.S.Shelf.files c.args.shelf.now in
    let bytes : List ℕ = c.in-Ok.bytes.items in (
      subst (λ (n : ℕ). length bytes ≤ n) c.limit.ensures c.in-Ok.ensures.short,
      subst (λ (name : List ℕ). IfSome files (λ f. bytes ≡ bytes_of f name))
          c.name-name.ensures c.in-Ok.ensures.bytes,
    )

pub returns-in-Err-Long-clause-follows : goal.returns-in-Err-Long-clause-follows
unfolding loaded_one
returns-in-Err-Long-clause-follows g c =
    let files : Option Files = g.S.Shelf.files c.args.shelf.now in
    let load : Load = seen_load c.args.load.now in
    let name : c.as_bytes.result.now ≡ load.name = c.as_bytes.ensures.value ∙ c.name-name.ensures in
    let told : IsToldAs (Some (refused_name File (codes "Long") load.name)) c.refused_name-fault.result =
    subst (λ (n : List ℕ). IsToldAs (Some (refused_name File (codes "Long") n)) c.refused_name-fault.result)
    name c.refused_name-fault.ensures in
    let long = c.in-Err-Long.ensures.long (search rules) in
    told_stop files (load ∷ []) (g.S.Shelf.load_faults c.args.shelf.now)
    (g.S.Shelf.load_faults c.load.new.self) (loaded_one files load) (refused_name File
    (codes "Long") load.name) c.refused_name-fault.result c.from.result c.from.ensures told (
      refl,
      subst (λ (n : List ℕ). IfSome files (λ f. load.limit < length (bytes_of f n)))
          c.name-name.ensures (subst
          (λ (n : ℕ). IfSome files (λ f. n < length (bytes_of f c.name-name.result.now)))
          c.limit.ensures long),
    )
