use Rattle.std.proofs.Common.{List, ℕ, Some, sym, ◌∙◌, subst}
use Rattle.svf_reader.specs.Answers.{Gives, part_value}
use Rattle.svf_reader.proofs.Lone.{digits_alone}
use Rattle.svf_reader.proofs.hex.text_part.Goals as goal

pub returns-then-all_hex : goal.returns-then-all_hex
returns-then-all_hex c =
    let alone = digits_alone c.args.text.now (sym c.all_hex.ensures ∙ c.if-all_hex.true) in
    subst (λ (digits : List ℕ). Gives (λ p. p) c.digits_part.result (part_value c.args.len (Some digits)))
    (sym alone) c.digits_part.ensures
