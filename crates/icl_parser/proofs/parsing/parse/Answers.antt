use Rattle.std.proofs.Common.{◌-◌, List, drop, length, ap, subst, ◌∙◌}
use Rattle.icl_lexer.specs.Seen.{SeenToken}
use Rattle.icl_lexer.specs.Views.{seen_design}
use Rattle.icl_expressions.specs.Seen.{Fails}
use Rattle.icl_parser.specs.Reading.{whole_design}
use Rattle.icl_parser.proofs.Verdicts.{design_found, design_only, design_not, refused_at, on_refusal}
use Rattle.icl_parser.proofs.parsing.parse.Goals as goal

pub returns-in-Ok-clause-found : goal.returns-in-Ok-clause-found
returns-in-Ok-clause-found c =
    design_found c.args.tokens (seen_design (record { modules = c.in-Ok.modules })) c.in-Ok.ensures

pub returns-in-Ok-clause-only : goal.returns-in-Ok-clause-only
returns-in-Ok-clause-only c =
    λ d h. design_only c.args.tokens d (seen_design (record { modules = c.in-Ok.modules })) c.in-Ok.ensures h

pub returns-in_ok-fault-in-Err-At-clause-accepted : goal.returns-in_ok-fault-in-Err-At-clause-accepted
returns-in_ok-fault-in-Err-At-clause-accepted c = λ d k.
    let ts = c.args.tokens in
    let h = subst (λ s. Fails s (whole_design ts)) c.in-Err-At.field-0-is c.in-Err-At.ensures in
    absurd (design_not ts d (c.in-Err-At.left, c.in-Err-At.why) h k)

pub returns-in_ok-fault-in-Err-At-clause-refused : goal.returns-in_ok-fault-in-Err-At-clause-refused
returns-in_ok-fault-in-Err-At-clause-refused c =
    let ts = c.args.tokens in
    let h = subst (λ s. Fails s (whole_design ts)) c.in-Err-At.field-0-is c.in-Err-At.ensures in
    on_refusal c.args.src.now ts c.in_ok-fault-in-Err-At.field-0
    (refused_at c.args.src.now ts _ (c.in-Err-At.left, c.in-Err-At.why) c.in_ok-fault-in-Err-At.field-0 h
    (c.rest_of-rest.ensures ∙ ap (λ (l : List SeenToken). drop (length l - c.in-Err-At.left) l)
    c.again-start.ensures) c.in_ok-fault-in-Err-At.ensures)
