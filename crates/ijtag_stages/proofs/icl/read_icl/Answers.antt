use Rattle.icl_lexer.specs.Views.{seen_design}
use Rattle.icl_lexer.specs.Seen.{HasTokens}
use Rattle.icl_lexer.specs.Modules.{design}
use Rattle.std.proofs.Common.{subst}
use Rattle.ijtag_stages.specs.IclText.{icl_tokens, icl_design}
use Rattle.icl_lexer.proofs.FewTokens.{few_tokens}
use Rattle.ijtag_stages.proofs.icl.read_icl.Goals as goal

pub returns-clause-written : goal.returns-clause-written
unfolding icl_tokens icl_design
returns-clause-written c =
    let text = c.args.text.now in
    let has : HasTokens text c.in_ok-tokens.tokens = c.in_ok-tokens.ensures in
    let few = few_tokens c.tokens_are_in_the_text.ensures text has.0 c.requires has.1 in
    c.designs_have_icl_names.ensures text has.0 (seen_design c.in_ok-design.design) has.1 few (subst
    (λ tokens. design.derives tokens (seen_design c.in_ok-design.design)) has.2 c.in_ok-design.ensures)
