use Rattle.std.proofs.Common.{subst}
use Rattle.icl_lexer.specs.Seen.{HasTokens}
use Rattle.icl_lexer.specs.Modules.{design}
use Rattle.icl_lexer.specs.Views.{seen_design}
use Rattle.icl_lexer.proofs.FewTokens.{few_tokens}
use Rattle.icl_tests.proofs.network_texts.design_of.Goals as goal

pub returns : goal.returns
returns c =
    let text = c.args.text.now in
    let has : HasTokens text c.in-Ok.tokens = c.in-Ok.ensures.tokens in
    let few = few_tokens c.tokens_are_in_the_text.ensures text has.0 c.requires has.1 in
    let modules = seen_design c.in-Ok-parse.design in
    record {
      written = c.designs_have_icl_names.ensures text has.0 modules has.1 few
          (subst (λ tokens. design.derives tokens modules) has.2 c.in-Ok-parse.ensures.found);
    }
