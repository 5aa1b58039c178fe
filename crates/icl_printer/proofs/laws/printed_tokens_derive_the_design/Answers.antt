use Rattle.icl_printer.proofs.DesignLaws.{printed_tokens_derive_it}
use Rattle.icl_printer.proofs.laws.printed_tokens_derive_the_design.Goals as goal

pub returns : goal.returns
returns c = printed_tokens_derive_it
