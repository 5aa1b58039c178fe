-- Where the loops that read factors and products begin; each round takes tokens.
use Rattle.std.proofs.Common.{◌≡◌, ℕ, false, List, Option, Ok, refl}
use Rattle.ij_text.specs.Reading.{read_repeat}
use Rattle.icl_lexer.specs.Seen.{SeenToken}
use Rattle.icl_lexer.specs.Grammar.{Counted, Signed, sum_sign, product_sign, factor, term, with_operand}
use Rattle.icl_expressions.specs.declared.stop.ReadStop.{ReadStop}
use Rattle.icl_expressions.specs.Seen.{Fails}
use Rattle.icl_expressions.specs.Reading.{Reading, Shrinks, is_sign, no_close, read_operand, read_chain}
use Rattle.icl_expressions.specs.Reading.{read_factor, read_term}
use Rattle.icl_expressions.proofs.Tokens.{nothing}
use Rattle.icl_expressions.proofs.Symbols.{operand_reads, factor_reads, term_reads, more_term, sum_apart}
use Rattle.icl_expressions.proofs.Steps.{Outcome, fails_on, reads_shrink}

module _ (head part : ℕ → Reading Counted) (sign : SeenToken → Option Signed) where
  abbrev others : Counted → List SeenToken → Outcome Counted
  others a ts = read_repeat (is_sign sign) (read_operand part sign) with_operand a ts

  pub chain_start : (used : ℕ) (ts : List SeenToken) (x : Counted × List SeenToken) → head used ts ≡ Ok x
      → others x.0 x.1 ≡ read_chain head part sign used ts
  unfolding read_chain
  chain_start used ts x e = rw e refl

  pub chain_fails : (used : ℕ) (ts : List SeenToken) (stop : ReadStop) → Fails stop (head used ts)
      → Fails stop (read_chain head part sign used ts)
  unfolding read_chain
  chain_fails used ts stop h = fails_on others stop (head used ts) h

-- what is read after a factor, or after a term
pub more_factor_shrinks : (depth : ℕ) (a : Counted)
    → Shrinks (read_operand (read_factor depth false) product_sign a)
more_factor_shrinks depth a = reads_shrink (operand_reads (factor depth false) (factor depth false)
    (read_factor depth false) (read_factor depth false) product_sign no_close nothing
    (factor_reads depth false) (factor_reads depth false) (λ t h. refl) a)

pub more_term_shrinks : (depth : ℕ) (a : Counted) → Shrinks (read_operand (read_term depth false) sum_sign a)
more_term_shrinks depth a = reads_shrink
    (operand_reads (term depth false) (term depth false) (read_term depth false) (read_term depth false)
    sum_sign no_close more_term (term_reads depth false) (term_reads depth false) sum_apart a)
