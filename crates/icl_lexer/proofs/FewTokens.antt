-- A text has no more tokens than bytes.
use Rattle.std.proofs.Common.{◌<◌, ◌≤◌, ◌+◌, ◌^◌, ℕ, List, [], ◌∷◌, length, arith}
use Rattle.icl_lexer.specs.Cutting.{AreTokens}
use Rattle.icl_lexer.specs.Laws.{AreInText, TokensAreInText}
use Rattle.icl_lexer.specs.Token.{Token}

few_in : (text : List ℕ) (from : ℕ) (tokens : List Token)
    → AreInText text from tokens → from + length tokens ≤ length text
few_in text from [] h = omega (arith, h)
few_in text from (t ∷ ts) (after, some, within, at, kind, rest) =
    let few = few_in text t.end ts rest in omega (arith, after, some, few)

pub few_tokens : TokensAreInText → (text : List ℕ) (tokens : List Token) → length text ≤ 134217728
    → AreTokens text tokens → length tokens < 2 ^ 32
few_tokens law text tokens short are =
    let few = few_in text 0 tokens (law text tokens are) in omega (arith, short, few)
