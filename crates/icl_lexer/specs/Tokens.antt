-- The decimals of tokens, and the words of ICL that this compiler leaves out.
use Rattle.std.specs.Prelude.{ℕ, Bool, List, [], ◌∷◌, Option, None, codes}
use Rattle.ij_text.specs.Numbers.{decimal_from, small}
use Rattle.ij_text.specs.Words.{is_one_of}
use Rattle.icl_lexer.specs.declared.token.TokenKind.{TokenKind}
use Rattle.icl_lexer.specs.declared.token.TokenKind.TheVariants.{Word, Decimal, Sized, Quoted, Param, Mark}

-- ---- decimals

abbrev pub decimal_of : List ℕ → Option ℕ
decimal_of text = small (decimal_from 0 text)

abbrev pub decimal_at : TokenKind → List ℕ → Option ℕ
decimal_at Decimal text = decimal_of text
decimal_at Word text = None
decimal_at Sized text = None
decimal_at Quoted text = None
decimal_at Param text = None
decimal_at Mark text = None

-- ---- words of ICL that this compiler leaves out

unfoldable pub is_left_out : List ℕ → Bool
is_left_out text =
    is_one_of (codes "DataRegister" ∷ codes "DataMux" ∷ codes "ClockMux" ∷ codes "LogicSignal"
    ∷ codes "OneHotScanGroup" ∷ codes "OneHotDataGroup"
    ∷ codes "NameSpace" ∷ codes "UseNameSpace" ∷ codes "AddressPort" ∷ codes "WriteEnPort"
    ∷ codes "ReadEnPort" ∷ codes "Chain" ∷ []) text
