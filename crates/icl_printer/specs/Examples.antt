-- Designs and their texts.
use Rattle.std.specs.Prelude.{◌≡◌, true, false, [], ◌∷◌, ◌++◌, Some, None, codes, refl}
use Rattle.icl_lexer.specs.declared.tree.PortKind.TheVariants.{ScanInPort}
use Rattle.icl_lexer.specs.declared.tree.Sign.TheVariants.{Plus, Minus, Times}
use Rattle.icl_lexer.specs.Values.{SeenExpr, ASized, AParam, AnOp, APath, SeenSig, AScanInSource}
use Rattle.icl_lexer.specs.Values.{ACaptureSource, APort, ARegister, AChild, AnInterface}
use Rattle.icl_printer.specs.Layout.{layout}
use Rattle.icl_printer.specs.Canonical.{formula_tokens, item_tokens, tokens_of, design_text}
use Rattle.ij_text.specs.Places.{no_place}

no_modules : design_text [] ≡ []
unfolding layout tokens_of
no_modules = refl

an_empty_body : design_text (record {
  name = codes "a";
  at = no_place;
  items = record { at = no_place; name = codes "SI"; what = APort ScanInPort None [] } ∷ [];
} ∷ [])
    ≡ codes "Module a {" ++ (10 ∷ codes "ScanInPort SI ;" ++ (10 ∷ codes "}" ++ (10 ∷ [])))
unfolding layout tokens_of
an_empty_body = refl

abbrev a : SeenExpr
a = AParam no_place (codes "a")

abbrev b : SeenExpr
b = AParam no_place (codes "b")

abbrev c : SeenExpr
c = AParam no_place (codes "c")

-- operators group from the left
from_the_left : layout (formula_tokens (AnOp no_place Minus (AnOp no_place Minus a b) c))
    ≡ codes "$a - $b - $c "
unfolding layout
from_the_left = refl

the_right_one : layout (formula_tokens (AnOp no_place Minus a (AnOp no_place Minus b c)))
    ≡ codes "$a - ( $b - $c ) "
unfolding layout
the_right_one = refl

a_sum_in_a_product : layout (formula_tokens (AnOp no_place Times (AnOp no_place Plus a b) c))
    ≡ codes "( $a + $b ) * $c "
unfolding layout
a_sum_in_a_product = refl

a_product_in_a_sum : layout (formula_tokens (AnOp no_place Plus a (AnOp no_place Times b c)))
    ≡ codes "$a + $b * $c "
unfolding layout
a_product_in_a_sum = refl

-- a sized number is alone in its expression
a_sized_operand : layout (formula_tokens (AnOp no_place Plus (ASized (codes "4'b1")) a))
    ≡ codes "( 4'b1 ) + $a "
unfolding layout
a_sized_operand = refl

no_bindings : layout (item_tokens (codes "net") (AChild (codes "Net") []))
    ≡ codes "Instance net Of Net ;" ++ (10 ∷ [])
unfolding layout
no_bindings = refl

no_ports : layout (item_tokens (codes "i") (AnInterface []))
    ≡ codes "ScanInterface i {" ++ (10 ∷ codes "}" ++ (10 ∷ []))
unfolding layout
no_ports = refl

abbrev q : SeenSig
q = record { at = no_place; inverted = false; what = APath (codes "ins" ∷ codes "q" ∷ []) None }

a_register : layout
    (item_tokens (codes "R") (ARegister (Some (record { at = no_place; left = a; right = Some b }))
    (AScanInSource q ∷ ACaptureSource (q ∷ record q { inverted = true } ∷ []) ∷ [])))
    ≡ codes "ScanRegister R [ $a : $b ] {" ++ (10 ∷ codes "ScanInSource ins . q ;"
    ++ (10 ∷ codes "CaptureSource ins . q , ~ ins . q ;" ++ (10 ∷ codes "}" ++ (10 ∷ []))))
unfolding layout
a_register = refl
