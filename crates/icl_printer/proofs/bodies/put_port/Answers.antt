use Rattle.std.specs.Option.{option_map}
use Rattle.icl_printer.specs.Canonical.{if_there, range_tokens, braced, property_tokens}
use Rattle.icl_lexer.specs.Views.{seen_prop, seen_range}
use Rattle.ij_io.proofs.Adding.{at_refusal}
use Rattle.std.proofs.Common.{◌∷◌, ◌++◌, List, ℕ, ap, sym}
use Rattle.ij_bits.specs.Room.{seen_list}
use Rattle.icl_printer.specs.Layout.{word}
use Rattle.icl_printer.proofs.Laid.{laid_both, laid_front, laid_then_part, part_as, whole_as}
use Rattle.icl_printer.proofs.bodies.put_port.Goals as goal

pub returns-in_err-put_named-clause-part : goal.returns-in_err-put_named-clause-part
returns-in_err-put_named-clause-part g c = at_refusal c.from_residual.result
    (part_as (ap (λ (w : List ℕ). word w ∷ (word c.args.name.now.items ∷ (if_there range_tokens (option_map
    seen_range c.args.range.now) ++ braced property_tokens (seen_list seen_prop c.args.props.now))))
    (sym c.word_of.ensures)) (laid_front _ _ c.in_err-put_named.ensures.part))

pub returns-in_err-put-clause-part : goal.returns-in_err-put-clause-part
returns-in_err-put-clause-part g c =
    at_refusal c.from_residual-in_err-put.result (part_as (ap (λ (w : List ℕ). word w
    ∷ (word c.args.name.now.items ∷ (if_there range_tokens (option_map seen_range c.args.range.now)
    ++ braced property_tokens (seen_list seen_prop c.args.props.now)))) (sym c.word_of.ensures))
    (laid_then_part _ _ c.in_ok-put_named.ensures.whole (laid_front _ _ c.in_err-put.ensures.part)))

pub returns-in_err-put_braced-clause-part : goal.returns-in_err-put_braced-clause-part
returns-in_err-put_braced-clause-part g c = at_refusal c.from_residual-in_err-put_braced.result
    (part_as (ap (λ (w : List ℕ). word w ∷ (word c.args.name.now.items ∷ (if_there range_tokens (option_map
    seen_range c.args.range.now) ++ braced property_tokens (seen_list seen_prop c.args.props.now))))
    (sym c.word_of.ensures)) (laid_then_part _ _ c.in_ok-put_named.ensures.whole
    (laid_then_part _ _ c.in_ok-put.ensures.whole c.in_err-put_braced.ensures.part)))

pub returns-clause-whole : goal.returns-clause-whole
returns-clause-whole g c = whole_as (ap (λ (w : List ℕ). word w
    ∷ (word c.args.name.now.items ∷ (if_there range_tokens (option_map seen_range c.args.range.now)
    ++ braced property_tokens (seen_list seen_prop c.args.props.now)))) (sym c.word_of.ensures))
    (laid_both _ _ c.in_ok-put_named.ensures.whole
    (laid_both _ _ c.in_ok-put.ensures.whole c.in_ok-put_braced.ensures.whole))
