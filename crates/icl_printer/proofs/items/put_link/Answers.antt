use Rattle.std.proofs.Common.{[]}
use Rattle.std.specs.Prelude.{codes}
use Rattle.icl_printer.specs.Layout.{mark}
use Rattle.icl_printer.specs.Canonical.{in_turn, instruction_tokens}
use Rattle.icl_lexer.specs.Views.{seen_instr}
use Rattle.ij_io.proofs.Adding.{at_refusal}
use Rattle.std.proofs.Common.{◌∷◌, ◌++◌, List, ℕ, ap, sym}
use Rattle.ij_bits.specs.Room.{seen_list}
use Rattle.icl_printer.specs.Layout.{word}
use Rattle.icl_printer.proofs.Laid.{laid_both, laid_front, laid_then_part, part_as, whole_as}
use Rattle.icl_printer.proofs.items.put_link.Goals as goal

pub returns-in_err-put_named-clause-part : goal.returns-in_err-put_named-clause-part
returns-in_err-put_named-clause-part g c =
    at_refusal c.from_residual.result (laid_front _ _ c.in_err-put_named.ensures.part)

pub returns-in_err-put_tokens-clause-part : goal.returns-in_err-put_tokens-clause-part
returns-in_err-put_tokens-clause-part g c = at_refusal c.from_residual-in_err-put_tokens.result
    (part_as (ap (λ (w : List ℕ). word (codes "AccessLink") ∷ word c.args.name.now.items ∷ word (codes "Of")
    ∷ word w ∷ mark 123 ∷ word (codes "BSDLEntity") ∷ word c.args.entity.now.items ∷ mark 59
    ∷ (in_turn instruction_tokens (seen_list seen_instr c.args.instrs.now) ++ (mark 125 ∷ [])))
    (sym c.standard_of.ensures))
    (laid_then_part _ _ c.in_ok-put_named.ensures.whole (laid_front _ _ c.in_err-put_tokens.ensures.part)))

pub returns-in_err-put_named-2-clause-part : goal.returns-in_err-put_named-2-clause-part
returns-in_err-put_named-2-clause-part g c = at_refusal c.from_residual-in_err-put_named-2.result
    (part_as (ap (λ (w : List ℕ). word (codes "AccessLink") ∷ word c.args.name.now.items ∷ word (codes "Of")
    ∷ word w ∷ mark 123 ∷ word (codes "BSDLEntity") ∷ word c.args.entity.now.items ∷ mark 59
    ∷ (in_turn instruction_tokens (seen_list seen_instr c.args.instrs.now) ++ (mark 125 ∷ [])))
    (sym c.standard_of.ensures)) (laid_then_part _ _ c.in_ok-put_named.ensures.whole
    (laid_then_part _ _ c.in_ok-put_tokens.ensures.whole (laid_front _ _ c.in_err-put_named-2.ensures.part))))

pub returns-in_err-put_tokens-2-clause-part : goal.returns-in_err-put_tokens-2-clause-part
returns-in_err-put_tokens-2-clause-part g c = at_refusal c.from_residual-in_err-put_tokens-2.result
    (part_as (ap (λ (w : List ℕ). word (codes "AccessLink") ∷ word c.args.name.now.items ∷ word (codes "Of")
    ∷ word w ∷ mark 123 ∷ word (codes "BSDLEntity") ∷ word c.args.entity.now.items ∷ mark 59
    ∷ (in_turn instruction_tokens (seen_list seen_instr c.args.instrs.now) ++ (mark 125 ∷ [])))
    (sym c.standard_of.ensures)) (laid_then_part _ _ c.in_ok-put_named.ensures.whole
    (laid_then_part _ _ c.in_ok-put_tokens.ensures.whole (laid_then_part _ _ c.in_ok-put_named-2.ensures.whole
    (laid_front _ _ c.in_err-put_tokens-2.ensures.part)))))

pub returns-in_err-put_all-clause-part : goal.returns-in_err-put_all-clause-part
returns-in_err-put_all-clause-part g c = at_refusal c.from_residual-in_err-put_all.result
    (part_as (ap (λ (w : List ℕ). word (codes "AccessLink") ∷ word c.args.name.now.items ∷ word (codes "Of")
    ∷ word w ∷ mark 123 ∷ word (codes "BSDLEntity") ∷ word c.args.entity.now.items ∷ mark 59
    ∷ (in_turn instruction_tokens (seen_list seen_instr c.args.instrs.now) ++ (mark 125 ∷ [])))
    (sym c.standard_of.ensures)) (laid_then_part _ _ c.in_ok-put_named.ensures.whole
    (laid_then_part _ _ c.in_ok-put_tokens.ensures.whole (laid_then_part _ _ c.in_ok-put_named-2.ensures.whole
    (laid_then_part _ _ c.in_ok-put_tokens-2.ensures.whole (laid_front _ _ c.in_err-put_all.ensures.part))))))

pub returns-in_err-put_tokens-3-clause-part : goal.returns-in_err-put_tokens-3-clause-part
returns-in_err-put_tokens-3-clause-part g c = at_refusal c.from_residual-in_err-put_tokens-3.result
    (part_as (ap (λ (w : List ℕ). word (codes "AccessLink") ∷ word c.args.name.now.items ∷ word (codes "Of")
    ∷ word w ∷ mark 123 ∷ word (codes "BSDLEntity") ∷ word c.args.entity.now.items ∷ mark 59
    ∷ (in_turn instruction_tokens (seen_list seen_instr c.args.instrs.now) ++ (mark 125 ∷ [])))
    (sym c.standard_of.ensures)) (laid_then_part _ _ c.in_ok-put_named.ensures.whole
    (laid_then_part _ _ c.in_ok-put_tokens.ensures.whole (laid_then_part _ _ c.in_ok-put_named-2.ensures.whole
    (laid_then_part _ _ c.in_ok-put_tokens-2.ensures.whole
    (laid_then_part _ _ c.in_ok-put_all.ensures.whole c.in_err-put_tokens-3.ensures.part))))))

pub returns-clause-whole : goal.returns-clause-whole
returns-clause-whole g c =
    whole_as (ap (λ (w : List ℕ). word (codes "AccessLink") ∷ word c.args.name.now.items ∷ word (codes "Of")
    ∷ word w ∷ mark 123 ∷ word (codes "BSDLEntity") ∷ word c.args.entity.now.items ∷ mark 59
    ∷ (in_turn instruction_tokens (seen_list seen_instr c.args.instrs.now) ++ (mark 125 ∷ [])))
    (sym c.standard_of.ensures))
    (laid_both _ _ c.in_ok-put_named.ensures.whole (laid_both _ _ c.in_ok-put_tokens.ensures.whole
    (laid_both _ _ c.in_ok-put_named-2.ensures.whole (laid_both _ _ c.in_ok-put_tokens-2.ensures.whole
    (laid_both _ _ c.in_ok-put_all.ensures.whole c.in_ok-put_tokens-3.ensures.whole)))))
