use Rattle.std.proofs.Common.{ℕ, List, ap, ◌∙◌, map, subst}
use Rattle.icl_declarations.specs.Faults.{Gives}
use Rattle.icl_declarations.specs.Naming.{distinct}
use Rattle.icl_declarations.proofs.InnerNames.{word_names, instr_names}
use Rattle.ij_text.specs.Options.{same}
use Rattle.icl_declarations.proofs.naming.check_inner_names.Goals as goal

pub returns-in-Words : goal.returns-in-Words
returns-in-Words c =
    let e = ap (map (λ w. w.name.items)) c.as_slice.ensures ∙ word_names c.in-Words.words.items in
    rw c.in-Words.is (subst (λ (names : List (List ℕ)). Gives (same {X = Unit {0}})
    c.check_words_differ.result
    (distinct c.args.item.now.at names)) e c.check_words_differ.ensures)

pub returns-in-Link : goal.returns-in-Link
returns-in-Link c =
    let e = ap (map (λ i. i.name.items)) c.as_slice-in-Link.ensures ∙ instr_names c.in-Link.instrs.items in
    rw c.in-Link.is (subst (λ (names : List (List ℕ)). Gives (same {X = Unit {0}})
    c.check_instrs_differ.result
    (distinct c.args.item.now.at names)) e c.check_instrs_differ.ensures)
