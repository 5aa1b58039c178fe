use Rattle.std.proofs.Common.{refl, sym, ap, ◌∙◌, subst, length, ℕ, List}
use Rattle.net_graph.specs.Chain.{IsRoute}
use Rattle.mux_test.specs.Judged.{verdict_of}
use Rattle.mux_test.proofs.Judged.{path_short}
use Rattle.mux_test.proofs.Parts.{other_part, own_part, part_verdict}
use Rattle.mux_test.proofs.judge.Judge.verdict_at_join.Goals as goal

pub verdict_of-requires-clause-own : goal.verdict_of-requires-clause-own
verdict_of-requires-clause-own c =
    let net = c.args.net.now in
    let h = c.args.holds.now in
    let d = c.if-find.ensures.joins refl in
    subst (λ (p : List ℕ). IsRoute (length h) p) (sym c.as_slice.ensures) (own_part net h c.args.row
    c.find.new.self.own.items c.find.new.self.other.items d c.requires.well_formed c.requires.holds)

pub verdict_of-requires-clause-other : goal.verdict_of-requires-clause-other
verdict_of-requires-clause-other c =
    let net = c.args.net.now in
    let h = c.args.holds.now in
    let d = c.if-find.ensures.joins refl in
    subst (λ (p : List ℕ). IsRoute (length h) p) (sym c.as_slice-then-find.ensures)
    (other_part net h c.args.row c.find.new.self.own.items c.find.new.self.other.items d
    c.requires.well_formed c.requires.holds)

pub verdict_of-requires-clause-few_own : goal.verdict_of-requires-clause-few_own
verdict_of-requires-clause-few_own c =
    let net = c.args.net.now in
    let h = c.args.holds.now in
    let d = c.if-find.ensures.joins refl in
    path_short net c.as_slice.result.now h c.requires.well_formed c.requires.holds
    (subst (λ (p : List ℕ). IsRoute (length h) p) (sym c.as_slice.ensures) (own_part net h c.args.row
    c.find.new.self.own.items c.find.new.self.other.items d c.requires.well_formed c.requires.holds))

pub verdict_of-requires-clause-few_other : goal.verdict_of-requires-clause-few_other
verdict_of-requires-clause-few_other c =
    let net = c.args.net.now in
    let h = c.args.holds.now in
    let d = c.if-find.ensures.joins refl in
    path_short net c.as_slice-then-find.result.now h c.requires.well_formed c.requires.holds (subst
    (λ (p : List ℕ). IsRoute (length h) p) (sym c.as_slice-then-find.ensures) (other_part net h c.args.row
    c.find.new.self.own.items c.find.new.self.other.items d c.requires.well_formed c.requires.holds))

pub returns-then-find-clause-verdict : goal.returns-then-find-clause-verdict
returns-then-find-clause-verdict c =
    let net = c.args.net.now in
    let h = c.args.holds.now in
    let d = c.if-find.ensures.joins refl in
    c.verdict_of.ensures
    ∙ ap (λ (p : List ℕ). verdict_of h p c.as_slice-then-find.result.now) c.as_slice.ensures
    ∙ ap (λ (p : List ℕ). verdict_of h c.find.new.self.own.items p) c.as_slice-then-find.ensures
    ∙ part_verdict net h c.args.row c.find.new.self.own.items c.find.new.self.other.items d
