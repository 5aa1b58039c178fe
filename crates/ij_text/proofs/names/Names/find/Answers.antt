use Rattle.std.proofs.Common.{List, ℕ, ap, subst, ◌∙◌, map}
use Rattle.std.specs.Str.{bytes_eq}
use Rattle.indexmap.specs.IndexMap.{keys}
use Rattle.ij_text.specs.Numbering.{AreDistinct, number_in}
use Rattle.ij_text.proofs.Numbering.{position_map, distinct}
use Rattle.ij_text.proofs.names.Names.find.Goals as goal

pub returns-in-Some-clause-number : goal.returns-in-Some-clause-number
returns-in-Some-clause-number c =
    c.in-Some.ensures.index
    ∙ position_map (λ k. k.items) (bytes_eq c.as_slice.result.now) (keys c.self.inside.numbered)
    ∙ ap (λ (n : List ℕ). number_in (map (λ k. k.items) (keys c.self.inside.numbered)) n) c.as_slice.ensures
    ∙ ap (λ (names : List (List ℕ)). number_in names c.args.name.now.items) c.self.view_is

pub returns-in-Some-clause-distinct : goal.returns-in-Some-clause-distinct
returns-in-Some-clause-distinct c = subst AreDistinct c.self.view_is
    (distinct (λ k. k.items) (keys c.self.inside.numbered) c.get_index_of.ensures.unique)

pub returns-in-None-clause-number : goal.returns-in-None-clause-number
returns-in-None-clause-number c =
    c.in-None.ensures.index
    ∙ position_map (λ k. k.items) (bytes_eq c.as_slice.result.now) (keys c.self.inside.numbered)
    ∙ ap (λ (n : List ℕ). number_in (map (λ k. k.items) (keys c.self.inside.numbered)) n) c.as_slice.ensures
    ∙ ap (λ (names : List (List ℕ)). number_in names c.args.name.now.items) c.self.view_is

pub returns-in-None-clause-distinct : goal.returns-in-None-clause-distinct
returns-in-None-clause-distinct c = subst AreDistinct c.self.view_is
    (distinct (λ k. k.items) (keys c.self.inside.numbered) c.get_index_of.ensures.unique)
