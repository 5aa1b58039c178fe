use Rattle.std.proofs.Common.{◌≡◌, length, length-append, arith, List, ℕ, sym, ap, ◌∙◌, map, None, [], ◌∷◌}
use Rattle.std.proofs.Common.{◌++◌}
use Rattle.std.specs.Map.{keys_of, values_of}
use Rattle.indexmap.specs.IndexMap.{keys}
use Rattle.ij_text.specs.Numbering.{number_in}
use Rattle.ij_text.proofs.Numbering.{absent, added, inserted, keys_more, values_more}
use Rattle.ij_text.proofs.names.Names.intern.Goals as goal

-- the name isn't there, so its entry is the last
abbrev Entered : goal.Joined-branch-4 → Type 0
Entered c =
    (number_in c.args.self.now c.args.name.now.items ≡ None)
    × (c.in_ok-key.key.items ≡ c.args.name.now.items)
    × (c.insert.new.self.entries ≡ c.self.inside.numbered.entries ++ (c.in_ok-key.key, c.from.result) ∷ [])

entered : (c : goal.Joined-branch-4) → Entered c
entered c =
    let none : number_in c.args.self.now c.args.name.now.items
    ≡ None = sym c.find.ensures.number ∙ c.in_default.is in
    let key : c.in_ok-key.key.items ≡ c.args.name.now.items =
    c.in_ok-key.ensures.items ∙ c.as_slice.ensures in
    let in_keys : number_in (map (λ k. k.items) (keys c.self.inside.numbered)) c.in_ok-key.key.items ≡ None =
    ap (number_in (map (λ k. k.items) (keys c.self.inside.numbered))) key
    ∙ ap (λ (names : List (List ℕ)). number_in names c.args.name.now.items) c.self.view_is ∙ none in (
      none,
      key,
      c.in_ok-insert.ensures.entries
          ∙ inserted (λ k. k.items) c.self.inside.numbered.entries c.in_ok-key.key c.from.result
          (absent c.in_ok-key.key.items (map (λ k. k.items) (keys c.self.inside.numbered)) in_keys),
    )

-- the names, with the new one
names_are : (c : goal.Joined-branch-4)
    → map (λ k. k.items) (keys_of c.insert.new.self.entries) ≡ c.args.self.now ++ c.args.name.now.items ∷ []
names_are c =
    let e = entered c in
    ap (λ es. map (λ (k : _). k.items) (keys_of es)) e.2
    ∙ keys_more (λ k. k.items) c.self.inside.numbered.entries c.in_ok-key.key c.from.result
    ∙ ap (λ (names : List (List ℕ)). names ++ c.in_ok-key.key.items ∷ []) c.self.view_is
    ∙ ap (λ (n : List ℕ). c.args.self.now ++ n ∷ []) e.1

pub invariant_of-self-2 : goal.invariant_of-self-2
invariant_of-self-2 c =
    let e = entered c in
    let value : c.from.result.items ≡ c.in_ok-key.key.items =
    c.from.ensures ∙ c.in_ok-copy.ensures.items ∙ c.as_slice-2.ensures ∙ sym e.1 in
    let long = ap length (names_are c) in
    let both = length-append c.args.self.now (c.args.name.now.items ∷ []) in (
      ap (λ es. map (λ (v : _). v.items) (values_of es)) e.2
          ∙ values_more (λ v. v.items) c.self.inside.numbered.entries c.in_ok-key.key c.from.result
          ∙ ap (λ (names : List (List ℕ)). names ++ c.from.result.items ∷ []) c.self.invariant.0
          ∙ ap (λ (n : List ℕ). map (λ k. k.items) (keys c.self.inside.numbered) ++ n ∷ []) value
          ∙ sym (keys_more (λ k. k.items) c.self.inside.numbered.entries c.in_ok-key.key c.from.result)
          ∙ sym (ap (λ es. map (λ (k : _). k.items) (keys_of es)) e.2),
      omega (arith, long, both, c.requires),
    )

pub returns-clause-names : goal.returns-clause-names
returns-clause-names c = names_are c ∙ added c.args.self.now c.args.name.now.items (entered c).0
