use Rattle.std.proofs.Common.{◌≡◌, ◌+◌, ◌<◌, ◌≤◌, ◌∷◌, ◌++◌, ℕ, suc, List, length, drop, false, arith, ap}
use Rattle.std.proofs.Common.{sym, ◌∙◌}
use Rattle.std.proofs.lemmas.Bool.Decides.{nat_tests}
use Rattle.std.proofs.lemmas.List.{drop-drop}
use Rattle.svf_reader.specs.Texts.{plain, texts}
use Rattle.svf_reader.proofs.Cuts.{cut_is, last_is, whole_is}
use Rattle.svf_reader.proofs.reading.next_text.Goals as goal

pub returns-then-is_empty-clause-value : goal.returns-then-is_empty-clause-value
returns-then-is_empty-clause-value c =
    let none : length c.split_at.result.1.now ≡ 0 = grind (arith, nat_tests) in
    let all : c.long_run_len.result ≡ length c.args.text.now = omega (arith, c.split_at.ensures.back_len) in
    last_is false c.args.text.now (sym c.long_run_len.ensures.value ∙ all)

pub returns-clause-value : goal.returns-clause-value
returns-clause-value c =
    let text = c.args.text.now in
    let n = c.long_run_len.result in
    let some : 1 ≤ length c.split_at.result.1.now = grind (arith, nat_tests) in
    let within : n < length text = omega (arith, c.split_at.ensures.back_len) in
    let next : n + 1 ≡ suc n = omega arith in
    let rest : drop (suc n) text ≡ c.split_at-2.result.1.now = sym (c.split_at-2.ensures.back
    ∙ ap (drop 1) c.split_at.ensures.back ∙ drop-drop 1 n text ∙ ap (λ k. drop k text) next) in
    cut_is false text n (sym c.long_run_len.ensures.value) within
    ∙ ap (λ (t : List ℕ). plain t ∷ texts (plain (drop (suc n) text))) (sym c.split_at.ensures.front)
    ∙ ap (λ (r : List ℕ). plain c.split_at.result.0.now ∷ texts (plain r)) rest

pub returns-clause-whole : goal.returns-clause-whole
returns-clause-whole c =
    let text = c.args.text.now in
    let n = c.long_run_len.result in
    let some : 1 ≤ length c.split_at.result.1.now = grind (arith, nat_tests) in
    let within : n < length text = omega (arith, c.split_at.ensures.back_len) in
    let next : n + 1 ≡ suc n = omega arith in
    let rest : drop (suc n) text ≡ c.split_at-2.result.1.now = sym (c.split_at-2.ensures.back
    ∙ ap (drop 1) c.split_at.ensures.back ∙ drop-drop 1 n text ∙ ap (λ k. drop k text) next) in
    whole_is false text n (sym c.long_run_len.ensures.value) within
    ∙ ap (λ (t : List ℕ). t ++ 59 ∷ drop (suc n) text) (sym c.split_at.ensures.front)
    ∙ ap (λ (r : List ℕ). c.split_at.result.0.now ++ 59 ∷ r) rest
