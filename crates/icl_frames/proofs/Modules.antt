-- The modules that were passed, one more of them.
use Rattle.std.proofs.Common.{◌≡◌, ◌+◌, ◌<◌, ℕ, Bool, true, false, cond, List, [], ◌∷◌, ◌++◌, length, map}
use Rattle.std.proofs.Common.{get_or, take, drop, Some, None, Ok, refl, ap, ◌∙◌}
use Rattle.std.specs.Prelude.{is_some, ◌||◌}
use Rattle.std.specs.Str.{bytes_eq}
use Rattle.icl_lexer.specs.declared.tree.Module.{Module}
use Rattle.icl_lexer.specs.Values.{SeenModule}
use Rattle.icl_lexer.specs.Views.{seen_module}
use Rattle.icl_declarations.specs.Faults.{over}
use Rattle.icl_declarations.proofs.Each.{over_goes}
use Rattle.icl_declarations.specs.Parts.{block_named}
use Rattle.icl_frames.specs.FirstPass.{with_block}
use Rattle.icl_frames.proofs.Passing.{taken_more}

pub named_more : (bs : List SeenModule) (b : SeenModule) (n : List ℕ)
    → is_some (block_named (bs ++ b ∷ []) n) ≡ (is_some (block_named bs n) || bytes_eq n b.name)
named_more [] b n = by_test (bytes_eq n b.name)
  where
    by_test : (t : Bool) → is_some (cond t (Some b) None) ≡ t
    by_test true = refl
    by_test false = refl
named_more (x ∷ bs) b n = by_test (bytes_eq n x.name) (named_more bs b n)
  where
    by_test : (t : Bool) → is_some (block_named (bs ++ b ∷ []) n)
        ≡ (is_some (block_named bs n) || bytes_eq n b.name)
        → is_some (cond t (Some x) (block_named (bs ++ b ∷ []) n))
        ≡ (is_some (cond t (Some x) (block_named bs n)) || bytes_eq n b.name)
    by_test true h = refl
    by_test false h = h

new_name : (before : List SeenModule) (b : SeenModule) → is_some (block_named before b.name) ≡ false
    → with_block before b ≡ Ok (before ++ b ∷ [])
new_name before b h = rw h refl

pub name_passed : (modules : List Module) (i : ℕ) (x : Module)
    → i < length modules → x ≡ get_or modules i x → (n : List ℕ)
    → is_some (block_named (map seen_module (take (i + 1) modules)) n)
    ≡ (is_some (block_named (map seen_module (take i modules)) n) || bytes_eq n x.name.items)
name_passed modules i x lt e n =
    ap (λ (l : List SeenModule). is_some (block_named l n)) (taken_more seen_module modules i x lt e)
    ∙ named_more (map seen_module (take i modules)) (seen_module x) n

pub module_passed : (modules : List Module) (i : ℕ) (x : Module) → i < length modules → x ≡ get_or modules i x
    → is_some (block_named (map seen_module (take i modules)) x.name.items) ≡ false
    → over with_block (map seen_module (take (i + 1) modules)) (map seen_module (drop (i + 1) modules))
    ≡ over with_block (map seen_module (take i modules)) (map seen_module (drop i modules))
module_passed modules i x lt e new =
    ap (λ (l : List SeenModule). over with_block l (map seen_module (drop (i + 1) modules)))
    (taken_more seen_module modules i x lt e)
    ∙ over_goes seen_module with_block modules i x (map seen_module (take i modules))
    (map seen_module (take i modules) ++ seen_module x ∷ []) lt e
    (new_name (map seen_module (take i modules)) (seen_module x) new)
