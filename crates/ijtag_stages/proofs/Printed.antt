-- The text of the arguments of a refusal, as they lie in memory and as they are seen.
use Rattle.std.specs.Prelude.{map, codes}
use Rattle.std.specs.List.{flat_map}
use Rattle.std.proofs.Common.{◌≡◌, ℕ, List, [], ◌∷◌, ◌++◌, refl, ap, ◌∙◌}
use Rattle.ijtag_stages.specs.Refusals.{arg_text, head_text, refusal_text}
use Rattle.ijtag_stages.specs.Seen.{seen_arg, seen_refusal}
use Rattle.ijtag_stages.specs.declared.refusal.Arg.{Arg as RustArg}
use Rattle.ijtag_stages.specs.declared.refusal.Refusal.{Refusal as RustRefusal}

args_seen : (args : List RustArg)
    → flat_map (λ arg. arg_text (seen_arg arg)) args ≡ flat_map arg_text (map seen_arg args)
args_seen [] = refl
args_seen (arg ∷ args) = ap (λ (text : List ℕ). arg_text (seen_arg arg) ++ text) (args_seen args)

-- the whole line
pub line_is : (r : RustRefusal) (args : List RustArg) → args ≡ r.args.items
    → head_text r.stage r.kind.now ++ (flat_map (λ arg. arg_text (seen_arg arg)) args ++ codes "\n")
    ≡ refusal_text (seen_refusal r)
line_is r args same =
    ap (λ (text : List ℕ). head_text r.stage r.kind.now ++ (text ++ codes "\n"))
    (ap (flat_map (λ (arg : RustArg). arg_text (seen_arg arg))) same ∙ args_seen r.args.items)
