-- The commands that are read fit.
use Rattle.std.proofs.Common.{◌≡◌, ℕ, suc, ◌+◌, true, false, List, [], ◌∷◌, ◌++◌, length, refl, subst, Result}
use Rattle.std.proofs.Common.{Ok, Err}
use Rattle.svf_writer.specs.SeenCommands.{SeenCommand}
use Rattle.svf_writer.specs.Fits.{AreFitAfter}
use Rattle.svf_reader.specs.declared.so_far.ReadSoFar.{ReadSoFar}
use Rattle.svf_reader.specs.Texts.{words, texts, plain, blanks}
use Rattle.svf_reader.specs.Meaning.{Cause, Refusal, Step, at_first, read_command, listed, before, at_end}
use Rattle.svf_reader.specs.Meaning.{and_then, read_from, svf}
use Rattle.svf_reader.specs.Scripts.{ReadCommandsFit}
use Rattle.svf_reader.proofs.Few.{list_ok, same_list, no_list}
use Rattle.svf_reader.proofs.Fitting.{Follows, comes_follows}

-- after the scans that are kept
abbrev FitAfter : ReadSoFar → List SeenCommand → Type 0
FitAfter kept cs = AreFitAfter kept.ir kept.dr cs

none_fit : (kept : ReadSoFar) (cs : List SeenCommand) → list_ok [] ≡ list_ok cs → FitAfter kept cs
none_fit kept cs e = subst (FitAfter kept) (same_list [] cs e) tt

end_fit : (kept : ReadSoFar) (ws : List (List ℕ)) (r : Result Step Cause) (start : ℕ) (cs : List SeenCommand)
    → at_end ws r start ≡ Ok cs → FitAfter kept cs
end_fit kept [] r start cs e = none_fit kept cs e
end_fit kept (w ∷ ws) (Ok step) start cs e = none_fit kept cs e
end_fit kept (w ∷ ws) (Err cause) start cs e =
    no_list (record { cause = cause; start = start }) cs (FitAfter kept cs) e

front_fit : (kept : ReadSoFar) (step : Step) (q : Result (List SeenCommand) Refusal) (cs : List SeenCommand)
    → Follows kept step → ((ds : List SeenCommand) → q ≡ Ok ds → FitAfter step.1 ds)
    → before (listed step.0) q ≡ Ok cs → FitAfter kept cs
front_fit kept step (Ok ds) cs follows later e =
    subst (FitAfter kept) (same_list (listed step.0 ++ ds) cs e) (follows ds (later ds refl))
front_fit kept step (Err refusal) cs follows later e = no_list refusal cs (FitAfter kept cs) e

then_fit : (kept : ReadSoFar) (r : Result Step Cause) (start : ℕ) (next : ReadSoFar
    → Result (List SeenCommand) Refusal) (cs : List SeenCommand)
    → ((step : Step) → r ≡ Ok step → Follows kept step)
    → ((k : ReadSoFar) (ds : List SeenCommand) → next k ≡ Ok ds → FitAfter k ds)
    → and_then r start next ≡ Ok cs → FitAfter kept cs
then_fit kept (Ok step) start next cs follows later e =
    front_fit kept step (next step.1) cs (follows step refl) (λ ds is. later step.1 ds is) e
then_fit kept (Err cause) start next cs follows later e =
    no_list (record { cause = cause; start = start }) cs (FitAfter kept cs) e

read_fit : (ts : List (List ℕ)) (kept : ReadSoFar) (at : ℕ) (cs : List SeenCommand)
    → read_from kept at ts ≡ Ok cs → FitAfter kept cs
read_fit [] kept at cs e = none_fit kept cs e
read_fit (t ∷ []) kept at cs e = end_fit kept (words t) (read_command kept false t) (at + blanks t) cs e
read_fit (t ∷ (u ∷ us)) kept at cs e =
    then_fit kept (read_command kept true t) (at + blanks t) (λ next. read_from next (suc (at + length t))
    (u ∷ us)) cs (λ step is. comes_follows kept true t step is)
    (λ k ds is. read_fit (u ∷ us) k (suc (at + length t)) ds is) e

pub read_commands_fit : ReadCommandsFit
unfolding svf
read_commands_fit src cs e = read_fit (texts (plain src)) at_first 0 cs e
