-- Models one after another.
use Rattle.std.proofs.Common.{◌≡◌, ◌<◌, ◌+◌, ℕ, suc, Bool, true, false, cond, List, [], ◌∷◌, ◌++◌, length}
use Rattle.std.proofs.Common.{map, drop, get_or, Option, Some, None, refl, sym, ap, ◌∙◌, append_assoc}
use Rattle.std.proofs.Common.{drop-cons}
use Rattle.std.specs.Prelude.{Result, Ok, Err}
use Rattle.net_graph.specs.declared.net.Net.{Net}
use Rattle.net_graph.specs.declared.net.Inst.{Inst}
use Rattle.instruments.specs.Seen.{SeenModel, seen_model}
use Rattle.instruments.specs.declared.model.Model.{Model}
use Rattle.bench_file.specs.declared.fault.FitsFault.{FitsFault}
use Rattle.bench_file.specs.declared.fault.FitsFault.TheVariants.{NoTable, ExtraTable, PortWidth, OutOfMemory}
use Rattle.table_file.specs.Tables.{SeenTable}
use Rattle.bench_file.specs.Answers.{FitsFails}
use Rattle.bench_file.specs.Fits.{has_ports, with_ports_in_order, before, one_model, model_for, models_from}
use Rattle.bench_file.specs.Fits.{table_named}
use Rattle.bench_file.specs.Fits.{inst_path, unless, misfit}

abbrev pub with_front : List SeenModel → Result (List SeenModel) FitsFault → Result (List SeenModel) FitsFault
with_front ms (Ok rest) = Ok (ms ++ rest)
with_front ms (Err fault) = Err fault

front_push : (ms : List SeenModel) (m : SeenModel) (r : Result (List SeenModel) FitsFault)
    → with_front (ms ++ m ∷ []) r ≡ with_front ms (before m r)
front_push ms m (Ok rest) = ap (λ l. Ok l) (append_assoc ms (m ∷ []) rest)
front_push ms m (Err fault) = refl

one_ok : (i : ℕ) (inst : Inst) (o : Option SeenTable) (rest : Result (List SeenModel) FitsFault)
    (m : SeenModel) → model_for i inst o ≡ Ok m → one_model i inst o rest ≡ before m rest
one_ok i inst None rest m is = absurd cc
one_ok i inst (Some t) rest m is = one (has_ports inst t.model) is
  where
    one : (b : Bool) → cond b (Ok (with_ports_in_order inst t.model)) (Err (PortWidth i)) ≡ Ok m
        → cond b (before (with_ports_in_order inst t.model) rest) (Err (PortWidth i)) ≡ before m rest
    one true is =
        ap (λ (r : Result SeenModel FitsFault). elim r [ Ok n ↦ before n rest | Err f ↦ before m rest ]) is
    one false is = absurd cc

one_err : (i : ℕ) (inst : Inst) (o : Option SeenTable) (rest : Result (List SeenModel) FitsFault)
    (fault : FitsFault) → model_for i inst o ≡ Err fault → one_model i inst o rest ≡ Err fault
one_err i inst None rest fault is =
    ap (λ (r : Result SeenModel FitsFault). elim r [ Ok n ↦ Err fault | Err f ↦ Err f ]) is
one_err i inst (Some t) rest fault is = one (has_ports inst t.model) is
  where
    one : (b : Bool) → cond b (Ok (with_ports_in_order inst t.model)) (Err (PortWidth i)) ≡ Err fault
        → cond b (before (with_ports_in_order inst t.model) rest) (Err (PortWidth i)) ≡ Err fault
    one true is = absurd cc
    one false is = ap (λ (r : Result SeenModel FitsFault). elim r [ Ok n ↦ Err fault | Err f ↦ Err f ]) is

module _ (net : Net) (ts : List SeenTable) (i : ℕ) (insts : List Inst) (inst : Inst)
    (within : i < length insts) (is : inst ≡ get_or insts i inst) where
  cut : models_from net ts i (drop i insts) ≡ one_model i inst (table_named ts (inst_path net inst))
      (models_from net ts (suc i) (drop (suc i) insts))
  cut = ap (models_from net ts i)
      (drop-cons insts i inst within ∙ ap (λ (x : Inst). x ∷ drop (suc i) insts) (sym is))

  pub one_more_model : (models : List Model) (m : Model) (s : ℕ) (o : Option SeenTable)
      (all : Result (List SeenModel) FitsFault) → s ≡ suc i → o ≡ table_named ts (inst_path net inst)
      → model_for i inst o ≡ Ok (seen_model m)
      → with_front (map seen_model models) (models_from net ts i (drop i insts)) ≡ all
      → with_front (map seen_model (models ++ m ∷ [])) (models_from net ts s (drop s insts)) ≡ all
  one_more_model models m s o all next found made so_far =
      let rest = models_from net ts (suc i) (drop (suc i) insts) in
      ap (λ (k : ℕ). with_front (map seen_model (models ++ m ∷ []))
      (models_from net ts k (drop k insts))) next
      ∙ ap (λ (l : List SeenModel). with_front l rest) (pushed models m)
      ∙ front_push (map seen_model models) (seen_model m) rest
      ∙ ap (with_front (map seen_model models))
      (sym (cut ∙ ap (λ (p : Option SeenTable). one_model i inst p rest) (sym found)
      ∙ one_ok i inst o rest (seen_model m) made))
      ∙ so_far
    where
      pushed : (models : List Model) (m : Model)
          → map seen_model (models ++ m ∷ []) ≡ map seen_model models ++ seen_model m ∷ []
      pushed [] m = refl
      pushed (x ∷ xs) m = ap (λ (l : List SeenModel). seen_model x ∷ l) (pushed xs m)

  fault_here : (models : List Model) (o : Option SeenTable) (all : Result (List SeenModel) FitsFault)
      (fault : FitsFault) → o ≡ table_named ts (inst_path net inst)
      → model_for i inst o ≡ Err fault
      → with_front (map seen_model models) (models_from net ts i (drop i insts)) ≡ all → all ≡ Err fault
  fault_here models o all fault found made so_far =
      let rest = models_from net ts (suc i) (drop (suc i) insts) in
      sym so_far ∙ ap (with_front (map seen_model models)) (cut ∙ ap
      (λ (p : Option SeenTable). one_model i inst p rest) (sym found) ∙ one_err i inst o rest fault made)

  pub fails_here : (models : List Model) (o : Option SeenTable) (all : Result (List SeenModel) FitsFault)
      (fault : FitsFault) → o ≡ table_named ts (inst_path net inst)
      → FitsFails fault (model_for i inst o)
      → with_front (map seen_model models) (models_from net ts i (drop i insts)) ≡ all
      → FitsFails fault all
  fails_here models o all OutOfMemory found made so_far = tt
  fails_here models o all (NoTable k) found made so_far =
      fault_here models o all (NoTable k) found made so_far
  fails_here models o all (ExtraTable at) found made so_far =
      fault_here models o all (ExtraTable at) found made so_far
  fails_here models o all (PortWidth k) found made so_far =
      fault_here models o all (PortWidth k) found made so_far

-- ---- tables without a fault

pub no_misfit : (a b : Option FitsFault) (r : Result (List SeenModel) FitsFault)
    → misfit (unless a (unless b r)) ≡ None → unless a (unless b r) ≡ r
no_misfit (Some fault) b r h = absurd cc
no_misfit None (Some fault) r h = absurd cc
no_misfit None None r h = refl
