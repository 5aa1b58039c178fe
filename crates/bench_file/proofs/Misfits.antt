-- Paths of another length, and instruments that fit.
use Rattle.std.proofs.Common.{◌≡◌, ◌<◌, ◌≤◌, ◌+◌, ℕ, suc, Bool, true, false, cond, List, [], ◌∷◌, length, map}
use Rattle.std.proofs.Common.{drop, get_or, Option, Some, None, refl, sym, ap, ◌∙◌, arith, drop-cons, add-one}
use Rattle.std.specs.Prelude.{◌&&◌, is_some, Result, Ok, Err}
use Rattle.std.specs.Str.{bytes_eq}
use Rattle.ij_bits.specs.Room.{Listed}
use Rattle.net_graph.specs.declared.net.Net.{Net}
use Rattle.net_graph.specs.declared.net.Inst.{Inst}
use Rattle.instruments.specs.Seen.{SeenModel}
use Rattle.bench_file.specs.declared.fault.FitsFault.{FitsFault}
use Rattle.bench_file.specs.declared.fault.FitsFault.TheVariants.{NoTable, ExtraTable, PortWidth}
use Rattle.table_file.specs.declared.table.Table.{Table}
use Rattle.table_file.specs.Tables.{SeenTable, same_path, seen_table}
use Rattle.bench_file.specs.Fits.{has_ports, with_ports_in_order, before, one_model, models_from}
use Rattle.bench_file.specs.Fits.{table_named, inst_path}
use Rattle.bench_file.specs.Fits.{misfit, inst_misfit, name_texts, names_one, extra}

and_false : (b : Bool) → (b && false) ≡ false
and_false true = refl
and_false false = refl

pub other_length : (xs ys : List (Listed ℕ)) → (length xs ≡ length ys → ⊥)
    → same_path (name_texts xs) (name_texts ys) ≡ false
other_length [] [] h = absurd (h refl)
other_length [] (y ∷ ys) h = refl
other_length (x ∷ xs) [] h = refl
other_length (x ∷ xs) (y ∷ ys) h = ap (λ b. bytes_eq x.items y.items && b)
    (other_length xs ys (λ e. h (ap suc e))) ∙ and_false (bytes_eq x.items y.items)

pub not_some : {A : Type 0} (o : Option A) → is_some o ≡ false → o ≡ None
not_some None h = refl
not_some (Some a) h = absurd cc

front_misfit : (m : SeenModel) (rest : Result (List SeenModel) FitsFault)
    → misfit (before m rest) ≡ misfit rest
front_misfit m (Ok ms) = refl
front_misfit m (Err f) = refl

fits_one : (i : ℕ) (m : SeenModel) (rest : Result (List SeenModel) FitsFault) (b : Bool)
    → cond b None (Some (PortWidth i)) ≡ None
    → misfit (cond b (before m rest) (Err (PortWidth i))) ≡ misfit rest
fits_one i m rest true h = front_misfit m rest
fits_one i m rest false h = absurd cc

one_fits : (i : ℕ) (inst : Inst) (o : Option SeenTable) (rest : Result (List SeenModel) FitsFault)
    → inst_misfit i inst o ≡ None → misfit (one_model i inst o rest) ≡ misfit rest
one_fits i inst None rest h = absurd cc
one_fits i inst (Some t) rest h = fits_one i (with_ports_in_order inst t.model) rest (has_ports inst
    t.model) h

pub one_more : (net : Net) (ts : List SeenTable) (i : ℕ) (insts : List Inst) (inst : Inst)
    → i < length insts → inst ≡ get_or insts i inst
    → inst_misfit i inst (table_named ts (inst_path net inst)) ≡ None
    → misfit (models_from net ts (i + 1) (drop (i + 1) insts))
    ≡ misfit (models_from net ts i (drop i insts))
one_more net ts i insts inst within is h =
    let next : i + 1 ≡ suc i = omega arith in
    let cut : drop i insts ≡ inst ∷ drop (suc i) insts =
    drop-cons insts i inst within ∙ ap (λ (x : Inst). x ∷ drop (suc i) insts) (sym is) in
    ap (λ k. misfit (models_from net ts k (drop k insts))) next
    ∙ sym (ap (λ (l : List Inst). misfit (models_from net ts i l)) cut ∙ one_fits i inst
    (table_named ts (inst_path net inst)) (models_from net ts (suc i) (drop (suc i) insts)) h)

no_fit : (i : ℕ) (m : SeenModel) (rest : Result (List SeenModel) FitsFault) (b : Bool)
    → is_some (cond b None (Some (PortWidth i))) ≡ true
    → misfit (cond b (before m rest) (Err (PortWidth i))) ≡ cond b None (Some (PortWidth i))
no_fit i m rest true h = absurd cc
no_fit i m rest false h = refl

one_fails : (i : ℕ) (inst : Inst) (o : Option SeenTable) (rest : Result (List SeenModel) FitsFault)
    → is_some (inst_misfit i inst o) ≡ true → misfit (one_model i inst o rest) ≡ inst_misfit i inst o
one_fails i inst None rest h = refl
one_fails i inst (Some t) rest h = no_fit i (with_ports_in_order inst t.model) rest (has_ports inst t.model) h

pub one_misfit : (net : Net) (ts : List SeenTable) (i : ℕ) (insts : List Inst) (inst : Inst)
    → i < length insts → inst ≡ get_or insts i inst → (fault : Option FitsFault)
    → fault ≡ inst_misfit i inst (table_named ts (inst_path net inst)) → is_some fault ≡ true
    → misfit (models_from net ts i (drop i insts)) ≡ fault
one_misfit net ts i insts inst within is fault h some =
    let cut : drop i insts ≡ inst ∷ drop (suc i) insts =
    drop-cons insts i inst within ∙ ap (λ (x : Inst). x ∷ drop (suc i) insts) (sym is) in
    ap (λ (l : List Inst). misfit (models_from net ts i l)) cut
    ∙ one_fails i inst (table_named ts (inst_path net inst))
    (models_from net ts (suc i) (drop (suc i) insts)) (ap is_some (sym h) ∙ some) ∙ sym h

-- ---- tables that name an instrument

cut_table : (ts : List Table) (i : ℕ) (t : Table) → i < length ts
    → t ≡ get_or ts i t → drop i ts ≡ t ∷ drop (suc i) ts
cut_table ts i t within is = drop-cons ts i t within ∙ ap (λ (x : Table). x ∷ drop (suc i) ts) (sym is)

pub one_named : (net : Net) (ts : List Table) (i : ℕ) (t : Table) → i < length ts → t ≡ get_or ts i t
    → names_one net net.insts.items (name_texts t.path.items) ≡ true
    → extra net (map seen_table (drop (i + 1) ts)) ≡ extra net (map seen_table (drop i ts))
one_named net ts i t within is named =
    let next : i + 1 ≡ suc i = omega arith in
    ap (λ k. extra net (map seen_table (drop k ts))) next
    ∙ sym (ap (λ (l : List Table). extra net (map seen_table l)) (cut_table ts i t within is)
    ∙ ap (λ b. cond b (extra net (map seen_table (drop (suc i) ts))) (Some (ExtraTable t.at))) named)

pub none_named : (net : Net) (ts : List Table) (i : ℕ) (t : Table) → i < length ts → t ≡ get_or ts i t
    → names_one net net.insts.items (name_texts t.path.items) ≡ false
    → extra net (map seen_table (drop i ts)) ≡ Some (ExtraTable t.at)
none_named net ts i t within is named =
    ap (λ (l : List Table). extra net (map seen_table l)) (cut_table ts i t within is)
    ∙ ap (λ b. cond b (extra net (map seen_table (drop (suc i) ts))) (Some (ExtraTable t.at))) named
