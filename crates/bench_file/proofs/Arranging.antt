-- Models in the order of their instruments are well formed.
use Rattle.std.proofs.Common.{◌≡◌, ◌≢◌, ℕ, zero, suc, ◌+◌, ◌-◌, ◌<◌, Bool, true, false, cond, List, [], ◌∷◌}
use Rattle.std.proofs.Common.{◌++◌, length, map, Option, Some, None, All, get_or, refl, ap, sym, ◌∙◌, subst}
use Rattle.std.proofs.Common.{arith}
use Rattle.std.specs.Prelude.{◌==◌, ◌||◌, Contains, IfSome, IfOk, unwrap_or, Result, Ok, Err, codes, decimal}
use Rattle.std.specs.List.{list_all}
use Rattle.std.specs.Str.{bytes_eq}
use Rattle.std.proofs.lemmas.Bool.{eqb-true, and_parts}
use Rattle.std.proofs.lemmas.List.{length-map, get_or-map}
use Rattle.std.proofs.lemmas.List.Elements.{All-nil, All-cons, All-head, All-tail, All-map, All-contains}
use Rattle.std.proofs.lemmas.List.Elements.{Contains-get_or}
use Rattle.std.proofs.lemmas.Slice.Eq.{bytes_eq-Decides}
use Rattle.ij_bits.specs.Different.{AreDifferent}
use Rattle.net_graph.specs.declared.net.Net.{Net}
use Rattle.net_graph.specs.declared.net.Inst.{Inst}
use Rattle.net_graph.specs.declared.net.PortIn.{PortIn}
use Rattle.net_graph.specs.declared.net.PortOut.{PortOut}
use Rattle.net_graph.specs.Nets.{IsInst, IsNet}
use Rattle.instruments.specs.declared.model.Cond.{Cond}
use Rattle.instruments.specs.declared.model.Operand.{Operand}
use Rattle.instruments.specs.declared.model.Operand.TheVariants.{Word, Input, Old}
use Rattle.instruments.specs.declared.model.Slot.{Slot}
use Rattle.instruments.specs.declared.model.Slot.TheVariants.{Word as TheWord, Entry as TheEntry}
use Rattle.instruments.specs.declared.model.Amount.{Amount}
use Rattle.instruments.specs.declared.model.Amount.TheVariants.{Number, Copy, Plus, Minus, Entry}
use Rattle.instruments.specs.declared.model.Set.{Set}
use Rattle.instruments.specs.Seen.{SeenPort, SeenOut, SeenRow, SeenModel, seen_model}
use Rattle.instruments.specs.After.{width_of}
use Rattle.instruments.specs.Models.{IsWidth, IsBelow, IsOut, IsOperand, IsPresent, IsCond, IsSource, IsIndex}
use Rattle.instruments.specs.Models.{IsAmount, IsSlot, IsNoCopy, IsSet, IsRow, IsRunRow, IsModel}
use Rattle.instruments.specs.Models.{memory_names, names, operand_width, target}
use Rattle.instruments.specs.declared.model.Model.{Model}
use Rattle.table_file.specs.declared.table.Table.{Table}
use Rattle.table_file.specs.Tables.{SeenTable, seen_table, named, same_path}
use Rattle.bench_file.specs.declared.fault.FitsFault.{FitsFault}
use Rattle.bench_file.specs.declared.fault.FitsFault.TheVariants.{PortWidth}
use Rattle.bench_file.specs.Fits.{in_port, out_port, in_ports, out_ports, model_out_port, model_out_ports}
use Rattle.bench_file.specs.Fits.{same_port, among, same_ports, has_ports, ModelFits, EachFits, ModelsFit}
use Rattle.bench_file.specs.Fits.{input_names, moved, operand_moved, cond_moved, slot_moved, amount_moved}
use Rattle.bench_file.specs.Fits.{set_moved, row_moved, no_out, out_named, with_ports_in_order, table_named}
use Rattle.bench_file.specs.Fits.{inst_path}
use Rattle.bench_file.specs.Fits.{before, one_model, models_from, unless, missing, extra, fitted, misfit}
use Rattle.bench_file.specs.Fits.{FittedModelsFit, RowsSayTheSame}
use Rattle.bench_file.specs.Written.{line, parted, memory_name, operand_text, entry_text, compared_text}
use Rattle.bench_file.specs.Written.{cond_text, slot_text, amount_text, set_text, when_text, row_text}
use Rattle.bench_file.proofs.Modelling.{no_misfit}
use Rattle.bench_file.proofs.Places.{IsAt, place, second_apart, not_both}
use Rattle.ij_bits.proofs.Contained.{all_contained, map_in}
use Rattle.ij_bits.proofs.Different.{different_more}

-- ---- ports that both have

port_is : (x y : SeenPort) → same_port x y ≡ true → y ≡ x
port_is x y h =
    let name =
    (bytes_eq-Decides x.name y.name).0 (and_parts (bytes_eq x.name y.name) (x.width == y.width) h).0 in
    let width = eqb-true x.width y.width (and_parts (bytes_eq x.name y.name) (x.width == y.width) h).1 in
    ap (λ (n : List ℕ). record { name = n; width = y.width }) (sym name)
    ∙ ap (λ (w : ℕ). record { name = x.name; width = w }) (sym width)

one_among : (y : SeenPort) (ys : List SeenPort) (x : SeenPort) → (among ys x ≡ true → Contains ys x)
    → (b : Bool) → same_port x y ≡ b → (b || among ys x) ≡ true → Contains (y ∷ ys) x
one_among y ys x rest true same h = (zero, omega arith, port_is x y same)
one_among y ys x rest false other h =
    let (k, lt, e) = rest h in
    (suc k, omega (arith, lt), e)

is_among : (ys : List SeenPort) (x : SeenPort) → among ys x ≡ true → Contains ys x
is_among [] x h = absurd cc
is_among (y ∷ ys) x h = one_among y ys x (λ k. is_among ys x k) (same_port x y) refl h

all_among : (xs ys : List SeenPort) → list_all (among ys) xs ≡ true
    → (x : SeenPort) → Contains xs x → Contains ys x
all_among [] ys h x (k, lt, e) = absurd (omega (arith, lt))
all_among (z ∷ zs) ys h x (zero, lt, e) =
    subst (Contains ys) e (is_among ys z (and_parts (among ys z) (list_all (among ys) zs) h).0)
all_among (z ∷ zs) ys h x (suc k, lt, e) =
    all_among zs ys (and_parts (among ys z) (list_all (among ys) zs) h).1 x (k, omega (arith, lt), e)

from_map : {A B : Type 0} (f : A → B) (xs : List A) (y : B)
    → Contains (map f xs) y → (x : A) × Contains xs x × (f x ≡ y)
from_map f [] y (k, lt, e) = absurd (omega (arith, lt))
from_map f (x ∷ xs) y (zero, lt, e) = (x, (zero, omega arith, refl), e)
from_map f (x ∷ xs) y (suc k, lt, e) =
    let (z, (j, within, at), same) = from_map f xs y (k, omega (arith, lt), e) in
    (z, (suc j, omega (arith, within), at), same)

in_names : (ports : List PortIn) → map (λ (p : PortIn). p.name.items) ports ≡ input_names (map in_port ports)
in_names [] = refl
in_names (p ∷ ps) = ap (λ (l : List (List ℕ)). p.name.items ∷ l) (in_names ps)

-- ---- rows whose operands are moved

module _ (net : Net) (inst : Inst) (m : SeenModel) (is : IsInst net inst)
    (model : IsModel m) (ports : has_ports inst m ≡ true) where
  abbrev P : List SeenPort
  P = in_ports inst

  abbrev Q : List SeenPort
  Q = m.ins

  abbrev O : List SeenPort
  O = out_ports inst

  inputs : same_ports P Q ≡ true
  inputs = (and_parts (same_ports P Q) (same_ports O (model_out_ports m)) ports).0

  outputs : same_ports O (model_out_ports m) ≡ true
  outputs = (and_parts (same_ports P Q) (same_ports O (model_out_ports m)) ports).1

  new_in_old : (x : SeenPort) → Contains P x → Contains Q x
  new_in_old = all_among P Q (and_parts (list_all (among Q) P) (list_all (among P) Q) inputs).0

  old_in_new : (x : SeenPort) → Contains Q x → Contains P x
  old_in_new = all_among Q P (and_parts (list_all (among Q) P) (list_all (among P) Q) inputs).1

  names_apart : AreDifferent (input_names P)
  names_apart = subst AreDifferent (in_names inst.ins.items) is.input_names

  no_port : SeenPort
  no_port = record { name = []; width = 0 }

  abbrev new : SeenModel
  new = record m {
    ins = in_ports inst;
    outs = map (λ port. out_named m.outs port.name) (out_ports inst);
    change = map (row_moved m.ins (in_ports inst)) m.change;
    run = map (row_moved m.ins (in_ports inst)) m.run;
  }

  record IsMoved (k : ℕ) : Type 0 where
    within : moved Q P k < length P
    width : get_or (map (λ d. d.width) P) (moved Q P k) 0 ≡ get_or (map (λ d. d.width) Q) k 0
    name : get_or (input_names P) (moved Q P k) [] ≡ get_or (input_names Q) k []

  port_moved : (k : ℕ) → k < length Q → IsMoved k
  port_moved k lt =
      let q = get_or Q k no_port in
      let there : IsAt (λ (p : SeenPort). p.name) P q =
      place (λ (p : SeenPort). p.name) P q names_apart (old_in_new q (Contains-get_or Q k no_port lt)) in
      let called : get_or (input_names Q) k []
      ≡ q.name = get_or-map (λ (p : SeenPort). p.name) Q k no_port [] lt in
      let number : moved Q P k ≡ unwrap_or (named q.name (input_names P)) 0 =
      ap (λ (n : List ℕ). unwrap_or (named n (input_names P)) 0) called in
      let within : moved Q P k < length P = omega (arith, number, there.within) in
      record {
        within = within;
        width = get_or-map (λ (p : SeenPort). p.width) P (moved Q P k) no_port 0 within
            ∙ ap (λ (p : SeenPort). p.width) (ap (λ i. get_or P i no_port) number ∙ there.at no_port)
            ∙ sym (get_or-map (λ (p : SeenPort). p.width) Q k no_port 0 lt);
        name = get_or-map (λ (p : SeenPort). p.name) P (moved Q P k) no_port [] within
            ∙ ap (λ (p : SeenPort). p.name) (ap (λ i. get_or P i no_port) number ∙ there.at no_port)
            ∙ sym called;
      }

  operand : (o : Operand) → IsOperand m o → IsOperand new (operand_moved Q P o)
  operand (Word k) h = h
  operand (Input k) h = (port_moved k h).within
  operand (Old k) h = (port_moved k h).within

  width : (o : Operand) → IsOperand m o → operand_width new (operand_moved Q P o) ≡ operand_width m o
  width (Word k) h = refl
  width (Input k) h = (port_moved k h).width
  width (Old k) h = (port_moved k h).width

  present : (o : Operand) → IsPresent o → IsPresent (operand_moved Q P o)
  present (Word k) h = tt
  present (Input k) h = tt
  present (Old k) h = absurd h

  one_cond : (c : Cond) → IsCond m c → IsCond new (cond_moved Q P c)
  one_cond c h = record {
    of = operand c.of h.of;
    care = subst (λ w. IsBelow w c.care) (sym (width c.of h.of)) h.care;
    value = h.value;
  }

  source : (w : ℕ) (o : Operand) → IsSource m w o → IsSource new w (operand_moved Q P o)
  source w o h = record {
    there = operand o h.there;
    present = present o h.present;
    as_wide = width o h.there ∙ h.as_wide;
  }

  index : (o : Operand) → IsIndex m o → IsIndex new (operand_moved Q P o)
  index o h = record { there = operand o h.there; present = present o h.present; memory = h.memory }

  slot : (s : Slot) → IsSlot m s → IsSlot new (slot_moved Q P s)
  slot (TheWord k) h = h
  slot (TheEntry o) h = index o h

  slot_width : (s : Slot) → width_of new (slot_moved Q P s) ≡ width_of m s
  slot_width (TheWord k) = refl
  slot_width (TheEntry o) = refl

  amount : (w : ℕ) (a : Amount) → IsAmount m w a → IsAmount new w (amount_moved Q P a)
  amount w (Number n) h = h
  amount w (Copy o) h = source w o h
  amount w (Plus o n) h = (source w o h.0, h.1)
  amount w (Minus o n) h = (source w o h.0, h.1)
  amount w (Entry o) h = (index o h.0, h.1)

  no_copy : (s : Slot) (a : Amount) → IsNoCopy s a → IsNoCopy (slot_moved Q P s) (amount_moved Q P a)
  no_copy (TheWord k) (Number n) h = tt
  no_copy (TheWord k) (Copy o) h = tt
  no_copy (TheWord k) (Plus o n) h = tt
  no_copy (TheWord k) (Minus o n) h = tt
  no_copy (TheWord k) (Entry o) h = tt
  no_copy (TheEntry i) (Number n) h = tt
  no_copy (TheEntry i) (Copy o) h = tt
  no_copy (TheEntry i) (Plus o n) h = tt
  no_copy (TheEntry i) (Minus o n) h = tt
  no_copy (TheEntry i) (Entry o) h = absurd h

  one_set : (x : Set) → IsSet m x → IsSet new (set_moved Q P x)
  one_set x h = record {
    slot = slot x.slot h.slot;
    amount = subst (λ w. IsAmount new w (amount_moved Q P x.amount)) (sym (slot_width x.slot))
        (amount (width_of m x.slot) x.amount h.amount);
    no_copy = no_copy x.slot x.amount h.no_copy;
  }

  all_moved : {A B : Type 0} (R : A → Type 0) (S : B → Type 0) (f : A → B) → ((a : A) → R a → S (f a))
      → (xs : List A) → All R xs → All S (map f xs)
  all_moved R S f h [] all = All-nil S
  all_moved R S f h (x ∷ xs) all =
      All-cons S (f x) (map f xs) (h x (All-head R x xs all)) (all_moved R S f h xs (All-tail R x xs all))

  some_moved : (xs : List Set) → xs ≢ [] → map (set_moved Q P) xs ≢ []
  some_moved [] h = λ e. h refl
  some_moved (x ∷ xs) h = λ e. absurd cc

  same_target : (x : Set) → target (set_moved Q P x) ≡ target x
  same_target x = one x.slot x.amount
    where
      one : (s : Slot) (a : Amount) → target (set_moved Q P (record { slot = s; amount = a }))
          ≡ target (record { slot = s; amount = a })
      one (TheWord k) a = refl
      one (TheEntry o) a = refl

  same_targets : (xs : List Set) → map target (map (set_moved Q P) xs) ≡ map target xs
  same_targets [] = refl
  same_targets (x ∷ xs) = ap (λ (o : Option ℕ). o ∷ map target (map (set_moved Q P) xs)) (same_target x)
      ∙ ap (λ (l : List (Option ℕ)). target x ∷ l) (same_targets xs)

  one_row : (r : SeenRow) → IsRow m r → IsRow new (row_moved Q P r)
  one_row r h = record {
    conds = all_moved (IsCond m) (IsCond new) (cond_moved Q P) one_cond r.conds h.conds;
    sets = all_moved (IsSet m) (IsSet new) (set_moved Q P) one_set r.sets h.sets;
    does = some_moved r.sets h.does;
    once = subst AreDifferent (sym (same_targets r.sets)) h.once;
  }

  one_run : (r : SeenRow) → IsRunRow r → IsRunRow (row_moved Q P r)
  one_run r h = all_moved (λ (c : Cond). IsPresent c.of) (λ (c : Cond). IsPresent c.of)
      (cond_moved Q P) (λ c k. present c.of k) r.conds h

  -- ---- what rows say

  operand_says : (o : Operand) → IsOperand m o → operand_text new (operand_moved Q P o) ≡ operand_text m o
  operand_says (Word k) h = refl
  operand_says (Input k) h = (port_moved k h).name
  operand_says (Old k) h = ap (λ (t : List ℕ). codes "old " ++ t) (port_moved k h).name

  cond_says : (c : Cond) → IsCond m c → cond_text new (cond_moved Q P c) ≡ cond_text m c
  cond_says c h =
      ap (λ (t : List ℕ). t ++ (codes " = " ++ compared_text
      (operand_width new (operand_moved Q P c.of)) c.value c.care)) (operand_says c.of h.of)
      ∙ ap (λ (w : ℕ). operand_text m c.of ++ (codes " = " ++ compared_text w c.value c.care))
      (width c.of h.of)

  entry_says : (o : Operand) → IsIndex m o → entry_text new (operand_moved Q P o) ≡ entry_text m o
  entry_says o h =
      ap (λ (t : List ℕ). memory_name m.memory ++ (codes "[" ++ (t ++ codes "]"))) (operand_says o h.there)

  slot_says : (s : Slot) → IsSlot m s → slot_text new (slot_moved Q P s) ≡ slot_text m s
  slot_says (TheWord k) h = refl
  slot_says (TheEntry o) h = entry_says o h

  amount_says : (w : ℕ) (a : Amount) → IsAmount m w a → amount_text new (amount_moved Q P a) ≡ amount_text m a
  amount_says w (Number n) h = refl
  amount_says w (Copy o) h = operand_says o h.there
  amount_says w (Plus o n) h = ap (λ (t : List ℕ). t ++ (codes " + " ++ decimal n)) (operand_says o h.0.there)
  amount_says w (Minus o n) h =
      ap (λ (t : List ℕ). t ++ (codes " - " ++ decimal n)) (operand_says o h.0.there)
  amount_says w (Entry o) h = entry_says o h.0

  set_says : (x : Set) → IsSet m x → set_text new (set_moved Q P x) ≡ set_text m x
  set_says x h =
      ap (λ (t : List ℕ). t ++ (codes " = " ++ amount_text new (amount_moved Q P x.amount)))
      (slot_says x.slot h.slot)
      ∙ ap (λ (t : List ℕ). slot_text m x.slot ++ (codes " = " ++ t))
      (amount_says (width_of m x.slot) x.amount h.amount)

  all_say : {A : Type 0} (R : A → Type 0) (move : A → A) (f g : A → List ℕ)
      → ((a : A) → R a → f (move a) ≡ g a) → (xs : List A) → All R xs → map f (map move xs) ≡ map g xs
  all_say R move f g h [] all = refl
  all_say R move f g h (x ∷ xs) all =
      ap (λ (t : List ℕ). t ∷ map f (map move xs)) (h x (All-head R x xs all))
      ∙ ap (λ (ts : List (List ℕ)). g x ∷ ts) (all_say R move f g h xs (All-tail R x xs all))

  when_says : (cs : List Cond) → All (IsCond m) cs → when_text new (map (cond_moved Q P) cs) ≡ when_text m cs
  when_says [] all = refl
  when_says (c ∷ cs) all =
      ap (λ (ts : List (List ℕ)). codes " when " ++ parted (codes ", ") ts)
      (all_say (IsCond m) (cond_moved Q P) (cond_text new) (cond_text m) cond_says (c ∷ cs) all)

  row_says : (kind : List ℕ) (r : SeenRow) → IsRow m r
      → row_text new kind (row_moved Q P r) ≡ row_text m kind r
  row_says kind r h =
      ap (λ (t : List ℕ). line (kind ∷ t ∷ codes " do " ∷ parted (codes ", ")
      (map (set_text new) (map (set_moved Q P) r.sets)) ∷ [])) (when_says r.conds h.conds)
      ∙ ap (λ (ts : List (List ℕ)). line (kind ∷ when_text m r.conds ∷ codes " do " ∷ parted (codes ", ") ts
      ∷ [])) (all_say (IsSet m) (set_moved Q P) (set_text new) (set_text m) set_says r.sets h.sets)

  -- ---- outputs

  record IsFound (p : SeenPort) : Type 0 where
    port : model_out_port (out_named m.outs p.name) ≡ p
    out : IsOut new (out_named m.outs p.name)

  out_found : (p : SeenPort) → Contains O p → IsFound p
  out_found p c =
      let (o, there, same) = from_map model_out_port m.outs p (all_among O (model_out_ports m) (and_parts
      (list_all (among (model_out_ports m)) O) (list_all (among O) (model_out_ports m)) outputs).0 p c) in
      let at : IsAt (λ (d : SeenOut). d.name) m.outs o =
      place (λ (d : SeenOut). d.name) m.outs o model.out_names there in
      let found : out_named m.outs p.name
      ≡ o = ap (λ (q : SeenPort). out_named m.outs q.name) (sym same) ∙ at.at no_out in
      let well = All-contains (IsOut m) m.outs o model.outs there in
      record {
        port = ap model_out_port found ∙ same;
        out = subst (IsOut new) (sym found) (record { within = well.within; order = well.order });
      }

  outs_found : (ps : List SeenPort) → ((p : SeenPort) → Contains ps p → IsFound p)
      → map model_out_port (map (λ port. out_named m.outs port.name) ps) ≡ ps
  outs_found [] h = refl
  outs_found (p ∷ ps) h =
      ap (λ (q : SeenPort). q ∷ map model_out_port (map (λ port. out_named m.outs port.name) ps))
      (h p (zero, omega arith, refl)).port
      ∙ ap (λ (l : List SeenPort). p ∷ l) (outs_found ps (λ q c. h q (after q c)))
    where
      after : (q : SeenPort) → Contains ps q → Contains (p ∷ ps) q
      after q (k, lt, e) = (suc k, omega (arith, lt), e)

  outs_are : map model_out_port new.outs ≡ O
  outs_are = outs_found O out_found

  out_names_are : (outs : List SeenOut) → map (λ d. d.name) outs ≡ input_names (map model_out_port outs)
  out_names_are [] = refl
  out_names_are (d ∷ ds) = ap (λ (l : List (List ℕ)). d.name ∷ l) (out_names_are ds)

  port_names : (ports : List PortOut)
      → map (λ (p : PortOut). p.name.items) ports ≡ input_names (map out_port ports)
  port_names [] = refl
  port_names (p ∷ ps) = ap (λ (l : List (List ℕ)). p.name.items ∷ l) (port_names ps)

  -- ---- the whole model

  abbrev rest : List (List ℕ)
  rest = map (λ d. d.name) m.words ++ memory_names m.memory

  not_rest : (n : List ℕ) → Contains (input_names P) n → Contains rest n → ⊥
  not_rest n c d =
      let (p, there, same) = from_map (λ (p : SeenPort). p.name) P n c in
      not_both (map (λ d. d.name) m.ins) rest n model.names (subst (Contains (map (λ d. d.name) m.ins)) same
      (map_in (λ (d : SeenPort). d.name) m.ins p (new_in_old p there))) d

  pub arranged_fits : ModelFits inst new
  arranged_fits = record {
    well_formed = record {
      few_words = model.few_words;
      few_ins = omega (arith, length-map inst.ins.items in_port, is.few_inputs);
      few_outs = omega (
        arith,
        length-map O (λ (port : SeenPort). out_named m.outs port.name),
        length-map inst.outs.items out_port,
        is.few_outputs,
      );
      few_rows = omega (
        arith,
        length-map m.change (row_moved Q P),
        length-map m.run (row_moved Q P),
        model.few_rows,
      );
      words = model.words;
      memory = model.memory;
      ins = all_contained (λ (port : SeenPort). IsWidth port.width) P
          (λ p c. All-contains (λ (port : SeenPort). IsWidth port.width) m.ins p model.ins (new_in_old p c));
      outs = outs_well O out_found;
      change = all_moved (IsRow m) (IsRow new) (row_moved Q P) one_row m.change model.change;
      run = all_moved (IsRow m) (IsRow new) (row_moved Q P) one_row m.run model.run;
      runs = all_moved IsRunRow IsRunRow (row_moved Q P) one_run m.run model.runs;
      names = different_more (input_names P) rest names_apart
          (second_apart (map (λ d. d.name) m.ins) rest model.names) not_rest;
      out_names = subst AreDifferent (port_names inst.outs.items ∙ ap input_names (sym outs_are)
          ∙ sym (out_names_are new.outs)) is.output_names;
    };
    ins = refl;
    outs = outs_are;
  }
    where
      outs_well : (ps : List SeenPort) → ((p : SeenPort) → Contains ps p → IsFound p)
          → All (IsOut new) (map (λ port. out_named m.outs port.name) ps)
      outs_well [] h = All-nil (IsOut new)
      outs_well (p ∷ ps) h =
          All-cons (IsOut new) (out_named m.outs p.name)
          (map (λ port. out_named m.outs port.name) ps) (h p (zero, omega arith, refl)).out
          (outs_well ps (λ q c. h q (after q c)))
        where
          after : (q : SeenPort) → Contains ps q → Contains (p ∷ ps) q
          after q (k, lt, e) = (suc k, omega (arith, lt), e)

-- ---- all instruments

fits_one : (net : Net) (inst : Inst) (m : SeenModel) → IsInst net inst → IsModel m
    → has_ports inst m ≡ true → ModelFits inst (with_ports_in_order inst m)
unfolding with_ports_in_order
fits_one net inst m is model ports = arranged_fits net inst m is model ports

either_table : (b : Bool) (x y : Option SeenTable) → IfSome x (λ t. IsModel t.model)
    → IfSome y (λ t. IsModel t.model) → IfSome (cond b x y) (λ t. IsModel t.model)
either_table true x y hx hy = hx
either_table false x y hx hy = hy

table_is : (ts : List SeenTable) (path : List (List ℕ)) → All (λ t. IsModel t.model) ts
    → IfSome (table_named ts path) (λ t. IsModel t.model)
table_is [] path all = tt
table_is (t ∷ ts) path all = either_table (same_path path t.path) (Some t) (table_named ts path)
    (All-head (λ t. IsModel t.model) t ts all) (table_is ts path (All-tail (λ t. IsModel t.model) t ts all))

module _ (net : Net) (ts : List SeenTable) (all : All (λ t. IsModel t.model) ts) where
  one_inst : (i : ℕ) (inst : Inst) (insts : List Inst) (o : Option SeenTable)
      (r : Result (List SeenModel) FitsFault) → IsInst net inst
      → IfSome o (λ t. IsModel t.model) → IfOk r (EachFits insts)
      → IfOk (one_model i inst o r) (EachFits (inst ∷ insts))
  one_inst i inst insts None r is model h = tt
  one_inst i inst insts (Some t) r is model h = one (has_ports inst t.model) refl r h
    where
      one : (b : Bool) → has_ports inst t.model ≡ b
          → (r : Result (List SeenModel) FitsFault) → IfOk r (EachFits insts)
          → IfOk (cond b (before (with_ports_in_order inst t.model) r) (Err (PortWidth i))) (EachFits (inst
          ∷ insts))
      one true ports (Ok ms) h = (fits_one net inst t.model is model ports, h)
      one true ports (Err fault) h = tt
      one false ports r h = tt

  all_insts : (i : ℕ) (insts : List Inst) → All (IsInst net) insts
      → IfOk (models_from net ts i insts) (EachFits insts)
  all_insts i [] is = tt
  all_insts i (inst ∷ insts) is =
      one_inst i inst insts (table_named ts (inst_path net inst)) (models_from net ts (suc i) insts)
      (All-head (IsInst net) inst insts is) (table_is ts (inst_path net inst) all)
      (all_insts (suc i) insts (All-tail (IsInst net) inst insts is))

  unless_fits : (a b : Option FitsFault) (r : Result (List SeenModel) FitsFault) → IfOk r (ModelsFit net)
      → IfOk (unless a (unless b r)) (ModelsFit net)
  unless_fits (Some fault) b r h = tt
  unless_fits None (Some fault) r h = tt
  unless_fits None None r h = h

  pub models_fit : IsNet net → IfOk (fitted net ts) (ModelsFit net)
  unfolding fitted
  models_fit is = unless_fits (missing net ts 0 net.insts.items) (extra net ts)
      (models_from net ts 0 net.insts.items) (all_insts 0 net.insts.items is.insts)

pub rows_say_the_same : RowsSayTheSame
unfolding with_ports_in_order
rows_say_the_same net inst m kind row is model ports well = row_says net inst m is model ports kind row well

pub fitted_models_fit : FittedModelsFit
fitted_models_fit net ts is all = models_fit net ts all is

-- ---- what fits, as plain lists

pub each_well : (insts : List Inst) (ms : List SeenModel) → EachFits insts ms → All IsModel ms
each_well [] [] h = All-nil IsModel
each_well [] (m ∷ ms) h = absurd h
each_well (i ∷ is) [] h = absurd h
each_well (i ∷ is) (m ∷ ms) h = All-cons IsModel m ms h.0.well_formed (each_well is ms h.1)

pub each_one : (insts : List Inst) (ms : List SeenModel) → EachFits insts ms → length ms ≡ length insts
each_one [] [] h = refl
each_one [] (m ∷ ms) h = absurd h
each_one (i ∷ is) [] h = absurd h
each_one (i ∷ is) (m ∷ ms) h = ap suc (each_one is ms h.1)

-- ---- models that are made

unseen : (ms : List Model) → All IsModel (map seen_model ms) → All (λ m. IsModel (seen_model m)) ms
unseen [] h = All-nil (λ m. IsModel (seen_model m))
unseen (m ∷ ms) h = All-cons (λ m. IsModel (seen_model m)) m ms (All-head IsModel (seen_model m)
    (map seen_model ms) h) (unseen ms (All-tail IsModel (seen_model m) (map seen_model ms) h))

module _ (net : Net) (tables : List Table) (models : List Model) (is : IsNet net) (well : All
    (λ t. IsModel (seen_model t.model)) tables) (fit : misfit (fitted net (map seen_table tables)) ≡ None)
    (made : models_from net (map seen_table tables) 0 net.insts.items ≡ Ok (map seen_model models)) where
  pub made_is : fitted net (map seen_table tables) ≡ Ok (map seen_model models)
  unfolding fitted
  made_is =
      let ts = map seen_table tables in
      no_misfit (missing net ts 0 net.insts.items) (extra net ts)
      (models_from net ts 0 net.insts.items) fit ∙ made

  pub made_fits : ModelsFit net (map seen_model models)
  made_fits =
      subst (λ (r : Result (List SeenModel) FitsFault). IfOk r (ModelsFit net)) made_is
      (models_fit net (map seen_table tables) (All-map (λ t. IsModel t.model) seen_table tables well) is)

  pub made_one : length models ≡ length net.insts.items
  made_one = sym (length-map models seen_model) ∙ each_one net.insts.items (map seen_model models) made_fits

  pub made_well : All (λ m. IsModel (seen_model m)) models
  made_well = unseen models (each_well net.insts.items (map seen_model models) made_fits)
