-- Blocks and files whose lines aren't at fault say well formed models.
use Rattle.std.proofs.Common.{◌≡◌, ℕ, zero, suc, ◌+◌, ◌-◌, ◌^◌, ◌<◌, ◌≤◌, Bool, true, false, not, cond}
use Rattle.std.proofs.Common.{nat_le, nat_lt, List, [], ◌∷◌, ◌++◌, length, map, Option, Some, None, All}
use Rattle.std.proofs.Common.{get_or, refl, ap, sym, ◌∙◌, subst, arith, append_assoc}
use Rattle.std.specs.Prelude.{◌==◌, ◌||◌, IfSome, IfOk, is_some, unwrap_or, Result, Ok, Err}
use Rattle.std.proofs.lemmas.Bool.{ltb-false, not-false}
use Rattle.std.proofs.lemmas.List.{length-map, length_push, append-nil, map_push}
use Rattle.std.proofs.lemmas.List.Elements.{All-nil, All-cons, All-head, All-tail, All-push, All-weaker}
use Rattle.ij_bits.specs.Different.{AreDifferent}
use Rattle.ij_bits.specs.Room.{Listed}
use Rattle.ij_text.specs.declared.Place.{Place}
use Rattle.table_lines.specs.Lines.{Line, lines_of, end_of}
use Rattle.table_lines.specs.Words.{Slice}
use Rattle.instruments.specs.declared.model.Cond.{Cond}
use Rattle.instruments.specs.declared.model.Operand.{Operand}
use Rattle.instruments.specs.declared.model.Operand.TheVariants.{Word as AWord, Input as AnInput, Old}
use Rattle.instruments.specs.declared.model.Slot.{Slot}
use Rattle.instruments.specs.declared.model.Slot.TheVariants.{Word as TheWord, Entry as TheEntry}
use Rattle.instruments.specs.declared.model.Amount.{Amount}
use Rattle.instruments.specs.declared.model.Amount.TheVariants.{Number as ANumber, Copy as ACopy}
use Rattle.instruments.specs.declared.model.Amount.TheVariants.{Plus as APlus, Minus as AMinus}
use Rattle.instruments.specs.declared.model.Amount.TheVariants.{Entry as AnEntry}
use Rattle.instruments.specs.declared.model.Set.{Set}
use Rattle.instruments.specs.Seen.{SeenWord, SeenMemory, SeenPort, SeenOut, SeenRow, SeenModel, seen_model}
use Rattle.instruments.specs.After.{memory_width, width_of}
use Rattle.instruments.specs.Models.{IsWidth, IsBelow, IsWord, IsOut, IsOperand, IsCond, IsSource, IsIndex}
use Rattle.instruments.specs.Models.{IsAmount, IsSlot, IsSet, IsRow, IsRunRow, IsModel, memory_names, names}
use Rattle.instruments.specs.Models.{word_width, operand_width}
use Rattle.table_lines.specs.Said.{SaidLine, Input, Word, Memory, Output, Change, Run, End, Starts, SaidRow}
use Rattle.table_lines.specs.Said.{line, instrument, version}
use Rattle.table_file.specs.declared.fault.TableFault.{TableFault}
use Rattle.table_file.specs.declared.table.Table.{Table}
use Rattle.table_file.specs.declared.fault.TableFault.TheVariants.{TableSyntax, TableName, TableWidth}
use Rattle.table_file.specs.declared.fault.TableFault.TheVariants.{TableLimit, TableTwice}
use Rattle.table_file.specs.Tables.{SeenTable, seen_table, Block, Tables, stands_in, word_named, is_above}
use Rattle.table_file.specs.Tables.{reset_above, starts_above, bounds_outside, no_width, name_fault}
use Rattle.table_file.specs.Tables.{width_fault, limit_fault, with_line, out_said, row_said, rank, empty}
use Rattle.table_file.specs.Tables.{after_line, line_said, block_line, table_of, has_table, new_block}
use Rattle.table_file.specs.Tables.{no_tables, is_end, put_block, next_line, at_end, and_then, read_lines}
use Rattle.table_file.specs.Tables.{after_head, from_head, tables}
use Rattle.table_file.specs.Answers.{GivesTable, seen_tables}
use Rattle.table_file.specs.Formed.{TablesAreModels}
use Rattle.table_file.proofs.Naming.{one_more_name, there}
use Rattle.table_file.proofs.SaidRows.{IsSaidLine, said_line}
use Rattle.table_file.proofs.FormedRows.{formed_row, formed_run}
use Rattle.table_file.proofs.Within.{less}
use Rattle.ij_bits.proofs.Tests.{or_left_false, or_right_false}

-- ---- rows speak of words, memory and inputs alone

module _ (m n : SeenModel) (w : m.words ≡ n.words) (e : m.memory ≡ n.memory) (i : m.ins ≡ n.ins) where
  operand_width_as : (o : Operand) → operand_width m o ≡ operand_width n o
  operand_width_as (AWord k) = ap (λ (l : List SeenWord). get_or (map (λ d. d.width) l) k 0) w
  operand_width_as (AnInput k) = ap (λ (l : List SeenPort). get_or (map (λ d. d.width) l) k 0) i
  operand_width_as (Old k) = ap (λ (l : List SeenPort). get_or (map (λ d. d.width) l) k 0) i

  operand_as : (o : Operand) → IsOperand m o → IsOperand n o
  operand_as (AWord k) h = omega (arith, h, ap length w)
  operand_as (AnInput k) h = omega (arith, h, ap length i)
  operand_as (Old k) h = omega (arith, h, ap length i)

  cond_as : (c : Cond) → IsCond m c → IsCond n c
  cond_as c h = record {
    of = operand_as c.of h.of;
    care = subst (λ width. IsBelow width c.care) (operand_width_as c.of) h.care;
    value = h.value;
  }

  source_as : (width : ℕ) (o : Operand) → IsSource m width o → IsSource n width o
  source_as width o h = record {
    there = operand_as o h.there;
    present = h.present;
    as_wide = sym (operand_width_as o) ∙ h.as_wide;
  }

  index_as : (o : Operand) → IsIndex m o → IsIndex n o
  index_as o h =
      record { there = operand_as o h.there; present = h.present; memory = λ none. h.memory (e ∙ none) }

  slot_as : (s : Slot) → IsSlot m s → IsSlot n s
  slot_as (TheWord k) h = omega (arith, h, ap length w)
  slot_as (TheEntry o) h = index_as o h

  amount_as : (width : ℕ) (a : Amount) → IsAmount m width a → IsAmount n width a
  amount_as width (ANumber k) h = h
  amount_as width (ACopy o) h = source_as width o h
  amount_as width (APlus o k) h = (source_as width o h.0, h.1)
  amount_as width (AMinus o k) h = (source_as width o h.0, h.1)
  amount_as width (AnEntry o) h = (index_as o h.0, sym (ap memory_width e) ∙ h.1)

  width_as : (s : Slot) → width_of m s ≡ width_of n s
  width_as (TheWord k) = ap (λ (l : List SeenWord). get_or (map (λ d. d.width) l) k 0) w
  width_as (TheEntry o) = ap memory_width e

  set_as : (x : Set) → IsSet m x → IsSet n x
  set_as x h = record {
    slot = slot_as x.slot h.slot;
    amount = amount_as (width_of n x.slot) x.amount
        (subst (λ width. IsAmount m width x.amount) (width_as x.slot) h.amount);
    no_copy = h.no_copy;
  }

  row_as : (r : SeenRow) → IsRow m r → IsRow n r
  row_as r h = record {
    conds = All-weaker (IsCond m) (IsCond n) cond_as r.conds h.conds;
    sets = All-weaker (IsSet m) (IsSet n) set_as r.sets h.sets;
    does = h.does;
    once = h.once;
  }

  rows_as : (rs : List SeenRow) → All (IsRow m) rs → All (IsRow n) rs
  rows_as rs h = All-weaker (IsRow m) (IsRow n) row_as rs h

  outs_as : (os : List SeenOut) → All (IsOut m) os → All (IsOut n) os
  outs_as os h =
      All-weaker (IsOut m) (IsOut n)
      (λ o k. record {
        within = subst (λ (l : List SeenWord). o.left
            < get_or (map (λ d. d.width) l) o.word 0) w k.within;
        order = k.order;
      }) os h

none_of : {A : Type 0} (P : A → Type 0) (xs : List A) → xs ≡ [] → All P xs
none_of P xs none = subst (All P) (sym none) (All-nil P)

-- ---- numbers and widths

a_width : (width : ℕ) → no_width width ≡ false → IsWidth width
a_width width h = record {
  some = positive width (or_left_false (width == 0) (nat_lt 64 width) h);
  few = ltb-false 64 width (or_right_false (width == 0) (nat_lt 64 width) h);
}
  where
    positive : (n : ℕ) → (n == 0) ≡ false → 1 ≤ n
    positive zero h = absurd cc
    positive (suc n) h = omega arith

starts_below : (width : ℕ) (s : Starts) → starts_above width s ≡ false
    → IsBelow width s.init × IfSome s.reset (IsBelow width)
starts_below width s h = (
  less (2 ^ width) s.init (or_left_false (is_above width s.init) (reset_above width s.reset) h),
  reset s.reset (or_right_false (is_above width s.init) (reset_above width s.reset) h),
)
  where
    reset : (o : Option ℕ) → reset_above width o ≡ false → IfSome o (IsBelow width)
    reset None h = tt
    reset (Some n) h = less (2 ^ width) n h

-- ---- blocks

-- lines come in the order of their kinds
record IsFormed (b : Block) : Type 0 where
  model : IsModel b.model
  outs : b.rank ≤ 2 → b.model.outs ≡ []
  change : b.rank ≤ 3 → b.model.change ≡ []
  run : b.rank ≤ 4 → b.model.run ≡ []

-- a line that isn't at fault
record IsFree (b : Block) (l : SaidLine) : Type 0 where
  order : nat_lt (rank l) b.rank ≡ false
  name : name_fault b.model l ≡ false
  width : width_fault b.model l ≡ false
  limit : limit_fault b.model l ≡ false

with_input : (b : Block) (name : List ℕ) (width : ℕ) → IsFormed b → IsFree b (Input name width)
    → IsModel (with_line b.model (Input name width))
with_input b name width h f =
    let m = b.model in
    let port : SeenPort = record { name = name; width = width } in
    let new = with_line m (Input name width) in
    let first : b.rank ≤ 0 = ltb-false 0 b.rank f.order in
    let others = map (λ d. d.name) m.words ++ memory_names m.memory in
    let put = one_more_name (map (λ d. d.name) m.ins) others name h.model.names f.name in
    let same : names new ≡ map (λ d. d.name) m.ins ++ name ∷ others =
    ap (λ l. l ++ others) (map_push (λ (d : SeenPort). d.name) m.ins port)
    ∙ append_assoc (map (λ d. d.name) m.ins) (name ∷ []) others in
    record {
      few_words = h.model.few_words;
      few_ins = omega (
        arith,
        length_push m.ins port,
        less 16 (length m.ins) (or_right_false (no_width width) (nat_le 16 (length m.ins)) f.limit),
      );
      few_outs = h.model.few_outs;
      few_rows = h.model.few_rows;
      words = h.model.words;
      memory = h.model.memory;
      ins = All-push (λ d. IsWidth d.width) m.ins port h.model.ins
          (a_width width (or_left_false (no_width width) (nat_le 16 (length m.ins)) f.limit));
      outs = none_of (IsOut new) m.outs (h.outs (omega (arith, first)));
      change = none_of (IsRow new) m.change (h.change (omega (arith, first)));
      run = none_of (IsRow new) m.run (h.run (omega (arith, first)));
      runs = h.model.runs;
      names = subst AreDifferent (sym same) put;
      out_names = h.model.out_names;
    }

with_word : (b : Block) (name : List ℕ) (width : ℕ) (s : Starts) → IsFormed b → IsFree b (Word name width s)
    → IsModel (with_line b.model (Word name width s))
with_word b name width s h f =
    let m = b.model in
    let word : SeenWord = record { name = name; width = width; init = s.init; reset = s.reset } in
    let new = with_line m (Word name width s) in
    let early : b.rank ≤ 1 = ltb-false 1 b.rank f.order in
    let ins = map (λ d. d.name) m.ins in
    let words = map (λ d. d.name) m.words in
    let memory = memory_names m.memory in
    let old : names m ≡ (ins ++ words) ++ memory = sym (append_assoc ins words memory) in
    let put = one_more_name (ins ++ words) memory name (subst AreDifferent old h.model.names)
    (ap (stands_in name) (sym old) ∙ f.name) in
    let same : names new ≡ (ins ++ words) ++ name ∷ memory =
    ap (λ l. ins ++ (l ++ memory)) (map_push (λ (d : SeenWord). d.name) m.words word) ∙ ap (λ l. ins ++ l)
    (append_assoc words (name ∷ []) memory) ∙ sym (append_assoc ins words (name ∷ memory)) in
    let below = starts_below width s f.width in
    record {
      few_words = omega (
        arith,
        length_push m.words word,
        less 8 (length m.words) (or_right_false (no_width width) (nat_le 8 (length m.words)) f.limit),
      );
      few_ins = h.model.few_ins;
      few_outs = h.model.few_outs;
      few_rows = h.model.few_rows;
      words = All-push IsWord m.words word h.model.words
          (record {
            width = a_width width (or_left_false (no_width width)
                (nat_le 8 (length m.words)) f.limit);
            init = below.0;
            reset = below.1;
          });
      memory = h.model.memory;
      ins = h.model.ins;
      outs = none_of (IsOut new) m.outs (h.outs (omega (arith, early)));
      change = none_of (IsRow new) m.change (h.change (omega (arith, early)));
      run = none_of (IsRow new) m.run (h.run (omega (arith, early)));
      runs = h.model.runs;
      names = subst AreDifferent (sym same) put;
      out_names = h.model.out_names;
    }

no_memory : (d : Option SeenMemory) → is_some d ≡ false → memory_names d ≡ []
no_memory None h = refl
no_memory (Some d) h = absurd cc

with_memory : (b : Block) (name : List ℕ) (depth width : ℕ) (s : Starts) → IsFormed b
    → IsFree b (Memory name depth width s) → IsModel (with_line b.model (Memory name depth width s))
with_memory b name depth width s h f =
    let m = b.model in
    let new = with_line m (Memory name depth width s) in
    let early : b.rank ≤ 2 = ltb-false 2 b.rank f.order in
    let ins = map (λ d. d.name) m.ins in
    let words = map (λ d. d.name) m.words in
    let deep = or_right_false (no_width width)
    (depth == 0 || (nat_lt 256 depth || is_some m.memory)) f.limit in
    let bounded = or_right_false (depth == 0) (nat_lt 256 depth || is_some m.memory) deep in
    let none = no_memory m.memory (or_right_false (nat_lt 256 depth) (is_some m.memory) bounded) in
    let old : names m ≡ (ins ++ words) ++ [] =
    ap (λ l. ins ++ (words ++ l)) none ∙ sym (append_assoc ins words []) in
    let put = one_more_name (ins ++ words) [] name (subst AreDifferent old h.model.names)
    (ap (stands_in name) (sym old) ∙ f.name) in
    let same : names new ≡ (ins ++ words) ++ name ∷ [] = sym (append_assoc ins words (name ∷ [])) in
    let below = starts_below width s f.width in
    record {
      few_words = h.model.few_words;
      few_ins = h.model.few_ins;
      few_outs = h.model.few_outs;
      few_rows = h.model.few_rows;
      words = h.model.words;
      memory = record {
        some = positive depth (or_left_false (depth == 0) (nat_lt 256 depth || is_some m.memory) deep);
        few = ltb-false 256 depth (or_left_false (nat_lt 256 depth) (is_some m.memory) bounded);
        width = a_width width
            (or_left_false (no_width width) (depth == 0 || (nat_lt 256 depth || is_some m.memory)) f.limit);
        init = below.0;
        reset = below.1;
      };
      ins = h.model.ins;
      outs = none_of (IsOut new) m.outs (h.outs early);
      change = none_of (IsRow new) m.change (h.change (omega (arith, early)));
      run = none_of (IsRow new) m.run (h.run (omega (arith, early)));
      runs = h.model.runs;
      names = subst AreDifferent (sym same) put;
      out_names = h.model.out_names;
    }
  where
    positive : (n : ℕ) → (n == 0) ≡ false → 1 ≤ n
    positive zero h = absurd cc
    positive (suc n) h = omega arith

-- a word that is there has bits
at_least_one_bit : (m : SeenModel) (name : List ℕ) → All IsWord m.words → is_some (word_named m name) ≡ true
    → 1 ≤ word_width m (unwrap_or (word_named m name) 0)
at_least_one_bit m name each h =
    let within = (there name (map (λ d. d.name) m.words) h).within in
    at_number m.words (unwrap_or (word_named m name) 0) each
    (omega (arith, within, length-map m.words (λ d. d.name)))
  where
    at_number : (ws : List SeenWord) (k : ℕ) → All IsWord ws → k < length ws
        → 1 ≤ get_or (map (λ d. d.width) ws) k 0
    at_number [] k each lt = absurd (omega (arith, lt))
    at_number (d ∷ ds) zero each lt = (each zero d (omega arith)).width.some
    at_number (d ∷ ds) (suc k) each lt =
        at_number ds k (λ i e within. each (suc i) e (omega (arith, within))) (omega (arith, lt))

new_out : (m n : SeenModel) (name word : List ℕ) (bounds : Option (ℕ × ℕ)) → m.words ≡ n.words
    → 1 ≤ word_width m (unwrap_or (word_named m word) 0)
    → bounds_outside (word_width m (unwrap_or (word_named m word) 0)) bounds ≡ false
    → IsOut n (out_said m name word bounds)
new_out m n name word None same some h =
    let k = unwrap_or (word_named m word) 0 in
    let width : word_width m k ≡ word_width n k =
    ap (λ (l : List SeenWord). get_or (map (λ d. d.width) l) k 0) same in
    record { within = omega (arith, some, width); order = omega arith }
new_out m n name word (Some b) same some h =
    let k = unwrap_or (word_named m word) 0 in
    let width : word_width m k ≡ word_width n k =
    ap (λ (l : List SeenWord). get_or (map (λ d. d.width) l) k 0) same in
    let left = less (word_width m k) b.0 (or_left_false (nat_le (word_width m k) b.0) (nat_lt b.0 b.1) h) in
    record {
      within = omega (arith, left, width);
      order = ltb-false b.0 b.1 (or_right_false (nat_le (word_width m k) b.0) (nat_lt b.0 b.1) h);
    }

out_name : (m : SeenModel) (name word : List ℕ) (bounds : Option (ℕ × ℕ))
    → (out_said m name word bounds).name ≡ name
out_name m name word None = refl
out_name m name word (Some b) = refl

with_output : (b : Block) (name : List ℕ) (s : Slice) → IsFormed b → IsFree b (Output name s)
    → IsModel (with_line b.model (Output name s))
with_output b name s h f =
    let m = b.model in
    let out = out_said m name s.word s.bounds in
    let new = with_line m (Output name s) in
    let early : b.rank ≤ 3 = ltb-false 3 b.rank f.order in
    let taken = map (λ d. d.name) m.outs in
    let known = not-false (is_some (word_named m s.word))
    (or_right_false (stands_in name taken) (not (is_some (word_named m s.word))) f.name) in
    let fresh = or_left_false (stands_in name taken) (not (is_some (word_named m s.word))) f.name in
    let nothing = append-nil taken in
    let put = one_more_name taken [] name (subst AreDifferent (sym nothing) h.model.out_names)
    (ap (stands_in name) nothing ∙ fresh) in
    let same : map (λ d. d.name) new.outs ≡ taken ++ name ∷ [] = map_push (λ (d : SeenOut). d.name) m.outs out
    ∙ ap (λ (l : List ℕ). taken ++ l ∷ []) (out_name m name s.word s.bounds) in
    record {
      few_words = h.model.few_words;
      few_ins = h.model.few_ins;
      few_outs = omega (arith, length_push m.outs out, less 16 (length m.outs) f.limit);
      few_rows = h.model.few_rows;
      words = h.model.words;
      memory = h.model.memory;
      ins = h.model.ins;
      outs = All-push (IsOut new) m.outs out (outs_as m new refl refl refl m.outs h.model.outs)
          (new_out m new name s.word s.bounds refl (at_least_one_bit m s.word h.model.words known) f.width);
      change = none_of (IsRow new) m.change (h.change early);
      run = none_of (IsRow new) m.run (h.run (omega (arith, early)));
      runs = h.model.runs;
      names = h.model.names;
      out_names = subst AreDifferent (sym same) put;
    }

with_change : (b : Block) (r : SaidRow) → IsSaidLine (Change r) → IsFormed b → IsFree b (Change r)
    → IsModel (with_line b.model (Change r))
with_change b r said h f =
    let m = b.model in
    let row = row_said m r in
    let new = with_line m (Change r) in
    record {
      few_words = h.model.few_words;
      few_ins = h.model.few_ins;
      few_outs = h.model.few_outs;
      few_rows = omega (arith, length_push m.change row, less 64 (length m.change + length m.run) f.limit);
      words = h.model.words;
      memory = h.model.memory;
      ins = h.model.ins;
      outs = outs_as m new refl refl refl m.outs h.model.outs;
      change = All-push (IsRow new) m.change row (rows_as m new refl refl refl m.change h.model.change)
          (row_as m new refl refl refl row (formed_row m true r said f.name f.width));
      run = rows_as m new refl refl refl m.run h.model.run;
      runs = h.model.runs;
      names = h.model.names;
      out_names = h.model.out_names;
    }

with_run : (b : Block) (r : SaidRow) → IsSaidLine (Run r) → IsFormed b
    → IsFree b (Run r) → IsModel (with_line b.model (Run r))
with_run b r said h f =
    let m = b.model in
    let row = row_said m r in
    let new = with_line m (Run r) in
    record {
      few_words = h.model.few_words;
      few_ins = h.model.few_ins;
      few_outs = h.model.few_outs;
      few_rows = omega (arith, length_push m.run row, less 64 (length m.change + length m.run) f.limit);
      words = h.model.words;
      memory = h.model.memory;
      ins = h.model.ins;
      outs = outs_as m new refl refl refl m.outs h.model.outs;
      change = rows_as m new refl refl refl m.change h.model.change;
      run = All-push (IsRow new) m.run row (rows_as m new refl refl refl m.run h.model.run)
          (row_as m new refl refl refl row (formed_row m false r said f.name f.width));
      runs = All-push IsRunRow m.run row h.model.runs (formed_run m r said);
      names = h.model.names;
      out_names = h.model.out_names;
    }

formed_after : (b : Block) (l : SaidLine) → IsSaidLine l → IsFormed b → IsFree b l
    → IsFormed (record b { rank = rank l; model = with_line b.model l })
formed_after b (Input name width) said h f =
    let first : b.rank ≤ 0 = ltb-false 0 b.rank f.order in
    record {
      model = with_input b name width h f;
      outs = λ k. h.outs (omega (arith, first));
      change = λ k. h.change (omega (arith, first));
      run = λ k. h.run (omega (arith, first));
    }
formed_after b (Word name width s) said h f =
    let early : b.rank ≤ 1 = ltb-false 1 b.rank f.order in
    record {
      model = with_word b name width s h f;
      outs = λ k. h.outs (omega (arith, early));
      change = λ k. h.change (omega (arith, early));
      run = λ k. h.run (omega (arith, early));
    }
formed_after b (Memory name depth width s) said h f =
    let early : b.rank ≤ 2 = ltb-false 2 b.rank f.order in
    record {
      model = with_memory b name depth width s h f;
      outs = λ k. h.outs early;
      change = λ k. h.change (omega (arith, early));
      run = λ k. h.run (omega (arith, early));
    }
formed_after b (Output name s) said h f =
    let early : b.rank ≤ 3 = ltb-false 3 b.rank f.order in
    record {
      model = with_output b name s h f;
      outs = λ k. absurd (omega (arith, k));
      change = λ k. h.change early;
      run = λ k. h.run (omega (arith, early));
    }
formed_after b (Change r) said h f =
    let early : b.rank ≤ 4 = ltb-false 4 b.rank f.order in
    record {
      model = with_change b r said h f;
      outs = λ k. absurd (omega (arith, k));
      change = λ k. absurd (omega (arith, k));
      run = λ k. h.run early;
    }
formed_after b (Run r) said h f =
    record {
      model = with_run b r said h f;
      outs = λ k. absurd (omega (arith, k));
      change = λ k. absurd (omega (arith, k));
      run = λ k. absurd (omega (arith, k));
    }
formed_after b End said h f =
    record {
      model = h.model;
      outs = λ k. absurd (omega (arith, k));
      change = λ k. absurd (omega (arith, k));
      run = λ k. absurd (omega (arith, k));
    }

-- ---- lines

unless_fault : {A : Type 0} (P : A → Type 0) (b : Bool) (fault : TableFault) (r : Result A TableFault)
    → (b ≡ false → IfOk r P) → IfOk (cond b (Err fault) r) P
unless_fault P true fault r h = tt
unless_fault P false fault r h = h refl

one_line : (at : Place) (b : Block) (l : SaidLine) → IsSaidLine l
    → IsFormed b → IfOk (after_line at b l) IsFormed
one_line at b l said h =
    unless_fault IsFormed (nat_lt (rank l) b.rank) (TableSyntax at) _ (λ order.
    unless_fault IsFormed (name_fault b.model l) (TableName at) _ (λ name.
    unless_fault IsFormed (width_fault b.model l) (TableWidth at) _ (λ width.
    unless_fault IsFormed (limit_fault b.model l) (TableLimit at) _ (λ limit.
    formed_after b l said h (record { order = order; name = name; width = width; limit = limit })))))

one_said : (at : Place) (b : Block) (o : Option SaidLine) → IfSome o IsSaidLine
    → IsFormed b → IfOk (line_said at b o) IsFormed
one_said at b None said h = tt
one_said at b (Some l) said h = one_line at b l said h

nothing_said : IsModel empty
nothing_said = record {
  few_words = omega arith;
  few_ins = omega arith;
  few_outs = omega arith;
  few_rows = omega arith;
  words = All-nil IsWord;
  memory = tt;
  ins = All-nil (λ d. IsWidth d.width);
  outs = All-nil (IsOut empty);
  change = All-nil (IsRow empty);
  run = All-nil (IsRow empty);
  runs = All-nil IsRunRow;
  names = tt;
  out_names = tt;
}

first_line : (at : Place) (ts : List SeenTable) (o : Option (List (List ℕ)))
    → IfOk (new_block at ts o) IsFormed
first_line at ts None = tt
first_line at ts (Some path) =
    unless_fault IsFormed (has_table path ts) (TableTwice at)
    (Ok (record { path = path; at = at; rank = 0; model = empty }))
    (λ fresh. record { model = nothing_said; outs = λ k. refl; change = λ k. refl; run = λ k. refl })

-- ---- files

record AreFormed (t : Tables) : Type 0 where
  tables : All (λ t. IsModel t.model) t.tables
  block : IfSome t.block IsFormed

pub in_both : {A : Type 0} (P : A → Type 0) (b : Bool) (x y : Result A TableFault)
    → IfOk x P → IfOk y P → IfOk (cond b x y) P
in_both P true x y hx hy = hx
in_both P false x y hx hy = hy

block_put : (ts : List SeenTable) (r : Result Block TableFault) → All (λ t. IsModel t.model) ts
    → IfOk r IsFormed → IfOk (put_block ts r) AreFormed
block_put ts (Err fault) all h = tt
block_put ts (Ok b) all h =
    in_both AreFormed (is_end b.rank) (Ok (record { tables = ts ++ table_of b ∷ []; block = None }))
    (Ok (record { tables = ts; block = Some b }))
    (record { tables = All-push (λ t. IsModel t.model) ts (table_of b) all h.model; block = tt })
    (record { tables = all; block = h })

line_after : (second : Bool) (ts : List SeenTable) (b : Option Block) (l : Line)
    → All (λ t. IsModel t.model) ts → IfSome b IsFormed → IfOk (next_line second ts b l) AreFormed
line_after second ts None l all h =
    block_put ts (new_block l.at ts (instrument l.words)) all (first_line l.at ts (instrument l.words))
line_after second ts (Some b) l all h = block_put ts (block_line second b l) all
    (one_said l.at b (line second l.words) (said_line second l.words) h)

ended : (end : Place) (ts : List SeenTable) (b : Option Block) → All (λ t. IsModel t.model) ts
    → IfOk (at_end end ts b) (All (λ t. IsModel t.model))
ended end ts None all = all
ended end ts (Some b) all = tt

pub then : {A B : Type 0} (P : A → Type 0) (Q : B → Type 0) (r : Result A TableFault) (next : A
    → Result B TableFault) → IfOk r P → ((a : A) → P a → IfOk (next a) Q) → IfOk (and_then r next) Q
then P Q (Ok a) next h k = k a h
then P Q (Err fault) next h k = tt

lines_formed : (second : Bool) (end : Place) (t : Tables) (ls : List Line) → AreFormed t
    → IfOk (read_lines second end t ls) (All (λ t. IsModel t.model))
lines_formed second end t [] h = ended end t.tables t.block h.tables
lines_formed second end t (l ∷ ls) h =
    then AreFormed (All (λ t. IsModel t.model)) (next_line second t.tables t.block l)
    (λ u. read_lines second end u ls) (line_after second t.tables t.block l h.tables h.block)
    (λ u k. lines_formed second end u ls k)

head_formed : (end at : Place) (o : Option Bool) (ls : List Line)
    → IfOk (after_head end at o ls) (All (λ t. IsModel t.model))
head_formed end at None ls = tt
head_formed end at (Some second) ls =
    lines_formed second end no_tables ls (record { tables = All-nil (λ t. IsModel t.model); block = tt })

file_formed : (end : Place) (ls : List Line) → IfOk (from_head end ls) (All (λ t. IsModel t.model))
file_formed end [] = tt
file_formed end (l ∷ ls) = head_formed end l.at (version l.words) ls

pub tables_formed : TablesAreModels
unfolding tables
tables_formed text = file_formed (end_of text) (lines_of text)

-- ---- what is read

unseen : (ts : List Table) → All (λ t. IsModel t.model) (map seen_table ts)
    → All (λ t. IsModel (seen_model t.model)) ts
unseen [] h = All-nil (λ t. IsModel (seen_model t.model))
unseen (t ∷ ts) h =
    All-cons (λ t. IsModel (seen_model t.model)) t ts
    (All-head (λ t. IsModel t.model) (seen_table t) (map seen_table ts) h)
    (unseen ts (All-tail (λ t. IsModel t.model) (seen_table t) (map seen_table ts) h))

pub models_formed : (r : Result (Listed Table) TableFault) (said : Result (List SeenTable) TableFault)
    → GivesTable seen_tables r said → IfOk said (All (λ t. IsModel t.model))
    → IfOk r (λ ts. All (λ t. IsModel (seen_model t.model)) ts.items)
models_formed (Err fault) said gives h = tt
models_formed (Ok ts) said gives h = unseen ts.items
    (subst (λ (s : Result (List SeenTable) TableFault). IfOk s (All (λ t. IsModel t.model))) gives h)
