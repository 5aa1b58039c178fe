-- Blocks and files of tables, read again.
use Rattle.std.proofs.Common.{◌≡◌, ℕ, zero, suc, ◌+◌, ◌<◌, ◌≤◌, Bool, true, false, cond, nat_lt, List, []}
use Rattle.std.proofs.Common.{◌∷◌, ◌++◌, length, map, get_or, Option, Some, None, codes, refl, ap, sym, ◌∙◌}
use Rattle.std.proofs.Common.{subst, arith, append_assoc, append-nil, All, length-append}
use Rattle.std.specs.Prelude.{IfSome, Result, Ok, Err, Contains}
use Rattle.std.specs.List.{list_all, flat_map}
use Rattle.std.specs.Str.{bytes_eq}
use Rattle.std.proofs.lemmas.List.Elements.{All-head, All-tail, All-weaker, Contains-append_right}
use Rattle.ij_bits.specs.Different.{AreDifferent}
use Rattle.ij_text.specs.declared.Place.{Place}
use Rattle.ij_text.specs.Words.{is_name}
use Rattle.table_lines.specs.Lines.{lines, lines_from, line_place, lines_of, end_of}
use Rattle.instruments.specs.Seen.{SeenWord, SeenMemory, SeenPort, SeenOut, SeenRow, SeenModel}
use Rattle.instruments.specs.Models.{IsWidth, IsWord, IsMemory, IsOut, IsRow, IsRunRow, IsModel, memory_names}
use Rattle.table_lines.specs.Said.{SaidLine, Input, Word, Memory, Change, Run, End, line, instrument, version}
use Rattle.table_file.specs.declared.fault.TableFault.{TableFault}
use Rattle.table_file.specs.declared.fault.TableFault.TheVariants.{TableSyntax, TableName, TableWidth}
use Rattle.table_file.specs.declared.fault.TableFault.TheVariants.{TableLimit, TableTwice}
use Rattle.table_file.specs.Tables.{SeenTable, Block, Tables, stands_in, name_fault, width_fault, limit_fault}
use Rattle.table_file.specs.Tables.{with_line, rank, line_said, empty, same_path, has_table, new_block}
use Rattle.table_file.specs.Tables.{is_end, put_block, and_then, read_lines, after_head, from_head, tables}
use Rattle.bench_file.specs.Written.{input_text, word_text, memory_text, out_text, row_text, path_text}
use Rattle.bench_file.specs.Written.{model_text, table_text, tables_text}
use Rattle.table_writer.specs.Again.{IsName, HasNames, IsTable, without_place, AreReadAgain}
use Rattle.table_writer.proofs.Lexed.{first_true, Reads, Always, IsLine, one_word, line_last, always_line}
use Rattle.table_writer.proofs.Lexed.{line_read}
use Rattle.table_writer.proofs.Joined.{IsPath, path_again, path_word}
use Rattle.table_writer.proofs.Found.{of_front, next_absent}
use Rattle.table_writer.proofs.Conds.{IsNamed, named_model, at_index}
use Rattle.table_writer.proofs.Rowed.{row_back, IsRowRead, row_read}
use Rattle.table_writer.proofs.Taken.{IsTaken, input_taken, word_taken, memory_taken, out_back, out_taken}
use Rattle.table_writer.proofs.Taken.{with_rows, row_said_as, change_taken, run_taken}
use Rattle.std.proofs.lemmas.Bool.{le-ltb, and_from, or_from}
use Rattle.ij_bits.proofs.Everywhere.{front_holds, middle_holds}
use Rattle.ij_text.proofs.EqualTexts.{bytes_are}
use Rattle.ij_bits.proofs.Tests.{and_second}

-- ---- where reading is

abbrev the_block : List (List ℕ) → Place → ℕ → SeenModel → Block
the_block p at r m = record { path = p; at = at; rank = r; model = m }

abbrev in_block : List SeenTable → Block → Tables
in_block ts b = record { tables = ts; block = Some b }

abbrev between : List SeenTable → Tables
between ts = record { tables = ts; block = None }

-- reading comes to the rest of a text in a block with this model, after lines of at most this kind
pub record ComesTo (high : ℕ) (m : SeenModel) (p : List (List ℕ)) (at end : Place) (ts : List SeenTable)
    (rest : List ℕ) (result : Result (List SeenTable) TableFault) : Type 0 where
  next : ℕ
  kind : ℕ
  within : kind ≤ high
  is : result ≡ read_lines true end (in_block ts (the_block p at kind m)) (lines_from next (lines rest))

-- a text takes a block from one model to another
abbrev pub Leads : List ℕ → ℕ → ℕ → SeenModel → SeenModel → Type 0
Leads text low high m n =
    (p : List (List ℕ)) (at end : Place) (ts : List SeenTable) (number kind : ℕ) (rest : List ℕ) → kind ≤ low
    → ComesTo high n p at end ts rest
    (read_lines true end (in_block ts (the_block p at kind m)) (lines_from number (lines (text ++ rest))))

no_text : (k : ℕ) (m : SeenModel) → Leads [] k k m m
no_text k m = λ p at end ts number kind rest h. record { next = number; kind = kind; within = h; is = refl }

pub then : (a b : List ℕ) (i j k : ℕ) (l m n : SeenModel) → Leads a i j l m
    → Leads b j k m n → Leads (a ++ b) i k l n
then a b i j k l m n first second = λ p at end ts number kind rest h.
    let x = first p at end ts number kind (b ++ rest) h in
    let y = second p at end ts x.next x.kind rest x.within in
    record {
      next = y.next;
      kind = y.kind;
      within = y.within;
      is = ap (λ t. read_lines true end (in_block ts (the_block p at kind l)) (lines_from number (lines t)))
          (append_assoc a b rest) ∙ x.is ∙ y.is;
    }

sooner : (a : List ℕ) (i j k : ℕ) (m n : SeenModel) → i ≤ j → Leads a j k m n → Leads a i k m n
sooner a i j k m n less lead =
    λ p at end ts number kind rest h. lead p at end ts number kind rest (omega (arith, h, less))

-- ---- one line

not_at_fault : {A : Type 0} (a b c d : Bool) (p q r s x : A) → a ≡ false → b ≡ false → c ≡ false → d ≡ false
    → cond a p (cond b q (cond c r (cond d s x))) ≡ x
not_at_fault a b c d p q r s x ha hb hc hd = rw (ha, hb, hc, hd)

line_step : (m : SeenModel) (text : List ℕ) (l : SaidLine) → IsTaken m text l → is_end (rank l) ≡ false
    → Leads text (rank l) (rank l) m (with_line m l)
line_step m text l t goes_on = λ p at end ts number kind rest h.
    let b = the_block p at kind m in
    let c = the_block p at (rank l) (with_line m l) in
    let here = line_place number t.own.front in
    record {
      next = suc number;
      kind = rank l;
      within = omega arith;
      is = ap (read_lines true end (in_block ts b)) (line_read text t.w t.ws t.own number rest)
          ∙ ap (λ o. and_then (put_block ts (line_said here b o))
          (λ u. read_lines true end u (lines_from (suc number) (lines rest)))) t.says
          ∙ ap (λ o. and_then (put_block ts o)
          (λ u. read_lines true end u (lines_from (suc number) (lines rest))))
          (not_at_fault (nat_lt (rank l) kind) (name_fault m l) (width_fault m l) (limit_fault m l)
          (Err (TableSyntax here)) (Err (TableName here))
          (Err (TableWidth here)) (Err (TableLimit here)) (Ok c)
          (le-ltb (rank l) kind h) t.names t.widths t.limits)
          ∙ ap (λ k. and_then
          (cond k (Ok (between (ts ++ record { path = p; at = at; model = with_line m l } ∷ []))) (Ok
          (in_block ts c))) (λ u. read_lines true end u (lines_from (suc number) (lines rest)))) goes_on;
    }

-- ---- lines of one kind

list_leads : {A : Type 0} (text : A → List ℕ) (k : ℕ) (model : List A → SeenModel) (all : List A)
    → ((front : List A) (x : A) (back : List A) → front ++ x ∷ back ≡ all
    → Leads (text x) k k (model front) (model (front ++ x ∷ [])))
    → (front xs : List A) → front ++ xs ≡ all
    → Leads (flat_map text xs) k k (model front) (model (front ++ xs))
list_leads text k model all step front [] is =
    subst (λ l. Leads [] k k (model front) (model l)) (sym (append-nil front)) (no_text k (model front))
list_leads text k model all step front (x ∷ xs) is =
    subst (λ l. Leads (text x ++ flat_map text xs) k k (model front) (model l))
    (append_assoc front (x ∷ []) xs)
    (then (text x) (flat_map text xs) k k k (model front) (model (front ++ x ∷ []))
    (model ((front ++ x ∷ []) ++ xs)) (step front x xs is)
    (list_leads text k model all step (front ++ x ∷ []) xs (append_assoc front (x ∷ []) xs ∙ is)))

shorter : {A : Type 0} (front : List A) (x : A) (back all : List A) (most : ℕ) → front ++ x ∷ back ≡ all
    → length all ≤ most → length front < most
shorter front x back all most is few = omega (arith, ap length is, length-append front (x ∷ back), few)

map_parts : {A B : Type 0} (f : A → B) (front : List A) (x : A) (back : List A)
    → map f (front ++ x ∷ back) ≡ map f front ++ f x ∷ map f back
map_parts f [] x back = refl
map_parts f (y ∷ ys) x back = ap (λ l. f y ∷ l) (map_parts f ys x back)

fresh_input : (front : List SeenPort) (x : SeenPort) (back : List SeenPort) (rest : List (List ℕ))
    → AreDifferent (map (λ d. d.name) (front ++ x ∷ back) ++ rest)
    → stands_in x.name (map (λ d. d.name) front ++ []) ≡ false
fresh_input front x back rest h =
    ap (stands_in x.name) (append-nil (map (λ (d : SeenPort). d.name) front))
    ∙ next_absent (map (λ (d : SeenPort). d.name) front) x.name (map (λ (d : SeenPort). d.name) back)
    (subst AreDifferent (map_parts (λ (d : SeenPort). d.name) front x back)
    (of_front (map (λ (d : SeenPort). d.name) (front ++ x ∷ back)) rest h))

fresh_word : (is : List (List ℕ)) (front : List SeenWord) (x : SeenWord) (back : List SeenWord)
    (rest : List (List ℕ)) → AreDifferent (is ++ (map (λ d. d.name) (front ++ x ∷ back) ++ rest))
    → stands_in x.name (is ++ (map (λ d. d.name) front ++ [])) ≡ false
fresh_word is front x back rest h =
    let ws = map (λ (d : SeenWord). d.name) front in
    let more = map (λ (d : SeenWord). d.name) back in
    ap (λ l. stands_in x.name (is ++ l)) (append-nil ws)
    ∙ next_absent (is ++ ws) x.name (more ++ rest)
    (subst AreDifferent (ap (λ l. is ++ (l ++ rest)) (map_parts (λ (d : SeenWord). d.name) front x back)
    ∙ ap (λ l. is ++ l) (append_assoc ws (x.name ∷ more) rest)
    ∙ sym (append_assoc is ws (x.name ∷ (more ++ rest)))) h)

fresh_memory : (is ws : List (List ℕ)) (n : List ℕ) → AreDifferent (is ++ (ws ++ n ∷ []))
    → stands_in n (is ++ (ws ++ [])) ≡ false
fresh_memory is ws n h =
    ap (λ l. stands_in n (is ++ l)) (append-nil ws)
    ∙ next_absent (is ++ ws) n [] (subst AreDifferent (sym (append_assoc is ws (n ∷ []))) h)

change_kind : Reads (codes "change") (codes "change" ∷ [])
change_kind = one_word (codes "change") (λ e. absurd cc) refl

run_kind : Reads (codes "run") (codes "run" ∷ [])
run_kind = one_word (codes "run") (λ e. absurd cc) refl

-- ---- a model

abbrev the_model : List SeenPort → List SeenWord → Option SeenMemory → List SeenOut
    → List SeenRow → List SeenRow → SeenModel
the_model is ws o os cs rs = record { words = ws; memory = o; ins = is; outs = os; change = cs; run = rs }

module _ (m : SeenModel) (good : HasNames m) (h : IsModel m) where
  inputs_lead : Leads (flat_map input_text m.ins) 0 0
      (the_model [] [] None [] [] []) (the_model m.ins [] None [] [] [])
  inputs_lead =
      list_leads input_text 0 (λ l. the_model l [] None [] [] []) m.ins
      (λ front x back is. line_step (the_model front [] None [] [] []) (input_text x) (Input x.name x.width)
      (input_taken (the_model front [] None [] [] []) x (middle_holds (λ d. IsName d.name) front x back
      (subst (All (λ d. IsName d.name)) (sym is) good.ins))
      (middle_holds (λ d. IsWidth d.width) front x back (subst (All (λ d. IsWidth d.width)) (sym is) h.ins))
      (fresh_input front x back (map (λ (d : SeenWord). d.name) m.words ++ memory_names m.memory)
      (subst (λ (l : List SeenPort). AreDifferent (map (λ d. d.name) l
      ++ (map (λ (d : SeenWord). d.name) m.words ++ memory_names m.memory))) (sym is) h.names))
      (shorter front x back m.ins 16 is h.few_ins)) refl) [] m.ins refl

  words_lead : Leads (flat_map word_text m.words) 1 1
      (the_model m.ins [] None [] [] []) (the_model m.ins m.words None [] [] [])
  words_lead =
      list_leads word_text 1 (λ l. the_model m.ins l None [] [] []) m.words
      (λ front x back is. line_step (the_model m.ins front None [] [] []) (word_text x)
      (Word x.name x.width (record { init = x.init; reset = x.reset }))
      (word_taken (the_model m.ins front None [] [] []) x (middle_holds (λ d. IsName d.name) front x back
      (subst (All (λ d. IsName d.name)) (sym is) good.words))
      (middle_holds IsWord front x back (subst (All IsWord) (sym is) h.words))
      (fresh_word (map (λ (d : SeenPort). d.name) m.ins) front x back (memory_names m.memory)
      (subst (λ (l : List SeenWord). AreDifferent (map (λ (d : SeenPort). d.name) m.ins
      ++ (map (λ d. d.name) l ++ memory_names m.memory))) (sym is) h.names))
      (shorter front x back m.words 8 is h.few_words)) refl) [] m.words refl

  memory_leads : (o : Option SeenMemory) → IfSome o (λ d. IsName d.name) → IfSome o IsMemory → AreDifferent
      (map (λ (d : SeenPort). d.name) m.ins ++ (map (λ (d : SeenWord). d.name) m.words ++ memory_names o))
      → Leads (memory_text o) 2 2 (the_model m.ins m.words None [] [] []) (the_model m.ins m.words o [] [] [])
  memory_leads None name is differ = no_text 2 (the_model m.ins m.words None [] [] [])
  memory_leads (Some d) name is differ =
      line_step (the_model m.ins m.words None [] [] []) (memory_text (Some d))
      (Memory d.name d.depth d.width (record { init = d.init; reset = d.reset }))
      (memory_taken (the_model m.ins m.words None [] [] []) d name is (fresh_memory (map
      (λ (d : SeenPort). d.name) m.ins) (map (λ (d : SeenWord). d.name) m.words) d.name differ) refl) refl

  outs_lead : Leads (flat_map (out_text m) m.outs) 3 3 (the_model m.ins m.words m.memory [] [] [])
      (the_model m.ins m.words m.memory m.outs [] [])
  outs_lead =
      list_leads (out_text m) 3 (λ l. the_model m.ins m.words m.memory l [] []) m.outs
      (λ front x back is.
      let n = the_model m.ins m.words m.memory front [] [] in
      let whole : All (λ d. IsName d.name) (front ++ x ∷ back) =
      subst (All (λ d. IsName d.name)) (sym is) good.outs in
      let out : IsOut m x = middle_holds (IsOut m) front x back (subst (All (IsOut m)) (sym is) h.outs) in
      let named : IsNamed n = record {
        good = record {
          ins = good.ins;
          words = good.words;
          memory = good.memory;
          outs = front_holds (λ d. IsName d.name) front (x ∷ back) whole;
        };
        differ = h.names;
        words = h.words;
        ins = h.ins;
        memory = h.memory;
      } in
      let there = in_words x.word m.words out.within in
      subst (λ d. Leads (out_text m x) 3 3 n (the_model m.ins m.words m.memory (front ++ d ∷ []) [] []))
      (out_back n named x there)
      (line_step n (out_text m x) _
      (out_taken n named x (middle_holds (λ d. IsName d.name) front x back whole) (record
      { within = out.within; order = out.order }) there (bits_within_limit x.word m.words h.words there)
      (next_absent (map (λ (d : SeenOut). d.name) front) x.name (map (λ (d : SeenOut). d.name) back)
      (subst AreDifferent (map_parts (λ (d : SeenOut). d.name) front x back)
      (subst (λ (l : List SeenOut). AreDifferent (map (λ d. d.name) l)) (sym is) h.out_names)))
      (shorter front x back m.outs 16 is h.few_outs)) refl)) [] m.outs refl
    where
      in_words : (k : ℕ) (ws : List SeenWord) → {left : ℕ}
          → left < get_or (map (λ d. d.width) ws) k 0 → k < length ws
      in_words k [] within = absurd (omega (arith, within))
      in_words zero (w ∷ ws) within = omega arith
      in_words (suc k) (w ∷ ws) within = let inner = in_words k ws within in omega (arith, inner)

      bits_within_limit : (k : ℕ) (ws : List SeenWord) → All IsWord ws → k < length ws
          → get_or (map (λ d. d.width) ws) k 0 ≤ 64
      bits_within_limit k ws all there =
          let width : IsWidth (get_or (map (λ d. d.width) ws) k 0) =
          at_index IsWidth (λ (d : SeenWord). d.width) ws k 0
          (All-weaker IsWord (λ d. IsWidth d.width) (λ d w. w.width) ws all) there in
          width.few

  changes_lead : Leads (flat_map (row_text m (codes "change")) m.change) 4 4
      (the_model m.ins m.words m.memory m.outs [] []) (the_model m.ins m.words m.memory m.outs m.change [])
  changes_lead =
      list_leads (row_text m (codes "change")) 4 (λ l. with_rows m l []) m.change
      (λ front x back is.
      let read : IsRowRead m true (codes "change") x =
      row_read m (named_model m good h) true (codes "change") change_kind x (middle_holds
      (IsRow m) front x back (subst (All (IsRow m)) (sym is) h.change)) (λ k d within. tt) in
      let less : length front < length m.change =
      shorter front x back m.change (length m.change) is (omega arith) in
      let few : length front + 0 < 64 = omega (arith, less, h.few_rows) in
      subst (λ (y : SeenRow). Leads (row_text m (codes "change") x) 4 4 (with_rows m front [])
      (with_rows m (front ++ y ∷ []) [])) (row_said_as m front [] (row_back m x) ∙ read.back)
      (line_step (with_rows m front []) (row_text m (codes "change") x) (Change (row_back m x))
      (change_taken m front [] x read few) refl)) [] m.change refl

  runs_lead : Leads (flat_map (row_text m (codes "run")) m.run) 5 5
      (the_model m.ins m.words m.memory m.outs m.change []) m
  runs_lead =
      list_leads (row_text m (codes "run")) 5 (λ l. with_rows m m.change l) m.run
      (λ front x back is.
      let present : IsRunRow x = middle_holds IsRunRow front x back (subst (All IsRunRow) (sym is) h.runs) in
      let read : IsRowRead m false (codes "run") x = row_read m (named_model m good h) false (codes "run")
      run_kind x (middle_holds (IsRow m) front x back (subst (All (IsRow m)) (sym is) h.run)) present in
      let less : length front < length m.run = shorter front x back m.run (length m.run) is (omega arith) in
      let few : length m.change + length front < 64 = omega (arith, less, h.few_rows) in
      subst (λ (y : SeenRow). Leads (row_text m (codes "run") x) 5 5 (with_rows m m.change front)
      (with_rows m m.change (front ++ y ∷ []))) (row_said_as m m.change front (row_back m x) ∙ read.back)
      (line_step (with_rows m m.change front) (row_text m (codes "run") x) (Run (row_back m x))
      (run_taken m m.change front x read few) refl)) [] m.run refl

  model_leads : Leads (model_text m) 0 5 empty m
  unfolding model_text
  model_leads =
      let m1 = the_model m.ins [] None [] [] [] in
      let m2 = the_model m.ins m.words None [] [] [] in
      let m3 = the_model m.ins m.words m.memory [] [] [] in
      let m4 = the_model m.ins m.words m.memory m.outs [] [] in
      let m5 = the_model m.ins m.words m.memory m.outs m.change [] in
      let runs = flat_map (row_text m (codes "run")) m.run in
      let rows = flat_map (row_text m (codes "change")) m.change ++ runs in
      let outs = flat_map (out_text m) m.outs ++ rows in
      let memory = memory_text m.memory ++ outs in
      let words = flat_map word_text m.words ++ memory in
      then (flat_map input_text m.ins) words 0 0 5 empty m1 m inputs_lead
      (sooner words 0 1 5 m1 m (omega arith)
      (then (flat_map word_text m.words) memory 1 1 5 m1 m2 m words_lead
      (sooner memory 1 2 5 m2 m (omega arith)
      (then (memory_text m.memory) outs 2 2 5 m2 m3 m (memory_leads m.memory good.memory h.memory h.names)
      (sooner outs 2 3 5 m3 m (omega arith) (then (flat_map (out_text m) m.outs) rows 3 3 5 m3 m4 m outs_lead
      (sooner rows 3 4 5 m4 m (omega arith)
      (then (flat_map (row_text m (codes "change")) m.change) runs 4 4 5 m4 m5 m changes_lead
      (sooner runs 4 5 5 m5 m (omega arith) runs_lead)))))))))

-- ---- a block

all_names : (ns : List (List ℕ)) → All IsName ns → list_all is_name ns ≡ true
all_names [] all = refl
all_names (n ∷ ns) all = and_from (is_name n) (list_all is_name ns) (All-head IsName n ns all)
    (all_names ns (All-tail IsName n ns all))

instrument_word : Always (codes "instrument ") (codes "instrument" ∷ [])
instrument_word = record { plain = refl; reads = λ rest. refl }

head_line : (p : List (List ℕ)) → IsPath p
    → IsLine (codes "instrument " ++ (path_text p ++ codes "\n")) (codes "instrument" ∷ path_text p ∷ [])
head_line p h = always_line (codes "instrument ") (path_text p ++ codes "\n") (codes "instrument" ∷ [])
    (path_text p ∷ []) instrument_word (line_last (path_text p) (path_text p ∷ []) (path_word p h))

head_said : (p : List (List ℕ)) → IsPath p → instrument (codes "instrument" ∷ path_text p ∷ []) ≡ Some p
unfolding instrument
head_said p h = path_again p h

first_step : (p : List (List ℕ)) (h : IsPath p) (ts : List SeenTable) → has_table p ts ≡ false
    → (end : Place) (number : ℕ) (rest : List ℕ)
    → read_lines true end (between ts)
    (lines_from number (lines ((codes "instrument " ++ (path_text p ++ codes "\n")) ++ rest)))
    ≡ read_lines true end (in_block ts (the_block p (line_place number (head_line p h).front) 0 empty))
    (lines_from (suc number) (lines rest))
first_step p h ts fresh end number rest =
    let here = line_place number (head_line p h).front in
    let more = lines_from (suc number) (lines rest) in
    ap (read_lines true end (between ts)) (line_read (codes "instrument " ++ (path_text p ++ codes "\n"))
    (codes "instrument") (path_text p ∷ []) (head_line p h) number rest)
    ∙ ap (λ (o : Option (List (List ℕ))). and_then (put_block ts (new_block here ts o))
    (λ u. read_lines true end u more)) (head_said p h)
    ∙ ap (λ (k : Bool). and_then (put_block ts (cond k (Err (TableTwice here))
    (Ok (the_block p here 0 empty)))) (λ u. read_lines true end u more)) fresh

end_line : IsLine (codes "end\n") (codes "end" ∷ [])
end_line = record { front = codes "end"; is = refl; own = one_word (codes "end") (λ e. absurd cc) refl }

end_said : line true (codes "end" ∷ []) ≡ Some End
unfolding line
end_said = refl

end_step : (p : List (List ℕ)) (at : Place) (kind : ℕ) (m : SeenModel) (ts : List SeenTable) → kind ≤ 6
    → (end : Place) (number : ℕ) (rest : List ℕ)
    → read_lines true end (in_block ts (the_block p at kind m))
    (lines_from number (lines (codes "end\n" ++ rest)))
    ≡ read_lines true end (between (ts ++ record { path = p; at = at; model = m } ∷ []))
    (lines_from (suc number) (lines rest))
end_step p at kind m ts low end number rest =
    let b = the_block p at kind m in
    let here = line_place number end_line.front in
    let more = lines_from (suc number) (lines rest) in
    ap (read_lines true end (in_block ts b)) (line_read (codes "end\n") (codes "end") [] end_line number rest)
    ∙ ap (λ (o : Option SaidLine). and_then (put_block ts (line_said here b o))
    (λ u. read_lines true end u more)) end_said
    ∙ ap (λ (k : Bool). and_then (put_block ts (cond k (Err (TableSyntax here)) (Ok (the_block p at 6 m))))
    (λ u. read_lines true end u more)) (le-ltb 6 kind low)

abbrev read_at : SeenTable → Place → SeenTable
read_at t at = record { path = t.path; at = at; model = t.model }

-- reading comes after a block
record IsBlockRead (t : SeenTable) (ts : List SeenTable) (end : Place) (rest : List ℕ)
    (result : Result (List SeenTable) TableFault) : Type 0 where
  next : ℕ
  place : Place
  is : result ≡ read_lines true end (between (ts ++ read_at t place ∷ [])) (lines_from next (lines rest))

block_read : (t : SeenTable) → IsTable t → (ts : List SeenTable) → has_table t.path ts ≡ false
    → (end : Place) (number : ℕ) (rest : List ℕ)
    → IsBlockRead t ts end rest
    (read_lines true end (between ts) (lines_from number (lines (table_text t ++ rest))))
unfolding table_text
block_read t h ts fresh end number rest =
    let path : IsPath t.path = record { some = h.path; good = all_names t.path h.path_names } in
    let here = line_place number (head_line t.path path).front in
    let a = codes "instrument " ++ (path_text t.path ++ codes "\n") in
    let b = model_text t.model in
    let low : 0 ≤ 0 = omega arith in
    let x = model_leads t.model h.names h.model t.path here end ts
    (suc number) 0 (codes "end\n" ++ rest) low in
    record {
      next = suc x.next;
      place = here;
      is = ap (λ s. read_lines true end (between ts) (lines_from number (lines s)))
          (append_assoc a (b ++ codes "end\n") rest)
          ∙ first_step t.path path ts fresh end number ((b ++ codes "end\n") ++ rest)
          ∙ ap (λ s. read_lines true end (in_block ts (the_block t.path here 0 empty))
          (lines_from (suc number) (lines s))) (append_assoc b (codes "end\n") rest)
          ∙ x.is ∙ end_step t.path here x.kind t.model ts (omega (arith, x.within)) end x.next rest;
    }

-- ---- different paths

equal_paths : (a b : List (List ℕ)) → same_path a b ≡ true → a ≡ b
equal_paths [] [] h = refl
equal_paths [] (y ∷ ys) h = absurd cc
equal_paths (x ∷ xs) [] h = absurd cc
equal_paths (x ∷ xs) (y ∷ ys) h =
    ap (λ z. z ∷ xs) (bytes_are x y (first_true (bytes_eq x y) (same_path xs ys) h))
    ∙ ap (λ l. y ∷ l) (equal_paths xs ys (and_second (bytes_eq x y) (same_path xs ys) h))

other_path : (a b : List (List ℕ)) → (a ≡ b → ⊥) → same_path a b ≡ false
other_path a b differ = one (same_path a b) refl
  where
    one : (same : Bool) → same_path a b ≡ same → same ≡ false
    one true is = absurd (differ (equal_paths a b is))
    one false is = refl

no_table : (p : List (List ℕ)) (ts : List SeenTable)
    → (Contains (map (λ t. t.path) ts) p → ⊥) → has_table p ts ≡ false
no_table p [] none = refl
no_table p (t ∷ ts) none = or_from (same_path p t.path) (has_table p ts)
    (other_path p t.path (λ e. none (zero, omega arith, sym e))) (no_table p ts (λ c. none (one_further c)))
  where
    one_further : Contains (map (λ t. t.path) ts) p → Contains (map (λ t. t.path) (t ∷ ts)) p
    one_further (k, lt, e) = (suc k, omega (arith, lt), e)

not_before : {A : Type 0} (xs : List A) (n : A) (ys : List A)
    → AreDifferent (xs ++ n ∷ ys) → Contains xs n → ⊥
not_before [] n ys h (k, lt, e) = omega (arith, lt)
not_before (x ∷ xs) n ys h (zero, lt, e) =
    h.0 (Contains-append_right xs (n ∷ ys) x (zero, omega arith, sym e))
not_before (x ∷ xs) n ys h (suc k, lt, e) = not_before xs n ys h.1 (k, omega (arith, lt), e)

-- ---- files

record IsRead (done us : List SeenTable) (result : Result (List SeenTable) TableFault) : Type 0 where
  given : List SeenTable
  is : result ≡ Ok given
  same : map without_place given ≡ map without_place done ++ map without_place us

all_read : (done us : List SeenTable) → All IsTable us
    → AreDifferent (map (λ t. t.path) done ++ map (λ t. t.path) us) → (end : Place) (number : ℕ)
    → IsRead done us (read_lines true end (between done) (lines_from number (lines (flat_map table_text us))))
all_read done [] all differ end number =
    record { given = done; is = refl; same = sym (append-nil (map without_place done)) }
all_read done (t ∷ ts) all differ end number =
    let paths = map (λ (u : SeenTable). u.path) done in
    let fresh = no_table t.path done (not_before paths t.path (map (λ (u : SeenTable). u.path) ts) differ) in
    let x = block_read t (All-head IsTable t ts all) done fresh end number (flat_map table_text ts) in
    let new = read_at t x.place in
    let moved : map (λ (u : SeenTable). u.path) (done ++ new ∷ []) ++ map (λ (u : SeenTable). u.path) ts
    ≡ paths ++ t.path ∷ map (λ (u : SeenTable). u.path) ts =
    ap (λ l. l ++ map (λ (u : SeenTable). u.path) ts) (map_parts (λ (u : SeenTable). u.path) done new [])
    ∙ append_assoc paths (t.path ∷ []) (map (λ (u : SeenTable). u.path) ts) in
    let y = all_read (done ++ new ∷ []) ts (All-tail IsTable t ts all)
    (subst AreDifferent (sym moved) differ) end x.next in
    record {
      given = y.given;
      is = x.is ∙ y.is;
      same = y.same ∙ ap (λ l. l ++ map without_place ts) (map_parts without_place done new [])
          ∙ append_assoc (map without_place done) (without_place t ∷ []) (map without_place ts);
    }

tables_word : Always (codes "tables ") (codes "tables" ∷ [])
tables_word = record { plain = refl; reads = λ rest. refl }

version_line : IsLine (codes "tables 2\n") (codes "tables" ∷ codes "2" ∷ [])
version_line = always_line (codes "tables ") (codes "2\n") (codes "tables" ∷ []) (codes "2" ∷ []) tables_word
    (line_last (codes "2") (codes "2" ∷ []) (one_word (codes "2") (λ e. absurd cc) refl))

version_said : version (codes "tables" ∷ codes "2" ∷ []) ≡ Some true
unfolding version
version_said = refl

pub file_read : AreReadAgain
unfolding tables lines_of tables_text
file_read ts all differ =
    let rest = flat_map table_text ts in
    let end = end_of (codes "tables 2\n" ++ rest) in
    let x = all_read [] ts all differ end 2 in (
      x.given,
      ap (from_head end)
          (line_read (codes "tables 2\n") (codes "tables") (codes "2" ∷ []) version_line 1 rest)
          ∙ ap (λ (o : Option Bool). after_head end (line_place 1 version_line.front) o
          (lines_from 2 (lines rest))) version_said ∙ x.is,
      x.same,
    )
