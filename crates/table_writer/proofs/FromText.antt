-- What a text says has good names, and one table for a path.
use Rattle.std.proofs.Common.{◌≡◌, ◌≢◌, ℕ, zero, suc, Bool, true, false, cond, nat_lt, List, [], ◌∷◌, ◌++◌}
use Rattle.std.proofs.Common.{map, codes, Option, Some, None, refl, ap, sym, ◌∙◌, subst, arith, All}
use Rattle.std.specs.Prelude.{◌==◌, ◌&&◌, IfSome, IfOk, Result, Ok, Err, Contains}
use Rattle.std.specs.List.{list_all}
use Rattle.std.specs.Str.{bytes_eq}
use Rattle.std.proofs.lemmas.List.Elements.{All-nil, All-cons, All-push}
use Rattle.ij_bits.specs.Different.{AreDifferent}
use Rattle.ij_text.specs.declared.Place.{Place}
use Rattle.ij_text.specs.Words.{is_name}
use Rattle.ij_text.specs.Parts.{before, split}
use Rattle.table_lines.specs.Lines.{Line, lines_of, end_of}
use Rattle.table_lines.specs.Words.{slice, path as path_read, decimal as decimal_read}
use Rattle.instruments.specs.Seen.{SeenModel}
use Rattle.instruments.specs.Models.{IsModel}
use Rattle.table_lines.specs.Said.{Words, is, SaidLine, Input, Word, Memory, Output, Change, Run, End}
use Rattle.table_lines.specs.Said.{SaidRow, starts, if_there, input_line, word_line, memory_line, output_line}
use Rattle.table_lines.specs.Said.{change_line, run_line, end_line, row, line, instrument, instrument_text}
use Rattle.table_lines.specs.Said.{version}
use Rattle.table_file.specs.declared.fault.TableFault.{TableFault}
use Rattle.table_file.specs.declared.fault.TableFault.TheVariants.{TableSyntax, TableName, TableWidth}
use Rattle.table_file.specs.declared.fault.TableFault.TheVariants.{TableLimit, TableTwice}
use Rattle.table_file.specs.Tables.{SeenTable, Block, Tables, with_line, out_said, name_fault, width_fault}
use Rattle.table_file.specs.Tables.{limit_fault, rank, empty, line_said, block_line, table_of, same_path}
use Rattle.table_file.specs.Tables.{has_table, new_block, no_tables, is_end, put_block, next_line, at_end}
use Rattle.table_file.specs.Tables.{read_lines, after_head, from_head, tables}
use Rattle.table_file.proofs.FormedLines.{tables_formed, in_both, then}
use Rattle.table_file.proofs.SaidRows.{of_cond as either, of_there as there}
use Rattle.table_writer.specs.Again.{IsName, HasNames, AreWrittenBack}
use Rattle.table_writer.proofs.Lexed.{first_true}
use Rattle.table_writer.proofs.Blocks.{file_read}
use Rattle.ij_bits.proofs.Different.{different_one}
use Rattle.ij_text.proofs.EqualTexts.{bytes_same}
use Rattle.ij_bits.proofs.Tests.{or_left_false, or_right_false, and_second, not_both}
use Rattle.std.proofs.lemmas.List.{map_push}
use Rattle.std.proofs.lemmas.Bool.{and_from}

-- ---- names of lines

abbrev HasName : SaidLine → Type 0
HasName (Input name width) = IsName name
HasName (Word name width s) = IsName name
HasName (Memory name depth width s) = IsName name
HasName (Output name s) = IsName name
HasName (Change r) = Unit {0}
HasName (Run r) = Unit {0}
HasName End = Unit {0}

guarded : {A : Type 0} (P : A → Type 0) (b : Bool) (o : Option A)
    → (b ≡ true → IfSome o P) → IfSome (cond b o None) P
guarded P true o h = h refl
guarded P false o h = tt

input_name : (ws : Words) → IfSome (input_line ws) HasName
input_name [] = tt
input_name (name ∷ []) = tt
input_name (name ∷ width ∷ []) =
    guarded HasName (is_name name) (if_there (decimal_read width) (λ w. Some (Input name w)))
    (λ good. there HasName (decimal_read width) (λ w. Some (Input name w)) (λ w. good))
input_name (name ∷ width ∷ u ∷ us) = tt

word_name : (ws : Words) → IfSome (word_line ws) HasName
word_name [] = tt
word_name (name ∷ []) = tt
word_name (name ∷ width ∷ ws) =
    guarded HasName (is_name name)
    (if_there (decimal_read width) (λ w. if_there (starts ws) (λ s. Some (Word name w s))))
    (λ good. there HasName (decimal_read width) (λ w. if_there (starts ws) (λ s. Some (Word name w s)))
    (λ w. there HasName (starts ws) (λ s. Some (Word name w s)) (λ s. good)))

memory_name : (ws : Words) → IfSome (memory_line ws) HasName
memory_name [] = tt
memory_name (name ∷ []) = tt
memory_name (name ∷ depth ∷ []) = tt
memory_name (name ∷ depth ∷ width ∷ ws) =
    guarded HasName (is_name name) (if_there (decimal_read depth)
    (λ d. if_there (decimal_read width) (λ w. if_there (starts ws) (λ s. Some (Memory name d w s)))))
    (λ good. there HasName (decimal_read depth)
    (λ d. if_there (decimal_read width) (λ w. if_there (starts ws) (λ s. Some (Memory name d w s))))
    (λ d. there HasName (decimal_read width) (λ w. if_there (starts ws) (λ s. Some (Memory name d w s)))
    (λ w. there HasName (starts ws) (λ s. Some (Memory name d w s)) (λ s. good))))

output_name : (ws : Words) → IfSome (output_line ws) HasName
output_name [] = tt
output_name (name ∷ []) = tt
output_name (name ∷ e ∷ []) = tt
output_name (name ∷ e ∷ text ∷ []) =
    guarded HasName (is_name name && is (codes "=") e) (if_there (slice text) (λ s. Some (Output name s)))
    (λ good. there HasName (slice text) (λ s. Some (Output name s))
    (λ s. first_true (is_name name) (is (codes "=") e) good))
output_name (name ∷ e ∷ text ∷ u ∷ us) = tt

change_name : (o : Option SaidRow) → IfSome (change_line o) HasName
change_name None = tt
change_name (Some r) = tt

run_name : (o : Option SaidRow) → IfSome (run_line o) HasName
run_name None = tt
run_name (Some r) = tt

end_name : (ws : Words) → IfSome (end_line ws) HasName
end_name [] = tt
end_name (w ∷ ws) = tt

line_name : (second : Bool) (ws : Words) → IfSome (line second ws) HasName
unfolding line
line_name second [] = tt
line_name second (w ∷ ws) =
    either HasName (is (codes "in") w) (input_line ws) _ (input_name ws)
    (either HasName (is (codes "word") w) (word_line ws) _ (word_name ws)
    (either HasName (second && is (codes "mem") w) (memory_line ws) _ (memory_name ws)
    (either HasName (is (codes "out") w) (output_line ws) _ (output_name ws)
    (either HasName (is (codes "change") w)
    (change_line (row second true ws)) _ (change_name (row second true ws))
    (either HasName (is (codes "run") w) (run_line (row second false ws)) _ (run_name (row second false ws))
    (either HasName (is (codes "end") w) (end_line ws) None (end_name ws) tt))))))

-- ---- blocks

out_name : (m : SeenModel) (name word : List ℕ) (bounds : Option (ℕ × ℕ)) → IsName name
    → IsName (out_said m name word bounds).name
out_name m name word None h = h
out_name m name word (Some b) h = h

one_more_line : (m : SeenModel) (l : SaidLine) → HasNames m → HasName l → HasNames (with_line m l)
one_more_line m (Input name width) h good = record {
  ins = All-push (λ d. IsName d.name) m.ins (record { name = name; width = width }) h.ins good;
  words = h.words;
  memory = h.memory;
  outs = h.outs;
}
one_more_line m (Word name width s) h good = record {
  ins = h.ins;
  words = All-push (λ d. IsName d.name) m.words
      (record { name = name; width = width; init = s.init; reset = s.reset }) h.words good;
  memory = h.memory;
  outs = h.outs;
}
one_more_line m (Memory name depth width s) h good =
    record { ins = h.ins; words = h.words; memory = good; outs = h.outs }
one_more_line m (Output name s) h good = record {
  ins = h.ins;
  words = h.words;
  memory = h.memory;
  outs = All-push (λ d. IsName d.name) m.outs
      (out_said m name s.word s.bounds) h.outs (out_name m name s.word s.bounds good);
}
one_more_line m (Change r) h good = record { ins = h.ins; words = h.words; memory = h.memory; outs = h.outs }
one_more_line m (Run r) h good = record { ins = h.ins; words = h.words; memory = h.memory; outs = h.outs }
one_more_line m End h good = h

-- a path of names
record IsNamedPath (p : List (List ℕ)) : Type 0 where
  some : p ≢ []
  good : All IsName p

record IsNamedBlock (p : List (List ℕ)) (m : SeenModel) : Type 0 where
  path : IsNamedPath p
  names : HasNames m

abbrev the_block : List (List ℕ) → Place → ℕ → SeenModel → Block
the_block p at r m = record { path = p; at = at; rank = r; model = m }

abbrev BlockOf : Block → Block → Type 0
BlockOf b c = (c.path ≡ b.path) × IsNamedBlock c.path c.model

fault_or : {A : Type 0} (P : A → Type 0) (b : Bool) (fault : TableFault) (r : Result A TableFault)
    → IfOk r P → IfOk (cond b (Err fault) r) P
fault_or P true fault r h = tt
fault_or P false fault r h = h

line_after : (at : Place) (b : Block) (o : Option SaidLine) → IfSome o HasName
    → IsNamedBlock b.path b.model → IfOk (line_said at b o) (BlockOf b)
line_after at b None name h = tt
line_after at b (Some l) name h =
    let c = the_block b.path b.at (rank l) (with_line b.model l) in
    let r4 = cond (limit_fault b.model l) (Err (TableLimit at)) (Ok c) in
    let r3 = cond (width_fault b.model l) (Err (TableWidth at)) r4 in
    let r2 = cond (name_fault b.model l) (Err (TableName at)) r3 in
    fault_or (BlockOf b) (nat_lt (rank l) b.rank) (TableSyntax at) r2
    (fault_or (BlockOf b) (name_fault b.model l) (TableName at) r3
    (fault_or (BlockOf b) (width_fault b.model l) (TableWidth at) r4
    (fault_or (BlockOf b) (limit_fault b.model l) (TableLimit at) (Ok c)
    (refl, record { path = h.path; names = one_more_line b.model l h.names name }))))

some_piece : (at : ℕ) (text : List ℕ) → split at text ≢ []
some_piece at [] = λ e. absurd cc
some_piece at (b ∷ bs) = one (b == at) (split at bs)
  where
    one : (same : Bool) (ts : List (List ℕ)) → cond same ([] ∷ ts) (before b ts) ≢ []
    one true ts = λ e. absurd cc
    one false [] = λ e. absurd cc
    one false (t ∷ ts) = λ e. absurd cc

all_names : (ns : List (List ℕ)) → list_all is_name ns ≡ true → All IsName ns
all_names [] h = All-nil IsName
all_names (n ∷ ns) h = All-cons IsName n ns (first_true (is_name n) (list_all is_name ns) h)
    (all_names ns (and_second (is_name n) (list_all is_name ns) h))

path_named : (text : List ℕ) → IfSome (path_read text) IsNamedPath
unfolding path_read
path_named text = guarded IsNamedPath (list_all is_name (split 46 text)) (Some (split 46 text))
    (λ good. record { some = some_piece 46 text; good = all_names (split 46 text) good })

instrument_named : (ws : Words) → IfSome (instrument ws) IsNamedPath
unfolding instrument
instrument_named ws = there IsNamedPath (instrument_text ws) path_read (λ text. path_named text)

-- ---- different paths

own_path : (p : List (List ℕ)) → same_path p p ≡ true
own_path [] = refl
own_path (n ∷ ns) = and_from (bytes_eq n n) (same_path ns ns) (bytes_same n n refl) (own_path ns)

not_there : (p : List (List ℕ)) (ts : List SeenTable)
    → has_table p ts ≡ false → Contains (map (λ t. t.path) ts) p → ⊥
not_there p [] h (k, lt, e) = omega (arith, lt)
not_there p (t ∷ ts) h (zero, lt, e) = not_both (same_path p t.path) (ap (same_path p) e ∙ own_path p)
    (or_left_false (same_path p t.path) (has_table p ts) h)
not_there p (t ∷ ts) h (suc k, lt, e) =
    not_there p ts (or_right_false (same_path p t.path) (has_table p ts) h) (k, omega (arith, lt), e)

-- ---- files

record AreNamed (ts : List SeenTable) : Type 0 where
  all : All (λ t. IsNamedBlock t.path t.model) ts
  differ : AreDifferent (map (λ t. t.path) ts)

record IsBlockAfter (ts : List SeenTable) (b : Block) : Type 0 where
  own : IsNamedBlock b.path b.model
  fresh : Contains (map (λ t. t.path) ts) b.path → ⊥

record AreGood (t : Tables) : Type 0 where
  tables : AreNamed t.tables
  block : IfSome t.block (IsBlockAfter t.tables)

no_names : HasNames empty
no_names = record {
  ins = All-nil (λ d. IsName d.name);
  words = All-nil (λ d. IsName d.name);
  memory = tt;
  outs = All-nil (λ d. IsName d.name);
}

begun : (at : Place) (ts : List SeenTable) (o : Option (List (List ℕ))) → IfSome o IsNamedPath
    → IfOk (new_block at ts o) (IsBlockAfter ts)
begun at ts None h = tt
begun at ts (Some p) h = one (has_table p ts) refl
  where
    one : (k : Bool) → has_table p ts ≡ k
        → IfOk (cond k (Err (TableTwice at)) (Ok (record { path = p; at = at; rank = 0; model = empty })))
        (IsBlockAfter ts)
    one true is = tt
    one false is = record { own = record { path = h; names = no_names }; fresh = not_there p ts is }

block_put : (ts : List SeenTable) (r : Result Block TableFault) → AreNamed ts
    → IfOk r (IsBlockAfter ts) → IfOk (put_block ts r) AreGood
block_put ts (Err fault) all h = tt
block_put ts (Ok b) all h =
    in_both AreGood (is_end b.rank) (Ok (record { tables = ts ++ table_of b ∷ []; block = None }))
    (Ok (record { tables = ts; block = Some b }))
    (record {
      tables = record {
        all = All-push (λ t. IsNamedBlock t.path t.model) ts (table_of b) all.all h.own;
        differ = subst AreDifferent (sym (map_push (λ (t : SeenTable). t.path) ts (table_of b)))
            (different_one (map (λ (t : SeenTable). t.path) ts) b.path all.differ h.fresh);
      };
      block = tt;
    }) (record { tables = all; block = h })

still_after : (ts : List SeenTable) (b : Block) (r : Result Block TableFault) → IsBlockAfter ts b
    → IfOk r (BlockOf b) → IfOk r (IsBlockAfter ts)
still_after ts b (Err fault) h k = tt
still_after ts b (Ok c) h k = record {
  own = k.1;
  fresh = λ there. h.fresh (subst (Contains (map (λ (t : SeenTable). t.path) ts)) k.0 there);
}

one_line : (second : Bool) (ts : List SeenTable) (o : Option Block) (l : Line) → AreNamed ts
    → IfSome o (IsBlockAfter ts) → IfOk (next_line second ts o l) AreGood
one_line second ts None l all h = block_put ts (new_block l.at ts (instrument l.words)) all
    (begun l.at ts (instrument l.words) (instrument_named l.words))
one_line second ts (Some b) l all h =
    block_put ts (block_line second b l) all (still_after ts b (block_line second b l) h
    (line_after l.at b (line second l.words) (line_name second l.words) h.own))

ended : (end : Place) (ts : List SeenTable) (b : Option Block) → AreNamed ts → IfOk (at_end end ts b) AreNamed
ended end ts None all = all
ended end ts (Some b) all = tt

lines_good : (second : Bool) (end : Place) (t : Tables) (ls : List Line) → AreGood t
    → IfOk (read_lines second end t ls) AreNamed
lines_good second end t [] h = ended end t.tables t.block h.tables
lines_good second end t (l ∷ ls) h =
    then AreGood AreNamed (next_line second t.tables t.block l) (λ u. read_lines second end u ls)
    (one_line second t.tables t.block l h.tables h.block) (λ u k. lines_good second end u ls k)

head_good : (end at : Place) (o : Option Bool) (ls : List Line) → IfOk (after_head end at o ls) AreNamed
head_good end at None ls = tt
head_good end at (Some second) ls =
    lines_good second end no_tables ls (record
    { tables = record { all = All-nil (λ t. IsNamedBlock t.path t.model); differ = tt }; block = tt })

file_good : (end : Place) (ls : List Line) → IfOk (from_head end ls) AreNamed
file_good end [] = tt
file_good end (l ∷ ls) = head_good end l.at (version l.words) ls

tables_good : (text : List ℕ) → IfOk (tables text) AreNamed
unfolding tables
tables_good text = file_good (end_of text) (lines_of text)

pub written_back : AreWrittenBack
written_back text ts is =
    let good : AreNamed ts =
    subst (λ (r : Result (List SeenTable) TableFault). IfOk r AreNamed) is (tables_good text) in
    let models : All (λ t. IsModel t.model) ts = subst (λ (r : Result (List SeenTable) TableFault). IfOk r
    (All (λ t. IsModel t.model))) is (tables_formed text) in
    file_read ts
    (λ k d within.
    let own = good.all k d within in
    record { path = own.path.some; path_names = own.path.good; names = own.names; model = models k d within })
    good.differ
