-- A note is read again: its number and its rows.
use Rattle.std.proofs.Common.{◌≡◌, ◌<◌, ◌≤◌, ◌^◌, ℕ, ◌+◌, ◌-◌, Bool, true, false, cond, Option, Some, None}
use Rattle.std.proofs.Common.{List, [], ◌∷◌, ◌++◌, length, take, drop, map, refl, ap, sym, ◌∙◌, arith}
use Rattle.std.proofs.Common.{append_assoc, append-nil, length-append, decimal}
use Rattle.std.specs.Prelude.{◌==◌, codes}
use Rattle.std.specs.Char.{is_ascii_digit}
use Rattle.std.specs.List.{AllByRecursion, list_any}
use Rattle.std.specs.Str.{bytes_eq}
use Rattle.std.proofs.lemmas.Bool.Decides.{nat_tests}
use Rattle.std.proofs.lemmas.List.{drop-drop, length-drop, length-take}
use Rattle.ij_bits.specs.BitLists.{bits_eq}
use Rattle.ij_text.specs.Bytes.{is_blank}
use Rattle.ij_text.specs.Parts.{before, split}
use Rattle.instruments.specs.declared.Counts.{Counts}
use Rattle.net_bench.specs.Instruction.{Network, Identity, Bypass}
use Rattle.net_graph.specs.declared.device.Device.{Device}
use Rattle.net_graph.specs.declared.net.Net.{Net}
use Rattle.net_graph.specs.Chain.{chain, IsRoute}
use Rattle.net_graph.specs.Held.{AreHolds}
use Rattle.net_graph.specs.Nets.{IsNet}
use Rattle.net_graph.specs.Path.{route_of}
use Rattle.net_graph.specs.Signals.{Holds, bits_at}
use Rattle.net_graph.proofs.Routes.{route_is}
use Rattle.report.specs.Paths.{register_path}
use Rattle.report.specs.Registers.{digit}
use Rattle.svf_reader.specs.Commands.{number}
use Rattle.svf_reader.specs.Scripts.{IsOnLine}
use Rattle.svf_reader.specs.Texts.{goes_on, is_any, runs}
use Rattle.svf_reader.proofs.Again.{word_cut}
use Rattle.svf_reader.proofs.Digits.{AreDecimal, decimal_written, number_again}
use Rattle.svf_notes.specs.declared.scan.Shifted.{Shifted}
use Rattle.svf_notes.specs.declared.scan.Shown.{Shown}
use Rattle.svf_notes.specs.declared.scan.Shown.TheVariants.{Written, Expected, Found}
use Rattle.svf_notes.specs.Noted.{path_rows, register_row, said_of, scan_rows, some_if}
use Rattle.svf_notes.specs.Notes.{Target, Instruction, Data, differs, digit_of, digits, expected_digit}
use Rattle.svf_notes.specs.Notes.{if_compared, is_compared, note_of, note_text, number_text, opcode_text}
use Rattle.svf_notes.specs.Notes.{other_length, path_length, range_text, row, rows, rows_if, target}
use Rattle.svf_notes.specs.Notes.{target_rows, target_text, tdi_bits, values_text}
use Rattle.svf_notes.specs.Reader.{ReadNote, ReadRow, note_in, note_of_words, note_with, read_note, read_row}
use Rattle.svf_notes.specs.Reader.{read_rows, row_and, row_at, row_of, row_with}
use Rattle.svf_notes.specs.Scans.{Scan}
use Rattle.svf_notes.proofs.InWords.{InWord, both_in, decimal_in, label_in, label_some, other_byte}
use Rattle.svf_notes.proofs.OnLine.{notes_on}
use Rattle.svf_notes.proofs.Rows.{path_short, some_bits}
use Rattle.svf_notes.proofs.Same.{after_lines}
use Rattle.ij_text.proofs.Parts.{Without, split_none, split_off}

-- ---- splitting

without_feed : (w : List ℕ) → IsOnLine w → Without 10 w
without_feed [] on = tt
without_feed (b ∷ bs) on = (on.0, without_feed bs on.1)

without_dot : (w : List ℕ) → AreDecimal w → Without 46 w
without_dot [] h = tt
without_dot (b ∷ bs) h = (other_byte is_ascii_digit b 46 h.0.digit refl, without_dot bs h.1)

-- ---- lines

abbrev marked : List ℕ → List ℕ
marked line = codes "!:" ++ line

lines_cut : (lines : List (List ℕ)) (rest : List ℕ) → AllByRecursion IsOnLine lines
    → split 10 (note_text lines ++ 10 ∷ rest) ≡ [] ∷ (map marked lines ++ split 10 rest)
lines_cut [] rest on = refl
lines_cut (line ∷ lines) rest on =
    let tail = after_lines lines rest in
    let later : [] ∷ split 10 tail.0 ≡ [] ∷ (map marked lines ++ split 10 rest) =
    ap (split 10) (sym tail.1) ∙ lines_cut lines rest on.1 in
    let others : split 10 tail.0 ≡ map marked lines ++ split 10 rest = cc in
    let whole : (line ++ note_text lines) ++ 10 ∷ rest ≡ line ++ 10 ∷ tail.0 =
    append_assoc line (note_text lines) (10 ∷ rest) ∙ ap (λ (l : List ℕ). line ++ l) tail.1 in
    ap (λ (l : List ℕ). [] ∷ split 10 (33 ∷ 58 ∷ l)) whole
    ∙ ap (λ (l : List (List ℕ)). [] ∷ l)
    (split_off 10 (33 ∷ 58 ∷ line) tail.0 (refl, (refl, without_feed line on.0)))
    ∙ ap (λ (l : List (List ℕ)). [] ∷ (marked line ∷ l)) others

-- ---- words

word_run : (w rest : List ℕ) → 1 ≤ length w → InWord w
    → goes_on is_any rest ≡ false → runs (w ++ rest) ≡ w ∷ runs rest
word_run [] rest some h stops = absurd (omega (arith, some))
word_run (b ∷ bs) rest some h stops = word_cut is_any b bs rest h stops

decimal_some : (n : ℕ) → n < 10 ^ 10 → 1 ≤ length (decimal n)
decimal_some n h = cases (decimal n) (number_again n h)
  where
    cases : (w : List ℕ) → number w ≡ Some n → 1 ≤ length w
    cases [] is = absurd (cc)
    cases (b ∷ bs) is = omega arith

-- ---- the values of a row

found_bit_at : (b : Bool) → is_blank (digit b) ≡ false
found_bit_at true = refl
found_bit_at false = refl

expected_in : (e : Option Bool) → is_blank (expected_digit e) ≡ false
expected_in None = refl
expected_in (Some b) = found_bit_at b

found_in : (e : Option Bool) (b : Bool) → is_blank (if_compared e b) ≡ false
found_in None b = refl
found_in (Some e) b = found_bit_at b

digit_in : (shown : Shown) (b : Shifted) → is_blank (digit_of shown b) ≡ false
digit_in Written b = found_bit_at b.tdi
digit_in Expected b = expected_in b.expect
digit_in Found b = found_in b.expect b.found

digits_in : (shown : Shown) (bits : List Shifted) → InWord (digits shown bits)
digits_in shown [] = tt
digits_in shown (b ∷ bs) =
    both_in (digits shown bs) (digit_of shown b ∷ []) (digits_in shown bs) (digit_in shown b, refl, tt)

digits_some : (shown : Shown) (bits : List Shifted) → 1 ≤ length bits → 1 ≤ length (digits shown bits)
digits_some shown [] some = absurd (omega (arith, some))
digits_some shown (b ∷ bs) some = omega (arith, length-append (digits shown bs) (digit_of shown b ∷ []))

module _ (bits : List Shifted) (some : 1 ≤ length bits) where
  abbrev before_text : Bool → List ℕ
  before_text k = cond k (codes " as before") []

  abbrev expects_text : Bool → List ℕ
  expects_text k = cond k (codes " expects " ++ digits Expected bits) []

  abbrev finds_text : Bool → List ℕ
  finds_text k = cond k (codes " finds " ++ digits Found bits) []

  abbrev finds_words : Bool → List (List ℕ)
  finds_words k = cond k (codes "finds" ∷ digits Found bits ∷ []) []

  abbrev expects_words : Bool → Bool → List (List ℕ)
  expects_words k l = cond k (codes "expects" ∷ digits Expected bits ∷ finds_words l) (finds_words l)

  abbrev before_words : Bool → Bool → Bool → List (List ℕ)
  before_words j k l = cond j (codes "as" ∷ codes "before" ∷ expects_words k l) (expects_words k l)

  finds_stop : (l : Bool) → goes_on is_any (finds_text l) ≡ false
  finds_stop true = refl
  finds_stop false = refl

  expects_stop : (k l : Bool) → goes_on is_any (expects_text k ++ finds_text l) ≡ false
  expects_stop true l = refl
  expects_stop false l = finds_stop l

  before_stop : (j k l : Bool) → goes_on is_any (before_text j ++ (expects_text k ++ finds_text l)) ≡ false
  before_stop true k l = refl
  before_stop false k l = expects_stop k l

  word_of : (shown : Shown) (rest : List ℕ) → goes_on is_any rest ≡ false
      → runs (digits shown bits ++ rest) ≡ digits shown bits ∷ runs rest
  word_of shown rest stops =
      word_run (digits shown bits) rest (digits_some shown bits some) (digits_in shown bits) stops

  finds_read : (l : Bool) → runs (finds_text l) ≡ finds_words l
  finds_read true =
      ap (λ (w : List ℕ). codes "finds" ∷ runs w) (sym (append-nil (digits Found bits)))
      ∙ ap (λ (ws : List (List ℕ)). codes "finds" ∷ ws) (word_of Found [] refl)
  finds_read false = refl

  expects_read : (k l : Bool) → runs (expects_text k ++ finds_text l) ≡ expects_words k l
  expects_read true l =
      ap (λ (ws : List (List ℕ)). codes "expects" ∷ ws) (word_of Expected (finds_text l) (finds_stop l)
      ∙ ap (λ (ws : List (List ℕ)). digits Expected bits ∷ ws) (finds_read l))
  expects_read false l = finds_read l

  before_some : 1 ≤ length (codes "before")
  before_some =
      let six : length (codes "before") ≡ 6 = refl in
      omega (arith, six)

  before_in : InWord (codes "before")
  before_in = (refl, refl, (refl, refl, (refl, refl, (refl, refl, (refl, refl, (refl, refl, tt))))))

  before_read : (j k l : Bool) → runs (before_text j ++ (expects_text k ++ finds_text l)) ≡ before_words j k l
  before_read true k l =
      ap (λ (ws : List (List ℕ)). codes "as" ∷ ws)
      (word_run (codes "before") (expects_text k ++ finds_text l) before_some before_in (expects_stop k l)
      ∙ ap (λ (ws : List (List ℕ)). codes "before" ∷ ws) (expects_read k l))
  before_read false k l = expects_read k l

  values_read : (held : List Bool) → runs (values_text held bits) ≡ codes "writes" ∷ digits Written bits
      ∷ before_words (bits_eq (tdi_bits bits) held) (list_any is_compared bits) (list_any differs bits)
  values_read held =
      let j = bits_eq (tdi_bits bits) held in
      let k = list_any is_compared bits in
      let l = list_any differs bits in
      ap (λ (ws : List (List ℕ)). codes "writes" ∷ ws)
      (word_of Written (before_text j ++ (expects_text k ++ finds_text l)) (before_stop j k l)
      ∙ ap (λ (ws : List (List ℕ)). digits Written bits ∷ ws) (before_read j k l))

  row_values : (j k l : Bool) (high low : ℕ) (name : List ℕ)
      → row_with high low name (digits Written bits) (before_words j k l)
      ≡ record {
        high = high;
        low = low;
        name = name;
        writes = digits Written bits;
        as_before = j;
        expects = some_if k (digits Expected bits);
        finds = some_if l (digits Found bits);
      }
  row_values true true true high low name = refl
  row_values true true false high low name = refl
  row_values true false true high low name = refl
  row_values true false false high low name = refl
  row_values false true true high low name = refl
  row_values false true false high low name = refl
  row_values false false true high low name = refl
  row_values false false false high low name = refl

-- ---- a row

module _ (net : Net) (is : IsNet net) (r at : ℕ) (held : List Bool) (bits : List Shifted)
    (some : 1 ≤ length bits) (there : r < length net.regs.items) (few : at + length held < 10 ^ 10) where
  abbrev high : ℕ
  high = at + length held - 1

  abbrev positions : List ℕ
  positions = decimal high ++ (codes ".." ++ decimal at)

  abbrev label : List ℕ
  label = register_path net r ++ range_text net r (length held)

  abbrev told_row : ReadRow
  told_row =
      record {
        high = high;
        low = at;
        name = label;
        writes = digits Written bits;
        as_before = bits_eq (tdi_bits bits) held;
        expects = some_if (list_any is_compared bits) (digits Expected bits);
        finds = some_if (list_any differs bits) (digits Found bits);
      }

  row_is : row net r at held bits ≡ codes "   " ++ (positions ++ 32 ∷ (label ++ values_text held bits))
  row_is =
      let name = register_path net r in
      let range = range_text net r (length held) in
      let values = values_text held bits in
      let rest = name ++ (range ++ values) in
      ap (λ (l : List ℕ). codes "   " ++ l)
      (append_assoc (decimal high) (codes ".." ++ (decimal at ++ codes " ")) rest
      ∙ ap (λ (l : List ℕ). decimal high ++ (codes ".." ++ l)) (append_assoc (decimal at) (codes " ") rest)
      ∙ sym (append_assoc (decimal high) (codes ".." ++ decimal at) (32 ∷ rest))
      ∙ ap (λ (l : List ℕ). positions ++ 32 ∷ l) (sym (append_assoc name range values)))

  positions_in : InWord positions
  positions_in = both_in (decimal high) (codes ".." ++ decimal at) (decimal_in high)
      (refl, refl, (refl, refl, decimal_in at))

  positions_some : 1 ≤ length positions
  positions_some =
      let two : length (codes ".." ++ decimal at)
      ≡ 2 + length (decimal at) = length-append (codes "..") (decimal at) in
      omega (arith, two, length-append (decimal high) (codes ".." ++ decimal at))

  words_are : runs (marked (row net r at held bits))
      ≡ codes "!:" ∷ positions ∷ label ∷ runs (values_text held bits)
  words_are =
      ap (λ (l : List ℕ). runs (marked l)) row_is
      ∙ ap (λ (l : List (List ℕ)). codes "!:" ∷ l)
      (word_run positions (32 ∷ (label ++ values_text held bits)) positions_some positions_in refl)
      ∙ ap (λ (l : List (List ℕ)). codes "!:" ∷ (positions ∷ l)) (word_run label (values_text held bits)
      (label_some net r (length held) is there) (label_in net r (length held) is) refl)

  parts_are : split 46 positions ≡ decimal high ∷ [] ∷ decimal at ∷ []
  parts_are =
      let top = decimal_written high (omega (arith, few)) in
      let bottom = decimal_written at (omega (arith, few)) in
      split_off 46 (decimal high) (46 ∷ decimal at) (without_dot (decimal high) top.bytes)
      ∙ ap (λ (l : List (List ℕ)). decimal high ∷ [] ∷ l)
      (split_none 46 (decimal at) (without_dot (decimal at) bottom.bytes))

  row_told : read_row (runs (marked (row net r at held bits))) ≡ Some told_row
  row_told =
      let j = bits_eq (tdi_bits bits) held in
      let k = list_any is_compared bits in
      let l = list_any differs bits in
      let later = before_words bits some j k l in
      let writes : Option (List ℕ) = Some (digits Written bits) in
      ap read_row (words_are
      ∙ ap (λ (ws : List (List ℕ)). codes "!:" ∷ (positions ∷ label ∷ ws)) (values_read bits some held))
      ∙ ap (λ (ws : List (List ℕ)). row_at ws label (codes "writes" ∷ digits Written bits ∷ later)) parts_are
      ∙ ap (λ (o : Option ℕ). row_of o (number (decimal at)) label writes later)
      (number_again high (omega (arith, few)))
      ∙ ap (λ (o : Option ℕ). row_of (Some high) o label writes later) (number_again at (omega (arith, few)))
      ∙ ap (λ (x : ReadRow). let o : Option ReadRow = Some x in o) (row_values bits some j k l high at label)

-- ---- rows

last_line : (xs : List (List ℕ)) (x : List ℕ) (more : List (List ℕ))
    → map marked (xs ++ x ∷ []) ++ more ≡ map marked xs ++ marked x ∷ more
last_line [] x more = refl
last_line (y ∷ ys) x more = ap (λ (l : List (List ℕ)). marked y ∷ l) (last_line ys x more)

module _ (net : Net) (is : IsNet net) (holds : Holds) (held : AreHolds net holds) (bits : List Shifted) where
  -- a row, and what comes after it
  row_then : (r at : ℕ) (more : List (List ℕ)) → r < length net.regs.items
      → at + length (bits_at holds r) ≤ length bits → at + length (bits_at holds r) ≤ 5000
      → read_rows (marked (row net r at (bits_at holds r) (take (length (bits_at holds r)) (drop at bits)))
      ∷ more) ≡ register_row net holds bits at r ∷ cond (at == 0) [] (read_rows more)
  row_then r at more there within few =
      let w = length (bits_at holds r) in
      let wide : 1 ≤ w = some_bits net holds r is held there in
      let some : 1 ≤ length (take w (drop at bits)) =
      omega (arith, wide, within, length-take w (drop at bits), length-drop at bits) in
      ap (λ (o : Option ReadRow). row_and o (read_rows more))
      (row_told net is r at (bits_at holds r) (take w (drop at bits)) some there (omega (arith, few)))

  inner_rows : (path : List ℕ) (at : ℕ) (more : List (List ℕ)) → IsRoute (length net.regs.items) path → 1 ≤ at
      → at + length (chain path holds) ≤ length bits → at + length (chain path holds) ≤ 5000
      → read_rows (map marked (rows net holds at path (drop at bits)) ++ more)
      ≡ path_rows net holds bits at path ++ read_rows more
  inner_rows [] at more route some within few = refl
  inner_rows (r ∷ rs) at more route some within few =
      let w = length (bits_at holds r) in
      let line = row net r at (bits_at holds r) (take w (drop at bits)) in
      let all : length (chain (r ∷ rs) holds)
      ≡ w + length (chain rs holds) = length-append (bits_at holds r) (chain rs holds) in
      let not_last : (at == 0) ≡ false = grind (arith, nat_tests) in
      let told : ReadRow = register_row net holds bits at r in
      ap (λ (l : List Shifted). read_rows (map marked (rows net holds (at + w) rs l ++ line ∷ []) ++ more))
      (drop-drop w at bits)
      ∙ ap read_rows (last_line (rows net holds (at + w) rs (drop (at + w) bits)) line more)
      ∙ inner_rows rs (at + w) (marked line ∷ more) route.2 (omega (arith, some))
      (omega (arith, within, all)) (omega (arith, few, all))
      ∙ ap (λ (l : List ReadRow). path_rows net holds bits (at + w) rs ++ l)
      (row_then r at more route.0 (omega (arith, within, all)) (omega (arith, few, all))
      ∙ ap (λ (k : Bool). told ∷ cond k [] (read_rows more)) not_last)
      ∙ sym (append_assoc (path_rows net holds bits (at + w) rs) (told ∷ []) (read_rows more))

  -- position 0 is in the last row
  all_rows : (path : List ℕ) (more : List (List ℕ)) → IsRoute (length net.regs.items) path → 1 ≤ length bits
      → length bits ≡ length (chain path holds) → length (chain path holds) ≤ 4096
      → read_rows (map marked (rows net holds 0 path bits) ++ more) ≡ path_rows net holds bits 0 path
  all_rows [] more route some same few =
      let none : length (chain [] holds) ≡ 0 = refl in
      absurd (omega (arith, some, same, none))
  all_rows (r ∷ rs) more route some same few =
      let w = length (bits_at holds r) in
      let line = row net r 0 (bits_at holds r) (take w bits) in
      let all : length (chain (r ∷ rs) holds)
      ≡ w + length (chain rs holds) = length-append (bits_at holds r) (chain rs holds) in
      let wide : 1 ≤ w = some_bits net holds r is held route.0 in
      let place : 0 + w ≡ w = omega arith in
      ap (λ (l : List Shifted). read_rows (map marked (rows net holds (0 + w) rs l ++ line ∷ []) ++ more))
      (ap (λ (n : ℕ). drop n bits) (sym place))
      ∙ ap read_rows (last_line (rows net holds (0 + w) rs (drop (0 + w) bits)) line more)
      ∙ inner_rows rs (0 + w) (marked line ∷ more) route.2 (omega (arith, wide))
      (omega (arith, same, all)) (omega (arith, few, all))
      ∙ ap (λ (l : List ReadRow). path_rows net holds bits (0 + w) rs ++ l)
      (row_then r 0 more route.0 (omega (arith, same, all)) (omega (arith, few, all)))

-- ---- a note

first_told : (n : ℕ) (text what : List ℕ) (ws : List (List ℕ)) (rs : List ReadRow) → n < 10 ^ 10
    → goes_on is_any text ≡ false → runs text ≡ what ∷ ws
    → note_of_words (runs (marked (number_text n ++ text))) rs
    ≡ Some (record { scan = n; rows = cond (bytes_eq what (codes "path")) rs [] })
first_told n text what ws rs few stops is =
    let path = cond (bytes_eq what (codes "path")) rs [] in
    ap (λ (l : List (List ℕ)). note_of_words (codes "!:" ∷ codes "scan" ∷ l) rs) (word_run (decimal n) text
    (decimal_some n few) (decimal_in n) stops ∙ ap (λ (l : List (List ℕ)). decimal n ∷ l) is)
    ∙ ap (λ (o : Option ℕ). note_with o path) (number_again n few)

module _ (net : Net) (is : IsNet net) (device : Device) (x : Scan Counts) (few : x.number < 10 ^ 10)
    (some : 1 ≤ length x.bits) (held : AreHolds net x.state.holds) (more : List (List ℕ)) where
  abbrev Told : Target → Type 0
  Told t =
      note_of_words (runs (marked (number_text x.number ++ target_text net device x t)))
      (read_rows (map marked (target_rows net x t) ++ more))
      ≡ Some (record { scan = x.number; rows = scan_rows net x t })

  told_other : (register : List ℕ) (len : ℕ) (rs : List ReadRow)
      → note_of_words (runs (marked (number_text x.number ++ other_length register (length x.bits) len))) rs
      ≡ Some (record { scan = x.number; rows = [] })
  told_other register len rs =
      first_told x.number (other_length register (length x.bits) len) (codes "has") (runs
      (decimal (length x.bits) ++ (codes " bits, the " ++ (register ++ decimal len)))) rs few refl refl

  told_instruction : (k : Bool) (rs : List ReadRow)
      → note_of_words (runs (marked (number_text x.number ++ cond k (opcode_text device (tdi_bits x.bits))
      (other_length (codes "instruction register ") (length x.bits) device.ir)))) rs
      ≡ Some (record { scan = x.number; rows = [] })
  told_instruction true rs =
      first_told x.number (opcode_text device (tdi_bits x.bits)) (codes "instruction") _ rs few refl refl
  told_instruction false rs = told_other (codes "instruction register ") device.ir rs

  abbrev len : ℕ
  len = path_length net x.state.holds

  told_path : (k : Bool) → (length x.bits == len) ≡ k
      → note_of_words (runs (marked (number_text x.number
      ++ cond k (codes " path " ++ decimal len) (other_length (codes "path ") (length x.bits) len))))
      (read_rows (map marked (rows_if k net x.state.holds x.bits) ++ more))
      ≡ Some (record {
        scan = x.number;
        rows =
            cond k (path_rows net x.state.holds x.bits 0 (route_of net x.state.holds)) [];
      })
  told_path true e =
      let holds = x.state.holds in
      let route = route_of net holds in
      let same : length x.bits ≡ len = grind (arith, nat_tests) in
      let rs = all_rows net is holds held x.bits route more
      (route_is net holds is) some same (path_short net holds is held) in
      first_told x.number (codes " path " ++ decimal len) (codes "path") (runs (decimal len))
      (read_rows (map marked (rows net holds 0 route x.bits) ++ more)) few refl refl
      ∙ ap (λ (l : List ReadRow). let n : ReadNote = record { scan = x.number; rows = l } in Some n) rs
  told_path false e = told_other (codes "path ") len (read_rows (map marked [] ++ more))

  told : (t : Target) → Told t
  told Instruction = told_instruction (length x.bits == device.ir) (read_rows more)
  told (Data Network) = told_path (length x.bits == len) refl
  told (Data Identity) =
      first_told x.number (codes " identity") (codes "identity") [] (read_rows more) few refl refl
  told (Data Bypass) = first_told x.number (codes " bypass")
      (codes "bypass") [] (read_rows more) few refl refl

pub note_read : (net : Net) (device : Device) (x : Scan Counts) (rest : List ℕ) → IsNet net
    → x.number < 10 ^ 10 → 1 ≤ length x.bits → AreHolds net x.state.holds
    → read_note (note_text (note_of net device x) ++ 10 ∷ rest) ≡ Some (said_of net device x)
note_read net device x rest is few some held =
    let t = target device x.state in
    let on = (notes_on net device (x ∷ []) is).0 in
    let cut = lines_cut (note_of net device x) rest on in
    ap note_in cut ∙ told net is device x few some held (split 10 rest) t
