-- Written commands are read again.
use Rattle.std.proofs.Common.{◌≡◌, ℕ, suc, ◌+◌, ◌/◌, ◌^◌, ◌<◌, ◌≤◌, Bool, true, false, cond, List, [], ◌∷◌}
use Rattle.std.proofs.Common.{◌++◌, length, refl, ap, sym, ◌∙◌, arith, append_assoc, length-append, Option}
use Rattle.std.proofs.Common.{Some, None, Result, Err, decimal, nat_lt, lit≤}
use Rattle.std.specs.Prelude.{◌==◌, ◌&&◌, ◌||◌, codes}
use Rattle.std.specs.Option.{option_map}
use Rattle.std.specs.List.{list_all}
use Rattle.std.specs.Char.{to_ascii_lowercase}
use Rattle.std.specs.Str.{bytes_eq, str_to_ascii_lowercase}
use Rattle.std.proofs.lemmas.Bool.Decides.{nat_tests}
use Rattle.std.proofs.lemmas.Fmt.{decimal_nonempty}
use Rattle.svf_writer.specs.SeenCommands.{SeenScan, SeenCommand, SIR, SDR, Reset, Idle, Run}
use Rattle.svf_writer.specs.Fits.{HasLength, IsWrittenScan, IsWrittenCommand}
use Rattle.svf_writer.specs.Written.{hex_text, part, scan_text, text_of}
use Rattle.svf_reader.specs.declared.parsed.Register.{Register}
use Rattle.svf_reader.specs.declared.parsed.Register.TheVariants.{Instruction, Data}
use Rattle.svf_reader.specs.declared.so_far.ReadSoFar.{ReadSoFar}
use Rattle.ij_text.specs.Bytes.{is_blank}
use Rattle.ij_text.specs.Parts.{before, longer}
use Rattle.svf_reader.specs.Texts.{plain, texts, is_parenthesis, is_any, goes_on, cut, words, runs}
use Rattle.svf_reader.specs.Texts.{after_bytes}
use Rattle.svf_reader.specs.Texts.{after_word, blanks}
use Rattle.svf_reader.specs.Commands.{Parts, SeenParsed, Scans, ToReset, ToIdle, Runs, eq_ignore_case}
use Rattle.svf_reader.specs.Commands.{any_is_one_of}
use Rattle.svf_reader.specs.Commands.{no_parts, with_part, both, one_part, then_parts, parts, after_hex}
use Rattle.svf_reader.specs.Commands.{scan_of, scan, state, cycles, run_test, parsed_by, command_of_words}
use Rattle.svf_reader.specs.Commands.{left_out_names, is_left_out, left_out}
use Rattle.svf_reader.specs.Values.{fitted, hex_bits, is_wide}
use Rattle.svf_reader.specs.Meaning.{Cause, SvfSyntax, SvfLimit, HexWide, Step, with_length}
use Rattle.svf_reader.specs.Meaning.{with_leaving_clock, scan_clocks, emit_within_clock_limit, part_wide}
use Rattle.svf_reader.specs.Meaning.{part_of}
use Rattle.svf_reader.specs.Meaning.{any_wide, scan_with, scan_command, scanned, effect_of, if_parsed}
use Rattle.svf_reader.specs.Meaning.{unless_left_out, read_command, at_end, and_then, read_from}
use Rattle.svf_reader.specs.Scripts.{again}
use Rattle.svf_reader.proofs.Whole.{texts_some, read_more}
use Rattle.svf_reader.proofs.Digits.{is_quiet, AreDecimal, decimal_written, number_again, hex_list, stands}
use Rattle.svf_reader.proofs.Again.{AreQuiet, quiet_both, command_cut, AreInWord, word_cut, text_quiet}
use Rattle.svf_reader.proofs.Again.{PartRead, text_read}
use Rattle.std.proofs.lemmas.Bool.{and_parts}

-- ---- a blank before

blank_cut : (alone : ℕ → Bool) (b : ℕ) (t : List ℕ) → is_blank b ≡ true → cut alone (b ∷ t) ≡ cut alone t
blank_cut alone b t h =
    ap (λ k. cond k (cut alone t)
    (cond (alone b) ((b ∷ []) ∷ cut alone t) (longer (goes_on alone t) b (cut alone t)))) h

same_words : (kept : ReadSoFar) (ended : Bool) (t u : List ℕ) (o : Option (List ℕ)) → words t ≡ words u
    → unless_left_out kept ended t o ≡ unless_left_out kept ended u o
same_words kept ended t u (Some w) e = refl
same_words kept ended t u None e =
    ap (λ ws. cond ended (if_parsed kept (command_of_words ws))
    (let r : Result Step Cause = Err SvfSyntax in r)) e

blank_comes : (kept : ReadSoFar) (ended : Bool) (b : ℕ) (t : List ℕ) → is_blank b ≡ true
    → read_command kept ended (b ∷ t) ≡ read_command kept ended t
unfolding read_command
blank_comes kept ended b t h =
    same_words kept ended (b ∷ t) t (left_out (words (b ∷ t)) (after_word (b ∷ t))) (blank_cut
    is_parenthesis b t h)
    ∙ ap (λ ws. unless_left_out kept ended t (left_out ws (after_word (b ∷ t)))) (blank_cut is_parenthesis b
    t h)
    ∙ ap (λ k. unless_left_out kept ended t
    (left_out (words t) (cond k (after_word t) (cond (is_parenthesis b) t (after_bytes t))))) h

blank_at : (kept : ReadSoFar) (at b : ℕ) (t : List ℕ) (ts : List (List ℕ)) → is_blank b ≡ true
    → read_from kept at ((b ∷ t) ∷ ts) ≡ read_from kept (suc at) (t ∷ ts)
blank_at kept at b t [] h =
    let start : at + suc (blanks t) ≡ suc at + blanks t = omega arith in
    ap (λ ws. at_end ws (read_command kept false (b ∷ t)) (at + blanks (b ∷ t))) (blank_cut is_parenthesis b
    t h)
    ∙ ap (λ r. at_end (words t) r (at + blanks (b ∷ t))) (blank_comes kept false b t h)
    ∙ ap (λ k. at_end (words t) (read_command kept false t) (at + cond k (suc (blanks t)) 0)) h
    ∙ ap (λ n. at_end (words t) (read_command kept false t) n) start
blank_at kept at b t (u ∷ us) h =
    let start : at + suc (blanks t) ≡ suc at + blanks t = omega arith in
    let next : suc (at + suc (length t)) ≡ suc (suc at + length t) = omega arith in
    ap (λ r. and_then r (at + blanks (b ∷ t)) (λ k. read_from k (suc (at + suc (length t))) (u ∷ us)))
    (blank_comes kept true b t h)
    ∙ ap (λ c. and_then (read_command kept true t) (at + cond c (suc (blanks t)) 0)
    (λ k. read_from k (suc (at + suc (length t))) (u ∷ us))) h
    ∙ ap (λ n. and_then (read_command kept true t) n
    (λ k. read_from k (suc (at + suc (length t))) (u ∷ us))) start
    ∙ ap (λ n. and_then (read_command kept true t) (suc at + blanks t) (λ k. read_from k n (u ∷ us))) next

-- a blank that ends no command goes before a text
pub blank_front : (kept : ReadSoFar) (at b : ℕ) (xs : List ℕ) → is_blank b ≡ true → (b == 59) ≡ false
    → read_from kept at (texts (b ∷ xs)) ≡ read_from kept (suc at) (texts xs)
blank_front kept at b xs h other =
    let some = texts_some xs in
    ap (λ k. read_from kept at (cond k ([] ∷ texts xs) (before b (texts xs)))) other
    ∙ ap (λ l. read_from kept at (before b l)) some.2
    ∙ blank_at kept at b some.0 some.1 h
    ∙ ap (λ l. read_from kept (suc at) l) (sym some.2)

-- ---- a command's text

parsed_read : (kept : ReadSoFar) (body : List ℕ) (s : SeenParsed)
    → left_out (words body) (after_word body) ≡ None → command_of_words (words body) ≡ Some s
    → read_command kept true body ≡ effect_of kept s
unfolding read_command
parsed_read kept body s none is =
    ap (unless_left_out kept true body) none ∙ ap (if_parsed kept) is

pub quiet_by_test : (xs : List ℕ) → list_all is_quiet xs ≡ true → AreQuiet xs
quiet_by_test [] h = tt
quiet_by_test (b ∷ bs) h =
    let both = and_parts (is_quiet b) (list_all is_quiet bs) h in (both.0, quiet_by_test bs both.1)

pub record Spelled (text : List ℕ) (s : SeenParsed) : Type 0 where
  pub body : List ℕ
  pub text_is : text ≡ body ++ (59 ∷ 10 ∷ [])
  pub quiet : AreQuiet body
  pub starts : blanks body ≡ 0
  pub read_here : left_out (words body) (after_word body) ≡ None
  pub says_so : command_of_words (words body) ≡ Some s

-- ---- decimal numbers as words

in_words : (alone : ℕ → Bool) → ((b : ℕ) → is_parenthesis b ≡ false → alone b ≡ false)
    → (w : List ℕ) → AreDecimal w → AreInWord alone w
in_words alone other [] h = tt
in_words alone other (b ∷ bs) h = (h.0.blank, other b h.0.mark, in_words alone other bs h.1)

decimal_quiet : (w : List ℕ) → AreDecimal w → AreQuiet w
decimal_quiet [] h = tt
decimal_quiet (b ∷ bs) h = (h.0.quiet, decimal_quiet bs h.1)

decimal_cut : (alone : ℕ → Bool) → ((b : ℕ) → is_parenthesis b ≡ false → alone b ≡ false) → (w rest : List ℕ)
    → 0 < length w → AreDecimal w → goes_on alone rest ≡ false → cut alone (w ++ rest) ≡ w ∷ cut alone rest
decimal_cut alone other [] rest some h stops = absurd (omega arith)
decimal_cut alone other (b ∷ bs) rest some h stops =
    word_cut alone b bs rest (in_words alone other (b ∷ bs) h) stops

-- a number says no name
no_letter : (b c : ℕ) → nat_lt b 65 ≡ true → 65 ≤ c → (to_ascii_lowercase b == c) ≡ false
no_letter b c h k = grind (arith, nat_tests)

no_name : (c : ℕ) (cs w : List ℕ) → 65 ≤ to_ascii_lowercase c → AreDecimal w → eq_ignore_case (c ∷ cs) w ≡
    false
no_name c cs [] k h = refl
no_name c cs (b ∷ bs) k h =
    ap (λ (t : Bool). t && bytes_eq (str_to_ascii_lowercase bs) (str_to_ascii_lowercase cs))
    (no_letter b (to_ascii_lowercase c) h.0.letter k)

-- ---- RUNTEST

run_spelled : (n : ℕ) → n ≤ 999999999 → Spelled (text_of (Run n)) (Runs n)
unfolding left_out is_left_out command_of_words parsed_by run_test cycles
run_spelled n few =
    let fits : n < 2 ^ 64 = omega arith in
    let is = decimal_written n fits in
    let some : 0 < length (decimal n) = decimal_nonempty n fits in
    let w = decimal n in
    let body : List ℕ = codes "RUNTEST " ++ (w ++ codes " TCK") in
    let ws : words body ≡ codes "RUNTEST" ∷ w ∷ codes "TCK" ∷ [] = ap (λ (l : List (List ℕ)). codes "RUNTEST"
    ∷ l) (decimal_cut is_parenthesis (λ b m. m) w (codes " TCK") some is.bytes refl) in
    let rs : runs (after_word body) ≡ w ∷ codes "TCK" ∷ [] =
    decimal_cut is_any (λ b m. refl) w (codes " TCK") some is.bytes refl in
    let reset : eq_ignore_case (codes "RESET") w ≡ false = no_name 82 (codes "ESET") w (lit≤ tt) is.bytes in
    let drpause : eq_ignore_case (codes "DRPAUSE") w ≡ false = no_name 68 (codes "RPAUSE") w (lit≤ tt) is.bytes in
    let irpause : eq_ignore_case (codes "IRPAUSE") w ≡ false = no_name 73 (codes "RPAUSE") w (lit≤ tt) is.bytes in
    let sck : eq_ignore_case (codes "SCK") w ≡ false = no_name 83 (codes "CK") w (lit≤ tt) is.bytes in
    let sec : eq_ignore_case (codes "SEC") w ≡ false = no_name 83 (codes "EC") w (lit≤ tt) is.bytes in
    let maximum : eq_ignore_case (codes "MAXIMUM") w ≡ false = no_name 77 (codes "AXIMUM") w (lit≤ tt) is.bytes in
    let idle : eq_ignore_case (codes "IDLE") w ≡ false = no_name 73 (codes "DLE") w (lit≤ tt) is.bytes in
    let one : any_is_one_of (codes "RESET" ∷ []) (w ∷ codes "TCK" ∷ [])
    ≡ false = ap (λ k. (k || false) || false) reset in
    let rest : any_is_one_of left_out_names (w ∷ codes "TCK" ∷ []) ≡ false =
    ap (λ k. (k || (eq_ignore_case (codes "IRPAUSE") w || (eq_ignore_case (codes "SCK") w ||
    (eq_ignore_case (codes "SEC") w || (eq_ignore_case (codes "MAXIMUM") w || false))))) || false) drpause
    ∙ ap (λ k. (k || (eq_ignore_case (codes "SCK") w ||
    (eq_ignore_case (codes "SEC") w || (eq_ignore_case (codes "MAXIMUM") w || false)))) || false) irpause
    ∙ ap (λ k. (k || (eq_ignore_case (codes "SEC") w || (eq_ignore_case (codes "MAXIMUM") w || false))) || false) sck
    ∙ ap (λ k. (k || (eq_ignore_case (codes "MAXIMUM") w || false)) || false) sec
    ∙ ap (λ k. (k || false) || false) maximum in
    let both : (any_is_one_of (codes "RESET" ∷ [])
    (w ∷ codes "TCK" ∷ []) || any_is_one_of left_out_names (w ∷ codes "TCK" ∷ []))
    ≡ false = ap (λ k. k || any_is_one_of left_out_names (w ∷ codes "TCK" ∷ [])) one ∙ rest in
    record {
      body = body;
      text_is = simp append_assoc;
      quiet = quiet_both (codes "RUNTEST ") (w ++ codes " TCK") (quiet_by_test (codes "RUNTEST ") refl)
          (quiet_both w (codes " TCK") (decimal_quiet w is.bytes) (quiet_by_test (codes " TCK") refl));
      starts = refl;
      read_here = ap (λ l. left_out l (after_word body)) ws
          ∙ ap (λ rs. cond (any_is_one_of (codes "RESET" ∷ []) rs || any_is_one_of left_out_names rs)
          (Some (codes "RUNTEST")) (let o : Option (List ℕ) = None in o)) rs
          ∙ ap (λ k. cond k (Some (codes "RUNTEST")) (let o : Option (List ℕ) = None in o)) both;
      says_so = ap command_of_words ws
          ∙ ap (λ k. cond k (cycles (codes "TCK" ∷ [])) (cycles (w ∷ codes "TCK" ∷ []))) idle
          ∙ ap (option_map Runs) (number_again n (omega arith));
    }

-- ---- scans

-- a part's name, its digits in parentheses, and the words after them
part_step : (n : ℕ) (p q : Parts) (name digits : List ℕ) (text rest : List (List ℕ))
    → with_part name digits p ≡ Some q → PartRead text digits rest
    → parts (suc n) p (name ∷ codes "(" ∷ text) ≡ parts n q rest
unfolding one_part
part_step n p q name digits text rest e read =
    let next : Parts → List (List ℕ) → Option Parts = λ q rest. parts n q rest in
    ap (λ ds. then_parts (both (with_part name ds p) (after_hex false text)) next) read.digits_are
    ∙ ap (λ o. then_parts (both o (after_hex false text)) next) e
    ∙ ap (λ o. then_parts (both (Some q) o) next) read.after

-- the digits of some bits
abbrev written : List Bool → List ℕ
written bits = hex_list bits ((length bits + 3) / 4)

abbrev parts_text : Option (List Bool) → Option (List Bool) → Option (List Bool) → List ℕ
parts_text tdi tdo mask = part (codes " TDI (") tdi
    ++ (part (codes " TDO (") tdo ++ part (codes " MASK (") mask)

abbrev written_parts : Option (List Bool) → Option (List Bool) → Option (List Bool) → Parts
written_parts tdi tdo mask = record {
  tdi = option_map written tdi;
  tdo = option_map written tdo;
  mask = option_map written mask;
  smask = None;
}

close : (h t : List ℕ) → (h ++ codes ")") ++ t ≡ h ++ (41 ∷ t)
close h t = append_assoc h (codes ")") t

pub one_part_read : (len : ℕ) (a : List Bool) → 1 ≤ len → length a ≡ len
    → parts 4 no_parts (words (parts_text (Some a) None None)) ≡ Some (written_parts (Some a) None None)
one_part_read len a some la =
    ap (λ (l : List ℕ). parts 4 no_parts (codes "TDI" ∷ codes "(" ∷ words l)) (close (hex_text a) [])
    ∙ part_step 3 no_parts (written_parts (Some a) None None) (codes "TDI") (written a)
    (words (hex_text a ++ (41 ∷ []))) (words []) refl (text_read a [] (omega arith))

pub three_parts_read : (len : ℕ) (a b c : List Bool) → 1 ≤ len → length a ≡ len → length b ≡ len
    → length c ≡ len → parts 4 no_parts (words (parts_text (Some a) (Some b) (Some c)))
    ≡ Some (written_parts (Some a) (Some b) (Some c))
three_parts_read len a b c some la lb lc =
    let mask : List ℕ = codes " MASK (" ++ (hex_text c ++ codes ")") in
    let tdo : List ℕ = codes " TDO (" ++ (hex_text b ++ codes ")") in
    let p1 = written_parts (Some a) None None in
    let p2 = written_parts (Some a) (Some b) None in
    let p3 = written_parts (Some a) (Some b) (Some c) in
    ap (λ (l : List ℕ). parts 4 no_parts (codes "TDI" ∷ codes "(" ∷ words l))
    (close (hex_text a) (tdo ++ mask))
    ∙ part_step 3 no_parts p1 (codes "TDI") (written a) (words (hex_text a ++ (41 ∷ (tdo ++ mask))))
    (words (tdo ++ mask)) refl (text_read a (tdo ++ mask) (omega arith))
    ∙ ap (λ (l : List ℕ). parts 3 p1 (codes "TDO" ∷ codes "(" ∷ words l)) (close (hex_text b) mask)
    ∙ part_step 2 p1 p2 (codes "TDO") (written b) (words (hex_text b ++ (41 ∷ mask)))
    (words mask) refl (text_read b mask (omega arith))
    ∙ ap (λ (l : List ℕ). parts 2 p2 (codes "MASK" ∷ codes "(" ∷ words l)) (append_nil_close (hex_text c))
    ∙ part_step 1 p2 p3 (codes "MASK") (written c) (words (hex_text c ++ (41 ∷ [])))
    (words []) refl (text_read c [] (omega arith))
  where
    append_nil_close : (h : List ℕ) → h ++ codes ")" ≡ h ++ (41 ∷ [])
    append_nil_close h = refl

part_quiet : (word : List ℕ) (bits : Option (List Bool)) → AreQuiet word → AreQuiet (part word bits)
part_quiet word None h = tt
part_quiet word (Some bits) h = quiet_both word (hex_text bits ++ codes ")") h
    (quiet_both (hex_text bits) (codes ")") (text_quiet bits) (quiet_by_test (codes ")") refl))

-- a scan whose parts are read, after the word of its register
module _ (name : List ℕ) (register : Register)
    (first : (xs : List ℕ) → words ((name ++ codes " ") ++ xs) ≡ name ∷ words xs)
    (reads : (ws : List (List ℕ)) (rest : List ℕ) → left_out (name ∷ ws) rest ≡ None)
    (scans : (ws : List (List ℕ)) → command_of_words (name ∷ ws) ≡ scan register ws)
    (quiet_name : AreQuiet (name ++ codes " "))
    (starts : (xs : List ℕ) → blanks ((name ++ codes " ") ++ xs) ≡ 0) where
  sized : (len : ℕ) (p : Parts) → 1 ≤ len → scan_of register (Some len) (Some p) ≡ Some (Scans register len p)
  sized len p some =
      let more : (len == 0) ≡ false = grind (arith, nat_tests) in
      ap (λ k. cond k None (let o : Option SeenParsed = Some (Scans register len p) in o)) more

  scan_spelled : (s : SeenScan) (p : Parts) → 1 ≤ s.len → s.len ≤ 65536
      → goes_on is_parenthesis (parts_text s.tdi s.tdo s.mask) ≡ false
      → parts 4 no_parts (words (parts_text s.tdi s.tdo s.mask)) ≡ Some p
      → Spelled (scan_text (name ++ codes " ") s) (Scans register s.len p)
  unfolding scan
  scan_spelled s p some few stops read =
      let n = s.len in
      let w = decimal n in
      let fits : n < 2 ^ 64 = omega arith in
      let is = decimal_written n fits in
      let there : 0 < length w = decimal_nonempty n fits in
      let tdi = part (codes " TDI (") s.tdi in
      let tdo = part (codes " TDO (") s.tdo in
      let mask = part (codes " MASK (") s.mask in
      let all = parts_text s.tdi s.tdo s.mask in
      let word = name ++ codes " " in
      let body : List ℕ = word ++ (w ++ all) in
      let ws : words body ≡ name ∷ w ∷ words all = first (w ++ all) ∙ ap (λ (l : List (List ℕ)). name ∷ l)
      (decimal_cut is_parenthesis (λ b m. m) w all there is.bytes stops) in
      record {
        body = body;
        text_is = simp append_assoc;
        quiet = quiet_both word (w ++ all) quiet_name (quiet_both w all (decimal_quiet w is.bytes)
            (quiet_both tdi (tdo ++ mask)
            (part_quiet (codes " TDI (") s.tdi (quiet_by_test (codes " TDI (") refl))
            (quiet_both tdo mask (part_quiet (codes " TDO (") s.tdo (quiet_by_test (codes " TDO (") refl))
            (part_quiet (codes " MASK (") s.mask (quiet_by_test (codes " MASK (") refl)))));
        starts = starts (w ++ all);
        read_here = ap (λ l. left_out l (after_word body)) ws ∙ reads (w ∷ words all) (after_word body);
        says_so = ap command_of_words ws ∙ scans (w ∷ words all)
            ∙ ap (λ k. scan_of register k (parts 4 no_parts (words all))) (number_again n (omega arith))
            ∙ ap (scan_of register (Some n)) read ∙ sized n p some;
      }

-- what such a scan does
part_again : (len : ℕ) (bits : List Bool) → length bits ≡ len
    → (part_of len (Some (written bits)) ≡ Some bits) × (part_wide len (Some (written bits)) ≡ false)
part_again len bits e =
    let is = stands bits in (
      ap (λ k. let o : Option (List Bool) = Some (fitted k (hex_bits (written bits))) in o) (sym e)
          ∙ ap (λ l. let o : Option (List Bool) = Some l in o) is.bits_are,
      ap (λ k. is_wide k (hex_bits (written bits))) (sym e) ∙ is.narrow,
    )

maybe_again : (len : ℕ) (bits : Option (List Bool)) → HasLength len bits
    → (part_of len (option_map written bits) ≡ bits) × (part_wide len (option_map written bits) ≡ false)
maybe_again len None h = (refl, refl)
maybe_again len (Some bits) h = part_again len bits h

scan_done : (kept : ReadSoFar) (register : Register) (len : ℕ) (a : List Bool) (tdo mask : Option (List Bool))
    → len ≤ 65536 → length a ≡ len → HasLength len tdo → HasLength len mask
    → scanned kept register len (written_parts (Some a) tdo mask) ≡ emit_within_clock_limit
    (with_length register len kept) false (with_leaving_clock kept (scan_clocks register len))
    (scan_command register (record { len = len; tdi = Some a; tdo = tdo; mask = mask; smask = None }))
unfolding scanned
scan_done kept register len a tdo mask few la lo lm =
    let short : nat_lt 65536 len ≡ false = grind (arith, nat_tests) in
    let p = written_parts (Some a) tdo mask in
    let pa = part_again len a la in
    let po = maybe_again len tdo lo in
    let pm = maybe_again len mask lm in
    let go : SeenScan → Result Step Cause = λ s. emit_within_clock_limit (with_length register len kept) false
    (with_leaving_clock kept (scan_clocks register len)) (scan_command register s) in
    ap (λ k. cond k (Err SvfLimit) (cond (any_wide len p) (Err HexWide) (go (scan_with len p)))) short
    ∙ ap (λ k. cond (k || (part_wide len p.tdo || (part_wide len p.mask || false)))
    (Err HexWide) (go (scan_with len p))) pa.1
    ∙ ap (λ k. cond (k || (part_wide len p.mask || false)) (Err HexWide) (go (scan_with len p))) po.1
    ∙ ap (λ k. cond (k || false) (Err HexWide) (go (scan_with len p))) pm.1
    ∙ ap (λ (o : Option (List Bool)). go (record
    { len = len; tdi = o; tdo = part_of len p.tdo; mask = part_of len p.mask; smask = None })) pa.0
    ∙ ap (λ (o : Option (List Bool)). go
    (record { len = len; tdi = Some a; tdo = o; mask = part_of len p.mask; smask = None })) po.0
    ∙ ap (λ (o : Option (List Bool)). go
    (record { len = len; tdi = Some a; tdo = tdo; mask = o; smask = None })) pm.0

-- ---- any command

-- the text of a command says what does the same
pub record ReadAs (text : List ℕ) (c : SeenCommand) : Type 0 where
  pub parsed_is : SeenParsed
  pub spelled : Spelled text parsed_is
  pub does : (kept : ReadSoFar) → effect_of kept parsed_is ≡ again kept c

module _ (name : List ℕ) (register : Register)
    (first : (xs : List ℕ) → words ((name ++ codes " ") ++ xs) ≡ name ∷ words xs)
    (reads : (ws : List (List ℕ)) (rest : List ℕ) → left_out (name ∷ ws) rest ≡ None)
    (scans : (ws : List (List ℕ)) → command_of_words (name ∷ ws) ≡ scan register ws)
    (quiet_name : AreQuiet (name ++ codes " "))
    (starts : (xs : List ℕ) → blanks ((name ++ codes " ") ++ xs) ≡ 0)
    (same : (kept : ReadSoFar) (s : SeenScan) → emit_within_clock_limit (with_length register s.len kept)
    false
    (with_leaving_clock kept (scan_clocks register s.len)) (scan_command register s)
    ≡ again kept (scan_command register s)) where
  scan_read : (len : ℕ) (tdi tdo mask smask : Option (List Bool))
      → IsWrittenScan (record { len = len; tdi = tdi; tdo = tdo; mask = mask; smask = smask })
      → ReadAs (scan_text (name ++ codes " ")
      (record { len = len; tdi = tdi; tdo = tdo; mask = mask; smask = smask }))
      (scan_command register (record { len = len; tdi = tdi; tdo = tdo; mask = mask; smask = smask }))
  unfolding effect_of
  scan_read len None tdo mask smask h = absurd (let e = h.given in cc)
  scan_read len (Some a) tdo mask (Some m) h = absurd (let e = h.smask in cc)
  scan_read len (Some a) None (Some m) None h = absurd (let e = h.together in cc)
  scan_read len (Some a) (Some o) None None h = absurd (let e = h.together in cc)
  scan_read len (Some a) None None None h =
      let s : SeenScan = record { len = len; tdi = Some a; tdo = None; mask = None; smask = None } in
      record {
        parsed_is = Scans register len (written_parts (Some a) None None);
        spelled = scan_spelled name register first reads scans quiet_name starts s
            (written_parts (Some a) None None) h.at_least_one_bit h.bits_within_limit refl
            (one_part_read len a h.at_least_one_bit h.tdi);
        does = λ kept. scan_done kept register len a None None h.bits_within_limit h.tdi tt tt ∙ same kept s;
      }
  scan_read len (Some a) (Some o) (Some m) None h =
      let s : SeenScan = record { len = len; tdi = Some a; tdo = Some o; mask = Some m; smask = None } in
      record {
        parsed_is = Scans register len (written_parts (Some a) (Some o) (Some m));
        spelled = scan_spelled name register first reads scans quiet_name starts s
            (written_parts (Some a) (Some o) (Some m)) h.at_least_one_bit h.bits_within_limit refl
            (three_parts_read len a o m h.at_least_one_bit h.tdi h.tdo h.mask);
        does = λ kept. scan_done kept register len a (Some o)
            (Some m) h.bits_within_limit h.tdi h.tdo h.mask ∙ same kept s;
      }

pub command_read : (c : SeenCommand) → IsWrittenCommand c → ReadAs (text_of c) c
unfolding left_out is_left_out command_of_words parsed_by state effect_of
command_read (SIR s) h =
    scan_read (codes "SIR") Instruction (λ xs. refl) (λ ws rs. refl) (λ ws. refl)
    (quiet_by_test (codes "SIR ") refl) (λ xs. refl) (λ kept s. refl) s.len s.tdi s.tdo s.mask s.smask h
command_read (SDR s) h =
    scan_read (codes "SDR") Data (λ xs. refl) (λ ws rs. refl) (λ ws. refl) (quiet_by_test (codes "SDR ") refl)
    (λ xs. refl) (λ kept s. refl) s.len s.tdi s.tdo s.mask s.smask h
command_read Reset h = record {
  parsed_is = ToReset;
  spelled = record {
    body = codes "STATE RESET";
    text_is = refl;
    quiet = quiet_by_test (codes "STATE RESET") refl;
    starts = refl;
    read_here = refl;
    says_so = refl;
  };
  does = λ kept. refl;
}
command_read Idle h = record {
  parsed_is = ToIdle;
  spelled = record {
    body = codes "STATE IDLE";
    text_is = refl;
    quiet = quiet_by_test (codes "STATE IDLE") refl;
    starts = refl;
    read_here = refl;
    says_so = refl;
  };
  does = λ kept. refl;
}
command_read (Run n) h = record { parsed_is = Runs n; spelled = run_spelled n h; does = λ kept. refl }

-- in any text
pub spelled_read : (text : List ℕ) (s : SeenParsed) → Spelled text s
    → (kept : ReadSoFar) (at : ℕ) (rest : List ℕ) → read_from kept at (texts (plain (text ++ rest)))
    ≡ and_then (effect_of kept s) at (λ next. read_from next (at + length text) (texts (plain rest)))
spelled_read text s is kept at rest =
    let body = is.body in
    let cut : text ++ rest ≡ body ++ (59 ∷ 10 ∷ rest) =
    ap (λ (l : List ℕ). l ++ rest) is.text_is ∙ append_assoc body (59 ∷ 10 ∷ []) rest in
    let start : at + blanks body ≡ at = omega (arith, is.starts) in
    let end : suc (suc (at + length body))
    ≡ at + length text = omega (arith, ap length is.text_is, length-append body (59 ∷ 10 ∷ [])) in
    ap (λ (l : List ℕ). read_from kept at (texts (plain l))) cut
    ∙ ap (read_from kept at) (command_cut body (10 ∷ rest) is.quiet)
    ∙ read_more kept at body (plain (10 ∷ rest))
    ∙ ap (λ r. and_then r (at + blanks body) (λ next. read_from next (suc (at + length body))
    (texts (plain (10 ∷ rest))))) (parsed_read kept body s is.read_here is.says_so)
    ∙ ap (λ n. and_then (effect_of kept s) n
    (λ next. read_from next (suc (at + length body)) (texts (plain (10 ∷ rest))))) start
    ∙ (λ i. and_then (effect_of kept s) at
    (λ next. blank_front next (suc (at + length body)) 10 (plain rest) refl refl i))
    ∙ ap (λ n. and_then (effect_of kept s) at (λ next. read_from next n (texts (plain rest)))) end

pub written_read : (c : SeenCommand) → IsWrittenCommand c → (kept : ReadSoFar) (at : ℕ) (rest : List ℕ)
    → read_from kept at (texts (plain (text_of c ++ rest)))
    ≡ and_then (again kept c) at (λ next. read_from next (at + length (text_of c)) (texts (plain rest)))
written_read c h kept at rest =
    let read = command_read c h in
    spelled_read (text_of c) read.parsed_is read.spelled kept at rest
    ∙ ap (λ r. and_then r at (λ next. read_from next (at + length (text_of c)) (texts (plain rest))))
    (read.does kept)
