-- What the text of a device gives is a device.
use Rattle.std.specs.Prelude.{Option, None, Ok, Err, IfOk, IfSome, nat_le}
use Rattle.std.specs.Char.{is_ascii_hexdigit}
use Rattle.std.proofs.Common.{◌≡◌, ◌<◌, ◌≤◌, ◌^◌, ◌==◌, ◌-◌, ◌+◌, ◌*◌, ◌&&◌, ◌||◌, refl, subst, arith}
use Rattle.std.proofs.Common.{nat_lt, leb-true, ℕ, Bool, true, false, cond, Some, List, [], ◌∷◌, length}
use Rattle.std.proofs.Common.{codes}
use Rattle.std.specs.List.{list_all}
use Rattle.std.specs.Str.{bytes_eq}
use Rattle.std.proofs.lemmas.Bool.{eqb-false, leb-false, ltb-true}
use Rattle.ij_text.specs.Numbers.{hex_value}
use Rattle.ij_text.specs.Options.{both}
use Rattle.ij_text.specs.declared.Place.{Place}
use Rattle.net_graph.specs.declared.device.Device.{Device}
use Rattle.net_graph.specs.Devices.{IsDevice, IsIdentity, IsOpcode}
use Rattle.bench_file.specs.Device.{Link, Said, and_then, device, device_with, read_from_head_line}
use Rattle.bench_file.specs.Device.{read_from_idcode_line, read_from_ir_line, read_from_link_line}
use Rattle.bench_file.specs.Device.{idcode_line, idcode_words, in_range}
use Rattle.bench_file.specs.Device.{ir_words, is_head, is_idcode, is_identity, link_line, link_said}
use Rattle.bench_file.specs.Device.{link_words, needed, nothing_more, opcode_in}
use Rattle.bench_file.specs.declared.fault.DeviceFault.TheVariants.{DevSyntax, OpcodeOnes, OpcodeTwice}
use Rattle.bench_file.specs.declared.fault.DeviceFault.TheVariants.{OpcodeWide}
use Rattle.table_lines.specs.Lines.{Line, end_of, lines_of}
use Rattle.table_lines.specs.Words.{decimal, hex, hex_from}
use Rattle.table_lines.proofs.Saying.{one_more_digit}
use Rattle.ijtag_stages.specs.DeviceText.{device_text}

-- ---- what a test that holds says

halves : (a b : Bool) → (a && b) ≡ true → (a ≡ true) × (b ≡ true)
halves true b h = (refl, h)
halves false b h = absurd (cc)

-- ---- a number of hexadecimal digits

digit_at_most : (d : ℕ) → is_ascii_hexdigit d ≡ true → d ≤ 102
digit_at_most d h = by_range (nat_le 48 d && nat_le d 57) (nat_le 65 d && nat_le d 70)
    (nat_le 97 d && nat_le d 102) refl refl refl h
  where
    by_range : (a b c : Bool) → (nat_le 48 d && nat_le d 57) ≡ a → (nat_le 65 d && nat_le d 70) ≡ b
        → (nat_le 97 d && nat_le d 102) ≡ c → ((a || b) || c) ≡ true → d ≤ 102
    by_range true b c p q r is =
        let most = leb-true d 57 (halves (nat_le 48 d) (nat_le d 57) p).1 in omega (arith, most)
    by_range false true c p q r is =
        let most = leb-true d 70 (halves (nat_le 65 d) (nat_le d 70) q).1 in omega (arith, most)
    by_range false false true p q r is = leb-true d 102 (halves (nat_le 97 d) (nat_le d 102) r).1
    by_range false false false p q r is = absurd (cc)

digit_small : (d : ℕ) → d ≤ 102 → hex_value d < 16
digit_small d most = by_size (nat_lt d 58) (nat_lt d 71) refl refl
  where
    by_size : (a b : Bool) → nat_lt d 58 ≡ a → nat_lt d 71 ≡ b
        → cond a (d - 48) (cond b (d - 55) (d - 87)) < 16
    by_size true b p q = let less = ltb-true d 58 p in omega (arith, less)
    by_size false true p q = let less = ltb-true d 71 q in omega (arith, less)
    by_size false false p q = omega (arith, most)

digits_small : (i n : ℕ) (ds : List ℕ) → n < 2 ^ (4 * i) → list_all is_ascii_hexdigit ds ≡ true
    → hex_from n ds < 2 ^ (4 * (i + length ds))
digits_small i n [] small all = subst (λ (k : ℕ). n < 2 ^ (4 * k)) (omega arith) small
digits_small i n (d ∷ ds) small all =
    let digit = digit_small d
    (digit_at_most d (halves (is_ascii_hexdigit d) (list_all is_ascii_hexdigit ds) all).0) in
    let rest = digits_small (i + 1) (16 * n + hex_value d) ds (one_more_digit i n (hex_value d) small digit)
    (halves (is_ascii_hexdigit d) (list_all is_ascii_hexdigit ds) all).1 in
    subst (λ (k : ℕ). hex_from (16 * n + hex_value d) ds < 2 ^ (4 * k)) (omega arith) rest

-- eight of them
eight_digits : (text : List ℕ) → IfSome (hex 8 8 text) (λ n. n < 2 ^ 32)
unfolding hex
eight_digits text =
    by_test (nat_le 8 (length text) && (nat_le (length text) 8 && list_all is_ascii_hexdigit text)) refl
  where
    by_test : (b : Bool)
        → (nat_le 8 (length text) && (nat_le (length text) 8 && list_all is_ascii_hexdigit text)) ≡ b
        → IfSome (cond b (Some (hex_from 0 text)) None) (λ n. n < 2 ^ 32)
    by_test false e = tt
    by_test true e =
        let least = leb-true 8 (length text) (halves _ _ e).0 in
        let after = (halves (nat_le 8 (length text)) _ e).1 in
        let most = leb-true (length text) 8 (halves _ _ after).0 in
        let digits = (halves (nat_le (length text) 8) _ after).1 in
        let same : 0 + length text ≡ 8 = omega (arith, least, most) in
        subst (λ (k : ℕ). hex_from 0 text < 2 ^ (4 * k)) same (digits_small 0 0 text (omega arith) digits)

-- ---- what follows a line that is said

module _ {A B : Type 0} (P : A → Type 0) (Q : B → Type 0) where
  then_ok : (r : Said A) (next : A → Said B) → IfOk r P
      → ((a : A) → P a → IfOk (next a) Q) → IfOk (and_then r next) Q
  then_ok (Ok a) next h n = n a h
  then_ok (Err fault) next h n = tt

needed_ok : {A : Type 0} (P : A → Type 0) (at : Place) (o : Option A) → IfSome o P → IfOk (needed at o) P
needed_ok P at None h = tt
needed_ok P at (Some a) h = h

-- ---- the lines of a device

abbrev Range : ℕ → Type 0
Range ir = (2 ≤ ir) × (ir ≤ 64)

range_some : (o : Option ℕ) → IfSome (in_range o) Range
range_some None = tt
range_some (Some n) = by_test (nat_le 2 n && nat_le n 64) refl
  where
    by_test : (b : Bool) → (nat_le 2 n && nat_le n 64) ≡ b → IfSome (cond b (Some n) None) Range
    by_test true e = (leb-true 2 n (halves _ _ e).0, leb-true n 64 (halves (nat_le 2 n) _ e).1)
    by_test false e = tt

cond_some : {A : Type 0} (P : A → Type 0) (b : Bool) (o : Option A) → IfSome o P → IfSome (cond b o None) P
cond_some P true o h = h
cond_some P false o h = tt

ir_some : (ws : List (List ℕ)) → IfSome (ir_words ws) Range
ir_some [] = tt
ir_some (w ∷ []) = tt
ir_some (w ∷ n ∷ []) =
    cond_some Range (bytes_eq (codes "ir") w) (in_range (decimal n)) (range_some (decimal n))
ir_some (w ∷ n ∷ u ∷ us) = tt

abbrev IsValue : ℕ × ℕ → Type 0
IsValue idcode = idcode.0 < 2 ^ 32

both_some : (a b : Option ℕ) → IfSome a (λ n. n < 2 ^ 32) → IfSome (both a b) IsValue
both_some None b h = tt
both_some (Some n) None h = tt
both_some (Some n) (Some m) h = h

idcode_some : (ws : List (List ℕ)) → IfSome (idcode_words ws) IsValue
idcode_some [] = tt
idcode_some (w ∷ []) = tt
idcode_some (w ∷ value ∷ []) = tt
idcode_some (w ∷ value ∷ opcode ∷ []) = both_some (hex 8 8 value) (hex 1 16 opcode) (eight_digits value)
idcode_some (w ∷ value ∷ opcode ∷ u ∷ us) = tt

opcode_ok : (ir : ℕ) (at : Place) (n : ℕ) → IfOk (opcode_in ir at n) (λ m. (m ≡ n) × IsOpcode ir n)
opcode_ok ir at n = by_test (nat_le (2 ^ ir) n) (n == 2 ^ ir - 1) refl refl
  where
    by_test : (a b : Bool) → nat_le (2 ^ ir) n ≡ a → (n == 2 ^ ir - 1) ≡ b → IfOk
        (cond a (Err (OpcodeWide at)) (cond b (Err (OpcodeOnes at)) (Ok n))) (λ m. (m ≡ n) × IsOpcode ir n)
    by_test true b p q = tt
    by_test false true p q = tt
    by_test false false p q =
        (refl, record { fits = leb-false (2 ^ ir) n p; not_bypass = eqb-false n (2 ^ ir - 1) q })

-- the identity register's value and opcode
abbrev IsCode : ℕ → Option (ℕ × ℕ) → Type 0
IsCode ir idcode = IfSome idcode (λ i. (i.0 < 2 ^ 32) × IsOpcode ir i.1)

abbrev HasCodes : Device → Type 0
HasCodes d = (2 ≤ d.ir) × (d.ir ≤ 64) × IsOpcode d.ir d.opcode × IsIdentity d.ir d.opcode d.idcode

identity_is : (ir opcode : ℕ) (idcode : Option (ℕ × ℕ)) → IsCode ir idcode
    → is_identity idcode opcode ≡ false → IsIdentity ir opcode idcode
identity_is ir opcode None code e = tt
identity_is ir opcode (Some i) code e = (code.0, code.1, eqb-false i.1 opcode e)

module _ (ir : ℕ) (range : Range ir) where
  link_ok : (idcode : Option (ℕ × ℕ)) → IsCode ir idcode → (l : Line)
      → IfOk (link_line ir idcode l) HasCodes
  link_ok idcode code l =
      then_ok (λ (link : Link). Unit {0}) HasCodes
      (needed l.at (link_words l.words)) (link_said ir idcode l.at)
      (needed_ok _ l.at (link_words l.words) (any_some (link_words l.words))) (λ link _.
      then_ok (λ n. (n ≡ link.opcode) × IsOpcode ir link.opcode) HasCodes
      (opcode_in ir l.at link.opcode) _ (opcode_ok ir l.at link.opcode)
      (λ n is. by_identity link n is.0 is.1 (is_identity idcode n) refl))
    where
      any_some : (o : Option Link) → IfSome o (λ (link : Link). Unit {0})
      any_some None = tt
      any_some (Some link) = tt

      by_identity : (link : Link) (n : ℕ) → n ≡ link.opcode
          → IsOpcode ir link.opcode → (b : Bool) → is_identity idcode n ≡ b
          → IfOk (cond b (Err (OpcodeTwice l.at)) (Ok (device_with ir idcode link))) HasCodes
      by_identity link n same is true e = tt
      by_identity link n same is false e = (
        range.0,
        range.1,
        is,
        identity_is ir link.opcode idcode code (subst (λ (k : ℕ). is_identity idcode k ≡ false) same e),
      )

  more_ok : (d : Device) → HasCodes d → (ls : List Line) → IfOk (nothing_more d ls) HasCodes
  more_ok d is [] = is
  more_ok d is (l ∷ ls) = tt

  from_link_ok : (end : Place) (idcode : Option (ℕ × ℕ)) → IsCode ir idcode → (ls : List Line)
      → IfOk (read_from_link_line end ir idcode ls) HasCodes
  from_link_ok end idcode code [] = tt
  from_link_ok end idcode code (l ∷ ls) = then_ok HasCodes HasCodes (link_line ir idcode l) _
      (link_ok idcode code l) (λ d is. more_ok d is ls)

  idcode_ok : (l : Line) → IfOk (idcode_line ir l) (λ i. (i.0 < 2 ^ 32) × IsOpcode ir i.1)
  idcode_ok l =
      then_ok IsValue _ (needed l.at (idcode_words l.words)) _
      (needed_ok IsValue l.at (idcode_words l.words) (idcode_some l.words)) (λ i value.
      then_ok (λ n. (n ≡ i.1) × IsOpcode ir i.1) _ (opcode_in ir l.at i.1) _
      (opcode_ok ir l.at i.1) (λ n is. (value, is.1)))

  from_idcode_ok : (end : Place) (ls : List Line) → IfOk (read_from_idcode_line end ir ls) HasCodes
  from_idcode_ok end [] = tt
  from_idcode_ok end (l ∷ ls) = by_test (is_idcode l.words)
    where
      by_test : (b : Bool)
          → IfOk (cond b (and_then (idcode_line ir l) (λ idcode. read_from_link_line end ir (Some idcode) ls))
          (read_from_link_line end ir None (l ∷ ls))) HasCodes
      by_test true = then_ok _ HasCodes (idcode_line ir l) _ (idcode_ok l)
          (λ idcode code. from_link_ok end (Some idcode) code ls)
      by_test false = from_link_ok end None tt (l ∷ ls)

from_ir_ok : (end : Place) (ls : List Line) → IfOk (read_from_ir_line end ls) HasCodes
from_ir_ok end [] = tt
from_ir_ok end (l ∷ ls) = then_ok Range HasCodes (needed l.at (ir_words l.words)) _
    (needed_ok Range l.at (ir_words l.words) (ir_some l.words)) (λ ir range. from_idcode_ok ir range end ls)

device_ok : (text : List ℕ) → IfOk (device text) HasCodes
unfolding device
device_ok text = from_head_ok (end_of text) (lines_of text)
  where
    by_head : (end at : Place) (ls : List Line) (b : Bool)
        → IfOk (cond b (read_from_ir_line end ls) (Err (DevSyntax at))) HasCodes
    by_head end at ls true = from_ir_ok end ls
    by_head end at ls false = tt

    from_head_ok : (end : Place) (ls : List Line) → IfOk (read_from_head_line end ls) HasCodes
    from_head_ok end [] = tt
    from_head_ok end (l ∷ ls) = by_head end l.at ls (is_head l.words)

pub device_is_device : (text : List ℕ) (d : Device) → (device_text text).gives d → IsDevice d
unfolding device_text
device_is_device text d g =
    let is = subst (λ (r : Said Device). IfOk r HasCodes) g (device_ok text) in
    record { two_bits = is.0; bits_within_limit = is.1; link = is.2; identity = is.3 }
