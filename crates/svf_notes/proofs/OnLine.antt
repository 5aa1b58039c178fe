-- No line of a note has a line feed: names are names of ICL, and all else is digits and words.
use Rattle.std.proofs.Common.{◌≡◌, ℕ, zero, suc, ◌+◌, ◌/◌, ◌%◌, Bool, true, false, not, cond, List, [], ◌∷◌}
use Rattle.std.proofs.Common.{◌++◌, length, take, drop, map, get_or, refl, ap, sym, ◌∙◌, arith, decimal}
use Rattle.std.proofs.Common.{nat_lt, Option, Some, None}
use Rattle.std.specs.Prelude.{◌==◌, ◌||◌, All, IsTrue, codes}
use Rattle.std.specs.Fmt.{digits as digits_in, digits_onto, digit_glyph}
use Rattle.std.specs.List.{AllByRecursion, flat_map, list_all, list_any}
use Rattle.std.proofs.lemmas.Bool.{and_parts}
use Rattle.std.proofs.lemmas.Bool.Decides.{nat_tests}
use Rattle.std.proofs.lemmas.List.Elements.{All-head, All-tail}
use Rattle.ij_bits.specs.BitLists.{bits_eq}
use Rattle.ij_bits.specs.Hex.{hex_code}
use Rattle.ij_bits.specs.Room.{Listed}
use Rattle.ij_text.specs.Words.{begins_name, in_name, is_name}
use Rattle.instruments.specs.declared.Counts.{Counts}
use Rattle.net_bench.specs.Instruction.{Selected, Network, Identity, Bypass, selected}
use Rattle.net_graph.specs.declared.device.Device.{Device}
use Rattle.net_graph.specs.declared.net.Net.{Net}
use Rattle.net_graph.specs.declared.net.Node.{Node}
use Rattle.net_graph.specs.declared.net.Thing.{Thing}
use Rattle.net_graph.specs.Named.{thing_of}
use Rattle.net_graph.specs.Nets.{IsNet, IsThing}
use Rattle.net_graph.specs.Path.{route_of}
use Rattle.net_graph.specs.PathNames.{node_names, with_dot}
use Rattle.net_graph.specs.Signals.{Holds, bits_at}
use Rattle.report.specs.Paths.{register_path}
use Rattle.report.specs.Registers.{digit}
use Rattle.svf_reader.specs.Scripts.{IsOnLine}
use Rattle.svf_reader.proofs.Scripting.{both_on_line}
use Rattle.svf_notes.specs.declared.scan.Shifted.{Shifted}
use Rattle.svf_notes.specs.declared.scan.Shown.{Shown}
use Rattle.svf_notes.specs.declared.scan.Shown.TheVariants.{Written, Expected, Found}
use Rattle.svf_notes.specs.Scans.{Scan}
use Rattle.svf_notes.specs.Notes.{Target, Instruction, Data, digit_of, digits, differs, hex_digits}
use Rattle.svf_notes.specs.Notes.{instruction_text, opcode_text, is_compared, if_compared, expected_digit}
use Rattle.svf_notes.specs.Notes.{note_of, number_text, other_length, path_text, path_length, positions_text}
use Rattle.svf_notes.specs.Notes.{range_text, row, rows, rows_if, selected_name, target, target_rows}
use Rattle.svf_notes.specs.Notes.{target_text, tdi_bits, values_text}
use Rattle.svf_reader.proofs.OnLine.{name_on_line}

-- ---- bytes

by_test : (xs : List ℕ) → list_all (λ b. not (b == 10)) xs ≡ true → IsOnLine xs
by_test [] h = tt
by_test (b ∷ bs) h =
    let both = and_parts (not (b == 10)) (list_all (λ b. not (b == 10)) bs) h in
    (is_false (b == 10) both.0, by_test bs both.1)
  where
    is_false : (k : Bool) → not k ≡ true → k ≡ false
    is_false true e = absurd (cc)
    is_false false e = refl

if_on : (k : Bool) (xs : List ℕ) → IsOnLine xs → IsOnLine (cond k xs [])
if_on true xs on = on
if_on false xs on = tt

either_on : (k : Bool) (xs ys : List ℕ) → IsOnLine xs → IsOnLine ys → IsOnLine (cond k xs ys)
either_on true xs ys one other = one
either_on false xs ys one other = other

-- ---- numbers

glyph_on : (d : ℕ) → (digit_glyph false d == 10) ≡ false
glyph_on d = cases (nat_lt d 10)
  where
    cases : (k : Bool) → (cond k (48 + d) (87 + d) == 10) ≡ false
    cases true = grind (arith, nat_tests)
    cases false = grind (arith, nat_tests)

digits_onto_on : (k n : ℕ) (acc : List ℕ) → IsOnLine acc → IsOnLine (digits_onto k 10 false n acc)
digits_onto_on zero n acc on = on
digits_onto_on (suc k) n acc on =
    either_on (n / 10 == 0) (digit_glyph false (n % 10) ∷ acc)
    (digits_onto k 10 false (n / 10) (digit_glyph false (n % 10) ∷ acc)) (glyph_on (n % 10), on)
    (digits_onto_on k (n / 10) (digit_glyph false (n % 10) ∷ acc) (glyph_on (n % 10), on))

decimal_on : (n : ℕ) → IsOnLine (decimal n)
unfolding digits_in
decimal_on n = digits_onto_on 64 n [] tt

code_on : (n : ℕ) → (hex_code n == 10) ≡ false
code_on n = cases (nat_lt n 10)
  where
    cases : (k : Bool) → (cond k (48 + n) (55 + n) == 10) ≡ false
    cases true = grind (arith, nat_tests)
    cases false = grind (arith, nat_tests)

hex_on : (bits : List Bool) (n : ℕ) → IsOnLine (hex_digits bits n)
hex_on bits zero = tt
hex_on bits (suc n) = (code_on _, hex_on bits n)

-- ---- names

dots_on : (names : List (Listed ℕ)) → All (λ name. IsTrue (is_name name.items)) names
    → IsOnLine (flat_map with_dot names)
dots_on [] all = tt
dots_on (name ∷ names) all =
    both_on_line (with_dot name) (flat_map with_dot names)
    (both_on_line name.items (46 ∷ []) (name_on_line name.items
    (All-head (λ (n : Listed ℕ). IsTrue (is_name n.items)) name names all)) (refl, tt))
    (dots_on names (All-tail (λ (n : Listed ℕ). IsTrue (is_name n.items)) name names all))

nodes_on : (nodes : List Node) (n : ℕ)
    → All (λ node. All (λ name. IsTrue (is_name name.items)) node.path.items) nodes
    → IsOnLine (flat_map with_dot (get_or (map (λ node. node.path.items) nodes) n []))
nodes_on [] n all = tt
nodes_on (node ∷ nodes) zero all =
    dots_on node.path.items
    (All-head (λ (x : Node). All (λ name. IsTrue (is_name name.items)) x.path.items) node nodes all)
nodes_on (node ∷ nodes) (suc n) all =
    nodes_on nodes n
    (All-tail (λ (x : Node). All (λ name. IsTrue (is_name name.items)) x.path.items) node nodes all)

things_on : (net : Net) (things : List Thing) (t : ℕ) → All (IsThing net) things
    → IsOnLine (get_or (map (λ thing. thing.name.items) things) t [])
things_on net [] t all = tt
things_on net (thing ∷ things) zero all =
    name_on_line thing.name.items (All-head (IsThing net) thing things all).named
things_on net (thing ∷ things) (suc t) all = things_on net things t (All-tail (IsThing net) thing things all)

register_on : (net : Net) (r : ℕ) → IsNet net → IsOnLine (register_path net r)
register_on net r is =
    let t = thing_of net r in
    both_on_line
    (flat_map with_dot (node_names net (get_or (map (λ thing. thing.node) net.things.items) t 0)))
    (get_or (map (λ thing. thing.name.items) net.things.items) t [])
    (nodes_on net.nodes.items (get_or (map (λ thing. thing.node) net.things.items) t 0) is.path_names)
    (things_on net net.things.items t is.things)

-- ---- rows

path_bit_at : (b : Bool) → (digit b == 10) ≡ false
path_bit_at true = refl
path_bit_at false = refl

expected_on : (e : Option Bool) → (expected_digit e == 10) ≡ false
expected_on None = refl
expected_on (Some b) = path_bit_at b

found_on : (e : Option Bool) (b : Bool) → (if_compared e b == 10) ≡ false
found_on None b = refl
found_on (Some e) b = path_bit_at b

digit_on : (shown : Shown) (b : Shifted) → (digit_of shown b == 10) ≡ false
digit_on Written b = path_bit_at b.tdi
digit_on Expected b = expected_on b.expect
digit_on Found b = found_on b.expect b.found

digits_on : (shown : Shown) (bits : List Shifted) → IsOnLine (digits shown bits)
digits_on shown [] = tt
digits_on shown (b ∷ bs) =
    both_on_line (digits shown bs) (digit_of shown b ∷ []) (digits_on shown bs) (digit_on shown b, tt)

values_on : (held : List Bool) (bits : List Shifted) → IsOnLine (values_text held bits)
values_on held bits =
    let expects = cond (list_any is_compared bits) (codes " expects " ++ digits Expected bits) [] in
    let finds = cond (list_any differs bits) (codes " finds " ++ digits Found bits) [] in
    let before = cond (bits_eq (tdi_bits bits) held) (codes " as before") [] in
    let finds_on = if_on (list_any differs bits) (codes " finds " ++ digits Found bits) (both_on_line
    (codes " finds ") (digits Found bits) (by_test (codes " finds ") refl) (digits_on Found bits)) in
    let expects_on = if_on (list_any is_compared bits) (codes " expects " ++ digits Expected bits)
    (both_on_line (codes " expects ") (digits Expected bits)
    (by_test (codes " expects ") refl) (digits_on Expected bits)) in
    let before_on = if_on (bits_eq (tdi_bits bits) held)
    (codes " as before") (by_test (codes " as before") refl) in
    both_on_line (codes " writes ") (digits Written bits ++ (before ++ (expects ++ finds)))
    (by_test (codes " writes ") refl)
    (both_on_line (digits Written bits) (before ++ (expects ++ finds)) (digits_on Written bits)
    (both_on_line before (expects ++ finds) before_on (both_on_line expects finds expects_on finds_on)))

range_on : (net : Net) (r width : ℕ) → IsOnLine (range_text net r width)
range_on net r width =
    let t = thing_of net r in
    let left = get_or (map (λ thing. thing.left) net.things.items) t 0 in
    let right = get_or (map (λ thing. thing.right) net.things.items) t 0 in
    let end : IsOnLine (decimal right ++ codes "]") =
    both_on_line (decimal right) (codes "]") (decimal_on right) (by_test (codes "]") refl) in
    let colon : IsOnLine (codes ":" ++ (decimal right ++ codes "]")) =
    both_on_line (codes ":") (decimal right ++ codes "]") (by_test (codes ":") refl) end in
    let range : IsOnLine (codes "[" ++ (decimal left ++ (codes ":" ++ (decimal right ++ codes "]")))) =
    both_on_line (codes "[") (decimal left ++ (codes ":" ++ (decimal right ++ codes "]")))
    (by_test (codes "[") refl)
    (both_on_line (decimal left) (codes ":" ++ (decimal right ++ codes "]")) (decimal_on left) colon) in
    either_on (width == 1) []
    (codes "[" ++ (decimal left ++ (codes ":" ++ (decimal right ++ codes "]")))) tt range

positions_on : (at width : ℕ) → IsOnLine (positions_text at width)
positions_on at width =
    let low : IsOnLine (decimal at ++ codes " ") =
    both_on_line (decimal at) (codes " ") (decimal_on at) (by_test (codes " ") refl) in
    let dots : IsOnLine (codes ".." ++ (decimal at ++ codes " ")) =
    both_on_line (codes "..") (decimal at ++ codes " ") (by_test (codes "..") refl) low in
    both_on_line (codes "   ") _ (by_test (codes "   ") refl)
    (both_on_line (decimal _) (codes ".." ++ (decimal at ++ codes " ")) (decimal_on _) dots)

row_on : (net : Net) → IsNet net → (r at : ℕ) (held : List Bool) (bits : List Shifted)
    → IsOnLine (row net r at held bits)
row_on net is r at held bits =
    both_on_line (positions_text at (length held)) (register_path net r
    ++ (range_text net r (length held) ++ values_text held bits)) (positions_on at (length held))
    (both_on_line (register_path net r)
    (range_text net r (length held) ++ values_text held bits) (register_on net r is)
    (both_on_line (range_text net r (length held)) (values_text held bits)
    (range_on net r (length held)) (values_on held bits)))

lines_both : (xs ys : List (List ℕ)) → AllByRecursion IsOnLine xs
    → AllByRecursion IsOnLine ys → AllByRecursion IsOnLine (xs ++ ys)
lines_both [] ys one other = other
lines_both (x ∷ xs) ys one other = (one.0, lines_both xs ys one.1 other)

rows_on : (net : Net) → IsNet net → (holds : Holds) (at : ℕ) (path : List ℕ) (bits : List Shifted)
    → AllByRecursion IsOnLine (rows net holds at path bits)
rows_on net is holds at [] bits = tt
rows_on net is holds at (r ∷ rs) bits =
    let held = bits_at holds r in
    let w = length held in
    lines_both (rows net holds (at + w) rs (drop w bits)) (row net r at held (take w bits) ∷ [])
    (rows_on net is holds (at + w) rs (drop w bits)) (row_on net is r at held (take w bits), tt)

-- ---- notes

selected_on : (s : Selected) → IsOnLine (selected_name s)
selected_on Network = by_test (codes " network") refl
selected_on Identity = by_test (codes " identity") refl
selected_on Bypass = by_test (codes " bypass") refl

other_on : (register : List ℕ) (bits len : ℕ) → IsOnLine register → IsOnLine (other_length register bits len)
other_on register bits len on =
    let end : IsOnLine (register ++ decimal len) = both_on_line register (decimal len) on (decimal_on len) in
    let the : IsOnLine (codes " bits, the " ++ (register ++ decimal len)) = both_on_line (codes " bits, the ")
    (register ++ decimal len) (by_test (codes " bits, the ") refl) end in
    both_on_line (codes " has ") (decimal bits ++ (codes " bits, the " ++ (register ++ decimal len)))
    (by_test (codes " has ") refl)
    (both_on_line (decimal bits) (codes " bits, the " ++ (register ++ decimal len)) (decimal_on bits) the)

opcode_on : (device : Device) (bits : List Bool) → IsOnLine (opcode_text device bits)
opcode_on device bits =
    let n = (length bits + 3) / 4 in
    let s = selected_name (selected device bits) in
    both_on_line (codes " instruction ") (hex_digits bits n ++ s) (by_test (codes " instruction ") refl)
    (both_on_line (hex_digits bits n) s (hex_on bits n) (selected_on (selected device bits)))

instruction_on : (device : Device) (bits : List Shifted) → IsOnLine (instruction_text device bits)
instruction_on device bits =
    either_on (length bits == device.ir) (opcode_text device (tdi_bits bits))
    (other_length (codes "instruction register ") (length bits) device.ir)
    (opcode_on device (tdi_bits bits))
    (other_on (codes "instruction register ") (length bits) device.ir
    (by_test (codes "instruction register ") refl))

path_on : (bits len : ℕ) → IsOnLine (path_text bits len)
path_on bits len =
    either_on (bits == len) (codes " path " ++ decimal len) (other_length (codes "path ") bits len)
    (both_on_line (codes " path ") (decimal len) (by_test (codes " path ") refl) (decimal_on len))
    (other_on (codes "path ") bits len (by_test (codes "path ") refl))

target_on : (net : Net) (device : Device) (x : Scan Counts) (t : Target)
    → IsOnLine (target_text net device x t)
target_on net device x Instruction = instruction_on device x.bits
target_on net device x (Data Network) = path_on (length x.bits) (path_length net x.state.holds)
target_on net device x (Data Identity) = by_test (codes " identity") refl
target_on net device x (Data Bypass) = by_test (codes " bypass") refl

rows_if_on : (k : Bool) (net : Net) (holds : Holds) (bits : List Shifted) → IsNet net
    → AllByRecursion IsOnLine (rows_if k net holds bits)
rows_if_on false net holds bits is = tt
rows_if_on true net holds bits is = rows_on net is holds 0 (route_of net holds) bits

target_rows_on : (net : Net) (x : Scan Counts) (t : Target) → IsNet net
    → AllByRecursion IsOnLine (target_rows net x t)
target_rows_on net x Instruction is = tt
target_rows_on net x (Data Network) is =
    rows_if_on (length x.bits == path_length net x.state.holds) net x.state.holds x.bits is
target_rows_on net x (Data Identity) is = tt
target_rows_on net x (Data Bypass) is = tt

note_on : (net : Net) (device : Device) (x : Scan Counts) → IsNet net
    → AllByRecursion IsOnLine (note_of net device x)
note_on net device x is =
    let number : IsOnLine (number_text x.number) = both_on_line (codes " scan ") (decimal x.number)
    (by_test (codes " scan ") refl) (decimal_on x.number) in (
      both_on_line (number_text x.number) (target_text net device x (target device x.state)) number
          (target_on net device x (target device x.state)),
      target_rows_on net x (target device x.state) is,
    )

pub notes_on : (net : Net) (device : Device) (xs : List (Scan Counts)) → IsNet net
    → AllByRecursion (AllByRecursion IsOnLine) (map (note_of net device) xs)
notes_on net device [] is = tt
notes_on net device (x ∷ xs) is = (note_on net device x is, notes_on net device xs is)
