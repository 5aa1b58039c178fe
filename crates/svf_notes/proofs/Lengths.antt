-- How long a note becomes.
use Rattle.std.proofs.Common.{◌≡◌, ℕ, zero, suc, ◌+◌, ◌*◌, ◌-◌, ◌/◌, ◌<◌, ◌≤◌, Bool, true, false, cond, List}
use Rattle.std.proofs.Common.{[], ◌∷◌, ◌++◌, length, take, drop, get_or, refl, ap, sym, ◌∙◌, subst, arith}
use Rattle.std.proofs.Common.{length-append, append-nil}
use Rattle.std.specs.Prelude.{◌==◌, codes, decimal, min}
use Rattle.std.specs.List.{list_any}
use Rattle.std.proofs.Math.Nat.{suc-mul, mul-le-mul_right}
use Rattle.std.proofs.lemmas.Bool.Decides.{nat_tests}
use Rattle.std.proofs.lemmas.Fmt.{length-decimal-le}
use Rattle.std.proofs.lemmas.List.{take-append-drop}
use Rattle.ij_bits.specs.BitLists.{bits_eq}
use Rattle.instruments.specs.declared.Counts.{Counts}
use Rattle.net_bench.specs.Instruction.{Selected, Network, Identity, Bypass, selected}
use Rattle.net_graph.specs.declared.device.Device.{Device}
use Rattle.net_graph.specs.declared.net.Net.{Net}
use Rattle.net_graph.specs.Chain.{chain, IsRoute}
use Rattle.net_graph.specs.Held.{AreHolds}
use Rattle.net_graph.specs.Named.{width_of}
use Rattle.net_graph.specs.Nets.{IsNet}
use Rattle.net_graph.specs.Path.{route_of}
use Rattle.net_graph.specs.Signals.{Holds, bits_at}
use Rattle.net_graph.proofs.Routes.{route_is}
use Rattle.net_graph.proofs.Shapes.{length_at}
use Rattle.net_graph.proofs.Tracing.{route_fits}
use Rattle.report.specs.Paths.{register_path}
use Rattle.svf_notes.specs.declared.scan.Shifted.{Shifted}
use Rattle.svf_notes.specs.declared.scan.Shown.{Shown}
use Rattle.svf_notes.specs.declared.scan.Shown.TheVariants.{Written, Expected, Found}
use Rattle.svf_notes.specs.Most.{AreNamedWithin, most_of_scan}
use Rattle.svf_notes.specs.Notes.{Target, Instruction, Data, digit_of, digits, differs, first_line}
use Rattle.svf_notes.specs.Notes.{hex_digits, is_compared, note_of, note_text, number_text, opcode_text}
use Rattle.svf_notes.specs.Notes.{other_length, path_length, path_text, positions_text, range_text, row, rows}
use Rattle.svf_notes.specs.Notes.{rows_if, selected_name, target, target_rows, target_text, tdi_bits}
use Rattle.svf_notes.specs.Notes.{values_text}
use Rattle.svf_notes.specs.Scans.{Scan}
use Rattle.svf_notes.proofs.Rows.{note_both, path_short, some_bits}
use Rattle.ij_text.proofs.Widths.{four_digits}

-- ---- words and numbers

if_short : (k : Bool) (xs : List ℕ) (n : ℕ) → length xs ≤ n → length (cond k xs []) ≤ n
if_short true xs n h = h
if_short false xs n h = omega arith

pub ten_digits : (n : ℕ) → n < 10000000000 → length (decimal n) ≤ 10
ten_digits n h = length-decimal-le 10 n (omega arith) (omega (arith, h)) (omega (arith, h))

digits_length : (shown : Shown) (bits : List Shifted) → length (digits shown bits) ≡ length bits
digits_length shown [] = refl
digits_length shown (b ∷ bs) =
    omega (arith, length-append (digits shown bs) (digit_of shown b ∷ []), digits_length shown bs)

hex_length : (bits : List Bool) (n : ℕ) → length (hex_digits bits n) ≡ n
hex_length bits zero = refl
hex_length bits (suc n) = ap suc (hex_length bits n)

-- ---- rows

positions_short : (at width : ℕ) → 1 ≤ width → at + width ≤ 4096 → length (positions_text at width) ≤ 14
positions_short at width some within =
    let high : length (decimal (at + width - 1))
    ≤ 4 = four_digits (at + width - 1) (omega (arith, some, within)) in
    let low : length (decimal at) ≤ 4 = four_digits at (omega (arith, some, within)) in
    let end : length (decimal at ++ codes " ")
    ≡ length (decimal at) + 1 = length-append (decimal at) (codes " ") in
    let dots : length (codes ".." ++ (decimal at ++ codes " "))
    ≡ 2 + length (decimal at ++ codes " ") = length-append (codes "..") (decimal at ++ codes " ") in
    let tail : length (decimal (at + width - 1) ++ (codes ".." ++ (decimal at ++ codes " ")))
    ≡ length (decimal (at + width - 1)) + length (codes ".." ++ (decimal at ++ codes " ")) =
    length-append (decimal (at + width - 1)) (codes ".." ++ (decimal at ++ codes " ")) in
    let whole : length (positions_text at width)
    ≡ 3 + length (decimal (at + width - 1) ++ (codes ".." ++ (decimal at ++ codes " "))) =
    length-append (codes "   ") (decimal (at + width - 1) ++ (codes ".." ++ (decimal at ++ codes " "))) in
    omega (arith, high, low, end, dots, tail, whole)

values_short : (held : List Bool) (bits : List Shifted)
    → length (values_text held bits) ≤ 34 + 3 * length bits
values_short held bits =
    let before = cond (bits_eq (tdi_bits bits) held) (codes " as before") [] in
    let expects = cond (list_any is_compared bits) (codes " expects " ++ digits Expected bits) [] in
    let finds = cond (list_any differs bits) (codes " finds " ++ digits Found bits) [] in
    let words : length (codes " as before") ≡ 10 = refl in
    let more : length (codes " expects " ++ digits Expected bits)
    ≡ 9 + length (digits Expected bits) = length-append (codes " expects ") (digits Expected bits) in
    let most : length (codes " finds " ++ digits Found bits)
    ≡ 7 + length (digits Found bits) = length-append (codes " finds ") (digits Found bits) in
    let a : length before ≤ 10 =
    if_short (bits_eq (tdi_bits bits) held) (codes " as before") 10 (omega (arith, words)) in
    let b : length expects ≤ 9 + length bits = if_short (list_any is_compared bits) (codes " expects "
    ++ digits Expected bits) (9 + length bits) (omega (arith, more, digits_length Expected bits)) in
    let c : length finds ≤ 7 + length bits = if_short (list_any differs bits) (codes " finds "
    ++ digits Found bits) (7 + length bits) (omega (arith, most, digits_length Found bits)) in
    let whole : length (values_text held bits)
    ≡ 8 + length (digits Written bits ++ (before ++ (expects ++ finds))) =
    length-append (codes " writes ") (digits Written bits ++ (before ++ (expects ++ finds))) in
    omega (
      arith,
      whole,
      a,
      b,
      c,
      digits_length Written bits,
      length-append (digits Written bits)
          (before ++ (expects ++ finds)),
      length-append before (expects ++ finds),
      length-append expects finds,
    )

row_short : (net : Net) (r at : ℕ) (held : List Bool) (bits : List Shifted) (name : ℕ) → 1 ≤ length held
    → at + length held ≤ 4096 → length (register_path net r ++ range_text net r (length held)) ≤ name
    → length (row net r at held bits) ≤ 48 + name + 3 * length bits
row_short net r at held bits name some within short =
    let path = register_path net r in
    let range = range_text net r (length held) in
    let values = values_text held bits in
    let whole : length (row net r at held bits)
    ≡ length (positions_text at (length held)) + length (path ++ (range ++ values)) =
    length-append (positions_text at (length held)) (path ++ (range ++ values)) in
    omega (
      arith,
      whole,
      positions_short at (length held) some within,
      values_short held bits,
      short,
      length-append path range,
      length-append path (range ++ values),
      length-append range values,
    )

module _ (net : Net) (is : IsNet net) (name : ℕ) (short : AreNamedWithin net (length net.regs.items) name)
    (holds : Holds) (held : AreHolds net holds) where
  wide : (r : ℕ) → r < length net.regs.items → 1 ≤ length (bits_at holds r)
  wide r there = some_bits net holds r is held there

  named_short : (r : ℕ) → r < length net.regs.items
      → length (register_path net r ++ range_text net r (length (bits_at holds r))) ≤ name
  named_short r there =
      let width : width_of net r ≡ length (bits_at holds r) =
      sym (length_at holds r ∙ ap (λ (ns : List ℕ). get_or ns r 0) held) in
      subst (λ (w : ℕ). length (register_path net r ++ range_text net r w) ≤ name) width (short r there)

  -- a register has a bit at least
  few_rows : (path : List ℕ) → IsRoute (length net.regs.items) path → length path ≤ length (chain path holds)
  few_rows [] route =
      let none : length (chain [] holds) ≡ 0 = refl in
      omega (arith, none)
  few_rows (r ∷ rs) route =
      let all : length (chain (r ∷ rs) holds) ≡ length (bits_at holds r) + length (chain rs holds) =
      length-append (bits_at holds r) (chain rs holds) in
      let one : length (r ∷ rs) ≡ suc (length rs) = refl in
      omega (arith, all, one, wide r route.0, few_rows rs route.2)

  rows_short : (path : List ℕ) (at : ℕ) (bits : List Shifted)
      → IsRoute (length net.regs.items) path → at + length (chain path holds) ≤ 4096
      → length (note_text (rows net holds at path bits)) ≤ length path * (51 + name) + 3 * length bits
  rows_short [] at bits route within =
      let none : length (note_text (rows net holds at [] bits)) ≡ 0 = refl in
      omega (arith, none)
  rows_short (r ∷ rs) at bits route within =
      let here = bits_at holds r in
      let w = length here in
      let later = rows net holds (at + w) rs (drop w bits) in
      let line = row net r at here (take w bits) in
      let all : length (chain (r ∷ rs) holds)
      ≡ w + length (chain rs holds) = length-append here (chain rs holds) in
      let one = row_short net r at here (take w bits) name (wide r route.0)
      (omega (arith, within, all)) (named_short r route.0) in
      let more = rows_short rs (at + w) (drop w bits) route.2 (omega (arith, within, all)) in
      let last : length (note_text (line ∷ []))
      ≡ 3 + length (line ++ []) = length-append (codes "\n!:") (line ++ []) in
      let text : length (note_text (rows net holds at (r ∷ rs) bits))
      ≡ length (note_text later) + length (note_text (line ∷ [])) =
      ap length (note_both later (line ∷ [])) ∙ length-append (note_text later) (note_text (line ∷ [])) in
      let same : length (line ++ []) ≡ length line = ap length (append-nil line) in
      let cut : length (take w bits) + length (drop w bits) ≡ length bits =
      sym (length-append (take w bits) (drop w bits)) ∙ ap length (take-append-drop w bits) in
      let product : length (r ∷ rs) * (51 + name)
      ≡ length rs * (51 + name) + (51 + name) = suc-mul (length rs) (51 + name) in
      omega (arith, last, text, same, one, more, cut, product)

  -- ---- the whole note

  abbrev most_names : ℕ → ℕ
  most_names n = min n (length net.regs.items) * (51 + name)

  path_rows : (bits : List Shifted) → length bits ≡ path_length net holds
      → length (note_text (rows net holds 0 (route_of net holds) bits))
      ≤ most_names (length bits) + 3 * length bits
  path_rows bits same =
      let path = route_of net holds in
      let route = route_is net holds is in
      let some : length path ≤ path_length net holds = few_rows path route in
      let few : length path ≤ min (length bits) (length net.regs.items) =
      omega (arith, same, some, route_fits (length net.regs.items) path route) in
      let names : length path * (51 + name) ≤ most_names (length bits) = mul-le-mul_right (51 + name) few in
      let within : length (chain path holds) ≤ 4096 = path_short net holds is held in
      omega (arith, rows_short path 0 bits route (omega (arith, within)), names)

  module _ (device : Device) (x : Scan Counts) (same : x.state.holds ≡ holds) where
    abbrev n : ℕ
    n = length x.bits

    abbrev Short : Target → Type 0
    Short t = length (target_text net device x t) + length (note_text (target_rows net x t))
        ≤ 37 + length (decimal device.ir) + (length (decimal n) + (3 * n + most_names n))

    name_short : (s : Selected) → length (selected_name s) ≤ 9
    name_short Network =
        let e : length (selected_name Network) ≡ 8 = refl in
        omega (arith, e)
    name_short Identity =
        let e : length (selected_name Identity) ≡ 9 = refl in
        omega (arith, e)
    name_short Bypass =
        let e : length (selected_name Bypass) ≡ 7 = refl in
        omega (arith, e)

    other_short : (register : List ℕ) (len : ℕ) → length (other_length register n len)
        ≤ 16 + length (decimal n) + length register + length (decimal len)
    other_short register len =
        let whole : length (other_length register n len)
        ≡ 5 + length (decimal n ++ (codes " bits, the " ++ (register ++ decimal len))) =
        length-append (codes " has ") (decimal n ++ (codes " bits, the " ++ (register ++ decimal len))) in
        let the : length (codes " bits, the " ++ (register ++ decimal len)) ≡ 11 + length
        (register ++ decimal len) = length-append (codes " bits, the ") (register ++ decimal len) in
        omega (
          arith,
          whole,
          the,
          length-append (decimal n)
              (codes " bits, the " ++ (register ++ decimal len)),
          length-append register (decimal len),
        )

    opcode_short : length (opcode_text device (tdi_bits x.bits)) ≤ 22 + n
    opcode_short =
        let hex = hex_digits (tdi_bits x.bits) ((length (tdi_bits x.bits) + 3) / 4) in
        let name_text = selected_name (selected device (tdi_bits x.bits)) in
        let as_many : length (tdi_bits x.bits) ≡ n = length_map x.bits in
        let whole : length (opcode_text device (tdi_bits x.bits))
        ≡ 13 + length (hex ++ name_text) = length-append (codes " instruction ") (hex ++ name_text) in
        omega (
          arith,
          whole,
          as_many,
          name_short (selected device (tdi_bits x.bits)),
          hex_length (tdi_bits x.bits) ((length (tdi_bits x.bits) + 3) / 4),
          length-append hex name_text,
        )
      where
        length_map : (bits : List Shifted) → length (tdi_bits bits) ≡ length bits
        length_map [] = refl
        length_map (b ∷ bs) = ap suc (length_map bs)

    instruction_short : (k : Bool) → length (cond k (opcode_text device (tdi_bits x.bits))
        (other_length (codes "instruction register ") n device.ir))
        ≤ 37 + length (decimal device.ir) + (length (decimal n) + n)
    instruction_short true = omega (arith, opcode_short)
    instruction_short false =
        let register : length (codes "instruction register ") ≡ 21 = refl in
        omega (arith, register, other_short (codes "instruction register ") device.ir)

    network_short : (k : Bool) → (n == path_length net holds) ≡ k
        → length (cond k (codes " path " ++ decimal (path_length net holds))
        (other_length (codes "path ") n (path_length net holds))) + length
        (note_text (rows_if k net holds x.bits)) ≤ 37 + (length (decimal n) + (3 * n + most_names n))
    network_short true e =
        let len : n ≡ path_length net holds = grind (arith, nat_tests) in
        let number : length (decimal (path_length net holds))
        ≡ length (decimal n) = ap (λ (m : ℕ). length (decimal m)) (sym len) in
        let line : length (codes " path " ++ decimal (path_length net holds))
        ≡ 6 + length (decimal (path_length net holds)) =
        length-append (codes " path ") (decimal (path_length net holds)) in
        omega (arith, number, line, path_rows x.bits len)
    network_short false e =
        let number : length (decimal (path_length net holds))
        ≤ 4 = four_digits (path_length net holds) (omega (arith, path_short net holds is held)) in
        let path : length (codes "path ") ≡ 5 = refl in
        let none : length (note_text (rows_if false net holds x.bits)) ≡ 0 = refl in
        omega (arith, number, path, none, other_short (codes "path ") (path_length net holds))

    each_short : (t : Target) → Short t
    each_short Instruction =
        let line : length (target_text net device x Instruction) ≤ 37 + length
        (decimal device.ir) + (length (decimal n) + n) = instruction_short (length x.bits == device.ir) in
        let none : length (note_text (target_rows net x Instruction)) ≡ 0 = refl in
        omega (arith, line, none)
    each_short (Data Network) =
        let there : length (target_text net device x (Data Network)) + length
        (note_text (target_rows net x (Data Network)))
        ≤ 37 + (length (decimal n) + (3 * n + most_names n)) =
        subst (λ (h : Holds). length (path_text n (path_length net h)) + length
        (note_text (rows_if (n == path_length net h) net h x.bits))
        ≤ 37 + (length (decimal n) + (3 * n + most_names n))) (sym same)
        (network_short (n == path_length net holds) refl) in
        omega (arith, there)
    each_short (Data Identity) =
        let line : length (target_text net device x (Data Identity)) ≡ 9 = refl in
        let none : length (note_text (target_rows net x (Data Identity))) ≡ 0 = refl in
        omega (arith, line, none)
    each_short (Data Bypass) =
        let line : length (target_text net device x (Data Bypass)) ≡ 7 = refl in
        let none : length (note_text (target_rows net x (Data Bypass))) ≡ 0 = refl in
        omega (arith, line, none)

    pub note_short : x.number < 10000000000
        → suc (length (note_text (note_of net device x))) ≤ most_of_scan device (length net.regs.items) name n
    unfolding most_of_scan
    note_short few =
        let t = target device x.state in
        let line = first_line net device x in
        let later = note_text (target_rows net x t) in
        let whole : length (note_text (note_of net device x))
        ≡ 3 + length (line ++ later) = length-append (codes "\n!:") (line ++ later) in
        let first : length line ≡ length (number_text x.number) + length (target_text net device x t) =
        length-append (number_text x.number) (target_text net device x t) in
        let number : length (number_text x.number)
        ≡ 6 + length (decimal x.number) = length-append (codes " scan ") (decimal x.number) in
        omega (arith, whole, length-append line later, first, number, each_short t, ten_digits x.number few)
