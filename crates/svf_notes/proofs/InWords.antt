-- The names and numbers of notes have no blank.
use Rattle.std.proofs.Common.{◌≡◌, ◌<◌, ◌≤◌, ℕ, zero, suc, ◌+◌, ◌/◌, ◌%◌, Bool, true, false, cond, List, []}
use Rattle.std.proofs.Common.{◌∷◌, ◌++◌, length, map, get_or, refl, ap, sym, ◌∙◌, arith, decimal, nat_lt}
use Rattle.std.proofs.Common.{length-append}
use Rattle.std.specs.Prelude.{◌==◌, ◌||◌, All, IsTrue, codes}
use Rattle.std.specs.Char.{is_ascii_digit}
use Rattle.std.specs.Fmt.{digits as digits_in, digits_onto, digit_glyph}
use Rattle.std.specs.List.{flat_map, list_all}
use Rattle.std.proofs.lemmas.Bool.{and_parts}
use Rattle.std.proofs.lemmas.Bool.Decides.{nat_tests}
use Rattle.std.proofs.lemmas.List.Elements.{All-head, All-tail}
use Rattle.ij_bits.specs.Room.{Listed}
use Rattle.ij_text.specs.Bytes.{is_blank}
use Rattle.ij_text.specs.Words.{begins_name, in_name, is_name}
use Rattle.net_graph.specs.declared.net.Net.{Net}
use Rattle.net_graph.specs.declared.net.Node.{Node}
use Rattle.net_graph.specs.declared.net.Reg.{Reg}
use Rattle.net_graph.specs.declared.net.Thing.{Thing}
use Rattle.net_graph.specs.Named.{thing_of}
use Rattle.net_graph.specs.Nets.{IsNet, IsReg, IsThing}
use Rattle.net_graph.specs.PathNames.{node_names, with_dot}
use Rattle.report.specs.Paths.{register_path}
use Rattle.svf_reader.specs.Texts.{is_any}
use Rattle.svf_reader.proofs.Again.{AreInWord}
use Rattle.svf_notes.specs.Notes.{range_text}

-- ---- bytes

abbrev pub InWord : List ℕ → Type 0
InWord w = AreInWord is_any w

pub both_in : (v w : List ℕ) → InWord v → InWord w → InWord (v ++ w)
both_in [] w hv hw = hw
both_in (b ∷ bs) w hv hw = (hv.0, hv.1, both_in bs w hv.2 hw)

no_blank : (b : ℕ) → (b == 32) ≡ false → (b == 9) ≡ false → (b == 10) ≡ false
    → (b == 13) ≡ false → is_blank b ≡ false
no_blank b space tab feed return =
    ap (λ (k : Bool). k || (b == 9 || (b == 10 || b == 13))) space
    ∙ ap (λ (k : Bool). k || (b == 10 || b == 13)) tab
    ∙ ap (λ (k : Bool). k || b == 13) feed
    ∙ return

above_blanks : (b : ℕ) → 33 ≤ b → is_blank b ≡ false
above_blanks b h =
    no_blank b (grind (arith, nat_tests)) (grind (arith, nat_tests))
    (grind (arith, nat_tests)) (grind (arith, nat_tests))

-- a byte of a class isn't one that is in no such class
pub other_byte : (class : ℕ → Bool) (b c : ℕ) → class b ≡ true → class c ≡ false → (b == c) ≡ false
other_byte class b c h none = cases (b == c) refl
  where
    cases : (k : Bool) → (b == c) ≡ k → (b == c) ≡ false
    cases false e = e
    cases true e =
        let same : b ≡ c = grind (arith, nat_tests) in
        let both : class c ≡ true = ap class (sym same) ∙ h in
        absurd (cc)

-- ---- numbers

glyph_in : (d : ℕ) → is_blank (digit_glyph false d) ≡ false
glyph_in d = cases (nat_lt d 10)
  where
    cases : (k : Bool) → is_blank (cond k (48 + d) (87 + d)) ≡ false
    cases true = above_blanks (48 + d) (omega arith)
    cases false = above_blanks (87 + d) (omega arith)

either_in : (k : Bool) (xs ys : List ℕ) → InWord xs → InWord ys → InWord (cond k xs ys)
either_in true xs ys one other = one
either_in false xs ys one other = other

digits_onto_in : (k n : ℕ) (acc : List ℕ) → InWord acc → InWord (digits_onto k 10 false n acc)
digits_onto_in zero n acc h = h
digits_onto_in (suc k) n acc h =
    either_in (n / 10 == 0) (digit_glyph false (n % 10) ∷ acc)
    (digits_onto k 10 false (n / 10) (digit_glyph false (n % 10) ∷ acc)) (glyph_in (n % 10), refl, h)
    (digits_onto_in k (n / 10) (digit_glyph false (n % 10) ∷ acc) (glyph_in (n % 10), refl, h))

pub decimal_in : (n : ℕ) → InWord (decimal n)
unfolding digits_in
decimal_in n = digits_onto_in 64 n [] tt

-- ---- names

letter_in : (b : ℕ) → in_name b ≡ true → is_blank b ≡ false
letter_in b h =
    no_blank b (other_byte in_name b 32 h refl) (other_byte in_name b 9 h refl)
    (other_byte in_name b 10 h refl) (other_byte in_name b 13 h refl)

letters_in : (bs : List ℕ) → list_all in_name bs ≡ true → InWord bs
letters_in [] h = tt
letters_in (b ∷ bs) h =
    let both = and_parts (in_name b) (list_all in_name bs) h in
    (letter_in b both.0, refl, letters_in bs both.1)

begins_in : (k l : Bool) → k ≡ true → (k || l) ≡ true
begins_in true l e = refl
begins_in false l e = absurd (cc)

name_in : (name : List ℕ) → is_name name ≡ true → InWord name
name_in [] h = absurd (cc)
name_in (b ∷ bs) h =
    let both = and_parts (begins_name b) (list_all in_name bs) h in
    (letter_in b (begins_in (begins_name b) (is_ascii_digit b) both.0), refl, letters_in bs both.1)

name_some : (name : List ℕ) → is_name name ≡ true → 1 ≤ length name
name_some [] h = absurd (cc)
name_some (b ∷ bs) h = omega arith

dots_in : (names : List (Listed ℕ))
    → All (λ name. IsTrue (is_name name.items)) names → InWord (flat_map with_dot names)
dots_in [] all = tt
dots_in (name ∷ names) all =
    both_in (with_dot name) (flat_map with_dot names)
    (both_in name.items (46 ∷ []) (name_in name.items
    (All-head (λ (n : Listed ℕ). IsTrue (is_name n.items)) name names all)) (refl, refl, tt))
    (dots_in names (All-tail (λ (n : Listed ℕ). IsTrue (is_name n.items)) name names all))

nodes_in : (nodes : List Node) (n : ℕ)
    → All (λ node. All (λ name. IsTrue (is_name name.items)) node.path.items) nodes
    → InWord (flat_map with_dot (get_or (map (λ node. node.path.items) nodes) n []))
nodes_in [] n all = tt
nodes_in (node ∷ nodes) zero all =
    dots_in node.path.items
    (All-head (λ (x : Node). All (λ name. IsTrue (is_name name.items)) x.path.items) node nodes all)
nodes_in (node ∷ nodes) (suc n) all =
    nodes_in nodes n
    (All-tail (λ (x : Node). All (λ name. IsTrue (is_name name.items)) x.path.items) node nodes all)

things_in : (net : Net) (things : List Thing) (t : ℕ) → All (IsThing net) things
    → InWord (get_or (map (λ thing. thing.name.items) things) t [])
things_in net [] t all = tt
things_in net (thing ∷ things) zero all =
    name_in thing.name.items (All-head (IsThing net) thing things all).named
things_in net (thing ∷ things) (suc t) all = things_in net things t (All-tail (IsThing net) thing things all)

thing_some : (net : Net) (things : List Thing) (t : ℕ) → All (IsThing net) things → t < length things
    → 1 ≤ length (get_or (map (λ thing. thing.name.items) things) t [])
thing_some net [] t all h = absurd (omega (arith, h))
thing_some net (thing ∷ things) zero all h =
    name_some thing.name.items (All-head (IsThing net) thing things all).named
thing_some net (thing ∷ things) (suc t) all h =
    thing_some net things t (All-tail (IsThing net) thing things all) (omega (arith, h))

register_thing : (net : Net) (regs : List Reg) (r : ℕ) → All (IsReg net) regs → r < length regs
    → get_or (map (λ reg. reg.thing) regs) r 0 < length net.things.items
register_thing net [] r all h = absurd (omega (arith, h))
register_thing net (reg ∷ regs) zero all h = (All-head (IsReg net) reg regs all).thing
register_thing net (reg ∷ regs) (suc r) all h =
    register_thing net regs r (All-tail (IsReg net) reg regs all) (omega (arith, h))

range_in : (net : Net) (r width : ℕ) → InWord (range_text net r width)
range_in net r width =
    let t = thing_of net r in
    let left = get_or (map (λ thing. thing.left) net.things.items) t 0 in
    let right = get_or (map (λ thing. thing.right) net.things.items) t 0 in
    let end : InWord (decimal right ++ codes "]") =
    both_in (decimal right) (codes "]") (decimal_in right) (refl, refl, tt) in
    let range : InWord (codes "[" ++ (decimal left ++ (codes ":" ++ (decimal right ++ codes "]")))) = (
      refl,
      refl,
      both_in (decimal left) (codes ":" ++ (decimal right ++ codes "]"))
          (decimal_in left) (refl, refl, end),
    ) in
    either_in (width == 1) []
    (codes "[" ++ (decimal left ++ (codes ":" ++ (decimal right ++ codes "]")))) tt range

-- a register's path and range are a word
pub label_in : (net : Net) (r width : ℕ) → IsNet net → InWord (register_path net r ++ range_text net r width)
label_in net r width is =
    let t = thing_of net r in
    let nodes =
    flat_map with_dot (node_names net (get_or (map (λ thing. thing.node) net.things.items) t 0)) in
    let name = get_or (map (λ thing. thing.name.items) net.things.items) t [] in
    both_in (register_path net r) (range_text net r width)
    (both_in nodes name (nodes_in net.nodes.items (get_or (map (λ thing. thing.node) net.things.items) t 0)
    is.path_names) (things_in net net.things.items t is.things))
    (range_in net r width)

pub label_some : (net : Net) (r width : ℕ) → IsNet net → r < length net.regs.items
    → 1 ≤ length (register_path net r ++ range_text net r width)
label_some net r width is there =
    let t = thing_of net r in
    let nodes =
    flat_map with_dot (node_names net (get_or (map (λ thing. thing.node) net.things.items) t 0)) in
    let name = get_or (map (λ thing. thing.name.items) net.things.items) t [] in
    let some = thing_some net net.things.items t is.things
    (register_thing net net.regs.items r is.regs there) in
    omega (
      arith,
      some,
      length-append nodes name,
      length-append (register_path net r) (range_text net r width),
    )
