-- Rows of a path, from its far end on.
use Rattle.std.proofs.Common.{◌≡◌, ℕ, zero, suc, ◌+◌, ◌-◌, ◌<◌, ◌≤◌, Bool, Option, List, [], ◌∷◌, ◌++◌}
use Rattle.std.proofs.Common.{length, take, drop, map, get_or, refl, ap, sym, ◌∙◌, subst, arith, append_assoc}
use Rattle.std.proofs.Common.{append-nil, length-append}
use Rattle.std.specs.Prelude.{codes}
use Rattle.std.proofs.Math.Seq.{drop-cons, take-suc}
use Rattle.std.proofs.lemmas.List.{drop-drop, take-append-drop, get_or-map}
use Rattle.ij_io.specs.Bytes.{Adds}
use Rattle.ij_io.proofs.Adding.{adds_both}
use Rattle.net_graph.specs.declared.net.Net.{Net}
use Rattle.net_graph.specs.declared.net.Reg.{Reg}
use Rattle.net_graph.specs.Chain.{chain, IsRoute}
use Rattle.net_graph.specs.Held.{AreHolds}
use Rattle.net_graph.specs.Named.{width_of}
use Rattle.net_graph.specs.Nets.{IsNet}
use Rattle.net_graph.specs.Path.{route_of}
use Rattle.net_graph.specs.Signals.{Holds, bits_at}
use Rattle.net_graph.proofs.Routes.{route_in}
use Rattle.net_graph.proofs.Shapes.{length_at}
use Rattle.net_graph.proofs.Widths.{chain_fits}
use Rattle.net_bench.proofs.Wide.{wide_at}
use Rattle.svf_notes.specs.declared.scan.Shifted.{Shifted}
use Rattle.svf_notes.specs.Notes.{note_text, path_length, row, rows}

pub route_at : (n : ℕ) (path : List ℕ) (i : ℕ) → i < length path → IsRoute n path → get_or path i 0 < n
route_at n [] i h is = absurd (omega arith)
route_at n (r ∷ rs) zero h is = is.0
route_at n (r ∷ rs) (suc i) h is = route_at n rs i (omega arith) is.2

-- a register has as many bits as its update stage holds
pub width_is : (net : Net) (holds : Holds) (r : ℕ) → AreHolds net holds
    → width_of net r ≡ length (bits_at holds r)
width_is net holds r held = sym (length_at holds r ∙ ap (λ (ns : List ℕ). get_or ns r 0) held)

-- a register on a path has bits
pub some_bits : (net : Net) (holds : Holds) (r : ℕ) → IsNet net → AreHolds net holds
    → r < length net.regs.items → 1 ≤ length (bits_at holds r)
some_bits net holds r is held there =
    omega (arith, wide_at net net.regs.items r is.regs there, width_is net holds r held)

chain_both : (xs ys : List ℕ) (holds : Holds) → chain (xs ++ ys) holds ≡ chain xs holds ++ chain ys holds
chain_both [] ys holds = refl
chain_both (x ∷ xs) ys holds =
    ap (λ (l : List Bool). bits_at holds x ++ l) (chain_both xs ys holds)
    ∙ sym (append_assoc (bits_at holds x) (chain xs holds) (chain ys holds))

-- the bits of the registers before a place, and of the one there
pub turn_end : (holds : Holds) (path : List ℕ) (i r : ℕ) → i < length path → r ≡ get_or path i 0
    → length (chain (take (suc i) path) holds) ≡ length (chain (take i path) holds) + length (bits_at holds r)
turn_end holds path i r h is =
    let here = chain_both (take i path) (get_or path i 0 ∷ []) holds in
    let one : bits_at holds (get_or path i 0) ++ []
    ≡ bits_at holds r = append-nil (bits_at holds (get_or path i 0)) ∙ ap (bits_at holds) (sym is) in
    ap (λ (p : List ℕ). length (chain p holds)) (take-suc path i 0 h)
    ∙ ap length here
    ∙ ap (λ (l : List Bool). length (chain (take i path) holds ++ l)) one
    ∙ length-append (chain (take i path) holds) (bits_at holds r)

pub note_both : (xs ys : List (List ℕ)) → note_text (xs ++ ys) ≡ note_text xs ++ note_text ys
note_both [] ys = refl
note_both (x ∷ xs) ys =
    ap (λ (l : List ℕ). codes "\n!:" ++ (x ++ l)) (note_both xs ys)
    ∙ ap (λ (l : List ℕ). codes "\n!:" ++ l) (sym (append_assoc x (note_text xs) (note_text ys)))

-- one row more
pub rows_next : (net : Net) (holds : Holds) (path : List ℕ) (bits : List Shifted) (i r end at : ℕ)
    (part : List Shifted) (old between new : Option (List ℕ)) → i < length path → r ≡ get_or path i 0
    → end ≡ at + length (bits_at holds r) → part ≡ take (length (bits_at holds r)) (drop at bits)
    → Adds old between (note_text (rows net holds end (drop (suc i) path) (drop end bits)))
    → Adds between new (codes "\n!:" ++ row net r at (bits_at holds r) part)
    → Adds old new (note_text (rows net holds at (drop i path) (drop at bits)))
rows_next net holds path bits i r end at part old between new h is ends parts before more =
    let held = bits_at holds r in
    let w = length held in
    let rs = drop (suc i) path in
    let line = row net r at held (take w (drop at bits)) in
    let cut : drop i path ≡ r ∷ rs = drop-cons path i 0 h ∙ ap (λ (x : ℕ). x ∷ rs) (sym is) in
    let far : drop end bits ≡ drop w (drop at bits) =
    ap (λ (n : ℕ). drop n bits) ends ∙ sym (drop-drop w at bits) in
    let text : note_text (rows net holds at (drop i path) (drop at bits))
    ≡ note_text (rows net holds end rs (drop end bits)) ++ (codes "\n!:" ++ row net r at held part) =
    ap (λ (p : List ℕ). note_text (rows net holds at p (drop at bits))) cut
    ∙ note_both (rows net holds (at + w) rs (drop w (drop at bits))) (line ∷ [])
    ∙ ap (λ (l : List ℕ). note_text (rows net holds (at + w) rs (drop w (drop at bits)))
    ++ (codes "\n!:" ++ l)) (append-nil line)
    ∙ ap (λ (n : ℕ). note_text (rows net holds n rs (drop w (drop at bits)))
    ++ (codes "\n!:" ++ line)) (sym ends)
    ∙ ap (λ (l : List Shifted). note_text (rows net holds end rs l) ++ (codes "\n!:" ++ line)) (sym far)
    ∙ ap (λ (l : List Shifted). note_text (rows net holds end rs (drop end bits))
    ++ (codes "\n!:" ++ row net r at held l)) (sym parts) in
    subst (λ (l : List ℕ). Adds old new l) (sym text) (adds_both before more)

-- ---- the active path

pub path_short : (net : Net) (holds : Holds) → IsNet net → AreHolds net holds → path_length net holds ≤ 4096
path_short net holds is held =
    omega (
      arith,
      chain_fits net (route_of net holds) holds held (route_in net holds holds is held),
      is.bits_within_limit,
    )

pub width_at : (regs : List Reg) (r : ℕ) (reg : Reg) → r < length regs → reg ≡ get_or regs r reg
    → get_or (map (λ x. x.width) regs) r 0 ≡ reg.width
width_at regs r reg there is =
    get_or-map (λ (x : Reg). x.width) regs r reg 0 there ∙ ap (λ (x : Reg). x.width) (sym is)

-- the register at a place from the far end on: where it ends and where it begins
pub turn_is : (holds : Holds) (path : List ℕ) (j k end : ℕ) → j < length path → k ≡ length path - 1 - j
    → end ≡ length (chain (take (length path - j) path) holds) → end
    ≡ length (chain (take (length path - (j + 1)) path) holds) + length (bits_at holds (get_or path k 0))
turn_is holds path j k end h place is =
    let i = length path - (j + 1) in
    let more : length path - j ≡ suc i = omega arith in
    let same : k ≡ i = omega arith in
    is
    ∙ ap (λ (n : ℕ). length (chain (take n path) holds)) more
    ∙ turn_end holds path i (get_or path k 0) (omega arith) (ap (λ (n : ℕ). get_or path n 0) same)
