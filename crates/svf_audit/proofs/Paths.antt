-- The active path and its bits: its registers take the bits of one list, and every path has room.
use Rattle.std.proofs.Common.{◌≡◌, ℕ, zero, suc, ◌+◌, ◌-◌, ◌<◌, ◌≤◌, Bool, get_or, List, [], ◌∷◌, ◌++◌}
use Rattle.std.proofs.Common.{length, take, drop, refl, sym, ap, ◌∙◌, subst, arith, length-append}
use Rattle.std.proofs.Common.{append_assoc, add-one}
use Rattle.std.specs.Prelude.{All, map, slice_range}
use Rattle.std.proofs.lemmas.List.{append-nil, drop_more, length-take-le, take_all, take-append-drop}
use Rattle.std.proofs.lemmas.List.Elements.{All-append, All-cons, All-nil}
use Rattle.std.proofs.Math.Seq.{drop-append_seam, drop-append-add, take-append_seam, take-append-add}
use Rattle.net_graph.specs.Chain.{IsRoute, chain}
use Rattle.net_graph.specs.Held.{AreHolds}
use Rattle.net_graph.specs.Named.{bits_from, width_of, IsBitOf}
use Rattle.net_graph.specs.Nets.{IsNet}
use Rattle.net_graph.specs.Path.{active, route_of}
use Rattle.net_graph.specs.Resets.{start_holds}
use Rattle.net_graph.specs.Signals.{Holds, bits_at}
use Rattle.net_graph.specs.declared.net.BitId.{BitId}
use Rattle.net_graph.specs.declared.net.Net.{Net}
use Rattle.net_graph.proofs.PlainNet.{length-bits_from}
use Rattle.net_graph.proofs.Shapes.{length_at}
use Rattle.net_graph.proofs.Widths.{chain_fits, started_held}
use Rattle.svf_audit.specs.Audit.{bits_on}
use Rattle.net_graph.proofs.Routes.{route_in}

-- ---- the bits of a path

-- they depend on the widths of the registers alone
pub same_bits : (s t : Holds) (path : List ℕ) → map length s ≡ map length t → bits_on s path ≡ bits_on t path
same_bits s t [] e = refl
same_bits s t (r ∷ rs) e =
    let wide : length (bits_at s r) ≡ length (bits_at t r) =
    length_at s r ∙ ap (λ ns. get_or ns r 0) e ∙ sym (length_at t r) in
    ap (λ n. bits_from r 0 n ++ bits_on s rs) wide
    ∙ ap (λ bs. bits_from r 0 (length (bits_at t r)) ++ bs) (same_bits s t rs e)

pub bits_at_start : (net : Net) (holds : Holds) (path : List ℕ) → AreHolds net holds
    → bits_on (start_holds net) path ≡ bits_on holds path
bits_at_start net holds path h =
    same_bits (start_holds net) holds path (started_held net (start_holds net) refl ∙ sym h)

pub length-bits_on : (holds : Holds) (path : List ℕ) → length (bits_on holds path) ≡ length (chain path holds)
length-bits_on holds [] = refl
length-bits_on holds (r ∷ rs) =
    omega (
      arith,
      length-append (bits_from r 0 (length (bits_at holds r))) (bits_on holds rs),
      length-append (bits_at holds r) (chain rs holds),
      length-bits_from r 0 (length (bits_at holds r)),
      length-bits_on holds rs,
    )

-- one more bit of a register
pub one_bit : (r k n : ℕ) (done now whole : List BitId) → k < n
    → now ≡ done ++ record { reg = r; pos = k } ∷ [] → done ++ bits_from r k (n - k) ≡ whole
    → now ++ bits_from r (k + 1) (n - (k + 1)) ≡ whole
one_bit r k n done now whole l e w =
    let here : BitId = record { reg = r; pos = k } in
    let rest = bits_from r (k + 1) (n - (k + 1)) in
    let more : n - k ≡ suc (n - (k + 1)) = omega arith in
    ap (λ x. x ++ rest) e
    ∙ append_assoc done (here ∷ []) rest
    ∙ ap (λ j. done ++ here ∷ bits_from r j (n - (k + 1))) (add-one k)
    ∙ ap (λ m. done ++ bits_from r k m) (sym more)
    ∙ w

-- one more register of a path
pub one_register : (holds : Holds) (path : List ℕ) (i w : ℕ) (done now whole : List BitId) → i < length path
    → w ≡ length (bits_at holds (get_or path i 0)) → now ≡ done ++ bits_from (get_or path i 0) 0 w
    → done ++ bits_on holds (drop i path) ≡ whole → now ++ bits_on holds (drop (i + 1) path) ≡ whole
one_register holds path i w done now whole l e is was =
    let r = get_or path i 0 in
    let rest = bits_on holds (drop (i + 1) path) in
    ap (λ x. x ++ rest) is
    ∙ append_assoc done (bits_from r 0 w) rest
    ∙ ap (λ n. done ++ (bits_from r 0 n ++ rest)) e
    ∙ ap (λ p. done ++ bits_on holds p) (sym (drop_more path i 0 l))
    ∙ was

pub last_bit : (r k n : ℕ) (done whole : List BitId) → n ≤ k
    → done ++ bits_from r k (n - k) ≡ whole → done ≡ whole
last_bit r k n done whole l e =
    let none : n - k ≡ 0 = omega arith in
    sym (append-nil done) ∙ ap (λ m. done ++ bits_from r k m) (sym none) ∙ e

pub on_length : (holds : Holds) (path : List ℕ) (i : ℕ)
    → i < length path → length (bits_on holds (drop i path))
    ≡ length (bits_at holds (get_or path i 0)) + length (bits_on holds (drop (i + 1) path))
on_length holds path i l =
    let r = get_or path i 0 in
    let rest = bits_on holds (drop (i + 1) path) in
    omega (
      arith,
      ap (λ p. length (bits_on holds p)) (drop_more path i 0 l),
      length-append
          (bits_from r 0 (length (bits_at holds r))) rest,
      length-bits_from r 0 (length (bits_at holds r)),
    )

-- one more register that is in both paths
pub both_next : (holds : Holds) (bits whole : List BitId) (path old : List ℕ) (i k w : ℕ) → i < length path
    → i < length old → get_or path i 0 ≡ get_or old i 0
    → w ≡ length (bits_at holds (get_or path i 0)) → k ≤ length bits
    → drop k bits ≡ bits_on holds (drop i old) → take k bits ++ bits_on holds (drop i path) ≡ whole
    → (take (k + w) bits ++ bits_on holds (drop (i + 1) path) ≡ whole)
    × (drop (k + w) bits ≡ bits_on holds (drop (i + 1) old)) × (k + w ≤ length bits)
both_next holds bits whole path old i k w l m e wide within last was =
    let r = get_or path i 0 in
    let front = take k bits in
    let own = bits_from r 0 w in
    let rest = bits_on holds (drop (i + 1) old) in
    let following : drop k bits ≡ own ++ rest =
    last
    ∙ ap (bits_on holds) (drop_more old i 0 m)
    ∙ ap (λ x. bits_from x 0 (length (bits_at holds x)) ++ rest) (sym e)
    ∙ ap (λ n. bits_from r 0 n ++ rest) (sym wide) in
    let all : bits ≡ front ++ (own ++ rest) =
    sym (take-append-drop k bits) ∙ ap (λ xs. front ++ xs) following in
    let size : k + w ≡ length front + length own =
    omega (arith, length-take-le k bits within, length-bits_from r 0 w) in
    let now : take (k + w) bits ≡ front ++ own =
    ap (λ n. take n bits) size
    ∙ ap (take (length front + length own)) all
    ∙ take-append-add front (own ++ rest) (length own)
    ∙ ap (λ xs. front ++ xs) (take-append_seam own rest) in (
      one_register holds path i w front (take (k + w) bits) whole l wide now was,
      ap (λ n. drop n bits) size
          ∙ ap (drop (length front + length own)) all
          ∙ drop-append-add front (own ++ rest) (length own)
          ∙ drop-append_seam own rest,
      omega (arith, size, ap length all, length-append front (own ++ rest), length-append own rest),
    )

-- the bits of the active path are few
pub bits_fit : (net : Net) (holds : Holds) (path : List ℕ) → IsNet net → AreHolds net holds
    → path ≡ route_of net holds → length (bits_on holds path) ≤ 4096
bits_fit net holds path w h e =
    omega (
      arith,
      length-bits_on holds path,
      chain_fits net path holds h
          (subst (IsRoute (length holds)) (sym e) (route_in net holds holds w h)),
      w.bits_within_limit,
    )

-- each is a bit of the network
bits_below : (P : BitId → Type 0) (r k n : ℕ)
    → ((p : ℕ) → p < k + n → P (record { reg = r; pos = p })) → All P (bits_from r k n)
bits_below P r k zero f = All-nil P
bits_below P r k (suc n) f =
    All-cons P (record { reg = r; pos = k }) (bits_from r (suc k) n) (f k (omega arith))
    (bits_below P r (suc k) n (λ p l. f p (omega (arith, l))))

pub bits_of_net : (net : Net) (holds : Holds) (path : List ℕ) → AreHolds net holds
    → All (IsBitOf net) (bits_on holds path)
bits_of_net net holds [] h = All-nil (IsBitOf net)
bits_of_net net holds (r ∷ rs) h =
    let wide : length (bits_at holds r) ≡ width_of net r = length_at holds r ∙ ap (λ ns. get_or ns r 0) h in
    All-append (IsBitOf net) (bits_from r 0 (length (bits_at holds r))) (bits_on holds rs)
    (bits_below (IsBitOf net) r 0 (length (bits_at holds r)) (λ p l. omega (arith, l, wide)))
    (bits_of_net net holds rs h)

-- ---- what the bits of a path hold

pub whole_range : (bits : List Bool) → slice_range bits 0 (length bits) ≡ bits
whole_range bits = let all : length bits - 0 ≡ length bits = omega arith in
    ap (λ n. take n bits) all ∙ take_all (length bits) bits (omega arith)

-- one more register of a path
pub chain_next : (holds : Holds) (path : List ℕ) (i : ℕ) (done now whole : List Bool) → i < length path
    → now ≡ done ++ bits_at holds (get_or path i 0) → done ++ chain (drop i path) holds ≡ whole
    → now ++ chain (drop (i + 1) path) holds ≡ whole
chain_next holds path i done now whole l is was =
    let rest = chain (drop (i + 1) path) holds in
    ap (λ x. x ++ rest) is ∙ append_assoc done (bits_at holds (get_or path i 0)) rest
    ∙ ap (λ p. done ++ chain p holds) (sym (drop_more path i 0 l)) ∙ was
