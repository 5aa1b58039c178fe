-- The lines of the reads of some bits, bit by bit and register by register.
use Rattle.std.proofs.Common.{◌≡◌, ◌≢◌, ◌<◌, ◌≤◌, ◌-◌, ℕ, zero, suc, Bool, true, false, cond, List, [], ◌∷◌}
use Rattle.std.proofs.Common.{◌++◌, length, take, drop, get_or, refl, sym, ap, ◌∙◌, arith, append-nil}
use Rattle.std.specs.Prelude.{map, filter}
use Rattle.std.proofs.lemmas.Grind.{flat_map-append}
use Rattle.net_graph.specs.Named.{bits_from, width_of}
use Rattle.net_graph.specs.Path.{same_place}
use Rattle.net_graph.specs.Signals.{capture_signal, signal}
use Rattle.net_graph.specs.declared.net.BitId.{BitId}
use Rattle.net_graph.specs.declared.net.Net.{Net}
use Rattle.net_graph.specs.declared.step.ReadBit.{ReadBit}
use Rattle.instruments.specs.OnNetwork.{outputs}
use Rattle.pdl_meaning.specs.States.{SeenState}
use Rattle.instruments.specs.Runners.{machines_of}
use Rattle.direct_report.specs.Marked.{IsMarked, marked}
use Rattle.direct_report.specs.Report.{bits_of_registers, differs, in_order, all_bits, line_if, lines}
use Rattle.direct_report.specs.Report.{read_line, reads_at, reads_on}
use Rattle.direct_report.specs.Seen.{found_all}
use Rattle.direct_report.proofs.Finding.{at}

lines_both : (xs ys : List (ReadBit × Bool)) → lines (xs ++ ys) ≡ lines xs ++ lines ys
lines_both xs ys = flat_map-append line_if xs ys

on_both : (reads : List (ReadBit × Bool)) (bs cs : List BitId)
    → lines (reads_on reads (bs ++ cs)) ≡ lines (reads_on reads bs) ++ lines (reads_on reads cs)
on_both reads bs cs =
    ap lines (flat_map-append (reads_at reads) bs cs) ∙ lines_both (reads_on reads bs) (reads_on reads cs)

-- the next bit of a register
pub next_bit : (reads : List (ReadBit × Bool)) (reg pos next n m : ℕ) → n ≡ suc m → next ≡ suc pos
    → lines (reads_on reads (bits_from reg pos n)) ≡ lines (reads_at reads (record { reg = reg; pos = pos }))
    ++ lines (reads_on reads (bits_from reg next m))
next_bit reads reg pos next n m e f =
    ap (λ (k : ℕ). lines (reads_on reads (bits_from reg pos k))) e
    ∙ lines_both (reads_at reads (record { reg = reg; pos = pos }))
    (reads_on reads (bits_from reg (suc pos) m))
    ∙ ap (λ (p : ℕ). lines (reads_at reads (record { reg = reg; pos = pos }))
    ++ lines (reads_on reads (bits_from reg p m))) (sym f)

-- the next register
pub next_register : (net : Net) (reads : List (ReadBit × Bool)) (r next n m width : ℕ)
    → n ≡ suc m → next ≡ suc r → width ≡ width_of net r
    → lines (reads_on reads (bits_of_registers net r n)) ≡ lines (reads_on reads (bits_from r 0 width))
    ++ lines (reads_on reads (bits_of_registers net next m))
next_register net reads r next n m width e f w =
    ap (λ (k : ℕ). lines (reads_on reads (bits_of_registers net r k))) e
    ∙ on_both reads (bits_from r 0 (width_of net r)) (bits_of_registers net (suc r) m)
    ∙ ap (λ (q : ℕ). lines (reads_on reads (bits_from r 0 q))
    ++ lines (reads_on reads (bits_of_registers net (suc r) m))) (sym w)
    ∙ ap (λ (q : ℕ). lines (reads_on reads (bits_from r 0 width))
    ++ lines (reads_on reads (bits_of_registers net q m))) (sym f)

-- ---- reads with the values found

module _ (f : ReadBit → Bool) where
  pub told_at : (reads : List ReadBit) (b : BitId)
      → reads_at (map (λ r. (r, f r)) reads) b ≡ map (λ r. (r, f r)) (filter (at b) reads)
  told_at [] b = refl
  told_at (r ∷ rs) b = by_place (at b r) (told_at rs b)
    where
      by_place : (p : Bool) → reads_at (map (λ r. (r, f r)) rs) b ≡ map (λ r. (r, f r)) (filter (at b) rs)
          → cond p ((r, f r) ∷ reads_at (map (λ r. (r, f r)) rs) b) (reads_at (map (λ r. (r, f r)) rs) b)
          ≡ map (λ r. (r, f r)) (cond p (r ∷ filter (at b) rs) (filter (at b) rs))
      by_place true e = ap (λ (zs : List (ReadBit × Bool)). (r, f r) ∷ zs) e
      by_place false e = e

-- what a run finds
abbrev pub value_in : SeenState → ReadBit → Bool
value_in s r = signal (outputs (machines_of s.models) s.insts) s.holds (capture_signal s.net r.bit)

-- the reads of a bit are those that its mark leads to
pub lines_at : (s : SeenState) (reads : List ReadBit) (b : BitId) (mark : ℕ) → IsMarked reads b mark
    → lines (reads_at (found_all s reads) b) ≡ lines (found_all s (marked reads mark))
lines_at s reads b mark m = ap lines (told_at (value_in s) reads b ∙ ap (found_all s) m.there)

-- ---- where nothing differs

quiet_line : (x : ReadBit × Bool) → differs x ≡ false → line_if x ≡ []
quiet_line x e = ap (λ (t : Bool). cond t (read_line x) []) e

count_is : (x : ReadBit × Bool) (xs : List (ReadBit × Bool)) (t : Bool) → differs x ≡ t
    → length (filter differs (x ∷ xs)) ≡ 0 → length (cond t (x ∷ filter differs xs) (filter differs xs)) ≡ 0
count_is x xs t f e =
    sym (ap (λ (u : Bool). length (cond u (x ∷ filter differs xs) (filter differs xs))) f) ∙ e

quiet_more : (x : ReadBit × Bool) (xs : List (ReadBit × Bool)) (t : Bool)
    → differs x ≡ t → length (filter differs (x ∷ xs)) ≡ 0
    → (length (filter differs xs) ≡ 0 → lines xs ≡ []) → lines (x ∷ xs) ≡ []
quiet_more x xs true f e rest = let c = count_is x xs true f e in absurd (omega (arith, c))
quiet_more x xs false f e rest =
    ap (λ (l : List ℕ). l ++ lines xs) (quiet_line x f) ∙ rest (count_is x xs false f e)

-- no line, where no read differs
quiet_lines : (xs : List (ReadBit × Bool)) → length (filter differs xs) ≡ 0 → lines xs ≡ []
quiet_lines [] e = refl
quiet_lines (x ∷ xs) e = quiet_more x xs (differs x) refl e (λ f. quiet_lines xs f)

quiet_place : (x : ReadBit × Bool) (xs : List (ReadBit × Bool)) (b : BitId) (t p : Bool) → differs x ≡ t
    → same_place b x.0.bit ≡ p → length (filter differs (x ∷ xs)) ≡ 0
    → (length (filter differs xs) ≡ 0 → length (filter differs (reads_at xs b)) ≡ 0)
    → length (filter differs (reads_at (x ∷ xs) b)) ≡ 0
quiet_place x xs b true p f g e rest = let c = count_is x xs true f e in absurd (omega (arith, c))
quiet_place x xs b false false f g e rest =
    ap (λ (q : Bool). length (filter differs (cond q (x ∷ reads_at xs b) (reads_at xs b)))) g
    ∙ rest (count_is x xs false f e)
quiet_place x xs b false true f g e rest =
    ap (λ (q : Bool). length (filter differs (cond q (x ∷ reads_at xs b) (reads_at xs b)))) g
    ∙ ap (λ (u : Bool). length (cond u (x ∷ filter differs (reads_at xs b)) (filter differs (reads_at xs b))))
    f
    ∙ rest (count_is x xs false f e)

quiet_at : (xs : List (ReadBit × Bool)) (b : BitId) → length (filter differs xs) ≡ 0
    → length (filter differs (reads_at xs b)) ≡ 0
quiet_at [] b e = refl
quiet_at (x ∷ xs) b e =
    quiet_place x xs b (differs x) (same_place b x.0.bit) refl refl e (λ f. quiet_at xs b f)

quiet_on : (xs : List (ReadBit × Bool)) (bs : List BitId)
    → length (filter differs xs) ≡ 0 → lines (reads_on xs bs) ≡ []
quiet_on xs [] e = refl
quiet_on xs (b ∷ bs) e =
    lines_both (reads_at xs b) (reads_on xs bs)
    ∙ ap (λ (l : List ℕ). l ++ lines (reads_on xs bs)) (quiet_lines (reads_at xs b) (quiet_at xs b e))
    ∙ quiet_on xs bs e

pub quiet : (net : Net) (xs : List (ReadBit × Bool))
    → length (filter differs xs) ≡ 0 → lines (in_order net xs) ≡ []
quiet net xs e = quiet_on xs (all_bits net) e

-- ---- the read of a mark

take_one : (reads : List ReadBit) (i : ℕ) (d : ReadBit) → i < length reads
    → take 1 (drop i reads) ≡ get_or reads i d ∷ []
take_one [] i d l = absurd (omega (arith, l))
take_one (r ∷ rs) zero d l = refl
take_one (r ∷ rs) (suc i) d l = take_one rs i d (omega (arith, l))

marked_is : (reads : List ReadBit) (mark : ℕ) (d : ReadBit) → mark ≢ 0 → mark ≤ length reads
    → marked reads mark ≡ get_or reads (mark - 1) d ∷ []
marked_is reads zero d some within = absurd (some refl)
marked_is reads (suc k) d some within =
    take_one reads k d (omega (arith, within)) ∙ ap (λ (i : ℕ). get_or reads i d ∷ []) (same k)
  where
    same : (i : ℕ) → i ≡ suc i - 1
    same i = omega arith

-- its line is that of the reads that its mark leads to
pub marked_line : (s : SeenState) (reads : List ReadBit) (mark : ℕ) (d : ReadBit) (found : Bool) → mark ≢ 0
    → mark ≤ length reads → found ≡ value_in s (get_or reads (mark - 1) d)
    → line_if (get_or reads (mark - 1) d, found) ≡ lines (found_all s (marked reads mark))
marked_line s reads mark d found some within is =
    ap (λ (v : Bool). line_if (get_or reads (mark - 1) d, v)) is
    ∙ sym (append-nil (line_if (get_or reads (mark - 1) d, value_in s (get_or reads (mark - 1) d))))
    ∙ sym (ap (λ (rs : List ReadBit). lines (found_all s rs)) (marked_is reads mark d some within))
