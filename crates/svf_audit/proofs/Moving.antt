-- Where a path has taken bits, just those that are listed have changed.
use Rattle.std.proofs.Common.{◌≡◌, ℕ, ◌+◌, ◌<◌, ◌≤◌, inl, inr, Bool, true, false, List, [], ◌∷◌, length}
use Rattle.std.proofs.Common.{get_or, drop, map, refl, sym, ap, ◌∙◌, subst, arith}
use Rattle.std.specs.Prelude.{◌&&◌, ◌||◌, not, cond, filter}
use Rattle.std.specs.List.{list_any}
use Rattle.std.proofs.lemmas.Bool.{cases_lt, false≢true}
use Rattle.std.proofs.lemmas.List.{drop_more, drop_all, get_or_past}
use Rattle.ij_bits.specs.BitLists.{same_bit}
use Rattle.net_graph.specs.declared.net.BitId.{BitId}
use Rattle.net_graph.specs.declared.net.Net.{Net}
use Rattle.net_graph.specs.Chain.{IsRoute, chain, put_chain}
use Rattle.net_graph.specs.Held.{set_hold, IsHeld}
use Rattle.net_graph.specs.Path.{is_select, same_place}
use Rattle.net_graph.specs.Signals.{Holds, bits_at, hold_at}
use Rattle.net_graph.proofs.Chains.{chain-put_chain, put_chain_off}
use Rattle.net_graph.proofs.Shapes.{length_at, put_chain-shape}
use Rattle.net_graph.proofs.Writing.{set_hold-at, set_hold-other, set_hold-shape}
use Rattle.net_graph.proofs.Places.{place_is}
use Rattle.svf_audit.specs.Audit.{bits_on}
use Rattle.svf_audit.specs.Registers.{differing, differs}
use Rattle.svf_audit.proofs.Places.{bits_on_same, chain_is, filtered, first, holds_same, off_path, passes}
use Rattle.svf_audit.proofs.Places.{place_of}
use Rattle.svf_audit.proofs.Turning.{differing_is}

same_values : (a b : Bool) → not (same_bit a b) ≡ false → a ≡ b
same_values true true e = refl
same_values true false e = absurd (false≢true (sym e))
same_values false true e = absurd (false≢true (sym e))
same_values false false e = refl

pub as_wide : (s t : Holds) → map length s ≡ map length t → (r : ℕ)
    → length (bits_at s r) ≡ length (bits_at t r)
as_wide s t e r = length_at s r ∙ ap (λ ns. get_or ns r 0) e ∙ sym (length_at t r)

module _ (s t : Holds) (path : List ℕ) (c : List Bool) (put : t ≡ put_chain path c s)
    (fits : length c ≡ length (chain path s)) where
  pub shape_kept : map length t ≡ map length s
  shape_kept = ap (map length) put ∙ put_chain-shape path c s fits

  -- a bit that isn't listed stays
  pub stays : (b : BitId) → list_any (same_place b) (filter (differs s t) (bits_on s path)) ≡ false
      → hold_at s b ≡ hold_at t b
  stays b e = by (differs s t b) refl
    where
      off : (bits_at t b.reg ≡ bits_at s b.reg) → hold_at s b ≡ hold_at t b
      off same = ap (λ bs. get_or bs b.pos false) (sym same)

      by : (d : Bool) → differs s t b ≡ d → hold_at s b ≡ hold_at t b
      by false d = sym (same_values (hold_at t b) (hold_at s b) d)
      by true d =
          elim (cases_lt b.pos (length (bits_at s b.reg))) [
            | inl inside ↦ off (ap (λ h. bits_at h b.reg) put ∙ put_chain_off path c s b.reg
                (off_path s path b inside (filtered (differs s t) b (bits_on s path) d e)))
            | inr past ↦ get_or_past (bits_at s b.reg) b.pos false past ∙ sym (get_or_past
                (bits_at t b.reg) b.pos false (omega (arith, past, as_wide t s shape_kept b.reg)))
          ]

  -- a bit that selects stays, where none is listed
  pub select_stays : (net : Net) → list_any (is_select net) (filter (differs s t) (bits_on s path)) ≡ false
      → (b : BitId) → is_select net b ≡ true → hold_at s b ≡ hold_at t b
  select_stays net e b h = stays b (passes (is_select net) b (filter (differs s t) (bits_on s path)) h e)

  pub bits_kept : bits_on s path ≡ bits_on t path
  bits_kept = bits_on_same s t path (as_wide s t (sym shape_kept))

  -- the bits at which the path has changed
  pub moved_is : IsRoute (length s) path
      → differing (bits_on s path) (chain path s) c ≡ filter (differs s t) (bits_on s path)
  moved_is route =
      let now : map (hold_at t) (bits_on s path) ≡ c = ap (map (hold_at t)) bits_kept ∙ chain_is t path
      ∙ ap (chain path) put ∙ chain-put_chain path c s route fits in
      ap (λ x. differing (bits_on s path) x c) (sym (chain_is s path))
      ∙ ap (differing (bits_on s path) (map (hold_at s) (bits_on s path))) (sym now)
      ∙ differing_is (hold_at s) (hold_at t) (bits_on s path)

-- ---- bits are put where they are in other holds

pub held_as : (s t : Holds) (b : BitId) → map length s ≡ map length t → IsHeld t b → IsHeld s b
held_as s t b e h = omega (arith, h, as_wide s t e b.reg)

abbrev pub OthersSame : Holds → Holds → List BitId → Type 0
OthersSame s t bits = (b : BitId) → list_any (same_place b) bits ≡ false → hold_at s b ≡ hold_at t b

put_one : (s t now : Holds) (w : BitId) (ws : List BitId) → IsHeld s w → now ≡ set_hold s w (hold_at t w)
    → OthersSame s t (w ∷ ws) → OthersSame now t ws
put_one s t now w ws h is o b e = by (same_place b w) refl
  where
    by : (p : Bool) → same_place b w ≡ p → hold_at now b ≡ hold_at t b
    by true p =
        let at : hold_at now w ≡ hold_at t w =
        ap (λ x. hold_at x w) is ∙ set_hold-at s w (hold_at t w) (omega (arith, h, length_at s w.reg)) in
        ap (hold_at now) (place_is b w p) ∙ at ∙ ap (hold_at t) (sym (place_is b w p))
    by false p =
        let apart : b ≡ w
        → ⊥ = λ same. false≢true (sym p ∙ place_of b w (ap (λ x. x.reg) same) (ap (λ x. x.pos) same)) in
        ap (λ x. hold_at x b) is ∙ set_hold-other s w b (hold_at t w) apart
        ∙ o b (ap (λ q. q || list_any (same_place b) ws) p ∙ e)

pub put_next : (s t now : Holds) (bits : List BitId) (i : ℕ)
    → i < length bits → IsHeld s (get_or bits i first)
    → now ≡ set_hold s (get_or bits i first) (hold_at t (get_or bits i first))
    → OthersSame s t (drop i bits) → OthersSame now t (drop (i + 1) bits)
put_next s t now bits i l h is o =
    put_one s t now (get_or bits i first) (drop (i + 1) bits) h is
    (subst (OthersSame s t) (drop_more bits i first l) o)

pub put_shape : (s t now : Holds) (w : BitId) (v : Bool) → now ≡ set_hold s w v
    → map length s ≡ map length t → map length now ≡ map length t
put_shape s t now w v is e = ap (map length) is ∙ set_hold-shape s w v ∙ e

pub put_end : (s t : Holds) (bits : List BitId) (i : ℕ) → length bits ≤ i
    → map length s ≡ map length t → OthersSame s t (drop i bits) → s ≡ t
put_end s t bits i l e o = holds_same s t e (λ b. o b (ap (list_any (same_place b)) (drop_all i bits l)))

-- ---- tests of the bits that change

pub filter_both : {A : Type 0} (p q : A → Bool) (xs : List A)
    → filter (λ x. p x && q x) xs ≡ filter p (filter q xs)
filter_both p q [] = refl
filter_both p q (x ∷ xs) = by (p x) (q x) refl refl (filter_both p q xs)
  where
    by : (t u : Bool) → p x ≡ t → q x ≡ u → filter (λ y. p y && q y) xs ≡ filter p (filter q xs)
        → filter (λ y. p y && q y) (x ∷ xs) ≡ filter p (filter q (x ∷ xs))
    by true true e f rest =
        ap (λ t. cond (t && q x) (x ∷ filter (λ y. p y && q y) xs) (filter (λ y. p y && q y) xs)) e
        ∙ ap (λ t. cond t (x ∷ filter (λ y. p y && q y) xs) (filter (λ y. p y && q y) xs)) f
        ∙ ap (λ ys. x ∷ ys) rest
        ∙ sym (ap (λ t. filter p (cond t (x ∷ filter q xs) (filter q xs))) f
        ∙ ap (λ t. cond t (x ∷ filter p (filter q xs)) (filter p (filter q xs))) e)
    by true false e f rest =
        ap (λ t. cond (t && q x) (x ∷ filter (λ y. p y && q y) xs) (filter (λ y. p y && q y) xs)) e
        ∙ ap (λ t. cond t (x ∷ filter (λ y. p y && q y) xs) (filter (λ y. p y && q y) xs)) f
        ∙ rest
        ∙ sym (ap (λ t. filter p (cond t (x ∷ filter q xs) (filter q xs))) f)
    by false true e f rest =
        ap (λ t. cond (t && q x) (x ∷ filter (λ y. p y && q y) xs) (filter (λ y. p y && q y) xs)) e
        ∙ rest
        ∙ sym (ap (λ t. filter p (cond t (x ∷ filter q xs) (filter q xs))) f
        ∙ ap (λ t. cond t (x ∷ filter p (filter q xs)) (filter p (filter q xs))) e)
    by false false e f rest =
        ap (λ t. cond (t && q x) (x ∷ filter (λ y. p y && q y) xs) (filter (λ y. p y && q y) xs)) e
        ∙ rest
        ∙ sym (ap (λ t. filter p (cond t (x ∷ filter q xs) (filter q xs))) f)
