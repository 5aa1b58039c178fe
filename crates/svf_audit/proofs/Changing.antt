-- What changes along a path, and that a scan which does a group's writes leaves the data bits that the group
-- means.
use Rattle.std.proofs.Common.{◌≡◌, ◌⊎◌, inl, inr, ⊎_elim, ℕ, zero, suc, ◌+◌, ◌-◌, ◌<◌, Bool, true, false}
use Rattle.std.proofs.Common.{List, [], ◌∷◌, length, get_or, refl, sym, ap, ◌∙◌, subst, arith, length-append}
use Rattle.std.specs.Prelude.{Contains, ◌&&◌, not, IsFalse}
use Rattle.std.specs.List.{list_all}
use Rattle.std.proofs.lemmas.Bool.{true≢false, cases_Bool, cases_lt, and_parts, and_from, not_from_false}
use Rattle.std.proofs.lemmas.Bool.Decides.{eqb_tells}
use Rattle.std.proofs.lemmas.List.{get_or_append_left, get_or-append-add, get_or_past}
use Rattle.std.proofs.lemmas.List.Elements.{All-contains, Contains-get_or}
use Rattle.ij_bits.specs.BitLists.{bit, same_bit}
use Rattle.ij_bits.proofs.SameBits.{same_bits}
use Rattle.net_graph.specs.declared.net.BitId.{BitId}
use Rattle.net_graph.specs.declared.net.Net.{Net}
use Rattle.net_graph.specs.declared.step.WriteBit.{WriteBit}
use Rattle.net_graph.specs.Chain.{NotIn, IsRoute, chain, position}
use Rattle.net_graph.specs.Named.{bits_from}
use Rattle.net_graph.specs.Path.{is_select, same_place}
use Rattle.net_graph.specs.SeenSteps.{SeenGroup}
use Rattle.net_graph.specs.Signals.{Holds, bits_at, hold_at}
use Rattle.net_graph.specs.Steps.{IsDataBit, IsGroup}
use Rattle.net_graph.specs.Writes.{write_all}
use Rattle.net_graph.proofs.DataBits.{SameData}
use Rattle.net_graph.proofs.Placing.{StandsOn, place_cases, place_below, not_in}
use Rattle.net_graph.proofs.Positions.{IsIn}
use Rattle.net_graph.proofs.Shapes.{shape, widths, length_at}
use Rattle.net_graph.proofs.Writing.{IsHeld, write_all-at, write_all-other}
use Rattle.net_graph.proofs.Places.{place_is, place_self}
use Rattle.headline.proofs.Comparing.{mapped}
use Rattle.tap_machine.specs.Play.{is_empty}
use Rattle.svf_audit.specs.Audit.{bits_on, changed, is_written, does_writes}
use Rattle.svf_audit.specs.Work.{has_value}
use Rattle.svf_audit.proofs.Telling.{all_of, any_of, any_from, passes_in}
use Rattle.net_graph.proofs.PlainNet.{length-bits_from}
use Rattle.ij_bits.proofs.Contained.{none_in}
use Rattle.ij_bits.proofs.Tests.{not_both}

pub in_or_not : (r : ℕ) (p : List ℕ) → IsIn r p ⊎ NotIn r p
in_or_not r [] = inr tt
in_or_not r (x ∷ xs) =
    ⊎_elim (λ e. inl (inl e.1))
    (λ e. ⊎_elim (λ i. inl (inr i)) (λ n. inr (e.1, n)) (in_or_not r xs)) (eqb_tells x r)

-- ---- the bits of a path, place by place

abbrev bit_id : ℕ → ℕ → BitId
bit_id r k = record { reg = r; pos = k }

get-bits_from : (r k n i : ℕ) (d : BitId) → i < n → get_or (bits_from r k n) i d ≡ bit_id r (k + i)
get-bits_from r k zero i d l = absurd (omega (arith, l))
get-bits_from r k (suc n) zero d l =
    let z : k ≡ k + 0 = omega arith in
    ap (bit_id r) z
get-bits_from r k (suc n) (suc i) d l =
    let z : suc k + i ≡ k + suc i = omega arith in
    get-bits_from r (suc k) n i d (omega (arith, l)) ∙ ap (bit_id r) z

module _ (holds : Holds) where
  pub length-bits_on : (p : List ℕ) → length (bits_on holds p) ≡ length (chain p holds)
  length-bits_on [] = refl
  length-bits_on (r ∷ rs) =
      omega (
        arith,
        length-append (bits_from r 0 (length (bits_at holds r))) (bits_on holds rs),
        length-append (bits_at holds r) (chain rs holds),
        length-bits_from r 0 (length (bits_at holds r)),
        length-bits_on rs,
      )

  abbrev first_bits : ℕ → List BitId
  first_bits r = bits_from r 0 (length (bits_at holds r))

  in_first : (r : ℕ) (rs : List ℕ) (i : ℕ) (d : BitId) → i < length (bits_at holds r)
      → get_or (bits_on holds (r ∷ rs)) i d ≡ bit_id r i
  in_first r rs i d l =
      let k = length-bits_from r 0 (length (bits_at holds r)) in
      let z : 0 + i ≡ i = omega arith in
      get_or_append_left (first_bits r) (bits_on holds rs) d i (omega (arith, k, l))
      ∙ get-bits_from r 0 (length (bits_at holds r)) i d l ∙ ap (bit_id r) z

  after_first : (r : ℕ) (rs : List ℕ) (i : ℕ) (d : BitId)
      → get_or (bits_on holds (r ∷ rs)) (length (bits_at holds r) + i) d ≡ get_or (bits_on holds rs) i d
  after_first r rs i d =
      ap (λ n. get_or (bits_on holds (r ∷ rs)) (n + i) d)
      (sym (length-bits_from r 0 (length (bits_at holds r))))
      ∙ get_or-append-add (first_bits r) (bits_on holds rs) i d

  -- a bit of the path is at its place
  pub place_at : (p : List ℕ) (b d : BitId) → StandsOn holds p b
      → get_or (bits_on holds p) (position p holds b) d ≡ b
  place_at [] b d s = absurd s.on
  place_at (r ∷ rs) b d s =
      ⊎_elim
      (λ c. let l : b.pos < length (bits_at holds r) = subst (λ q. b.pos < length (bits_at holds q))
      (sym c.0) s.there in ap (λ n. get_or (bits_on holds (r ∷ rs)) n d) c.1
      ∙ in_first r rs b.pos d l ∙ ap (λ q. bit_id q b.pos) c.0)
      (λ c. ap (λ n. get_or (bits_on holds (r ∷ rs)) n d) c.1 ∙ after_first r rs (position rs holds b) d
      ∙ place_at rs b d (record { on = ⊎_elim (λ e. absurd (c.0 e)) (λ i. i) s.on; there = s.there }))
      (place_cases holds r rs b)

  abbrev Here : List ℕ → BitId → ℕ → Type 0
  Here p b i = StandsOn holds p b × (position p holds b ≡ i)

  here_first : (r : ℕ) (rs : List ℕ) (i : ℕ) (d : BitId) → i < length (bits_at holds r)
      → Here (r ∷ rs) (get_or (bits_on holds (r ∷ rs)) i d) i
  here_first r rs i d less =
      let b = bit_id r i in
      let at : position (r ∷ rs) holds b
      ≡ i = ⊎_elim (λ c. c.1) (λ c. absurd (c.0 refl)) (place_cases holds r rs b) in
      subst (λ x. Here (r ∷ rs) x i) (sym (in_first r rs i d less))
      (record { on = inl refl; there = less }, at)

  here_later : (r : ℕ) (rs : List ℕ) (i j : ℕ) (d : BitId) → NotIn r rs → i ≡ length (bits_at holds r) + j
      → Here rs (get_or (bits_on holds rs) j d) j → Here (r ∷ rs) (get_or (bits_on holds (r ∷ rs)) i d) i
  here_later r rs i j d n e k =
      let b = get_or (bits_on holds rs) j d in
      let at : position (r ∷ rs) holds b
      ≡ i = ⊎_elim (λ c. absurd (not_in rs b.reg (subst (λ q. NotIn q rs) c.0 n) k.0.on))
      (λ c. omega (arith, c.1, k.1, e)) (place_cases holds r rs b) in
      let is : get_or (bits_on holds (r ∷ rs)) i d
      ≡ b = ap (λ m. get_or (bits_on holds (r ∷ rs)) m d) e ∙ after_first r rs j d in
      subst (λ x. Here (r ∷ rs) x i) (sym is) (record { on = inr k.0.on; there = k.0.there }, at)

  -- and at each place is a bit of the path
  pub at_place : (n : ℕ) (p : List ℕ) (i : ℕ) (d : BitId) → IsRoute n p → i < length (chain p holds)
      → Here p (get_or (bits_on holds p) i d) i
  at_place n [] i d h l = absurd (omega (arith, l))
  at_place n (r ∷ rs) i d h l =
      let long = length-append (bits_at holds r) (chain rs holds) in
      ⊎_elim
      (λ less. here_first r rs i d less)
      (λ more. let j = i - length (bits_at holds r) in
      let e : i ≡ length (bits_at holds r) + j = omega (arith, more) in
      here_later r rs i j d h.1 e (at_place n rs j d h.2 (omega (arith, l, long, e))))
      (cases_lt i (length (bits_at holds r)))

  pub on_path : (p : List ℕ) (b : BitId) → StandsOn holds p b → Contains (bits_on holds p) b
  on_path p b s =
      subst (Contains (bits_on holds p)) (place_at p b b s) (Contains-get_or (bits_on holds p)
      (position p holds b) b (omega (arith, place_below holds p b s, length-bits_on p)))

-- ---- what changes

module _ (net : Net) (path : List ℕ) (before now : Holds) (same : shape now ≡ shape before) (off : (r : ℕ)
    → NotIn r path → bits_at now r ≡ bits_at before r) where
  abbrev changes : List BitId
  changes = changed net path before now

  abbrev test : BitId → Bool
  test b = not (is_select net b) && not (same_bit (hold_at now b) (hold_at before b))

  pub told : (b : BitId) → IsFalse (is_select net b) → (hold_at now b ≡ hold_at before b) ⊎ Contains changes b
  told b d =
      let wide : length (bits_at now b.reg) ≡ length (bits_at before b.reg) =
      length_at now b.reg ∙ ap (λ ns. get_or ns b.reg 0) same ∙ sym (length_at before b.reg) in
      ⊎_elim
      (λ s. inl (same_bits (hold_at now b) (hold_at before b) s))
      (λ s. ⊎_elim (λ i. ⊎_elim (λ l. inr (passes_in test (bits_on before path) b
      (on_path before path b (record { on = i; there = l })) (and_from (not (is_select net b))
      (not (same_bit (hold_at now b) (hold_at before b))) (not_from_false (is_select net b) d)
      (not_from_false (same_bit (hold_at now b) (hold_at before b)) s))))
      (λ l. inl (get_or_past (bits_at now b.reg) b.pos false (omega (arith, l, wide)) ∙ sym (get_or_past
      (bits_at before b.reg) b.pos false l))) (cases_lt b.pos (length (bits_at before b.reg))))
      (λ n. inl (ap (λ x. bit x b.pos) (off b.reg n))) (in_or_not b.reg path))
      (cases_Bool (same_bit (hold_at now b) (hold_at before b)))

  pub none_changed : is_empty changes ≡ true → SameData net now before
  none_changed e b d = ⊎_elim (λ s. s) (λ c. absurd (emptied changes b e c)) (told b d)
    where
      emptied : (xs : List BitId) (b : BitId) → is_empty xs ≡ true → Contains xs b → ⊥
      emptied [] b e c = none_in b c
      emptied (x ∷ xs) b e c = true≢false (sym e)

  -- the bits that a group writes get their values, and no other data bit changes
  pub writes_done : (g : SeenGroup) → IsGroup net g → shape before ≡ widths net
      → does_writes g changes now ≡ true → SameData net now (write_all before g.writes)
  writes_done g v w e b d =
      let both = and_parts (list_all (is_written g.writes) changes) (list_all (has_value now) g.writes) e in
      ⊎_elim
      (λ t. written b (any_of (λ (x : WriteBit). same_place x.bit b) g.writes t) both.1)
      (λ t. let other : hold_at (write_all before g.writes) b ≡ hold_at before b = write_all-other g.writes
      before b (λ c. let (x, k, q) = mapped (λ (x : WriteBit). x.bit) g.writes b c in
      not_both (is_written g.writes b) (any_from (λ (x : WriteBit). same_place x.bit b) g.writes x k
      (ap (λ z. same_place z b) (sym q) ∙ place_self b)) t) in ⊎_elim (λ s. s ∙ sym other) (λ c. absurd
      (not_both (is_written g.writes b) (all_of (is_written g.writes) changes both.0 b c) t)) (told b d))
      (cases_Bool (is_written g.writes b))
    where
      written : (b : BitId) → (x : WriteBit) × Contains g.writes x × (same_place x.bit b ≡ true)
          → list_all (has_value now) g.writes ≡ true → hold_at now b ≡ hold_at (write_all before g.writes) b
      written b t all =
          let (x, k, q) = t in
          let is = place_is x.bit b q in
          let datum = All-contains (λ (w : WriteBit). IsDataBit net w.bit) g.writes x v.written k in
          let held : IsHeld (shape before) x.bit = subst (λ ns. IsHeld ns x.bit) (sym w) datum.there in
          ap (hold_at now) (sym is)
          ∙ same_bits (hold_at now x.bit) x.value (all_of (has_value now) g.writes all x k)
          ∙ sym (write_all-at g.writes before x v.written_once k held)
          ∙ ap (hold_at (write_all before g.writes)) is
