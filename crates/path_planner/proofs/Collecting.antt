-- The collected writes settle the rows, and name each bit once.
use Rattle.std.proofs.Common.{◌≡◌, ◌≢◌, ◌⊎◌, inl, inr, ⊎_elim, ℕ, zero, suc, ◌<◌, Bool, true, false, List, []}
use Rattle.std.proofs.Common.{◌∷◌, ◌++◌, length, Option, Some, None, refl, sym, ap, ◌∙◌, subst}
use Rattle.std.specs.Prelude.{map, slice_set}
use Rattle.std.proofs.lemmas.Bool.{true≢false, cases_eq}
use Rattle.std.proofs.lemmas.List.{set-get_or, get_or-set_same, get_or-set_other, length-set, map-append}
use Rattle.ij_bits.specs.BitLists.{bit}
use Rattle.ij_bits.specs.declared.tern.Tern.{Tern}
use Rattle.net_graph.specs.declared.branch.Branch.{Branch}
use Rattle.net_graph.specs.declared.net.BitId.{BitId}
use Rattle.net_graph.specs.declared.net.Net.{Net}
use Rattle.net_graph.specs.declared.step.WriteBit.{WriteBit}
use Rattle.ij_bits.specs.Different.{AreDifferent}
use Rattle.net_graph.specs.Path.{select_bits, is_in}
use Rattle.net_graph.specs.Signals.{Holds, bits_at, hold_at}
use Rattle.net_graph.specs.Held.{set_hold}
use Rattle.net_graph.specs.Writes.{write_all}
use Rattle.net_graph.proofs.Shapes.{shape}
use Rattle.net_graph.proofs.Writing.{IsHeld, write_all-append}
use Rattle.net_tree.specs.Lawful.{selects_of}
use Rattle.path_planner.specs.Collecting.{select_writes, value_writes, row_writes, settle_writes}
use Rattle.path_planner.specs.Settling.{set_selects, is_in_row, settle_rows}
use Rattle.path_planner.proofs.Among.{Among, among-cases, among_map_back, contains_among}
use Rattle.path_planner.proofs.Apart.{Apart, apart_part, one_part}
use Rattle.path_planner.proofs.Values.{TakesOn}
use Rattle.path_planner.proofs.Setting.{set_selects-on, takes_stay}
use Rattle.path_planner.proofs.Rows.{value_for, step, step-shape, step-other}

-- writing what is held changes nothing
same_bit_set : (h : Holds) (b : BitId) (v : Bool) → hold_at h b ≡ v → set_hold h b v ≡ h
same_bit_set h b v e =
    ap (λ z. slice_set h b.reg (slice_set (bits_at h b.reg) b.pos z)) (sym e)
    ∙ ap (slice_set h b.reg) (set-get_or (bits_at h b.reg) b.pos false) ∙ set-get_or h b.reg []

module _ (path : List ℕ) where
  taken_same : (bs : List BitId) (vs : List Bool) (h : Holds)
      → TakesOn path h bs vs → set_selects path bs vs h ≡ h
  taken_same [] vs h t = refl
  taken_same (b ∷ bs) [] h t = refl
  taken_same (b ∷ bs) (v ∷ vs) h t =
      ap (set_selects path bs vs) (one (is_in path b.reg) t.0) ∙ taken_same bs vs h t.1
    where
      one : (o : Bool) → (o ≡ true → hold_at h b ≡ v) → elim o [ true ↦ set_hold h b v | false ↦ h ] ≡ h
      one true f = same_bit_set h b v (f refl)
      one false f = refl

  writes_select : (bs : List BitId) (vs : List Bool) (h : Holds)
      → write_all h (select_writes path bs vs) ≡ set_selects path bs vs h
  writes_select [] vs h = refl
  writes_select (b ∷ bs) [] h = refl
  writes_select (b ∷ bs) (v ∷ vs) h = one (is_in path b.reg) (writes_select bs vs)
    where
      one : (o : Bool) → ((k : Holds) → write_all k (select_writes path bs vs) ≡ set_selects path bs vs k)
          → write_all h (elim o [ true ↦ record { bit = b; value = v } ∷ [] | false ↦ [] ]
          ++ select_writes path bs vs) ≡ set_selects path bs vs (elim o [ true ↦ set_hold h b v | false ↦ h ])
      one true f = f (set_hold h b v)
      one false f = f h

  -- they name select bits on the path, each once
  select_written : (bs : List BitId) (vs : List Bool) (w : WriteBit) → Among w (select_writes path bs vs)
      → Among w.bit bs × (is_in path w.bit.reg ≡ true)
  select_written [] vs w a = absurd a
  select_written (b ∷ bs) [] w a = absurd a
  select_written (b ∷ bs) (v ∷ vs) w a = one (is_in path b.reg) refl a (select_written bs vs w)
    where
      one : (o : Bool) → is_in path b.reg ≡ o → Among w
          (elim o [ true ↦ record { bit = b; value = v } ∷ [] | false ↦ [] ] ++ select_writes path bs vs)
          → (Among w (select_writes path bs vs) → Among w.bit bs × (is_in path w.bit.reg ≡ true))
          → Among w.bit (b ∷ bs) × (is_in path w.bit.reg ≡ true)
      one true e i f =
          ⊎_elim (λ q. (
            inl (ap (λ (z : WriteBit). z.bit) q),
            ap (λ (z : WriteBit). is_in path z.bit.reg) (sym q) ∙ e,
          )) (λ j. let r = f j in (inr r.0, r.1)) i
      one false e i f = let r = f i in (inr r.0, r.1)

  select_once : (bs : List BitId) (vs : List Bool) → Apart bs
      → Apart (map (λ (w : WriteBit). w.bit) (select_writes path bs vs))
  select_once [] vs h = tt
  select_once (b ∷ bs) [] h = tt
  select_once (b ∷ bs) (v ∷ vs) h = one (is_in path b.reg) (select_once bs vs h.1)
    where
      one : (o : Bool) → Apart (map (λ (w : WriteBit). w.bit) (select_writes path bs vs))
          → Apart (map (λ (w : WriteBit). w.bit)
          (elim o [ true ↦ record { bit = b; value = v } ∷ [] | false ↦ [] ] ++ select_writes path bs vs))
      one true f = (
        (λ z a. let (w, i, e) = among_map_back (λ (w : WriteBit). w.bit) z (select_writes path bs vs) a in
            h.0 z (subst (λ y. Among y bs) e (select_written bs vs w i).0)),
        f,
      )
      one false f = f

pub apart-append : {A : Type 0} (xs ys : List A) → Apart xs → Apart ys
    → ((z : A) → Among z xs → Among z ys → ⊥) → Apart (xs ++ ys)
apart-append [] ys h k f = k
apart-append (x ∷ xs) ys h k f = (
  (λ z a e. ⊎_elim (λ b. h.0 z b e) (λ b. f x (inl refl) (subst (λ y. Among y ys) e b))
      (among-cases z xs ys a)),
  apart-append xs ys h.1 k (λ z a b. f z (inr a) b),
)

pub apart_different : {A : Type 0} (xs : List A) → Apart xs → AreDifferent xs
apart_different [] h = tt
apart_different (x ∷ xs) h = ((λ c. h.0 x (contains_among x xs c) refl), apart_different xs h.1)

pub marked_stays : (done : List Bool) (k m : ℕ) → bit done m ≡ true → bit (slice_set done k true) m ≡ true
marked_stays [] k m e = e
marked_stays (x ∷ xs) zero zero e = refl
marked_stays (x ∷ xs) zero (suc m) e = e
marked_stays (x ∷ xs) (suc k) zero e = e
marked_stays (x ∷ xs) (suc k) (suc m) e = marked_stays xs k m e

module _ (net : Net) (before : Holds) (path : List ℕ) (once : Apart (select_bits net)) where
  -- a row that is settled: one more settling changes nothing
  abbrev pub IsSettled : Branch → Holds → Type 0
  IsSettled b h =
      (is_in_row net before b ≡ true) ⊎ ((value_for net before path b ≡ None) ⊎ ((t : Tern)
      × (value_for net before path b ≡ Some t) × TakesOn path h (selects_of net b.mux) t.value.items))

  abbrev next : Branch → Holds → Holds
  next b h = step net before path (is_in_row net before b) (value_for net before path b) b h

  settled_same : (b : Branch) (h : Holds) → IsSettled b h → next b h ≡ h
  settled_same b h s =
      ⊎_elim (λ e. ap (λ r. step net before path r (value_for net before path b) b h) e)
      (λ s1. ⊎_elim (λ e. none (is_in_row net before b) (value_for net before path b) e)
      (λ (t, e, k). some (is_in_row net before b) (value_for net before path b) t e k) s1) s
    where
      none : (r : Bool) (o : Option Tern) → o ≡ None → step net before path r o b h ≡ h
      none true o e = refl
      none false o e = ap (λ z. step net before path false z b h) e

      some : (r : Bool) (o : Option Tern) (t : Tern) → o ≡ Some t
          → TakesOn path h (selects_of net b.mux) t.value.items → step net before path r o b h ≡ h
      some true o t e k = refl
      some false o t e k = ap (λ z. step net before path false z b h) e
          ∙ taken_same path (selects_of net b.mux) t.value.items h k

  -- it stays settled
  stays_settled : (b c : Branch) (h : Holds) → c.mux ≢ b.mux → IsSettled c h → IsSettled c (next b h)
  stays_settled b c h n s =
      ⊎_elim (λ e. inl e) (λ s1. ⊎_elim (λ e. inr (inl e)) (λ (t, e, k). inr
      (inr (
        t,
        e,
        takes_stay path h (next b h) (selects_of net c.mux) t.value.items (λ x a. step-other net
            before path (is_in_row net before b) (value_for net before path b) b h x (inr (inr
            (λ z. n (one_part (λ mux. mux.select.items) x net.muxes.items c.mux b.mux once a z))))) k,
      ))) s1) s

  now_settled : (b : Branch) (h : Holds)
      → ((s : BitId) → Among s (selects_of net b.mux) → IsHeld (shape h) s) → IsSettled b (next b h)
  now_settled b h held = go (is_in_row net before b) refl (value_for net before path b) refl
    where
      go : (r : Bool) → is_in_row net before b ≡ r → (o : Option Tern) → value_for net before path b ≡ o
          → IsSettled b (step net before path r o b h)
      go true e o f = inl e
      go false e None f = inr (inl f)
      go false e (Some t) f =
          inr (inr (
            t,
            f,
            set_selects-on path (selects_of net b.mux) t.value.items h
                (apart_part (λ mux. mux.select.items) net.muxes.items b.mux once) held,
          ))

  -- the writes of a row make its step
  row_step : (b : Branch) (h : Holds) → write_all h (row_writes net before path b) ≡ next b h
  row_step b h = go (is_in_row net before b) (value_for net before path b)
    where
      go : (r : Bool) (o : Option Tern)
          → write_all h (elim r [ true ↦ [] | false ↦ value_writes path (selects_of net b.mux) o ])
          ≡ step net before path r o b h
      go true o = refl
      go false None = refl
      go false (Some t) = writes_select path (selects_of net b.mux) t.value.items h

  row_written : (b : Branch) (w : WriteBit) → Among w (row_writes net before path b)
      → Among w.bit (selects_of net b.mux) × (is_in path w.bit.reg ≡ true)
  row_written b w a = go (is_in_row net before b) (value_for net before path b) a
    where
      go : (r : Bool) (o : Option Tern)
          → Among w (elim r [ true ↦ [] | false ↦ value_writes path (selects_of net b.mux) o ])
          → Among w.bit (selects_of net b.mux) × (is_in path w.bit.reg ≡ true)
      go true o i = absurd i
      go false None i = absurd i
      go false (Some t) i = select_written path (selects_of net b.mux) t.value.items w i

  row_once : (b : Branch) → Apart (map (λ (w : WriteBit). w.bit) (row_writes net before path b))
  row_once b = go (is_in_row net before b) (value_for net before path b)
    where
      go : (r : Bool) (o : Option Tern) → Apart (map (λ (w : WriteBit). w.bit)
          (elim r [ true ↦ [] | false ↦ value_writes path (selects_of net b.mux) o ]))
      go true o = tt
      go false None = tt
      go false (Some t) =
          select_once path (selects_of net b.mux) t.value.items
          (apart_part (λ mux. mux.select.items) net.muxes.items b.mux once)

  -- what is written of the rows that are left, where rows of done muxes are settled
  abbrev pub AreSettled : List Bool → Holds → List Branch → Type 0
  AreSettled done h bs = (c : Branch) → Among c bs → bit done c.mux ≡ true → IsSettled c h

  abbrev first_writes : Bool → Branch → List WriteBit
  first_writes d b = elim d [ true ↦ [] | false ↦ row_writes net before path b ]

  mark_same : (done : List Bool) (m k : ℕ) → m ≢ k → bit (slice_set done m true) k ≡ bit done k
  mark_same done m k n = get_or-set_other done m k true false (λ e. n (sym e))

  pub writes_settle : (bs : List Branch) (done : List Bool) (h : Holds)
      → ((b c : Branch) → Among b bs → Among c bs → c.mux ≡ b.mux → c ≡ b)
      → ((b : Branch) → Among b bs → (s : BitId) → Among s (selects_of net b.mux) → IsHeld (shape h) s)
      → AreSettled done h bs
      → write_all h (settle_writes net before path done bs) ≡ settle_rows net before path bs h
  writes_settle [] done h one held s = refl
  writes_settle (b ∷ bs) done h one held s =
      go (bit done b.mux) refl (λ k e f. writes_settle bs (slice_set done b.mux true) k (λ x y i j. one x y
      (inr i) (inr j)) (λ x i c j. subst (λ ws. IsHeld ws c) (sym e) (held x (inr i) c j)) f)
    where
      mark : List Bool
      mark = slice_set done b.mux true

      same : bit done b.mux ≡ true → AreSettled mark h bs
      same d c a f =
          ⊎_elim (λ e. subst (λ x. IsSettled x h) (sym (one b c (inl refl) (inr a) (sym e))) (s b (inl refl)
          d)) (λ n. s c (inr a) (sym (mark_same done b.mux c.mux n) ∙ f)) (cases_eq b.mux c.mux)

      fresh : AreSettled mark (next b h) bs
      fresh c a f =
          ⊎_elim (λ e. subst (λ x. IsSettled x (next b h)) (sym (one b c (inl refl) (inr a) (sym e)))
          (now_settled b h (held b (inl refl)))) (λ n. stays_settled b c h (λ z. n (sym z))
          (s c (inr a) (sym (mark_same done b.mux c.mux n) ∙ f))) (cases_eq b.mux c.mux)

      go : (d : Bool) → bit done b.mux ≡ d → ((k : Holds) → shape k ≡ shape h → AreSettled mark k bs
          → write_all k (settle_writes net before path mark bs) ≡ settle_rows net before path bs k)
          → write_all h (first_writes d b ++ settle_writes net before path mark bs)
          ≡ settle_rows net before path bs (next b h)
      go true e rest = rest h refl (same e)
          ∙ ap (settle_rows net before path bs) (sym (settled_same b h (s b (inl refl) e)))
      go false e rest =
          write_all-append h (row_writes net before path b) (settle_writes net before path mark bs)
          ∙ ap (λ k. write_all k (settle_writes net before path mark bs)) (row_step b h) ∙ rest (next b h)
          (step-shape net before path (is_in_row net before b) (value_for net before path b) b h) fresh

  -- each write is a select bit on the path, of a needed mux that wasn't done
  pub settle_written : (bs : List Branch) (done : List Bool) (w : WriteBit)
      → Among w (settle_writes net before path done bs)
      → (b : Branch) × Among b bs × Among w.bit (selects_of net b.mux) × (is_in path w.bit.reg ≡ true)
  settle_written [] done w a = absurd a
  settle_written (b ∷ bs) done w a =
      ⊎_elim (λ i. go (bit done b.mux) i) (λ i. let (c, j, r, o) =
      settle_written bs (slice_set done b.mux true) w i in (c, inr j, r, o)) (among-cases w
      (first_writes (bit done b.mux) b) (settle_writes net before path (slice_set done b.mux true) bs) a)
    where
      go : (d : Bool) → Among w (first_writes d b) → (c : Branch) × Among c (b ∷ bs)
          × Among w.bit (selects_of net c.mux) × (is_in path w.bit.reg ≡ true)
      go true i = absurd i
      go false i = let r = row_written b w i in (b, inl refl, r.0, r.1)

  -- of a mux that is done nothing is written
  not_done : (bs : List Branch) (done : List Bool) (w : WriteBit) (m : ℕ) → bit done m ≡ true
      → Among w (settle_writes net before path done bs) → Among w.bit (selects_of net m) → ⊥
  not_done [] done w m d a i = a
  not_done (b ∷ bs) done w m d a i =
      ⊎_elim (λ j. go (bit done b.mux) refl j)
      (λ j. not_done bs (slice_set done b.mux true) w m (marked_stays done b.mux m d) j i) (among-cases w
      (first_writes (bit done b.mux) b) (settle_writes net before path (slice_set done b.mux true) bs) a)
    where
      go : (e : Bool) → bit done b.mux ≡ e → Among w (first_writes e b) → ⊥
      go true e j = j
      go false e j =
          true≢false (sym d ∙ ap (bit done) (sym (one_part
          (λ mux. mux.select.items) w.bit net.muxes.items b.mux m once (row_written b w j).0 i)) ∙ e)

  pub settle_once : (bs : List Branch) (done : List Bool) → ((b : Branch) → Among b bs → b.mux < length done)
      → Apart (map (λ (w : WriteBit). w.bit) (settle_writes net before path done bs))
  settle_once [] done l = tt
  settle_once (b ∷ bs) done l =
      let mark = slice_set done b.mux true in
      let rest = settle_writes net before path mark bs in
      let first = first_writes (bit done b.mux) b in
      let bits = λ (w : WriteBit). w.bit in
      subst Apart (sym (map-append bits first rest))
      (apart-append (map bits first) (map bits rest) (mine (bit done b.mux)) (settle_once bs mark
      (λ x i. subst (λ n. x.mux < n) (sym (length-set done b.mux true)) (l x (inr i)))) (λ z i j.
      let (w, k, e) = among_map_back bits z first i in let (v, m, f) = among_map_back bits z rest j in
      not_done bs mark v b.mux (get_or-set_same done b.mux true false (l b (inl refl))) m
      (subst (λ x. Among x (selects_of net b.mux)) (e ∙ sym f) (ours (bit done b.mux) w k))))
    where
      mine : (d : Bool) → Apart (map (λ (w : WriteBit). w.bit) (first_writes d b))
      mine true = tt
      mine false = row_once b

      ours : (d : Bool) (w : WriteBit) → Among w (first_writes d b) → Among w.bit (selects_of net b.mux)
      ours true w i = absurd i
      ours false w i = (row_written b w i).0
