-- One settling of needed rows: what it opens, and what it leaves.
use Rattle.std.proofs.Common.{◌≡◌, ◌≢◌, ◌⊎◌, inl, inr, ⊎_elim, ℕ, zero, suc, ◌+◌, ◌<◌, Bool, true, false}
use Rattle.std.proofs.Common.{List, [], ◌∷◌, length, get_or, take, Option, Some, None, refl, sym, ap, ◌∙◌}
use Rattle.std.proofs.Common.{subst, arith}
use Rattle.std.specs.Prelude.{map, All, IsSome, is_some, unwrap_or, ◌==◌}
use Rattle.std.specs.List.{list_any}
use Rattle.std.proofs.lemmas.Bool.{true≢false, false≢true, cases_Bool, or_left, or_right, or_cases, and_from}
use Rattle.std.proofs.lemmas.Bool.{and_parts, eq-eqb, eqb-true, cases_eq, false_from_ne_true}
use Rattle.std.proofs.lemmas.List.{length-map}
use Rattle.ij_bits.specs.BitLists.{bit, flip_if}
use Rattle.ij_bits.specs.declared.tern.Tern.{Tern}
use Rattle.net_graph.specs.declared.branch.Branch.{Branch}
use Rattle.net_graph.specs.declared.net.BitId.{BitId}
use Rattle.net_graph.specs.declared.net.Inst.{Inst}
use Rattle.net_graph.specs.declared.net.Net.{Net}
use Rattle.net_graph.specs.declared.net.PortIn.{PortIn}
use Rattle.net_graph.specs.declared.net.Sig.{Sig}
use Rattle.net_graph.specs.declared.net.Sig.TheVariants.{Absent, Zero, One, Bit, Out}
use Rattle.net_graph.specs.declared.net.Point.TheVariants.{Reg as FromReg, Mux as FromMux}
use Rattle.net_graph.specs.Nets.{IsNet}
use Rattle.net_graph.specs.Signals.{Holds, Outputs, bits_at, hold_at, signal, some_matches}
use Rattle.net_graph.specs.Path.{active, row_of, rows_of, row_from, mux_source, select_value, select_bits}
use Rattle.net_graph.specs.Path.{is_select, same_place, route_of, is_bit, is_in}
use Rattle.net_graph.proofs.Shapes.{shape, widths}
use Rattle.net_tree.specs.Form.{Items, Describes}
use Rattle.net_tree.specs.Lawful.{IsLawful, IsOutside, IsUnshared, IsUndriven, DrivesNone, selects_of}
use Rattle.net_tree.specs.Places.{place_of}
use Rattle.net_tree.proofs.Walks.{has_walk}
use Rattle.path_planner.specs.Least.{ScanStep}
use Rattle.path_planner.specs.Opening.{InputsStay}
use Rattle.path_planner.specs.Scannable.{IsScannable}
use Rattle.path_planner.specs.Settling.{agrees_off_path, values_of, is_in_row, settle}
use Rattle.path_planner.proofs.Among.{Among, all_among, among_all, among_contains, off_false}
use Rattle.path_planner.proofs.Apart.{Apart, apart_counts, in_part, part_in, one_part}
use Rattle.path_planner.proofs.Rows.{in_row, row_in, value_for, Leaves, settle-shape, settle-off}
use Rattle.path_planner.proofs.Rows.{settle-other, settle-takes}
use Rattle.net_graph.proofs.Writing.{IsHeld, same_bit_id}
use Rattle.path_planner.proofs.Values.{matches_some, values_at, row_lists, row_found, source_row, row_source}
use Rattle.path_planner.proofs.Values.{first_agrees, some_agrees, agree_lists, select_there, one_row}
use Rattle.path_planner.proofs.Values.{value_wide}
use Rattle.ij_bits.proofs.Lists.{some_of}
use Rattle.net_graph.proofs.Places.{place_self}

pub there_is : {A : Type 0} (o : Option A) (x : A) → o ≡ Some x → IsSome o
there_is o x e = ap is_some e

none_or_some : {A : Type 0} (o : Option A) → (o ≡ None) ⊎ ((x : A) × (o ≡ Some x))
none_or_some None = inl refl
none_or_some (Some x) = inr (x, refl)

among-take : {A : Type 0} (x : A) (n : ℕ) (ys : List A) → Among x (take n ys) → Among x ys
among-take x zero ys a = absurd a
among-take x (suc n) [] a = absurd a
among-take x (suc n) (y ∷ ys) a = ⊎_elim (λ e. inl e) (λ b. inr (among-take x n ys b)) a

pub held_reg : (ws : List ℕ) (b : BitId) → IsHeld ws b → b.reg < length ws
held_reg ws b h = go ws b.reg h
  where
    go : (ws : List ℕ) (r : ℕ) → b.pos < get_or ws r 0 → r < length ws
    go [] r l = absurd (omega (arith, l))
    go (w ∷ ws) zero l = omega arith
    go (w ∷ ws) (suc r) l = omega (arith, go ws r l)

pub map_among : {A B : Type 0} (f g : A → B) (xs : List A)
    → ((x : A) → Among x xs → f x ≡ g x) → map f xs ≡ map g xs
map_among f g [] h = refl
map_among f g (x ∷ xs) h = ap (λ y. y ∷ map f xs) (h x (inl refl))
    ∙ ap (λ ys. g x ∷ ys) (map_among f g xs (λ y a. h y (inr a)))

-- rows that can be needed together: with each the rows around its mux, and of each mux one row
pub record IsNeeded (net : Net) (form : Items) (bs : List Branch) : Type 0 where
  pub muxes : (b : Branch) → Among b bs → b.mux < length net.muxes.items
  pub rows : (b : Branch) → Among b bs → b.row < length (rows_of net b.mux)
  pub outer : (b c : Branch) → Among b bs → Among c (place_of form (FromMux b.mux)) → Among c bs
  pub single : (b c : Branch) → Among b bs → Among c bs → c.mux ≡ b.mux → c ≡ b

pub selects : (c : BitId) (xs : List BitId) → Among c xs → list_any (same_place c) xs ≡ true
selects c [] a = absurd a
selects c (x ∷ xs) a =
    ⊎_elim (λ e. or_left (same_place c x) (list_any (same_place c) xs) (and_from (c.reg == x.reg) (c.pos ==
    x.pos) (eq-eqb c.reg x.reg (ap (λ z. z.reg) (sym e))) (eq-eqb c.pos x.pos (ap (λ z. z.pos) (sym e)))))
    (λ b. or_right (same_place c x) (list_any (same_place c) xs) (selects c xs b)) a

one_place : (b c : BitId) → same_place b c ≡ true → c ≡ b
one_place b c e =
    let p = and_parts (b.reg == c.reg) (b.pos == c.pos) e in
    same_bit_id c b (sym (eqb-true b.reg c.reg p.0)) (sym (eqb-true b.pos c.pos p.1))

pub selected : (b : BitId) (xs : List BitId) → list_any (same_place b) xs ≡ true → Among b xs
selected b [] e = absurd (false≢true e)
selected b (x ∷ xs) e = ⊎_elim (λ t. inl (one_place b x t)) (λ t. inr (selected b xs t))
    (or_cases (same_place b x) (list_any (same_place b) xs) e)

any_true : {A : Type 0} (f : A → Bool) (x : A) (xs : List A) → Among x xs → f x ≡ true → list_any f xs ≡ true
any_true f x [] a e = absurd a
any_true f x (y ∷ ys) a e = ⊎_elim (λ q. or_left (f y) (list_any f ys) (ap f q ∙ e))
    (λ b. or_right (f y) (list_any f ys) (any_true f x ys b e)) a

module _ (net : Net) (form : Items) (n : IsNet net) (d : Describes net form) (w : IsLawful net form) where
  pub once : Apart (select_bits net)
  once =
      apart_counts same_place place_self (select_bits net) (λ b a.
      let (m, l, i) = in_part (λ mux. mux.select.items) b net.muxes.items a in
      among_all (IsUnshared net) b (selects_of net m) (w m l).unshared i)

  select_held : (m : ℕ) (s : BitId) → m < length net.muxes.items
      → Among s (selects_of net m) → IsHeld (widths net) s
  select_held m s l a = select_there net m s n l a

  pub select_reg : (m : ℕ) (s : BitId) → m < length net.muxes.items
      → Among s (selects_of net m) → s.reg < length net.regs.items
  select_reg m s l a =
      subst (λ k. s.reg < k) (length-map net.regs.items (λ reg. reg.width))
      (held_reg (widths net) s (select_held m s l a))

  -- a select bit is outside its mux
  pub select_outer : (m : ℕ) (s : BitId) (c : Branch)
      → m < length net.muxes.items → Among s (selects_of net m)
      → Among c (place_of form (FromReg s.reg)) → Among c (place_of form (FromMux m))
  select_outer m s c l a i =
      let p = among_all (IsOutside form m) s (selects_of net m) (w m l).outside a in
      among-take c (length (place_of form (FromReg s.reg))) (place_of form (FromMux m)) (subst (Among c) p i)

  -- a listed value in the row's values puts a mux into the row
  in_its_row : (holds : Holds) (b : Branch) → b.mux < length net.muxes.items
      → some_matches (values_of net b) (select_value net holds b.mux) ≡ true
      → row_of net holds b.mux ≡ Some b.row
  in_its_row holds b l e =
      let z : 0 + b.row ≡ b.row = omega arith in
      row_found 0 (rows_of net b.mux) (select_value net holds b.mux) b.row
      (one_row net b.mux (select_value net holds b.mux) n l) e ∙ ap Some z

  pub its_value : (holds : Holds) (b : Branch) → row_of net holds b.mux ≡ Some b.row
      → some_matches (values_of net b) (select_value net holds b.mux) ≡ true
  its_value holds b e =
      let (i, h, m) = row_lists 0 (rows_of net b.mux) (select_value net holds b.mux) b.row e in
      let z : i ≡ b.row = omega (arith, h) in
      subst (λ k. some_matches (values_at (rows_of net b.mux) k) (select_value net holds b.mux) ≡ true) z m

  same_row : (s t : Holds) (m : ℕ) → ((c : BitId) → Among c (selects_of net m) → hold_at t c ≡ hold_at s c)
      → row_of net t m ≡ row_of net s m
  same_row s t m h = ap (row_from 0 (rows_of net m)) (map_among (hold_at t) (hold_at s) (selects_of net m) h)

  listed_row : (holds : Holds) (m : ℕ) → IsSome (mux_source net holds m)
      → (q : ℕ) × (row_of net holds m ≡ Some q)
  listed_row holds m s =
      let (p, e) = some_of (mux_source net holds m) s in
      source_row 0 (rows_of net m) (select_value net holds m) p e

  row_listed : (holds : Holds) (m q : ℕ) → row_of net holds m ≡ Some q → IsSome (mux_source net holds m)
  row_listed holds m q e =
      let (p, f) = row_source 0 (rows_of net m) (select_value net holds m) q e in
      there_is (mux_source net holds m) p f

  pub has_path : (holds : Holds) → IsScannable net holds → (path : List ℕ) × (active net holds ≡ Some path)
  has_path holds s =
      let p = has_walk net holds form d (λ m l. some_of (mux_source net holds m) (s.rows m l)) in
      (p.path, p.traced)

  -- where no select bit changes, each mux stays in its row
  pub keep_rows : (holds after : Holds) → IsScannable net holds → shape after ≡ shape holds
      → ((b : BitId) → is_select net b ≡ true → hold_at after b ≡ hold_at holds b) → IsScannable net after
  keep_rows holds after s e h =
      record {
        widths = e ∙ s.widths;
        rows = λ m l. let (q, f) = listed_row holds m (s.rows m l) in
            row_listed after m q (same_row holds after m (λ c i. h c
            (selects c (select_bits net) (part_in (λ mux. mux.select.items) c net.muxes.items m i))) ∙ f);
      }

  -- a bit that drives an instrument selects nothing
  pub drives_no_select : (inst : Inst) (port : PortIn) (b : BitId) (inverted : Bool)
      → Among inst net.insts.items → Among port inst.ins.items
      → Among (Bit b inverted) port.bits.items → is_select net b ≡ false
  drives_no_select inst port b inverted i j k = false_from_ne_true (is_select net b) (λ t. driven t)
    where
      driven : is_select net b ≡ true → ⊥
      driven t =
          let (m, l, a) = in_part (λ mux. mux.select.items) b net.muxes.items
          (selected b (select_bits net) t) in
          let none = among_all (IsUndriven b) inst net.insts.items
          (among_all (DrivesNone net) b (selects_of net m) (w m l).undriven a) i in
          let yes = any_true (λ (p : PortIn). list_any (is_bit b) p.bits.items) port inst.ins.items j
          (any_true (is_bit b) (Bit b inverted) port.bits.items k (place_self b)) in
          true≢false (sym yes ∙ none)

  same_signal : (s t : Holds) (inst : Inst) (port : PortIn) (sig : Sig) (outs : Outputs)
      → ((b : BitId) → is_select net b ≡ false → hold_at t b ≡ hold_at s b) → Among inst net.insts.items
      → Among port inst.ins.items → Among sig port.bits.items → signal outs t sig ≡ signal outs s sig
  same_signal s t inst port Absent outs h i j k = refl
  same_signal s t inst port Zero outs h i j k = refl
  same_signal s t inst port One outs h i j k = refl
  same_signal s t inst port (Bit b inverted) outs h i j k =
      ap (flip_if inverted) (h b (drives_no_select inst port b inverted i j k))
  same_signal s t inst port (Out x y z inverted) outs h i j k = refl

  -- where bits that select nothing stay, no instrument sees a change
  pub inputs_stay : (s t : Holds)
      → ((b : BitId) → is_select net b ≡ false → hold_at t b ≡ hold_at s b) → InputsStay net s t
  inputs_stay s t h =
      all_among (λ inst. All (λ port. All (λ sig. (outs : Outputs)
      → signal outs t sig ≡ signal outs s sig) port.bits.items) inst.ins.items) net.insts.items
      (λ inst i. all_among (λ port. All (λ sig. (outs : Outputs) → signal outs t sig ≡ signal outs s sig)
      port.bits.items) inst.ins.items (λ port j. all_among (λ sig. (outs : Outputs) → signal outs t sig
      ≡ signal outs s sig) port.bits.items (λ sig k outs. same_signal s t inst port sig outs h i j k)))

  module _ (bs : List Branch) (k : IsNeeded net form bs) (holds : Holds) (s : IsScannable net holds)
      (path : List ℕ) (e : active net holds ≡ Some path) where
    abbrev pub after : Holds
    after = settle net bs holds

    path_is : route_of net holds ≡ path
    path_is = ap (λ o. unwrap_or o []) e

    pub held : (m : ℕ) (c : BitId) → m < length net.muxes.items
        → Among c (selects_of net m) → IsHeld (shape holds) c
    held m c l a = subst (λ ws. IsHeld ws c) (sym s.widths) (select_held m c l a)

    pub after-shape : shape after ≡ shape holds
    after-shape = settle-shape net holds (route_of net holds) bs holds

    pub after-off : (r : ℕ) → is_in path r ≡ false → bits_at after r ≡ bits_at holds r
    after-off r f = settle-off net holds (route_of net holds) bs holds r (ap (λ p. is_in p r) path_is ∙ f)

    pub after-not : (r : ℕ) → (Among r path → ⊥) → bits_at after r ≡ bits_at holds r
    after-not r h = after-off r (off_false r path h)

    pub scan_step : ScanStep net holds after
    scan_step = record {
      path = path;
      traced = e;
      shape = after-shape;
      off_path = λ r h. after-not r (λ a. h (among_contains r path a));
    }

    -- a needed mux that is in its row stays there
    pub stays_in : (b : Branch) → Among b bs
        → row_of net holds b.mux ≡ Some b.row → row_of net after b.mux ≡ Some b.row
    stays_in b a f = same_row holds after b.mux
        (λ c i. settle-other net holds (route_of net holds) bs holds c (leaves c i)) ∙ f
      where
        leaves : (c : BitId) → Among c (selects_of net b.mux) → (x : Branch) → Among x bs
            → Leaves net holds (route_of net holds) c x
        leaves c i x j =
            ⊎_elim (λ g. inl (ap (is_in_row net holds) (k.single b x a j g) ∙ row_in net holds b f)) (λ g. inr
            (inr (λ z. g (one_part (λ mux. mux.select.items) c net.muxes.items x.mux b.mux once z i))))
            (cases_eq x.mux b.mux)

    -- a value of the row that agrees off the path: the mux is in the row after
    pub set_in : (b : Branch) (t : Tern) → Among b bs → Among t (values_of net b)
        → agrees_off_path holds path (selects_of net b.mux) t.value.items t.care.items ≡ true
        → row_of net after b.mux ≡ Some b.row
    set_in b t a i g =
        ⊎_elim (λ f. stays_in b a (in_row net holds b f)) (λ f. now f) (cases_Bool (is_in_row net holds b))
      where
        on : List ℕ
        on = route_of net holds

        agrees : agrees_off_path holds on (selects_of net b.mux) t.value.items t.care.items ≡ true
        agrees = subst (λ p. agrees_off_path holds p (selects_of net b.mux) t.value.items t.care.items ≡ true)
            (sym path_is) g

        now : is_in_row net holds b ≡ false → row_of net after b.mux ≡ Some b.row
        now f =
            let l = k.muxes b a in
            let (u, found) = some_agrees holds on (selects_of net b.mux) (values_of net b) t i agrees in
            let (j, good) = first_agrees holds on (selects_of net b.mux) (values_of net b) u found in
            let wide = value_wide net b u n l (k.rows b a) j in
            let takes = settle-takes net holds on once b u found f bs holds a
            (λ c x y. k.single b c a x y) (λ c y. held b.mux c l y) in
            let lists = agree_lists holds after on
            (selects_of net b.mux) u.value.items u.care.items wide (sym u.same_length ∙ wide)
            (λ c x o. ap (λ z. bit z c.pos) (settle-off net holds on bs holds c.reg o)) takes good in
            in_its_row after b l (matches_some u (values_of net b) (select_value net after b.mux) j lists)

    -- each mux keeps its select value, or is needed in another row and takes that one
    pub record Sets (m : ℕ) : Type 0 where
      pub branch : Branch
      pub needed : Among branch bs
      pub mux_is : branch.mux ≡ m
      pub out : is_in_row net holds branch ≡ false
      pub now_in : row_of net after m ≡ Some branch.row

    needed_mux : (xs : List Branch) (m : ℕ)
        → ((b : Branch) × Among b xs × (b.mux ≡ m)) ⊎ ((b : Branch) → Among b xs → b.mux ≢ m)
    needed_mux [] m = inr (λ b a. absurd a)
    needed_mux (x ∷ xs) m =
        ⊎_elim (λ f. inl (x, inl refl, f)) (λ f. ⊎_elim (λ (b, a, g). inl (b, inr a, g))
        (λ g. inr (λ b a. ⊎_elim (λ h z. f (ap (λ y. y.mux) h ∙ z)) (λ h. g b h) a)) (needed_mux xs m))
        (cases_eq x.mux m)

    -- where its one needed row takes no value, a mux keeps its select value
    keeps : (b : Branch) → Among b bs → value_for net holds (route_of net holds) b ≡ None → (c : BitId)
        → Among c (selects_of net b.mux) → hold_at after c ≡ hold_at holds c
    keeps b a f c i =
        settle-other net holds (route_of net holds) bs holds c (λ x j. ⊎_elim
        (λ g. inr (inl (ap (value_for net holds (route_of net holds)) (k.single b x a j g) ∙ f))) (λ g.
        inr (inr (λ z. g (one_part (λ mux. mux.select.items) c net.muxes.items x.mux b.mux once z i))))
        (cases_eq x.mux b.mux))

    keeps_in : (b : Branch) → Among b bs → row_of net holds b.mux ≡ Some b.row → (c : BitId)
        → Among c (selects_of net b.mux) → hold_at after c ≡ hold_at holds c
    keeps_in b a f c i =
        settle-other net holds (route_of net holds) bs holds c (λ x j. ⊎_elim
        (λ g. inl (ap (is_in_row net holds) (k.single b x a j g) ∙ row_in net holds b f)) (λ g. inr
        (inr (λ z. g (one_part (λ mux. mux.select.items) c net.muxes.items x.mux b.mux once z i))))
        (cases_eq x.mux b.mux))

    pub mux_after : (m : ℕ)
        → ((c : BitId) → Among c (selects_of net m) → hold_at after c ≡ hold_at holds c) ⊎ Sets m
    mux_after m = ⊎_elim (λ (b, a, g). needed b a g) (λ g. inl (λ c i. none g c i)) (needed_mux bs m)
      where
        none : ((b : Branch) → Among b bs → b.mux ≢ m) → (c : BitId)
            → Among c (selects_of net m) → hold_at after c ≡ hold_at holds c
        none g c i =
            settle-other net holds (route_of net holds) bs holds c (λ x j. inr
            (inr (λ z. g x j (one_part (λ mux. mux.select.items) c net.muxes.items x.mux m once z i))))

        needed : (b : Branch) → Among b bs → b.mux ≡ m
            → ((c : BitId) → Among c (selects_of net m) → hold_at after c ≡ hold_at holds c) ⊎ Sets m
        needed b a g =
            ⊎_elim (λ f. inl (subst (λ z. (c : BitId) → Among c (selects_of net z)
            → hold_at after c ≡ hold_at holds c) g (keeps_in b a (in_row net holds b f))))
            (λ f. ⊎_elim (λ o. inl (subst (λ z. (c : BitId) → Among c (selects_of net z)
            → hold_at after c ≡ hold_at holds c) g (keeps b a o))) (λ (t, o). let (j, good) =
            first_agrees holds (route_of net holds) (selects_of net b.mux) (values_of net b) t o in
            inr (record {
              branch = b;
              needed = a;
              mux_is = g;
              out = f;
              now_in =
                  subst (λ z. row_of net after z ≡ Some b.row) g
                  (set_in b t a j (subst (λ p. agrees_off_path holds p
                  (selects_of net b.mux) t.value.items t.care.items ≡ true) path_is good));
            })) (none_or_some
            (value_for net holds (route_of net holds) b))) (cases_Bool (is_in_row net holds b))

    pub after_listed : IsScannable net after
    after_listed =
        record {
          widths = after-shape ∙ s.widths;
          rows = λ m l. ⊎_elim (λ h. let (q, f) = listed_row holds m (s.rows m l) in row_listed after m q
              (same_row holds after m h ∙ f)) (λ h. row_listed after m h.branch.row h.now_in) (mux_after m);
        }

    -- bits that select nothing stay
    pub data_stays : (c : BitId) → is_select net c ≡ false → hold_at after c ≡ hold_at holds c
    data_stays c f =
        settle-other net holds (route_of net holds) bs holds c (λ x j. inr (inr (λ z. true≢false (sym (selects
        c (select_bits net) (part_in (λ mux. mux.select.items) c net.muxes.items x.mux z)) ∙ f))))
