-- Places of a form that describes a net: each register and each mux has one, and the muxes around an item
-- stand at the beginnings of its place.
use Rattle.std.proofs.Common.{◌≡◌, ◌⊎◌, inl, inr, ⊎_elim, ℕ, suc, ◌+◌, ◌<◌, Bool, true, false, List, [], ◌∷◌}
use Rattle.std.proofs.Common.{◌++◌, length, Some, refl, sym, ap, ◌∙◌, subst, arith, append_assoc}
use Rattle.std.specs.Prelude.{flat_map}
use Rattle.std.proofs.lemmas.Bool.{true≢false}
use Rattle.net_graph.specs.declared.branch.Branch.{Branch}
use Rattle.net_graph.specs.declared.net.Net.{Net}
use Rattle.net_graph.specs.declared.net.Row.{Row}
use Rattle.net_graph.specs.declared.net.Point.{Point}
use Rattle.net_graph.specs.declared.net.Point.TheVariants.{Entry, Reg as FromReg, Mux as FromMux}
use Rattle.net_graph.specs.Chain.{IsRoute}
use Rattle.net_graph.specs.Signals.{Holds}
use Rattle.net_graph.specs.Path.{rows_of, active}
use Rattle.net_tree.specs.Form.{Items, Nothing, RegThen, MuxThen, Rows, NoRow, RowThen, IsWired, AreWired}
use Rattle.net_tree.specs.Form.{Describes, registers_in, registers_in_rows, muxes_in, muxes_in_rows}
use Rattle.net_tree.specs.Places.{Placed, placed, placed_rows}
use Rattle.net_tree.specs.Places.{same_point, find_place, place_of}
use Rattle.path_planner.proofs.Among.{Among, among-left, among-right, among-cases, among-flat}
use Rattle.path_planner.proofs.Among.{among-flat_back, not_in}
use Rattle.path_planner.proofs.Tracing.{path_is_walk}
use Rattle.path_planner.proofs.Pigeons.{each_in}
use Rattle.path_planner.proofs.Places.{one_branch, place_front, AreIn, walk_meets, open_met}
use Rattle.net_tree.proofs.Walks.{IsRoute-back}
use Rattle.net_tree.proofs.Points.{same_is, same_self}

-- the items of a form by kind
abbrev pub reg_number : Point → List ℕ
reg_number Entry = []
reg_number (FromReg r) = r ∷ []
reg_number (FromMux m) = []

abbrev pub mux_number : Point → List ℕ
mux_number Entry = []
mux_number (FromReg r) = []
mux_number (FromMux m) = m ∷ []

abbrev pub numbers : (Point → List ℕ) → List Placed → List ℕ
numbers f xs = flat_map (λ x. f x.item) xs

numbers-append : (f : Point → List ℕ) (xs ys : List Placed)
    → numbers f (xs ++ ys) ≡ numbers f xs ++ numbers f ys
numbers-append f [] ys = refl
numbers-append f (x ∷ xs) ys = ap (λ z. f x.item ++ z) (numbers-append f xs ys)
    ∙ sym (append_assoc (f x.item) (numbers f xs) (numbers f ys))

mutual
  reg_numbers : (items : Items) (around : List Branch)
      → numbers reg_number (placed around items) ≡ registers_in items
  reg_numbers Nothing around = refl
  reg_numbers (RegThen r rest) around = ap (λ z. r ∷ z) (reg_numbers rest around)
  reg_numbers (MuxThen m rows rest) around =
      numbers-append reg_number (placed_rows around m 0 rows) (placed around rest)
      ∙ ap (λ z. z ++ numbers reg_number (placed around rest)) (reg_row_numbers rows around m 0)
      ∙ ap (λ z. registers_in_rows rows ++ z) (reg_numbers rest around)

  reg_row_numbers : (rows : Rows) (around : List Branch) (m k : ℕ)
      → numbers reg_number (placed_rows around m k rows) ≡ registers_in_rows rows
  reg_row_numbers NoRow around m k = refl
  reg_row_numbers (RowThen items rest) around m k =
      numbers-append reg_number (placed (around ++ one_branch m k) items) (placed_rows around m (suc k) rest)
      ∙ ap (λ z. z ++ numbers reg_number (placed_rows around m (suc k) rest))
      (reg_numbers items (around ++ one_branch m k))
      ∙ ap (λ z. registers_in items ++ z) (reg_row_numbers rest around m (suc k))

mutual
  mux_numbers : (items : Items) (around : List Branch)
      → numbers mux_number (placed around items) ≡ muxes_in items
  mux_numbers Nothing around = refl
  mux_numbers (RegThen r rest) around = mux_numbers rest around
  mux_numbers (MuxThen m rows rest) around =
      ap (λ z. m ∷ z) (numbers-append mux_number (placed_rows around m 0 rows) (placed around rest)
      ∙ ap (λ z. z ++ numbers mux_number (placed around rest)) (mux_row_numbers rows around m 0)
      ∙ ap (λ z. muxes_in_rows rows ++ z) (mux_numbers rest around))

  mux_row_numbers : (rows : Rows) (around : List Branch) (m k : ℕ)
      → numbers mux_number (placed_rows around m k rows) ≡ muxes_in_rows rows
  mux_row_numbers NoRow around m k = refl
  mux_row_numbers (RowThen items rest) around m k =
      numbers-append mux_number (placed (around ++ one_branch m k) items) (placed_rows around m (suc k) rest)
      ∙ ap (λ z. z ++ numbers mux_number (placed_rows around m (suc k) rest))
      (mux_numbers items (around ++ one_branch m k))
      ∙ ap (λ z. muxes_in items ++ z) (mux_row_numbers rest around m (suc k))

-- where each number is once, the place found is the item's
find_is : (f : Point → List ℕ) (n k : ℕ) (item : Point) (xs : List Placed) (x : Placed) → f item ≡ k ∷ []
    → IsRoute n (numbers f xs) → Among x xs → x.item ≡ item → find_place xs item ≡ x.place
find_is f n k item [] x s h a e = absurd a
find_is f n k item (y ∷ ys) x s h a e =
    go (same_point y.item item) refl
    (λ b. find_is f n k item ys x s (IsRoute-back n (f y.item) (numbers f ys) h) b e)
  where
    here : Among k (f x.item)
    here = subst (Among k) (sym (ap f e ∙ s)) (inl refl)

    twice : y.item ≡ item → Among x ys → ⊥
    twice t b =
        not_in k (numbers f ys) (subst (λ z. IsRoute n (z ++ numbers f ys)) (ap f t ∙ s) h).1
        (among-flat (λ z. f z.item) x k ys b here)

    go : (b : Bool) → same_point y.item item ≡ b → (Among x ys → find_place ys item ≡ x.place)
        → elim b [ true ↦ y.place | false ↦ find_place ys item ] ≡ x.place
    go true t rest = ⊎_elim (λ q. ap (λ z. z.place) q) (λ b. absurd (twice (same_is y.item item t) b)) a
    go false t rest =
        ⊎_elim (λ q. absurd (true≢false
        (sym (ap (λ z. same_point z item) (ap (λ z. z.item) q ∙ e) ∙ same_self item) ∙ t))) rest a

-- a branch of a place, but for those around: its mux comes before it
abbrev IsInside : List Placed → List Branch → Branch → Type 0
IsInside xs place b = (y : Placed) × Among y xs × (y.item ≡ FromMux b.mux)
    × (rest : List Branch) × (place ≡ y.place ++ b ∷ rest)

inside_more : (xs ys : List Placed) (place : List Branch) (b : Branch)
    → ((y : Placed) → Among y xs → Among y ys) → IsInside xs place b → IsInside ys place b
inside_more xs ys place b f (y, a, i, rest, e) = (y, f y a, i, rest, e)

-- so a row's branches are those around, the row's own, and those inside
mutual
  inside : (items : Items) (around : List Branch) (x : Placed) (b : Branch) → Among x (placed around items)
      → Among b x.place → Among b around ⊎ IsInside (placed around items) x.place b
  inside Nothing around x b a c = absurd a
  inside (RegThen r rest) around x b a c =
      ⊎_elim (λ e. inl (subst (Among b) (sym (ap (λ z. z.place) e)) c))
      (λ d. ⊎_elim (λ e. inl e) (λ i. inr (inside_more (placed around rest)
      (placed around (RegThen r rest)) x.place b (λ y z. inr z) i)) (inside rest around x b d c)) a
  inside (MuxThen m rows rest) around x b a c =
      let within = placed_rows around m 0 rows in
      let following = placed around rest in
      let all = placed around (MuxThen m rows rest) in
      ⊎_elim (λ e. inl (subst (Among b) (sym (ap (λ z. z.place) e)) c))
      (λ d. ⊎_elim (λ e. ⊎_elim (λ f. inl f) (λ f. ⊎_elim
      (λ g. inr (record { item = FromMux m; place = around }, inl refl, ap FromMux (sym g.0), g.1, g.2))
      (λ g. inr (inside_more within all x.place b (λ y z. inr (among-left y within following z)) g)) f)
      (row_inside rows around m 0 x b e c)) (λ e. ⊎_elim (λ f. inl f)
      (λ f. inr (inside_more following all x.place b (λ y z. inr (among-right y within following z)) f))
      (inside rest around x b e c)) (among-cases x within following d)) a

  row_inside : (rows : Rows) (around : List Branch) (m k : ℕ) (x : Placed) (b : Branch)
      → Among x (placed_rows around m k rows) → Among b x.place
      → Among b around ⊎ (((b.mux ≡ m) × (rest : List Branch) × (x.place ≡ around ++ b ∷ rest))
      ⊎ IsInside (placed_rows around m k rows) x.place b)
  row_inside NoRow around m k x b a c = absurd a
  row_inside (RowThen items rest) around m k x b a c =
      let within = placed (around ++ one_branch m k) items in
      let following = placed_rows around m (suc k) rest in
      ⊎_elim (λ d. ⊎_elim (λ e. ⊎_elim (λ f. inl f) (λ f. ⊎_elim (λ g.
      let (t, h) = place_front items (around ++ one_branch m k) x d in inr (inl (
        ap (λ z. z.mux) (sym g),
        t,
        h ∙ append_assoc around (one_branch m k) t ∙ ap (λ z. around ++ z ∷ t) g,
      ))) (λ g. absurd g) f)
      (among-cases b around (one_branch m k) e)) (λ e. inr (inr
      (inside_more within (within ++ following) x.place b (λ y z. among-left y within following z) e)))
      (inside items (around ++ one_branch m k) x b d c))
      (λ d. ⊎_elim (λ e. inl e) (λ e. ⊎_elim (λ f. inr (inl f)) (λ f. inr (inr (inside_more following
      (within ++ following) x.place b (λ y z. among-right y within following z) f))) e)
      (row_inside rest around m (suc k) x b d c)) (among-cases x within following a)

-- a branch is a row of its mux
mutual
  rows_there : (net : Net) (items : Items) (p : Point) (around : List Branch) (x : Placed) (b : Branch)
      → IsWired net p items → Among x (placed around items) → Among b x.place
      → Among b around ⊎ (b.row < length (rows_of net b.mux))
  rows_there net Nothing p around x b w a c = absurd a
  rows_there net (RegThen r rest) p around x b w a c =
      ⊎_elim (λ e. inl (subst (Among b) (sym (ap (λ z. z.place) e)) c))
      (λ d. rows_there net rest (FromReg r) around x b w.1 d c) a
  rows_there net (MuxThen m rows rest) p around x b w a c =
      let n : 0 + length (rows_of net m) ≡ length (rows_of net m) = omega arith in
      ⊎_elim (λ e. inl (subst (Among b) (sym (ap (λ z. z.place) e)) c))
      (λ d. ⊎_elim (λ e. row_there net rows p (rows_of net m) around m 0 x b n w.0 e c)
      (λ e. rows_there net rest (FromMux m) around x b w.1 e c)
      (among-cases x (placed_rows around m 0 rows) (placed around rest) d)) a

  row_there : (net : Net) (rows : Rows) (p : Point) (rs : List Row) (around : List Branch) (m k : ℕ)
      (x : Placed) (b : Branch) → k + length rs ≡ length (rows_of net m) → AreWired net p rs rows
      → Among x (placed_rows around m k rows) → Among b x.place
      → Among b around ⊎ (b.row < length (rows_of net b.mux))
  row_there net NoRow p rs around m k x b n w a c = absurd a
  row_there net (RowThen items rest) p [] around m k x b n w a c = absurd w
  row_there net (RowThen items rest) p (r ∷ rs) around m k x b n w a c =
      let l : k < length (rows_of net m) = omega (arith, n) in
      let n1 : suc k + length rs ≡ length (rows_of net m) = omega (arith, n) in
      ⊎_elim (λ d. ⊎_elim (λ e. ⊎_elim (λ f. inl f) (λ f. ⊎_elim (λ g. inr (subst (λ (z : Branch). z.row
      < length (rows_of net z.mux)) g l)) (λ g. absurd g) f) (among-cases b around (one_branch m k) e))
      (λ e. inr e) (rows_there net items p (around ++ one_branch m k) x b w.1 d c))
      (λ d. row_there net rest p rs around m (suc k) x b n1 w.2 d c)
      (among-cases x (placed (around ++ one_branch m k) items) (placed_rows around m (suc k) rest) a)

route_below : (n : ℕ) (xs : List ℕ) (k : ℕ) → IsRoute n xs → Among k xs → k < n
route_below n [] k h a = absurd a
route_below n (x ∷ xs) k h a = ⊎_elim (λ e. subst (λ z. z < n) e h.0) (λ b. route_below n xs k h.2 b) a

module _ (net : Net) (form : Items) (d : Describes net form) where
  -- an item of the form
  abbrev pub IsItem : Point → List Branch → Type 0
  IsItem item place = (x : Placed) × Among x (placed [] form) × (x.item ≡ item) × (x.place ≡ place)

  reg_in : (r : ℕ) (x : Point) → Among r (reg_number x) → x ≡ FromReg r
  reg_in r Entry a = absurd a
  reg_in r (FromReg k) a = ⊎_elim (λ e. ap FromReg e) (λ z. absurd z) a
  reg_in r (FromMux m) a = absurd a

  mux_in : (m : ℕ) (x : Point) → Among m (mux_number x) → x ≡ FromMux m
  mux_in m Entry a = absurd a
  mux_in m (FromReg k) a = absurd a
  mux_in m (FromMux k) a = ⊎_elim (λ e. ap FromMux e) (λ z. absurd z) a

  regs_once : IsRoute (length net.regs.items) (numbers reg_number (placed [] form))
  regs_once = subst (IsRoute (length net.regs.items)) (sym (reg_numbers form [])) d.registers.different

  muxes_once : IsRoute (length net.muxes.items) (numbers mux_number (placed [] form))
  muxes_once = subst (IsRoute (length net.muxes.items)) (sym (mux_numbers form [])) d.muxes.different

  reg_place : (x : Placed) (r : ℕ) → Among x (placed [] form)
      → x.item ≡ FromReg r → place_of form (FromReg r) ≡ x.place
  reg_place x r a e = find_is reg_number (length net.regs.items) r
      (FromReg r) (placed [] form) x refl regs_once a e

  pub mux_place : (x : Placed) (m : ℕ) → Among x (placed [] form)
      → x.item ≡ FromMux m → place_of form (FromMux m) ≡ x.place
  mux_place x m a e = find_is mux_number (length net.muxes.items) m
      (FromMux m) (placed [] form) x refl muxes_once a e

  pub reg_item : (r : ℕ) → r < length net.regs.items → IsItem (FromReg r) (place_of form (FromReg r))
  reg_item r l =
      let (x, a, b) = among-flat_back (λ (z : Placed). reg_number z.item) r (placed [] form)
      (subst (Among r) (sym (reg_numbers form []))
      (each_in (length net.regs.items) (registers_in form) r d.registers l)) in
      (x, a, reg_in r x.item b, sym (reg_place x r a (reg_in r x.item b)))

  pub mux_item : (m : ℕ) → m < length net.muxes.items → IsItem (FromMux m) (place_of form (FromMux m))
  mux_item m l =
      let (x, a, b) = among-flat_back (λ (z : Placed). mux_number z.item) m (placed [] form) (subst (Among m)
      (sym (mux_numbers form [])) (each_in (length net.muxes.items) (muxes_in form) m d.muxes l)) in
      (x, a, mux_in m x.item b, sym (mux_place x m a (mux_in m x.item b)))

  pub mux_below : (x : Placed) (m : ℕ) → Among x (placed [] form)
      → x.item ≡ FromMux m → m < length net.muxes.items
  mux_below x m a e =
      route_below (length net.muxes.items) (numbers mux_number (placed [] form)) m muxes_once
      (among-flat (λ (z : Placed). mux_number z.item) x m (placed [] form) a
      (subst (λ z. Among m (mux_number z)) (sym e) (inl refl)))

  -- each branch of a place is a row of a mux that comes before it
  pub record IsAround (place : List Branch) (b : Branch) : Type 0 where
    pub there : b.mux < length net.muxes.items
    pub row : b.row < length (rows_of net b.mux)
    pub rest : List Branch
    pub place_is : place ≡ place_of form (FromMux b.mux) ++ b ∷ rest

  pub around : (item : Point) (place : List Branch) (b : Branch)
      → IsItem item place → Among b place → IsAround place b
  around item place b i c =
      let (x, a, e, p) = i in
      let c1 = subst (Among b) (sym p) c in
      ⊎_elim (λ z. absurd z) (λ w. record {
        there = mux_below w.0 b.mux w.1 w.2;
        row = ⊎_elim (λ z. absurd z)
            (λ z. z) (rows_there net form Entry [] x b d.wired a c1);
        rest = w.3;
        place_is = sym p ∙ w.4
            ∙ ap (λ z. z ++ b ∷ w.3) (sym (mux_place w.0 b.mux w.1 w.2));
      }) (inside form [] x b a c1)

  pub path_open : (holds : Holds) (path : List ℕ) (r : ℕ) → active net holds ≡ Some path → Among r path
      → AreIn net holds (place_of form (FromReg r))
  path_open holds path r e a =
      ⊎_elim (λ z. absurd z)
      (λ w. subst (AreIn net holds) (sym (reg_place w.0 r w.1 w.2)) (w.3 (λ b z. absurd z)))
      (walk_meets net holds form [] [] path r (path_is_walk net holds form path d e) a)

  pub open_path : (holds : Holds) (path : List ℕ) (r : ℕ) → active net holds ≡ Some path
      → r < length net.regs.items → AreIn net holds (place_of form (FromReg r)) → Among r path
  open_path holds path r e l h =
      let (x, a, i, p) = reg_item r l in
      open_met net holds form [] [] path x r
      (path_is_walk net holds form path d e) a i (subst (AreIn net holds) (sym p) h)
