-- The registers around which only passed rows stand are on each path through these rows, so it has their
-- bits.
use Rattle.std.proofs.Common.{◌≡◌, ⊎_elim, ℕ, zero, suc, ◌+◌, ◌<◌, ◌≤◌, Bool, true, false, List, [], ◌∷◌}
use Rattle.std.proofs.Common.{◌++◌, length, Some, refl, sym, ap, ◌∙◌, arith}
use Rattle.std.specs.Prelude.{cond, ◌==◌, ◌||◌}
use Rattle.std.proofs.lemmas.Bool.{cases_Bool, and_parts, eqb-true}
use Rattle.std.proofs.lemmas.Bool.Decides.{eqb_tells}
use Rattle.net_graph.specs.declared.branch.Branch.{Branch}
use Rattle.net_graph.specs.declared.net.Net.{Net}
use Rattle.net_graph.specs.declared.net.Point.TheVariants.{Reg}
use Rattle.net_graph.specs.Named.{width_of}
use Rattle.net_graph.specs.Path.{active, is_in, row_of}
use Rattle.net_graph.specs.Signals.{Holds}
use Rattle.net_graph.proofs.Shapes.{total, widths}
use Rattle.net_tree.specs.Form.{Items, Describes}
use Rattle.net_tree.specs.Places.{place_of}
use Rattle.path_planner.proofs.Among.{Among, among-cases, among-flat_back, contains_among, on_true, true_all}
use Rattle.path_planner.proofs.Inside.{open_path, path_open}
use Rattle.svf_audit.proofs.Telling.{any_of}
use Rattle.least_clocks.specs.Inside.{same_branch, is_one_of, is_inside, bits_along, bits_inside}
use Rattle.least_clocks.specs.Inside.{bits_within_rows}
use Rattle.least_clocks.specs.Least.{rows_around}

or_sum : (a b : Bool) (w : ℕ) → cond (a || b) w 0 ≤ cond a w 0 + cond b w 0
or_sum true b w = omega arith
or_sum false b w = omega arith

module _ (net : Net) where
  -- the bits of the registers below a number that are on a path, and those of one register
  abbrev bits_on : List ℕ → ℕ → ℕ
  bits_on path zero = 0
  bits_on path (suc r) = bits_on path r + cond (is_in path r) (width_of net r) 0

  abbrev bits_at : ℕ → ℕ → ℕ
  bits_at x zero = 0
  bits_at x (suc r) = bits_at x r + cond (x == r) (width_of net r) 0

  abbrev width_if : ℕ → Bool → ℕ
  width_if r b = cond b (width_of net r) 0

  not_yet : (x k : ℕ) → k ≤ x → bits_at x k ≡ 0
  not_yet x zero l = refl
  not_yet x (suc r) l =
      ⊎_elim (λ e. absurd (let same = e.1 in omega (arith, l, same))) (λ e. let none = ap (width_if r) e.0 in
      omega (arith, none, not_yet x r (omega (arith, l)))) (eqb_tells x r)

  at_most_once : (x k : ℕ) → bits_at x k ≤ width_of net x
  at_most_once x zero = omega arith
  at_most_once x (suc r) =
      ⊎_elim (λ e. let here = ap (width_if r) e.0 in
      let same = ap (width_of net) e.1 in
      let none = not_yet x r (let q = e.1 in omega (arith, q)) in omega (arith, here, same, none)) (λ e.
      let none = ap (width_if r) e.0 in omega (arith, none, at_most_once x r)) (eqb_tells x r)

  first_on : (x : ℕ) (path : List ℕ) (k : ℕ) → bits_on (x ∷ path) k ≤ bits_at x k + bits_on path k
  first_on x path zero = omega arith
  first_on x path (suc r) = omega (arith, first_on x path r, or_sum (x == r) (is_in path r) (width_of net r))

  none_on : (k : ℕ) → bits_on [] k ≡ 0
  none_on zero = refl
  none_on (suc r) = omega (arith, none_on r)

  all_on : (path : List ℕ) (k : ℕ) → bits_on path k ≤ total path (widths net)
  all_on [] k = omega (arith, none_on k)
  all_on (x ∷ path) k = omega (arith, first_on x path k, at_most_once x k, all_on path k)

pub along_is : (net : Net) (path : List ℕ) → bits_along net path ≡ total path (widths net)
along_is net [] = refl
along_is net (r ∷ rs) = ap (λ n. width_of net r + n) (along_is net rs)

module _ (net : Net) (form : Items) (d : Describes net form) (holds : Holds) (path : List ℕ)
    (e : active net holds ≡ Some path) where
  abbrev pub AreOpen : (Branch → Bool) → Type 0
  AreOpen passed = (b : Branch) → passed b ≡ true → row_of net holds b.mux ≡ Some b.row

  module _ (passed : Branch → Bool) (opened : AreOpen passed) where
    inside_on : (r : ℕ) → r < length net.regs.items → is_inside form passed r ≡ true → is_in path r ≡ true
    inside_on r l t =
        on_true r path (open_path net form d holds path r e l
        (λ b a. opened b (true_all passed (place_of form (Reg r)) t b a)))

    inside_least : (k : ℕ) → k ≤ length net.regs.items → bits_inside net form passed k ≤ bits_on net path k
    inside_least zero l = omega arith
    inside_least (suc r) l =
        let so_far = inside_least r (omega (arith, l)) in
        ⊎_elim
        (λ t. let here = ap (width_if net r) t in
        let on = ap (width_if net r) (inside_on r (omega (arith, l)) t) in
        omega (arith, so_far, here, on))
        (λ t. let here = ap (width_if net r) t in omega (arith, so_far, here))
        (cases_Bool (is_inside form passed r))

    pub path_least : bits_within_rows net form passed ≤ total path (widths net)
    path_least =
        let all = inside_least (length net.regs.items) (omega arith) in
        omega (arith, all, all_on net path (length net.regs.items))

  -- the rows around registers of the path are those that its muxes are in
  around_open : (registers : List ℕ) → ((r : ℕ) → Among r registers → Among r path) → (b : Branch)
      → Among b (rows_around form registers) → row_of net holds b.mux ≡ Some b.row
  around_open registers on b a =
      let (r, i, j) = among-flat_back (λ r. place_of form (Reg r)) b registers a in
      path_open net form d holds path r e (on r i) b j

  pub both_open : (one other : List ℕ) → ((r : ℕ) → Among r one → Among r path)
      → ((r : ℕ) → Among r other → Among r path)
      → AreOpen (is_one_of (rows_around form one ++ rows_around form other))
  both_open one other on_one on_other b t =
      let (x, c, q) = any_of (same_branch b) (rows_around form one ++ rows_around form other) t in
      let parts = and_parts (b.mux == x.mux) (b.row == x.row) q in
      let mux : b.mux ≡ x.mux = eqb-true b.mux x.mux parts.0 in
      let row : b.row ≡ x.row = eqb-true b.row x.row parts.1 in
      let is : row_of net holds x.mux ≡ Some x.row = ⊎_elim (λ a. around_open one on_one x a)
      (λ a. around_open other on_other x a) (among-cases x (rows_around form one) (rows_around form other)
      (contains_among x (rows_around form one ++ rows_around form other) c)) in
      ap (row_of net holds) mux ∙ is ∙ ap Some (sym row)
