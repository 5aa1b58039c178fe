-- A list without registers that follow themselves stands for the whole one.
use Rattle.std.proofs.Common.{◌≡◌, inl, inr, ℕ, suc, ◌-◌, ◌≤◌, Bool, true, false, cond, List, [], ◌∷◌, ◌++◌}
use Rattle.std.proofs.Common.{length, get_or, refl, sym, ap, ◌∙◌, subst, append_assoc, arith}
use Rattle.std.specs.Prelude.{◌==◌, ◌&&◌, ◌||◌, All, map, flat_map, replicate}
use Rattle.std.specs.List.{list_all}
use Rattle.std.proofs.lemmas.Bool.{false≢true, eqb-true}
use Rattle.std.proofs.lemmas.List.{length-replicate, append-nil}
use Rattle.net_graph.specs.declared.branch.Branch.{Branch}
use Rattle.net_graph.specs.declared.net.Net.{Net}
use Rattle.net_graph.specs.declared.net.Point.TheVariants.{Reg as FromReg}
use Rattle.net_graph.specs.declared.step.ReadBit.{ReadBit}
use Rattle.net_graph.specs.declared.step.WriteBit.{WriteBit}
use Rattle.net_graph.specs.Groups.{registers_of}
use Rattle.net_graph.specs.SeenSteps.{SeenGroup}
use Rattle.net_graph.specs.Signals.{Holds}
use Rattle.net_graph.specs.Path.{is_in}
use Rattle.net_tree.specs.Form.{Items}
use Rattle.net_tree.specs.Needs.{needs}
use Rattle.net_tree.specs.Places.{place_of}
use Rattle.path_planner.specs.Collecting.{all_done, settle_writes}
use Rattle.path_planner.specs.Opening.{CanOpen}
use Rattle.path_planner.specs.Planning.{IsBranchOf}
use Rattle.path_planner.specs.Registers.{last_reg_is, add_register, add_registers}
use Rattle.path_planner.proofs.Again.{AreDone, done_again, none_again, now_done}
use Rattle.path_planner.proofs.Among.{Among, all_among, among-flat, on_true, true_on}
use Rattle.path_planner.proofs.Joining.{settle_writes-append, length-all_done}
use Rattle.path_planner.proofs.Opening.{is_needed}
use Rattle.std.proofs.lemmas.Grind.{flat_map-append}

pub ends_at : (rs : List ℕ) (r : ℕ) → 1 ≤ length rs → (get_or rs (length rs - 1) 0 == r) ≡ last_reg_is rs r
ends_at [] r h = absurd (omega (arith, h))
ends_at (y ∷ []) r h = refl
ends_at (y ∷ z ∷ rs) r h =
    let e : length (y ∷ z ∷ rs) - 1 ≡ suc (length (z ∷ rs) - 1) = omega arith in
    ap (λ k. get_or (y ∷ z ∷ rs) k 0 == r) e ∙ ends_at (z ∷ rs) r (omega arith)

-- what comes before the last element
before_last : (rs : List ℕ) (r : ℕ) → last_reg_is rs r ≡ true → (front : List ℕ) × (rs ≡ front ++ r ∷ [])
before_last [] r e = absurd (false≢true e)
before_last (x ∷ []) r e = ([], ap (λ z. z ∷ []) (eqb-true x r e))
before_last (x ∷ y ∷ rs) r e = let (front, f) = before_last (y ∷ rs) r e in (x ∷ front, ap (λ l. x ∷ l) f)

-- the registers of writes, and then those of reads
added-append : (rs xs ys : List ℕ) → add_registers rs (xs ++ ys) ≡ add_registers (add_registers rs xs) ys
added-append rs [] ys = refl
added-append rs (x ∷ xs) ys = added-append (add_register rs x) xs ys

pub both_added : (g : SeenGroup) (ws : List WriteBit) (rs : List ReadBit) (none first all : List ℕ)
    → ws ≡ g.writes → rs ≡ g.reads → none ≡ [] → first ≡ add_registers none (map (λ w. w.bit.reg) ws)
    → all ≡ add_registers first (map (λ r. r.bit.reg) rs) → all ≡ add_registers [] (registers_of g)
both_added g ws rs none first all e f z h k =
    k
    ∙ ap (λ l. add_registers l (map (λ (r : ReadBit). r.bit.reg) rs))
    (h ∙ ap (λ l. add_registers l (map (λ (w : WriteBit). w.bit.reg) ws)) z)
    ∙ sym (added-append [] (map (λ (w : WriteBit). w.bit.reg) ws) (map (λ (r : ReadBit). r.bit.reg) rs))
    ∙ ap (λ l. add_registers [] (map (λ (w : WriteBit). w.bit.reg) l ++ map (λ (r : ReadBit). r.bit.reg) rs))
    e
    ∙ ap (λ l. add_registers []
    (map (λ (w : WriteBit). w.bit.reg) g.writes ++ map (λ (r : ReadBit). r.bit.reg) l)) f

-- what does not tell a register from two of it in a row does not tell the lists apart
module _ {X : Type 0} (P : List ℕ → X) (Q : ℕ → Type 0) (twice : (front : List ℕ) (r : ℕ) (rest : List ℕ)
    → Q r → P (front ++ r ∷ (r ∷ rest)) ≡ P (front ++ r ∷ rest)) where
  one_more : (rs : List ℕ) (r : ℕ) (rest : List ℕ) → Q r → (b : Bool) → last_reg_is rs r ≡ b
      → P (cond b rs (rs ++ r ∷ []) ++ rest) ≡ P (rs ++ r ∷ rest)
  one_more rs r rest q false e = ap P (append_assoc rs (r ∷ []) rest)
  one_more rs r rest q true e =
      let (front, f) = before_last rs r e in
      ap (λ l. P (l ++ rest)) f
      ∙ ap P (append_assoc front (r ∷ []) rest)
      ∙ sym (twice front r rest q)
      ∙ sym (ap P (append_assoc front (r ∷ []) (r ∷ rest)))
      ∙ sym (ap (λ l. P (l ++ r ∷ rest)) f)

  pub same_added : (rs xs : List ℕ) → ((r : ℕ) → Among r xs → Q r) → P (add_registers rs xs) ≡ P (rs ++ xs)
  same_added rs [] h = ap P (sym (append-nil rs))
  same_added rs (x ∷ xs) h =
      same_added (add_register rs x) xs (λ r a. h r (inr a))
      ∙ one_more rs x xs (h x (inl refl)) (last_reg_is rs x) refl

abbrev Any : ℕ → Type 0
Any r = Unit {0}

module _ (f : ℕ → Bool) where
  all_twice : (front : List ℕ) (r : ℕ) (rest : List ℕ) → Any r
      → list_all f (front ++ r ∷ (r ∷ rest)) ≡ list_all f (front ++ r ∷ rest)
  all_twice (x ∷ front) r rest u = ap (λ b. f x && b) (all_twice front r rest u)
  all_twice [] r rest u = go (f r)
    where
      go : (b : Bool) → (b && (b && list_all f rest)) ≡ (b && list_all f rest)
      go true = refl
      go false = refl

  pub same_all : (regs xs : List ℕ) → regs ≡ add_registers [] xs → list_all f regs ≡ list_all f xs
  same_all regs xs e = ap (list_all f) e ∙ same_added (list_all f) Any all_twice [] xs (λ r a. tt)

on_twice : (k : ℕ) (front : List ℕ) (r : ℕ) (rest : List ℕ) → Any r
    → is_in (front ++ r ∷ (r ∷ rest)) k ≡ is_in (front ++ r ∷ rest) k
on_twice k (x ∷ front) r rest u = ap (λ b. (x == k) || b) (on_twice k front r rest u)
on_twice k [] r rest u = go (r == k)
  where
    go : (b : Bool) → (b || (b || is_in rest k)) ≡ (b || is_in rest k)
    go true = refl
    go false = refl

-- no other register is added
among_added : (xs : List ℕ) (r : ℕ) → Among r (add_registers [] xs) → Among r xs
among_added xs r a =
    true_on r xs (sym (same_added (λ l. is_in l r) Any (on_twice r) [] xs (λ k b. tt))
    ∙ on_true r (add_registers [] xs) a)

module _ (net : Net) (form : Items) (g : SeenGroup) (holds : Holds) (c : CanOpen net form g holds) where
  -- the rows around a register of the group are there
  places : (r : ℕ) → Among r (registers_of g) → All (IsBranchOf net) (place_of form (FromReg r))
  places r a =
      let k = is_needed net form g holds c in
      all_among (IsBranchOf net) (place_of form (FromReg r)) (λ b i.
      let j = among-flat (λ r. place_of form (FromReg r)) r b (registers_of g) a i in
      record { mux = k.muxes b j; row = k.rows b j })

  pub added_places : (regs : List ℕ) → regs ≡ add_registers [] (registers_of g)
      → All (λ r. All (IsBranchOf net) (place_of form (FromReg r))) regs
  added_places regs e =
      subst (All (λ r. All (IsBranchOf net) (place_of form (FromReg r)))) (sym e)
      (all_among (λ r. All (IsBranchOf net) (place_of form (FromReg r)))
      (add_registers [] (registers_of g)) (λ r a. places r (among_added (registers_of g) r a)))

  module _ (before : Holds) (path : List ℕ) where
    abbrev place : ℕ → List Branch
    place r = place_of form (FromReg r)

    abbrev none : List Bool
    none = replicate (length net.muxes.items) false

    abbrev written : List ℕ → List WriteBit
    written rs = settle_writes net before path none (flat_map place rs)

    writes_twice : (front : List ℕ) (r : ℕ) (rest : List ℕ) → All (IsBranchOf net) (place r)
        → written (front ++ r ∷ (r ∷ rest)) ≡ written (front ++ r ∷ rest)
    writes_twice front r rest h =
        let f = flat_map place front in
        let more = flat_map place rest in
        let done = all_done none f in
        let marked = all_done done (place r) in
        let long : length done ≡ length net.muxes.items =
        length-all_done none f ∙ length-replicate (length net.muxes.items) false in
        let k : AreDone marked (place r) = now_done net (place r) done marked h long refl in
        ap (settle_writes net before path none) (flat_map-append place front (r ∷ (r ∷ rest)))
        ∙ settle_writes-append net before path none f (place r ++ (place r ++ more))
        ∙ ap (λ ws. settle_writes net before path none f ++ ws) (settle_writes-append net before path done
        (place r) (place r ++ more) ∙ ap (λ ws. settle_writes net before path done (place r) ++ ws)
        (settle_writes-append net before path marked (place r) more ∙ ap (λ ws. ws ++ settle_writes net
        before path (all_done marked (place r)) more) (none_again net before path (place r) marked k)
        ∙ ap (λ l. settle_writes net before path l more) (sym (done_again (place r) marked k)))
        ∙ sym (settle_writes-append net before path done (place r) more))
        ∙ sym (settle_writes-append net before path none f (place r ++ more))
        ∙ sym (ap (settle_writes net before path none) (flat_map-append place front (r ∷ rest)))

    pub same_writes : (regs : List ℕ) → regs ≡ add_registers [] (registers_of g)
        → settle_writes net before path none (flat_map place regs)
        ≡ settle_writes net before path none (needs form g)
    same_writes regs e =
        ap written e ∙ same_added written
        (λ r. All (IsBranchOf net) (place r)) writes_twice [] (registers_of g) places
