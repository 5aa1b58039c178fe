-- A number that is set at a bit.
use Rattle.std.proofs.Common.{◌≡◌, ℕ, zero, suc, ◌<◌, ◌==◌, ◌⊎◌, inl, inr, ⊎_elim, Bool, true, false, List}
use Rattle.std.proofs.Common.{[], ◌∷◌, length, get_or, set, map, refl, sym, ap, ◌∙◌, arith}
use Rattle.std.specs.Prelude.{◌&&◌}
use Rattle.std.proofs.lemmas.List.{get_or-set_same, get_or-set_other, length-set, length-replicate, set_past}
use Rattle.std.proofs.lemmas.List.{map-set, get_or-map}
use Rattle.std.proofs.lemmas.Bool.{eqb-true, eq-eqb}
use Rattle.net_graph.specs.declared.net.BitId.{BitId}
use Rattle.net_graph.specs.declared.net.Reg.{Reg}
use Rattle.net_graph.specs.Marks.{Marks, mark_at, set_mark, zeros}
use Rattle.net_graph.specs.MarkLaws.{SetIsThere, OthersStay, BitsStay, EachBitHasOne, ZerosAreZero}

-- a list that has a number is one of the lists
there : (marks : Marks) (r p : ℕ) → p < length (get_or marks r []) → r < length marks
there [] r p h = absurd (omega (arith, h))
there (m ∷ ms) zero p h = omega arith
there (m ∷ ms) (suc r) p h = omega (arith, there ms r p h)

pub set_is_there : SetIsThere
set_is_there marks b n h =
    let r = there marks b.reg b.pos h in
    ap (λ l. get_or l b.pos 0) (get_or-set_same marks b.reg (set (get_or marks b.reg []) b.pos n) [] r)
    ∙ get_or-set_same (get_or marks b.reg []) b.pos n 0 h

-- the same list, or another one
row_of : (marks : Marks) (b c : BitId) (n : ℕ) → (c.reg == b.reg) ≡ false
    → get_or (set_mark marks b n) c.reg [] ≡ get_or marks c.reg []
row_of marks b c n e = get_or-set_other marks b.reg c.reg (set (get_or marks b.reg []) b.pos n) [] (λ h.
    let t = eq-eqb c.reg b.reg h in absurd cc)

-- a list that is set is there, or there is none
row_cases : (marks : Marks) (r : ℕ) (x : List ℕ) → (get_or (set marks r x) r [] ≡ x) ⊎ (set marks r x ≡ marks)
row_cases [] r x = inr (set_past [] r x (omega arith))
row_cases (m ∷ ms) zero x = inl refl
row_cases (m ∷ ms) (suc r) x = ⊎_elim (λ e. inl e) (λ e. inr (ap (λ l. m ∷ l) e)) (row_cases ms r x)

pub others_stay : OthersStay
others_stay marks b c n e = by_reg (c.reg == b.reg) refl
  where
    same_row : (c.reg == b.reg) ≡ true → (c.pos == b.pos) ≡ false
        → mark_at (set_mark marks b n) c ≡ mark_at marks c
    same_row r p =
        let k : c.reg ≡ b.reg = eqb-true c.reg b.reg r in
        ⊎_elim
        (λ f.
        ap (λ i. get_or (get_or (set_mark marks b n) i []) c.pos 0) k
        ∙ ap (λ l. get_or l c.pos 0) f
        ∙ get_or-set_other (get_or marks b.reg []) b.pos c.pos n 0 (λ h.
        let t = eq-eqb c.pos b.pos h in absurd cc)
        ∙ ap (λ i. get_or (get_or marks i []) c.pos 0) (sym k))
        (λ f. ap (λ m. mark_at m c) f)
        (row_cases marks b.reg (set (get_or marks b.reg []) b.pos n))

    by_reg : (t : Bool) → (c.reg == b.reg) ≡ t → mark_at (set_mark marks b n) c ≡ mark_at marks c
    by_reg false r = ap (λ l. get_or l c.pos 0) (row_of marks b c n r)
    by_reg true r = same_row r (sym (ap (λ t. t && (c.pos == b.pos)) r) ∙ e)

as_long : (marks : Marks) (b c : BitId) (n : ℕ)
    → length (get_or (set_mark marks b n) c.reg []) ≡ length (get_or marks c.reg [])
as_long marks b c n = by_reg (c.reg == b.reg) refl
  where
    by_reg : (t : Bool) → (c.reg == b.reg) ≡ t
        → length (get_or (set_mark marks b n) c.reg []) ≡ length (get_or marks c.reg [])
    by_reg false r = ap length (row_of marks b c n r)
    by_reg true r =
        let k : c.reg ≡ b.reg = eqb-true c.reg b.reg r in
        ⊎_elim
        (λ f. ap (λ i. length (get_or (set_mark marks b n) i [])) k ∙ ap length f
        ∙ length-set (get_or marks b.reg []) b.pos n ∙ ap (λ i. length (get_or marks i [])) (sym k))
        (λ f. ap (λ m. length (get_or m c.reg [])) f)
        (row_cases marks b.reg (set (get_or marks b.reg []) b.pos n))

pub bits_stay : BitsStay
bits_stay marks b c n h = omega (arith, h, as_long marks b c n)

zeros_long : (width : ℕ) → length (zeros width) ≡ width
zeros_long width = length-replicate width 0

each_of : (regs : List Reg) (r p : ℕ) → p < get_or (map (λ reg. reg.width) regs) r 0
    → p < length (get_or (map (λ reg. zeros reg.width) regs) r [])
each_of [] r p h = absurd (omega (arith, h))
each_of (g ∷ gs) zero p h = omega (arith, h, zeros_long g.width)
each_of (g ∷ gs) (suc r) p h = each_of gs r p h

pub each_bit_has_one : EachBitHasOne
each_bit_has_one net b h = each_of net.regs.items b.reg b.pos h

-- ---- lists that are kept as values

module _ {A : Type 0} (f : A → List ℕ) where
  is_kept : (regs : List A) (r p : ℕ) → p < length (get_or (map f regs) r []) → r < length regs
  is_kept [] r p h = absurd (omega (arith, h))
  is_kept (x ∷ regs) zero p h = omega arith
  is_kept (x ∷ regs) (suc r) p h = omega (arith, is_kept regs r p h)

  pub set_kept : (regs : List A) (h : Marks) (r p : ℕ) (old new : A) (n : ℕ) → map f regs ≡ h
      → p < length (get_or h r []) → old ≡ get_or regs r old → f new ≡ set (f old) p n
      → map f (set regs r new) ≡ set h r (set (get_or h r []) p n)
  set_kept regs h r p old new n e w o i =
      let there : r < length regs = is_kept regs r p (omega (arith, w, ap (λ x. length (get_or x r [])) e)) in
      let row : f new ≡ set (get_or (map f regs) r []) p n =
      i ∙ ap (λ l. set l p n) (ap f o ∙ sym (get_or-map f regs r old [] there)) in
      map-set f regs r new ∙ ap (set (map f regs) r) row ∙ ap (λ x. set x r (set (get_or x r []) p n)) e

-- ---- zeros

zero_in : (width p : ℕ) → get_or (zeros width) p 0 ≡ 0
zero_in zero p = refl
zero_in (suc width) zero = refl
zero_in (suc width) (suc p) = zero_in width p

zero_of : (regs : List Reg) (r p : ℕ) → get_or (get_or (map (λ reg. zeros reg.width) regs) r []) p 0 ≡ 0
zero_of [] r p = refl
zero_of (g ∷ gs) zero p = zero_in g.width p
zero_of (g ∷ gs) (suc r) p = zero_of gs r p

pub zeros_are_zero : ZerosAreZero
zeros_are_zero net b = zero_of net.regs.items b.reg b.pos
