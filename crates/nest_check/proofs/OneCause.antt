-- A network has one cause of refusal at most, and none where its form is lawful.
use Rattle.std.proofs.Common.{◌≡◌, ◌≢◌, ◌⊎◌, inl, inr, ⊎_elim, ℕ, suc, ◌<◌, List, [], ◌∷◌, ◌++◌, length, refl}
use Rattle.std.proofs.Common.{sym, ap, ◌∙◌, subst, arith}
use Rattle.std.specs.Prelude.{All}
use Rattle.std.proofs.lemmas.Bool.{cases_lt}
use Rattle.std.proofs.lemmas.List.Elements.{All-head, All-tail}
use Rattle.net_graph.specs.Nets.{IsNet}
use Rattle.net_graph.specs.declared.net.BitId.{BitId}
use Rattle.net_graph.specs.declared.net.Inst.{Inst}
use Rattle.net_graph.specs.declared.net.Net.{Net}
use Rattle.net_graph.specs.declared.net.Point.{Point}
use Rattle.net_graph.specs.declared.net.Point.TheVariants.{Entry, Reg, Mux}
use Rattle.net_tree.specs.Form.{Items, Describes}
use Rattle.net_tree.specs.Lawful.{selects_of, IsOutside, IsUnshared, IsUndriven, DrivesNone, HasReset}
use Rattle.net_tree.specs.Lawful.{IsListed, IsShallow, IsLawfulMux}
use Rattle.nest_check.specs.Causes.{IsFirst, IsFirstAt, IsFaultOfMux, IsSelectFault, HasCause}
use Rattle.nest_check.specs.Described.{HasNoForm}
use Rattle.nest_check.specs.Laws.{OneCause, LawfulHasNone}
use Rattle.nest_check.specs.Meeting.{AllAreMet, IsFirstUnmet}
use Rattle.nest_check.specs.declared.fault.NestFault.{NestFault}
use Rattle.nest_check.specs.declared.fault.NestFault.TheVariants.{Unreached, NotNested, SelectInside}
use Rattle.nest_check.specs.declared.fault.NestFault.TheVariants.{SelectShared, SelectDrives, SelectNoReset}
use Rattle.nest_check.specs.declared.fault.NestFault.TheVariants.{ResetUnlisted, TooDeep, OutOfMemory}
use Rattle.nest_check.proofs.AllMet.{form_is_met}
use Rattle.nest_check.proofs.OneForm.{one_form}
use Rattle.ij_bits.proofs.Lists.{head_same, tail_same}

-- the first of a list of which something doesn't hold is one
first_same : {A : Type 0} (P : A → Type 0) (before after others rest : List A) (x y : A)
    → before ++ x ∷ after ≡ others ++ y ∷ rest → All P before → All P others → (P x → ⊥) → (P y → ⊥)
    → (length before ≡ length others) × (x ≡ y)
first_same P [] after [] rest x y e a b p q = (refl, head_same x y after rest e)
first_same P [] after (o ∷ others) rest x y e a b p q =
    absurd (p (subst P (sym (head_same x o after (others ++ y ∷ rest) e)) (All-head P o others b)))
first_same P (o ∷ before) after [] rest x y e a b p q =
    absurd (q (subst P (head_same o y (before ++ x ∷ after) rest e) (All-head P o before a)))
first_same P (o ∷ before) after (u ∷ others) rest x y e a b p q =
    let (n, s) = first_same P before after others rest x y (tail_same o u (before ++ x ∷ after)
    (others ++ y ∷ rest) e) (All-tail P o before a) (All-tail P u others b) p q in
    (ap suc n, s)

one_first : {A : Type 0} (P : A → Type 0) (xs : List A) (n k : ℕ) (x y : A) → IsFirstAt P xs n x
    → IsFirstAt P xs k y → (n ≡ k) × (x ≡ y)
one_first P xs n k x y (before, after, e, l, a, p) (others, rest, f, m, b, q) =
    let (s, t) = first_same P before after others rest x y (sym e ∙ f) a b p q in
    (sym l ∙ s ∙ m, t)

one_bit : (P : BitId → Type 0) (xs : List BitId) (x y : BitId) → IsFirst P xs x → IsFirst P xs y → x ≡ y
one_bit P xs x y (n, h) (k, i) = let (s, t) = one_first P xs n k x y h i in t

in_middle : {A : Type 0} (P : A → Type 0) (before after : List A) (x : A) → All P (before ++ x ∷ after) → P x
in_middle P [] after x h = All-head P x after h
in_middle P (b ∷ before) after x h = in_middle P before after x (All-tail P b (before ++ x ∷ after) h)

not_all : (P : BitId → Type 0) (xs : List BitId) (x : BitId) → IsFirst P xs x → All P xs → ⊥
not_all P xs x (n, (before, after, e, l, a, p)) h = p (in_middle P before after x (subst (All P) e h))

-- the first of two causes, or what comes after it
one_of : (L R : NestFault → Type 0) (A : Type 0) → ((f : NestFault) → L f → A → ⊥)
    → ((f g : NestFault) → L f → L g → f ≡ g) → ((f g : NestFault) → R f → R g → f ≡ g) → (f g : NestFault)
    → L f ⊎ (A × R f) → L g ⊎ (A × R g) → f ≡ g
one_of L R A apart l r f g (inl x) (inl y) = l f g x y
one_of L R A apart l r f g (inl x) (inr y) = absurd (apart f x y.0)
one_of L R A apart l r f g (inr x) (inl y) = absurd (apart g y x.0)
one_of L R A apart l r f g (inr x) (inr y) = r f g x.1 y.1

module _ (net : Net) (form : Items) (m : ℕ) where
  abbrev bits : List BitId
  bits = selects_of net m

  abbrev Inside : NestFault → Type 0
  Inside f = (f ≡ SelectInside m) × (All (IsOutside form m) bits → ⊥)

  abbrev Shared : NestFault → Type 0
  Shared f = (b : BitId) × (f ≡ SelectShared b) × IsFirst (IsUnshared net) bits b

  pub record Drives (f : NestFault) : Type 0 where
    pub bit : BitId
    pub at : ℕ
    pub inst : Inst
    pub is : f ≡ SelectDrives bit at
    pub first : IsFirst (DrivesNone net) bits bit
    pub first_inst : IsFirstAt (IsUndriven bit) net.insts.items at inst

  abbrev NoReset : NestFault → Type 0
  NoReset f = (b : BitId) × (f ≡ SelectNoReset b) × IsFirst (HasReset net) bits b

  abbrev Unlisted : NestFault → Type 0
  Unlisted f = (f ≡ ResetUnlisted m) × (IsListed net m → ⊥)

  abbrev Deep : NestFault → Type 0
  Deep f = (f ≡ TooDeep m) × (IsShallow form m → ⊥)

  abbrev From5 : NestFault → Type 0
  From5 f = Unlisted f ⊎ (IsListed net m × Deep f)

  abbrev From4 : NestFault → Type 0
  From4 f = NoReset f ⊎ (All (HasReset net) bits × From5 f)

  abbrev From3 : NestFault → Type 0
  From3 f = Drives f ⊎ (All (DrivesNone net) bits × From4 f)

  abbrev From2 : NestFault → Type 0
  From2 f = Shared f ⊎ (All (IsUnshared net) bits × From3 f)

  abbrev From1 : NestFault → Type 0
  From1 f = Inside f ⊎ (All (IsOutside form m) bits × From2 f)

  in_order : (f : NestFault) → IsFaultOfMux net form m f → From1 f
  in_order (Unreached cell) h = absurd h
  in_order NotNested h = absurd h
  in_order (SelectInside mux) (e, n) = inl (ap SelectInside e, n)
  in_order (SelectShared bit) (a, p) = inr (a, inl (bit, refl, p))
  in_order (SelectDrives bit inst) (a, b, p, q) =
      let (i, h) = q in
      inr (a, inr (b, inl (record { bit = bit; at = inst; inst = i; is = refl; first = p; first_inst = h })))
  in_order (SelectNoReset bit) (a, b, c, p) = inr (a, inr (b, inr (c, inl (bit, refl, p))))
  in_order (ResetUnlisted mux) (a, b, c, d, e, n) =
      inr (a, inr (b, inr (c, inr (d, inl (ap ResetUnlisted e, n)))))
  in_order (TooDeep mux) (a, b, c, d, l, e, n) =
      inr (a, inr (b, inr (c, inr (d, inr (l, (ap TooDeep e, n))))))
  in_order OutOfMemory h = absurd h

  one_driver : (f g : NestFault) → Drives f → Drives g → f ≡ g
  one_driver f g x y =
      let b = one_bit (DrivesNone net) bits x.bit y.bit x.first y.first in
      let (i, s) = one_first (IsUndriven y.bit) net.insts.items x.at y.at x.inst y.inst
      (subst (λ z. IsFirstAt (IsUndriven z) net.insts.items x.at x.inst) b x.first_inst) y.first_inst in
      x.is ∙ ap (λ z. SelectDrives z x.at) b ∙ ap (SelectDrives y.bit) i ∙ sym y.is

  one5 : (f g : NestFault) → From5 f → From5 g → f ≡ g
  one5 =
      one_of Unlisted Deep (IsListed net m) (λ f x a. x.1 a)
      (λ f g x y. x.0 ∙ sym y.0) (λ f g x y. x.0 ∙ sym y.0)

  one4 : (f g : NestFault) → From4 f → From4 g → f ≡ g
  one4 =
      one_of NoReset From5 (All (HasReset net) bits) (λ f (b, e, p) a. not_all (HasReset net) bits b p a)
      (λ f g (b, e, p) (c, i, q). e ∙ ap SelectNoReset (one_bit (HasReset net) bits b c p q) ∙ sym i) one5

  one3 : (f g : NestFault) → From3 f → From3 g → f ≡ g
  one3 =
      one_of Drives From4 (All (DrivesNone net) bits)
      (λ f x a. not_all (DrivesNone net) bits x.bit x.first a) one_driver one4

  one2 : (f g : NestFault) → From2 f → From2 g → f ≡ g
  one2 =
      one_of Shared From3 (All (IsUnshared net) bits)
      (λ f (b, e, p) a. not_all (IsUnshared net) bits b p a) (λ f g (b, e, p) (c, i, q). e
      ∙ ap SelectShared (one_bit (IsUnshared net) bits b c p q) ∙ sym i) one3

  one1 : (f g : NestFault) → From1 f → From1 g → f ≡ g
  one1 =
      one_of Inside From2 (All (IsOutside form m) bits) (λ f x a. x.1 a) (λ f g x y. x.0 ∙ sym y.0) one2

  one_fault : (f g : NestFault) → IsFaultOfMux net form m f → IsFaultOfMux net form m g → f ≡ g
  one_fault f g x y = one1 f g (in_order f x) (in_order g y)

  none : (f : NestFault) → IsLawfulMux net form m → From1 f → ⊥
  none f l (inl x) = x.1 l.outside
  none f l (inr (a, inl (b, e, p))) = not_all (IsUnshared net) bits b p l.unshared
  none f l (inr (a, inr (b, inl x))) = not_all (DrivesNone net) bits x.bit x.first l.undriven
  none f l (inr (a, inr (b, inr (c, inl (d, e, p))))) = not_all (HasReset net) bits d p l.resets
  none f l (inr (a, inr (b, inr (c, inr (d, inl x))))) = x.1 l.listed
  none f l (inr (a, inr (b, inr (c, inr (d, inr (i, x)))))) = x.1 l.shallow

  no_fault : (f : NestFault) → IsLawfulMux net form m → IsFaultOfMux net form m f → ⊥
  no_fault f l x = none f l (in_order f x)

-- of two muxes with a fault before which all are lawful, none comes first
same_mux : (net : Net) (form : Items) (m k : ℕ) (f g : NestFault) → ((j : ℕ) → j < m → IsLawfulMux net form j)
    → ((j : ℕ) → j < k → IsLawfulMux net form j)
    → IsFaultOfMux net form m f → IsFaultOfMux net form k g → k ≡ m
same_mux net form m k f g a b x y =
    ⊎_elim (λ l. absurd (no_fault net form m f (b m l) x)) (λ l. ⊎_elim (λ n. absurd
    (no_fault net form k g (a k n) y)) (λ n. omega (arith, l, n)) (cases_lt k m)) (cases_lt m k)

one_unmet : (net : Net) (c d : Point) → IsFirstUnmet net c → IsFirstUnmet net d → c ≡ d
one_unmet net Entry d x y = absurd x
one_unmet net (Reg r) Entry x y = absurd y
one_unmet net (Reg r) (Reg s) x y =
    ap Reg (⊎_elim (λ l. absurd (x.2 (y.1 r l)))
    (λ l. ⊎_elim (λ n. absurd (y.2 (x.1 s n))) (λ n. omega (arith, l, n)) (cases_lt s r)) (cases_lt r s))
one_unmet net (Reg r) (Mux m) x y = absurd (x.2 (y.1 r x.0))
one_unmet net (Mux m) Entry x y = absurd y
one_unmet net (Mux m) (Reg r) x y = absurd (y.2 (x.1 r y.0))
one_unmet net (Mux m) (Mux k) x y =
    ap Mux (⊎_elim (λ l. absurd (x.3 (y.2 m l)))
    (λ l. ⊎_elim (λ n. absurd (y.3 (x.2 k n))) (λ n. omega (arith, l, n)) (cases_lt k m)) (cases_lt m k))

not_unmet : (net : Net) (c : Point) → IsFirstUnmet net c → AllAreMet net → ⊥
not_unmet net Entry x a = x
not_unmet net (Reg r) x a = x.2 (a.0 r x.0)
not_unmet net (Mux m) x a = x.3 (a.1 m x.0)

module _ (net : Net) (n : IsNet net) where
  abbrev Unmet : NestFault → Type 0
  Unmet f = (c : Point) × (f ≡ Unreached c) × IsFirstUnmet net c

  abbrev Formless : NestFault → Type 0
  Formless f = (f ≡ NotNested) × HasNoForm net

  abbrev Described : Type 0
  Described = (form : Items) × Describes net form

  abbrev Nested : NestFault → Type 0
  Nested f = Formless f ⊎ (Described × IsSelectFault net f)

  abbrev Whole : NestFault → Type 0
  Whole f = Unmet f ⊎ (AllAreMet net × Nested f)

  select : (f : NestFault) → IsSelectFault net f → Whole f
  select f (form, m, d, l, b, x) = inr (form_is_met net form n d, inr ((form, d), (form, m, d, l, b, x)))

  whole : (f : NestFault) → f ≢ OutOfMemory → HasCause net f → Whole f
  whole (Unreached cell) o h = inl (cell, refl, h)
  whole NotNested o (a, h) = inr (a, inl (refl, h))
  whole (SelectInside mux) o h = select (SelectInside mux) h
  whole (SelectShared bit) o h = select (SelectShared bit) h
  whole (SelectDrives bit inst) o h = select (SelectDrives bit inst) h
  whole (SelectNoReset bit) o h = select (SelectNoReset bit) h
  whole (ResetUnlisted mux) o h = select (ResetUnlisted mux) h
  whole (TooDeep mux) o h = select (TooDeep mux) h
  whole OutOfMemory o h = absurd (o refl)

  one_select : (f g : NestFault) → IsSelectFault net f → IsSelectFault net g → f ≡ g
  one_select f g (form, m, d, l, b, x) (other, k, e, i, c, y) =
      let same = one_form net other form n e d in
      let y' = subst (λ z. IsFaultOfMux net z k g) same y in
      let c' = subst (λ z. (j : ℕ) → j < k → IsLawfulMux net z j) same c in
      one_fault net form m f g x
      (subst (λ z. IsFaultOfMux net form z g) (same_mux net form m k f g b c' x y') y')

  one_nested : (f g : NestFault) → Nested f → Nested g → f ≡ g
  one_nested =
      one_of Formless (IsSelectFault net) Described
      (λ f x (form, d). x.1 form d) (λ f g x y. x.0 ∙ sym y.0) one_select

  one_whole : (f g : NestFault) → Whole f → Whole g → f ≡ g
  one_whole =
      one_of Unmet Nested (AllAreMet net) (λ f (c, e, h) a. not_unmet net c h a)
      (λ f g (c, e, h) (d, i, k). e ∙ ap Unreached (one_unmet net c d h k) ∙ sym i) one_nested

  module _ (form : Items) (d : Describes net form) (l : (m : ℕ)
      → m < length net.muxes.items → IsLawfulMux net form m) where
    no_select : (f : NestFault) → IsSelectFault net f → ⊥
    no_select f (other, m, e, i, b, x) =
        no_fault net form m f (l m i) (subst (λ z. IsFaultOfMux net z m f) (one_form net other form n e d) x)

    no_cause : (f : NestFault) → HasCause net f → f ≡ OutOfMemory
    no_cause (Unreached cell) h = absurd (not_unmet net cell h (form_is_met net form n d))
    no_cause NotNested (a, h) = absurd (h form d)
    no_cause (SelectInside mux) h = absurd (no_select (SelectInside mux) h)
    no_cause (SelectShared bit) h = absurd (no_select (SelectShared bit) h)
    no_cause (SelectDrives bit inst) h = absurd (no_select (SelectDrives bit inst) h)
    no_cause (SelectNoReset bit) h = absurd (no_select (SelectNoReset bit) h)
    no_cause (ResetUnlisted mux) h = absurd (no_select (ResetUnlisted mux) h)
    no_cause (TooDeep mux) h = absurd (no_select (TooDeep mux) h)
    no_cause OutOfMemory h = refl

pub one_cause : OneCause
one_cause net f g n a b x y = one_whole net n f g (whole net n f a x) (whole net n g b y)

pub lawful_has_none : LawfulHasNone
lawful_has_none net form f n d l h = no_cause net n form d l f h
