-- Two points are one exactly where the test says so.
use Rattle.std.proofs.Common.{◌≡◌, true, refl, sym, ap}
use Rattle.std.proofs.lemmas.Bool.{eq-eqb, eqb-true, true≢false}
use Rattle.net_graph.specs.declared.net.Point.{Point}
use Rattle.net_graph.specs.declared.net.Point.TheVariants.{Entry, Reg, Mux as FromMux}
use Rattle.net_tree.specs.Places.{same_point}

pub same_self : (p : Point) → same_point p p ≡ true
same_self Entry = refl
same_self (Reg r) = eq-eqb r r refl
same_self (FromMux m) = eq-eqb m m refl

pub same_is : (p q : Point) → same_point p q ≡ true → p ≡ q
same_is Entry Entry e = refl
same_is Entry (Reg b) e = absurd (true≢false (sym e))
same_is Entry (FromMux b) e = absurd (true≢false (sym e))
same_is (Reg a) Entry e = absurd (true≢false (sym e))
same_is (Reg a) (Reg b) e = ap Reg (eqb-true a b e)
same_is (Reg a) (FromMux b) e = absurd (true≢false (sym e))
same_is (FromMux a) Entry e = absurd (true≢false (sym e))
same_is (FromMux a) (Reg b) e = absurd (true≢false (sym e))
same_is (FromMux a) (FromMux b) e = ap FromMux (eqb-true a b e)
