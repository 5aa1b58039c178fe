-- Work in turn comes to one end at most where each of its parts does, and to an end where each does.
use Rattle.std.specs.Prelude.{Option, Some, Result, Ok, Err, IsSome}
use Rattle.std.proofs.Common.{◌≡◌, ◌∙◌, refl, sym, subst, inl, inr}
use Rattle.ij_bits.proofs.Lists.{some_of}
use Rattle.ijtag_stages.specs.Work.{Work, give, never, reported, ◌>>=◌, RefusesInTurn, IsDecided, IsTotal}

pub give_decided : {R A : Type 0} (x : A) → IsDecided {R = R} {A = A} (give x)
give_decided x = record { one = λ a b p q. p ∙ sym q; apart = λ a r p q. q; alike = λ r s p q. absurd p }

pub never_decided : {R A : Type 0} → IsDecided {R = R} {A = A} never
never_decided = record { one = λ a b p q. absurd p; apart = λ a r p q. q; alike = λ r s p q. absurd p }

-- ---- what a function answers

module _ {R A E : Type 0} (answer : Result A E) (report : E → Option R) where
  one_value : (a b : A) → answer ≡ Ok a → answer ≡ Ok b → a ≡ b
  one_value a b p q = cc

  not_both : (a : A) (fault : E) → answer ≡ Ok a → answer ≡ Err fault → ⊥
  not_both a fault p q = cc

  one_report : (fault other : E) (r s : R) → answer ≡ Err fault → answer ≡ Err other
      → report fault ≡ Some r → report other ≡ Some s → r ≡ s
  one_report fault other r s p q told tells = cc

  pub reported_decided : IsDecided (reported answer report)
  reported_decided = record {
    one = one_value;
    apart = λ a r p q. not_both a q.0 p q.1;
    alike = λ r s p q. one_report p.0 q.0 r s p.1 q.1 p.2 q.2;
  }

  -- where each of its faults is reported
  pub reported_total : ((fault : E) → answer ≡ Err fault → IsSome (report fault))
      → IsTotal (reported answer report)
  reported_total told none free = by_answer answer refl
    where
      by_answer : (a : Result A E) → answer ≡ a → ⊥
      by_answer (Ok a) e = none a e
      by_answer (Err fault) e = let r = some_of (report fault) (told fault e) in free r.0 (fault, e, r.1)

-- ---- parts in turn

-- two refusals of work in turn: of the first part, or of the next one after the one value
alike_in_turn : {R A B : Type 0} (first : Work R A) (next : A → Work R B) → IsDecided first
    → ((a : A) → IsDecided (next a)) → (r s : R)
    → RefusesInTurn first next r → RefusesInTurn first next s → r ≡ s
alike_in_turn first next f n r s p q =
    elim p [
      | inl own ↦ elim q [
        | inl other ↦ f.alike r s own other
        | inr later ↦ absurd (f.apart later.0 r later.1 own)
      ]
      | inr later ↦ elim q [
        | inl other ↦ absurd (f.apart later.0 s later.1 other)
        | inr after ↦ (n after.0).alike r s
            (subst (λ a. (next a).refuses r) (f.one later.0 after.0 later.1 after.1) later.2) after.2
      ]
    ]

pub in_turn_decided : {R A B : Type 0} (first : Work R A) (next : A → Work R B) → IsDecided first
    → ((a : A) → IsDecided (next a)) → IsDecided (first >>= next)
in_turn_decided {R} {A} {B} first next f n =
    record {
      one = λ x y p q. (n q.0).one x y (subst (λ a. (next a).gives x) (f.one p.0 q.0 p.1 q.1) p.2) q.2;
      apart = λ x r p q. elim q [
        | inl own ↦ f.apart p.0 r p.1 own
        | inr later ↦
            (n later.0).apart x r (subst (λ a. (next a).gives x) (f.one p.0 later.0 p.1 later.1) p.2) later.2
      ];
      alike = alike_in_turn first next f n;
    }

pub give_total : {R A : Type 0} (x : A) → IsTotal {R = R} {A = A} (give x)
give_total x none free = none x refl

pub in_turn_total : {R A B : Type 0} (first : Work R A) (next : A → Work R B) → IsTotal first
    → ((a : A) → first.gives a → IsTotal (next a)) → IsTotal (first >>= next)
in_turn_total first next f n none free = f (λ a given. n a given (λ b later. none b (a, given, later))
    (λ r later. free r (inr (a, given, later)))) (λ r own. free r (inl own))
