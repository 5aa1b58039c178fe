-- Values that are found one after the other, and the first fault in place of them.
use Rattle.std.proofs.Common.{◌≡◌, List, [], ◌∷◌, ◌++◌, Option, Some, None, refl, sym, ap, ◌∙◌, append_assoc}
use Rattle.std.specs.Option.{IfSome}
use Rattle.pdl_targets.specs.declared.fault.TargetFault.{TargetFault}
use Rattle.pdl_targets.specs.Seen.{Refuses, fault_of}
use Rattle.pdl_targets.specs.Targets.{AFault, Found, Is, Fails, found_then, and_more, or_skip}

-- a refusal at first is one of the whole
refused_if : {A B : Type 0} (f : Found A → Found B)
    → ((fault : AFault) → f (Fails fault) ≡ Fails fault) → (x : Found A) (o : Option AFault)
    → IfSome o (λ fault. x ≡ Fails fault) → IfSome o (λ fault. f x ≡ Fails fault)
refused_if f goes x None h = tt
refused_if f goes x (Some fault) h = ap f h ∙ goes fault

pub refused_by : {A B : Type 0} (f : Found A → Found B) → ((fault : AFault) → f (Fails fault) ≡ Fails fault)
    → (x : Found A) (e : TargetFault) → Refuses x e → Refuses (f x) e
refused_by f goes x e h = record { says = refused_if f goes x (fault_of e) h.says }

pub refused_as : {A : Type 0} (x y : Found A) (e : TargetFault) → x ≡ y → Refuses y e → Refuses x e
refused_as {A = A} x y e s h = record { says = as_well (fault_of e) h.says }
  where
    as_well : (o : Option AFault) → IfSome o (λ fault. y ≡ Fails fault) → IfSome o (λ fault. x ≡ Fails fault)
    as_well None h = tt
    as_well (Some fault) h = s ∙ h

-- some values before those that are found
abbrev pub after : {A : Type 0} → List A → Found (List A) → Found (List A)
after xs (Is ys) = Is (xs ++ ys)
after xs (Fails fault) = Fails fault

pub after_none : {A : Type 0} (x : Found (List A)) → after [] x ≡ x
after_none (Is ys) = refl
after_none (Fails fault) = refl

-- one value more, found after some
pub after_more : {A : Type 0} (xs : List A) (x : Found A) (a : A) (more : Found (List A)) → x ≡ Is a
    → after xs (or_skip (Some x) more) ≡ after (xs ++ a ∷ []) more
after_more {A = A} xs x a more e = ap (λ y. after xs (and_more y more)) e ∙ by_more more
  where
    by_more : (more : Found (List A)) → after xs (and_more (Is a) more) ≡ after (xs ++ a ∷ []) more
    by_more (Is ys) = ap Is (sym (append_assoc xs (a ∷ []) ys))
    by_more (Fails fault) = refl

-- and one that is refused
pub refused_more : {A : Type 0} (xs : List A) (x : Found A) (more : Found (List A)) (e : TargetFault)
    → Refuses x e → Refuses (after xs (or_skip (Some x) more)) e
refused_more xs x more e h = refused_by (λ y. after xs (and_more y more)) (λ fault. refl) x e h
