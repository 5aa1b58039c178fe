-- Going over a list, one item more, where the outcomes are values.
use Rattle.std.proofs.Common.{◌≡◌, ◌<◌, ◌+◌, ℕ, List, [], ◌∷◌, ◌++◌, length, map, get_or, drop, Option, Some}
use Rattle.std.proofs.Common.{None, Result, Ok, Err, refl, sym, ap, subst, ◌∙◌}
use Rattle.std.specs.Prelude.{IfOk, IfErr}
use Rattle.icl_declarations.specs.declared.fault.ElabFault.{ElabFault}
use Rattle.icl_declarations.specs.declared.fault.ElabFault.TheVariants as fault
use Rattle.icl_declarations.specs.Faults.{◌>>=◌, Answer, Fault, Fails, Gives, seen_fault}
use Rattle.icl_declarations.proofs.Each.{more, more_next, more_fails, fails_along}
use Rattle.ij_bits.proofs.Lists.{split_at}

module _ {X A B : Type 0} (see : X → A) (f : A → Result B Fault) where
  -- one item more was given
  pub plain_goes : (xs : List X) (i : ℕ) (x : X) (outs more_outs : List B) (y : B) → i < length xs
      → x ≡ get_or xs i x → f (see x) ≡ Ok y → more_outs ≡ outs ++ y ∷ []
      → more f more_outs (map see (drop (i + 1) xs)) ≡ more f outs (map see (drop i xs))
  plain_goes xs i x outs more_outs y lt e h g =
      ap (λ l. more f l (map see (drop (i + 1) xs))) g
      ∙ more_next f outs (see x) (map see (drop (i + 1) xs)) y h
      ∙ sym (ap (λ (l : List X). more f outs (map see l)) (split_at xs i x lt e))

  -- one item failed
  pub plain_fails : (xs : List X) (i : ℕ) (x : X) (outs : List B) (e : Option Fault)
      (whole : Result (List B) Fault) → i < length xs → x ≡ get_or xs i x → Fails e (f (see x))
      → more f outs (map see (drop i xs)) ≡ whole → Fails e whole
  plain_fails xs i x outs e whole lt h k g =
      fails_along e (more f outs (map see (x ∷ drop (i + 1) xs))) whole
      (sym (ap (λ (l : List X). more f outs (map see l)) (split_at xs i x lt h)) ∙ g)
      (more_fails f outs (see x) (map see (drop (i + 1) xs)) e k)

-- ---- one step after another

-- what gave a value didn't fail
pub no_fault : {X Y : Type 0} (o : Option Fault) (x : X) (answer : Answer Y) → Fails o (Ok x) → Fails o answer
no_fault None x answer h = tt
no_fault (Some e) x answer h = absurd cc

-- the first step fails, and so the whole does
pub step_fails : {A B : Type 0} (o : Option Fault) (r : Answer A) (next : A → Answer B)
    → Fails o r → Fails o (r >>= next)
step_fails None r next h = tt
step_fails (Some e) r next h = ap (λ z. z >>= next) h

-- the first step goes
pub step_goes : {A B : Type 0} (r : Answer A) (x : A) (next : A → Answer B) → r ≡ Ok x → (r >>= next) ≡ next x
step_goes r x next h = ap (λ z. z >>= next) h

-- a step after each of two steps
pub after : {A B C : Type 0} (r : Answer A) (f : A → Answer B) (g : A → Answer C) (k : B → Answer C)
    → ((x : A) → g x ≡ (f x >>= k)) → (r >>= g) ≡ ((r >>= f) >>= k)
after (Ok x) f g k h = h x
after (Err e) f g k h = refl

-- a value, or want of memory
pub gives_if : {X Y : Type 0} (view : X → Y) (r : Result X ElabFault) (answer : Answer Y) (y : Y)
    → answer ≡ Ok y → IfOk r (λ x. view x ≡ y) → IfErr r (λ e. e ≡ fault.OutOfMemory) → Gives view r answer
gives_if view (Ok x) answer y h g t = h ∙ ap (λ z. Ok z) (sym g)
gives_if view (Err e) answer y h g t =
    let P : ElabFault → Type 0 = λ z. Fails (seen_fault z) answer in subst P (sym t) tt
