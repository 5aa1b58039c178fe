-- Work that is done in order: each part gives a value to the next one, or refuses, and then nothing more is
-- done.
use Rattle.std.specs.Prelude.{◌≡◌, ◌⊎◌, Option, Some, Result, Ok, Err}

-- what a part may give, and what it may refuse for
pub record Work (R A : Type 0) : Type 1 where
  pub gives : A → Type 0
  pub refuses : R → Type 0

-- nothing to do: the value is there
abbrev pub give : {R A : Type 0} → A → Work R A
give x = record { gives = λ a. a ≡ x; refuses = λ r. ⊥ }

-- what never comes
abbrev pub never : {R A : Type 0} → Work R A
never = record { gives = λ a. ⊥; refuses = λ r. ⊥ }

-- what is always refused
abbrev pub refuse : {R A : Type 0} → R → Work R A
refuse refusal = record { gives = λ a. ⊥; refuses = λ r. r ≡ refusal }

-- what a function answers: its value, or what its fault is reported as; want of memory isn't reported
abbrev pub reported : {R A E : Type 0} → Result A E → (E → Option R) → Work R A
reported {R} {A} {E} answer report = record {
  gives = λ a. answer ≡ Ok a;
  refuses = λ r. (fault : E) × (answer ≡ Err fault) × (report fault ≡ Some r);
}

-- ---- one part after another

abbrev pub GivesInTurn : {R A B : Type 0} → Work R A → (A → Work R B) → B → Type 0
GivesInTurn {R} {A} first next b = (a : A) × first.gives a × (next a).gives b

abbrev pub RefusesInTurn : {R A B : Type 0} → Work R A → (A → Work R B) → R → Type 0
RefusesInTurn {R} {A} first next r = first.refuses r ⊎ ((a : A) × first.gives a × (next a).refuses r)

infixl 10 ◌>>=◌
abbrev pub ◌>>=◌ : {R A B : Type 0} → Work R A → (A → Work R B) → Work R B
first >>= next = record { gives = GivesInTurn first next; refuses = RefusesInTurn first next }

-- ---- what is given is one value, and then nothing is refused; and a refusal is one

pub record IsDecided {R A : Type 0} (work : Work R A) : Type 0 where
  pub one : (a b : A) → work.gives a → work.gives b → a ≡ b
  pub apart : (a : A) (r : R) → work.gives a → work.refuses r → ⊥
  pub alike : (r s : R) → work.refuses r → work.refuses s → r ≡ s

-- ---- a part comes to an end: it can't be that it gives nothing and refuses nothing

abbrev pub IsTotal : {R A : Type 0} → Work R A → Type 0
IsTotal {R} {A} work = ((a : A) → work.gives a → ⊥) → ((r : R) → work.refuses r → ⊥) → ⊥
