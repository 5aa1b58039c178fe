-- What the network numbers (IEEE 1687-2014, ICL: ScanRegister, ScanMux, data ports, Alias), and how many
-- stand before.
use Rattle.std.specs.Prelude.{ℕ, ◌+◌, Bool, false, cond, is_some, List, [], ◌∷◌, get_or}
use Rattle.icl_elab.specs.WellFormed.{is_register, is_mux, is_thing, is_data_out, is_data_in}
use Rattle.icl_references.specs.Roles.{Role, ScanInput, ScanOutput, DataInput, DataOutput, PartOf, CellOf}
use Rattle.icl_signals.specs.declared.parts.Kind.{Kind}
use Rattle.icl_signals.specs.declared.parts.Kind.TheVariants.{Register, Mux, Thing, Output, Input}

-- the parts of a kind
abbrev pub test_of : Kind → Role → Bool
test_of Register = is_register
test_of Mux = is_mux
test_of Thing = is_thing
test_of Output = is_data_out
test_of Input = is_data_in

abbrev pub is_of : Kind → PartOf → Bool
is_of kind p = test_of kind p.role

-- the ports that are bound, or have a source
abbrev pub is_wired : Role → Bool
is_wired (ScanInput bound) = is_some bound
is_wired (ScanOutput source) = is_some source
is_wired (DataInput bound) = is_some bound
is_wired (DataOutput source) = is_some source
is_wired role = false

abbrev pub one_if : Bool → ℕ
one_if b = cond b 1 0

-- for each item, how many that pass a test stand before it, after a number of earlier ones
abbrev pub before : {A : Type 0} → (A → Bool) → ℕ → List A → List ℕ
before test n [] = []
before test n (x ∷ xs) = n ∷ before test (n + one_if (test x)) xs

-- how many there are with these
abbrev pub with_all : {A : Type 0} → (A → Bool) → ℕ → List A → ℕ
with_all test n [] = n
with_all test n (x ∷ xs) = with_all test (n + one_if (test x)) xs

-- for each part of each cell, how many of a kind stand before it in the whole hierarchy
abbrev pub numbers_from : Kind → ℕ → List CellOf → List (List ℕ)
numbers_from kind n [] = []
numbers_from kind n (c ∷ cs) = before (is_of kind) n c.parts
    ∷ numbers_from kind (with_all (is_of kind) n c.parts) cs

-- the number at a part, 0 for one that isn't there
abbrev pub number_at : List (List ℕ) → ℕ → ℕ → ℕ
number_at table cell part = get_or (get_or table cell []) part 0
