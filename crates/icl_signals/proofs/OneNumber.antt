-- Numbers with open bits are one where their bits are, and each list of bits is that of one.
use Rattle.std.proofs.Common.{◌≡◌, refl, sym, ap, ◌∙◌, ℕ, suc, Bool, true, false, List, [], ◌∷◌, map}
use Rattle.std.proofs.Common.{length, arith}
use Rattle.std.specs.Prelude.{Option, Some, None, Result, Ok, Err, IfOk, slice_index_or}
use Rattle.std.specs.Option.{option_map}
use base.Stored.{Coded-set}
use Rattle.std.specs.Coded.{coded_bool}
use mathlib.Core.HLevel.{is_prop→PathP}
use native.Mathlib.Nat.{ℕ_set}
use Rattle.ij_bits.specs.Room.{Listed, full}
use Rattle.ij_bits.specs.declared.out_of_memory.OutOfMemory.{OutOfMemory}
use Rattle.ij_bits.specs.declared.tern.Tern.{Tern}
use Rattle.ij_text.specs.Numbers.{open_bits, tern_bits}
use Rattle.icl_declarations.specs.Values.{OpenBits}
use Rattle.icl_references.specs.Roles.{Word, seen_word}
use Rattle.icl_signals.specs.Connecting.{resets}
use Rattle.icl_signals.specs.OpenNumbers.{values_of, cares_of, tern_of, word_of}

-- what a number with open bits has beside its two lists
abbrev IsOpen : Listed Bool → Listed Bool → Type 0
IsOpen value care =
    (length value.items ≡ length care.items)
    × ((k : ℕ) → slice_index_or care.items k false ≡ false → slice_index_or value.items k false ≡ false)

open_is_prop : (value care : Listed Bool) (p q : IsOpen value care) → p ≡ q
open_is_prop value care p q =
    λ j. (ℕ_set _ _ p.0 q.0 j, λ k e. Coded-set coded_bool _ _ (p.1 k e) (q.1 k e) j)

one_tern : (t u : Tern) → t.value ≡ u.value → t.care ≡ u.care → t ≡ u
one_tern t u v c =
    let p : IsOpen t.value t.care = (t.same_length, t.open_is_zero) in
    let q : IsOpen u.value u.care = (u.same_length, u.open_is_zero) in
    let all = is_prop→PathP (λ i. IsOpen (v i) (c i)) (λ i. open_is_prop (v i) (c i)) p q in
    λ i. record { value = v i; care = c i; same_length = (all i).0; open_is_zero = (all i).1 }

values_tell : (v c : List Bool) → length v ≡ length c
    → ((k : ℕ) → slice_index_or c k false ≡ false → slice_index_or v k false ≡ false)
    → values_of (open_bits v c) ≡ v
values_tell [] [] long zeros = refl
values_tell [] (c ∷ cs) long zeros = absurd (omega (arith, long))
values_tell (v ∷ vs) [] long zeros = absurd (omega (arith, long))
values_tell (v ∷ vs) (true ∷ cs) long zeros =
    ap (λ l. v ∷ l) (values_tell vs cs (omega (arith, long)) (λ k h. zeros (suc k) h))
values_tell (v ∷ vs) (false ∷ cs) long zeros =
    ap (λ b. b ∷ values_of (open_bits vs cs)) (sym (zeros 0 refl))
    ∙ ap (λ l. v ∷ l) (values_tell vs cs (omega (arith, long)) (λ k h. zeros (suc k) h))

cares_tell : (v c : List Bool) → length v ≡ length c → cares_of (open_bits v c) ≡ c
cares_tell [] [] long = refl
cares_tell [] (c ∷ cs) long = absurd (omega (arith, long))
cares_tell (v ∷ vs) [] long = absurd (omega (arith, long))
cares_tell (v ∷ vs) (true ∷ cs) long = ap (λ l. true ∷ l) (cares_tell vs cs (omega (arith, long)))
cares_tell (v ∷ vs) (false ∷ cs) long = ap (λ l. false ∷ l) (cares_tell vs cs (omega (arith, long)))

pub tern_back : (t : Tern) → tern_of (tern_bits t) ≡ t
tern_back t =
    one_tern (tern_of (tern_bits t)) t
    (λ i. full (values_tell t.value.items t.care.items t.same_length t.open_is_zero i))
    (λ i. full (cares_tell t.value.items t.care.items t.same_length i))

pub bits_back : (bits : OpenBits) → tern_bits (tern_of bits) ≡ bits
bits_back [] = refl
bits_back (None ∷ bits) = ap (λ l. None ∷ l) (bits_back bits)
bits_back (Some bit ∷ bits) = ap (λ l. Some bit ∷ l) (bits_back bits)

-- items that are had back one by one are had back as a list
pub all_back : {A B : Type 0} (there : A → B) (back : B → A) → ((a : A) → back (there a) ≡ a)
    → (items : List A) → map back (map there items) ≡ items
all_back there back same [] = refl
all_back there back same (a ∷ items) = λ i. same a i ∷ all_back there back same items i

-- ---- numbers, and words of an enumeration

pub tern_is : (t : Tern) (bits : OpenBits) → tern_bits t ≡ bits → t ≡ tern_of bits
tern_is t bits e = sym (tern_back t) ∙ ap tern_of e

pub terns_back : (ts : List Tern) → map tern_of (map tern_bits ts) ≡ ts
terns_back ts = all_back tern_bits tern_of tern_back ts

pub terns_had : (values : List OpenBits) → map tern_bits (map tern_of values) ≡ values
terns_had values = all_back tern_of tern_bits bits_back values

word_back : (w : Listed ℕ × Tern) → word_of (seen_word w) ≡ w
word_back w = λ i. (w.0, tern_back w.1 i)

word_seen : (w : Word) → seen_word (word_of w) ≡ w
word_seen w = λ i. record { name = w.name; value = bits_back w.value i }

pub words_back : (ws : List (Listed ℕ × Tern)) → map word_of (map seen_word ws) ≡ ws
words_back ws = all_back seen_word word_of word_back ws

pub words_had : (words : List Word) → map seen_word (map word_of words) ≡ words
words_had words = all_back word_of seen_word word_seen words

-- the reset values of a register are those of the number that was copied
pub resets_copied : (r : Result Tern OutOfMemory) (width : ℕ) (reset : Option Tern) (bits : Tern)
    → reset ≡ Some bits → IfOk r (λ t. t ≡ bits)
    → IfOk r (λ t. t ≡ tern_of (resets width (option_map tern_bits reset)))
resets_copied (Ok t) width reset bits is copied =
    copied ∙ sym (tern_back bits)
    ∙ ap (λ (o : Option Tern). tern_of (resets width (option_map tern_bits o))) (sym is)
resets_copied (Err e) width reset bits is copied = tt

-- ---- paths

pub path_back : (path : List (Listed ℕ)) → map full (map (λ name. name.items) path) ≡ path
path_back path = all_back {A = Listed ℕ} {B = List ℕ} (λ name. name.items) full (λ name. refl) path

pub path_had : (path : List (List ℕ)) → map (λ name. name.items) (map full path) ≡ path
path_had path = all_back {A = List ℕ} {B = Listed ℕ} full (λ name. name.items) (λ name. refl) path
