-- Bytes that a run passes without a second look.
use Rattle.std.proofs.Common.{◌≡◌, ℕ, zero, suc, ◌+◌, ◌≤◌, true, false, not, List, [], ◌∷◌, length, take}
use Rattle.std.proofs.Common.{drop, refl, ap, sym, ◌∙◌, arith}
use Rattle.std.specs.Prelude.{◌==◌, ◌&&◌, ◌||◌}
use Rattle.std.specs.List.{list_all}
use Rattle.std.proofs.lemmas.Bool.Decides.{nat_tests}
use Rattle.svf_reader.specs.declared.bytes.Class.{Class}
use Rattle.svf_reader.specs.declared.bytes.Class.TheVariants.{Gap, Word, Run, Command}
use Rattle.ij_text.specs.Bytes.{is_blank}
use Rattle.svf_reader.specs.Texts.{first, opens}
use Rattle.svf_reader.specs.Reading.{in_class, run_length}
use Rattle.svf_reader.specs.Passed.{is_passed, is_end, ends_gap}
use Rattle.svf_reader.proofs.Lexing.{run_on, run_stops}
use Rattle.std.proofs.lemmas.Bool.{and_parts}

-- ---- what opens no comment

no_mark : (b next : ℕ) → (b == 33) ≡ false → (b == 47) ≡ false → false ≡ opens b next
no_mark b next e f = sym (ap (λ k. k || (b == 47 && next == 47)) e ∙ ap (λ k. k && next == 47) f)

passed_opens : (class : Class) (b next : ℕ) → is_passed class b ≡ true → false ≡ opens b next
passed_opens Gap b next h = absurd (cc)
passed_opens Word b next h = no_mark b next (grind (arith, nat_tests)) (grind (arith, nat_tests))
passed_opens Run b next h = no_mark b next (grind (arith, nat_tests)) (grind (arith, nat_tests))
passed_opens Command b next h = no_mark b next (grind (arith, nat_tests)) (grind (arith, nat_tests))

passed_class : (class : Class) (b : ℕ) → is_passed class b ≡ true → in_class class false b ≡ true
passed_class Gap b h = absurd (cc)
passed_class Word b h = grind (arith, nat_tests)
passed_class Run b h = grind (arith, nat_tests)
passed_class Command b h = grind (arith, nat_tests)

-- ---- bytes that are passed

pub pass_one : (class : Class) (b : ℕ) (bs : List ℕ) → is_passed class b ≡ true
    → run_length class false (b ∷ bs) ≡ suc (run_length class false bs)
pass_one class b bs h =
    run_on class false false (b ∷ bs) bs b refl (passed_opens class b (first bs) h) (passed_class class b h)

pub pass_many : (class : Class) (k : ℕ) (text : List ℕ) → k ≤ length text
    → list_all (is_passed class) (take k text) ≡ true
    → run_length class false text ≡ k + run_length class false (drop k text)
pass_many class zero text within h =
    let same : run_length class false text ≡ 0 + run_length class false text = omega arith in
    same
pass_many class (suc k) [] within h = absurd (omega arith)
pass_many class (suc k) (b ∷ bs) within h =
    let both = and_parts (is_passed class b) (list_all (is_passed class) (take k bs)) h in
    let here = pass_one class b bs both.0 in
    let more = pass_many class k bs (omega arith) both.1 in
    let all : run_length class false (b ∷ bs)
    ≡ suc k + run_length class false (drop k bs) = omega (arith, here, more) in
    all

-- ---- bytes that end a run

end_opens : (class : Class) (b next : ℕ) → is_end class b ≡ true → false ≡ opens b next
end_opens Gap b next h = absurd (cc)
end_opens Word b next h = no_mark b next (grind (arith, nat_tests)) (grind (arith, nat_tests))
end_opens Run b next h = no_mark b next (grind (arith, nat_tests)) (grind (arith, nat_tests))
end_opens Command b next h = no_mark b next (grind (arith, nat_tests)) (grind (arith, nat_tests))

end_class : (class : Class) (b : ℕ) → is_end class b ≡ true → in_class class false b ≡ false
end_class Gap b h = absurd (cc)
end_class Word b h = ap not h
end_class Run b h = grind (arith, nat_tests)
end_class Command b h = ap not h

pub ends_here : (class : Class) (text : List ℕ) (b : ℕ) → b ≡ first text
    → is_end class b ≡ true → 0 ≡ run_length class false text
ends_here class [] b is h = refl
ends_here class (x ∷ xs) b is h =
    let at : is_end class x ≡ true = sym (ap (is_end class) is) ∙ h in
    sym (run_stops class false false (x ∷ xs) xs x refl
    (end_opens class x (first xs) at) (end_class class x at))

-- ---- short gaps

ends_opens : (b next : ℕ) → ends_gap b ≡ true → false ≡ opens b next
ends_opens b next h = no_mark b next (grind (arith, nat_tests)) (grind (arith, nat_tests))

ends_blank : (b : ℕ) → ends_gap b ≡ true → is_blank b ≡ false
ends_blank b h = grind (arith, nat_tests)

blank_opens : (b next : ℕ) → is_blank b ≡ true → false ≡ opens b next
blank_opens b next h = no_mark b next (grind (arith, nat_tests)) (grind (arith, nat_tests))

pub no_gap_here : (text : List ℕ) (b : ℕ) → b ≡ first text → ends_gap b ≡ true → 0 ≡ run_length Gap false text
no_gap_here [] b is h = refl
no_gap_here (x ∷ xs) b is h =
    let at : ends_gap x ≡ true = sym (ap ends_gap is) ∙ h in
    sym (run_stops Gap false false (x ∷ xs) xs x refl (ends_opens x (first xs) at) (ends_blank x at))

pub one_blank : (text : List ℕ) (b c : ℕ) → b ≡ first text → is_blank b ≡ true → c ≡ first (drop 1 text)
    → ends_gap c ≡ true → 1 ≡ run_length Gap false text
one_blank [] b c is h next ends = absurd (let e = ap is_blank (sym is) ∙ h in cc)
one_blank (x ∷ xs) b c is h next ends =
    let at : is_blank x ≡ true = sym (ap is_blank is) ∙ h in
    ap suc (no_gap_here xs c next ends)
    ∙ sym (run_on Gap false false (x ∷ xs) xs x refl (blank_opens x (first xs) at) at)

pub blank_there : (text : List ℕ) (b : ℕ) → b ≡ first text → is_blank b ≡ true → 1 ≤ length text
blank_there [] b is h = absurd (let e = ap is_blank (sym is) ∙ h in cc)
blank_there (x ∷ xs) b is h = omega arith
