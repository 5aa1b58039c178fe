-- The declarations of a wave are lines that begin with $ (36), which a reader of changes passes over.
use Rattle.std.proofs.Common.{◌≡◌, ◌≢◌, ℕ, zero, suc, ◌+◌, ◌/◌, ◌%◌, ◌<◌, Bool, true, false, cond, Option}
use Rattle.std.proofs.Common.{Some, None, List, [], ◌∷◌, ◌++◌, refl, ap, sym, ◌∙◌, subst, arith, append_assoc}
use Rattle.std.specs.Prelude.{◌==◌, nat_lt, All, codes, decimal}
use Rattle.std.specs.Fmt.{digit_glyph, digits, digits_onto}
use Rattle.std.proofs.lemmas.Bool.Decides.{nat_tests}
use Rattle.instruments.specs.Seen.{SeenModel}
use Rattle.net_graph.specs.declared.device.Device.{Device}
use Rattle.net_graph.specs.declared.net.Net.{Net}
use Rattle.net_wave.specs.declared.shapes.Range.{Range}
use Rattle.net_wave.specs.declared.var.Item.{Item}
use Rattle.net_wave.specs.declared.var.Item.TheVariants.{Open, Declare, Close}
use Rattle.net_wave.specs.Codes.{code}
use Rattle.net_wave.specs.Header.{front_text, header, is_pin, item_text, items_text, next_number, range_text}
use Rattle.net_wave.specs.Header.{scope_name, scope_text, shape, start_text, var_name}
use Rattle.net_wave.specs.Names.{NamedWithout, Without}
use Rattle.net_wave.specs.Reader.{events, told_at}
use Rattle.net_wave.proofs.Reading.{Lacks, above, code_lacks, lacks_both, line_read}

-- ---- bytes that aren't there

abbrev pub has_no : ℕ → List ℕ → Bool
has_no b [] = true
has_no b (x ∷ xs) = cond (x == b) false (has_no b xs)

pub lacks_by : (b : ℕ) (l : List ℕ) → has_no b l ≡ true → Lacks b l
lacks_by b [] h = tt
lacks_by b (x ∷ xs) h = by (x == b) refl h (lacks_by b xs)
  where
    by : (t : Bool) → (x == b) ≡ t → cond t false (has_no b xs) ≡ true
        → (has_no b xs ≡ true → Lacks b xs) → ((x == b) ≡ false) × Lacks b xs
    by true e g more = absurd (cc)
    by false e g more = (e, more g)

is_other : (x b : ℕ) → x ≢ b → (x == b) ≡ false
is_other x b h = grind (arith, nat_tests)

pub lacks_name : (b : ℕ) (name : List ℕ) → Without b name → Lacks b name
lacks_name b [] h = tt
lacks_name b (x ∷ xs) h =
    (is_other x b (h 0 0 (omega arith)), lacks_name b xs (λ k d l. h (suc k) d (omega (arith, l))))

glyph_other : (b : ℕ) → b < 33 → (d : ℕ) → (digit_glyph false d == b) ≡ false
glyph_other b h d = by (nat_lt d 10)
  where
    by : (t : Bool) → (cond t (48 + d) (87 + d) == b) ≡ false
    by true = above b (48 + d) (omega (arith, h))
    by false = above b (87 + d) (omega (arith, h))

onto_lacks : (b : ℕ) → b < 33 → (k n : ℕ) (acc : List ℕ) → Lacks b acc
    → Lacks b (digits_onto k 10 false n acc)
onto_lacks b h zero n acc g = g
onto_lacks b h (suc k) n acc g = by (n / 10 == 0)
    (onto_lacks b h k (n / 10) (digit_glyph false (n % 10) ∷ acc) (glyph_other b h (n % 10), g))
  where
    by : (t : Bool) → Lacks b (digits_onto k 10 false (n / 10) (digit_glyph false (n % 10) ∷ acc))
        → Lacks b (cond t (digit_glyph false (n % 10) ∷ acc)
        (digits_onto k 10 false (n / 10) (digit_glyph false (n % 10) ∷ acc)))
    by true f = (glyph_other b h (n % 10), g)
    by false f = f

pub decimal_lacks : (b : ℕ) → b < 33 → (n : ℕ) → Lacks b (decimal n)
unfolding digits
decimal_lacks b h n = onto_lacks b h 64 n [] tt

-- ---- lines

-- a line feed ends a text, and is nowhere else in it
record Ends (text : List ℕ) : Type 0 where
  line : List ℕ
  is : text ≡ line ++ 10 ∷ []
  lacks : Lacks 10 line

ends_after : (l text : List ℕ) → Lacks 10 l → Ends text → Ends (l ++ text)
ends_after l text h e =
    record {
      line = l ++ e.line;
      is = ap (λ t. l ++ t) e.is ∙ sym (append_assoc l e.line (10 ∷ []));
      lacks = lacks_both 10 l e.line h e.lacks;
    }

end_ends : Ends (codes " $end\n")
end_ends = record { line = codes " $end"; is = refl; lacks = lacks_by 10 (codes " $end") refl }

-- ---- what is passed over

-- a reader finds nothing in a text
abbrev pub Passed : List ℕ → Type 0
Passed l = (xs : List ℕ) (time : ℕ) (of last : List ℕ)
    → told_at time of last (events (l ++ xs)) ≡ told_at time of last (events xs)

passed_both : (l m : List ℕ) → Passed l → Passed m → Passed (l ++ m)
passed_both l m h g xs time of last =
    ap (λ (t : List ℕ). told_at time of last (events t)) (append_assoc l m xs)
    ∙ h (m ++ xs) time of last ∙ g xs time of last

line_passed : (l : List ℕ) → Lacks 10 l → Passed (36 ∷ (l ++ 10 ∷ []))
line_passed l h xs time of last =
    ap (λ (t : List ℕ). told_at time of last (events (36 ∷ t))) (append_assoc l (10 ∷ []) xs)
    ∙ ap (told_at time of last) (line_read (36 ∷ l) xs (refl, h))

passed : (text : List ℕ) → Ends text → Passed (36 ∷ text)
passed text e = subst Passed (ap (λ t. 36 ∷ t) (sym e.is)) (line_passed e.line e.lacks)

-- ---- declarations

scope_passed : (name : List ℕ) → Lacks 10 name → Passed (scope_text name)
scope_passed name h =
    passed (codes "scope module " ++ (name ++ codes " $end\n"))
    (ends_after (codes "scope module ") (name ++ codes " $end\n")
    (lacks_by 10 (codes "scope module ") refl) (ends_after name (codes " $end\n") h end_ends))

range_lacks : (r : Option Range) → Lacks 10 (range_text r)
range_lacks None = tt
range_lacks (Some r) =
    lacks_both 10 (codes " [") (decimal r.left ++ (codes ":" ++ (decimal r.right ++ codes "]")))
    (lacks_by 10 (codes " [") refl)
    (lacks_both 10 (decimal r.left) (codes ":" ++ (decimal r.right ++ codes "]"))
    (decimal_lacks 10 (omega arith) r.left)
    (lacks_both 10 (codes ":") (decimal r.right ++ codes "]") (lacks_by 10 (codes ":") refl)
    (lacks_both 10 (decimal r.right) (codes "]")
    (decimal_lacks 10 (omega arith) r.right) (lacks_by 10 (codes "]") refl))))

module _ (width n : ℕ) (name : List ℕ) (r : Option Range) (h : Lacks 10 name) where
  abbrev rest : List ℕ
  rest = code n ++ (codes " " ++ (name ++ (range_text r ++ codes " $end\n")))

  rest_ends : Ends rest
  rest_ends =
      ends_after (code n) (codes " " ++ (name ++ (range_text r ++ codes " $end\n")))
      (code_lacks 10 (omega arith) 10 n)
      (ends_after (codes " ") (name ++ (range_text r ++ codes " $end\n")) (lacks_by 10 (codes " ") refl)
      (ends_after name (range_text r ++ codes " $end\n") h
      (ends_after (range_text r) (codes " $end\n") (range_lacks r) end_ends)))

  with_word : (word : List ℕ) → Lacks 10 word → Ends ((word ++ (decimal width ++ codes " ")) ++ rest)
  with_word word g =
      ends_after (word ++ (decimal width ++ codes " ")) rest
      (lacks_both 10 word (decimal width ++ codes " ") g (lacks_both 10 (decimal width) (codes " ")
      (decimal_lacks 10 (omega arith) width) (lacks_by 10 (codes " ") refl)))
      rest_ends

  declared_passed : (pin : Bool) → Passed (front_text pin width ++ rest)
  declared_passed true = passed ((codes "var wire " ++ (decimal width ++ codes " ")) ++ rest)
      (with_word (codes "var wire ") (lacks_by 10 (codes "var wire ") refl))
  declared_passed false = passed ((codes "var reg " ++ (decimal width ++ codes " ")) ++ rest)
      (with_word (codes "var reg ") (lacks_by 10 (codes "var reg ") refl))

fixed_passed : (l : List ℕ) → has_no 10 l ≡ true → Passed (36 ∷ (l ++ 10 ∷ []))
fixed_passed l h = line_passed l (lacks_by 10 l h)

module _ (net : Net) (device : Device) (models : List SeenModel) where
  item_passed : (n : ℕ) (i : Item) → NamedWithout 10 net models i → Passed (item_text net device models n i)
  item_passed n (Open s) h = scope_passed (scope_name net s) (lacks_name 10 (scope_name net s) h)
  item_passed n (Declare v) h =
      declared_passed (shape net device models v).width n (var_name net models v)
      (shape net device models v).range (lacks_name 10 (var_name net models v) h) (is_pin v)
  item_passed n Close h = fixed_passed (codes "upscope $end") refl

  items_passed : (n : ℕ) (is : List Item) → All (NamedWithout 10 net models) is
      → Passed (items_text net device models n is)
  items_passed n [] h = λ xs time of last. refl
  items_passed n (i ∷ is) h =
      passed_both (item_text net device models n i) (items_text net device models (next_number n i) is)
      (item_passed n i (h 0 Close (omega arith)))
      (items_passed (next_number n i) is (λ k d l. h (suc k) d (omega (arith, l))))

  pub header_passed : (top : List ℕ) (is : List Item) → Without 10 top → All (NamedWithout 10 net models) is
      → Passed (header net device models top is)
  header_passed top is h g =
      passed_both (start_text top) (items_text net device models 1 is ++ codes "$enddefinitions $end\n")
      (passed_both (codes "$timescale 1 ns $end\n") (scope_text top ++ codes "$var wire 1 ! TCK $end\n")
      (fixed_passed (codes "timescale 1 ns $end") refl)
      (passed_both (scope_text top) (codes "$var wire 1 ! TCK $end\n")
      (scope_passed top (lacks_name 10 top h)) (fixed_passed (codes "var wire 1 ! TCK $end") refl)))
      (passed_both (items_text net device models 1 is) (codes "$enddefinitions $end\n") (items_passed 1 is g)
      (fixed_passed (codes "enddefinitions $end") refl))
