-- What a reader of declarations finds.
use Rattle.std.proofs.Common.{◌≡◌, ℕ, suc, ◌^◌, ◌<◌, Bool, true, false, cond, Option, Some, None, List, []}
use Rattle.std.proofs.Common.{◌∷◌, ◌++◌, refl, ap, sym, ◌∙◌, arith, append_assoc}
use Rattle.std.specs.Prelude.{All, codes, decimal}
use Rattle.instruments.specs.Seen.{SeenModel}
use Rattle.net_graph.specs.declared.device.Device.{Device}
use Rattle.net_graph.specs.declared.net.Net.{Net}
use Rattle.net_wave.specs.declared.shapes.Range.{Range}
use Rattle.net_wave.specs.declared.var.Item.{Item}
use Rattle.net_wave.specs.declared.var.Item.TheVariants.{Open, Declare, Close}
use Rattle.net_wave.specs.declared.var.Var.{Var}
use Rattle.net_wave.specs.declared.var.Var.TheVariants.{Tms}
use Rattle.net_wave.specs.Codes.{code}
use Rattle.net_wave.specs.Header.{front_text, header, is_pin, item_text, items_text, next_number, range_text}
use Rattle.net_wave.specs.Header.{scope_name, scope_text, shape, start_text, var_name, var_text}
use Rattle.net_wave.specs.Laws.{DeclarationsAreRead, declared_from}
use Rattle.net_wave.specs.Moments.{moments_text}
use Rattle.net_wave.specs.Names.{NamedWithout}
use Rattle.net_wave.specs.Reader.{Declared, declared_in, declared_to_end, ends_in, read_declared, words}
use Rattle.net_wave.specs.Vars.{items, vars_of}
use Rattle.net_wave.specs.Wave.{moments, wave_text}
use Rattle.net_wave.proofs.Headed.{decimal_lacks, lacks_by, lacks_name}
use Rattle.net_wave.proofs.Reading.{Lacks, code_lacks, lacks_both, numeral, split_front}

-- ---- lines and their words

pub record Line (text : List ℕ) (found : List (List ℕ)) : Type 0 where
  pub line : List ℕ
  pub is : text ≡ line ++ 10 ∷ []
  pub lacks : Lacks 10 line
  pub has : words line ≡ found

abbrev pub IsWord : List ℕ → Type 0
IsWord w = Lacks 10 w × Lacks 32 w

word_more : (w text : List ℕ) (found : List (List ℕ)) → IsWord w
    → Line text found → Line (w ++ 32 ∷ text) (w ∷ found)
word_more w text found h e =
    record {
      line = w ++ 32 ∷ e.line;
      is = ap (λ t. w ++ 32 ∷ t) e.is ∙ sym (append_assoc w (32 ∷ e.line) (10 ∷ []));
      lacks = lacks_both 10 w (32 ∷ e.line) h.0 (refl, e.lacks);
      has = split_front 32 w e.line h.1 ∙ ap (λ l. w ∷ l) e.has;
    }

other_text : (text again : List ℕ) (found : List (List ℕ)) → again ≡ text → Line text found → Line again found
other_text text again found same e = record { line = e.line; is = same ∙ e.is; lacks = e.lacks; has = e.has }

end_line : Line (codes "$end\n") (codes "$end" ∷ [])
end_line = record { line = codes "$end"; is = refl; lacks = lacks_by 10 (codes "$end") refl; has = refl }

line_read : (text : List ℕ) (found : List (List ℕ)) (xs : List ℕ) → Line text found
    → read_declared (text ++ xs) ≡ cond (ends_in found) [] (declared_in found ++ read_declared xs)
line_read text found xs e =
    ap (λ (t : List ℕ). read_declared (t ++ xs)) e.is
    ∙ ap read_declared (append_assoc e.line (10 ∷ []) xs)
    ∙ ap declared_to_end (split_front 10 e.line xs e.lacks)
    ∙ ap (λ (l : List (List ℕ)). cond (ends_in l) [] (declared_in l ++ read_declared xs)) e.has

-- ---- what texts declare

abbrev Gives : List ℕ → List Declared → Type 0
Gives text found = (xs : List ℕ) → read_declared (text ++ xs) ≡ found ++ read_declared xs

gives_both : (l m : List ℕ) (f g : List Declared) → Gives l f → Gives m g → Gives (l ++ m) (f ++ g)
gives_both l m f g h k xs =
    ap read_declared (append_assoc l m xs) ∙ h (m ++ xs) ∙ ap (λ d. f ++ d) (k xs)
    ∙ sym (append_assoc f g (read_declared xs))

pub scope_line : (name : List ℕ) → IsWord name
    → Line (scope_text name) (codes "$scope" ∷ codes "module" ∷ name ∷ codes "$end" ∷ [])
scope_line name h =
    word_more (codes "$scope") (codes "module " ++ (name ++ codes " $end\n")) (codes "module" ∷ name
    ∷ codes "$end" ∷ []) (lacks_by 10 (codes "$scope") refl, lacks_by 32 (codes "$scope") refl)
    (word_more (codes "module") (name ++ codes " $end\n") (name ∷ codes "$end" ∷ [])
    (lacks_by 10 (codes "module") refl, lacks_by 32 (codes "module") refl)
    (word_more name (codes "$end\n") (codes "$end" ∷ []) h end_line))

scope_gives : (name : List ℕ) → IsWord name → Gives (scope_text name) []
scope_gives name h xs = line_read (scope_text name)
    (codes "$scope" ∷ codes "module" ∷ name ∷ codes "$end" ∷ []) xs (scope_line name h)

-- a range, if there is one, and the end
abbrev pub range_word : Range → List ℕ
range_word r = codes "[" ++ (decimal r.left ++ (codes ":" ++ (decimal r.right ++ codes "]")))

abbrev tail : Option Range → List ℕ
tail None = codes "$end\n"
tail (Some r) = range_word r ++ codes " $end\n"

abbrev pub tail_words : Option Range → List (List ℕ)
tail_words None = codes "$end" ∷ []
tail_words (Some r) = range_word r ∷ codes "$end" ∷ []

range_lacks : (b : ℕ) → b < 33 → Lacks b (codes "[") → Lacks b (codes ":")
    → Lacks b (codes "]") → (r : Range) → Lacks b (range_word r)
range_lacks b h open_is colon_is close_is r =
    lacks_both b (codes "[") (decimal r.left ++ (codes ":" ++ (decimal r.right ++ codes "]"))) open_is
    (lacks_both b (decimal r.left) (codes ":" ++ (decimal r.right ++ codes "]")) (decimal_lacks b h r.left)
    (lacks_both b (codes ":") (decimal r.right ++ codes "]") colon_is
    (lacks_both b (decimal r.right) (codes "]") (decimal_lacks b h r.right) close_is)))

tail_line : (r : Option Range) → Line (tail r) (tail_words r)
tail_line None = end_line
tail_line (Some r) =
    word_more (range_word r) (codes "$end\n") (codes "$end" ∷ []) (
      range_lacks 10 (omega arith) (refl, tt) (refl, tt) (refl, tt) r,
      range_lacks 32 (omega arith) (refl, tt) (refl, tt) (refl, tt) r,
    )
    end_line

tail_is : (r : Option Range) → range_text r ++ codes " $end\n" ≡ 32 ∷ tail r
tail_is None = refl
tail_is (Some r) = refl

module _ (width n : ℕ) (name : List ℕ) (r : Option Range) (h : IsWord name) where
  abbrev pub rest : List ℕ
  rest = code n ++ (codes " " ++ (name ++ (range_text r ++ codes " $end\n")))

  abbrev pub rest_words : List (List ℕ)
  rest_words = code n ∷ name ∷ tail_words r

  rest_line : Line rest rest_words
  rest_line =
      other_text (code n ++ 32 ∷ (name ++ 32 ∷ tail r)) rest rest_words
      (ap (λ t. code n ++ 32 ∷ (name ++ t)) (tail_is r))
      (word_more (code n) (name ++ 32 ∷ tail r) (name ∷ tail_words r)
      (code_lacks 10 (omega arith) 10 n, code_lacks 32 (omega arith) 10 n)
      (word_more name (tail r) (tail_words r) h (tail_line r)))

  sort_line : (sort : List ℕ) → IsWord sort
      → Line (codes "$var " ++ (sort ++ 32 ∷ (decimal width ++ 32 ∷ rest)))
      (codes "$var" ∷ sort ∷ decimal width ∷ rest_words)
  sort_line sort g =
      word_more (codes "$var") (sort ++ 32 ∷ (decimal width ++ 32 ∷ rest)) (sort ∷ decimal width ∷ rest_words)
      (lacks_by 10 (codes "$var") refl, lacks_by 32 (codes "$var") refl)
      (word_more sort (decimal width ++ 32 ∷ rest) (decimal width ∷ rest_words) g
      (word_more (decimal width) rest rest_words
      (decimal_lacks 10 (omega arith) width, decimal_lacks 32 (omega arith) width) rest_line))

  abbrev pub sort_of : Bool → List ℕ
  sort_of pin = cond pin (codes "wire") (codes "reg")

  pub declared_line : (pin : Bool)
      → Line (front_text pin width ++ rest) (codes "$var" ∷ sort_of pin ∷ decimal width ∷ rest_words)
  declared_line true =
      other_text (codes "$var wire " ++ (decimal width ++ 32 ∷ rest)) (front_text true width ++ rest)
      (codes "$var" ∷ codes "wire" ∷ decimal width ∷ rest_words)
      (ap (λ t. codes "$var wire " ++ t) (append_assoc (decimal width) (codes " ") rest))
      (sort_line (codes "wire") (lacks_by 10 (codes "wire") refl, lacks_by 32 (codes "wire") refl))
  declared_line false =
      other_text (codes "$var reg " ++ (decimal width ++ 32 ∷ rest)) (front_text false width ++ rest)
      (codes "$var" ∷ codes "reg" ∷ decimal width ∷ rest_words)
      (ap (λ t. codes "$var reg " ++ t) (append_assoc (decimal width) (codes " ") rest))
      (sort_line (codes "reg") (lacks_by 10 (codes "reg") refl, lacks_by 32 (codes "reg") refl))

  declared_gives : (pin : Bool) → width < 2 ^ 64
      → Gives (front_text pin width ++ rest) (record { code = code n; width = width; name = name } ∷ [])
  declared_gives pin small xs =
      line_read (front_text pin width ++ rest)
      (codes "$var" ∷ sort_of pin ∷ decimal width ∷ rest_words) xs (declared_line pin)
      ∙ ap (λ (w : ℕ). record { code = code n; width = w; name = name } ∷ read_declared xs)
      (numeral width small).0

-- a line of the format alone
pub fixed : (l : List ℕ) (found : List (List ℕ)) → Lacks 10 l → words l ≡ found → Line (l ++ 10 ∷ []) found
fixed l found h e = record { line = l; is = refl; lacks = h; has = e }

module _ (net : Net) (device : Device) (models : List SeenModel) where
  abbrev Small : Var → Type 0
  Small v = (shape net device models v).width < 2 ^ 64

  item_gives : (n : ℕ) (i : Item) (is : List Item) → NamedWithout 10 net models i
      → NamedWithout 32 net models i → All Small (vars_of (i ∷ is)) → (later : List ℕ)
      → Gives later (declared_from net device models (next_number n i) (vars_of is)) → Gives
      (item_text net device models n i ++ later) (declared_from net device models n (vars_of (i ∷ is)))
  item_gives n (Open s) is h g small later next =
      gives_both (scope_text (scope_name net s)) later [] (declared_from net device models n (vars_of is))
      (scope_gives (scope_name net s)
      (lacks_name 10 (scope_name net s) h, lacks_name 32 (scope_name net s) g)) next
  item_gives n (Declare v) is h g small later next =
      let it = shape net device models v in
      let name = var_name net models v in
      gives_both (var_text net device models n v) later
      (record { code = code n; width = it.width; name = name } ∷ [])
      (declared_from net device models (suc n) (vars_of is))
      (declared_gives it.width n name it.range (lacks_name 10 name h, lacks_name 32 name g)
      (is_pin v) (small 0 Tms (omega arith))) next
  item_gives n Close is h g small later next =
      gives_both (codes "$upscope $end\n") later [] (declared_from net device models n (vars_of is))
      (λ xs. line_read (codes "$upscope $end\n") (codes "$upscope" ∷ codes "$end" ∷ []) xs
      (fixed (codes "$upscope $end") (codes "$upscope" ∷ codes "$end" ∷ [])
      (lacks_by 10 (codes "$upscope $end") refl) refl)) next

  small_after : (i : Item) (is : List Item) → All Small (vars_of (i ∷ is)) → All Small (vars_of is)
  small_after (Open s) is h = h
  small_after (Declare v) is h = λ k d l. h (suc k) d (omega (arith, l))
  small_after Close is h = h

  items_give : (n : ℕ) (is : List Item) → All (NamedWithout 10 net models) is
      → All (NamedWithout 32 net models) is → All Small (vars_of is)
      → Gives (items_text net device models n is) (declared_from net device models n (vars_of is))
  items_give n [] h g small = λ xs. refl
  items_give n (i ∷ is) h g small =
      item_gives n i is (h 0 Close (omega arith)) (g 0 Close (omega arith)) small
      (items_text net device models (next_number n i) is)
      (items_give (next_number n i) is (λ k d l. h (suc k) d (omega (arith, l)))
      (λ k d l. g (suc k) d (omega (arith, l))) (small_after i is small))

  abbrev tck : Declared
  tck = record { code = code 0; width = 1; name = codes "TCK" }

  start_gives : (top : List ℕ) → IsWord top → Gives (start_text top) (tck ∷ [])
  start_gives top h =
      gives_both (codes "$timescale 1 ns $end\n")
      (scope_text top ++ codes "$var wire 1 ! TCK $end\n") [] (tck ∷ [])
      (λ xs. line_read (codes "$timescale 1 ns $end\n") (words (codes "$timescale 1 ns $end")) xs
      (fixed (codes "$timescale 1 ns $end") (words (codes "$timescale 1 ns $end"))
      (lacks_by 10 (codes "$timescale 1 ns $end") refl) refl))
      (gives_both (scope_text top) (codes "$var wire 1 ! TCK $end\n") [] (tck ∷ []) (scope_gives top h)
      (λ xs. line_read (codes "$var wire 1 ! TCK $end\n") (words (codes "$var wire 1 ! TCK $end")) xs
      (fixed (codes "$var wire 1 ! TCK $end") (words (codes "$var wire 1 ! TCK $end"))
      (lacks_by 10 (codes "$var wire 1 ! TCK $end") refl) refl)))

  end_gives : (xs : List ℕ) → read_declared (codes "$enddefinitions $end\n" ++ xs) ≡ []
  end_gives xs =
      line_read (codes "$enddefinitions $end\n") (words (codes "$enddefinitions $end")) xs
      (fixed (codes "$enddefinitions $end") (words (codes "$enddefinitions $end"))
      (lacks_by 10 (codes "$enddefinitions $end") refl) refl)

  none_after : (l : List Declared) → l ++ [] ≡ l
  none_after [] = refl
  none_after (x ∷ l) = ap (λ t. x ∷ t) (none_after l)

  header_gives : (top : List ℕ) (is : List Item) (xs : List ℕ) → IsWord top
      → All (NamedWithout 10 net models) is → All (NamedWithout 32 net models) is → All Small (vars_of is)
      → read_declared (header net device models top is ++ xs)
      ≡ tck ∷ declared_from net device models 1 (vars_of is)
  header_gives top is xs h g k small =
      let rest = items_text net device models 1 is in
      let last = codes "$enddefinitions $end\n" in
      ap read_declared (append_assoc (start_text top) (rest ++ last) xs)
      ∙ start_gives top h ((rest ++ last) ++ xs)
      ∙ ap (λ l. tck ∷ l) (ap read_declared (append_assoc rest last xs) ∙ items_give 1 is g k small
      (last ++ xs) ∙ ap (λ l. declared_from net device models 1 (vars_of is) ++ l) (end_gives xs)
      ∙ none_after (declared_from net device models 1 (vars_of is)))

pub declarations_found : DeclarationsAreRead
unfolding wave_text
declarations_found kind net device models top commands window names blanks small =
    header_gives net device models top (items kind net models)
    (moments_text (moments kind net device models commands window))
    (lacks_name 10 top names.outermost, lacks_name 32 top blanks.outermost) names.others blanks.others small
