-- What a reader of scopes finds.
use Rattle.std.proofs.Common.{◌≡◌, ℕ, suc, cond, List, [], ◌∷◌, ◌++◌, drop, map, refl, ap, ◌∙◌, arith}
use Rattle.std.proofs.Common.{append_assoc}
use Rattle.std.specs.Prelude.{All, codes, decimal}
use Rattle.instruments.specs.Seen.{SeenModel}
use Rattle.net_graph.specs.declared.device.Device.{Device}
use Rattle.net_graph.specs.declared.net.Net.{Net}
use Rattle.net_wave.specs.declared.var.Item.{Item}
use Rattle.net_wave.specs.declared.var.Item.TheVariants.{Open, Declare, Close}
use Rattle.net_wave.specs.Header.{header, is_pin, items_text, scope_name, scope_text, shape, start_text}
use Rattle.net_wave.specs.Header.{var_name, var_text}
use Rattle.net_wave.specs.Laws.{ScopesAreRead, scopes_from}
use Rattle.net_wave.specs.Moments.{moments_text}
use Rattle.net_wave.specs.Names.{NamedWithout}
use Rattle.net_wave.specs.Reader.{declared_in, ends_in, lines, open_after, read_scopes, scopes_to_end, words}
use Rattle.net_wave.specs.Vars.{items}
use Rattle.net_wave.specs.Wave.{moments, wave_text}
use Rattle.net_wave.proofs.DeclaredRead.{IsWord, Line, declared_line, fixed, rest_words, scope_line, sort_of}
use Rattle.net_wave.proofs.Headed.{lacks_by, lacks_name}
use Rattle.net_wave.proofs.Reading.{split_front}

abbrev Scopes : Type 0
Scopes = List (List ℕ)

abbrev read_in : Scopes → List ℕ → List Scopes
read_in scopes text = scopes_to_end scopes (lines text)

line_read : (scopes : Scopes) (text : List ℕ) (found : List (List ℕ)) (xs : List ℕ) → Line text found
    → read_in scopes (text ++ xs) ≡ cond (ends_in found) []
    (map (λ it. scopes) (declared_in found) ++ read_in (open_after scopes found) xs)
line_read scopes text found xs e =
    ap (λ (t : List ℕ). read_in scopes (t ++ xs)) e.is
    ∙ ap (read_in scopes) (append_assoc e.line (10 ∷ []) xs)
    ∙ ap (scopes_to_end scopes) (split_front 10 e.line xs e.lacks)
    ∙ ap (λ (l : List (List ℕ)). cond (ends_in l) []
    (map (λ it. scopes) (declared_in l) ++ read_in (open_after scopes l) xs)) e.has

module _ (net : Net) (device : Device) (models : List SeenModel) where
  -- items, with what comes after them
  walked : (n : ℕ) (is : List Item) (scopes : Scopes) (xs : List ℕ) → ((s : Scopes) → read_in s xs ≡ [])
      → All (NamedWithout 10 net models) is → All (NamedWithout 32 net models) is
      → read_in scopes (items_text net device models n is ++ xs) ≡ scopes_from net scopes is
  walked n [] scopes xs end h g = end scopes
  walked n (Open s ∷ is) scopes xs end h g =
      let name = scope_name net s in
      let later = items_text net device models n is in
      ap (read_in scopes) (append_assoc (scope_text name) later xs)
      ∙ line_read scopes (scope_text name)
      (codes "$scope" ∷ codes "module" ∷ name ∷ codes "$end" ∷ []) (later ++ xs) (scope_line name
      (lacks_name 10 name (h 0 Close (omega arith)), lacks_name 32 name (g 0 Close (omega arith))))
      ∙ walked n is (name ∷ scopes) xs end (λ k d l. h (suc k) d (omega (arith, l)))
      (λ k d l. g (suc k) d (omega (arith, l)))
  walked n (Declare v ∷ is) scopes xs end h g =
      let it = shape net device models v in
      let name = var_name net models v in
      let word : IsWord name =
      (lacks_name 10 name (h 0 Close (omega arith)), lacks_name 32 name (g 0 Close (omega arith))) in
      let later = items_text net device models (suc n) is in
      ap (read_in scopes) (append_assoc (var_text net device models n v) later xs)
      ∙ line_read scopes (var_text net device models n v) (codes "$var" ∷ sort_of it.width n name it.range
      word (is_pin v) ∷ decimal it.width ∷ rest_words it.width n name it.range word) (later ++ xs)
      (declared_line it.width n name it.range word (is_pin v))
      ∙ ap (λ l. scopes ∷ l) (walked (suc n) is scopes xs end (λ k d l. h (suc k) d (omega (arith, l)))
      (λ k d l. g (suc k) d (omega (arith, l))))
  walked n (Close ∷ is) scopes xs end h g =
      let later = items_text net device models n is in
      ap (read_in scopes) (append_assoc (codes "$upscope $end\n") later xs)
      ∙ line_read scopes (codes "$upscope $end\n") (codes "$upscope" ∷ codes "$end" ∷ []) (later ++ xs)
      (fixed (codes "$upscope $end") (codes "$upscope" ∷ codes "$end" ∷ [])
      (lacks_by 10 (codes "$upscope $end") refl) refl)
      ∙ walked n is (drop 1 scopes) xs end (λ k d l. h (suc k) d (omega (arith, l)))
      (λ k d l. g (suc k) d (omega (arith, l)))

  started : (top xs : List ℕ) → IsWord top
      → read_scopes (start_text top ++ xs) ≡ (top ∷ []) ∷ read_in (top ∷ []) xs
  started top xs h =
      let time = codes "$timescale 1 ns $end\n" in
      let tck = codes "$var wire 1 ! TCK $end\n" in
      ap read_scopes (append_assoc time (scope_text top ++ tck) xs)
      ∙ line_read [] time (words (codes "$timescale 1 ns $end")) ((scope_text top ++ tck) ++ xs)
      (fixed (codes "$timescale 1 ns $end") (words (codes "$timescale 1 ns $end"))
      (lacks_by 10 (codes "$timescale 1 ns $end") refl) refl)
      ∙ ap (read_in []) (append_assoc (scope_text top) tck xs)
      ∙ line_read [] (scope_text top)
      (codes "$scope" ∷ codes "module" ∷ top ∷ codes "$end" ∷ []) (tck ++ xs) (scope_line top h)
      ∙ line_read (top ∷ []) tck (words (codes "$var wire 1 ! TCK $end")) xs
      (fixed (codes "$var wire 1 ! TCK $end") (words (codes "$var wire 1 ! TCK $end"))
      (lacks_by 10 (codes "$var wire 1 ! TCK $end") refl) refl)

  ended : (xs : List ℕ) (scopes : Scopes) → read_in scopes (codes "$enddefinitions $end\n" ++ xs) ≡ []
  ended xs scopes =
      line_read scopes (codes "$enddefinitions $end\n") (words (codes "$enddefinitions $end")) xs
      (fixed (codes "$enddefinitions $end") (words (codes "$enddefinitions $end"))
      (lacks_by 10 (codes "$enddefinitions $end") refl) refl)

  header_walked : (top : List ℕ) (is : List Item) (xs : List ℕ) → IsWord top
      → All (NamedWithout 10 net models) is → All (NamedWithout 32 net models) is
      → read_scopes (header net device models top is ++ xs) ≡ (top ∷ []) ∷ scopes_from net (top ∷ []) is
  header_walked top is xs h g k =
      let rest = items_text net device models 1 is in
      let last = codes "$enddefinitions $end\n" in
      ap read_scopes (append_assoc (start_text top) (rest ++ last) xs)
      ∙ started top ((rest ++ last) ++ xs) h
      ∙ ap (λ l. (top ∷ []) ∷ l) (ap (read_in (top ∷ [])) (append_assoc rest last xs)
      ∙ walked 1 is (top ∷ []) (last ++ xs) (ended xs) g k)

pub scopes_found : ScopesAreRead
unfolding wave_text
scopes_found kind net device models top commands window names blanks =
    header_walked net device models top (items kind net models)
    (moments_text (moments kind net device models commands window))
    (lacks_name 10 top names.outermost, lacks_name 32 top blanks.outermost) names.others blanks.others
