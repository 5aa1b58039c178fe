-- What a reader of a graph finds in lines.
use Rattle.std.proofs.Common.{◌≡◌, ⊎_elim, ℕ, zero, suc, ◌+◌, ◌<◌, ◌≤◌, ◌^◌, ◌/◌, ◌%◌, Bool, true, false}
use Rattle.std.proofs.Common.{List, [], ◌∷◌, ◌++◌, Option, Some, length, take, drop, refl, sym, ap, ◌∙◌}
use Rattle.std.proofs.Common.{subst, arith, append_assoc, decimal, nat_lt, cond}
use Rattle.std.specs.Prelude.{◌==◌, ◌&&◌, ◌||◌, All, codes, filter, not}
use Rattle.std.specs.Char.{is_ascii_digit}
use Rattle.std.specs.Fmt.{digits as digits_in, digits_onto, digit_glyph}
use Rattle.std.specs.List.{AllByRecursion, flat_map, list_all}
use Rattle.std.specs.Option.{option_and_then, option_map}
use Rattle.std.specs.Str.{all_ascii_digits}
use Rattle.std.specs.Str.Parse.{digits_value}
use Rattle.std.proofs.lemmas.Bool.{and_parts, ne_eqb}
use Rattle.std.proofs.lemmas.Bool.Decides.{eqb_tells, nat_tests}
use Rattle.std.proofs.lemmas.Fmt.{digits_decimal, digits_value-decimal, decimal_nonempty}
use Rattle.std.proofs.lemmas.List.Elements.{All-head, All-tail}
use Rattle.std.proofs.lemmas.Str.Parse.{IsNumeralModel, numerals_by_value, tells_all_ascii_digits}
use Rattle.ij_bits.proofs.Tests.{number_self}
use Rattle.ij_text.specs.Parts.{before, split}
use Rattle.ij_text.specs.Words.{begins_name, in_name, is_name}
use Rattle.net_picture.specs.Dot.{edge_style}
use Rattle.net_picture.specs.Edges.{Node, Link, Source, Row, Select}
use Rattle.net_picture.specs.ReadGraph.{has_bytes, words, number, node_named, Attribute, attribute_if}
use Rattle.net_picture.specs.ReadGraph.{attribute_by, alone, attributes, attributes_in, value_after, value_of}
use Rattle.net_picture.specs.ReadGraph.{colour_in, link_in, node_said, edge_said, keyword_said, thing_said}
use Rattle.net_picture.specs.ReadGraph.{is_keyword, words_said, found_or, line_said, read_graph}
use Rattle.net_picture.specs.Said.{Colour, Plain, Said, HasNode, HasEdge, Comment, edge_colour}
use Rattle.ij_text.proofs.Parts.{Without, split_none, split_off}

-- ---- bytes that are no line feed (10), blank (32), quote (34) or backslash (92)

abbrev pub IsPlainByte : ℕ → Type 0
IsPlainByte b = (34 < b) × ((b == 92) ≡ false)

abbrev pub IsPlain : List ℕ → Type 0
IsPlain bytes = AllByRecursion IsPlainByte bytes

pub without : (at : ℕ) (bytes : List ℕ) → at ≤ 34 → IsPlain bytes → Without at bytes
without at [] low plain = tt
without at (b ∷ bs) low plain = (differs b plain.0.0, without at bs low plain.1)
  where
    differs : (b : ℕ) → 34 < b → (b == at) ≡ false
    differs b more = grind (arith, nat_tests)

pub no_backslash : (bytes : List ℕ) → IsPlain bytes → list_all (λ b. not (b == 92)) bytes ≡ true
no_backslash [] plain = refl
no_backslash (b ∷ bs) plain =
    ap (λ (k : Bool). not k && list_all (λ b. not (b == 92)) bs) plain.0.1 ∙ no_backslash bs plain.1

pub without_both : (at : ℕ) (xs ys : List ℕ) → Without at xs → Without at ys → Without at (xs ++ ys)
without_both at [] ys one other = other
without_both at (x ∷ xs) ys one other = (one.0, without_both at xs ys one.1 other)

pub plain_both : (xs ys : List ℕ) → IsPlain xs → IsPlain ys → IsPlain (xs ++ ys)
plain_both [] ys one other = other
plain_both (x ∷ xs) ys one other = (one.0, plain_both xs ys one.1 other)

pub plain_if : (k : Bool) (xs ys : List ℕ) → IsPlain xs → IsPlain ys → IsPlain (cond k xs ys)
plain_if true xs ys one other = one
plain_if false xs ys one other = other

pub plain_take : (n : ℕ) (xs : List ℕ) → IsPlain xs → IsPlain (take n xs)
plain_take zero xs plain = tt
plain_take (suc n) [] plain = tt
plain_take (suc n) (x ∷ xs) plain = (plain.0, plain_take n xs plain.1)

pub plain_drop : (n : ℕ) (xs : List ℕ) → IsPlain xs → IsPlain (drop n xs)
plain_drop zero xs plain = plain
plain_drop (suc n) [] plain = tt
plain_drop (suc n) (x ∷ xs) plain = plain_drop n xs plain.1

-- ---- numbers

glyph_plain : (d : ℕ) → IsPlainByte (digit_glyph false d)
glyph_plain d = cases (nat_lt d 10) refl
  where
    cases : (k : Bool) → nat_lt d 10 ≡ k → IsPlainByte (cond k (48 + d) (87 + d))
    cases true e =
        let low : d < 10 = grind (arith, nat_tests) in
        (omega arith, ne_eqb (48 + d) 92 (λ f. omega (arith, f, low)))
    cases false e =
        let high : 10 ≤ d = grind (arith, nat_tests) in
        (omega arith, ne_eqb (87 + d) 92 (λ f. omega (arith, f, high)))

digits_plain : (k n : ℕ) (after : List ℕ) → IsPlain after → IsPlain (digits_onto k 10 false n after)
digits_plain zero n after plain = plain
digits_plain (suc k) n after plain =
    let here = digit_glyph false (n % 10) ∷ after in
    plain_if (n / 10 == 0) here (digits_onto k 10 false (n / 10) here) (glyph_plain (n % 10), plain)
    (digits_plain k (n / 10) here (glyph_plain (n % 10), plain))

pub decimal_plain : (n : ℕ) → IsPlain (decimal n)
unfolding digits_in
decimal_plain n = digits_plain 64 n [] tt

own : IsNumeralModel (λ ds. all_ascii_digits ds ≡ true) (digits_value 10)
own = numerals_by_value _ tells_all_ascii_digits

some_bytes : (bytes : List ℕ) → 0 < length bytes → has_bytes bytes ≡ true
some_bytes [] more = absurd (omega (arith, more))
some_bytes (b ∷ bs) more = refl

pub number_again : (n : ℕ) → n < 2 ^ 64 → number (decimal n) ≡ Some n
number_again n small =
    rw (
      some_bytes (decimal n) (decimal_nonempty n small),
      digits_decimal own n small,
      digits_value-decimal own n small,
    )

-- ---- names

letter_high : (b : ℕ) → in_name b ≡ true → 34 < b
letter_high b h = grind (arith, nat_tests)

letter_plain : (b : ℕ) → in_name b ≡ true → IsPlainByte b
letter_plain b h = (
  letter_high b h,
  ⊎_elim (λ same. let no : in_name 92 ≡ true =
      subst (λ (j : ℕ). in_name j ≡ true) same.1 h in absurd (cc)) (λ differ. differ.0) (eqb_tells b 92),
)

letters_plain : (bs : List ℕ) → list_all in_name bs ≡ true → IsPlain bs
letters_plain [] h = tt
letters_plain (b ∷ bs) h =
    let both = and_parts (in_name b) (list_all in_name bs) h in
    (letter_plain b both.0, letters_plain bs both.1)

pub name_plain : (name : List ℕ) → is_name name ≡ true → IsPlain name
name_plain [] h = absurd (cc)
name_plain (b ∷ bs) h =
    let both = and_parts (begins_name b) (list_all in_name bs) h in
    (letter_plain b (begins (begins_name b) (is_ascii_digit b) both.0), letters_plain bs both.1)
  where
    begins : (k l : Bool) → k ≡ true → (k || l) ≡ true
    begins true l e = refl
    begins false l e = absurd (cc)

-- ---- parts of texts

-- ---- lines

-- what is read in a text of whole lines
abbrev pub Reads : List ℕ → List Said → Type 0
Reads text found = (rest : List ℕ) → read_graph (text ++ rest) ≡ found ++ read_graph rest

pub reads_none : Reads [] []
reads_none = λ rest. refl

pub reads_both : (a b : List ℕ) (es fs : List Said) → Reads a es → Reads b fs → Reads (a ++ b) (es ++ fs)
reads_both a b es fs one other = λ rest.
    ap read_graph (append_assoc a b rest) ∙ one (b ++ rest) ∙ ap (λ (xs : List Said). es ++ xs) (other rest)
    ∙ sym (append_assoc es fs (read_graph rest))

-- a text is one line
pub record IsLine (text line : List ℕ) : Type 0 where
  pub ended : text ≡ line ++ 10 ∷ []
  pub free : Without 10 line

pub line_after : (xs text line : List ℕ) → Without 10 xs → IsLine text line → IsLine (xs ++ text) (xs ++ line)
line_after xs text line free is =
    record {
      ended = ap (λ (t : List ℕ). xs ++ t) is.ended ∙ sym (append_assoc xs line (10 ∷ []));
      free = without_both 10 xs line free is.free;
    }

reads_line : (text line : List ℕ) (found : List Said) → IsLine text line
    → line_said line ≡ found → Reads text found
reads_line text line found is e = λ rest.
    ap (λ (t : List ℕ). read_graph (t ++ rest)) is.ended ∙ ap read_graph (append_assoc line (10 ∷ []) rest)
    ∙ ap (flat_map line_said) (split_off 10 line rest is.free)
    ∙ ap (λ (xs : List Said). xs ++ read_graph rest) e

-- a comment
without_all : (at : ℕ) (bytes : List ℕ) → All (λ b. (b == at) ≡ false) bytes → Without at bytes
without_all at [] all = tt
without_all at (b ∷ bs) all = (
  All-head (λ (x : ℕ). (x == at) ≡ false) b bs all,
  without_all at bs (All-tail (λ (x : ℕ). (x == at) ≡ false) b bs all),
)

pub comment_read : (comment text : List ℕ) → All (λ b. (b == 10) ≡ false) comment
    → read_graph (codes "// " ++ (comment ++ 10 ∷ text)) ≡ Comment comment ∷ read_graph text
comment_read comment text free =
    ap (flat_map line_said)
    (split_off 10 (47 ∷ 47 ∷ 32 ∷ comment) text (refl, (refl, (refl, without_all 10 comment free))))

-- ---- words

-- by computing
pub by_test : (at : ℕ) (bytes : List ℕ) → list_all (λ b. not (b == at)) bytes ≡ true → Without at bytes
by_test at [] h = tt
by_test at (b ∷ bs) h =
    let both = and_parts (not (b == at)) (list_all (λ b. not (b == at)) bs) h in
    (is_false (b == at) both.0, by_test at bs both.1)
  where
    is_false : (k : Bool) → not k ≡ true → k ≡ false
    is_false true e = absurd (cc)
    is_false false e = refl

-- a word that names a node
pub record IsWord (first : ℕ) (others : List ℕ) (node : Node) : Type 0 where
  pub no_feed : Without 10 (first ∷ others)
  pub no_blank : Without 32 (first ∷ others)
  pub no_keyword : is_keyword (first ∷ others) ≡ false
  pub named : node_named (first ∷ others) ≡ Some node

-- what comes after a bracket (91) up to the end of a line, and what is read of it
pub record IsAttribute (text : List ℕ) (link : Link) (label : List ℕ) (colour : Colour) : Type 0 where
  pub rest : List ℕ
  pub first : List ℕ
  pub others : List (List ℕ)
  pub found : List Attribute
  pub ended : IsLine text rest
  pub words_are : filter has_bytes (split 32 (91 ∷ rest)) ≡ (91 ∷ first) ∷ others
  pub found_are : attributes (first ∷ others) ≡ Some found
  pub link_is : link_in found ≡ link
  pub label_is : value_of (codes "label") found ≡ label
  pub colour_is : colour_in found ≡ colour

-- the line of an edge
pub reads_edge : (a b : ℕ) (xs ys text label : List ℕ) (from to : Node) (link : Link) (colour : Colour)
    → IsWord a xs from → IsWord b ys to → IsAttribute text link label colour
    → Reads (32 ∷ 32 ∷ a ∷ (xs ++ 32 ∷ 45 ∷ 62 ∷ 32 ∷ b ∷ (ys ++ 32 ∷ 91 ∷ text)))
    (HasEdge (record { from = from; to = to; link = link }) colour ∷ [])
reads_edge a b xs ys text label from to link colour f t k =
    reads_line (32 ∷ 32 ∷ a ∷ (xs ++ 32 ∷ 45 ∷ 62 ∷ 32 ∷ b ∷ (ys ++ 32 ∷ 91 ∷ text))) line
    (HasEdge (record { from = from; to = to; link = link }) colour ∷ [])
    (line_after (32 ∷ 32 ∷ a ∷ xs) (32 ∷ 45 ∷ 62 ∷ 32 ∷ b ∷ (ys ++ 32 ∷ 91 ∷ text))
    (32 ∷ 45 ∷ 62 ∷ 32 ∷ b ∷ (ys ++ 32 ∷ 91 ∷ k.rest)) (refl, (refl, f.no_feed))
    (line_after (32 ∷ 45 ∷ 62 ∷ 32 ∷ b ∷ ys) (32 ∷ 91 ∷ text) (32 ∷ 91 ∷ k.rest)
    (refl, (refl, (refl, (refl, t.no_feed))))
    (line_after (32 ∷ 91 ∷ []) text k.rest (refl, (refl, tt)) k.ended)))
    (ap (λ (ws : List (List ℕ)). found_or line (words_said ws)) words_are
    ∙ ap (λ (is : Bool). found_or line (cond is (keyword_said (a ∷ xs) (codes "->" ∷ (b ∷ ys) ∷ attrs))
    (thing_said (a ∷ xs) (codes "->" ∷ (b ∷ ys) ∷ attrs)))) f.no_keyword
    ∙ ap (λ (o : Option Node). found_or line
    (edge_said o (node_named (b ∷ ys)) (attributes_in attrs))) f.named
    ∙ ap (λ (o : Option Node). found_or line (edge_said (Some from) o (attributes_in attrs))) t.named
    ∙ ap (λ (o : Option (List Attribute)). found_or line (edge_said (Some from) (Some to) o)) k.found_are
    ∙ ap (λ (l : Link). HasEdge (record { from = from; to = to; link = l }) (colour_in k.found) ∷ [])
    k.link_is
    ∙ ap (λ (c : Colour). HasEdge (record { from = from; to = to; link = link }) c ∷ []) k.colour_is)
  where
    line : List ℕ
    line = 32 ∷ 32 ∷ a ∷ (xs ++ 32 ∷ 45 ∷ 62 ∷ 32 ∷ b ∷ (ys ++ 32 ∷ 91 ∷ k.rest))

    attrs : List (List ℕ)
    attrs = (91 ∷ k.first) ∷ k.others

    words_are : words line ≡ (a ∷ xs) ∷ codes "->" ∷ (b ∷ ys) ∷ attrs
    words_are =
        ap (λ (parts : List (List ℕ)). filter has_bytes ([] ∷ [] ∷ parts))
        (split_off 32 (a ∷ xs) (45 ∷ 62 ∷ 32 ∷ b ∷ (ys ++ 32 ∷ 91 ∷ k.rest)) f.no_blank
        ∙ ap (λ (parts : List (List ℕ)). (a ∷ xs) ∷ codes "->" ∷ parts)
        (split_off 32 (b ∷ ys) (91 ∷ k.rest) t.no_blank))
        ∙ ap (λ (ws : List (List ℕ)). (a ∷ xs) ∷ codes "->" ∷ (b ∷ ys) ∷ ws) k.words_are

-- the line of a node
pub reads_node : (a : ℕ) (xs text label : List ℕ) (node : Node) (link : Link) (colour : Colour)
    → IsWord a xs node → IsAttribute text link label colour
    → Reads (32 ∷ 32 ∷ a ∷ (xs ++ 32 ∷ 91 ∷ text)) (HasNode node label colour ∷ [])
reads_node a xs text label node link colour f k =
    reads_line (32 ∷ 32 ∷ a ∷ (xs ++ 32 ∷ 91 ∷ text)) line (HasNode node label colour ∷ [])
    (line_after (32 ∷ 32 ∷ a ∷ xs) (32 ∷ 91 ∷ text) (32 ∷ 91 ∷ k.rest) (refl, (refl, f.no_feed))
    (line_after (32 ∷ 91 ∷ []) text k.rest (refl, (refl, tt)) k.ended))
    (ap (λ (ws : List (List ℕ)). found_or line (words_said ws)) words_are
    ∙ ap (λ (is : Bool). found_or line (cond is (keyword_said (a ∷ xs) attrs) (thing_said (a ∷ xs) attrs)))
    f.no_keyword
    ∙ ap (λ (o : Option Node). found_or line (node_said o (attributes_in attrs))) f.named
    ∙ ap (λ (o : Option (List Attribute)). found_or line (node_said (Some node) o)) k.found_are
    ∙ ap (λ (l : List ℕ). HasNode node l (colour_in k.found) ∷ []) k.label_is
    ∙ ap (λ (c : Colour). HasNode node label c ∷ []) k.colour_is)
  where
    line : List ℕ
    line = 32 ∷ 32 ∷ a ∷ (xs ++ 32 ∷ 91 ∷ k.rest)

    attrs : List (List ℕ)
    attrs = (91 ∷ k.first) ∷ k.others

    words_are : words line ≡ (a ∷ xs) ∷ attrs
    words_are =
        ap (λ (parts : List (List ℕ)). filter has_bytes ([] ∷ [] ∷ parts))
        (split_off 32 (a ∷ xs) (91 ∷ k.rest) f.no_blank)
        ∙ ap (λ (ws : List (List ℕ)). (a ∷ xs) ∷ ws) k.words_are

-- ---- attributes

pub plain_style : (active : Bool)
    → IsAttribute (edge_style active ++ (codes "];\n" ++ [])) Source [] (edge_colour active)
plain_style true = record {
  rest = codes "color=\"#d55e00\", penwidth=3];";
  first = codes "color=\"#d55e00\",";
  others = codes "penwidth=3];" ∷ [];
  found = record { key = codes "color"; value = codes "#d55e00"; is_last = false }
      ∷ record { key = codes "penwidth"; value = codes "3"; is_last = true } ∷ [];
  ended = record { ended = refl; free = by_test 10 (codes "color=\"#d55e00\", penwidth=3];") refl };
  words_are = refl;
  found_are = refl;
  link_is = refl;
  label_is = refl;
  colour_is = refl;
}
plain_style false = record {
  rest = codes "color=\"#868e96\"];";
  first = codes "color=\"#868e96\"];";
  others = [];
  found = record { key = codes "color"; value = codes "#868e96"; is_last = true } ∷ [];
  ended = record { ended = refl; free = by_test 10 (codes "color=\"#868e96\"];") refl };
  words_are = refl;
  found_are = refl;
  link_is = refl;
  label_is = refl;
  colour_is = refl;
}

pub dashed : IsAttribute (codes "style=dashed, color=\"#868e96\", constraint=false];\n" ++ []) Select [] Plain
dashed = record {
  rest = codes "style=dashed, color=\"#868e96\", constraint=false];";
  first = codes "style=dashed,";
  others = codes "color=\"#868e96\"," ∷ codes "constraint=false];" ∷ [];
  found = record { key = codes "style"; value = codes "dashed"; is_last = false }
      ∷ record { key = codes "color"; value = codes "#868e96"; is_last = false }
      ∷ record { key = codes "constraint"; value = codes "false"; is_last = true } ∷ [];
  ended = record {
    ended = refl;
    free =
        by_test 10 (codes "style=dashed, color=\"#868e96\", constraint=false];") refl;
  };
  words_are = refl;
  found_are = refl;
  link_is = refl;
  label_is = refl;
  colour_is = refl;
}

-- what comes after a label's comma, and what is read of it
pub record IsTail (text : List ℕ) (colour : Colour) : Type 0 where
  pub rest : List ℕ
  pub found : List Attribute
  pub ended : IsLine text rest
  pub found_are : attributes (filter has_bytes (split 32 rest)) ≡ Some found
  pub no_label : (v : List ℕ) → value_after (codes "label") v found ≡ v
  pub colour_is : colour_in found ≡ colour

module _ (label : List ℕ) (plain : IsPlain label) where
  abbrev labelled_by : Bool → Attribute
  labelled_by last = record { key = codes "label"; value = label; is_last = last }

  parts_are : (end : List ℕ)
      → split 34 (codes "label=\"" ++ (label ++ 34 ∷ end)) ≡ codes "label=" ∷ label ∷ split 34 end
  parts_are end =
      ap (λ (parts : List (List ℕ)). before 108
      (before 97 (before 98 (before 101 (before 108 (before 61 ([] ∷ parts)))))))
      (split_off 34 label end (without 34 label (omega arith) plain))

  more_is : attribute_by (split 34 (codes "label=\"" ++ (label ++ codes "\","))) ≡ Some (labelled_by false)
  more_is =
      ap attribute_by (parts_are (codes ","))
      ∙ ap (λ (k : Bool). attribute_if k (codes "label") label (codes ",")) (no_backslash label plain)

  last_is : attribute_by (split 34 (codes "label=\"" ++ (label ++ codes "\"];"))) ≡ Some (labelled_by true)
  last_is =
      ap attribute_by (parts_are (codes "];"))
      ∙ ap (λ (k : Bool). attribute_if k (codes "label") label (codes "];")) (no_backslash label plain)

  begin_free : Without 10 (codes "label=\"")
  begin_free = by_test 10 (codes "label=\"") refl

  -- a label, and other attributes
  pub labelled : (text : List ℕ) (colour : Colour) → IsTail text colour
      → IsAttribute (codes "label=\"" ++ (label ++ (codes "\", " ++ text))) (Row label) label colour
  labelled text colour s = record {
    rest = codes "label=\"" ++ (label ++ (codes "\", " ++ s.rest));
    first = codes "label=\"" ++ (label ++ codes "\",");
    others = filter has_bytes (split 32 s.rest);
    found = labelled_by false ∷ s.found;
    ended = line_after (codes "label=\"") (label ++ (codes "\", " ++ text))
        (label ++ (codes "\", " ++ s.rest)) begin_free
        (line_after label (codes "\", " ++ text) (codes "\", " ++ s.rest) (without 10 label (omega arith)
        plain) (line_after (codes "\", ") text s.rest (by_test 10 (codes "\", ") refl) s.ended));
    words_are = ap (λ (parts : List (List ℕ)). filter has_bytes parts)
        (ap (λ (t : List ℕ). split 32 (codes "[label=\"" ++ t))
        (sym (append_assoc label (codes "\",") (32 ∷ s.rest)))
        ∙ split_off 32 (codes "[label=\"" ++ (label ++ codes "\",")) s.rest
        (without_both 32 (codes "[label=\"") (label ++ codes "\",")
        (by_test 32 (codes "[label=\"") refl) (without_both 32 label (codes "\",")
        (without 32 label (omega arith) plain) (by_test 32 (codes "\",") refl))));
    found_are = ap (option_and_then
        (λ (a : Attribute). cond a.is_last (alone a (filter has_bytes (split 32 s.rest))) (option_map
        (λ (rest : List Attribute). a ∷ rest) (attributes (filter has_bytes (split 32 s.rest)))))) more_is
        ∙ ap (option_map (λ (rest : List Attribute). labelled_by false ∷ rest)) s.found_are;
    link_is = ap Row (s.no_label label);
    label_is = s.no_label label;
    colour_is = s.colour_is;
  }

  -- a label alone
  pub labelled_alone : IsAttribute (codes "label=\"" ++ (label ++ codes "\"];\n")) (Row label) label Plain
  labelled_alone = record {
    rest = codes "label=\"" ++ (label ++ codes "\"];");
    first = codes "label=\"" ++ (label ++ codes "\"];");
    others = [];
    found = labelled_by true ∷ [];
    ended = line_after (codes "label=\"") (label ++ codes "\"];\n") (label ++ codes "\"];") begin_free
        (line_after label (codes "\"];\n") (codes "\"];") (without 10 label (omega arith) plain)
        (record { ended = refl; free = by_test 10 (codes "\"];") refl }));
    words_are = ap (λ (parts : List (List ℕ)). filter has_bytes parts)
        (split_none 32 (codes "[label=\"" ++ (label ++ codes "\"];"))
        (without_both 32 (codes "[label=\"") (label ++ codes "\"];")
        (by_test 32 (codes "[label=\"") refl) (without_both 32 label (codes "\"];")
        (without 32 label (omega arith) plain) (by_test 32 (codes "\"];") refl))));
    found_are = ap (option_and_then (λ (a : Attribute). cond a.is_last (alone a [])
        (option_map (λ (rest : List Attribute). a ∷ rest) (attributes [])))) last_is;
    link_is = refl;
    label_is = refl;
    colour_is = refl;
  }
