-- One more piece at the end of a cutting.
use Rattle.std.proofs.Common.{◌≡◌, ℕ, suc, ◌+◌, ◌≤◌, List, [], ◌∷◌, ◌++◌, length, take, drop, refl, sym, ap}
use Rattle.std.proofs.Common.{subst, ◌∙◌, append_assoc, append-nil, arith, zero, ◌-◌, length-append}
use Rattle.std.proofs.Common.{length-drop}
use Rattle.std.proofs.lemmas.List.{drop-drop, length-take, take-append-drop}
use Rattle.ij_text.specs.declared.Place.{Place}
use Rattle.std.proofs.Math.Seq.{take-append_seam}
use Rattle.ij_text.specs.Places.{first_place, place_at, place_after}
use Rattle.ij_text.proofs.After.{place_after-append}
use Rattle.icl_lexer.specs.Token.{Token}
use Rattle.icl_lexer.specs.declared.token.PieceKind.{PieceKind}
use Rattle.icl_lexer.specs.Cutting.{IsPiece, Piece, joined, AreLongest, IsCutUpTo, tokens_from, token_of}

-- the text is cut up to a byte and place, and these are the tokens so far
pub record CutSoFar (text : List ℕ) (tokens : List Token) (start : ℕ) (at : Place) : Type 0 where
  pub pieces : List Piece
  pub cut : IsCutUpTo text pieces (drop start text)
  pub tokens_are : tokens ≡ tokens_from 0 first_place pieces
  pub start_is : start ≡ length (joined pieces [])
  pub at_is : at ≡ place_after first_place (joined pieces [])

pub joined_more : (ps qs : List Piece) (rest : List ℕ) → joined (ps ++ qs) rest ≡ joined ps (joined qs rest)
joined_more [] qs rest = refl
joined_more (p ∷ ps) qs rest = ap (λ l. p.bytes ++ l) (joined_more ps qs rest)

pub joined_rest : (ps : List Piece) (rest : List ℕ) → joined ps rest ≡ joined ps [] ++ rest
joined_rest [] rest = refl
joined_rest (p ∷ ps) rest = ap (λ l. p.bytes ++ l) (joined_rest ps rest)
    ∙ sym (append_assoc p.bytes (joined ps []) rest)

pub longest_more : (ps qs : List Piece) (rest : List ℕ) → AreLongest ps (joined qs rest)
    → AreLongest qs rest → AreLongest (ps ++ qs) rest
longest_more [] qs rest h k = k
longest_more (p ∷ ps) qs rest h k = (
  subst (λ l. IsPiece (p.bytes ++ l) p.kind (length p.bytes)) (sym (joined_more ps qs rest)) h.0,
  longest_more ps qs rest h.1 k,
)

length_both : (xs ys : List ℕ) (s : ℕ) → s + length (xs ++ ys) ≡ s + length xs + length ys
length_both xs ys s = let e = length-append xs ys in omega (arith, e)

pub tokens_more : (ps : List Piece) (s : ℕ) (at : Place) (qs : List Piece) → tokens_from s at (ps ++ qs)
    ≡ tokens_from s at ps ++ tokens_from (s + length (joined ps [])) (place_after at (joined ps [])) qs
tokens_more [] s at qs = ap (λ n. tokens_from n at qs) (let e : s ≡ s + 0 = omega arith in e)
tokens_more (p ∷ ps) s at qs =
    let front = token_of p.kind at s (s + length p.bytes) in
    let others = tokens_from (s + length p.bytes) (place_after at p.bytes) ps in
    let end = s + length p.bytes + length (joined ps []) in
    let place = place_after (place_after at p.bytes) (joined ps []) in
    ap (λ (ts : List Token). front ++ ts) (tokens_more ps (s + length p.bytes) (place_after at p.bytes) qs)
    ∙ sym (append_assoc front others (tokens_from end place qs))
    ∙ ap (λ (k : ℕ). (front ++ others) ++ tokens_from k place qs) (sym (length_both p.bytes (joined ps []) s))
    ∙ ap (λ (a : Place). (front ++ others) ++ tokens_from (s + length (p.bytes ++ joined ps [])) a qs)
    (sym (place_after-append p.bytes at (joined ps [])))

take_front : (text : List ℕ) (n len : ℕ) → len ≤ length (drop n text) → length (take len (drop n text)) ≡ len
take_front text n len h = let e = length-take len (drop n text) in omega (arith, e, h)

-- a piece at the end
pub cut_more : (text : List ℕ) (tokens : List Token) (start : ℕ) (at : Place) (kind : PieceKind) (len : ℕ)
    → CutSoFar text tokens start at → IsPiece (drop start text) kind len
    → CutSoFar text (tokens ++ token_of kind at start (start + len)) (start + len)
    (place_after at (take len (drop start text)))
cut_more text tokens start at kind len so_far piece =
    let rest = drop start text in
    let p : Piece = record { kind = kind; bytes = take len rest } in
    let ps = so_far.pieces in
    let long : length (take len rest) ≡ len = take_front text start len piece.within in
    let parts : take len rest ++ drop (start + len) text ≡ rest = ap (λ (l : List ℕ). take len rest ++ l)
    (sym (drop-drop len start text)) ∙ take-append-drop len rest in
    let bytes : joined (ps ++ p ∷ []) []
    ≡ joined ps [] ++ take len rest = joined_more ps (p ∷ []) [] ∙ joined_rest ps (take len rest ++ [])
    ∙ ap (λ (l : List ℕ). joined ps [] ++ l) (append-nil (take len rest)) in
    let is_piece : IsPiece (take len rest ++ drop (start + len) text) kind (length (take len rest)) =
    subst (λ n. IsPiece (take len rest ++ drop (start + len) text) kind n) (sym long)
    (subst (λ (l : List ℕ). IsPiece l kind len) (sym parts) piece) in
    let from : start ≡ 0 + length (joined ps []) = let e = so_far.start_is in omega (arith, e) in
    let last : token_of kind at start (start + len)
    ≡ tokens_from (0 + length (joined ps [])) (place_after first_place (joined ps [])) (p ∷ []) =
    ap (λ n. token_of kind at start (start + n)) (sym long)
    ∙ ap (λ s. token_of kind at s (s + length (take len rest))) from
    ∙ ap (λ a. token_of kind a (0 + length (joined ps []))
    (0 + length (joined ps []) + length (take len rest))) so_far.at_is
    ∙ sym (append-nil (token_of kind (place_after first_place (joined ps [])) (0 + length (joined ps []))
    (0 + length (joined ps []) + length (take len rest)))) in
    record {
      pieces = ps ++ p ∷ [];
      cut = record {
        whole = joined_more ps (p ∷ []) (drop (start + len) text) ∙ ap (joined ps) parts ∙ so_far.cut.whole;
        longest = longest_more ps (p ∷ []) (drop (start + len) text)
            (subst (AreLongest ps) (sym parts) so_far.cut.longest) (is_piece, tt);
      };
      tokens_are = ap (λ (ts : List Token). ts ++ token_of kind at start (start + len)) so_far.tokens_are
          ∙ ap (λ (t : List Token). tokens_from 0 first_place ps ++ t) last
          ∙ sym (tokens_more ps 0 first_place (p ∷ []));
      start_is = let both = length-append (joined ps []) (take len rest) in
          let e = ap length bytes in omega (arith, both, e, long, so_far.start_is);
      at_is = ap (λ a. place_after a (take len rest)) so_far.at_is
          ∙ sym (place_after-append (joined ps []) first_place (take len rest))
          ∙ ap (place_after first_place) (sym bytes);
    }

-- the place where a cutting ends
pub place_of_cut : (text : List ℕ) (tokens : List Token) (start : ℕ) (at : Place)
    → CutSoFar text tokens start at → at ≡ place_at text start
place_of_cut text tokens start at so_far =
    let front = joined so_far.pieces [] in
    let whole : front ++ drop start text
    ≡ text = sym (joined_rest so_far.pieces (drop start text)) ∙ so_far.cut.whole in
    let taken : take start text ≡ front = ap (λ n. take n text) so_far.start_is
    ∙ ap (take (length front)) (sym whole) ∙ take-append_seam front (drop start text) in
    so_far.at_is ∙ ap (place_after first_place) (sym taken)

-- nothing is cut at the start
pub nothing_cut : (text : List ℕ) → CutSoFar text [] 0 first_place
nothing_cut text = record {
  pieces =
      [];
  cut = record { whole = refl; longest = tt };
  tokens_are = refl;
  start_is = refl;
  at_is = refl;
}

-- what is left of the text, as the code cuts it
pub rest_is : (src : List ℕ) (start : ℕ) → take (length src - start) (drop start src) ≡ drop start src
rest_is src start = take_whole (drop start src) (length src - start)
    (let k = length-drop start src in omega (arith, k))
  where
    take_whole : (xs : List ℕ) (n : ℕ) → length xs ≤ n → take n xs ≡ xs
    take_whole [] zero h = refl
    take_whole [] (suc n) h = refl
    take_whole (x ∷ xs) zero h = absurd (omega (arith, h))
    take_whole (x ∷ xs) (suc n) h = ap (λ (l : List ℕ). x ∷ l) (take_whole xs n (omega (arith, h)))
