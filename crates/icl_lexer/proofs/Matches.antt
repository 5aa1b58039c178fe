-- The longest match, found by the states.
use Rattle.std.proofs.Common.{◌≡◌, ◌++◌, ◌+◌, ◌<◌, ◌≤◌, ℕ, zero, suc, [], ◌∷◌, List, length, take, drop}
use Rattle.std.proofs.Common.{get_or, Option, Some, None, refl, sym, ap, subst, ◌∙◌, arith, inl, inr, ◌⊎◌}
use Rattle.std.proofs.Common.{true, false}
use Rattle.icl_lexer.specs.declared.token.PieceKind.{PieceKind}
use Rattle.icl_lexer.specs.declared.pieces.Match.{Match}
use Rattle.icl_lexer.specs.Pieces.{kind_of}
use Rattle.icl_lexer.specs.Matches.{longer, longest_match}
use Rattle.icl_lexer.specs.Cutting.{IsPiece, NoPiece, opens_comment}

-- one more byte of a match
pub take_more : (text : List ℕ) (n : ℕ) (bs : List ℕ) → n < length text
    → take n text ++ get_or text n 0 ∷ bs ≡ take (suc n) text ++ bs
take_more [] n bs h = absurd (omega (arith, h))
take_more (b ∷ text) zero bs h = refl
take_more (b ∷ text) (suc n) bs h = ap (λ (l : List ℕ). b ∷ l) (take_more text n bs (omega (arith, h)))

take_both : (text : List ℕ) (n m : ℕ) → take (n + m) text ≡ take n text ++ take m (drop n text)
take_both text zero m = ap (λ k. take k text) (let e : 0 + m ≡ m = omega arith in e)
take_both [] (suc n) m = take_none (suc n + m) ∙ sym (take_none m)
  where
    take_none : (k : ℕ) → take {A = ℕ} k [] ≡ []
    take_none zero = refl
    take_none (suc k) = refl
take_both (b ∷ text) (suc n) m =
    ap (λ k. take k (b ∷ text)) (let e : suc n + m ≡ suc (n + m) = omega arith in e)
    ∙ ap (λ (l : List ℕ). b ∷ l) (take_both text n m)

-- where no byte leads to a piece, no longer match is there
pub no_longer : (text : List ℕ) (n m : ℕ) → ((bs : List ℕ) → kind_of (take n text ++ bs) ≡ None)
    → longest_match text (n + m) ≡ longest_match text n
no_longer text n zero h = ap (longest_match text) (let e : n + 0 ≡ n = omega arith in e)
no_longer text n (suc m) h =
    let e : n + suc m ≡ suc (n + m) = omega arith in
    let none : kind_of (take (suc (n + m)) text) ≡ None = ap (λ k. kind_of (take k text)) (sym e)
    ∙ ap kind_of (take_both text n (suc m)) ∙ h (take (suc m) (drop n text)) in
    ap (longest_match text) e
    ∙ ap (λ k. longer (longest_match text (n + m)) k (suc (n + m))) none ∙ no_longer text n m h

-- what the longest match of at most n bytes is
abbrev pub Told : List ℕ → ℕ → Option Match → Type 0
Told text n None = (m : ℕ) → m ≤ n → kind_of (take m text) ≡ None
Told text n (Some found) = (0 < found.len) × (found.len ≤ n)
    × (kind_of (take found.len text) ≡ Some found.kind)
    × ((m : ℕ) → found.len < m → m ≤ n → kind_of (take m text) ≡ None)

nothing : (text : List ℕ) (m : ℕ) → m ≤ 0 → kind_of (take m text) ≡ None
nothing [] zero h = refl
nothing (b ∷ bs) zero h = refl
nothing text (suc m) h = absurd (omega (arith, h))

le_split : (m n : ℕ) → m ≤ suc n → (m ≤ n) ⊎ (m ≡ suc n)
le_split zero n h = inl (omega arith)
le_split (suc m) zero h = inr (omega (arith, h))
le_split (suc m) (suc n) h = again (le_split m n (omega (arith, h)))
  where
    again : (m ≤ n) ⊎ (m ≡ suc n) → (suc m ≤ suc n) ⊎ (suc m ≡ suc (suc n))
    again (inl le) = inl (omega (arith, le))
    again (inr e) = inr (ap suc e)

up_to : (text : List ℕ) (m n : ℕ) → m ≤ suc n → (m ≤ n → kind_of (take m text) ≡ None)
    → kind_of (take (suc n) text) ≡ None → kind_of (take m text) ≡ None
up_to text m n h below last = at (le_split m n h)
  where
    at : (m ≤ n) ⊎ (m ≡ suc n) → kind_of (take m text) ≡ None
    at (inl le) = below le
    at (inr e) = ap (λ k. kind_of (take k text)) e ∙ last

pub told : (text : List ℕ) (n : ℕ) → Told text n (longest_match text n)
told text zero = nothing text
told text (suc n) = step (longest_match text n) (told text n) (kind_of (take (suc n) text)) refl
  where
    step : (found : Option Match) → Told text n found → (k : Option PieceKind)
        → kind_of (take (suc n) text) ≡ k → Told text (suc n) (longer found k (suc n))
    step found h (Some kind) e = (omega arith, omega arith, e, λ m lt le. absurd (omega (arith, lt, le)))
    step None h None e = λ m le. up_to text m n le (h m) e
    step (Some found) h None e = (h.0, omega (arith, h.1), h.2, λ m lt le. up_to text m n le (h.3 m lt) e)

-- the longest match is a piece, unless it is a `/` that begins a comment
pub is_piece : (text : List ℕ) (found : Match) → longest_match text (length text) ≡ Some found
    → (found.len ≡ 1 → opens_comment text ≡ false) → IsPiece text found.kind found.len
is_piece text found e h =
    let t : Told text (length text) (Some found) =
    subst (Told text (length text)) e (told text (length text)) in
    record {
      within = t.1;
      one = t.2;
      longest = t.3;
      no_comment = λ opens. above_one found.len t.0 (λ one. clash (sym (h one) ∙ opens));
    }
  where
    clash : false ≡ true → ⊥
    clash e = absurd cc

    above_one : (n : ℕ) → 0 < n → (n ≡ 1 → ⊥) → 1 < n
    above_one n some ne = omega (arith, some, ne)

abbrev some_kind : PieceKind → Option PieceKind
some_kind k = Some k

-- without a match there is no piece
pub no_piece : (text : List ℕ) → longest_match text (length text) ≡ None → NoPiece text
no_piece text e kind len p =
    let t : Told text (length text) None = subst (Told text (length text)) e (told text (length text)) in
    absurd (let no : None ≡ some_kind kind = sym (t len p.within) ∙ p.one in cc)

-- with that `/` alone there is none
pub no_mark : (text : List ℕ) (found : Match) → longest_match text (length text) ≡ Some found → found.len ≡ 1
    → opens_comment text ≡ true → NoPiece text
no_mark text found e one opens kind len p =
    let t : Told text (length text) (Some found) =
    subst (Told text (length text)) e (told text (length text)) in
    let long = p.no_comment opens in
    absurd (let no : None ≡ some_kind kind = sym (t.3 len (omega (arith, long, one)) p.within) ∙ p.one in cc)
