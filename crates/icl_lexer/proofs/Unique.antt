-- A text is cut in one way.
use Rattle.std.proofs.Common.{◌≡◌, ℕ, zero, suc, ◌<◌, List, [], ◌∷◌, ◌++◌, length, take, drop, Option, Some}
use Rattle.std.proofs.Common.{None, refl, sym, ap, subst, ◌∙◌, arith}
use Rattle.std.proofs.Math.Seq.{take-append_seam, drop-append_seam}
use Rattle.ij_text.specs.Places.{first_place, place_after}
use Rattle.icl_lexer.specs.Token.{Token}
use Rattle.icl_lexer.specs.declared.token.PieceKind.{PieceKind}
use Rattle.icl_lexer.specs.declared.fault.LexFault.{LexFault}
use Rattle.icl_lexer.specs.Pieces.{kind_of}
use Rattle.icl_lexer.specs.Cutting.{IsPiece, NoPiece, Piece, joined, AreLongest, IsCutUpTo, AreTokens}
use Rattle.icl_lexer.specs.Cutting.{HasFault, tokens_from, fault_of}

abbrev some_kind : PieceKind → Option PieceKind
some_kind k = Some k

some_is : (k l : PieceKind) → some_kind k ≡ some_kind l → k ≡ l
some_is k l h = cc

-- no piece is empty
nothing : (text : List ℕ) → kind_of (take 0 text) ≡ None
nothing [] = refl
nothing (b ∷ bs) = refl

nothing_there : NoPiece []
nothing_there kind zero p = absurd (let no : None ≡ some_kind kind = p.one in cc)
nothing_there kind (suc len) p = absurd (let h = p.within in omega (arith, h))

pub piece_some : (text : List ℕ) (kind : PieceKind) (len : ℕ) → IsPiece text kind len → 0 < len
piece_some text kind zero p = absurd (let no : None ≡ some_kind kind = sym (nothing text) ∙ p.one in cc)
piece_some text kind (suc len) p = omega arith

too_short : (text : List ℕ) (k l : PieceKind) (a b : ℕ) → IsPiece text k a → IsPiece text l b → a < b → ⊥
too_short text k l a b p q lt =
    let no : None ≡ some_kind l = sym (p.longest b lt q.within) ∙ q.one in absurd cc

-- two longest pieces at one place are one
pub piece_unique : (text : List ℕ) (k l : PieceKind) (m n : ℕ)
    → IsPiece text k m → IsPiece text l n → (m ≡ n) × (k ≡ l)
piece_unique text k l m n p q =
    let same : m ≡ n = between m n (too_short text k l m n p q) (too_short text l k n m q p) in
    (same, some_is k l (sym p.one ∙ ap (λ i. kind_of (take i text)) same ∙ q.one))
  where
    between : (m n : ℕ) → (m < n → ⊥) → (n < m → ⊥) → m ≡ n
    between m n h k = omega (arith, h, k)

same_piece : (p q : Piece) → p.kind ≡ q.kind → p.bytes ≡ q.bytes → p ≡ q
same_piece p q k b = λ i. record { kind = k i; bytes = b i }

-- a text is cut in one way into pieces and a rest that begins with none
pub cut_unique : (ps qs : List Piece) (r s : List ℕ) → joined ps r ≡ joined qs s → AreLongest ps r
    → AreLongest qs s → NoPiece r → NoPiece s → (ps ≡ qs) × (r ≡ s)
cut_unique [] [] r s e h k no_r no_s = (refl, e)
cut_unique [] (q ∷ qs) r s e h k no_r no_s = absurd
    (no_r q.kind (length q.bytes) (subst (λ (l : List ℕ). IsPiece l q.kind (length q.bytes)) (sym e) k.0))
cut_unique (p ∷ ps) [] r s e h k no_r no_s =
    absurd (no_s p.kind (length p.bytes) (subst (λ (l : List ℕ). IsPiece l p.kind (length p.bytes)) e h.0))
cut_unique (p ∷ ps) (q ∷ qs) r s e h k no_r no_s =
    let moved : IsPiece (joined (p ∷ ps) r) q.kind (length q.bytes) =
    subst (λ (l : List ℕ). IsPiece l q.kind (length q.bytes)) (sym e) k.0 in
    let one = piece_unique (joined (p ∷ ps) r) p.kind q.kind (length p.bytes) (length q.bytes) h.0 moved in
    let bytes : p.bytes ≡ q.bytes = sym (take-append_seam p.bytes (joined ps r))
    ∙ ap (λ (l : List ℕ). take (length p.bytes) l) e ∙ ap (λ n. take n (q.bytes ++ joined qs s)) one.0
    ∙ take-append_seam q.bytes (joined qs s) in
    let rests : joined ps r ≡ joined qs s =
    sym (drop-append_seam p.bytes (joined ps r)) ∙ ap (λ (l : List ℕ). drop (length p.bytes) l) e
    ∙ ap (λ n. drop n (q.bytes ++ joined qs s)) one.0 ∙ drop-append_seam q.bytes (joined qs s) in
    let others = cut_unique ps qs r s rests h.1 k.1 no_r no_s in (
      ap (λ (x : Piece). x ∷ ps) (same_piece p q one.1 bytes)
          ∙ ap (λ (l : List Piece). q ∷ l) others.0,
      others.1,
    )

cuts_unique : (text : List ℕ) (ps qs : List Piece) (r s : List ℕ) → IsCutUpTo text ps r → IsCutUpTo text qs s
    → NoPiece r → NoPiece s → (ps ≡ qs) × (r ≡ s)
cuts_unique text ps qs r s c d = cut_unique ps qs r s (c.whole ∙ sym d.whole) c.longest d.longest

pub tokens_unique : (text : List ℕ) (ts us : List Token) → AreTokens text ts → AreTokens text us → ts ≡ us
tokens_unique text ts us (ps, c, e) (qs, d, g) =
    e ∙ ap (tokens_from 0 first_place)
    (cuts_unique text ps qs [] [] c d nothing_there nothing_there).0 ∙ sym g

pub tokens_or_fault : (text : List ℕ) (ts : List Token) (f : LexFault)
    → AreTokens text ts → HasFault text f → ⊥
tokens_or_fault text ts f (ps, c, e) h =
    h.some (sym (cuts_unique text ps h.pieces [] h.rest c h.cut nothing_there h.stuck).1)

pub fault_unique : (text : List ℕ) (f g : LexFault) → HasFault text f → HasFault text g → f ≡ g
fault_unique text f g h k =
    let one = cuts_unique text h.pieces k.pieces h.rest k.rest h.cut k.cut h.stuck k.stuck in
    h.is ∙ ap (λ (r : List ℕ). fault_of r (place_after first_place (joined h.pieces []))) one.1
    ∙ ap (λ (ps : List Piece). fault_of k.rest (place_after first_place (joined ps []))) one.0 ∙ sym k.is

pub tokenization_is_unique : (text : List ℕ) (ps qs : List Piece)
    → IsCutUpTo text ps [] → IsCutUpTo text qs [] → ps ≡ qs
tokenization_is_unique text ps qs c d = (cuts_unique text ps qs [] [] c d nothing_there nothing_there).0
