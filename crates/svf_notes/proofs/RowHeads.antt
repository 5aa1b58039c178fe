-- What is kept of the beginnings of rows.
use Rattle.std.proofs.Common.{◌≡◌, ℕ, zero, suc, ◌+◌, ◌<◌, List, [], ◌∷◌, ◌++◌, length, drop, get_or, inl}
use Rattle.std.proofs.Common.{inr, ap, sym, ◌∙◌, subst, arith}
use Rattle.std.specs.Prelude.{◌⊎◌, ◌≢◌, Some, slice_set}
use Rattle.std.proofs.Math.Seq.{drop-append_seam}
use Rattle.std.proofs.lemmas.List.{length-set}
use Rattle.ij_io.specs.Bytes.{Adds}
use Rattle.net_graph.specs.declared.net.Net.{Net}
use Rattle.svf_notes.specs.declared.heads.Head.{Head}
use Rattle.svf_notes.specs.Heads.{AreHeads, AreHeadsFrom, IsHead, row_head}

pub head_at : (net : Net) (s i : ℕ) (hs : List Head) (d : Head) → i < length hs
    → AreHeadsFrom net s hs → IsHead net (s + i) (get_or hs i d)
head_at net s i [] d h are = absurd (omega (arith, h))
head_at net s zero (x ∷ hs) d h are =
    let same : s ≡ s + 0 = omega arith in subst (λ r. IsHead net r x) same are.0
head_at net s (suc i) (x ∷ hs) d h are =
    let same : suc s + i ≡ s + suc i = omega arith in
    subst (λ r. IsHead net r (get_or hs i d)) same (head_at net (suc s) i hs d (omega (arith, h)) are.1)

pub head_set : (net : Net) (s i : ℕ) (hs : List Head) (x : Head) → AreHeadsFrom net s hs
    → IsHead net (s + i) x → AreHeadsFrom net s (slice_set hs i x)
head_set net s i [] x are is = tt
head_set net s zero (y ∷ hs) x are is =
    let same : s + 0 ≡ s = omega arith in
    (subst (λ r. IsHead net r x) same is, are.1)
head_set net s (suc i) (y ∷ hs) x are is =
    let same : s + suc i ≡ suc s + i = omega arith in
    (are.0, head_set net (suc s) i hs x are.1 (subst (λ r. IsHead net r x) same is))

pub head_push : (net : Net) (s : ℕ) (hs : List Head) (x : Head) → AreHeadsFrom net s hs
    → x.text.items ≡ [] → AreHeadsFrom net s (hs ++ x ∷ [])
head_push net s [] x are none = (inl none, tt)
head_push net s (y ∷ hs) x are none = (are.0, head_push net (suc s) hs x are.1 none)

-- what is kept is what the row begins with, where it is for this position
pub kept_is : (net : Net) (r at : ℕ) (x : Head) → IsHead net r x → x.at ≡ at
    → x.text.items ≢ [] → x.text.items ≡ row_head net r at
kept_is net r at x (inl none) same some = absurd (some none)
kept_is net r at x (inr is) same some = is ∙ ap (row_head net r) same

pub kept_at : (net : Net) (hs : List Head) (i : ℕ) (x : Head) → i < length hs
    → AreHeadsFrom net 0 hs → x ≡ get_or hs i x → IsHead net i x
kept_at net hs i x h are is =
    let same : 0 + i ≡ i = omega arith in
    subst (IsHead net i) (sym is)
    (subst (λ r. IsHead net r (get_or hs i x)) same (head_at net 0 i hs x h are))

pub kept_set : (net : Net) (i : ℕ) (hs : List Head) (x : Head) → AreHeads net hs
    → IsHead net i x → AreHeads net (slice_set hs i x)
kept_set net i hs x are is =
    let same : i ≡ 0 + i = omega arith in
    record {
      count = length-set hs i x ∙ are.count;
      each = head_set net 0 i hs x are.each (subst (λ r. IsHead net r x) same is);
    }

one_some : (a b : List ℕ) → Some a ≡ Some b → a ≡ b
one_some a b e = cc

-- what was written after some bytes
pub after_bytes : (old new piece : List ℕ) → Adds (Some old) (Some new) piece → drop (length old) new ≡ piece
after_bytes old new piece adds =
    ap (drop (length old)) (one_some new (old ++ piece) adds.added) ∙ drop-append_seam old piece

-- what is kept anew
pub kept_new : (net : Net) (r at : ℕ) (x : Head) (text : List ℕ) → text ≡ row_head net r at
    → (x.text.items ≡ []) ⊎ ((x.at ≡ at) × (x.text.items ≡ text)) → IsHead net r x
kept_new net r at x text is (inl none) = inl none
kept_new net r at x text is (inr kept) = inr (kept.1 ∙ is ∙ ap (row_head net r) (sym kept.0))
