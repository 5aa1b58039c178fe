-- Where the queue puts a write or a read: in place of one of the same bit, or at the end.
use Rattle.std.proofs.Common.{◌≡◌, ℕ, zero, suc, ◌<◌, Bool, true, false, cond, List, [], ◌∷◌, ◌++◌, length}
use Rattle.std.proofs.Common.{get_or, set, Option, Some, None, refl, sym, ap, ◌∙◌, arith}
use Rattle.std.specs.List.{position}
use Rattle.std.proofs.lemmas.List.Quantifiers.{position-Some}
use Rattle.std.proofs.lemmas.List.Sums.{fails_before_first}
use Rattle.net_graph.specs.declared.step.WriteBit.{WriteBit}
use Rattle.net_graph.specs.declared.step.ReadBit.{ReadBit}
use Rattle.net_graph.specs.Path.{same_place}
use Rattle.pdl_targets.specs.Rounds.{put_write, put_read}
use Rattle.net_graph.proofs.Numbering.{no_position}

-- an item in place of the one at an index, or at the end
abbrev pub placed_at : {A : Type 0} → Option ℕ → List A → A → List A
placed_at None xs x = xs ++ x ∷ []
placed_at (Some i) xs x = set xs i x

abbrev put : {A : Type 0} → (A → Bool) → List A → A → List A
put p [] x = x ∷ []
put p (v ∷ vs) x = cond (p v) (x ∷ vs) (v ∷ put p vs x)

put_some : {A : Type 0} (p : A → Bool) (xs : List A) (i : ℕ) (x : A) → i < length xs
    → p (get_or xs i x) ≡ true → ((k : ℕ) → k < i → p (get_or xs k x) ≡ false) → put p xs x ≡ set xs i x
put_some p [] i x h t f = absurd (omega (arith, h))
put_some p (v ∷ vs) zero x h t f = ap (λ b. cond b (x ∷ vs) (v ∷ put p vs x)) t
put_some p (v ∷ vs) (suc i) x h t f =
    ap (λ b. cond b (x ∷ vs) (v ∷ put p vs x)) (f 0 (omega arith))
    ∙ ap (λ l. v ∷ l) (put_some p vs i x (omega (arith, h)) t (λ k l. f (suc k) (omega (arith, l))))

put_none : {A : Type 0} (p : A → Bool) (xs : List A) (x : A)
    → ((k : ℕ) → k < length xs → p (get_or xs k x) ≡ false) → put p xs x ≡ xs ++ x ∷ []
put_none p [] x f = refl
put_none p (v ∷ vs) x f =
    ap (λ b. cond b (x ∷ vs) (v ∷ put p vs x)) (f 0 (omega arith))
    ∙ ap (λ l. v ∷ l) (put_none p vs x (λ k l. f (suc k) (omega (arith, l))))

put_found : {A : Type 0} (p : A → Bool) (xs : List A) (x : A) (o : Option ℕ)
    → o ≡ position p xs → put p xs x ≡ placed_at o xs x
put_found p xs x None e =
    let long = no_position p xs e in
    put_none p xs x (λ k h. fails_before_first p xs k x (omega (arith, h, long)))
put_found p xs x (Some i) e =
    let at = position-Some p xs i x (sym e) in
    put_some p xs i x at.0 at.1 at.2

is_put_write : (ws : List WriteBit) (w : WriteBit) → put_write ws w ≡ put (λ v. same_place v.bit w.bit) ws w
is_put_write [] w = refl
is_put_write (v ∷ vs) w = ap (λ l. cond (same_place v.bit w.bit) (w ∷ vs) (v ∷ l)) (is_put_write vs w)

pub write_placed : (ws : List WriteBit) (w : WriteBit) (o : Option ℕ)
    → o ≡ position (λ v. same_place v.bit w.bit) ws → placed_at o ws w ≡ put_write ws w
write_placed ws w o e = sym (is_put_write ws w ∙ put_found (λ v. same_place v.bit w.bit) ws w o e)

is_put_read : (rs : List ReadBit) (r : ReadBit) → put_read rs r ≡ put (λ q. same_place q.bit r.bit) rs r
is_put_read [] r = refl
is_put_read (q ∷ qs) r = ap (λ l. cond (same_place q.bit r.bit) (r ∷ qs) (q ∷ l)) (is_put_read qs r)

pub read_placed : (rs : List ReadBit) (r : ReadBit) (o : Option ℕ)
    → o ≡ position (λ q. same_place q.bit r.bit) rs → placed_at o rs r ≡ put_read rs r
read_placed rs r o e = sym (is_put_read rs r ∙ put_found (λ q. same_place q.bit r.bit) rs r o e)
