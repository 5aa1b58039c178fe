-- What a file holds after a piece more, and with the next piece after it.
use Rattle.std.specs.Option.{option_map}
use Rattle.std.specs.Prelude.{unwrap_or}
use Rattle.std.proofs.Common.{◌≡◌, ◌⊎◌, inl, inr, ⊎_elim, ℕ, zero, suc, Option, Some, None, List, [], ◌∷◌}
use Rattle.std.proofs.Common.{◌++◌, length, take, drop, refl, sym, ap, ◌∙◌, append_assoc, append-nil}
use Rattle.std.proofs.lemmas.List.{take-append-drop}
use Rattle.ij_io.specs.Bytes.{Adds, AddsPart}
use Rattle.ij_io.specs.Files.{Files, Grows, GrowsPart, bytes_of, file_at, told_bytes}
use Rattle.ij_io.specs.Pieces.{HoldsFront, HoldsPart, IsThere, with_piece}
use Rattle.std.proofs.lemmas.Option.{same_Some}

-- ---- maps one after the other

module _ {X Y Z : Type 0} (f : X → Y) (g : Y → Z) where
  both_maps : (o : Option X) → option_map g (option_map f o) ≡ option_map (λ x. g (f x)) o
  both_maps None = refl
  both_maps (Some x) = refl

same_map : {X Y : Type 0} (f g : X → Y) → ((x : X) → f x ≡ g x)
    → (o : Option X) → option_map f o ≡ option_map g o
same_map f g h None = refl
same_map f g h (Some x) = ap Some (h x)

told_is : (files : Option Files) (name : List ℕ)
    → told_bytes files name ≡ option_map (λ o. unwrap_or o []) (file_at files name)
told_is None name = refl
told_is (Some f) name = refl

-- ---- a file that is written

-- a file that was begun, or to which something was added
written : {X : Type 0} (from : Option X) (now : Option Files) (name : List ℕ) (bytes : X → List ℕ)
    → file_at now name ≡ option_map (λ x. Some (bytes x)) from
    → (told_bytes now name ≡ option_map bytes from) × IsThere now name
written from now name bytes e =
    let told : told_bytes now name ≡ option_map bytes from = told_is now name ∙ ap
    (option_map (λ o. unwrap_or o [])) e ∙ both_maps (λ x. Some (bytes x)) (λ o. unwrap_or o []) from in
    (told, e ∙ sym (both_maps bytes (λ b. Some b) from) ∙ ap (option_map (λ b. Some b)) (sym told))

module _ (old new : Option Files) (name : List ℕ) where
  pub grown : (piece : List ℕ) → Grows old new name piece
      → (told_bytes new name ≡ with_piece old name piece) × IsThere new name
  grown piece g =
      let w = written old new name (λ f. bytes_of f name ++ piece) g.grown in
      (w.0 ∙ sym (both_maps (λ f. bytes_of f name) (λ bytes. bytes ++ piece) old), w.1)

  -- a piece went to the file, and an empty one is begun
  pub next_begun : (piece : List ℕ) → told_bytes new name ≡ with_piece old name piece
      → with_piece new name [] ≡ with_piece old name piece
  next_begun piece e = same_map (λ bytes. bytes ++ []) (λ bytes. bytes) append-nil (told_bytes new name)
      ∙ no_map (told_bytes new name) ∙ e
    where
      no_map : (o : Option (List ℕ)) → option_map (λ bytes. bytes) o ≡ o
      no_map None = refl
      no_map (Some bytes) = refl

  pub begun : (piece : List ℕ) → file_at new name ≡ option_map (λ f. Some []) old
      → (with_piece new name piece ≡ option_map (λ f. piece) old) × IsThere new name
  begun piece e =
      let w = written old new name (λ f. []) e in
      (ap (option_map (λ bytes. bytes ++ piece)) w.0 ∙ both_maps (λ f. []) (λ bytes. bytes ++ piece) old, w.1)

-- ---- what it holds is a front of the text

pub front_stays : (files : Option Files) (name piece : List ℕ) → IsThere files name
    → HoldsFront files name (with_piece files name piece)
front_stays files name piece h =
    record { held = told_bytes files name; rest = piece; there = h; front = refl }

pub grown_part : (old new : Option Files) (name piece : List ℕ) → GrowsPart old new name piece
    → IsThere old name → HoldsFront new name (with_piece old name piece)
grown_part old new name piece g there = ⊎_elim same more g.either
  where
    same : file_at new name ≡ file_at old name → HoldsFront new name (with_piece old name piece)
    same e = record { held = told_bytes old name; rest = piece; there = e ∙ there; front = refl }

    more : ((count : ℕ)
        × (file_at new name ≡ option_map (λ f. Some (bytes_of f name ++ take count piece)) old))
        → HoldsFront new name (with_piece old name piece)
    more (count, e) =
        record {
          held = option_map (λ bytes. bytes ++ take count piece) (told_bytes old name);
          rest = drop count piece;
          there =
              e ∙ sym (both_maps (λ f. bytes_of f name ++ take count piece) (λ bytes. Some bytes) old)
              ∙ ap (option_map (λ bytes. Some bytes))
              (sym (both_maps (λ f. bytes_of f name) (λ bytes. bytes ++ take count piece) old));
          front =
              same_map (λ bytes. bytes ++ piece) (λ bytes. (bytes ++ take count piece) ++ drop count piece)
              (λ bytes. ap (λ p. bytes ++ p) (sym (take-append-drop count piece))
              ∙ sym (append_assoc bytes (take count piece) (drop count piece))) (told_bytes old name)
              ∙ sym (both_maps (λ bytes. bytes ++ take count piece)
              (λ bytes. bytes ++ drop count piece) (told_bytes old name));
        }

-- ---- a piece that grows

pub piece_adds : (files : Option Files) (name before after more : List ℕ)
    → Adds (Some before) (Some after) more
    → Adds (with_piece files name before) (with_piece files name after) more
piece_adds files name before after more a =
    let e : after ≡ before ++ more = same_Some after (before ++ more) a.added in
    record {
      added =
          ap (with_piece files name) e
          ∙ same_map (λ bytes. bytes ++ (before ++ more)) (λ bytes. (bytes ++ before) ++ more)
          (λ bytes. sym (append_assoc bytes before more)) (told_bytes files name)
          ∙ sym (both_maps (λ bytes. bytes ++ before) (λ bytes. bytes ++ more) (told_bytes files name));
    }

-- ---- the whole text, from an empty file on

abbrev pub nothing : Option Files → Option (List ℕ)
nothing files = option_map (λ _. []) files

pub first_piece : (old new : Option Files) (name piece front : List ℕ) → Adds (Some []) (Some piece) front
    → file_at new name ≡ option_map (λ f. Some []) old → Adds (nothing old) (with_piece new name piece) front
first_piece old new name piece front a e =
    let same : piece ≡ front = same_Some piece front a.added in
    record {
      added = (begun old new name piece e).0 ∙ ap (λ p. option_map (λ (f : Files). p) old) same
          ∙ sym (both_maps (λ f. []) (λ bytes. bytes ++ front) old);
    }

pub all_held : (old new : Option Files) (name bytes : List ℕ) → IsThere new name
    → Adds (nothing old) (told_bytes new name) bytes → file_at new name ≡ option_map (λ _. Some bytes) old
all_held old new name bytes there a =
    there ∙ ap (option_map (λ b. Some b)) (a.added ∙ both_maps (λ (f : Files). []) (λ b. b ++ bytes) old)
    ∙ both_maps (λ (f : Files). bytes) (λ b. Some b) old

-- a front of a front of the text
taken : (n : ℕ) (bytes held rest : List ℕ) → held ++ rest ≡ take n bytes → held ≡ take (length held) bytes
taken n bytes [] rest e = refl
taken zero bytes (h ∷ held) rest e = absurd cc
taken (suc n) [] (h ∷ held) rest e = absurd cc
taken (suc n) (b ∷ bytes) (h ∷ held) rest e =
    let first : h ≡ b = cc in
    let others : held ++ rest ≡ take n bytes = cc in
    ap (λ x. x ∷ held) first ∙ ap (λ l. b ∷ l) (taken n bytes held rest others)

pub part_held : (old new : Option Files) (name bytes : List ℕ) (text : Option (List ℕ))
    → AddsPart (nothing old) text bytes → HoldsFront new name text → HoldsPart old new name bytes
part_held None new name bytes text a h = inr (0, h.there ∙ none h.held (sym h.front ∙ a.added))
  where
    none : (held : Option (List ℕ)) → option_map (λ b. b ++ h.rest) held ≡ None
        → option_map (λ b. Some b) held ≡ None
    none None e = refl
    none (Some b) e = absurd cc
part_held (Some f) new name bytes text a h = some h.held h.there (sym h.front ∙ a.added)
  where
    some : (held : Option (List ℕ)) → file_at new name ≡ option_map (λ b. Some b) held
        → option_map (λ b. b ++ h.rest) held ≡ Some (take a.count bytes) → HoldsPart (Some f) new name bytes
    some None t e = absurd cc
    some (Some b) t e = inr (
      length b,
      t ∙ ap (λ x. Some (Some x))
          (taken a.count bytes b h.rest (same_Some (b ++ h.rest) (take a.count bytes) e)),
    )

-- nothing is begun, or an empty file
pub begin_part : (old new : Option Files) (name bytes : List ℕ)
    → ((file_at new name ≡ file_at old name) ⊎ (file_at new name ≡ option_map (λ f. Some []) old))
    → HoldsPart old new name bytes
begin_part old new name bytes h = ⊎_elim (λ e. inl e) (λ e. inr (0, e)) h
