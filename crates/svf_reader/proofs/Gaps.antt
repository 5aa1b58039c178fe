-- Blanks and comments before a written command.
use Rattle.std.proofs.Common.{◌≡◌, ℕ, suc, ◌+◌, Bool, true, false, cond, List, [], ◌∷◌, ◌++◌, length, refl}
use Rattle.std.proofs.Common.{ap, sym, ◌∙◌, arith}
use Rattle.std.specs.Prelude.{◌==◌, ◌&&◌, ◌||◌}
use Rattle.std.proofs.lemmas.Bool.Decides.{nat_tests}
use Rattle.svf_writer.specs.Written.{text_of}
use Rattle.svf_reader.specs.declared.so_far.ReadSoFar.{ReadSoFar}
use Rattle.ij_text.specs.Bytes.{is_blank}
use Rattle.svf_reader.specs.Texts.{first, opens, in_comment, plain_from, plain, texts}
use Rattle.svf_reader.specs.Meaning.{read_from}
use Rattle.svf_reader.specs.Scripts.{IsGapFrom, CommandsAreReadAgain}
use Rattle.svf_reader.proofs.Rereading.{blank_front, written_read}

-- what a blank isn't
record IsOther (b : ℕ) : Type 0 where
  mark : (b == 33) ≡ false
  slash : (b == 47) ≡ false
  end : (b == 59) ≡ false

other : (b : ℕ) → is_blank b ≡ true → IsOther b
other b h = record {
  mark = grind (arith, nat_tests);
  slash = grind (arith, nat_tests);
  end = grind (arith, nat_tests);
}

or_right : (k i : Bool) → (k || i) ≡ true → k ≡ false → i ≡ true
or_right true i e f = absurd (cc)
or_right false i e f = e

blank_opens : (b next : ℕ) → is_blank b ≡ true → opens b next ≡ false
blank_opens b next h =
    let no = other b h in
    ap (λ k. k || (b == 47 && next == 47)) no.mark ∙ ap (λ k. k && next == 47) no.slash

-- what follows a gap doesn't change which of its bytes stand in comments
same_comment : (inside : Bool) (b : ℕ) (bs xs : List ℕ) → IsGapFrom inside (b ∷ bs)
    → in_comment inside b (first (bs ++ xs)) ≡ in_comment inside b (first bs)
same_comment true b bs xs h = refl
same_comment false b (c ∷ cs) xs h = refl
same_comment false b [] xs h =
    let blank = or_right (opens b 0) (is_blank b) h.0 h.1 in
    blank_opens b (first xs) blank ∙ sym (blank_opens b 0 blank)

byte_front : (hidden : Bool) (b : ℕ) → (hidden || is_blank b) ≡ true
    → (kept : ReadSoFar) (at : ℕ) (xs : List ℕ)
    → read_from kept at (texts (cond hidden 32 b ∷ xs)) ≡ read_from kept (suc at) (texts xs)
byte_front true b h kept at xs = blank_front kept at 32 xs refl refl
byte_front false b h kept at xs = blank_front kept at b xs h (other b h).end

gap_read : (inside : Bool) (gap xs : List ℕ) → IsGapFrom inside gap → (kept : ReadSoFar) (at : ℕ)
    → read_from kept at (texts (plain_from inside (gap ++ xs)))
    ≡ read_from kept (at + length gap) (texts (plain xs))
gap_read inside [] xs h kept at =
    let same : at ≡ at + 0 = omega arith in
    ap (λ k. read_from kept at (texts (plain_from k xs))) h
    ∙ ap (λ n. read_from kept n (texts (plain xs))) same
gap_read inside (b ∷ bs) xs h kept at =
    let hidden = in_comment inside b (first bs) in
    let next : suc at + length bs ≡ at + suc (length bs) = omega arith in
    ap (λ k. read_from kept at (texts (cond k 32 b ∷ plain_from k (bs ++ xs))))
    (same_comment inside b bs xs h)
    ∙ byte_front hidden b h.0 kept at (plain_from hidden (bs ++ xs))
    ∙ gap_read hidden bs xs h.1 kept (suc at)
    ∙ ap (λ n. read_from kept n (texts (plain xs))) next

pub after_gap_read : CommandsAreReadAgain
after_gap_read c written kept at gap rest is =
    gap_read false gap (text_of c ++ rest) is kept at ∙ written_read c written kept (at + length gap) rest
