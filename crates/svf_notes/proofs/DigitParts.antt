-- The digits of bits, part by part.
use Rattle.std.proofs.Common.{◌≡◌, ◌+◌, ℕ, List, [], ◌∷◌, ◌++◌, sym, ap, ◌∙◌, append_assoc, append-nil, drop}
use Rattle.std.proofs.Common.{take}
use Rattle.std.proofs.lemmas.List.{drop-drop, take-append-drop}
use Rattle.svf_notes.specs.Notes.{digit_of, digits}
use Rattle.svf_notes.specs.declared.scan.Shifted.{Shifted}
use Rattle.svf_notes.specs.declared.scan.Shown.{Shown}

digits-append : (shown : Shown) (a b : List Shifted)
    → digits shown (a ++ b) ≡ digits shown b ++ digits shown a
digits-append shown [] b = sym (append-nil (digits shown b))
digits-append shown (x ∷ a) b =
    ap (λ t. t ++ digit_of shown x ∷ []) (digits-append shown a b)
    ∙ append_assoc (digits shown b) (digits shown a) (digit_of shown x ∷ [])

-- the digits from a position on are those from a later one on, and then those of the bits between
pub digits-part : (shown : Shown) (bits : List Shifted) (at n : ℕ)
    → digits shown (drop at bits) ≡ digits shown (drop (at + n) bits) ++ digits shown (take n (drop at bits))
digits-part shown bits at n =
    ap (digits shown) (sym (take-append-drop n (drop at bits)))
    ∙ digits-append shown (take n (drop at bits)) (drop n (drop at bits))
    ∙ ap (λ t. digits shown t ++ digits shown (take n (drop at bits))) (drop-drop n at bits)
