-- What the loops keep: what is done, and what is left of the whole.
use Rattle.std.proofs.Common.{◌≡◌, ◌<◌, ◌≤◌, ◌+◌, ℕ, suc, List, [], ◌∷◌, ◌++◌, length, drop, ap, sym, ◌∙◌}
use Rattle.std.proofs.Common.{arith, append_assoc, append-nil}
use Rattle.std.specs.Prelude.{get_or}
use Rattle.std.proofs.lemmas.List.{at_drop_all, at_drop_more, length-map}
use Rattle.icl_lexer.specs.Values.{SeenItem}
use Rattle.rand_pcg.specs.Lcg.{Lcg}
use Rattle.design_maker.proofs.Changes.{length-change_at}
use Rattle.design_maker.specs.declared.instrument.Instrument.{Instrument}
use Rattle.design_maker.specs.declared.procedure.Turn.{Turn}
use Rattle.design_maker.specs.Instruments.{drawn_instrument, drawn_instruments}
use Rattle.design_maker.specs.Network.{sib_item, sib_items}
use Rattle.design_maker.specs.Numbered.{numbered}
use Rattle.design_maker.specs.Procedure.{after_turn, change_at, drawn_turn, run, turn_text, turns_text}
use Rattle.design_maker.specs.Procedure.{word_at, written}

-- ---- things with their numbers

-- ---- SIBs

pub sibs_next : (i sibs j n m : ℕ) (done whole : List SeenItem) → n ≡ suc m
    → done ++ sib_items i sibs (j + 1) n ≡ whole
    → (done ++ sib_item i sibs (j + 1) ∷ []) ++ sib_items i sibs (j + 1 + 1) m ≡ whole
sibs_next i sibs j n m done whole some before =
    let more : j + 1 + 1 ≡ suc (j + 1) = omega arith in
    append_assoc done (sib_item i sibs (j + 1) ∷ []) (sib_items i sibs (j + 1 + 1) m)
    ∙ ap (λ l. done ++ l) (ap (λ k. sib_item i sibs (j + 1) ∷ sib_items i sibs k m) more
    ∙ ap (sib_items i sibs (j + 1)) (sym some))
    ∙ before

-- ---- instruments

pub drawn_next : (n m : ℕ) (g h : Lcg) (x : Instrument) (done whole : List Instrument) → n ≡ suc m
    → (x, h) ≡ drawn_instrument g → done ++ (drawn_instruments n g).0 ≡ whole
    → (done ++ x ∷ []) ++ (drawn_instruments m h).0 ≡ whole
drawn_next n m g h x done whole some is before =
    append_assoc done (x ∷ []) (drawn_instruments m h).0
    ∙ ap (λ (p : Instrument × Lcg). done ++ (p.0 ∷ (drawn_instruments m p.1).0)) is
    ∙ ap (λ k. done ++ (drawn_instruments k g).0) (sym some)
    ∙ before

pub after_next : (n m : ℕ) (g h last : Lcg) (x : Instrument) → n ≡ suc m → (x, h) ≡ drawn_instrument g
    → (drawn_instruments n g).1 ≡ last → (drawn_instruments m h).1 ≡ last
after_next n m g h last x some is before =
    ap (λ (p : Instrument × Lcg). (drawn_instruments m p.1).1) is
    ∙ ap (λ k. (drawn_instruments k g).1) (sym some)
    ∙ before

pub drawn_done : (n : ℕ) (g last : Lcg) (done whole : List Instrument) → n ≡ 0
    → done ++ (drawn_instruments n g).0 ≡ whole → (drawn_instruments n g).1 ≡ last
    → ◌≡◌ {A = List Instrument × Lcg} (done, g) (whole, last)
drawn_done n g last done whole none before following =
    ap (λ l. (l, g)) (sym (append-nil done) ∙ ap (λ k. done ++ (drawn_instruments k g).0) (sym none) ∙ before)
    ∙ ap (λ h. (whole, h)) (ap (λ k. (drawn_instruments k g).1) (sym none) ∙ following)

-- ---- turns

pub turn_next : (n m : ℕ) (xs ys : List Instrument) (g h : Lcg) (t : Turn) (word : ℕ) (done whole : List ℕ)
    → n ≡ suc m → (t, h) ≡ drawn_turn xs g → ys ≡ after_turn t xs → word ≡ word_at ys t.at
    → done ++ turns_text n xs g ≡ whole → (done ++ turn_text t word) ++ turns_text m ys h ≡ whole
turn_next n m xs ys g h t word done whole some is after held before =
    append_assoc done (turn_text t word) (turns_text m ys h)
    ∙ ap (λ k. done ++ (turn_text t k ++ turns_text m ys h)) held
    ∙ ap (λ l. done ++ (turn_text t (word_at l t.at) ++ turns_text m l h)) after
    ∙ ap (λ (p : Turn × Lcg). done
    ++ (turn_text p.0 (word_at (after_turn p.0 xs) p.0.at) ++ turns_text m (after_turn p.0 xs) p.1)) is
    ∙ ap (λ k. done ++ turns_text k xs g) (sym some)
    ∙ before

-- a turn changes no number of instruments
pub same_count : (t : Turn) (xs ys : List Instrument) → ys ≡ after_turn t xs → length ys ≡ length xs
same_count t xs ys after =
    ap length after ∙ length-map (change_at t.at (written t.value) xs) (run t.cycles)
    ∙ length-change_at t.at (written t.value) xs
