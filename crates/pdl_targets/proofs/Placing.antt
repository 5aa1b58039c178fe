-- Each write and each read is put into the group of its round.
use Rattle.std.proofs.Common.{◌≡◌, ◌≤◌, ◌<◌, ℕ, zero, suc, Bool, true, false, cond, List, [], ◌∷◌, ◌++◌}
use Rattle.std.proofs.Common.{length, get_or, set, map, Some, None, refl, sym, ap, ◌∙◌, arith}
use Rattle.std.specs.Prelude.{◌||◌, filter, Result, Ok, Err, OnOk}
use Rattle.std.proofs.lemmas.List.Elements.{filter-append}
use Rattle.ij_bits.specs.declared.out_of_memory.OutOfMemory.{OutOfMemory}
use Rattle.net_graph.specs.declared.step.WriteBit.{WriteBit}
use Rattle.net_graph.specs.declared.step.ReadBit.{ReadBit}
use Rattle.net_graph.specs.declared.step.Group.{Group}
use Rattle.net_graph.specs.SeenSteps.{SeenGroup, seen_group}
use Rattle.net_graph.specs.Path.{is_in}
use Rattle.pdl_targets.specs.Laws.{times_in_all}
use Rattle.pdl_targets.specs.Rounds.{part_on}
use Rattle.pdl_targets.specs.SeenRounds.{AreOnceInAll, IsRoundOf, TakesRead, TakesWrite, is_in_any}
use Rattle.pdl_targets.specs.SeenRounds.{seen_groups, with_read, with_write}
use Rattle.pdl_targets.proofs.Parted.{some_in}
use Rattle.std.proofs.lemmas.Bool.{or_parts}
use Rattle.pdl_targets.proofs.Greedy.{not_in}

-- ---- a register that is in one round is in no other

in_none : (rss : List (List ℕ)) (r : ℕ) → times_in_all rss r ≡ 0 → is_in_any rss r ≡ false
in_none [] r none = refl
in_none (rs ∷ rss) r none = ap (λ t. t || is_in_any rss r) (not_in rs r (omega (arith, none)))
    ∙ in_none rss r (omega (arith, none))

in_some : (rss : List (List ℕ)) (k r : ℕ) → k < length rss
    → is_in (get_or rss k []) r ≡ true → 1 ≤ times_in_all rss r
in_some [] k r l e = absurd (omega (arith, l))
in_some (rs ∷ rss) zero r l e = let some = some_in rs r e in omega (arith, some)
in_some (rs ∷ rss) (suc k) r l e = let some = in_some rss k r (omega (arith, l)) e in omega (arith, some)

-- ---- the parts of a queue with one item more

-- parts with an item more of a register: those of the rounds that it isn't in are as before
module _ (before after : List ℕ → SeenGroup) (r : ℕ) (same : (rs : List ℕ)
    → is_in rs r ≡ false → before rs ≡ after rs) where
  pub in_no_round : (rss : List (List ℕ)) → is_in_any rss r ≡ false → map before rss ≡ map after rss
  in_no_round [] e = refl
  in_no_round (rs ∷ rss) e =
      let no = or_parts (is_in rs r) (is_in_any rss r) e in
      ap (λ g. g ∷ map before rss) (same rs no.0) ∙ ap (λ gs. after rs ∷ gs) (in_no_round rss no.1)

  module _ (put : List SeenGroup → ℕ → List SeenGroup) (here : (rs : List ℕ) (gs : List SeenGroup)
      → is_in rs r ≡ true → put (before rs ∷ gs) 0 ≡ after rs ∷ gs)
      (there : (g : SeenGroup) (gs : List SeenGroup) (k : ℕ) → put (g ∷ gs) (suc k) ≡ g ∷ put gs k) where
    pub in_one_round : (rss : List (List ℕ)) (k : ℕ) → times_in_all rss r ≤ 1 → k < length rss
        → is_in (get_or rss k []) r ≡ true → put (map before rss) k ≡ map after rss
    in_one_round [] k once l e = absurd (omega (arith, l))
    in_one_round (rs ∷ rss) zero once l e =
        let some = some_in rs r e in
        here rs (map before rss) e ∙ ap (λ gs. after rs ∷ gs)
        (in_no_round rss (in_none rss r (omega (arith, once, some))))
    in_one_round (rs ∷ rss) (suc k) once l e =
        let some = in_some rss k r (omega (arith, l)) e in
        there (before rs) (map before rss) k
        ∙ ap (λ g. g ∷ put (map before rss) k) (same rs (not_in rs r (omega (arith, once, some))))
        ∙ ap (λ gs. after rs ∷ gs) (in_one_round rss k (omega (arith, once)) (omega (arith, l)) e)

-- what a filter takes of one item more
module _ {X : Type 0} (p : X → Bool) (xs : List X) (x : X) where
  taken_more : (t : Bool) → p x ≡ t → filter p (xs ++ x ∷ []) ≡ filter p xs ++ cond t (x ∷ []) []
  taken_more t e = filter-append p xs (x ∷ []) ∙ ap (λ b. filter p xs ++ cond b (x ∷ []) []) e

  left_out : p x ≡ false → filter p xs ≡ filter p (xs ++ x ∷ [])
  left_out e = sym (taken_more false e ∙ nothing_more (filter p xs))
    where
      nothing_more : (ys : List X) → ys ++ [] ≡ ys
      nothing_more [] = refl
      nothing_more (y ∷ ys) = ap (λ l. y ∷ l) (nothing_more ys)

module _ (rss : List (List ℕ)) (writes : List WriteBit) (reads : List ReadBit) where
  abbrev parts : List WriteBit → List ReadBit → List SeenGroup
  parts ws rs = map (part_on ws rs) rss

  module _ (w : WriteBit) where
    no_write : (rs : List ℕ) → is_in rs w.bit.reg ≡ false
        → part_on writes reads rs ≡ part_on (writes ++ w ∷ []) reads rs
    no_write rs e = ap (λ ws. record { writes = ws; reads = filter (λ r. is_in rs r.bit.reg) reads })
        (left_out (λ (v : WriteBit). is_in rs v.bit.reg) writes w e)

    its_write : (rs : List ℕ) (gs : List SeenGroup) → is_in rs w.bit.reg ≡ true
        → with_write (part_on writes reads rs ∷ gs) 0 w ≡ part_on (writes ++ w ∷ []) reads rs ∷ gs
    its_write rs gs e = ap (λ ws. record { writes = ws; reads = filter (λ r. is_in rs r.bit.reg) reads } ∷ gs)
        (sym (taken_more (λ (v : WriteBit). is_in rs v.bit.reg) writes w true e))

    pub write_placed : (now : List SeenGroup) (k : ℕ) → AreOnceInAll rss → IsRoundOf rss w.bit.reg (Some k)
        → now ≡ with_write (parts writes reads) k w → now ≡ parts (writes ++ w ∷ []) reads
    write_placed now k once is e =
        e ∙ in_one_round (part_on writes reads) (part_on (writes ++ w ∷ []) reads) w.bit.reg no_write
        (λ gs k. with_write gs k w) its_write (λ g gs k. refl) rss k (once w.bit.reg) is.0 is.1

    pub write_nowhere : IsRoundOf rss w.bit.reg None → parts writes reads ≡ parts (writes ++ w ∷ []) reads
    write_nowhere is = in_no_round (part_on writes reads)
        (part_on (writes ++ w ∷ []) reads) w.bit.reg no_write rss is

  module _ (q : ReadBit) where
    no_read : (rs : List ℕ) → is_in rs q.bit.reg ≡ false
        → part_on writes reads rs ≡ part_on writes (reads ++ q ∷ []) rs
    no_read rs e = ap (λ qs. record { writes = filter (λ w. is_in rs w.bit.reg) writes; reads = qs })
        (left_out (λ (v : ReadBit). is_in rs v.bit.reg) reads q e)

    its_read : (rs : List ℕ) (gs : List SeenGroup) → is_in rs q.bit.reg ≡ true
        → with_read (part_on writes reads rs ∷ gs) 0 q ≡ part_on writes (reads ++ q ∷ []) rs ∷ gs
    its_read rs gs e = ap (λ qs. record { writes = filter (λ w. is_in rs w.bit.reg) writes; reads = qs } ∷ gs)
        (sym (taken_more (λ (v : ReadBit). is_in rs v.bit.reg) reads q true e))

    pub read_placed : (now : List SeenGroup) (k : ℕ) → AreOnceInAll rss → IsRoundOf rss q.bit.reg (Some k)
        → now ≡ with_read (parts writes reads) k q → now ≡ parts writes (reads ++ q ∷ [])
    read_placed now k once is e =
        e ∙ in_one_round (part_on writes reads) (part_on writes (reads ++ q ∷ [])) q.bit.reg no_read
        (λ gs k. with_read gs k q) its_read (λ g gs k. refl) rss k (once q.bit.reg) is.0 is.1

    pub read_nowhere : IsRoundOf rss q.bit.reg None → parts writes reads ≡ parts writes (reads ++ q ∷ [])
    read_nowhere is = in_no_round (part_on writes reads)
        (part_on writes (reads ++ q ∷ [])) q.bit.reg no_read rss is

-- ---- one item more in a group

pub write_put : (gs : List Group) (k : ℕ) (old new : Group) (w : WriteBit) → k < length gs
    → old ≡ get_or gs k old → new.writes.items ≡ old.writes.items ++ w ∷ []
    → new.reads.items ≡ old.reads.items → seen_groups (set gs k new) ≡ with_write (seen_groups gs) k w
write_put [] k old new w l is e f = absurd (omega (arith, l))
write_put (g ∷ gs) zero old new w l is e f =
    ap (λ ws. record { writes = ws; reads = new.reads.items } ∷ seen_groups gs)
    (e ∙ ap (λ (x : Group). x.writes.items ++ w ∷ []) is)
    ∙ ap (λ qs. record { writes = g.writes.items ++ w ∷ []; reads = qs } ∷ seen_groups gs)
    (f ∙ ap (λ (x : Group). x.reads.items) is)
write_put (g ∷ gs) (suc k) old new w l is e f =
    ap (λ x. seen_group g ∷ x) (write_put gs k old new w (omega (arith, l)) is e f)

pub read_put : (gs : List Group) (k : ℕ) (old new : Group) (q : ReadBit) → k < length gs
    → old ≡ get_or gs k old → new.reads.items ≡ old.reads.items ++ q ∷ []
    → new.writes.items ≡ old.writes.items → seen_groups (set gs k new) ≡ with_read (seen_groups gs) k q
read_put [] k old new q l is e f = absurd (omega (arith, l))
read_put (g ∷ gs) zero old new q l is e f =
    ap (λ qs. record { writes = new.writes.items; reads = qs } ∷ seen_groups gs)
    (e ∙ ap (λ (x : Group). x.reads.items ++ q ∷ []) is)
    ∙ ap (λ ws. record { writes = ws; reads = g.reads.items ++ q ∷ [] } ∷ seen_groups gs)
    (f ∙ ap (λ (x : Group). x.writes.items) is)
read_put (g ∷ gs) (suc k) old new q l is e f =
    ap (λ x. seen_group g ∷ x) (read_put gs k old new q (omega (arith, l)) is e f)

pub no_write_put : (gs : List Group) (k : ℕ) (w : WriteBit) → length gs ≤ k
    → seen_groups gs ≡ with_write (seen_groups gs) k w
no_write_put [] k w l = refl
no_write_put (g ∷ gs) zero w l = absurd (omega (arith, l))
no_write_put (g ∷ gs) (suc k) w l = ap (λ x. seen_group g ∷ x) (no_write_put gs k w (omega (arith, l)))

pub no_read_put : (gs : List Group) (k : ℕ) (q : ReadBit) → length gs ≤ k
    → seen_groups gs ≡ with_read (seen_groups gs) k q
no_read_put [] k q l = refl
no_read_put (g ∷ gs) zero q l = absurd (omega (arith, l))
no_read_put (g ∷ gs) (suc k) q l = ap (λ x. seen_group g ∷ x) (no_read_put gs k q (omega (arith, l)))

pub takes_write : (result : Result (Unit {0}) OutOfMemory) (rounds : List (List ℕ)) (k : ℕ) (w : WriteBit)
    (old now : List Group) → AreOnceInAll rounds → IsRoundOf rounds w.bit.reg (Some k)
    → OnOk result (seen_groups now ≡ with_write (seen_groups old) k w)
    → OnOk result (TakesWrite rounds w old now)
takes_write (Ok u) rounds k w old now once is e = λ writes reads h. write_placed rounds writes reads w
    (seen_groups now) k once is (e ∙ ap (λ gs. with_write gs k w) h)
takes_write (Err x) rounds k w old now once is e = tt

pub takes_read : (result : Result (Unit {0}) OutOfMemory) (rounds : List (List ℕ)) (k : ℕ) (q : ReadBit)
    (old now : List Group) → AreOnceInAll rounds → IsRoundOf rounds q.bit.reg (Some k)
    → OnOk result (seen_groups now ≡ with_read (seen_groups old) k q)
    → OnOk result (TakesRead rounds q old now)
takes_read (Ok u) rounds k q old now once is e = λ writes reads h. read_placed rounds writes reads q
    (seen_groups now) k once is (e ∙ ap (λ gs. with_read gs k q) h)
takes_read (Err x) rounds k q old now once is e = tt
