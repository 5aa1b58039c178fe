-- What is known of the rounds of a mux's rows.
use Rattle.std.proofs.Common.{◌≡◌, ◌≢◌, ℕ, ◌+◌, ◌*◌, ◌<◌, ◌≤◌, Bool, true, false, refl, sym, ap, subst, ◌∙◌}
use Rattle.std.proofs.Common.{arith}
use Rattle.std.specs.Prelude.{◌==◌, ◌&&◌, ◌||◌, not}
use Rattle.std.specs.Int.{bit_at}
use Rattle.std.proofs.lemmas.Bool.{eq-eqb, eqb-true, false≢true}
use Rattle.pdl_targets.specs.Sets.{has_round, word_of}
use Rattle.pdl_targets.proofs.SetBits.{word_place}
use Rattle.pdl_targets.specs.Rows.{AreMuxSets, MuxSets, has_other, row_at}
use Rattle.std.proofs.Math.Bool.{or-true}
use Rattle.ij_bits.proofs.Tests.{number_turned}

-- ---- a row more has a round

-- where the round is another one
away_bits : (further x y several any has : Bool)
    → (((further && false) || several) || ((false || any) && not ((x && false) || has)))
    ≡ ((false && not y) || (several || (any && not has)))
away_bits true true y several any has = refl
away_bits true false y several any has = refl
away_bits false true y several any has = refl
away_bits false false y several any has = refl

-- where it is this round, and this row
here_bits : (several any has : Bool)
    → ((((any && not has) && true) || several) || ((true || any) && not ((true && true) || has)))
    ≡ ((true && not true) || (several || (any && not has)))
here_bits true true true = refl
here_bits true true false = refl
here_bits true false has = refl
here_bits false true true = refl
here_bits false true false = refl
here_bits false false has = refl

-- where it is another row
other_bits : (several any has had : Bool) → (has ≡ true → any ≡ true)
    → (has ≡ true → had ≡ true → several ≡ true)
    → ((((any && not had) && true) || several) || ((true || any) && not ((false && true) || has)))
    ≡ ((true && not false) || (several || (any && not has)))
other_bits several any false had covered both = or-true ((((any && not had) && true) || several))
other_bits several true true false covered both = refl
other_bits true true true true covered both = refl
other_bits false true true true covered both = absurd (false≢true (both refl refl))
other_bits several false true had covered both = absurd (false≢true (covered refl))

-- whether another row has a round
put_bits : (e x y further several any has had : Bool) → (e ≡ true → further ≡ (any && not had)) → x ≡ y
    → (x ≡ true → has ≡ had) → (has ≡ true → any ≡ true)
    → (x ≡ false → has ≡ true → had ≡ true → several ≡ true)
    → (((further && e) || several) || ((e || any) && not ((x && e) || has)))
    ≡ ((e && not y) || (several || (any && not has)))
put_bits false x y further several any has had is turned same covered both =
    away_bits further x y several any has
put_bits true true true further several any has had is turned same covered both =
    ap (λ f. ((f && true) || several) || ((true || any) && not ((true && true) || has)))
    (is refl ∙ ap (λ h. any && not h) (sym (same refl))) ∙ here_bits several any has
put_bits true false false further several any has had is turned same covered both =
    ap (λ f. ((f && true) || several) || ((true || any) && not ((false && true) || has))) (is refl)
    ∙ other_bits several any has had covered (both refl)
put_bits true true false further several any has had is turned same covered both =
    absurd (false≢true (sym turned))
put_bits true false true further several any has had is turned same covered both = absurd (false≢true turned)

-- any has the round
any_bits : (e x any has any_now has_now : Bool) → any_now ≡ (e || any) → has_now ≡ ((x && e) || has)
    → (has ≡ true → any ≡ true) → has_now ≡ true → any_now ≡ true
any_bits true x any has any_now has_now is_any is_has covered h = is_any
any_bits false true any has any_now has_now is_any is_has covered h = is_any ∙ covered (sym is_has ∙ h)
any_bits false false any has any_now has_now is_any is_has covered h = is_any ∙ covered (sym is_has ∙ h)

-- several has it where this row and another one have it
further_bits : (further several several_now any had : Bool) → several_now ≡ ((further && true) || several)
    → further ≡ (any && not had) → any ≡ true → (had ≡ true → several ≡ true) → several_now ≡ true
further_bits further several several_now any true is is_further has both =
    is ∙ ap (λ t. (further && true) || t) (both refl) ∙ or-true (further && true)
further_bits further several several_now any false is is_further has both =
    is ∙ ap (λ f. (f && true) || several) (is_further ∙ ap (λ t. t && true) has)

same_bits : (further e several several_now : Bool)
    → several_now ≡ ((further && e) || several) → several ≡ true → several_now ≡ true
same_bits further e several several_now is has =
    is ∙ ap (λ t. (further && e) || t) has ∙ or-true (further && e)

several_bits : (e x z further several several_now any has1 has1_now has2 has2_now had : Bool)
    → several_now ≡ ((further && e) || several)
    → has1_now ≡ ((x && e) || has1) → has2_now ≡ ((z && e) || has2)
    → (e ≡ true → further ≡ (any && not had)) → (x ≡ true → z ≡ true → ⊥)
    → (has1 ≡ true → has2 ≡ true → several ≡ true)
    → (has1 ≡ true → any ≡ true) → (has2 ≡ true → any ≡ true)
    → (x ≡ true → has1 ≡ had) → (z ≡ true → has2 ≡ had)
    → has1_now ≡ true → has2_now ≡ true → several_now ≡ true
several_bits false true true further several several_now any has1 has1_now has2 has2_now had is is1 is2
    is_further apart both any1 any2 own1 own2 h1 h2 =
    same_bits further false several several_now is (both (sym is1 ∙ h1) (sym is2 ∙ h2))
several_bits false true false further several several_now any has1 has1_now has2 has2_now had is is1 is2
    is_further apart both any1 any2 own1 own2 h1 h2 =
    same_bits further false several several_now is (both (sym is1 ∙ h1) (sym is2 ∙ h2))
several_bits false false true further several several_now any has1 has1_now has2 has2_now had is is1 is2
    is_further apart both any1 any2 own1 own2 h1 h2 =
    same_bits further false several several_now is (both (sym is1 ∙ h1) (sym is2 ∙ h2))
several_bits false false false further several several_now any has1 has1_now has2 has2_now had is is1 is2
    is_further apart both any1 any2 own1 own2 h1 h2 =
    same_bits further false several several_now is (both (sym is1 ∙ h1) (sym is2 ∙ h2))
several_bits true true true further several several_now any has1 has1_now has2 has2_now had is is1 is2
    is_further apart both any1 any2 own1 own2 h1 h2 = absurd (apart refl refl)
several_bits true true false further several several_now any has1 has1_now has2 has2_now had is is1 is2
    is_further apart both any1 any2 own1 own2 h1 h2 =
    let there : has2 ≡ true = sym is2 ∙ h2 in
    further_bits further several several_now any had is (is_further refl)
    (any2 there) (λ t. both (own1 refl ∙ t) there)
several_bits true false true further several several_now any has1 has1_now has2 has2_now had is is1 is2
    is_further apart both any1 any2 own1 own2 h1 h2 =
    let there : has1 ≡ true = sym is1 ∙ h1 in
    further_bits further several several_now any had is (is_further refl)
    (any1 there) (λ t. both there (own2 refl ∙ t))
several_bits true false false further several several_now any has1 has1_now has2 has2_now had is is1 is2
    is_further apart both any1 any2 own1 own2 h1 h2 =
    same_bits further true several several_now is (both (sym is1 ∙ h1) (sym is2 ∙ h2))

-- what is known where a row more has a round
pub record OneMore (stamp : ℕ) (old new : MuxSets) (row round : ℕ) (further : Bool) : Type 0 where
  pub were : AreMuxSets stamp old
  pub is_further : further
      ≡ (has_round stamp old.any round && not (has_round stamp (row_at old.rows row) round))
  pub several : (k : ℕ)
      → has_round stamp new.several k ≡ ((further && k == round) || has_round stamp old.several k)
  pub any : (k : ℕ) → has_round stamp new.any k ≡ (k == round || has_round stamp old.any k)
  pub rows : (r k : ℕ) → has_round stamp (row_at new.rows r) k
      ≡ ((r == row && k == round) || has_round stamp (row_at old.rows r) k)
  pub any_below : new.any.stamp ≤ stamp
  pub several_below : new.several.stamp ≤ stamp
  pub row_below : (r : ℕ) → (row_at new.rows r).stamp ≤ stamp

module _ (stamp : ℕ) (old new : MuxSets) (row round : ℕ) (further : Bool)
    (h : OneMore stamp old new row round further) where
  further_now : (k : ℕ) → (k == round) ≡ true
      → further ≡ (has_round stamp old.any k && not (has_round stamp (row_at old.rows row) k))
  further_now k here = h.is_further ∙ ap (λ n. has_round stamp old.any n && not
      (has_round stamp (row_at old.rows row) n)) (sym (eqb-true k round here))

  own_row : (r k : ℕ) → (r == row) ≡ true
      → has_round stamp (row_at old.rows r) k ≡ has_round stamp (row_at old.rows row) k
  own_row r k own = ap (λ q. has_round stamp (row_at old.rows q) k) (eqb-true r row own)

  pub other_put : (r k : ℕ)
      → has_other stamp new r k ≡ ((k == round && not (row == r)) || has_other stamp old r k)
  other_put r k =
      ap (λ t. t || (has_round stamp new.any k && not (has_round stamp (row_at new.rows r) k))) (h.several k)
      ∙ ap (λ t. ((further && k == round) || has_round stamp old.several k) ||
      (t && not (has_round stamp (row_at new.rows r) k))) (h.any k)
      ∙ ap (λ t. ((further && k == round) || has_round stamp old.several k) ||
      ((k == round || has_round stamp old.any k) && not t)) (h.rows r k)
      ∙ put_bits (k == round) (r == row) (row == r) further (has_round stamp old.several k)
      (has_round stamp old.any k) (has_round stamp (row_at old.rows r) k)
      (has_round stamp (row_at old.rows row) k)
      (further_now k) (number_turned r row) (own_row r k) (h.were.any_has r k)
      (λ apart. h.were.several_has r row k apart)

  pub more_are : AreMuxSets stamp new
  more_are = record {
    any_below = h.any_below;
    several_below = h.several_below;
    row_below = h.row_below;
    any_has = λ r k has.
        any_bits (k == round) (r == row) (has_round stamp old.any k) (has_round stamp (row_at old.rows r) k)
        (has_round stamp new.any k) (has_round stamp (row_at new.rows r) k)
        (h.any k) (h.rows r k) (h.were.any_has r k) has;
    several_has = λ r other k apart one two.
        several_bits (k == round) (r == row) (other == row) further (has_round stamp old.several k)
        (has_round stamp new.several k) (has_round stamp old.any k)
        (has_round stamp (row_at old.rows r) k) (has_round stamp (row_at new.rows r) k)
        (has_round stamp (row_at old.rows other) k) (has_round stamp (row_at new.rows other) k)
        (has_round stamp (row_at old.rows row) k)
        (h.several k) (h.rows r k) (h.rows other k) (further_now k) (not_both r other apart)
        (h.were.several_has r other k apart) (h.were.any_has r k) (h.were.any_has other k)
        (own_row r k) (own_row other k) one two;
  }
    where
      not_both : (r other : ℕ) → (r == other) ≡ false → (r == row) ≡ true → (other == row) ≡ true → ⊥
      not_both r other apart one two =
          false≢true (sym apart ∙ eq-eqb r other (eqb-true r row one ∙ sym (eqb-true other row two)))

-- a refusal: what has a round has it still, and no row has one more
pub kept_are : (stamp : ℕ) (old new : MuxSets) → AreMuxSets stamp old → new.any.stamp ≤ stamp
    → new.several.stamp ≤ stamp → ((r : ℕ) → (row_at new.rows r).stamp ≤ stamp)
    → ((k : ℕ) → has_round stamp old.any k ≡ true → has_round stamp new.any k ≡ true)
    → ((k : ℕ) → has_round stamp old.several k ≡ true → has_round stamp new.several k ≡ true)
    → ((r k : ℕ) → has_round stamp (row_at new.rows r) k ≡ has_round stamp (row_at old.rows r) k)
    → AreMuxSets stamp new
kept_are stamp old new h any_below several_below row_below any several rows = record {
  any_below = any_below;
  several_below = several_below;
  row_below = row_below;
  any_has = λ r k has. any k (h.any_has r k (sym (rows r k) ∙ has));
  several_has = λ r other k apart one two. several k
      (h.several_has r other k apart (sym (rows r k) ∙ one) (sym (rows other k) ∙ two));
}

-- ---- as a function sees it: what a mux has inside, and its view

module _ (stamp : ℕ) (inside now new : MuxSets) (is : inside ≡ now) (were : AreMuxSets stamp now) where
  pub kept_from : new.any.stamp ≡ stamp → (inside.several.stamp ≤ stamp → new.several.stamp ≤ stamp)
      → (((r : ℕ) → (row_at inside.rows r).stamp ≤ stamp) → (r : ℕ) → (row_at new.rows r).stamp ≤ stamp)
      → ((k : ℕ) → has_round stamp inside.any k ≡ true → has_round stamp new.any k ≡ true)
      → ((k : ℕ) → has_round stamp inside.several k ≡ true → has_round stamp new.several k ≡ true)
      → ((r k : ℕ) → has_round stamp (row_at new.rows r) k ≡ has_round stamp (row_at inside.rows r) k)
      → AreMuxSets stamp new
  kept_from stamped several_below row_below any several rows =
      let h : AreMuxSets stamp inside = subst (AreMuxSets stamp) (sym is) were in
      kept_are stamp inside new h (omega (arith, stamped)) (several_below h.several_below)
      (row_below h.row_below) any several rows

  pub more_from : (row round : ℕ) (further : Bool)
      → further ≡ (has_round stamp now.any round && not (has_round stamp (row_at now.rows row) round))
      → ((k : ℕ) → has_round stamp new.several k
      ≡ ((further && k == round) || has_round stamp inside.several k))
      → ((k : ℕ) → has_round stamp new.any k ≡ (k == round || has_round stamp inside.any k))
      → ((r k : ℕ) → has_round stamp (row_at new.rows r) k
      ≡ ((r == row && k == round) || has_round stamp (row_at inside.rows r) k))
      → new.any.stamp ≡ stamp → (inside.several.stamp ≤ stamp → new.several.stamp ≤ stamp)
      → (((r : ℕ) → (row_at inside.rows r).stamp ≤ stamp) → (r : ℕ) → (row_at new.rows r).stamp ≤ stamp)
      → OneMore stamp now new row round further
  more_from row round further is_further several any rows stamped several_below row_below =
      let h : AreMuxSets stamp inside = subst (AreMuxSets stamp) (sym is) were in
      record {
        were = were;
        is_further = is_further;
        several = λ k. several k
            ∙ ap (λ (m : MuxSets). (further && k == round) || has_round stamp m.several k) is;
        any = λ k. any k ∙ ap (λ (m : MuxSets). k == round || has_round stamp m.any k) is;
        rows = λ r k. rows r k
            ∙ ap (λ (m : MuxSets). (r == row && k == round) || has_round stamp (row_at m.rows r) k) is;
        any_below = omega (arith, stamped);
        several_below = several_below h.several_below;
        row_below = row_below h.row_below;
      }

-- whether another row has one of 64 rounds
pub other_place : (stamp : ℕ) (inside now : MuxSets) (row w j several any own rest all : ℕ)
    → inside ≡ now → j < 64
    → several ≡ word_of stamp inside.several w → any ≡ word_of stamp inside.any w
    → own ≡ word_of stamp (row_at now.rows row) w
    → (bit_at rest j == 1) ≡ (bit_at any j == 1 && not (bit_at own j == 1))
    → (bit_at all j == 1) ≡ (bit_at several j == 1 || bit_at rest j == 1)
    → (bit_at all j == 1) ≡ has_other stamp now row (64 * w + j)
other_place stamp inside now row w j several any own rest all is low is_several is_any is_own is_rest is_all =
    let k : ℕ = 64 * w + j in
    let s : (bit_at several j == 1) ≡ has_round stamp now.several k = ap (λ n. bit_at n j == 1) is_several
    ∙ word_place stamp inside.several w j low ∙ ap (λ (m : MuxSets). has_round stamp m.several k) is in
    let a : (bit_at any j == 1) ≡ has_round stamp now.any k = ap (λ n. bit_at n j == 1) is_any
    ∙ word_place stamp inside.any w j low ∙ ap (λ (m : MuxSets). has_round stamp m.any k) is in
    let o : (bit_at own j == 1) ≡ has_round stamp (row_at now.rows row) k =
    ap (λ n. bit_at n j == 1) is_own ∙ word_place stamp (row_at now.rows row) w j low in
    is_all
    ∙ ap (λ t. t || bit_at rest j == 1) s
    ∙ ap (λ t. has_round stamp now.several k || t)
    (is_rest ∙ ap (λ t. t && not (bit_at own j == 1)) a ∙ ap (λ t. has_round stamp now.any k && not t) o)
