-- The levels that the tables have of an item are those that a scan of the marks finds.
use Rattle.std.proofs.Common.{◌≡◌, ℕ, zero, suc, ◌+◌, ◌<◌, ◌≤◌, Bool, true, false, cond, List, [], ◌∷◌, ◌++◌}
use Rattle.std.proofs.Common.{length, Option, Some, None, refl, sym, ap, subst, ◌∙◌, arith, add-one}
use Rattle.std.specs.Prelude.{reverse, replicate, slice_get, slice_set, ◌==◌}
use Rattle.std.proofs.lemmas.Bool.{true≢false, eq-eqb, eqb-true}
use Rattle.std.proofs.lemmas.Option.{slice_get_within}
use Rattle.net_graph.specs.declared.net.Net.{Net}
use Rattle.net_graph.specs.declared.net.Point.{Point}
use Rattle.net_graph.specs.declared.net.Point.TheVariants.{Entry, Reg, Mux}
use Rattle.net_graph.specs.Named.{IsPointOf}
use Rattle.net_tree.specs.declared.mark.Mark.{Mark}
use Rattle.net_tree.specs.declared.mark.Mark.TheVariants.{Reg as RegMark, Mux as MuxMark, Row as RowMark}
use Rattle.net_tree.specs.declared.mark.Mark.TheVariants.{End as EndMark}
use Rattle.nest_check.specs.Scan.{scan}
use Rattle.nest_check.specs.Tables.{Table, around_at, is_new, noted, level, entered, next_row, outside}
use Rattle.nest_check.specs.Tables.{note_register, note_mux, step, pass, no_marks_taken, table, levels_out}
use Rattle.nest_check.specs.Tables.{climbed_on, levels_from, number_of, levels_in}
use Rattle.nest_check.specs.declared.place.BegunMux.{BegunMux}
use Rattle.nest_check.specs.declared.tables.MetMux.{MetMux}

-- ---- levels that were met

kept : (met : List MetMux) (a b : MetMux) (here : ℕ) → around_at met here ≡ Some b
    → around_at (met ++ a ∷ []) here ≡ Some b
kept met a b zero h = absurd cc
kept [] a b (suc k) h = absurd cc
kept (x ∷ met) a b (suc zero) h = h
kept (x ∷ met) a b (suc (suc k)) h = kept met a b (suc k) h

last_one : (met : List MetMux) (a : MetMux) → slice_get (met ++ a ∷ []) (length met) ≡ Some a
last_one [] a = refl
last_one (x ∷ met) a = last_one met a

newest : (met : List MetMux) (a : MetMux) → around_at (met ++ a ∷ []) (length met + 1) ≡ Some a
newest met a = ap (around_at (met ++ a ∷ [])) (add-one (length met)) ∙ last_one met a

within : (met : List MetMux) (here : ℕ) (a : MetMux) → around_at met here ≡ Some a → here ≤ length met
within met zero a h = absurd cc
within met (suc k) a h = let below = slice_get_within met k a h in omega (arith, below)

-- the levels from a number outwards
abbrev IsChain : List MetMux → ℕ → List BegunMux → Type 0
IsChain met here [] = here ≡ 0
IsChain met here (l ∷ ls) = (a : MetMux) × (around_at met here ≡ Some a) × (a.level ≡ l)
    × (a.outer < here) × IsChain met a.outer ls

chain_kept : (met : List MetMux) (a : MetMux) (here : ℕ) (ls : List BegunMux)
    → IsChain met here ls → IsChain (met ++ a ∷ []) here ls
chain_kept met a here [] h = h
chain_kept met a here (l ∷ ls) h = (h.0, kept met a h.0 here h.1, h.2, h.3, chain_kept met a h.0.outer ls h.4)

chain_within : (met : List MetMux) (here : ℕ) (ls : List BegunMux) → IsChain met here ls → here ≤ length met
chain_within met here [] h = omega (arith, h)
chain_within met here (l ∷ ls) h = within met here h.0 h.1

chain_entered : (met : List MetMux) (l : BegunMux) (outer : ℕ) (ls : List BegunMux) → IsChain met outer ls
    → IsChain (met ++ record { level = l; outer = outer } ∷ []) (length met + 1) (l ∷ ls)
chain_entered met l outer ls h =
    let a : MetMux = record { level = l; outer = outer } in
    let most = chain_within met outer ls h in
    (a, newest met a, refl, omega (arith, most), chain_kept met a outer ls h)

climb : (n : ℕ) (met : List MetMux) (here : ℕ) (ls : List BegunMux) → here ≤ n
    → IsChain met here ls → levels_out n met here ≡ ls
climb zero met here [] le h = refl
climb zero met here (l ∷ ls) le h = let below = h.3 in absurd (omega (arith, le, below))
climb (suc n) met here [] le h = ap (λ k. climbed_on (levels_out n met) (around_at met k)) h
climb (suc n) met here (l ∷ ls) le h =
    let below = h.3 in
    let more = climb n met h.0.outer ls (omega (arith, le, below)) h.4 in
    ap (climbed_on (levels_out n met)) h.1 ∙ ap (λ x. x ∷ levels_out n met h.0.outer) h.2
    ∙ ap (λ xs. l ∷ xs) more

-- ---- numbers of items

set_same : (xs : List (Option ℕ)) (i : ℕ) (v x : Option ℕ) → slice_get xs i ≡ Some x
    → slice_get (slice_set xs i v) i ≡ Some v
set_same [] i v x h = absurd cc
set_same (y ∷ xs) zero v x h = refl
set_same (y ∷ xs) (suc i) v x h = set_same xs i v x h

set_other : (xs : List (Option ℕ)) (i j : ℕ) (v : Option ℕ) → (i ≡ j → ⊥)
    → slice_get (slice_set xs i v) j ≡ slice_get xs j
set_other [] i j v n = refl
set_other (y ∷ xs) zero zero v n = absurd (n refl)
set_other (y ∷ xs) zero (suc j) v n = refl
set_other (y ∷ xs) (suc i) zero v n = refl
set_other (y ∷ xs) (suc i) (suc j) v n = set_other xs i j v (λ e. n (ap suc e))

noted_new : (numbers : List (Option ℕ)) (i here : ℕ) → slice_get numbers i ≡ Some None
    → slice_get (noted numbers i here) i ≡ Some (Some here)
noted_new numbers i here h =
    ap (λ o. slice_get (cond (is_new o) (slice_set numbers i (Some here)) numbers) i) h
    ∙ set_same numbers i (Some here) None h

noted_old : (numbers : List (Option ℕ)) (i here k : ℕ) → slice_get numbers i ≡ Some (Some k)
    → slice_get (noted numbers i here) i ≡ Some (Some k)
noted_old numbers i here k h =
    ap (λ o. slice_get (cond (is_new o) (slice_set numbers i (Some here)) numbers) i) h ∙ h

noted_other : (numbers : List (Option ℕ)) (i j here : ℕ) → (i ≡ j → ⊥)
    → slice_get (noted numbers i here) j ≡ slice_get numbers j
noted_other numbers i j here n = by_test (is_new (slice_get numbers i))
  where
    by_test : (b : Bool)
        → slice_get (cond b (slice_set numbers i (Some here)) numbers) j ≡ slice_get numbers j
    by_test true = set_other numbers i j (Some here) n
    by_test false = refl

-- ---- what is known of an item: what is left to find, or where it is

abbrev IsKnown : List MetMux → Option (Option ℕ) → List BegunMux → List BegunMux → Type 0
IsKnown met None now whole = now ≡ whole
IsKnown met (Some None) now whole = now ≡ whole
IsKnown met (Some (Some here)) now whole = (ls : List BegunMux) × IsChain met here ls × (whole ≡ reverse ls)

known_kept : (met : List MetMux) (a : MetMux) (number : Option (Option ℕ)) (now whole : List BegunMux)
    → IsKnown met number now whole → IsKnown (met ++ a ∷ []) number now whole
known_kept met a None now whole h = h
known_kept met a (Some None) now whole h = h
known_kept met a (Some (Some here)) now whole h = (h.0, chain_kept met a here h.0 h.1, h.2)

-- an item that the tables have
abbrev IsIn : Table → Point → Type 0
IsIn t Entry = Unit {0}
IsIn t (Reg r) = (number : Option ℕ) × (slice_get t.regs r ≡ Some number)
IsIn t (Mux m) = (number : Option ℕ) × (slice_get t.muxes m ≡ Some number)

-- an item is named where it is noted: by what was known of its number
named_here : (met : List MetMux) (numbers : List (Option ℕ)) (i here : ℕ) (ls whole : List BegunMux)
    (number : Option ℕ) → slice_get numbers i ≡ Some number → IsChain met here ls
    → IsKnown met (Some number) (reverse ls) whole
    → (later : List BegunMux) → IsKnown met (slice_get (noted numbers i here) i) later whole
named_here met numbers i here ls whole None is chain h later =
    subst (λ o. IsKnown met o later whole) (sym (noted_new numbers i here is)) (ls, chain, sym h)
named_here met numbers i here ls whole (Some k) is chain h later =
    subst (λ o. IsKnown met o later whole) (sym (noted_old numbers i here k is)) h

-- a mark that names an item of its kind, this one or another one
note_known : (met : List MetMux) (numbers : List (Option ℕ)) (i j here : ℕ) (ls later whole : List BegunMux)
    → ((number : Option ℕ) × (slice_get numbers j ≡ Some number)) → IsChain met here ls
    → (b : Bool) → (i == j) ≡ b → IsKnown met (slice_get numbers j)
    (elim b as (λ _. List BegunMux) [ true ↦ reverse ls | false ↦ later ]) whole
    → IsKnown met (slice_get (noted numbers i here) j) later whole
note_known met numbers i j here ls later whole there chain true same h =
    let e : i ≡ j = eqb-true i j same in
    let at : slice_get numbers i ≡ Some there.0 = ap (slice_get numbers) e ∙ there.1 in
    let known : IsKnown met (Some there.0) (reverse ls) whole =
    subst (λ o. IsKnown met o (reverse ls) whole) there.1 h in
    subst (λ k. IsKnown met (slice_get (noted numbers i here) k) later whole) e
    (named_here met numbers i here ls whole there.0 at chain known later)
note_known met numbers i j here ls later whole there chain false other h =
    subst (λ o. IsKnown met o later whole)
    (sym (noted_other numbers i j here (λ e. true≢false (sym (eq-eqb i j e) ∙ other)))) h

note_stays : (numbers : List (Option ℕ)) (i j here : ℕ)
    → ((number : Option ℕ) × (slice_get numbers j ≡ Some number))
    → (number : Option ℕ) × (slice_get (noted numbers i here) j ≡ Some number)
note_stays numbers i j here there = by_test (i == j) refl
  where
    by_number : (number : Option ℕ) → slice_get numbers i ≡ Some number
        → (other : Option ℕ) × (slice_get (noted numbers i here) i ≡ Some other)
    by_number None is = (Some here, noted_new numbers i here is)
    by_number (Some k) is = (Some k, noted_old numbers i here k is)

    by_test : (b : Bool) → (i == j) ≡ b
        → (number : Option ℕ) × (slice_get (noted numbers i here) j ≡ Some number)
    by_test true same =
        let e : i ≡ j = eqb-true i j same in
        subst (λ k. (number : Option ℕ) × (slice_get (noted numbers i here) k ≡ Some number)) e
        (by_number there.0 (ap (slice_get numbers) e ∙ there.1))
    by_test false other =
        (there.0, noted_other numbers i j here (λ e. true≢false (sym (eq-eqb i j e) ∙ other)) ∙ there.1)

-- ---- one mark

pub record Stands (t : Table) (item : Point) (rest : List Mark) (whole : List BegunMux) : Type 0 where
  pub levels : List BegunMux
  pub there : IsIn t item
  pub chain : IsChain t.met t.here levels
  pub known : IsKnown t.met (number_of t item) (scan rest levels item) whole

reg_stands : (t : Table) (r : ℕ) (item : Point) (rest : List Mark) (whole : List BegunMux)
    → Stands t item (RegMark r ∷ rest) whole → Stands (note_register t r) item rest whole
reg_stands t r Entry rest whole s = record { levels = s.levels; there = tt; chain = s.chain; known = s.known }
reg_stands t r (Mux m) rest whole s =
    record { levels = s.levels; there = s.there; chain = s.chain; known = s.known }
reg_stands t r (Reg q) rest whole s =
    record {
      levels = s.levels;
      there = note_stays t.regs r q t.here s.there;
      chain = s.chain;
      known = note_known t.met t.regs r q t.here s.levels
          (scan rest s.levels (Reg q)) whole s.there s.chain (r == q) refl s.known;
    }

mux_stands : (t : Table) (m : ℕ) (item : Point) (rest : List Mark) (whole : List BegunMux)
    → Stands t item (MuxMark m ∷ rest) whole
    → Stands (entered (note_mux t m) (level m 0) t.here) item rest whole
mux_stands t m item rest whole s = by_item item s.there s.known
  where
    a : MetMux
    a = record { level = level m 0; outer = t.here }

    inner : List BegunMux
    inner = level m 0 ∷ s.levels

    chain : IsChain (t.met ++ a ∷ []) (length t.met + 1) inner
    chain = chain_entered t.met (level m 0) t.here s.levels s.chain

    by_item : (x : Point) → IsIn t x
        → IsKnown t.met (number_of t x) (scan (MuxMark m ∷ rest) s.levels x) whole
        → Stands (entered (note_mux t m) (level m 0) t.here) x rest whole
    by_item Entry there known = record { levels = inner; there = tt; chain = chain; known = known }
    by_item (Reg r) there known = record {
      levels = inner;
      there = there;
      chain = chain;
      known = known_kept t.met a (slice_get t.regs r) (scan rest inner (Reg r)) whole known;
    }
    by_item (Mux n) there known =
        record {
          levels = inner;
          there = note_stays t.muxes m n t.here there;
          chain = chain;
          known = known_kept t.met a (slice_get (noted t.muxes m t.here) n) (scan rest inner (Mux n)) whole
              (note_known t.met t.muxes m n t.here s.levels
              (scan rest inner (Mux n)) whole there s.chain (m == n) refl known);
        }

-- the item's number stays
in_entered : (t : Table) (l : BegunMux) (outer : ℕ) (item : Point) → IsIn t item
    → IsIn (entered t l outer) item
in_entered t l outer Entry h = tt
in_entered t l outer (Reg r) h = h
in_entered t l outer (Mux m) h = h

in_outside : (t : Table) (a : MetMux) (item : Point) → IsIn t item → IsIn (outside t (Some a)) item
in_outside t a Entry h = tt
in_outside t a (Reg r) h = h
in_outside t a (Mux m) h = h

known_entered : (t : Table) (l : BegunMux) (outer : ℕ) (item : Point) (now whole : List BegunMux)
    → IsKnown t.met (number_of t item) now whole
    → IsKnown (entered t l outer).met (number_of (entered t l outer) item) now whole
known_entered t l outer Entry now whole h = h
known_entered t l outer (Reg r) now whole h =
    known_kept t.met (record { level = l; outer = outer }) (slice_get t.regs r) now whole h
known_entered t l outer (Mux m) now whole h =
    known_kept t.met (record { level = l; outer = outer }) (slice_get t.muxes m) now whole h

known_outside : (t : Table) (a : MetMux) (item : Point) (now whole : List BegunMux)
    → IsKnown t.met (number_of t item) now whole
    → IsKnown (outside t (Some a)).met (number_of (outside t (Some a)) item) now whole
known_outside t a Entry now whole h = h
known_outside t a (Reg r) now whole h = h
known_outside t a (Mux m) now whole h = h

row_stands : (t : Table) (item : Point) (rest : List Mark) (whole : List BegunMux)
    → Stands t item (RowMark ∷ rest) whole → Stands (next_row t (around_at t.met t.here)) item rest whole
row_stands t item rest whole s = by_levels s.levels s.chain s.known
  where
    by_levels : (ls : List BegunMux) → IsChain t.met t.here ls
        → IsKnown t.met (number_of t item) (scan (RowMark ∷ rest) ls item) whole
        → Stands (next_row t (around_at t.met t.here)) item rest whole
    by_levels [] chain known =
        subst (λ k. Stands (next_row t (around_at t.met k)) item rest whole) (sym chain)
        (record { levels = []; there = s.there; chain = chain; known = known })
    by_levels (l ∷ ls) chain known =
        let next : BegunMux = level chain.0.level.mux (chain.0.level.begun + 1) in
        let now : IsKnown t.met (number_of t item) (scan rest (next ∷ ls) item) whole = subst
        (λ x. IsKnown t.met (number_of t item) (scan rest (level x.mux (x.begun + 1) ∷ ls) item) whole)
        (sym chain.2) known in
        subst (λ o. Stands (next_row t o) item rest whole) (sym chain.1)
        (record {
          levels = next ∷ ls;
          there = in_entered t next chain.0.outer item s.there;
          chain = chain_entered t.met next chain.0.outer ls chain.4;
          known = known_entered t next chain.0.outer item (scan rest (next ∷ ls) item) whole now;
        })

end_stands : (t : Table) (item : Point) (rest : List Mark) (whole : List BegunMux)
    → Stands t item (EndMark ∷ rest) whole → Stands (outside t (around_at t.met t.here)) item rest whole
end_stands t item rest whole s = by_levels s.levels s.chain s.known
  where
    by_levels : (ls : List BegunMux) → IsChain t.met t.here ls
        → IsKnown t.met (number_of t item) (scan (EndMark ∷ rest) ls item) whole
        → Stands (outside t (around_at t.met t.here)) item rest whole
    by_levels [] chain known =
        subst (λ k. Stands (outside t (around_at t.met k)) item rest whole) (sym chain)
        (record { levels = []; there = s.there; chain = chain; known = known })
    by_levels (l ∷ ls) chain known =
        subst (λ o. Stands (outside t o) item rest whole) (sym chain.1)
        (record {
          levels = ls;
          there = in_outside t chain.0 item s.there;
          chain = chain.4;
          known = known_outside t chain.0 item (scan rest ls item) whole known;
        })

step_stands : (t : Table) (mark : Mark) (item : Point) (rest : List Mark) (whole : List BegunMux)
    → Stands t item (mark ∷ rest) whole → Stands (step t mark) item rest whole
unfolding step
step_stands t (RegMark r) item rest whole s = reg_stands t r item rest whole s
step_stands t (MuxMark m) item rest whole s = mux_stands t m item rest whole s
step_stands t RowMark item rest whole s = row_stands t item rest whole s
step_stands t EndMark item rest whole s = end_stands t item rest whole s

-- ---- all marks

pass_finds : (marks : List Mark) (t : Table) (item : Point) (whole : List BegunMux)
    → Stands t item marks whole → levels_in (pass t marks) item ≡ whole
unfolding levels_in
pass_finds (m ∷ marks) t item whole s =
    pass_finds marks (step t m) item whole (step_stands t m item marks whole s)
pass_finds [] t item whole s = by_number (number_of t item) s.known
  where
    by_number : (number : Option (Option ℕ))
        → IsKnown t.met number [] whole → levels_from t.met number ≡ whole
    by_number None h = h
    by_number (Some None) h = h
    by_number (Some (Some here)) h =
        let same : here ≤ here = omega arith in ap reverse (climb here t.met here h.0 same h.1) ∙ sym h.2

abbrev no_mark : Option ℕ
no_mark = None

no_number : (n i : ℕ) → i < n → slice_get (replicate n no_mark) i ≡ Some no_mark
no_number zero i h = absurd (omega (arith, h))
no_number (suc n) zero h = refl
no_number (suc n) (suc i) h = no_number n i (omega (arith, h))

-- what the tables have of a form's marks
pub tables_find : (net : Net) (marks : List Mark) (item : Point) → IsPointOf net item
    → levels_in (table net marks) item ≡ scan marks [] item
unfolding no_marks_taken
tables_find net marks Entry h =
    pass_finds marks (no_marks_taken (length net.regs.items) (length net.muxes.items)) Entry
    (scan marks [] Entry) (record { levels = []; there = tt; chain = refl; known = refl })
tables_find net marks (Reg r) h =
    let at = no_number (length net.regs.items) r h in
    pass_finds marks (no_marks_taken (length net.regs.items) (length net.muxes.items))
    (Reg r) (scan marks [] (Reg r))
    (record {
      levels = [];
      there = (None, at);
      chain = refl;
      known = subst (λ o. IsKnown [] o (scan marks [] (Reg r)) (scan marks [] (Reg r))) (sym at) refl;
    })
tables_find net marks (Mux m) h =
    let at = no_number (length net.muxes.items) m h in
    pass_finds marks (no_marks_taken (length net.regs.items) (length net.muxes.items))
    (Mux m) (scan marks [] (Mux m))
    (record {
      levels = [];
      there = (None, at);
      chain = refl;
      known = subst (λ o. IsKnown [] o (scan marks [] (Mux m)) (scan marks [] (Mux m))) (sym at) refl;
    })
