-- What is left to draw, step by step.
use Rattle.std.proofs.Common.{◌≡◌, ℕ, suc, ◌+◌, ◌<◌, ◌≤◌, Bool, List, [], ◌∷◌, ◌++◌, Option, length, take}
use Rattle.std.proofs.Common.{drop, get_or, refl, sym, ap, ◌∙◌, arith, append_assoc, append-nil}
use Rattle.std.specs.Prelude.{◌&&◌, Result, Ok, Err, IfOk}
use Rattle.std.proofs.lemmas.List.{drop_all}
use Rattle.std.proofs.Math.Seq.{drop-cons, take-append_seam, drop-append_seam}
use Rattle.net_tree.specs.declared.entry.Entry.{Entry}
use Rattle.net_tree.specs.declared.entry.Entry.TheVariants.{Reg, Mux, Row}
use Rattle.net_tree.specs.Entries.{entries_of, row_entries, row_count, span}
use Rattle.net_tree.specs.Form.{Items, Nothing, RegThen, MuxThen, Rows, NoRow, RowThen}
use Rattle.net_tree.proofs.Reading.{length-entries}
use Rattle.net_picture.specs.declared.plan.MuxPlan.{MuxPlan}
use Rattle.net_picture.specs.declared.pen.Pen.{Pen}
use Rattle.net_picture.specs.declared.pen.Fan.{Fan}
use Rattle.net_picture.specs.declared.shape.Shape.{Shape}
use Rattle.net_picture.specs.declared.shape.RowEnd.{RowEnd}
use Rattle.net_picture.specs.Layout.{drawn, pen_after, fan_after, row_ends, rows_drawn, register_drawn}
use Rattle.net_picture.specs.Layout.{mux_drawn, mux_close, pen_past, wire_to, row_wire, is_selected_row}
use Rattle.net_picture.specs.Pens.{start_at, next_wire_start, after_register, after_row, fan_at, after_mux}
use Rattle.net_picture.specs.Plan.{Plan, box_of, mux_of}
use Rattle.net_picture.specs.Walk.{ItemsAreLeft, RowsAreLeft}

-- the entries from an index on
pub entry_at : (es : List Entry) (i : ℕ) (e : Entry) → i < length es
    → get_or es i (Reg 0) ≡ e → drop i es ≡ e ∷ drop (i + 1) es
entry_at es i e within is =
    let after : suc i ≡ i + 1 = omega arith in
    drop-cons es i (Reg 0) within ∙ ap (λ (z : Entry). z ∷ drop (suc i) es) is
    ∙ ap (λ (n : ℕ). e ∷ drop n es) after

module _ (plan : Plan) (active : Bool) where
  -- no entry is left
  at_end : (items : Items) (p end : Pen) (shapes all : List Shape) → [] ≡ entries_of items
      → pen_after plan p items ≡ end → shapes ++ drawn plan active p items ≡ all → (p ≡ end) × (shapes ≡ all)
  at_end Nothing p end shapes all e a s = (a, sym (append-nil shapes) ∙ s)
  at_end (RegThen r rest) p end shapes all e a s = let no : ⊥ = cc in absurd no
  at_end (MuxThen m rows rest) p end shapes all e a s = let no : ⊥ = cc in absurd no

  pub none_left : (es : List Entry) (i : ℕ) (p end : Pen) (shapes all : List Shape) → length es ≤ i
      → ItemsAreLeft plan active (drop i es) p shapes end all → (p ≡ end) × (shapes ≡ all)
  none_left es i p end shapes all past left =
      at_end left.items p end shapes all
      (sym (drop_all i es past) ∙ left.entries_are) left.end_is left.shapes_are

  -- all entries are left
  pub all_left : (es : List Entry) (form : Items) (p : Pen) (shapes : List Shape) → es ≡ entries_of form
      → ItemsAreLeft plan active (drop 0 es) p shapes
      (pen_after plan p form) (shapes ++ drawn plan active p form)
  all_left es form p shapes e = record { items = form; entries_are = e; end_is = refl; shapes_are = refl }

  -- a register is next
  register_step : (items : Items) (r : ℕ) (es : List Entry) (p q end : Pen) (shapes more all : List Shape)
      → Reg r ∷ es ≡ entries_of items → pen_after plan p items ≡ end
      → shapes ++ drawn plan active p items ≡ all
      → q ≡ after_register (next_wire_start p) (box_of plan r)
      → more ≡ shapes ++ register_drawn active p r (box_of plan r)
      → ItemsAreLeft plan active es q more end all
  register_step Nothing r es p q end shapes more all e a s qi mi = let no : ⊥ = cc in absurd no
  register_step (MuxThen m rows rest) r es p q end shapes more all e a s qi mi = let no : ⊥ = cc in absurd no
  register_step (RegThen k rest) r es p q end shapes more all e a s qi mi =
      let same : r ≡ k = cc in
      let tail : es ≡ entries_of rest = cc in
      let here : q ≡ after_register (next_wire_start p) (box_of plan k) =
      qi ∙ ap (λ (n : ℕ). after_register (next_wire_start p) (box_of plan n)) same in
      let added : more ≡ shapes ++ register_drawn active p k (box_of plan k) =
      mi ∙ ap (λ (n : ℕ). shapes ++ register_drawn active p n (box_of plan n)) same in
      record {
        items = rest;
        entries_are = tail;
        end_is = ap (λ (x : Pen). pen_after plan x rest) here ∙ a;
        shapes_are = ap (λ (x : Pen). more ++ drawn plan active x rest) here
            ∙ ap (λ (xs : List Shape). xs
            ++ drawn plan active (after_register (next_wire_start p) (box_of plan k)) rest) added
            ∙ append_assoc shapes (register_drawn active p k (box_of plan k))
            (drawn plan active (after_register (next_wire_start p) (box_of plan k)) rest) ∙ s;
      }

  pub register_left : (es : List Entry) (r : ℕ) (rest : List Entry) (p q end : Pen)
      (shapes more all : List Shape) → es ≡ Reg r ∷ rest → q ≡ after_register (next_wire_start p) (box_of
      plan r)
      → more ≡ shapes ++ register_drawn active p r (box_of plan r)
      → ItemsAreLeft plan active es p shapes end all → ItemsAreLeft plan active rest q more end all
  register_left es r rest p q end shapes more all e qi mi left =
      register_step left.items r rest p q end shapes more all
      (sym e ∙ left.entries_are) left.end_is left.shapes_are qi mi

  -- a multiplexer is next
  abbrev pub MuxIsDrawn : ℕ → ℕ → List Entry → List Entry → Pen → Pen → List Shape → List Shape → Type 0
  MuxIsDrawn m count es next p q shapes more =
      (rows : Rows) (after : List Entry) → es ≡ row_entries rows ++ after → count ≡ row_count rows
      → (next ≡ after) × (q ≡ pen_past plan p m rows) × (more ≡ shapes ++ mux_drawn plan active p m rows)

  mux_step : (items : Items) (m count : ℕ) (es next : List Entry) (p q end : Pen)
      (shapes more all : List Shape) → Mux m count ∷ es ≡ entries_of items → pen_after plan p items ≡ end
      → shapes ++ drawn plan active p items ≡ all
      → MuxIsDrawn m count es next p q shapes more → ItemsAreLeft plan active next q more end all
  mux_step Nothing m count es next p q end shapes more all e a s d = let no : ⊥ = cc in absurd no
  mux_step (RegThen r rest) m count es next p q end shapes more all e a s d = let no : ⊥ = cc in absurd no
  mux_step (MuxThen k rows rest) m count es next p q end shapes more all e a s d =
      let same : m ≡ k = cc in
      let many : count ≡ row_count rows = cc in
      let tail : es ≡ row_entries rows ++ entries_of rest = cc in
      let drew = d rows (entries_of rest) tail many in
      let here : q ≡ pen_past plan p k rows = drew.1 ∙ ap (λ (n : ℕ). pen_past plan p n rows) same in
      let added : more ≡ shapes ++ mux_drawn plan active p k rows =
      drew.2 ∙ ap (λ (n : ℕ). shapes ++ mux_drawn plan active p n rows) same in
      record {
        items = rest;
        entries_are = drew.0;
        end_is = ap (λ (x : Pen). pen_after plan x rest) here ∙ a;
        shapes_are = ap (λ (x : Pen). more ++ drawn plan active x rest) here
            ∙ ap (λ (xs : List Shape). xs ++ drawn plan active (pen_past plan p k rows) rest) added
            ∙ append_assoc shapes (mux_drawn plan active p k rows)
            (drawn plan active (pen_past plan p k rows) rest) ∙ s;
      }

  pub mux_left : (es : List Entry) (m count : ℕ) (rest next : List Entry) (p q end : Pen)
      (shapes more all : List Shape) → es ≡ Mux m count ∷ rest → MuxIsDrawn m count rest next p q shapes more
      → ItemsAreLeft plan active es p shapes end all → ItemsAreLeft plan active next q more end all
  mux_left es m count rest next p q end shapes more all e d left =
      mux_step left.items m count rest next p q end shapes more all
      (sym e ∙ left.entries_are) left.end_is left.shapes_are d

  -- no row begins a list of items
  row_step : (items : Items) (n : ℕ) (es : List Entry) → Row n ∷ es ≡ entries_of items → ⊥
  row_step Nothing n es e = let no : ⊥ = cc in no
  row_step (RegThen r rest) n es e = let no : ⊥ = cc in no
  row_step (MuxThen m rows rest) n es e = let no : ⊥ = cc in no

  pub row_not_left : (es : List Entry) (n : ℕ) (rest : List Entry) (p end : Pen) (shapes all : List Shape)
      → es ≡ Row n ∷ rest → ItemsAreLeft plan active es p shapes end all → ⊥
  row_not_left es n rest p end shapes all e left = row_step left.items n rest (sym e ∙ left.entries_are)

-- a row's entries, and those after it
taken : (items : Items) (more : List Entry) (n : ℕ) → n ≡ span items
    → take n (entries_of items ++ more) ≡ entries_of items
taken items more n e =
    let long : n ≡ length (entries_of items) = e ∙ sym (length-entries items) in
    ap (λ (k : ℕ). take k (entries_of items ++ more)) long ∙ take-append_seam (entries_of items) more

dropped : (items : Items) (more : List Entry) (n : ℕ) → n ≡ span items
    → drop n (entries_of items ++ more) ≡ more
dropped items more n e =
    let long : n ≡ length (entries_of items) = e ∙ sym (length-entries items) in
    ap (λ (k : ℕ). drop k (entries_of items ++ more)) long ∙ drop-append_seam (entries_of items) more

module _ (plan : Plan) (active : Bool) (row : Option ℕ) (from : Pen) where
  -- a row is drawn, whose entries these are
  abbrev pub RowIsDrawn : ℕ → List Entry → Pen → Pen → List Shape → List Shape → Type 0
  RowIsDrawn q part start pen shapes more =
      (form : Items) → part ≡ entries_of form → (pen ≡ pen_after plan start form)
      × (more ≡ shapes ++ drawn plan (active && is_selected_row row q) start form)

  step : (rows : Rows) (q k n : ℕ) (tail after part next : List Entry) (f g end : Fan) (start pen : Pen)
      (shapes wired more all : List Shape) (ends ended all_ends : List RowEnd)
      → Row n ∷ tail ≡ row_entries rows ++ after → suc k ≡ row_count rows → fan_after plan f rows ≡ end
      → shapes ++ rows_drawn plan active row from q f rows ≡ all → ends ++ row_ends plan f rows ≡ all_ends
      → part ≡ take n tail → next ≡ drop n tail → start ≡ start_at f.x f.y
      → wired ≡ shapes ++ row_wire (active && is_selected_row row q) from f ∷ []
      → RowIsDrawn q part start pen wired more
      → ended ≡ ends ++ record { x = pen.x; y = pen.y } ∷ [] → g ≡ after_row f pen
      → RowsAreLeft plan active row from (suc q) k next after g more ended end all all_ends
  step NoRow q k n tail after part next f g end start pen shapes wired more all ends ended
      all_ends e c a s b pi ni si wi d ei gi =
      let no : ⊥ = cc in absurd no
  step (RowThen items rest) q k n tail after part next f g end start pen shapes wired more all ends ended
      all_ends e c a s b pi ni si wi d ei gi =
      let spans : n ≡ span items = cc in
      let few : k ≡ row_count rest = cc in
      let cut : tail ≡ (entries_of items ++ row_entries rest) ++ after = cc in
      let parts : tail ≡ entries_of items ++ (row_entries rest ++ after) =
      cut ∙ append_assoc (entries_of items) (row_entries rest) after in
      let mine : part ≡ entries_of items =
      pi ∙ ap (take n) parts ∙ taken items (row_entries rest ++ after) n spans in
      let others : next ≡ row_entries rest ++ after =
      ni ∙ ap (drop n) parts ∙ dropped items (row_entries rest ++ after) n spans in
      let drew = d items mine in
      let first : Pen = start_at f.x f.y in
      let last : Pen = pen_after plan first items in
      let here : pen ≡ last = drew.0 ∙ ap (λ (x : Pen). pen_after plan x items) si in
      let on : Bool = active && is_selected_row row q in
      let goes : g ≡ after_row f last = gi ∙ ap (after_row f) here in
      let new : List Shape = row_wire on from f ∷ drawn plan on first items in
      let added : more ≡ shapes ++ new = drew.1 ∙ ap (λ (x : Pen). wired ++ drawn plan on x items) si
      ∙ ap (λ (xs : List Shape). xs ++ drawn plan on first items) wi
      ∙ append_assoc shapes (row_wire on from f ∷ []) (drawn plan on first items) in
      let spot : RowEnd = record { x = last.x; y = last.y } in
      let noted : ended ≡ ends ++ spot ∷ [] =
      ei ∙ ap (λ (x : Pen). ends ++ record { x = x.x; y = x.y } ∷ []) here in
      record {
        rows = rest;
        entries_are = others;
        count_is = few;
        end_is = ap (λ (x : Fan). fan_after plan x rest) goes ∙ a;
        shapes_are = ap (λ (x : Fan). more ++ rows_drawn plan active row from (suc q) x rest) goes
            ∙ ap (λ (xs : List Shape). xs
            ++ rows_drawn plan active row from (suc q) (after_row f last) rest) added
            ∙ append_assoc shapes new (rows_drawn plan active row from (suc q) (after_row f last) rest) ∙ s;
        ends_are = ap (λ (x : Fan). ended ++ row_ends plan x rest) goes
            ∙ ap (λ (xs : List RowEnd). xs ++ row_ends plan (after_row f last) rest) noted
            ∙ append_assoc ends (spot ∷ []) (row_ends plan (after_row f last) rest) ∙ b;
      }

  pub row_left : (q k n : ℕ) (es tail after part next : List Entry) (f g end : Fan) (start pen : Pen)
      (shapes wired more all : List Shape) (ends ended all_ends : List RowEnd)
      → es ≡ Row n ∷ tail → part ≡ take n tail → next ≡ drop n tail → start ≡ start_at f.x f.y
      → wired ≡ shapes ++ row_wire (active && is_selected_row row q) from f ∷ []
      → RowIsDrawn q part start pen wired more
      → ended ≡ ends ++ record { x = pen.x; y = pen.y } ∷ [] → g ≡ after_row f pen
      → RowsAreLeft plan active row from q (suc k) es after f shapes ends end all all_ends
      → RowsAreLeft plan active row from (suc q) k next after g more ended end all all_ends
  row_left q k n es tail after part next f g end start pen shapes wired more all ends
      ended all_ends e pi ni si wi d ei gi left =
      step left.rows q k n tail after part next f g end start pen shapes wired more all ends ended all_ends
      (sym e ∙ left.entries_are) left.count_is left.end_is
      left.shapes_are left.ends_are pi ni si wi d ei gi

  -- where rows are left, an entry of a row is next
  not_other : (rows : Rows) (k : ℕ) (e : Entry) (tail after : List Entry)
      → e ∷ tail ≡ row_entries rows ++ after → suc k ≡ row_count rows → (n : ℕ) × (e ≡ Row n)
  not_other NoRow k e tail after h c = let no : ⊥ = cc in absurd no
  not_other (RowThen items rest) k e tail after h c = let is : e ≡ Row (span items) = cc in (span items, is)

  no_entry : (rows : Rows) (k : ℕ) (after : List Entry)
      → [] ≡ row_entries rows ++ after → suc k ≡ row_count rows → ⊥
  no_entry NoRow k after h c = let no : ⊥ = cc in no
  no_entry (RowThen items rest) k after h c = let no : ⊥ = cc in no

  pub row_is_next : (q k : ℕ) (es : List Entry) (e : Entry) (tail after : List Entry) (f end : Fan)
      (shapes all : List Shape) (ends all_ends : List RowEnd) → es ≡ e ∷ tail
      → RowsAreLeft plan active row from q (suc k) es after f shapes ends end all all_ends
      → (n : ℕ) × (e ≡ Row n)
  row_is_next q k es e tail after f end shapes all ends all_ends h left =
      not_other left.rows k e tail after (sym h ∙ left.entries_are) left.count_is

  pub no_register_next : (q k r : ℕ) (es tail after : List Entry) (f end : Fan) (shapes all : List Shape)
      (ends all_ends : List RowEnd) → es ≡ Reg r ∷ tail
      → RowsAreLeft plan active row from q (suc k) es after f shapes ends end all all_ends → ⊥
  no_register_next q k r es tail after f end shapes all ends all_ends h left =
      let (n, e) = row_is_next q k es (Reg r) tail after f end shapes all ends all_ends h left in
      let no : ⊥ = cc in no

  pub no_mux_next : (q k m count : ℕ) (es tail after : List Entry) (f end : Fan) (shapes all : List Shape)
      (ends all_ends : List RowEnd) → es ≡ Mux m count ∷ tail
      → RowsAreLeft plan active row from q (suc k) es after f shapes ends end all all_ends → ⊥
  no_mux_next q k m count es tail after f end shapes all ends all_ends h left =
      let (n, e) = row_is_next q k es (Mux m count) tail after f end shapes all ends all_ends h left in
      let no : ⊥ = cc in no

  pub some_entry : (q k : ℕ) (es : List Entry) (i : ℕ) (after : List Entry) (f end : Fan)
      (shapes all : List Shape) (ends all_ends : List RowEnd) → length es ≤ i
      → RowsAreLeft plan active row from q (suc k) (drop i es) after f shapes ends end all all_ends → ⊥
  some_entry q k es i after f end shapes all ends all_ends past left =
      no_entry left.rows k after (sym (drop_all i es past) ∙ left.entries_are) left.count_is

  -- all rows are left, and none
  pub all_rows : (rows : Rows) (count : ℕ) (es after : List Entry) (f : Fan) (shapes : List Shape)
      (ends : List RowEnd) → es ≡ row_entries rows ++ after → count ≡ row_count rows
      → RowsAreLeft plan active row from 0 count es after f shapes ends (fan_after plan f rows)
      (shapes ++ rows_drawn plan active row from 0 f rows) (ends ++ row_ends plan f rows)
  all_rows rows count es after f shapes ends e c =
      record { rows = rows; entries_are = e; count_is = c; end_is = refl; shapes_are = refl; ends_are = refl }

  rows_end : (rows : Rows) (q : ℕ) (es after : List Entry) (f end : Fan) (shapes all : List Shape)
      (ends all_ends : List RowEnd) → es ≡ row_entries rows ++ after
      → 0 ≡ row_count rows → fan_after plan f rows ≡ end
      → shapes ++ rows_drawn plan active row from q f rows ≡ all → ends ++ row_ends plan f rows ≡ all_ends
      → (es ≡ after) × (f ≡ end) × (shapes ≡ all) × (ends ≡ all_ends)
  rows_end NoRow q es after f end shapes all ends all_ends e c a s b =
      (e, a, sym (append-nil shapes) ∙ s, sym (append-nil ends) ∙ b)
  rows_end (RowThen items rest) q es after f end shapes all ends all_ends e c a s b =
      let no : ⊥ = cc in absurd no

  pub no_row_left : (q : ℕ) (es after : List Entry) (f end : Fan)
      (shapes all : List Shape) (ends all_ends : List RowEnd)
      → RowsAreLeft plan active row from q 0 es after f shapes ends end all all_ends
      → (es ≡ after) × (f ≡ end) × (shapes ≡ all) × (ends ≡ all_ends)
  no_row_left q es after f end shapes all ends all_ends left =
      rows_end left.rows q es after f end shapes all ends all_ends left.entries_are left.count_is
      left.end_is left.shapes_are left.ends_are

-- what holds of a value that there is
pub if_ok : {T E : Type 0} (result : Result T E) (P Q : T → Type 0)
    → ((value : T) → P value → Q value) → IfOk result P → IfOk result Q
if_ok (Ok value) P Q f p = f value p
if_ok (Err e) P Q f p = tt

-- the rows of a multiplexer are drawn, and then its funnel
pub mux_done : (plan : Plan) (active : Bool) (p : Pen) (m : ℕ) (rows : Rows) (pen q : Pen) (part : MuxPlan)
    (f g : Fan) (s0 s1 s2 s3 : List Shape) (none ends now : List RowEnd)
    → pen ≡ next_wire_start p → part ≡ mux_of plan m → s1 ≡ s0 ++ wire_to active p → f ≡ fan_at pen → none ≡
    []
    → g ≡ fan_after plan f rows → s2 ≡ s1 ++ rows_drawn plan active part.row pen 0 f rows
    → ends ≡ none ++ row_ends plan f rows → now ≡ ends
    → s3 ≡ s2 ++ mux_close active part m pen g now → q ≡ after_mux pen g part.values part.name
    → (q ≡ pen_past plan p m rows) × (s3 ≡ s0 ++ mux_drawn plan active p m rows)
mux_done plan active p m rows pen q part f g s0 s1 s2 s3 none ends now pi ti wi fi ni gi ri ei wi2 ci qi =
    let from : Pen = next_wire_start p in
    let fan : Fan = fan_at from in
    let last : Fan = fan_after plan fan rows in
    let known : MuxPlan = mux_of plan m in
    let W : List Shape = wire_to active p in
    let R : List Shape = rows_drawn plan active known.row from 0 fan rows in
    let E : List RowEnd = row_ends plan fan rows in
    let C : List Shape = mux_close active known m from last E in
    let fan_is : f ≡ fan = fi ∙ ap fan_at pi in
    let last_is : g ≡ last = gi ∙ ap (λ (x : Fan). fan_after plan x rows) fan_is in
    let ends_are : now ≡ E = wi2 ∙ ei ∙ ap (λ (xs : List RowEnd). xs ++ row_ends plan f rows) ni
    ∙ ap (λ (x : Fan). row_ends plan x rows) fan_is in
    let rows_are : rows_drawn plan active part.row pen 0 f rows ≡ R =
    ap (λ (x : MuxPlan). rows_drawn plan active x.row pen 0 f rows) ti
    ∙ ap (λ (x : Pen). rows_drawn plan active known.row x 0 f rows) pi
    ∙ ap (λ (x : Fan). rows_drawn plan active known.row from 0 x rows) fan_is in
    let close_is : mux_close active part m pen g now ≡ C =
    ap (λ (x : MuxPlan). mux_close active x m pen g now) ti
    ∙ ap (λ (x : Pen). mux_close active known m x g now) pi
    ∙ ap (λ (x : Fan). mux_close active known m from x now) last_is
    ∙ ap (mux_close active known m from last) ends_are in (
      qi ∙ ap (λ (x : MuxPlan). after_mux pen g x.values x.name) ti
          ∙ ap (λ (x : Pen). after_mux x g known.values known.name) pi
          ∙ ap (λ (x : Fan). after_mux from x known.values known.name) last_is,
      ci ∙ ap (λ (xs : List Shape). s2 ++ xs) close_is ∙ ap (λ (xs : List Shape). xs ++ C)
          (ri ∙ ap (λ (xs : List Shape). s1 ++ xs) rows_are ∙ ap (λ (xs : List Shape). xs ++ R) wi)
          ∙ append_assoc (s0 ++ W) R C ∙ append_assoc s0 W (R ++ C),
    )
