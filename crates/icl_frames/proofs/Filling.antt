-- What the items of one cell give: their bounds, names that differ, and counts.
use Rattle.std.proofs.Common.{◌≡◌, ◌⊎◌, ◌+◌, ◌≤◌, ◌++◌, ℕ, Bool, true, false, ◌&&◌, ◌||◌, cond, nat_lt}
use Rattle.std.proofs.Common.{nat_le, List, [], ◌∷◌, length, map, filter, zip, sum_by, count_by, Option, Some}
use Rattle.std.proofs.Common.{None, Result, Ok, Err, refl, sym, ap, subst, ◌∙◌, arith, Contains, inl, inr}
use Rattle.std.proofs.Common.{append_assoc, append-nil, length-append}
use Rattle.std.specs.List.{AllByRecursion, list_any}
use Rattle.std.specs.Str.{bytes_eq}
use Rattle.std.proofs.lemmas.Bool.{ltb-false, leb-false}
use Rattle.std.proofs.lemmas.List.Sums.{sum_by_push}
use Rattle.std.proofs.lemmas.List.Elements.{filter-append}
use Rattle.ij_bits.specs.Different.{AreDifferent}
use Rattle.ij_text.specs.declared.Place.{Place}
use Rattle.ij_text.specs.declared.Which.TheVariants.{ScanBits, Muxes, Width}
use Rattle.icl_lexer.specs.Values.{SeenRange, SeenWhat, APort, ARegister, AMux, AChild, AnAlias, SomeWords}
use Rattle.icl_lexer.specs.Values.{AParameter, AnInterface, ALink, AnAttribute, SeenItem, SeenModule}
use Rattle.icl_declarations.specs.Faults.{Answer, ◌>>=◌, refuse_if, each, over, DoubleName, Limit}
use Rattle.icl_declarations.specs.Values.{Params}
use Rattle.icl_declarations.specs.declared.counts.Counts.{Counts}
use Rattle.icl_declarations.specs.declared.ranges.Bounds.{Bounds}
use Rattle.icl_declarations.specs.Ranges.{width, one_bit, check_width, indices, declared}
use Rattle.icl_declarations.specs.Parts.{is_part, is_register, is_mux, is_signal, is_rival, is_taken}
use Rattle.icl_declarations.specs.Parts.{inner_names, range_in}
use Rattle.icl_declarations.specs.Naming.{with_name, distinct, check_item_names}
use Rattle.icl_frames.specs.FirstPass.{request, Passed, bounds_of, Added, item_additions, with_added}
use Rattle.icl_frames.specs.FirstPass.{fold_item}
use Rattle.icl_frames.specs.FirstPass.{nothing_passed, fold_items}
use Rattle.icl_declarations.specs.Counting.{count_part}
use Rattle.icl_frames.specs.Laws.{register_bits}
use Rattle.icl_frames.proofs.Answering.{both, ok_is}
use Rattle.ij_text.proofs.EqualTexts.{bytes_same}
use Rattle.ij_bits.proofs.Contained.{cases_in, none_in}
use Rattle.ij_bits.proofs.Different.{different_one}
use Rattle.ij_bits.proofs.Everywhere.{all_one}

-- ---- tests

pub not_refused : {E : Type 0} (t : Bool) (e : E) (u : Unit {0}) → refuse_if t e ≡ Ok u → t ≡ false
not_refused true e u h = absurd cc
not_refused false e u h = refl

-- what none passes, none that is there passes
pub none_passes : {A : Type 0} (test : A → Bool) (xs : List A) (x : A)
    → list_any test xs ≡ false → Contains xs x → test x ≡ false
none_passes test [] x h c = absurd (none_in x c)
none_passes {A} test (y ∷ xs) x h c =
    by_test (test y) refl h (cases_in y x xs c) (λ g k. none_passes test xs x g k)
  where
    by_test : (b : Bool) → test y ≡ b → (b || list_any test xs) ≡ false → (y ≡ x) ⊎ Contains xs x
        → (list_any test xs ≡ false → Contains xs x → test x ≡ false) → test x ≡ false
    by_test true e g p again = absurd cc
    by_test false e g (inl q) again = subst (λ (z : A). test z ≡ false) q e
    by_test false e g (inr k) again = again g k

-- ---- names that differ among themselves

name_new : (at : Place) (before : List (List ℕ)) (name : List ℕ) (after : List (List ℕ)) → AreDifferent before
    → with_name at before name ≡ Ok after → AreDifferent after
name_new at before name after d h =
    let a = both (refuse_if (list_any (bytes_eq name) before) (DoubleName at name)) _ after h in
    let free = not_refused (list_any (bytes_eq name) before) (DoubleName at name) a.first a.is in
    subst AreDifferent (ok_is (before ++ name ∷ []) after a.then') (different_one before name d
    (λ c. absurd (contrary (none_passes (bytes_eq name) before name free c))))
  where
    contrary : bytes_eq name name ≡ false → ⊥
    contrary e = let s = bytes_same name name refl in absurd cc

names_new : (at : Place) (before names all : List (List ℕ)) → AreDifferent before
    → over (with_name at) before names ≡ Ok all → AreDifferent (before ++ names)
names_new at before [] all d h = subst AreDifferent (sym (append-nil before)) d
names_new at before (n ∷ names) all d h =
    let a = both (with_name at before n) _ all h in
    let b = both (refuse_if (list_any (bytes_eq n) before) (DoubleName at n)) _ a.first a.is in
    let e = ok_is (before ++ n ∷ []) a.first b.then' in
    let again = names_new at a.first names all (name_new at before n a.first d a.is) a.then' in
    subst AreDifferent (append_assoc before (n ∷ []) names)
    (subst (λ l. AreDifferent (l ++ names)) (sym e) again)

distinct_differ : (at : Place) (names : List (List ℕ)) (u : Unit {0})
    → distinct at names ≡ Ok u → AreDifferent names
distinct_differ at names u h =
    let a = both (over (with_name at) [] names) _ u h in names_new at [] names a.first tt a.is

-- ---- names of signals

abbrev pub signal_names : List SeenItem → List (List ℕ)
signal_names items = map (λ item. item.name) (filter (λ item. is_signal item.what) items)

names_one : (items : List SeenItem) (item : SeenItem)
    → signal_names (items ++ item ∷ []) ≡ signal_names items ++ cond (is_signal item.what) (item.name ∷ []) []
names_one [] item = by_test (is_signal item.what)
  where
    by_test : (b : Bool) → map (λ (i : SeenItem). i.name) (cond b (item ∷ []) []) ≡ cond b (item.name ∷ []) []
    by_test true = refl
    by_test false = refl
names_one (x ∷ items) item = by_test (is_signal x.what) (names_one items item)
  where
    by_test : (b : Bool) → signal_names (items ++ item ∷ [])
        ≡ signal_names items ++ cond (is_signal item.what) (item.name ∷ []) []
        → map (λ (i : SeenItem). i.name) (cond b (x ∷ filter (λ i. is_signal i.what) (items ++ item ∷ []))
        (filter (λ i. is_signal i.what) (items ++ item ∷ [])))
        ≡ map (λ (i : SeenItem). i.name) (cond b (x ∷ filter (λ i. is_signal i.what) items)
        (filter (λ i. is_signal i.what) items)) ++ cond (is_signal item.what) (item.name ∷ []) []
    by_test true again = ap (λ (l : List (List ℕ)). x.name ∷ l) again
    by_test false again = again

-- a signal's rivals are signals
rivals_are_signals : (before : List SeenItem) (name : List ℕ) (what : SeenWhat) → is_signal what ≡ true
    → list_any (λ other. is_rival what other.what && bytes_eq name other.name) before ≡ false
    → list_any (λ (other : SeenItem). is_signal other.what && bytes_eq name other.name) before ≡ false
rivals_are_signals before name (APort kind range props) s h = h
rivals_are_signals before name (ARegister range props) s h = h
rivals_are_signals before name (AMux select rows) s h = h
rivals_are_signals before name (AChild module' binds) s h = h
rivals_are_signals before name (AnAlias range sigs props) s h = h
rivals_are_signals before name (SomeWords words) s h = absurd cc
rivals_are_signals before name (AParameter local value) s h = absurd cc
rivals_are_signals before name (AnInterface ports) s h = absurd cc
rivals_are_signals before name (ALink kind entity instrs) s h = absurd cc
rivals_are_signals before name (AnAttribute value) s h = absurd cc

no_signal : (before : List SeenItem) (name : List ℕ)
    → list_any (λ (other : SeenItem). is_signal other.what && bytes_eq name other.name) before ≡ false
    → Contains (signal_names before) name → ⊥
no_signal [] name h c = none_in name c
no_signal (x ∷ before) name h c =
    by_test (is_signal x.what) (bytes_eq name x.name) refl h c (λ g k. no_signal before name g k)
  where
    by_test : (s b : Bool) → bytes_eq name x.name ≡ b → ((s && b) || list_any
        (λ (other : SeenItem). is_signal other.what && bytes_eq name other.name) before) ≡ false
        → Contains (map (λ (i : SeenItem). i.name)
        (cond s (x ∷ filter (λ i. is_signal i.what) before) (filter (λ i. is_signal i.what) before))) name
        → (list_any (λ (other : SeenItem). is_signal other.what && bytes_eq name other.name) before ≡ false
        → Contains (signal_names before) name → ⊥) → ⊥
    by_test false b e g k again = again g k
    by_test true true e g k again = absurd cc
    by_test true false e g k again = by_place (cases_in x.name name (signal_names before) k)
      where
        by_place : (x.name ≡ name) ⊎ Contains (signal_names before) name → ⊥
        by_place (inl q) = let s = bytes_same name x.name (sym q) in absurd cc
        by_place (inr l) = again g l

signals_one : (items : List SeenItem) (item : SeenItem) → AreDifferent (signal_names items)
    → is_taken items item ≡ false → AreDifferent (signal_names (items ++ item ∷ []))
signals_one items item d h =
    subst AreDifferent (sym (names_one items item)) (by_test (is_signal item.what) refl)
  where
    by_test : (b : Bool) → is_signal item.what ≡ b
        → AreDifferent (signal_names items ++ cond b (item.name ∷ []) [])
    by_test true e = different_one (signal_names items) item.name d
        (no_signal items item.name (rivals_are_signals items item.name item.what e h))
    by_test false e = subst AreDifferent (sym (append-nil (signal_names items))) d

-- ---- bounds of parts

abbrev pub parts_among : List SeenItem → List SeenItem
parts_among items = filter (λ item. is_part item.what) items

-- parts with the bounds that their ranges say
pub record AreBounded (ps : Params) (parts : List SeenItem) (bounds : List Bounds) : Type 0 where
  pub declared_are : each (λ item. declared ps (range_in item.what)) parts ≡ Ok bounds
  pub all : length bounds ≡ length parts
  pub widths : AllByRecursion (λ b. width b ≤ 65536) bounds

few_are : (b c : Bounds) → check_width b ≡ Ok c → width c ≤ 65536
few_are b c h = by_test (nat_lt 65536 (width b)) refl h
  where
    by_test : (t : Bool) → nat_lt 65536 (width b) ≡ t
        → cond t (Err (Limit Width 65536)) (Ok b) ≡ Ok c → width c ≤ 65536
    by_test true e g = absurd cc
    by_test false e g = subst (λ (d : Bounds). width d ≤ 65536) (ok_is b c g) (ltb-false 65536 (width b) e)

declared_few : (ps : Params) (r : Option SeenRange) (b : Bounds) → declared ps r ≡ Ok b → width b ≤ 65536
declared_few ps None b h = subst (λ (d : Bounds). width d ≤ 65536) (ok_is one_bit b h) (omega arith)
declared_few ps (Some r) b h = let a = both (indices ps r) check_width b h in few_are a.first b a.then'

each_one : {A B E : Type 0} (f : A → Result B E) (xs : List A) (ys : List B) (x : A) (y : B)
    → each f xs ≡ Ok ys → f x ≡ Ok y → each f (xs ++ x ∷ []) ≡ Ok (ys ++ y ∷ [])
each_one f [] ys x y h k = rw k (ap (λ l. Ok (l ++ y ∷ [])) (ok_is [] ys h))
each_one f (z ∷ xs) ys x y h k =
    let a = both (f z) (λ y. each f xs >>= λ zs. Ok (y ∷ zs)) ys h in
    let b = both (each f xs) (λ zs. Ok (a.first ∷ zs)) ys a.then' in
    rw (a.is, each_one f xs b.first x y b.is k)
    (ap (λ l. Ok (l ++ y ∷ [])) (ok_is (a.first ∷ b.first) ys b.then'))

bounded_one : (ps : Params) (parts : List SeenItem) (bounds : List Bounds) (item : SeenItem) (b : Bounds)
    → AreBounded ps parts bounds → declared ps (range_in item.what) ≡ Ok b
    → AreBounded ps (parts ++ item ∷ []) (bounds ++ b ∷ [])
bounded_one ps parts bounds item b p h = record {
  declared_are =
      each_one (λ (i : SeenItem). declared ps (range_in i.what)) parts bounds item b p.declared_are h;
  all = length-append bounds (b ∷ []) ∙ ap (λ n. n + 1) p.all ∙ sym (length-append parts (item ∷ []));
  widths = all_one (λ b. width b ≤ 65536) bounds b p.widths (declared_few ps (range_in item.what) b h);
}

bounded_more : (ps : Params) (parts : List SeenItem) (bounds : List Bounds) (item : SeenItem) (b : Bounds)
    (t : Bool) → AreBounded ps parts bounds → declared ps (range_in item.what) ≡ Ok b
    → AreBounded ps (parts ++ cond t (item ∷ []) []) (bounds ++ cond t (b ∷ []) [])
bounded_more ps parts bounds item b true p h = bounded_one ps parts bounds item b p h
bounded_more ps parts bounds item b false p h = subst (λ xs. AreBounded ps xs (bounds ++ []))
    (sym (append-nil parts)) (subst (AreBounded ps parts) (sym (append-nil bounds)) p)

-- ---- counts

zip_one : {A B : Type 0} (xs : List A) (ys : List B) (x : A) (y : B) → length ys ≡ length xs
    → zip (xs ++ x ∷ []) (ys ++ y ∷ []) ≡ zip xs ys ++ (x, y) ∷ []
zip_one [] [] x y e = refl
zip_one [] (v ∷ ys) x y e = absurd (omega (arith, e))
zip_one (u ∷ xs) [] x y e = absurd (omega (arith, e))
zip_one {A} {B} (u ∷ xs) (v ∷ ys) x y e =
    ap (λ (l : List (A × B)). (u, v) ∷ l) (zip_one xs ys x y (omega (arith, e)))

abbrev pub bits_among : List SeenItem → List Bounds → ℕ
bits_among parts bounds = sum_by register_bits (zip parts bounds)

bits_more : (parts : List SeenItem) (bounds : List Bounds) (item : SeenItem) (b : Bounds) (t : Bool)
    → length bounds ≡ length parts
    → bits_among (parts ++ cond t (item ∷ []) []) (bounds ++ cond t (b ∷ []) [])
    ≡ bits_among parts bounds + cond t (register_bits (item, b)) 0
bits_more parts bounds item b true e = ap (sum_by register_bits) (zip_one parts bounds item b e)
    ∙ sum_by_push register_bits (zip parts bounds) (item, b)
bits_more parts bounds item b false e = rw (append-nil parts, append-nil bounds) (omega arith)

-- what one item adds to the counts
pub record IsCounted (c d : Counts) (what : SeenWhat) (b : Bounds) : Type 0 where
  pub bits : d.bits ≡ c.bits + cond (is_part what) (cond (is_register what) (width b) 0) 0
  pub muxes : d.muxes ≡ c.muxes + cond (is_mux what) 1 0
  pub instruments : d.instruments ≡ c.instruments
  pub bits_within_limit : c.bits ≤ 4096 → d.bits ≤ 4096
  pub few_muxes : c.muxes ≤ 1024 → d.muxes ≤ 1024

none_counted : (c d : Counts) (what : SeenWhat) (b : Bounds) → is_register what ≡ false → is_mux what ≡ false
    → ◌≡◌ {A = Answer Counts} (Ok c) (Ok d) → IsCounted c d what b
none_counted c d what b r m h = subst (λ (x : Counts). IsCounted c x what b) (ok_is c d h) (record {
  bits = rw r (by_part (is_part what));
  muxes = rw m (omega arith);
  instruments = refl;
  bits_within_limit = λ k. k;
  few_muxes = λ k. k;
})
  where
    by_part : (t : Bool) → c.bits ≡ c.bits + cond t 0 0
    by_part true = omega arith
    by_part false = omega arith

counted : (c d : Counts) (b : Bounds) (what : SeenWhat) → count_part c b what ≡ Ok d → IsCounted c d what b
counted c d b (ARegister range props) h =
    let a = both (refuse_if (nat_lt 4096 (c.bits + width b)) (Limit ScanBits 4096)) _ d h in
    let few = ltb-false 4096 (c.bits + width b)
    (not_refused (nat_lt 4096 (c.bits + width b)) (Limit ScanBits 4096) a.first a.is) in
    subst (λ (x : Counts). IsCounted c x (ARegister range props) b)
    (ok_is (record c { bits = c.bits + width b }) d a.then')
    (record {
      bits = refl;
      muxes = omega arith;
      instruments = refl;
      bits_within_limit = λ k. few;
      few_muxes = λ k. k;
    })
counted c d b (AMux select rows) h =
    let a = both (refuse_if (nat_le 1024 c.muxes) (Limit Muxes 1024)) _ d h in
    let few = leb-false 1024 c.muxes (not_refused (nat_le 1024 c.muxes) (Limit Muxes 1024) a.first a.is) in
    subst (λ (x : Counts). IsCounted c x (AMux select rows) b)
    (ok_is (record c { muxes = c.muxes + 1 }) d a.then')
    (record {
      bits = omega arith;
      muxes = refl;
      instruments = refl;
      bits_within_limit = λ k. k;
      few_muxes = λ k. omega (arith, few);
    })
counted c d b (APort kind range props) h = none_counted c d (APort kind range props) b refl refl h
counted c d b (AChild module' binds) h = none_counted c d (AChild module' binds) b refl refl h
counted c d b (AnAlias range sigs props) h = none_counted c d (AnAlias range sigs props) b refl refl h
counted c d b (SomeWords words) h = none_counted c d (SomeWords words) b refl refl h
counted c d b (AParameter local value) h = none_counted c d (AParameter local value) b refl refl h
counted c d b (AnInterface ports) h = none_counted c d (AnInterface ports) b refl refl h
counted c d b (ALink kind entity instrs) h = none_counted c d (ALink kind entity instrs) b refl refl h
counted c d b (AnAttribute value) h = none_counted c d (AnAttribute value) b refl refl h

-- ---- the items of a cell

-- after some items, from these counts on
pub record AreFilled (ps : Params) (c : Counts) (s : Passed) (items : List SeenItem) : Type 0 where
  pub items_are : s.items ≡ items
  pub bounded : AreBounded ps (parts_among items) s.bounds
  pub signals : AreDifferent (signal_names items)
  pub inner : AllByRecursion (λ item. AreDifferent (inner_names item.what)) items
  pub bits : s.counts.bits ≡ c.bits + bits_among (parts_among items) s.bounds
  pub muxes : s.counts.muxes ≡ c.muxes + count_by (λ item. is_mux item.what) items
  pub instruments : s.counts.instruments ≡ c.instruments
  pub bits_within_limit : c.bits ≤ 4096 → s.counts.bits ≤ 4096
  pub few_muxes : c.muxes ≤ 1024 → s.counts.muxes ≤ 1024

-- what one item adds
pub record IsLookedAt (ps : Params) (before : List SeenItem) (c : Counts)
    (item : SeenItem) (a : Added) : Type 0 where
  pub new : is_taken before item ≡ false
  pub inner : AreDifferent (inner_names item.what)
  pub bounds : declared ps (range_in item.what) ≡ Ok a.bounds
  pub counted : IsCounted c a.counts item.what a.bounds

module _ (blocks : List SeenModule) (above : List (List ℕ)) (ps : Params) where
  looked : (before : List SeenItem) (c : Counts) (item : SeenItem) (l : Added)
      → item_additions blocks above ps before c item ≡ Ok l → IsLookedAt ps before c item l
  unfolding item_additions
  looked before c item l h =
      let a = both (check_item_names before item) _ l h in
      let n = both (refuse_if (is_taken before item) (DoubleName item.at item.name)) _ a.first a.is in
      let b = both (declared ps (range_in item.what)) _ l a.then' in
      let r = both (request blocks above ps item item.what) _ l b.then' in
      let d = both (count_part c b.first item.what) _ l r.then' in
      subst (IsLookedAt ps before c item) (ok_is _ l d.then') (record {
        new = not_refused (is_taken before item) (DoubleName item.at item.name) n.first n.is;
        inner = distinct_differ item.at (inner_names item.what) a.first n.then';
        bounds = b.is;
        counted = counted c d.first b.first item.what d.is;
      })

  fill_one : (c : Counts) (s t : Passed) (items : List SeenItem) (item : SeenItem) → AreFilled ps c s items
      → fold_item blocks above ps s item ≡ Ok t → AreFilled ps c t (items ++ item ∷ [])
  unfolding fold_item
  fill_one c s t items item p h =
      let a = both (item_additions blocks above ps s.items s.counts item) _ t h in
      let l = looked s.items s.counts item a.first a.is in
      let parts : parts_among (items ++ item ∷ []) ≡ parts_among items ++ cond (is_part item.what) (item ∷ [])
      [] = filter-append (λ (i : SeenItem). is_part i.what) items (item ∷ []) in
      subst (λ (u : Passed). AreFilled ps c u (items ++ item ∷ []))
      (ok_is (with_added s item a.first) t a.then')
      (record {
        items_are = ap (λ k. k ++ item ∷ []) p.items_are;
        bounded =
            let more = bounded_more ps (parts_among items) s.bounds item a.first.bounds
            (is_part item.what) p.bounded l.bounds in
            subst (λ xs. AreBounded ps xs (s.bounds ++ bounds_of item.what a.first.bounds)) (sym parts) more;
        signals = signals_one items item p.signals (subst (λ k. is_taken k item ≡ false) p.items_are l.new);
        inner = all_one (λ (i : SeenItem). AreDifferent (inner_names i.what)) items item p.inner l.inner;
        bits =
            let more = bits_more (parts_among items) s.bounds item a.first.bounds
            (is_part item.what) p.bounded.all in
            let sum = l.counted.bits in
            let old = p.bits in
            rw parts (omega (arith, more, sum, old));
        muxes = let more = sum_by_push (λ (i : SeenItem). cond (is_mux i.what) 1 0) items item in
            let sum = l.counted.muxes in
            let old = p.muxes in omega (arith, more, sum, old);
        instruments = l.counted.instruments ∙ p.instruments;
        bits_within_limit = λ k. l.counted.bits_within_limit (p.bits_within_limit k);
        few_muxes = λ k. l.counted.few_muxes (p.few_muxes k);
      })

  fill_all : (c : Counts) (s t : Passed) (items more : List SeenItem) → AreFilled ps c s items
      → over (fold_item blocks above ps) s more ≡ Ok t → AreFilled ps c t (items ++ more)
  fill_all c s t items [] p h = subst (AreFilled ps c t) (sym (append-nil items))
      (subst (λ (u : Passed). AreFilled ps c u items) (ok_is s t h) p)
  fill_all c s t items (x ∷ more) p h =
      let a = both (fold_item blocks above ps s x) _ t h in
      subst (AreFilled ps c t) (append_assoc items (x ∷ []) more)
      (fill_all c a.first t (items ++ x ∷ []) more (fill_one c s a.first items x p a.is) a.then')

  pub filled : (c : Counts) (block : SeenModule) (s : Passed)
      → fold_items blocks above ps c block ≡ Ok s → AreFilled ps c s block.items
  filled c block s h = fill_all c (nothing_passed c) s [] block.items
      (record {
        items_are = refl;
        bounded = record { declared_are = refl; all = refl; widths = tt };
        signals = tt;
        inner = tt;
        bits = omega arith;
        muxes = omega arith;
        instruments = refl;
        bits_within_limit = λ k. k;
        few_muxes = λ k. k;
      })
      h
