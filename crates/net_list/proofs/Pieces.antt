-- Texts that are written piece by piece.
use Rattle.std.specs.Prelude.{◌==◌, All, Bool, true, false, codes, cond, filter}
use Rattle.std.specs.List.{range_with_len}
use Rattle.std.proofs.Common.{◌≡◌, ◌<◌, ◌≤◌, ◌+◌, ℕ, zero, suc, Option, List, [], ◌∷◌, ◌++◌, length, get_or}
use Rattle.std.proofs.Common.{drop, refl, sym, ap, ◌∙◌, subst, append_assoc, append-nil, arith}
use Rattle.std.proofs.Math.Seq.{drop-cons}
use Rattle.std.proofs.lemmas.List.{drop_all}
use Rattle.std.proofs.lemmas.List.Elements.{All-append, All-cons, All-nil, filter-append}
use Rattle.ij_bits.specs.declared.tern.Tern.{Tern}
use Rattle.ij_io.specs.Bytes.{Adds, AddsPart}
use Rattle.ij_io.proofs.Fronts.{AddsFront, front_next, front_part, front_all}
use Rattle.net_graph.specs.declared.net.BitId.{BitId}
use Rattle.net_graph.specs.declared.net.Net.{Net}
use Rattle.net_graph.specs.declared.net.Sig.{Sig}
use Rattle.net_graph.specs.Chain.{chain, IsRoute}
use Rattle.net_graph.specs.Held.{AreHolds}
use Rattle.net_graph.specs.Nets.{IsNet}
use Rattle.net_graph.specs.Path.{route_of}
use Rattle.net_graph.specs.Resets.{start_holds}
use Rattle.net_graph.specs.Signals.{Holds}
use Rattle.net_graph.proofs.Routes.{route_in}
use Rattle.net_graph.proofs.Widths.{chain_fits, started_held}
use Rattle.net_list.specs.declared.format.ListFormat.{ListFormat}
use Rattle.net_graph.specs.declared.net.Sig.TheVariants.{Absent}
use Rattle.net_list.specs.Drivers.{bit_name, driver, drivers, continues_run, is_run_continued, run_end}
use Rattle.net_list.specs.Drivers.{run_start}
use Rattle.net_list.specs.Forms.{text_or_json, items, tern_digit, tern_digits}
use Rattle.net_list.specs.Lines.{quoted, select_bits}
use Rattle.net_list.specs.Listing.{bit_count, lines_from, start_path_bits, totals_line, totals_text}

-- ---- items of a list

module _ {T : Type 0} (item : T → List ℕ) (between : List ℕ) (xs : List T) where
  items_cut : (before : List ℕ) (i s : ℕ) (x : T) → i < length xs → x ≡ get_or xs i x → s ≡ suc i
      → items item between before (drop i xs) ≡ (before ++ item x) ++ items item between between (drop s xs)
  items_cut before i s x within is next =
      ap (items item between before) (drop-cons xs i x within)
      ∙ ap (λ (y : T). before ++ (item y ++ items item between between (drop (suc i) xs))) (sym is)
      ∙ ap (λ (n : ℕ). before ++ (item x ++ items item between between (drop n xs))) (sym next)
      ∙ sym (append_assoc before (item x) (items item between between (drop s xs)))

  -- one item more
  pub item_next : {old mid new : Option (List ℕ)} {text : List ℕ} {x : T} (before : List ℕ) (i s : ℕ)
      → i < length xs → x ≡ get_or xs i x → s ≡ suc i
      → AddsFront old mid (items item between before (drop i xs)) text → Adds mid new (before ++ item x)
      → AddsFront old new (items item between between (drop s xs)) text
  item_next {old} {mid} {new} {text} {x} before i s within is next front adds =
      front_next (before ++ item x) (items item between between (drop s xs))
      (subst (λ (rest : List ℕ). AddsFront old mid rest text)
      (items_cut before i s x within is next) front) adds

  pub item_part : {old mid new : Option (List ℕ)} {text : List ℕ} {x : T} (before : List ℕ) (i : ℕ)
      → i < length xs → x ≡ get_or xs i x
      → AddsFront old mid (items item between before (drop i xs)) text
      → AddsPart mid new (before ++ item x) → AddsPart old new text
  item_part {old} {mid} {new} {text} {x} before i within is front part =
      let next : suc i ≡ suc i = omega arith in
      front_part (before ++ item x) (items item between between (drop (suc i) xs))
      (subst (λ (rest : List ℕ). AddsFront old mid rest text)
      (items_cut before i (suc i) x within is next) front) part

  -- all items
  pub items_done : {old now : Option (List ℕ)} {text : List ℕ} (before : List ℕ) (i : ℕ) → length xs ≤ i
      → AddsFront old now (items item between before (drop i xs)) text → Adds old now text
  items_done {old} {now} {text} before i end front =
      front_all (subst (λ (ys : List T). AddsFront old now (items item between before ys) text)
      (drop_all i xs end) front)

-- ---- lines

pub lines_next : (line : ℕ → List ℕ) (i s n m : ℕ) → n ≡ suc m → s ≡ suc i
    → lines_from line i n ≡ line i ++ lines_from line s m
lines_next line i s n m more next =
    ap (lines_from line i) more ∙ ap (λ (k : ℕ). line i ++ lines_from line k m) (sym next)

pub lines_done : {old now : Option (List ℕ)} {text : List ℕ} (line : ℕ → List ℕ) (i n : ℕ) → n ≡ 0
    → AddsFront old now (lines_from line i n) text → Adds old now text
lines_done {old} {now} {text} line i n none front =
    front_all (subst (λ (k : ℕ). AddsFront old now (lines_from line i k) text) none front)

-- ---- from the highest position down

pub digits_next : (t : Tern) (n m : ℕ) (digit : ℕ) → n ≡ suc m → digit ≡ tern_digit t m
    → tern_digits t n ≡ (digit ∷ []) ++ tern_digits t m
digits_next t n m digit more is =
    ap (tern_digits t) more ∙ ap (λ (x : ℕ). x ∷ tern_digits t m) (sym is)

module _ (f : ListFormat) (net : Net) (before : List ℕ) (bits : List BitId) (n m k : ℕ) (b : BitId) where
  abbrev between : List ℕ
  between = text_or_json f (codes " ") (codes ",")

  abbrev piece : List ℕ
  piece = before ++ quoted f (bit_name net b)

  bits_cut : n ≡ suc m → k ≡ m → b ≡ get_or bits k (record { reg = 0; pos = 0 })
      → select_bits f net before bits n ≡ piece ++ select_bits f net between bits m
  bits_cut more place is =
      let rest = select_bits f net between bits m in
      ap (select_bits f net before bits) more
      ∙ ap (λ (j : ℕ). before
      ++ (quoted f (bit_name net (get_or bits j (record { reg = 0; pos = 0 }))) ++ rest)) (sym place)
      ∙ ap (λ (c : BitId). before ++ (quoted f (bit_name net c) ++ rest)) (sym is)
      ∙ sym (append_assoc before (quoted f (bit_name net b)) rest)

  pub bit_next : {old mid new : Option (List ℕ)} {text : List ℕ} (after : List ℕ) → n ≡ suc m → k ≡ m
      → b ≡ get_or bits k (record { reg = 0; pos = 0 }) → after ≡ between
      → AddsFront old mid (select_bits f net before bits n) text → Adds mid new piece
      → AddsFront old new (select_bits f net after bits m) text
  bit_next {old} {mid} {new} {text} after more place is same front adds =
      subst (λ (x : List ℕ). AddsFront old new (select_bits f net x bits m) text) (sym same)
      (front_next piece (select_bits f net between bits m)
      (subst (λ (rest : List ℕ). AddsFront old mid rest text) (bits_cut more place is) front) adds)

  pub bit_part : {old mid new : Option (List ℕ)} {text : List ℕ} → n ≡ suc m → k ≡ m
      → b ≡ get_or bits k (record { reg = 0; pos = 0 })
      → AddsFront old mid (select_bits f net before bits n) text
      → AddsPart mid new piece → AddsPart old new text
  bit_part {old} {mid} {new} {text} more place is front part =
      front_part piece (select_bits f net between bits m)
      (subst (λ (rest : List ℕ). AddsFront old mid rest text) (bits_cut more place is) front) part

pub drivers_next : (net : Net) (bits : List Sig) (n m p : ℕ) → n ≡ suc m → p ≡ m
    → drivers net bits n ≡ driver net bits p ++ drivers net bits m
drivers_next net bits n m p more place =
    ap (drivers net bits) more ∙ ap (λ (j : ℕ). driver net bits j ++ drivers net bits m) (sym place)

-- ---- the muxes in which a register selects

range_more : (a n : ℕ) → range_with_len a (suc n) ≡ range_with_len a n ++ (a + n) ∷ []
range_more a zero =
    let same : a ≡ a + 0 = omega arith in
    ap (λ (k : ℕ). k ∷ []) same
range_more a (suc n) =
    let same : a + 1 + n ≡ a + suc n = omega arith in
    ap (λ (xs : List ℕ). a ∷ xs)
    (range_more (a + 1) n ∙ ap (λ (k : ℕ). range_with_len (a + 1) n ++ k ∷ []) same)

one_kept : (p : ℕ → Bool) (m : ℕ) → filter p (m ∷ []) ≡ cond (p m) (m ∷ []) []
one_kept p m = kept (p m)
  where
    kept : (b : Bool) → cond b (m ∷ []) [] ≡ cond b (m ∷ []) []
    kept b = refl

pub kept_next : (p : ℕ → Bool) (old new : List ℕ) (m s : ℕ) (b : Bool) → old ≡ filter p (range_with_len 0 m)
    → new ≡ old ++ cond b (m ∷ []) [] → b ≡ p m → s ≡ suc m → new ≡ filter p (range_with_len 0 s)
kept_next p old new m s b so_far more is next =
    let at : 0 + m ≡ m = omega arith in
    more
    ∙ ap (λ (xs : List ℕ). xs ++ cond b (m ∷ []) []) so_far
    ∙ ap (λ (c : Bool). filter p (range_with_len 0 m) ++ cond c (m ∷ []) []) is
    ∙ ap (λ (xs : List ℕ). filter p (range_with_len 0 m) ++ xs) (sym (one_kept p m))
    ∙ sym (filter-append p (range_with_len 0 m) (m ∷ []))
    ∙ ap (filter p) (sym (range_more 0 m ∙ ap (λ (k : ℕ). range_with_len 0 m ++ k ∷ []) at))
    ∙ ap (λ (k : ℕ). filter p (range_with_len 0 k)) (sym next)

pub below_next : (n m : ℕ) (old new : List ℕ) (b : Bool) → m < n → All (λ k. k < n) old
    → new ≡ old ++ cond b (m ∷ []) [] → All (λ k. k < n) new
below_next n m old new true below all more =
    subst (All (λ k. k < n)) (sym more)
    (All-append (λ k. k < n) old (m ∷ []) all (All-cons (λ k. k < n) m [] below (All-nil (λ k. k < n))))
below_next n m old new false below all more =
    subst (All (λ k. k < n)) (sym (more ∙ append-nil old)) all

-- ---- the path at power-up

module _ (net : Net) (h : Holds) (path : List ℕ) (n : IsNet net)
    (start : h ≡ start_holds net) (is : path ≡ route_of net h) where
  held : AreHolds net h
  held = started_held net h start

  pub start_route : IsRoute (length h) path
  start_route = subst (IsRoute (length h)) (sym is) (route_in net h h n held)

  pub start_short : length (chain path h) ≤ 4096
  start_short = omega (arith, chain_fits net path h held start_route, n.bits_within_limit)

pub totals_are : (f : ListFormat) (net : Net) (r b m i p : ℕ) → r ≡ length net.regs.items → b ≡ bit_count net
    → m ≡ length net.muxes.items → i ≡ length net.insts.items → p ≡ start_path_bits net
    → totals_text f r b m i p ≡ totals_line f net
totals_are f net r b m i p er eb em ei ep =
    ap (λ (n : ℕ). totals_text f n b m i p) er
    ∙ ap (λ (n : ℕ). totals_text f (length net.regs.items) n m i p) eb
    ∙ ap (λ (n : ℕ). totals_text f (length net.regs.items) (bit_count net) n i p) em
    ∙ ap (λ (n : ℕ). totals_text f (length net.regs.items) (bit_count net) (length net.muxes.items) n p) ei
    ∙ ap (totals_text f (length net.regs.items) (bit_count net)
    (length net.muxes.items) (length net.insts.items)) ep

-- ---- one position of what drives an input

pub driver_is : (net : Net) (bits : List Sig) (p : ℕ) (s : Sig) (first more followed : Bool)
    → s ≡ get_or bits p Absent → first ≡ (suc p == length bits)
    → more ≡ continues_run bits p → followed ≡ is_run_continued bits p
    → cond more [] (cond first [] (codes ",") ++ run_start net s)
    ++ cond followed [] (run_end net more s) ≡ driver net bits p
driver_is net bits p s first more followed es ef em el =
    ap (λ (x : Sig). cond more [] (cond first [] (codes ",") ++ run_start net x)
    ++ cond followed [] (run_end net more x)) es
    ∙ ap (λ (x : Bool). cond more [] (cond x [] (codes ",") ++ run_start net (get_or bits p Absent))
    ++ cond followed [] (run_end net more (get_or bits p Absent))) ef
    ∙ ap (λ (x : Bool). cond x [] (cond (suc p == length bits) [] (codes ",") ++ run_start net
    (get_or bits p Absent)) ++ cond followed [] (run_end net x (get_or bits p Absent))) em
    ∙ ap (λ (x : Bool). cond (continues_run bits p) [] (cond (suc p == length bits) [] (codes ",") ++ run_start net
    (get_or bits p Absent)) ++ cond x [] (run_end net (continues_run bits p) (get_or bits p Absent))) el
