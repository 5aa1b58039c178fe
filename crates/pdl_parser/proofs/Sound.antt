-- The procedures of a text have names of their own, and so have the arguments of each; each argument that is
-- used is one of them.
use Rattle.std.proofs.Common.{◌≡◌, ℕ, zero, suc, ◌+◌, ◌<◌, ◌≤◌, Bool, true, false, cond, nat_lt, List, []}
use Rattle.std.proofs.Common.{◌∷◌, ◌++◌, length, get_or, Option, Some, None, is_some, refl, sym, ap, ◌∙◌}
use Rattle.std.proofs.Common.{subst, arith, inl, inr}
use Rattle.std.specs.Prelude.{◌==◌, ◌⊎◌, not, All, unwrap_or}
use Rattle.std.specs.Char.{is_ascii_digit}
use Rattle.std.specs.List.{position_or_len}
use Rattle.std.specs.Str.{bytes_eq}
use Rattle.std.proofs.lemmas.Bool.Decides.{nat_tests}
use Rattle.std.proofs.lemmas.List.{map-append}
use Rattle.std.proofs.lemmas.List.Elements.{All-nil, All-push}
use Rattle.std.proofs.lemmas.Slice.Eq.{bytes_eq-Decides}
use Rattle.ij_text.specs.Symbol.{Symbol, Parts, give, none, ◌>>=◌}
use Rattle.ij_text.specs.Numbering.{AreDistinct}
use Rattle.ij_text.specs.Numbers.{Written, number_of_text}
use Rattle.ij_text.specs.Words.{is_name}
use Rattle.ij_text.specs.declared.Place.{Place}
use Rattle.pdl_parser.specs.declared.words.WordKind.{WordKind}
use Rattle.pdl_parser.specs.declared.words.WordKind.TheVariants.{Plain, Quoted, Unclosed, Open, Close, End}
use Rattle.pdl_parser.specs.declared.words.Rule.TheVariants.{LeftOut, TooWide, ProcTwice, NoArg}
use Rattle.pdl_parser.specs.declared.words.CommandWord.{CommandWord}
use Rattle.pdl_parser.specs.declared.words.CommandWord.TheVariants.{OfNothing, OfPrefix, OfCall, OfWrite}
use Rattle.pdl_parser.specs.declared.words.CommandWord.TheVariants.{OfRead, OfApply, OfRunLoop, OfReset}
use Rattle.pdl_parser.specs.declared.words.CommandWord.TheVariants.{OfNote, OfMerge}
use Rattle.pdl_parser.specs.declared.words.FileWord.{FileWord}
use Rattle.pdl_parser.specs.declared.words.FileWord.TheVariants.{OfBlank, OfLevel, OfModule, OfProc}
use Rattle.pdl_parser.specs.Cutting.{Word}
use Rattle.pdl_parser.specs.Values.{AValue, ANumber, AWord, AnArgument, Command, ARead, ALine, AProc}
use Rattle.pdl_parser.specs.Texts.{Verdict, Taken, Barred, Unfit, name_of, is_too_wide, number_verdict, is_in}
use Rattle.pdl_parser.specs.Texts.{argument_verdict, value_of, is_loop_option, count_of}
use Rattle.pdl_parser.specs.Grammar.{if_plain, mark, value_in, plain, judged, plain_verdict, value}
use Rattle.pdl_parser.specs.Grammar.{command_after, line_after, is_empty_command, line, Body, with_line}
use Rattle.pdl_parser.specs.Grammar.{lines}
use Rattle.pdl_parser.specs.Grammar.{body, new_name, arguments, full_name, full_names, proc_verdict}
use Rattle.pdl_parser.specs.Grammar.{proc_name, proc_after, File, in_module, part_after, part, procs}
use Rattle.pdl_parser.specs.Laws.{IsDeclared, AreDeclared, IsSound}

-- a property of the state that each part keeps holds after all of them
kept : {T W A S : Type 0} (part : S → Symbol T W A) (next : S → A → S) (P : S → Type 0)
    → ((s : S) (ts : List T) (a : A) → P s → (part s).derives ts a → P (next s a))
    → (n : ℕ) (s : S) (ts : List T) (last : S) → P s → Parts part next n s ts last → P last
kept part next P keeps zero s ts last p d = subst P (sym d.1) p
kept part next P keeps (suc n) s ts last p (front, back, a, e, one, more) =
    kept part next P keeps n (next s a) back last (keeps s front a p one) more

-- ---- one more name

is_found : (p : List ℕ → Bool) (names : List (List ℕ)) (i : ℕ) → i < length names
    → p (get_or names i []) ≡ true → position_or_len p names < length names
is_found p [] i h e = absurd (omega (arith, h))
is_found p (n ∷ ns) zero h e = by_test (p n) e
  where
    by_test : (t : Bool) → t ≡ true → cond (not t) (1 + position_or_len p ns) 0 < suc (length ns)
    by_test true e = omega arith
    by_test false e = absurd cc
is_found p (n ∷ ns) (suc i) h e = by_test (p n) (is_found p ns i (omega (arith, h)) e)
  where
    by_test : (t : Bool) → position_or_len p ns < length ns
        → cond (not t) (1 + position_or_len p ns) 0 < suc (length ns)
    by_test true there = omega arith
    by_test false there = omega (arith, there)

not_in : (names : List (List ℕ)) (x : List ℕ) → is_in names x ≡ false → (i : ℕ)
    → i < length names → get_or names i [] ≡ x → ⊥
not_in names x off i h e =
    by_test (nat_lt (position_or_len (bytes_eq x) names) (length names)) refl off
  where
    below : position_or_len (bytes_eq x) names < length names
    below = is_found (bytes_eq x) names i h ((bytes_eq-Decides x (get_or names i [])).1 (sym e))

    by_test : (t : Bool) → nat_lt (position_or_len (bytes_eq x) names) (length names) ≡ t
        → is_some (cond t (Some (position_or_len (bytes_eq x) names)) None) ≡ false → ⊥
    by_test true lt bad = absurd cc
    by_test false lt bad =
        let le : length names ≤ position_or_len (bytes_eq x) names = grind (arith, nat_tests) in
        absurd (omega (arith, le, below))

pub one_more_name : (names : List (List ℕ)) (x : List ℕ) → AreDistinct names
    → is_in names x ≡ false → AreDistinct (names ++ x ∷ [])
one_more_name names x d off i j h k e =
    by_places (place_of names i h) (place_of names j k)
  where
    -- a place is that of one of the names, or the last one
    place_of : (ns : List (List ℕ)) (i : ℕ) → i < length (ns ++ x ∷ [])
        → ((i < length ns) × (get_or (ns ++ x ∷ []) i [] ≡ get_or ns i []))
        ⊎ ((i ≡ length ns) × (get_or (ns ++ x ∷ []) i [] ≡ x))
    place_of [] zero h = inr (refl, refl)
    place_of [] (suc i) h = absurd (omega (arith, h))
    place_of (n ∷ ns) zero h = inl (omega arith, refl)
    place_of (n ∷ ns) (suc i) h = elim (place_of ns i (omega (arith, h))) [
      | inl one ↦ let lt = one.0 in inl (omega (arith, lt), one.1)
      | inr last ↦ inr (ap suc last.0, last.1)
    ]

    by_places : ((i < length names) × (get_or (names ++ x ∷ []) i [] ≡ get_or names i []))
        ⊎ ((i ≡ length names) × (get_or (names ++ x ∷ []) i [] ≡ x))
        → ((j < length names) × (get_or (names ++ x ∷ []) j [] ≡ get_or names j []))
        ⊎ ((j ≡ length names) × (get_or (names ++ x ∷ []) j [] ≡ x)) → i ≡ j
    by_places (inl a) (inl b) = d i j a.0 b.0 (sym a.1 ∙ e ∙ b.1)
    by_places (inl a) (inr b) = absurd (not_in names x off i a.0 (sym a.1 ∙ e ∙ b.1))
    by_places (inr a) (inl b) = absurd (not_in names x off j b.0 (sym b.1 ∙ sym e ∙ a.1))
    by_places (inr a) (inr b) = a.0 ∙ sym b.0

-- ---- words that are taken

abbrev OfTaken : {A : Type 0} → (A → Type 0) → Verdict A → Type 0
OfTaken P (Taken a) = P a
OfTaken P (Barred rule) = Unit {0}
OfTaken P Unfit = Unit {0}

of_either : {A : Type 0} (P : A → Type 0) (t : Bool) (x y : Verdict A)
    → OfTaken P x → OfTaken P y → OfTaken P (cond t x y)
of_either P true x y p q = p
of_either P false x y p q = q

of_plain : {A : Type 0} (P : A → Type 0) (k : WordKind) (x : Verdict A)
    → OfTaken P x → OfTaken P (if_plain k x Unfit)
of_plain P Plain x p = p
of_plain P Quoted x p = tt
of_plain P Unclosed x p = tt
of_plain P Open x p = tt
of_plain P Close x p = tt
of_plain P End x p = tt

-- what a judged word gives has a property that each word that is taken has
judged_has : {A : Type 0} (P : A → Type 0) (f : Word → Verdict A) → ((w : Word) → OfTaken P (f w))
    → (ts : List Word) (a : A) → (judged f).derives ts a → P a
judged_has P f has [] a (inl d) = absurd d
judged_has {A} P f has (w ∷ []) a (inl d) = by_verdict (f w) (has w) d
  where
    by_verdict : (v : Verdict A) → OfTaken P v → value_in v ≡ Some a → P a
    by_verdict (Taken b) p e = subst P (ap (λ o. unwrap_or o b) e) p
    by_verdict (Barred rule) p e = absurd cc
    by_verdict Unfit p e = absurd cc
judged_has P f has (w ∷ v ∷ ts) a (inl d) = absurd d
judged_has P f has ts a (inr d) = absurd d

-- ---- values

module _ (args : List (List ℕ)) where
  number_has : (o : Option Written) → OfTaken (IsDeclared args) (number_verdict o)
  number_has None = tt
  number_has (Some w) = of_either (IsDeclared args) (is_too_wide w) (Barred TooWide) (Taken (ANumber w)) tt tt

  argument_has : (name : List ℕ) → OfTaken (IsDeclared args) (argument_verdict args name)
  argument_has name = of_either (IsDeclared args) (is_name name) (cond (is_in args name)
      (Taken (AnArgument name)) (Barred NoArg)) Unfit (by_test (is_in args name) refl) tt
    where
      by_test : (t : Bool) → is_in args name ≡ t
          → OfTaken (IsDeclared args) (cond t (Taken (AnArgument name)) (Barred NoArg))
      by_test true e = e
      by_test false e = tt

  value_has : (text : List ℕ) → OfTaken (IsDeclared args) (value_of args text)
  value_has [] = tt
  value_has (b ∷ bs) =
      of_either (IsDeclared args) (is_ascii_digit b) (number_verdict (number_of_text (b ∷ bs)))
      (cond (b == 36) (argument_verdict args bs) (cond (is_name (b ∷ bs)) (Taken (AWord (b ∷ bs))) Unfit))
      (number_has (number_of_text (b ∷ bs)))
      (of_either (IsDeclared args) (b == 36) (argument_verdict args bs)
      (cond (is_name (b ∷ bs)) (Taken (AWord (b ∷ bs))) Unfit) (argument_has bs)
      (of_either (IsDeclared args) (is_name (b ∷ bs)) (Taken (AWord (b ∷ bs))) Unfit tt tt))

  declared : (ts : List Word) (v : AValue) → (value args).derives ts v → IsDeclared args v
  declared ts v d = judged_has (IsDeclared args) (plain_verdict (value_of args))
      (λ w. of_plain (IsDeclared args) w.kind (value_of args w.text) (value_has w.text)) ts v d

  count_declared : (ts : List Word) (v : AValue)
      → (judged (plain_verdict (count_of args))).derives ts v → IsDeclared args v
  count_declared ts v d =
      judged_has (IsDeclared args) (plain_verdict (count_of args))
      (λ w. of_plain (IsDeclared args) w.kind (count_of args w.text) (of_either (IsDeclared args)
      (is_loop_option w.text) (Barred LeftOut) (value_of args w.text) tt (value_has w.text))) ts v d

  -- ---- commands

  command_declared : (merging : Bool) (w : CommandWord) (ts : List Word) (c : Command)
      → (command_after args merging w).derives ts c → AreDeclared args c
  unfolding command_after
  command_declared merging OfNothing ts c d = absurd d
  command_declared merging OfPrefix ts c (front, back, path, e, one, last) =
      subst (AreDeclared args) (sym last.1) tt
  command_declared merging OfCall ts c (
    front,
    back,
    path,
    e,
    one,
    (more, rest, values, f, (n, parts), last),
  ) =
      subst (AreDeclared args) (sym last.1)
      (kept (λ (vs : List AValue). value args) (λ vs v. vs ++ v ∷ []) (All (IsDeclared args))
      (λ vs us v p d. All-push (IsDeclared args) vs v p (declared us v d)) n
      [] more values (All-nil (IsDeclared args)) parts)
  command_declared merging OfWrite ts c (front, back, target, e, one, (more, rest, v, f, two, last)) =
      subst (AreDeclared args) (sym last.1) (declared more v two)
  command_declared merging OfRead ts c (
    front,
    back,
    target,
    e,
    one,
    (more, rest, v, f, inl (us, vs, u, g, two, given), last),
  ) =
      subst (AreDeclared args) (sym (last.1 ∙ ap (λ o. ARead target o) given.1)) (declared us u two)
  command_declared merging OfRead ts c (front, back, target, e, one, (more, rest, v, f, inr given, last)) =
      subst (AreDeclared args) (sym (last.1 ∙ ap (λ o. ARead target o) given.1)) tt
  command_declared merging OfApply ts c d = subst (AreDeclared args) (sym d.1) tt
  command_declared merging OfRunLoop ts c (front, back, v, e, one, (more, rest, tck, f, two, last)) =
      subst (AreDeclared args) (sym last.1) (count_declared front v one)
  command_declared merging OfReset ts c d = subst (AreDeclared args) (sym d.1) tt
  command_declared merging OfNote ts c (front, back, option, e, one, (more, rest, text, f, two, last)) =
      subst (AreDeclared args) (sym last.1) tt
  command_declared false OfMerge ts c (front, back, option, e, one, last) =
      subst (AreDeclared args) (sym last.1) tt
  command_declared true OfMerge ts c (front, back, option, e, one, last) =
      subst (AreDeclared args) (sym last.1) tt

  abbrev LineDeclared : ALine → Type 0
  LineDeclared l = AreDeclared args l.what

  line_kept : (b : Body) (ts : List Word) (o : Option ALine) → All LineDeclared b.lines
      → (line args b.merging).derives ts o → All LineDeclared (with_line b o).lines
  unfolding line
  line_kept b ts o p (front, back, begin, e, one, two) = by_test (is_empty_command begin.word) two
    where
      given : (o : Option ALine) (l : ALine) → o ≡ Some l → LineDeclared l
          → All LineDeclared (with_line b o).lines
      given o l e h = subst (λ (x : Option ALine). All LineDeclared (with_line b x).lines)
          (sym e) (All-push LineDeclared b.lines l p h)

      by_test : (t : Bool) → (cond t (give None) (line_after args b.merging begin)).derives back o
          → All LineDeclared (with_line b o).lines
      by_test true d = subst (λ (x : Option ALine). All LineDeclared (with_line b x).lines) (sym d.1) p
      by_test false (f, g, c, i, made, (h, k, end, j, ended, last)) =
          given o (record { at = begin.at; what = c }) last.1 (command_declared b.merging begin.word f c made)

  body_declared : (ts : List Word) (ls : List ALine) → (body args).derives ts ls → All LineDeclared ls
  unfolding body lines
  body_declared ts ls (front, back, b, e, (n, parts), last) =
      by_test b.merging last
    where
      so_far : All LineDeclared b.lines
      so_far = kept (λ (s : Body). line args s.merging) with_line (λ s. All LineDeclared s.lines) line_kept n
          (record { lines = []; merging = false }) front b (All-nil LineDeclared) parts

      by_test : (t : Bool) → (cond t none (mark Close >>= λ c. give b.lines)).derives back ls
          → All LineDeclared ls
      by_test true d = absurd d
      by_test false (f, g, c, i, close, given) = subst (All LineDeclared) (sym given.1) so_far

-- ---- procedures

argument_kept : (names : List (List ℕ)) (ts : List Word) (x : List ℕ) → AreDistinct names
    → (plain (new_name names)).derives ts x → AreDistinct (names ++ x ∷ [])
argument_kept names [] x d one = absurd one
argument_kept names (w ∷ []) x d one = one_more_name names x d (by_kind w.kind one)
  where
    by_name : (t : Bool) → cond t (Some w.text) None ≡ Some x → w.text ≡ x
    by_name true e = ap (λ o. unwrap_or o w.text) e
    by_name false e = absurd cc

    by_test : (t : Bool) → is_in names w.text ≡ t
        → cond t None (name_of w.text) ≡ Some x → is_in names x ≡ false
    by_test true e k = absurd cc
    by_test false e k = ap (is_in names) (sym (by_name (is_name w.text) k)) ∙ e

    by_kind : (k : WordKind) → if_plain k (new_name names w.text) None ≡ Some x → is_in names x ≡ false
    by_kind Plain e = by_test (is_in names w.text) refl e
    by_kind Quoted e = absurd cc
    by_kind Unclosed e = absurd cc
    by_kind Open e = absurd cc
    by_kind Close e = absurd cc
    by_kind End e = absurd cc
argument_kept names (w ∷ v ∷ ts) x d one = absurd one

arguments_differ : (ts : List Word) (args : List (List ℕ)) → arguments.derives ts args → AreDistinct args
unfolding arguments
arguments_differ ts args (n, parts) =
    kept (λ names. plain (new_name names)) (λ (names : List (List ℕ)) name. names ++ name ∷ []) AreDistinct
    argument_kept n [] ts args (λ i j h k e. absurd (omega (arith, h))) parts

abbrev IsNew : List (List ℕ) → List ℕ → List ℕ → Type 0
IsNew known owner m = is_in known (full_name owner m) ≡ false

-- a procedure's name is new
name_new : (known : List (List ℕ)) (owner : List ℕ) (ts : List Word) (n : List ℕ)
    → (proc_name known owner).derives ts n → is_in known (full_name owner n) ≡ false
name_new known owner ts n d =
    judged_has (IsNew known owner) (plain_verdict (λ text. proc_verdict known owner (name_of text)))
    (λ w. of_plain (IsNew known owner) w.kind
    (proc_verdict known owner (name_of w.text)) (taken_new (name_of w.text))) ts n d
  where
    taken_new : (o : Option (List ℕ)) → OfTaken (IsNew known owner) (proc_verdict known owner o)
    taken_new None = tt
    taken_new (Some m) = by_test (is_in known (full_name owner m)) refl
      where
        by_test : (t : Bool) → is_in known (full_name owner m) ≡ t
            → OfTaken (IsNew known owner) (cond t (Barred ProcTwice) (Taken m))
        by_test true e = tt
        by_test false e = e

-- the procedures so far
record AreSound (ps : List AProc) : Type 0 where
  names : AreDistinct (full_names ps)
  each : All IsSound ps

proc_kept : (ps : List AProc) (at : Place) (owner : List ℕ) (ts : List Word) (p : AProc) → AreSound ps
    → (proc_after at (full_names ps) owner).derives ts p → AreSound (ps ++ p ∷ [])
unfolding proc_after
proc_kept ps at owner ts p s (
  t1,
  u1,
  n,
  e1,
  d1,
  (
    t2,
    u2,
    o,
    e2,
    d2,
    (
      t3,
      u3,
      args,
      e3,
      d3,
      (t4, u4, c, e4, d4, (t5, u5, q, e5, d5, (t6, u6, ls, e6, d6, (t7, u7, e, e7, d7, last)))),
    ),
  ),
) =
    let made = subst (λ (x : AProc). IsSound x
    × (is_in (full_names ps) (full_name x.owner x.name) ≡ false)) (sym last.1) (
      record { arguments = arguments_differ t3 args d3; used = body_declared args t6 ls d6 },
      name_new (full_names ps) owner t1 n d1,
    ) in
    record {
      names = subst AreDistinct (sym (map-append (λ x. full_name x.owner x.name) ps (p ∷ [])))
          (one_more_name (full_names ps) (full_name p.owner p.name) s.names made.1);
      each = All-push IsSound ps p s.each made.0;
    }

part_kept : (file : File) (ts : List Word) (next : File) → AreSound file.procs
    → (part file).derives ts next → AreSound next.procs
unfolding part part_after
part_kept file ts next s (front, back, begin, e, one, two) = by_word begin.word two
  where
    same : (x : File) → x.procs ≡ file.procs → next ≡ x → AreSound next.procs
    same x e k = subst AreSound (sym (ap (λ (f : File). f.procs) k ∙ e)) s

    by_owner : (o : Option (List ℕ)) → (in_module begin.at file o).derives back next → AreSound next.procs
    by_owner None d = absurd d
    by_owner (Some owner) (f, g, p, i, made, last) =
        subst (λ (x : File). AreSound x.procs) (sym last.1) (proc_kept file.procs begin.at owner f p s made)

    by_word : (w : FileWord) → (part_after file begin.at w).derives back next → AreSound next.procs
    by_word OfBlank d = same file refl d.1
    by_word OfLevel (t1, u1, l, e1, d1, (t2, u2, v, e2, d2, (t3, u3, e, e3, d3, last))) =
        same file refl last.1
    by_word OfModule (t1, u1, n, e1, d1, (t2, u2, e, e2, d2, last)) =
        same (record { owner = Some n; procs = file.procs }) refl last.1
    by_word OfProc d = by_owner file.owner d

sound : (ts : List Word) (ps : List AProc) → procs.derives ts ps → AreSound ps
unfolding procs
sound ts ps (front, back, file, e, (n, parts), last) =
    subst AreSound (sym last.1)
    (kept part (λ (file : File) next. next) (λ file. AreSound file.procs) part_kept n
    (record { owner = None; procs = [] }) front file
    (record { names = λ i j h k e. absurd (omega (arith, h)); each = All-nil IsSound }) parts)

pub names_differ : (ts : List Word) (ps : List AProc) → procs.derives ts ps → AreDistinct (full_names ps)
names_differ ts ps d = (sound ts ps d).names

pub each_sound : (ts : List Word) (ps : List AProc) → procs.derives ts ps → All IsSound ps
each_sound ts ps d = (sound ts ps d).each
