-- One more event of each instrument, and the change events that one of them has had.
use Rattle.std.proofs.Common.{◌≡◌, ◌+◌, ℕ, zero, suc, Bool, true, false, cond, List, [], ◌∷◌, ◌++◌, length}
use Rattle.std.proofs.Common.{refl, sym, ap, ◌∙◌, subst, arith}
use Rattle.std.specs.Prelude.{map, get_or, filter}
use Rattle.std.proofs.lemmas.List.{append-nil}
use Rattle.std.proofs.lemmas.List.Elements.{filter-append}
use Rattle.net_graph.specs.declared.net.Net.{Net}
use Rattle.net_graph.specs.Signals.{Holds}
use Rattle.instruments.specs.Machine.{Event, Change, Run, Inputs, Machine, whole_log}
use Rattle.instruments.specs.OnNetwork.{Running, all_have, change_of, changes, each_from, inputs_at}
use Rattle.instruments.specs.OnNetwork.{machine_at, happens, same_numbers}
use Rattle.merge_order.specs.Seeing.{is_change}

abbrev pub Insts : Type 0
Insts = List (Running (List Event))

abbrev pub logs : Insts → List (List Event)
logs xs = map (λ x. x.log) xs

-- the events of one more
abbrev with_more : List (List Event) → ℕ → List Event → List (List Event)
with_more [] i es = []
with_more (l ∷ ls) zero es = (l ++ es) ∷ ls
with_more (l ∷ ls) (suc i) es = l ∷ with_more ls i es

abbrev pub seen_at : List (List Event) → ℕ → List Event
seen_at ls i = filter is_change (get_or ls i [])

more_seen : (ls ks : List (List Event)) (i : ℕ) (es fs : List Event) → length ls ≡ length ks
    → seen_at ls i ≡ seen_at ks i → filter is_change es ≡ filter is_change fs
    → seen_at (with_more ls i es) i ≡ seen_at (with_more ks i fs) i
more_seen [] [] i es fs n e f = refl
more_seen [] (k ∷ ks) i es fs n e f = absurd (omega (arith, n))
more_seen (l ∷ ls) [] i es fs n e f = absurd (omega (arith, n))
more_seen (l ∷ ls) (k ∷ ks) zero es fs n e f =
    filter-append is_change l es ∙ ap (λ x. x ++ filter is_change es) e
    ∙ ap (λ x. filter is_change k ++ x) f ∙ sym (filter-append is_change k fs)
more_seen (l ∷ ls) (k ∷ ks) (suc i) es fs n e f = more_seen ls ks i es fs (omega (arith, n)) e f

-- an instrument has these events more
module _ (f : ℕ → Running (List Event) → Running (List Event)) (i : ℕ) (es : List Event) where
  abbrev Notes : Type 0
  Notes = (x : Running (List Event)) → (f i x).log ≡ x.log ++ es

  noted : (n j : ℕ) (xs : Insts) → n + j ≡ i → Notes
      → get_or (logs (each_from f n xs)) j [] ≡ get_or (with_more (logs xs) j es) j []
  noted n j [] e h = refl
  noted n zero (x ∷ xs) e h = subst (λ k. (f k x).log ≡ x.log ++ es) (is_place n e) (h x)
    where
      is_place : (n : ℕ) → n + 0 ≡ i → i ≡ n
      is_place n e = omega (arith, e)
  noted n (suc j) (x ∷ xs) e h = noted (suc n) j xs (omega (arith, e)) h

pub each_length : (f : ℕ → Running (List Event) → Running (List Event)) (n : ℕ) (xs : Insts)
    → length (each_from f n xs) ≡ length xs
each_length f n [] = refl
each_length f n (x ∷ xs) = ap suc (each_length f (suc n) xs)

logs_length : (xs : Insts) → length (logs xs) ≡ length xs
logs_length [] = refl
logs_length (x ∷ xs) = ap suc (logs_length xs)

abbrev pub seen : Insts → ℕ → List Event
seen xs i = seen_at (logs xs) i

-- one more event on both sides, or on one
noted_both : (f g : ℕ → Running (List Event)
    → Running (List Event)) (i : ℕ) (es fs : List Event) (xs ys : Insts) → Notes f i es → Notes g i fs
    → length xs ≡ length ys → seen xs i ≡ seen ys i
    → filter is_change es ≡ filter is_change fs → seen (each_from f zero xs) i ≡ seen (each_from g zero ys) i
noted_both f g i es fs xs ys h k n e same =
    let a = logs_length xs in
    let b = logs_length ys in
    ap (filter is_change) (noted f i es zero i xs (omega arith) h)
    ∙ more_seen (logs xs) (logs ys) i es fs (omega (arith, a, b, n)) e same
    ∙ ap (filter is_change) (sym (noted g i fs zero i ys (omega arith) k))

more_other : (ls : List (List Event)) (i : ℕ) (es : List Event) → filter is_change es ≡ []
    → seen_at (with_more ls i es) i ≡ seen_at ls i
more_other [] i es none = refl
more_other (l ∷ ls) zero es none =
    filter-append is_change l es ∙ ap (λ x. filter is_change l ++ x) none ∙ append-nil (filter is_change l)
more_other (l ∷ ls) (suc i) es none = more_other ls i es none

noted_left : (f : ℕ → Running (List Event) → Running (List Event)) (i : ℕ) (es : List Event) (xs : Insts)
    → Notes f i es → filter is_change es ≡ [] → seen (each_from f zero xs) i ≡ seen xs i
noted_left f i es xs h none =
    ap (filter is_change) (noted f i es zero i xs (omega arith) h) ∙ more_other (logs xs) i es none

-- ---- changes and runs

-- the change event where inputs differ
abbrev change_events : Inputs → Inputs → List Event
change_events a b = cond (same_numbers a b) [] (Change a b ∷ [])

module _ (net : Net) (machines : List Machine) (i : ℕ) where
  abbrev changing : Holds → Holds → ℕ → Running (List Event) → Running (List Event)
  changing a b i x = change_of whole_log (machine_at machines i) (inputs_at net a i) (inputs_at net b i) x

  change_noted : (a b : Holds)
      → Notes (changing a b) i (change_events (inputs_at net a i) (inputs_at net b i))
  change_noted a b x = by_test (same_numbers (inputs_at net a i) (inputs_at net b i))
    where
      by_test : (t : Bool)
          → (elim t as (λ t. Running (List Event)) [
            | true ↦ x
            | false ↦ happens whole_log (machine_at machines
                i) (Change (inputs_at net a i) (inputs_at net b i)) (inputs_at net b i) x
          ]).log
          ≡ x.log ++ cond t [] (Change (inputs_at net a i) (inputs_at net b i) ∷ [])
      by_test true = sym (append-nil x.log)
      by_test false = refl

  pub changes_both : (a b c d : Holds) (xs ys : Insts) → inputs_at net a i ≡ inputs_at net c i
      → inputs_at net b i ≡ inputs_at net d i → length xs ≡ length ys → seen xs i ≡ seen ys i
      → seen (changes whole_log net machines a b xs) i ≡ seen (changes whole_log net machines c d ys) i
  changes_both a b c d xs ys e f n same =
      noted_both (changing a b) (changing c d) i (change_events (inputs_at net a i) (inputs_at net b i))
      (change_events (inputs_at net c i) (inputs_at net d i)) xs ys
      (change_noted a b) (change_noted c d) n same
      (ap (λ x. filter is_change (change_events x (inputs_at net b i))) e
      ∙ ap (λ x. filter is_change (change_events (inputs_at net c i) x)) f)

  abbrev having : Holds → ℕ → Running (List Event) → Running (List Event)
  having h i x = happens whole_log (machine_at machines i) Run (inputs_at net h i) x

  pub run_unseen : (h : Holds) (xs : Insts) → seen (all_have whole_log net machines Run h xs) i ≡ seen xs i
  run_unseen h xs = noted_left (having h) i (Run ∷ []) xs (λ x. refl) refl
