-- What is known of several loads, from what is known of each.
use Rattle.std.specs.Prelude.{Vec, take, drop, map}
use Rattle.std.specs.declared.alloc.Global.{Global}
use Rattle.std.proofs.Common.{◌≡◌, ◌≢◌, ◌≤◌, ◌<◌, ◌+◌, get_or, zero, suc, inl, inr, ℕ, Option, Some, List, []}
use Rattle.std.proofs.Common.{◌∷◌, ◌++◌, length, refl, sym, ap, subst, arith}
use Rattle.ij_io.specs.Causes.{Rose}
use Rattle.ij_io.specs.Files.{Files}
use Rattle.ijtag_work.specs.Loads.{Load, loaded, loaded_one, names_of, IsNoneOf}
use Rattle.ijtag_work.specs.Follows.{IsLoadStop, AreShort, seen_texts}
use Rattle.ijtag_stages.specs.Follows.{IsToldAs}
use Rattle.ijtag_stages.specs.Seen.{seen_refusal}
use Rattle.ijtag_stages.specs.Refusals.{Part, Refusal}
use Rattle.ijtag_work.specs.Runs.{IsReached}
use Rattle.ijtag_work.specs.Seen.{seen_load, seen_stop, stop_from}
use Rattle.ijtag_work.specs.Stops.{Stop, Usage, Refuses, ReadFault, WriteFault, OutputFault, NoMemory}
use Rattle.ijtag_stages.specs.declared.refusal.StageFault.{StageFault}
use Rattle.ijtag_stages.specs.declared.refusal.StageFault.TheVariants.{Refused, OutOfMemory}
use Rattle.ijtag_work.specs.declared.stop.Stop.{Stop as RustStop}
use Rattle.ijtag_work.specs.declared.load.Load.{Load as LoadWords}
use Rattle.ijtag_work.specs.declared.load.Load.TheVariants.{Source as SourceLoad}
use Rattle.std.proofs.lemmas.Option.{same_Some}

-- the loads before one, and that one
pub gives_more : (files : Option Files) (before : List Load) (load : Load) (texts : List (List ℕ))
    (text : List ℕ) → (loaded files before).gives texts → (loaded_one files load).gives text
    → (loaded files (before ++ load ∷ [])).gives (texts ++ text ∷ [])
gives_more files [] load texts text given own =
    (text, own, ([], refl, ap (λ (ts : List (List ℕ)). ts ++ text ∷ []) given))
gives_more files (first ∷ before) load texts text given own = (
  given.0,
  given.1,
  (
    given.2.0 ++ text ∷ [],
    gives_more files before load given.2.0 text given.2.1 own,
    ap (λ (ts : List (List ℕ)). ts ++ text ∷ []) given.2.2,
  ),
)

-- one that refuses, after others that give
pub refuses_at : (files : Option Files) (before : List Load) (load : Load)
    (rest : List Load) (texts : List (List ℕ)) (r : Refusal)
    → (loaded files before).gives texts → (loaded_one files load).refuses r
    → (loaded files (before ++ load ∷ rest)).refuses r
refuses_at files [] load rest texts r given own = inl own
refuses_at files (first ∷ before) load rest texts r given own =
    inr (given.0, given.1, inl (refuses_at files before load rest given.2.0 r given.2.1 own))

-- one that is come to
pub reached_at : (files : Option Files) (before : List Load) (load : Load) (rest : List Load)
    (texts : List (List ℕ)) (name : List ℕ) → (loaded files before).gives texts → name ≡ load.name
    → IsReached files (before ++ load ∷ rest) name
reached_at files [] load rest texts name given is = inl is
reached_at files (first ∷ before) load rest texts name given is =
    inr ((given.0, given.1), reached_at files before load rest given.2.0 name given.2.1 is)

-- the only name of one load
only_name : (files : Option Files) (load : Load) (name : List ℕ)
    → IsReached files (load ∷ []) name → name ≡ load.name
only_name files load name is = elim is [ inl same ↦ same | inr later ↦ absurd later.1 ]

rose_later : (before mid now : ℕ) → before ≤ mid → Rose mid now → Rose before now
rose_later before mid now later rose = omega arith

-- the stop of one load, after others that give
pub stop_at : (files : Option Files) (before : List Load) (load : Load) (rest : List Load)
    (texts : List (List ℕ)) (counts mid now : List ℕ → ℕ) (stop : Stop) → (loaded files before).gives texts
    → ((any : List ℕ) → counts any ≤ mid any)
    → IsLoadStop files (load ∷ []) mid now (loaded_one files load) stop
    → IsLoadStop files (before ++ load ∷ rest) counts now (loaded files (before ++ load ∷ rest)) stop
stop_at files before load rest texts counts mid now (Refuses r) given later is =
    refuses_at files before load rest texts r given is
stop_at files before load rest texts counts mid now (ReadFault name) given later is = (
  reached_at files before load rest texts name given (only_name files load name is.0),
  rose_later (counts name) (mid name) (now name) (later name) is.1,
)
stop_at files before load rest texts counts mid now NoMemory given later is = tt
stop_at files before load rest texts counts mid now Usage given later is = absurd is
stop_at files before load rest texts counts mid now (WriteFault name) given later is = absurd is
stop_at files before load rest texts counts mid now OutputFault given later is = absurd is

-- a name that no load has is none of one of them
pub none_at : (before : List Load) (load : Load) (rest : List Load) (name : List ℕ)
    → IsNoneOf (names_of (before ++ load ∷ rest)) name → name ≢ load.name
none_at [] load rest name none = none.0
none_at (first ∷ before) load rest name none = none_at before load rest name none.1

pub short_more : (texts : List (List ℕ)) (text : List ℕ) → AreShort texts
    → length text ≤ 134217728 → AreShort (texts ++ text ∷ [])
short_more [] text short own = (own, tt)
short_more (first ∷ texts) text short own = (short.0, short_more texts text short.1 own)

-- what is told as a refusal of the work stops it so
pub told_stop : {A : Type 0} (files : Option Files) (loads : List Load) (before now : List ℕ
    → ℕ) (work : Part A) (want : Refusal) (fault : StageFault) (stop : RustStop) → stop ≡ stop_from fault
    → IsToldAs (Some want) fault → work.refuses want → IsLoadStop files loads before now work (seen_stop stop)
told_stop files loads before now work want (Refused told) stop is same refuses =
    subst (λ (s : RustStop). IsLoadStop files loads before now work (seen_stop s)) (sym is)
    (subst work.refuses (same_Some want (seen_refusal told) same) refuses)
told_stop files loads before now work want OutOfMemory stop is same refuses =
    subst (λ (s : RustStop). IsLoadStop files loads before now work (seen_stop s)) (sym is) tt

-- ---- one round of the loop over the loads

abbrev pub no_load : LoadWords
no_load = SourceLoad (record { ref_ptr = (0, 0); now = [] })

abbrev pub load_at : List LoadWords → ℕ → Load
load_at xs i = seen_load (get_or xs i no_load)

split : (xs : List LoadWords) (i : ℕ) → i < length xs
    → map seen_load xs ≡ map seen_load (take i xs) ++ (load_at xs i ∷ map seen_load (drop (suc i) xs))
split [] i within = absurd (omega arith)
split (x ∷ xs) zero within = refl
split (x ∷ xs) (suc i) within = ap (λ (ls : List Load). seen_load x ∷ ls) (split xs i (omega arith))

one_more : (xs : List LoadWords) (i : ℕ) → i < length xs
    → map seen_load (take (suc i) xs) ≡ map seen_load (take i xs) ++ (load_at xs i ∷ [])
one_more [] i within = absurd (omega arith)
one_more (x ∷ xs) zero within = refl
one_more (x ∷ xs) (suc i) within = ap (λ (ls : List Load). seen_load x ∷ ls) (one_more xs i (omega arith))

pub next_given : (files between : Option Files) (xs : List LoadWords) (i : ℕ) (texts : List (List ℕ))
    (text : List ℕ) → i < length xs → between ≡ files → (loaded files (map seen_load (take i xs))).gives texts
    → (loaded_one between (load_at xs i)).gives text
    → (loaded files (map seen_load (take (i + 1) xs))).gives (texts ++ text ∷ [])
next_given files between xs i texts text within same given own =
    let here : (loaded_one files (load_at xs i)).gives text =
    subst (λ (fs : Option Files). (loaded_one fs (load_at xs i)).gives text) same own in
    let n : suc i ≡ i + 1 = omega arith in
    subst (λ (k : ℕ). (loaded files (map seen_load (take k xs))).gives (texts ++ text ∷ [])) n
    (subst (λ (ls : List Load). (loaded files ls).gives (texts ++ text ∷ [])) (sym (one_more xs i within))
    (gives_more files (map seen_load (take i xs)) (load_at xs i) texts text given here))

pub next_stop : (files between : Option Files) (xs : List LoadWords) (i : ℕ) (texts : List (List ℕ))
    (counts mid now : List ℕ → ℕ) (stop : Stop) → i < length xs → between ≡ files
    → (loaded files (map seen_load (take i xs))).gives texts
    → ((any : List ℕ) → counts any ≤ mid any)
    → IsLoadStop between (load_at xs i ∷ []) mid now (loaded_one between (load_at xs i)) stop
    → IsLoadStop files (map seen_load xs) counts now (loaded files (map seen_load xs)) stop
next_stop files between xs i texts counts mid now stop within same given later own =
    let here : IsLoadStop files (load_at xs i ∷ []) mid now (loaded_one files (load_at xs i)) stop =
    subst (λ (fs : Option Files). IsLoadStop fs (load_at xs i ∷ []) mid now
    (loaded_one fs (load_at xs i)) stop) same own in
    subst (λ (ls : List Load). IsLoadStop files ls counts now (loaded files ls) stop)
    (sym (split xs i within))
    (stop_at files (map seen_load (take i xs)) (load_at xs i)
    (map seen_load (drop (suc i) xs)) texts counts mid now stop given later here)

pub next_none : (xs : List LoadWords) (i : ℕ) (name : List ℕ) → i < length xs
    → IsNoneOf (names_of (map seen_load xs)) name → IsNoneOf ((load_at xs i).name ∷ []) name
next_none xs i name within none = (
  none_at (map seen_load (take i xs)) (load_at xs i) (map seen_load (drop (suc i) xs)) name
      (subst (λ (ls : List Load). IsNoneOf (names_of ls) name) (split xs i within) none),
  tt,
)

pub texts_more : (texts : List (Vec ℕ Global)) (text : Vec ℕ Global)
    → seen_texts (texts ++ text ∷ []) ≡ seen_texts texts ++ text.items ∷ []
texts_more [] text = refl
texts_more (first ∷ texts) text = ap (λ (ts : List (List ℕ)). first.items ∷ ts) (texts_more texts text)

take_all : (i : ℕ) (xs : List LoadWords) → length xs ≤ i → take i xs ≡ xs
take_all zero [] all = refl
take_all (suc i) [] all = refl
take_all zero (x ∷ xs) all = absurd (omega arith)
take_all (suc i) (x ∷ xs) all = ap (λ (ls : List LoadWords). x ∷ ls) (take_all i xs (omega arith))

-- all of a list that was gone over
pub all_given : (files : Option Files) (xs : List LoadWords) (i : ℕ) (texts : List (List ℕ)) → length xs ≤ i
    → (loaded files (map seen_load (take i xs))).gives texts → (loaded files (map seen_load xs)).gives texts
all_given files xs i texts all given =
    subst (λ (ls : List LoadWords). (loaded files (map seen_load ls)).gives texts) (take_all i xs all) given
