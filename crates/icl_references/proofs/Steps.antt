-- Paths, one name after another.
use Rattle.std.proofs.Common.{◌≡◌, ◌+◌, ◌<◌, ℕ, List, [], ◌∷◌, ◌++◌, length, map, get_or, drop, Option, Some}
use Rattle.std.proofs.Common.{None, Result, Ok, Err, refl, sym, ap, ◌∙◌}
use Rattle.icl_lexer.specs.Held.{Items}
use Rattle.icl_lexer.specs.Views.{bytes_of}
use Rattle.ij_text.specs.declared.Place.{Place}
use Rattle.icl_declarations.specs.Faults.{Answer, Fault, Fails, ◌>>=◌}
use Rattle.icl_declarations.proofs.Each.{fails_along}
use Rattle.icl_frames.specs.FirstPass.{Frame}
use Rattle.icl_references.specs.Names.{Here, CellMember, named, cell_of_instance, path_from}
use Rattle.icl_references.specs.Targets.{child_named}
use Rattle.icl_references.proofs.Everywhere.{left_at}

one_after_another : {A B C E : Type 0} (r : Result A E) (f : A → Result B E) (g : B → Result C E)
    → (r >>= λ x. f x >>= g) ≡ ((r >>= f) >>= g)
one_after_another (Ok x) f g = refl
one_after_another (Err e) f g = refl

first_name : (frames : List Frame) (here : Here) (at : Place)
    (name : List ℕ) (names : List (List ℕ)) (last : List ℕ)
    → path_from frames here at (name ∷ (names ++ last ∷ []))
    ≡ (child_named frames here at name >>= λ child. path_from frames child at (names ++ last ∷ []))
first_name frames here at name [] last = one_after_another (named here.frame at name)
    (λ m. cell_of_instance frames here at m.item.name m.item.what) (λ child. path_from frames child at (last
    ∷ []))
first_name frames here at name (next ∷ names) last =
    one_after_another (named here.frame at name) (λ m. cell_of_instance frames here at m.item.name
    m.item.what)
    (λ child. path_from frames child at (next ∷ (names ++ last ∷ [])))

-- a name was none
pub name_fails : (frames : List Frame) (here : Here) (at : Place) (name : List ℕ) (names : List (List ℕ))
    (last : List ℕ) (e : Option Fault) → Fails e (child_named frames here at name)
    → Fails e (path_from frames here at (name ∷ (names ++ last ∷ [])))
name_fails frames here at name names last e h = fails_along e _ _
    (sym (first_name frames here at name names last)) (stopped (child_named frames here at name) e h)
  where
    stopped : (r : Answer Here) (f : Option Fault) → Fails f r
        → Fails f (r >>= λ c. path_from frames c at (names ++ last ∷ []))
    stopped r None g = tt
    stopped r (Some f) g = rw g refl

-- ---- in a loop over a path

pub stops_at : (frames : List Frame) (here : Here) (at : Place) (front : List (Items ℕ)) (i : ℕ) (x : Items ℕ)
    (last : List ℕ) (e : Option Fault) (whole : Answer CellMember)
    → i < length front → x ≡ get_or front i x → Fails e (child_named frames here at x.items)
    → path_from frames here at (map bytes_of (drop i front) ++ last ∷ []) ≡ whole → Fails e whole
stops_at frames here at front i x last e whole lt is h goes_on =
    fails_along e
    (path_from frames here at (x.items ∷ (map bytes_of (drop (i + 1) front) ++ last ∷ []))) whole
    (sym (ap (λ (l : List (List ℕ)). path_from frames here at (l ++ last ∷ []))
    (left_at bytes_of front i x lt is)) ∙ goes_on)
    (name_fails frames here at x.items (map bytes_of (drop (i + 1) front)) last e h)
