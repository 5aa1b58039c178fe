-- One level of the cells.
use Rattle.std.proofs.Common.{◌≡◌, ◌<◌, ◌-◌, ◌++◌, ℕ, zero, suc, Bool, true, false, List, [], ◌∷◌, length}
use Rattle.std.proofs.Common.{Option, Some, None, Ok, Err, refl, sym, ap, ◌∙◌, arith}
use Rattle.std.specs.Prelude.{nat_le}
use Rattle.ij_text.specs.declared.Which.TheVariants.{Hierarchy, Cells}
use Rattle.icl_lexer.specs.Values.{SeenModule}
use Rattle.icl_declarations.specs.Faults.{Answer, Fault, Fails, ◌>>=◌, refuse_if, over, Limit}
use Rattle.icl_frames.specs.FirstPass.{Request, Progress, Entered, cell_of_request, add_subtree}
use Rattle.icl_frames.specs.SeenFrames.{Stepped, add_cell}

pub no_level : (levels : ℕ) (blocks : List SeenModule) (above : List (List ℕ)) (parent : Option ℕ)
    (s : Progress) (r : Request) → levels ≡ 0
    → add_subtree levels blocks above parent s r ≡ Err (Limit Hierarchy 64)
unfolding add_subtree
no_level zero blocks above parent s r e = refl
no_level (suc levels) blocks above parent s r e = absurd (omega (arith, e))

-- below a cell
abbrev pub below : ℕ → List SeenModule → List (List ℕ) → ℕ → Answer Stepped → Answer Progress
below levels blocks inside cell a =
    a >>= λ w. over (add_subtree levels blocks inside (Some cell)) w.progress w.requests

one_level : (levels : ℕ) (blocks : List SeenModule) (above : List (List ℕ))
    (parent : Option ℕ) (s : Progress) (r : Request)
    → add_subtree (suc levels) blocks above parent s r ≡ below levels blocks (r.block.name ∷ above)
    (length s.frames) (add_cell blocks (r.block.name ∷ above) parent s r)
unfolding add_subtree add_cell
one_level levels blocks above parent s r = by_room (nat_le 8192 (length s.frames))
  where
    next : Entered → Answer Progress
    next e = over (add_subtree levels blocks (r.block.name ∷ above) (Some (length s.frames)))
        (record { frames = s.frames ++ e.frame ∷ []; counts = e.counts }) e.requests

    step : Entered → Answer Stepped
    step e = Ok (record
        { progress = record { frames = s.frames ++ e.frame ∷ []; counts = e.counts }; requests = e.requests })

    by_entered : (a : Answer Entered)
        → (a >>= next) ≡ below levels blocks (r.block.name ∷ above) (length s.frames) (a >>= step)
    by_entered (Ok e) = refl
    by_entered (Err e) = refl

    by_room : (t : Bool) → (refuse_if t (Limit Cells 8192)
        >>= λ room. cell_of_request blocks (r.block.name ∷ above) parent s.counts r >>= next)
        ≡ below levels blocks (r.block.name ∷ above) (length s.frames) (refuse_if t (Limit Cells 8192)
        >>= λ room. cell_of_request blocks (r.block.name ∷ above) parent s.counts r >>= step)
    by_room true = refl
    by_room false = by_entered (cell_of_request blocks (r.block.name ∷ above) parent s.counts r)

pub a_level : (levels : ℕ) (blocks : List SeenModule) (above inside : List (List ℕ)) (parent : Option ℕ)
    (s : Progress) (r : Request) → 0 < levels → inside ≡ r.block.name ∷ above
    → add_subtree levels blocks above parent s r
    ≡ below (levels - 1) blocks inside (length s.frames) (add_cell blocks inside parent s r)
a_level zero blocks above inside parent s r lt e = absurd (omega (arith, lt))
a_level (suc levels) blocks above inside parent s r lt e =
    rw e (let n : suc levels - 1 ≡ levels = omega arith in rw n (one_level levels blocks above parent s r))

pub below_fails : (levels : ℕ) (blocks : List SeenModule) (inside : List (List ℕ)) (cell : ℕ)
    (a : Answer Stepped) (e : Option Fault) (whole : Answer Progress)
    → whole ≡ below levels blocks inside cell a → Fails e a → Fails e whole
below_fails levels blocks inside cell a None whole h k = tt
below_fails levels blocks inside cell a (Some e) whole h k = h ∙ ap (below levels blocks inside cell) k

pub below_goes : (levels : ℕ) (blocks : List SeenModule) (inside : List (List ℕ)) (cell : ℕ)
    (a : Answer Stepped) (w : Stepped) (whole : Answer Progress)
    → whole ≡ below levels blocks inside cell a → a ≡ Ok w
    → over (add_subtree levels blocks inside (Some cell)) w.progress w.requests ≡ whole
below_goes levels blocks inside cell a w whole h k = sym (h ∙ ap (below levels blocks inside cell) k)
