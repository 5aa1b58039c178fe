-- The cells, one more.
use Rattle.std.proofs.Common.{◌≡◌, ◌<◌, ◌+◌, ℕ, zero, suc, List, [], ◌∷◌, length, map, get_or, drop, refl, ap}
use Rattle.std.proofs.Common.{◌∙◌, arith}
use Rattle.std.specs.List.{enumerate_from}
use Rattle.icl_frames.specs.FirstPass.{Frame}
use Rattle.icl_references.specs.Names.{Here, here_of}
use Rattle.icl_elab.specs.SecondPass.{cells_of}
use Rattle.std.proofs.lemmas.List.{length-map}
use Rattle.icl_frames.specs.SeenFrames.{seen_frame}
use Rattle.icl_references.specs.declared.tables.Tables.{Tables}
use Rattle.icl_references.specs.Tables.{AreTables, IsHere, frames_of, here_at, no_frame}

abbrev heres : ℕ → List Frame → List Here
heres s frames = map here_of (enumerate_from s frames)

cells_from : (s i : ℕ) (frames : List Frame) → i < length frames → drop i (heres s frames)
    ≡ record { number = s + i; frame = get_or frames i no_frame } ∷ drop (i + 1) (heres s frames)
cells_from s i [] lt = absurd (omega (arith, lt))
cells_from s zero (f ∷ frames) lt = ap (λ (n : ℕ). here_of (n, f) ∷ heres (s + 1) frames) (omega arith)
cells_from s (suc i) (f ∷ frames) lt =
    let n : suc i + 1 ≡ suc (i + 1) = omega arith in
    let g : s + 1 + i ≡ s + suc i = omega arith in
    rw n (cells_from (s + 1) i frames (omega (arith, lt)) ∙ ap (λ (m : ℕ). record {
      number = m;
      frame = get_or frames i no_frame;
    } ∷ drop (i + 1) (heres (s + 1) frames)) g)

pub cells_next : (frames : List Frame) (i : ℕ) → i < length frames
    → drop i (cells_of frames) ≡ here_at frames i ∷ drop (i + 1) (cells_of frames)
cells_next frames i lt = cells_from 0 i frames lt ∙ ap (λ (m : ℕ). record {
  number = m;
  frame = get_or frames i no_frame;
} ∷ drop (i + 1) (cells_of frames)) (omega arith)

pub cells_long : (frames : List Frame) (s : ℕ)
    → length (map here_of (enumerate_from s frames)) ≡ length frames
cells_long [] s = refl
cells_long (f ∷ frames) s = ap (λ n. suc n) (cells_long frames (s + 1))

-- a cell of this number is there
pub here_is : (t : Tables) (n : ℕ) → AreTables t → n < length (frames_of t) → IsHere t n
here_is t n tables lt = record {
  tables = tables;
  there =
      let long = length-map t.cells.items (λ c. seen_frame c.frame.now) in omega (arith, long, lt);
}
