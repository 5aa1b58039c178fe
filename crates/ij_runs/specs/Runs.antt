-- Values that follow one another, in runs.
use Rattle.std.specs.Prelude.{◌≡◌, ◌≤◌, ◌<◌, ◌+◌, ◌^◌, ℕ, List, [], ◌∷◌, ◌++◌, map, get_or, length}
use Rattle.std.specs.Prelude.{Option, Some, None}
use Rattle.std.specs.List.{range_with_len}
use Rattle.ij_runs.specs.declared.runs.Run.{Run}
use Rattle.ij_runs.specs.declared.runs.RunPart.{RunPart}

-- a value and those that follow it, this many in all
abbrev pub following : {T : Type 0} → (ℕ → T → T) → T → ℕ → List T
following after first count = map (λ k. after k first) (range_with_len 0 count)

abbrev pub run_items : {T : Type 0} → (ℕ → T → T) → Run T → List T
run_items after r = following after r.first r.len

-- the values of these runs, one run after the other
abbrev pub expanded : {T : Type 0} → (ℕ → T → T) → List (Run T) → List T
expanded after [] = []
expanded after (r ∷ rs) = run_items after r ++ expanded after rs

-- a run has a value, and no more than can follow its first one
abbrev pub IsRun : {T : Type 0} → (T → ℕ) → Run T → Type 0
IsRun room r = (1 ≤ r.len) × (r.len ≤ room r.first + 1)

-- runs from a position of a list to another one: each begins where the one before it ends
abbrev pub AreRuns : {T : Type 0} → (T → ℕ) → ℕ → List (Run T) → ℕ → Type 0
AreRuns room from [] to = from ≡ to
AreRuns room from (r ∷ rs) to = (r.start ≡ from) × IsRun room r × AreRuns room (from + r.len) rs to

-- a list in runs: all but the last one, and that one
abbrev pub values_of : {T : Type 0} → (ℕ → T → T) → List (Run T) → Option (Run T) → List T
values_of after before None = []
values_of after before (Some last) = expanded after before ++ run_items after last

abbrev pub AreAll : {T : Type 0} → (T → ℕ) → List (Run T) → Option (Run T) → Type 0
AreAll room before None = before ≡ []
AreAll room before (Some last) =
    AreRuns room 0 before last.start × IsRun room last × (last.start + last.len < 2 ^ 32)

-- a list has these values from a position on, those of a run
abbrev pub IsRunIn : {T : Type 0} → (ℕ → T → T) → List T → Run T → Type 0
IsRunIn {T} after items r = (k : ℕ) → k < r.len → (any : T) → get_or items (r.start + k) any ≡ after k r.first

pub record IsRunOf {T : Type 0} (room : T → ℕ) (after : ℕ → T → T) (items : List T) (r : Run T) : Type 0 where
  pub run : IsRun room r
  pub values : IsRunIn after items r
  pub within : r.start + r.len ≤ length items

-- a list has these values from a position on, some of a run
abbrev pub ArePart : {T : Type 0} → (ℕ → T → T) → List T → ℕ → RunPart T → Type 0
ArePart {T} after items i p = (k : ℕ) → k < p.len → (any : T)
    → get_or items (i + k) any ≡ after (p.from + k) p.first
