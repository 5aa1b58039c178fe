-- Each executed command gives one step at most.
use Rattle.std.proofs.Common.{◌≡◌, ◌≤◌, ℕ, zero, suc, ◌+◌, ◌==◌, Bool, true, false, cond, List, [], ◌∷◌, ◌++◌}
use Rattle.std.proofs.Common.{length, map, Option, Some, None, refl, arith, length-append}
use Rattle.std.specs.Prelude.{nat_lt}
use Rattle.std.proofs.lemmas.Bool.{ltb-true}
use Rattle.ij_text.specs.declared.Place.{Place}
use Rattle.pdl_parser.specs.Values.{AValue, Command, APrefix, ACall, AWrite, ARead, AnApply, ARunLoop, AReset}
use Rattle.pdl_parser.specs.Values.{ANote, AMergeBegin, AMergeEnd, ALine, AProc}
use Rattle.pdl_expand.specs.Values.{ACell}
use Rattle.pdl_expand.specs.Expansion.{AFault, IsTooManySteps, IsArgCount, Way, LeadsTo, EndsAt, but_last}
use Rattle.pdl_expand.specs.Expansion.{last, way, find_proc, cell, substituted_value, bound_to, Frame}
use Rattle.pdl_expand.specs.Expansion.{fresh, Trace}
use Rattle.pdl_expand.specs.Expansion.{refused, followed, and_then, branch_end, after, Doing, enter, call_of}
use Rattle.pdl_expand.specs.Expansion.{call_along, do_command, do_line, do_lines, calls, nowhere, start}
use Rattle.pdl_expand.specs.Expansion.{expansion}
use Rattle.pdl_expand.specs.Laws.{StepsAreFew}

-- no more steps than commands, this many having been executed before
abbrev Few : ℕ → Trace → Type 0
Few n t = (n + length t.steps ≤ t.count) × (t.count ≤ 100000)

then_few : (m : ℕ) (t : Trace) (next : ℕ → Trace) → Few m t
    → ((k : ℕ) → k ≤ 100000 → Few k (next k)) → Few m (and_then t next)
then_few m t next h k = by_fault t.fault
  where
    by_fault : (fault : Option AFault) → Few m (followed t.steps fault t.count next)
    by_fault None =
        let following = k t.count h.1 in
        (omega (arith, h.0, following.0, length-append t.steps (next t.count).steps), following.1)
    by_fault (Some f) = h

branch_few : (b : Bool) (at : Place) (node n : ℕ) → n ≤ 100000
    → (length (branch_end b at node n).steps ≤ 1) × ((branch_end b at node n).count ≡ n)
branch_few true at node n h = (omega arith, refl)
branch_few false at node n h = (omega arith, refl)

-- the end of a branch is the step of the call, which was counted
ended_few : (n : ℕ) (t : Trace) (b : Bool) (at : Place) (node : ℕ) → Few (suc n) t
    → Few n (and_then t (branch_end b at node))
ended_few n t b at node h = by_fault t.fault
  where
    by_fault : (fault : Option AFault) → Few n (followed t.steps fault t.count (branch_end b at node))
    by_fault None =
        let following = branch_few b at node t.count h.1 in (
          omega (
            arith,
            h.0,
            following.0,
            following.1,
            length-append t.steps (branch_end b at node t.count).steps,
          ),
          omega (arith, h.1, following.1),
        )
    by_fault (Some f) = (omega (arith, h.0), h.1)

-- what calls do
abbrev AllFew : Doing → Type 0
AllFew None = Unit {0}
AllFew (Some run) = (p : AProc) (frame : Frame) (n : ℕ) → n ≤ 100000 → Few n (run p frame n)

module _ (procs : List AProc) (cells : List ACell) where
  enter_few : (doing : Doing) → AllFew doing → (at : Place) (p : AProc) (frame : Frame) (n : ℕ) → n ≤ 100000
      → Few n (enter procs cells doing at p frame n)
  enter_few None all at p frame n h = (omega arith, h)
  enter_few (Some run) all at p frame n h = all p frame n h

  call_of_few : (doing : Doing) → AllFew doing
      → (at : Place) (node : ℕ) (name : List ℕ) (found : Option AProc) (values : List AValue) (n : ℕ)
      → n ≤ 100000 → Few n (call_of procs cells doing at node name found values n)
  call_of_few doing all at node name None values n h = (omega arith, h)
  call_of_few doing all at node name (Some p) values n h = by_count (length p.args == length values)
    where
      by_count : (t : Bool) → Few n (cond t
          (enter procs cells doing at p (fresh node (bound_to p.args values)) n) (refused (IsArgCount at) n))
      by_count true = enter_few doing all at p (fresh node (bound_to p.args values)) n h
      by_count false = (omega arith, h)

  call_along_few : (doing : Doing) → AllFew doing
      → (at : Place) (w : Way) (name : List ℕ) (values : List AValue) (n : ℕ) → n ≤ 100000
      → Few n (call_along procs cells doing at w name values n)
  call_along_few doing all at (EndsAt missing) name values n h = (omega arith, h)
  call_along_few doing all at (LeadsTo node) name values n h =
      call_of_few doing all at node name (find_proc procs (cell cells node).owner name) values n h

  command_few : (doing : Doing) → AllFew doing → (at : Place) (frame : Frame) (c : Command) (n : ℕ)
      → suc n ≤ 100000 → Few n (do_command procs cells doing at frame c (suc n))
  command_few doing all at frame (APrefix path) n h = (omega arith, h)
  command_few doing all at frame (ACall path values) n h =
      let along = way cells frame.node (but_last (frame.prefix ++ path)) in
      let name = last (frame.prefix ++ path) in
      let filled = map (substituted_value frame.args) values in
      ended_few n (call_along procs cells doing at along name filled (suc n)) frame.merging at frame.node
      (call_along_few doing all at along name filled (suc n) h)
  command_few doing all at frame (AWrite target v) n h = (omega arith, h)
  command_few doing all at frame (ARead target v) n h = (omega arith, h)
  command_few doing all at frame AnApply n h = (omega arith, h)
  command_few doing all at frame (ARunLoop v) n h = (omega arith, h)
  command_few doing all at frame AReset n h = (omega arith, h)
  command_few doing all at frame ANote n h = (omega arith, h)
  command_few doing all at frame AMergeBegin n h = (omega arith, h)
  command_few doing all at frame AMergeEnd n h = (omega arith, h)

  line_few : (doing : Doing) → AllFew doing → (frame : Frame) (l : ALine) (n : ℕ) → n ≤ 100000
      → Few n (do_line procs cells doing frame l n)
  line_few doing all frame l n h = by_count (nat_lt n 100000) refl
    where
      by_count : (t : Bool) → nat_lt n 100000 ≡ t → Few n
          (cond t (do_command procs cells doing l.at frame l.what (suc n)) (refused (IsTooManySteps l.at) n))
      by_count true e =
          let below = ltb-true n 100000 e in command_few doing all l.at frame l.what n (omega (arith, below))
      by_count false e = (omega arith, h)

  lines_few : (doing : Doing) → AllFew doing → (ls : List ALine) (frame : Frame) (n : ℕ) → n ≤ 100000
      → Few n (do_lines procs cells doing frame ls n)
  lines_few doing all [] frame n h = (omega arith, h)
  lines_few doing all (l ∷ ls) frame n h =
      then_few n (do_line procs cells doing frame l n) (do_lines procs cells doing (after frame l.what) ls)
      (line_few doing all frame l n h) (λ k few. lines_few doing all ls (after frame l.what) k few)

  calls_few : (depth : ℕ) → AllFew (calls procs cells depth)
  calls_few zero = tt
  calls_few (suc depth) =
      λ p frame n h. lines_few (calls procs cells depth) (calls_few depth) p.body frame n h

  start_few : (name : List ℕ) (found : Option AProc) → Few 0 (start procs cells name found)
  start_few name None = (omega arith, omega arith)
  start_few name (Some p) = by_count (length p.args == 0)
    where
      by_count : (t : Bool)
          → Few 0 (cond t (do_lines procs cells (calls procs cells 64) (fresh 0 []) p.body 0)
          (refused (IsArgCount (nowhere procs cells)) 0))
      by_count true = lines_few (calls procs cells 64) (calls_few 64) p.body (fresh 0 []) 0 (omega arith)
      by_count false = (omega arith, omega arith)

pub steps_are_few : StepsAreFew
unfolding expansion
steps_are_few procs cells name =
    let few = start_few procs cells name (find_proc procs (cell cells 0).owner name) in
    omega (arith, few.0, few.1)
