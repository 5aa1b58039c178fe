-- Groups that are left are groups for the network.
use Rattle.std.proofs.Common.{◌≡◌, List, [], ◌∷◌, Some, subst, drop}
use Rattle.std.specs.Prelude.{All, map, option_map}
use Rattle.std.proofs.lemmas.List.Elements.{All-append, All-cons, All-drop, All-head, All-nil, All-replicate}
use Rattle.std.proofs.lemmas.List.Elements.{All-tail, All-weaker}
use Rattle.net_graph.specs.declared.net.Net.{Net}
use Rattle.net_graph.specs.declared.step.WriteBit.{WriteBit}
use Rattle.net_graph.specs.Held.{AreHolds, IsHeld}
use Rattle.net_graph.specs.SeenSteps.{SeenGroup, SeenStep, Apply, Run, Reset as ResetStep, seen_step}
use Rattle.net_graph.specs.Signals.{Holds}
use Rattle.net_graph.specs.Steps.{IsDataBit, IsGroup, IsStep}
use Rattle.net_graph.proofs.Selecting.{is_held}
use Rattle.svf_audit.specs.declared.left.Left.{Left}
use Rattle.svf_audit.specs.Left.{work_left, AreHeld, IsHeldPiece}
use Rattle.svf_audit.specs.Work.{Work, Group, Cycle, Reset, all_work, work_of, group_first}

abbrev pub IsPiece : Net → Work → Type 0
IsPiece net (Group g) = IsGroup net g
IsPiece net Cycle = Unit {0}
IsPiece net Reset = Unit {0}

groups_pieces : (net : Net) (gs : List SeenGroup) → All (IsGroup net) gs → All (IsPiece net) (map Group gs)
groups_pieces net [] a = All-nil (IsPiece net)
groups_pieces net (g ∷ gs) a =
    All-cons (IsPiece net) (Group g) (map Group gs) (All-head (IsGroup net) g gs a)
    (groups_pieces net gs (All-tail (IsGroup net) g gs a))

step_pieces : (net : Net) (step : SeenStep) → IsStep net step → All (IsPiece net) (work_of step)
step_pieces net (Apply rounds) v = groups_pieces net rounds v.1
step_pieces net (Run n) v = All-replicate (IsPiece net) n Cycle tt
step_pieces net ResetStep v = All-cons (IsPiece net) Reset [] tt (All-nil (IsPiece net))

all_pieces : (net : Net) (steps : List SeenStep) → All (IsStep net) steps → All (IsPiece net) (all_work steps)
all_pieces net [] a = All-nil (IsPiece net)
all_pieces net (s ∷ ss) a =
    All-append (IsPiece net) (work_of s) (all_work ss) (step_pieces net s (All-head (IsStep net) s ss a))
    (all_pieces net ss (All-tail (IsStep net) s ss a))

pub left_pieces : (net : Net) (l : Left)
    → All (IsStep net) (map seen_step l.steps.now.items) → All (IsPiece net) (work_left l)
left_pieces net l a =
    All-drop (IsPiece net) l.done (all_work (drop l.at (map seen_step l.steps.now.items)))
    (all_pieces net (drop l.at (map seen_step l.steps.now.items))
    (All-drop (IsStep net) l.at (map seen_step l.steps.now.items) a))

held_piece : (net : Net) (h : Holds) → AreHolds net h → (w : Work) → IsPiece net w → IsHeldPiece h w
held_piece net h a (Group g) v =
    All-weaker (λ (w : WriteBit). IsDataBit net w.bit) (λ (w : WriteBit). IsHeld h w.bit)
    (λ w b. is_held net h w.bit a b.there) g.writes v.written
held_piece net h a Cycle v = tt
held_piece net h a Reset v = tt

pub left_held : (net : Net) (h : Holds) (l : Left) → AreHolds net h
    → All (IsStep net) (map seen_step l.steps.now.items) → AreHeld h (work_left l)
left_held net h l a s =
    All-weaker (IsPiece net) (IsHeldPiece h) (held_piece net h a) (work_left l) (left_pieces net l s)

pub first_piece : (net : Net) (ws : List Work) (g : SeenGroup)
    → Some g ≡ option_map (λ x. x.0) (group_first ws) → All (IsPiece net) ws → IsGroup net g
first_piece net [] g e a = absurd (cc)
first_piece net (Group h ∷ ws) g e a =
    let same : h ≡ g = cc in
    subst (IsGroup net) same (All-head (IsPiece net) (Group h) ws a)
first_piece net (Cycle ∷ ws) g e a = absurd (cc)
first_piece net (Reset ∷ ws) g e a = absurd (cc)
