-- What is known of files that are written one after the other.
use Rattle.std.specs.Prelude.{option_map, take}
use Rattle.std.proofs.Common.{◌≡◌, ◌∙◌, inl, inr, refl, sym, subst, ℕ, Option, Some, None, List, [], ◌∷◌}
use Rattle.std.proofs.Common.{◌++◌}
use Rattle.retargeter.specs.Files.{HoldsPart}
use Rattle.ij_io.specs.Causes.{Rose}
use Rattle.ij_io.specs.Files.{Files, file_at, OthersStay}
use Rattle.ijtag_work.specs.Loads.{IsNoneOf, IsOneOf}
use Rattle.ijtag_work.specs.Leaves.{Written}
use Rattle.ijtag_work.specs.Runs.{AllHold, AllStay, HoldInTurn, OnlyTheseRise}
use Rattle.ijtag_work.specs.Stops.{Stop, Usage, Refuses, ReadFault, WriteFault, OutputFault, NoMemory}
use Rattle.ijtag_work.proofs.Whole.{whole_is_part}
use Rattle.ijtag_core.specs.Files.{IsWriteStopOf, OthersAllStay, file_names}

-- whether files are told is the same at each state of a run
abbrev pub AreToldAlike : Option Files → Option Files → Type 0
AreToldAlike old mid = (x : Option (List ℕ))
    → option_map (λ (_ : Files). x) mid ≡ option_map (λ (_ : Files). x) old

told_alike : (old mid : Option Files) (name : List ℕ) (g : Files → Option (List ℕ))
    → file_at mid name ≡ option_map g old → AreToldAlike old mid
told_alike None None name g e x = refl
told_alike (Some f) (Some h) name g e x = refl
told_alike None (Some h) name g e x = absurd (cc)
told_alike (Some f) None name g e x = absurd (cc)

pub told_whole : (old mid : Option Files) (w : Written)
    → file_at mid w.name ≡ option_map (λ _. Some w.bytes) old → AreToldAlike old mid
told_whole old mid w held = told_alike old mid w.name (λ _. Some w.bytes) held

-- ---- one file after others: what these hold stays, and it holds what it does

module _ (w : Written) (old mid new : Option Files) (others : OthersStay mid new w.name) where
  pub all_and : (ws : List Written) → IsNoneOf (file_names ws) w.name → AllHold ws old mid
      → file_at new w.name ≡ option_map (λ _. Some w.bytes) old → AllHold (ws ++ w ∷ []) old new
  all_and [] none whole last = (last, tt)
  all_and (v ∷ ws) none whole last =
      (others v.name (λ e. none.0 (sym e)) ∙ whole.0, all_and ws none.1 whole.1 last)

  pub turn_and : (ws : List Written) → IsNoneOf (file_names ws) w.name → AllHold ws old mid
      → HoldsPart old new w.name w.bytes → HoldInTurn (ws ++ w ∷ []) old new
  turn_and [] none whole last = inr (last, tt)
  turn_and (v ∷ ws) none whole last =
      inl (others v.name (λ e. none.0 (sym e)) ∙ whole.0, turn_and ws none.1 whole.1 last)

-- of one file in turn a first part is there
pub one_in_turn : (w : Written) (old new : Option Files)
    → HoldInTurn (w ∷ []) old new → HoldsPart old new w.name w.bytes
one_in_turn w old new turn =
    elim turn [ inl whole ↦ whole_is_part old new w.name w.bytes whole.0 | inr part ↦ part.0 ]

-- the same, of a part that was told by the state between
pub part_from : (old mid new : Option Files) (name bytes : List ℕ) → AreToldAlike old mid
    → file_at mid name ≡ file_at old name → HoldsPart mid new name bytes → HoldsPart old new name bytes
part_from old mid new name bytes alike stays part = elim part [
  | inl same ↦ inl (same ∙ stays)
  | inr cut ↦ inr (cut.0, cut.1 ∙ alike (Some (take cut.0 bytes)))
]

-- ---- one file before others

all_stay : (ws : List Written) (name : List ℕ) (old new : Option Files) → OthersStay old new name
    → IsNoneOf (file_names ws) name → AllStay ws old new
all_stay [] name old new others none = tt
all_stay (v ∷ ws) name old new others none =
    (others v.name (λ e. none.0 (sym e)), all_stay ws name old new others none.1)

both_stay : (ws : List Written) (old mid new : Option Files) → AllStay ws old mid
    → AllStay ws mid new → AllStay ws old new
both_stay [] old mid new first then = tt
both_stay (w ∷ ws) old mid new first then = (then.0 ∙ first.0, both_stay ws old mid new first.1 then.1)

all_from : (ws : List Written) (old mid new : Option Files) → AreToldAlike old mid
    → AllHold ws mid new → AllHold ws old new
all_from [] old mid new alike whole = tt
all_from (w ∷ ws) old mid new alike whole =
    (whole.0 ∙ alike (Some w.bytes), all_from ws old mid new alike whole.1)

turn_from : (ws : List Written) (name : List ℕ) (old mid new : Option Files) → AreToldAlike old mid
    → OthersStay old mid name → IsNoneOf (file_names ws) name → HoldInTurn ws mid new → HoldInTurn ws old new
turn_from [] name old mid new alike others none turn = tt
turn_from (v ∷ ws) name old mid new alike others none turn = elim turn [
  | inl whole ↦ inl (
    whole.0 ∙ alike (Some v.bytes),
    turn_from ws name old mid new alike others none.1 whole.1,
  )
  | inr part ↦
      inr (
        part_from old mid new v.name v.bytes alike (others v.name (λ e. none.0 (sym e))) part.0,
        both_stay ws old mid new (all_stay ws name old mid others none.1) part.1,
      )
]

module _ (w : Written) (ws : List Written) (apart : IsNoneOf (file_names ws) w.name) where
  -- it is refused
  pub part_first : (old new : Option Files) → OthersStay old new w.name
      → HoldsPart old new w.name w.bytes → HoldInTurn (w ∷ ws) old new
  part_first old new others part = inr (part, all_stay ws w.name old new others apart)

  module _ (old mid new : Option Files) (held : file_at mid w.name ≡ option_map (λ _. Some w.bytes) old)
      (stays : OthersAllStay (file_names ws) mid new) where
    pub all_more : AllHold ws mid new → AllHold (w ∷ ws) old new
    all_more whole = (stays w.name apart ∙ held, all_from ws old mid new (told_whole old mid w held) whole)

    pub part_more : OthersStay old mid w.name → HoldInTurn ws mid new → HoldInTurn (w ∷ ws) old new
    part_more others turn =
        inl (
          stays w.name apart ∙ held,
          turn_from ws w.name old mid new (told_whole old mid w held) others apart turn,
        )

pub stay_more : (name : List ℕ) (names : List (List ℕ)) (old mid new : Option Files) → OthersStay old mid name
    → OthersAllStay names mid new → OthersAllStay (name ∷ names) old new
stay_more name names old mid new first rest = λ other none. rest other none.1 ∙ first other none.0

pub rise_more : (name : List ℕ) (names : List (List ℕ)) (before mid now : List ℕ → ℕ)
    → OnlyTheseRise (name ∷ []) before mid → OnlyTheseRise names mid now
    → OnlyTheseRise (name ∷ names) before now
rise_more name names before mid now first rest = λ other none. rest other none.1 ∙ first other (none.0, tt)

-- ---- stops

pub stop_first : (name : List ℕ) (names : List (List ℕ)) (before now : List ℕ → ℕ) (stop : Stop)
    → IsWriteStopOf (name ∷ []) before now stop → IsWriteStopOf (name ∷ names) before now stop
stop_first name names before now (WriteFault n) is =
    elim is.0 [ inl same ↦ (inl same, is.1) | inr none ↦ absurd none ]
stop_first name names before now NoMemory is = tt
stop_first name names before now Usage is = absurd is
stop_first name names before now (Refuses refusal) is = absurd is
stop_first name names before now (ReadFault n) is = absurd is
stop_first name names before now OutputFault is = absurd is

absent : (names : List (List ℕ)) (name n : List ℕ) → IsNoneOf names name → IsOneOf names n → n ≡ name → ⊥
absent [] name n none is e = is
absent (m ∷ names) name n none is e =
    elim is [ inl same ↦ none.0 (sym e ∙ same) | inr later ↦ absent names name n none.1 later e ]

pub stop_more : (name : List ℕ) (names : List (List ℕ)) (before mid now : List ℕ → ℕ) (stop : Stop)
    → IsNoneOf names name → OnlyTheseRise (name ∷ []) before mid → IsWriteStopOf names mid now stop
    → IsWriteStopOf (name ∷ names) before now stop
stop_more name names before mid now (WriteFault n) none first is =
    (inr is.0, subst (λ (k : ℕ). Rose k (now n)) (first n (absent names name n none is.0, tt)) is.1)
stop_more name names before mid now NoMemory none first is = tt
stop_more name names before mid now Usage none first is = absurd is
stop_more name names before mid now (Refuses refusal) none first is = absurd is
stop_more name names before mid now (ReadFault n) none first is = absurd is
stop_more name names before mid now OutputFault none first is = absurd is
