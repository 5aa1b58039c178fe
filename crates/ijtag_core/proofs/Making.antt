-- The whole work of `make`, from its parts.
use Rattle.std.proofs.Common.{◌≡◌, ◌∙◌, inl, inr, refl, sym, ap, subst, ℕ, Bool, Option, Some, List, [], ◌∷◌}
use Rattle.std.proofs.Common.{◌++◌, codes}
use Rattle.ij_io.specs.Causes.{Rose}
use Rattle.ij_io.specs.Files.{Files, file_at, OthersStay}
use Rattle.ijtag_stages.specs.Follows.{IsFault}
use Rattle.ijtag_stages.specs.Seen.{seen_refusal}
use Rattle.ijtag_stages.specs.declared.refusal.StageFault.{StageFault}
use Rattle.ijtag_stages.specs.declared.refusal.StageFault.TheVariants.{Refused, OutOfMemory}
use Rattle.ijtag_work.specs.Command.{Make, made_names}
use Rattle.ijtag_work.specs.Loads.{IsNoneOf, IsOneOf}
use Rattle.ijtag_work.specs.Late.{IsPartOf}
use Rattle.ijtag_work.specs.Leaves.{Leaves, Written}
use Rattle.ijtag_work.specs.Accepted.{SeenAccepted}
use Rattle.ijtag_work.specs.Order.{accepted_made, made_files, made_of, make}
use Rattle.ijtag_work.specs.Runs.{AllHold, AreFirstWritten, Counts, HoldInTurn, IsDone, IsPartDone, IsStop}
use Rattle.ijtag_work.specs.Runs.{OnlyTheseChange, OnlyTheseRise}
use Rattle.ijtag_work.specs.Seen.{seen_stop, stop_from}
use Rattle.ijtag_work.specs.Task.{work}
use Rattle.ijtag_work.specs.Stops.{Stop, Usage, Refuses, ReadFault, WriteFault, OutputFault, NoMemory}
use Rattle.ijtag_work.specs.Stops.{IsEarly}
use Rattle.ijtag_work.proofs.Deciding.{made_decided}
use Rattle.ijtag_core.specs.Files.{IsWriteStopOf, OthersAllStay, file_names}
use Rattle.ijtag_core.specs.Svf.{IsPlayStop}
use Rattle.ijtag_work.proofs.Whole.{all_in_turn}
use Rattle.ijtag_core.proofs.Writing.{AreToldAlike, all_and, one_in_turn, part_from, turn_and}

-- ---- names in lists

one_front : (ns ms : List (List ℕ)) (name : List ℕ) → IsOneOf ns name → IsOneOf (ns ++ ms) name
one_front [] ms name is = absurd is
one_front (n ∷ ns) ms name is = elim is [ inl same ↦ inl same | inr later ↦ inr (one_front ns ms name later) ]

one_after : (ns ms : List (List ℕ)) (name : List ℕ) → IsOneOf ms name → IsOneOf (ns ++ ms) name
one_after [] ms name is = is
one_after (n ∷ ns) ms name is = inr (one_after ns ms name is)

none_front : (ns ms : List (List ℕ)) (name : List ℕ) → IsNoneOf (ns ++ ms) name → IsNoneOf ns name
none_front [] ms name none = tt
none_front (n ∷ ns) ms name none = (none.0, none_front ns ms name none.1)

none_after : (ns ms : List (List ℕ)) (name : List ℕ) → IsNoneOf (ns ++ ms) name → IsNoneOf ms name
none_after [] ms name none = none
none_after (n ∷ ns) ms name none = none_after ns ms name none.1

-- one file is left
record IsOneFile (name : List ℕ) (l : Leaves) : Type 0 where
  bytes : List ℕ
  files_are : l.files ≡ record { name = name; bytes = bytes } ∷ []

-- ---- before any file is begun

pub early_refused : (m : Make) (old : Option Files) (fault : StageFault) → IsFault (made_files m) fault
    → IsEarly (seen_stop (stop_from fault)) → AreFirstWritten (made_files m) (made_names m.stem) old old
early_refused m old (Refused r) is early =
    record {
      whole = λ written given. absurd ((made_decided m).apart written (seen_refusal r) given is);
      others = λ other none. refl;
      same = λ none. refl;
    }
early_refused m old OutOfMemory is early = absurd early

pub size_stop : (files : Option Files) (m : Make) (c : Counts) (fault : StageFault)
    → IsFault (made_files m) fault → IsStop files (make m) c (seen_stop (stop_from fault))
size_stop files m c (Refused r) is = inr ([], refl, inl is)
size_stop files m c OutOfMemory is = tt

-- ---- while the four files are written

pub write_not_early : (names : List (List ℕ)) (before now : List ℕ → ℕ) (stop : Stop)
    → IsWriteStopOf names before now stop → IsEarly stop → ⊥
write_not_early names before now (WriteFault n) is early = early
write_not_early names before now NoMemory is early = early
write_not_early names before now Usage is early = is
write_not_early names before now (Refuses refusal) is early = is
write_not_early names before now (ReadFault n) is early = is
write_not_early names before now OutputFault is early = is

module _ (files : Option Files) (m : Make) (ws : List Written) (given : (made_files m).gives ws) where
  pub write_stop : (c : Counts) (stop : Stop)
      → IsWriteStopOf (made_names m.stem) c.store c.store_now stop → IsStop files (make m) c stop
  write_stop c (WriteFault n) is =
      (inr ((ws, given), is.0), (one_front (made_names m.stem) ((m.stem ++ codes ".svf") ∷ []) n is.0, is.1))
  write_stop c NoMemory is = tt
  write_stop c Usage is = absurd is
  write_stop c (Refuses refusal) is = absurd is
  write_stop c (ReadFault n) is = absurd is
  write_stop c OutputFault is = absurd is

  pub write_part : (new : Option Files) (printed : Option (List ℕ)) → HoldInTurn ws files new
      → OthersAllStay (made_names m.stem) files new → IsPartDone files (make m)
      (record { files = files; printed = printed }) (record { files = new; printed = printed })
  write_part new printed turn others =
      inr (inr (record { written = ws; given = given; files = turn; others = others; printed = refl }))

  -- ---- after them

  pub accept_stop : (c : Counts) (fault : StageFault) → IsFault (accepted_made ws) fault
      → IsStop files (make m) c (seen_stop (stop_from fault))
  accept_stop c (Refused r) is = inr ([], refl, inr (ws, given, inl is))
  accept_stop c OutOfMemory is = tt

  pub accept_early : (mid : Option Files) → AllHold ws files mid → OthersAllStay (made_names m.stem) files mid
      → AreFirstWritten (made_files m) (made_names m.stem) files mid
  accept_early mid whole others = record {
    whole = λ written other. subst (λ (vs : List Written). AllHold vs files mid)
        ((made_decided m).one ws written given other) whole;
    others = others;
    same = λ none. absurd (none ws given);
  }

  module _ (it : SeenAccepted) (is : (accepted_made ws).gives it) where
    abbrev svf : List ℕ
    svf = m.stem ++ codes ".svf"

    -- what is left, with the four files before
    abbrev all_left : Leaves → Leaves
    all_left l = record { files = ws ++ l.files; printed = l.printed; differs = l.differs }

    all_given : (l : Leaves) → (made_of [] svf it).gives l → (work files (make m)).gives (all_left l)
    unfolding made_of
    all_given l g = ([], refl, (ws, given, (it, is, (g.0, g.1, (g.2.0, g.2.1, ap all_left g.2.2)))))

    one_file : (l : Leaves) → (made_of [] svf it).gives l → IsOneFile svf l
    unfolding made_of
    one_file l g = record { bytes = g.0; files_are = ap (λ (x : Leaves). x.files) g.2.2 }

    module _ (mid new : Option Files) (whole : AllHold ws files mid) (alike : AreToldAlike files mid)
        (svf_stays : file_at mid svf ≡ file_at files svf)
        (none : IsNoneOf (file_names ws) svf) (others : OthersStay mid new svf) where
      all_hold : (l : Leaves) → (made_of [] svf it).gives l
          → AllHold l.files mid new → AllHold (ws ++ l.files) files new
      all_hold l g held =
          let one = one_file l g in
          let last = subst (λ (vs : List Written). AllHold vs mid new) one.files_are held in
          subst (λ (vs : List Written). AllHold (ws ++ vs) files new) (sym one.files_are)
          (all_and (record { name = svf; bytes = one.bytes }) files mid new others ws none whole
          (last.0 ∙ alike (Some one.bytes)))

      in_turn : (l : Leaves) → (made_of [] svf it).gives l
          → HoldInTurn l.files mid new → HoldInTurn (ws ++ l.files) files new
      in_turn l g held =
          let one = one_file l g in
          let file : Written = record { name = svf; bytes = one.bytes } in
          let last = one_in_turn file mid new
          (subst (λ (vs : List Written). HoldInTurn vs mid new) one.files_are held) in
          subst (λ (vs : List Written). HoldInTurn (ws ++ vs) files new) (sym one.files_are)
          (turn_and file files mid new others ws none whole
          (part_from files mid new svf one.bytes alike svf_stays last))

      module _ (p q : Option (List ℕ)) where
        pub make_done : (differs : Bool) → IsDone (made_of [] svf it) (record { files = mid; printed = p })
            (record { files = new; printed = q }) differs
            → IsDone (work files (make m)) (record { files = files; printed = p })
            (record { files = new; printed = q }) differs
        make_done differs d =
            record {
              leaves = all_left d.leaves;
              given = all_given d.leaves d.given;
              files = all_hold d.leaves d.given d.files;
              printed = d.printed;
              verdict = d.verdict;
            }

        pub make_part : OthersAllStay (made_names m.stem) files mid → IsPartOf (made_of [] svf it)
            (record { files = mid; printed = p }) (record { files = new; printed = q })
            → IsPartDone files (make m) (record { files = files; printed = p })
            (record { files = new; printed = q })
        make_part four either = elim either [
          | inl same ↦
              inr
              (inr (record {
                written = ws;
                given = given;
                files = subst (λ (fs : Option Files). HoldInTurn ws files fs)
                    (sym same.0) (all_in_turn ws files mid whole);
                others = subst (λ (fs : Option Files). OthersAllStay (made_names m.stem) files fs)
                    (sym same.0) four;
                printed = same.1;
              }))
          | inr d ↦ inr (inl (record {
            leaves = all_left d.leaves;
            given = all_given d.leaves d.given;
            files = in_turn d.leaves d.given d.files;
            printed = d.printed;
            in_order = elim d.in_order [
              | inl silent ↦ inl silent
              | inr all ↦ inr (all_hold d.leaves d.given all)
            ];
          }))
        ]

    -- ---- its stops

    -- after the stores of the four files, which raise no count of the SVF file
    module _ (load load_now store : List ℕ → ℕ) (mid : Counts) (same : mid.store svf ≡ store svf) where
      abbrev before : Counts
      before = record {
        load = load;
        load_now = load_now;
        store = store;
        store_now = mid.store_now;
        output = mid.output;
        output_now = mid.output_now;
      }

      pub play_stop : (stop : Stop) → IsPlayStop (made_of [] svf it) svf mid stop
          → IsStop files (make m) before stop
      play_stop (WriteFault n) is =
          let rose : Rose (mid.store svf) (mid.store_now svf) =
          subst (λ (x : List ℕ). Rose (mid.store x) (mid.store_now x)) is.1.0 is.1.1 in
          let here : Rose (store svf) (mid.store_now svf) =
          subst (λ (k : ℕ). Rose k (mid.store_now svf)) same rose in
          let named : Rose (store n) (mid.store_now n) =
          subst (λ (x : List ℕ). Rose (store x) (mid.store_now x)) (sym is.1.0) here in (
            inl (all_left is.0.0, all_given is.0.0 is.0.1),
            (one_after (made_names m.stem) (svf ∷ []) n (inl is.1.0), named),
          )
      play_stop OutputFault is = ((all_left is.0.0, all_given is.0.0 is.0.1), (refl, is.1))
      play_stop NoMemory is = tt
      play_stop Usage is = absurd is
      play_stop (Refuses refusal) is = absurd is
      play_stop (ReadFault n) is = absurd is

pub play_not_early : (it : SeenAccepted) (name : List ℕ) (c : Counts) (stop : Stop)
    → IsPlayStop (made_of [] name it) name c stop → IsEarly stop → ⊥
play_not_early it name c (WriteFault n) is early = early
play_not_early it name c OutputFault is early = early
play_not_early it name c NoMemory is early = early
play_not_early it name c Usage is early = is
play_not_early it name c (Refuses refusal) is early = is
play_not_early it name c (ReadFault n) is early = is

-- ---- the files and the counts that stay

module _ (m : Make) where
  abbrev svf_name : List ℕ
  svf_name = m.stem ++ codes ".svf"

  pub four_change : (old new : Option Files) → OthersAllStay (made_names m.stem) old new
      → OnlyTheseChange (make m).writes old new
  four_change old new others =
      λ other none. others other (none_front (made_names m.stem) (svf_name ∷ []) other none)

  pub five_change : (old mid new : Option Files) → OthersAllStay (made_names m.stem) old mid
      → OthersStay mid new svf_name → OnlyTheseChange (make m).writes old new
  five_change old mid new four last = λ other none.
      last other (none_after (made_names m.stem) (svf_name ∷ []) other none).0
      ∙ four other (none_front (made_names m.stem) (svf_name ∷ []) other none)

  pub four_rise : (old now : List ℕ → ℕ) → OnlyTheseRise (made_names m.stem) old now
      → OnlyTheseRise (make m).writes old now
  four_rise old now rise =
      λ other none. rise other (none_front (made_names m.stem) (svf_name ∷ []) other none)

  pub five_rise : (old mid now : List ℕ → ℕ) → OnlyTheseRise (made_names m.stem) old mid
      → OnlyTheseRise (svf_name ∷ []) mid now → OnlyTheseRise (make m).writes old now
  five_rise old mid now four last = λ other none.
      last other (none_after (made_names m.stem) (svf_name ∷ []) other none)
      ∙ four other (none_front (made_names m.stem) (svf_name ∷ []) other none)
