-- Frames have names of ICL where the design's names are.
use Rattle.std.proofs.Common.{◌≡◌, ℕ, List, [], ◌∷◌, map, slice_get, Contains, Option, Some, None, IfSome}
use Rattle.std.proofs.Common.{IsSomeAnd, IsTrue, refl}
use Rattle.std.specs.List.{AllByRecursion, cons_option}
use Rattle.ij_text.specs.Words.{is_name}
use Rattle.icl_lexer.specs.Values.{SeenWhat, APort, ARegister, AMux, AChild, AnAlias, SomeWords, AParameter}
use Rattle.icl_lexer.specs.Values.{AnInterface, ALink, AnAttribute, SeenItem}
use Rattle.icl_frames.specs.FirstPass.{Frame}
use Rattle.icl_frames.specs.Preorder.{Declared, declared_by, children_of}
use Rattle.icl_frames.specs.Laws.{child_names, IsDeclaredIn}
use Rattle.icl_frames.specs.Written.{IsWrittenItem, IsWritten, IsWrittenFrame, FramesAreWritten}
use Rattle.icl_frames.proofs.Differing.{all_in}
use Rattle.icl_frames.proofs.Siblings.{all_weaker, frames_are_tree}
use Rattle.ij_bits.proofs.Everywhere.{all_at}

children_written : (items : List SeenItem) → AllByRecursion IsWrittenItem items
    → AllByRecursion (λ n. IsTrue (is_name n)) (child_names items)
children_written [] h = tt
children_written (x ∷ items) h = by_what x.what (children_written items h.1)
  where
    by_what : (what : SeenWhat) → AllByRecursion (λ n. IsTrue (is_name n)) (child_names items)
        → AllByRecursion (λ n. IsTrue (is_name n))
        (map (λ (d : Declared). d.name) (cons_option (declared_by x.name what) (children_of items)))
    by_what (AChild module' binds) again = (h.0.name, again)
    by_what (APort kind range props) again = again
    by_what (ARegister range props) again = again
    by_what (AMux select rows) again = again
    by_what (AnAlias range sigs props) again = again
    by_what (SomeWords words) again = again
    by_what (AParameter local value) again = again
    by_what (AnInterface ports) again = again
    by_what (ALink kind entity instrs) again = again
    by_what (AnAttribute value) again = again

name_written : (frames : List Frame) (parent : Option ℕ) (name : List ℕ)
    → AllByRecursion (λ (f : Frame). IsWritten f.block) frames
    → IfSome parent (λ p. IsSomeAnd (slice_get frames p) (λ q. Contains (child_names q.block.items) name))
    → IfSome parent (λ p. IsTrue (is_name name))
name_written frames None name all h = tt
name_written frames (Some p) name all h =
    by_frame (slice_get frames p) (λ q e. all_at (λ (f : Frame). IsWritten f.block) frames p q all e) h
  where
    by_frame : (o : Option Frame) → ((q : Frame) → o ≡ Some q → IsWritten q.block)
        → IsSomeAnd o (λ q. Contains (child_names q.block.items) name) → IsTrue (is_name name)
    by_frame None written k = absurd k
    by_frame (Some q) written k = all_in (λ n. IsTrue (is_name n)) (child_names q.block.items) name
        (children_written q.block.items (written q refl).items) k

both_written : (frames fs : List Frame) → AllByRecursion (λ (f : Frame). IsWritten f.block) frames
    → AllByRecursion (λ (f : Frame). IsWritten f.block) fs → AllByRecursion (IsDeclaredIn frames) fs
    → AllByRecursion IsWrittenFrame fs
both_written frames [] all blocks names = tt
both_written frames (f ∷ fs) all blocks names = (
  record { name = name_written frames f.parent f.name all names.0; block = blocks.0 },
  both_written frames fs all blocks.1 names.1,
)

pub frames_are_written : FramesAreWritten
frames_are_written blocks top frames written h =
    let t = frames_are_tree blocks top frames h in
    let all = all_weaker (λ (f : Frame). Contains blocks f.block) (λ (f : Frame). IsWritten f.block) frames
    (λ f c. all_in IsWritten blocks f.block written c) t.blocks_are in
    both_written frames frames all all t.declared_are
