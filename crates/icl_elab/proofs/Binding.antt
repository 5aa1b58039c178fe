-- A binding of a port, in two steps: what it binds, and the bindings with it.
use Rattle.std.proofs.Common.{◌≡◌, ◌++◌, ◌∷◌, [], ℕ, not, List, Option, Ok, refl}
use Rattle.std.specs.List.{list_any}
use Rattle.ij_text.specs.declared.Place.{Place}
use Rattle.icl_lexer.specs.Values.{SeenRange, SeenSig, ABoundPort}
use Rattle.icl_declarations.specs.Faults.{◌>>=◌, refuse_if, DoubleName, WrongKind}
use Rattle.icl_frames.specs.FirstPass.{Frame}
use Rattle.icl_declarations.specs.Parts.{is_input, port_that}
use Rattle.icl_declarations.specs.Ranges.{positions, named_positions}
use Rattle.icl_references.specs.Names.{Here, named}
use Rattle.icl_elab.specs.Bindings.{Bound, is_bound, bound_refs, bind}
use Rattle.icl_elab.specs.Marks.{bound_in}
use Rattle.icl_elab.proofs.Rounds.{after}

pub bind_parts : (frames : List Frame) (here : Here) (child : Frame) (bs : List Bound) (at : Place)
    (name : List ℕ) (range : Option SeenRange) (ss : List SeenSig)
    → bind frames here child bs (ABoundPort at name range ss)
    ≡ (bound_in frames here child bs at name range ss >>= λ b. Ok (bs ++ b ∷ []))
unfolding bind bound_in
bind_parts frames here child bs at name range ss =
    after (named child at name) _ _ (λ b. Ok (bs ++ b ∷ []))
    (λ m. after (refuse_if (not (port_that is_input m.item.what)) (WrongKind at)) _ _ (λ b. Ok (bs ++ b ∷ []))
    (λ u. after (named_positions here.frame.params m.bounds range) _ _ (λ b. Ok (bs ++ b ∷ []))
    (λ s. after (refuse_if (list_any (is_bound bs m.part) (positions s)) (DoubleName at name)) _ _
    (λ b. Ok (bs ++ b ∷ []))
    (λ v. after (bound_refs frames here child at m.item.what s ss) _ _
    (λ b. Ok (bs ++ b ∷ [])) (λ refs. refl)))))
