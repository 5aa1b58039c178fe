-- Two things that the work of a command may leave differ alike, and nothing is refused beside.
use Rattle.std.proofs.Common.{◌≡◌, ◌∙◌, ◌<◌, ◌≤◌, ap, inl, inr, subst, sym, ℕ, Bool, List, [], ◌∷◌, Option}
use Rattle.std.proofs.Common.{None, Some, false, true, refl, length, arith}
use Rattle.ij_io.specs.Files.{Files}
use Rattle.ijtag_work.specs.Leaves.{Leaves}
use Rattle.ijtag_work.specs.Accepted.{SeenAccepted, accepted_of}
use Rattle.ijtag_work.specs.Inputs.{loads_of, texts_of}
use Rattle.ijtag_work.specs.Loads.{loaded}
use Rattle.ijtag_work.specs.Runs.{AreSettled, IsSettled, LoadsAreDecided, TextsAreDecided}
use Rattle.ijtag_work.specs.Task.{Row, row_work, task_of, work}
use Rattle.ijtag_work.proofs.Deciding.{in_turn_settled, settled_of}
use Rattle.ijtag_stages.specs.Laws.{StagesAreDecided}
use Rattle.ijtag_stages.specs.Work.{IsDecided, give, ◌>>=◌}
use Rattle.ijtag_stages.proofs.Deciding.{connected_decided, elaborated_decided}
use Rattle.ijtag_stages.proofs.Turns.{give_decided}
use Rattle.ijtag_stages.specs.Connected.{connected}
use Rattle.ijtag_stages.specs.Refusals.{Part, Refusal}
use Rattle.icl_lexer.specs.Values.{SeenModule}
use Rattle.net_graph.specs.declared.device.Device.{Device}
use Rattle.ijtag_work.specs.Order.{filed}
use Rattle.ijtag_tools.specs.Graphs.{Graph, form_or_why, graph_below}
use Rattle.std.specs.Prelude.{nat_lt}
use Rattle.net_graph.specs.Signals.{Holds}
use Rattle.net_wave.specs.declared.var.Window.{Window}
use Rattle.tap_machine.specs.declared.Stable.TheVariants.{Reset as InReset}
use Rattle.tap_machine.specs.Play.{pins}
use Rattle.svf_notes.specs.Before.{holds_before}
use Rattle.svf_notes.specs.Places.{where_answer}
use Rattle.svf_notes.specs.declared.place.BitAnswer.{BitAnswer}
use Rattle.svf_notes.specs.declared.place.BitAnswer.TheVariants.{Same, Differs, NoScan, NoBit}
use Rattle.ijtag_tools.specs.Command.{Explains, Graphs, Listing, Lists, LooksUp, Picture, PictureAt}
use Rattle.ijtag_tools.specs.Command.{Pictures, PicturesAt, Tightens, Wave, Waves}
use Rattle.ijtag_tools.specs.Order.{answer_at, answered, explain, explained, explained_of, graph, graph_in}
use Rattle.ijtag_tools.specs.Order.{graph_of, graph_text, graph_work, held, held_before, is_readable, list}
use Rattle.ijtag_tools.specs.Order.{look_up, looked_up, picture, picture_at, pictured_at, task, tighten}
use Rattle.ijtag_tools.specs.Order.{tightened, wave, waved, window_if, window_in, window_of, within}
use Rattle.ijtag_tools.specs.Order.{within_if}

given_settles : (left : Leaves) → IsSettled (give left)
given_settles left = settled_of (give left) (give_decided left)

readable_decided : (it : SeenAccepted) → IsDecided (is_readable it)
unfolding is_readable
readable_decided it =
    record {
      one = λ a b p q. unit_one a b;
      apart = λ a r p q. over (length (explained_of it)) p q.0;
      alike = λ r s p q. p.1 ∙ sym q.1;
    }
  where
    unit_one : (a b : Unit {0}) → a ≡ b
    unit_one a b = refl

    over : (n : ℕ) → n ≤ 134217728 → 134217728 < n → ⊥
    over n few many = omega (arith, few, many)

explained_settles : (name : List ℕ) (it : SeenAccepted) → IsSettled (explained name it)
explained_settles name it =
    in_turn_settled (is_readable it) _ (readable_decided it) (λ short. given_settles _)

answered_decided : (scan bit : ℕ) (answer : BitAnswer) → IsDecided (answered scan bit answer)
answered_decided scan bit Same = give_decided false
answered_decided scan bit Differs = give_decided true
answered_decided scan bit NoScan =
    record { one = λ a b p q. absurd p; apart = λ a r p q. p; alike = λ r s p q. p ∙ sym q }
answered_decided scan bit NoBit =
    record { one = λ a b p q. absurd p; apart = λ a r p q. p; alike = λ r s p q. p ∙ sym q }

answer_decided : (scan bit : ℕ) (it : SeenAccepted) → IsDecided (answer_at scan bit it)
unfolding answer_at
answer_decided scan bit it =
    answered_decided scan bit (where_answer it.network.net it.device it.models it.commands scan bit)

looked_up_settles : (scan bit : ℕ) (it : SeenAccepted) → IsSettled (looked_up scan bit it)
looked_up_settles scan bit it =
    in_turn_settled (answer_at scan bit it) _ (answer_decided scan bit it) (λ differs. given_settles _)

held_decided : (scan : ℕ) (found : Option Holds) → IsDecided (held scan found)
held_decided scan (Some holds) = give_decided holds
held_decided scan None =
    record { one = λ a b p q. absurd p; apart = λ a r p q. p; alike = λ r s p q. p ∙ sym q }

before_decided : (scan : ℕ) (it : SeenAccepted) → IsDecided (held_before scan it)
unfolding held_before
before_decided scan it = held_decided scan (holds_before it.network.net it.device it.models it.commands scan)

pictured_settles : (p : PictureAt) (it : SeenAccepted) → IsSettled (pictured_at p it)
pictured_settles p it =
    in_turn_settled (held_before p.scan it) _ (before_decided p.scan it) (λ holds. given_settles _)

within_if_decided : (few : Bool) (w : Window) → IsDecided (within_if few w)
within_if_decided true w = give_decided w
within_if_decided false w =
    record { one = λ a b p q. absurd p; apart = λ a r p q. p; alike = λ r s p q. p ∙ sym q }

within_decided : (w : Window) → IsDecided (within w)
within_decided w = within_if_decided (nat_lt w.count 4000001) w

window_if_decided : (there : Bool) (w : Window) (clocks : ℕ) → IsDecided (window_if there w clocks)
window_if_decided true w clocks = within_decided _
window_if_decided false w clocks =
    record { one = λ a b p q. absurd p; apart = λ a r p q. p; alike = λ r s p q. p ∙ sym q }

window_in_decided : (w : Option Window) (clocks : ℕ) → IsDecided (window_in w clocks)
window_in_decided None clocks = within_decided _
window_in_decided (Some w) clocks = window_if_decided (nat_lt w.from clocks) w clocks

window_decided : (w : Option Window) (it : SeenAccepted) → IsDecided (window_of w it)
unfolding window_of
window_decided w it = window_in_decided w (length (pins InReset 0 it.commands))

waved_settles : (w : Wave) (it : SeenAccepted) → IsSettled (waved w it)
waved_settles w it = in_turn_settled (window_of w.window it) _
    (window_decided w.window it) (λ window. given_settles _)

listing_settles : (l : Listing) (it : SeenAccepted) → IsSettled ((list l).leaves it)
listing_settles l it =
    record { alike = λ a b p q. ap (λ (x : Leaves). x.differs) (p ∙ sym q); apart = λ a r p q. q }

tightened_settles : (name : List ℕ) (it : SeenAccepted) → IsSettled (tightened name it)
unfolding tightened
tightened_settles name it =
    record {
      alike = λ a b p q. ap (λ (x : Leaves). x.differs) p.2
          ∙ sym (ap (λ (x : Leaves). x.differs) q.2);
      apart = λ a r p q. q;
    }

-- ---- a network's graph: why it has no nested form may be said in several ways, but all that is left differs
-- alike

graph_settled : (p : Picture) (part : Part Graph)
    → ((g : Graph) (r : Refusal) → part.gives g → part.refuses r → ⊥)
    → IsSettled (part >>= (λ g. give (filed p.new (graph_text g))))
graph_settled p part apart =
    record {
      alike = λ a b x y. ap (λ (l : Leaves). l.differs) x.2 ∙ sym (ap (λ (l : Leaves). l.differs) y.2);
      apart = λ a r x y. elim y [ inl own ↦ apart x.0 r x.1 own | inr later ↦ later.2 ];
    }

below_apart : (modules : List SeenModule) (top : List ℕ) (of : Device) (g : Graph) (r : Refusal)
    → (graph_below modules top of).gives g → (graph_below modules top of).refuses r → ⊥
unfolding graph_below form_or_why
below_apart modules top of g r given refused =
    elim refused [
      | inl own ↦ (elaborated_decided modules top).apart given.0 r given.1 own
      | inr next ↦ elim next.2 [
        | inl own ↦ (connected_decided given.0 of).apart given.2.0 r given.2.1
            (subst (λ cells. (connected cells of).refuses r)
            ((elaborated_decided modules top).one next.0 given.0 next.1 given.1) own)
        | inr later ↦ elim later.2 [ inl none ↦ none | inr none ↦ none.2 ]
      ]
    ]

text_apart : StagesAreDecided → (top icl device : List ℕ) (g : Graph) (r : Refusal)
    → (graph_of top icl device).gives g → (graph_of top icl device).refuses r → ⊥
unfolding graph_of
text_apart stages top icl device g r given refused =
    elim refused [
      | inl own ↦ (stages.icl icl).apart given.0 r given.1 own
      | inr next ↦ elim next.2 [
        | inl own ↦ (stages.device device).apart given.2.0 r given.2.1 own
        | inr later ↦ below_apart given.0 top given.2.0 g r given.2.2
            (subst (λ modules. (graph_below modules top given.2.0).refuses r)
            ((stages.icl icl).one next.0 given.0 next.1 given.1)
            (subst (λ of. (graph_below next.0 top of).refuses r)
            ((stages.device device).one later.0 given.2.0 later.1 given.2.1) later.2))
      ]
    ]

in_apart : StagesAreDecided → (top : List ℕ) (ts : List (List ℕ)) (g : Graph) (r : Refusal)
    → (graph_in top ts).gives g → (graph_in top ts).refuses r → ⊥
in_apart stages top [] g r given refused = given
in_apart stages top (icl ∷ []) g r given refused = given
in_apart stages top (icl ∷ device ∷ []) g r given refused = text_apart stages top icl device g r given refused
in_apart stages top (icl ∷ device ∷ more ∷ ts) g r given refused = given

module _ (loads : LoadsAreDecided) (texts : TextsAreDecided) (stages : StagesAreDecided) where
  graph_in_settles : (p : Picture) (ts : List (List ℕ)) → IsSettled (graph_work p ts)
  graph_in_settles p ts = graph_settled p (graph_in p.network.top ts) (in_apart stages p.network.top ts)

  graph_settles : (p : Picture) (files : Files) → IsSettled (work (Some files) (graph p))
  graph_settles p files =
      in_turn_settled (loaded (Some files) (graph p).loads) (graph_work p)
      (loads files (graph p).loads) (graph_in_settles p)

  row_settles : (row : Row) → ((it : SeenAccepted) → IsSettled (row.leaves it)) → (files : Files)
      → IsSettled (work (Some files) (task_of row))
  row_settles row leaves files =
      in_turn_settled (loaded (Some files) (loads_of row.inputs))
      (row_work row) (loads files (loads_of row.inputs))
      (λ ts. in_turn_settled (accepted_of (texts_of row.inputs ts)) row.leaves
      (texts (texts_of row.inputs ts)) leaves)

  pub all_settle : AreSettled task
  all_settle files (Lists l) = row_settles (list l) (listing_settles l) files
  all_settle files (Explains e) = row_settles (explain e) (explained_settles e.new) files
  all_settle files (LooksUp l) = row_settles (look_up l) (looked_up_settles l.scan l.bit) files
  all_settle files (Pictures p) = row_settles (picture p) (λ it. given_settles _) files
  all_settle files (Graphs p) = graph_settles p files
  all_settle files (PicturesAt p) = row_settles (picture_at p) (pictured_settles p) files
  all_settle files (Tightens t) = row_settles (tighten t) (tightened_settles t.svf) files
  all_settle files (Waves w) = row_settles (wave w) (waved_settles w) files
