-- Rounds that are told and done one after the other.
use Rattle.std.proofs.Common.{◌≡◌, ◌+◌, ◌<◌, ◌≤◌, ℕ, Bool, List, [], ◌++◌, Option, length, get_or, drop, refl}
use Rattle.std.proofs.Common.{sym, ap, ◌∙◌, subst, arith, length-append}
use Rattle.std.specs.Prelude.{map, filter}
use Rattle.std.proofs.lemmas.List.{at_drop_all, length-map}
use Rattle.std.proofs.lemmas.List.Elements.{All-weaker, filter-append}
use Rattle.ij_io.specs.Bytes.{Adds, AddsPart}
use Rattle.ij_io.proofs.Fronts.{AddsFront, front_start, front_next, front_part, front_all}
use Rattle.instruments.specs.Machine.{count_log}
use Rattle.instruments.specs.OnNetwork.{Running, changes, outputs}
use Rattle.instruments.specs.declared.Counts.{Counts}
use Rattle.instruments.specs.declared.model.Model.{Model}
use Rattle.net_graph.specs.Named.{IsBitOf}
use Rattle.net_graph.specs.Nets.{IsNet}
use Rattle.net_graph.specs.SeenSteps.{SeenGroup, seen_group}
use Rattle.net_graph.specs.Signals.{Holds, capture_signal, signal}
use Rattle.net_graph.specs.Steps.{IsDataBit, IsGroup}
use Rattle.net_graph.specs.Writes.{write_all}
use Rattle.net_graph.specs.declared.net.Net.{Net}
use Rattle.net_graph.specs.declared.step.Group.{Group}
use Rattle.net_graph.specs.declared.step.ReadBit.{ReadBit}
use Rattle.pdl_meaning.specs.Direct.{Direct, do_group, do_rounds, found}
use Rattle.pdl_meaning.specs.States.{SeenState}
use Rattle.instruments.specs.Runners.{machines_of}
use Rattle.direct_report.specs.Going.{AreCounted, AreReads, IsAfterWrites, SameState}
use Rattle.direct_report.specs.Report.{differs, in_order, lines, rounds_lines}
use Rattle.direct_report.specs.Seen.{found_all}
use Rattle.direct_report.proofs.Ordering.{reads_are_few}
use Rattle.net_graph.proofs.Groups.{left_next}

-- the reads of a round
pub reads_of_group : (net : Net) (g : SeenGroup) → IsNet net → IsGroup net g → AreReads net g.reads
reads_of_group net g n is =
    record {
      there = All-weaker (λ (r : ReadBit). IsDataBit net r.bit)
          (λ (r : ReadBit). IsBitOf net r.bit) (λ r d. d.there) g.reads is.read;
      once = is.read_once;
      few = reads_are_few net g n is;
    }

-- what is found where a run stands for a meaning
found_same : (s : SeenState) (net : Net) (models : List Model) (e : Direct Counts) → s.net ≡ net
    → s.models ≡ models → SameState s e → (reads : List ReadBit)
    → found_all s reads ≡ map (found count_log net (machines_of models) e) reads
found_same s net models e n m stands reads =
    let all : Net → List Model → Holds → List (Running Counts)
    → List (ReadBit × Bool) = λ x ms h is. map {B = ReadBit × Bool}
    (λ (r : ReadBit). (r, signal (outputs (machines_of ms) is) h (capture_signal x r.bit))) reads in
    ap (λ (x : Net). all x s.models s.holds s.insts) n
    ∙ ap (λ (ms : List Model). all net ms s.holds s.insts) m
    ∙ ap (λ (h : Holds). all net models h s.insts) stands.holds
    ∙ ap (λ (is : List (Running Counts)). all net models e.holds is) stands.insts

-- what comes after a round
stands_next : (s after : SeenState) (net : Net) (models : List Model) (e : Direct Counts) (g : SeenGroup)
    → s.net ≡ net → s.models ≡ models → SameState s e → IsAfterWrites s g.writes after
    → SameState after (do_group count_log net (machines_of models) e g)
stands_next s after net models e g n m stands is =
    record {
      holds = ap (λ (x : SeenState). x.holds) is ∙ ap (λ (h : Holds). write_all h g.writes) stands.holds;
      insts = ap (λ (x : SeenState). x.insts) is
          ∙ ap (λ (x : Net). changes count_log x (machines_of s.models) s.holds
          (write_all s.holds g.writes) s.insts) n
          ∙ ap (λ (ms : List Model). changes count_log net
          (machines_of ms) s.holds (write_all s.holds g.writes) s.insts) m
          ∙ ap (λ (h : Holds). changes count_log net (machines_of models) h
          (write_all h g.writes) s.insts) stands.holds
          ∙ ap (λ (is : List (Running Counts)). changes count_log net (machines_of models) e.holds
          (write_all e.holds g.writes) is) stands.insts;
    }

-- ---- from round to round

-- some rounds are told and done: e is the meaning now, the rest goes on from there
pub record GoesOn (net : Net) (models : List Model) (gs left : List SeenGroup) (now : SeenState)
    (reads differ : ℕ) (old new : Option (List ℕ)) (d : Direct Counts) : Type 0 where
  pub e : Direct Counts
  pub stands : SameState now e
  pub rest : do_rounds count_log net (machines_of models) e left
      ≡ do_rounds count_log net (machines_of models) d gs
  pub front : AddsFront old new (rounds_lines net (machines_of models) e left)
      (rounds_lines net (machines_of models) d gs)
  pub counted : AreCounted reads differ d e

module _ (net : Net) (models : List Model) (first : SeenState) (gs : List Group) (old : Option (List ℕ)) where
  -- whatever meaning the run stood for
  abbrev pub Go : ℕ → SeenState → ℕ → ℕ → Option (List ℕ) → Type 0
  Go i now reads differ new = (d : Direct Counts) → SameState first d
      → GoesOn net models (map seen_group gs) (map seen_group (drop i gs)) now reads differ old new d

  pub begin : Go 0 first 0 0 old
  begin d stands =
      record {
        e = d;
        stands = stands;
        rest = refl;
        front = front_start old (rounds_lines net (machines_of models) d (map seen_group gs));
        counted = record { reads = omega arith; differs = omega arith };
      }

  module _ (i : ℕ) (now : SeenState) (reads differ : ℕ) (between : Option (List ℕ))
      (go : Go i now reads differ between) (g : Group) (l : i < length gs) (is : g ≡ get_or gs i g)
      (n : now.net ≡ net) (m : now.models ≡ models) where
    -- the lines of the next round
    abbrev piece : List ℕ
    piece = lines (in_order net (found_all now g.reads.items))

    front_now : (d : Direct Counts) (stands : SameState first d)
        → AddsFront old between (piece ++ rounds_lines net (machines_of models) (do_group count_log net
        (machines_of models) (go d stands).e (seen_group g)) (map seen_group (drop (i + 1) gs)))
        (rounds_lines net (machines_of models) d (map seen_group gs))
    front_now d stands =
        let x = go d stands in
        let here = ap (rounds_lines net (machines_of models) x.e) (left_next gs g i l is) in
        let told = ap (λ (ys : List (ReadBit × Bool)). lines (in_order net ys) ++ rounds_lines net
        (machines_of models) (do_group count_log net (machines_of models) x.e (seen_group g)) (map
        seen_group (drop (i + 1) gs))) (sym (found_same now net models x.e n m x.stands g.reads.items)) in
        subst (λ (rest : List ℕ). AddsFront old between rest
        (rounds_lines net (machines_of models) d (map seen_group gs))) (here ∙ told) x.front

    pub refused : (new : Option (List ℕ)) → AddsPart between new piece → (d : Direct Counts)
        → SameState first d → AddsPart old new (rounds_lines net (machines_of models) d (map seen_group gs))
    refused new part d stands = front_part piece _ (front_now d stands) part

    pub go_on : (after : SeenState) (told differing_told : ℕ) (new : Option (List ℕ)) → Adds between new piece
        → IsAfterWrites now g.writes.items after → told ≡ length g.reads.items
        → differing_told ≡ length (filter differs (found_all now g.reads.items))
        → Go (i + 1) after (reads + told) (differ + differing_told) new
    go_on after told differing_told new whole writes read differing_read d stands =
        let x = go d stands in
        let ms = machines_of models in
        let e = do_group count_log net ms x.e (seen_group g) in
        let values = map (found count_log net ms x.e) g.reads.items in
        let same : found_all now g.reads.items
        ≡ values = found_same now net models x.e n m x.stands g.reads.items in
        let few = ap (λ (ys : List (ReadBit × Bool)). length (filter differs ys)) same in
        let split = ap length (filter-append differs x.e.reads values) in
        record {
          e = e;
          stands = stands_next now after net models x.e (seen_group g) n m x.stands writes;
          rest = sym (ap (do_rounds count_log net ms x.e) (left_next gs g i l is)) ∙ x.rest;
          front = front_next piece _ (front_now d stands) whole;
          counted = record {
            reads = omega (
              arith,
              x.counted.reads,
              read,
              length-append x.e.reads values,
              length-map g.reads.items (found count_log net ms x.e),
            );
            differs = omega (
              arith,
              x.counted.differs,
              differing_read,
              few,
              split,
              length-append (filter differs x.e.reads) (filter differs values),
            );
          };
        }

  -- all rounds are told and done
  module _ (i : ℕ) (now : SeenState) (reads differ : ℕ) (new : Option (List ℕ)) (go :
      Go i now reads differ new) (l : length gs ≤ i) (d : Direct Counts) (stands : SameState first d) where
    none : map seen_group (drop i gs) ≡ []
    none = at_drop_all (map seen_group) gs i l

    rest_is : (go d stands).e ≡ do_rounds count_log net (machines_of models) d (map seen_group gs)
    rest_is =
        sym (ap (do_rounds count_log net (machines_of models) (go d stands).e) none) ∙ (go d stands).rest

    pub whole : Adds old new (rounds_lines net (machines_of models) d (map seen_group gs))
    whole =
        front_all (subst (λ (rest : List ℕ). AddsFront old new rest
        (rounds_lines net (machines_of models) d (map seen_group gs)))
        (ap (rounds_lines net (machines_of models) (go d stands).e) none) (go d stands).front)

    pub state : SameState now (do_rounds count_log net (machines_of models) d (map seen_group gs))
    state = subst (SameState now) rest_is (go d stands).stands

    pub counts : AreCounted reads differ d
        (do_rounds count_log net (machines_of models) d (map seen_group gs))
    counts = subst (AreCounted reads differ d) rest_is (go d stands).counted
