-- The scans of a group's plans so far, and what is left of them.
use Rattle.std.proofs.Common.{◌≡◌, ℕ, suc, true, Option, List, [], ◌∷◌, ◌++◌, refl, sym, ap, ◌∙◌, subst}
use Rattle.std.proofs.Common.{append_assoc}
use Rattle.std.specs.Prelude.{map}
use Rattle.std.proofs.lemmas.List.{append-nil}
use Rattle.ij_io.specs.Bytes.{Adds, AddsPart}
use Rattle.ij_io.proofs.Adding.{adds_as, adds_both, adds_front, adds_none, adds_part_as, adds_then_part}
use Rattle.ij_io.proofs.Adding.{with_none}
use Rattle.net_graph.specs.declared.net.Net.{Net}
use Rattle.net_graph.specs.Groups.{registers_of, IsEmpty}
use Rattle.net_graph.specs.Path.{route_of}
use Rattle.net_graph.specs.SeenSteps.{SeenGroup}
use Rattle.net_graph.specs.Signals.{Holds}
use Rattle.net_graph.specs.Writes.{write_all}
use Rattle.net_tree.specs.Form.{Items}
use Rattle.path_planner.specs.Opening.{CanOpen}
use Rattle.path_planner.specs.Plans.{ArePlans, Settles}
use Rattle.path_planner.specs.Settling.{all_on}
use Rattle.path_planner.proofs.Opening.{opens}
use Rattle.path_planner.proofs.PlanSteps.{AreOpen, can_go_on, more_open, none_open}
use Rattle.svf_writer.specs.SeenCommands.{SDR}
use Rattle.svf_writer.specs.Written.{text_of, texts_of}
use Rattle.headline.specs.Scans.{scan_of, scans_of, holds_after}
use Rattle.retargeter.specs.Writing.{WritesGroup, WritesGroupPart, IsAfterGroup}
use Rattle.retargeter.proofs.Found.{plans_of}
use Rattle.retargeter.proofs.Same.{writes_group, writes_part, is_after}

-- the text of the scans of plans
abbrev pub text : Net → Holds → List SeenGroup → List ℕ
text net holds ps = texts_of (map SDR (scans_of net holds ps))

-- the text of one of them
abbrev pub scan_text : Net → Holds → SeenGroup → List ℕ
scan_text net holds p = text_of (SDR (scan_of net holds (route_of net holds) p))

-- plans and others after them
text_after : (net : Net) (ps qs : List SeenGroup) (h : Holds)
    → text net h (ps ++ qs) ≡ text net h ps ++ text net (holds_after h ps) qs
text_after net [] qs h = refl
text_after net (p ∷ ps) qs h =
    ap (λ (rest : List ℕ). scan_text net h p ++ rest) (text_after net ps qs (write_all h p.writes))
    ∙ sym (append_assoc (scan_text net h p) (text net (write_all h p.writes) ps)
    (text net (holds_after (write_all h p.writes) ps) qs))

holds_after_both : (ps qs : List SeenGroup) (h : Holds)
    → holds_after h (ps ++ qs) ≡ holds_after (holds_after h ps) qs
holds_after_both [] qs h = refl
holds_after_both (p ∷ ps) qs h = holds_after_both ps qs (write_all h p.writes)

-- the scans of some plans are written, and whatever plans go on from the update stages now go after these
pub record Opened (net : Net) (form : Items) (g : SeenGroup) (first : Holds) (old : Option (List ℕ))
    (scans : ℕ) (now : Holds) (new : Option (List ℕ)) : Type 0 where
  pub can : CanOpen net form g now
  pub opened : AreOpen net form g now scans
  pub done : List SeenGroup
  pub written : Adds old new (text net first done)
  pub holds : now ≡ holds_after first done
  pub so_far : (p : SeenGroup) (ps : List SeenGroup) → ArePlans net form g now (p ∷ ps)
      → ArePlans net form g first (done ++ p ∷ ps)

module _ (net : Net) (form : Items) (g : SeenGroup) (first : Holds) (old : Option (List ℕ)) where
  pub begin : CanOpen net form g first → Opened net form g first old 0 first old
  begin c = record {
    can = c;
    opened = none_open net form g first;
    done = [];
    written = record { added = with_none old };
    holds = refl;
    so_far = λ p ps a. a;
  }

  module _ (scans : ℕ) (now : Holds) (between : Option (List ℕ))
      (o : Opened net form g first old scans now between) where
    -- with one more
    one_more : (p : SeenGroup)
        → text net first (o.done ++ p ∷ []) ≡ text net first o.done ++ scan_text net now p
    one_more p =
        text_after net o.done (p ∷ []) first ∙ ap (λ (z : List ℕ). text net first o.done ++ z)
        (ap (λ h. text net h (p ∷ [])) (sym o.holds) ∙ append-nil (scan_text net now p))

    after_more : (p : SeenGroup) (after : Holds) → after ≡ write_all now p.writes
        → after ≡ holds_after first (o.done ++ p ∷ [])
    after_more p after e =
        e ∙ ap (λ h. write_all h p.writes) o.holds ∙ sym (holds_after_both o.done (p ∷ []) first)

    module _ (p : SeenGroup) (s : Settles net form g now p) where
      pub go_on : (more : ℕ) (after : Holds) (new : Option (List ℕ)) → more ≡ suc scans
          → after ≡ write_all now p.writes → Adds between new (scan_text net now p)
          → Opened net form g first old more after new
      go_on more after new m e a =
          record {
            can = subst (CanOpen net form g) (sym e) (can_go_on net form g now o.can p s);
            opened = subst (λ h. AreOpen net form g h more) (sym e)
                (subst (λ q. AreOpen net form g (write_all now p.writes) q) (sym m)
                (more_open net form g now o.can p s scans o.opened));
            done = o.done ++ p ∷ [];
            written = adds_as (sym (one_more p)) (adds_both o.written a);
            holds = after_more p after e;
            so_far = λ q qs b. subst (ArePlans net form g first) (sym (append_assoc o.done (p ∷ []) (q ∷ qs)))
                (o.so_far p (q ∷ qs) (s, subst (λ h. ArePlans net form g h (q ∷ qs)) e b));
          }

    module _ (named : ¬ IsEmpty g) where
      -- there are plans from then on
      from : (h : Holds) → CanOpen net form g h
          → (q : SeenGroup) × (qs : List SeenGroup) × ArePlans net form g h (q ∷ qs)
      from h c =
          let (hs, x) = opens net form g h c in
          plans_of net form g hs h c named x.opening

      pub stopped : WritesGroupPart net form first g old between
      stopped =
          let (q, qs, a) = from now o.can in
          writes_part net form g first named (o.done ++ q ∷ qs) (o.so_far q qs a)
          (adds_part_as (sym (text_after net o.done (q ∷ qs) first))
          (adds_then_part o.written (adds_none (text net (holds_after first o.done) (q ∷ qs)) refl)))

      pub refused : (p : SeenGroup) → Settles net form g now p → (new : Option (List ℕ))
          → AddsPart between new (scan_text net now p) → WritesGroupPart net form first g old new
      refused p s new a =
          let (q, qs, b) = from (write_all now p.writes) (can_go_on net form g now o.can p s) in
          let rest = text net (write_all now p.writes) (q ∷ qs) in
          writes_part net form g first named (o.done ++ p ∷ (q ∷ qs)) (o.so_far p (q ∷ qs) (s, b))
          (adds_part_as (sym (text_after net o.done (p ∷ (q ∷ qs)) first
          ∙ ap (λ h. text net first o.done ++ text net h (p ∷ (q ∷ qs))) (sym o.holds)))
          (adds_then_part o.written (adds_front rest a)))

      -- the group itself comes last
      module _ (t : all_on net (registers_of g) now ≡ true) where
        plans : ArePlans net form g first (o.done ++ g ∷ [])
        plans = o.so_far g [] (named, refl, t)

        pub all_written : {new : Option (List ℕ)} → Adds between new (scan_text net now g)
            → WritesGroup net form first g old new
        all_written a =
            writes_group net form g first named (o.done ++ g ∷ []) plans
            (adds_as (sym (one_more g)) (adds_both o.written a))

        pub last_refused : {new : Option (List ℕ)} → AddsPart between new (scan_text net now g)
            → WritesGroupPart net form first g old new
        last_refused a =
            writes_part net form g first named (o.done ++ g ∷ []) plans
            (adds_part_as (sym (one_more g)) (adds_then_part o.written a))

        pub all_after : {after : Holds} → after ≡ write_all now g.writes
            → IsAfterGroup net form first g after
        all_after {after} e =
            is_after net form g first named (o.done ++ g ∷ []) plans (after_more g after e)
