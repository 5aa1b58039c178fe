-- An audit of planned scans: opening scans and scans of groups meet no cause.
use Rattle.std.proofs.Common.{◌≡◌, ◌⊎◌, inl, inr, ⊎_elim, ℕ, zero, suc, ◌<◌, Bool, true, false, List, [], ◌∷◌}
use Rattle.std.proofs.Common.{◌++◌, length, get_or, Option, Some, None, refl, sym, ap, ◌∙◌, subst, arith}
use Rattle.std.proofs.Common.{append_assoc}
use Rattle.std.specs.Prelude.{All, Contains, map, filter, replicate, not, cond, ◌&&◌, ◌==◌, Result, unwrap_or}
use Rattle.std.specs.Prelude.{IsNone}
use Rattle.std.specs.Option.{is_some}
use Rattle.std.specs.List.{list_all, list_any}
use Rattle.std.proofs.lemmas.Bool.{true≢false, cases_Bool, cases_lt, false_from_ne_true, and_parts, and_from}
use Rattle.std.proofs.lemmas.Bool.{and_left, and_right, not_from_true, not_from_false}
use Rattle.std.proofs.lemmas.List.{length-map, get_or-map, ext_get_or, get_or_past}
use Rattle.std.proofs.lemmas.List.Elements.{All-nil, All-cons, All-head, All-tail, All-append, All-contains}
use Rattle.std.proofs.lemmas.List.Elements.{Contains-append_left, Contains-append_right, Contains-get_or}
use Rattle.ij_bits.specs.BitLists.{same_bit}
use Rattle.ij_bits.proofs.SameBits.{same_bits, same_self}
use Rattle.net_graph.specs.declared.device.Device.{Device}
use Rattle.net_graph.specs.declared.net.BitId.{BitId}
use Rattle.net_graph.specs.declared.net.Net.{Net}
use Rattle.net_graph.specs.declared.step.ReadBit.{ReadBit}
use Rattle.net_graph.specs.declared.step.WriteBit.{WriteBit}
use Rattle.net_graph.specs.Chain.{IsRoute, chain, put_chain, position}
use Rattle.net_graph.specs.Groups.{registers_of}
use Rattle.net_graph.specs.Nets.{IsNet}
use Rattle.net_graph.specs.Path.{AreListed, is_select, same_place, route_of}
use Rattle.net_graph.specs.SeenSteps.{SeenGroup}
use Rattle.net_graph.specs.Signals.{Holds, hold_at}
use Rattle.net_graph.specs.Steps.{IsDataBit, IsGroup}
use Rattle.net_graph.specs.Writes.{write_all}
use Rattle.net_graph.proofs.DataBits.{SameData}
use Rattle.net_graph.proofs.Placing.{StandsOn, contained_in, not_contained}
use Rattle.net_graph.proofs.Routes.{active_route}
use Rattle.net_graph.proofs.Shapes.{shape, widths}
use Rattle.net_graph.proofs.Steps.{DifferOn, put_chain-to}
use Rattle.net_graph.proofs.Writing.{IsHeld, write_all-at, write_all-off, write_all-other, write_all-shape}
use Rattle.net_graph.proofs.Places.{place_is, place_self}
use Rattle.svf_writer.specs.SeenCommands.{SeenCommand, SeenScan, SDR}
use Rattle.tap_machine.specs.declared.Stable.TheVariants.{Idle as InIdle}
use Rattle.tap_machine.specs.Play.{LastScan, Played, no_scan, played, expected, mask_now, is_empty}
use Rattle.tap_machine.proofs.Splits.{played_whole}
use Rattle.headline.specs.Planned.{IsPathScan, IsOpening, IsGroupScan, ExpectsReads}
use Rattle.headline.proofs.Comparing.{mapped, is_mapped}
use Rattle.headline.proofs.Grouping.{whole_scan, no_bits, in_width}
use Rattle.svf_audit.specs.declared.answer.Cause.{Cause}
use Rattle.svf_audit.specs.declared.answer.Cause.TheVariants.{Length, Select, Step, Write, Read}
use Rattle.svf_audit.specs.Audit.{State, bits_on, changed, expected_of, same_expects, is_written, does_writes}
use Rattle.svf_audit.specs.Audit.{does_reads, need, need_some, note, scanned, step, scan, pass, has_row}
use Rattle.svf_audit.specs.Audit.{do_group as do_due}
use Rattle.svf_audit.specs.Work.{Work, Group, Cycle, Reset, has_value, is_redundant, due, group_first}
use Rattle.svf_audit.specs.Listed.{following_scan}
use Rattle.svf_audit.proofs.Changing.{length-bits_on, place_at, at_place, none_changed}
use Rattle.svf_audit.proofs.Finding.{expected_at, expected_from}
use Rattle.svf_audit.proofs.Following.{ok}
use Rattle.svf_audit.proofs.Listing.{all_have_rows}
use Rattle.svf_audit.proofs.Telling.{all_of, all_from, any_of, any_from, passed_in, lists_self}
use Rattle.svf_audit.proofs.Working.{IsWork}
use Rattle.std.proofs.lemmas.Option.{none-some}
use Rattle.svf_audit.proofs.Looking.{length-expected}
use Rattle.ij_bits.proofs.Contained.{first_in}
use Rattle.ij_bits.proofs.Tests.{not_both, number_self}

pub need_is : {A : Type 0} (t : Bool) (cause : Cause) (next : Result A Cause)
    → t ≡ true → need t cause next ≡ next
need_is t cause next e = ap (λ b. need b cause next) e

none_pass : (test : BitId → Bool) (xs : List BitId)
    → ((x : BitId) → test x ≡ false) → is_empty (filter test xs) ≡ true
none_pass test [] h = refl
none_pass test (x ∷ xs) h =
    ap (λ b. is_empty (cond b (x ∷ filter test xs) (filter test xs))) (h x) ∙ none_pass test xs h

-- where no data bit has another value, none is told as changed
pub unchanged : (net : Net) (path : List ℕ) (before now : Holds) → SameData net now before
    → is_empty (changed net path before now) ≡ true
unchanged net path before now s =
    none_pass (λ b. not (is_select net b) && not (same_bit (hold_at now b) (hold_at before b)))
    (bits_on before path) each
  where
    each : (b : BitId) → (not (is_select net b) && not (same_bit (hold_at now b) (hold_at before b))) ≡ false
    each b =
        ⊎_elim
        (λ t. and_left (not (is_select net b))
        (not (same_bit (hold_at now b) (hold_at before b))) (not_from_true (is_select net b) t))
        (λ t. and_right (not (is_select net b)) (not (same_bit (hold_at now b) (hold_at before b)))
        (not_from_true (same_bit (hold_at now b) (hold_at before b))
        (ap (λ x. same_bit x (hold_at before b)) (s b t) ∙ same_self (hold_at before b))))
        (cases_Bool (is_select net b))

abbrev nothings : ℕ → List (Option Bool)
nothings n = replicate n None

pub none_expected : (n : ℕ) → list_any is_some (nothings n) ≡ false
none_expected zero = refl
none_expected (suc n) = none_expected n

-- a redundant piece of valid work
abbrev pub IsRedundant : Net → Holds → Work → Type 0
IsRedundant net holds x = (is_redundant holds x ≡ true) × IsWork net x

pub redundant_same : (net : Net) (h k : Holds) (x : Work) → SameData net k h
    → IsRedundant net h x → IsRedundant net k x
redundant_same net h k (Group g) s q =
    let both = and_parts (is_empty g.reads) (list_all (has_value h) g.writes) q.0 in
    let each : (w : WriteBit) → Contains g.writes w
    → has_value k w ≡ true = λ w c. ap (λ b. same_bit b w.value)
    (s w.bit (All-contains (λ (w : WriteBit). IsDataBit net w.bit) g.writes w q.1.written c).data_bit)
    ∙ all_of (has_value h) g.writes both.1 w c in (
      and_from (is_empty g.reads) (list_all (has_value k) g.writes) both.0
          (all_from (has_value k) g.writes each),
      q.1,
    )
redundant_same net h k Cycle s q = absurd (true≢false (sym q.0))
redundant_same net h k Reset s q = absurd (true≢false (sym q.0))

pub all_redundant_same : (net : Net) (h k : Holds) (xs : List Work) → SameData net k h
    → All (IsRedundant net h) xs → All (IsRedundant net k) xs
all_redundant_same net h k [] s a = All-nil (IsRedundant net k)
all_redundant_same net h k (x ∷ xs) s a =
    All-cons (IsRedundant net k) x xs (redundant_same net h k x s (All-head (IsRedundant net h) x xs a))
    (all_redundant_same net h k xs s (All-tail (IsRedundant net h) x xs a))

-- redundant pieces before are dropped
pub due_after : (net : Net) (h : Holds) (front left : List Work)
    → All (IsRedundant net h) front → due h (front ++ left) ≡ due h left
due_after net h [] left a = refl
due_after net h (x ∷ xs) left a =
    ap (λ t. elim t [ true ↦ due h (xs ++ left) | false ↦ x ∷ (xs ++ left) ])
    (All-head (IsRedundant net h) x xs a).0
    ∙ due_after net h xs left (All-tail (IsRedundant net h) x xs a)

module _ (net : Net) (device : Device) (w : IsNet net) where
  -- the state of an audit of a script between its scans: these redundant pieces are still there, and then
  -- what is left
  pub record Stands (a : State) (left : List Work) : Type 0 where
    pub linked : a.linked ≡ true
    pub rest : a.rest ≡ InIdle
    pub shaped : shape a.holds ≡ widths net
    pub front : List Work
    pub waits : a.left ≡ front ++ left
    pub redundant : All (IsRedundant net a.holds) front

  -- ---- one scan

  module _ (a : State) (x : SeenScan) (after : Holds) (left : List Work) (st : Stands a left)
      (p : IsPathScan net a.holds after x) (d : DifferOn p.path a.holds after)
      (listed : AreListed net (following_scan net a.holds x)) where
    abbrev path : List ℕ
    path = route_of net a.holds

    abbrev es : List (Option Bool)
    es = (played a.dr x).expects

    on_path : p.path ≡ path
    on_path = sym (ap (λ o. unwrap_or o []) p.traced)

    differ : DifferOn path a.holds after
    differ = subst (λ q. DifferOn q a.holds after) on_path d

    route : IsRoute (length net.regs.items) path
    route = subst (IsRoute (length net.regs.items)) on_path (active_route net a.holds p.path w p.traced)

    long : x.len ≡ length (chain path a.holds)
    long = p.long ∙ ap (λ q. length (chain q a.holds)) on_path

    here_route : IsRoute (length a.holds) path
    here_route =
        let k : length a.holds ≡ length net.regs.items = sym (length-map a.holds length) ∙ ap length st.shaped
        ∙ length-map net.regs.items (λ reg. reg.width) in
        subst (λ m. IsRoute m path) (sym k) route

    pub lands : (kept : LastScan) → put_chain path (played kept x).tdi a.holds ≡ after
    lands kept =
        ap (λ o. put_chain path (unwrap_or o kept.tdi) a.holds)
        (p.tdi ∙ ap (λ q. Some (chain q after)) on_path)
        ∙ put_chain-to path a.holds after here_route differ

    same_played : played a.dr x ≡ played no_scan x
    same_played = played_whole a.dr no_scan x (whole_scan x p.written)

    abbrev quiet : Bool
    quiet = is_empty (changed net path a.holds after) && not (list_any is_some es)

    abbrev outcome : Bool → Result State Cause
    outcome q = elim q [
      | true ↦ ok (scanned net device a x after a.readings a.left)
      | false ↦ do_due net device a x after
    ]

    abbrev tests : Holds → Result State Cause
    tests now =
        need (x.len == length (chain path a.holds)) Length
        (need (list_all (has_row now) net.muxes.items) Select
        (elim (is_empty (changed net path a.holds now) && not (list_any is_some es))
        [ true ↦ ok (scanned net device a x now a.readings a.left) | false ↦ do_due net device a x now ]))

    all_rows : list_all (has_row after) net.muxes.items ≡ true
    all_rows = all_have_rows net after (subst (AreListed net) (lands no_scan) listed)

    pub reached : (q : Bool) → quiet ≡ q → step net device a (SDR x) ≡ outcome q
    reached q e =
        ap (λ t. elim t [ true ↦ scan net device a x | false ↦ pass net device a x ]) st.linked
        ∙ ap tests (lands a.dr)
        ∙ need_is (x.len == length (chain path a.holds)) Length _
        (ap (λ m. m == length (chain path a.holds)) long ∙ number_self (length (chain path a.holds)))
        ∙ need_is (list_all (has_row after) net.muxes.items) Select _ all_rows
        ∙ ap outcome e

    -- nothing that is seen changes: the same is left
    quiet_stands : SameData net after a.holds → Stands (scanned net device a x after a.readings a.left) left
    quiet_stands s =
        record {
          linked = st.linked;
          rest = refl;
          shaped = differ.shapes ∙ st.shaped;
          front = st.front;
          waits = st.waits;
          redundant = all_redundant_same net a.holds after st.front s st.redundant;
        }

  pub record Steps (a : State) (c : SeenCommand) (after : Holds) (left : List Work) : Type 0 where
    pub to : State
    pub steps : step net device a c ≡ ok to
    pub stands : Stands to left
    pub holds : to.holds ≡ after

  pub opening_steps : (a : State) (x : SeenScan) (next : Holds) (left : List Work)
      → Stands a left → IsOpening net a.holds next x
      → AreListed net (following_scan net a.holds x) → Steps a (SDR x) next left
  opening_steps a x next left st o listed =
      let d : DifferOn o.scans.path a.holds next =
      record { shapes = o.widths; off = λ r m. o.off_path r (not_contained o.scans.path r m) } in
      let same : SameData net next a.holds = o.data_stays in
      let still = unchanged net (route_of net a.holds) a.holds next same in
      let none : list_any is_some (played a.dr x).expects
      ≡ false = ap (λ t. list_any is_some (expected x.len t (mask_now a.dr x)))
      (no_bits x.tdo o.quiet) ∙ none_expected x.len in
      let quiet = and_from _ _ still (not_from_false _ none) in
      record {
        to = scanned net device a x next a.readings a.left;
        steps = reached a x next left st o.scans d
            listed true quiet;
        stands = quiet_stands a x next left st o.scans d listed same;
        holds = refl;
      }

  pub opening_lands : (a : State) (x : SeenScan) (next : Holds) (left : List Work)
      → Stands a left → IsOpening net a.holds next x
      → AreListed net (following_scan net a.holds x) → following_scan net a.holds x ≡ next
  opening_lands a x next left st o listed =
      let d : DifferOn o.scans.path a.holds next =
      record { shapes = o.widths; off = λ r m. o.off_path r (not_contained o.scans.path r m) } in
      lands a x next left st o.scans d listed no_scan

  -- ---- the scan of a group

  module _ (a : State) (g : SeenGroup) (x : SeenScan) (left : List Work) (st : Stands a (Group g ∷ left))
      (v : IsGroup net g) (p : IsGroupScan net a.holds g x)
      (listed : AreListed net (following_scan net a.holds x)) where
    abbrev h : Holds
    h = a.holds

    abbrev after : Holds
    after = write_all h g.writes

    abbrev along : List ℕ
    along = route_of net h

    abbrev expects : List (Option Bool)
    expects = (played a.dr x).expects

    d : DifferOn p.scans.path h after
    d =
        let on : (r : ℕ) → Contains (map (λ w. w.bit.reg) g.writes) r → Contains p.scans.path r =
        λ r c. All-contains (Contains p.scans.path) (registers_of g) r p.on_path
        (Contains-append_left (map (λ w. w.bit.reg) g.writes) (map (λ r. r.bit.reg) g.reads) r c) in
        record {
          shapes = write_all-shape g.writes h;
          off = λ r m. write_all-off g.writes h r (λ c. not_contained p.scans.path r m (on r c));
        }

    on_along : p.scans.path ≡ along
    on_along = on_path a x after (Group g ∷ left) st p.scans d listed

    -- written bits have their values
    given : (y : WriteBit) → Contains g.writes y → hold_at after y.bit ≡ y.value
    given y c =
        let there = (All-contains (λ (w : WriteBit). IsDataBit net w.bit) g.writes y v.written c).there in
        write_all-at g.writes h y v.written_once c (subst (λ ns. IsHeld ns y.bit) (sym st.shaped) there)

    all_given : list_all (has_value after) g.writes ≡ true
    all_given = all_from (has_value after) g.writes
        (λ y c. ap (λ b. same_bit b y.value) (given y c) ∙ same_self y.value)

    -- a bit that isn't written stays
    writes_tell : (b : BitId) → (is_written g.writes b ≡ true) ⊎ (hold_at after b ≡ hold_at h b)
    writes_tell b =
        ⊎_elim (λ t. inl t) (λ t. inr (write_all-other g.writes h b (λ c.
        let (y, k, q) = mapped (λ (w : WriteBit). w.bit) g.writes b c in
        not_both (is_written g.writes b) (any_from (λ (w : WriteBit). same_place w.bit b) g.writes y k
        (ap (λ z. same_place z b) (sym q) ∙ place_self b)) t))) (cases_Bool (is_written g.writes b))

    changed_written : (b : BitId) → Contains (changed net along h after) b → is_written g.writes b ≡ true
    changed_written b c =
        let test : BitId
        → Bool = λ b. not (is_select net b) && not (same_bit (hold_at after b) (hold_at h b)) in
        let parts = and_parts (not (is_select net b)) (not (same_bit (hold_at after b) (hold_at h b)))
        (passed_in test (bits_on h along) b c).1 in
        ⊎_elim (λ t. t) (λ s. absurd (not_both (not (same_bit (hold_at after b) (hold_at h b))) parts.1
        (not_from_true (same_bit (hold_at after b) (hold_at h b))
        (ap (λ z. same_bit z (hold_at h b)) s ∙ same_self (hold_at h b))))) (writes_tell b)

    writes_pass : does_writes g (changed net along h after) after ≡ true
    writes_pass =
        and_from (list_all (is_written g.writes) (changed net along h after)) (list_all (has_value after)
        g.writes) (all_from (is_written g.writes) (changed net along h after) changed_written) all_given

    -- what is expected
    expects_are : ExpectsReads along h g.reads expects
    expects_are =
        let same : (played no_scan x).expects ≡ expects = ap (λ (y : Played). y.expects)
        (sym (same_played a x after (Group g ∷ left) st p.scans d listed)) in
        subst (ExpectsReads along h g.reads) same
        (subst (λ q. ExpectsReads q h g.reads (played no_scan x).expects) on_along p.expects)

    abbrev asked : List (Option Bool)
    asked = map (expected_of g.reads) (bits_on h along)

    stand : (r : ReadBit) → Contains g.reads r → StandsOn h along r.bit
    stand r c =
        let named = Contains-append_right (map (λ w. w.bit.reg) g.writes) (map (λ r. r.bit.reg) g.reads)
        r.bit.reg (is_mapped (λ (r : ReadBit). r.bit.reg) g.reads r r.bit.reg c refl) in
        let on = All-contains (Contains p.scans.path) (registers_of g) r.bit.reg p.on_path named in
        let there = All-contains (λ (r : ReadBit). IsDataBit net r.bit) g.reads r v.read c in
        record {
          on = contained_in along r.bit.reg (subst (λ q. Contains q r.bit.reg) on_along on);
          there = in_width net h r.bit st.shaped there.there;
        }

    abbrev bit_on : ℕ → BitId
    bit_on k = get_or (bits_on h along) k (record { reg = 0; pos = 0 })

    along_route : IsRoute (length net.regs.items) along
    along_route = route a x after (Group g ∷ left) st p.scans d listed

    each_asked : (k : ℕ) → k < length (bits_on h along) → (o : Option Bool)
        → get_or expects k None ≡ o → o ≡ expected_of g.reads (bit_on k)
    each_asked k l (Some e) q =
        let (r, c, at, y) = expects_are.compared k e q in
        sym (ap (expected_of g.reads) (ap (λ n. get_or (bits_on h along) n (record { reg = 0; pos = 0 }))
        (sym at) ∙ place_at h along r.bit (record { reg = 0; pos = 0 }) (stand r c))
        ∙ expected_at g.reads r v.read_once c ∙ ap Some y)
    each_asked k l None q = none_asked (expected_of g.reads (bit_on k)) refl
      where
        none_asked : (o : Option Bool) → expected_of g.reads (bit_on k) ≡ o → None ≡ o
        none_asked None z = refl
        none_asked (Some e) z =
            let (r, c, b, y) = expected_from g.reads (bit_on k) e z in
            let place = at_place h (length net.regs.items) along k (record { reg = 0; pos = 0 }) along_route
            (omega (arith, l, length-bits_on h along)) in
            absurd (none-some r.expect (sym q ∙ ap (λ n. get_or expects n None)
            (sym (ap (position along h) b ∙ place.1)) ∙ expects_are.read r c))

    expects_is : expects ≡ asked
    expects_is =
        let wide : length expects ≡ length (bits_on h along) =
        length-expected x.len x.tdo (mask_now a.dr x) p.scans.written.tdo
        ∙ long a x after (Group g ∷ left) st p.scans d listed ∙ sym (length-bits_on h along) in
        let same : length expects ≡ length asked =
        wide ∙ sym (length-map (bits_on h along) (expected_of g.reads)) in
        ext_get_or None expects asked same (λ k l. let m : k
        < length (bits_on h along) = omega (arith, l, wide) in each_asked k m (get_or expects k None) refl
        ∙ sym (get_or-map (expected_of g.reads) (bits_on h along) k (record { reg = 0; pos = 0 }) None m))

    reads_pass : does_reads g along h expects ≡ true
    reads_pass =
        let there : (r : ReadBit) → Contains g.reads r → list_any (λ z. z == r.bit.reg) along ≡ true =
        λ r c. any_from (λ z. z == r.bit.reg) along r.bit.reg (subst (λ q. Contains q r.bit.reg) on_along
        (All-contains (Contains p.scans.path) (registers_of g) r.bit.reg p.on_path
        (Contains-append_right (map (λ w. w.bit.reg) g.writes) (map (λ r. r.bit.reg) g.reads) r.bit.reg
        (is_mapped (λ (r : ReadBit). r.bit.reg) g.reads r r.bit.reg c refl)))) (number_self r.bit.reg) in
        and_from (same_expects expects asked)
        (list_all (λ (r : ReadBit). list_any (λ z. z == r.bit.reg) along) g.reads)
        (ap (λ l. same_expects l asked) expects_is ∙ lists_self asked)
        (all_from (λ (r : ReadBit). list_any (λ z. z == r.bit.reg) along) g.reads there)

    -- where nothing is compared there are no reads
    no_reads : list_any is_some expects ≡ false → is_empty g.reads ≡ true
    no_reads q = none_read g.reads (λ r c. c)
      where
        none_read : (rs : List ReadBit)
            → ((r : ReadBit) → Contains rs r → Contains g.reads r) → is_empty rs ≡ true
        none_read [] f = refl
        none_read (r ∷ rs) f =
            let e = expects_are.read r (f r (first_in r rs)) in
            let k = position along h r.bit in
            let l : k < length expects =
            ⊎_elim (λ z. z) (λ z. absurd (none-some r.expect (sym (get_or_past expects k None z) ∙ e)))
            (cases_lt k (length expects)) in
            absurd (not_both (list_any is_some expects) (any_from is_some expects (get_or expects k None)
            (Contains-get_or expects k None l) (ap is_some e)) q)

    -- without reads nothing is compared
    none_compared : is_empty g.reads ≡ true → list_any is_some expects ≡ false
    none_compared e =
        let no : is_some x.tdo ≡ false = p.compared ∙ not_from_true (is_empty g.reads) e in
        ap (λ t. list_any is_some (expected x.len t (mask_now a.dr x)))
        (no_bits x.tdo (no_bits_is x.tdo no)) ∙ none_expected x.len
      where
        no_bits_is : (o : Option (List Bool)) → is_some o ≡ false → IsNone o
        no_bits_is None q = refl
        no_bits_is (Some z) q = absurd (true≢false q)

    abbrev still : Bool
    still = is_empty (changed net along h after) && not (list_any is_some expects)

    -- a group that is redundant is still to be dropped after its scan
    still_steps : still ≡ true → Steps a (SDR x) after left
    still_steps q =
        let parts = and_parts (is_empty (changed net along h after)) (not (list_any is_some expects)) q in
        let dd = differ a x after (Group g ∷ left) st p.scans d listed in
        let same : SameData net after h = none_changed net along h after dd.shapes dd.off parts.0 in
        let none : list_any is_some expects ≡ false = not_true_false (list_any is_some expects) parts.1 in
        let redundant : IsRedundant net after (Group g) = (
          and_from (is_empty g.reads)
              (list_all (has_value after) g.writes) (no_reads none) all_given,
          v,
        ) in
        let front : List Work = st.front ++ Group g ∷ [] in
        let stands : Stands (scanned net device a x after a.readings a.left) left =
        record {
          linked = st.linked;
          rest = refl;
          shaped = dd.shapes ∙ st.shaped;
          front = front;
          waits =
              st.waits ∙ sym (append_assoc st.front (Group g ∷ []) left);
          redundant = All-append (IsRedundant
              net after) st.front (Group g ∷ []) (all_redundant_same net h after st.front same st.redundant)
              (All-cons (IsRedundant net after) (Group g) [] redundant (All-nil (IsRedundant net after)));
        } in
        record {
          to = scanned net device a x after a.readings a.left;
          steps =
              reached a x after (Group g ∷ left) st p.scans d listed true q;
          stands = stands;
          holds = refl;
        }
      where
        not_true_false : (t : Bool) → not t ≡ true → t ≡ false
        not_true_false true e = absurd (true≢false (sym e))
        not_true_false false e = refl

    -- a group that isn't redundant is due
    not_redundant : still ≡ false → is_redundant h (Group g) ≡ true → ⊥
    not_redundant q t =
        let both = and_parts (is_empty g.reads) (list_all (has_value h) g.writes) t in
        let same : SameData net after h =
        λ b z. ⊎_elim (λ m. let (y, k, e) = any_of (λ (w : WriteBit). same_place w.bit b) g.writes m in
        let is = place_is y.bit b e in ap (hold_at after) (sym is) ∙ given y k
        ∙ sym (same_bits (hold_at h y.bit) y.value (all_of (has_value h) g.writes both.1 y k))
        ∙ ap (hold_at h) is) (λ s. s) (writes_tell b) in
        not_both still (and_from (is_empty (changed net along h after))
        (not (list_any is_some expects)) (unchanged net along h after same)
        (not_from_false (list_any is_some expects) (none_compared both.0))) q

    its_due : still ≡ false → due h a.left ≡ Group g ∷ left
    its_due q =
        ap (due h) st.waits
        ∙ due_after net h st.front (Group g ∷ left) st.redundant
        ∙ ap (λ t. elim t [ true ↦ due h left | false ↦ Group g ∷ left ])
        (false_from_ne_true (is_redundant h (Group g)) (not_redundant q))

    done_steps : still ≡ false → Steps a (SDR x) after left
    done_steps q =
        let to : State = scanned net device a x after (note a g) left in
        let dd = differ a x after (Group g ∷ left) st p.scans d listed in
        let stands : Stands to left = record {
          linked = st.linked;
          rest = refl;
          shaped =
              dd.shapes ∙ st.shaped;
          front = [];
          waits = refl;
          redundant = All-nil (IsRedundant net after);
        } in
        let goes : do_due net device a x after ≡ ok to = ap (λ w. need_some (group_first w) Step
        (λ next. need (does_writes next.0 (changed net along h after) after) Write (need (does_reads
        next.0 along h expects) Read (ok (scanned net device a x after (note a next.0) next.1)))))
        (its_due q) ∙ need_is _ Write _ writes_pass ∙ need_is _ Read _ reads_pass in
        record {
          to = to;
          steps = reached a x after (Group g ∷ left) st p.scans d listed false q ∙ goes;
          stands = stands;
          holds = refl;
        }

    pub group_steps : Steps a (SDR x) after left
    group_steps = ⊎_elim still_steps done_steps (cases_Bool still)

    pub group_lands : following_scan net h x ≡ after
    group_lands = lands a x after (Group g ∷ left) st p.scans d listed no_scan
