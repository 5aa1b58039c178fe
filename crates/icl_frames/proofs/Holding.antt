-- Every frame has what its module declares, and all are within the limits.
use Rattle.std.proofs.Common.{◌≡◌, ◌+◌, ◌<◌, ◌≤◌, ◌++◌, ℕ, zero, suc, Bool, true, false, ◌&&◌, ◌||◌, cond}
use Rattle.std.proofs.Common.{nat_lt, nat_le, List, [], ◌∷◌, length, sum_by, count_by, zip, Option, Some}
use Rattle.std.proofs.Common.{None, is_some, Ok, refl, sym, ap, subst, ◌∙◌, arith, length-append}
use Rattle.std.specs.List.{AllByRecursion, list_any}
use Rattle.std.proofs.lemmas.Bool.{ltb-false, leb-false}
use Rattle.std.proofs.lemmas.List.Sums.{sum_by_push}
use Rattle.ij_text.specs.declared.Which.TheVariants.{Cells, Instruments, Ports, PortBits}
use Rattle.icl_lexer.specs.Values.{SeenItem, SeenModule}
use Rattle.icl_declarations.specs.Faults.{refuse_if, over, Limit}
use Rattle.icl_declarations.specs.declared.counts.Counts.{Counts}
use Rattle.icl_declarations.specs.declared.ranges.Bounds.{Bounds}
use Rattle.icl_declarations.specs.Ranges.{width}
use Rattle.icl_declarations.specs.Parts.{port_that, is_data_in, is_data_out, is_data_port, is_instrument}
use Rattle.icl_declarations.specs.Parts.{block_named, parts_of}
use Rattle.icl_frames.specs.FirstPass.{Frame, Request, parameters, known_block, Passed, fold_items}
use Rattle.icl_frames.specs.FirstPass.{cell_counts}
use Rattle.icl_frames.specs.FirstPass.{Progress, Entered, cell_of_request, add_subtree, with_block}
use Rattle.icl_frames.specs.FirstPass.{nothing_entered}
use Rattle.icl_frames.specs.FirstPass.{first_pass}
use Rattle.icl_declarations.specs.Counting.{ports_over, has_wide_port, count_instrument}
use Rattle.icl_frames.specs.Laws.{is_instrument_frame, IsFrame, bits_in, muxes_in, AreFew, FramesAreDeclared}
use Rattle.icl_frames.specs.Laws.{FramesAreFew}
use Rattle.icl_frames.proofs.Answering.{both, ok_is, over_all}
use Rattle.icl_frames.proofs.Filling.{not_refused, filled}
use Rattle.ij_bits.proofs.Everywhere.{all_one}

-- ---- instruments

pub record ArePortsFew (block : SeenModule) (bounds : List Bounds) : Type 0 where
  pub inputs : count_by (λ item. port_that is_data_in item.what) block.items ≤ 16
  pub outputs : count_by (λ item. port_that is_data_out item.what) block.items ≤ 16
  pub widths : AllByRecursion (λ (p : SeenItem × Bounds). is_data_port p.0.what ≡ true
      → width p.1 ≤ 64) (zip (parts_of block) bounds)

no_wide : (ps : List (SeenItem × Bounds))
    → list_any (λ part. is_data_port part.0.what && nat_lt 64 (width part.1)) ps ≡ false
    → AllByRecursion (λ (p : SeenItem × Bounds). is_data_port p.0.what ≡ true → width p.1 ≤ 64) ps
no_wide [] h = tt
no_wide (p ∷ ps) h = by_test (is_data_port p.0.what) (nat_lt 64 (width p.1)) refl h (λ g. no_wide ps g)
  where
    by_test : (d w : Bool) → nat_lt 64 (width p.1) ≡ w → ((d && w) || list_any
        (λ (part : SeenItem × Bounds). is_data_port part.0.what && nat_lt 64 (width part.1)) ps) ≡ false
        → (list_any (λ (part : SeenItem × Bounds). is_data_port part.0.what && nat_lt 64 (width part.1)) ps
        ≡ false
        → AllByRecursion (λ (q : SeenItem × Bounds). is_data_port q.0.what ≡ true → width q.1 ≤ 64) ps)
        → (d ≡ true → width p.1 ≤ 64)
        × AllByRecursion (λ (q : SeenItem × Bounds). is_data_port q.0.what ≡ true → width q.1 ≤ 64) ps
    by_test true true e g again = absurd cc
    by_test true false e g again = (λ k. ltb-false 64 (width p.1) e, again g)
    by_test false w e g again = (λ k. absurd cc, again g)

-- what the last look at a cell adds, whose parent says whether it is an instrument
pub record IsFinished (instrument : Bool) (block : SeenModule) (s : Passed) (d : Counts) : Type 0 where
  pub bits : d.bits ≡ s.counts.bits
  pub muxes : d.muxes ≡ s.counts.muxes
  pub instruments : d.instruments ≡ s.counts.instruments + cond instrument 1 0
  pub few : s.counts.instruments ≤ 256 → d.instruments ≤ 256
  pub ports : instrument ≡ true → ArePortsFew block s.bounds

finished_so : (t : Bool) (block : SeenModule) (s : Passed) (d : Counts)
    → cond t (count_instrument block s.bounds s.counts) (Ok s.counts) ≡ Ok d → IsFinished t block s d
finished_so false block s d h = subst (IsFinished false block s) (ok_is s.counts d h)
    (record { bits = refl; muxes = refl; instruments = omega arith; few = λ k. k; ports = λ k. absurd cc })
finished_so true block s d h =
    let a = both (refuse_if (nat_le 256 s.counts.instruments) (Limit Instruments 256)) _ d h in
    let b = both (refuse_if (ports_over 16 (port_that is_data_in) block) (Limit Ports 16)) _ d a.then' in
    let c = both (refuse_if (ports_over 16 (port_that is_data_out) block) (Limit Ports 16)) _ d b.then' in
    let w = both (refuse_if (has_wide_port block s.bounds) (Limit PortBits 64)) _ d c.then' in
    let room = leb-false 256 s.counts.instruments
    (not_refused (nat_le 256 s.counts.instruments) (Limit Instruments 256) a.first a.is) in
    let ports : ArePortsFew block s.bounds = record {
      inputs = ltb-false 16 _
          (not_refused (ports_over 16 (port_that is_data_in) block) (Limit Ports 16) b.first b.is);
      outputs = ltb-false 16 _
          (not_refused (ports_over 16 (port_that is_data_out) block) (Limit Ports 16) c.first c.is);
      widths = no_wide (zip (parts_of block) s.bounds)
          (not_refused (has_wide_port block s.bounds) (Limit PortBits 64) w.first w.is);
    } in
    subst (IsFinished true block s)
    (ok_is (record s.counts { instruments = s.counts.instruments + 1 }) d w.then')
    (record {
      bits = refl;
      muxes = refl;
      instruments = refl;
      few = λ k. omega (arith, room);
      ports = λ k. ports;
    })

-- ---- one cell

-- the counts with one cell more
pub record IsOneCell (c : Counts) (e : Entered) : Type 0 where
  pub frame : IsFrame e.frame
  pub bits : e.counts.bits ≡ c.bits + bits_in e.frame
  pub muxes : e.counts.muxes ≡ c.muxes + muxes_in e.frame
  pub instruments : e.counts.instruments ≡ c.instruments + cond (is_instrument_frame e.frame) 1 0
  pub bits_within_limit : c.bits ≤ 4096 → e.counts.bits ≤ 4096
  pub few_muxes : c.muxes ≤ 1024 → e.counts.muxes ≤ 1024
  pub few_instruments : c.instruments ≤ 256 → e.counts.instruments ≤ 256

one_cell : (blocks : List SeenModule) (above : List (List ℕ)) (parent : Option ℕ) (c : Counts) (r : Request)
    (e : Entered) → cell_of_request blocks above parent c r ≡ Ok e → IsOneCell c e
unfolding cell_of_request
one_cell blocks above parent c r e h =
    let a = both (parameters r.given r.block) _ e h in
    let b = both (fold_items blocks above a.first c r.block) _ e a.then' in
    let d = both (cell_counts parent r.block b.first) _ e b.then' in
    let f = filled blocks above a.first c r.block b.first b.is in
    let g = finished_so (is_some parent && is_instrument r.block) r.block b.first d.first d.is in
    subst (IsOneCell c) (ok_is _ e d.then') (record {
      frame = record {
        bounds = f.bounded.declared_are;
        all = f.bounded.all;
        widths = f.bounded.widths;
        signals = f.signals;
        inner = f.inner;
        ports = λ k. record {
          inputs = (g.ports k).inputs;
          outputs =
              (g.ports k).outputs;
          widths = (g.ports k).widths;
        };
      };
      bits = g.bits ∙ f.bits;
      muxes = g.muxes ∙ f.muxes;
      instruments = g.instruments
          ∙ ap (λ n. n + cond (is_some parent && is_instrument r.block) 1 0) f.instruments;
      bits_within_limit = λ k. subst (λ n. n ≤ 4096) (sym g.bits) (f.bits_within_limit k);
      few_muxes = λ k. subst (λ n. n ≤ 1024) (sym g.muxes) (f.few_muxes k);
      few_instruments = λ k. g.few (subst (λ n. n ≤ 256) (sym f.instruments) k);
    })

-- ---- all cells

pub record AreHeld (s : Progress) : Type 0 where
  pub few : length s.frames ≤ 8192
  pub frames_are : AllByRecursion IsFrame s.frames
  pub bits : sum_by bits_in s.frames ≡ s.counts.bits
  pub muxes : sum_by muxes_in s.frames ≡ s.counts.muxes
  pub instruments : count_by is_instrument_frame s.frames ≡ s.counts.instruments
  pub bits_within_limit : s.counts.bits ≤ 4096
  pub few_muxes : s.counts.muxes ≤ 1024
  pub few_instruments : s.counts.instruments ≤ 256

one_more : (s : Progress) (e : Entered) → AreHeld s → length s.frames < 8192 → IsOneCell s.counts e
    → AreHeld (record { frames = s.frames ++ e.frame ∷ []; counts = e.counts })
one_more s e p room o = record {
  few = let long = length-append s.frames (e.frame ∷ []) in omega (arith, long, room);
  frames_are = all_one IsFrame s.frames e.frame p.frames_are o.frame;
  bits = sum_by_push bits_in s.frames e.frame ∙ ap (λ n. n + bits_in e.frame) p.bits ∙ sym o.bits;
  muxes = sum_by_push muxes_in s.frames e.frame ∙ ap (λ n. n + muxes_in e.frame) p.muxes ∙ sym o.muxes;
  instruments = sum_by_push (λ f. cond (is_instrument_frame f) 1 0) s.frames e.frame
      ∙ ap (λ n. n + cond (is_instrument_frame e.frame) 1 0) p.instruments ∙ sym o.instruments;
  bits_within_limit = o.bits_within_limit p.bits_within_limit;
  few_muxes = o.few_muxes p.few_muxes;
  few_instruments = o.few_instruments p.few_instruments;
}

held : (levels : ℕ) (blocks : List SeenModule) (above : List (List ℕ)) (parent : Option ℕ) (s t : Progress)
    (r : Request) → AreHeld s → add_subtree levels blocks above parent s r ≡ Ok t → AreHeld t
unfolding add_subtree
held zero blocks above parent s t r p h = absurd cc
held (suc levels) blocks above parent s t r p h =
    let a = both (refuse_if (nat_le 8192 (length s.frames)) (Limit Cells 8192)) _ t h in
    let b = both (cell_of_request blocks (r.block.name ∷ above) parent s.counts r) _ t a.then' in
    let room = leb-false 8192 (length s.frames)
    (not_refused (nat_le 8192 (length s.frames)) (Limit Cells 8192) a.first a.is) in
    let o = one_cell blocks (r.block.name ∷ above) parent s.counts r b.first b.is in
    over_all (add_subtree levels blocks (r.block.name ∷ above) (Some (length s.frames))) AreHeld
    (λ u v q g k. held levels blocks (r.block.name ∷ above) (Some (length s.frames)) u v q g k)
    (record { frames = s.frames ++ b.first.frame ∷ []; counts = b.first.counts }) t b.first.requests
    (one_more s b.first p room o) b.then'

all_held : (blocks : List SeenModule) (top : List ℕ) (frames : List Frame) → first_pass blocks top ≡ Ok frames
    → AllByRecursion IsFrame frames × AreFew frames
unfolding first_pass
all_held blocks top frames h =
    let a = both (over with_block [] blocks) _ frames h in
    let b = both (known_block top (block_named blocks top)) _ frames a.then' in
    let c = both (add_subtree 65 blocks [] None nothing_entered (record {
      name = [];
      block = b.first;
      given
          = [];
    }))
    _ frames b.then' in
    let none : AreHeld nothing_entered = record {
      few = omega arith;
      frames_are = tt;
      bits = refl;
      muxes = refl;
      instruments = refl;
      bits_within_limit = omega arith;
      few_muxes = omega arith;
      few_instruments = omega arith;
    } in
    let p = held 65 blocks [] None nothing_entered c.first
    (record { name = []; block = b.first; given = [] }) none c.is in
    subst (λ (fs : List Frame). AllByRecursion IsFrame fs × AreFew fs) (ok_is c.first.frames frames c.then') (
      p.frames_are,
      record {
        few_cells = p.few;
        bits_within_limit = subst (λ n. n ≤ 4096) (sym p.bits) p.bits_within_limit;
        few_muxes = subst (λ n. n ≤ 1024) (sym p.muxes) p.few_muxes;
        few_instruments = subst (λ n. n ≤ 256) (sym p.instruments) p.few_instruments;
      },
    )

pub frames_are_declared : FramesAreDeclared
frames_are_declared blocks top frames h = (all_held blocks top frames h).0

pub frames_are_few : FramesAreFew
frames_are_few blocks top frames h = (all_held blocks top frames h).1
