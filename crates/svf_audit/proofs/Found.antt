-- The active path of registers, where it is found and where it has taken TDI.
use Rattle.std.proofs.Common.{◌≡◌, ◌+◌, ◌<◌, ◌≤◌, ℕ, Bool, true, false, List, ◌++◌, ap, sym, ◌∙◌, subst}
use Rattle.std.proofs.Common.{arith, length, get_or, take, drop}
use Rattle.std.specs.Prelude.{map, All, slice_set}
use Rattle.std.specs.List.{list_all, list_any}
use Rattle.std.proofs.lemmas.List.{append-nil}
use Rattle.std.proofs.lemmas.List.Elements.{All-filter, All-weaker}
use Rattle.net_graph.specs.declared.net.BitId.{BitId}
use Rattle.net_graph.specs.Chain.{IsRoute, chain, put_chain}
use Rattle.net_graph.specs.Held.{set_hold, AreHolds, IsHeld}
use Rattle.net_graph.specs.Named.{IsBitOf}
use Rattle.net_graph.specs.Path.{is_select, same_place, route_of}
use Rattle.net_graph.specs.Signals.{Holds, hold_at}
use Rattle.net_graph.proofs.Chains.{chain-put_chain}
use Rattle.net_graph.proofs.Selecting.{is_held}
use Rattle.net_graph.proofs.Shapes.{put_chain-shape}
use Rattle.net_graph.proofs.Widths.{chain_fits}
use Rattle.svf_audit.specs.Audit.{bits_on, has_row}
use Rattle.svf_audit.specs.Registers.{differing, differs, path_in, to_move, AreFound, AreRegisters}
use Rattle.svf_audit.specs.Registers.{AreShifted, IsTurned}
use Rattle.svf_audit.specs.declared.registers.Registers.{Registers}
use Rattle.svf_audit.proofs.Moving.{bits_kept, moved_is, select_stays, stays, OthersSame}
use Rattle.svf_audit.proofs.Paths.{bits_of_net, length-bits_on}
use Rattle.svf_audit.proofs.Places.{first}
use Rattle.svf_audit.proofs.Steering.{path_same, rows_same}
use Rattle.svf_audit.proofs.Turning.{all_taken, none_left, set_on, take_both}
use Rattle.net_graph.proofs.Routes.{route_in}

pub holds_route : (r : Registers) → AreRegisters r → IsRoute (length r.holds) (path_in r)
holds_route r k = route_in r.net.now r.holds r.holds k.net k.holds

pub path_few : (r : Registers) → AreRegisters r → length (chain (path_in r) r.holds) ≤ 4096
path_few r k =
    omega (arith, chain_fits r.net.now (path_in r) r.holds k.holds (holds_route r k), k.net.bits_within_limit)

pub bits_count : (r : Registers) → AreFound r → length r.bits.items ≡ length (chain (path_in r) r.holds)
bits_count r f = ap length f.bits ∙ length-bits_on r.holds (path_in r)

pub bits_few : (r : Registers) → AreRegisters r → AreFound r → length r.bits.items ≤ 4096
bits_few r k f = omega (arith, bits_count r f, path_few r k)

pub shifted_shape : (r : Registers) → AreRegisters r → AreShifted r → AreHolds r.net.now r.after
shifted_shape r k s =
    ap (map length) s.after ∙ put_chain-shape (path_in r) r.chain.items r.holds s.fits ∙ k.holds

pub bits_there : (r : Registers) → AreRegisters r → AreFound r → All (IsBitOf r.net.now) r.bits.items
bits_there r k f =
    subst (All (IsBitOf r.net.now)) (sym f.bits) (bits_of_net r.net.now r.holds (path_in r) k.holds)

-- ---- where the path takes bits

pub turned_shape : (r : Registers) (tdi : List Bool) (k : ℕ) → IsTurned r tdi k → AreHolds r.net.now r.after
turned_shape r tdi k t =
    ap (map length) t.after ∙ put_chain-shape (path_in r) r.chain.items r.holds t.fits ∙ t.sound.holds

pub turned_long : (r : Registers) (tdi : List Bool) (k : ℕ) → IsTurned r tdi k
    → length r.bits.items ≡ length r.chain.items
turned_long r tdi k t = bits_count r t.found ∙ sym t.fits

pub turned_held : (r : Registers) (tdi : List Bool) (k i : ℕ) → IsTurned r tdi k → i < length r.chain.items
    → IsHeld r.after (get_or r.bits.items i first)
turned_held r tdi k i t l =
    is_held r.net.now r.after (get_or r.bits.items i first) (turned_shape r tdi k t)
    (bits_there r t.sound t.found i first (omega (arith, l, turned_long r tdi k t)))

pub turned_put : (r : Registers) (tdi : List Bool) (k i : ℕ) (v : Bool) → IsTurned r tdi k
    → i < length r.chain.items → set_hold r.after (get_or r.bits.items i first) v
    ≡ put_chain (path_in r) (slice_set r.chain.items i v) r.holds
turned_put r tdi k i v t l =
    ap (λ h. set_hold h (get_or r.bits.items i first) v) t.after
    ∙ ap (λ bs. set_hold (put_chain (path_in r) r.chain.items r.holds) (get_or bs i first) v) t.found.bits
    ∙ set_on r.holds (path_in r) r.chain.items i v (holds_route r t.sound) t.fits
    (length-bits_on r.holds (path_in r) ∙ sym t.fits) l

-- positions at which nothing changes
pub turned_skip : (r : Registers) (tdi : List Bool) (from n : ℕ)
    → IsTurned r tdi from → from + n ≤ length r.chain.items
    → take n (drop from r.chain.items) ≡ take n (drop from tdi) → IsTurned r tdi (from + n)
turned_skip r tdi from n t l e =
    record {
      sound = t.sound;
      found = t.found;
      fits = t.fits;
      long = t.long;
      after = t.after;
      done = take_both r.chain.items tdi from n t.done e l (omega (arith, l, t.long));
      room = omega (arith, t.room);
    }

-- after the last
pub turned_all : (r : Registers) (tdi : List Bool) (n : ℕ) → IsTurned r tdi n
    → n ≡ length r.chain.items → r.chain.items ≡ tdi
turned_all r tdi n t e =
    all_taken r.chain.items tdi (sym t.long) (subst (λ j. take j r.chain.items ≡ take j tdi) e t.done)

pub shifted_all : (r : Registers) (tdi : List Bool) (n : ℕ) → IsTurned r tdi n → n ≡ length r.chain.items
    → to_move r tdi n ≡ differing (bits_on r.holds (path_in r)) (chain (path_in r) r.holds) tdi → AreShifted r
shifted_all r tdi n t e m =
    let p = path_in r in
    record {
      fits = t.fits;
      after = t.after;
      moved = sym (ap (λ xs. r.moved.items ++ xs) (none_left r.bits.items r.chain.items tdi n
          (omega (arith, e, turned_long r tdi n t))) ∙ append-nil r.moved.items)
          ∙ m
          ∙ ap (differing (bits_on r.holds p) (chain p r.holds)) (sym (turned_all r tdi n t e))
          ∙ moved_is r.holds r.after p r.chain.items t.after t.fits (holds_route r t.sound);
    }

-- ---- where no bit that selects changes

pub select_stay : (r : Registers) → AreShifted r → list_any (is_select r.net.now) r.moved.items ≡ false
    → (b : BitId) → is_select r.net.now b ≡ true → hold_at r.holds b ≡ hold_at r.after b
select_stay r s e =
    select_stays r.holds r.after (path_in r) r.chain.items s.after s.fits r.net.now
    (ap (list_any (is_select r.net.now)) (sym s.moved) ∙ e)

pub rows_stay : (r : Registers) → AreShifted r → list_any (is_select r.net.now) r.moved.items ≡ false
    → list_all (has_row r.holds) r.net.now.muxes.items ≡ list_all (has_row r.after) r.net.now.muxes.items
rows_stay r s e = rows_same r.net.now r.holds r.after (select_stay r s e)

pub path_stays : (r : Registers) → AreShifted r → list_any (is_select r.net.now) r.moved.items ≡ false
    → path_in r ≡ route_of r.net.now r.after
path_stays r s e = path_same r.net.now r.holds r.after (select_stay r s e)

-- what was found is what is active after the update
pub ready_then : (r : Registers) (now : Holds) → AreRegisters r → AreFound r → AreShifted r
    → list_any (is_select r.net.now) r.moved.items ≡ false → now ≡ r.after
    → (r.path.items ≡ route_of r.net.now now) × (r.bits.items ≡ bits_on now (route_of r.net.now now))
    × (r.chain.items ≡ chain (route_of r.net.now now) now)
ready_then r now k f s e is =
    let stays = path_stays r s e in
    let there : path_in r ≡ route_of r.net.now now = stays ∙ ap (route_of r.net.now) (sym is) in (
      f.path ∙ there,
      f.bits
          ∙ bits_kept r.holds r.after (path_in r) r.chain.items s.after s.fits
          ∙ ap (λ h. bits_on h (path_in r)) (sym is)
          ∙ ap (bits_on now) there,
      sym (chain-put_chain (path_in r) r.chain.items r.holds (holds_route r k) s.fits)
          ∙ ap (chain (path_in r)) (sym s.after ∙ sym is)
          ∙ ap (λ p. chain p now) there,
    )

pub moved_there : (r : Registers) → AreRegisters r → AreShifted r → All (IsHeld r.after) r.moved.items
moved_there r k s =
    let bits = bits_on r.holds (path_in r) in
    let kept : All (IsBitOf r.net.now) r.moved.items =
    subst (All (IsBitOf r.net.now)) (sym s.moved) (All-filter (differs r.holds r.after)
    (IsBitOf r.net.now) bits (bits_of_net r.net.now r.holds (path_in r) k.holds)) in
    All-weaker (IsBitOf r.net.now) (IsHeld r.after)
    (λ b w. is_held r.net.now r.after b (shifted_shape r k s) w) r.moved.items kept

pub moved_others : (r : Registers) → AreShifted r → OthersSame r.holds r.after r.moved.items
moved_others r s b e =
    stays r.holds r.after (path_in r) r.chain.items s.after s.fits b
    (ap (list_any (same_place b)) (sym s.moved) ∙ e)
