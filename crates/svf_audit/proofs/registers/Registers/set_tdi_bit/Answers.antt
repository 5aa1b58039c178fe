use Rattle.std.proofs.Common.{◌≡◌, ◌+◌, ◌<◌, ◌++◌, ◌∷◌, [], ap, sym, ◌∙◌, subst, arith, length, length-append}
use Rattle.std.proofs.Common.{get_or, take, drop, false, true}
use Rattle.std.proofs.lemmas.List.{length-set, take_more_same, get_or_default}
use Rattle.ij_bits.specs.BitLists.{same_bit}
use Rattle.net_graph.specs.Chain.{put_chain}
use Rattle.net_graph.specs.Held.{set_hold, IsHeld}
use Rattle.svf_audit.specs.LastParts.{seen_tdi}
use Rattle.svf_audit.specs.Registers.{differing, path_in}
use Rattle.svf_audit.proofs.Found.{turned_held, turned_long, turned_put}
use Rattle.svf_audit.proofs.Looking.{alike, equal, unlike}
use Rattle.svf_audit.proofs.Places.{first}
use Rattle.svf_audit.proofs.Turning.{moved_one, skips, taken_one}
use Rattle.svf_audit.proofs.registers.Registers.set_tdi_bit.Goals as goal

pub returns-then-get-value-clause-turned : goal.returns-then-get-value-clause-turned
returns-then-get-value-clause-turned c =
    let r = c.args.self.now in
    let k = c.args.k in
    let tdi = seen_tdi c.args.kept.now in
    let t = c.requires.turned in
    let here : get_or r.chain.items k false ≡ get_or tdi k false = sym c.get.ensures
    ∙ equal c.get.result c.tdi_at-value.result c.if-get-value.true ∙ c.tdi_at-value.ensures in
    record {
      sound = t.sound;
      found = t.found;
      fits = t.fits;
      long = t.long;
      after = t.after;
      done = take_more_same r.chain.items tdi k false c.requires.within
          (omega (arith, c.requires.within, t.long)) t.done here;
      room = omega (arith, t.room);
    }

pub returns-then-get-value-clause-moves : goal.returns-then-get-value-clause-moves
returns-then-get-value-clause-moves c =
    let r = c.args.self.now in
    let k = c.args.k in
    let tdi = seen_tdi c.args.kept.now in
    let t = c.requires.turned in
    let same : same_bit (get_or tdi k false) (get_or r.chain.items k false) ≡ true =
    ap (λ b. same_bit b (get_or r.chain.items k false)) (sym c.tdi_at-value.ensures)
    ∙ ap (same_bit c.tdi_at-value.result) (sym c.get.ensures)
    ∙ alike c.get.result c.tdi_at-value.result c.if-get-value.true in
    ap (λ xs. r.moved.items ++ xs)
    (sym (skips r.bits.items r.chain.items tdi k (omega (arith, c.requires.within, turned_long r tdi k t))
    c.requires.within (omega (arith, c.requires.within, t.long)) same))

pub index-bit-requires : goal.index-bit-requires
index-bit-requires c = omega (
  arith,
  c.requires.within,
  turned_long c.args.self.now (seen_tdi c.args.kept.now) c.args.k c.requires.turned,
)

pub tdi_at-value-requires : goal.tdi_at-value-requires
tdi_at-value-requires c = omega (arith, c.requires.within, c.requires.turned.long)

pub set-requires-2 : goal.set-requires-2
set-requires-2 c =
    let r = c.args.self.now in
    let k = c.args.k in
    let tdi = seen_tdi c.args.kept.now in
    let t = c.requires.turned in
    let inside : k < length r.bits.items = omega (arith, c.requires.within, turned_long r tdi k t) in
    let bit : c.index-bit.result.now ≡ get_or r.bits.items k first =
    c.index-bit.ensures ∙ get_or_default r.bits.items k c.index-bit.result.now first inside in
    subst (IsHeld r.after) (sym bit) (turned_held r tdi k k t c.requires.within)

pub returns-clause-turned : goal.returns-clause-turned
returns-clause-turned c =
    let r = c.args.self.now in
    let k = c.args.k in
    let v = c.tdi_at-value.result in
    let tdi = seen_tdi c.args.kept.now in
    let t = c.requires.turned in
    let inside : k < length r.bits.items = omega (arith, c.requires.within, turned_long r tdi k t) in
    let bit : c.index-bit.result.now ≡ get_or r.bits.items k first =
    c.index-bit.ensures ∙ get_or_default r.bits.items k c.index-bit.result.now first inside in
    record {
      sound = record {
        net = t.sound.net;
        selects = t.sound.selects;
        holds = t.sound.holds;
        path_room = t.sound.path_room;
        next_room = t.sound.next_room;
        bits_room = t.sound.bits_room;
        known = t.sound.known;
        chain_room = omega (
          arith,
          t.sound.chain_room,
          c.set.ensures.spare,
          ap length c.set.ensures.items,
          length-set r.chain.items k v,
        );
        moved_room = omega (
          arith,
          t.sound.moved_room,
          c.push_reserved.ensures.spare,
          ap length
              c.push_reserved.ensures.items,
          length-append r.moved.items (c.index-bit.result.now ∷ []),
        );
      };
      found = record { path = t.found.path; bits = t.found.bits };
      fits = ap length c.set.ensures.items ∙ length-set r.chain.items k v ∙ t.fits;
      long = t.long ∙ sym (ap length c.set.ensures.items ∙ length-set r.chain.items k v);
      after = c.set-2.ensures
          ∙ ap (λ b. set_hold r.after b v) bit
          ∙ turned_put r tdi k k v t c.requires.within
          ∙ ap (λ bs. put_chain (path_in r) bs r.holds) (sym c.set.ensures.items);
      done = ap (take (k + 1)) c.set.ensures.items ∙ taken_one r.chain.items tdi k v c.requires.within
          (omega (arith, c.requires.within, t.long)) c.tdi_at-value.ensures t.done;
      room = omega (
        arith,
        t.room,
        c.push_reserved.ensures.spare,
        ap length c.set.ensures.items,
        length-set r.chain.items k v,
      );
    }

pub returns-clause-moves : goal.returns-clause-moves
returns-clause-moves c =
    let r = c.args.self.now in
    let k = c.args.k in
    let v = c.tdi_at-value.result in
    let tdi = seen_tdi c.args.kept.now in
    let t = c.requires.turned in
    let inside : k < length r.bits.items = omega (arith, c.requires.within, turned_long r tdi k t) in
    let bit : c.index-bit.result.now ≡ get_or r.bits.items k first =
    c.index-bit.ensures ∙ get_or_default r.bits.items k c.index-bit.result.now first inside in
    let other : same_bit (get_or tdi k false) (get_or r.chain.items k false) ≡ false =
    ap (λ b. same_bit b (get_or r.chain.items k false)) (sym c.tdi_at-value.ensures)
    ∙ ap (same_bit v) (sym c.get.ensures) ∙ unlike c.get.result v c.if-get-value.false in
    ap (λ xs. xs ++ differing (drop (k + 1) r.bits.items) (drop (k + 1) c.set.new.self.items)
    (drop (k + 1) tdi)) c.push_reserved.ensures.items
    ∙ ap (λ xs. (r.moved.items ++ c.index-bit.result.now ∷ [])
    ++ differing (drop (k + 1) r.bits.items) (drop (k + 1) xs) (drop (k + 1) tdi)) c.set.ensures.items
    ∙ moved_one r.moved.items r.bits.items r.chain.items tdi k c.index-bit.result.now v bit inside
    c.requires.within (omega (arith, c.requires.within, t.long)) other

pub returns-clause-length : goal.returns-clause-length
returns-clause-length c = ap length c.set.ensures.items
    ∙ length-set c.args.self.now.chain.items c.args.k c.tdi_at-value.result
