-- Bits of things side by side.
use Rattle.std.proofs.Common.{◌≡◌, ◌<◌, ◌≤◌, ◌+◌, ◌++◌, ◌∷◌, [], ℕ, zero, suc, Bool, true, false, List, Some}
use Rattle.std.proofs.Common.{map, take}
use Rattle.std.proofs.Common.{length, get_or, refl, sym, ap, ◌∙◌, arith}
use Rattle.std.specs.List.{range_with_len}
use Rattle.std.proofs.lemmas.List.{append-nil, append_assoc, map_more}
use Rattle.std.proofs.lemmas.List.FromFn.{map-range_with_len_more}
use Rattle.std.proofs.lemmas.Bool.{true≢false}
use Rattle.icl_elab.specs.WellFormed.{is_register}
use Rattle.icl_references.specs.declared.hier.Ref.{Ref}
use Rattle.icl_references.specs.declared.hier.Ref.TheVariants.{Bit}
use Rattle.icl_references.specs.RefRuns.{ref_after}
use Rattle.icl_references.specs.Roles.{Role, ScanInput, ScanOutput, DataInput, DataOutput, ControlPort}
use Rattle.icl_references.specs.Roles.{AScanRegister, AScanMux, AnAliasOf, AnInstance, AnInterfaceOf}
use Rattle.icl_references.specs.Roles.{AnAccessLink}
use Rattle.icl_references.specs.Roles.{CellOf, PartOf, part_at}
use Rattle.net_graph.specs.declared.net.Sig.{Sig}
use Rattle.ij_text.specs.declared.Place.{Place}
use Rattle.net_graph.specs.declared.net.Spot.TheVariants.{Held, Outward}
use Rattle.net_graph.specs.SpotRuns.{sig_after, spot_after}
use Rattle.icl_signals.specs.declared.wires.Wire.{Wire}
use Rattle.icl_signals.specs.declared.wires.Driver.TheVariants.{Another, ARegisterBit, AMuxOutput}
use Rattle.icl_signals.specs.declared.wires.Driver.TheVariants.{AnInstrumentOutput, TheEntry, AFreeInput}
use Rattle.icl_signals.specs.declared.wires.Driver.TheVariants.{NothingAtAll}
use Rattle.icl_signals.specs.declared.wires.End.{End}
use Rattle.icl_signals.specs.declared.wires.End.TheVariants.{AtConstant, AtBit, InLoop}
use Rattle.icl_signals.specs.Alike.{end_after, data_spot}
use Rattle.icl_signals.specs.Connecting.{constant, data_end, or_absent, register_bit, signal_from, spot_by}
use Rattle.icl_signals.specs.Connecting.{spot_in}
use Rattle.icl_signals.specs.Connecting.{spot_of}
use Rattle.icl_signals.specs.Traces.{trace}

constant_stays : (k : ℕ) (b : Bool) → constant b ≡ sig_after k (constant b)
constant_stays k true = refl
constant_stays k false = refl

module _ (cells : List CellOf) where
  pub signals_beside : (at : Place) (k : ℕ) (e : End)
      → or_absent (data_end cells at (end_after k e)) ≡ sig_after k (or_absent (data_end cells at e))
  signals_beside at k (AtConstant b) = constant_stays k b
  signals_beside at k (AtBit w i (Another r)) = refl
  signals_beside at k (AtBit w i ARegisterBit) = refl
  signals_beside at k (AtBit w i AMuxOutput) = refl
  signals_beside at k (AtBit w i AnInstrumentOutput) = refl
  signals_beside at k (AtBit w i TheEntry) = refl
  signals_beside at k (AtBit w i AFreeInput) = constant_stays k i
  signals_beside at k (AtBit w i NothingAtAll) = refl
  signals_beside at k InLoop = refl

  module _ (entry : Wire) where
    held : (p : PartOf) (w : Wire) (r : Ref) (role : Role) → is_register role ≡ true
        → spot_by cells entry p w r role ≡ Held (register_bit cells w)
    held p w r (AScanRegister scan capture reset) e = refl
    held p w r (ScanInput b) e = absurd (true≢false (sym e))
    held p w r (ScanOutput s) e = absurd (true≢false (sym e))
    held p w r (DataInput b) e = absurd (true≢false (sym e))
    held p w r (DataOutput s) e = absurd (true≢false (sym e))
    held p w r ControlPort e = absurd (true≢false (sym e))
    held p w r (AScanMux s rows) e = absurd (true≢false (sym e))
    held p w r (AnAliasOf refs) e = absurd (true≢false (sym e))
    held p w r (AnInstance c) e = absurd (true≢false (sym e))
    held p w r (AnInterfaceOf ports) e = absurd (true≢false (sym e))
    held p w r (AnAccessLink is) e = absurd (true≢false (sym e))

    data_part : (p : PartOf) (w : Wire) (r : Ref) (role : Role) → is_register role ≡ false
        → spot_by cells entry p w r role ≡ data_spot role (signal_from cells entry p r)
    data_part p w r (AScanRegister scan capture reset) e = absurd (true≢false e)
    data_part p w r (ScanInput b) e = refl
    data_part p w r (ScanOutput s) e = refl
    data_part p w r (DataInput b) e = refl
    data_part p w r (DataOutput s) e = refl
    data_part p w r ControlPort e = refl
    data_part p w r (AScanMux s rows) e = refl
    data_part p w r (AnAliasOf refs) e = refl
    data_part p w r (AnInstance c) e = refl
    data_part p w r (AnInterfaceOf ports) e = refl
    data_part p w r (AnAccessLink is) e = refl

    data_beside : (k : ℕ) (role : Role) (s : Sig) → data_spot role (sig_after k s) ≡ spot_after k (data_spot
        role s)
    data_beside k (AScanRegister scan capture reset) s = refl
    data_beside k (ScanInput b) s = refl
    data_beside k (ScanOutput s) t = refl
    data_beside k (DataInput b) s = refl
    data_beside k (DataOutput s) t = refl
    data_beside k ControlPort s = refl
    data_beside k (AScanMux t rows) s = refl
    data_beside k (AnAliasOf refs) s = refl
    data_beside k (AnInstance c) s = refl
    data_beside k (AnInterfaceOf ports) s = refl
    data_beside k (AnAccessLink is) s = refl

    -- a bit beside one of a register
    pub registers_beside : (cell part pos : ℕ) (i : Bool) (p : PartOf) (k : ℕ) → part_at cells cell part ≡
        Some p
        → is_register p.role ≡ true → spot_of cells entry (ref_after k (Bit cell part pos i))
        ≡ spot_after k (Held (register_bit cells (record { cell = cell; part = part; pos = pos })))
    registers_beside cell part pos i p k at is =
        let w : Wire = record { cell = cell; part = part; pos = pos + k } in
        ap (spot_in cells entry w (Bit cell part (pos + k) i)) at
        ∙ held p w (Bit cell part (pos + k) i) p.role is

    -- a bit beside one of another part
    pub data_bits_beside : (cell part pos : ℕ) (i : Bool) (p : PartOf) (k : ℕ) (e : End)
        → part_at cells cell part ≡ Some p → is_register p.role ≡ false
        → trace cells entry (ref_after k (Bit cell part pos i)) ≡ end_after k e
        → spot_of cells entry (ref_after k (Bit cell part pos i))
        ≡ spot_after k (data_spot p.role (or_absent (data_end cells p.at e)))
    data_bits_beside cell part pos i p k e at is ends =
        let w : Wire = record { cell = cell; part = part; pos = pos + k } in
        let r = Bit cell part (pos + k) i in
        ap (spot_in cells entry w r) at ∙ data_part p w r p.role is
        ∙ ap (λ f. data_spot p.role (or_absent (data_end cells p.at f))) ends
        ∙ ap (data_spot p.role) (signals_beside p.at k e)
        ∙ data_beside k p.role (or_absent (data_end cells p.at e))

-- some more of a list that is looked at
pub more : {A B : Type 0} (f : A → B) (g : ℕ → B) (xs : List A) (pos n : ℕ) (any : A) → pos + n ≤ length xs
    → ((k : ℕ) → k < n → f (get_or xs (pos + k) any) ≡ g k)
    → map f (take (pos + n) xs) ≡ map f (take pos xs) ++ map g (range_with_len 0 n)
more f g xs pos zero any le h =
    let e : pos + 0 ≡ pos = omega arith in
    ap (λ i. map f (take i xs)) e ∙ sym (append-nil (map f (take pos xs)))
more f g xs pos (suc n) any le h =
    let one : pos + suc n ≡ pos + n + 1 = omega arith in
    let on : n + 1 ≡ suc n = omega arith in
    ap (λ i. map f (take i xs)) one ∙ map_more f xs (pos + n) any (omega (arith, le))
    ∙ ap (λ y. map f (take (pos + n) xs) ++ y ∷ []) (h n (omega arith))
    ∙ ap (λ l. l ++ g n ∷ []) (more f g xs pos n any (omega (arith, le)) (λ k lt. h k (omega (arith, lt))))
    ∙ append_assoc (map f (take pos xs)) (map g (range_with_len 0 n)) (g n ∷ [])
    ∙ ap (λ l. map f (take pos xs) ++ l) (sym (map-range_with_len_more g 0 n n (omega arith))
    ∙ ap (λ m. map g (range_with_len 0 m)) on)
