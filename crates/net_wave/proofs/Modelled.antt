-- What models and networks say of the ports and words of instruments.
use Rattle.std.proofs.Common.{◌≡◌, ℕ, zero, suc, ◌<◌, ◌≤◌, All, List, [], ◌∷◌, length, map, get_or, refl, ap}
use Rattle.std.proofs.Common.{sym, ◌∙◌, subst, arith}
use Rattle.std.proofs.lemmas.List.{get_or-map, length-map}
use Rattle.std.proofs.lemmas.List.Elements.{All-cons, All-get_or, All-head, All-tail, All-nil}
use Rattle.instruments.specs.Driven.{IsDriven}
use Rattle.instruments.specs.Models.{IsModel, IsWord}
use Rattle.instruments.specs.Seen.{SeenModel, SeenWord, seen_model, seen_word}
use Rattle.instruments.specs.declared.model.Model.{Model}
use Rattle.instruments.specs.declared.model.WordDef.{WordDef}
use Rattle.net_graph.specs.declared.net.Inst.{Inst}
use Rattle.net_graph.specs.declared.net.Net.{Net}
use Rattle.net_graph.specs.declared.net.PortIn.{PortIn}
use Rattle.net_graph.specs.declared.net.Sig.{Sig}
use Rattle.net_graph.specs.declared.net.Sig.TheVariants.{Absent, Zero, One, Bit, Out}
use Rattle.net_graph.specs.Held.{AreHolds}
use Rattle.net_graph.specs.Named.{IsInputOf}
use Rattle.net_graph.specs.Nets.{IsInst, IsNet}
use Rattle.net_graph.specs.Signals.{Holds}
use Rattle.net_graph.proofs.Shapes.{length_at}
use Rattle.net_wave.specs.Values.{drivers}
use Rattle.net_wave.specs.Vars.{words_of}

pub words_is : (models : List Model) (i : ℕ) (m : Model) → i < length models → m ≡ get_or models i m
    → words_of (map seen_model models) i ≡ map seen_word m.words.items
words_is models i m h is =
    let there : i < length (map seen_model models) = omega (arith, h, length-map models seen_model) in
    get_or-map (λ (x : SeenModel). x.words) (map seen_model models) i (seen_model m) [] there
    ∙ ap (λ (x : SeenModel). x.words)
    (get_or-map seen_model models i m (seen_model m) h ∙ ap seen_model (sym is))

pub model_is : (models : List Model) (i : ℕ) (m : Model) → All (λ m. IsModel (seen_model m)) models
    → i < length models → m ≡ get_or models i m → IsModel (seen_model m)
model_is models i m all h is = subst (λ (x : Model). IsModel (seen_model x)) (sym is)
    (All-get_or (λ (x : Model). IsModel (seen_model x)) models i m h all)

pub words_narrow : (words : List WordDef)
    → All IsWord (map seen_word words) → All (λ word. word.width ≤ 64) words
words_narrow [] all = All-nil (λ (w : WordDef). w.width ≤ 64)
words_narrow (w ∷ ws) all =
    All-cons (λ (x : WordDef). x.width ≤ 64) w ws
    (All-head IsWord (seen_word w) (map seen_word ws) all).width.few
    (words_narrow ws (All-tail IsWord (seen_word w) (map seen_word ws) all))

pub word_field : {T : Type 0} (f : SeenWord
    → T) (words : List WordDef) (seen : List SeenWord) (k : ℕ) (d : WordDef) (e : T)
    → map seen_word words ≡ seen → k < length words → d ≡ get_or words k d
    → f (seen_word d) ≡ get_or (map f seen) k e
word_field f words seen k d e same h is =
    let there : k < length (map seen_word words) = omega (arith, h, length-map words seen_word) in
    ap (λ (x : WordDef). f (seen_word x)) is
    ∙ sym (get_or-map f (map seen_word words) k (seen_word d) e there
    ∙ ap f (get_or-map seen_word words k d (seen_word d) h))
    ∙ ap (λ (l : List SeenWord). get_or (map f l) k e) same

-- ---- inputs

abbrev Few : Net → List Sig → Type 0
Few net bits = (length bits ≤ 64) × All (IsInputOf net) bits

port_few : (net : Net) (ports : List PortIn) (p : ℕ)
    → All (λ port. (length port.bits.items ≤ 64) × All (IsInputOf net) port.bits.items) ports
    → Few net (get_or (map (λ port. port.bits.items) ports) p [])
port_few net [] p all = (omega arith, All-nil (IsInputOf net))
port_few net (x ∷ xs) zero all =
    All-head (λ (port : PortIn). (length port.bits.items ≤ 64) × All (IsInputOf net) port.bits.items) x xs all
port_few net (x ∷ xs) (suc p) all =
    port_few net xs p (All-tail (λ (port : PortIn). (length port.bits.items ≤ 64)
    × All (IsInputOf net) port.bits.items) x xs all)

inst_few : (net : Net) (insts : List Inst) (i p : ℕ) → All (IsInst net) insts
    → Few net
    (get_or (get_or (map (λ inst. map (λ port. port.bits.items) inst.ins.items) insts) i []) p [])
inst_few net [] i p all = (omega arith, All-nil (IsInputOf net))
inst_few net (x ∷ xs) zero p all = port_few net x.ins.items p (All-head (IsInst net) x xs all).inputs
inst_few net (x ∷ xs) (suc i) p all = inst_few net xs i p (All-tail (IsInst net) x xs all)

pub drivers_few : (net : Net) (i p : ℕ) → IsNet net → length (drivers net i p) ≤ 64
drivers_few net i p is = (inst_few net net.insts.items i p is.insts).0

driven : (net : Net) (holds : Holds) → AreHolds net holds → (s : Sig) → IsInputOf net s → IsDriven holds s
driven net holds held Absent h = absurd h
driven net holds held Zero h = tt
driven net holds held One h = tt
driven net holds held (Bit b inverted) h =
    let same = length_at holds b.reg ∙ ap (λ (ns : List ℕ). get_or ns b.reg 0) held in omega (arith, h, same)
driven net holds held (Out inst port pos inverted) h = absurd h

pub drivers_driven : (net : Net) (holds : Holds) (i p k : ℕ) (s : Sig) → IsNet net → AreHolds net holds
    → k < length (drivers net i p) → s ≡ get_or (drivers net i p) k s → IsDriven holds s
drivers_driven net holds i p k s is held h e =
    driven net holds held s (subst (IsInputOf net) (sym e)
    (All-get_or (IsInputOf net) (drivers net i p) k s h (inst_few net net.insts.items i p is.insts).1))

-- what is read at a place that is there doesn't depend on what else would be answered
same_sig : (xs : List Sig) (k : ℕ) (d e : Sig) → k < length xs → get_or xs k d ≡ get_or xs k e
same_sig [] k d e h = absurd (omega arith)
same_sig (x ∷ xs) zero d e h = refl
same_sig (x ∷ xs) (suc k) d e h = same_sig xs k d e (omega (arith, h))

module _ (net : Net) (holds : Holds) (i p : ℕ) (bits : List Sig)
    (same : bits ≡ drivers net i p) (k : ℕ) (h : k < length bits) where
  there : k < length (drivers net i p)
  there = subst (λ (l : List Sig). k < length l) same h

  pub driver_is : (d e : Sig) → get_or bits k d ≡ get_or (drivers net i p) k e
  driver_is d e = same_sig bits k d e h ∙ ap (λ (l : List Sig). get_or l k e) same

  pub driver_driven : (d : Sig) → IsNet net → AreHolds net holds → IsDriven holds (get_or bits k d)
  driver_driven d is held =
      drivers_driven net holds i p k (get_or bits k d) is held there (driver_is d (get_or bits k d))
