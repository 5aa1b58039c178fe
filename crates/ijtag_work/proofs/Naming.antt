-- Compares of reads at their places, and which read is named at each.
use Rattle.std.proofs.Common.{◌≡◌, ◌≢◌, ◌⊎◌, inl, inr, ℕ, zero, suc, ◌==◌, ◌&&◌, Bool, true, false, cond}
use Rattle.std.proofs.Common.{List, [], ◌∷◌, ◌++◌, drop, Some, refl, sym, ap, ◌∙◌, subst, arith, append_assoc}
use Rattle.std.specs.Prelude.{Contains, map}
use Rattle.std.proofs.lemmas.Bool.Decides.{eqb_tells}
use Rattle.std.proofs.lemmas.List.{append-nil, map-append}
use Rattle.ij_bits.specs.Different.{AreDifferent}
use Rattle.net_bench.specs.Playing.{Compare}
use Rattle.net_graph.specs.declared.step.ReadBit.{ReadBit}
use Rattle.headline.specs.ReadPlaces.{place}
use Rattle.headline.proofs.Comparing.{is_mapped}
use Rattle.run_report.specs.Places.{read_at}
use Rattle.run_report.specs.declared.place.ReadPlace.{ReadPlace}
use Rattle.ijtag_work.specs.Naming.{compare_at, compares_at, IsNamed}
use Rattle.ij_bits.proofs.Tests.{number_self}
use Rattle.ij_bits.proofs.Contained.{none_in}
use Rattle.ij_bits.proofs.Lists.{no_head}

abbrev pub Read : Type 0
Read = ReadBit × Bool

abbrev pub reads_placed : List ReadPlace → List ReadBit
reads_placed ps = map (λ p. p.read) ps

abbrev pub reads_found : List Read → List ReadBit
reads_found rs = map (λ r. r.0) rs

first_is : (r t : ReadBit) (rs ts : List ReadBit) → r ∷ rs ≡ t ∷ ts → r ≡ t
first_is r t rs ts e = cc

-- ---- reads that are added to earlier ones

pub at_both : (ps qs : List ReadPlace) (rs ts : List Read) → reads_placed ps ≡ reads_found rs
    → compares_at (ps ++ qs) (rs ++ ts) ≡ compares_at ps rs ++ compares_at qs ts
at_both [] qs [] ts e = refl
at_both [] qs (r ∷ rs) ts e = absurd (no_head r.0 (reads_found rs) e)
at_both (p ∷ ps) qs [] ts e = absurd (no_head p.read (reads_placed ps) (sym e))
at_both (p ∷ ps) qs (r ∷ rs) ts e = ap (λ cs. compare_at p r ∷ cs) (at_both ps qs rs ts (ap (drop 1) e))

-- compares, and the places of the reads that are compared, which are added to some
pub record AreAdded (cs : List Compare) (ps : List ReadPlace) (before after : List Read) : Type 0 where
  pub new : List Read
  pub reads : after ≡ before ++ new
  pub in_order : reads_placed ps ≡ reads_found new
  pub compares : cs ≡ compares_at ps new

pub added_none : (rs : List Read) → AreAdded [] [] rs rs
added_none rs = record { new = []; reads = sym (append-nil rs); in_order = refl; compares = refl }

pub added_both : (cs ds : List Compare) (ps qs : List ReadPlace) (a b c : List Read) → AreAdded cs ps a b
    → AreAdded ds qs b c → AreAdded (cs ++ ds) (ps ++ qs) a c
added_both cs ds ps qs a b c v w =
    record {
      new = v.new ++ w.new;
      reads = w.reads ∙ ap (λ (rs : List Read). rs ++ w.new) v.reads ∙ append_assoc a v.new w.new;
      in_order = map-append (λ (p : ReadPlace). p.read) ps qs ∙ ap (λ xs. xs ++ reads_placed qs) v.in_order
          ∙ ap (λ xs. reads_found v.new ++ xs) w.in_order ∙ sym (map-append (λ (r : Read). r.0) v.new w.new);
      compares = ap (λ xs. xs ++ ds) v.compares ∙ ap (λ xs. compares_at ps v.new ++ xs) w.compares
          ∙ sym (at_both ps qs v.new w.new v.in_order);
    }

-- ---- the read that is named

here_test : (p : ReadPlace) → ((p.scan == p.scan) && (p.bit == p.bit)) ≡ true
here_test p = ap (λ t. t && (p.bit == p.bit)) (number_self p.scan) ∙ number_self p.bit

other_test : (p : ReadPlace) (scan bit : ℕ) → ¬ ((p.scan ≡ scan) × (p.bit ≡ bit))
    → ((p.scan == scan) && (p.bit == bit)) ≡ false
other_test p scan bit n = by (eqb_tells p.scan scan) (eqb_tells p.bit bit)
  where
    by : (((p.scan == scan) ≡ true) × (p.scan ≡ scan)) ⊎ (((p.scan == scan) ≡ false) × (p.scan ≢ scan))
        → (((p.bit == bit) ≡ true) × (p.bit ≡ bit)) ⊎ (((p.bit == bit) ≡ false) × (p.bit ≢ bit))
        → ((p.scan == scan) && (p.bit == bit)) ≡ false
    by (inl a) (inl b) = absurd (n (a.1, b.1))
    by (inl a) (inr b) = ap (λ t. t && (p.bit == bit)) a.0 ∙ b.0
    by (inr a) b = ap (λ t. t && (p.bit == bit)) a.0

named_first : (p : ReadPlace) (r : Read) (ps : List ReadPlace) (rs : List Read) → p.read ≡ r.0
    → IsNamed (p ∷ ps) (r ∷ rs) (compare_at p r)
named_first p r ps rs e =
    record {
      read = p.read;
      named = ap (λ t. cond t (Some p.read) (read_at ps p.scan p.bit)) (here_test p);
      expected = ap (λ (z : ReadBit). z.expect) e;
      index = 0;
      place = refl;
      found = ap (λ (z : ReadBit). Some (z, r.1)) (sym e);
    }

named_later : (p : ReadPlace) (r : Read) (ps : List ReadPlace) (rs : List Read) (c : Compare)
    → ¬ ((p.scan ≡ c.scan) × (p.bit ≡ c.bit)) → IsNamed ps rs c → IsNamed (p ∷ ps) (r ∷ rs) c
named_later p r ps rs c n v =
    record {
      read = v.read;
      named = ap (λ t. cond t (Some p.read) (read_at ps c.scan c.bit))
          (other_test p c.scan c.bit n) ∙ v.named;
      expected = v.expected;
      index = suc v.index;
      place = v.place;
      found = v.found;
    }

place_is : (a b c d : ℕ) → a ≡ c → b ≡ d → ◌≡◌ {A = ℕ × ℕ} (a, b) (c, d)
place_is a b c d e f = cc

-- where no two compares stand at one place
pub named_at : (ps : List ReadPlace) (rs : List Read) (c : Compare) → reads_placed ps ≡ reads_found rs
    → AreDifferent {A = ℕ × ℕ} (map place (compares_at ps rs))
    → Contains (compares_at ps rs) c → IsNamed ps rs c
named_at [] rs c e d m = absurd (none_in c m)
named_at (p ∷ ps) [] c e d m = absurd (none_in c m)
named_at (p ∷ ps) (r ∷ rs) c e d (zero, l, q) =
    subst (IsNamed (p ∷ ps) (r ∷ rs)) q
    (named_first p r ps rs (first_is p.read r.0 (reads_placed ps) (reads_found rs) e))
named_at (p ∷ ps) (r ∷ rs) c e d (suc k, l, q) =
    let m : Contains (compares_at ps rs) c = (k, omega (arith, l), q) in
    let apart : ¬ ((p.scan ≡ c.scan) × (p.bit ≡ c.bit)) = λ z. d.0 (is_mapped place (compares_at ps rs) c
    (place (compare_at p r)) m (place_is p.scan p.bit c.scan c.bit z.0 z.1)) in
    named_later p r ps rs c apart (named_at ps rs c (ap (drop 1) e) d.1 m)
