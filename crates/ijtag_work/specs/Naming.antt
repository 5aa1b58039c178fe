-- Where a play compares the reads of a procedure, and which read is named at a compare (IEEE 1687-2014, PDL
-- level 0: iRead; Serial Vector Format, revision E: TDO and MASK).
use Rattle.std.specs.Prelude.{◌≡◌, ◌↔◌, ℕ, Bool, List, [], ◌∷◌, map, Some, Contains, slice_get}
use Rattle.net_bench.specs.Playing.{Compare}
use Rattle.net_graph.specs.declared.step.ReadBit.{ReadBit}
use Rattle.run_report.specs.Places.{read_at}
use Rattle.run_report.specs.declared.place.ReadPlace.{ReadPlace}

-- the compare of a read at its place, with the value found
abbrev pub compare_at : ReadPlace → ReadBit × Bool → Compare
compare_at p r = record { scan = p.scan; bit = p.bit; expect = r.0.expect; found = r.1 }

-- the first read at the first place, the second one at the second, and so on
abbrev pub compares_at : List ReadPlace → List (ReadBit × Bool) → List Compare
compares_at [] rs = []
compares_at (p ∷ ps) [] = []
compares_at (p ∷ ps) (r ∷ rs) = compare_at p r ∷ compares_at ps rs

-- the places are those of the reads, in their order, and the reads are compared there, and nothing else is
pub record AreComparedAt (places : List ReadPlace) (reads : List (ReadBit × Bool))
    (compares : List Compare) : Type 0 where
  pub in_order : map (λ p. p.read) places ≡ map (λ r. r.0) reads
  pub compared : (c : Compare) → Contains compares c ↔ Contains (compares_at places reads) c

-- A compare, and the read that is named by its scan and position: the expectation is that of the read, and
-- the value found is the one that was found for this read, where the read at an index has the place at the
-- same index.
pub record IsNamed (places : List ReadPlace) (reads : List (ReadBit × Bool)) (c : Compare) : Type 0 where
  pub read : ReadBit
  pub named : read_at places c.scan c.bit ≡ Some read
  pub expected : read.expect ≡ c.expect
  pub index : ℕ
  pub place : slice_get places index ≡ Some (record { scan = c.scan; bit = c.bit; read = read })
  pub found : slice_get reads index ≡ Some (read, c.found)
