use Rattle.std.proofs.Common.{◌∙◌, sym, arith}
use Rattle.ij_bits.proofs.WordBits.{count_is, length-first_bits, written}
use Rattle.ij_bits.proofs.Marking.{marked_at}
use Rattle.ij_bits.proofs.bits.Bits.put_masked.Goals as goal

pub put_marked-requires-clause-within : goal.put_marked-requires-clause-within
put_marked-requires-clause-within c = omega (arith, count_is c.self.inside _ c.self.view_is)

pub put_marked-requires-clause-there : goal.put_marked-requires-clause-there
put_marked-requires-clause-there c = omega (arith, count_is c.value.inside _ c.value.view_is)

pub put_marked-requires-clause-marked : goal.put_marked-requires-clause-marked
put_marked-requires-clause-marked c = omega (arith, count_is c.care.inside _ c.care.view_is)

pub returns-clause-length : goal.returns-clause-length
returns-clause-length c = length-first_bits _ _ ∙ sym (count_is c.self.inside _ c.self.view_is)

pub returns-clause-items : goal.returns-clause-items
returns-clause-items c k below =
    let a = c.self.inside in
    let v = c.value.inside in
    let m = c.care.inside in
    let is = written a.words.items c.put_marked.new.words a.words.len (sym a.words.ok.0) (omega arith) in
    rw (← c.self.view_is, ← c.value.view_is, ← c.care.view_is, is) (marked_at c.put_marked.new.words
    a.words.items v.words.items m.words.items a.count v.count m.count c.min-n.result k
    c.deref_mut.ensures.value c.deref.ensures.value c.deref-2.ensures.value
    (omega (arith, count_is a _ c.self.view_is, count_is m _ c.care.view_is))
    (omega (arith, count_is v _ c.value.view_is, count_is m _ c.care.view_is))
    c.put_marked.ensures.front c.put_marked.ensures.following (omega (arith, count_is a _ c.self.view_is)))
