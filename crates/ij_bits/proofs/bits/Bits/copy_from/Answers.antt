use Rattle.std.proofs.Common.{◌≡◌, ◌∙◌, List, ℕ, ap, arith}
use Rattle.ij_bits.specs.Words.{first_bits}
use Rattle.ij_bits.proofs.WordBits.{count_is}
use Rattle.ij_bits.proofs.bits.Bits.copy_from.Goals as goal

pub copy_from_slice-requires : goal.copy_from_slice-requires
copy_from_slice-requires c =
    omega (arith, count_is c.self.inside _ c.self.view_is, count_is c.other.inside _ c.other.view_is)

pub returns-clause-items : goal.returns-clause-items
returns-clause-items c =
    let count : c.self.inside.count ≡ c.other.inside.count =
    omega (arith, count_is c.self.inside _ c.self.view_is, count_is c.other.inside _ c.other.view_is) in
    rw (← c.other.view_is) (ap (λ (ws : List ℕ). first_bits ws c.self.inside.count)
    (c.copy_from_slice.ensures.items ∙ c.deref.ensures.value)
    ∙ ap (first_bits c.other.inside.words.items) count)
