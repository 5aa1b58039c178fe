use Rattle.std.proofs.Common.{◌≡◌, ◌+◌, ◌*◌, ◌≤◌, min, drop, length, sym, ap, ◌∙◌, arith}
use Rattle.std.proofs.lemmas.List.{drop_all}
use Rattle.ij_bits.specs.BitLists.{has_one}
use Rattle.svf_writer.specs.Lent.{lent}
use Rattle.svf_audit.specs.LastParts.{seen_last}
use Rattle.svf_audit.proofs.Looking.{any_compared, is_absent, is_there, mask_length, no_one_here}
use Rattle.svf_audit.proofs.Looking.{none_compared, one_here}
use Rattle.svf_audit.proofs.last_parts.compares_some.Goals as goal

pub returns-then-not-is_given : goal.returns-then-not-is_given
returns-then-not-is_given c =
    sym (none_compared c.args.kept.now.len c.args.tdo.now (seen_last c.args.kept.now).mask
    (is_absent c.is_given.result c.args.tdo.now c.is_given.ensures c.if-not-is_given.true))

pub returns-then-compares_one_of : goal.returns-then-compares_one_of
returns-then-compares_one_of c =
    let k = c.args.kept.now in
    let mask = (seen_last k).mask in
    let from = 64 * c.loop-word.word in
    let at : min from k.len ≡ from = omega arith in
    sym (
    any_compared k.len c.args.tdo.now mask c.requires.tdo
    (mask_length k.len (lent k.mask) c.requires.sound.mask)
    (is_there c.is_given.result c.args.tdo.now c.is_given.ensures c.if-not-is_given.false)
    ∙ sym c.loop-word.invariant
    ∙ ap (λ p. has_one (drop p mask)) at
    ∙ one_here mask from c.min.result (sym c.compares_one_of.ensures ∙ c.if-compares_one_of.true)
    )

pub loop-word-preserved : goal.loop-word-preserved
loop-word-preserved c =
    let k = c.args.kept.now in
    let mask = (seen_last k).mask in
    let from = 64 * c.loop-word.word in
    let at : min from k.len ≡ from = omega arith in
    let next : min (64 * (c.loop-word.word + 1)) k.len ≡ from + c.min.result = omega arith in
    ap (λ p. has_one (drop p mask)) next
    ∙ no_one_here mask from c.min.result (sym c.compares_one_of.ensures ∙ c.if-compares_one_of.false)
    ∙ ap (λ p. has_one (drop p mask)) (sym at)
    ∙ c.loop-word.invariant

pub returns : goal.returns
returns c =
    let k = c.args.kept.now in
    let mask = (seen_last k).mask in
    let long : length mask ≡ k.len = mask_length k.len (lent k.mask) c.requires.sound.mask in
    let all : length mask ≤ min (64 * c.loop-word.word) k.len = omega (arith, long) in
    sym (
    any_compared k.len c.args.tdo.now mask c.requires.tdo long
    (is_there c.is_given.result c.args.tdo.now c.is_given.ensures c.if-not-is_given.false)
    ∙ sym c.loop-word.invariant
    ∙ ap has_one (drop_all (min (64 * c.loop-word.word) k.len) mask all)
    )
