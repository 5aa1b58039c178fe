use Rattle.std.proofs.Common.{◌≡◌, ◌+◌, ◌-◌, ◌*◌, ◌/◌, ◌%◌, ◌++◌, Bool, List, true, false, Some, length, map}
use Rattle.std.proofs.Common.{replicate, arith, ap, sym, ◌∙◌, length-append, append-nil}
use Rattle.std.proofs.Math.ListN.{length-replicate}
use Rattle.ij_bits.specs.BitLists.{bits_of}
use Rattle.ij_bits.proofs.WordBits.{length-bits_of}
use Rattle.ij_text.specs.Numbers.{open_bits}
use Rattle.ij_text.proofs.OpenDigits.{all_ones}
use Rattle.ij_text.proofs.Widths.{word_more}
use Rattle.ij_text.proofs.fitting.decimal_in_width.Goals as goal

pub loop-i-init : goal.loop-i-init
loop-i-init c =
    let w = c.args.width in
    let none = ap length c.in_ok-value.ensures.empty in
    let all : w - 64 * 0 ≡ w = omega arith in
    record {
      room = omega (arith, c.in_ok-value.ensures.room);
      long = omega (arith, none);
      so_far = ap (λ (l : List Bool). l ++ bits_of (w - 64 * 0) c.args.n) c.in_ok-value.ensures.empty
          ∙ ap (λ k. bits_of k c.args.n) all;
    }

pub loop-i-preserved : goal.loop-i-preserved
loop-i-preserved c =
    let w = c.args.width in
    let i = c.loop-i.i in
    let m = c.min.result in
    let word = c.loop-i.rest % 18446744073709551616 in
    let added = c.append_number_reserved.ensures.items in
    let both = ap length added in
    let long = length-append c.loop-i.value.items (bits_of m word) in
    let size = length-bits_of m word in
    record {
      room = omega (arith, both, long, size, c.append_number_reserved.ensures.spare, c.loop-i.invariant.room);
      long = omega (arith, both, long, size, c.loop-i.invariant.long);
      so_far =
          ap (λ (l : List Bool). l ++ bits_of (w - 64 * (i + 1)) (c.loop-i.rest / 18446744073709551616)) added
          ∙ word_more c.loop-i.value.items (w - 64 * i) m (w - 64 * (i + 1)) c.loop-i.rest
          (bits_of w c.args.n) (omega arith) (omega arith) c.loop-i.invariant.so_far;
    }

pub returns : goal.returns
returns c =
    let w = c.args.width in
    let xs = c.loop-i.value.items in
    let ys = c.from.result.items in
    let none : 0 ≡ w - 64 * c.loop-i.i = omega arith in
    let value : ys ≡ bits_of w c.args.n =
    c.from.ensures ∙ sym (append-nil xs) ∙ ap (λ k. xs ++ bits_of k c.loop-i.rest) none ∙
    c.loop-i.invariant.so_far in
    let care = c.from-2.ensures ∙ c.fill.ensures.items
    ∙ ap (λ k. replicate k true) (ap length c.in_ok-care.ensures ∙ length-replicate w false) in
    ap (open_bits ys) care ∙ all_ones ys w (ap length value ∙ length-bits_of w c.args.n)
    ∙ ap (map (λ bit. Some bit)) value
