use Rattle.std.proofs.Common.{◌≡◌, ◌++◌, ap, sym, ◌∙◌, arith, take, drop}
use Rattle.svf_audit.specs.LastParts.{seen_tdi}
use Rattle.svf_audit.proofs.Found.{turned_long, turned_skip}
use Rattle.svf_audit.proofs.Turning.{word_same, word_skips}
use Rattle.svf_audit.proofs.registers.Registers.set_tdi_word.Goals as goal

pub tdi_number-requires-clause-within : goal.tdi_number-requires-clause-within
tdi_number-requires-clause-within c = omega (arith, c.requires.within, c.requires.turned.long)

pub returns-then-number-tdi_number-clause-turned : goal.returns-then-number-tdi_number-clause-turned
returns-then-number-tdi_number-clause-turned c =
    let r = c.args.self.now in
    let tdi = seen_tdi c.args.kept.now in
    let t = c.requires.turned in
    let same : take c.args.n (drop c.args.from r.chain.items) ≡ take c.args.n (drop c.args.from tdi) =
    word_same r.chain.items tdi c.args.from c.args.n c.requires.within
    (omega (arith, c.requires.within, t.long))
    (sym c.number.ensures.value ∙ c.if-number-tdi_number.true ∙ c.tdi_number.ensures) in
    turned_skip r tdi c.args.from c.args.n t c.requires.within same

pub returns-then-number-tdi_number-clause-moves : goal.returns-then-number-tdi_number-clause-moves
returns-then-number-tdi_number-clause-moves c =
    let r = c.args.self.now in
    let tdi = seen_tdi c.args.kept.now in
    let t = c.requires.turned in
    let same : take c.args.n (drop c.args.from r.chain.items) ≡ take c.args.n (drop c.args.from tdi) =
    word_same r.chain.items tdi c.args.from c.args.n c.requires.within
    (omega (arith, c.requires.within, t.long))
    (sym c.number.ensures.value ∙ c.if-number-tdi_number.true ∙ c.tdi_number.ensures) in
    ap (λ xs. r.moved.items ++ xs) (word_skips r.bits.items r.chain.items tdi c.args.from c.args.n
    (omega (arith, c.requires.within, turned_long r tdi c.args.from t)) c.requires.within
    (omega (arith, c.requires.within, t.long)) same)
