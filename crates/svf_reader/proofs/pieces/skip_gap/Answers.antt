use Rattle.std.proofs.Common.{ℕ, List, ap, sym, ◌∙◌, drop, false}
use Rattle.svf_reader.specs.declared.bytes.Class.TheVariants.{Gap}
use Rattle.svf_reader.specs.Reading.{run_length, words_of, runs_of}
use Rattle.svf_reader.specs.Texts.{plain, after_word}
use Rattle.svf_reader.proofs.Lexing.{word_gap, run_gap, gap_stops, skip_gap}
use Rattle.svf_reader.proofs.pieces.skip_gap.Goals as goal

pub returns-clause-words : goal.returns-clause-words
returns-clause-words c =
    word_gap c.args.text.now ∙ ap (λ n. words_of (drop n c.args.text.now)) (sym c.gap_len.ensures.value)
    ∙ ap words_of (sym c.split_at.ensures.back)

pub returns-clause-runs : goal.returns-clause-runs
returns-clause-runs c =
    run_gap c.args.text.now ∙ ap (λ n. runs_of (drop n c.args.text.now)) (sym c.gap_len.ensures.value)
    ∙ ap runs_of (sym c.split_at.ensures.back)

pub returns-clause-after : goal.returns-clause-after
returns-clause-after c =
    skip_gap c.args.text.now
    ∙ ap (λ n. after_word (plain (drop n c.args.text.now))) (sym c.gap_len.ensures.value)
    ∙ ap (λ (t : List ℕ). after_word (plain t)) (sym c.split_at.ensures.back)

pub returns-clause-stops : goal.returns-clause-stops
returns-clause-stops c =
    ap (run_length Gap false) c.split_at.ensures.back
    ∙ ap (λ n. run_length Gap false (drop n c.args.text.now)) c.gap_len.ensures.value
    ∙ gap_stops false c.args.text.now
