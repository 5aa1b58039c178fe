use Rattle.std.proofs.Common.{◌≡◌, ◌+◌, ◌-◌, ◌++◌, [], ℕ, suc, false, true, List, length, arith, ap, sym, ◌∙◌}
use Rattle.std.proofs.Common.{subst, append-nil, append_assoc}
use Rattle.std.specs.Option.{option_map}
use Rattle.svf_writer.specs.SeenCommands.{SeenCommand, seen_command}
use Rattle.svf_writer.specs.Fits.{AreFit, AreFitAfter}
use Rattle.svf_reader.specs.Texts.{plain, texts, blanks}
use Rattle.svf_reader.specs.Meaning.{Step, listed, before, read_from, read_command}
use Rattle.svf_reader.specs.Reading.{words_of}
use Rattle.svf_reader.proofs.Cuts.{plain_length}
use Rattle.svf_reader.proofs.Fitting.{comes_follows}
use Rattle.svf_reader.proofs.Whole.{from_first, refused_here, next_here, end_none, end_refused, refuses}
use Rattle.svf_reader.proofs.Whole.{words_of_is}
use Rattle.svf_reader.proofs.reading.read_into.Goals as goal

pub loop-next-init : goal.loop-next-init
loop-next-init c =
    let src = c.args.src.now in
    let none = c.requires.none in
    record {
      within = omega arith;
      so_far = ap (λ cs. before cs (read_from _ (length src - length src) (texts (plain src)))) none
          ∙ from_first src (length src - length src) (omega arith);
      fit = λ more h. subst (λ (cs : List SeenCommand). AreFit (cs ++ more)) (sym none) h;
    }

pub returns-in-Err-clause-fault : goal.returns-in-Err-clause-fault
returns-in-Err-clause-fault c =
    let src = c.args.src.now in
    let at = length src - length c.loop-next.rest.now in
    let t = plain c.in-Some.next.piece.now in
    refuses src c.in-Err.refused c.command_place-at.result c.refused_at.result
    (read_command c.loop-next.kept true t) (at + blanks t) c.in-Err.ensures
    (λ cause h. refused_here src c.loop-next.commands c.loop-next.kept at (texts (plain c.loop-next.rest.now))
    c.loop-next.invariant.so_far t (plain c.in-Some.next.rest.now) cause c.in-Some.ensures.value h)
    c.command_place-at.ensures c.refused_at.ensures

pub add-requires : goal.add-requires
add-requires c =
    let step : Step = (option_map seen_command c.read_command.new.out, c.in-Ok.kept) in
    let follows = comes_follows c.loop-next.kept true
    (plain c.in-Some.next.piece.now) step c.in-Ok.ensures [] tt in
    c.loop-next.invariant.fit (listed step.0) (subst (λ (l : List SeenCommand). AreFitAfter
    c.loop-next.kept.ir c.loop-next.kept.dr l) (append-nil (listed step.0)) follows)

pub loop-next-preserved : goal.loop-next-preserved
loop-next-preserved c =
    let src = c.args.src.now in
    let at = length src - length c.loop-next.rest.now in
    let t = plain c.in-Some.next.piece.now in
    let step : Step = (option_map seen_command c.read_command.new.out, c.in-Ok.kept) in
    let long : length t ≡ length c.in-Some.next.piece.now = plain_length false c.in-Some.next.piece.now in
    let next : suc (at + length t) ≡ length src - length c.in-Some.next.rest.now =
    omega (arith, long, c.in-Some.ensures.lengths, c.loop-next.invariant.within) in
    let all = next_here src c.loop-next.commands c.loop-next.kept at
    (texts (plain c.loop-next.rest.now)) c.loop-next.invariant.so_far t
    (plain c.in-Some.next.rest.now) step c.in-Some.ensures.value c.in-Ok.ensures in
    let added : c.add.new.commands ≡ c.loop-next.commands ++ listed step.0 = c.in_ok-add.ensures.ok in
    record {
      within = omega (arith, c.in-Some.ensures.lengths, c.loop-next.invariant.within);
      so_far = ap (λ (cs : List SeenCommand). before cs (read_from c.in-Ok.kept
          (length src - length c.in-Some.next.rest.now) (texts (plain c.in-Some.next.rest.now)))) added
          ∙ ap (λ (n : ℕ). before (c.loop-next.commands ++ listed step.0)
          (read_from c.in-Ok.kept n (texts (plain c.in-Some.next.rest.now)))) (sym next)
          ∙ all;
      fit = λ more h.
          subst (λ (cs : List SeenCommand). AreFit (cs ++ more)) (sym added)
          (subst AreFit (sym (append_assoc c.loop-next.commands (listed step.0) more))
          (c.loop-next.invariant.fit (listed step.0 ++ more)
          (comes_follows c.loop-next.kept true t step c.in-Ok.ensures more h)));
    }

pub returns-in-None-clause-ok : goal.returns-in-None-clause-ok
returns-in-None-clause-ok c =
    let src = c.args.src.now in
    let rest = c.loop-next.rest.now in
    end_none src c.loop-next.commands c.loop-next.kept (length src - length rest)
    (texts (plain rest)) c.loop-next.invariant.so_far (plain rest) c.in_default.ensures.value
    (sym (words_of_is rest) ∙ c.in-None.ensures.value)

pub returns-in-Err-read_command-clause-fault : goal.returns-in-Err-read_command-clause-fault
returns-in-Err-read_command-clause-fault c =
    let src = c.args.src.now in
    let at = length src - length c.loop-next.rest.now in
    let rest = c.loop-next.rest.now in
    let t = plain rest in
    let piece = c.in-Some-next_word.field-0 in
    refuses src c.in-Err-read_command.refused c.command_place-at-in-Err-read_command.result
    c.refused_at-in-Err-read_command.result (read_command c.loop-next.kept false t)
    (at + blanks t) c.in-Err-read_command.ensures
    (λ cause h. end_refused src c.loop-next.commands c.loop-next.kept at
    (texts t) c.loop-next.invariant.so_far t piece.piece.now (words_of piece.rest.now) cause
    c.in_default.ensures.value (sym (words_of_is rest) ∙ c.in-Some-next_word.ensures.value) h)
    c.command_place-at-in-Err-read_command.ensures c.refused_at-in-Err-read_command.ensures
