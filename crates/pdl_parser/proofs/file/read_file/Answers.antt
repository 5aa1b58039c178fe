use Rattle.std.proofs.Common.{map, length, sym, ap, ◌∙◌, arith}
use Rattle.std.proofs.lemmas.List.{length-map}
use Rattle.std.proofs.lemmas.Result.{err_from_is_err_and}
use Rattle.pdl_parser.specs.Grammar.{File, full_name, full_names}
use Rattle.pdl_parser.specs.Views.{seen_proc}
use Rattle.pdl_parser.specs.Seen.{words}
use Rattle.pdl_parser.specs.SeenFile.{seen_file}
use Rattle.pdl_parser.proofs.Verdicts.{begins_any, begins_none, parts_go_on, file_fails, file_ends}
use Rattle.pdl_parser.proofs.Verdicts.{file_start}
use Rattle.pdl_parser.proofs.file.read_file.Goals as goal

pub loop-left-init : goal.loop-left-init
loop-left-init c =
    let none = ap length (c.requires.known ∙ ap (λ (file : File). full_names file.procs) c.requires.none) in
    record {
      room = omega (arith, none);
      known = c.requires.known;
      goes_on = file_start _ (words c.args.lexemes.now) c.requires.none;
    }

pub loop-left-preserved : goal.loop-left-preserved
loop-left-preserved c = record {
  room = omega (arith, c.in_ok-left.ensures.room, c.loop-left.invariant.room);
  known = c.in_ok-left.ensures.known;
  goes_on =
      parts_go_on (seen_file c.loop-left.file) (words c.loop-left.left.rest.now)
      (seen_file c.put_next_part.new.file, words c.in_ok-left.left.rest.now)
      (begins_any c.loop-left.left.rest.now (sym c.is_empty.ensures ∙ c.loop-left-test.true))
      c.in_ok-left.ensures.gives
      ∙ c.loop-left.invariant.goes_on;
}

pub returns-in_err-left-clause-gives : goal.returns-in_err-left-clause-gives
returns-in_err-left-clause-gives c =
    let p = err_from_is_err_and c.from_residual.result c.from_residual.ensures.1 in
    rw (p.1, p.2)
    (file_fails (words c.args.lexemes.now) (seen_file c.loop-left.file)
    (words c.loop-left.left.rest.now) c.in_err-left.field-0.0
    (begins_any c.loop-left.left.rest.now (sym c.is_empty.ensures ∙ c.loop-left-test.true))
    c.in_err-left.ensures.gives c.loop-left.invariant.goes_on)

pub returns-clause-gives : goal.returns-clause-gives
returns-clause-gives c =
    file_ends (words c.args.lexemes.now) (seen_file c.loop-left.file) (words c.loop-left.left.rest.now)
    (begins_none c.loop-left.left.rest.now (sym c.is_empty.ensures ∙ c.loop-left-test.false))
    c.loop-left.invariant.goes_on

pub returns-clause-few : goal.returns-clause-few
returns-clause-few c =
    let procs = c.loop-left.file.procs.items in
    let many = ap length c.loop-left.invariant.known
    ∙ length-map (map seen_proc procs) (λ p. full_name p.owner p.name) ∙ length-map procs seen_proc in
    omega (arith, many, c.loop-left.invariant.room, c.requires.room)
