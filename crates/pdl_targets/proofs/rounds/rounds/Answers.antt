use Rattle.std.proofs.Common.{[], get_or, take, sym, ap, ◌∙◌}
use Rattle.std.proofs.lemmas.List.{take_all, take_more}
use Rattle.pdl_targets.specs.Insertion.{put_all, put_in}
use Rattle.pdl_targets.specs.SeenPlaces.{places_in}
use Rattle.pdl_targets.proofs.Insertion.{put_all_is, put_more}
use Rattle.pdl_targets.proofs.rounds.rounds.Goals as goal

pub loop-register-preserved : goal.loop-register-preserved
loop-register-preserved c =
    let places = places_in c.args.tree.now in
    let registers = c.args.registers.now in
    let i = c.loop-register.register-index in
    record {
      put =
          c.in_ok-put_in.ensures.put
          ∙ ap (λ rss. put_in places rss (get_or registers i 0)) c.loop-register.invariant.put
          ∙ sym (put_more places [] (take i registers) (get_or registers i 0))
          ∙ ap (put_all places []) (sym (take_more registers i 0 c.loop-register-test.true));
      rows = c.in_ok-put_in.ensures.rows;
    }

pub returns : goal.returns
returns c =
    let places = places_in c.args.tree.now in
    c.loop-register.invariant.put ∙ ap (put_all places [])
    (take_all c.loop-register.register-index c.args.registers.now c.loop-register-test.false)
    ∙ put_all_is places c.args.registers.now
