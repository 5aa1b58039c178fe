use Rattle.std.proofs.Common.{List, ◌∷◌, map, sym, subst, arith}
use Rattle.ij_io.proofs.Adding.{at_refusal}
use Rattle.ijtag_work.specs.Runs.{AllHold}
use Rattle.ijtag_work.specs.Seen.{seen_stop}
use Rattle.ijtag_work.specs.declared.stop.Stop.{Stop as RustStop}
use Rattle.ijtag_core.specs.Files.{IsWriteStopOf, file_names, seen_file}
use Rattle.ijtag_core.specs.declared.made_files.MadeFile.{MadeFile}
use Rattle.ijtag_core.proofs.Exits.{at_fault}
use Rattle.ijtag_core.proofs.Lists.{apart_cut, first_of, none_left, others_of, seen_cut}
use Rattle.ijtag_core.proofs.Lists.{shorter}
use Rattle.ijtag_core.proofs.Writing.{all_more, part_first, part_more, rise_more, stay_more, stop_first}
use Rattle.ijtag_core.proofs.Writing.{stop_more}
use Rattle.ijtag_core.proofs.made_files.+write_each.Goals as goal

-- ---- none is left

pub returns-in-empty-clause-whole : goal.returns-in-empty-clause-whole
returns-in-empty-clause-whole g t c =
    let old = g.S.Shelf.files c.args.shelf.now in
    subst (λ (fs : List MadeFile). AllHold (map seen_file fs) old old)
    (sym (none_left c.args.files.now c.in-empty.len_below)) tt

-- ---- the first is refused

pub returns-in_err-write_one-in-len1-up-clause-part : goal.returns-in_err-write_one-in-len1-up-clause-part
returns-in_err-write_one-in-len1-up-clause-part g t c =
    rw (seen_cut c.args.files.now c.in-len1-up.len_at_least)
    (at_refusal _ (part_first _ _ (apart_cut c.args.files.now c.in-len1-up.len_at_least c.requires).0 _ _
    c.write_one.ensures.others c.in_err-write_one-in-len1-up.ensures.part))

pub returns-in_err-write_one-in-len1-up-clause-others :
    goal.returns-in_err-write_one-in-len1-up-clause-others
returns-in_err-write_one-in-len1-up-clause-others g t c =
    rw (seen_cut c.args.files.now c.in-len1-up.len_at_least)
    (λ other none. c.write_one.ensures.others other none.0)

pub returns-in_err-write_one-in-len1-up-clause-stop : goal.returns-in_err-write_one-in-len1-up-clause-stop
returns-in_err-write_one-in-len1-up-clause-stop g t c =
    let fault : RustStop = c.in_err-write_one-in-len1-up.field-0.0 in
    rw (seen_cut c.args.files.now c.in-len1-up.len_at_least)
    (at_fault (λ (s : RustStop). IsWriteStopOf
    (file_names (seen_file (first_of c.args.files.now) ∷ map seen_file (others_of c.args.files.now)))
    (g.S.Shelf.store_faults c.args.shelf.now) (g.S.Shelf.store_faults c.write_one.new.shelf) (seen_stop s))
    _ fault c.from_residual.ensures.1
    (stop_first _ _ _ _ (seen_stop fault) c.in_err-write_one-in-len1-up.ensures.stop))

pub returns-in_err-write_one-in-len1-up-clause-stores :
    goal.returns-in_err-write_one-in-len1-up-clause-stores
returns-in_err-write_one-in-len1-up-clause-stores g t c =
    rw (seen_cut c.args.files.now c.in-len1-up.len_at_least)
    (λ other none. c.write_one.ensures.stores other (none.0, tt))

-- ---- the others

pub write_each-requires : goal.write_each-requires
write_each-requires g t c = λ κs lives. (
  omega (arith, shorter c.args.files.now c.in-len1-up.len_at_least, c.decreases),
  (lives, (apart_cut c.args.files.now c.in-len1-up.len_at_least c.requires).1),
)

pub returns-in_err-write_each-in-len1-up-clause-part : goal.returns-in_err-write_each-in-len1-up-clause-part
returns-in_err-write_each-in-len1-up-clause-part g t c =
    rw (seen_cut c.args.files.now c.in-len1-up.len_at_least)
    (at_refusal _ (part_more _ _ (apart_cut c.args.files.now c.in-len1-up.len_at_least c.requires).0 _ _ _
    c.in_ok-write_one-in-len1-up.ensures.whole c.write_each.ensures.others c.write_one.ensures.others
    c.in_err-write_each-in-len1-up.ensures.part))

pub returns-in_err-write_each-in-len1-up-clause-others :
    goal.returns-in_err-write_each-in-len1-up-clause-others
returns-in_err-write_each-in-len1-up-clause-others g t c =
    rw (seen_cut c.args.files.now c.in-len1-up.len_at_least)
    (stay_more _ _ _ _ _ c.write_one.ensures.others c.write_each.ensures.others)

pub returns-in_err-write_each-in-len1-up-clause-stop : goal.returns-in_err-write_each-in-len1-up-clause-stop
returns-in_err-write_each-in-len1-up-clause-stop g t c =
    let fault : RustStop = c.in_err-write_each-in-len1-up.field-0.0 in
    rw (seen_cut c.args.files.now c.in-len1-up.len_at_least)
    (at_fault (λ (s : RustStop). IsWriteStopOf
    (file_names (seen_file (first_of c.args.files.now) ∷ map seen_file (others_of c.args.files.now)))
    (g.S.Shelf.store_faults c.args.shelf.now) (g.S.Shelf.store_faults c.write_each.new.shelf) (seen_stop s))
    _ fault
    c.from_residual-in_err-write_each-in-len1-up.ensures.1
    (stop_more _ _ _ _ _ (seen_stop fault) (apart_cut c.args.files.now c.in-len1-up.len_at_least c.requires).0
    c.write_one.ensures.stores c.in_err-write_each-in-len1-up.ensures.stop))

pub returns-in_err-write_each-in-len1-up-clause-stores :
    goal.returns-in_err-write_each-in-len1-up-clause-stores
returns-in_err-write_each-in-len1-up-clause-stores g t c =
    rw (seen_cut c.args.files.now c.in-len1-up.len_at_least)
    (rise_more _ _ _ _ _ c.write_one.ensures.stores c.write_each.ensures.stores)

-- ---- all are written

pub returns-in_ok-write_each-in-len1-up-clause-whole : goal.returns-in_ok-write_each-in-len1-up-clause-whole
returns-in_ok-write_each-in-len1-up-clause-whole g t c =
    rw (seen_cut c.args.files.now c.in-len1-up.len_at_least)
    (all_more _ _ (apart_cut c.args.files.now c.in-len1-up.len_at_least c.requires).0 _ _ _
    c.in_ok-write_one-in-len1-up.ensures.whole c.write_each.ensures.others
    c.in_ok-write_each-in-len1-up.ensures.whole)

pub returns-in_ok-write_each-in-len1-up-clause-others :
    goal.returns-in_ok-write_each-in-len1-up-clause-others
returns-in_ok-write_each-in-len1-up-clause-others g t c =
    rw (seen_cut c.args.files.now c.in-len1-up.len_at_least)
    (stay_more _ _ _ _ _ c.write_one.ensures.others c.write_each.ensures.others)

pub returns-in_ok-write_each-in-len1-up-clause-stores :
    goal.returns-in_ok-write_each-in-len1-up-clause-stores
returns-in_ok-write_each-in-len1-up-clause-stores g t c =
    rw (seen_cut c.args.files.now c.in-len1-up.len_at_least)
    (rise_more _ _ _ _ _ c.write_one.ensures.stores c.write_each.ensures.stores)
