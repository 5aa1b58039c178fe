use Rattle.std.proofs.Common.{List, map, refl, sym, subst}
use Rattle.ijtag_stages.specs.declared.refusal.StageFault.{StageFault}
use Rattle.ijtag_work.specs.Order.{taken}
use Rattle.ijtag_core.specs.Files.{seen_file, text_of}
use Rattle.ijtag_core.specs.declared.made_files.MadeFile.{MadeFile}
use Rattle.ijtag_core.proofs.Exits.{follows_fault}
use Rattle.ijtag_core.proofs.Lists.{cut, first_of, none_left, others_of, seen_cut}
use Rattle.ijtag_core.proofs.Taking.{first_refused, later_refused}
use Rattle.ijtag_core.proofs.made_files.+check_lengths.Goals as goal

pub returns-in-empty : goal.returns-in-empty
returns-in-empty t c =
    let files : List MadeFile = c.args.files.now in
    subst (λ (fs : List MadeFile). (taken (map seen_file fs)).gives (map text_of fs))
    (sym (none_left files c.in-empty.len_below)) refl

pub returns-in_err-check_length-in-len1-up : goal.returns-in_err-check_length-in-len1-up
returns-in_err-check_length-in-len1-up t c =
    let fault : StageFault = c.in_err-check_length-in-len1-up.field-0.0 in
    follows_fault (taken (map seen_file c.args.files.now)) _ c.from_residual.result fault
    c.from_residual.ensures.1 (rw (seen_cut c.args.files.now c.in-len1-up.len_at_least)
    (first_refused _ _ fault c.in_err-check_length-in-len1-up.ensures))

pub returns-in_err-check_lengths-in-len1-up : goal.returns-in_err-check_lengths-in-len1-up
returns-in_err-check_lengths-in-len1-up t c =
    let fault : StageFault = c.in_err-check_lengths-in-len1-up.field-0.0 in
    follows_fault (taken (map seen_file c.args.files.now)) _
    c.from_residual-in_err-check_lengths-in-len1-up.result fault
    c.from_residual-in_err-check_lengths-in-len1-up.ensures.1
    (rw (seen_cut c.args.files.now c.in-len1-up.len_at_least)
    (later_refused _ _ _ fault c.in_ok-check_length-in-len1-up.ensures
    c.in_err-check_lengths-in-len1-up.ensures))

pub returns-in_ok-check_lengths-in-len1-up : goal.returns-in_ok-check_lengths-in-len1-up
returns-in_ok-check_lengths-in-len1-up t c =
    let files : List MadeFile = c.args.files.now in
    subst (λ (fs : List MadeFile). (taken (map seen_file fs)).gives (map text_of fs))
    (sym (cut files c.in-len1-up.len_at_least)) (
      text_of (first_of files),
      c.in_ok-check_length-in-len1-up.ensures,
      (map text_of (others_of files), c.in_ok-check_lengths-in-len1-up.ensures, refl),
    )
