-- The report, part by part.
use Rattle.std.proofs.Common.{refl, append_assoc}
use Rattle.std.specs.Prelude.{map}
use Rattle.instruments.specs.After.{machine_of}
use Rattle.instruments.specs.Machine.{count_log}
use Rattle.pdl_meaning.specs.Direct.{do_all, do_step}
use Rattle.direct_report.specs.Report.{end_text, step_lines, steps_lines}
use Rattle.direct_report.specs.Laws.{StepsComeInOrder, TheEndComesLast}

pub steps_come_in_order : StepsComeInOrder
steps_come_in_order net models d s ss =
    let ms = map machine_of models in
    let after = do_step count_log net ms d s in
    append_assoc (step_lines net ms d s) (steps_lines net ms after ss)
    (end_text net models (do_all count_log net ms after ss))

pub the_end_comes_last : TheEndComesLast
the_end_comes_last net models d = refl
