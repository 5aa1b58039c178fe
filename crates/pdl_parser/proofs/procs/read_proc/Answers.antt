use Rattle.std.proofs.Common.{◌≡◌, ℕ, List, Ok, refl, sym, ap, subst, ◌∙◌}
use Rattle.ij_text.specs.declared.Place.{Place}
use Rattle.pdl_parser.specs.Cutting.{Word}
use Rattle.pdl_parser.specs.Values.{AProc}
use Rattle.pdl_parser.specs.Seen.{words, Fails}
use Rattle.pdl_parser.specs.SeenProcs.{read_after_name}
use Rattle.pdl_parser.specs.Reading.{gives, read_proc_name, read_proc}
use Rattle.pdl_parser.proofs.procs.read_proc.Goals as goal

from_name : (at : Place) (known : List (List ℕ)) (owner name : List ℕ) (ws rest : List Word)
    → read_proc_name known owner ws ≡ Ok (name, rest)
    → read_proc at known owner ws ≡ read_after_name at owner name rest
unfolding read_proc
from_name at known owner name ws rest e = rw e refl

pub returns-in_ok-proc_with-in-Ok-clause-gives : goal.returns-in_ok-proc_with-in-Ok-clause-gives
returns-in_ok-proc_with-in-Ok-clause-gives c =
    let owner = c.args.owner.now.items in
    let name = c.in_ok-name.name.value.items in
    from_name c.args.at c.args.known.now owner name (words c.args.lexemes.now)
    (words c.in_ok-name.name.rest.now) c.in_ok-name.ensures.gives
    ∙ c.in-Ok.ensures.gives c.args.at owner name
    ∙ ap (λ (proc : AProc). gives proc (words c.in-Ok.inside.rest.now)) (sym c.in_ok-proc_with-in-Ok.ensures)

pub returns-in-Err-clause-gives : goal.returns-in-Err-clause-gives
returns-in-Err-clause-gives c =
    let owner = c.args.owner.now.items in
    let name = c.in_ok-name.name.value.items in
    subst (λ read. Fails c.in-Err.stop read)
    (sym (from_name c.args.at c.args.known.now owner name (words c.args.lexemes.now)
    (words c.in_ok-name.name.rest.now) c.in_ok-name.ensures.gives))
    (c.in-Err.ensures.gives c.args.at owner name)
