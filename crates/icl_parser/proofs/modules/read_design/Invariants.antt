use Rattle.std.proofs.Common.{◌≡◌, length}
use Rattle.ij_bits.specs.Room.{seen_list}
use Rattle.icl_lexer.specs.Views.{seen_module}
use Rattle.icl_parser.specs.Reading.{read_design}
use Rattle.icl_parser.proofs.More.{more_modules}
use Rattle.icl_parser.proofs.modules.read_design.Given as goal

abbrev pub invariant-loop-alloc : goal.invariant-loop-alloc
invariant-loop-alloc l = more_modules (seen_list seen_module l.modules.value) l.modules.rest
    ≡ read_design l.fn.tokens

abbrev pub decreases-loop-alloc : goal.decreases-loop-alloc
decreases-loop-alloc l = length l.modules.rest
