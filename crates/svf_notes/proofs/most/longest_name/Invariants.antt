use Rattle.svf_notes.specs.Most.{AreNamedWithin}
use Rattle.svf_notes.proofs.most.longest_name.Given as goal

abbrev pub invariant-loop-reg : goal.invariant-loop-reg
invariant-loop-reg l = AreNamedWithin l.net l.reg l.longest
