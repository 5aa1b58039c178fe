-- Refusals as contracts see them: with plain lists.
use Rattle.std.specs.Prelude.{map}
use Rattle.ijtag_stages.specs.Refusals.{Refusal, Arg, At, Num, Said, Bit}
use Rattle.ijtag_stages.specs.declared.refusal.Arg.{Arg as RustArg}
use Rattle.ijtag_stages.specs.declared.refusal.Arg.TheVariants.{At as AtArg, Num as NumArg, Said as SaidArg}
use Rattle.ijtag_stages.specs.declared.refusal.Arg.TheVariants.{Bit as BitArg}
use Rattle.ijtag_stages.specs.declared.refusal.Refusal.{Refusal as RustRefusal}

abbrev pub seen_arg : RustArg → Arg
seen_arg (AtArg place) = At place
seen_arg (NumArg n) = Num n
seen_arg (SaidArg text) = Said text.items
seen_arg (BitArg register index) = Bit register.items index

abbrev pub seen_refusal : RustRefusal → Refusal
seen_refusal refusal =
    record { stage = refusal.stage; kind = refusal.kind.now; args = map seen_arg refusal.args.items }
