use Rattle.std.proofs.Common.{◌≡◌, Some, sym, ◌∙◌, subst}
use Rattle.std.specs.Prelude.{Result, Ok, Err, IfOk}
use Rattle.std.specs.Result.{result_ok}
use Rattle.std.proofs.lemmas.Option.{same_Some, none-some}
use Rattle.ijtag_tests.proofs.direct_values.what_is_kept_is_what_direct_prints.Goals as goal

-- what holds of an answer that is there holds of the value that was taken out of it
taken : {T E : Type 0} (P : T → Type 0) (r : Result T E) (x : T) → IfOk r P → result_ok r ≡ Some x → P x
taken P (Ok y) x p e = subst P (same_Some y x e) p
taken P (Err f) x p e = absurd (none-some x e)

pub done_text-requires-clause-usable : goal.done_text-requires-clause-usable
done_text-requires-clause-usable g c =
    (taken _ c.accept.result c.expect-it.result c.accept.ensures.can
    (sym c.ok.ensures.value ∙ c.expect-it.ensures)).usable
