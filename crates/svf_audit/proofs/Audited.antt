-- Where an audit says yes, the play does all that the steps mean.
use Rattle.std.proofs.Common.{[], None, refl, sym, ap}
use Rattle.std.specs.Option.{is_some}
use Rattle.std.proofs.lemmas.Bool.{true≢false}
use Rattle.net_graph.proofs.Resetting.{reset_twice}
use Rattle.net_graph.specs.Resets.{zero_holds}
use Rattle.net_bench.specs.Bench.{fault_free, power_up}
use Rattle.net_bench.proofs.PublicLaws.{is_shaped_first}
use Rattle.instruments.specs.Machine.{whole_log}
use Rattle.pdl_meaning.specs.Direct.{direct, power_up as direct_power_up}
use Rattle.headline.proofs.PlannedScripts.{has_routes}
use Rattle.svf_audit.specs.Audit.{start}
use Rattle.svf_audit.specs.Law.{AuditedPlaysDoAll}
use Rattle.svf_audit.proofs.Following.{Follows, all_follow}
use Rattle.svf_audit.proofs.Opcodes.{reset_unlinked}
use Rattle.svf_audit.proofs.Working.{steps_work, steps_worked}

pub audited_plays_do_all : AuditedPlaysDoAll
audited_plays_do_all net device machines steps commands readings w u v valid fit e =
    let n = has_routes net w in
    let chip = fault_free whole_log net device machines in
    let goal = direct whole_log net machines steps in
    let d = direct_power_up whole_log net machines in
    let h = is_shaped_first chip in
    let z = zero_holds net in
    let begins : Follows whole_log net device machines n u v goal (start net device steps) (power_up chip)
    [] = record {
      tap = refl;
      shaped = h;
      linked = reset_unlinked device v;
      holds = refl;
      stays = λ r. reset_twice net z;
      known = [];
      meaning = d;
      along = record {
        agrees = record { holds = λ b q. refl; insts = refl };
        widths = h.holds;
        valid =
            steps_work net steps valid;
        ends = steps_worked whole_log net machines steps d;
        reads = refl;
      };
      reads = refl;
      compared = λ c. (λ m. m, λ m. m);
    } in
    let ends = all_follow whole_log net device machines n u v goal commands (start net device steps)
    (power_up chip) [] None None readings (λ m q. absurd (true≢false (sym (ap is_some q))))
    (λ m q. absurd (true≢false (sym (ap is_some q)))) fit begins e in
    record { last = ends.agrees; reads = ends.reads; compares = ends.compares }
