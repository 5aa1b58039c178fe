use Rattle.ij_io.proofs.Adding.{adds_both, adds_front, adds_then_part, at_refusal, adds_as, adds_part_as}
use Rattle.std.specs.Prelude.{List, [], ◌++◌, codes, length}
use Rattle.std.proofs.Common.{ap}
use Rattle.net_graph.specs.declared.net.Sig.{Sig}
use Rattle.net_list.specs.Drivers.{drivers}
use Rattle.net_list.specs.Forms.{text_or_json, counted}
use Rattle.net_list.proofs.instrument.put_input.Goals as goal

pub returns-in_err-write-clause-part : goal.returns-in_err-write-clause-part
returns-in_err-write-clause-part g c = at_refusal c.from_residual.result
    (adds_part_as (ap (λ (bits : List Sig). c.args.before.now ++ (text_or_json c.args.format (codes "in ")
    (codes "{\"port\":\"") ++ (c.args.port.now.name.items ++ (counted c.args.format (codes " ")
    (codes "\",\"bits\":") (length bits) ++ (text_or_json c.args.format (codes " from ") (codes ",\"from\":\"")
    ++ (drivers c.args.net.now bits (length bits) ++ text_or_json c.args.format [] (codes "\"}")))))))
    c.as_slice-bits.ensures) (adds_front _ c.in_err-write.ensures.part))

pub returns-in_err-put_text_or_json-clause-part : goal.returns-in_err-put_text_or_json-clause-part
returns-in_err-put_text_or_json-clause-part g c = at_refusal c.from_residual-in_err-put_text_or_json.result
    (adds_part_as
    (ap (λ (bits : List Sig). c.args.before.now ++ (text_or_json c.args.format (codes "in ") (codes "{\"port\":\"")
    ++ (c.args.port.now.name.items ++ (counted c.args.format (codes " ") (codes "\",\"bits\":") (length bits)
    ++ (text_or_json c.args.format (codes " from ") (codes ",\"from\":\"") ++ (drivers c.args.net.now bits
    (length bits) ++ text_or_json c.args.format [] (codes "\"}"))))))) c.as_slice-bits.ensures)
    (adds_then_part c.in_ok-write.ensures.whole (adds_front _ c.in_err-put_text_or_json.ensures.part)))

pub returns-in_err-put_name-clause-part : goal.returns-in_err-put_name-clause-part
returns-in_err-put_name-clause-part g c = at_refusal c.from_residual-in_err-put_name.result
    (adds_part_as (ap (λ (bits : List Sig). c.args.before.now ++ (text_or_json c.args.format (codes "in ")
    (codes "{\"port\":\"") ++ (c.args.port.now.name.items ++ (counted c.args.format (codes " ")
    (codes "\",\"bits\":") (length bits) ++ (text_or_json c.args.format (codes " from ") (codes ",\"from\":\"")
    ++ (drivers c.args.net.now bits (length bits) ++ text_or_json c.args.format [] (codes "\"}")))))))
    c.as_slice-bits.ensures) (adds_then_part c.in_ok-write.ensures.whole
    (adds_then_part c.in_ok-put_text_or_json.ensures.whole (adds_front _ c.in_err-put_name.ensures.part))))

pub returns-in_err-put_count-clause-part : goal.returns-in_err-put_count-clause-part
returns-in_err-put_count-clause-part g c = at_refusal c.from_residual-in_err-put_count.result (adds_part_as
    (ap (λ (bits : List Sig). c.args.before.now ++ (text_or_json c.args.format (codes "in ") (codes "{\"port\":\"")
    ++ (c.args.port.now.name.items ++ (counted c.args.format (codes " ") (codes "\",\"bits\":") (length bits)
    ++ (text_or_json c.args.format (codes " from ") (codes ",\"from\":\"") ++ (drivers c.args.net.now bits
    (length bits) ++ text_or_json c.args.format [] (codes "\"}"))))))) c.as_slice-bits.ensures)
    (adds_then_part c.in_ok-write.ensures.whole (adds_then_part c.in_ok-put_text_or_json.ensures.whole
    (adds_then_part c.in_ok-put_name.ensures.whole (adds_front _ c.in_err-put_count.ensures.part)))))

pub returns-in_err-put_text_or_json-2-clause-part : goal.returns-in_err-put_text_or_json-2-clause-part
returns-in_err-put_text_or_json-2-clause-part g c = at_refusal
    c.from_residual-in_err-put_text_or_json-2.result
    (adds_part_as (ap (λ (bits : List Sig). c.args.before.now ++ (text_or_json c.args.format (codes "in ")
    (codes "{\"port\":\"") ++ (c.args.port.now.name.items ++ (counted c.args.format (codes " ")
    (codes "\",\"bits\":") (length bits) ++ (text_or_json c.args.format (codes " from ") (codes ",\"from\":\"")
    ++ (drivers c.args.net.now bits (length bits) ++ text_or_json c.args.format [] (codes "\"}")))))))
    c.as_slice-bits.ensures) (adds_then_part c.in_ok-write.ensures.whole
    (adds_then_part c.in_ok-put_text_or_json.ensures.whole (adds_then_part c.in_ok-put_name.ensures.whole
    (adds_then_part c.in_ok-put_count.ensures.whole (adds_front _
    c.in_err-put_text_or_json-2.ensures.part))))))

pub returns-in_err-put_drivers-clause-part : goal.returns-in_err-put_drivers-clause-part
returns-in_err-put_drivers-clause-part g c =
    at_refusal c.from_residual-in_err-put_drivers.result (adds_part_as
    (ap (λ (bits : List Sig). c.args.before.now ++ (text_or_json c.args.format (codes "in ") (codes "{\"port\":\"")
    ++ (c.args.port.now.name.items ++ (counted c.args.format (codes " ") (codes "\",\"bits\":") (length bits)
    ++ (text_or_json c.args.format (codes " from ") (codes ",\"from\":\"") ++ (drivers c.args.net.now bits
    (length bits) ++ text_or_json c.args.format [] (codes "\"}"))))))) c.as_slice-bits.ensures)
    (adds_then_part c.in_ok-write.ensures.whole (adds_then_part c.in_ok-put_text_or_json.ensures.whole
    (adds_then_part c.in_ok-put_name.ensures.whole (adds_then_part c.in_ok-put_count.ensures.whole
    (adds_then_part c.in_ok-put_text_or_json-2.ensures.whole (adds_front _
    c.in_err-put_drivers.ensures.part)))))))

pub returns-in_err-put_text_or_json-3-clause-part : goal.returns-in_err-put_text_or_json-3-clause-part
returns-in_err-put_text_or_json-3-clause-part g c = at_refusal
    c.from_residual-in_err-put_text_or_json-3.result
    (adds_part_as (ap (λ (bits : List Sig). c.args.before.now ++ (text_or_json c.args.format (codes "in ")
    (codes "{\"port\":\"") ++ (c.args.port.now.name.items ++ (counted c.args.format (codes " ")
    (codes "\",\"bits\":") (length bits) ++ (text_or_json c.args.format (codes " from ") (codes ",\"from\":\"")
    ++ (drivers c.args.net.now bits (length bits) ++ text_or_json c.args.format [] (codes "\"}")))))))
    c.as_slice-bits.ensures) (adds_then_part c.in_ok-write.ensures.whole
    (adds_then_part c.in_ok-put_text_or_json.ensures.whole (adds_then_part c.in_ok-put_name.ensures.whole
    (adds_then_part c.in_ok-put_count.ensures.whole (adds_then_part c.in_ok-put_text_or_json-2.ensures.whole
    (adds_then_part c.in_ok-put_drivers.ensures.whole c.in_err-put_text_or_json-3.ensures.part)))))))

pub returns-clause-whole : goal.returns-clause-whole
returns-clause-whole g c = adds_as (ap (λ (bits : List Sig). c.args.before.now ++ (text_or_json c.args.format
    (codes "in ") (codes "{\"port\":\"") ++ (c.args.port.now.name.items ++ (counted c.args.format (codes " ")
    (codes "\",\"bits\":") (length bits) ++ (text_or_json c.args.format (codes " from ") (codes ",\"from\":\"")
    ++ (drivers c.args.net.now bits (length bits) ++ text_or_json c.args.format [] (codes "\"}")))))))
    c.as_slice-bits.ensures) (adds_both c.in_ok-write.ensures.whole
    (adds_both c.in_ok-put_text_or_json.ensures.whole (adds_both c.in_ok-put_name.ensures.whole
    (adds_both c.in_ok-put_count.ensures.whole (adds_both c.in_ok-put_text_or_json-2.ensures.whole
    (adds_both c.in_ok-put_drivers.ensures.whole c.in_ok-put_text_or_json-3.ensures.whole))))))
