use Rattle.ij_io.proofs.Adding.{at_refusal}
use Rattle.icl_printer.proofs.parts.BindPut.put.Goals as goal

pub returns-in_err-put_port_binding-in-Port-clause-part :
    goal.returns-in_err-put_port_binding-in-Port-clause-part
returns-in_err-put_port_binding-in-Port-clause-part g c =
    at_refusal c.from_residual.result (rw c.in-Port.is c.in_err-put_port_binding-in-Port.ensures.part)

pub returns-in_ok-put_port_binding-in-Port-clause-whole :
    goal.returns-in_ok-put_port_binding-in-Port-clause-whole
returns-in_ok-put_port_binding-in-Port-clause-whole g c =
    rw c.in-Port.is c.in_ok-put_port_binding-in-Port.ensures.whole

pub returns-in_err-put_parameter_binding-in-Parameter-clause-part :
    goal.returns-in_err-put_parameter_binding-in-Parameter-clause-part
returns-in_err-put_parameter_binding-in-Parameter-clause-part g c =
    at_refusal c.from_residual-in_err-put_parameter_binding-in-Parameter.result
    (rw c.in-Parameter.is c.in_err-put_parameter_binding-in-Parameter.ensures.part)

pub returns-in_ok-put_parameter_binding-in-Parameter-clause-whole :
    goal.returns-in_ok-put_parameter_binding-in-Parameter-clause-whole
returns-in_ok-put_parameter_binding-in-Parameter-clause-whole g c =
    rw c.in-Parameter.is c.in_ok-put_parameter_binding-in-Parameter.ensures.whole

pub returns-in_err-put_attribute-in-Attribute-clause-part :
    goal.returns-in_err-put_attribute-in-Attribute-clause-part
returns-in_err-put_attribute-in-Attribute-clause-part g c =
    at_refusal c.from_residual-in_err-put_attribute-in-Attribute.result
    (rw c.in-Attribute.is c.in_err-put_attribute-in-Attribute.ensures.part)

pub returns-in_ok-put_attribute-in-Attribute-clause-whole :
    goal.returns-in_ok-put_attribute-in-Attribute-clause-whole
returns-in_ok-put_attribute-in-Attribute-clause-whole g c =
    rw c.in-Attribute.is c.in_ok-put_attribute-in-Attribute.ensures.whole
