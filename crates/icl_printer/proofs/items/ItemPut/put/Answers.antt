use Rattle.ij_io.proofs.Adding.{at_refusal}
use Rattle.icl_printer.proofs.items.ItemPut.put.Goals as goal

pub returns-in_err-put_port-in-Port-clause-part : goal.returns-in_err-put_port-in-Port-clause-part
returns-in_err-put_port-in-Port-clause-part g c =
    at_refusal c.from_residual.result (rw c.in-Port.is c.in_err-put_port-in-Port.ensures.part)

pub returns-in_ok-put_port-in-Port-clause-whole : goal.returns-in_ok-put_port-in-Port-clause-whole
returns-in_ok-put_port-in-Port-clause-whole g c = rw c.in-Port.is c.in_ok-put_port-in-Port.ensures.whole

pub returns-in_err-put_register-in-Register-clause-part :
    goal.returns-in_err-put_register-in-Register-clause-part
returns-in_err-put_register-in-Register-clause-part g c =
    at_refusal c.from_residual-in_err-put_register-in-Register.result
    (rw c.in-Register.is c.in_err-put_register-in-Register.ensures.part)

pub returns-in_ok-put_register-in-Register-clause-whole :
    goal.returns-in_ok-put_register-in-Register-clause-whole
returns-in_ok-put_register-in-Register-clause-whole g c =
    rw c.in-Register.is c.in_ok-put_register-in-Register.ensures.whole

pub returns-in_err-put_mux-in-Mux-clause-part : goal.returns-in_err-put_mux-in-Mux-clause-part
returns-in_err-put_mux-in-Mux-clause-part g c = at_refusal c.from_residual-in_err-put_mux-in-Mux.result
    (rw c.in-Mux.is c.in_err-put_mux-in-Mux.ensures.part)

pub returns-in_ok-put_mux-in-Mux-clause-whole : goal.returns-in_ok-put_mux-in-Mux-clause-whole
returns-in_ok-put_mux-in-Mux-clause-whole g c = rw c.in-Mux.is c.in_ok-put_mux-in-Mux.ensures.whole

pub returns-in_err-put_child-in-Child-clause-part : goal.returns-in_err-put_child-in-Child-clause-part
returns-in_err-put_child-in-Child-clause-part g c =
    at_refusal c.from_residual-in_err-put_child-in-Child.result
    (rw c.in-Child.is c.in_err-put_child-in-Child.ensures.part)

pub returns-in_ok-put_child-in-Child-clause-whole : goal.returns-in_ok-put_child-in-Child-clause-whole
returns-in_ok-put_child-in-Child-clause-whole g c = rw c.in-Child.is c.in_ok-put_child-in-Child.ensures.whole

pub returns-in_err-put_alias-in-Alias-clause-part : goal.returns-in_err-put_alias-in-Alias-clause-part
returns-in_err-put_alias-in-Alias-clause-part g c =
    at_refusal c.from_residual-in_err-put_alias-in-Alias.result
    (rw c.in-Alias.is c.in_err-put_alias-in-Alias.ensures.part)

pub returns-in_ok-put_alias-in-Alias-clause-whole : goal.returns-in_ok-put_alias-in-Alias-clause-whole
returns-in_ok-put_alias-in-Alias-clause-whole g c = rw c.in-Alias.is c.in_ok-put_alias-in-Alias.ensures.whole

pub returns-in_err-put_words-in-Words-clause-part : goal.returns-in_err-put_words-in-Words-clause-part
returns-in_err-put_words-in-Words-clause-part g c =
    at_refusal c.from_residual-in_err-put_words-in-Words.result
    (rw c.in-Words.is c.in_err-put_words-in-Words.ensures.part)

pub returns-in_ok-put_words-in-Words-clause-whole : goal.returns-in_ok-put_words-in-Words-clause-whole
returns-in_ok-put_words-in-Words-clause-whole g c = rw c.in-Words.is c.in_ok-put_words-in-Words.ensures.whole

pub returns-in_err-put_parameter-in-Parameter-clause-part :
    goal.returns-in_err-put_parameter-in-Parameter-clause-part
returns-in_err-put_parameter-in-Parameter-clause-part g c =
    at_refusal c.from_residual-in_err-put_parameter-in-Parameter.result
    (rw c.in-Parameter.is c.in_err-put_parameter-in-Parameter.ensures.part)

pub returns-in_ok-put_parameter-in-Parameter-clause-whole :
    goal.returns-in_ok-put_parameter-in-Parameter-clause-whole
returns-in_ok-put_parameter-in-Parameter-clause-whole g c =
    rw c.in-Parameter.is c.in_ok-put_parameter-in-Parameter.ensures.whole

pub returns-in_err-put_interface-in-Interface-clause-part :
    goal.returns-in_err-put_interface-in-Interface-clause-part
returns-in_err-put_interface-in-Interface-clause-part g c =
    at_refusal c.from_residual-in_err-put_interface-in-Interface.result
    (rw c.in-Interface.is c.in_err-put_interface-in-Interface.ensures.part)

pub returns-in_ok-put_interface-in-Interface-clause-whole :
    goal.returns-in_ok-put_interface-in-Interface-clause-whole
returns-in_ok-put_interface-in-Interface-clause-whole g c =
    rw c.in-Interface.is c.in_ok-put_interface-in-Interface.ensures.whole

pub returns-in_err-put_link-in-Link-clause-part : goal.returns-in_err-put_link-in-Link-clause-part
returns-in_err-put_link-in-Link-clause-part g c = at_refusal c.from_residual-in_err-put_link-in-Link.result
    (rw c.in-Link.is c.in_err-put_link-in-Link.ensures.part)

pub returns-in_ok-put_link-in-Link-clause-whole : goal.returns-in_ok-put_link-in-Link-clause-whole
returns-in_ok-put_link-in-Link-clause-whole g c = rw c.in-Link.is c.in_ok-put_link-in-Link.ensures.whole

pub returns-in_err-put_attribute-in-Attribute-clause-part :
    goal.returns-in_err-put_attribute-in-Attribute-clause-part
returns-in_err-put_attribute-in-Attribute-clause-part g c =
    at_refusal c.from_residual-in_err-put_attribute-in-Attribute.result
    (rw c.in-Attribute.is c.in_err-put_attribute-in-Attribute.ensures.part)

pub returns-in_ok-put_attribute-in-Attribute-clause-whole :
    goal.returns-in_ok-put_attribute-in-Attribute-clause-whole
returns-in_ok-put_attribute-in-Attribute-clause-whole g c =
    rw c.in-Attribute.is c.in_ok-put_attribute-in-Attribute.ensures.whole
