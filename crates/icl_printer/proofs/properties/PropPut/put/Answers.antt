use Rattle.ij_io.proofs.Adding.{at_refusal}
use Rattle.icl_printer.proofs.properties.PropPut.put.Goals as goal

pub returns-in_err-put_property-in-Source-clause-part : goal.returns-in_err-put_property-in-Source-clause-part
returns-in_err-put_property-in-Source-clause-part g c =
    at_refusal c.from_residual.result (rw c.in-Source.is c.in_err-put_property-in-Source.ensures.part)

pub returns-in_ok-put_property-in-Source-clause-whole : goal.returns-in_ok-put_property-in-Source-clause-whole
returns-in_ok-put_property-in-Source-clause-whole g c =
    rw c.in-Source.is c.in_ok-put_property-in-Source.ensures.whole

pub returns-in_err-put_property-in-LaunchEdge-clause-part :
    goal.returns-in_err-put_property-in-LaunchEdge-clause-part
returns-in_err-put_property-in-LaunchEdge-clause-part g c =
    at_refusal c.from_residual-in_err-put_property-in-LaunchEdge.result
    (rw c.in-LaunchEdge.is c.in_err-put_property-in-LaunchEdge.ensures.part)

pub returns-in_ok-put_property-in-LaunchEdge-clause-whole :
    goal.returns-in_ok-put_property-in-LaunchEdge-clause-whole
returns-in_ok-put_property-in-LaunchEdge-clause-whole g c =
    rw c.in-LaunchEdge.is c.in_ok-put_property-in-LaunchEdge.ensures.whole

pub returns-in_err-put_property-in-DefaultLoadValue-clause-part :
    goal.returns-in_err-put_property-in-DefaultLoadValue-clause-part
returns-in_err-put_property-in-DefaultLoadValue-clause-part g c =
    at_refusal c.from_residual-in_err-put_property-in-DefaultLoadValue.result
    (rw c.in-DefaultLoadValue.is c.in_err-put_property-in-DefaultLoadValue.ensures.part)

pub returns-in_ok-put_property-in-DefaultLoadValue-clause-whole :
    goal.returns-in_ok-put_property-in-DefaultLoadValue-clause-whole
returns-in_ok-put_property-in-DefaultLoadValue-clause-whole g c =
    rw c.in-DefaultLoadValue.is c.in_ok-put_property-in-DefaultLoadValue.ensures.whole

pub returns-in_err-put_property-in-RefEnum-clause-part :
    goal.returns-in_err-put_property-in-RefEnum-clause-part
returns-in_err-put_property-in-RefEnum-clause-part g c =
    at_refusal c.from_residual-in_err-put_property-in-RefEnum.result
    (rw c.in-RefEnum.is c.in_err-put_property-in-RefEnum.ensures.part)

pub returns-in_ok-put_property-in-RefEnum-clause-whole :
    goal.returns-in_ok-put_property-in-RefEnum-clause-whole
returns-in_ok-put_property-in-RefEnum-clause-whole g c =
    rw c.in-RefEnum.is c.in_ok-put_property-in-RefEnum.ensures.whole

pub returns-in_err-put_tokens-in-ActivePolarity-clause-part :
    goal.returns-in_err-put_tokens-in-ActivePolarity-clause-part
returns-in_err-put_tokens-in-ActivePolarity-clause-part g c =
    at_refusal c.from_residual-in_err-put_tokens-in-ActivePolarity.result
    (rw c.in-ActivePolarity.is c.in_err-put_tokens-in-ActivePolarity.ensures.part)

pub returns-in_ok-put_tokens-in-ActivePolarity-clause-whole :
    goal.returns-in_ok-put_tokens-in-ActivePolarity-clause-whole
returns-in_ok-put_tokens-in-ActivePolarity-clause-whole g c =
    rw c.in-ActivePolarity.is c.in_ok-put_tokens-in-ActivePolarity.ensures.whole

pub returns-in_err-put_property-in-ScanInSource-clause-part :
    goal.returns-in_err-put_property-in-ScanInSource-clause-part
returns-in_err-put_property-in-ScanInSource-clause-part g c =
    at_refusal c.from_residual-in_err-put_property-in-ScanInSource.result
    (rw c.in-ScanInSource.is c.in_err-put_property-in-ScanInSource.ensures.part)

pub returns-in_ok-put_property-in-ScanInSource-clause-whole :
    goal.returns-in_ok-put_property-in-ScanInSource-clause-whole
returns-in_ok-put_property-in-ScanInSource-clause-whole g c =
    rw c.in-ScanInSource.is c.in_ok-put_property-in-ScanInSource.ensures.whole

pub returns-in_err-put_property-in-CaptureSource-clause-part :
    goal.returns-in_err-put_property-in-CaptureSource-clause-part
returns-in_err-put_property-in-CaptureSource-clause-part g c =
    at_refusal c.from_residual-in_err-put_property-in-CaptureSource.result
    (rw c.in-CaptureSource.is c.in_err-put_property-in-CaptureSource.ensures.part)

pub returns-in_ok-put_property-in-CaptureSource-clause-whole :
    goal.returns-in_ok-put_property-in-CaptureSource-clause-whole
returns-in_ok-put_property-in-CaptureSource-clause-whole g c =
    rw c.in-CaptureSource.is c.in_ok-put_property-in-CaptureSource.ensures.whole

pub returns-in_err-put_property-in-ResetValue-clause-part :
    goal.returns-in_err-put_property-in-ResetValue-clause-part
returns-in_err-put_property-in-ResetValue-clause-part g c =
    at_refusal c.from_residual-in_err-put_property-in-ResetValue.result
    (rw c.in-ResetValue.is c.in_err-put_property-in-ResetValue.ensures.part)

pub returns-in_ok-put_property-in-ResetValue-clause-whole :
    goal.returns-in_ok-put_property-in-ResetValue-clause-whole
returns-in_ok-put_property-in-ResetValue-clause-whole g c =
    rw c.in-ResetValue.is c.in_ok-put_property-in-ResetValue.ensures.whole

pub returns-in_err-put_tokens-in-AccessTogether-clause-part :
    goal.returns-in_err-put_tokens-in-AccessTogether-clause-part
returns-in_err-put_tokens-in-AccessTogether-clause-part g c =
    at_refusal c.from_residual-in_err-put_tokens-in-AccessTogether.result
    (rw c.in-AccessTogether.is c.in_err-put_tokens-in-AccessTogether.ensures.part)

pub returns-in_ok-put_tokens-in-AccessTogether-clause-whole :
    goal.returns-in_ok-put_tokens-in-AccessTogether-clause-whole
returns-in_ok-put_tokens-in-AccessTogether-clause-whole g c =
    rw c.in-AccessTogether.is c.in_ok-put_tokens-in-AccessTogether.ensures.whole
