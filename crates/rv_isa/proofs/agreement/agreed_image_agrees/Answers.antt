use Rattle.rv_isa.proofs.ImageAgreements.{image_agrees, image_keeps_up}
use Rattle.rv_isa.proofs.agreement.agreed_image_agrees.Goals as goal

pub returns-clause-agrees : goal.returns-clause-agrees
returns-clause-agrees g c =
    let a = g.A.AgreedImage in
    image_agrees a.instruction_set a.machine a.told a.exit_of a.credit a.up a.first a.processor a.agree a.silent a.differ

pub returns-clause-keeps_up : goal.returns-clause-keeps_up
returns-clause-keeps_up g c =
    let a = g.A.AgreedImage in
    image_keeps_up a.instruction_set a.machine a.told a.exit_of a.credit a.up a.first a.processor a.agree a.silent
