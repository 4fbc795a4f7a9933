use Rattle.std.proofs.Common.{refl, sym}
use Rattle.cl_model.proofs.DocumentTexts.{document_of-text}
use Rattle.cl_read.proofs.Texts.{document_of-other}
use Rattle.cl_read.proofs.document.document.Goals as goal

pub returns-in-Ok : goal.returns-in-Ok
returns-in-Ok c =
    let text = c.in-Ok.ensures.cases in
    rw (document_of-text c.args.bytes.now text.1, sym text.0) c.parsed.ensures

pub returns-in-Err : goal.returns-in-Err
returns-in-Err c = rw (c.refused.ensures, c.top.ensures) (document_of-other c.args.bytes.now c.in-Err.ensures.cases.0, refl)
