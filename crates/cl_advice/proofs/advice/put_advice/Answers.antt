use Rattle.std.proofs.Common.{sym}
use Rattle.cl_model.proofs.DocumentTexts.{document_of-text}
use Rattle.cl_advice.proofs.Documents.{no_document}
use Rattle.cl_advice.proofs.advice.put_advice.Goals as goal

pub returns-in-Ok : goal.returns-in-Ok
returns-in-Ok c =
    let text = c.in-Ok.ensures.cases in
    rw (document_of-text c.args.bytes.now text.1, sym text.0) c.put_of_text.ensures

pub returns-in-Err : goal.returns-in-Err
returns-in-Err c = rw (no_document c.args.bytes.now c.in-Err.ensures.cases.0) c.put_no_document.ensures
