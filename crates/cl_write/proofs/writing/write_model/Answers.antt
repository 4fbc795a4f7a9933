use Rattle.std.proofs.Common.{List, ℕ, ap, subst, sym, ◌++◌, ◌∙◌, false}
use Rattle.toml.specs.Text.{IsDocumentText}
use Rattle.cl_model.specs.Reading.{document_of}
use Rattle.cl_write.specs.{Inner.Printed.model_text, Writing.document}
use Rattle.cl_write.proofs.{PrintedModel.is_document_text, ReadBack.{reads_as_model, reads_as_version}, SomeTexts.printed_document}
use Rattle.cl_write.proofs.writing.write_model.Goals as goal

pub returns-clause-reads : goal.returns-clause-reads
returns-clause-reads c =
    let model = c.args.model.now in
    let is = c.in_ok-put_model.ensures.printed ∙ ap (λ (text : List ℕ). text ++ model_text model) c.new-text.ensures in
    reads_as_model c.put_model.new.text model c.requires c.in_ok-put_model.ensures.named (ap document_of is ∙ printed_document model c.requires c.in_ok-put_model.ensures.named)

pub returns-clause-version : goal.returns-clause-version
returns-clause-version c =
    let model = c.args.model.now in
    let is = c.in_ok-put_model.ensures.printed ∙ ap (λ (text : List ℕ). text ++ model_text model) c.new-text.ensures in
    reads_as_version c.put_model.new.text model (ap document_of is ∙ printed_document model c.requires c.in_ok-put_model.ensures.named)

pub returns-clause-defaults : goal.returns-clause-defaults
returns-clause-defaults c =
    let model = c.args.model.now in
    let is = c.in_ok-put_model.ensures.printed ∙ ap (λ (text : List ℕ). text ++ model_text model) c.new-text.ensures in
    ap document_of is ∙ printed_document model c.requires c.in_ok-put_model.ensures.named

pub returns-clause-printed : goal.returns-clause-printed
returns-clause-printed c =
    let model = c.args.model.now in
    let is = c.in_ok-put_model.ensures.printed ∙ ap (λ (text : List ℕ). text ++ model_text model) c.new-text.ensures in
    subst (IsDocumentText false (document model)) (sym is) (is_document_text model c.requires c.in_ok-put_model.ensures.named)
