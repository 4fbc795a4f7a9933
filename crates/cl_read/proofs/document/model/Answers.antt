use Rattle.std.proofs.Common.{ap}
use Rattle.toml.specs.View.{table_view}
use Rattle.cl_model.specs.Reading.{model_checks}
use Rattle.cl_model.proofs.FirstRefusals.{answers_behind}
use Rattle.cl_read.proofs.document.model.Goals as goal

pub returns : goal.returns
unfolding model_checks
returns c =
    answers_behind c.all_sections.result _ _ _ c.in_ok-format.ensures.0
    (answers_behind c.all_sections.result _ _ _ c.in_ok-version.ensures.0
    (answers_behind c.all_sections.result _ _ _ (rw c.top.ensures at c.in_ok-found.ensures.checked)
    (rw (ap table_view c.in_ok-found.ensures.table, c.in_ok-version.ensures.1) at c.all_sections.ensures)))
