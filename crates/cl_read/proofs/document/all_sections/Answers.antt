use Rattle.std.proofs.Common.{refl}
use Rattle.cl_model.specs.Reading.{model_meaning}
use Rattle.cl_model.proofs.FirstRefusals.{none_of_both}
use Rattle.cl_read.proofs.document.all_sections.Goals as goal

pub returns : goal.returns
unfolding model_meaning
returns c = (
  none_of_both _ _ c.in_ok-section.ensures.0
      (none_of_both _ _ c.in_ok-section-2.ensures.0
      (none_of_both _ _ c.in_ok-section-3.ensures.0
      (none_of_both _ _ c.in_ok-section-4.ensures.0 (none_of_both _ _ c.in_ok-section-5.ensures.0 (none_of_both _ _ c.in_ok-section-6.ensures.0 refl))))),
  rw (
    c.in_ok-section.ensures.1,
    c.in_ok-section-2.ensures.1,
    c.in_ok-section-3.ensures.1,
    c.in_ok-section-4.ensures.1,
    c.in_ok-section-5.ensures.1,
    c.in_ok-section-6.ensures.1,
    c.requires.version,
  )
      refl,
)
