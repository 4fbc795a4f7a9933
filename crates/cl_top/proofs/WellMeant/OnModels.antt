-- The commands on a model that print one text of it.
use Rattle.std.proofs.Common.{◌≡◌, ℕ, inl, inr, List, refl, sym, ◌∙◌, arith, subst}
use Rattle.cl_model.specs.{declared.model.SystemModel.SystemModel, Validity.IsValid}
use Rattle.cl_write.specs.Texts.{IsTextOf}
use Rattle.cl_write.proofs.SomeTexts.{some_text}
use Rattle.cl_tight.proofs.TightLaws.{verified_in_time}
use Rattle.cl_cut.proofs.OneCutAnswer.{all_safe, all_no_worse}
use Rattle.cl_report.specs.Report.{IsReportOf}
use Rattle.cl_report.proofs.OneReport.{one_report}
use Rattle.cl_tighten.specs.Tight.{tight_text}
use Rattle.cl_explain.specs.{Explanation.explanation, Promises.IsSafeExplanation}
use Rattle.cl_explain.proofs.SafelyExplained.{safe_explanation}
use Rattle.cl_designs.specs.{Cuts.IsCutTextOf, Orders.{IsOrderTextOf, IsSafeOrderText}, Headroom.{IsHeadroomTextOf, IsSafeHeadroomText}, Margins.{IsMarginTextOf, IsSafeMarginText}}
use Rattle.cl_designs.proofs.{MarginTexts.{some_margin_text, one_margin_text, safe_margin_text}, OneText.{some_cut_text, some_order_text, some_headroom_text, one_cut_text, one_order_text, one_headroom_text}, SafeTexts.{safe_order_text, safe_headroom_text}}
use Rattle.cl_engine.specs.declared.files.Files.TheVariants as files
use Rattle.cl_engine.specs.{Content.{Content, Model}, Done.IsDone, Language.IsOfContent}
use Rattle.cl_top.specs.declared.command.Command.TheVariants as command
use Rattle.cl_top.specs.{Commands.command_meaning, Headline.{IsSafeReportOf, AreSafeCuts, IsSafeTightReport}, Meaning.{printing, takes_no_step, any_steps, at_most, model_steps, task_steps, entry_steps, no_promise, promises, equal, of_one_model, WritesTheSame}, Verified.verify_status}
use Rattle.cl_top.specs.Verified.{IsVerifiedAs, IsShownInTime}
use Rattle.cl_top.proofs.{Meanings.{IsMeantWell, done_some, done_once, model_well}, SafeReport.{some_report, safe_report_of, safe_tight_report, some_verify_text}, VerifyStatus.{verify_content, verified_at_done}}

-- a text of which each valid model has one
module _ (IsText : SystemModel → (text : List ℕ) → Type 0) (takes : Content → (before after : ℕ) → Type 0) (safe : Content → (text : List ℕ) → Type 0)
    (some : (model : SystemModel) → IsValid model → (text : List ℕ) × IsText model text)
    (once : (model : SystemModel) → IsValid model → (one other : List ℕ) → IsText model one → IsText model other → one ≡ other)
    (none : (model : SystemModel) (steps : ℕ) → takes (Model model) steps steps)
    (holds : (model : SystemModel) → IsValid model → (text : List ℕ) → IsText model text → safe (Model model) text) where
  printing_well : IsMeantWell files.Model (printing IsText takes safe) (Unit {0})
  printing_well = model_well takes safe equal (Unit {0}) (λ one other is. is) (λ model. IsDone (IsText model))
      (λ model valid named few. let text = some model valid in done_some (IsText model) text.0 text.1)
      (λ model valid one other h k. done_once (IsText model) (once model valid) one other h k)
      (λ model found is. inl is.status_is) none (λ model valid found is done. holds model valid found.text is.text_is)

-- and one that is the very text of a function of the model
module _ (text_of : SystemModel → List ℕ) (takes : Content → (before after : ℕ) → Type 0) (safe : Content → (text : List ℕ) → Type 0)
    (none : (model : SystemModel) (steps : ℕ) → takes (Model model) steps steps)
    (holds : (model : SystemModel) → IsValid model → (text : List ℕ) → text ≡ text_of model → safe (Model model) text) where
  writing_well : IsMeantWell files.Model (printing (λ model text. text ≡ text_of model) takes safe) (Unit {0})
  writing_well = printing_well (λ model text. text ≡ text_of model) takes safe (λ model valid. (text_of model, refl))
      (λ model valid one other is likewise. is ∙ sym likewise) none holds

pub analysing_well : IsMeantWell files.Model (command_meaning command.Analyse) (Unit {0})
unfolding command_meaning
analysing_well = printing_well IsReportOf (at_most model_steps) (promises IsSafeReportOf) some_report (λ model valid. one_report model) (λ model steps. omega arith)
    (λ model valid text is. safe_report_of model text valid is)

pub migrating_well : IsMeantWell files.Model (command_meaning command.Migrate) (Unit {0})
unfolding command_meaning
migrating_well = model_well takes_no_step no_promise WritesTheSame (Unit {0}) (λ one other is. inl is) (λ model. IsDone (IsTextOf model))
    (λ model valid named few. let text = some_text model valid.in_range named in done_some (IsTextOf model) text.0 text.1)
    (λ model valid one other h k. inr (model, h, k)) (λ model found is. inl is.status_is) (λ model steps. omega arith) (λ model valid found is done. tt)

pub cutting_well : IsMeantWell files.Model (command_meaning command.Cut) (Unit {0})
unfolding command_meaning
cutting_well = printing_well IsCutTextOf any_steps (promises AreSafeCuts) some_cut_text (λ model valid. one_cut_text model) (λ model steps. tt)
    (λ model valid text is. record { cuts = is; safe = all_safe model valid is.answers is.are; no_worse = all_no_worse model valid is.answers is.are })

pub ordering_well : IsMeantWell files.Model (command_meaning command.Order) (Unit {0})
unfolding command_meaning
ordering_well = printing_well IsOrderTextOf any_steps (promises IsSafeOrderText) some_order_text one_order_text (λ model steps. tt) safe_order_text

pub headroom_well : IsMeantWell files.Model (command_meaning command.Headroom) (Unit {0})
unfolding command_meaning
headroom_well = printing_well IsHeadroomTextOf any_steps (promises IsSafeHeadroomText) some_headroom_text one_headroom_text (λ model steps. tt) safe_headroom_text

pub margin_well : IsMeantWell files.Model (command_meaning command.Margin) (Unit {0})
unfolding command_meaning
margin_well = printing_well IsMarginTextOf any_steps (promises IsSafeMarginText) some_margin_text (λ model valid. one_margin_text model) (λ model steps. tt) safe_margin_text

pub tightening_well : IsMeantWell files.Model (command_meaning command.Tighten) (Unit {0})
unfolding command_meaning
tightening_well = writing_well tight_text (at_most task_steps) (promises IsSafeTightReport) (λ model steps. omega arith)
    (λ model valid text is. safe_tight_report model text valid is)

pub explaining_well : IsMeantWell files.Model (command_meaning command.Explain) (Unit {0})
unfolding command_meaning
explaining_well = writing_well explanation (at_most entry_steps) (promises IsSafeExplanation) (λ model steps. omega arith) safe_explanation

pub verifying_well : IsMeantWell files.Model (command_meaning command.Verify) (Unit {0})
unfolding command_meaning
verifying_well = model_well (at_most task_steps) (promises IsShownInTime) (of_one_model IsVerifiedAs) (Unit {0}) (λ one other is. inl is) IsVerifiedAs
    (λ model valid named few. let text = some_verify_text model valid in
    (record { status = verify_status model; text = text.0 }, record { status_is = refl; text_is = text.1 }))
    (λ model valid one other h k. inr (model, h, k))
    (λ model found is. subst IsOfContent (sym is.status_is) (verify_content model)) (λ model steps. omega arith)
    (λ model valid found is done. record {
      in_time = verified_in_time model valid (verified_at_done model (sym is.status_is ∙ done));
      decided = is.text_is;
    })
