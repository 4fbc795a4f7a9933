-- The commands that name no file.
use Rattle.std.proofs.Common.{◌≡◌, ℕ, ◌+◌, ◌≤◌, inl, inr, List, refl, sym, ◌∙◌, arith}
use Rattle.cl_analyse.proofs.SomeFindings.{some_findings}
use Rattle.cl_gen.specs.{Words.word_of, Generated.generated}
use Rattle.cl_gen.proofs.{GeneratedRanges.are_named, ValidGenerated.words_valid}
use Rattle.cl_report.specs.Survey.{survey_text, IsSurveyOf}
use Rattle.cl_report.proofs.OneSurvey.{one_survey}
use Rattle.cl_write.specs.Texts.{IsTextOf}
use Rattle.cl_write.proofs.SomeTexts.{some_text}
use Rattle.cl_engine.specs.declared.files.Files.TheVariants as files
use Rattle.cl_engine.specs.Done.{IsDone}
use Rattle.cl_engine.proofs.Outcomes.{SomeOutcome}
use Rattle.cl_top.specs.declared.command.Command.TheVariants as command
use Rattle.cl_top.specs.{Commands.{saying, command_meaning}, Meaning.{takes_no_step, model_steps, no_promise, equal, WritesTheSame}}
use Rattle.cl_top.proofs.{Meanings.{IsMeantWell, done_some, done_once, alone_well}, Words.IsFew}

-- what writes a text that is given
pub saying_well : (text : List ℕ) → IsMeantWell files.Nothing (saying text) (Unit {0})
saying_well text =
    alone_well takes_no_step no_promise equal (Unit {0}) (λ one other is. is) (IsDone (λ written. written ≡ text)) (λ _. done_some (λ written. written ≡ text) text refl)
    (λ one other h k. done_once (λ written. written ≡ text) (λ written again is likewise. is ∙ sym likewise) one other h k)
    (λ found is. inl is.status_is) (λ steps. omega arith) (λ found is done. tt)

module _ (seed tasks : ℕ) where
  -- a generated model has a text and a survey
  generated_some : IsFew tasks → SomeOutcome (IsDone (IsTextOf (generated seed tasks)))
  generated_some few =
      let text = some_text (generated seed tasks) (words_valid (word_of seed) tasks few.1).in_range (are_named (word_of seed) tasks few.1) in
      done_some (IsTextOf (generated seed tasks)) text.0 text.1

  surveyed_some : IsFew tasks → SomeOutcome (IsDone (IsSurveyOf (generated seed tasks)))
  surveyed_some few =
      let (findings, found) = some_findings (generated seed tasks) (words_valid (word_of seed) tasks few.1) in
      done_some (IsSurveyOf (generated seed tasks)) (survey_text findings) (record { findings = findings; found = found; printed = refl })

  pub generating_well : IsMeantWell files.Nothing (command_meaning (command.Generate seed tasks)) (IsFew tasks)
  unfolding command_meaning
  generating_well =
      alone_well takes_no_step no_promise WritesTheSame (IsFew tasks) (λ one other is. inl is) (IsDone (IsTextOf (generated seed tasks))) generated_some
      (λ one other h k. inr (generated seed tasks, h, k)) (λ found is. inl is.status_is) (λ steps. omega arith) (λ found is done. tt)

  pub surveying_well : IsMeantWell files.Nothing (command_meaning (command.Survey seed tasks)) (IsFew tasks)
  unfolding command_meaning
  surveying_well =
      alone_well (λ content before after. after ≤ before + model_steps (generated seed tasks)) no_promise equal (IsFew tasks) (λ one other is. is)
      (IsDone (IsSurveyOf (generated seed tasks))) surveyed_some
      (done_once (IsSurveyOf (generated seed tasks)) (one_survey (generated seed tasks))) (λ found is. inl is.status_is) (λ steps. omega arith) (λ found is done. tt)
