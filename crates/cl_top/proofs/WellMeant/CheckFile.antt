-- `check` with a second file: what to mend in a list of edits or a trace.
use Rattle.std.proofs.Common.{◌≡◌, ◌⊎◌, ℕ, ◌+◌, ◌≤◌, inl, inr, Bool, true, false, List, length, Option, Some, None, refl, sym, ap, ◌∙◌, subst, arith}
use Rattle.std.specs.Prelude.{nat_lt}
use Rattle.std.proofs.lemmas.Bool.{ltb-true}
use Rattle.cl_model.specs.{AreNamed.AreNamed, declared.model.SystemModel.SystemModel, Reading.model_of, Validity.IsValid}
use Rattle.cl_edit.specs.{declared.version.Version.Version, Said.version_named}
use Rattle.cl_runs.specs.{Legal.IsLegal, Run.Run, SystemOf.system_of}
use Rattle.cl_runs.proofs.ModelSystem.{system_sound}
use Rattle.cl_check.specs.declared.run_fault.RunFault.{RunFault, TheVariants.{Illegal, NoMemory}}
use Rattle.cl_observe.proofs.{OneRule.fault_once, LegalOrBroken.{IsBroken, legal_or_broken}}
use Rattle.cl_trace.specs.Rules.{IsTraceOf}
use Rattle.cl_trace.proofs.{OneReading.bad_once, OneTrace.{one_run, no_bad_line}, SomeAnswer.{HasAnswer, some_answer}}
use Rattle.cl_traces.specs.{BadTraceLines.bad_trace_text, SaidOfRules.IsSaidOfRule, Titles.is_titled_trace}
use Rattle.cl_traces.proofs.{OneText.one_text, SomeSaid.some_said}
use Rattle.cl_engine.specs.declared.files.Files.TheVariants as files
use Rattle.cl_engine.specs.{declared.{files.TheConstants.FILE_LIMIT, outcome.Outcome.Outcome, status.TheConstants.DONE}, Content.{Bytes, ModelAnd}, Language.IsOfContent, Outcome.{long_file, MayEnd}}
use Rattle.cl_engine.proofs.Outcomes.{SomeOutcome}
use Rattle.cl_top.specs.{declared.command.TheConstants.TRACE_LIMIT, Commands.{Check.{IsChecked, ChecksTheSame, read_steps, IsSafeAdvice}, CheckFile.{accepted_file, IsAcceptedFile, with_said, all_accepted, edit_mended, line_mended, IsOfListFile, IsOfLimitedList, HasMendedRule}}}
use Rattle.cl_top.specs.{Commands.CheckFile.{IsCheckedRun, IsOfTraceFile, no_title, FileChecks, IsFileChecked, IsRightFile, checking_file}, OfEdits.{line_at, edit_at}, OfTrace.{trace_refused, trace_illegal}, Meaning.of_either}
use Rattle.cl_top.proofs.{AnswersOfRuns.none_broken, Applied.{some_applied, applied_alike}, Meanings.{IsMeantWell, done_some, done_once, either_well}, OfTrace.six_content, WellMeant.{Apply.all_valid, Check.{reading_some, reading_same, reading_status, reading_safe}, Edit.seven_content}}

-- the outcome of a file with which nothing is wrong
accepted_some : SomeOutcome IsAcceptedFile
accepted_some = done_some (λ text. text ≡ accepted_file) accepted_file refl

accepted_once : (one other : Outcome) → IsAcceptedFile one → IsAcceptedFile other → one ≡ other
accepted_once = done_once (λ text. text ≡ accepted_file) (λ text again is likewise. is ∙ sym likewise)

same_status : (found other : Outcome) → found ≡ other → found.status ≡ other.status
same_status found other is = ap (λ (o : Outcome). o.status) is

-- ---- lists

module _ (version : Version) (text : List ℕ) where
  list_some : (model : SystemModel) → IsValid model → AreNamed model → SomeOutcome (IsOfListFile version model text)
  list_some model valid named = some_applied all_accepted (edit_mended text) (line_mended version text) (λ made is_valid is_named. accepted_some) model valid named text

  list_once : (model : SystemModel) → IsValid model → AreNamed model → (one other : Outcome) → IsOfListFile version model text one → IsOfListFile version model text other → one ≡ other
  list_once model valid named one other first second = applied_alike all_accepted (edit_mended text) (line_mended version text) (λ one other. one ≡ other)
      (λ made one other h k. accepted_once one other h k) (λ one other is. is) model valid named text one other first second

  list_content : (model : SystemModel) (found : Outcome) → IsOfListFile version model text found → IsOfContent found.status
  list_content model found (inl has) = elim has.applied_to [
    | inl all ↦ inl all.outcome.status_is
    | inr refused ↦ seven_content found (same_status found (edit_mended text refused.made (line_at has.listed refused.count) (edit_at has.listed refused.count) refused.refusal) refused.printed)
  ]
  list_content model found (inr bad) = seven_content found (same_status found (line_mended version text bad.number) bad.printed)

  list_right : (model : SystemModel) → IsValid model → (found : Outcome) → IsOfListFile version model text found → found.status ≡ DONE → IsRightFile model text found.text
  list_right model valid found (inl has) done = elim has.applied_to [
    | inl all ↦ inl (record {
      listed = has.listed;
      are = has.are;
      made = all.made;
      applied = all.applied;
      valid = all_valid model valid text has.listed has.are all.made all.applied;
    })
    | inr refused ↦ absurd (omega (
      arith,
      done,
      same_status found (edit_mended text refused.made (line_at has.listed refused.count) (edit_at has.listed refused.count) refused.refusal) refused.printed,
    ))
  ]
  list_right model valid found (inr bad) done = absurd (omega (arith, done, same_status found (line_mended version text bad.number) bad.printed))

  -- ---- and lists that are too long

  limited_some : (is_long : Bool) (model : SystemModel) → IsValid model → AreNamed model → SomeOutcome (IsOfLimitedList is_long version model text)
  limited_some true model valid named = (long_file 2, refl)
  limited_some false model valid named = list_some model valid named

  limited_once : (is_long : Bool) (model : SystemModel) → IsValid model → AreNamed model → (one other : Outcome)
      → IsOfLimitedList is_long version model text one → IsOfLimitedList is_long version model text other → one ≡ other
  limited_once true model valid named one other first second = first ∙ sym second
  limited_once false model valid named one other first second = list_once model valid named one other first second

  limited_ends : (is_long : Bool) → nat_lt FILE_LIMIT (length text) ≡ is_long → (model : SystemModel) (found : Outcome) → IsOfLimitedList is_long version model text found
      → MayEnd (ModelAnd model text) (files.ContentAnd TRACE_LIMIT) found
  limited_ends true long model found is = inr (ltb-true FILE_LIMIT (length text) long, is)
  limited_ends false long model found is = inl (list_content model found is)

  limited_right : (is_long : Bool) (model : SystemModel) → IsValid model → (found : Outcome) → IsOfLimitedList is_long version model text found → found.status ≡ DONE
      → IsRightFile model text found.text
  limited_right true model valid found is done = absurd (omega (arith, done, same_status found (long_file 2) is))
  limited_right false model valid found is done = list_right model valid found is done

-- ---- traces

module _ (model : SystemModel) (valid : IsValid model) (run : Run) where
  -- what a fault is answered by, with this said of it
  abbrev mended : RunFault → List ℕ → Outcome
  mended (Illegal rule place tick) said = with_said (trace_illegal model rule place tick) said
  mended NoMemory said = with_said (trace_refused 0) said

  -- this is said of a fault
  abbrev Says : RunFault → List ℕ → Type 0
  Says (Illegal rule place tick) said = IsSaidOfRule model run rule place tick said
  Says NoMemory said = ⊥

  -- a run breaks one rule first, and one text says what to mend for it
  rule_once : (one other : Outcome) → HasMendedRule model run one → HasMendedRule model run other → one ≡ other
  rule_once one other first second =
      let fault : RunFault = Illegal first.rule first.place first.tick in
      let again : RunFault = Illegal second.rule second.place second.tick in
      let same : fault ≡ again = fault_once (system_of model) run fault again first.broken second.broken in
      let says : Says again first.said = subst (λ f. Says f first.said) same first.says in
      first.printed ∙ ap (λ f. mended f first.said) same
      ∙ ap (mended again) (one_text model valid run second.rule second.place second.tick first.said second.said says second.says)
      ∙ sym second.printed

-- what is said of a trace stands behind a status of its content
trace_content : (model : SystemModel) (text : List ℕ) (found : Outcome) → IsOfTraceFile model text found → IsOfContent found.status
trace_content model text found (inl has) = elim has.of_run [
  | inl legal ↦ inl legal.accepted.status_is
  | inr mended ↦ six_content found (same_status found (with_said (trace_illegal model mended.rule mended.place mended.tick) mended.said) mended.printed)
]
trace_content model text found (inr bad) = six_content found (same_status found (with_said (trace_refused bad.number) (bad_trace_text model text bad.number)) bad.printed)

module _ (model : SystemModel) (valid : IsValid model) (text : List ℕ) where
  run_some : (run : Run) → IsTraceOf model text run → SomeOutcome (IsOfTraceFile model text)
  run_some run trace = by_rule (legal_or_broken (system_of model) (system_sound model valid) run trace.in_form)
    where
      by_rule : IsLegal (system_of model) run ⊎ IsBroken (system_of model) run → SomeOutcome (IsOfTraceFile model text)
      by_rule (inl legal) = (accepted_some.0, inl (record { run = run; trace = trace; of_run = inl (record { legal = legal; accepted = accepted_some.1 }) }))
      by_rule (inr broken) =
          let said = some_said model valid run trace.in_form broken.0 broken.1 broken.2 broken.3 in (
            with_said (trace_illegal model broken.0 broken.1 broken.2) said.0,
            inl (record {
              run = run;
              trace = trace;
              of_run = inr (record { rule = broken.0; place = broken.1; tick = broken.2; broken = broken.3; said = said.0; says = said.1; printed = refl });
            }),
          )

  trace_some : AreNamed model → SomeOutcome (IsOfTraceFile model text)
  trace_some named = by_answer (some_answer model valid named text)
    where
      by_answer : HasAnswer model text → SomeOutcome (IsOfTraceFile model text)
      by_answer (inl found) = run_some found.0 found.1
      by_answer (inr bad) = (with_said (trace_refused bad.0) (bad_trace_text model text bad.0), inr (record { number = bad.0; bad = bad.1; printed = refl }))

  run_once : (run : Run) (one other : Outcome) → IsCheckedRun model run one → IsCheckedRun model run other → one ≡ other
  run_once run one other (inl first) (inl second) = accepted_once one other first.accepted second.accepted
  run_once run one other (inl first) (inr second) = none_broken model run second.rule second.place second.tick first.legal second.broken
  run_once run one other (inr first) (inl second) = none_broken model run first.rule first.place first.tick second.legal first.broken
  run_once run one other (inr first) (inr second) = rule_once model valid run one other first second

  trace_once : AreNamed model → (one other : Outcome) → IsOfTraceFile model text one → IsOfTraceFile model text other → one ≡ other
  trace_once named one other (inl first) (inl second) =
      run_once second.run one other (subst (λ run. IsCheckedRun model run one) (one_run model valid named text first.run second.run first.trace second.trace) first.of_run) second.of_run
  trace_once named one other (inl first) (inr second) = absurd (no_bad_line model valid named text first.run second.number first.trace second.bad)
  trace_once named one other (inr first) (inl second) = absurd (no_bad_line model valid named text second.run first.number second.trace first.bad)
  trace_once named one other (inr first) (inr second) =
      first.printed ∙ ap (λ number. with_said (trace_refused number) (bad_trace_text model text number))
      (bad_once model valid named text first.number second.number first.bad second.bad) ∙ sym second.printed

  trace_right : (found : Outcome) → IsOfTraceFile model text found → found.status ≡ DONE → IsRightFile model text found.text
  trace_right found (inl has) done = elim has.of_run [
    | inl legal ↦ inr (record { run = has.run; trace = has.trace; legal = legal.legal })
    | inr mended ↦ absurd (omega (arith, done, same_status found (with_said (trace_illegal model mended.rule mended.place mended.tick) mended.said) mended.printed))
  ]
  trace_right found (inr bad) done =
      absurd (omega (arith, done, same_status found (with_said (trace_refused bad.number) (bad_trace_text model text bad.number)) bad.printed))

-- ---- by what the first line says

file_some : (model : SystemModel) → IsValid model → AreNamed model → (text : List ℕ) (named_as : Option Version) (is_trace : Bool) → SomeOutcome (FileChecks named_as is_trace model text)
file_some model valid named text (Some version) is_trace = limited_some version text (nat_lt FILE_LIMIT (length text)) model valid named
file_some model valid named text None true = trace_some model valid text named
file_some model valid named text None false = (no_title, refl)

file_once : (model : SystemModel) → IsValid model → AreNamed model → (text : List ℕ) (named_as : Option Version) (is_trace : Bool) (one other : Outcome)
    → FileChecks named_as is_trace model text one → FileChecks named_as is_trace model text other → one ≡ other
file_once model valid named text (Some version) is_trace one other first second = limited_once version text (nat_lt FILE_LIMIT (length text)) model valid named one other first second
file_once model valid named text None true one other first second = trace_once model valid text named one other first second
file_once model valid named text None false one other first second = first ∙ sym second

file_ends : (model : SystemModel) (text : List ℕ) (named_as : Option Version) (is_trace : Bool) (found : Outcome) → FileChecks named_as is_trace model text found
    → MayEnd (ModelAnd model text) (files.ContentAnd TRACE_LIMIT) found
file_ends model text (Some version) is_trace found is = limited_ends version text (nat_lt FILE_LIMIT (length text)) refl model found is
file_ends model text None true found is = inl (trace_content model text found is)
file_ends model text None false found is = inl (seven_content found (same_status found no_title is))

file_right : (model : SystemModel) → IsValid model → (text : List ℕ) (named_as : Option Version) (is_trace : Bool) (found : Outcome) → FileChecks named_as is_trace model text found
    → found.status ≡ DONE → IsRightFile model text found.text
file_right model valid text (Some version) is_trace found is done = limited_right version text (nat_lt FILE_LIMIT (length text)) model valid found is done
file_right model valid text None true found is done = trace_right model valid text found is done
file_right model valid text None false found is done = absurd (omega (arith, done, same_status found no_title is))

-- ---- and the bytes of a model that is refused

bytes_end : (bytes : List ℕ) (found : Outcome) → IsChecked bytes found → MayEnd (Bytes bytes) (files.ContentAnd TRACE_LIMIT) found
bytes_end bytes found is = elim (reading_status bytes (model_of bytes) found is) [ inl done ↦ inl (inl done) | inr refused ↦ inr refused ]

pub checking_file_well : IsMeantWell (files.ContentAnd TRACE_LIMIT) checking_file (Unit {0})
checking_file_well = either_well
    (of_either (λ bytes before after. after ≤ before + read_steps (model_of bytes)) (λ model text before after. after ≤ before) (λ before after. ⊥))
    (of_either IsSafeAdvice IsRightFile (λ text. ⊥)) ChecksTheSame (Unit {0}) (λ one other is. inl is) TRACE_LIMIT IsChecked IsFileChecked
    (λ bytes. reading_some bytes (model_of bytes))
    (λ model valid named text. file_some model valid named text (version_named text) (is_titled_trace text))
    (λ bytes one other h k. reading_same one other bytes (model_of bytes) h k)
    (λ model valid named text one other h k. inl (file_once model valid named text (version_named text) (is_titled_trace text) one other h k))
    bytes_end
    (λ model text found is. file_ends model text (version_named text) (is_titled_trace text) found is)
    (λ bytes steps. omega arith) (λ model text steps. omega arith)
    (λ bytes found is done. reading_safe bytes found done (model_of bytes) refl is)
    (λ model valid text found is done. file_right model valid text (version_named text) (is_titled_trace text) found is done)
