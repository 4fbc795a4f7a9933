-- The commands of the program as the engine takes them: each has an outcome, outcomes of the same words say the same, and
-- what is printed is safe.
use Rattle.std.proofs.Common.{◌≡◌, ℕ, List, [], ◌∷◌, Option, Some, None, refl, sym, ap, ◌∙◌, subst, length, inl, inr, arith, ◌≤◌}
use Rattle.cl_io.specs.{Shelf.{Held, Content as Told, MayBe}, Sink.appended}
use Rattle.cl_engine.specs.{declared.{files.{Files.Files, TheConstants.FILE_LIMIT}, outcome.Outcome.Outcome, status.TheConstants.{DONE, EDITS_REFUSED, NOT_VERIFIED}}, Calls.{ShelfCall, SinkCall}, Content.{Content, Nothing, Bytes as Whole, Model, ModelAnd, Fits, Means}, Fetched.Fetched}
use Rattle.cl_engine.specs.{Fetched.{Bytes, MayGive, EachFile, WasFetched, TellsFiles, told_fetch}, Files.{File, model_file, files_named, word}, SoundCall.IsSoundCall, Language.{IsOfContent, files_asked, files_of as files_of_words}, Outcome.{words_refused, MayEnd, HasOutcome}, Run.ComesAs}
use Rattle.cl_engine.specs.Run.{ComesTo, IsCarriedOut, CallEnds}
use Rattle.cl_engine.specs.declared.files.Files.TheVariants as files
use Rattle.cl_engine.proofs.{Openings.valid_read, Outcomes.{IsOpened, SomeOutcome, some_opens, same_opens, IsOfTold, opens_of_told, done_model, no_want}, Tellings.{IsToldOwn, told_own}}
use Rattle.cl_verify.specs.VerifyText.{IsVerifyTextOf}
use Rattle.cl_top.specs.{declared.command.Command.{Command, TheVariants.{Analyse, Verify, Edit}}, Command.{files_read, command_of}, Commands.{command_meaning, commands, IsOutcomeOf, TakesStepsOf, SaysTheSame, Edit.StopsSafely}, Headline.{HasReported, HasReportedSome}, Meaning.promises}
use Rattle.cl_top.specs.{Meaning.promises_of_both, Printed.{HasPrinted, HasPrintedSafe, HasStoppedSafely, HasDecided, ProvesInTime}}
use Rattle.cl_top.proofs.{WellMeant.{meant_well, asks_for_few, Edit.stops_safely}, SafeReport.safe_report_of}

-- ---- the laws of outcomes

some_of : (words : List (List ℕ)) (asked : Option Command) → command_of words ≡ asked → (gave : File → Fetched)
    → EachFile (files_asked commands asked) (λ file. WasFetched (gave file)) → SomeOutcome (HasOutcome commands asked gave)
some_of words None is gave fetched = (words_refused, refl)
some_of words (Some asked) is gave fetched =
    some_opens gave (IsOutcomeOf asked) (files_read asked) fetched (λ content fits opened. (meant_well asked).some content fits opened (asks_for_few words asked is))

pub some_outcome : (words : List (List ℕ)) (gave : File → Fetched) → EachFile (files_of_words commands words) (λ file. WasFetched (gave file))
    → SomeOutcome (HasOutcome commands (command_of words) gave)
some_outcome words gave fetched = some_of words (command_of words) refl gave fetched

same_of : (asked : Option Command) (gave : File → Fetched) (one other : Outcome) → HasOutcome commands asked gave one → HasOutcome commands asked gave other → SaysTheSame asked one other
same_of None gave one other h k = h ∙ sym k
same_of (Some asked) gave one other h k =
    let well = meant_well asked in
    same_opens (command_meaning asked).same well.equally one other gave (IsOutcomeOf asked) (λ content opened. well.once content opened one other) (files_read asked) h k

pub same_outcome : (words : List (List ℕ)) (gave : File → Fetched) (one other : Outcome) → HasOutcome commands (command_of words) gave one
    → HasOutcome commands (command_of words) gave other → SaysTheSame (command_of words) one other
same_outcome words gave one other h k = same_of (command_of words) gave one other h k

-- ---- what a command answers

pub none_taken : (asked : Command) (content : Content) → Fits (files_read asked) content → (steps : ℕ) → TakesStepsOf asked content steps steps
none_taken asked content fits steps = (meant_well asked).no_steps content fits steps

pub may_end : (asked : Command) (content : Content) (found : Outcome) → IsOutcomeOf asked content found → MayEnd content (files_read asked) found
may_end asked content found is = (meant_well asked).ends content found is

-- a command that names no file is given nothing
given_nothing : (content : Content) → Fits files.Nothing content → (P : Content → Type 0) → P Nothing → P content
unfolding Fits
given_nothing Nothing fits P holds = holds
given_nothing (Whole bytes) fits P holds = absurd fits
given_nothing (Model model) fits P holds = absurd fits
given_nothing (ModelAnd model text) fits P holds = absurd fits

pub as_asked : (P : Command → Content → Type 0) (asked own : Command) (content : Content) → asked ≡ own → files_read own ≡ files.Nothing
    → Fits (files_read asked) content → P own Nothing → P asked content
as_asked P asked own content is none fits holds =
    subst (λ (a : Command). P a content) (sym is) (given_nothing content (subst (λ (named : Files). Fits named content) (ap files_read is ∙ none) fits) (P own) holds)

-- ---- what is printed

module _ (words : List (List ℕ)) (shelf : ShelfCall) {S K : Type 0} (before after : S) (sink : SinkCall K) (steps steps_after status : ℕ)
    (kept : IsSoundCall commands words shelf before after sink steps steps_after status) where
  carried_of : (comes : Outcome → Type 0) → IsOfContent status → CallEnds comes sink status → IsCarriedOut comes sink status
  carried_of comes own (inl memory) = absurd (no_want status own memory.fault_status)
  carried_of comes own (inr carried) = carried

  -- what a command printed that ended with a status of its own
  module _ (own : IsOfContent status) (asked : Command) (is_asked : command_of words ≡ Some asked) (contents : ℕ → List ℕ)
      (tells : TellsFiles (files_of_words commands words) words shelf.held contents) where
    told : IsToldOwn commands words contents sink status
    told = told_own commands words shelf contents sink status own (carried_of _ own (kept.told_files contents tells))

    holds : IsOfTold (files_read asked) contents (IsOutcomeOf asked) told.found
    holds = opens_of_told contents (IsOutcomeOf asked) told.found (subst IsOfContent (sym told.own_status) own) (files_read asked)
        (subst (λ (c : Option Command). HasOutcome commands c (told_fetch contents) told.found) is_asked told.has)

    printed : (promise : Content → List ℕ → Type 0)
        → ((content : Content) → IsOpened content → (found : Outcome) → IsOutcomeOf asked content found → found.status ≡ status → promise content found.text)
        → HasPrinted sink asked contents promise
    printed promise keeps = record {
      content = holds.content;
      means = holds.means;
      text = told.found.text;
      safe = keeps holds.content holds.opened told.found holds.comes told.own_status;
      whole = told.whole;
    }

  -- ---- where a line of edits is refused

  refused_content : status ≡ EDITS_REFUSED → IsOfContent status
  refused_content seven = inr (inl (omega (arith, seven), omega (arith, seven)))

  stopped_content : (content : Content) → IsOpened content → (found : Outcome) → IsOutcomeOf Edit content found → found.status ≡ EDITS_REFUSED → promises_of_both StopsSafely content found.text
  unfolding command_meaning
  stopped_content Nothing opened found is seven = absurd is
  stopped_content (Whole bytes) opened found is seven = absurd is
  stopped_content (Model model) opened found is seven = absurd is
  stopped_content (ModelAnd model text) opened found is seven = stops_safely model opened.0 text found is seven

  pub stopped_safely : status ≡ EDITS_REFUSED → command_of words ≡ Some Edit → (contents : ℕ → List ℕ)
      → TellsFiles (files_of_words commands words) words shelf.held contents → HasStoppedSafely sink contents
  stopped_safely seven is contents tells =
      printed (refused_content seven) Edit is contents tells (promises_of_both StopsSafely)
      (λ content opened found comes own. stopped_content content opened found comes (own ∙ seven))

  -- ---- what `verify` has written where something isn't met

  decided_content : (content : Content) → (found : Outcome) → IsOutcomeOf Verify content found → promises IsVerifyTextOf content found.text
  unfolding command_meaning
  decided_content Nothing found is = absurd is
  decided_content (Whole bytes) found is = absurd is
  decided_content (Model model) found is = is.text_is
  decided_content (ModelAnd model text) found is = absurd is

  pub decides : status ≡ NOT_VERIFIED → command_of words ≡ Some Verify → (contents : ℕ → List ℕ)
      → TellsFiles (files_of_words commands words) words shelf.held contents → HasDecided sink contents
  decides thirteen is contents tells =
      printed (inr (inr (omega (arith, thirteen)))) Verify is contents tells (promises IsVerifyTextOf)
      (λ content opened found comes own. decided_content content found comes)

  -- ---- where it did what it says

  module _ (is_done : status ≡ DONE) where
    pub printed_safe : (asked : Command) → command_of words ≡ Some asked → (contents : ℕ → List ℕ) → TellsFiles (files_of_words commands words) words shelf.held contents
        → HasPrintedSafe sink asked contents
    printed_safe asked is contents tells =
        printed (inl is_done) asked is contents tells (command_meaning asked).safe
        (λ content opened found comes own. (meant_well asked).holds content opened found comes (own ∙ is_done))

    -- one file that is told
    one_told : (asked : Command) → command_of words ≡ Some asked → files_named (files_read asked) ≡ model_file ∷ [] → (bytes : List ℕ) → shelf.held (word words 1) ≡ Told bytes
        → TellsFiles (files_of_words commands words) words shelf.held (λ _. bytes)
    one_told asked is alone bytes tells =
        subst (λ files. TellsFiles files words shelf.held (λ _. bytes)) (sym (ap (files_asked commands) is ∙ alone)) (tells, tt)

    pub proves_in_time : command_of words ≡ Some Verify → (bytes : List ℕ) → shelf.held (word words 1) ≡ Told bytes → ProvesInTime bytes
    unfolding command_meaning
    proves_in_time is bytes tells = of_content (printed_safe Verify is (λ _. bytes) (one_told Verify is refl bytes tells))
      where
        of_content : HasPrintedSafe sink Verify (λ _. bytes) → ProvesInTime bytes
        of_content printed = of_cases printed.content printed.means printed.safe
          where
            of_cases : (content : Content) → Means files.Model (λ _. bytes) content → (command_meaning Verify).safe content printed.text → ProvesInTime bytes
            of_cases Nothing means safe = absurd means
            of_cases (Whole whole) means safe = absurd means
            of_cases (Model model) means safe = record { model = model; means = means.means; valid = valid_read bytes model means; in_time = safe.in_time }
            of_cases (ModelAnd model text) means safe = absurd means

    -- ---- what `analyse` has written

    module _ (is : command_of words ≡ Some Analyse) where
      given : (fetch : Fetched) (bytes : List ℕ) → fetch ≡ Bytes bytes → MayGive shelf (word words 1) FILE_LIMIT fetch
          → MayBe (shelf.held (word words 1)) bytes × (length bytes ≤ FILE_LIMIT) × (length bytes ≤ shelf.longest_after (word words 1))
      given fetch bytes gave may = subst (λ (f : Fetched). MayGive shelf (word words 1) FILE_LIMIT f) gave may

      by_whole : (found : Outcome) → ComesAs commands (Some Analyse) words shelf found → found.status ≡ DONE → sink.written sink.after ≡ appended (sink.written sink.before) found.text
          → HasReportedSome (shelf.held (word words 1)) sink
      unfolding command_meaning
      by_whole found comes done whole =
          let (bytes, gave, (model, means, outcome)) = done_model found (inl done) (comes.gave model_file) (λ model. IsOutcomeOf Analyse (Model model)) comes.follows in
          let may = given (comes.gave model_file) bytes gave comes.files.0 in
          record {
            bytes = bytes;
            may_be = may.0;
            within = may.1;
            reported = record {
              text = found.text;
              is_safe = record { model = model; means = means.means; report = safe_report_of model found.text (valid_read bytes model means) outcome.text_is };
              whole = whole;
            };
          }

      by_end : IsCarriedOut (ComesTo commands words shelf) sink status → HasReportedSome (shelf.held (word words 1)) sink
      by_end carried = elim carried.carried [
        | inl whole ↦ by_whole carried.found (subst (λ (c : Option Command). ComesAs commands c words shelf carried.found) is carried.comes_to)
            (sym whole.own_status ∙ is_done) whole.whole_text
        | inr cut ↦ absurd (omega (arith, cut.fault_status, is_done))
      ]

      pub reports_some : HasReportedSome (shelf.held (word words 1)) sink
      reports_some = by_end (carried_of _ (inl is_done) kept.ends)

      -- and so of the very bytes, where they are told
      pub reports_told : (bytes : List ℕ) → shelf.held (word words 1) ≡ Told bytes → HasReported sink bytes
      reports_told bytes tells =
          let same : reports_some.bytes ≡ bytes = subst (λ (h : Held). MayBe h reports_some.bytes) tells reports_some.may_be in
          subst (λ (b : List ℕ). HasReported sink b) same reports_some.reported
