-- Why an outcome is what it is.
use Rattle.std.proofs.Common.{◌≡◌, ℕ, ◌+◌, ◌<◌, ◌≤◌, inl, inr, List, [], ◌∷◌, length, Option, Some, None, Result, Ok, Err, refl, ap, subst, arith}
use Rattle.std.specs.Prelude.{Contains}
use Rattle.std.proofs.lemmas.List.Elements.{Contains-append_left}
use Rattle.cl_io.specs.Shelf.{Held, Untold, Absent, Content as Told, MayBe, MayHave}
use Rattle.cl_model.specs.{declared.{model.SystemModel.SystemModel, refusal.Refusal.Refusal}, Reading.model_of, Validity.refusal_of}
use Rattle.cl_engine.specs.{declared.{files.{Files.Files, TheConstants.FILE_LIMIT}, outcome.Outcome.Outcome}, Calls.ShelfCall, Content.{Content, Nothing, Bytes as Whole, Model, ModelAnd}, Fetched.{Fetched, Unasked, Bytes, Fault, TooLong, MayGive, EachFile, FileGave, IsAccepted, NoneAfter}}
use Rattle.cl_engine.specs.{Fetched.WaitsForModel, Files.{File, model_file, second_file, files_named, files_limited, word}, Inner.{Leaving.{Cause, OfFault, OfLength, OfRefusal, OfContent}, Opened.{NoNext, GivesContent}}, Outcome.{IsOverlong, MayEnd, IsOfRefusal, ValidatesEither}}
use Rattle.cl_engine.specs.Outcome.{ReadsEither, ReadsTo, OpensTo, OpensSecond, OpensBoth, Opens}
use Rattle.cl_engine.specs.declared.files.Files.TheVariants as files
use Rattle.cl_engine.proofs.Openings.{none_of_refused, none_of_unread, not_accepted}

-- what may be the bytes may have as many
have_of_be : (held : Held) (bytes : List ℕ) (taken : ℕ) → MayBe held bytes → taken ≤ length bytes → MayHave held taken
have_of_be Untold bytes taken may within = tt
have_of_be Absent bytes taken may within = absurd may
have_of_be (Told content) bytes taken may within = subst (λ (b : List ℕ). taken ≤ length b) may within

module _ (words : List (List ℕ)) (shelf : ShelfCall) (files : List File) (found : Outcome) where
  -- the outcome of opening a file, after which no other was fetched unless it is accepted as a model, and where what comes
  -- next has a cause
  module _ (file : File) (within : Contains files file) (next : List ℕ → Outcome → Type 0)
      (caused : (bytes : List ℕ) → (¬ IsAccepted (Bytes bytes) → NoneAfter files words shelf file.place) → next bytes found → Cause files files words shelf found) where
    file_cause : (fetch : Fetched) → (¬ IsAccepted fetch → NoneAfter files words shelf file.place) → MayGive shelf (word words file.place) file.limit fetch
        → OpensTo file.place fetch next found → Cause files files words shelf found
    file_cause Unasked last may opens = absurd opens
    file_cause Fault last may opens = OfFault (file, within, (may, last (λ accepted. accepted), opens))
    file_cause TooLong last may opens = OfLength (file, within, ((may.1, may.0), last (λ accepted. accepted), opens))
    file_cause (Bytes bytes) last may opens = caused bytes last opens

  -- the outcome of what is read of a model file, where that of a refusal and what comes next of a model have a cause
  module _ (refused : Refusal → Outcome → Type 0) (stops : (refusal : Refusal) → NoneAfter files words shelf 1 → refused refusal found → Cause files files words shelf found)
      (next : SystemModel → Outcome → Type 0) (caused : (model : SystemModel) → next model found → Cause files files words shelf found)
      (bytes : List ℕ) (last : ¬ IsAccepted (Bytes bytes) → NoneAfter files words shelf 1) where
    validated_cause : (model : SystemModel) (refusal : Option Refusal) → model_of bytes ≡ Ok model → refusal_of model ≡ refusal → ValidatesEither model refusal refused next found
        → Cause files files words shelf found
    validated_cause model None means none is = caused model is
    validated_cause model (Some refusal) means some is = stops refusal (last (not_accepted bytes (none_of_refused bytes model refusal means some))) is

    by_reading : (read : Result SystemModel Refusal) → model_of bytes ≡ read → ReadsEither read refused next found → Cause files files words shelf found
    by_reading (Ok model) means is = validated_cause model (refusal_of model) means refl is
    by_reading (Err refusal) means is = stops refusal (last (not_accepted bytes (none_of_unread bytes refusal means))) is

    read_cause : ReadsEither (model_of bytes) refused next found → Cause files files words shelf found
    read_cause is = by_reading (model_of bytes) refl is

  -- the outcome of a refusal
  refusal_cause : (refusal : Refusal) → NoneAfter files words shelf 1 → IsOfRefusal refusal found → Cause files files words shelf found
  refusal_cause refusal none is = OfRefusal none (ap (λ (o : Outcome). o.status) is)

module _ (words : List (List ℕ)) (shelf : ShelfCall) (gave : File → Fetched) (found : Outcome) where
  none_after_two : (limit : ℕ) → NoneAfter (model_file ∷ second_file limit ∷ []) words shelf 2
  none_after_two limit = (λ less. absurd (omega (arith, less)), (λ less. absurd (omega (arith, less)), tt))

  -- by its own limit alone
  abbrev LimitedCause : List File → Type 0
  LimitedCause files = Cause files files words shelf found

  -- of two files, where a refusal of the first has a cause
  both_cause : (limit : ℕ) (refused : List ℕ → Refusal → Outcome → Type 0)
      → ((bytes : List ℕ) (refusal : Refusal) → NoneAfter (model_file ∷ second_file limit ∷ []) words shelf 1 → refused bytes refusal found → LimitedCause (model_file ∷ second_file limit ∷ []))
      → EachFile (model_file ∷ second_file limit ∷ []) (FileGave words shelf gave) → WaitsForModel (model_file ∷ second_file limit ∷ []) words shelf gave
      → OpensBoth limit gave refused NoNext found → LimitedCause (model_file ∷ second_file limit ∷ [])
  both_cause limit refused stops may waits is =
      let both = model_file ∷ second_file limit ∷ [] in
      let second : SystemModel → Outcome → Type 0 = OpensSecond limit gave NoNext in
      file_cause words shelf both found model_file (0, omega arith, refl) (λ bytes. ReadsEither (model_of bytes) (refused bytes) second)
      (λ bytes last. read_cause words shelf both found (refused bytes) (stops bytes) second
      (λ model. file_cause words shelf both found (second_file limit) (1, omega arith, refl) NoNext (λ text still none. absurd none) (gave (second_file limit)) (λ refused. none_after_two limit) may.1.0)
      bytes last)
      (gave model_file) waits may.0 is

  stopping_cause : (named : Files) → EachFile (files_named named) (FileGave words shelf gave) → WaitsForModel (files_named named) words shelf gave
      → Opens named gave NoNext found → LimitedCause (files_named named)
  stopping_cause files.Nothing may waits is = absurd is
  stopping_cause files.Content may waits is =
      file_cause words shelf (model_file ∷ []) found model_file (0, omega arith, refl) NoNext (λ bytes last none. absurd none) (gave model_file) waits may.0 is
  stopping_cause files.Model may waits is =
      file_cause words shelf (model_file ∷ []) found model_file (0, omega arith, refl) (λ bytes. ReadsTo (model_of bytes) NoNext)
      (λ bytes last. read_cause words shelf (model_file ∷ []) found IsOfRefusal (refusal_cause words shelf (model_file ∷ []) found) NoNext (λ model none. absurd none) bytes last)
      (gave model_file) waits may.0 is
  stopping_cause (files.ModelAnd limit) may waits is =
      both_cause limit (λ bytes. IsOfRefusal) (λ bytes. refusal_cause words shelf (model_file ∷ second_file limit ∷ []) found) may waits is
  stopping_cause (files.ContentAnd limit) may waits is =
      both_cause limit (λ bytes refusal. NoNext (Whole bytes)) (λ bytes refusal none next. absurd next) may waits is

  -- by each length past which a file is too long
  all_limits : (named : Files) → LimitedCause (files_named named) → Cause (files_named named) (files_limited named) words shelf found
  all_limits files.Nothing cause = cause
  all_limits files.Content cause = cause
  all_limits files.Model cause = cause
  all_limits (files.ModelAnd limit) cause = cause
  all_limits (files.ContentAnd limit) (OfFault fault) = OfFault fault
  all_limits (files.ContentAnd limit) (OfLength (file, within, (long, none, is))) =
      OfLength (file, Contains-append_left (model_file ∷ second_file limit ∷ []) (second_file FILE_LIMIT ∷ []) file within, (long, (none.0, (none.1.0, (none.1.0, tt))), is))
  all_limits (files.ContentAnd limit) (OfRefusal none is) = OfRefusal none is
  all_limits (files.ContentAnd limit) (OfContent own) = OfContent own

  -- why the outcome is what it is that stands in the place of what comes next
  pub stops_cause : (named : Files) → EachFile (files_named named) (FileGave words shelf gave) → WaitsForModel (files_named named) words shelf gave
      → Opens named gave NoNext found → Cause (files_named named) (files_limited named) words shelf found
  stops_cause named may waits is = all_limits named (stopping_cause named may waits is)

  -- where the bytes of a file are given, no file was fetched after it
  none_after_bytes : (named : Files) (bytes : List ℕ) → GivesContent named gave (Whole bytes) → WaitsForModel (files_named named) words shelf gave → NoneAfter (files_named named) words shelf 1
  none_after_bytes files.Nothing bytes is waits = absurd is
  none_after_bytes files.Content bytes is waits = (λ less. absurd (omega (arith, less)), tt)
  none_after_bytes files.Model bytes is waits = absurd is
  none_after_bytes (files.ModelAnd limit) bytes is waits = absurd is
  none_after_bytes (files.ContentAnd limit) bytes is waits = waits (λ accepted. not_accepted bytes is.1 (subst IsAccepted is.0 accepted))

  -- a second file that is too long for the command
  overlong_cause : (limit : ℕ) (text : List ℕ) → gave (second_file limit) ≡ Bytes text → FileGave words shelf gave (second_file limit) → IsOverlong text found
      → Cause (files_named (files.ContentAnd limit)) (files_limited (files.ContentAnd limit)) words shelf found
  overlong_cause limit text gives may (past, is) =
      let given : MayGive shelf (word words 2) limit (Bytes text) = subst (λ (f : Fetched). MayGive shelf (word words 2) limit f) gives may in
      let taken : FILE_LIMIT < shelf.longest_after (word words 2) = omega (arith, past, given.2) in
      let lies : MayHave (shelf.held (word words 2)) (FILE_LIMIT + 1) = have_of_be (shelf.held (word words 2)) text (FILE_LIMIT + 1) given.0 (omega (arith, past)) in
      let none = none_after_two limit in
      OfLength (second_file FILE_LIMIT, (2, omega arith, refl), ((taken, inr lies), (none.0, (none.1.0, (none.1.0, tt))), is))

  -- why that of a command is
  pub ended_cause : (content : Content) (named : Files) → GivesContent named gave content → EachFile (files_named named) (FileGave words shelf gave)
      → WaitsForModel (files_named named) words shelf gave → MayEnd content named found → Cause (files_named named) (files_limited named) words shelf found
  ended_cause Nothing named is may waits own = OfContent own
  ended_cause (Whole bytes) named is may waits (inl own) = OfContent own
  ended_cause (Whole bytes) named is may waits (inr refused) = OfRefusal (none_after_bytes named bytes is waits) refused
  ended_cause (Model model) named is may waits own = OfContent own
  ended_cause (ModelAnd model text) files.Nothing is may waits own = OfContent own
  ended_cause (ModelAnd model text) files.Content is may waits own = OfContent own
  ended_cause (ModelAnd model text) files.Model is may waits own = OfContent own
  ended_cause (ModelAnd model text) (files.ModelAnd limit) is may waits own = OfContent own
  ended_cause (ModelAnd model text) (files.ContentAnd limit) is may waits (inl own) = OfContent own
  ended_cause (ModelAnd model text) (files.ContentAnd limit) is may waits (inr overlong) = overlong_cause limit text is.1 may.1.0 overlong
