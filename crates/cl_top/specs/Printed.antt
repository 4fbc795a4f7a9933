-- What a command has printed, from the bytes of its files to the bytes of the text (docs/promises.md).
use Rattle.std.specs.Prelude.{◌≡◌, ℕ, List, Ok}
use Rattle.cl_io.specs.Sink.{appended}
use Rattle.cl_model.specs.{declared.model.SystemModel.SystemModel, Reading.model_of, Validity.IsValid}
use Rattle.cl_runs.specs.Requirements.{IsInTime}
use Rattle.cl_verify.specs.VerifyText.{IsVerifyTextOf}
use Rattle.cl_engine.specs.{Calls.SinkCall, Content.{Content, Means}}
use Rattle.cl_top.specs.{declared.command.Command.Command, Command.files_read, Commands.{command_meaning, Edit.StopsSafely}, Meaning.{promises, promises_of_both}}
use Rattle.cl_top.specs.declared.command.Command.TheVariants as command

-- Files of these bytes hold something, this is promised of the text for that, and the text was written, and nothing else.
pub record HasPrinted {K : Type 0} (sink : SinkCall K) (asked : Command) (contents : ℕ → List ℕ) (promise : Content → (text : List ℕ) → Type 0) : Type 0 where
  pub content : Content
  pub means : Means (files_read asked) contents content
  pub text : List ℕ
  pub safe : promise content text
  pub whole : sink.written sink.after ≡ appended (sink.written sink.before) text

-- so it is with what the command promises of its text
abbrev pub HasPrintedSafe : {K : Type 0} → SinkCall K → (asked : Command) (contents : ℕ → List ℕ) → Type 0
HasPrintedSafe sink asked contents = HasPrinted sink asked contents (command_meaning asked).safe

-- and with what `edit` promises where a line of its edits is refused
abbrev pub HasStoppedSafely : {K : Type 0} → SinkCall K → (contents : ℕ → List ℕ) → Type 0
HasStoppedSafely sink contents = HasPrinted sink command.Edit contents (promises_of_both StopsSafely)

-- and with the decisions of `verify` where something isn't met
abbrev pub HasDecided : {K : Type 0} → SinkCall K → (contents : ℕ → List ℕ) → Type 0
HasDecided sink contents = HasPrinted sink command.Verify contents (promises IsVerifyTextOf)

-- The model that the bytes mean is in time: in every legal run, of any length, every job whose deadline lies within the
-- run has finished by then, and no complete chain of a requirement's chain and kind is longer than it says.
pub record ProvesInTime (bytes : List ℕ) : Type 0 where
  pub model : SystemModel
  pub means : model_of bytes ≡ Ok model
  pub valid : IsValid model
  pub in_time : IsInTime model
