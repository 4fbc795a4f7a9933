-- The text of `migrate` is analysed as the file that it was made of.
use Rattle.std.proofs.Common.{◌≡◌, ◌↔◌, ℕ, List, Some, Ok, sym, ap, subst, ◌∙◌, inl}
use Rattle.cl_model.specs.{declared.model.SystemModel.SystemModel, Reading.model_of}
use Rattle.cl_engine.specs.{declared.{files.TheConstants.FILE_LIMIT, outcome.Outcome.Outcome}, Content.Model, Fetched.{Fetched, Bytes, told_fetch}, Files.model_file, Outcome.{ReadsTo, OpensTo, HasOutcome}}
use Rattle.cl_engine.proofs.{Outcomes.done_model, Tellings.told_bytes}
use Rattle.cl_top.specs.{declared.command.Command.TheVariants.{Analyse, Migrate}, Commands.{command_meaning, commands, IsOutcomeOf}, Migrated.IsMigratedFile}

-- what comes next of a model that is analysed
abbrev analysed : SystemModel → Outcome → Type 0
analysed model = IsOutcomeOf Analyse (Model model)

-- the analysis of a file whose bytes are read as this model
analysis_of : (fetch : Fetched) (bytes : List ℕ) (model : SystemModel) (found : Outcome) → fetch ≡ Bytes bytes → model_of bytes ≡ Ok model
    → OpensTo 1 fetch (λ bytes. ReadsTo (model_of bytes) analysed) found ≡ ReadsTo (Ok model) analysed found
analysis_of fetch bytes model found gave means =
    ap (λ (f : Fetched). OpensTo 1 f (λ bytes. ReadsTo (model_of bytes) analysed) found) gave ∙ ap (λ read. ReadsTo read analysed found) means

pub analysed_alike : (contents migrated : ℕ → List ℕ) (found : Outcome) → IsMigratedFile contents migrated
    → HasOutcome commands (Some Analyse) (told_fetch contents) found ↔ HasOutcome commands (Some Analyse) (told_fetch migrated) found
unfolding command_meaning
analysed_alike contents migrated found file =
    let (bytes, gave, (model, means, written)) = done_model file.outcome (inl file.done) (told_fetch contents model_file) (λ model. IsOutcomeOf Migrate (Model model)) file.comes in
    let first = analysis_of (told_fetch contents model_file) bytes model found gave means.means in
    let second = analysis_of (told_fetch migrated model_file) (migrated 1) model found (told_bytes FILE_LIMIT (migrated 1) file.within) (ap model_of file.holds ∙ written.text_is.reads) in
    (λ is. subst (λ X. X) (first ∙ sym second) is, λ is. subst (λ X. X) (second ∙ sym first) is)
