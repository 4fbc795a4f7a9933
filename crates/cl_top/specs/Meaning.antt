-- What is to be known of a command, by what its files hold.
use Rattle.std.specs.Prelude.{◌≡◌, ◌⊎◌, ℕ, ◌+◌, ◌*◌, ◌≤◌, List, length}
use Rattle.cl_model.specs.declared.model.SystemModel.{SystemModel}
use Rattle.cl_engine.specs.{declared.outcome.Outcome.Outcome, Content.{Content, of_nothing, of_bytes, of_model, of_both}, Done.IsDone}
use Rattle.cl_write.specs.Texts.{IsTextOf}

pub record Meaning : Type 1 where
  -- what it comes to
  pub comes_to : Content → Outcome → Type 0
  -- the steps before and after it
  pub takes : Content → (before after : ℕ) → Type 0
  -- what holds of the text that it writes with status 0, for all runs and all files
  pub safe : Content → (text : List ℕ) → Type 0
  -- two outcomes of it say the same
  pub same : (one other : Outcome) → Type 0

-- what is said of the bytes of a file, or of a model and the bytes of a second file
abbrev pub of_either : {X : Type 1} → (each : List ℕ → X) → (both : SystemModel → (second : List ℕ) → X) → (other : X) → Content → X
of_either each both other content = of_bytes each (of_both both other content) content

-- ---- steps

-- it takes none
abbrev pub takes_no_step : Content → (before after : ℕ) → Type 0
takes_no_step content before after = after ≤ before

-- no limit is promised
abbrev pub any_steps : Content → (before after : ℕ) → Type 0
any_steps content before after = Unit {0}

-- at most so many for a model
abbrev pub at_most : (most : SystemModel → ℕ) → Content → (before after : ℕ) → Type 0
at_most most = of_model (λ model before after. after ≤ before + most model) (λ before after. ⊥)

-- one for each task and two for each chain
abbrev pub model_steps : SystemModel → ℕ
model_steps model = length model.tasks + 2 * length model.chains

-- one for each task
abbrev pub task_steps : SystemModel → ℕ
task_steps model = length model.tasks

-- one for each task and one for each chain
abbrev pub entry_steps : SystemModel → ℕ
entry_steps model = length model.tasks + length model.chains

-- ---- texts

-- nothing is promised beyond the outcome
abbrev pub no_promise : Content → (text : List ℕ) → Type 0
no_promise content text = Unit {0}

-- this holds of the text for a model
abbrev pub promises : (SystemModel → (text : List ℕ) → Type 0) → Content → (text : List ℕ) → Type 0
promises each = of_model each (λ text. ⊥)

-- and for a model and the bytes of a second file
abbrev pub promises_of_both : (SystemModel → (second text : List ℕ) → Type 0) → Content → (text : List ℕ) → Type 0
promises_of_both each = of_both each (λ text. ⊥)

-- ---- outcomes

-- this holds of the outcome for a model, for the bytes of a file, for a model and the bytes of a second file, of no file
abbrev pub on_model : (SystemModel → Outcome → Type 0) → Content → Outcome → Type 0
on_model each = of_model each (λ found. ⊥)

abbrev pub on_bytes : (List ℕ → Outcome → Type 0) → Content → Outcome → Type 0
on_bytes each = of_bytes each (λ found. ⊥)

abbrev pub on_both : (SystemModel → (second : List ℕ) → Outcome → Type 0) → Content → Outcome → Type 0
on_both each = of_both each (λ found. ⊥)

abbrev pub on_nothing : (Outcome → Type 0) → Content → Outcome → Type 0
on_nothing each = of_nothing each (λ found. ⊥)

-- two outcomes are equal
abbrev pub equal : (one other : Outcome) → Type 0
equal one other = one ≡ other

-- Two outcomes are equal, or this holds of both for one model: where a command may answer one model in more ways than one.
abbrev pub of_one_model : (SystemModel → Outcome → Type 0) → (one other : Outcome) → Type 0
of_one_model each one other = (one ≡ other) ⊎ ((model : SystemModel) × each model one × each model other)

-- they are equal, or texts of one model
abbrev pub WritesTheSame : (one other : Outcome) → Type 0
WritesTheSame = of_one_model (λ model. IsDone (IsTextOf model))

-- ---- commands on a model that print one text

-- of which this holds, in at most so many steps; and this is promised of it
abbrev pub printing : (IsText : SystemModel → (text : List ℕ) → Type 0) → (takes : Content → (before after : ℕ) → Type 0)
    → (safe : Content → (text : List ℕ) → Type 0) → Meaning
printing IsText takes safe = record {
  comes_to = on_model (λ model. IsDone (IsText model));
  takes = takes;
  safe = safe;
  same = equal;
}
