-- The names that there are, where a model names something that isn't there.
use Rattle.std.specs.Prelude.{ℕ, nat_lt, if◌then◌else◌, List, [], ◌∷◌, ◌++◌, length, take, flat_map, Option, codes, decimal}
use Rattle.cl_text.specs.Line.{line}
use Rattle.cl_model.specs.{declared.{refusal.{Code.Code, Refusal.Refusal}, model.SystemModel.SystemModel}, Named.{core_names, stimulus_names, label_names, chain_names}}
use Rattle.cl_model.specs.declared.refusal.Code.TheVariants as code
use Rattle.cl_advice.specs.{declared.known.TheConstants.MOST_KNOWN, Measured.said_if}

-- how many there are, where not all are named
abbrev pub more_text : (count : ℕ) → List ℕ
more_text count = if nat_lt MOST_KNOWN count then codes " .. of " ++ decimal count else []

-- the line of the first names of a list, in its order, and nothing of none
abbrev pub known_names : List (List ℕ) → List ℕ
known_names [] = []
known_names (name ∷ names) =
    line (codes "known" ++ flat_map (λ known. codes " " ++ known) (take MOST_KNOWN (name ∷ names)) ++ more_text (length (name ∷ names)))

-- by the code of a refusal
abbrev pub known_by : SystemModel → Code → List ℕ
known_by model code.M29 = known_names (core_names model)
known_by model code.M30 = known_names (stimulus_names model)
known_by model code.M37 = known_names (label_names model)
known_by model code.M38 = known_names (label_names model)
known_by model code.M46 = known_names (chain_names model)
known_by model _ = []

abbrev pub known_line : Option SystemModel → Refusal → List ℕ
known_line model refusal = said_if (λ (model : SystemModel). known_by model refusal.code) model
