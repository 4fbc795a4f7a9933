-- The replay of a run: a title, and for each chain of the model three lines, one for each kind of length, with what is
-- measured in the run against the bound that was found. Times are in ticks.
use Rattle.std.specs.Prelude.{◌≡◌, ℕ, ◌-◌, ◌<◌, Option, Some, None, List, ◌++◌, length, slice_index_or, codes, decimal}
use Rattle.std.specs.List.{flat_map, range_with_len}
use Rattle.cl_text.specs.Line.{line}
use Rattle.cl_model.specs.{declared.{model.SystemModel.SystemModel, chain.LengthKind.{LengthKind, TheVariants.{Reaction, Age, Reduced}}}, Kinds.length_word, ByNumber.chain_at, Groups.groups_at}
use Rattle.cl_runs.specs.{Run.Run, SystemOf.system_of, Chains.{JobChain, chain_length}, RunChains.run_moments, Measured.{Measured, IsMeasured}}
use Rattle.cl_analyse.specs.{declared.findings.{ChainAnswer.ChainAnswer, Findings.Findings}, ChainAnswers.chain_answer_at, Verdicts.bound_value, Findings.AreFindings}
use Rattle.cl_report.specs.Report.{jobs_words}

-- ---- what is measured

-- what stands past the last chain
abbrev pub nothing_measured : Measured
nothing_measured = record { reaction = None; age = None; reduced = None; forward = 0; backward = 0 }

-- what is measured of the chain of a number
abbrev pub measured_at : List Measured → (chain : ℕ) → Measured
measured_at measured chain = slice_index_or measured chain nothing_measured

-- what is measured of each chain of a model in a run, in file order; it is unique
pub record AreMeasured (model : SystemModel) (run : Run) (measured : List Measured) : Type 0 where
  pub one_a_chain : length measured ≡ length model.chains
  pub each : (chain : ℕ) → chain < length model.chains
      → IsMeasured (run_moments (system_of model) run) (groups_at model chain) (measured_at measured chain)

-- the longest chain of a kind
abbrev pub longest_of_kind : LengthKind → Measured → Option JobChain
longest_of_kind Reaction measured = measured.reaction
longest_of_kind Age measured = measured.age
longest_of_kind Reduced measured = measured.reduced

-- how many complete chains of a kind there are: forward ones for a reaction, and backward ones for either age
abbrev pub count_of_kind : LengthKind → Measured → ℕ
count_of_kind Reaction measured = measured.forward
count_of_kind Age measured = measured.backward
count_of_kind Reduced measured = measured.backward

-- ---- a line

-- what a line says of a bound, which a chain with a late task doesn't have
abbrev pub bound_words : (bound : Option ℕ) → List ℕ
bound_words None = codes " late"
bound_words (Some bound) = codes " bound " ++ decimal bound

-- The margin that a length leaves: the bound minus the length. The subtraction is cut off at 0 where the length is
-- greater, which never is: in a legal run no measured chain is longer than its bound, and so length and margin make the
-- bound.
abbrev pub margin : (bound length : ℕ) → ℕ
margin bound length = bound - length

-- what a line says of a bound and of the margin that a length leaves
abbrev pub margin_words : (bound : Option ℕ) → (length : ℕ) → List ℕ
margin_words None length = bound_words None
margin_words (Some bound) length = bound_words (Some bound) ++ codes " margin " ++ decimal (margin bound length)

-- what a line says of the longest chain of a kind
unfoldable pub longest_words : SystemModel → (i : ℕ) → (count : ℕ) → (bound : Option ℕ) → JobChain → List ℕ
longest_words model i count bound chain =
    codes " " ++ decimal (chain_length chain) ++ codes " from " ++ decimal chain.from ++ codes " to " ++ decimal chain.to
    ++ codes " jobs" ++ jobs_words model i chain.jobs ++ codes " count " ++ decimal count ++ margin_words bound (chain_length chain)

-- the same, where the run may have no chain of the kind
abbrev pub found_words : SystemModel → (i : ℕ) → (count : ℕ) → (bound : Option ℕ) → Option JobChain → List ℕ
found_words model i count bound None = codes " none" ++ bound_words bound
found_words model i count bound (Some chain) = longest_words model i count bound chain

-- the line of a kind of chain i, by what was found of the chain and what is measured
unfoldable pub kind_line : SystemModel → (i : ℕ) → ChainAnswer → Measured → LengthKind → List ℕ
kind_line model i answer measured kind =
    line (codes "measured " ++ (chain_at model i).name ++ codes " " ++ length_word kind
    ++ found_words model i (count_of_kind kind measured) (bound_value kind answer) (longest_of_kind kind measured))

-- ---- the replay

-- the lines of chain i, by what was found of the chain and what is measured
abbrev pub measured_lines : SystemModel → (i : ℕ) → ChainAnswer → Measured → List ℕ
measured_lines model i answer measured =
    kind_line model i answer measured Reaction ++ kind_line model i answer measured Age ++ kind_line model i answer measured Reduced

-- the lines of chain i of a model with these findings
abbrev pub measured_chain_lines : SystemModel → Findings → List Measured → (i : ℕ) → List ℕ
measured_chain_lines model findings measured i = measured_lines model i (chain_answer_at findings.chains i) (measured_at measured i)

-- the replay of a model with these findings, and with what is measured of its chains
unfoldable pub replay_text : SystemModel → Findings → List Measured → List ℕ
replay_text model findings measured =
    line (codes "chainlat replay 1") ++ flat_map (measured_chain_lines model findings measured) (range_with_len 0 (length model.chains))

-- the text is the replay of a run: by the model's findings, and by what is measured in the run
pub record IsReplayOf (model : SystemModel) (run : Run) (text : List ℕ) : Type 0 where
  pub findings : Findings
  pub found : AreFindings model findings
  pub measured : List Measured
  pub are_measured : AreMeasured model run measured
  pub printed : text ≡ replay_text model findings measured
