-- The text of tight findings: all responses and bounds.
use Rattle.std.specs.Prelude.{ℕ, List, ◌++◌, length, codes, decimal}
use Rattle.std.specs.List.{flat_map, range_with_len}
use Rattle.cl_text.specs.Line.{line}
use Rattle.cl_model.specs.{declared.model.SystemModel.SystemModel, ByNumber.{task_at, chain_at}}
use Rattle.cl_analyse.specs.{declared.findings.ChainAnswer.ChainAnswer, ChainAnswers.chain_answer_at}
use Rattle.cl_analyse.specs.declared.findings.ChainAnswer.TheVariants as chain
use Rattle.cl_tight.specs.TightFindings.{tight_findings_of}
use Rattle.cl_report.specs.Report.{task_lines, bounds_words}

-- what a line says of a chain: its tight bounds and its delay, or the first of its tasks that is late
abbrev pub tight_words : SystemModel → ChainAnswer → List ℕ
tight_words model (chain.Bounds bounds) = bounds_words bounds ++ codes " delay " ++ decimal bounds.delay
tight_words model (chain.Late i) = codes " late " ++ (task_at model i).name

-- the line of a chain that has this answer
unfoldable pub tight_chain_line : SystemModel → ChainAnswer → (chain : ℕ) → List ℕ
tight_chain_line model answer chain = line (codes "chain " ++ (chain_at model chain).name ++ tight_words model answer)

-- the lines of all chains, in file order
abbrev pub tight_chain_lines : SystemModel → List ChainAnswer → List ℕ
tight_chain_lines model answers =
    flat_map (λ chain. tight_chain_line model (chain_answer_at answers chain) chain) (range_with_len 0 (length model.chains))

-- the report of a model by responses by phases and tight bounds
unfoldable pub tight_text : SystemModel → List ℕ
tight_text model =
    let findings = tight_findings_of model in
    line (codes "chainlat tight 2")
    ++ task_lines model findings.tasks
    ++ tight_chain_lines model findings.chains
