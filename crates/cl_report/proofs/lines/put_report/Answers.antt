use Rattle.std.proofs.Common.{ℕ, List, ◌++◌, length, codes, ap, ◌∙◌}
use Rattle.std.specs.List.{flat_map, range_with_len}
use Rattle.std.proofs.lemmas.List.{append_assoc}
use Rattle.cl_text.specs.Line.{line}
use Rattle.cl_report.specs.Report.{task_lines, chain_lines, requirement_lines, report_text}
use Rattle.cl_text.proofs.Beginnings.{puts_first, puts_second, on_error}
use Rattle.cl_report.proofs.ReportLines.{tasks_found, verdicts_found, behind_text}
use Rattle.cl_report.proofs.lines.put_report.Goals as goal

pub put_tasks-requires : goal.put_tasks-requires
put_tasks-requires c = tasks_found c.args.model.now c.args.findings.now c.requires

pub put_requirements-requires : goal.put_requirements-requires
put_requirements-requires c = verdicts_found c.args.model.now c.args.findings.now c.requires

pub returns-clause-ok : goal.returns-clause-ok
unfolding report_text
returns-clause-ok c =
    let model = c.args.model.now in
    let findings = c.args.findings.now in
    let title : List ℕ = line (codes "chainlat report 1") in
    let tasks : List ℕ = task_lines model findings.tasks in
    let chains : List ℕ = flat_map (chain_lines model findings) (range_with_len 0 (length model.chains)) in
    let last : List ℕ = requirement_lines model findings.verdicts in
    c.in_ok-put_requirements.ensures.ok
    ∙ ap (λ t. t ++ last) (c.in_ok-put_chains.ensures.ok ∙ ap (λ t. t ++ chains) (c.in_ok-put_tasks.ensures.ok ∙ ap (λ t. t ++ tasks) c.in_ok-put.ensures.ok))
    ∙ behind_text c.args.text.now title tasks chains last

pub returns-in_err-put_tasks-clause-err : goal.returns-in_err-put_tasks-clause-err
unfolding report_text
returns-in_err-put_tasks-clause-err c =
    let model = c.args.model.now in
    let findings = c.args.findings.now in
    let title : List ℕ = line (codes "chainlat report 1") in
    let tasks : List ℕ = task_lines model findings.tasks in
    let chains : List ℕ = flat_map (chain_lines model findings) (range_with_len 0 (length model.chains)) in
    let last : List ℕ = requirement_lines model findings.verdicts in
    on_error c.from_residual-in_err-put_tasks.result _
    (puts_first _ _ (title ++ tasks ++ chains) last (puts_first _ _ (title ++ tasks) chains
    (puts_second _ _ _ title tasks c.in_ok-put.ensures.ok c.in_err-put_tasks.ensures.err)))

pub returns-in_err-put_chains-clause-err : goal.returns-in_err-put_chains-clause-err
unfolding report_text
returns-in_err-put_chains-clause-err c =
    let model = c.args.model.now in
    let findings = c.args.findings.now in
    let title : List ℕ = line (codes "chainlat report 1") in
    let tasks : List ℕ = task_lines model findings.tasks in
    let chains : List ℕ = flat_map (chain_lines model findings) (range_with_len 0 (length model.chains)) in
    let last : List ℕ = requirement_lines model findings.verdicts in
    on_error c.from_residual-in_err-put_chains.result _
    (puts_first _ _ (title ++ tasks ++ chains) last (puts_second _ _ _ (title ++ tasks) chains
    (c.in_ok-put_tasks.ensures.ok ∙ ap (λ t. t ++ tasks) c.in_ok-put.ensures.ok ∙ append_assoc c.args.text.now title tasks)
    c.in_err-put_chains.ensures.err))

pub returns-in_err-put_requirements-clause-err : goal.returns-in_err-put_requirements-clause-err
unfolding report_text
returns-in_err-put_requirements-clause-err c =
    let model = c.args.model.now in
    let findings = c.args.findings.now in
    let title : List ℕ = line (codes "chainlat report 1") in
    let tasks : List ℕ = task_lines model findings.tasks in
    let chains : List ℕ = flat_map (chain_lines model findings) (range_with_len 0 (length model.chains)) in
    let last : List ℕ = requirement_lines model findings.verdicts in
    on_error c.from_residual-in_err-put_requirements.result _
    (puts_second _ _ _ (title ++ tasks ++ chains) last
    (c.in_ok-put_chains.ensures.ok
    ∙ ap (λ t. t ++ chains) (c.in_ok-put_tasks.ensures.ok ∙ ap (λ t. t ++ tasks) c.in_ok-put.ensures.ok ∙ append_assoc c.args.text.now title tasks)
    ∙ append_assoc c.args.text.now (title ++ tasks) chains)
    c.in_err-put_requirements.ensures.err)
