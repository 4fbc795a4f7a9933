use Rattle.std.proofs.Common.{◌≡◌, ℕ, List, [], ◌∷◌, ◌++◌, ap, ◌∙◌}
use Rattle.std.specs.Prelude.{codes}
use Rattle.std.proofs.lemmas.Result.{on_ok_weaker, on_err_weaker}
use Rattle.cl_text.proofs.Beginnings.{on_error}
use Rattle.cl_model.specs.Kinds.{requirement_word}
use Rattle.cl_report.specs.Report.{verdict_words, verdict_line}
use Rattle.cl_report.proofs.{Pieces.{holds_more, stops_behind, stops_within}, ReportLines.judged}
use Rattle.cl_report.proofs.requirement_lines.put_requirement.Goals as goal

pub returns-clause-ok : goal.returns-clause-ok
returns-clause-ok c = on_ok_weaker c.put-5.result (λ last.
    judged c.args.requirement.now c.args.verdict.now c.args.text.now c.put.new.self c.put_name.new.text c.put-2.new.self c.put-3.new.self c.put-4.new.self c.put_verdict.new.text c.put-5.new.self
    c.in_ok-put.ensures.ok c.in_ok-put_name.ensures.ok c.in_ok-put-2.ensures.ok (c.in_ok-put-3.ensures.ok ∙ ap (λ (word : List ℕ). c.put-2.new.self ++ word) c.kind_word.ensures)
    c.in_ok-put-4.ensures.ok c.in_ok-put_verdict.ensures.ok last) c.put-5.ensures.ok

pub returns-in_err-put_name-clause-err : goal.returns-in_err-put_name-clause-err
unfolding verdict_line
returns-in_err-put_name-clause-err c =
    let old : List ℕ = c.args.text.now in
    let w1 : List ℕ = codes "requirement " in
    let h1 : c.put.new.self ≡ old ++ w1 = c.in_ok-put.ensures.ok in
    on_error c.from_residual-in_err-put_name.result _
    (stops_behind old c.put_name.new.text c.put.new.self w1 (c.args.requirement.now.name ∷ (codes " ")
    ∷ (requirement_word c.args.requirement.now.kind) ∷ (codes " ") ∷ (verdict_words c.args.requirement.now.most c.args.verdict.now) ∷ (0x0A ∷ [])
    ∷ []) h1 c.in_err-put_name.ensures.err)

pub returns-in_err-put-2-clause-err : goal.returns-in_err-put-2-clause-err
unfolding verdict_line
returns-in_err-put-2-clause-err c =
    let old : List ℕ = c.args.text.now in
    let w1 : List ℕ = codes "requirement " in
    let h1 : c.put.new.self ≡ old ++ w1 = c.in_ok-put.ensures.ok in
    let w2 : List ℕ = w1 ++ c.args.requirement.now.name in
    let h2 : c.put_name.new.text ≡ old ++ w2 =
    holds_more old c.put.new.self c.put_name.new.text w1 (c.args.requirement.now.name) h1 c.in_ok-put_name.ensures.ok in
    on_error c.from_residual-in_err-put-2.result _
    (stops_behind old c.put-2.new.self c.put_name.new.text w2 ((codes " ") ∷ (requirement_word c.args.requirement.now.kind) ∷ (codes " ")
    ∷ (verdict_words c.args.requirement.now.most c.args.verdict.now) ∷ (0x0A ∷ []) ∷ []) h2 c.in_err-put-2.ensures.err)

pub returns-in_err-put-3-clause-err : goal.returns-in_err-put-3-clause-err
unfolding verdict_line
returns-in_err-put-3-clause-err c =
    let old : List ℕ = c.args.text.now in
    let w1 : List ℕ = codes "requirement " in
    let h1 : c.put.new.self ≡ old ++ w1 = c.in_ok-put.ensures.ok in
    let w2 : List ℕ = w1 ++ c.args.requirement.now.name in
    let h2 : c.put_name.new.text ≡ old ++ w2 =
    holds_more old c.put.new.self c.put_name.new.text w1 (c.args.requirement.now.name) h1 c.in_ok-put_name.ensures.ok in
    let w3 : List ℕ = w2 ++ codes " " in
    let h3 : c.put-2.new.self ≡ old ++ w3 = holds_more old c.put_name.new.text c.put-2.new.self w2 (codes " ") h2 c.in_ok-put-2.ensures.ok in
    on_error c.from_residual-in_err-put-3.result _
    (stops_behind old c.put-3.new.self c.put-2.new.self w3 ((requirement_word c.args.requirement.now.kind) ∷ (codes " ")
    ∷ (verdict_words c.args.requirement.now.most c.args.verdict.now) ∷ (0x0A ∷ []) ∷ []) h3 c.in_err-put-3.ensures.err)

pub returns-in_err-put-4-clause-err : goal.returns-in_err-put-4-clause-err
unfolding verdict_line
returns-in_err-put-4-clause-err c =
    let old : List ℕ = c.args.text.now in
    let w1 : List ℕ = codes "requirement " in
    let h1 : c.put.new.self ≡ old ++ w1 = c.in_ok-put.ensures.ok in
    let w2 : List ℕ = w1 ++ c.args.requirement.now.name in
    let h2 : c.put_name.new.text ≡ old ++ w2 =
    holds_more old c.put.new.self c.put_name.new.text w1 (c.args.requirement.now.name) h1 c.in_ok-put_name.ensures.ok in
    let w3 : List ℕ = w2 ++ codes " " in
    let h3 : c.put-2.new.self ≡ old ++ w3 = holds_more old c.put_name.new.text c.put-2.new.self w2 (codes " ") h2 c.in_ok-put-2.ensures.ok in
    let w4 : List ℕ = w3 ++ requirement_word c.args.requirement.now.kind in
    let h4 : c.put-3.new.self ≡ old ++ w4 =
    holds_more old c.put-2.new.self c.put-3.new.self w3 (requirement_word c.args.requirement.now.kind) h3 (c.in_ok-put-3.ensures.ok ∙ ap (λ (word : List ℕ). c.put-2.new.self ++ word) c.kind_word.ensures) in
    on_error c.from_residual-in_err-put-4.result _
    (stops_behind old c.put-4.new.self c.put-3.new.self w4 ((codes " ") ∷ (verdict_words c.args.requirement.now.most c.args.verdict.now)
    ∷ (0x0A ∷ []) ∷ []) h4 c.in_err-put-4.ensures.err)

pub returns-in_err-put_verdict-clause-err : goal.returns-in_err-put_verdict-clause-err
unfolding verdict_line
returns-in_err-put_verdict-clause-err c =
    let old : List ℕ = c.args.text.now in
    let w1 : List ℕ = codes "requirement " in
    let h1 : c.put.new.self ≡ old ++ w1 = c.in_ok-put.ensures.ok in
    let w2 : List ℕ = w1 ++ c.args.requirement.now.name in
    let h2 : c.put_name.new.text ≡ old ++ w2 =
    holds_more old c.put.new.self c.put_name.new.text w1 (c.args.requirement.now.name) h1 c.in_ok-put_name.ensures.ok in
    let w3 : List ℕ = w2 ++ codes " " in
    let h3 : c.put-2.new.self ≡ old ++ w3 = holds_more old c.put_name.new.text c.put-2.new.self w2 (codes " ") h2 c.in_ok-put-2.ensures.ok in
    let w4 : List ℕ = w3 ++ requirement_word c.args.requirement.now.kind in
    let h4 : c.put-3.new.self ≡ old ++ w4 =
    holds_more old c.put-2.new.self c.put-3.new.self w3 (requirement_word c.args.requirement.now.kind) h3 (c.in_ok-put-3.ensures.ok ∙ ap (λ (word : List ℕ). c.put-2.new.self ++ word) c.kind_word.ensures) in
    let w5 : List ℕ = w4 ++ codes " " in
    let h5 : c.put-4.new.self ≡ old ++ w5 = holds_more old c.put-3.new.self c.put-4.new.self w4 (codes " ") h4 c.in_ok-put-4.ensures.ok in
    on_error c.from_residual-in_err-put_verdict.result _
    (stops_within old c.put_verdict.new.text c.put-4.new.self w5 (verdict_words c.args.requirement.now.most c.args.verdict.now) ((0x0A
    ∷ []) ∷ []) h5 c.in_err-put_verdict.ensures.err)

pub returns-clause-err : goal.returns-clause-err
unfolding verdict_line
returns-clause-err c =
    let old : List ℕ = c.args.text.now in
    let w1 : List ℕ = codes "requirement " in
    let h1 : c.put.new.self ≡ old ++ w1 = c.in_ok-put.ensures.ok in
    let w2 : List ℕ = w1 ++ c.args.requirement.now.name in
    let h2 : c.put_name.new.text ≡ old ++ w2 =
    holds_more old c.put.new.self c.put_name.new.text w1 (c.args.requirement.now.name) h1 c.in_ok-put_name.ensures.ok in
    let w3 : List ℕ = w2 ++ codes " " in
    let h3 : c.put-2.new.self ≡ old ++ w3 = holds_more old c.put_name.new.text c.put-2.new.self w2 (codes " ") h2 c.in_ok-put-2.ensures.ok in
    let w4 : List ℕ = w3 ++ requirement_word c.args.requirement.now.kind in
    let h4 : c.put-3.new.self ≡ old ++ w4 =
    holds_more old c.put-2.new.self c.put-3.new.self w3 (requirement_word c.args.requirement.now.kind) h3 (c.in_ok-put-3.ensures.ok ∙ ap (λ (word : List ℕ). c.put-2.new.self ++ word) c.kind_word.ensures) in
    let w5 : List ℕ = w4 ++ codes " " in
    let h5 : c.put-4.new.self ≡ old ++ w5 = holds_more old c.put-3.new.self c.put-4.new.self w4 (codes " ") h4 c.in_ok-put-4.ensures.ok in
    let w6 : List ℕ = w5 ++ verdict_words c.args.requirement.now.most c.args.verdict.now in
    let h6 : c.put_verdict.new.text ≡ old ++ w6 =
    holds_more old c.put-4.new.self c.put_verdict.new.text w5 (verdict_words c.args.requirement.now.most c.args.verdict.now) h5 c.in_ok-put_verdict.ensures.ok in
    on_err_weaker c.put-5.result (λ left. stops_behind old c.put-5.new.self c.put_verdict.new.text w6 ((0x0A ∷ []) ∷ []) h6 left) c.put-5.ensures.err
