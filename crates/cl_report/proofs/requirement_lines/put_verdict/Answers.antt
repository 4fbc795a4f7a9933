use Rattle.std.proofs.Common.{◌≡◌, ℕ, List, [], ◌∷◌, ◌++◌, rules}
use Rattle.std.specs.Prelude.{codes, decimal}
use Rattle.std.proofs.lemmas.List.{append_assoc}
use Rattle.std.proofs.lemmas.Result.{IfOk-equal, on_err_weaker}
use Rattle.cl_text.proofs.Beginnings.{on_error}
use Rattle.cl_report.specs.Report.{verdict_value, verdict_word, verdict_words}
use Rattle.cl_report.proofs.Pieces.{holds_more, part_of_all, stops_behind}
use Rattle.cl_report.proofs.requirement_lines.put_verdict.Goals as goal

pub returns-clause-ok : goal.returns-clause-ok
unfolding verdict_words
returns-clause-ok c = search (rules, IfOk-equal, append_assoc)

pub returns-in_err-put_value-clause-err : goal.returns-in_err-put_value-clause-err
unfolding verdict_words
returns-in_err-put_value-clause-err c =
    let old : List ℕ = c.args.text.now in
    on_error c.from_residual.result _
    (part_of_all old c.put_value.new.text (verdict_value c.args.verdict.now) ((codes " of ") ∷ (decimal c.args.most) ∷ (codes " ")
    ∷ (verdict_word c.args.verdict.now) ∷ []) c.in_err-put_value.ensures.err)

pub returns-in_err-put-clause-err : goal.returns-in_err-put-clause-err
unfolding verdict_words
returns-in_err-put-clause-err c =
    let old : List ℕ = c.args.text.now in
    let w1 : List ℕ = verdict_value c.args.verdict.now in
    let h1 : c.put_value.new.text ≡ old ++ w1 = c.in_ok-put_value.ensures.ok in
    on_error c.from_residual-in_err-put.result _
    (stops_behind old c.put.new.self c.put_value.new.text w1 ((codes " of ") ∷ (decimal c.args.most) ∷ (codes " ")
    ∷ (verdict_word c.args.verdict.now) ∷ []) h1 c.in_err-put.ensures.err)

pub returns-in_err-put_number-clause-err : goal.returns-in_err-put_number-clause-err
unfolding verdict_words
returns-in_err-put_number-clause-err c =
    let old : List ℕ = c.args.text.now in
    let w1 : List ℕ = verdict_value c.args.verdict.now in
    let h1 : c.put_value.new.text ≡ old ++ w1 = c.in_ok-put_value.ensures.ok in
    let w2 : List ℕ = w1 ++ codes " of " in
    let h2 : c.put.new.self ≡ old ++ w2 = holds_more old c.put_value.new.text c.put.new.self w1 (codes " of ") h1 c.in_ok-put.ensures.ok in
    on_error c.from_residual-in_err-put_number.result _
    (stops_behind old c.put_number.new.self c.put.new.self w2 ((decimal c.args.most) ∷ (codes " ") ∷ (verdict_word c.args.verdict.now)
    ∷ []) h2 c.in_err-put_number.ensures.err)

pub returns-in_err-put-2-clause-err : goal.returns-in_err-put-2-clause-err
unfolding verdict_words
returns-in_err-put-2-clause-err c =
    let old : List ℕ = c.args.text.now in
    let w1 : List ℕ = verdict_value c.args.verdict.now in
    let h1 : c.put_value.new.text ≡ old ++ w1 = c.in_ok-put_value.ensures.ok in
    let w2 : List ℕ = w1 ++ codes " of " in
    let h2 : c.put.new.self ≡ old ++ w2 = holds_more old c.put_value.new.text c.put.new.self w1 (codes " of ") h1 c.in_ok-put.ensures.ok in
    let w3 : List ℕ = w2 ++ decimal c.args.most in
    let h3 : c.put_number.new.self ≡ old ++ w3 =
    holds_more old c.put.new.self c.put_number.new.self w2 (decimal c.args.most) h2 c.in_ok-put_number.ensures.ok in
    on_error c.from_residual-in_err-put-2.result _
    (stops_behind old c.put-2.new.self c.put_number.new.self w3 ((codes " ") ∷ (verdict_word c.args.verdict.now)
    ∷ []) h3 c.in_err-put-2.ensures.err)

pub returns-clause-err : goal.returns-clause-err
unfolding verdict_words
returns-clause-err c =
    let old : List ℕ = c.args.text.now in
    let w1 : List ℕ = verdict_value c.args.verdict.now in
    let h1 : c.put_value.new.text ≡ old ++ w1 = c.in_ok-put_value.ensures.ok in
    let w2 : List ℕ = w1 ++ codes " of " in
    let h2 : c.put.new.self ≡ old ++ w2 = holds_more old c.put_value.new.text c.put.new.self w1 (codes " of ") h1 c.in_ok-put.ensures.ok in
    let w3 : List ℕ = w2 ++ decimal c.args.most in
    let h3 : c.put_number.new.self ≡ old ++ w3 =
    holds_more old c.put.new.self c.put_number.new.self w2 (decimal c.args.most) h2 c.in_ok-put_number.ensures.ok in
    let w4 : List ℕ = w3 ++ codes " " in
    let h4 : c.put-2.new.self ≡ old ++ w4 = holds_more old c.put_number.new.self c.put-2.new.self w3 (codes " ") h3 c.in_ok-put-2.ensures.ok in
    on_err_weaker c.put-3.result
    (λ left. stops_behind old c.put-3.new.self c.put-2.new.self w4 ((verdict_word c.args.verdict.now) ∷ []) h4 left) c.put-3.ensures.err
