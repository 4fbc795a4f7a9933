use Rattle.std.proofs.Common.{◌≡◌, ℕ, List, [], ◌∷◌, ◌++◌, ap, ◌∙◌, subst, rules}
use Rattle.std.specs.Prelude.{codes, decimal}
use Rattle.std.proofs.lemmas.List.{append_assoc}
use Rattle.std.proofs.lemmas.Result.{IfOk-equal, on_err_weaker}
use Rattle.cl_model.specs.{ByNumber.chain_at, Kinds.length_word}
use Rattle.cl_text.specs.Beginnings.{PutsPart}
use Rattle.cl_text.proofs.Beginnings.{on_error}
use Rattle.cl_report.specs.Report.{jobs_words, witness_line}
use Rattle.cl_report.proofs.Pieces.{holds_more, stops_behind, stops_within}
use Rattle.cl_report.proofs.exact_lines.put_witness.Goals as goal

pub returns-clause-ok : goal.returns-clause-ok
unfolding witness_line
returns-clause-ok c = search (rules, IfOk-equal, append_assoc)

pub returns-in_err-put_chain_name-clause-err : goal.returns-in_err-put_chain_name-clause-err
unfolding witness_line
returns-in_err-put_chain_name-clause-err c =
    let old : List ℕ = c.args.text.now in
    let name : List ℕ = (chain_at c.args.model.now c.args.chain).name in
    let w1 : List ℕ = codes "exact " in
    let h1 : c.put.new.self ≡ old ++ w1 = c.in_ok-put.ensures.ok in
    on_error c.from_residual-in_err-put_chain_name.result _
    (stops_behind old c.put_chain_name.new.text c.put.new.self w1 (name ∷ (codes " ") ∷ (length_word c.args.kind) ∷ (codes " ")
    ∷ (decimal c.args.witness.now.length) ∷ (codes " from ") ∷ (decimal c.args.witness.now.from) ∷ (codes " to ")
    ∷ (decimal c.args.witness.now.to) ∷ (codes " jobs") ∷ (jobs_words c.args.model.now c.args.chain c.args.witness.now.jobs) ∷ (0x0A ∷ [])
    ∷ []) h1 c.in_err-put_chain_name.ensures.err)

pub returns-in_err-put-2-clause-err : goal.returns-in_err-put-2-clause-err
unfolding witness_line
returns-in_err-put-2-clause-err c =
    let old : List ℕ = c.args.text.now in
    let name : List ℕ = (chain_at c.args.model.now c.args.chain).name in
    let w1 : List ℕ = codes "exact " in
    let h1 : c.put.new.self ≡ old ++ w1 = c.in_ok-put.ensures.ok in
    let w2 : List ℕ = w1 ++ name in
    let h2 : c.put_chain_name.new.text ≡ old ++ w2 =
    holds_more old c.put.new.self c.put_chain_name.new.text w1 (name) h1 c.in_ok-put_chain_name.ensures.ok in
    on_error c.from_residual-in_err-put-2.result _
    (stops_behind old c.put-2.new.self c.put_chain_name.new.text w2 ((codes " ") ∷ (length_word c.args.kind) ∷ (codes " ")
    ∷ (decimal c.args.witness.now.length) ∷ (codes " from ") ∷ (decimal c.args.witness.now.from) ∷ (codes " to ")
    ∷ (decimal c.args.witness.now.to) ∷ (codes " jobs") ∷ (jobs_words c.args.model.now c.args.chain c.args.witness.now.jobs) ∷ (0x0A ∷ [])
    ∷ []) h2 c.in_err-put-2.ensures.err)

pub returns-in_err-put-3-clause-err : goal.returns-in_err-put-3-clause-err
unfolding witness_line
returns-in_err-put-3-clause-err c =
    let old : List ℕ = c.args.text.now in
    let name : List ℕ = (chain_at c.args.model.now c.args.chain).name in
    let w1 : List ℕ = codes "exact " in
    let h1 : c.put.new.self ≡ old ++ w1 = c.in_ok-put.ensures.ok in
    let w2 : List ℕ = w1 ++ name in
    let h2 : c.put_chain_name.new.text ≡ old ++ w2 =
    holds_more old c.put.new.self c.put_chain_name.new.text w1 (name) h1 c.in_ok-put_chain_name.ensures.ok in
    let w3 : List ℕ = w2 ++ codes " " in
    let h3 : c.put-2.new.self ≡ old ++ w3 = holds_more old c.put_chain_name.new.text c.put-2.new.self w2 (codes " ") h2 c.in_ok-put-2.ensures.ok in
    on_error c.from_residual-in_err-put-3.result _
    (stops_behind old c.put-3.new.self c.put-2.new.self w3 ((length_word c.args.kind) ∷ (codes " ") ∷ (decimal c.args.witness.now.length)
    ∷ (codes " from ") ∷ (decimal c.args.witness.now.from) ∷ (codes " to ") ∷ (decimal c.args.witness.now.to) ∷ (codes " jobs")
    ∷ (jobs_words c.args.model.now c.args.chain c.args.witness.now.jobs) ∷ (0x0A ∷ []) ∷ []) h3 c.in_err-put-3.ensures.err)

pub returns-in_err-put-4-clause-err : goal.returns-in_err-put-4-clause-err
unfolding witness_line
returns-in_err-put-4-clause-err c =
    let old : List ℕ = c.args.text.now in
    let name : List ℕ = (chain_at c.args.model.now c.args.chain).name in
    let w1 : List ℕ = codes "exact " in
    let h1 : c.put.new.self ≡ old ++ w1 = c.in_ok-put.ensures.ok in
    let w2 : List ℕ = w1 ++ name in
    let h2 : c.put_chain_name.new.text ≡ old ++ w2 =
    holds_more old c.put.new.self c.put_chain_name.new.text w1 (name) h1 c.in_ok-put_chain_name.ensures.ok in
    let w3 : List ℕ = w2 ++ codes " " in
    let h3 : c.put-2.new.self ≡ old ++ w3 = holds_more old c.put_chain_name.new.text c.put-2.new.self w2 (codes " ") h2 c.in_ok-put-2.ensures.ok in
    let w4 : List ℕ = w3 ++ length_word c.args.kind in
    let h4 : c.put-3.new.self ≡ old ++ w4 =
    holds_more old c.put-2.new.self c.put-3.new.self w3 (length_word c.args.kind) h3 (c.in_ok-put-3.ensures.ok ∙ ap (λ (word : List ℕ). c.put-2.new.self ++ word) c.kind_word.ensures) in
    on_error c.from_residual-in_err-put-4.result _
    (stops_behind old c.put-4.new.self c.put-3.new.self w4 ((codes " ") ∷ (decimal c.args.witness.now.length) ∷ (codes " from ")
    ∷ (decimal c.args.witness.now.from) ∷ (codes " to ") ∷ (decimal c.args.witness.now.to) ∷ (codes " jobs")
    ∷ (jobs_words c.args.model.now c.args.chain c.args.witness.now.jobs) ∷ (0x0A ∷ []) ∷ []) h4 c.in_err-put-4.ensures.err)

pub returns-in_err-put_number-clause-err : goal.returns-in_err-put_number-clause-err
unfolding witness_line
returns-in_err-put_number-clause-err c =
    let old : List ℕ = c.args.text.now in
    let name : List ℕ = (chain_at c.args.model.now c.args.chain).name in
    let w1 : List ℕ = codes "exact " in
    let h1 : c.put.new.self ≡ old ++ w1 = c.in_ok-put.ensures.ok in
    let w2 : List ℕ = w1 ++ name in
    let h2 : c.put_chain_name.new.text ≡ old ++ w2 =
    holds_more old c.put.new.self c.put_chain_name.new.text w1 (name) h1 c.in_ok-put_chain_name.ensures.ok in
    let w3 : List ℕ = w2 ++ codes " " in
    let h3 : c.put-2.new.self ≡ old ++ w3 = holds_more old c.put_chain_name.new.text c.put-2.new.self w2 (codes " ") h2 c.in_ok-put-2.ensures.ok in
    let w4 : List ℕ = w3 ++ length_word c.args.kind in
    let h4 : c.put-3.new.self ≡ old ++ w4 =
    holds_more old c.put-2.new.self c.put-3.new.self w3 (length_word c.args.kind) h3 (c.in_ok-put-3.ensures.ok ∙ ap (λ (word : List ℕ). c.put-2.new.self ++ word) c.kind_word.ensures) in
    let w5 : List ℕ = w4 ++ codes " " in
    let h5 : c.put-4.new.self ≡ old ++ w5 = holds_more old c.put-3.new.self c.put-4.new.self w4 (codes " ") h4 c.in_ok-put-4.ensures.ok in
    on_error c.from_residual-in_err-put_number.result _
    (stops_behind old c.put_number.new.self c.put-4.new.self w5 ((decimal c.args.witness.now.length) ∷ (codes " from ")
    ∷ (decimal c.args.witness.now.from) ∷ (codes " to ") ∷ (decimal c.args.witness.now.to) ∷ (codes " jobs")
    ∷ (jobs_words c.args.model.now c.args.chain c.args.witness.now.jobs) ∷ (0x0A ∷ []) ∷ []) h5 c.in_err-put_number.ensures.err)

pub returns-in_err-put-5-clause-err : goal.returns-in_err-put-5-clause-err
unfolding witness_line
returns-in_err-put-5-clause-err c =
    let old : List ℕ = c.args.text.now in
    let name : List ℕ = (chain_at c.args.model.now c.args.chain).name in
    let w1 : List ℕ = codes "exact " in
    let h1 : c.put.new.self ≡ old ++ w1 = c.in_ok-put.ensures.ok in
    let w2 : List ℕ = w1 ++ name in
    let h2 : c.put_chain_name.new.text ≡ old ++ w2 =
    holds_more old c.put.new.self c.put_chain_name.new.text w1 (name) h1 c.in_ok-put_chain_name.ensures.ok in
    let w3 : List ℕ = w2 ++ codes " " in
    let h3 : c.put-2.new.self ≡ old ++ w3 = holds_more old c.put_chain_name.new.text c.put-2.new.self w2 (codes " ") h2 c.in_ok-put-2.ensures.ok in
    let w4 : List ℕ = w3 ++ length_word c.args.kind in
    let h4 : c.put-3.new.self ≡ old ++ w4 =
    holds_more old c.put-2.new.self c.put-3.new.self w3 (length_word c.args.kind) h3 (c.in_ok-put-3.ensures.ok ∙ ap (λ (word : List ℕ). c.put-2.new.self ++ word) c.kind_word.ensures) in
    let w5 : List ℕ = w4 ++ codes " " in
    let h5 : c.put-4.new.self ≡ old ++ w5 = holds_more old c.put-3.new.self c.put-4.new.self w4 (codes " ") h4 c.in_ok-put-4.ensures.ok in
    let w6 : List ℕ = w5 ++ decimal c.args.witness.now.length in
    let h6 : c.put_number.new.self ≡ old ++ w6 =
    holds_more old c.put-4.new.self c.put_number.new.self w5 (decimal c.args.witness.now.length) h5 c.in_ok-put_number.ensures.ok in
    on_error c.from_residual-in_err-put-5.result _
    (stops_behind old c.put-5.new.self c.put_number.new.self w6 ((codes " from ") ∷ (decimal c.args.witness.now.from) ∷ (codes " to ")
    ∷ (decimal c.args.witness.now.to) ∷ (codes " jobs") ∷ (jobs_words c.args.model.now c.args.chain c.args.witness.now.jobs) ∷ (0x0A ∷ [])
    ∷ []) h6 c.in_err-put-5.ensures.err)

pub returns-in_err-put_number-2-clause-err : goal.returns-in_err-put_number-2-clause-err
unfolding witness_line
returns-in_err-put_number-2-clause-err c =
    let old : List ℕ = c.args.text.now in
    let name : List ℕ = (chain_at c.args.model.now c.args.chain).name in
    let w1 : List ℕ = codes "exact " in
    let h1 : c.put.new.self ≡ old ++ w1 = c.in_ok-put.ensures.ok in
    let w2 : List ℕ = w1 ++ name in
    let h2 : c.put_chain_name.new.text ≡ old ++ w2 =
    holds_more old c.put.new.self c.put_chain_name.new.text w1 (name) h1 c.in_ok-put_chain_name.ensures.ok in
    let w3 : List ℕ = w2 ++ codes " " in
    let h3 : c.put-2.new.self ≡ old ++ w3 = holds_more old c.put_chain_name.new.text c.put-2.new.self w2 (codes " ") h2 c.in_ok-put-2.ensures.ok in
    let w4 : List ℕ = w3 ++ length_word c.args.kind in
    let h4 : c.put-3.new.self ≡ old ++ w4 =
    holds_more old c.put-2.new.self c.put-3.new.self w3 (length_word c.args.kind) h3 (c.in_ok-put-3.ensures.ok ∙ ap (λ (word : List ℕ). c.put-2.new.self ++ word) c.kind_word.ensures) in
    let w5 : List ℕ = w4 ++ codes " " in
    let h5 : c.put-4.new.self ≡ old ++ w5 = holds_more old c.put-3.new.self c.put-4.new.self w4 (codes " ") h4 c.in_ok-put-4.ensures.ok in
    let w6 : List ℕ = w5 ++ decimal c.args.witness.now.length in
    let h6 : c.put_number.new.self ≡ old ++ w6 =
    holds_more old c.put-4.new.self c.put_number.new.self w5 (decimal c.args.witness.now.length) h5 c.in_ok-put_number.ensures.ok in
    let w7 : List ℕ = w6 ++ codes " from " in
    let h7 : c.put-5.new.self ≡ old ++ w7 = holds_more old c.put_number.new.self c.put-5.new.self w6 (codes " from ") h6 c.in_ok-put-5.ensures.ok in
    on_error c.from_residual-in_err-put_number-2.result _
    (stops_behind old c.put_number-2.new.self c.put-5.new.self w7 ((decimal c.args.witness.now.from) ∷ (codes " to ")
    ∷ (decimal c.args.witness.now.to) ∷ (codes " jobs") ∷ (jobs_words c.args.model.now c.args.chain c.args.witness.now.jobs) ∷ (0x0A ∷ [])
    ∷ []) h7 c.in_err-put_number-2.ensures.err)

pub returns-in_err-put-6-clause-err : goal.returns-in_err-put-6-clause-err
unfolding witness_line
returns-in_err-put-6-clause-err c =
    let old : List ℕ = c.args.text.now in
    let name : List ℕ = (chain_at c.args.model.now c.args.chain).name in
    let w1 : List ℕ = codes "exact " in
    let h1 : c.put.new.self ≡ old ++ w1 = c.in_ok-put.ensures.ok in
    let w2 : List ℕ = w1 ++ name in
    let h2 : c.put_chain_name.new.text ≡ old ++ w2 =
    holds_more old c.put.new.self c.put_chain_name.new.text w1 (name) h1 c.in_ok-put_chain_name.ensures.ok in
    let w3 : List ℕ = w2 ++ codes " " in
    let h3 : c.put-2.new.self ≡ old ++ w3 = holds_more old c.put_chain_name.new.text c.put-2.new.self w2 (codes " ") h2 c.in_ok-put-2.ensures.ok in
    let w4 : List ℕ = w3 ++ length_word c.args.kind in
    let h4 : c.put-3.new.self ≡ old ++ w4 =
    holds_more old c.put-2.new.self c.put-3.new.self w3 (length_word c.args.kind) h3 (c.in_ok-put-3.ensures.ok ∙ ap (λ (word : List ℕ). c.put-2.new.self ++ word) c.kind_word.ensures) in
    let w5 : List ℕ = w4 ++ codes " " in
    let h5 : c.put-4.new.self ≡ old ++ w5 = holds_more old c.put-3.new.self c.put-4.new.self w4 (codes " ") h4 c.in_ok-put-4.ensures.ok in
    let w6 : List ℕ = w5 ++ decimal c.args.witness.now.length in
    let h6 : c.put_number.new.self ≡ old ++ w6 =
    holds_more old c.put-4.new.self c.put_number.new.self w5 (decimal c.args.witness.now.length) h5 c.in_ok-put_number.ensures.ok in
    let w7 : List ℕ = w6 ++ codes " from " in
    let h7 : c.put-5.new.self ≡ old ++ w7 = holds_more old c.put_number.new.self c.put-5.new.self w6 (codes " from ") h6 c.in_ok-put-5.ensures.ok in
    let w8 : List ℕ = w7 ++ decimal c.args.witness.now.from in
    let h8 : c.put_number-2.new.self ≡ old ++ w8 =
    holds_more old c.put-5.new.self c.put_number-2.new.self w7 (decimal c.args.witness.now.from) h7 c.in_ok-put_number-2.ensures.ok in
    on_error c.from_residual-in_err-put-6.result _
    (stops_behind old c.put-6.new.self c.put_number-2.new.self w8 ((codes " to ") ∷ (decimal c.args.witness.now.to) ∷ (codes " jobs")
    ∷ (jobs_words c.args.model.now c.args.chain c.args.witness.now.jobs) ∷ (0x0A ∷ []) ∷ []) h8 c.in_err-put-6.ensures.err)

pub returns-in_err-put_number-3-clause-err : goal.returns-in_err-put_number-3-clause-err
unfolding witness_line
returns-in_err-put_number-3-clause-err c =
    let old : List ℕ = c.args.text.now in
    let name : List ℕ = (chain_at c.args.model.now c.args.chain).name in
    let w1 : List ℕ = codes "exact " in
    let h1 : c.put.new.self ≡ old ++ w1 = c.in_ok-put.ensures.ok in
    let w2 : List ℕ = w1 ++ name in
    let h2 : c.put_chain_name.new.text ≡ old ++ w2 =
    holds_more old c.put.new.self c.put_chain_name.new.text w1 (name) h1 c.in_ok-put_chain_name.ensures.ok in
    let w3 : List ℕ = w2 ++ codes " " in
    let h3 : c.put-2.new.self ≡ old ++ w3 = holds_more old c.put_chain_name.new.text c.put-2.new.self w2 (codes " ") h2 c.in_ok-put-2.ensures.ok in
    let w4 : List ℕ = w3 ++ length_word c.args.kind in
    let h4 : c.put-3.new.self ≡ old ++ w4 =
    holds_more old c.put-2.new.self c.put-3.new.self w3 (length_word c.args.kind) h3 (c.in_ok-put-3.ensures.ok ∙ ap (λ (word : List ℕ). c.put-2.new.self ++ word) c.kind_word.ensures) in
    let w5 : List ℕ = w4 ++ codes " " in
    let h5 : c.put-4.new.self ≡ old ++ w5 = holds_more old c.put-3.new.self c.put-4.new.self w4 (codes " ") h4 c.in_ok-put-4.ensures.ok in
    let w6 : List ℕ = w5 ++ decimal c.args.witness.now.length in
    let h6 : c.put_number.new.self ≡ old ++ w6 =
    holds_more old c.put-4.new.self c.put_number.new.self w5 (decimal c.args.witness.now.length) h5 c.in_ok-put_number.ensures.ok in
    let w7 : List ℕ = w6 ++ codes " from " in
    let h7 : c.put-5.new.self ≡ old ++ w7 = holds_more old c.put_number.new.self c.put-5.new.self w6 (codes " from ") h6 c.in_ok-put-5.ensures.ok in
    let w8 : List ℕ = w7 ++ decimal c.args.witness.now.from in
    let h8 : c.put_number-2.new.self ≡ old ++ w8 =
    holds_more old c.put-5.new.self c.put_number-2.new.self w7 (decimal c.args.witness.now.from) h7 c.in_ok-put_number-2.ensures.ok in
    let w9 : List ℕ = w8 ++ codes " to " in
    let h9 : c.put-6.new.self ≡ old ++ w9 = holds_more old c.put_number-2.new.self c.put-6.new.self w8 (codes " to ") h8 c.in_ok-put-6.ensures.ok in
    on_error c.from_residual-in_err-put_number-3.result _
    (stops_behind old c.put_number-3.new.self c.put-6.new.self w9 ((decimal c.args.witness.now.to) ∷ (codes " jobs")
    ∷ (jobs_words c.args.model.now c.args.chain c.args.witness.now.jobs) ∷ (0x0A ∷ []) ∷ []) h9 c.in_err-put_number-3.ensures.err)

pub returns-in_err-put-7-clause-err : goal.returns-in_err-put-7-clause-err
unfolding witness_line
returns-in_err-put-7-clause-err c =
    let old : List ℕ = c.args.text.now in
    let name : List ℕ = (chain_at c.args.model.now c.args.chain).name in
    let w1 : List ℕ = codes "exact " in
    let h1 : c.put.new.self ≡ old ++ w1 = c.in_ok-put.ensures.ok in
    let w2 : List ℕ = w1 ++ name in
    let h2 : c.put_chain_name.new.text ≡ old ++ w2 =
    holds_more old c.put.new.self c.put_chain_name.new.text w1 (name) h1 c.in_ok-put_chain_name.ensures.ok in
    let w3 : List ℕ = w2 ++ codes " " in
    let h3 : c.put-2.new.self ≡ old ++ w3 = holds_more old c.put_chain_name.new.text c.put-2.new.self w2 (codes " ") h2 c.in_ok-put-2.ensures.ok in
    let w4 : List ℕ = w3 ++ length_word c.args.kind in
    let h4 : c.put-3.new.self ≡ old ++ w4 =
    holds_more old c.put-2.new.self c.put-3.new.self w3 (length_word c.args.kind) h3 (c.in_ok-put-3.ensures.ok ∙ ap (λ (word : List ℕ). c.put-2.new.self ++ word) c.kind_word.ensures) in
    let w5 : List ℕ = w4 ++ codes " " in
    let h5 : c.put-4.new.self ≡ old ++ w5 = holds_more old c.put-3.new.self c.put-4.new.self w4 (codes " ") h4 c.in_ok-put-4.ensures.ok in
    let w6 : List ℕ = w5 ++ decimal c.args.witness.now.length in
    let h6 : c.put_number.new.self ≡ old ++ w6 =
    holds_more old c.put-4.new.self c.put_number.new.self w5 (decimal c.args.witness.now.length) h5 c.in_ok-put_number.ensures.ok in
    let w7 : List ℕ = w6 ++ codes " from " in
    let h7 : c.put-5.new.self ≡ old ++ w7 = holds_more old c.put_number.new.self c.put-5.new.self w6 (codes " from ") h6 c.in_ok-put-5.ensures.ok in
    let w8 : List ℕ = w7 ++ decimal c.args.witness.now.from in
    let h8 : c.put_number-2.new.self ≡ old ++ w8 =
    holds_more old c.put-5.new.self c.put_number-2.new.self w7 (decimal c.args.witness.now.from) h7 c.in_ok-put_number-2.ensures.ok in
    let w9 : List ℕ = w8 ++ codes " to " in
    let h9 : c.put-6.new.self ≡ old ++ w9 = holds_more old c.put_number-2.new.self c.put-6.new.self w8 (codes " to ") h8 c.in_ok-put-6.ensures.ok in
    let w10 : List ℕ = w9 ++ decimal c.args.witness.now.to in
    let h10 : c.put_number-3.new.self ≡ old ++ w10 =
    holds_more old c.put-6.new.self c.put_number-3.new.self w9 (decimal c.args.witness.now.to) h9 c.in_ok-put_number-3.ensures.ok in
    on_error c.from_residual-in_err-put-7.result _
    (stops_behind old c.put-7.new.self c.put_number-3.new.self w10 ((codes " jobs")
    ∷ (jobs_words c.args.model.now c.args.chain c.args.witness.now.jobs) ∷ (0x0A ∷ []) ∷ []) h10 c.in_err-put-7.ensures.err)

pub returns-in_err-put_jobs-clause-err : goal.returns-in_err-put_jobs-clause-err
unfolding witness_line
returns-in_err-put_jobs-clause-err c =
    let old : List ℕ = c.args.text.now in
    let name : List ℕ = (chain_at c.args.model.now c.args.chain).name in
    let w1 : List ℕ = codes "exact " in
    let h1 : c.put.new.self ≡ old ++ w1 = c.in_ok-put.ensures.ok in
    let w2 : List ℕ = w1 ++ name in
    let h2 : c.put_chain_name.new.text ≡ old ++ w2 =
    holds_more old c.put.new.self c.put_chain_name.new.text w1 (name) h1 c.in_ok-put_chain_name.ensures.ok in
    let w3 : List ℕ = w2 ++ codes " " in
    let h3 : c.put-2.new.self ≡ old ++ w3 = holds_more old c.put_chain_name.new.text c.put-2.new.self w2 (codes " ") h2 c.in_ok-put-2.ensures.ok in
    let w4 : List ℕ = w3 ++ length_word c.args.kind in
    let h4 : c.put-3.new.self ≡ old ++ w4 =
    holds_more old c.put-2.new.self c.put-3.new.self w3 (length_word c.args.kind) h3 (c.in_ok-put-3.ensures.ok ∙ ap (λ (word : List ℕ). c.put-2.new.self ++ word) c.kind_word.ensures) in
    let w5 : List ℕ = w4 ++ codes " " in
    let h5 : c.put-4.new.self ≡ old ++ w5 = holds_more old c.put-3.new.self c.put-4.new.self w4 (codes " ") h4 c.in_ok-put-4.ensures.ok in
    let w6 : List ℕ = w5 ++ decimal c.args.witness.now.length in
    let h6 : c.put_number.new.self ≡ old ++ w6 =
    holds_more old c.put-4.new.self c.put_number.new.self w5 (decimal c.args.witness.now.length) h5 c.in_ok-put_number.ensures.ok in
    let w7 : List ℕ = w6 ++ codes " from " in
    let h7 : c.put-5.new.self ≡ old ++ w7 = holds_more old c.put_number.new.self c.put-5.new.self w6 (codes " from ") h6 c.in_ok-put-5.ensures.ok in
    let w8 : List ℕ = w7 ++ decimal c.args.witness.now.from in
    let h8 : c.put_number-2.new.self ≡ old ++ w8 =
    holds_more old c.put-5.new.self c.put_number-2.new.self w7 (decimal c.args.witness.now.from) h7 c.in_ok-put_number-2.ensures.ok in
    let w9 : List ℕ = w8 ++ codes " to " in
    let h9 : c.put-6.new.self ≡ old ++ w9 = holds_more old c.put_number-2.new.self c.put-6.new.self w8 (codes " to ") h8 c.in_ok-put-6.ensures.ok in
    let w10 : List ℕ = w9 ++ decimal c.args.witness.now.to in
    let h10 : c.put_number-3.new.self ≡ old ++ w10 =
    holds_more old c.put-6.new.self c.put_number-3.new.self w9 (decimal c.args.witness.now.to) h9 c.in_ok-put_number-3.ensures.ok in
    let w11 : List ℕ = w10 ++ codes " jobs" in
    let h11 : c.put-7.new.self ≡ old ++ w11 =
    holds_more old c.put_number-3.new.self c.put-7.new.self w10 (codes " jobs") h10 c.in_ok-put-7.ensures.ok in
    on_error c.from_residual-in_err-put_jobs.result _
    (stops_within old c.put_jobs.new.text c.put-7.new.self w11 (jobs_words c.args.model.now c.args.chain c.args.witness.now.jobs) ((0x0A
    ∷ [])
    ∷ []) h11 (subst (λ (jobs : List ℕ). PutsPart c.put-7.new.self c.put_jobs.new.text (jobs_words c.args.model.now c.args.chain jobs)) c.as_slice.ensures.numbers c.in_err-put_jobs.ensures.err))

pub returns-clause-err : goal.returns-clause-err
unfolding witness_line
returns-clause-err c =
    let old : List ℕ = c.args.text.now in
    let name : List ℕ = (chain_at c.args.model.now c.args.chain).name in
    let w1 : List ℕ = codes "exact " in
    let h1 : c.put.new.self ≡ old ++ w1 = c.in_ok-put.ensures.ok in
    let w2 : List ℕ = w1 ++ name in
    let h2 : c.put_chain_name.new.text ≡ old ++ w2 =
    holds_more old c.put.new.self c.put_chain_name.new.text w1 (name) h1 c.in_ok-put_chain_name.ensures.ok in
    let w3 : List ℕ = w2 ++ codes " " in
    let h3 : c.put-2.new.self ≡ old ++ w3 = holds_more old c.put_chain_name.new.text c.put-2.new.self w2 (codes " ") h2 c.in_ok-put-2.ensures.ok in
    let w4 : List ℕ = w3 ++ length_word c.args.kind in
    let h4 : c.put-3.new.self ≡ old ++ w4 =
    holds_more old c.put-2.new.self c.put-3.new.self w3 (length_word c.args.kind) h3 (c.in_ok-put-3.ensures.ok ∙ ap (λ (word : List ℕ). c.put-2.new.self ++ word) c.kind_word.ensures) in
    let w5 : List ℕ = w4 ++ codes " " in
    let h5 : c.put-4.new.self ≡ old ++ w5 = holds_more old c.put-3.new.self c.put-4.new.self w4 (codes " ") h4 c.in_ok-put-4.ensures.ok in
    let w6 : List ℕ = w5 ++ decimal c.args.witness.now.length in
    let h6 : c.put_number.new.self ≡ old ++ w6 =
    holds_more old c.put-4.new.self c.put_number.new.self w5 (decimal c.args.witness.now.length) h5 c.in_ok-put_number.ensures.ok in
    let w7 : List ℕ = w6 ++ codes " from " in
    let h7 : c.put-5.new.self ≡ old ++ w7 = holds_more old c.put_number.new.self c.put-5.new.self w6 (codes " from ") h6 c.in_ok-put-5.ensures.ok in
    let w8 : List ℕ = w7 ++ decimal c.args.witness.now.from in
    let h8 : c.put_number-2.new.self ≡ old ++ w8 =
    holds_more old c.put-5.new.self c.put_number-2.new.self w7 (decimal c.args.witness.now.from) h7 c.in_ok-put_number-2.ensures.ok in
    let w9 : List ℕ = w8 ++ codes " to " in
    let h9 : c.put-6.new.self ≡ old ++ w9 = holds_more old c.put_number-2.new.self c.put-6.new.self w8 (codes " to ") h8 c.in_ok-put-6.ensures.ok in
    let w10 : List ℕ = w9 ++ decimal c.args.witness.now.to in
    let h10 : c.put_number-3.new.self ≡ old ++ w10 =
    holds_more old c.put-6.new.self c.put_number-3.new.self w9 (decimal c.args.witness.now.to) h9 c.in_ok-put_number-3.ensures.ok in
    let w11 : List ℕ = w10 ++ codes " jobs" in
    let h11 : c.put-7.new.self ≡ old ++ w11 =
    holds_more old c.put_number-3.new.self c.put-7.new.self w10 (codes " jobs") h10 c.in_ok-put-7.ensures.ok in
    let w12 : List ℕ = w11 ++ jobs_words c.args.model.now c.args.chain c.args.witness.now.jobs in
    let h12 : c.put_jobs.new.text ≡ old ++ w12 =
    holds_more old c.put-7.new.self c.put_jobs.new.text w11 (jobs_words c.args.model.now c.args.chain c.args.witness.now.jobs) h11 (c.in_ok-put_jobs.ensures.ok ∙ ap (λ (jobs : List ℕ). c.put-7.new.self ++ jobs_words c.args.model.now c.args.chain jobs) c.as_slice.ensures.numbers) in
    on_err_weaker c.put-8.result (λ left. stops_behind old c.put-8.new.self c.put_jobs.new.text w12 ((0x0A ∷ []) ∷ []) h12 left) c.put-8.ensures.err
