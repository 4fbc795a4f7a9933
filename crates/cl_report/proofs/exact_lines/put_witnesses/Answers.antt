use Rattle.std.proofs.Common.{◌≡◌, [], ◌∷◌, ◌++◌, length, ap, subst, ◌∙◌}
use Rattle.std.proofs.lemmas.Result.{on_err_weaker}
use Rattle.cl_model.specs.{declared.chain.LengthKind.TheVariants.{Reaction, Age, Reduced}, Groups.groups_at}
use Rattle.cl_runs.specs.SystemOf.{system_of}
use Rattle.cl_exact.specs.declared.witness.Witness.{Witness}
use Rattle.cl_text.specs.Beginnings.{PutsPart}
use Rattle.cl_text.proofs.Beginnings.{on_error}
use Rattle.cl_report.specs.Report.{witness_line}
use Rattle.cl_report.proofs.{Pieces.{part_of_all, holds_more, stops_within}, ReportLines.{reaction_jobs, age_jobs, reduced_jobs}}
use Rattle.cl_report.proofs.exact_lines.put_witnesses.Goals as goal

pub put_witness-requires-clause-jobs : goal.put_witness-requires-clause-jobs
put_witness-requires-clause-jobs c =
    ap (λ (w : Witness). length w.jobs) c.reaction.ensures ∙ reaction_jobs (system_of c.args.model.now) (groups_at c.args.model.now c.args.chain) c.args.lengths.now c.requires.lengths

pub put_witness-requires-2-clause-jobs : goal.put_witness-requires-2-clause-jobs
put_witness-requires-2-clause-jobs c =
    ap (λ (w : Witness). length w.jobs) c.age.ensures ∙ age_jobs (system_of c.args.model.now) (groups_at c.args.model.now c.args.chain) c.args.lengths.now c.requires.lengths

pub put_witness-requires-3-clause-jobs : goal.put_witness-requires-3-clause-jobs
put_witness-requires-3-clause-jobs c =
    ap (λ (w : Witness). length w.jobs) c.reduced.ensures ∙ reduced_jobs (system_of c.args.model.now) (groups_at c.args.model.now c.args.chain) c.args.lengths.now c.requires.lengths

pub returns-in_err-put_witness-clause-err : goal.returns-in_err-put_witness-clause-err
returns-in_err-put_witness-clause-err c =
    let first = witness_line c.args.model.now c.args.chain Reaction in
    let lengths = c.args.lengths.now in
    on_error c.from_residual.result _ (part_of_all c.args.text.now c.put_witness.new.text (first lengths.reaction)
    (witness_line c.args.model.now c.args.chain Age lengths.age ∷ witness_line c.args.model.now c.args.chain Reduced lengths.reduced ∷ [])
    (subst (λ (w : Witness). PutsPart c.args.text.now c.put_witness.new.text (first w)) c.reaction.ensures c.in_err-put_witness.ensures.err))

pub returns-in_err-put_witness-2-clause-err : goal.returns-in_err-put_witness-2-clause-err
returns-in_err-put_witness-2-clause-err c =
    let first = witness_line c.args.model.now c.args.chain Reaction in
    let second = witness_line c.args.model.now c.args.chain Age in
    let lengths = c.args.lengths.now in
    on_error c.from_residual-in_err-put_witness-2.result _ (stops_within c.args.text.now c.put_witness-2.new.text c.put_witness.new.text (first lengths.reaction) (second lengths.age)
    (witness_line c.args.model.now c.args.chain Reduced lengths.reduced ∷ [])
    (c.in_ok-put_witness.ensures.ok ∙ ap (λ (w : Witness). c.args.text.now ++ first w) c.reaction.ensures)
    (subst (λ (w : Witness). PutsPart c.put_witness.new.text c.put_witness-2.new.text (second w)) c.age.ensures c.in_err-put_witness-2.ensures.err))

pub returns-clause-err : goal.returns-clause-err
returns-clause-err c =
    let first = witness_line c.args.model.now c.args.chain Reaction in
    let second = witness_line c.args.model.now c.args.chain Age in
    let third = witness_line c.args.model.now c.args.chain Reduced in
    let lengths = c.args.lengths.now in
    let one : c.put_witness.new.text ≡ c.args.text.now ++ first lengths.reaction = c.in_ok-put_witness.ensures.ok ∙ ap (λ (w : Witness). c.args.text.now ++ first w) c.reaction.ensures in
    let two : c.put_witness-2.new.text ≡ c.args.text.now ++ (first lengths.reaction ++ second lengths.age) =
    holds_more c.args.text.now c.put_witness.new.text c.put_witness-2.new.text (first lengths.reaction) (second lengths.age) one
    (c.in_ok-put_witness-2.ensures.ok ∙ ap (λ (w : Witness). c.put_witness.new.text ++ second w) c.age.ensures) in
    on_err_weaker c.put_witness-3.result
    (λ part. stops_within c.args.text.now c.put_witness-3.new.text c.put_witness-2.new.text (first lengths.reaction ++ second lengths.age) (third lengths.reduced) [] two
    (subst (λ (w : Witness). PutsPart c.put_witness-2.new.text c.put_witness-3.new.text (third w)) c.reduced.ensures part)) c.put_witness-3.ensures.err
