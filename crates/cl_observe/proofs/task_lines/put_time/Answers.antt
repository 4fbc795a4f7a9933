use Rattle.std.proofs.Common.{◌≡◌, List, ◌++◌, get_or, ap, subst, ◌∙◌, rules}
use Rattle.std.specs.Prelude.{OnOk, codes}
use Rattle.std.proofs.lemmas.List.{append_assoc, get_or_default}
use Rattle.std.proofs.lemmas.Result.{IfOk-equal}
use Rattle.cl_text.specs.Line.{line}
use Rattle.cl_model.specs.{declared.task.{TaskDef.TaskDef, RunnableDef.RunnableDef}, ByNumber.{task_at, runnable_at, no_runnable}}
use Rattle.cl_observe.specs.Observed.{range_words, observed_runnable_line}
use Rattle.cl_observe.proofs.task_lines.put_time.Goals as goal

pub returns : goal.returns
unfolding observed_runnable_line
returns c =
    let model = c.args.model.now in
    let own = c.index-as_slice-place.result in
    let all : c.as_slice.result.now ≡ (task_at model c.args.task).runnables = c.as_slice.ensures ∙ ap (λ (t : TaskDef). t.runnables) c.task.ensures.task in
    let is : own ≡ runnable_at model (record { task = c.args.task; place = c.args.place })
    = c.index-as_slice-place.is ∙ ap (λ (list : List RunnableDef). get_or list c.args.place own) all
    ∙ get_or_default (task_at model c.args.task).runnables c.args.place own no_runnable c.requires.place in
    let put : OnOk c.put-2.result (c.put-2.new.self ≡ c.args.text.now ++ line (codes "runnable " ++ own.name ++ range_words c.args.time own.least own.greatest))
    = search (rules, IfOk-equal, append_assoc) in
    subst (λ (r : RunnableDef). OnOk c.put-2.result (c.put-2.new.self ≡ c.args.text.now ++ line (codes "runnable " ++ r.name ++ range_words c.args.time r.least r.greatest))) is put
