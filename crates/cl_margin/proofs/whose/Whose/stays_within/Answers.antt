use Rattle.std.proofs.Common.{◌≡◌, ℕ, Bool, true, false, MatchBool, sym, ap, ◌∙◌, subst}
use Rattle.std.proofs.lemmas.Bool.{true≢false}
use Rattle.cl_model.specs.{declared.task.TaskDef.TaskDef, Ranges.IsInRange}
use Rattle.cl_margin.specs.{declared.whose.Whose.{Whose, TheVariants.{EveryTask, OneTask}}, Grown.grown, Inner.Touched.{are_times_within, IsOfModel}}
use Rattle.cl_margin.proofs.GrownRange.{every_in_range, every_passes, one_in_range, one_passes}
use Rattle.cl_margin.proofs.whose.Whose.stays_within.Goals as goal

-- a test that passes exactly where something holds
by_test : (result test : Bool) (P : Type 0) → result ≡ test → (test ≡ true → P) → (P → test ≡ true) → MatchBool result P (P → ⊥)
by_test true test P is passes holds = passes (sym is)
by_test false test P is passes holds = λ p. true≢false (sym (is ∙ holds p))

pub returns-in-EveryTask : goal.returns-in-EveryTask
returns-in-EveryTask c =
    let model = c.args.model.now in
    let in_range : IsInRange model = c.plain-valid.ensures.valid.in_range in
    let percent : ℕ = c.args.percent in
    subst (λ (whose : Whose). MatchBool c.are_times_within.result (IsInRange (grown model whose percent)) (IsInRange (grown model whose percent) → ⊥)) (sym c.in-EveryTask.is)
    (by_test c.are_times_within.result _ (IsInRange (grown model EveryTask percent)) c.are_times_within.ensures (every_in_range model in_range percent) (every_passes model in_range percent))

pub returns-in-OneTask : goal.returns-in-OneTask
returns-in-OneTask c =
    let model = c.args.model.now in
    let in_range : IsInRange model = c.plain-valid.ensures.valid.in_range in
    let percent : ℕ = c.args.percent in
    let one : ℕ = c.in-OneTask.task in
    let h = subst (λ (whose : Whose). IsOfModel model whose) c.in-OneTask.is c.requires.whose in
    subst (λ (whose : Whose). MatchBool c.is_within.result (IsInRange (grown model whose percent)) (IsInRange (grown model whose percent) → ⊥)) (sym c.in-OneTask.is)
    (by_test c.is_within.result _ (IsInRange (grown model (OneTask one) percent)) (c.is_within.ensures ∙ ap (λ (t : TaskDef). are_times_within percent t) c.task.ensures.task)
    (one_in_range model in_range percent one h) (one_passes model in_range percent one h))
