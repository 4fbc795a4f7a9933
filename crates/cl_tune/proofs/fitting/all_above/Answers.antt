use Rattle.std.proofs.Common.{◌≡◌, ℕ, ◌<◌, List, [], ◌∷◌, length, take, map, get_or, refl, sym, ap, ◌∙◌, subst, take_all, arith}
use Rattle.std.specs.Prelude.{All}
use Rattle.std.proofs.lemmas.List.Elements.{All-head, All-tail}
use Rattle.cl_model.specs.declared.{model.SystemModel.SystemModel, stimulus.StimulusKind.StimulusKind}
use Rattle.cl_runs.specs.{SystemOf.system_of, TaskTiming.timing_at}
use Rattle.cl_stim.specs.Stimulus.{IsStimulus}
use Rattle.cl_stim.proofs.ValidStimuli.{has_stimulus}
use Rattle.cl_resp.specs.{declared.question.Above.Above, Question.taken_by}
use Rattle.cl_tune.proofs.Timings.{taken_at, taken_is}
use Rattle.cl_tune.proofs.fitting.all_above.Goals as goal

all_taken : (model : SystemModel) (others : List ℕ) → All (λ other. other < length model.tasks) others
    → map (taken_at model) others ≡ map (λ other. taken_by (timing_at (system_of model) other)) others
all_taken model [] known = refl
all_taken model (x ∷ xs) known =
    ap (λ (y : Above). y ∷ map (taken_at model) xs) (sym (taken_is model x (All-head (λ other. other < length model.tasks) x xs known)))
    ∙ ap (λ ys. taken_by (timing_at (system_of model) x) ∷ ys) (all_taken model xs (All-tail (λ other. other < length model.tasks) x xs known))

pub of-stimulus-requires : goal.of-stimulus-requires
of-stimulus-requires c =
    subst (λ (k : StimulusKind). IsStimulus k) (sym c.stimulus_of.ensures)
    (has_stimulus c.args.model.now c.requires.valid (get_or c.args.others.now c.loop-other.other-index 0)
    (c.requires.others c.loop-other.other-index 0 c.loop-other-test.true))

pub returns : goal.returns
returns c =
    let others = c.args.others.now in
    let all : take c.loop-other.other-index others ≡ others = take_all c.loop-other.other-index others (omega (arith, c.loop-other-test.false)) in
    c.loop-other.invariant ∙ ap (map (taken_at c.args.model.now)) all ∙ all_taken c.args.model.now others c.requires.others
