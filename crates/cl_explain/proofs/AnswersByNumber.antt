-- The answers for tasks by their numbers.
use Rattle.std.proofs.Common.{◌≡◌, ℕ, ◌+◌, ◌<◌, List, [], ◌∷◌, ◌++◌, length, map, sym, ap, ◌∙◌, arith}
use Rattle.std.specs.List.{range_with_len}
use Rattle.std.proofs.lemmas.List.FromFn.{map-range_with_len_more}
use Rattle.cl_resp.proofs.Filters.{by_number}
use Rattle.std.proofs.lemmas.List.{get_or-map, length-map}
use Rattle.cl_model.specs.declared.model.SystemModel.{SystemModel}
use Rattle.cl_runs.specs.{TaskTiming.{timing_at, no_timing}, SystemOf.{timing_of, system_of}}
use Rattle.cl_bound.specs.{declared.answer.TaskAnswer.{TaskAnswer, TheVariants.Late}, Answers.{answer_to, answers_of, answer_at}}

count_is : (model : SystemModel) → length (system_of model).tasks ≡ length model.tasks
unfolding system_of
count_is model = length-map model.tasks (timing_of model)

pub answer_is : (model : SystemModel) (task : ℕ) → task < length model.tasks
    → answer_at (answers_of (system_of model)) task ≡ answer_to (system_of model) (timing_at (system_of model) task)
unfolding answers_of
answer_is model task h = get_or-map (answer_to (system_of model)) (system_of model).tasks task no_timing Late (omega (arith, h, count_is model))

-- ---- lists of answers

-- those for the tasks below a number
abbrev pub answers_below : List TaskAnswer → (tasks : ℕ) → List TaskAnswer
answers_below answers tasks = map (answer_at answers) (range_with_len 0 tasks)

pub one_more : (answers old new : List TaskAnswer) (task : ℕ) (answer : TaskAnswer) → old ≡ answers_below answers task → answer ≡ answer_at answers task
    → new ≡ old ++ answer ∷ [] → new ≡ answers_below answers (task + 1)
one_more answers old new task answer was is more =
    let last : 0 + task ≡ task = omega arith in
    more ∙ ap (λ (list : List TaskAnswer). list ++ answer ∷ []) was ∙ ap (λ (a : TaskAnswer). answers_below answers task ++ a ∷ []) is
    ∙ sym (map-range_with_len_more (answer_at answers) 0 task task last)

all_below : (answers : List TaskAnswer) (tasks : ℕ) → tasks ≡ length answers → answers_below answers tasks ≡ answers
all_below answers tasks all = ap (answers_below answers) all ∙ by_number answers Late

pub all_answers : (model : SystemModel) (tasks : ℕ) → tasks ≡ length model.tasks → answers_below (answers_of (system_of model)) tasks ≡ answers_of (system_of model)
unfolding answers_of
all_answers model tasks all =
    all_below (map (answer_to (system_of model)) (system_of model).tasks) tasks (all ∙ sym (length-map (system_of model).tasks (answer_to (system_of model)) ∙ count_is model))
