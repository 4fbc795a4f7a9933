-- Drawn job tables are lawful, whatever the words.
use Rattle.std.proofs.Common.{◌≡◌, ℕ, zero, suc, ◌<◌, List, [], ◌∷◌, length, get_or, refl, ap, arith}
use Rattle.cl_model.specs.{declared.model.SystemModel.SystemModel, Validity.IsValid}
use Rattle.cl_runs.specs.{TaskTiming.{Timing, no_timing, IsSoundTask}, SystemOf.system_of, Table.{AreLawfulJobs, IsLawful}}
use Rattle.cl_runs.proofs.ModelSystem.{system_sound}
use Rattle.cl_gen.specs.{Words.word_of, Drawn.{drawn_jobs, word_after, drawn_tasks, drawn}}
use Rattle.cl_gen.proofs.DrawnJobs.{jobs_follow, jobs_have_times}

jobs_lawful : (word : ℕ → ℕ) (ticks from cores : ℕ) (task : Timing) → IsSoundTask cores task
    → AreLawfulJobs task ticks (drawn_jobs word from task.pattern task.ranges ticks)
jobs_lawful word ticks from cores task sound = record {
  arrivals = jobs_follow word from task.pattern task.ranges sound.pattern ticks;
  times = jobs_have_times word from task.pattern task.ranges sound.pattern (λ k d lt. (sound.times k d lt).1) ticks;
}

tasks_lawful : (word : ℕ → ℕ) (ticks cores : ℕ) (tasks : List Timing) (from i : ℕ)
    → ((j : ℕ) → j < length tasks → IsSoundTask cores (get_or tasks j no_timing)) → i < length tasks
    → AreLawfulJobs (get_or tasks i no_timing) ticks (get_or (drawn_tasks word ticks from tasks) i [])
tasks_lawful word ticks cores [] from i sound within = absurd (omega arith)
tasks_lawful word ticks cores (task ∷ tasks) from zero sound within = jobs_lawful word ticks from cores task (sound 0 (omega arith))
tasks_lawful word ticks cores (task ∷ tasks) from (suc i) sound within =
    tasks_lawful word ticks cores tasks (word_after word from task.pattern task.ranges ticks) i (λ j lt. sound (suc j) (omega arith)) (omega arith)

as_many : (word : ℕ → ℕ) (ticks : ℕ) (tasks : List Timing) (from : ℕ) → length (drawn_tasks word ticks from tasks) ≡ length tasks
as_many word ticks [] from = refl
as_many word ticks (task ∷ tasks) from = ap suc (as_many word ticks tasks (word_after word from task.pattern task.ranges ticks))

pub table_lawful : (model : SystemModel) → IsValid model → (ticks seed : ℕ) → IsLawful (system_of model) (drawn model ticks seed)
unfolding drawn
table_lawful model valid ticks seed =
    let sound = system_sound model valid in
    record {
      tasks = as_many (word_of seed) ticks (system_of model).tasks 0;
      jobs = λ i within. tasks_lawful (word_of seed) ticks (system_of model).cores (system_of model).tasks 0 i sound.tasks within;
    }

pub table_ticks : (model : SystemModel) (ticks seed : ℕ) → (drawn model ticks seed).ticks ≡ ticks
unfolding drawn
table_ticks model ticks seed = refl
