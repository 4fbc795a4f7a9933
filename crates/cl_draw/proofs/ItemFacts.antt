-- Deadlines of jobs that a window shows fit 64 bits.
use Rattle.std.proofs.Common.{◌≡◌, ℕ, ◌-◌, ◌^◌, ◌<◌, ◌≤◌, Bool, true, false, ◌&&◌, nat_lt, Some, None, List, length, min, sym, ap, ◌∙◌, arith, if◌then◌else◌}
use Rattle.std.specs.Prelude.{unwrap_or, is_some, slice_get}
use Rattle.std.proofs.lemmas.Bool.{ltb-true, false≢true}
use Rattle.cl_runs.specs.{declared.job.Job.Job, Table.job_at, Run.{Run, jobs_of}, SystemOf.system_of}
use Rattle.cl_picture.specs.{declared.{item.{Item.Item, Rest.TheVariants.Band}, window.Window.Window}, Window.IsPictureWindow}
use Rattle.cl_draw.specs.{Items.band, Parts.due_at, Inner.TaskRuns.{IsTaskRun, passing}}
use Rattle.cl_model.specs.{declared.{limits.TheConstants.MOST_TICKS, model.SystemModel.SystemModel, stimulus.StimulusKind.{StimulusKind, TheVariants.{Periodic, Sporadic, Burst}}}, ByNumber.{stimulus_of, deadline_of}, Ranges.IsKindInRange, Timing.least_distance}
use Rattle.cl_model.proofs.ValidTasks.{kind_in_range, early_enough}
use Rattle.cl_runs.proofs.{RunArrivals.released_late, ModelSystem.{count_is, system_sound}}

pub least_few : (kind : StimulusKind) → IsKindInRange kind → least_distance kind ≤ MOST_TICKS
least_few (Periodic period offset jitter) in_range = in_range.0.1
least_few (Sporadic least greatest) in_range = in_range.0.1
least_few (Burst period offset count distance) in_range = in_range.3.1

pub due_fits : (model : SystemModel) (run : Run) (task : ℕ) → IsTaskRun model run task → (window : Window) → IsPictureWindow window → (job : ℕ) → job < length (jobs_of run task)
    → (job_at (jobs_of run task) job).release < window.to
    → min (due_at (jobs_of run task) (deadline_of model task) job) (2 ^ 64 - 1) ≡ due_at (jobs_of run task) (deadline_of model task) job
due_fits model run task of window is job in_table before = omega (
  arith,
  before,
  is.limited,
  released_late (system_of model) (system_sound model of.valid) run of.legal task (omega (arith, of.is_task, count_is model)) job in_table,
  early_enough model of.valid task of.is_task,
  least_few (stimulus_of model task) (kind_in_range model of.valid task of.is_task),
)

-- a band, piece by piece
pub band_same : (jobs : List Job) (deadline : ℕ) (finishes : List ℕ) (ticks job : ℕ) (it : Job) (to due : ℕ) (finished : Bool) → it ≡ job_at jobs job
    → to ≡ unwrap_or (slice_get finishes job) ticks → due ≡ due_at jobs deadline job → finished ≡ is_some (slice_get finishes job)
    → (let item : Item = record { job = job; from = it.release; to = to; kind = 0; rest = Band it.arrival due finished } in item) ≡ band jobs deadline finishes ticks job
band_same jobs deadline finishes ticks job it to due finished is_it is_to is_due is_finished =
    let made : Job → ℕ → ℕ → Bool → Item = λ i t d f. record { job = job; from = i.release; to = t; kind = 0; rest = Band i.arrival d f } in
    ap (λ i. made i to due finished) is_it ∙ ap (λ t. made (job_at jobs job) t due finished) is_to
    ∙ ap (λ d. made (job_at jobs job) (unwrap_or (slice_get finishes job) ticks) d finished) is_due
    ∙ ap (λ f. made (job_at jobs job) (unwrap_or (slice_get finishes job) ticks) (due_at jobs deadline job) f) is_finished

and_second : (a b : Bool) → (a && b) ≡ true → b ≡ true
and_second true b is = is
and_second false b is = absurd (false≢true is)

pub begins_inside : (window : Window) (from to : ℕ) → (nat_lt window.from to && nat_lt from window.to) ≡ true → from < window.to
begins_inside window from to is = ltb-true from window.to (and_second (nat_lt window.from to) (nat_lt from window.to) is)

pub passes : {X : Type 0} (p : X → Bool) (x : X) → p x ≡ true → Some x ≡ passing p x
passes p x is = ap (λ b. if b then Some x else None) (sym is)
