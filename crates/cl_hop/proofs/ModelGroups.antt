-- The groups of a model in the model's system: they are groups of it, and their timings by field.
use Rattle.std.proofs.Common.{◌≡◌, ℕ, ◌<◌, ◌≤◌, Bool, length, refl, sym, ap, ◌∙◌, arith}
use Rattle.cl_model.specs.{declared.{limits.TheConstants.MOST_TICKS, model.SystemModel.SystemModel, group.Group.Group, task.TaskDef.TaskDef}, Groups.IsGroupOf, ByNumber.{task_at, core_of, jitter_of, stimulus_of}, Timing.{greatest_distance, greatest_jitter}, Kinds.is_timed}
use Rattle.cl_model.specs.Validity.{IsValid}
use Rattle.cl_runs.specs.{TaskTiming.{Timing, System, timing_at}, SystemOf.system_of, ExecutionTimes.greatest_execution}
use Rattle.cl_runs.proofs.ModelSystem.{timing_is, count_is, range_count_is, system_sound}
use Rattle.cl_stim.proofs.{ValidStimuli.has_stimulus, StimulusKinds.greatest_few}
use Rattle.cl_comm.specs.{Windows.window_at, declared.spot.Window.Window}
use Rattle.cl_hop.specs.{declared.group_timing.GroupTiming.GroupTiming, Hops.{timing_in, group_timing, IsNear}, Timings.IsGroupOfTask}
use Rattle.cl_hop.proofs.GroupWindows.{jitter_within, group_proper, proper_near}

-- a group of a model is one of its system
pub group_of_system : (model : SystemModel) (group : Group) → IsGroupOf model group → IsGroupOfTask (system_of model) group
group_of_system model group is = record {
  is_task = omega (arith, is.known, count_is model);
  ordered = is.ordered;
  is_runnable = omega (arith, is.within, range_count_is model group.task is.known);
}

abbrev timing_with : (task core priority : ℕ) (timed : Bool) (jitter distance read write : ℕ) → GroupTiming
timing_with task core priority timed jitter distance read write =
    record { task = task; core = core; priority = priority; is_timed = timed; jitter = jitter; distance = distance; read = read; write = write }

same_timing : (task c p : ℕ) (r : Bool) (j d a b core priority : ℕ) (timed : Bool) (jitter distance read write : ℕ)
    → c ≡ core → p ≡ priority → r ≡ timed → j ≡ jitter → d ≡ distance → a ≡ read → b ≡ write
    → timing_with task c p r j d a b ≡ timing_with task core priority timed jitter distance read write
same_timing task c p r j d a b core priority timed jitter distance read write e f g h i k l = cc

-- the timing of a group in a window, by its fields
pub timing_of_group : (model : SystemModel) (group : Group) (task : TaskDef) → IsGroupOf model group → task ≡ task_at model group.task
    → (core jitter distance read write : ℕ) (timed : Bool)
    → core ≡ core_of model group.task → timed ≡ is_timed task.access → jitter ≡ jitter_of model group.task
    → distance ≡ greatest_distance (stimulus_of model group.task)
    → ◌≡◌ {A = GroupTiming} (record { task = group.task; core = core; priority = task.priority; is_timed = timed; jitter = jitter; distance = distance; read = read; write = write })
    (timing_in (system_of model) group read write)
timing_of_group model group task is task_is core jitter distance read write timed core_is timed_is jitter_is distance_is =
    let timing = sym (timing_is model group.task is.known) in
    same_timing _ _ _ _ _ _ _ _ _ _ _ _ _ _ _
    (core_is ∙ ap (λ (t : Timing). t.core) timing)
    (ap (λ (t : TaskDef). t.priority) task_is ∙ ap (λ (t : Timing). t.priority) timing)
    (timed_is ∙ ap (λ (t : TaskDef). is_timed t.access) task_is ∙ ap (λ (t : Timing). is_timed t.access) timing)
    (jitter_is ∙ ap (λ (t : Timing). greatest_jitter t.pattern) timing)
    (distance_is ∙ ap (λ (t : Timing). greatest_distance t.pattern) timing)
    refl
    refl

-- windows of a response make the timing by it
pub timing_by_windows : (system : System) (group : Group) (response : ℕ) (first last : Window) (timing : GroupTiming)
    → first ≡ window_at (timing_at system group.task) group.first response → last ≡ window_at (timing_at system group.task) group.last response
    → timing ≡ timing_in system group first.rlo last.whi → timing ≡ group_timing system (λ (_ : ℕ). response) group
unfolding group_timing
timing_by_windows system group response first last timing first_is last_is is =
    is ∙ ap (λ (w : Window). timing_in system group w.rlo last.whi) first_is
    ∙ ap (λ (w : Window). timing_in system group (window_at (timing_at system group.task) group.first response).rlo w.whi) last_is

-- a group is as its own response makes it
pub timing_with_response : (system : System) (responses : ℕ → ℕ) (group : Group) (response : ℕ) → response ≡ responses group.task
    → group_timing system (λ (_ : ℕ). response) group ≡ group_timing system responses group
unfolding group_timing
timing_with_response system responses group response is = ap (λ (r : ℕ). group_timing system (λ (_ : ℕ). r) group) is

-- its numbers are those of a valid model
pub distance_near : (model : SystemModel) → IsValid model → (responses : ℕ → ℕ) (group : Group) → group.task < length model.tasks
    → (group_timing (system_of model) responses group).distance ≤ MOST_TICKS
unfolding group_timing
distance_near model valid responses group known =
    rw (ap (λ (t : Timing). greatest_distance t.pattern) (timing_is model group.task known)) (greatest_few _ (has_stimulus model valid group.task known).0)

pub timing_near : (model : SystemModel) → IsValid model → (group : Group) (response : ℕ) → IsGroupOf model group
    → greatest_execution (timing_at (system_of model) group.task) ≤ response → response ≤ (timing_at (system_of model) group.task).deadline
    → IsNear (group_timing (system_of model) (λ (_ : ℕ). response) group)
timing_near model valid group response is holds by_deadline =
    proper_near (group_timing (system_of model) (λ (_ : ℕ). response) group)
    (group_proper (system_of model) (system_sound model valid) (λ (_ : ℕ). response) group (group_of_system model group is) holds by_deadline)
    (distance_near model valid (λ (_ : ℕ). response) group is.known)

-- so are those of a group in a window whose ends are
pub window_near : (model : SystemModel) → IsValid model → (group : Group) → group.task < length model.tasks → (read write : ℕ)
    → read ≤ MOST_TICKS → write ≤ MOST_TICKS → IsNear (timing_in (system_of model) group read write)
unfolding group_timing
window_near model valid group known read write soon late =
    let system = system_of model in
    let distance = distance_near model valid (λ (_ : ℕ). 0) group known in
    let jitter = jitter_within system (system_sound model valid) group.task (omega (arith, known, count_is model)) in
    record {
      jitter = omega (arith, jitter, distance);
      distance = distance;
      read = soon;
      write = late;
    }
