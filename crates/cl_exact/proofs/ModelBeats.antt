-- The beats of groups of a model, those of a chain or of a part of one.
use Rattle.std.proofs.Common.{◌≡◌, ℕ, ◌+◌, ◌<◌, ◌≤◌, Bool, true, false, List, [], ◌∷◌, ◌++◌, length, get_or, take, refl, sym, ap, subst, ◌∙◌, arith, inl, inr}
use Rattle.std.specs.Prelude.{◌&&◌, All}
use Rattle.std.specs.List.{list_all}
use Rattle.std.proofs.lemmas.Bool.{cases_lt, and_parts}
use Rattle.std.proofs.Math.ListN.{get_or-append}
use Rattle.std.proofs.Math.Seq.{get_or-append_seam}
use Rattle.std.proofs.Common.{length-append}
use Rattle.std.proofs.lemmas.List.Folds.{list_all_at, list_all_more}
use Rattle.cl_model.specs.{declared.{model.SystemModel.SystemModel, group.Group.Group, limits.TheConstants.MOST_STEPS, stimulus.StimulusKind.{StimulusKind, TheVariants.{Periodic, Sporadic, Burst}}, task.TaskDef.TaskDef}, ByNumber.{task_at, stimulus_of, deadline_of}, Groups.no_group}
use Rattle.cl_model.specs.{Groups.{group_at, groups_at, IsGroupOf}, Ranges.IsKindInRange, Timing.least_distance, Validity.IsValid, Kinds.{is_timed, is_periodic}}
use Rattle.cl_model.proofs.{ValidTasks.{kind_in_range, early_enough, released_before}, GroupFacts.{groups_at_are, groups_at_some, groups_at_few}}
use Rattle.cl_runs.specs.{TaskTiming.{Timing, System, timing_at}, SystemOf.system_of}
use Rattle.cl_runs.proofs.ModelSystem.{timing_is}
use Rattle.cl_exact.specs.{declared.beat.Beat.Beat, TimedPeriodic.{is_timed_periodic_task, are_timed_periodic, is_timed_periodic_chain}, Inner.Beats.{no_beat, beat_in, IsBeat, IsBeatOf, AreBeatsOf}}

-- groups of a model whose tasks are all timed and periodic: at least one, and no more than a chain may have
pub record AreTimedGroups (model : SystemModel) (groups : List Group) : Type 0 where
  pub some : 0 < length groups
  pub few : length groups ≤ MOST_STEPS
  pub of_tasks : All (IsGroupOf model) groups
  pub timed_periodic : are_timed_periodic (system_of model) groups ≡ true

-- those of a timed periodic chain are such
pub timed_chain : (model : SystemModel) → IsValid model → (chain : ℕ) → chain < length model.chains → is_timed_periodic_chain model chain ≡ true
    → AreTimedGroups model (groups_at model chain)
timed_chain model valid chain within timed = record {
  some = groups_at_some model valid chain within;
  few = groups_at_few model valid chain within;
  of_tasks = groups_at_are model valid chain;
  timed_periodic = timed;
}

-- whether a task is timed and periodic, by what the model says of it
pub task_tested : (model : SystemModel) (i : ℕ) → i < length model.tasks → (task : TaskDef) → task ≡ task_at model i → (timed periodic : Bool)
    → timed ≡ is_timed task.access → periodic ≡ is_periodic (stimulus_of model i)
    → (timed && periodic) ≡ is_timed_periodic_task (timing_at (system_of model) i)
task_tested model i within task is timed periodic timed_is periodic_is =
    ap (λ b. b && periodic) (timed_is ∙ ap (λ (t : TaskDef). is_timed t.access) is)
    ∙ ap (λ b. is_timed (task_at model i).access && b) periodic_is
    ∙ ap is_timed_periodic_task (sym (timing_is model i within))

-- a test that all pass
pub passes_at : {X : Type 0} (p : X → Bool) (xs : List X) (i : ℕ) (d : X) → i < length xs → list_all p xs ≡ true → p (get_or xs i d) ≡ true
passes_at p xs i d within all =
    elim (p (get_or xs i d)) as (λ b. p (get_or xs i d) ≡ b → b ≡ true) [
      | true ↦ λ _. refl
      | false ↦ λ fails. sym (list_all_at p xs i d within fails) ∙ all
    ] refl

-- each task of timed periodic groups is one
pub task_passes : (system : System) (groups : List Group) (place : ℕ) → are_timed_periodic system groups ≡ true → place < length groups
    → is_timed_periodic_task (timing_at system (group_at groups place).task) ≡ true
unfolding are_timed_periodic
task_passes system groups place all within =
    passes_at (λ (group : Group). is_timed_periodic_task (timing_at system group.task)) groups place no_group within all

-- the test of groups, one after the other
pub passes_more : (system : System) (groups : List Group) (place : ℕ) → place < length groups
    → are_timed_periodic system (take place groups) ≡ true → is_timed_periodic_task (timing_at system (group_at groups place).task) ≡ true
    → are_timed_periodic system (take (place + 1) groups) ≡ true
unfolding are_timed_periodic
passes_more system groups place within so_far here =
    let p = λ (group : Group). is_timed_periodic_task (timing_at system group.task) in
    list_all_more p groups place no_group within ∙ ap (λ b. b && p (group_at groups place)) so_far ∙ here

pub fails_at : (system : System) (groups : List Group) (place : ℕ) → place < length groups
    → is_timed_periodic_task (timing_at system (group_at groups place).task) ≡ false → are_timed_periodic system groups ≡ false
unfolding are_timed_periodic
fails_at system groups place within fails =
    list_all_at (λ (group : Group). is_timed_periodic_task (timing_at system group.task)) groups place no_group within fails

pub nothing_fails : (system : System) → are_timed_periodic system [] ≡ true
unfolding are_timed_periodic
nothing_fails system = refl

-- ---- beats

-- the pattern of a timed periodic task is periodic
pub is_of_period : (model : SystemModel) (i : ℕ) → i < length model.tasks → is_timed_periodic_task (timing_at (system_of model) i) ≡ true
    → is_periodic (stimulus_of model i) ≡ true
is_of_period model i within all =
    (and_parts (is_timed (task_at model i).access) (is_periodic (stimulus_of model i)) (sym (ap is_timed_periodic_task (timing_is model i within)) ∙ all)).1

pub beat_is_of : (model : SystemModel) (i period offset jitter deadline : ℕ) → i < length model.tasks
    → stimulus_of model i ≡ Periodic period offset jitter → deadline ≡ deadline_of model i
    → IsBeatOf (timing_at (system_of model) i) (record { offset = offset; period = period; deadline = deadline })
beat_is_of model i period offset jitter deadline within is deadline_is = record {
  jitter = jitter;
  periodic = ap (λ (t : Timing). t.pattern) (timing_is model i within) ∙ is;
  deadline = ap (λ (t : Timing). t.deadline) (timing_is model i within) ∙ sym deadline_is;
}

pub beat_in_range : (model : SystemModel) → IsValid model → (i period offset jitter deadline : ℕ) → i < length model.tasks
    → stimulus_of model i ≡ Periodic period offset jitter → deadline ≡ deadline_of model i
    → IsBeat (record { offset = offset; period = period; deadline = deadline })
beat_in_range model valid i period offset jitter deadline within is deadline_is =
    let range : IsKindInRange (Periodic period offset jitter) = subst IsKindInRange is (kind_in_range model valid i within) in
    let early = early_enough model valid i within in
    let late = released_before model valid i within in
    record {
      offset = range.1;
      some_period = range.0.0;
      period = range.0.1;
      some_deadline = omega (arith, late, deadline_is);
      deadline = omega (arith, early, deadline_is, ap least_distance is, range.0.1);
    }

-- the beats of the first of some groups
pub record AreFirstBeats (system : System) (groups : List Group) (count : ℕ) (beats : List Beat) : Type 0 where
  pub as_many : length beats ≡ count
  pub of : (place : ℕ) → place < count → IsBeatOf (timing_at system (group_at groups place).task) (beat_in beats place)
  pub are : (place : ℕ) → place < count → IsBeat (beat_in beats place)

pub no_beats : (system : System) (groups : List Group) → AreFirstBeats system groups 0 []
no_beats system groups =
    record { as_many = refl; of = λ place none. absurd (omega (arith, none)); are = λ place none. absurd (omega (arith, none)) }

pub beats_more : (system : System) (groups : List Group) (count : ℕ) (beats : List Beat) (beat : Beat) → AreFirstBeats system groups count beats
    → IsBeatOf (timing_at system (group_at groups count).task) beat → IsBeat beat → AreFirstBeats system groups (count + 1) (beats ++ beat ∷ [])
beats_more system groups count beats beat so_far of is = record {
  as_many = length-append beats (beat ∷ []) ∙ omega (arith, so_far.as_many);
  of = λ place below. elim (cases_lt place count) [
    | inl before ↦ subst (IsBeatOf (timing_at system (group_at groups place).task)) (sym (old place before)) (so_far.of place before)
    | inr last ↦
        let here : count ≡ place = omega (arith, last, below) in
        subst (IsBeatOf (timing_at system (group_at groups place).task)) (sym (new place here))
        (subst (λ k. IsBeatOf (timing_at system (group_at groups k).task) beat) here of)
  ];
  are = λ place below. elim (cases_lt place count) [
    | inl before ↦ subst IsBeat (sym (old place before)) (so_far.are place before)
    | inr last ↦ subst IsBeat (sym (new place (omega (arith, last, below)))) is
  ];
}
  where
    old : (place : ℕ) → place < count → beat_in (beats ++ beat ∷ []) place ≡ beat_in beats place
    old place before = get_or-append beats (beat ∷ []) no_beat place (omega (arith, before, so_far.as_many))

    new : (place : ℕ) → count ≡ place → beat_in (beats ++ beat ∷ []) place ≡ beat
    new place here =
        ap (beat_in (beats ++ beat ∷ [])) (sym (so_far.as_many ∙ here)) ∙ get_or-append_seam beats beat [] no_beat

-- those of all of them
pub all_beats : (system : System) (groups : List Group) → 0 < length groups → length groups ≤ MOST_STEPS → (beats : List Beat)
    → AreFirstBeats system groups (length groups) beats → AreBeatsOf system groups beats
all_beats system groups some few beats all = record {
  are_beats = record {
    some = omega (arith, all.as_many, some);
    few = omega (arith, all.as_many, few);
    each = λ place below. all.are place (omega (arith, below, all.as_many));
  };
  as_many = all.as_many;
  each = all.of;
}

-- a kind that passes the test is periodic
pub periodic_kind : (kind : StimulusKind) → is_periodic kind ≡ true
    → ((period offset jitter : ℕ) → kind ≡ Periodic period offset jitter → ⊥) → ⊥
periodic_kind (Periodic period offset jitter) passes none = none period offset jitter refl
periodic_kind (Sporadic least greatest) passes none = cc
periodic_kind (Burst period offset count distance) passes none = cc
