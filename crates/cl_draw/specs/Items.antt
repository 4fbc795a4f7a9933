-- The items of a row: the parts of what a task executes, and the bands of its jobs. Times are in ticks.
use Rattle.std.specs.Prelude.{ℕ, Bool, nat_le, if◌then◌else◌, is_some, unwrap_or, slice_get, slice_index_or, List, length, map}
use Rattle.std.specs.List.{range_with_len}
use Rattle.cl_model.specs.{declared.task.RunnableDef.RunnableDef, ByNumber.no_runnable}
use Rattle.cl_runs.specs.{declared.job.Job.Job, Table.job_at}
use Rattle.cl_picture.specs.declared.item.Item.{Item}
use Rattle.cl_picture.specs.declared.item.Rest.TheVariants as rest
use Rattle.cl_draw.specs.{declared.parts.Part.Part, Parts.due_at}

-- whether the runnable at a place is whole
abbrev pub is_whole : List RunnableDef → (place : ℕ) → Bool
is_whole runnables place = (slice_index_or runnables place no_runnable).whole

-- the kind of a part: 2 where it begins when its job is due or later, and else 1 where its runnable is whole
abbrev pub part_kind : List Job → (deadline : ℕ) → List RunnableDef → Part → ℕ
part_kind jobs deadline runnables part =
    if nat_le (due_at jobs deadline part.job) part.from then 2 else (if is_whole runnables part.place then 1 else 0)

-- the item of a part
abbrev pub part_item : List Job → (deadline : ℕ) → List RunnableDef → Part → Item
part_item jobs deadline runnables part = record {
  job = part.job;
  from = part.from;
  to = part.to;
  kind = part_kind jobs deadline runnables part;
  rest = rest.Part part.place;
}

-- the band of a job: from its release to its finish, or to the end of the run where it doesn't finish
abbrev pub band : List Job → (deadline : ℕ) → (finishes : List ℕ) → (ticks job : ℕ) → Item
band jobs deadline finishes ticks job = record {
  job = job;
  from = (job_at jobs job).release;
  to = unwrap_or (slice_get finishes job) ticks;
  kind = 0;
  rest = rest.Band (job_at jobs job).arrival (due_at jobs deadline job) (is_some (slice_get finishes job));
}

-- the bands of all jobs
abbrev pub bands : List Job → (deadline : ℕ) → (finishes : List ℕ) → (ticks : ℕ) → List Item
bands jobs deadline finishes ticks = map (band jobs deadline finishes ticks) (range_with_len 0 (length jobs))
