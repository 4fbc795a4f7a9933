-- What a text is that was read up to what is left of it.
use Rattle.std.proofs.Common.{◌≡◌, ℕ, zero, suc, ◌<◌, ◌≤◌, inl, inr, None, List, [], ◌∷◌, ◌++◌, length, get_or, refl, sym, ap, ◌∙◌, arith}
use Rattle.std.specs.List.{flat_map, range_with_len}
use Rattle.std.proofs.lemmas.Bool.{cases_lt}
use Rattle.std.proofs.lemmas.Grind.{flat_map-append}
use Rattle.cl_model.specs.declared.model.SystemModel.{SystemModel}
use Rattle.cl_runs.specs.{declared.job.Job.Job, Table.no_job, Run.{Run, jobs_of, IsInForm}, SystemOf.system_of}
use Rattle.cl_runs.proofs.ModelSystem.{count_is, range_count_is}
use Rattle.cl_trace.specs.{Trace.{Item, Title, Ticks, End, item_text, text_of, job_items, run_items, core_items, items_of, spelled}, Rules.{IsJobInRange, IsWithinLimits, IsTraceOf, AreGoodAfter}, Inner.Bodies.{IsReadSoFar, items_in}}
use Rattle.cl_trace.proofs.{GoodLines.{head_items, good_body}, JobLines.text_all}

module _ (model : SystemModel) (text : List ℕ) (run : Run) (rest : List ℕ) (read : IsReadSoFar model text run rest) where
  -- the job lines and the run lines that were read
  abbrev pub table_items : List Item
  table_items = flat_map (items_in run.table.jobs) (range_with_len 0 (length run.table.jobs))

  abbrev pub entry_items : List Item
  entry_items = flat_map (core_items run) (range_with_len 0 (length model.cores))

  -- all lines that were read
  abbrev pub read_items : List Item
  read_items = head_items run.table.ticks ++ (table_items ++ entry_items)

  pub read_parts : text ≡ text_of model read_items ++ rest
  read_parts = text_all model (head_items run.table.ticks) (table_items ++ entry_items) text read.behind rest read.head
      (text_all model table_items entry_items read.behind read.body.between rest read.body.jobs.parts read.body.runs.parts)

  pub read_good : AreGoodAfter model [] read_items
  read_good = good_body model run.table.ticks run run.table.jobs (length run.table.jobs) (length model.cores) read.within
      read.body.jobs.of_tasks read.body.runs.of_core read.body.runs.filled

  -- ---- the run

  unfolding_tasks : length run.table.jobs ≡ length (system_of model).tasks
  unfolding_tasks = read.body.tasks ∙ sym (count_is model)

  cores_are : length model.cores ≡ (system_of model).cores
  unfolding system_of
  cores_are = refl

  pub read_form : IsInForm (system_of model) run
  read_form = record {
    tasks = unfolding_tasks;
    times = λ task job lt below.
        let in_lists : task < length run.table.jobs = omega (arith, lt, unfolding_tasks) in
        let in_model : task < length model.tasks = omega (arith, in_lists, read.body.tasks) in
        (read.body.jobs.of_tasks task in_lists job no_job below).times ∙ sym (range_count_is model task in_model);
    cores = read.body.cores ∙ cores_are;
    ticks = λ core lt. read.body.runs.filled core (omega (arith, lt, cores_are));
    entries = λ core tick lt below.
        let within : core < length model.cores = omega (arith, lt, cores_are) in
        read.body.runs.of_core core within tick None (omega (arith, below, read.body.runs.filled core within));
  }

  pub read_within : IsWithinLimits run
  read_within = record { ticks = read.within; jobs = λ task job d lt. in_range task job d lt }
    where
      no_jobs_past : (lists : List (List Job)) (n : ℕ) → length lists ≤ n → length (get_or lists n []) ≡ 0
      no_jobs_past [] n past = refl
      no_jobs_past (l ∷ ls) zero past = absurd (omega arith)
      no_jobs_past (l ∷ ls) (suc n) past = no_jobs_past ls n (omega arith)

      in_range : (task job : ℕ) (d : Job) → job < length (jobs_of run task) → IsJobInRange (get_or (jobs_of run task) job d)
      in_range task job d lt = elim (cases_lt task (length run.table.jobs)) [
        | inl below ↦ (read.body.jobs.of_tasks task below job d lt).in_range
        | inr past ↦ absurd (omega (arith, lt, no_jobs_past run.table.jobs task past))
      ]

  -- ---- the whole text

  run_items_are : run_items run ≡ entry_items
  unfolding run_items
  run_items_are = ap (λ n. flat_map (core_items run) (range_with_len 0 n)) read.body.cores

  pub all_items_are : items_of run ≡ read_items ++ End ∷ []
  unfolding job_items
  all_items_are =
      ap (λ items. Title ∷ Ticks run.table.ticks ∷ ((table_items ++ items) ++ End ∷ [])) run_items_are

  pub whole_text : rest ≡ item_text model End ++ [] → text ≡ spelled model run
  unfolding spelled
  whole_text last =
      read_parts ∙ ap (λ t. text_of model read_items ++ t) last
      ∙ sym (flat_map-append (item_text model) read_items (End ∷ []))
      ∙ ap (text_of model) (sym all_items_are)

  pub read_trace_of : rest ≡ item_text model End ++ [] → IsTraceOf model text run
  read_trace_of last = record { in_form = read_form; within = read_within; spelled = whole_text last }
