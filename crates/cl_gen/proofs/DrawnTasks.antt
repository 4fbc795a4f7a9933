-- Drawing task after task: what is left to draw once one more task is drawn, and at the end.
use Rattle.std.proofs.Common.{◌≡◌, ℕ, ◌+◌, ◌<◌, ◌≤◌, List, [], ◌∷◌, ◌++◌, length, get_or, drop, sym, ap, ◌∙◌, append_assoc}
use Rattle.std.proofs.Math.ListN.{drop_of_length-le}
use Rattle.std.proofs.lemmas.List.{drop_more, append-nil}
use Rattle.cl_runs.specs.{declared.job.Job.Job, TaskTiming.{Timing, no_timing}}
use Rattle.cl_gen.specs.Drawn.{drawn_jobs, word_after, drawn_tasks}

module _ (word : ℕ → ℕ) (ticks : ℕ) (tasks : List Timing) where
  next_task : (from i : ℕ) → i < length tasks
      → drawn_tasks word ticks from (drop i tasks)
      ≡ drawn_jobs word from (get_or tasks i no_timing).pattern (get_or tasks i no_timing).ranges ticks
      ∷ drawn_tasks word ticks (word_after word from (get_or tasks i no_timing).pattern (get_or tasks i no_timing).ranges ticks) (drop (i + 1) tasks)
  next_task from i h = ap (drawn_tasks word ticks from) (drop_more tasks i no_timing h)

  pub tasks_more : (from after i : ℕ) (so_far more : List (List Job)) (jobs : List Job) → i < length tasks → more ≡ so_far ++ jobs ∷ []
      → jobs ≡ drawn_jobs word from (get_or tasks i no_timing).pattern (get_or tasks i no_timing).ranges ticks
      → after ≡ word_after word from (get_or tasks i no_timing).pattern (get_or tasks i no_timing).ranges ticks
      → more ++ drawn_tasks word ticks after (drop (i + 1) tasks) ≡ so_far ++ drawn_tasks word ticks from (drop i tasks)
  tasks_more from after i so_far more jobs h is_more are_jobs is_after =
      let drawn = drawn_jobs word from (get_or tasks i no_timing).pattern (get_or tasks i no_timing).ranges ticks in
      ap (λ list. list ++ drawn_tasks word ticks after (drop (i + 1) tasks)) is_more
      ∙ append_assoc so_far (jobs ∷ []) (drawn_tasks word ticks after (drop (i + 1) tasks))
      ∙ ap (λ list. so_far ++ list)
      (ap (λ js. js ∷ drawn_tasks word ticks after (drop (i + 1) tasks)) are_jobs
      ∙ ap (λ n. drawn ∷ drawn_tasks word ticks n (drop (i + 1) tasks)) is_after
      ∙ sym (next_task from i h))

  pub tasks_all : (from i : ℕ) (so_far all : List (List Job)) → length tasks ≤ i → so_far ++ drawn_tasks word ticks from (drop i tasks) ≡ all
      → so_far ≡ all
  tasks_all from i so_far all end is =
      sym (append-nil so_far) ∙ sym (ap (λ ts. so_far ++ drawn_tasks word ticks from ts) (drop_of_length-le tasks end)) ∙ is
