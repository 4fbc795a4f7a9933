-- The question of a task and its tight one both ask enough of it, and the tight one asks no more.
use Rattle.std.proofs.Common.{◌≡◌, ◌<◌, ◌≤◌, true, nat_le, nat_lt, refl, arith}
use Rattle.std.specs.Prelude.{◌==◌}
use Rattle.std.proofs.lemmas.Bool.{and_parts, and_from, ltb-true, le-leb}
use Rattle.cl_runs.specs.{TaskTiming.{Timing, System}, Priorities.{may_block, is_below}}
use Rattle.cl_resp.specs.{Question.{longest_hold, block_of, lower_block_of, question_of, tight_question_of, AsksEnough}, Response.{demand, AsksNoMore}}
use Rattle.cl_model.proofs.Greatest.{greatest_of_more}

module _ (system : System) (task : Timing) where
  -- a task of lower priority is one that may block
  below_blocks : (other : Timing) → is_below task other ≡ true → may_block task other ≡ true
  below_blocks other below =
      let parts = and_parts (other.core == task.core) (nat_lt other.priority task.priority) below in
      let lower : other.priority < task.priority = ltb-true other.priority task.priority parts.1 in
      let no_higher : other.priority ≤ task.priority = omega (arith, lower) in
      and_from (other.core == task.core) (nat_le other.priority task.priority) parts.0 (le-leb other.priority task.priority no_higher)

  lower_block_is_less : lower_block_of system task ≤ block_of system task
  unfolding block_of lower_block_of
  lower_block_is_less = greatest_of_more longest_hold (is_below task) (may_block task) below_blocks system.tasks

  pub asks_plain : AsksEnough system task (question_of system task)
  unfolding question_of
  asks_plain = record { time = refl; block = lower_block_is_less; jitter = refl; deadline = refl; above = refl }

  pub asks_tight : AsksEnough system task (tight_question_of system task)
  unfolding tight_question_of
  asks_tight = record { time = refl; block = omega arith; jitter = refl; deadline = refl; above = refl }

  pub tight_asks_no_more : AsksNoMore (tight_question_of system task) (question_of system task)
  unfolding question_of tight_question_of demand
  tight_asks_no_more = record { deadline = refl; jitter = refl; needs = λ width some. omega (arith, lower_block_is_less) }
