-- The lines of windows and shares, by the numbers that the code finds.
use Rattle.std.proofs.Common.{◌≡◌, ℕ, ◌<◌, Bool, true, cond, List, [], ◌++◌, ℤ, sym, ap, ◌∙◌, arith}
use Rattle.std.specs.Prelude.{codes, decimal}
use Rattle.std.proofs.lemmas.Bool.{lt-ltb}
use Rattle.std.proofs.lemmas.List.{append_assoc}
use Rattle.cl_text.specs.Line.{line}
use Rattle.cl_model.specs.{declared.model.SystemModel.SystemModel, ByNumber.task_at}
use Rattle.cl_runs.specs.{TaskTiming.timing_at, SystemOf.system_of, Priorities.is_above}
use Rattle.cl_cycle.specs.Cycles.{is_one_of, in_phase_above}
use Rattle.cl_resp.specs.declared.worst.WorstWindow.{WorstWindow}
use Rattle.cl_explain.specs.Parts.{where_some}
use Rattle.cl_why.specs.{Windows.{end_of, jobs_in_window, time_in_window, time_past_window}, Shares.{window_line, free_words, jobs_share, above_share}, Inner.{window_until, jobs_line}}

where_more : (number : ℕ) → (number ≡ 0 → ⊥) → (text : List ℕ) → text ≡ where_some number text
where_more number some text =
    let more : 0 < number = omega (arith, some) in
    sym (ap (λ b. cond b text []) (lt-ltb 0 number more))

-- the words of a share behind its task
behind : (a b c d e f g h i : List ℕ) → a ++ b ++ c ++ d ++ e ++ f ++ g ++ h ++ i ≡ a ++ b ++ (c ++ d ++ e ++ f ++ g ++ h ++ i)
behind a b c d e f g h i = simp append_assoc

module _ (model : SystemModel) (task : ℕ) (window : WorstWindow) where
  pub window_is : (until : ℤ) (over : ℕ) → until ≡ end_of model task window → over ≡ time_past_window model task window
      → window_until model task window until over ≡ window_line model task window
  unfolding window_line
  window_is until over ends more =
      ap (λ (z : ℤ). window_until model task window z over) ends ∙ ap (λ n. window_until model task window (end_of model task window) n) more

  module _ (other : ℕ) where
    pub jobs_are : (jobs time : ℕ) (kept : Bool) → jobs ≡ jobs_in_window model task window other → time ≡ time_in_window model task window other
        → kept ≡ is_one_of (in_phase_above (system_of model) task) other → (jobs ≡ 0 → ⊥)
        → jobs_line model task other jobs time kept ≡ jobs_share model task window other
    jobs_are jobs time kept is takes keeps some =
        ap (λ n. jobs_line model task other n time kept) is ∙ ap (λ n. jobs_line model task other (jobs_in_window model task window other) n kept) takes
        ∙ ap (λ b. jobs_line model task other (jobs_in_window model task window other) (time_in_window model task window other) b) keeps
        ∙ ap line (behind (codes "share ") (task_at model task).name (codes " above ") (task_at model other).name (codes " jobs ")
        (decimal (jobs_in_window model task window other)) (codes " time ") (decimal (time_in_window model task window other))
        (free_words (is_one_of (in_phase_above (system_of model) task) other)))
        ∙ where_more (jobs_in_window model task window other) (λ none. some (is ∙ none)) _

    pub above_is : is_above (timing_at (system_of model) task) (timing_at (system_of model) other) ≡ true
        → jobs_share model task window other ≡ above_share model task window other
    above_is above = sym (ap (λ b. cond b (jobs_share model task window other) []) above)
