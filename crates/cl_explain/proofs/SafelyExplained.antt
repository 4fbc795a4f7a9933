-- What an explanation shows is safe, and which tasks are called late.
use Rattle.std.proofs.Common.{◌≡◌, ℕ, ◌<◌, false, List, length, ◌∙◌, subst, arith}
use Rattle.std.proofs.lemmas.List.{get_or-map}
use Rattle.cl_model.specs.{declared.model.SystemModel.SystemModel, ByNumber.no_chain, Validity.IsValid}
use Rattle.cl_runs.specs.{TaskTiming.timing_at, SystemOf.system_of, Responses.AlwaysFinishesWithin}
use Rattle.cl_runs.proofs.ModelSystem.{count_is, system_sound}
use Rattle.cl_hop.specs.{declared.group_timing.GroupTiming.GroupTiming, Bounds.AreBoundsOf}
use Rattle.cl_bound.specs.Answers.{answer_at, is_late}
use Rattle.cl_analyse.specs.declared.findings.ChainAnswer.TheVariants.{Late}
use Rattle.cl_analyse.proofs.SafeFindings.{responses_hold, bounds_hold, bounds_found, answer_of_chain}
use Rattle.cl_tight.specs.{TightAnswers.tight_answers_of, TightFindings.tight_chain_answer_of}
use Rattle.cl_tight.proofs.TightChains.{timely_task, tight_bounds_hold}
use Rattle.cl_explain.specs.{Accepted.accepted_text, Explanation.explanation, Promises.{IsSafelyExplained, IsSafeExplanation, AreRightlyLate, IsSafeAcceptance}}
use Rattle.cl_explain.proofs.{AddedUp.{settled_parts, late_parts, groups_sum}, LongestWalk.shows_walk, NoResponses.late_by_phase}

module _ (model : SystemModel) (valid : IsValid model) where
  safely_explained : IsSafelyExplained model
  safely_explained = record {
    responses = λ task response within is. (responses_hold model valid task response within is, settled_parts model valid task within response is);
    late = λ task within is. late_parts model valid task within is;
    bounds = λ chain bounds within is. bounds_hold model valid chain bounds within (answer_of_chain model chain within ∙ is);
    sums = λ chain bounds within is first later are.
        groups_sum first later bounds (subst (λ (timings : List GroupTiming). AreBoundsOf timings bounds) are (bounds_found model valid chain bounds within (answer_of_chain model chain within ∙ is)));
    tight = λ chain bounds within is. (
      tight_bounds_hold model valid chain within bounds (get_or-map (tight_chain_answer_of model) model.chains chain no_chain (Late 0) within ∙ is),
      shows_walk model valid chain bounds within is,
    );
  }

  -- a task that isn't called late always finishes within its deadline
  in_deadline : (task : ℕ) → task < length model.tasks → is_late (answer_at (tight_answers_of (system_of model)) task) ≡ false
      → AlwaysFinishesWithin (system_of model) task (timing_at (system_of model) task).deadline
  in_deadline task within timely run legal =
      let is = timely_task model valid task within timely in
      let early = is.by_deadline in
      record {
        each = λ job known lasts.
            let (finish, finishes, soon) = (is.always run legal).each job known (omega (arith, early, lasts)) in
            (finish, finishes, omega (arith, early, soon));
      }

  rightly_late : AreRightlyLate model
  rightly_late = record {
    late = λ task within is. late_by_phase (system_of model) (system_sound model valid) task (omega (arith, within, count_is model)) is;
    timely = in_deadline;
  }

  pub safe_explanation : (text : List ℕ) → text ≡ explanation model → IsSafeExplanation model text
  safe_explanation text is = record { printed = is; safe = safely_explained }

  pub safe_acceptance : (text : List ℕ) → text ≡ accepted_text model → IsSafeAcceptance model text
  safe_acceptance text is = record { printed = is; late = rightly_late }
