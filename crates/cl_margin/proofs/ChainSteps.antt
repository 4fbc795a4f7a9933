-- The answer for a chain of a model, from its groups, one after another: its first late task, or its tight bounds.
use Rattle.std.proofs.Common.{◌≡◌, ℕ, ◌+◌, ◌<◌, ◌≤◌, true, List, [], ◌∷◌, ◌++◌, length, get_or, map, take, refl, sym, ap, ◌∙◌, subst, arith}
use Rattle.std.specs.Prelude.{All}
use Rattle.std.proofs.lemmas.List.{get_or-map, map_more, take_all}
use Rattle.std.proofs.lemmas.List.Elements.{All-append, All-cons, All-nil}
use Rattle.cl_model.specs.{declared.{group.Group.Group, model.SystemModel.SystemModel}, ByNumber.{no_chain, chain_at}, Groups.{no_group, groups_at}}
use Rattle.cl_runs.specs.SystemOf.{system_of}
use Rattle.cl_hop.specs.{declared.group_timing.GroupTiming.GroupTiming, Bounds.Lengths, Hops.IsNear}
use Rattle.cl_bound.specs.{declared.answer.TaskAnswer.TaskAnswer, Answers.{answer_at, is_late, NoneIsLate}}
use Rattle.cl_phase.specs.TightBounds.{tight_bounds}
use Rattle.cl_analyse.specs.{declared.findings.ChainAnswer.TheVariants.{Bounds, Late}, ChainAnswers.chain_answer_at}
use Rattle.cl_analyse.proofs.FirstLate.{none_late, late_found, timely_more, timely_all}
use Rattle.cl_tight.specs.{TightAnswers.tight_answers_of, TightFindings.{tight_chain_answer_of, tight_chain_answers_of}, TightTimings.tight_timing}
use Rattle.cl_tight.proofs.TightLists.{late_answer, bounds_answer}
use Rattle.cl_margin.specs.Inner.Trials.{IsTimingAt}

module _ (model : SystemModel) (chain : ℕ) where
  abbrev groups : List Group
  groups = groups_at model chain

  abbrev answers : List TaskAnswer
  answers = tight_answers_of (system_of model)

  abbrev timing : Group → GroupTiming
  timing = tight_timing (system_of model)

  -- what is known of the first groups
  pub record AreTimedUpTo (count : ℕ) (timings : List GroupTiming) : Type 0 where
    pub timely : NoneIsLate answers (take count groups)
    pub items : timings ≡ map timing (take count groups)
    pub near : All IsNear timings

  pub none_timed : (timings : List GroupTiming) → timings ≡ [] → AreTimedUpTo 0 timings
  none_timed timings none = record {
    timely = λ k d lt. absurd (omega (arith, lt));
    items = none;
    near = λ k d lt. absurd (omega (arith, lt, ap length none));
  }

  pub one_timed : (count : ℕ) (timings more : List GroupTiming) (group : Group) (own : GroupTiming) → count < length groups → group ≡ get_or groups count no_group
      → AreTimedUpTo count timings → IsTimingAt model group own → more ≡ timings ++ own ∷ [] → AreTimedUpTo (count + 1) more
  one_timed count timings more group own lt at are is pushed = record {
    timely = timely_more answers model (chain_at model chain) count group no_group lt at are.timely is.timely;
    items = pushed ∙ ap (λ list. list ++ own ∷ []) are.items
        ∙ ap (λ t. map timing (take count groups) ++ t ∷ []) (is.is ∙ ap timing at)
        ∙ sym (map_more timing groups count no_group lt);
    near = subst (All IsNear) (sym pushed) (All-append IsNear timings (own ∷ []) are.near (All-cons IsNear own [] is.near (All-nil IsNear)));
  }

  -- after all groups these are all timings
  pub all_timed : (count : ℕ) (timings : List GroupTiming) → length groups ≤ count → AreTimedUpTo count timings → timings ≡ map timing groups
  all_timed count timings all are = are.items ∙ ap (map timing) (take_all count groups all)

  module _ (h : chain < length model.chains) where
    own_answer : chain_answer_at (tight_chain_answers_of model) chain ≡ tight_chain_answer_of model (chain_at model chain)
    own_answer = get_or-map (tight_chain_answer_of model) model.chains chain no_chain (Late 0) h

    -- the first late one
    pub late_is : (count : ℕ) (timings : List GroupTiming) (group : Group) → count < length groups → group ≡ get_or groups count no_group → AreTimedUpTo count timings
        → is_late (answer_at answers group.task) ≡ true → Late group.task ≡ chain_answer_at (tight_chain_answers_of model) chain
    late_is count timings group lt at are late =
        late_answer model answers (chain_at model chain) refl group.task (late_found answers model (chain_at model chain) count group no_group lt at are.timely late)
        ∙ sym own_answer

    -- where there is none, the bounds
    pub bounds_are : (count : ℕ) (timings : List GroupTiming) (bounds : Lengths) → length groups ≤ count → AreTimedUpTo count timings
        → bounds ≡ tight_bounds (system_of model) timing groups → Bounds bounds ≡ chain_answer_at (tight_chain_answers_of model) chain
    bounds_are count timings bounds all are own =
        bounds_answer model answers (chain_at model chain) refl bounds
        (none_late answers model (chain_at model chain) (timely_all answers model (chain_at model chain) count all are.timely)) own
        ∙ sym own_answer
