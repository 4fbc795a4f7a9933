-- Each valid model has reasons: those with no more decided than bounds do, of worst windows and walks that aren't moved.
use Rattle.std.proofs.Common.{◌≡◌, ℕ, ◌*◌, ◌<◌, ℤ, pos, ◌+ℤ◌, List, ◌++◌, None, length, map, refl, ◌∙◌, arith}
use Rattle.std.specs.List.{range_with_len}
use Rattle.std.proofs.lemmas.Int.{ints}
use Rattle.cl_model.specs.{declared.{chain.RequirementKind.RequirementKind, group.Group.Group, model.SystemModel.SystemModel}, ByNumber.{chain_at, no_requirement, requirement_at}, Groups.groups_at, Validity.IsValid}
use Rattle.cl_runs.specs.{TaskTiming.System, SystemOf.system_of, Requirements.required_chain}
use Rattle.cl_hop.specs.declared.group_timing.GroupTiming.{GroupTiming}
use Rattle.cl_phase.specs.{declared.{stop.Stop.Stop, whole.WholeWalk.WholeWalk}, Walks.pace_at, TightBounds.{stops_of, span_of, last_write, slowest, hyperperiod_in}, Walked.walk_start, Whole.{is_kept, missed_at, counted_at, IsMovedWalk, IsWholeWalkOf}}
use Rattle.cl_analyse.specs.{declared.findings.ChainAnswer.{ChainAnswer, TheVariants.{Bounds, Late}}, Verdicts.limited_bound}
use Rattle.cl_tight.specs.{TightTimings.tight_timing, TightFindings.{tight_chain_answer_of, tight_chain_answers_of}}
use Rattle.cl_tight.proofs.{TightChains.tight_answer, TightLists.required_known, TightLengths.tight_late_known}
use Rattle.cl_report.specs.Report.{chain_line}
use Rattle.cl_verify.specs.{Decisions.{task_decision_at, decision_at}, VerifyText.{task_decision_line, decision_line}}
use Rattle.cl_verify.proofs.SomeDecisions.{some_decisions}
use Rattle.cl_why.specs.{Shares.window_lines, Hops.why_group_lines, Walks.why_walk_lines, Reasons.{title, bound_line, IsReasonOfTask, IsReasonOfBound, IsReasonBy, IsReasonOfChain, IsWhyOfTask, IsWhyOfChain, IsWhyOfRequirement}}
use Rattle.cl_why.proofs.SomeWorst.{some_worst}

unmoved : (moment : ℤ) (turn : ℕ) → moment ≡ (moment +ℤ pos (0 * turn))
unmoved moment turn = omega (arith, ints)

-- ---- walks

-- a walk that isn't moved
abbrev walk_of : List Stop → RequirementKind → (start : ℤ) → WholeWalk
walk_of stops kind start = record {
  kept = map (λ group. is_kept (pace_at stops group)) (range_with_len 0 (length stops));
  missed = map (λ group. missed_at stops (slowest stops) start group +ℤ pos (0 * hyperperiod_in stops)) (range_with_len 0 (length stops));
  taken = map (λ group. counted_at kind stops (slowest stops) start group +ℤ pos (0 * hyperperiod_in stops)) (range_with_len 0 (length stops));
  until = pos 0;
}

walk_is : (stops : List Stop) (kind : RequirementKind) (start : ℤ) → IsMovedWalk stops kind start (walk_of stops kind start)
walk_is stops kind start = record { turns = 0; kept = refl; missed = refl; taken = refl }

some_walk : (system : System) (timing : Group → GroupTiming) (groups : List Group) (kind : RequirementKind) (bound : ℕ)
    → (walk : WholeWalk) × IsWholeWalkOf system timing groups kind bound walk
some_walk system timing groups kind bound =
    let stops = stops_of system timing groups in
    let start = pos (walk_start kind stops (span_of timing groups) (last_write timing groups) (slowest stops) bound) in
    (walk_of stops kind start, walk_is stops kind start)

module _ (model : SystemModel) (valid : IsValid model) where
  -- ---- reasons

  reason_of_task : (task : ℕ) → task < length model.tasks → (text : List ℕ) × IsReasonOfTask model task text
  reason_of_task task within =
      let (decisions, decided) = some_decisions model valid in
      let (window, is_worst) = some_worst model valid task within in
      let decision = task_decision_at decisions.tasks task in (
        task_decision_line model decision task ++ window_lines model task window,
        record {
          decision = decision;
          decided = decided.tasks.each task within;
          window = window;
          is_worst = record { worst = window; is_worst = is_worst; turns = 0; arrival = unmoved window.arrival _; start = unmoved window.start _ };
          printed = refl;
        },
      )

  reason_of_bound : (chain : ℕ) (kind : RequirementKind) (bound : ℕ) → (text : List ℕ) × IsReasonOfBound model chain kind bound text
  reason_of_bound chain kind bound =
      let (walk, is_walk) = some_walk (system_of model) (tight_timing (system_of model)) (groups_at model chain) kind bound in (
        bound_line model chain kind bound None ++ why_group_lines model chain walk ++ why_walk_lines model chain walk kind,
        record { seen = None; occurs = tt; walk = walk; is_walk = is_walk; printed = refl },
      )

  reason_by : (chain : ℕ) (kind : RequirementKind) → chain < length model.chains → (found : ChainAnswer)
      → tight_chain_answer_of model (chain_at model chain) ≡ found → (text : List ℕ) × IsReasonBy model chain kind found text
  reason_by chain kind within (Bounds bounds) is = reason_of_bound chain kind (limited_bound kind bounds)
  reason_by chain kind within (Late task) is =
      let known = tight_late_known model (tight_chain_answers_of model) valid refl chain task within (tight_answer model valid chain within ∙ is) in
      let (lines, holds) = reason_of_task task known in
      (chain_line model (Late task) chain ++ lines, record { lines = lines; holds = holds; joined = refl })

  reason_of_chain : (chain : ℕ) (kind : RequirementKind) → chain < length model.chains → (text : List ℕ) × IsReasonOfChain model chain kind text
  reason_of_chain chain kind within = reason_by chain kind within (tight_chain_answer_of model (chain_at model chain)) refl

  -- ---- whole texts

  pub some_why_task : (task : ℕ) → task < length model.tasks → (text : List ℕ) × IsWhyOfTask model task text
  some_why_task task within =
      let (lines, holds) = reason_of_task task within in
      (title ++ lines, record { lines = lines; holds = holds; joined = refl })

  pub some_why_chain : (chain : ℕ) (kind : RequirementKind) → chain < length model.chains → (text : List ℕ) × IsWhyOfChain model chain kind text
  some_why_chain chain kind within =
      let (lines, holds) = reason_of_chain chain kind within in
      (title ++ lines, record { lines = lines; holds = holds; joined = refl })

  pub some_why_requirement : (i : ℕ) → i < length model.requirements → (text : List ℕ) × IsWhyOfRequirement model i text
  some_why_requirement i within =
      let (decisions, decided) = some_decisions model valid in
      let required = requirement_at model i in
      let decision = decision_at decisions.requirements i in
      let (lines, holds) = reason_of_chain (required_chain model required) required.kind (required_known model valid i no_requirement within) in (
        title ++ decision_line model required decision ++ lines,
        record {
          decision = decision;
          decided = decided.requirements.each i within;
          printed = record { lines = lines; holds = holds; joined = refl };
        },
      )
