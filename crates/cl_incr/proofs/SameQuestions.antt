-- The questions of two chains, group by group and hop by hop.
use Rattle.std.proofs.Common.{◌≡◌, ◌≢◌, ℕ, zero, suc, ◌+◌, ◌-◌, ◌<◌, ◌≤◌, Bool, true, false, not, ltb, subst, ◌&&◌, ◌==◌, nat_lt, List, [], ◌∷◌, length, get_or, refl, sym, ap, ◌∙◌, arith, add-one}
use Rattle.std.specs.Prelude.{map, Option, Some, None}
use Rattle.std.proofs.Math.ListN.{length-map}
use Rattle.std.proofs.lemmas.Bool.{ltb-true, ltb-false, lt-ltb, le-ltb, eq-eqb, ne_eqb, and_left, and_right}
use Rattle.std.proofs.lemmas.List.{get_or-map, ext_get_or}
use Rattle.cl_model.specs.{declared.{model.SystemModel.SystemModel, group.Group.Group}, ByNumber.{task_at, core_of, chain_at}, Groups.{group_at, groups_at, steps_of}, Kinds.is_timed}
use Rattle.cl_runs.specs.{SystemOf.{timing_of, system_of}, TaskTiming.{Timing, System, timing_at}}
use Rattle.cl_runs.proofs.ModelSystem.{timing_is}
use Rattle.cl_comm.specs.Windows.{spot_at}
use Rattle.cl_hop.specs.Hops.{group_timing, saves}
use Rattle.cl_bound.specs.{declared.answer.TaskAnswer.TaskAnswer, Answers.{answers_of, answer_at, response_in}, Bounds.settled_timing}
use Rattle.cl_analyse.specs.ChainAnswers.{first_late}
use Rattle.cl_incr.specs.{declared.question.{GroupQuestion.GroupQuestion, HopLine.{HopLine, TheVariants.Plain}}, Questions.{group_question, hop_bounded_by, hop_lines_from, hop_lines, ChainQuestion, question_of_groups, unless_late, chain_question}, Inner.Kept.AreBothAsked}

-- ---- a group and a hop of a model

module _ (model : SystemModel) (answers : List TaskAnswer) (group : Group) (known : group.task < length model.tasks) where
  abbrev pub asked_of : Timing → GroupQuestion
  asked_of timing = record {
    pattern = timing.pattern;
    deadline = timing.deadline;
    access = timing.access;
    before = (spot_at (timing_at (system_of model) group.task) group.first).before;
    after = (spot_at (timing_at (system_of model) group.task) group.last).after;
    response = response_in (answer_at answers group.task);
  }

  pub question_is : group_question (system_of model) answers group ≡ asked_of (timing_of model (task_at model group.task))
  unfolding group_question
  question_is = ap asked_of (timing_is model group.task known)

-- whether a hop saves the writer's time, by the timings of the tasks
abbrev saves_by : (writer reader : Timing) → Bool
saves_by writer reader =
    (writer.core == reader.core) && (nat_lt reader.priority writer.priority && (not (is_timed writer.access) && not (is_timed reader.access)))

module _ (model : SystemModel) (writer reader : Group) (writes : writer.task < length model.tasks) (reads : reader.task < length model.tasks) where
  pub saves_is : saves (settled_timing (system_of model) writer) (settled_timing (system_of model) reader)
      ≡ (core_of model writer.task == core_of model reader.task)
      && (nat_lt (task_at model reader.task).priority (task_at model writer.task).priority
      && (not (is_timed (task_at model writer.task).access) && not (is_timed (task_at model reader.task).access)))
  unfolding group_timing
  saves_is =
      ap (λ (w : Timing). saves_by w (timing_at (system_of model) reader.task)) (timing_is model writer.task writes)
      ∙ ap (λ (r : Timing). saves_by (timing_of model (task_at model writer.task)) r) (timing_is model reader.task reads)

  -- how it comes out
  pub saves_not_across : core_of model writer.task ≢ core_of model reader.task → saves (settled_timing (system_of model) writer) (settled_timing (system_of model) reader) ≡ false
  saves_not_across apart = saves_is ∙ and_left _ _ (ne_eqb (core_of model writer.task) (core_of model reader.task) apart)

  pub saves_not_upward : (task_at model writer.task).priority ≤ (task_at model reader.task).priority
      → saves (settled_timing (system_of model) writer) (settled_timing (system_of model) reader) ≡ false
  saves_not_upward below = saves_is ∙ and_right _ _ (and_left _ _ (le-ltb _ _ below))

  pub saves_not_timed : is_timed (task_at model writer.task).access ≡ true → saves (settled_timing (system_of model) writer) (settled_timing (system_of model) reader) ≡ false
  saves_not_timed timed = saves_is ∙ and_right _ _ (and_right _ _ (and_left _ _ (ap not timed)))

  pub saves_where_untimed : core_of model writer.task ≡ core_of model reader.task → (task_at model reader.task).priority < (task_at model writer.task).priority
      → is_timed (task_at model writer.task).access ≡ false
      → saves (settled_timing (system_of model) writer) (settled_timing (system_of model) reader) ≡ not (is_timed (task_at model reader.task).access)
  saves_where_untimed same above untimed =
      let untimed_reader : Bool = not (is_timed (task_at model reader.task).access) in
      saves_is
      ∙ ap (λ (b : Bool). b && (nat_lt (task_at model reader.task).priority (task_at model writer.task).priority
      && (not (is_timed (task_at model writer.task).access) && untimed_reader))) (eq-eqb _ _ same)
      ∙ ap (λ (b : Bool). b && (not (is_timed (task_at model writer.task).access) && untimed_reader)) (lt-ltb _ _ above)
      ∙ ap (λ (b : Bool). not b && untimed_reader) untimed

-- ---- the question of a chain

-- where no task is late, it is that of the groups
asked_where_timely : (model : SystemModel) (chain : ℕ) → first_late (answers_of (system_of model)) (steps_of model (chain_at model chain)) ≡ None
    → chain_question model chain ≡ Some (question_of_groups (system_of model) (groups_at model chain))
unfolding chain_question
asked_where_timely model chain timely = ap (λ late. unless_late late (question_of_groups (system_of model) (groups_at model chain))) timely

-- where a task is late, there is none
not_asked_where_late : (model : SystemModel) (chain task : ℕ) → first_late (answers_of (system_of model)) (steps_of model (chain_at model chain)) ≡ Some task
    → chain_question model chain ≡ None
unfolding chain_question
not_asked_where_late model chain task late = ap (λ late. unless_late late (question_of_groups (system_of model) (groups_at model chain))) late

module _ (old new : SystemModel) (before chain : ℕ) where
  abbrev old_question : ChainQuestion
  old_question = question_of_groups (system_of old) (groups_at old before)

  abbrev new_question : ChainQuestion
  new_question = question_of_groups (system_of new) (groups_at new chain)

  abbrev AreAsked : Type 0
  AreAsked = AreBothAsked (chain_question old before) (chain_question new chain)

  -- a chain that is late has no question that both have
  none_where_old_late : chain_question old before ≡ None → AreAsked → ⊥
  none_where_old_late none asked = let is = asked.old_asks in cc

  none_where_new_late : chain_question new chain ≡ None → AreAsked → ⊥
  none_where_new_late none asked = let is = asked.new_asks in cc

  module _ (was : chain_question old before ≡ Some old_question) (is : chain_question new chain ≡ Some new_question) where
    asked_alike : old_question.groups ≡ new_question.groups → old_question.hops ≡ new_question.hops → AreAsked
    asked_alike groups hops =
        let same : new_question ≡ old_question = λ i. record { groups = sym groups i; hops = sym hops i } in
        record { question = old_question; old_asks = was; new_asks = is ∙ ap Some same }

    own_question : (own : ChainQuestion) (question : ChainQuestion) → Some own ≡ Some question → own ≡ question
    own_question own question same = cc

    same_asked : AreAsked → old_question ≡ new_question
    same_asked asked = own_question old_question asked.question (sym was ∙ asked.old_asks) ∙ sym (own_question new_question asked.question (sym is ∙ asked.new_asks))

    same_groups_asked : AreAsked → old_question.groups ≡ new_question.groups
    same_groups_asked asked = ap (λ (q : ChainQuestion). q.groups) (same_asked asked)

    same_hops_asked : AreAsked → old_question.hops ≡ new_question.hops
    same_hops_asked asked = ap (λ (q : ChainQuestion). q.hops) (same_asked asked)

-- ---- the question of a chain, by lists that are the answers for all tasks

module _ (old new : SystemModel) (before chain : ℕ) (old_answers new_answers : List TaskAnswer)
    (olds : old_answers ≡ answers_of (system_of old)) (news : new_answers ≡ answers_of (system_of new)) where
  abbrev OldLate : Option ℕ → Type 0
  OldLate late = first_late old_answers (steps_of old (chain_at old before)) ≡ late

  abbrev NewLate : Option ℕ → Type 0
  NewLate late = first_late new_answers (steps_of new (chain_at new chain)) ≡ late

  abbrev SameGroups : Type 0
  SameGroups = map (group_question (system_of old) old_answers) (groups_at old before) ≡ map (group_question (system_of new) new_answers) (groups_at new chain)

  abbrev SameHops : Type 0
  SameHops = hop_lines (system_of old) (groups_at old before) ≡ hop_lines (system_of new) (groups_at new chain)

  old_late : (late : Option ℕ) → OldLate late → first_late (answers_of (system_of old)) (steps_of old (chain_at old before)) ≡ late
  old_late late is = ap (λ (list : List TaskAnswer). first_late list (steps_of old (chain_at old before))) (sym olds) ∙ is

  new_late : (late : Option ℕ) → NewLate late → first_late (answers_of (system_of new)) (steps_of new (chain_at new chain)) ≡ late
  new_late late is = ap (λ (list : List TaskAnswer). first_late list (steps_of new (chain_at new chain))) (sym news) ∙ is

  old_groups : map (group_question (system_of old) old_answers) (groups_at old before) ≡ (old_question old new before chain).groups
  old_groups = ap (λ (list : List TaskAnswer). map (group_question (system_of old) list) (groups_at old before)) olds

  new_groups : map (group_question (system_of new) new_answers) (groups_at new chain) ≡ (new_question old new before chain).groups
  new_groups = ap (λ (list : List TaskAnswer). map (group_question (system_of new) list) (groups_at new chain)) news

  pub old_is_late : (task : ℕ) → OldLate (Some task) → AreAsked old new before chain → ⊥
  old_is_late task late = none_where_old_late old new before chain (not_asked_where_late old before task (old_late (Some task) late))

  pub new_is_late : (task : ℕ) → NewLate (Some task) → AreAsked old new before chain → ⊥
  new_is_late task late = none_where_new_late old new before chain (not_asked_where_late new chain task (new_late (Some task) late))

  module _ (old_timely : OldLate None) (new_timely : NewLate None) where
    old_asks : chain_question old before ≡ Some (old_question old new before chain)
    old_asks = asked_where_timely old before (old_late None old_timely)

    new_asks : chain_question new chain ≡ Some (new_question old new before chain)
    new_asks = asked_where_timely new chain (new_late None new_timely)

    pub both_asked : SameGroups → SameHops → AreAsked old new before chain
    both_asked groups hops = asked_alike old new before chain old_asks new_asks (sym old_groups ∙ groups ∙ new_groups) hops

    pub groups_asked : AreAsked old new before chain → SameGroups
    groups_asked asked = old_groups ∙ same_groups_asked old new before chain old_asks new_asks asked ∙ sym new_groups

    pub hops_asked : AreAsked old new before chain → SameHops
    hops_asked = same_hops_asked old new before chain old_asks new_asks

-- ---- the groups one after the other

module _ {X Y Z : Type 0} (f : X → Z) (g : Y → Z) (xs : List X) (ys : List Y) (d : X) (e : Y) where
  pub same_maps : length xs ≡ length ys → ((k : ℕ) → k < length xs → f (get_or xs k d) ≡ g (get_or ys k e)) → map f xs ≡ map g ys
  same_maps count each = ext_get_or (f d) (map f xs) (map g ys) (length-map xs f ∙ count ∙ sym (length-map ys g))
      (λ k within. let is : k < length xs = omega (arith, within, length-map xs f) in
      get_or-map f xs k d (f d) is ∙ each k is ∙ sym (get_or-map g ys k e (f d) (omega (arith, is, count))))

  pub maps_count : map f xs ≡ map g ys → length xs ≡ length ys
  maps_count same = omega (arith, ap length same, length-map xs f, length-map ys g)

  pub maps_at : map f xs ≡ map g ys → (k : ℕ) → k < length xs → f (get_or xs k d) ≡ g (get_or ys k e)
  maps_at same k within =
      sym (get_or-map f xs k d (f d) within) ∙ ap (λ zs. get_or zs k (f d)) same ∙ get_or-map g ys k e (f d) (omega (arith, within, maps_count same))

-- ---- the hops one after the other

module _ (system : System) where
  count_from : (writer : Group) (groups : List Group) → length (hop_lines_from system writer groups) ≡ length groups
  count_from writer [] = refl
  count_from writer (reader ∷ groups) = ap suc (count_from reader groups)

  at_from : (writer : Group) (groups : List Group) (k : ℕ) (d : HopLine) → k < length groups
      → get_or (hop_lines_from system writer groups) k d ≡ hop_bounded_by system (group_at (writer ∷ groups) k) (group_at groups k)
  at_from writer [] k d within = absurd (omega (arith, within))
  at_from writer (reader ∷ groups) zero d within = refl
  at_from writer (reader ∷ groups) (suc k) d within = at_from reader groups k d (omega (arith, within))

  hops_count : (groups : List Group) → length (hop_lines system groups) ≡ length groups - 1
  hops_count [] = refl
  hops_count (first ∷ groups) = omega (arith, count_from first groups)

  hops_at : (groups : List Group) (k : ℕ) (d : HopLine) → k + 1 < length groups
      → get_or (hop_lines system groups) k d ≡ hop_bounded_by system (group_at groups k) (group_at groups (k + 1))
  hops_at [] k d within = absurd (omega (arith, within))
  hops_at (first ∷ groups) k d within = rw add-one (at_from first groups k d (omega (arith, within)))

module _ (one other : System) (groups others : List Group) (count : length groups ≡ length others) where
  abbrev AtEach : ℕ → Type 0
  AtEach k = hop_bounded_by one (group_at groups k) (group_at groups (k + 1)) ≡ hop_bounded_by other (group_at others k) (group_at others (k + 1))

  pub same_hops : ((k : ℕ) → k + 1 < length groups → AtEach k) → hop_lines one groups ≡ hop_lines other others
  same_hops each = ext_get_or Plain (hop_lines one groups) (hop_lines other others) (omega (arith, hops_count one groups, hops_count other others, count))
      (λ k within. let is : k + 1 < length groups = omega (arith, within, hops_count one groups) in
      hops_at one groups k Plain is ∙ each k is ∙ sym (hops_at other others k Plain (omega (arith, is, count))))

  pub same_hops_at : hop_lines one groups ≡ hop_lines other others → (k : ℕ) → k + 1 < length groups → AtEach k
  same_hops_at same k within =
      sym (hops_at one groups k Plain within) ∙ ap (λ lines. get_or lines k Plain) same ∙ hops_at other others k Plain (omega (arith, within, count))

  -- by the place of the reader
  abbrev Before : ℕ → Type 0
  Before place = hop_bounded_by one (group_at groups (place - 1)) (group_at groups place) ≡ hop_bounded_by other (group_at others (place - 1)) (group_at others place)

  pub same_before : hop_lines one groups ≡ hop_lines other others → (place : ℕ) → 1 ≤ place → place < length groups → Before place
  same_before same place some within =
      let next : place - 1 + 1 ≡ place = omega (arith, some) in
      subst (λ n. hop_bounded_by one (group_at groups (place - 1)) (group_at groups n) ≡ hop_bounded_by other (group_at others (place - 1)) (group_at others n)) next
      (same_hops_at same (place - 1) (omega (arith, some, within)))

  -- one more
  pub up_to_next : (place : ℕ) → 1 ≤ place → ((k : ℕ) → k + 1 < place → AtEach k) → Before place → (k : ℕ) → k + 1 < place + 1 → AtEach k
  up_to_next place some below here k within =
      elim (ltb (k + 1) place) as (λ b. ltb (k + 1) place ≡ b → AtEach k) [
        | true ↦ λ is. below k (ltb-true (k + 1) place is)
        | false ↦ λ is.
            let writer : place - 1 ≡ k = omega (arith, within, ltb-false (k + 1) place is) in
            let reader : place ≡ k + 1 = omega (arith, within, ltb-false (k + 1) place is) in
            subst (λ n. hop_bounded_by one (group_at groups k) (group_at groups n) ≡ hop_bounded_by other (group_at others k) (group_at others n)) reader
            (subst (λ n. hop_bounded_by one (group_at groups n) (group_at groups place) ≡ hop_bounded_by other (group_at others n) (group_at others place)) writer here)
      ] refl
