-- The search for the first task that is refused beside another one of its core after a change of when tasks run.
use Rattle.std.proofs.Common.{◌≡◌, ℕ, zero, suc, ◌+◌, ◌<◌, ◌≤◌, Bool, true, false, cond, ◌||◌, List, [], ◌∷◌, length, get_or, refl, sym, ap, ◌∙◌, subst, arith, nat_eq, nat_lt, inl, inr}
use Rattle.std.specs.Prelude.{Option, Some, None, filter, ◌==◌, All}
use Rattle.std.specs.List.{list_any, range_with_len}
use Rattle.std.proofs.lemmas.Bool.{eqb-true, eqb-false, eq-eqb, ltb-true, ltb-false, false≢true, cond-true, cond_both}
use Rattle.std.proofs.lemmas.List.{get_or_default}
use Rattle.std.proofs.lemmas.List.FromFn.{length-range_with_len, get_or-range_with_len}
use Rattle.cl_model.specs.{declared.{changes.TaskPriority.TaskPriority, model.SystemModel.SystemModel, stimulus.StimulusKind.StimulusKind}, ByNumber.{task_at, core_of, tasks_of_core}, Validity.IsValid}
use Rattle.cl_model.proofs.ListFacts.{both_pass}
use Rattle.cl_edit.specs.{declared.{pace.{Retiming.Retiming, Pace.Pace}, pairs.PairFault.{PairFault, TheVariants.{Clash, Outpaced}}}, Inner.{Paces.{with_retiming, IsRetimingOf, is_on, is_touched, core_after, pace_after, pace_of, HasOthers}, Pairs.{is_refused_beside, IsPair, is_refused}}}
use Rattle.cl_edit.specs.Inner.Pairs.{noted, IsAtMost, IsRefused, HasSeen, IsFirstRefused}
use Rattle.cl_edit.specs.declared.pace.Retiming.TheVariants as change
use Rattle.cl_edit.proofs.{RefusedTasks.{IsKnown, pair_refused, refused_pair, no_pair}, RetimedTasks.{tasks_kept, change_known, pace_is, core_is, pace_stays, core_stays}}

-- ---- numbers that are noted

pub at_most_more : (first : Option ℕ) (b : Bool) (n k : ℕ) → IsAtMost first k → IsAtMost (noted first b n) k
at_most_more None b n k h = absurd h
at_most_more (Some first) false n k h = h
at_most_more (Some first) true n k h =
    elim (nat_lt n first) as (λ b. nat_lt n first ≡ b → IsAtMost (cond b (Some n) (Some first)) k) [
      | true ↦ λ e. let lt = ltb-true n first e in omega (arith, h, lt)
      | false ↦ λ e. h
    ] refl

at_most_own : (first : Option ℕ) (n : ℕ) → IsAtMost (noted first true n) n
at_most_own None n = omega arith
at_most_own (Some first) n =
    elim (nat_lt n first) as (λ b. nat_lt n first ≡ b → IsAtMost (cond b (Some n) (Some first)) n) [
      | true ↦ λ e. omega arith
      | false ↦ λ e. ltb-false n first e
    ] refl

-- ---- the lists of a core

-- an item that passes a test stands among those that do
filter_has : (test : ℕ → Bool) (xs : List ℕ) (i : ℕ) → i < length xs → test (get_or xs i 0) ≡ true → (n : ℕ) × (n < length (filter test xs)) × (get_or (filter test xs) n 0 ≡ get_or xs i 0)
filter_has test [] i lt is = absurd (omega arith)
filter_has test (x ∷ xs) zero lt is =
    subst (λ ys. (n : ℕ) × (n < length ys) × (get_or ys n 0 ≡ x)) (sym (cond-true (test x) (x ∷ filter test xs) (filter test xs) is)) (0, omega arith, refl)
filter_has test (x ∷ xs) (suc i) lt is =
    let (n, n_lt, at) = filter_has test xs i (omega arith) is in
    cond_both (test x) (x ∷ filter test xs) (filter test xs) (λ ys. (m : ℕ) × (m < length ys) × (get_or ys m 0 ≡ get_or xs i 0)) (λ _. (suc n, omega (arith, n_lt), at)) (λ _. (n, n_lt, at))

kept_here : (test : ℕ → Bool) (x : ℕ) (xs : List ℕ) (n : ℕ) → test x ≡ true → ((m : ℕ) → m < length xs → test (get_or xs m 0) ≡ true) → n < length (x ∷ xs) → test (get_or (x ∷ xs) n 0) ≡ true
kept_here test x xs zero is each lt = is
kept_here test x xs (suc n) is each lt = each n (omega arith)

filter_kept : (test : ℕ → Bool) (xs : List ℕ) (n : ℕ) → n < length (filter test xs) → test (get_or (filter test xs) n 0) ≡ true
filter_kept test [] n lt = absurd (omega arith)
filter_kept test (x ∷ xs) n lt =
    elim (test x) as (λ b. test x ≡ b → n < length (cond b (x ∷ filter test xs) (filter test xs)) → test (get_or (cond b (x ∷ filter test xs) (filter test xs)) n 0) ≡ true) [
      | true ↦ λ e h. kept_here test x (filter test xs) n e (λ m m_lt. filter_kept test xs m m_lt) h
      | false ↦ λ e h. filter_kept test xs n h
    ] refl lt

on_core : (model : SystemModel) (core n : ℕ) → n < length (tasks_of_core model core) → core_of model (get_or (tasks_of_core model core) n 0) ≡ core
on_core model core n lt = eqb-true _ _ (filter_kept (λ i. core_of model i == core) (range_with_len 0 (length model.tasks)) n lt)

listed : (model : SystemModel) (core j : ℕ) → j < length model.tasks → core_of model j ≡ core → (n : ℕ) × (n < length (tasks_of_core model core)) × (get_or (tasks_of_core model core) n 0 ≡ j)
listed model core j lt same =
    let at : get_or (range_with_len 0 (length model.tasks)) j 0 ≡ j = omega (arith, get_or-range_with_len 0 (length model.tasks) j 0 lt) in
    let (n, n_lt, is) = filter_has (λ i. core_of model i == core) (range_with_len 0 (length model.tasks)) j (omega (arith, lt, length-range_with_len 0 (length model.tasks)))
    (ap (λ i. core_of model i == core) at ∙ eq-eqb (core_of model j) core same) in
    (n, n_lt, is ∙ at)

-- ---- one pair

module _ (fault : PairFault) (model : SystemModel) where
  refused_more : (first : Option ℕ) (b : Bool) (n : ℕ) → IsRefused fault model first → n < length model.tasks → (b ≡ true → is_refused fault model n ≡ true) → IsRefused fault model (noted first b n)
  refused_more first false n h lt is = h
  refused_more None true n h lt is = (lt, is refl)
  refused_more (Some first) true n h lt is =
      elim (nat_lt n first) as (λ b. IsRefused fault model (cond b (Some n) (Some first))) [ true ↦ (lt, is refl) | false ↦ h ]

  pub record PairNoted (start last : Option ℕ) (k j : ℕ) : Type 0 where
    pub sound : IsRefused fault model last
    pub kept : (n : ℕ) → IsAtMost start n → IsAtMost last n
    pub seen : HasSeen fault model last k j

  pair_noted : IsKnown model → (start : Option ℕ) (k j : ℕ) → k < length model.tasks → j < length model.tasks → core_of model k ≡ core_of model j → IsRefused fault model start
      → PairNoted start (noted (noted start (is_refused_beside fault k (pace_of model k) j (pace_of model j)) k) (is_refused_beside fault j (pace_of model j) k (pace_of model k)) j) k j
  pair_noted known start k j hk hj core is =
      let one = is_refused_beside fault k (pace_of model k) j (pace_of model j) in
      let other = is_refused_beside fault j (pace_of model j) k (pace_of model k) in
      let mid = noted start one k in
      record {
        sound = refused_more mid other j (refused_more start one k is hk (λ e. pair_refused model known fault k j (record { known = hk; other = hj; core = core; refused = e }))) hj
            (λ e. pair_refused model known fault j k (record { known = hj; other = hk; core = sym core; refused = e }));
        kept = λ n h. at_most_more mid other j n (at_most_more start one k n h);
        seen = record {
          one = λ pair. at_most_more mid other j k (subst (λ b. IsAtMost (noted start b k) k) (sym pair.refused) (at_most_own start k));
          other = λ pair. subst (λ b. IsAtMost (noted mid b j) j) (sym pair.refused) (at_most_own mid j);
        };
      }

  seen_kept : (start last : Option ℕ) (k j : ℕ) → ((n : ℕ) → IsAtMost start n → IsAtMost last n) → HasSeen fault model start k j → HasSeen fault model last k j
  seen_kept start last k j kept seen = record { one = λ pair. kept k (seen.one pair); other = λ pair. kept j (seen.other pair) }

  -- the pairs of a task with the first n others of a list
  pub record BesideSeen (start last : Option ℕ) (others : List ℕ) (task n : ℕ) : Type 0 where
    pub sound : IsRefused fault model last
    pub kept : (k : ℕ) → IsAtMost start k → IsAtMost last k
    pub seen : (m : ℕ) → m < n → HasSeen fault model last task (get_or others m 0)

  pub beside_more : (start mid last : Option ℕ) (others : List ℕ) (task n other : ℕ) → BesideSeen start mid others task n → other ≡ get_or others n 0
      → IsRefused fault model last → ((k : ℕ) → IsAtMost mid k → IsAtMost last k) → HasSeen fault model last task other → BesideSeen start last others task (n + 1)
  beside_more start mid last others task n other so_far at sound kept seen = record {
    sound = sound;
    kept = λ k h. kept k (so_far.kept k h);
    seen = λ m m_lt. elim (nat_eq m n) as (λ b. nat_eq m n ≡ b → HasSeen fault model last task (get_or others m 0)) [
      | true ↦ λ e. subst (λ o. HasSeen fault model last task o) (at ∙ ap (λ i. get_or others i 0) (sym (eqb-true m n e))) seen
      | false ↦ λ e. let apart = eqb-false m n e in seen_kept mid last task (get_or others m 0) kept (so_far.seen m (omega (arith, m_lt, apart)))
    ] refl;
  }

  -- the pairs of the first n tasks that get a priority
  pub record SetSeen (last : Option ℕ) (set : List TaskPriority) (n : ℕ) : Type 0 where
    pub sound : IsRefused fault model last
    pub seen : (m : ℕ) (d : TaskPriority) → m < n → m < length set → (j : ℕ) → HasSeen fault model last (get_or set m d).task j

  pub set_more : (mid last : Option ℕ) (set : List TaskPriority) (n : ℕ) (it : TaskPriority) → SetSeen mid set n → it ≡ get_or set n it → IsRefused fault model last
      → ((k : ℕ) → IsAtMost mid k → IsAtMost last k) → ((j : ℕ) → HasSeen fault model last it.task j) → SetSeen last set (n + 1)
  set_more mid last set n it so_far at sound kept seen = record {
    sound = sound;
    seen = λ m d m_lt within j. elim (nat_eq m n) as (λ b. nat_eq m n ≡ b → HasSeen fault model last (get_or set m d).task j) [
      | true ↦ λ e.
          let here : it ≡ get_or set m d = at ∙ ap (λ i. get_or set i it) (sym (eqb-true m n e)) ∙ get_or_default set m it d within in
          subst (λ (x : TaskPriority). HasSeen fault model last x.task j) here (seen j)
      | false ↦ λ e. let apart = eqb-false m n e in seen_kept mid last (get_or set m d).task j kept (so_far.seen m d (omega (arith, m_lt, apart)) within j)
    ] refl;
  }

-- ---- a pair after a change

-- no task is refused beside itself
not_itself : (fault : PairFault) (model : SystemModel) (k j : ℕ) → j ≡ k → IsPair fault model k j → ⊥
not_itself Clash model k j same pair =
    let lt = ltb-true j k (both_pass (nat_lt j k) _ pair.refused).0 in
    omega (arith, lt, same)
not_itself Outpaced model k j same pair =
    let lt = ltb-true (task_at model k).priority (task_at model j).priority (both_pass (nat_lt (task_at model k).priority (task_at model j).priority) _ pair.refused).0 in
    let e : (task_at model j).priority ≡ (task_at model k).priority = ap (λ n. (task_at model n).priority) same in
    omega (arith, lt, e)

module _ (fault : PairFault) (model : SystemModel) (valid : IsValid model) (c : Retiming) (is : IsRetimingOf model c) where
  -- one more pair
  pub of_pair : (start mid last : Option ℕ) (task other : ℕ) (own its : Pace) (one both : Bool) → task < length model.tasks → other < length model.tasks
      → own ≡ pace_after model c task → its ≡ pace_after model c other → one ≡ is_refused_beside fault task own other its → mid ≡ noted start one task
      → both ≡ is_refused_beside fault other its task own → last ≡ noted mid both other → core_of (with_retiming model c) task ≡ core_of (with_retiming model c) other
      → IsRefused fault (with_retiming model c) start → PairNoted fault (with_retiming model c) start last task other
  of_pair start mid last task other own its one both ht ho own_is its_is one_is mid_is both_is last_is core sound =
      let new = with_retiming model c in
      let beside : Pace → Pace → Option ℕ = λ p q. noted (noted start (is_refused_beside fault task p other q) task) (is_refused_beside fault other q task p) other in
      let e : last ≡ beside own its
      = last_is ∙ ap (λ b. noted mid b other) both_is ∙ ap (λ m. noted m (is_refused_beside fault other its task own) other) (mid_is ∙ ap (λ b. noted start b task) one_is) in
      let f : last ≡ beside (pace_of new task) (pace_of new other)
      = e ∙ ap (λ p. beside p its) (own_is ∙ sym (pace_is model valid task ht c is)) ∙ ap (beside (pace_of new task)) (its_is ∙ sym (pace_is model valid other ho c is)) in
      subst (λ l. PairNoted fault new start l task other) (sym f)
      (pair_noted fault new (change_known model valid c is) start task other (omega (arith, ht, tasks_kept model c)) (omega (arith, ho, tasks_kept model c)) core sound)

  -- another task of the list of a core
  pub other_core : (core task other n : ℕ) (others : List ℕ) → others ≡ tasks_of_core model core → HasOthers model c task core → core_after model c task ≡ core
      → task < length model.tasks → other < length model.tasks → n < length others → other ≡ get_or others n 0 → core_of (with_retiming model c) task ≡ core_of (with_retiming model c) other
  other_core core task other n others list has own ht ho lt at =
      let e : other ≡ get_or (tasks_of_core model core) n 0 = at ∙ ap (λ l. get_or l n 0) list in
      let h : n < length (tasks_of_core model core) = subst (λ (l : List ℕ). n < length l) list lt in
      core_is model valid task ht c is ∙ own ∙ sym (has.0 other ho (ap (core_of model) e ∙ on_core model core n h)) ∙ sym (core_is model valid other ho c is)

  -- where all of the list are seen, all tasks are
  pub beside_all : (core task n : ℕ) (start last : Option ℕ) (others : List ℕ) → others ≡ tasks_of_core model core → HasOthers model c task core → core_after model c task ≡ core
      → task < length model.tasks → length others ≤ n → BesideSeen fault (with_retiming model c) start last others task n → (j : ℕ) → HasSeen fault (with_retiming model c) last task j
  beside_all core task n start last others list has own ht end all j = record {
    one = λ pair.
        let hj : j < length model.tasks = omega (arith, pair.other, tasks_kept model c) in
        (found j hj (sym (core_is model valid j hj c is) ∙ sym pair.core ∙ core_is model valid task ht c is ∙ own) (λ same. not_itself fault new task j same pair)).one pair;
    other = λ pair.
        let hj : j < length model.tasks = omega (arith, pair.known, tasks_kept model c) in
        (found j hj (sym (core_is model valid j hj c is) ∙ pair.core ∙ core_is model valid task ht c is ∙ own) (λ same. not_itself fault new j task (sym same) pair)).other pair;
  }
    where
      new : SystemModel
      new = with_retiming model c

      found : (j : ℕ) → j < length model.tasks → core_after model c j ≡ core → (j ≡ task → ⊥) → HasSeen fault (with_retiming model c) last task j
      found j lt at apart =
          elim (has.1 j lt at) [
            | inl same ↦ absurd (apart same)
            | inr on ↦
                let (m, m_lt, is) = listed model core j lt on in
                let e : get_or others m 0 ≡ j = ap (λ l. get_or l m 0) list ∙ is in
                let h : m < length others = subst (λ (l : List ℕ). m < length l) (sym list) m_lt in
                subst (λ o. HasSeen fault (with_retiming model c) last task o) e (all.seen m (omega (arith, h, end)))
          ]

  -- ---- all pairs

  -- of a pair a change touches one
  pub pair_touched : (k j : ℕ) → IsPair fault (with_retiming model c) k j → (is_touched model c k || is_touched model c j) ≡ true
  pair_touched k j pair =
      let new = with_retiming model c in
      let hk : k < length model.tasks = omega (arith, pair.known, tasks_kept model c) in
      let hj : j < length model.tasks = omega (arith, pair.other, tasks_kept model c) in
      elim (is_touched model c k) as (λ b. is_touched model c k ≡ b → (b || is_touched model c j) ≡ true) [
        | true ↦ λ e. refl
        | false ↦ λ e. elim (is_touched model c j) as (λ b. is_touched model c j ≡ b → b ≡ true) [
          | true ↦ λ f. refl
          | false ↦ λ f. absurd (no_pair fault model valid k j (record {
            known = hk;
            other = hj;
            core = sym (core_stays model valid k hk c e) ∙ sym (core_is model valid k hk c is) ∙ pair.core ∙ core_is model valid j hj c is ∙ core_stays model valid j hj c f;
            refused = ap (λ p. is_refused_beside fault k p j (pace_of model j)) (sym (pace_stays model valid k hk c is e) ∙ sym (pace_is model valid k hk c is))
                ∙ ap (is_refused_beside fault k (pace_of new k) j) (sym (pace_stays model valid j hj c is f) ∙ sym (pace_is model valid j hj c is)) ∙ pair.refused;
          }))
        ] refl
      ] refl

  -- where all pairs of the tasks that a change touches are seen, the first is the first of all
  first_of_all : (first : Option ℕ) → IsRefused fault (with_retiming model c) first
      → ((t j : ℕ) → t < length model.tasks → is_touched model c t ≡ true → HasSeen fault (with_retiming model c) first t j) → IsFirstRefused fault (with_retiming model c) first
  first_of_all first sound seen = record {
    refused = sound;
    least = λ k lt refused.
        let (j, pair) = refused_pair (with_retiming model c) (change_known model valid c is) fault k lt refused in
        elim (is_touched model c k) as (λ b. is_touched model c k ≡ b → (b || is_touched model c j) ≡ true → IsAtMost first k) [
          | true ↦ λ e _. (seen k j (omega (arith, pair.known, tasks_kept model c)) e).one pair
          | false ↦ λ e f. (seen j k (omega (arith, pair.other, tasks_kept model c)) f).other pair
        ] refl (pair_touched k j pair);
  }

-- ---- the tasks that name a stimulus

-- the pairs of the first n tasks that name a stimulus
pub record OnSeen (fault : PairFault) (model new : SystemModel) (first : Option ℕ) (s n : ℕ) : Type 0 where
  pub sound : IsRefused fault new first
  pub seen : (k j : ℕ) → k < n → is_on model s k ≡ true → HasSeen fault new first k j

module _ (fault : PairFault) (model new : SystemModel) (s n : ℕ) where
  pub on_more : (first last : Option ℕ) → OnSeen fault model new first s n → IsRefused fault new last → ((k : ℕ) → IsAtMost first k → IsAtMost last k)
      → ((j : ℕ) → HasSeen fault new last n j) → OnSeen fault model new last s (n + 1)
  on_more first last so_far sound kept seen = record {
    sound = sound;
    seen = λ k j lt on. elim (nat_eq k n) as (λ b. nat_eq k n ≡ b → HasSeen fault new last k j) [
      | true ↦ λ e. subst (λ i. HasSeen fault new last i j) (sym (eqb-true k n e)) (seen j)
      | false ↦ λ e. let apart = eqb-false k n e in seen_kept fault new first last k j kept (so_far.seen k j (omega (arith, lt, apart)) on)
    ] refl;
  }

  pub on_past : (first : Option ℕ) → OnSeen fault model new first s n → is_on model s n ≡ false → OnSeen fault model new first s (n + 1)
  on_past first so_far away = record {
    sound = so_far.sound;
    seen = λ k j lt on. elim (nat_eq k n) as (λ b. nat_eq k n ≡ b → HasSeen fault new first k j) [
      | true ↦ λ e. absurd (false≢true (sym away ∙ ap (is_on model s) (sym (eqb-true k n e)) ∙ on))
      | false ↦ λ e. let apart = eqb-false k n e in so_far.seen k j (omega (arith, lt, apart)) on
    ] refl;
  }

-- ---- the tasks that a change touches

any_place : {X : Type 0} (p : X → Bool) (xs : List X) (d : X) → list_any p xs ≡ true → (m : ℕ) × (m < length xs) × (p (get_or xs m d) ≡ true)
any_place p [] d h = absurd (false≢true h)
any_place {X = X} p (x ∷ xs) d h =
    elim (p x) as (λ b. p x ≡ b → (b || list_any p xs) ≡ true → (m : ℕ) × (m < length (x ∷ xs)) × (p (get_or (x ∷ xs) m d) ≡ true)) [
      | true ↦ λ e _. (0, omega arith, e)
      | false ↦ λ e more. let (m, m_lt, at) = any_place p xs d more in (suc m, omega (arith, m_lt), at)
    ] refl h

module _ (fault : PairFault) (model : SystemModel) (valid : IsValid model) (first : Option ℕ) where
  -- the number is that of the first of the tasks after a change
  abbrev pub IsFound : Retiming → Type 0
  IsFound c = IsFirstRefused fault (with_retiming model c) first

  -- all pairs of a task are seen after a change, and the number is one of a task that is refused
  abbrev pub SeesPairs : Retiming → (task : ℕ) → Type 0
  SeesPairs c task = (j : ℕ) → HasSeen fault (with_retiming model c) first task j

  abbrev pub IsSound : Retiming → Type 0
  IsSound c = IsRefused fault (with_retiming model c) first

  -- where one task is touched
  one_touched : (d : Retiming) (task : ℕ) → ((t : ℕ) → is_touched model d t ≡ true → t ≡ task) → IsSound d → SeesPairs d task → IsRetimingOf model d → IsFound d
  one_touched d task only sound seen is =
      first_of_all fault model valid d is first sound (λ t j lt touched. subst (λ i. HasSeen fault (with_retiming model d) first i j) (sym (only t touched)) (seen j))

  pub first_of_deadline : (c : Retiming) (task : ℕ) (deadline : Option ℕ) → c ≡ change.Deadline task deadline → IsRetimingOf model c → IsSound c → SeesPairs c task → IsFound c
  first_of_deadline c task deadline same is sound seen =
      one_touched c task (λ t touched. eqb-true t task (subst (λ (d : Retiming). is_touched model d t ≡ true) same touched)) sound seen is

  pub first_of_move : (c : Retiming) (task core priority : ℕ) → c ≡ change.Move task core priority → IsRetimingOf model c → IsSound c → SeesPairs c task → IsFound c
  first_of_move c task core priority same is sound seen =
      one_touched c task (λ t touched. eqb-true t task (subst (λ (d : Retiming). is_touched model d t ≡ true) same touched)) sound seen is

  pub first_of_kind : (c : Retiming) (stimulus : ℕ) (kind : StimulusKind) → c ≡ change.Kind stimulus kind → IsRetimingOf model c → IsSound c
      → ((t j : ℕ) → t < length model.tasks → is_on model stimulus t ≡ true → HasSeen fault (with_retiming model c) first t j) → IsFound c
  first_of_kind c stimulus kind same is sound seen =
      first_of_all fault model valid c is first sound (λ t j lt touched. seen t j lt (subst (λ (d : Retiming). is_touched model d t ≡ true) same touched))

  pub first_of_priorities : (c d : Retiming) (set : List TaskPriority) → c ≡ d → IsRetimingOf model c → ((t : ℕ) → is_touched model d t ≡ list_any (λ (it : TaskPriority). it.task == t) set) → IsSound c
      → All (λ (it : TaskPriority). SeesPairs c it.task) set → IsFound c
  first_of_priorities c d set same is touched sound seen =
      first_of_all fault model valid c is first sound (λ t j lt on.
      let none : TaskPriority = record { task = 0; priority = 0 } in
      let on_d : is_touched model d t ≡ true = subst (λ (x : Retiming). is_touched model x t ≡ true) same on in
      let (m, m_lt, at) = any_place (λ (it : TaskPriority). it.task == t) set none (sym (touched t) ∙ on_d) in
      subst (λ i. HasSeen fault (with_retiming model c) first i j) (eqb-true (get_or set m none).task t at) (seen m none m_lt j))
