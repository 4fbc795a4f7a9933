-- The tasks that are refused beside others of their core, by number.
use Rattle.std.proofs.Common.{◌≡◌, ℕ, zero, suc, ◌+◌, ◌<◌, ◌≤◌, Bool, true, false, cond, ◌&&◌, ◌||◌, List, [], ◌∷◌, ◌++◌, length, get_or, take, refl, sym, ap, ◌∙◌, arith, nat_lt}
use Rattle.std.specs.Prelude.{Option, Some, None, is_some, unwrap_or, filter, ◌==◌}
use Rattle.std.specs.List.{list_any}
use Rattle.std.specs.Cmp.Lexicographic.{bytes_decides}
use Rattle.std.proofs.lemmas.Bool.{cond-true, cond_both, or_right, false≢true, false_from_ne_true, ltb-true, lt-ltb}
use Rattle.std.proofs.lemmas.List.{get_or-take, length-take-le}
use Rattle.cl_model.specs.{declared.{model.SystemModel.SystemModel, refusal.Refusal.Refusal, stimulus.StimulusKind.StimulusKind, task.TaskDef.TaskDef}, ByNumber.{no_stimulus, no_task, task_at, core_of, deadline_of}, Named.{same_name, has_name, index_of, is_some_and, core_names}}
use Rattle.cl_model.specs.{Named.kind_named, Refusals.{each_from, each, first}, Timing.deadline_under, ValidTasks.{spans_too_many, is_outpaced_by}, Validity.IsValid}
use Rattle.cl_model.proofs.{ChecksLeft.{task_passes, deadline_none}, EachFacts.each_nothing, ListFacts.{both_pass, both_true}, NamePlaces.known_named, NamesKnown.{core_known, stimulus_known}}
use Rattle.cl_edit.specs.{declared.pairs.PairFault.{PairFault, TheVariants.{Clash, Outpaced}}, Inner.{Paces.pace_of, Pairs.{is_refused_beside, IsPair, is_refused, pair_check, refusal_at, pair_checks, IsFirstRefused}}}

-- ---- lists

-- an element that passes both tests is among those that pass the second
pub any_among : {X : Type 0} (p q : X → Bool) (xs : List X) (i : ℕ) (d : X) → i < length xs → q (get_or xs i d) ≡ true → p (get_or xs i d) ≡ true → list_any p (filter q xs) ≡ true
any_among p q [] i d lt is_q is_p = absurd (omega arith)
any_among p q (x ∷ xs) zero d lt is_q is_p =
    ap (list_any p) (cond-true (q x) (x ∷ filter q xs) (filter q xs) is_q) ∙ ap (λ b. b || list_any p (filter q xs)) is_p
any_among p q (x ∷ xs) (suc i) d lt is_q is_p =
    cond_both (q x) (x ∷ filter q xs) (filter q xs) (λ ys. list_any p ys ≡ true)
    (λ _. or_right (p x) (list_any p (filter q xs)) (any_among p q xs i d (omega arith) is_q is_p))
    (λ _. any_among p q xs i d (omega arith) is_q is_p)

-- and where one of those passes the first, there is such an element
pub record Among {X : Type 0} (p q : X → Bool) (xs : List X) (d : X) : Type 0 where
  pub place : ℕ
  pub within : place < length xs
  pub passes : p (get_or xs place d) ≡ true
  pub kept : q (get_or xs place d) ≡ true

later : {X : Type 0} (p q : X → Bool) (x : X) (xs : List X) (d : X) → Among p q xs d → Among p q (x ∷ xs) d
later p q x xs d a = record { place = suc a.place; within = omega (arith, a.within); passes = a.passes; kept = a.kept }

pub among : {X : Type 0} (p q : X → Bool) (xs : List X) (d : X) → list_any p (filter q xs) ≡ true → Among p q xs d
among p q [] d h = absurd (false≢true h)
among {X = X} p q (x ∷ xs) d h =
    elim (q x) as (λ b. q x ≡ b → list_any p (cond b (x ∷ filter q xs) (filter q xs)) ≡ true → Among p q (x ∷ xs) d) [
      | true ↦ λ e any. elim (p x) as (λ b. p x ≡ b → (b || list_any p (filter q xs)) ≡ true → Among p q (x ∷ xs) d) [
        | true ↦ λ f _. record { place = 0; within = omega arith; passes = f; kept = e }
        | false ↦ λ f more. later p q x xs d (among p q xs d more)
      ] refl any
      | false ↦ λ e any. later p q x xs d (among p q xs d any)
    ] refl h

-- ---- the first refusal of each item

each_from_first : {X : Type 0} (check : ℕ → X → List Refusal) (xs : List X) (k n m : ℕ) (d : X) (r : Refusal) → m ≡ n + k → k < length xs
    → ((j i : ℕ) → i ≡ n + j → j < k → check i (get_or xs j d) ≡ []) → first (check m (get_or xs k d)) ≡ Some r → first (each_from n check xs) ≡ Some r
each_from_first check [] k n m d r at lt none is = absurd (omega arith)
each_from_first check (x ∷ xs) zero n m d r at lt none is =
    let here : m ≡ n = omega arith in
    more (check n x) (each_from (n + 1) check xs) r (ap (λ i. first (check i x)) (sym here) ∙ is)
  where
    more : (a b : List Refusal) (r : Refusal) → first a ≡ Some r → first (a ++ b) ≡ Some r
    more [] b r h = cc
    more (x ∷ a) b r h = h
each_from_first check (x ∷ xs) (suc k) n m d r at lt none is =
    ap (λ l. first (l ++ each_from (n + 1) check xs)) (none 0 n (omega arith) (omega arith))
    ∙ each_from_first check xs k (n + 1) m d r (omega arith) (omega arith) (λ j i e j_lt. none (suc j) i (omega arith) (omega arith)) is

pub each_first : {X : Type 0} (check : ℕ → X → List Refusal) (xs : List X) (k : ℕ) (d : X) (r : Refusal) → k < length xs
    → ((j : ℕ) → j < k → check j (get_or xs j d) ≡ []) → first (check k (get_or xs k d)) ≡ Some r → first (each check xs) ≡ Some r
each_first check xs k d r lt none is =
    each_from_first check xs k 0 k d r (omega arith) lt (λ j i at j_lt. let e : i ≡ j = omega arith in rw e (none j j_lt)) is

-- ---- models whose tasks name cores and stimuli that are known

pub record IsKnown (model : SystemModel) : Type 0 where
  pub cores : (k : ℕ) → k < length model.tasks → has_name (task_at model k).core (core_names model) ≡ true
  pub stimuli : (k : ℕ) → k < length model.tasks → is_some (kind_named model (task_at model k).stimulus) ≡ true

pub valid_known : (model : SystemModel) → IsValid model → IsKnown model
valid_known model valid = record { cores = λ k. core_known model valid k no_task; stimuli = λ k. stimulus_known model valid k no_task }

some_test : (o : Option StimulusKind) (test : StimulusKind → Bool) → is_some o ≡ true → is_some_and o test ≡ test (unwrap_or o no_stimulus)
some_test None test h = absurd (false≢true h)
some_test (Some kind) test h = refl

module _ (model : SystemModel) (known : IsKnown model) where
  -- what M42 asks of two tasks
  asked : (k j : ℕ) → k < length model.tasks → j < length model.tasks → is_outpaced_by model (task_at model k) (task_at model j) ≡ is_refused_beside Outpaced k (pace_of model k) j (pace_of model j)
  asked k j hk hj =
      let task = task_at model k in
      let other = task_at model j in
      ap (λ b. nat_lt task.priority other.priority && b)
      (some_test (kind_named model task.stimulus) (λ kind. is_some_and (kind_named model other.stimulus) (spans_too_many (deadline_under kind task))) (known.stimuli k hk)
      ∙ some_test (kind_named model other.stimulus) (spans_too_many (deadline_of model k)) (known.stimuli j hj))

  pub names_same : (k j : ℕ) → k < length model.tasks → j < length model.tasks → core_of model k ≡ core_of model j → (task_at model k).core ≡ (task_at model j).core
  names_same k j hk hj same =
      sym (known_named (task_at model k).core (core_names model) (known.cores k hk)) ∙ ap (λ n. get_or (core_names model) n []) same
      ∙ known_named (task_at model j).core (core_names model) (known.cores j hj)

  cores_match : (fault : PairFault) (k j : ℕ) → IsPair fault model k j → same_name (task_at model k).core (task_at model j).core ≡ true
  cores_match fault k j pair = (bytes_decides (task_at model k).core (task_at model j).core).1 (names_same k j pair.known pair.other pair.core)

  -- a task of a pair is refused
  pub pair_refused : (fault : PairFault) (k j : ℕ) → IsPair fault model k j → is_refused fault model k ≡ true
  pair_refused Clash k j pair =
      let parts = both_pass (nat_lt j k) ((task_at model j).priority == (task_at model k).priority) pair.refused in
      let before : j < k = ltb-true j k parts.0 in
      let earlier : get_or (take k model.tasks) j no_task ≡ task_at model j = get_or-take k model.tasks j no_task before in
      any_among (λ (other : TaskDef). other.priority == (task_at model k).priority) (λ (other : TaskDef). same_name (task_at model k).core other.core) (take k model.tasks) j no_task
      (omega (arith, before, pair.known, length-take-le k model.tasks (omega (arith, pair.known))))
      (ap (λ (t : TaskDef). same_name (task_at model k).core t.core) earlier ∙ cores_match Clash k j pair)
      (ap (λ (t : TaskDef). t.priority == (task_at model k).priority) earlier ∙ parts.1)
  pair_refused Outpaced k j pair =
      any_among (is_outpaced_by model (task_at model k)) (λ (other : TaskDef). same_name (task_at model k).core other.core) model.tasks j no_task pair.other
      (cores_match Outpaced k j pair) (asked k j pair.known pair.other ∙ pair.refused)

  -- a task that M42 compares with another one of its core
  pub pair_of : (k j : ℕ) → k < length model.tasks → j < length model.tasks → is_outpaced_by model (task_at model k) (task_at model j) ≡ true → (task_at model k).core ≡ (task_at model j).core
      → IsPair Outpaced model k j
  pair_of k j hk hj refused same = record {
    known = hk;
    other = hj;
    core = ap (λ name. unwrap_or (index_of name (core_names model)) 0) same;
    refused = sym (asked k j hk hj) ∙ refused;
  }

  -- and one that is refused is one of a pair
  pub refused_pair : (fault : PairFault) (k : ℕ) → k < length model.tasks → is_refused fault model k ≡ true → (j : ℕ) × IsPair fault model k j
  refused_pair Clash k lt refused =
      let a = among (λ (other : TaskDef). other.priority == (task_at model k).priority) (λ (other : TaskDef). same_name (task_at model k).core other.core) (take k model.tasks) no_task refused in
      let before : a.place < k = omega (arith, a.within, length-take-le k model.tasks (omega (arith, lt))) in
      let earlier : get_or (take k model.tasks) a.place no_task ≡ task_at model a.place = get_or-take k model.tasks a.place no_task before in (
        a.place,
        record {
          known = lt;
          other = omega (arith, before, lt);
          core = ap (λ name. unwrap_or (index_of name (core_names model)) 0) ((bytes_decides (task_at model k).core (get_or (take k model.tasks) a.place no_task).core).0 a.kept ∙ ap (λ (t : TaskDef). t.core) earlier);
          refused = both_true (nat_lt a.place k) ((task_at model a.place).priority == (task_at model k).priority) (lt-ltb a.place k before)
              (ap (λ (t : TaskDef). t.priority == (task_at model k).priority) (sym earlier) ∙ a.passes);
        },
      )
  refused_pair Outpaced k lt refused =
      let a = among (is_outpaced_by model (task_at model k)) (λ (other : TaskDef). same_name (task_at model k).core other.core) model.tasks no_task refused in
      (a.place, pair_of k a.place lt a.within a.passes ((bytes_decides (task_at model k).core (task_at model a.place).core).0 a.kept))

-- ---- what is answered of all tasks

-- the check of a task, from whether it is refused
check_is : (fault : PairFault) (model : SystemModel) (k : ℕ) → pair_check fault model k (task_at model k) ≡ cond (is_refused fault model k) (refusal_at fault k ∷ []) []
check_is Clash model k = refl
check_is Outpaced model k = refl

passed : (fault : PairFault) (model : SystemModel) (k : ℕ) → is_refused fault model k ≡ false → pair_check fault model k (task_at model k) ≡ []
passed fault model k not = check_is fault model k ∙ ap (λ b. cond b (refusal_at fault k ∷ []) []) not

-- the first that is refused answers for all
pub first_answers : (fault : PairFault) (model : SystemModel) (k : ℕ) → IsFirstRefused fault model (Some k) → first (pair_checks fault model) ≡ Some (refusal_at fault k)
first_answers fault model k is =
    each_first (pair_check fault model) model.tasks k no_task (refusal_at fault k) is.refused.0
    (λ j lt. passed fault model j (false_from_ne_true (is_refused fault model j) (λ refused. let le : k ≤ j = is.least j (omega (arith, lt, is.refused.0)) refused in omega (arith, lt, le))))
    (ap first (check_is fault model k) ∙ ap (λ b. first (cond b (refusal_at fault k ∷ []) [])) is.refused.1)

pub none_refused : (fault : PairFault) (model : SystemModel) → IsFirstRefused fault model None → pair_checks fault model ≡ []
none_refused fault model is =
    each_nothing (pair_check fault model) model.tasks no_task (λ j lt. passed fault model j (false_from_ne_true (is_refused fault model j) (is.least j lt)))

-- ---- valid models

all_pass : (fault : PairFault) (model : SystemModel) → IsValid model → (k : ℕ) → k < length model.tasks → pair_check fault model k (task_at model k) ≡ []
all_pass Clash model valid k lt = (task_passes model valid k lt).priority
all_pass Outpaced model valid k lt = deadline_none model valid k lt

-- no two tasks of a valid model are such a pair
pub no_pair : (fault : PairFault) (model : SystemModel) → IsValid model → (k j : ℕ) → IsPair fault model k j → ⊥
no_pair fault model valid k j pair =
    none_is (refusal_at fault k)
    (ap (λ b. cond b (refusal_at fault k ∷ []) []) (sym (pair_refused model (valid_known model valid) fault k j pair)) ∙ sym (check_is fault model k) ∙ all_pass fault model valid k pair.known)
  where
    none_is : (r : Refusal) → r ∷ [] ≡ [] → ⊥
    none_is r is = cc
