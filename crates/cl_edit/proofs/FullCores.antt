-- How many tasks of a core stand before a task after one is moved, and the first task that M34 refuses.
use Rattle.std.proofs.Common.{◌≡◌, ◌≢◌, ℕ, zero, suc, ◌+◌, ◌<◌, ◌≤◌, Bool, true, false, cond, ◌⊎◌, inl, inr, List, [], ◌∷◌, ◌++◌, length, get_or, take, refl, sym, ap, ◌∙◌, subst, arith, nat_eq, nat_lt}
use Rattle.std.specs.Prelude.{Some, None, unwrap_or, ◌==◌}
use Rattle.std.specs.Cmp.Lexicographic.{bytes_decides}
use Rattle.std.proofs.lemmas.Bool.{eqb-true, eqb-false, eq-eqb, ltb-true, ltb-false, false_from_ne_true}
use Rattle.std.proofs.lemmas.List.{append-nil, length-append, length_push, get_or_push}
use Rattle.std.proofs.lemmas.List.Filters.{length-filter_more}
use Rattle.cl_model.specs.{declared.{limits.TheConstants.MOST_TASKS_OF_CORE, model.SystemModel.SystemModel, task.TaskDef.TaskDef}, ByNumber.{no_task, task_at, core_of, tasks_of_core_below, tasks_of_core}, Named.{same_name, index_of, core_names, tasks_on}, Validity.IsValid}
use Rattle.cl_model.proofs.{CoreTasks.{below_more, few_tasks}, ListFacts.same_tests}
use Rattle.cl_edit.specs.declared.pace.Retiming.TheVariants as change
use Rattle.cl_edit.specs.Inner.{Paces.with_retiming, Places.{is_beyond, IsFirstBeyond}}
use Rattle.cl_edit.proofs.{RefusedTasks.{IsKnown, names_same}, RetimedTasks.{change_known, core_is, tasks_kept}}

-- ---- counts

-- how many of the first n tasks a core has
pub count : SystemModel → (core n : ℕ) → ℕ
count model core n = length (tasks_of_core_below model n core)

pub count_all : (model : SystemModel) (core : ℕ) → count model core (length model.tasks) ≡ length (tasks_of_core model core)
unfolding count
count_all model core = refl

count_none : (model : SystemModel) (core : ℕ) → count model core 0 ≡ 0
unfolding count
count_none model core = refl

-- one, where a test passes
abbrev one_if : Bool → ℕ
one_if b = cond b 1 0

one_or_none : (b : Bool) (n : ℕ) → length (cond b (n ∷ []) []) ≡ one_if b
one_or_none true n = refl
one_or_none false n = refl

at_most_one : (b : Bool) → one_if b ≤ 1
at_most_one true = omega arith
at_most_one false = omega arith

count_more : (model : SystemModel) (core n m : ℕ) → m ≡ n + 1 → count model core m ≡ count model core n + one_if (core_of model n == core)
unfolding count
count_more model core n m is =
    let own = tasks_of_core_below model n core in
    ap (λ k. length (tasks_of_core_below model k core)) is ∙ ap length (below_more model n core) ∙ length-append own (cond (core_of model n == core) (n ∷ []) [])
    ∙ ap (λ k. length own + k) (one_or_none (core_of model n == core) n)

-- a task of the core is one more
count_own : (model : SystemModel) (core n : ℕ) → core_of model n ≡ core → count model core (n + 1) ≡ count model core n + 1
count_own model core n own = count_more model core n (n + 1) refl ∙ ap (λ b. count model core n + one_if b) (eq-eqb (core_of model n) core own)

-- and another one isn't
count_other : (model : SystemModel) (core n : ℕ) → core_of model n ≢ core → count model core (n + 1) ≡ count model core n
count_other model core n other =
    let more = count_more model core n (n + 1) refl ∙ ap (λ b. count model core n + one_if b) (false_from_ne_true (core_of model n == core) (λ e. other (eqb-true (core_of model n) core e))) in
    omega (arith, more)

-- of more tasks a core has no fewer
count_grows : (model : SystemModel) (core m n : ℕ) → n ≤ m → count model core n ≤ count model core m
count_grows model core zero n le = let e : n ≡ 0 = omega arith in rw e (omega arith)
count_grows model core (suc m) n le =
    elim (nat_eq n (suc m)) as (λ b. nat_eq n (suc m) ≡ b → count model core n ≤ count model core (suc m)) [
      | true ↦ λ e. let same : n ≡ suc m = eqb-true n (suc m) e in rw same (omega arith)
      | false ↦ λ e.
          let apart = eqb-false n (suc m) e in
          let before = count_grows model core m n (omega (arith, le, apart)) in
          let more = count_more model core m (suc m) (omega arith) in
          omega (arith, before, more)
    ] refl

-- a task of the core leaves fewer before it
count_past : (model : SystemModel) (core n m : ℕ) → core_of model n ≡ core → n < m → count model core n + 1 ≤ count model core m
count_past model core n m own lt = omega (arith, count_own model core n own, count_grows model core m (n + 1) (omega arith))

count_few : (model : SystemModel) → IsValid model → (core n : ℕ) → n ≤ length model.tasks → count model core n ≤ MOST_TASKS_OF_CORE
count_few model valid core n le = omega (arith, count_grows model core (length model.tasks) n le, count_all model core, few_tasks model valid core)

-- ---- the last task of a core

pub record IsLast (model : SystemModel) (core n last : ℕ) : Type 0 where
  pub within : last < n
  pub own : core_of model last ≡ core
  pub before : count model core last + 1 ≡ count model core n

list_more : (model : SystemModel) (core n : ℕ) (b : Bool) → (core_of model n == core) ≡ b → tasks_of_core_below model (suc n) core ≡ tasks_of_core_below model n core ++ cond b (n ∷ []) []
list_more model core n b is =
    let more : suc n ≡ n + 1 = omega arith in
    ap (λ k. tasks_of_core_below model k core) more ∙ below_more model n core ∙ ap (λ c. tasks_of_core_below model n core ++ cond c (n ∷ []) []) is

pub last_of : (model : SystemModel) (core n m last : ℕ) (list : List ℕ) → list ≡ tasks_of_core_below model n core → length list ≡ m + 1 → last ≡ get_or list m 0 → IsLast model core n last
unfolding count
last_of model core zero m last list is long at = absurd (omega (arith, ap length is, long))
last_of model core (suc n) m last list is long at =
    let own = tasks_of_core_below model n core in
    let more : suc n ≡ n + 1 = omega arith in
    elim (core_of model n == core) as (λ b. (core_of model n == core) ≡ b → IsLast model core (suc n) last) [
      | true ↦ λ e.
          let split : list ≡ own ++ n ∷ [] = is ∙ list_more model core n true e in
          let front : length own ≡ m = omega (arith, ap length split, length_push own n, long) in
          let here : last ≡ n = at ∙ ap (λ l. get_or l m 0) split ∙ get_or_push own n 0 m front in
          let on : core_of model n ≡ core = eqb-true (core_of model n) core e in
          subst (λ k. IsLast model core (suc n) k) (sym here) (record {
            within = omega arith;
            own = on;
            before = sym (ap (λ k. count model core k) more ∙ count_own model core n on);
          })
      | false ↦ λ e.
          let same : list ≡ own = is ∙ list_more model core n false e ∙ append-nil own in
          let before = last_of model core n m last list same long at in
          record {
            within = omega (arith, before.within);
            own = before.own;
            before = before.before ∙ sym (ap (λ k. count model core k) more ∙ count_other model core n (eqb-false (core_of model n) core e));
          }
    ] refl

not_before : (k n : ℕ) → (k < n → ⊥) → n ≤ k
not_before k n never = elim (nat_lt k n) as (λ b. nat_lt k n ≡ b → n ≤ k) [ true ↦ λ e. absurd (never (ltb-true k n e)) | false ↦ λ e. ltb-false k n e ] refl

-- ---- by name

module _ (model : SystemModel) (known : IsKnown model) where
  same_core : (i j : ℕ) → i < length model.tasks → j < length model.tasks → (core_of model i == core_of model j) ≡ same_name (task_at model j).core (task_at model i).core
  same_core i j hi hj =
      same_tests (core_of model i == core_of model j) (same_name (task_at model j).core (task_at model i).core)
      (λ e. (bytes_decides (task_at model j).core (task_at model i).core).1 (names_same model known j i hj hi (sym (eqb-true (core_of model i) (core_of model j) e))))
      (λ e. eq-eqb (core_of model i) (core_of model j) (ap (λ name. unwrap_or (index_of name (core_names model)) 0) (sym ((bytes_decides (task_at model j).core (task_at model i).core).0 e))))

  named : (n m : ℕ) → n < length model.tasks → m ≤ n → count model (core_of model n) m ≡ length (tasks_on (task_at model n).core (take m model.tasks))
  named n zero h le = count_none model (core_of model n)
  named n (suc m) h le =
      let within : m < length model.tasks = omega arith in
      let more : suc m ≡ m + 1 = omega arith in
      let on_core : TaskDef → Bool = λ task. same_name (task_at model n).core task.core in
      count_more model (core_of model n) m (suc m) more
      ∙ ap (λ k. k + one_if (core_of model m == core_of model n)) (named n m h (omega arith))
      ∙ ap (λ b. length (tasks_on (task_at model n).core (take m model.tasks)) + one_if b) (same_core m n within h)
      ∙ sym (ap (λ k. length (tasks_on (task_at model n).core (take k model.tasks))) more ∙ length-filter_more on_core model.tasks m no_task within)

  beyond_full : (k : ℕ) → k < length model.tasks → is_beyond model k ≡ true → count model (core_of model k) k ≡ MOST_TASKS_OF_CORE
  beyond_full k lt beyond = named k k lt (omega arith) ∙ eqb-true (length (tasks_on (task_at model k).core (take k model.tasks))) MOST_TASKS_OF_CORE beyond

  full_beyond : (k core : ℕ) → k < length model.tasks → core_of model k ≡ core → count model core k ≡ MOST_TASKS_OF_CORE → is_beyond model k ≡ true
  full_beyond k core lt own full =
      eq-eqb (length (tasks_on (task_at model k).core (take k model.tasks))) MOST_TASKS_OF_CORE
      (sym (named k k lt (omega arith)) ∙ ap (λ c. count model c k) own ∙ full)

-- ---- a move

module _ (model : SystemModel) (valid : IsValid model) (task core priority : ℕ) (known : task < length model.tasks) (there : core < length model.cores) where
  abbrev new : SystemModel
  new = with_retiming model (change.Move task core priority)

  long : length new.tasks ≡ length model.tasks
  long = tasks_kept model (change.Move task core priority)

  new_known : IsKnown new
  new_known = change_known model valid (change.Move task core priority) (known, there)

  core_after : (k : ℕ) → k < length model.tasks → core_of new k ≡ cond (k == task) core (core_of model k)
  core_after k lt = core_is model valid k lt (change.Move task core priority) (known, there)

  moved_core : core_of new task ≡ core
  moved_core = core_after task known ∙ ap (λ b. cond b core (core_of model task)) (eq-eqb task task refl)

  other_core : (k : ℕ) → k < length model.tasks → k ≢ task → core_of new k ≡ core_of model k
  other_core k lt apart = core_after k lt ∙ ap (λ b. cond b core (core_of model k)) (false_from_ne_true (k == task) (λ e. apart (eqb-true k task e)))

  -- before the task the counts stay
  count_before : (c m : ℕ) → m ≤ task → count new c m ≡ count model c m
  count_before c zero le = count_none new c ∙ sym (count_none model c)
  count_before c (suc m) le =
      count_more new c m (suc m) (omega arith) ∙ ap (λ k. k + one_if (core_of new m == c)) (count_before c m (omega arith))
      ∙ ap (λ k. count model c m + one_if (k == c)) (other_core m (omega (arith, known)) (λ e. omega (arith, e, le))) ∙ sym (count_more model c m (suc m) (omega arith))

  -- and behind it they are those without it, where it was, and with it, where it is
  count_behind : (c m : ℕ) → task < m → m ≤ length model.tasks → count new c m + one_if (core_of model task == c) ≡ count model c m + one_if (core == c)
  count_behind c zero lt le = absurd (omega arith)
  count_behind c (suc m) lt le =
      let one = count_more new c m (suc m) (omega arith) in
      let other = count_more model c m (suc m) (omega arith) in
      elim (nat_eq m task) as (λ b. nat_eq m task ≡ b → count new c (suc m) + one_if (core_of model task == c) ≡ count model c (suc m) + one_if (core == c)) [
        | true ↦ λ e.
            let same : m ≡ task = eqb-true m task e in
            let before = count_before c m (omega (arith, same)) in
            let mine : one_if (core_of new m == c) ≡ one_if (core == c) = ap (λ k. one_if (k == c)) (ap (λ k. core_of new k) same ∙ moved_core) in
            let its : one_if (core_of model m == c) ≡ one_if (core_of model task == c) = ap (λ k. one_if (core_of model k == c)) same in
            omega (arith, one, other, before, mine, its)
        | false ↦ λ e.
            let apart = eqb-false m task e in
            let behind = count_behind c m (omega (arith, lt, apart)) (omega arith) in
            let mine : one_if (core_of new m == c) ≡ one_if (core_of model m == c) = ap (λ k. one_if (k == c)) (other_core m (omega arith) apart) in
            omega (arith, one, other, behind, mine)
      ] refl

  -- a move brings one task at most
  one_more : (c k : ℕ) → k < length model.tasks → count new c k ≤ count model c k + 1
  one_more c k lt = elim (nat_lt task k) as (λ b. nat_lt task k ≡ b → count new c k ≤ count model c k + 1) [
    | true ↦ λ e.
        let behind = count_behind c k (ltb-true task k e) (omega arith) in
        let few : one_if (core == c) ≤ 1 = at_most_one (core == c) in
        omega (arith, behind, few)
    | false ↦ λ e.
        let before = count_before c k (ltb-false task k e) in
        omega (arith, before)
  ] refl

  -- a task on another core has room
  room_elsewhere : (k : ℕ) → k < length model.tasks → core_of new k ≢ core → count new (core_of new k) k ≡ MOST_TASKS_OF_CORE → ⊥
  room_elsewhere k lt away full =
      let apart : k ≢ task = λ e. away (ap (λ n. core_of new n) e ∙ moved_core) in
      let c = core_of new k in
      let own : core_of model k ≡ c = sym (other_core k lt apart) in
      let all = count_past model c k (length model.tasks) own lt in
      let few = count_few model valid c (length model.tasks) (omega arith) in
      elim (nat_lt task k) as (λ b. nat_lt task k ≡ b → ⊥) [
        | true ↦ λ e.
            let behind = count_behind c k (ltb-true task k e) (omega arith) in
            let none : one_if (core == c) ≡ 0 = ap (λ b. one_if b) (false_from_ne_true (core == c) (λ is. away (sym (eqb-true core c is)))) in
            omega (arith, behind, none, all, few, full)
        | false ↦ λ e.
            let before = count_before c k (ltb-false task k e) in
            omega (arith, before, all, few, full)
      ] refl

  -- a task on the core, where there is room
  room_there : (k : ℕ) → k < length model.tasks → core_of new k ≡ core → (core_of model task ≡ core) ⊎ (count model core (length model.tasks) < MOST_TASKS_OF_CORE) → count new core k ≡ MOST_TASKS_OF_CORE → ⊥
  room_there k lt there (inl stays) full =
      let own : core_of model k ≡ core = elim (nat_eq k task) as (λ b. nat_eq k task ≡ b → core_of model k ≡ core) [
        | true ↦ λ e. ap (λ n. core_of model n) (eqb-true k task e) ∙ stays
        | false ↦ λ e. sym (other_core k lt (eqb-false k task e)) ∙ there
      ] refl in
      let all = count_past model core k (length model.tasks) own lt in
      let few = count_few model valid core (length model.tasks) (omega arith) in
      elim (nat_lt task k) as (λ b. nat_lt task k ≡ b → ⊥) [
        | true ↦ λ e.
            let behind = count_behind core k (ltb-true task k e) (omega arith) in
            let same : one_if (core_of model task == core) ≡ one_if (core == core) = ap (λ c. one_if (c == core)) stays in
            omega (arith, behind, same, all, few, full)
        | false ↦ λ e.
            let before = count_before core k (ltb-false task k e) in
            omega (arith, before, all, few, full)
      ] refl
  room_there k lt there (inr room) full = elim (nat_eq k task) as (λ b. nat_eq k task ≡ b → ⊥) [
    | true ↦ λ e.
        let same : k ≡ task = eqb-true k task e in
        let before = count_before core k (omega (arith, same)) in
        let all = count_grows model core (length model.tasks) k (omega arith) in
        omega (arith, before, all, room, full)
    | false ↦ λ e.
        let own : core_of model k ≡ core = sym (other_core k lt (eqb-false k task e)) ∙ there in
        let all = count_past model core k (length model.tasks) own lt in
        let one = one_more core k lt in
        omega (arith, one, all, room, full)
  ] refl

  -- ---- the first task that is beyond

  full_new : (k : ℕ) → k < length new.tasks → is_beyond new k ≡ true → count new (core_of new k) k ≡ MOST_TASKS_OF_CORE
  full_new k lt beyond = beyond_full new new_known k lt beyond

  -- a full core is the one that the task is moved to
  full_there : (k : ℕ) → k < length new.tasks → is_beyond new k ≡ true → core_of new k ≡ core
  full_there k lt beyond = elim (nat_eq (core_of new k) core) as (λ b. nat_eq (core_of new k) core ≡ b → core_of new k ≡ core) [
    | true ↦ λ e. eqb-true (core_of new k) core e
    | false ↦ λ e. absurd (room_elsewhere k (omega (arith, lt, long)) (eqb-false (core_of new k) core e) (full_new k lt beyond))
  ] refl

  full_core : (k : ℕ) → k < length new.tasks → is_beyond new k ≡ true → count new core k ≡ MOST_TASKS_OF_CORE
  full_core k lt beyond = sym (ap (λ c. count new c k) (full_there k lt beyond)) ∙ full_new k lt beyond

  -- where there is room, none
  pub none_beyond : (core_of model task ≡ core) ⊎ (count model core (length model.tasks) < MOST_TASKS_OF_CORE) → IsFirstBeyond new None
  none_beyond room = record {
    beyond = tt;
    least = λ k lt beyond. room_there k (omega (arith, lt, long)) (full_there k lt beyond) room (full_core k lt beyond);
  }

  -- and where there is none, the last of the core and the task
  pub last_beyond : (last : ℕ) → core_of model task ≢ core → MOST_TASKS_OF_CORE ≤ count model core (length model.tasks) → IsLast model core (length model.tasks) last
      → IsFirstBeyond new (Some (cond (nat_lt task last) last task))
  last_beyond last elsewhere full is =
      let few = count_few model valid core (length model.tasks) (omega arith) in
      let away : one_if (core_of model task == core) ≡ 0 = ap (λ b. one_if b) (false_from_ne_true (core_of model task == core) (λ e. elsewhere (eqb-true (core_of model task) core e))) in
      let here : one_if (core == core) ≡ 1 = ap (λ b. one_if b) (eq-eqb core core refl) in
      let apart : last ≢ task = λ e. elsewhere (sym (ap (λ n. core_of model n) e) ∙ is.own) in
      let within = is.within in
      let before_last = is.before in
      elim (nat_lt task last) as (λ b. nat_lt task last ≡ b → IsFirstBeyond new (Some (cond b last task))) [
        | true ↦ λ e.
            let later = ltb-true task last e in
            let in_new : last < length new.tasks = omega (arith, within, long) in
            let behind = count_behind core last later (omega (arith, within)) in
            record {
              beyond = (in_new, full_beyond new new_known last core in_new (other_core last within apart ∙ is.own) (omega (arith, behind, away, here, before_last, full, few)));
              least = λ k lt beyond. not_before k last (λ k_lt.
                  let k_in : k < length model.tasks = omega (arith, k_lt, within) in
                  let k_full = full_core k lt beyond in
                  elim (nat_eq k task) as (λ b. nat_eq k task ≡ b → ⊥) [
                    | true ↦ λ f.
                        let same : k ≡ task = eqb-true k task f in
                        let so_far = count_before core k (omega (arith, same)) in
                        let grows = count_grows model core last k (omega (arith, k_lt)) in
                        omega (arith, k_full, so_far, grows, before_last, few)
                    | false ↦ λ f.
                        let own : core_of model k ≡ core = sym (other_core k k_in (eqb-false k task f)) ∙ full_there k lt beyond in
                        let past = count_past model core k last own k_lt in
                        let one = one_more core k k_in in
                        omega (arith, k_full, past, one, before_last, few)
                  ] refl);
            }
        | false ↦ λ e.
            let le = ltb-false task last e in
            let in_new : task < length new.tasks = omega (arith, known, long) in
            let so_far = count_before core task (omega arith) in
            let past = count_past model core last task is.own (omega (arith, le, apart)) in
            let all = count_grows model core (length model.tasks) task (omega (arith, known)) in
            record {
              beyond = (in_new, full_beyond new new_known task core in_new moved_core (omega (arith, so_far, past, all, before_last, full, few)));
              least = λ k lt beyond. not_before k task (λ k_lt.
                  let k_in : k < length model.tasks = omega (arith, k_lt, known) in
                  let k_full = full_core k lt beyond in
                  let own : core_of model k ≡ core = sym (other_core k k_in (λ same. omega (arith, same, k_lt))) ∙ full_there k lt beyond in
                  let mine = count_before core k (omega (arith, k_lt)) in
                  let more = count_past model core k (length model.tasks) own k_in in
                  omega (arith, k_full, mine, more, few));
            }
      ] refl
