-- What is refused of where tasks stand: the first task that clashes with an earlier one, or that finds its core full.
use Rattle.std.proofs.Common.{◌≡◌, ℕ, ◌<◌, Bool, true, false, cond, List, [], ◌∷◌, ◌++◌, length, get_or, take, refl, sym, ap, ◌∙◌, subst, arith, nat_lt}
use Rattle.std.specs.Prelude.{Option, Some, None, Result, Ok, Err}
use Rattle.std.proofs.lemmas.Bool.{ltb-true, ltb-false, false_from_ne_true}
use Rattle.cl_model.specs.{declared.{model.SystemModel.SystemModel, model_fault.ModelFault.{ModelFault, TheVariants.{Refused, NoMemory}}, refusal.{Code.TheVariants.{M29, M31, M34}, Refusal.Refusal}}, ByNumber.{no_task, task_at}, Named.{core_names, tasks_on}, Refusals.{when, unless}}
use Rattle.cl_model.specs.{Refusals.{in_order, first}, Answers.Answers, ValidTasks.{task_key, core_check, priority_check, room_check}}
use Rattle.cl_model.specs.declared.place.Key.TheVariants as key
use Rattle.cl_edit.specs.{FewChecks.place_refusals, declared.pairs.PairFault.TheVariants.Clash, Inner.{Pairs.{is_refused, IsAtMost, IsFirstRefused}, Places.{place_checks, is_beyond, IsFirstBeyond, first_checks}}}
use Rattle.cl_model.proofs.EachFacts.{each_nothing}
use Rattle.cl_edit.proofs.RefusedTasks.{IsKnown, each_first}

of_three : (a b c : List Refusal) → a ≡ [] → b ≡ [] → in_order (a ∷ b ∷ c ∷ []) ≡ c ++ []
of_three a b c na nb = rw (na, nb) refl

-- a task before both is neither
not_at : (least : Option ℕ) (test : ℕ → Bool) (k : ℕ) → (test k ≡ true → IsAtMost least k) → (IsAtMost least k → ⊥) → test k ≡ false
not_at least test k found later = false_from_ne_true (test k) (λ e. later (found e))

-- what is answered by one refusal is answered by each list that begins with it
by_first : (result : Result (Unit {0}) ModelFault) (refusal : Refusal) (few all : List Refusal) → first few ≡ Some refusal → first all ≡ Some refusal → Answers result few tt → Answers result all tt
by_first (Ok value) refusal few all is also h = absurd (let e : first few ≡ None = ap first h.0 in let f : Some refusal ≡ None = sym is ∙ e in cc)
by_first (Err (Refused other)) refusal few all is also h = also ∙ sym is ∙ h
by_first (Err NoMemory) refusal few all is also h = tt

module _ (model : SystemModel) (known : IsKnown model) where
  core_passes : (k : ℕ) → k < length model.tasks → core_check (core_names model) k (task_at model k) ≡ []
  core_passes k lt = ap (λ b. unless b M29 (task_key k key.Core)) (known.cores k lt)

  -- of a task that neither M31 nor M34 refuses, nothing is refused
  nothing_at : (k : ℕ) → k < length model.tasks → is_refused Clash model k ≡ false → is_beyond model k ≡ false → place_refusals model k (task_at model k) ≡ []
  nothing_at k lt apart room =
      of_three (core_check (core_names model) k (task_at model k)) (priority_check (tasks_on (task_at model k).core (take k model.tasks)) k (task_at model k))
      (room_check (length (tasks_on (task_at model k).core (take k model.tasks))) k) (core_passes k lt) (ap (λ b. when b M31 (task_key k key.Priority)) apart)
      ∙ ap (λ b. when b M34 (task_key k key.Core) ++ []) room

  -- M31 comes first
  clash_at : (k : ℕ) → k < length model.tasks → is_refused Clash model k ≡ true → first (place_refusals model k (task_at model k)) ≡ Some (record { code = M31; place = task_key k key.Priority })
  clash_at k lt clashing =
      let room = room_check (length (tasks_on (task_at model k).core (take k model.tasks))) k in
      ap (λ (core : List Refusal). first (core ++ (priority_check (tasks_on (task_at model k).core (take k model.tasks)) k (task_at model k) ++ (room ++ [])))) (core_passes k lt)
      ∙ ap (λ b. first (when b M31 (task_key k key.Priority) ++ (room ++ []))) clashing

  -- and then M34
  beyond_at : (k : ℕ) → k < length model.tasks → is_refused Clash model k ≡ false → is_beyond model k ≡ true → first (place_refusals model k (task_at model k)) ≡ Some (record { code = M34; place = task_key k key.Core })
  beyond_at k lt apart beyond =
      ap first (of_three (core_check (core_names model) k (task_at model k)) (priority_check (tasks_on (task_at model k).core (take k model.tasks)) k (task_at model k))
      (room_check (length (tasks_on (task_at model k).core (take k model.tasks))) k) (core_passes k lt) (ap (λ b. when b M31 (task_key k key.Priority)) apart))
      ∙ ap (λ b. first (when b M34 (task_key k key.Core) ++ [])) beyond

  module _ (clash beyond : Option ℕ) (clashes : IsFirstRefused Clash model clash) (full : IsFirstBeyond model beyond) where
    -- nothing is refused of a task that stands before both
    nothing_before : (k : ℕ) → k < length model.tasks → (IsAtMost clash k → ⊥) → (IsAtMost beyond k → ⊥) → place_refusals model k (get_or model.tasks k no_task) ≡ []
    nothing_before k lt not_clash not_beyond =
        nothing_at k lt (not_at clash (is_refused Clash model) k (clashes.least k lt) not_clash) (not_at beyond (is_beyond model) k (full.least k lt) not_beyond)

-- the first task of each is the first of all
pub first_place : (model : SystemModel) → IsKnown model → (clash beyond : Option ℕ) → IsFirstRefused Clash model clash → IsFirstBeyond model beyond
    → (result : Result (Unit {0}) ModelFault) → Answers result (first_checks clash beyond) tt → Answers result (place_checks model) tt
first_place model known None None clashes full result h =
    subst (λ (refusals : List Refusal). Answers result refusals tt)
    (sym (each_nothing (place_refusals model) model.tasks no_task (λ k lt. nothing_before model known None None clashes full k lt (λ h. h) (λ h. h)))) h
first_place model known None (Some k) clashes full result h =
    by_first result (record { code = M34; place = task_key k key.Core }) (first_checks None (Some k)) (place_checks model) refl
    (each_first (place_refusals model) model.tasks k no_task (record { code = M34; place = task_key k key.Core }) full.beyond.0
    (λ j lt. nothing_before model known None (Some k) clashes full j (omega (arith, lt, full.beyond.0)) (λ h. h) (λ le. omega (arith, lt, le)))
    (beyond_at model known k full.beyond.0 (not_at None (is_refused Clash model) k (clashes.least k full.beyond.0) (λ h. h)) full.beyond.1)) h
first_place model known (Some j) None clashes full result h =
    by_first result (record { code = M31; place = task_key j key.Priority }) (first_checks (Some j) None) (place_checks model) refl
    (each_first (place_refusals model) model.tasks j no_task (record { code = M31; place = task_key j key.Priority }) clashes.refused.0
    (λ i lt. nothing_before model known (Some j) None clashes full i (omega (arith, lt, clashes.refused.0)) (λ le. omega (arith, lt, le)) (λ h. h))
    (clash_at model known j clashes.refused.0 clashes.refused.1)) h
first_place model known (Some j) (Some k) clashes full result h =
    elim (nat_lt k j) as (λ b. nat_lt k j ≡ b → Answers result (place_checks model) tt) [
      | true ↦ λ e.
          let before = ltb-true k j e in
          by_first result (record { code = M34; place = task_key k key.Core }) (first_checks (Some j) (Some k)) (place_checks model)
          (ap (λ b. first (cond b (let r : Refusal = record { code = M34; place = task_key k key.Core } in r ∷ []) (let r : Refusal = record { code = M31; place = task_key j key.Priority } in r ∷ []))) e)
          (each_first (place_refusals model) model.tasks k no_task (record { code = M34; place = task_key k key.Core }) full.beyond.0
          (λ i lt. nothing_before model known (Some j) (Some k) clashes full i (omega (arith, lt, full.beyond.0)) (λ le. omega (arith, lt, le, before)) (λ le. omega (arith, lt, le)))
          (beyond_at model known k full.beyond.0 (not_at (Some j) (is_refused Clash model) k (clashes.least k full.beyond.0) (λ le. omega (arith, le, before))) full.beyond.1)) h
      | false ↦ λ e.
          let before = ltb-false k j e in
          by_first result (record { code = M31; place = task_key j key.Priority }) (first_checks (Some j) (Some k)) (place_checks model)
          (ap (λ b. first (cond b (let r : Refusal = record { code = M34; place = task_key k key.Core } in r ∷ []) (let r : Refusal = record { code = M31; place = task_key j key.Priority } in r ∷ []))) e)
          (each_first (place_refusals model) model.tasks j no_task (record { code = M31; place = task_key j key.Priority }) clashes.refused.0
          (λ i lt. nothing_before model known (Some j) (Some k) clashes full i (omega (arith, lt, clashes.refused.0)) (λ le. omega (arith, lt, le)) (λ le. omega (arith, lt, le, before)))
          (clash_at model known j clashes.refused.0 clashes.refused.1)) h
    ] refl
