-- The chains of a generated model are refused nothing.
use Rattle.std.proofs.Common.{◌≡◌, ℕ, zero, suc, ◌+◌, ◌*◌, ◌/◌, ◌<◌, ◌≤◌, true, false, not, Some, Option, List, [], ◌∷◌, map, refl, ap, ◌∙◌, arith}
use Rattle.std.specs.List.{range_with_len}
use Rattle.std.specs.Cmp.Lexicographic.{bytes_decides}
use Rattle.std.specs.Option.{option_and_then}
use Rattle.std.proofs.lemmas.Bool.{or_from, or_left}
use Rattle.std.proofs.lemmas.List.FromFn.{get_or-map-range_with_len, length-map-range_with_len}
use Rattle.std.proofs.lemmas.Option.{slice_get-get_or}
use Rattle.cl_model.specs.{declared.{limits.TheConstants.MOST_TASKS, refusal.Code.TheVariants.{M44, M45}, task.RunnableDef.RunnableDef}, Named.{same_name, has_name, is_some_and, entry_named, runnable_names, runnable_named, all_runnables}, Place.{entry_of, at_key, at_spot}, Refusals.each}
use Rattle.cl_model.specs.Validity.{step_check, step_of, misses_label, hop_check, lengths_check, chain_check}
use Rattle.cl_model.specs.declared.place.Part.TheVariants as part
use Rattle.cl_model.specs.declared.place.Key.TheVariants as key
use Rattle.cl_model.proofs.NoRefusals.{none_in_order}
use Rattle.cl_gen.specs.Generated.{label_name, runnable_name, generated_runnable, generated_chain, model_of_words}
use Rattle.cl_gen.proofs.{GeneratedParts.{runnables_are, runnable_names_are}, GeneratedSections.runnables_apart_below, PassingChecks.{not_refused, passed_by, each_shifted, among, entry_is}}

-- a name is the one name in a list of itself
alone : (name : List ℕ) → has_name name (name ∷ []) ≡ true
alone name = or_left (same_name name name) false ((bytes_decides name name).1 refl)

module _ (word : ℕ → ℕ) (n : ℕ) (few : n ≤ MOST_TASKS) where
  runnable_found : (k : ℕ) → k < 2 * n → runnable_named (model_of_words word n) (runnable_name k) ≡ Some (generated_runnable word k)
  runnable_found k lt =
      ap (λ names. entry_named (runnable_name k) names (all_runnables (model_of_words word n).tasks)) (runnable_names_are word n)
      ∙ ap (λ rs. entry_named (runnable_name k) (map runnable_name (range_with_len 0 (2 * n))) rs) (runnables_are word n)
      ∙ entry_is runnable_name (generated_runnable word) (2 * n) k (runnables_apart_below (2 * n) (omega arith)) lt

  -- step k of chain c is runnable 8 * c + k
  step_is : (c k : ℕ) → 8 * c + 8 ≤ 2 * n → k < 8 → step_of (model_of_words word n) (generated_chain c) k ≡ Some (generated_runnable word (8 * c + k))
  unfolding generated_chain
  step_is c k within lt =
      let names = map runnable_name (range_with_len (8 * c) 8) in
      ap (option_and_then (runnable_named (model_of_words word n)))
      (slice_get-get_or names k [] (omega (arith, lt, length-map-range_with_len runnable_name (8 * c) 8))
      ∙ ap Some (get_or-map-range_with_len runnable_name (8 * c) 8 k (8 * c + k) [] lt refl))
      ∙ runnable_found (8 * c + k) (omega arith)

  writes_it : (k : ℕ) → not (has_name (label_name k) (generated_runnable word k).writes) ≡ false
  unfolding generated_runnable
  writes_it k = ap not (alone (label_name k))

  reads_it : (k j : ℕ) → j ≡ suc k → not (has_name (label_name k) (generated_runnable word j).reads) ≡ false
  unfolding generated_runnable
  reads_it k zero next = absurd (omega arith)
  reads_it k (suc j) next =
      let same : k ≡ j = omega arith in
      ap (λ i. not (has_name (label_name i) (label_name j ∷ []))) same ∙ ap not (alone (label_name j))

  handed : (c k : ℕ) → 8 * c + 8 ≤ 2 * n → k < 7 → misses_label (model_of_words word n) (generated_chain c) k (label_name (8 * c + k)) ≡ false
  handed c k within lt =
      let label = label_name (8 * c + k) in
      or_from _ _
      (ap (λ (r : Option RunnableDef). is_some_and r (λ writer. not (has_name label writer.writes))) (step_is c k within (omega arith)) ∙ writes_it (8 * c + k))
      (ap (λ (r : Option RunnableDef). is_some_and r (λ reader. not (has_name label reader.reads))) (step_is c (k + 1) within (omega arith))
      ∙ reads_it (8 * c + k) (8 * c + (k + 1)) (omega arith))

  pub chain_passes : (c : ℕ) → c < n / 4 → chain_check (model_of_words word n) c (generated_chain c) ≡ []
  unfolding chain_check generated_chain
  chain_passes c lt =
      let model = model_of_words word n in
      let steps = at_key key.Runnables (entry_of part.Chain c) in
      let hops = at_key key.Labels (entry_of part.Chain c) in
      let within : 8 * c + 8 ≤ 2 * n = omega arith in
      none_in_order
      (lengths_check c (generated_chain c) ∷ each (step_check model steps) (map runnable_name (range_with_len (8 * c) 8))
      ∷ each (hop_check model (generated_chain c) hops) (map label_name (range_with_len (8 * c) 7)) ∷ []) (
        refl,
        (
          each_shifted (step_check model steps) runnable_name 8 0 (8 * c)
              (λ k k_lt. passed_by (has_name (runnable_name (8 * c + k)) (runnable_names (all_runnables model.tasks))) M44 (at_spot (0 + k) steps)
              (ap (has_name (runnable_name (8 * c + k))) (runnable_names_are word n) ∙ among runnable_name (2 * n) 0 (8 * c + k) (omega arith) (omega arith))),
          (
            each_shifted (hop_check model (generated_chain c) hops) label_name 7 0 (8 * c)
                (λ k k_lt. let same : 0 + k ≡ k = omega arith in
                not_refused (misses_label model (generated_chain c) (0 + k) (label_name (8 * c + k))) M45 (at_spot (0 + k) hops)
                (ap (λ j. misses_label model (generated_chain c) j (label_name (8 * c + k))) same ∙ handed c k within k_lt)),
            tt,
          ),
        ),
      )
