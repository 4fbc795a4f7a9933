-- The names and the stimuli of a generated model are refused nothing.
use Rattle.std.proofs.Common.{◌≡◌, ℕ, ◌+◌, ◌*◌, ◌/◌, ◌<◌, ◌≤◌, ◌^◌, false, ◌&&◌, Some, List, [], ◌∷◌, ◌++◌, map, refl, sym, ap, ◌∙◌, arith}
use Rattle.std.specs.Prelude.{codes, nat_le, slice_index}
use Rattle.std.specs.Int.{div_ceil}
use Rattle.std.specs.List.{range_with_len}
use Rattle.std.specs.Option.{option_map}
use Rattle.std.proofs.lemmas.Bool.{leb-true, lt-leb}
use Rattle.std.proofs.lemmas.Grind.{div_ceil_times}
use Rattle.std.proofs.lemmas.List.{append-nil}
use Rattle.std.proofs.lemmas.List.FromFn.{map-range_with_len_more}
use Rattle.std.proofs.lemmas.List.Sums.{AllPass-from_list_all}
use Rattle.cl_model.specs.{declared.{limits.TheConstants.MOST_TASKS, place.{Part.Part, Place.Place}, refusal.Code.{Code, TheVariants.{M20, M21, M22, M23, M24, M25, M26, M27}}, stimulus.{StimulusDef.StimulusDef, StimulusKind.TheVariants.Periodic}}, Named.{has_name, entry_named, core_names}}
use Rattle.cl_model.specs.{Named.{stimulus_names, label_names, task_names, chain_names, requirement_names, kind_named}, Place.{entry_of, at_key, at_sub}, Refusals.{when, each}, ValidNames.{repeats, section_repeats, runnable_repeats, name_checks, offset_check, distance_check, burst_check}}
use Rattle.cl_model.specs.ValidNames.{stimulus_checks}
use Rattle.cl_model.specs.declared.place.Part.TheVariants as part
use Rattle.cl_model.specs.declared.place.Key.TheVariants as key
use Rattle.cl_model.proofs.{ListFacts.both_pass, NoRefusals.none_in_order}
use Rattle.cl_gen.specs.Generated.{numbered, label_name, runnable_name, periods, generated_stimulus, generated_runnable, generated_task, model_of_words}
use Rattle.cl_gen.proofs.{ApartNames.{numbered_apart, labels_apart, runnables_apart}, GeneratedParts.{tasks_are, core_names_are, stimulus_names_are, label_names_are, task_names_are, chain_names_are, first_runnable_names}, PassingChecks.{not_refused, each_mapped, AreApartBelow, fresh}}
use Rattle.cl_gen.proofs.PassingChecks.{repeats_pass, entry_is}

-- ---- names over numbers in a row

pub apart_below : (letter : List ℕ) (n : ℕ) → n ≤ 2 ^ 64 → AreApartBelow (numbered letter) n
apart_below letter n fits i j i_lt j_lt = numbered_apart letter i j (omega arith) (omega arith)

pub labels_apart_below : (n : ℕ) → n ≤ 2 ^ 64 → AreApartBelow label_name n
labels_apart_below n fits i j i_lt j_lt = labels_apart i j (omega arith) (omega arith)

pub runnables_apart_below : (n : ℕ) → n ≤ 2 ^ 64 → AreApartBelow runnable_name n
runnables_apart_below n fits i j i_lt j_lt = runnables_apart i j (omega arith) (omega arith)

chains_apart_below : (n : ℕ) → n ≤ 2 ^ 32 → AreApartBelow (λ c. numbered (codes "k") (4 * c)) n
chains_apart_below n fits i j i_lt j_lt same =
    let four : 4 * i ≡ 4 * j = numbered_apart (codes "k") (4 * i) (4 * j) (omega arith) (omega arith) same in omega arith

pub few_cores : (n : ℕ) → n ≤ MOST_TASKS → div_ceil n 16 ≤ 64
few_cores n few = omega (arith, (div_ceil_times n 16 (omega arith)).1)

-- a section whose names are these refuses none
section_passes : (code : Code) (section : Part) (f : ℕ → List ℕ) (n : ℕ) (names : List (List ℕ)) → names ≡ map f (range_with_len 0 n)
    → AreApartBelow f n → section_repeats code section names ≡ []
section_passes code section f n names are apart = ap (section_repeats code section) are ∙ repeats_pass code (λ i. at_key key.Name (entry_of section i)) f n apart

-- ---- the names of the two runnables of a task

two_pass : (code : Code) (place : ℕ → Place) (before : List (List ℕ)) (one other : List ℕ) → has_name one before ≡ false
    → has_name other (before ++ one ∷ []) ≡ false → repeats code place before (one ∷ other ∷ []) ≡ []
two_pass code place before one other first second =
    ap (λ list. list ++ (when (has_name other (before ++ one ∷ [])) code (place 1) ++ [])) (not_refused (has_name one (before ++ [])) code (place 0) (ap (has_name one) (append-nil before) ∙ first))
    ∙ ap (λ list. list ++ []) (not_refused (has_name other (before ++ one ∷ [])) code (place 1) second)

module _ (word : ℕ → ℕ) (n : ℕ) (few : n ≤ MOST_TASKS) where
  runnables_pass : (i : ℕ) → i < n → runnable_repeats (model_of_words word n).tasks i (generated_task word i) ≡ []
  unfolding generated_task generated_runnable
  runnables_pass i lt =
      let apart = runnables_apart_below (2 * n) (omega arith) in
      let place = λ (p : ℕ). at_key key.Name (at_sub p (entry_of part.Task i)) in
      ap (λ before. repeats M24 place before (runnable_name (2 * i) ∷ runnable_name (2 * i + 1) ∷ [])) (first_runnable_names word n i (omega arith))
      ∙ two_pass M24 place (map runnable_name (range_with_len 0 (2 * i))) (runnable_name (2 * i)) (runnable_name (2 * i + 1))
      (fresh runnable_name (2 * n) (2 * i) apart (omega arith))
      (ap (has_name (runnable_name (2 * i + 1))) (sym (map-range_with_len_more runnable_name 0 (2 * i) (2 * i) (omega arith)))
      ∙ fresh runnable_name (2 * n) (2 * i + 1) apart (omega arith))

  pub names_pass : name_checks (model_of_words word n) ≡ []
  unfolding name_checks model_of_words
  names_pass = none_in_order
      (section_repeats M20 part.Core (core_names (model_of_words word n))
      ∷ section_repeats M21 part.Stimulus (stimulus_names (model_of_words word n))
      ∷ section_repeats M22 part.Label (label_names (model_of_words word n))
      ∷ section_repeats M23 part.Task (task_names (model_of_words word n))
      ∷ each (runnable_repeats (model_of_words word n).tasks) (model_of_words word n).tasks
      ∷ section_repeats M25 part.Chain (chain_names (model_of_words word n))
      ∷ section_repeats M26 part.Requirement (requirement_names (model_of_words word n))
      ∷ []) (
        section_passes M20 part.Core _ _ _ (core_names_are word n) (apart_below (codes "c") _ (omega (arith, few_cores n few))),
        (
          section_passes M21 part.Stimulus _ _ _ (stimulus_names_are word n) (apart_below (codes "p") 9 (omega arith)),
          (
            section_passes M22 part.Label _ _ _ (label_names_are word n) (labels_apart_below (2 * n) (omega arith)),
            (
              section_passes M23 part.Task _ _ _ (task_names_are word n) (apart_below (codes "t") n (omega arith)),
              (
                ap (each (runnable_repeats (model_of_words word n).tasks)) (tasks_are word n) ∙ each_mapped _ (generated_task word) n runnables_pass,
                (
                  section_passes M25 part.Chain _ _ _ (chain_names_are word n) (chains_apart_below (n / 4) (omega arith)),
                  (refl, tt),
                ),
              ),
            ),
          ),
        ),
      )

-- ---- stimuli

pub period_least : (e : ℕ) → e < 9 → 1000 ≤ slice_index periods e
period_least e lt = leb-true 1000 (slice_index periods e) (both_pass (nat_le 1000 (slice_index periods e)) (nat_le (slice_index periods e) 1000000)
    (AllPass-from_list_all (λ p. nat_le 1000 p && nat_le p 1000000) periods refl e 0 lt)).0

pub period_greatest : (e : ℕ) → e < 9 → slice_index periods e ≤ 1000000
period_greatest e lt = leb-true (slice_index periods e) 1000000 (both_pass (nat_le 1000 (slice_index periods e)) (nat_le (slice_index periods e) 1000000)
    (AllPass-from_list_all (λ p. nat_le 1000 p && nat_le p 1000000) periods refl e 0 lt)).1

module _ (word : ℕ → ℕ) (n : ℕ) where
  pub stimuli_pass : stimulus_checks (model_of_words word n) ≡ []
  unfolding stimulus_checks model_of_words generated_stimulus
  stimuli_pass = none_in_order
      (each offset_check (map generated_stimulus (range_with_len 0 9)) ∷ each distance_check (map generated_stimulus (range_with_len 0 9))
      ∷ each burst_check (map generated_stimulus (range_with_len 0 9)) ∷ []) (
        each_mapped offset_check generated_stimulus 9 (λ e lt. not_refused (nat_le (slice_index periods e) 0) M27 (at_key key.Offset (entry_of part.Stimulus e))
            (lt-leb (slice_index periods e) 0 (omega (arith, period_least e lt)))),
        (each_mapped distance_check generated_stimulus 9 (λ e lt. refl), (each_mapped burst_check generated_stimulus 9 (λ e lt. refl), tt)),
      )

  -- what the name of a stimulus stands for
  pub kind_is : (e : ℕ) → e < 9 → kind_named (model_of_words word n) (numbered (codes "p") e) ≡ Some (Periodic (slice_index periods e) 0 0)
  unfolding model_of_words generated_stimulus
  kind_is e lt =
      ap (λ names. option_map (λ (s : StimulusDef). s.kind) (entry_named (numbered (codes "p") e) names (map generated_stimulus (range_with_len 0 9)))) (stimulus_names_are word n)
      ∙ ap (option_map (λ (s : StimulusDef). s.kind)) (entry_is (numbered (codes "p")) generated_stimulus 9 e (apart_below (codes "p") 9 (omega arith)) lt)
