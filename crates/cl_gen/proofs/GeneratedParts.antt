-- The parts of a generated model: the names of its sections, its runnables, and the labels that they write.
use Rattle.std.proofs.Common.{◌≡◌, ℕ, zero, suc, ◌+◌, ◌*◌, ◌/◌, ◌≤◌, ◌∷◌, take, map, refl, sym, ap, ◌∙◌, arith}
use Rattle.std.specs.Prelude.{codes}
use Rattle.std.specs.Int.{div_ceil}
use Rattle.std.specs.List.{range_with_len}
use Rattle.std.proofs.lemmas.List.FromFn.{take-map-range_with_len}
use Rattle.std.proofs.lemmas.Simd.{map-map}
use Rattle.cl_model.specs.Named.{core_names, stimulus_names, label_names, task_names, chain_names, runnable_names, all_runnables, labels_written}
use Rattle.cl_gen.specs.Generated.{numbered, label_name, runnable_name, generated_core, generated_stimulus, generated_label, generated_runnable, generated_task, generated_chain, model_of_words}

-- ---- over numbers in a row

-- the runnables of tasks in a row are runnables in a row
pub runnables_in_a_row : (word : ℕ → ℕ) (n a : ℕ)
    → all_runnables (map (generated_task word) (range_with_len a n)) ≡ map (generated_runnable word) (range_with_len (2 * a) (2 * n))
unfolding generated_task
runnables_in_a_row word zero a = refl
runnables_in_a_row word (suc n) a =
    let more : 2 * suc n ≡ suc (suc (2 * n)) = omega arith in
    let next : 2 * (a + 1) ≡ 2 * a + 1 + 1 = omega arith in
    ap (λ rs. generated_runnable word (2 * a) ∷ generated_runnable word (2 * a + 1) ∷ rs)
    (runnables_in_a_row word n (a + 1) ∙ ap (λ k. map (generated_runnable word) (range_with_len k (2 * n))) next)
    ∙ ap (λ k. map (generated_runnable word) (range_with_len (2 * a) k)) (sym more)

-- and what they write are labels in a row
pub written_in_a_row : (word : ℕ → ℕ) (m a : ℕ) → labels_written (map (generated_runnable word) (range_with_len a m)) ≡ map label_name (range_with_len a m)
unfolding generated_runnable
written_in_a_row word zero a = refl
written_in_a_row word (suc m) a = ap (λ ls. label_name a ∷ ls) (written_in_a_row word m (a + 1))

names_in_a_row : (word : ℕ → ℕ) (m a : ℕ) → runnable_names (map (generated_runnable word) (range_with_len a m)) ≡ map runnable_name (range_with_len a m)
unfolding generated_runnable
names_in_a_row word zero a = refl
names_in_a_row word (suc m) a = ap (λ ns. runnable_name a ∷ ns) (names_in_a_row word m (a + 1))

-- ---- of a generated model

module _ (word : ℕ → ℕ) (n : ℕ) where
  pub tasks_are : (model_of_words word n).tasks ≡ map (generated_task word) (range_with_len 0 n)
  unfolding model_of_words
  tasks_are = refl

  pub core_names_are : core_names (model_of_words word n) ≡ map (numbered (codes "c")) (range_with_len 0 (div_ceil n 16))
  unfolding model_of_words
  core_names_are = map-map (λ core. core.name) generated_core (range_with_len 0 (div_ceil n 16))

  pub stimulus_names_are : stimulus_names (model_of_words word n) ≡ map (numbered (codes "p")) (range_with_len 0 9)
  unfolding model_of_words generated_stimulus
  stimulus_names_are = map-map (λ stimulus. stimulus.name) generated_stimulus (range_with_len 0 9)

  pub label_names_are : label_names (model_of_words word n) ≡ map label_name (range_with_len 0 (2 * n))
  unfolding model_of_words
  label_names_are = map-map (λ label. label.name) generated_label (range_with_len 0 (2 * n))

  pub task_names_are : task_names (model_of_words word n) ≡ map (numbered (codes "t")) (range_with_len 0 n)
  unfolding model_of_words generated_task
  task_names_are = map-map (λ task. task.name) (generated_task word) (range_with_len 0 n)

  pub chain_names_are : chain_names (model_of_words word n) ≡ map (λ c. numbered (codes "k") (4 * c)) (range_with_len 0 (n / 4))
  unfolding model_of_words generated_chain
  chain_names_are = map-map (λ chain. chain.name) generated_chain (range_with_len 0 (n / 4))

  -- the runnables of the first i tasks
  pub first_runnables : (i : ℕ) → i ≤ n → all_runnables (take i (model_of_words word n).tasks) ≡ map (generated_runnable word) (range_with_len 0 (2 * i))
  first_runnables i le = ap (λ ts. all_runnables (take i ts)) tasks_are
      ∙ ap all_runnables (take-map-range_with_len (generated_task word) 0 n i le) ∙ runnables_in_a_row word i 0

  pub runnables_are : all_runnables (model_of_words word n).tasks ≡ map (generated_runnable word) (range_with_len 0 (2 * n))
  runnables_are = ap all_runnables tasks_are ∙ runnables_in_a_row word n 0

  pub first_runnable_names : (i : ℕ) → i ≤ n → runnable_names (all_runnables (take i (model_of_words word n).tasks)) ≡ map runnable_name (range_with_len 0 (2 * i))
  first_runnable_names i le = ap runnable_names (first_runnables i le) ∙ names_in_a_row word (2 * i) 0

  pub runnable_names_are : runnable_names (all_runnables (model_of_words word n).tasks) ≡ map runnable_name (range_with_len 0 (2 * n))
  runnable_names_are = ap runnable_names runnables_are ∙ names_in_a_row word (2 * n) 0

  pub first_labels : (i : ℕ) → i ≤ n → labels_written (all_runnables (take i (model_of_words word n).tasks)) ≡ map label_name (range_with_len 0 (2 * i))
  first_labels i le = ap labels_written (first_runnables i le) ∙ written_in_a_row word (2 * i) 0
