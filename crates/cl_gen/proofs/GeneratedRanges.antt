-- The counts and the numbers of a generated model are in range, and its names are names.
use Rattle.std.proofs.Common.{◌≡◌, ℕ, zero, suc, ◌+◌, ◌*◌, ◌/◌, ◌%◌, ◌<◌, ◌≤◌, ◌^◌, true, List, [], ◌∷◌, ◌++◌, length, map, refl, sym, subst, arith, append_assoc}
use Rattle.std.specs.Prelude.{codes, All, ◌==◌, decimal, slice_index}
use Rattle.std.specs.Int.{div_ceil}
use Rattle.std.specs.List.{range_with_len, list_all}
use Rattle.std.proofs.lemmas.Bool.{cond_both}
use Rattle.std.proofs.lemmas.List.{append-nil}
use Rattle.std.proofs.lemmas.List.Elements.{All-cons}
use Rattle.std.proofs.lemmas.List.FromFn.{get_or-map-range_with_len, length-map-range_with_len}
use Rattle.cl_model.specs.{declared.{limits.TheConstants.{MOST_TASKS, MOST_REQUIRED}, chain.RequirementDef.RequirementDef, model.{CoreDef.CoreDef, LabelDef.LabelDef}, stimulus.StimulusDef.StimulusDef}, AreNamed.{IsRunnableNamed, IsTaskNamed, IsChainNamed, IsRequirementNamed, AreNamed}}
use Rattle.cl_model.specs.{Name.{is_name_byte, IsName}, Ranges.{IsKindInRange, IsRunnableInRange, IsTaskInRange, IsChainInRange, IsInRange}}
use Rattle.cl_gen.specs.{Words.draw, Generated.{numbered, label_name, runnable_name, labels_read, periods, drawn_stimulus, generated_core, generated_stimulus, generated_label, generated_runnable, generated_task, generated_chain, model_of_words}}
use Rattle.cl_gen.proofs.{GeneratedNames.spelled_name, GeneratedSections.{few_cores, period_least, period_greatest}, GeneratedTasks.stimulus_below, Words.{draw_least, draw_greatest}}

-- what holds of each number in a row holds of each element that is mapped over them
all_mapped : {X : Type 0} (P : X → Type 0) (f : ℕ → X) (a n : ℕ) → ((i : ℕ) → a ≤ i → i < a + n → P (f i)) → All P (map f (range_with_len a n))
all_mapped P f a n each k d lt =
    let below : k < n = omega (arith, lt, length-map-range_with_len f a n) in
    subst P (sym (get_or-map-range_with_len f a n k (a + k) d below refl)) (each (a + k) (omega arith) (omega arith))

all_none : {X : Type 0} (P : X → Type 0) → All P []
all_none P k d lt = absurd (omega arith)

all_one : {X : Type 0} (P : X → Type 0) (x : X) → P x → All P (x ∷ [])
all_one P x holds = All-cons P x [] holds (all_none P)

-- ---- ranges

runnable_in_range : (word : ℕ → ℕ) (k : ℕ) → IsRunnableInRange (generated_runnable word k)
unfolding generated_runnable
runnable_in_range word k =
    let period = slice_index periods (drawn_stimulus word (k / 2)) in
    let first = word (6 * (k / 2) + 2 + 2 * (k % 2)) in
    let second = word (6 * (k / 2) + 2 + 2 * (k % 2) + 1) in
    let long = period_least (drawn_stimulus word (k / 2)) (stimulus_below word (k / 2)) in
    let short = period_greatest (drawn_stimulus word (k / 2)) (stimulus_below word (k / 2)) in
    let some : 1 ≤ draw 1 (period / 32) first = draw_least 1 (period / 32) first in
    let few : draw 1 (period / 32) first ≤ 1000000 = omega (arith, short, long, draw_greatest 1 (period / 32) first (omega (arith, long))) in
    record {
      least = (draw_least 1 (draw 1 (period / 32) first) second, omega (arith, few, draw_greatest 1 (draw 1 (period / 32) first) second some));
      greatest = (some, omega (arith, few));
      reads = few_reads k;
      writes = omega arith;
    }
  where
    few_reads : (k : ℕ) → length (labels_read k) ≤ 256
    few_reads zero = omega arith
    few_reads (suc k) = omega arith

task_in_range : (word : ℕ → ℕ) (i : ℕ) → IsTaskInRange (generated_task word i)
unfolding generated_task
task_in_range word i = record {
  priority = omega arith;
  deadline = tt;
  count = omega arith;
  runnables = All-cons IsRunnableInRange (generated_runnable word (2 * i)) (generated_runnable word (2 * i + 1) ∷ []) (runnable_in_range word (2 * i))
      (all_one IsRunnableInRange (generated_runnable word (2 * i + 1)) (runnable_in_range word (2 * i + 1)));
}

chain_in_range : (c : ℕ) → IsChainInRange (generated_chain c)
unfolding generated_chain
chain_in_range c = record { runnables = omega arith; labels = omega arith }

pub in_range : (word : ℕ → ℕ) (n : ℕ) → n ≤ MOST_TASKS → IsInRange (model_of_words word n)
unfolding model_of_words generated_stimulus
in_range word n few = record {
  counts = record {
    cores = omega (arith, length-map-range_with_len generated_core 0 (div_ceil n 16), few_cores n few);
    stimuli = omega arith;
    labels = omega (arith, length-map-range_with_len generated_label 0 (2 * n));
    tasks = omega (arith, length-map-range_with_len (generated_task word) 0 n);
    chains = omega (arith, length-map-range_with_len generated_chain 0 (n / 4));
    requirements = omega arith;
  };
  stimuli = all_mapped (λ (s : StimulusDef). IsKindInRange s.kind) generated_stimulus 0 9
      (λ e from lt. ((omega (arith, period_least e lt), omega (arith, period_greatest e lt)), omega arith, omega arith));
  tasks = all_mapped IsTaskInRange (generated_task word) 0 n (λ i from lt. task_in_range word i);
  chains = all_mapped IsChainInRange generated_chain 0 (n / 4) (λ c from lt. chain_in_range c);
  requirements = all_none (λ (r : RequirementDef). r.most ≤ MOST_REQUIRED);
}

-- ---- names

is_numbered : (letter : List ℕ) (n : ℕ) → list_all is_name_byte letter ≡ true → length letter ≤ 2 → n < 2 ^ 64 → IsName (numbered letter n)
is_numbered letter n of_letter short fits =
    subst (λ rest. IsName (letter ++ rest)) (append-nil (decimal n)) (spelled_name letter [] n of_letter refl (omega arith) fits)

label_named : (k : ℕ) → k < 2 ^ 64 → IsName (label_name k)
unfolding label_name
label_named k fits = cond_both (k % 2 == 0) (codes "m") (codes "l") (λ letter. IsName (numbered letter (k / 2)))
    (λ even. is_numbered (codes "m") (k / 2) refl (omega arith) (omega arith)) (λ odd. is_numbered (codes "l") (k / 2) refl (omega arith) (omega arith))

runnable_named : (k : ℕ) → k < 2 ^ 64 → IsName (runnable_name k)
unfolding runnable_name
runnable_named k fits = cond_both (k % 2 == 0) (codes "a") (codes "b") (λ letter. IsName (numbered (codes "t") (k / 2) ++ letter))
    (λ even. with_letter (codes "a") refl (omega arith)) (λ odd. with_letter (codes "b") refl (omega arith))
  where
    with_letter : (letter : List ℕ) → list_all is_name_byte letter ≡ true → length letter ≤ 1 → IsName (numbered (codes "t") (k / 2) ++ letter)
    with_letter letter of_letter short = subst IsName (sym (append_assoc (codes "t") (decimal (k / 2)) letter))
        (spelled_name (codes "t") letter (k / 2) refl of_letter (omega arith) (omega arith))

body_named : (word : ℕ → ℕ) (k : ℕ) → k < 2 ^ 64 → IsRunnableNamed (generated_runnable word k)
unfolding generated_runnable
body_named word k fits = record {
  name = runnable_named k fits;
  reads = reads_named k fits;
  writes = all_one IsName (label_name k) (label_named k fits);
}
  where
    reads_named : (k : ℕ) → k < 2 ^ 64 → All IsName (labels_read k)
    reads_named zero fits = all_none IsName
    reads_named (suc k) fits = all_one IsName (label_name k) (label_named k (omega arith))

task_named : (word : ℕ → ℕ) (i : ℕ) → i < 2 ^ 32 → IsTaskNamed (generated_task word i)
unfolding generated_task
task_named word i fits = record {
  name = is_numbered (codes "t") i refl (omega arith) (omega arith);
  core = is_numbered (codes "c") (i / 16) refl (omega arith) (omega arith);
  stimulus = is_numbered (codes "p") (drawn_stimulus word i) refl (omega arith) (omega (arith, stimulus_below word i));
  runnables = All-cons IsRunnableNamed (generated_runnable word (2 * i)) (generated_runnable word (2 * i + 1) ∷ []) (body_named word (2 * i) (omega arith))
      (all_one IsRunnableNamed (generated_runnable word (2 * i + 1)) (body_named word (2 * i + 1) (omega arith)));
}

chain_named : (c : ℕ) → c < 2 ^ 32 → IsChainNamed (generated_chain c)
unfolding generated_chain
chain_named c fits = record {
  name = is_numbered (codes "k") (4 * c) refl (omega arith) (omega arith);
  runnables = all_mapped IsName runnable_name (8 * c) 8 (λ k from lt. runnable_named k (omega arith));
  labels = all_mapped IsName label_name (8 * c) 7 (λ k from lt. label_named k (omega arith));
}

pub are_named : (word : ℕ → ℕ) (n : ℕ) → n ≤ MOST_TASKS → AreNamed (model_of_words word n)
unfolding model_of_words generated_stimulus
are_named word n few = record {
  cores = all_mapped (λ (core : CoreDef). IsName core.name) generated_core 0 (div_ceil n 16)
      (λ i from lt. is_numbered (codes "c") i refl (omega arith) (omega (arith, lt, few_cores n few)));
  stimuli = all_mapped (λ (s : StimulusDef). IsName s.name) generated_stimulus 0 9 (λ e from lt. is_numbered (codes "p") e refl (omega arith) (omega arith));
  labels = all_mapped (λ (l : LabelDef). IsName l.name) generated_label 0 (2 * n) (λ k from lt. label_named k (omega arith));
  tasks = all_mapped IsTaskNamed (generated_task word) 0 n (λ i from lt. task_named word i (omega arith));
  chains = all_mapped IsChainNamed generated_chain 0 (n / 4) (λ c from lt. chain_named c (omega arith));
  requirements = all_none IsRequirementNamed;
}
