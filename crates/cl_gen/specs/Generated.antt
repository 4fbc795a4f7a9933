-- Generated models: each is drawn with numbered words (`word` gives each its value), six words a task. Runnables and
-- labels are numbered over the whole model: task i has the runnables 2 * i and 2 * i + 1, and runnable k writes label k
-- and reads label k - 1.
use Rattle.std.specs.Prelude.{ℕ, zero, suc, ◌+◌, ◌-◌, ◌*◌, ◌/◌, ◌%◌, ◌==◌, false, if◌then◌else◌, None, List, [], ◌∷◌, ◌++◌, map, slice_index, codes, decimal}
use Rattle.std.specs.Int.{div_ceil}
use Rattle.std.specs.List.{range_with_len}
use Rattle.cl_model.specs.declared.{chain.ChainDef.ChainDef, model.{CoreDef.CoreDef, LabelDef.LabelDef, SystemModel.SystemModel}, stimulus.{StimulusDef.StimulusDef, StimulusKind.TheVariants.Periodic}, task.AccessKind.{AccessKind, TheVariants.{Explicit, Implicit, Timed}}}
use Rattle.cl_model.specs.declared.task.{RunnableDef.RunnableDef, TaskDef.TaskDef}
use Rattle.cl_gen.specs.Words.{word_of, draw}

-- ---- names

-- a letter and a number
abbrev pub numbered : (letter : List ℕ) → (n : ℕ) → List ℕ
numbered letter n = letter ++ decimal n

-- label k: `m` and the number of its task for the task's first runnable, `l` for its second
unfoldable pub label_name : (k : ℕ) → List ℕ
label_name k = numbered (if k % 2 == 0 then codes "m" else codes "l") (k / 2)

-- runnable k: `t`, the number of its task, and `a` or `b`
unfoldable pub runnable_name : (k : ℕ) → List ℕ
runnable_name k = numbered (codes "t") (k / 2) ++ (if k % 2 == 0 then codes "a" else codes "b")

-- ---- stimuli

-- the periods of the stimuli, in ticks
abbrev pub periods : List ℕ
periods = 1000 ∷ 2000 ∷ 5000 ∷ 10000 ∷ 20000 ∷ 50000 ∷ 100000 ∷ 200000 ∷ 1000000 ∷ []

-- stimulus e
unfoldable pub generated_stimulus : (e : ℕ) → StimulusDef
generated_stimulus e = record { name = numbered (codes "p") e; kind = Periodic (slice_index periods e) 0 0 }

-- the number of the stimulus of task i
unfoldable pub drawn_stimulus : (word : ℕ → ℕ) → (i : ℕ) → ℕ
drawn_stimulus word i = draw 0 8 (word (6 * i))

-- ---- runnables

-- the label that runnable k reads, if there is one
abbrev pub labels_read : (k : ℕ) → List (List ℕ)
labels_read zero = []
labels_read (suc k) = label_name k ∷ []

-- a runnable: its greatest time is drawn first, up to a 32nd of the period, and then its least
abbrev pub runnable_with : (period greatest_word least_word : ℕ) → (k : ℕ) → RunnableDef
runnable_with period greatest_word least_word k =
    let greatest = draw 1 (period / 32) greatest_word in
    record {
      name = runnable_name k;
      least = draw 1 greatest least_word;
      greatest = greatest;
      whole = false;
      reads = labels_read k;
      writes = label_name k ∷ [];
    }

-- runnable k: the first of a task takes the third and fourth of its words, the second the last two
unfoldable pub generated_runnable : (word : ℕ → ℕ) → (k : ℕ) → RunnableDef
generated_runnable word k =
    let n = 6 * (k / 2) + 2 + 2 * (k % 2) in
    runnable_with (slice_index periods (drawn_stimulus word (k / 2))) (word n) (word (n + 1)) k

-- ---- tasks

abbrev pub access_of : (number : ℕ) → AccessKind
access_of zero = Explicit
access_of (suc zero) = Implicit
access_of (suc (suc n)) = Timed

-- task i: a core has sixteen tasks, and those of shorter periods have higher priorities
unfoldable pub generated_task : (word : ℕ → ℕ) → (i : ℕ) → TaskDef
generated_task word i =
    let e = drawn_stimulus word i in
    record {
      name = numbered (codes "t") i;
      core = numbered (codes "c") (i / 16);
      stimulus = numbered (codes "p") e;
      priority = (8 - e) * 16 + (15 - i % 16);
      access = access_of (draw 0 2 (word (6 * i + 1)));
      deadline = None;
      runnables = generated_runnable word (2 * i) ∷ generated_runnable word (2 * i + 1) ∷ [];
    }

-- ---- chains

-- chain c: all runnables of the tasks 4 * c to 4 * c + 3
unfoldable pub generated_chain : (c : ℕ) → ChainDef
generated_chain c = record {
  name = numbered (codes "k") (4 * c);
  runnables = map runnable_name (range_with_len (8 * c) 8);
  labels = map label_name (range_with_len (8 * c) 7);
}

-- ---- the whole model

abbrev pub generated_core : (i : ℕ) → CoreDef
generated_core i = record { name = numbered (codes "c") i }

abbrev pub generated_label : (k : ℕ) → LabelDef
generated_label k = record { name = label_name k }

-- the model of so many tasks with these words
unfoldable pub model_of_words : (word : ℕ → ℕ) → (tasks : ℕ) → SystemModel
model_of_words word tasks = record {
  cores = map generated_core (range_with_len 0 (div_ceil tasks 16));
  stimuli = map generated_stimulus (range_with_len 0 9);
  labels = map generated_label (range_with_len 0 (2 * tasks));
  tasks = map (generated_task word) (range_with_len 0 tasks);
  chains = map generated_chain (range_with_len 0 (tasks / 4));
  requirements = [];
}

-- the model of so many tasks that the words of a seed draw
abbrev pub generated : (seed tasks : ℕ) → SystemModel
generated seed tasks = model_of_words (word_of seed) tasks
