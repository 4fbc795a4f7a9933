-- Models of the same names and labels are refused the same for their names, their chains and their requirements.
use Rattle.std.proofs.Common.{◌≡◌, ℕ, ◌<◌, Bool, not, ◌||◌, ◌+◌, List, [], ◌∷◌, ◌++◌, length, take, map, get_or, refl, sym, ap, ◌∙◌, arith}
use Rattle.std.specs.Prelude.{Option, Some, None, slice_get}
use Rattle.std.specs.Option.{option_map, option_and_then}
use Rattle.std.proofs.lemmas.List.{map-append, take-map, length-map, get_or-map}
use Rattle.std.proofs.lemmas.Option.{slice_get-map}
use Rattle.std.proofs.lemmas.Simd.{map-map}
use Rattle.cl_model.specs.{declared.{model.SystemModel.SystemModel, chain.{ChainDef.ChainDef, RequirementDef.RequirementDef}, refusal.{Refusal.Refusal, Code.TheVariants.{M20, M21, M22, M23, M24, M25, M26, M44, M45, M46}}, task.{RunnableDef.RunnableDef, TaskDef.TaskDef}}, ByNumber.no_task}
use Rattle.cl_model.specs.{ByNumber.no_chain, NamedAlike.{named_runnable, named_task, AreNamedAlike}, Named.{has_name, index_of, is_some_and, core_names, stimulus_names, label_names, task_names, chain_names, requirement_names, runnable_names, all_runnables, runnable_named, labels_written}}
use Rattle.cl_model.specs.{Place.{entry_of, at_key, at_sub, at_spot}, Refusals.{when, unless, in_order, each}, ValidNames.{section_repeats, repeats, runnable_repeats, name_checks}, Validity.{step_of, misses_label, lengths_check, step_check, hop_check, chain_check, requirement_check}}
use Rattle.cl_model.specs.declared.place.Part.TheVariants as part
use Rattle.cl_model.specs.declared.place.Key.TheVariants as key
use Rattle.cl_model.proofs.{EachFacts.each_alike, ListFacts.maps_agree}

-- ---- lists that a map makes equal

pub length_same : {X Y : Type 0} (f : X → Y) (xs ys : List X) → map f xs ≡ map f ys → length xs ≡ length ys
length_same f xs ys same = sym (length-map xs f) ∙ ap length same ∙ length-map ys f

pub take_same : {X Y : Type 0} (f : X → Y) (n : ℕ) (xs ys : List X) → map f xs ≡ map f ys → map f (take n xs) ≡ map f (take n ys)
take_same f n xs ys same = sym (take-map f n xs) ∙ ap (take n) same ∙ take-map f n ys

pub at_same : {X Y : Type 0} (f : X → Y) (xs ys : List X) (k : ℕ) (d : X) → map f xs ≡ map f ys → k < length xs → f (get_or xs k d) ≡ f (get_or ys k d)
at_same f xs ys k d same lt =
    sym (get_or-map f xs k d (f d) lt) ∙ ap (λ l. get_or l k (f d)) same ∙ get_or-map f ys k d (f d) (omega (arith, lt, length_same f xs ys same))

-- lists that one map makes equal are made equal by another that sees no more of the items
pub maps_through : {X Y Z : Type 0} (f : X → Z) (g : X → Y) (h : Y → Z) → ((x : X) → h (g x) ≡ f x) → (xs ys : List X) → map g xs ≡ map g ys → map f xs ≡ map f ys
maps_through f g h same xs ys alike =
    sym (map-map h g xs ∙ maps_agree (λ x. h (g x)) f same xs) ∙ ap (map h) alike ∙ map-map h g ys ∙ maps_agree (λ x. h (g x)) f same ys

-- ---- names and labels of lists of tasks and runnables

all_named : (tasks : List TaskDef) → all_runnables (map named_task tasks) ≡ map named_runnable (all_runnables tasks)
all_named [] = refl
all_named (t ∷ tasks) = ap (λ l. map named_runnable t.runnables ++ l) (all_named tasks) ∙ sym (map-append named_runnable t.runnables (all_runnables tasks))

written_named : (rs : List RunnableDef) → labels_written (map named_runnable rs) ≡ labels_written rs
written_named [] = refl
written_named (r ∷ rs) = ap (λ l. r.writes ++ l) (written_named rs)

-- ---- equal names and labels

pub runnables_same : (xs ys : List RunnableDef) → map named_runnable xs ≡ map named_runnable ys → runnable_names xs ≡ runnable_names ys
runnables_same = maps_through (λ (r : RunnableDef). r.name) named_runnable (λ (r : RunnableDef). r.name) (λ r. refl)

pub written_same : (xs ys : List RunnableDef) → map named_runnable xs ≡ map named_runnable ys → labels_written xs ≡ labels_written ys
written_same xs ys same = sym (written_named xs) ∙ ap labels_written same ∙ written_named ys

pub all_same : (xs ys : List TaskDef) → map named_task xs ≡ map named_task ys → map named_runnable (all_runnables xs) ≡ map named_runnable (all_runnables ys)
all_same xs ys same = sym (all_named xs) ∙ ap all_runnables same ∙ all_named ys

sections : (cores stimuli labels tasks : List (List ℕ)) → List Refusal → (chains requirements : List (List ℕ)) → List Refusal
sections cores stimuli labels tasks runnables chains requirements =
    in_order (section_repeats M20 part.Core cores ∷ section_repeats M21 part.Stimulus stimuli ∷ section_repeats M22 part.Label labels ∷ section_repeats M23 part.Task tasks
    ∷ runnables ∷ section_repeats M25 part.Chain chains ∷ section_repeats M26 part.Requirement requirements ∷ [])

sections_same : (c c' s s' l l' t t' : List (List ℕ)) (r r' : List Refusal) (h h' q q' : List (List ℕ)) → c ≡ c' → s ≡ s' → l ≡ l' → t ≡ t' → r ≡ r' → h ≡ h' → q ≡ q'
    → sections c s l t r h q ≡ sections c' s' l' t' r' h' q'
sections_same c c' s s' l l' t t' r r' h h' q q' e1 e2 e3 e4 e5 e6 e7 = cc

or_same : (a a' b b' : Bool) → a ≡ a' → b ≡ b' → (a || b) ≡ (a' || b')
or_same a a' b b' e f = cc

three_same : (a b b' c c' : List Refusal) → b ≡ b' → c ≡ c' → in_order (a ∷ b ∷ c ∷ []) ≡ in_order (a ∷ b' ∷ c' ∷ [])
three_same a b b' c c' e f = cc

found_named : (m : SystemModel) (name : List ℕ) → option_map named_runnable (runnable_named m name) ≡ option_and_then (slice_get (map named_runnable (all_runnables m.tasks))) (index_of name (runnable_names (all_runnables m.tasks)))
found_named m name = by (index_of name (runnable_names (all_runnables m.tasks)))
  where
    by : (o : Option ℕ) → option_map named_runnable (option_and_then (slice_get (all_runnables m.tasks)) o) ≡ option_and_then (slice_get (map named_runnable (all_runnables m.tasks))) o
    by None = refl
    by (Some k) = sym (slice_get-map named_runnable (all_runnables m.tasks) k)

writes_named : (label : List ℕ) (o : Option RunnableDef) → is_some_and o (λ writer. not (has_name label writer.writes)) ≡ is_some_and (option_map named_runnable o) (λ writer. not (has_name label writer.writes))
writes_named label None = refl
writes_named label (Some r) = refl

reads_named : (label : List ℕ) (o : Option RunnableDef) → is_some_and o (λ reader. not (has_name label reader.reads)) ≡ is_some_and (option_map named_runnable o) (λ reader. not (has_name label reader.reads))
reads_named label None = refl
reads_named label (Some r) = refl

writer_named : (label : List ℕ) (o p : Option RunnableDef) → option_map named_runnable o ≡ option_map named_runnable p
    → is_some_and o (λ writer. not (has_name label writer.writes)) ≡ is_some_and p (λ writer. not (has_name label writer.writes))
writer_named label o p same = writes_named label o ∙ ap (λ x. is_some_and x (λ (writer : RunnableDef). not (has_name label writer.writes))) same ∙ sym (writes_named label p)

reader_named : (label : List ℕ) (o p : Option RunnableDef) → option_map named_runnable o ≡ option_map named_runnable p
    → is_some_and o (λ reader. not (has_name label reader.reads)) ≡ is_some_and p (λ reader. not (has_name label reader.reads))
reader_named label o p same = reads_named label o ∙ ap (λ x. is_some_and x (λ (reader : RunnableDef). not (has_name label reader.reads))) same ∙ sym (reads_named label p)

module _ (old new : SystemModel) (alike : AreNamedAlike old new) where
  pub tasks_long : length new.tasks ≡ length old.tasks
  tasks_long = length_same named_task new.tasks old.tasks alike.tasks

  -- the runnables of the first tasks
  pub first_runnables : (n : ℕ) → map named_runnable (all_runnables (take n new.tasks)) ≡ map named_runnable (all_runnables (take n old.tasks))
  first_runnables n = all_same (take n new.tasks) (take n old.tasks) (take_same named_task n new.tasks old.tasks alike.tasks)

  pub every_runnable : map named_runnable (all_runnables new.tasks) ≡ map named_runnable (all_runnables old.tasks)
  every_runnable = all_same new.tasks old.tasks alike.tasks

  pub own_same : (k : ℕ) (d : TaskDef) → k < length new.tasks → named_task (get_or new.tasks k d) ≡ named_task (get_or old.tasks k d)
  own_same k d lt = at_same named_task new.tasks old.tasks k d alike.tasks lt

  -- ---- M20 to M26

  own_runnables : (k : ℕ) → k < length new.tasks → runnable_repeats new.tasks k (get_or new.tasks k no_task) ≡ runnable_repeats old.tasks k (get_or old.tasks k no_task)
  own_runnables k lt =
      let own : map named_runnable (get_or new.tasks k no_task).runnables ≡ map named_runnable (get_or old.tasks k no_task).runnables = ap (λ (t : TaskDef). t.runnables) (own_same k no_task lt) in
      ap (λ names. repeats M24 (λ p. at_key key.Name (at_sub p (entry_of part.Task k))) names (runnable_names (get_or new.tasks k no_task).runnables))
      (runnables_same (all_runnables (take k new.tasks)) (all_runnables (take k old.tasks)) (first_runnables k))
      ∙ ap (λ names. repeats M24 (λ p. at_key key.Name (at_sub p (entry_of part.Task k))) (runnable_names (all_runnables (take k old.tasks))) names)
      (runnables_same (get_or new.tasks k no_task).runnables (get_or old.tasks k no_task).runnables own)

  pub names_stay : name_checks new ≡ name_checks old
  unfolding name_checks sections
  names_stay =
      let tasks : task_names new ≡ task_names old = maps_through (λ (t : TaskDef). t.name) named_task (λ (t : TaskDef). t.name) (λ t. refl) new.tasks old.tasks alike.tasks in
      let runnables : each (runnable_repeats new.tasks) new.tasks ≡ each (runnable_repeats old.tasks) old.tasks
      = each_alike (runnable_repeats new.tasks) (runnable_repeats old.tasks) new.tasks old.tasks no_task no_task tasks_long own_runnables in
      sections_same (core_names new) (core_names old) (stimulus_names new) (stimulus_names old) (label_names new) (label_names old) (task_names new) (task_names old)
      (each (runnable_repeats new.tasks) new.tasks) (each (runnable_repeats old.tasks) old.tasks) (chain_names new) (chain_names old) (requirement_names new) (requirement_names old)
      (ap (map (λ core. core.name)) alike.cores) alike.stimuli (ap (map (λ label. label.name)) alike.labels) tasks runnables (ap (map (λ chain. chain.name)) alike.chains) (ap (map (λ requirement. requirement.name)) alike.requirements)

  -- ---- M43 to M46

  known_names : runnable_names (all_runnables new.tasks) ≡ runnable_names (all_runnables old.tasks)
  known_names = runnables_same (all_runnables new.tasks) (all_runnables old.tasks) every_runnable

  named_same : (name : List ℕ) → option_map named_runnable (runnable_named new name) ≡ option_map named_runnable (runnable_named old name)
  named_same name =
      found_named new name ∙ ap (λ rs. option_and_then (slice_get rs) (index_of name (runnable_names (all_runnables new.tasks)))) every_runnable
      ∙ ap (λ names. option_and_then (slice_get (map named_runnable (all_runnables old.tasks))) (index_of name names)) known_names ∙ sym (found_named old name)

  step_same_of : (o : Option (List ℕ)) → option_map named_runnable (option_and_then (runnable_named new) o) ≡ option_map named_runnable (option_and_then (runnable_named old) o)
  step_same_of None = refl
  step_same_of (Some name) = named_same name

  misses_same : (chain : ChainDef) (k : ℕ) (label : List ℕ) → misses_label new chain k label ≡ misses_label old chain k label
  misses_same chain k label =
      or_same _ _ _ _ (writer_named label (step_of new chain k) (step_of old chain k) (step_same_of (slice_get chain.runnables k)))
      (reader_named label (step_of new chain (k + 1)) (step_of old chain (k + 1)) (step_same_of (slice_get chain.runnables (k + 1))))

  chain_same : (i : ℕ) (chain : ChainDef) → chain_check new i chain ≡ chain_check old i chain
  unfolding chain_check
  chain_same i chain =
      let steps = at_key key.Runnables (entry_of part.Chain i) in
      let labels = at_key key.Labels (entry_of part.Chain i) in
      three_same (lengths_check i chain) _ _ _ _
      (each_alike (step_check new steps) (step_check old steps) chain.runnables chain.runnables [] [] refl (λ k lt. ap (λ names. unless (has_name (get_or chain.runnables k []) names) M44 (at_spot k steps)) known_names))
      (each_alike (hop_check new chain labels) (hop_check old chain labels) chain.labels chain.labels [] [] refl (λ k lt. ap (λ b. when b M45 (at_spot k labels)) (misses_same chain k (get_or chain.labels k []))))

  pub chains_stay : each (chain_check new) new.chains ≡ each (chain_check old) old.chains
  chains_stay =
      each_alike (chain_check new) (chain_check old) new.chains old.chains no_chain no_chain (ap length alike.chains)
      (λ k lt. chain_same k (get_or new.chains k no_chain) ∙ ap (λ chains. chain_check old k (get_or chains k no_chain)) alike.chains)

  pub requirements_stay : each (requirement_check new) new.requirements ≡ each (requirement_check old) old.requirements
  requirements_stay =
      ap (λ chains. each (λ i (r : RequirementDef). unless (has_name r.chain (map (λ chain. chain.name) chains)) M46 (at_key key.Chain (entry_of part.Requirement i))) new.requirements) alike.chains
      ∙ ap (each (requirement_check old)) alike.requirements
