-- What is printed of a model is a text of its document.
use Rattle.std.proofs.Common.{◌≡◌, ℕ, ◌≤◌, Bool, true, false, List, [], ◌∷◌, ◌++◌, get_or, flat_map, All, codes, refl, subst, arith}
use Rattle.std.specs.List.{AllByRecursion, concat}
use Rattle.std.proofs.lemmas.List.{append-nil}
use Rattle.std.proofs.lemmas.List.Elements.{recursion_from_All}
use Rattle.toml_writer.specs.Text as written
use Rattle.toml.specs.{Tables.{key_value, std_table, array_table, Expression}, Text.{pairs, sections, expressions, IsLinesText, IsDocumentText}}
use Rattle.cl_model.specs.declared.{limits.TheConstants.MOST_REQUIRED, chain.{ChainDef.ChainDef, RequirementDef.RequirementDef}, model.{CoreDef.CoreDef, LabelDef.LabelDef, SystemModel.SystemModel}, stimulus.StimulusKind.{StimulusKind, TheVariants.{Periodic, Sporadic, Burst}}}
use Rattle.cl_model.specs.{declared.task.{RunnableDef.RunnableDef, TaskDef.TaskDef}, AreNamed.{IsRunnableNamed, IsTaskNamed, IsChainNamed, IsRequirementNamed, AreNamed}, Kinds.{access_word, requirement_word}, Name.IsName, Place.key_text, Ranges.{IsKindInRange, IsRunnableInRange}}
use Rattle.cl_model.specs.Ranges.{IsTaskInRange, IsInRange}
use Rattle.cl_model.specs.declared.place.Key.TheVariants as key
use Rattle.cl_write.specs.{Entries.members_with, Inner.{Lines.{word_line, number_line, number_line_if, line_unless_zero, line_when_true, words_line_if}, Printed.{core_lines, lines_of_label, lines_of_kind, lines_of_runnable, lines_of_task, lines_of_chain, lines_of_requirement, core_text}}}
use Rattle.cl_write.specs.{Inner.Printed.{label_text, stimulus_text, runnable_text, task_text, chain_text, requirement_text, lines_of_model, model_sections, model_text}, Writing.{version_for, core_table_entries, label_entries, stimulus_entries, runnable_entries, task_entries}}
use Rattle.cl_write.specs.Writing.{chain_entries, requirement_entries, model_entries, document}
use Rattle.cl_write.proofs.{PlainModel.{access_plain, requirement_word_plain, deadline_plain, version_is_small}, PrintedLines.{AreLines, IsBody, table_lines, flat_table_lines, word_printed, number_printed, number_if_printed, unless_zero_printed, when_true_printed, names_printed}}
use Rattle.cl_write.proofs.{PrintedLines.{tables_printed, no_pair}, Sorted.in_order}

-- the same of all items, the way that the lemmas on lines take it
each : {X : Type 0} (P : X → Type 0) (xs : List X) → All P xs → AllByRecursion P xs
each P xs all = recursion_from_All P xs all

-- ---- the lines of a table

module _ (path : List (List ℕ)) where
  core_printed : (c : CoreDef) → IsName c.name → IsBody core_table_entries (λ c. concat (core_lines c)) path c
  core_printed c named = flat_table_lines path (core_table_entries c) ((word_line key.Name c.name, []) ∷ []) refl refl (word_printed path key.Name c.name named, tt)

  label_printed : (l : LabelDef) → IsName l.name → IsBody label_entries (λ l. concat (lines_of_label l)) path l
  label_printed l named = flat_table_lines path (label_entries l) ((word_line key.Name l.name, []) ∷ []) refl refl (word_printed path key.Name l.name named, tt)

  kind_printed : (name : List ℕ) (kind : StimulusKind) → IsName name → IsKindInRange kind
      → IsBody stimulus_entries (λ s. concat (lines_of_kind s.name s.kind)) path (record { name = name; kind = kind })
  kind_printed name (Periodic period offset jitter) named in_range =
      flat_table_lines path (stimulus_entries (record { name = name; kind = Periodic period offset jitter }))
      ((line_unless_zero key.Jitter jitter, [])
      ∷ (word_line key.Kind (codes "periodic"), [])
      ∷ (word_line key.Name name, [])
      ∷ (line_unless_zero key.Offset offset, [])
      ∷ (number_line key.Period period, [])
      ∷ [])
      refl refl (
        unless_zero_printed path key.Jitter jitter (omega (arith, in_range.2)),
        (
          word_printed path key.Kind (codes "periodic") refl,
          (
            word_printed path key.Name name named,
            (
              unless_zero_printed path key.Offset offset (omega (arith, in_range.1)),
              (number_printed path key.Period period (omega (arith, in_range.0.1)), tt),
            ),
          ),
        ),
      )
  kind_printed name (Sporadic least greatest) named in_range =
      flat_table_lines path (stimulus_entries (record { name = name; kind = Sporadic least greatest }))
      ((number_line key.Greatest greatest, [])
      ∷ (word_line key.Kind (codes "sporadic"), [])
      ∷ (number_line key.Least least, [])
      ∷ (word_line key.Name name, [])
      ∷ [])
      refl refl (
        number_printed path key.Greatest greatest (omega (arith, in_range.1.1)),
        (
          word_printed path key.Kind (codes "sporadic") refl,
          (
            number_printed path key.Least least (omega (arith, in_range.0.1)),
            (word_printed path key.Name name named, tt),
          ),
        ),
      )
  kind_printed name (Burst period offset count distance) named in_range =
      flat_table_lines path (stimulus_entries (record { name = name; kind = Burst period offset count distance }))
      ((number_line key.Count count, [])
      ∷ (number_line key.Distance distance, [])
      ∷ (word_line key.Kind (codes "burst"), [])
      ∷ (word_line key.Name name, [])
      ∷ (line_unless_zero key.Offset offset, [])
      ∷ (number_line key.Period period, [])
      ∷ [])
      refl refl (
        number_printed path key.Count count (omega (arith, in_range.2.1)),
        (
          number_printed path key.Distance distance (omega (arith, in_range.3.1)),
          (
            word_printed path key.Kind (codes "burst") refl,
            (
              word_printed path key.Name name named,
              (
                unless_zero_printed path key.Offset offset (omega (arith, in_range.1)),
                (number_printed path key.Period period (omega (arith, in_range.0.1)), tt),
              ),
            ),
          ),
        ),
      )

  runnable_printed : (r : RunnableDef) → IsRunnableInRange r → IsRunnableNamed r → IsBody runnable_entries (λ r. concat (lines_of_runnable r)) path r
  runnable_printed r in_range named =
      flat_table_lines path (runnable_entries r)
      ((number_line key.Greatest r.greatest, [])
      ∷ (number_line key.Least r.least, [])
      ∷ (word_line key.Name r.name, [])
      ∷ (words_line_if key.Reads r.reads, [])
      ∷ (line_when_true key.Whole r.whole, [])
      ∷ (words_line_if key.Writes r.writes, [])
      ∷ [])
      refl refl (
        number_printed path key.Greatest r.greatest (omega (arith, in_range.greatest.1)),
        (
          number_printed path key.Least r.least (omega (arith, in_range.least.1)),
          (
            word_printed path key.Name r.name named.name,
            (
              names_printed path key.Reads r.reads (each IsName r.reads named.reads),
              (
                when_true_printed path key.Whole r.whole,
                (names_printed path key.Writes r.writes (each IsName r.writes named.writes), tt),
              ),
            ),
          ),
        ),
      )

  chain_printed : (c : ChainDef) → IsChainNamed c → IsBody chain_entries (λ c. concat (lines_of_chain c)) path c
  chain_printed c named =
      flat_table_lines path (chain_entries c)
      ((words_line_if key.Labels c.labels, []) ∷ (word_line key.Name c.name, []) ∷ (words_line_if key.Runnables c.runnables, []) ∷ [])
      refl refl (
        names_printed path key.Labels c.labels (each IsName c.labels named.labels),
        (
          word_printed path key.Name c.name named.name,
          (names_printed path key.Runnables c.runnables (each IsName c.runnables named.runnables), tt),
        ),
      )

  requirement_printed : (r : RequirementDef) → r.most ≤ MOST_REQUIRED → IsRequirementNamed r → IsBody requirement_entries (λ r. concat (lines_of_requirement r)) path r
  requirement_printed r most named =
      flat_table_lines path (requirement_entries r)
      ((word_line key.Chain r.chain, [])
      ∷ (word_line key.Kind (requirement_word r.kind), [])
      ∷ (number_line key.Most r.most, [])
      ∷ (word_line key.Name r.name, [])
      ∷ [])
      refl refl (
        word_printed path key.Chain r.chain named.chain,
        (
          word_printed path key.Kind (requirement_word r.kind) (requirement_word_plain r.kind),
          (
            number_printed path key.Most r.most most,
            (word_printed path key.Name r.name named.name, tt),
          ),
        ),
      )

-- ---- tasks, with their runnables under headers

-- where tasks stand
abbrev task_path : List (List ℕ)
task_path = codes "task" ∷ []

task_printed : (t : TaskDef) → IsTaskInRange t → IsTaskNamed t → IsBody task_entries (λ t. concat (lines_of_task t) ++ flat_map runnable_text t.runnables) task_path t
unfolding written.key_text
task_printed t in_range named =
    let runnables : List ℕ = flat_map runnable_text t.runnables in
    let texts : List (List ℕ × List ℕ) =
    (word_line key.Access (access_word t.access), [])
    ∷ (word_line key.Core t.core, [])
    ∷ (number_line_if key.Deadline t.deadline, [])
    ∷ (word_line key.Name t.name, [])
    ∷ (number_line key.Priority t.priority, [])
    ∷ ([], runnables)
    ∷ (word_line key.Stimulus t.stimulus, [])
    ∷ [] in
    subst (λ (after : List ℕ). AreLines (pairs (members_with (task_entries t)) ++ sections task_path (members_with (task_entries t))) (concat (lines_of_task t) ++ after)) (append-nil runnables)
    (table_lines task_path (task_entries t) texts refl (
      word_printed task_path key.Access (access_word t.access) (access_plain t.access),
      (
        word_printed task_path key.Core t.core named.core,
        (
          number_if_printed task_path key.Deadline t.deadline (deadline_plain t.deadline in_range.deadline),
          (
            word_printed task_path key.Name t.name named.name,
            (
              number_printed task_path key.Priority t.priority (omega (arith, in_range.priority)),
              (
                tables_printed runnable_entries (λ r. concat (lines_of_runnable r)) task_path key.Runnable (codes "\n[[task.runnable]]\n") refl t.runnables
                    (each _ t.runnables (λ k d lt. runnable_printed (task_path ++ key_text key.Runnable ∷ []) (get_or t.runnables k d) (in_range.runnables k d lt) (named.runnables k d lt))),
                (word_printed task_path key.Stimulus t.stimulus named.stimulus, tt),
              ),
            ),
          ),
        ),
      ),
    ))

-- ---- the whole document

-- the first line is that of a key
abbrev begins_with_pair : List Expression → Bool
begins_with_pair [] = true
begins_with_pair ((k, key_value d) ∷ es) = true
begins_with_pair ((k, std_table) ∷ es) = false
begins_with_pair ((k, array_table) ∷ es) = false

-- then it needs no empty line before it
at_start : (es : List Expression) (text : List ℕ) → begins_with_pair es ≡ true → AreLines es text → IsLinesText false false es text
at_start [] text begins are = are
at_start ((k, key_value d) ∷ es) text begins are = are
at_start ((k, std_table) ∷ es) text begins are = absurd cc
at_start ((k, array_table) ∷ es) text begins are = absurd cc

model_begins : (m : SystemModel) → begins_with_pair (expressions (members_with (model_entries m))) ≡ true
model_begins m =
    rw (in_order (model_entries m) [] refl, no_pair chain_entries (λ c. concat (lines_of_chain c)) key.Chain m.chains _, no_pair core_table_entries (λ c. concat (core_lines c)) key.Core m.cores _) refl

module _ (m : SystemModel) (in_range : IsInRange m) (named : AreNamed m) where
  model_printed : AreLines (expressions (members_with (model_entries m))) (concat (lines_of_model m) ++ concat (model_sections m))
  unfolding written.key_text
  model_printed = table_lines [] (model_entries m)
      (([], flat_map chain_text m.chains)
      ∷ ([], flat_map core_text m.cores)
      ∷ (word_line key.Format (codes "chainlat"), [])
      ∷ ([], flat_map label_text m.labels)
      ∷ ([], flat_map requirement_text m.requirements)
      ∷ ([], flat_map stimulus_text m.stimuli)
      ∷ ([], flat_map task_text m.tasks)
      ∷ (number_line key.Version (version_for m), [])
      ∷ [])
      refl (
        tables_printed chain_entries (λ c. concat (lines_of_chain c)) [] key.Chain (codes "\n[[chain]]\n") refl m.chains
            (each _ m.chains (λ k d lt. chain_printed (key_text key.Chain ∷ []) (get_or m.chains k d) (named.chains k d lt))),
        (
          tables_printed core_table_entries (λ c. concat (core_lines c)) [] key.Core (codes "\n[[core]]\n") refl m.cores
              (each _ m.cores (λ k d lt. core_printed (key_text key.Core ∷ []) (get_or m.cores k d) (named.cores k d lt))),
          (
            word_printed [] key.Format (codes "chainlat") refl,
            (
              tables_printed label_entries (λ l. concat (lines_of_label l)) [] key.Label (codes "\n[[label]]\n") refl m.labels
                  (each _ m.labels (λ k d lt. label_printed (key_text key.Label ∷ []) (get_or m.labels k d) (named.labels k d lt))),
              (
                tables_printed requirement_entries (λ r. concat (lines_of_requirement r)) [] key.Requirement (codes "\n[[requirement]]\n") refl m.requirements
                    (each _ m.requirements (λ k d lt. requirement_printed (key_text key.Requirement ∷ []) (get_or m.requirements k d) (in_range.requirements k d lt) (named.requirements k d lt))),
                (
                  tables_printed stimulus_entries (λ s. concat (lines_of_kind s.name s.kind)) [] key.Stimulus (codes "\n[[stimulus]]\n") refl m.stimuli
                      (each _ m.stimuli (λ k d lt. kind_printed (key_text key.Stimulus ∷ []) (get_or m.stimuli k d).name (get_or m.stimuli k d).kind (named.stimuli k d lt) (in_range.stimuli k d lt))),
                  (
                    tables_printed task_entries (λ t. concat (lines_of_task t) ++ flat_map runnable_text t.runnables) [] key.Task (codes "\n[[task]]\n") refl m.tasks
                        (each _ m.tasks (λ k d lt. task_printed (get_or m.tasks k d) (in_range.tasks k d lt) (named.tasks k d lt))),
                    (number_printed [] key.Version (version_for m) (version_is_small m), tt),
                  ),
                ),
              ),
            ),
          ),
        ),
      )

  -- what is printed is a text of the document
  pub is_document_text : IsDocumentText false (document m) (model_text m)
  unfolding document model_text
  is_document_text = at_start (expressions (members_with (model_entries m))) (concat (lines_of_model m) ++ concat (model_sections m)) (model_begins m) model_printed
