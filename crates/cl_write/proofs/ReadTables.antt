-- Each table that is written passes the checks of its kind and means what was written.
use Rattle.std.proofs.Common.{◌≡◌, ℕ, ◌≤◌, true, leb, List, [], ◌∷◌, ◌++◌, length, get_or, map, All, Option, Some, None, refl, ap, ◌∙◌, arith}
use Rattle.std.specs.Prelude.{unwrap_or}
use Rattle.std.specs.List.{AllByRecursion}
use Rattle.toml.specs.Data.{string, table}
use Rattle.cl_model.specs.declared.{limits.TheConstants.{MOST_TICKS, MOST_REQUIRED, MOST_PRIORITY, MOST_RUNNABLES, MOST_ACCESSES, MOST_STEPS, MOST_HOPS, LEAST_JOBS_OF_BURST, MOST_JOBS_OF_BURST}, chain.{ChainDef.ChainDef, LengthKind.TheVariants.{Reaction, Age, Reduced}}}
use Rattle.cl_model.specs.declared.{chain.{RequirementDef.RequirementDef, RequirementKind.{RequirementKind, TheVariants.{Length, Delay}}}, model.{CoreDef.CoreDef, LabelDef.LabelDef}, place.{Key.Key, Place.Place}, stimulus.{StimulusDef.StimulusDef, StimulusKind.StimulusKind}}
use Rattle.cl_model.specs.{declared.{stimulus.StimulusKind.TheVariants.{Periodic, Sporadic, Burst}, task.{AccessKind.{AccessKind, TheVariants.{Explicit, Implicit, Timed}}, RunnableDef.RunnableDef, TaskDef.TaskDef}}, AreNamed.{IsRunnableNamed, IsTaskNamed, IsChainNamed, IsRequirementNamed}}
use Rattle.cl_model.specs.{Name.IsName, Place.{at_key, at_sub, at_spot}, Ranges.{IsKindInRange, IsRunnableInRange, IsTaskInRange, IsChainInRange}, Reading.{Checks.{a_name, a_word, a_table_of, field_checks, fields_checks, keys_of, found_or, meaning_of, names, value_at}, Meanings.text_in}}
use Rattle.cl_model.specs.Reading.{Meanings.{list_of, table_of, word_if}, Tables.{core_fields, core_meaning, label_fields, label_meaning, StimulusForm, periodic_form, sporadic_form, burst_form, stimulus_forms, stimulus_fields, form_checks, stimulus_entry_checks, stimulus_meaning}}
use Rattle.cl_model.specs.{Reading.Tables.{runnable_fields, runnables, runnable_meaning, access_words, task_fields, task_meaning, chain_fields, chain_meaning, requirement_kind_words, requirement_fields, requirement_meaning}, Kinds.{access_word, requirement_word, is_delay}}
use Rattle.cl_model.specs.declared.place.Key.TheVariants as key
use Rattle.cl_model.proofs.NoRefusals.{none_in_order}
use Rattle.cl_write.specs.{Entries.{Entry, members_with}, Writing.{core_table_entries, label_entries, stimulus_entries, runnable_entries, task_entries, chain_entries, requirement_entries}}
use Rattle.cl_write.specs.Entries as entries
use Rattle.cl_write.proofs.{Found.{entry_at, are_apart, has_keys_among, found}, Passing.{name_passes, number_passes, number_if_passes, number_if_means, unless_zero_passes, unless_zero_means, when_true_passes, when_true_means, unless_empty_passes, unless_empty_means, FieldPasses}}
use Rattle.cl_write.proofs.Passing.{fields_pass, checks_pass, table_passes}

-- ---- cores and labels

pub core_passes : (core : CoreDef) → IsName core.name → (place : Place) → fields_checks core_fields place (members_with (core_table_entries core)) ≡ []
core_passes core named place = table_passes place (core_table_entries core) refl core_fields refl (name_passes (at_key key.Name place) core.name named, tt)

pub core_means : (core : CoreDef) → core_meaning (members_with (core_table_entries core)) ≡ core
core_means core = rw (found key.Name (core_table_entries core) refl) refl

pub label_passes : (label : LabelDef) → IsName label.name → (place : Place) → fields_checks label_fields place (members_with (label_entries label)) ≡ []
label_passes label named place = table_passes place (label_entries label) refl label_fields refl (name_passes (at_key key.Name place) label.name named, tt)

pub label_means : (label : LabelDef) → label_meaning (members_with (label_entries label)) ≡ label
label_means label = rw (found key.Name (label_entries label) refl) refl

-- ---- stimuli

-- what the word at `kind` stands for
abbrev form_named : (version : ℕ) → List Entry → Option StimulusForm
form_named version entries = found_or None (λ d. meaning_of (stimulus_forms version) (text_in d)) (entry_at key.Kind entries)

-- a table of the keys of a stimulus and those of its kind
stimulus_with : (version : ℕ) (place : Place) (entries : List Entry) (form : StimulusForm) → are_apart entries ≡ true → form_named version entries ≡ Some form
    → AllByRecursion (FieldPasses place entries) (stimulus_fields version) → has_keys_among (key.Name ∷ key.Kind ∷ keys_of form.fields) entries ≡ true
    → AllByRecursion (FieldPasses place entries) form.fields → stimulus_entry_checks version place (members_with entries) ≡ []
unfolding stimulus_entry_checks
stimulus_with version place entries form apart is both among own =
    let named : word_if (stimulus_forms version) key.Kind (members_with entries) ≡ Some form =
    ap (λ v. found_or None (λ d. meaning_of (stimulus_forms version) (text_in d)) v) (found key.Kind entries apart) ∙ is in
    let checks = fields_pass place entries apart (stimulus_fields version) both in
    let kind : form_checks place (members_with entries) (word_if (stimulus_forms version) key.Kind (members_with entries)) ≡ [] =
    rw named (checks_pass place entries apart (key.Name ∷ key.Kind ∷ keys_of form.fields) form.fields among own) in
    none_in_order (map (field_checks place (members_with entries)) (stimulus_fields version) ++ form_checks place (members_with entries) (word_if (stimulus_forms version) key.Kind (members_with entries)) ∷ [])
    (checks.0, (checks.1.0, (kind, tt)))

stimulus_kind_passes : (version : ℕ) → leb 2 version ≡ true → (name : List ℕ) (kind : StimulusKind) → IsKindInRange kind → IsName name → (place : Place)
    → stimulus_entry_checks version place (members_with (stimulus_entries (record { name = name; kind = kind }))) ≡ []
stimulus_kind_passes version bursts name (Periodic period offset jitter) in_range named place =
    stimulus_with version place (stimulus_entries (record { name = name; kind = Periodic period offset jitter })) periodic_form refl refl
    (name_passes (at_key key.Name place) name named, (refl, tt)) refl (
      number_passes 1 MOST_TICKS (at_key key.Period place) period in_range.0.0 in_range.0.1,
      (
        unless_zero_passes MOST_TICKS (at_key key.Offset place) offset in_range.1,
        (
          unless_zero_passes MOST_TICKS (at_key key.Jitter place) jitter in_range.2,
          tt,
        ),
      ),
    )
stimulus_kind_passes version bursts name (Sporadic least greatest) in_range named place =
    stimulus_with version place (stimulus_entries (record { name = name; kind = Sporadic least greatest })) sporadic_form refl refl
    (name_passes (at_key key.Name place) name named, (refl, tt)) refl (
      number_passes 1 MOST_TICKS (at_key key.Least place) least in_range.0.0 in_range.0.1,
      (
        number_passes 1 MOST_TICKS (at_key key.Greatest place) greatest in_range.1.0 in_range.1.1,
        tt,
      ),
    )
stimulus_kind_passes version bursts name (Burst period offset count distance) in_range named place =
    stimulus_with version place (stimulus_entries (record { name = name; kind = Burst period offset count distance })) burst_form refl (rw bursts refl)
    (name_passes (at_key key.Name place) name named, (rw bursts refl, tt)) refl (
      number_passes 1 MOST_TICKS (at_key key.Period place) period in_range.0.0 in_range.0.1,
      (
        unless_zero_passes MOST_TICKS (at_key key.Offset place) offset in_range.1,
        (
          number_passes LEAST_JOBS_OF_BURST MOST_JOBS_OF_BURST (at_key key.Count place) count in_range.2.0 in_range.2.1,
          (
            number_passes 1 MOST_TICKS (at_key key.Distance place) distance in_range.3.0 in_range.3.1,
            tt,
          ),
        ),
      ),
    )

-- a stimulus of a version that has bursts
pub stimulus_passes : (version : ℕ) → leb 2 version ≡ true → (s : StimulusDef) → IsKindInRange s.kind → IsName s.name → (place : Place)
    → stimulus_entry_checks version place (members_with (stimulus_entries s)) ≡ []
stimulus_passes version bursts s in_range named place = stimulus_kind_passes version bursts s.name s.kind in_range named place

stimulus_kind_means : (version : ℕ) → leb 2 version ≡ true → (name : List ℕ) (kind : StimulusKind)
    → stimulus_meaning version (members_with (stimulus_entries (record { name = name; kind = kind }))) ≡ record { name = name; kind = kind }
unfolding stimulus_meaning
stimulus_kind_means version bursts name (Periodic period offset jitter) =
    let es = stimulus_entries (record { name = name; kind = Periodic period offset jitter }) in
    let at : (k : Key) → value_at k (members_with es) ≡ entry_at k es = λ k. found k es refl in
    rw (at key.Name, at key.Kind, at key.Period, at key.Offset, at key.Jitter, unless_zero_means offset, unless_zero_means jitter) refl
stimulus_kind_means version bursts name (Sporadic least greatest) =
    let es = stimulus_entries (record { name = name; kind = Sporadic least greatest }) in
    let at : (k : Key) → value_at k (members_with es) ≡ entry_at k es = λ k. found k es refl in
    rw (at key.Name, at key.Kind, at key.Least, at key.Greatest) refl
stimulus_kind_means version bursts name (Burst period offset count distance) =
    let es = stimulus_entries (record { name = name; kind = Burst period offset count distance }) in
    let at : (k : Key) → value_at k (members_with es) ≡ entry_at k es = λ k. found k es refl in
    rw (at key.Name, at key.Kind, bursts, at key.Period, at key.Offset, at key.Count, at key.Distance, unless_zero_means offset) refl

pub stimulus_means : (version : ℕ) → leb 2 version ≡ true → (s : StimulusDef) → stimulus_meaning version (members_with (stimulus_entries s)) ≡ s
stimulus_means version bursts s = stimulus_kind_means version bursts s.name s.kind

-- ---- arrays of names

names_pass : (limit : ℕ) (place : Place) (words : List (List ℕ)) → length words ≤ limit → All IsName words → found_or [] (names limit place) (entries.names_data words) ≡ []
names_pass limit place words short named = unless_empty_passes string limit at_spot a_name place words short (λ k d lt there. name_passes there (get_or words k d) (named k d lt))

names_mean : (words : List (List ℕ)) → found_or [] (λ d. map text_in (list_of d)) (entries.names_data words) ≡ words
names_mean words = unless_empty_means string text_in words (λ k d lt. refl)

-- ---- runnables

pub runnable_passes : (r : RunnableDef) → IsRunnableInRange r → IsRunnableNamed r → (place : Place) → fields_checks runnable_fields place (members_with (runnable_entries r)) ≡ []
runnable_passes r in_range named place = table_passes place (runnable_entries r) refl runnable_fields refl (
  name_passes (at_key key.Name place) r.name named.name,
  (
    number_passes 1 MOST_TICKS (at_key key.Least place) r.least in_range.least.0 in_range.least.1,
    (
      number_passes 1 MOST_TICKS (at_key key.Greatest place) r.greatest in_range.greatest.0 in_range.greatest.1,
      (
        when_true_passes (at_key key.Whole place) r.whole,
        (
          names_pass MOST_ACCESSES (at_key key.Reads place) r.reads in_range.reads named.reads,
          (
            names_pass MOST_ACCESSES (at_key key.Writes place) r.writes in_range.writes named.writes,
            tt,
          ),
        ),
      ),
    ),
  ),
)

pub runnable_means : (r : RunnableDef) → runnable_meaning (members_with (runnable_entries r)) ≡ r
unfolding runnable_meaning
runnable_means r =
    let at : (k : Key) → value_at k (members_with (runnable_entries r)) ≡ entry_at k (runnable_entries r) = λ k. found k (runnable_entries r) refl in
    rw (at key.Name, at key.Least, at key.Greatest, at key.Whole, at key.Reads, at key.Writes, when_true_means r.whole, names_mean r.reads, names_mean r.writes) refl

-- ---- tasks

access_passes : (place : Place) (access : AccessKind) → a_word access_words place (string (access_word access)) ≡ []
access_passes place Explicit = refl
access_passes place Implicit = refl
access_passes place Timed = refl

access_means : (access : AccessKind) → unwrap_or (meaning_of access_words (access_word access)) Explicit ≡ access
access_means Explicit = refl
access_means Implicit = refl
access_means Timed = refl

pub task_passes : (t : TaskDef) → IsTaskInRange t → IsTaskNamed t → (place : Place) → fields_checks task_fields place (members_with (task_entries t)) ≡ []
task_passes t in_range named place = table_passes place (task_entries t) refl task_fields refl (
  name_passes (at_key key.Name place) t.name named.name,
  (
    name_passes (at_key key.Core place) t.core named.core,
    (
      name_passes (at_key key.Stimulus place) t.stimulus named.stimulus,
      (
        number_passes 0 MOST_PRIORITY (at_key key.Priority place) t.priority (omega arith) in_range.priority,
        (
          access_passes (at_key key.Access place) t.access,
          (
            number_if_passes 1 MOST_TICKS (at_key key.Deadline place) t.deadline in_range.deadline,
            (
              runnables_pass (at_key key.Runnable place),
              tt,
            ),
          ),
        ),
      ),
    ),
  ),
)
  where
    runnables_pass : (there : Place) → found_or [] (runnables there) (entries.tables runnable_entries t.runnables) ≡ []
    runnables_pass there = unless_empty_passes (λ r. table (members_with (runnable_entries r))) MOST_RUNNABLES at_sub (a_table_of runnable_fields) there t.runnables in_range.count
        (λ k d lt at. runnable_passes (get_or t.runnables k d) (in_range.runnables k d lt) (named.runnables k d lt) at)

pub task_means : (t : TaskDef) → task_meaning (members_with (task_entries t)) ≡ t
unfolding task_meaning
task_means t =
    let at : (k : Key) → value_at k (members_with (task_entries t)) ≡ entry_at k (task_entries t) = λ k. found k (task_entries t) refl in
    let all : found_or [] (λ d. map (λ entry. runnable_meaning (table_of entry)) (list_of d)) (entries.tables runnable_entries t.runnables) ≡ t.runnables =
    unless_empty_means (λ r. table (members_with (runnable_entries r))) (λ d. runnable_meaning (table_of d)) t.runnables (λ k d lt. runnable_means (get_or t.runnables k d)) in
    rw (at key.Name, at key.Core, at key.Stimulus, at key.Priority, at key.Access, at key.Deadline, at key.Runnable, access_means t.access, number_if_means t.deadline, all) refl

-- ---- chains and requirements

pub chain_passes : (c : ChainDef) → IsChainInRange c → IsChainNamed c → (place : Place) → fields_checks chain_fields place (members_with (chain_entries c)) ≡ []
chain_passes c in_range named place = table_passes place (chain_entries c) refl chain_fields refl (
  name_passes (at_key key.Name place) c.name named.name,
  (
    names_pass MOST_STEPS (at_key key.Runnables place) c.runnables in_range.runnables named.runnables,
    (
      names_pass MOST_HOPS (at_key key.Labels place) c.labels in_range.labels named.labels,
      tt,
    ),
  ),
)

pub chain_means : (c : ChainDef) → chain_meaning (members_with (chain_entries c)) ≡ c
unfolding chain_meaning
chain_means c =
    let at : (k : Key) → value_at k (members_with (chain_entries c)) ≡ entry_at k (chain_entries c) = λ k. found k (chain_entries c) refl in
    rw (at key.Name, at key.Runnables, at key.Labels, names_mean c.runnables, names_mean c.labels) refl

-- a version that has the kind: any but that of delays, which is said from version 3 on
abbrev pub Says : (version : ℕ) → RequirementKind → Type 0
Says version kind = is_delay kind ≡ true → leb 3 version ≡ true

word_passes : (version : ℕ) (place : Place) (kind : RequirementKind) → Says version kind → a_word (requirement_kind_words version) place (string (requirement_word kind)) ≡ []
word_passes version place (Length Reaction) said = refl
word_passes version place (Length Age) said = refl
word_passes version place (Length Reduced) said = refl
word_passes version place Delay said = rw (said refl) refl

word_means : (version : ℕ) (kind : RequirementKind) → Says version kind → unwrap_or (meaning_of (requirement_kind_words version) (requirement_word kind)) (Length Reaction) ≡ kind
word_means version (Length Reaction) said = refl
word_means version (Length Age) said = refl
word_means version (Length Reduced) said = refl
word_means version Delay said = rw (said refl) refl

pub requirement_passes : (version : ℕ) (r : RequirementDef) → Says version r.kind → r.most ≤ MOST_REQUIRED → IsRequirementNamed r → (place : Place)
    → fields_checks (requirement_fields version) place (members_with (requirement_entries r)) ≡ []
requirement_passes version r said most named place = table_passes place (requirement_entries r) refl (requirement_fields version) refl (
  name_passes (at_key key.Name place) r.name named.name,
  (
    name_passes (at_key key.Chain place) r.chain named.chain,
    (
      word_passes version (at_key key.Kind place) r.kind said,
      (
        number_passes 0 MOST_REQUIRED (at_key key.Most place) r.most (omega arith) most,
        tt,
      ),
    ),
  ),
)

pub requirement_means : (version : ℕ) (r : RequirementDef) → Says version r.kind → requirement_meaning version (members_with (requirement_entries r)) ≡ r
unfolding requirement_meaning
requirement_means version r said =
    let at : (k : Key) → value_at k (members_with (requirement_entries r)) ≡ entry_at k (requirement_entries r) = λ k. found k (requirement_entries r) refl in
    rw (at key.Name, at key.Chain, at key.Kind, at key.Most, word_means version r.kind said) refl
