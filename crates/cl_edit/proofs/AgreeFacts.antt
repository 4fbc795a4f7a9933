-- Lists that have the same names, or the same of those in a third one.
use Rattle.std.proofs.Common.{◌≡◌, ℕ, ◌+◌, ◌<◌, Bool, true, false, cond, ◌||◌, List, [], ◌∷◌, ◌++◌, length, get_or, take, map, refl, sym, ap, ◌∙◌, append_assoc, subst}
use Rattle.std.specs.Prelude.{Result}
use Rattle.std.specs.List.{flat_map}
use Rattle.std.specs.Cmp.Lexicographic.{bytes_decides}
use Rattle.std.proofs.lemmas.Bool.{false≢true, false_from_ne_true, or_left, or_right}
use Rattle.std.proofs.lemmas.List.{get_or_default, map_more, take_more}
use Rattle.std.proofs.lemmas.List.Folds.{list_any-append, list_any_at}
use Rattle.cl_model.specs.{declared.{model.{LabelDef.LabelDef, SystemModel.SystemModel}, model_fault.ModelFault.ModelFault, place.Place.Place, refusal.{Code.{Code, TheVariants.{M37, M38, M40}}, Refusal.Refusal}, task.{RunnableDef.RunnableDef, TaskDef.TaskDef}}, Answers.Answers}
use Rattle.cl_model.specs.{ByNumber.no_runnable, Named.{same_name, has_name, label_names, all_runnables, labels_written}, NameSets.names_with, Place.{at_key, at_sub, at_spot}, Refusals.{when, unless, each}, ValidTasks.{label_check, writer_check, times_check, reads_check, writes_check}}
use Rattle.cl_model.specs.ValidTasks.{twice_check, contest_check, runnable_checks, body_check, body_checks}
use Rattle.cl_model.specs.declared.place.Key.TheVariants as key
use Rattle.cl_model.proofs.ListFacts.{list_any-flat_map}
use Rattle.cl_valid.proofs.UsesByTask.{flat_more}
use Rattle.cl_edit.specs.Inner.NewTasks.{labels_of, AreAlike, AgreeOn}
use Rattle.cl_edit.proofs.EachChecked.{each_same}

-- ---- lists that grow

has_both : (name : List ℕ) (one other : List (List ℕ)) → has_name name (one ++ other) ≡ (has_name name one || has_name name other)
has_both name one other = list_any-append (same_name name) one other

twice_there : (b c : Bool) → (c ≡ true → b ≡ true) → b ≡ (b || (c || false))
twice_there true c h = refl
twice_there false true h = absurd (false≢true (h refl))
twice_there false false h = refl

-- a name that is added once
pub with_alike : (label : List ℕ) (names : List (List ℕ)) → AreAlike (names_with label names) (names ++ label ∷ [])
with_alike label names name =
    elim (has_name label names) as (λ b. has_name label names ≡ b → has_name name (cond b names (names ++ label ∷ [])) ≡ has_name name (names ++ label ∷ [])) [
      | true ↦ λ there.
          twice_there (has_name name names) (same_name name label) (λ same. ap (λ n. has_name n names) ((bytes_decides name label).0 same) ∙ there)
          ∙ sym (has_both name names (label ∷ []))
      | false ↦ λ missing. refl
    ] refl

-- one list after another is added
pub agree_more : (own one two three a b : List (List ℕ)) → AgreeOn own two (one ++ a) → AgreeOn own three (two ++ b) → AgreeOn own three (one ++ (a ++ b))
agree_more own one two three a b first then name is =
    then name is ∙ has_both name two b ∙ ap (λ x. x || has_name name b) (first name is) ∙ sym (has_both name (one ++ a) b) ∙ ap (has_name name) (append_assoc one a b)

pub alike_more : (one two three a b : List (List ℕ)) → AreAlike two (one ++ a) → AreAlike three (two ++ b) → AreAlike three (one ++ (a ++ b))
alike_more one two three a b first then name =
    then name ∙ has_both name two b ∙ ap (λ x. x || has_name name b) (first name) ∙ sym (has_both name (one ++ a) b) ∙ ap (has_name name) (append_assoc one a b)

-- ---- the steps of loops

module _ (own before old new : List (List ℕ)) where
  pub added_label : (labels : List (List ℕ)) (k : ℕ) (label : List ℕ) → AreAlike old (before ++ take k labels) → k < length labels → label ≡ get_or labels k label → new ≡ names_with label old
      → AreAlike new (before ++ take (k + 1) labels)
  added_label labels k label so_far within is after =
      subst (λ l. AreAlike new (before ++ l)) (ap (λ y. take k labels ++ y ∷ []) is ∙ sym (take_more labels k label within))
      (alike_more before old new (take k labels) (label ∷ []) so_far (λ name. ap (has_name name) after ∙ with_alike label old name))

  pub agreed_label : (labels : List (List ℕ)) (k : ℕ) (label : List ℕ) → AgreeOn own old (before ++ take k labels) → k < length labels → label ≡ get_or labels k label → AgreeOn own new (old ++ label ∷ [])
      → AgreeOn own new (before ++ take (k + 1) labels)
  agreed_label labels k label so_far within is after =
      subst (λ l. AgreeOn own new (before ++ l)) (ap (λ y. take k labels ++ y ∷ []) is ∙ sym (take_more labels k label within))
      (agree_more own before old new (take k labels) (label ∷ []) so_far after)

  -- the parts of one more item
  pub agreed_part : {X : Type 0} (parts : X → List (List ℕ)) (items : List X) (k : ℕ) (item : X) (part : List (List ℕ)) → AgreeOn own old (before ++ flat_map parts (take k items)) → k < length items
      → item ≡ get_or items k item → part ≡ parts item → AgreeOn own new (old ++ part) → AgreeOn own new (before ++ flat_map parts (take (k + 1) items))
  agreed_part parts items k item part so_far within is same after =
      subst (λ l. AgreeOn own new (before ++ l)) (ap (λ p. flat_map parts (take k items) ++ p) same ∙ sym (flat_more parts items k item within is))
      (agree_more own before old new (flat_map parts (take k items)) part so_far after)

-- the labels of one more runnable
pub own_more : (old middle new : List (List ℕ)) (runnables : List RunnableDef) (k : ℕ) (runnable : RunnableDef) (reads writes : List (List ℕ)) → AreAlike old (labels_of (take k runnables)) → k < length runnables
    → runnable ≡ get_or runnables k runnable → reads ≡ runnable.reads → writes ≡ runnable.writes → AreAlike middle (old ++ reads) → AreAlike new (middle ++ writes) → AreAlike new (labels_of (take (k + 1) runnables))
own_more old middle new runnables k runnable reads writes so_far within is reads_is writes_is first then =
    subst (λ l. AreAlike new l)
    (append_assoc (labels_of (take k runnables)) reads writes
    ∙ ap (λ r. labels_of (take k runnables) ++ (r ++ writes)) reads_is ∙ ap (λ w. labels_of (take k runnables) ++ (runnable.reads ++ w)) writes_is
    ∙ sym (flat_more (λ (r : RunnableDef). r.reads ++ r.writes) runnables k runnable within is))
    (alike_more [] middle new (labels_of (take k runnables) ++ reads) writes (alike_more [] old middle (labels_of (take k runnables)) reads so_far first) then)

-- a label of the model
pub named_label : {X : Type 0} (f : X → List ℕ) (own old new : List (List ℕ)) (items : List X) (k : ℕ) (item : X) (name : List ℕ) → AgreeOn own old (map f (take k items)) → k < length items
    → item ≡ get_or items k item → name ≡ f item → AgreeOn own new (old ++ name ∷ []) → AgreeOn own new (map f (take (k + 1) items))
named_label f own old new items k item name so_far within is same after =
    subst (λ l. AgreeOn own new l) (ap (λ y. map f (take k items) ++ y ∷ []) (same ∙ ap f is) ∙ sym (map_more f items k item within))
    (agree_more own [] old new (map f (take k items)) (name ∷ []) so_far after)

-- one name, where it is one's own and where it isn't
pub with_agrees : (own old new : List (List ℕ)) (name : List ℕ) → new ≡ names_with name old → AgreeOn own new (old ++ name ∷ [])
with_agrees own old new name after other is = ap (has_name other) after ∙ with_alike name old other

or_false : (a b : Bool) → b ≡ false → a ≡ (a || (b || false))
or_false true b h = refl
or_false false b h = sym (ap (λ c. c || false) h)

pub foreign_agrees : (own old : List (List ℕ)) (name : List ℕ) → has_name name own ≡ false → AgreeOn own old (old ++ name ∷ [])
foreign_agrees own old name foreign other is =
    or_false (has_name other old) (same_name other name)
    (false_from_ne_true _ (λ same. false≢true (sym foreign ∙ ap (λ n. has_name n own) (sym ((bytes_decides other name).0 same)) ∙ is)))
    ∙ sym (has_both other old (name ∷ []))

-- ---- what a new task is refused by the labels of its own

own_label : (task : TaskDef) (p : ℕ) (label : List ℕ) (list : RunnableDef → List (List ℕ)) → p < length task.runnables
    → ((r : RunnableDef) → has_name label (list r) ≡ true → has_name label (r.reads ++ r.writes) ≡ true)
    → has_name label (list (get_or task.runnables p no_runnable)) ≡ true → has_name label (labels_of task.runnables) ≡ true
own_label task p label list lt both is =
    list_any-flat_map (same_name label) (λ (r : RunnableDef). r.reads ++ r.writes) task.runnables
    ∙ list_any_at (λ (r : RunnableDef). has_name label (r.reads ++ r.writes)) task.runnables p no_runnable lt (both (get_or task.runnables p no_runnable) is)

stands : (labels : List (List ℕ)) (k : ℕ) (d : List ℕ) → k < length labels → has_name (get_or labels k d) labels ≡ true
stands labels k d lt = list_any_at (same_name (get_or labels k d)) labels k d lt ((bytes_decides (get_or labels k d) (get_or labels k d)).1 refl)

module _ (task : TaskDef) (known all written done : List (List ℕ)) (knows : AgreeOn (labels_of task.runnables) known all) (writes : AgreeOn (labels_of task.runnables) written done) where
  module _ (p : ℕ) (lt : p < length task.runnables) where
    abbrev own : RunnableDef
    own = get_or task.runnables p no_runnable

    of_reads : (label : List ℕ) → has_name label own.reads ≡ true → has_name label (labels_of task.runnables) ≡ true
    of_reads label is = own_label task p label (λ r. r.reads) lt (λ r is. has_both label r.reads r.writes ∙ or_left _ _ is) is

    of_writes : (label : List ℕ) → has_name label own.writes ≡ true → has_name label (labels_of task.runnables) ≡ true
    of_writes label is = own_label task p label (λ r. r.writes) lt (λ r is. has_both label r.reads r.writes ∙ or_right _ _ is) is

    known_alike : (code : Code) (place : Place) (labels : List (List ℕ)) → ((label : List ℕ) → has_name label labels ≡ true → has_name label (labels_of task.runnables) ≡ true)
        → each (label_check code place known) labels ≡ each (label_check code place all) labels
    known_alike code place labels are_own =
        each_same (label_check code place known) (label_check code place all) labels
        (λ k d k_lt. ap (λ b. unless b code (at_spot k place)) (knows (get_or labels k d) (are_own (get_or labels k d) (stands labels k d k_lt))))

    contest_alike : (place : Place) (more : List (List ℕ)) → each (writer_check place (written ++ more)) own.writes ≡ each (writer_check place (done ++ more)) own.writes
    contest_alike place more =
        each_same (writer_check place (written ++ more)) (writer_check place (done ++ more)) own.writes
        (λ k d k_lt.
        let label = get_or own.writes k d in
        ap (λ b. when b M40 (at_spot k place))
        (has_both label written more ∙ ap (λ b. b || has_name label more) (writes label (of_writes label (stands own.writes k d k_lt))) ∙ sym (has_both label done more)))

    runnable_alike : (place : Place) → body_check known written place task p own ≡ body_check all done place task p own
    unfolding runnable_checks
    runnable_alike place =
        let here : Place = at_sub p place in
        let more : List (List ℕ) = labels_written (take p task.runnables) in
        let rest : List Refusal → List Refusal → List Refusal → List Refusal = λ r w c.
        times_check here own ++ (r ++ (w ++ (twice_check (at_key key.Reads here) own.reads ++ (twice_check (at_key key.Writes here) own.writes ++ (c ++ []))))) in
        ap (λ l. rest l (writes_check known here own) (contest_check (written ++ more) here own)) (known_alike M37 (at_key key.Reads here) own.reads of_reads)
        ∙ ap (λ l. rest (reads_check all here own) l (contest_check (written ++ more) here own)) (known_alike M38 (at_key key.Writes here) own.writes of_writes)
        ∙ ap (λ l. rest (reads_check all here own) (writes_check all here own) l) (contest_alike (at_key key.Writes here) more)

  pub body_alike : (place : Place) → body_checks known written place task ≡ body_checks all done place task
  body_alike place =
      each_same (body_check known written place task) (body_check all done place task) task.runnables
      (λ p d lt. subst (λ r. body_check known written place task p r ≡ body_check all done place task p r) (get_or_default task.runnables p no_runnable d lt) (runnable_alike p lt place))

-- what is asked over the labels of one's own is what is asked over all
pub labels_asked : (model : SystemModel) (task : TaskDef) (place : Place) (labels : List LabelDef) (tasks : List TaskDef) (runnables : List RunnableDef) (own known written : List (List ℕ)) (result : Result (Unit {0}) ModelFault)
    → labels ≡ model.labels → tasks ≡ model.tasks → runnables ≡ task.runnables → AreAlike own (labels_of runnables) → AgreeOn own known (map (λ (label : LabelDef). label.name) labels) → AgreeOn own written (labels_written (all_runnables tasks))
    → Answers result (body_checks known written place task) tt → Answers result (body_checks (label_names model) (labels_written (all_runnables model.tasks)) place task) tt
labels_asked model task place labels tasks runnables own known written result labels_are tasks_are runnables_are mine knows writes h =
    let owned : (name : List ℕ) → has_name name (labels_of task.runnables) ≡ true → has_name name own ≡ true
    = λ name is. mine name ∙ ap (λ (rs : List RunnableDef). has_name name (labels_of rs)) runnables_are ∙ is in
    subst (λ (refusals : List Refusal). Answers result refusals tt)
    (body_alike task known (label_names model) written (labels_written (all_runnables model.tasks))
    (λ name is. knows name (owned name is) ∙ ap (λ (ls : List LabelDef). has_name name (map (λ (label : LabelDef). label.name) ls)) labels_are)
    (λ name is. writes name (owned name is) ∙ ap (λ (ts : List TaskDef). has_name name (labels_written (all_runnables ts))) tasks_are) place)
    h
