-- The names of a model that an advice prints are names.
use Rattle.std.proofs.Common.{ℕ, zero, suc, ◌+◌, Bool, true, false, List, [], ◌∷◌, ◌++◌, cond, slice_get, All, Option, Some, None, refl}
use Rattle.std.specs.List.{find}
use Rattle.std.specs.Option.{option_map, option_and_then}
use Rattle.std.specs.Prelude.{codes, IfSome}
use Rattle.std.proofs.lemmas.List.Elements.{All-head, All-tail, All-nil, All-append}
use Rattle.cl_model.specs.{declared.{chain.ChainDef.ChainDef, model.SystemModel.SystemModel, place.{Key.Key, Part.Part, Place.Place}, refusal.{Code.Code, Refusal.Refusal}, task.{RunnableDef.RunnableDef, TaskDef.TaskDef}}, AreNamed.{IsRunnableNamed, IsTaskNamed, IsChainNamed, AreNamed}}
use Rattle.cl_model.specs.{Name.IsName, Named.all_runnables, Place.part_text}
use Rattle.cl_model.specs.declared.place.Key.TheVariants as key
use Rattle.cl_model.specs.declared.place.Part.TheVariants as part
use Rattle.cl_model.specs.declared.refusal.Code.TheVariants as code
use Rattle.cl_advice.specs.{With.{item_if, with_line, namesake_line, task_of_place, runnable_of_place, labels_under, label_of_place, shares_priority, rival_of, is_sought, writer_of, step_name, lines_with, with_lines}, declared.with.Sought.TheVariants.Writer}
use Rattle.cl_advice.proofs.CleanWords.{Printed, printed_both, printed_line, printed_name, printed_part}

-- ---- items of lists

got : {X : Type 0} (P : X → Type 0) (xs : List X) (k : ℕ) → All P xs → IfSome (slice_get xs k) P
got P [] k all = tt
got P (x ∷ xs) zero all = All-head P x xs all
got P (x ∷ xs) (suc k) all = got P xs k (All-tail P x xs all)

pub item : {X : Type 0} (P : X → Type 0) (xs : List X) (n : Option ℕ) → All P xs → IfSome (item_if xs n) P
item P xs None all = tt
item P xs (Some k) all = got P xs k all

either : {X : Type 0} (P : X → Type 0) (t : Bool) (x : X) (rest : Option X) → P x → IfSome rest P → IfSome (cond t (Some x) rest) P
either P true x rest h others = h
either P false x rest h others = others

pub first_of : {X : Type 0} (P : X → Type 0) (test : X → Bool) (xs : List X) → All P xs → IfSome (find test xs) P
first_of P test [] all = tt
first_of P test (x ∷ xs) all = either P (test x) x (find test xs) (All-head P x xs all) (first_of P test xs (All-tail P x xs all))

pub mapped : {X Y : Type 0} (P : X → Type 0) (Q : Y → Type 0) (f : X → Y) (o : Option X) → ((x : X) → P x → Q (f x)) → IfSome o P → IfSome (option_map f o) Q
mapped P Q f None holds h = tt
mapped P Q f (Some x) holds h = holds x h

pub followed : {X Y : Type 0} (P : X → Type 0) (Q : Y → Type 0) (f : X → Option Y) (o : Option X) → ((x : X) → P x → IfSome (f x) Q) → IfSome o P → IfSome (option_and_then f o) Q
followed P Q f None holds h = tt
followed P Q f (Some x) holds h = holds x h

-- ---- lines

printed_with : (section : List ℕ) (name : Option (List ℕ)) → Printed section → IfSome name IsName → Printed (with_line section name)
printed_with section None h named = refl
printed_with section (Some name) h named =
    let first = printed_both (codes "with ") section refl h in
    let next = printed_both (codes "with " ++ section) (codes " ") first refl in
    printed_line (codes "with " ++ section ++ codes " " ++ name) (printed_both (codes "with " ++ section ++ codes " ") name next (printed_name name named))

printed_namesake : {X : Type 0} (p : Part) (name : X → List ℕ) (items : List X) (place : Place) → All (λ x. IsName (name x)) items → Printed (namesake_line p name items place)
printed_namesake p name items place named =
    printed_with (part_text p) (option_map name (item_if items place.item)) (printed_part p)
    (mapped (λ x. IsName (name x)) IsName name (item_if items place.item) (λ x h. h) (item (λ x. IsName (name x)) items place.item named))

-- ---- tasks and runnables

pub runnable_named_at : (model : SystemModel) (place : Place) → AreNamed model → IfSome (runnable_of_place model place) IsRunnableNamed
runnable_named_at model place named =
    followed IsTaskNamed IsRunnableNamed (λ (task : TaskDef). item_if task.runnables place.sub) (task_of_place model place)
    (λ task h. item IsRunnableNamed task.runnables place.sub h.runnables) (item IsTaskNamed model.tasks place.item named.tasks)

labels_named : (k : Option Key) (runnable : RunnableDef) → IsRunnableNamed runnable → All IsName (labels_under k runnable)
labels_named None runnable h = h.writes
labels_named (Some key.Reads) runnable h = h.reads
labels_named (Some _) runnable h = h.writes

label_named_at : (model : SystemModel) (place : Place) → AreNamed model → IfSome (label_of_place model place) IsName
label_named_at model place named =
    followed IsRunnableNamed IsName (λ (runnable : RunnableDef). item_if (labels_under place.key runnable) place.spot) (runnable_of_place model place)
    (λ runnable h. item IsName (labels_under place.key runnable) place.spot (labels_named place.key runnable h)) (runnable_named_at model place named)

rival_named : (model : SystemModel) (place : Place) → AreNamed model → IfSome (option_and_then (rival_of model) (task_of_place model place)) IsTaskNamed
rival_named model place named =
    followed IsTaskNamed IsTaskNamed (rival_of model) (task_of_place model place)
    (λ task h. first_of IsTaskNamed (shares_priority task) model.tasks named.tasks) (item IsTaskNamed model.tasks place.item named.tasks)

pub runnables_named : (tasks : List TaskDef) → All IsTaskNamed tasks → All IsRunnableNamed (all_runnables tasks)
runnables_named [] all = All-nil IsRunnableNamed
runnables_named (task ∷ tasks) all =
    All-append IsRunnableNamed task.runnables (all_runnables tasks) (All-head IsTaskNamed task tasks all).runnables
    (runnables_named tasks (All-tail IsTaskNamed task tasks all))

writer_named : (model : SystemModel) (place : Place) → AreNamed model → IfSome (option_and_then (writer_of model) (label_of_place model place)) IsRunnableNamed
writer_named model place named =
    followed IsName IsRunnableNamed (writer_of model) (label_of_place model place)
    (λ label h. first_of IsRunnableNamed (is_sought Writer label) (all_runnables model.tasks) (runnables_named model.tasks named.tasks))
    (label_named_at model place named)

pub step_named_at : (model : SystemModel) (place : Place) (behind : ℕ) → AreNamed model → IfSome (step_name model place behind) IsName
step_named_at model place behind named =
    followed IsChainNamed IsName (λ (chain : ChainDef). item_if chain.runnables (option_map (λ k. k + behind) place.spot)) (item_if model.chains place.item)
    (λ chain h. item IsName chain.runnables (option_map (λ k. k + behind) place.spot) h.runnables) (item IsChainNamed model.chains place.item named.chains)

-- the name of what is named
pub name_of_runnable : (o : Option RunnableDef) → IfSome o IsRunnableNamed → IfSome (option_map (λ (runnable : RunnableDef). runnable.name) o) IsName
name_of_runnable o h = mapped IsRunnableNamed IsName (λ (runnable : RunnableDef). runnable.name) o (λ runnable named. named.name) h

-- ---- all lines

pub tasks_alone : (tasks : List TaskDef) → All IsTaskNamed tasks → All (λ (task : TaskDef). IsName task.name) tasks
tasks_alone tasks all i d lt = (all i d lt).name

pub chains_alone : (chains : List ChainDef) → All IsChainNamed chains → All (λ (chain : ChainDef). IsName chain.name) chains
chains_alone chains all i d lt = (all i d lt).name

printed_lines_with : (model : SystemModel) (place : Place) (c : Code) → AreNamed model → Printed (lines_with model place c)
printed_lines_with model place code.M20 named = printed_namesake part.Core (λ core. core.name) model.cores place named.cores
printed_lines_with model place code.M21 named = printed_namesake part.Stimulus (λ stimulus. stimulus.name) model.stimuli place named.stimuli
printed_lines_with model place code.M22 named = printed_namesake part.Label (λ label. label.name) model.labels place named.labels
printed_lines_with model place code.M23 named = printed_namesake part.Task (λ task. task.name) model.tasks place (tasks_alone model.tasks named.tasks)
printed_lines_with model place code.M24 named = printed_with (codes "runnable") _ refl (name_of_runnable (runnable_of_place model place) (runnable_named_at model place named))
printed_lines_with model place code.M25 named = printed_namesake part.Chain (λ chain. chain.name) model.chains place (chains_alone model.chains named.chains)
printed_lines_with model place code.M26 named =
    printed_namesake part.Requirement (λ requirement. requirement.name) model.requirements place (λ i d lt. (named.requirements i d lt).name)
printed_lines_with model place code.M31 named =
    printed_with (codes "task") _ refl
    (mapped IsTaskNamed IsName (λ (task : TaskDef). task.name) (option_and_then (rival_of model) (task_of_place model place)) (λ task h. h.name) (rival_named model place named))
printed_lines_with model place code.M33 named =
    printed_with (codes "stimulus") _ refl
    (mapped IsTaskNamed IsName (λ (task : TaskDef). task.stimulus) (task_of_place model place) (λ task h. h.stimulus) (item IsTaskNamed model.tasks place.item named.tasks))
printed_lines_with model place code.M39 named = printed_with (codes "label") _ refl (label_named_at model place named)
printed_lines_with model place code.M40 named =
    printed_with (codes "runnable") _ refl (name_of_runnable (option_and_then (writer_of model) (label_of_place model place)) (writer_named model place named))
printed_lines_with model place code.M45 named =
    printed_both (with_line (codes "runnable") (step_name model place 0)) _ (printed_with (codes "runnable") _ refl (step_named_at model place 0 named))
    (printed_with (codes "runnable") _ refl (step_named_at model place 1 named))
printed_lines_with model place _ named = refl

pub printed_with_lines : (model : Option SystemModel) (refusal : Refusal) → IfSome model AreNamed → Printed (with_lines model refusal)
printed_with_lines None refusal named = refl
printed_with_lines (Some model) refusal named = printed_lines_with model refusal.place refusal.code named
