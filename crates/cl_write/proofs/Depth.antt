-- How deep the document that is written of a model nests.
use Rattle.std.proofs.Common.{ℕ, ◌≤◌, suc, Bool, true, false, cond, List, [], ◌∷◌, map, Option, Some, None, Ordering, Less, Equal, Greater, arith}
use Rattle.std.specs.Prelude.{IfSome, max, ◌==◌}
use Rattle.std.specs.List.{AllByRecursion}
use Rattle.std.specs.Ordering.{nat_cmp, match_ordering}
use Rattle.std.specs.Cmp.Lexicographic.{slice_cmp}
use Rattle.toml.specs.{Data.{Data, string, table, Members, no_members, member, depth, items_depth, members_depth}, View.items_of}
use Rattle.cl_model.specs.{declared.{chain.ChainDef.ChainDef, task.{RunnableDef.RunnableDef, TaskDef.TaskDef}, model.SystemModel.SystemModel, stimulus.StimulusKind.{StimulusKind, TheVariants.{Periodic, Sporadic, Burst}}}, Place.key_text}
use Rattle.cl_write.specs.{Entries.{Entry, with_member, with_entry, with_entries, members_with, number, number_data_if, unless_empty, unless_zero, when_true, names_data, tables}, Writing.{core_table_entries, label_entries, kind_entries, stimulus_entries, runnable_entries, task_entries}}
use Rattle.cl_write.specs.Writing.{chain_entries, requirement_entries, model_entries, document}

parts : (a b n : ℕ) → max a b ≤ n → (a ≤ n) × (b ≤ n)
parts a b n h = (omega (arith, h), omega (arith, h))

joined : (a b n : ℕ) → a ≤ n → b ≤ n → max a b ≤ n
joined a b n h k = omega (arith, h, k)

member_within : (k : List ℕ) (d : Data) (ms : Members) (n : ℕ) → depth d ≤ n → members_depth ms ≤ n → members_depth (with_member k d ms) ≤ n
unfolding with_member
member_within k d no_members n one all = joined (depth d) 0 n one (omega arith)
member_within k d (member l e ms) n one all =
    let (first, rest) = parts (depth e) (members_depth ms) n all in
    by_order (slice_cmp nat_cmp k l) first rest (member_within k d ms n one rest)
  where
    by_order : (o : Ordering) → depth e ≤ n → members_depth ms ≤ n → members_depth (with_member k d ms) ≤ n
        → members_depth (match_ordering o (member k d (member l e ms)) (member l d ms) (member l e (with_member k d ms))) ≤ n
    by_order Less first rest more = joined (depth d) (members_depth (member l e ms)) n one all
    by_order Equal first rest more = joined (depth d) (members_depth ms) n one rest
    by_order Greater first rest more = joined (depth e) (members_depth (with_member k d ms)) n first more

-- each value that is written nests so deep at most
abbrev pub Within : ℕ → Option Data → Type 0
Within n v = IfSome v (λ d. depth d ≤ n)

abbrev pub AreWithin : ℕ → List Entry → Type 0
AreWithin n entries = AllByRecursion (λ (entry : Entry). Within n entry.1) entries

entry_within : (entry : Entry) (ms : Members) (n : ℕ) → Within n entry.1 → members_depth ms ≤ n → members_depth (with_entry entry.0 entry.1 ms) ≤ n
entry_within (k, None) ms n one all = all
entry_within (k, Some d) ms n one all = member_within (key_text k) d ms n one all

entries_within : (n : ℕ) (entries : List Entry) (ms : Members) → AreWithin n entries → members_depth ms ≤ n → members_depth (with_entries entries ms) ≤ n
entries_within n [] ms each all = all
entries_within n (entry ∷ entries) ms each all = entries_within n entries (with_entry entry.0 entry.1 ms) each.1 (entry_within entry ms n each.0 all)

-- ---- values

items_within : {X : Type 0} (written : X → Data) (n : ℕ) → ((x : X) → depth (written x) ≤ n) → (xs : List X) → items_depth (items_of (map written xs)) ≤ n
items_within written n each [] = omega arith
items_within written n each (x ∷ xs) = joined (depth (written x)) (items_depth (items_of (map written xs))) n (each x) (items_within written n each xs)

array_within : {X : Type 0} (written : X → Data) (n : ℕ) → ((x : X) → depth (written x) ≤ n) → (xs : List X) → Within (suc n) (unless_empty written xs)
array_within written n each [] = tt
array_within written n each (x ∷ xs) = let all = items_within written n each (x ∷ xs) in omega (arith, all)

tables_within : {X : Type 0} (entries : X → List Entry) (n : ℕ) → ((x : X) → AreWithin n (entries x)) → (xs : List X) → Within (suc (suc n)) (tables entries xs)
tables_within entries n each xs =
    array_within (λ x. table (members_with (entries x))) (suc n) (λ x. let all = entries_within n (entries x) no_members (each x) (omega arith) in omega (arith, all)) xs

names_within : (words : List (List ℕ)) → Within 1 (names_data words)
names_within words = array_within string 0 (λ word. omega arith) words

zero_within : (n : ℕ) → Within 1 (unless_zero n)
zero_within n = by_test (n == 0)
  where
    by_test : (is_zero : Bool) → Within 1 (cond is_zero None (Some (number n)))
    by_test true = tt
    by_test false = omega arith

number_within : (n : Option ℕ) → Within 3 (number_data_if n)
number_within None = tt
number_within (Some n) = omega arith

true_within : (b : Bool) → Within 1 (when_true b)
true_within true = omega arith
true_within false = tt

-- ---- tables

kind_within : (kind : StimulusKind) → AreWithin 1 (kind_entries kind)
kind_within (Periodic period offset jitter) = (omega arith, (omega arith, (zero_within offset, (zero_within jitter, tt))))
kind_within (Sporadic least greatest) = (omega arith, (omega arith, (omega arith, tt)))
kind_within (Burst period offset count distance) = (omega arith, (omega arith, (zero_within offset, (omega arith, (omega arith, tt)))))

runnable_within : (r : RunnableDef) → AreWithin 1 (runnable_entries r)
runnable_within r = (omega arith, (omega arith, (omega arith, (true_within r.whole, (names_within r.reads, (names_within r.writes, tt))))))

task_within : (t : TaskDef) → AreWithin 3 (task_entries t)
task_within t = (omega arith, (omega arith, (omega arith, (omega arith, (omega arith, (number_within t.deadline, (tables_within runnable_entries 1 runnable_within t.runnables, tt)))))))

chain_within : (c : ChainDef) → AreWithin 1 (chain_entries c)
chain_within c = (omega arith, (names_within c.runnables, (names_within c.labels, tt)))

deeper : (v : Option Data) → Within 3 v → Within 5 v
deeper None within = tt
deeper (Some d) within = omega (arith, within)

model_within : (m : SystemModel) → AreWithin 5 (model_entries m)
model_within m = (
  omega arith,
  (
    omega arith,
    (
      deeper _ (tables_within core_table_entries 1 (λ core. (omega arith, tt)) m.cores),
      (
        deeper _ (tables_within stimulus_entries 1 (λ stimulus. (omega arith, kind_within stimulus.kind)) m.stimuli),
        (
          deeper _ (tables_within label_entries 1 (λ label. (omega arith, tt)) m.labels),
          (
            tables_within task_entries 3 task_within m.tasks,
            (
              deeper _ (tables_within chain_entries 1 chain_within m.chains),
              (
                deeper _ (tables_within requirement_entries 1 (λ r. (omega arith, (omega arith, (omega arith, (omega arith, tt))))) m.requirements),
                tt,
              ),
            ),
          ),
        ),
      ),
    ),
  ),
)

-- well within what a reader takes
pub document_is_shallow : (model : SystemModel) → members_depth (document model) ≤ 80
unfolding document
document_is_shallow model = let within = entries_within 5 (model_entries model) no_members (model_within model) (omega arith) in omega (arith, within)
