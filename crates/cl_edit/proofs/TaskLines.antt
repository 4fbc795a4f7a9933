-- The line of a new task: it is read as a task exactly where its words are those of the task.
use Rattle.std.proofs.Common.{◌≡◌, ℕ, ◌≤◌, true, false, Option, Some, None, List, [], ◌∷◌, ◌++◌, length, refl, sym, ap, ◌∙◌, subst, arith}
use Rattle.std.specs.Prelude.{codes, decimal, All, IfSome}
use Rattle.std.specs.List.{flat_map, list_all}
use Rattle.std.specs.Option.{option_and_then}
use Rattle.std.proofs.lemmas.List.{append-nil}
use Rattle.std.proofs.lemmas.List.Elements.{All-nil, All-cons, All-head, All-tail}
use Rattle.cl_model.specs.{declared.{limits.TheConstants.{MOST_PRIORITY, MOST_RUNNABLES, MOST_ACCESSES}, task.{RunnableDef.RunnableDef, TaskDef.TaskDef}}, Name.IsName, Ranges.{IsTime, IsRunnableInRange}, AreNamed.IsRunnableNamed, Kinds.access_word}
use Rattle.cl_edit.specs.{declared.{edit.Edit.{Edit, TheVariants.AddTask}, version.Version.TheVariants.{One, Two}}, Lines.{deadline_word, names_word, runnable_words, task_edit_words}, Reading.IsLineEdit, Inner.{Parts.{with_left, then_read}, LineReads.{runnable_in, runnables_in}}}
use Rattle.cl_edit.specs.Inner.LineReads.{with_runnables, task_head_in, task_in}
use Rattle.cl_edit.proofs.{FieldFacts.{is_word, name_field, time_field, priority_field, access_field, deadline_field, some_same}, NamesFacts.names_field, WordsFacts.{took, gave}, WordLists.{then_some, IsItem, AreGood, list_said, list_back}, SimpleLines.{Says, so_says, answer_of}}

-- ---- runnables

-- a runnable that words can say
pub record IsNewRunnable (r : RunnableDef) : Type 0 where
  pub in_range : IsRunnableInRange r
  pub named : IsRunnableNamed r
  pub not_whole : r.whole ≡ false

abbrev SaysRunnable : List (List ℕ) → RunnableDef → List (List ℕ) → Type 0
SaysRunnable words r left = (words ≡ runnable_words r ++ left) × IsNewRunnable r

runnable_said : (words : List (List ℕ)) (r : RunnableDef) (left : List (List ℕ)) → runnable_in words ≡ Some (r, left) → SaysRunnable words r left
runnable_said words r left is =
    let a = took name_field words _ _ is in
    let b = took time_field a.1 _ _ a.4 in
    let c = took time_field b.1 _ _ b.4 in
    let d = took (names_field MOST_ACCESSES) c.1 _ _ c.4 in
    let e = took (names_field MOST_ACCESSES) d.1 _ _ d.4 in
    let one : RunnableDef × List (List ℕ) = (record { name = a.0; least = b.0; greatest = c.0; whole = false; reads = d.0; writes = e.0 }, e.1) in
    let other : RunnableDef × List (List ℕ) = (r, left) in
    let same : one ≡ other = some_same one other e.4 in
    subst (λ (p : RunnableDef × List (List ℕ)). SaysRunnable words p.0 p.1) same (
      a.2 ∙ ap (λ w. a.0 ∷ w) (b.2 ∙ ap (λ w. decimal b.0 ∷ w) (c.2 ∙ ap (λ w. decimal c.0 ∷ w) (d.2 ∙ ap (λ w. names_word d.0 ∷ w) e.2))),
      record {
        in_range = record { least = b.3; greatest = c.3; reads = d.3.0; writes = e.3.0 };
        named = record { name = a.3; reads = d.3.1; writes = e.3.1 };
        not_whole = refl;
      },
    )

runnable_back : (r : RunnableDef) (left : List (List ℕ)) → IsNewRunnable r → runnable_in (runnable_words r ++ left) ≡ Some (r, left)
runnable_back r left new =
    gave name_field r.name _ _ new.named.name ∙ gave time_field r.least _ _ new.in_range.least ∙ gave time_field r.greatest _ _ new.in_range.greatest
    ∙ gave (names_field MOST_ACCESSES) r.reads _ _ (new.in_range.reads, new.named.reads)
    ∙ gave (names_field MOST_ACCESSES) r.writes _ _ (new.in_range.writes, new.named.writes)
    ∙ ap (λ b. answer (record r { whole = b })) (sym new.not_whole)
  where
    answer : RunnableDef → Option (RunnableDef × List (List ℕ))
    answer r = Some (r, left)

-- a runnable is read alike, whatever stands above it
abbrev pub runnable_read : List RunnableDef → List (List ℕ) → Option (RunnableDef × List (List ℕ))
runnable_read above words = runnable_in words

runnable_item : IsItem runnable_read runnable_words (λ above r. IsNewRunnable r)
runnable_item = record {
  said = λ above words r left is. runnable_said words r left is;
  back = λ above r left new. runnable_back r left new;
  some = λ r left none. cc;
}

all_new : (rs above : List RunnableDef) → AreGood (λ above r. IsNewRunnable r) rs above → All IsNewRunnable rs
all_new [] above good = All-nil IsNewRunnable
all_new (r ∷ rs) above good = All-cons IsNewRunnable r rs good.0 (all_new rs (above ++ r ∷ []) good.1)

good_each : (rs above : List RunnableDef) → All IsNewRunnable rs → AreGood (λ above r. IsNewRunnable r) rs above
good_each [] above new = tt
good_each (r ∷ rs) above new = (All-head IsNewRunnable r rs new, good_each rs (above ++ r ∷ []) (All-tail IsNewRunnable r rs new))

runnables_said : (words : List (List ℕ)) (rs : List RunnableDef) → runnables_in words ≡ Some rs
    → (words ≡ flat_map runnable_words rs) × (length rs ≤ MOST_RUNNABLES) × All IsNewRunnable rs
runnables_said words rs is =
    let said = list_said runnable_read runnable_words (λ above r. IsNewRunnable r) runnable_item MOST_RUNNABLES [] words rs is in
    (said.0, said.1, all_new rs [] said.2)

runnables_back : (rs : List RunnableDef) → length rs ≤ MOST_RUNNABLES → All IsNewRunnable rs → runnables_in (flat_map runnable_words rs) ≡ Some rs
runnables_back rs few new = list_back runnable_read runnable_words (λ above r. IsNewRunnable r) runnable_item MOST_RUNNABLES [] rs few (good_each rs [] new)

-- ---- the task

record IsHead (words : List (List ℕ)) (t : TaskDef) (left : List (List ℕ)) : Type 0 where
  words_are : words ≡ t.name ∷ t.core ∷ t.stimulus ∷ decimal t.priority ∷ access_word t.access ∷ deadline_word t.deadline ∷ left
  name : IsName t.name
  core : IsName t.core
  stimulus : IsName t.stimulus
  priority : t.priority ≤ MOST_PRIORITY
  deadline : IfSome t.deadline IsTime

head_said : (words : List (List ℕ)) (t : TaskDef) (left : List (List ℕ)) → task_head_in words ≡ Some (t, left) → IsHead words t left
head_said words t left is =
    let a = took name_field words _ _ is in
    let b = took name_field a.1 _ _ a.4 in
    let c = took name_field b.1 _ _ b.4 in
    let d = took priority_field c.1 _ _ c.4 in
    let e = took access_field d.1 _ _ d.4 in
    let f = took deadline_field e.1 _ _ e.4 in
    let one : TaskDef × List (List ℕ) = (record { name = a.0; core = b.0; stimulus = c.0; priority = d.0; access = e.0; deadline = f.0; runnables = [] }, f.1) in
    let other : TaskDef × List (List ℕ) = (t, left) in
    let same : one ≡ other = some_same one other f.4 in
    subst (λ (p : TaskDef × List (List ℕ)). IsHead words p.0 p.1) same (record {
      words_are = a.2 ∙ ap (λ w. a.0 ∷ w) (b.2 ∙ ap (λ w. b.0 ∷ w) (c.2 ∙ ap (λ w. c.0 ∷ w)
          (d.2 ∙ ap (λ w. decimal d.0 ∷ w) (e.2 ∙ ap (λ w. access_word e.0 ∷ w) f.2))));
      name = a.3;
      core = b.3;
      stimulus = c.3;
      priority = d.3.1;
      deadline = f.3;
    })

new_in_range : (rs : List RunnableDef) → All IsNewRunnable rs → All IsRunnableInRange rs
new_in_range rs new = λ k d within. (new k d within).in_range

new_named : (rs : List RunnableDef) → All IsNewRunnable rs → All IsRunnableNamed rs
new_named rs new = λ k d within. (new k d within).named

new_not_whole : (rs : List RunnableDef) → All IsNewRunnable rs → All (λ r. r.whole ≡ false) rs
new_not_whole rs new = λ k d within. (new k d within).not_whole

with_said : (words : List (List ℕ)) (t : TaskDef) (left : List (List ℕ)) (o : Option (List RunnableDef)) (edit : Edit) (behind : List (List ℕ)) → IsHead words t left
    → runnables_in left ≡ o → with_left [] (option_and_then (with_runnables t) o) ≡ answer_of edit behind → Says One (codes "task" ∷ words) edit behind
with_said words t left None edit behind head at is = absurd (cc)
with_said words t left (Some []) edit behind head at is = absurd (cc)
with_said words t left (Some (r ∷ rs)) edit behind head at is =
    let said = runnables_said left (r ∷ rs) at in
    so_says One (codes "task" ∷ words) (AddTask (record t { runnables = r ∷ rs })) [] edit behind is (
      record {
        in_range = record { priority = head.priority; deadline = head.deadline; count = said.1; runnables = new_in_range (r ∷ rs) said.2 };
        named = record { name = head.name; core = head.core; stimulus = head.stimulus; runnables = new_named (r ∷ rs) said.2 };
        sayable = (omega arith, new_not_whole (r ∷ rs) said.2);
        kind = refl;
      },
      ap (λ w. codes "task" ∷ w) (head.words_are ∙ ap (λ w. t.name ∷ t.core ∷ t.stimulus ∷ decimal t.priority ∷ access_word t.access ∷ deadline_word t.deadline ∷ w)
          (said.0 ∙ sym (append-nil (flat_map runnable_words (r ∷ rs))))),
    )

pub task_said : (words : List (List ℕ)) (edit : Edit) (left : List (List ℕ)) → task_in words ≡ Some (edit, left) → Says One (codes "task" ∷ words) edit left
task_said words edit left is =
    let a = then_some (task_head_in words) (λ task words. with_left [] (option_and_then (with_runnables task) (runnables_in words))) _ is in
    with_said words a.0 a.1 (runnables_in a.1) edit left (head_said words a.0 a.1 a.2) refl a.3

some_runnables : (t : TaskDef) (rs : List RunnableDef) → 1 ≤ length rs → with_left [] (with_runnables t rs) ≡ Some (AddTask (record t { runnables = rs }), [])
some_runnables t [] some = absurd (omega arith)
some_runnables t (r ∷ rs) some = refl

head_back : (t : TaskDef) (left : List (List ℕ)) → IsLineEdit Two (AddTask t)
    → task_head_in (t.name ∷ t.core ∷ t.stimulus ∷ decimal t.priority ∷ access_word t.access ∷ deadline_word t.deadline ∷ left) ≡ Some (record t { runnables = [] }, left)
head_back t left good =
    gave name_field t.name _ _ good.named.name ∙ gave name_field t.core _ _ good.named.core ∙ gave name_field t.stimulus _ _ good.named.stimulus
    ∙ gave priority_field t.priority _ _ (omega arith, good.in_range.priority) ∙ gave access_field t.access _ _ tt ∙ gave deadline_field t.deadline _ _ good.in_range.deadline

pub are_new : (t : TaskDef) → IsLineEdit Two (AddTask t) → All IsNewRunnable t.runnables
are_new t good = λ k d within. record {
  in_range = good.in_range.runnables k d within;
  named = good.named.runnables k d within;
  not_whole = good.sayable.1 k d within;
}

pub task_back : (t : TaskDef) → IsLineEdit Two (AddTask t) → task_in (task_edit_words t) ≡ Some (AddTask t, [])
task_back t good =
    ap (λ o. then_read o (λ task words. with_left [] (option_and_then (with_runnables task) (runnables_in words)))) (head_back t (flat_map runnable_words t.runnables) good)
    ∙ ap (λ o. with_left [] (option_and_then (with_runnables (record t { runnables = [] })) o)) (runnables_back t.runnables good.in_range.count (are_new t good))
    ∙ some_runnables (record t { runnables = [] }) t.runnables good.sayable.0

-- ---- its words

pub runnables_are_words : (rs : List RunnableDef) → All IsNewRunnable rs → list_all is_word (flat_map runnable_words rs) ≡ true
runnables_are_words [] new = refl
runnables_are_words (r ∷ rs) new =
    let first = All-head IsNewRunnable r rs new in
    rw (
      name_field.word r.name first.named.name,
      time_field.word r.least first.in_range.least,
      time_field.word r.greatest first.in_range.greatest,
      (names_field MOST_ACCESSES).word r.reads (first.in_range.reads, first.named.reads),
      (names_field MOST_ACCESSES).word r.writes (first.in_range.writes, first.named.writes),
      runnables_are_words rs (All-tail IsNewRunnable r rs new),
    ) refl
