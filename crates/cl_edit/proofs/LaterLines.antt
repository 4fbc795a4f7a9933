-- Lines that version 2 adds: each is read as an edit exactly where its words are those of the edit.
use Rattle.std.proofs.Common.{◌≡◌, ℕ, zero, suc, ◌≤◌, Bool, true, false, Option, Some, None, List, [], ◌∷◌, ◌++◌, length, take, get_or, append_assoc, refl, sym, ap, ◌∙◌, subst, arith}
use Rattle.std.specs.Prelude.{codes, decimal, cond, All, Err}
use Rattle.std.specs.List.{flat_map, list_all}
use Rattle.std.specs.Option.{option_and_then}
use Rattle.std.proofs.lemmas.List.{append-nil}
use Rattle.std.proofs.lemmas.List.Elements.{All-nil, All-cons, All-head, All-tail}
use Rattle.cl_model.specs.{declared.{limits.TheConstants.{MOST_PRIORITY, MOST_TASKS}, chain.RequirementDef.RequirementDef}, Kinds.requirement_word, Name.IsName, Named.has_name, NameSets.{names_with, AreNew}}
use Rattle.cl_edit.specs.{declared.{edit.{Edit.{Edit, TheVariants.{Priorities, Requirement, DropRequirement}}, NamedPriority.NamedPriority}, version.Version.TheVariants.Two, fault.Unread.{Unread, TheVariants.{Bad, NoMemory}}}, Lines.{priority_words, requirement_words}, Reading.IsLineEdit}
use Rattle.cl_edit.specs.Inner.{Parts.{with_left, then_read, ReadsUpTo}, LineReads.{read_priority, unless_above, new_priority_in, tasks_of, priority_list_in, with_priorities_read, priorities_in, requirement_in, drop_requirement_in}}
use Rattle.cl_edit.proofs.{FieldFacts.{is_word, name_field, priority_field, most_field, requirement_field, some_same}, WordsFacts.{took, gave, three_words}, WordLists.{then_some, IsItem, AreGood, list_said, list_back}, SimpleLines.{Says, so_says, says_by, answer_of, name_said}}

-- ---- requirements

pub requirement_said : (words : List (List ℕ)) (edit : Edit) (left : List (List ℕ)) → requirement_in words ≡ Some (edit, left)
    → Says Two (codes "requirement" ∷ words) edit left
requirement_said words edit left is =
    let a = took name_field words _ _ is in
    let b = took name_field a.1 _ _ a.4 in
    let c = took requirement_field b.1 _ _ b.4 in
    let d = took most_field c.1 _ _ c.4 in
    let one : Edit = Requirement (record { name = a.0; chain = b.0; kind = c.0; most = d.0 }) in
    so_says Two _ one d.1 edit left d.4
    (says_by Two (codes "requirement") words (a.0 ∷ b.0 ∷ requirement_word c.0 ∷ decimal d.0 ∷ []) d.1 one
    (record { in_range = d.3.1; named = record { name = a.3; chain = b.3 }; sayable = tt; kind = tt }) refl
    (a.2 ∙ ap (λ w. a.0 ∷ w) (three_words a.1 b.1 c.1 d.1 b.0 (requirement_word c.0) (decimal d.0) b.2 c.2 d.2)))

pub requirement_back : (r : RequirementDef) → IsLineEdit Two (Requirement r) → requirement_in (requirement_words r) ≡ Some (Requirement r, [])
requirement_back r good =
    gave name_field r.name _ _ good.named.name ∙ gave name_field r.chain _ _ good.named.chain ∙ gave requirement_field r.kind _ _ tt
    ∙ gave most_field r.most _ _ (omega arith, good.in_range)

pub drop_requirement_said : (words : List (List ℕ)) (edit : Edit) (left : List (List ℕ)) → drop_requirement_in words ≡ Some (edit, left)
    → Says Two (codes "drop-requirement" ∷ words) edit left
drop_requirement_said =
    name_said Two (codes "drop-requirement") DropRequirement (λ name named. record { in_range = tt; named = named; sayable = tt; kind = tt }) (λ name. refl)

pub drop_requirement_back : (requirement : List ℕ) → IsLineEdit Two (DropRequirement requirement)
    → drop_requirement_in (requirement ∷ []) ≡ Some (DropRequirement requirement, [])
drop_requirement_back requirement good = gave name_field requirement _ _ good.named

-- ---- one priority

pub record IsGoodPriority (p : NamedPriority) : Type 0 where
  pub named : IsName p.task
  pub in_range : p.priority ≤ MOST_PRIORITY

abbrev SaysPriority : List (List ℕ) → NamedPriority → List (List ℕ) → Type 0
SaysPriority words p left = (words ≡ priority_words p ++ left) × IsGoodPriority p

priority_said : (words : List (List ℕ)) (p : NamedPriority) (left : List (List ℕ)) → read_priority words ≡ Some (p, left) → SaysPriority words p left
priority_said words p left is =
    let a = took name_field words _ _ is in
    let b = took priority_field a.1 _ _ a.4 in
    let one : NamedPriority × List (List ℕ) = (record { task = a.0; priority = b.0 }, b.1) in
    let other : NamedPriority × List (List ℕ) = (p, left) in
    let same : one ≡ other = some_same one other b.4 in
    subst (λ (q : NamedPriority × List (List ℕ)). SaysPriority words q.0 q.1) same (a.2 ∙ ap (λ w. a.0 ∷ w) b.2, record { named = a.3; in_range = b.3.1 })

priority_back : (p : NamedPriority) (left : List (List ℕ)) → IsGoodPriority p → read_priority (priority_words p ++ left) ≡ Some (p, left)
priority_back p left good = gave name_field p.task _ _ good.named ∙ gave priority_field p.priority _ _ (omega arith, good.in_range)

-- ---- priorities, none of a task that stands above

abbrev IsNewPriority : List NamedPriority → NamedPriority → Type 0
IsNewPriority above p = IsGoodPriority p × (has_name p.task (tasks_of above) ≡ false)

abbrev Priority : Type 0
Priority = NamedPriority × List (List ℕ)

abbrev unless : Bool → NamedPriority → List (List ℕ) → Option Priority
unless there p left = cond there None (Some (p, left))

-- what is read of one, by what is read of its words
pub unread_priority : (above : List NamedPriority) (words left : List (List ℕ)) (fault : Unread) → ReadsUpTo {X = NamedPriority} (Err fault) left (read_priority words)
    → ReadsUpTo {X = NamedPriority} (Err fault) left (new_priority_in above words)
unread_priority above words left Bad bad = ap (λ o. then_read o (unless_above above)) bad
unread_priority above words left NoMemory bad = tt

pub twice : (above : List NamedPriority) (words left : List (List ℕ)) (p : NamedPriority) → read_priority words ≡ Some (p, left) → has_name p.task (tasks_of above) ≡ true
    → new_priority_in above words ≡ None
twice above words left p is there = ap (λ o. then_read o (unless_above above)) is ∙ ap (λ b. unless b p left) there

pub new_one : (above : List NamedPriority) (words left : List (List ℕ)) (p : NamedPriority) → read_priority words ≡ Some (p, left)
    → has_name p.task (tasks_of above) ≡ false
    → new_priority_in above words ≡ Some (p, left)
new_one above words left p is new = ap (λ o. then_read o (unless_above above)) is ∙ ap (λ b. unless b p left) new

by_name : (there : Bool) (one other : Priority) → unless there one.0 one.1 ≡ Some other → (there ≡ false) × (one ≡ other)
by_name true one other is = absurd (cc)
by_name false one other is = (refl, some_same one other is)

new_said : (above : List NamedPriority) (words : List (List ℕ)) (p : NamedPriority) (left : List (List ℕ)) → new_priority_in above words ≡ Some (p, left)
    → (words ≡ priority_words p ++ left) × IsNewPriority above p
new_said above words p left is =
    let other : Priority = (p, left) in
    let a = then_some (read_priority words) (unless_above above) other is in
    let one : Priority = (a.0, a.1) in
    let new : (has_name a.0.task (tasks_of above) ≡ false) × (one ≡ other) = by_name (has_name a.0.task (tasks_of above)) one other a.3 in
    let first = priority_said words a.0 a.1 a.2 in
    subst (λ (q : Priority). (words ≡ priority_words q.0 ++ q.1) × IsNewPriority above q.0) new.1 (first.0, (first.1, new.0))

new_back : (above : List NamedPriority) (p : NamedPriority) (left : List (List ℕ)) → IsNewPriority above p
    → new_priority_in above (priority_words p ++ left) ≡ Some (p, left)
new_back above p left good = new_one above (priority_words p ++ left) left p (priority_back p left good.0) good.1

priority_item : IsItem new_priority_in priority_words IsNewPriority
priority_item = record { said = new_said; back = new_back; some = λ p left none. cc }

-- names that are new, one after another
new_first : (others : List (List ℕ)) (name : List ℕ) (names : List (List ℕ)) → has_name name others ≡ false → AreNew (others ++ name ∷ []) names
    → AreNew others (name ∷ names)
new_first others name names new more zero within = ap (has_name name) (append-nil others) ∙ new
new_first others name names new more (suc k) within =
    ap (has_name (get_or names k [])) (sym (append_assoc others (name ∷ []) (take k names))) ∙ more k (omega arith)

first_new : (others : List (List ℕ)) (name : List ℕ) (names : List (List ℕ)) → AreNew others (name ∷ names)
    → (has_name name others ≡ false) × AreNew (others ++ name ∷ []) names
first_new others name names new = (
  ap (has_name name) (sym (append-nil others)) ∙ new zero (omega arith),
  λ k within. ap (has_name (get_or names k [])) (append_assoc others (name ∷ []) (take k names)) ∙ new (suc k) (omega arith),
)

tasks_more : (above : List NamedPriority) (p : NamedPriority) → tasks_of (above ++ p ∷ []) ≡ tasks_of above ++ p.task ∷ []
tasks_more [] p = refl
tasks_more (q ∷ above) p = ap (λ names. q.task ∷ names) (tasks_more above p)

-- the names of their tasks, where that of the new one is added
pub named_more : (above : List NamedPriority) (p : NamedPriority) (old new : List (List ℕ)) → old ≡ tasks_of above → has_name p.task old ≡ false
    → new ≡ names_with p.task old
    → new ≡ tasks_of (above ++ p ∷ [])
named_more above p old new are fresh is =
    is ∙ ap (λ there. cond there old (old ++ p.task ∷ [])) fresh ∙ ap (λ names. names ++ p.task ∷ []) are ∙ sym (tasks_more above p)

all_good : (ps above : List NamedPriority) → AreGood IsNewPriority ps above → All IsGoodPriority ps × AreNew (tasks_of above) (tasks_of ps)
all_good [] above good = (All-nil IsGoodPriority, λ k within. absurd (omega arith))
all_good (p ∷ ps) above good =
    let more = all_good ps (above ++ p ∷ []) good.1 in
    (All-cons IsGoodPriority p ps good.0.0 more.0, new_first (tasks_of above) p.task (tasks_of ps) good.0.1 (subst (λ names. AreNew names (tasks_of ps)) (tasks_more above p) more.1))

good_all : (ps above : List NamedPriority) → All IsGoodPriority ps → AreNew (tasks_of above) (tasks_of ps) → AreGood IsNewPriority ps above
good_all [] above good new = tt
good_all (p ∷ ps) above good new =
    let first = first_new (tasks_of above) p.task (tasks_of ps) new in (
      (All-head IsGoodPriority p ps good, first.0),
      good_all ps (above ++ p ∷ []) (All-tail IsGoodPriority p ps good) (subst (λ names. AreNew names (tasks_of ps)) (sym (tasks_more above p)) first.1),
    )

-- ---- the line of priorities

with_said : (words : List (List ℕ)) (o : Option (List NamedPriority)) (edit : Edit) (behind : List (List ℕ)) → priority_list_in words ≡ o
    → with_left [] (option_and_then with_priorities_read o) ≡ answer_of edit behind → Says Two (codes "priorities" ∷ words) edit behind
with_said words None edit behind at is = absurd (cc)
with_said words (Some []) edit behind at is = absurd (cc)
with_said words (Some (p ∷ ps)) edit behind at is =
    let said = list_said new_priority_in priority_words IsNewPriority priority_item MOST_TASKS [] words (p ∷ ps) at in
    let good = all_good (p ∷ ps) [] said.2 in
    so_says Two (codes "priorities" ∷ words) (Priorities (p ∷ ps)) [] edit behind is (
      record {
        in_range = record { few = said.1; each = λ k d within. (good.0 k d within).in_range };
        named = λ k d within. (good.0 k d within).named;
        sayable = (omega arith, good.1);
        kind = tt;
      },
      ap (λ w. codes "priorities" ∷ w) (said.0 ∙ sym (append-nil (flat_map priority_words (p ∷ ps)))),
    )

pub priorities_said : (words : List (List ℕ)) (edit : Edit) (left : List (List ℕ)) → priorities_in words ≡ Some (edit, left)
    → Says Two (codes "priorities" ∷ words) edit left
priorities_said words edit left is = with_said words (priority_list_in words) edit left refl is

pub are_good : (ps : List NamedPriority) → IsLineEdit Two (Priorities ps) → All IsGoodPriority ps
are_good ps good = λ k d within. record { named = good.named k d within; in_range = good.in_range.each k d within }

some_priorities : (ps : List NamedPriority) → 1 ≤ length ps → with_left [] (with_priorities_read ps) ≡ Some (Priorities ps, [])
some_priorities [] some = absurd (omega arith)
some_priorities (p ∷ ps) some = refl

pub priorities_back : (ps : List NamedPriority) → IsLineEdit Two (Priorities ps) → priorities_in (flat_map priority_words ps) ≡ Some (Priorities ps, [])
priorities_back ps good =
    ap (λ o. with_left [] (option_and_then with_priorities_read o))
    (list_back new_priority_in priority_words IsNewPriority priority_item MOST_TASKS [] ps good.in_range.few (good_all ps [] (are_good ps good) good.sayable.1))
    ∙ some_priorities ps good.sayable.0

pub priorities_are_words : (ps : List NamedPriority) → All IsGoodPriority ps → list_all is_word (flat_map priority_words ps) ≡ true
priorities_are_words [] good = refl
priorities_are_words (p ∷ ps) good =
    let first = All-head IsGoodPriority p ps good in
    rw (
      name_field.word p.task first.named,
      priority_field.word p.priority (omega arith, first.in_range),
      priorities_are_words ps (All-tail IsGoodPriority p ps good),
    ) refl
