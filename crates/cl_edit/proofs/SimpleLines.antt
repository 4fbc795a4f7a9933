-- Lines of fixed length: each is read as an edit exactly where its words are those of the edit.
use Rattle.std.proofs.Common.{◌≡◌, Option, Some, List, ℕ, Bool, [], ◌∷◌, ◌++◌, refl, sym, ap, ◌∙◌, subst, arith}
use Rattle.std.specs.Prelude.{codes, decimal}
use Rattle.cl_model.specs.{declared.{limits.TheConstants.{MOST_STEPS, MOST_HOPS}, task.AccessKind.AccessKind, chain.ChainDef.ChainDef}, Name.IsName, Kinds.access_word}
use Rattle.cl_edit.specs.{declared.{edit.Edit.{Edit, TheVariants.{Range, Whole, Period, Offset, Jitter, Distances, Burst, Deadline, Swap, Move, Kind, DropTask, AddChain, DropChain}}, version.Version.{Version, TheVariants.{One, Two}}}, Lines.{flag_word, deadline_word, names_word}}
use Rattle.cl_edit.specs.{Lines.edit_words, Reading.IsLineEdit, Inner.LineReads.{name_line, read_name_and_word, two_word_line, range_in, whole_in, period_in, offset_in, jitter_in, distances_in, burst_in, deadline_line_in, swap_in, move_in, access_line_in, drop_task_in, drop_chain_in}}
use Rattle.cl_edit.specs.Inner.LineReads.{chain_in}
use Rattle.cl_edit.proofs.{FieldFacts.{IsField, name_field, time_field, ticks_field, priority_field, count_field, flag_field, access_field, deadline_field}, NamesFacts.names_field, WordsFacts.{took, gave, three_words}}

-- these words of a line are those of an edit, before others that are left
abbrev pub Says : Version → List (List ℕ) → Edit → List (List ℕ) → Type 0
Says version words edit left = IsLineEdit version edit × (words ≡ edit_words edit ++ left)

-- an edit, and the words that are left
abbrev pub answer_of : Edit → List (List ℕ) → Option (Edit × List (List ℕ))
answer_of edit left = Some (edit, left)

pub so_says : (version : Version) (words : List (List ℕ)) (one : Edit) (here : List (List ℕ)) (edit : Edit) (left : List (List ℕ))
    → answer_of one here ≡ answer_of edit left → Says version words one here → Says version words edit left
so_says version words one here edit left is says =
    let first : Edit × List (List ℕ) = (one, here) in
    let second : Edit × List (List ℕ) = (edit, left) in
    let same : first ≡ second = cc in
    subst (λ (p : Edit × List (List ℕ)). Says version words p.0 p.1) same says

-- the words behind a keyword are those of the edit behind its own
pub says_by : (version : Version) (code : List ℕ) (words said left : List (List ℕ)) (one : Edit) → IsLineEdit version one → edit_words one ≡ code ∷ said
    → words ≡ said ++ left → Says version (code ∷ words) one left
says_by version code words said left one good own is = (good, ap (λ w. code ∷ w) is ∙ ap (λ w. w ++ left) (sym own))

-- ---- lines of a name and of up to two words behind it

pub name_said : (version : Version) (code : List ℕ) (make : List ℕ → Edit) → ((name : List ℕ) → IsName name → IsLineEdit version (make name))
    → ((name : List ℕ) → edit_words (make name) ≡ code ∷ name ∷ [])
    → (words : List (List ℕ)) (edit : Edit) (left : List (List ℕ)) → name_line make words ≡ Some (edit, left) → Says version (code ∷ words) edit left
name_said version code make good are words edit left is =
    let a = took name_field words _ _ is in
    so_says version _ (make a.0) a.1 edit left a.4 (says_by version code words (a.0 ∷ []) a.1 (make a.0) (good a.0 a.3) (are a.0) a.2)

word_said : {X : Type 0} {read : List ℕ → Option X} {write : X → List ℕ} {Good : X → Type 0} → IsField read write Good
    → (version : Version) (code : List ℕ) (make : List ℕ → X → Edit) → ((name : List ℕ) (x : X) → IsName name → Good x → IsLineEdit version (make name x))
    → ((name : List ℕ) (x : X) → edit_words (make name x) ≡ code ∷ name ∷ write x ∷ [])
    → (words : List (List ℕ)) (edit : Edit) (left : List (List ℕ)) → read_name_and_word read make words ≡ Some (edit, left) → Says version (code ∷ words) edit left
word_said {write = write} field version code make good are words edit left is =
    let a = took name_field words _ _ is in
    let b = took field a.1 _ _ a.4 in
    so_says version _ (make a.0 b.0) b.1 edit left b.4
    (says_by version code words (a.0 ∷ write b.0 ∷ []) b.1 (make a.0 b.0) (good a.0 b.0 a.3 b.3) (are a.0 b.0) (a.2 ∙ ap (λ w. a.0 ∷ w) b.2))

two_words_said : {X Y : Type 0} {read : List ℕ → Option X} {write : X → List ℕ} {Good : X → Type 0} {read_next : List ℕ → Option Y} {write_next : Y → List ℕ}
    {GoodNext : Y → Type 0} → IsField read write Good → IsField read_next write_next GoodNext
    → (version : Version) (code : List ℕ) (make : List ℕ → X → Y → Edit) → ((name : List ℕ) (x : X) (y : Y) → IsName name → Good x → GoodNext y → IsLineEdit version (make name x y))
    → ((name : List ℕ) (x : X) (y : Y) → edit_words (make name x y) ≡ code ∷ name ∷ write x ∷ write_next y ∷ [])
    → (words : List (List ℕ)) (edit : Edit) (left : List (List ℕ)) → two_word_line read read_next make words ≡ Some (edit, left)
    → Says version (code ∷ words) edit left
two_words_said {write = write} {write_next = write_next} field field_next version code make good are words edit left is =
    let a = took name_field words _ _ is in
    let b = took field a.1 _ _ a.4 in
    let c = took field_next b.1 _ _ b.4 in
    so_says version _ (make a.0 b.0 c.0) c.1 edit left c.4
    (says_by version code words (a.0 ∷ write b.0 ∷ write_next c.0 ∷ []) c.1 (make a.0 b.0 c.0) (good a.0 b.0 c.0 a.3 b.3 c.3) (are a.0 b.0 c.0)
    (three_words words a.1 b.1 c.1 a.0 (write b.0) (write_next c.0) a.2 b.2 c.2))

-- ---- each line

pub range_said : (words : List (List ℕ)) (edit : Edit) (left : List (List ℕ)) → range_in words ≡ Some (edit, left) → Says One (codes "range" ∷ words) edit left
range_said =
    two_words_said time_field time_field One (codes "range") Range
    (λ name x y named good good_next. record { in_range = (good, good_next); named = named; sayable = tt; kind = refl }) (λ name x y. refl)

pub range_back : (runnable : List ℕ) (least : ℕ) (greatest : ℕ) → IsLineEdit Two (Range runnable least greatest)
    → range_in (runnable ∷ decimal least ∷ decimal greatest ∷ []) ≡ Some (Range runnable least greatest, [])
range_back runnable least greatest good =
    gave name_field runnable _ _ good.named ∙ gave time_field least _ _ good.in_range.0 ∙ gave time_field greatest _ _ good.in_range.1

pub whole_said : (words : List (List ℕ)) (edit : Edit) (left : List (List ℕ)) → whole_in words ≡ Some (edit, left) → Says One (codes "whole" ∷ words) edit left
whole_said = word_said flag_field One (codes "whole") Whole (λ name x named good. record { in_range = tt; named = named; sayable = tt; kind = refl }) (λ name x. refl)

pub whole_back : (runnable : List ℕ) (whole : Bool) → IsLineEdit Two (Whole runnable whole) → whole_in (runnable ∷ flag_word whole ∷ []) ≡ Some (Whole runnable whole, [])
whole_back runnable whole good = gave name_field runnable _ _ good.named ∙ gave flag_field whole _ _ tt

pub period_said : (words : List (List ℕ)) (edit : Edit) (left : List (List ℕ)) → period_in words ≡ Some (edit, left) → Says One (codes "period" ∷ words) edit left
period_said =
    word_said time_field One (codes "period") Period (λ name x named good. record { in_range = good; named = named; sayable = tt; kind = refl }) (λ name x. refl)

pub period_back : (stimulus : List ℕ) (period : ℕ) → IsLineEdit Two (Period stimulus period)
    → period_in (stimulus ∷ decimal period ∷ []) ≡ Some (Period stimulus period, [])
period_back stimulus period good = gave name_field stimulus _ _ good.named ∙ gave time_field period _ _ good.in_range

pub offset_said : (words : List (List ℕ)) (edit : Edit) (left : List (List ℕ)) → offset_in words ≡ Some (edit, left) → Says One (codes "offset" ∷ words) edit left
offset_said =
    word_said ticks_field One (codes "offset") Offset (λ name x named good. record { in_range = good.1; named = named; sayable = tt; kind = refl }) (λ name x. refl)

pub offset_back : (stimulus : List ℕ) (offset : ℕ) → IsLineEdit Two (Offset stimulus offset)
    → offset_in (stimulus ∷ decimal offset ∷ []) ≡ Some (Offset stimulus offset, [])
offset_back stimulus offset good = gave name_field stimulus _ _ good.named ∙ gave ticks_field offset _ _ (omega arith, good.in_range)

pub jitter_said : (words : List (List ℕ)) (edit : Edit) (left : List (List ℕ)) → jitter_in words ≡ Some (edit, left) → Says One (codes "jitter" ∷ words) edit left
jitter_said =
    word_said ticks_field One (codes "jitter") Jitter (λ name x named good. record { in_range = good.1; named = named; sayable = tt; kind = refl }) (λ name x. refl)

pub jitter_back : (stimulus : List ℕ) (jitter : ℕ) → IsLineEdit Two (Jitter stimulus jitter)
    → jitter_in (stimulus ∷ decimal jitter ∷ []) ≡ Some (Jitter stimulus jitter, [])
jitter_back stimulus jitter good = gave name_field stimulus _ _ good.named ∙ gave ticks_field jitter _ _ (omega arith, good.in_range)

pub distances_said : (words : List (List ℕ)) (edit : Edit) (left : List (List ℕ)) → distances_in words ≡ Some (edit, left)
    → Says One (codes "distances" ∷ words) edit left
distances_said =
    two_words_said time_field time_field One (codes "distances") Distances
    (λ name x y named good good_next. record { in_range = (good, good_next); named = named; sayable = tt; kind = refl }) (λ name x y. refl)

pub distances_back : (stimulus : List ℕ) (least : ℕ) (greatest : ℕ) → IsLineEdit Two (Distances stimulus least greatest)
    → distances_in (stimulus ∷ decimal least ∷ decimal greatest ∷ []) ≡ Some (Distances stimulus least greatest, [])
distances_back stimulus least greatest good =
    gave name_field stimulus _ _ good.named ∙ gave time_field least _ _ good.in_range.0 ∙ gave time_field greatest _ _ good.in_range.1

pub burst_said : (words : List (List ℕ)) (edit : Edit) (left : List (List ℕ)) → burst_in words ≡ Some (edit, left) → Says One (codes "burst" ∷ words) edit left
burst_said words edit left is =
    let a = took name_field words _ _ is in
    let b = took time_field a.1 _ _ a.4 in
    let c = took count_field b.1 _ _ b.4 in
    let d = took time_field c.1 _ _ c.4 in
    so_says One _ (Burst a.0 b.0 c.0 d.0) d.1 edit left d.4
    (says_by One (codes "burst") words (a.0 ∷ decimal b.0 ∷ decimal c.0 ∷ decimal d.0 ∷ []) d.1 (Burst a.0 b.0 c.0 d.0)
    (record { in_range = (b.3, c.3, d.3); named = a.3; sayable = tt; kind = refl }) refl
    (a.2 ∙ ap (λ w. a.0 ∷ w) (three_words a.1 b.1 c.1 d.1 (decimal b.0) (decimal c.0) (decimal d.0) b.2 c.2 d.2)))

pub burst_back : (stimulus : List ℕ) (period : ℕ) (count : ℕ) (distance : ℕ) → IsLineEdit Two (Burst stimulus period count distance)
    → burst_in (stimulus ∷ decimal period ∷ decimal count ∷ decimal distance ∷ []) ≡ Some (Burst stimulus period count distance, [])
burst_back stimulus period count distance good =
    gave name_field stimulus _ _ good.named ∙ gave time_field period _ _ good.in_range.0 ∙ gave count_field count _ _ good.in_range.1
    ∙ gave time_field distance _ _ good.in_range.2

pub deadline_said : (words : List (List ℕ)) (edit : Edit) (left : List (List ℕ)) → deadline_line_in words ≡ Some (edit, left)
    → Says One (codes "deadline" ∷ words) edit left
deadline_said =
    word_said deadline_field One (codes "deadline") Deadline (λ name x named good. record { in_range = good; named = named; sayable = tt; kind = refl }) (λ name x. refl)

pub deadline_back : (task : List ℕ) (deadline : Option ℕ) → IsLineEdit Two (Deadline task deadline)
    → deadline_line_in (task ∷ deadline_word deadline ∷ []) ≡ Some (Deadline task deadline, [])
deadline_back task deadline good = gave name_field task _ _ good.named ∙ gave deadline_field deadline _ _ good.in_range

pub swap_said : (words : List (List ℕ)) (edit : Edit) (left : List (List ℕ)) → swap_in words ≡ Some (edit, left) → Says One (codes "swap" ∷ words) edit left
swap_said =
    word_said name_field One (codes "swap") Swap (λ name x named good. record { in_range = tt; named = (named, good); sayable = tt; kind = refl }) (λ name x. refl)

pub swap_back : (one : List ℕ) (other : List ℕ) → IsLineEdit Two (Swap one other) → swap_in (one ∷ other ∷ []) ≡ Some (Swap one other, [])
swap_back one other good = gave name_field one _ _ good.named.0 ∙ gave name_field other _ _ good.named.1

pub move_said : (words : List (List ℕ)) (edit : Edit) (left : List (List ℕ)) → move_in words ≡ Some (edit, left) → Says One (codes "move" ∷ words) edit left
move_said =
    two_words_said name_field priority_field One (codes "move") Move
    (λ name x y named good good_next. record { in_range = good_next.1; named = (named, good); sayable = tt; kind = refl }) (λ name x y. refl)

pub move_back : (task : List ℕ) (core : List ℕ) (priority : ℕ) → IsLineEdit Two (Move task core priority)
    → move_in (task ∷ core ∷ decimal priority ∷ []) ≡ Some (Move task core priority, [])
move_back task core priority good =
    gave name_field task _ _ good.named.0 ∙ gave name_field core _ _ good.named.1 ∙ gave priority_field priority _ _ (omega arith, good.in_range)

pub access_said : (words : List (List ℕ)) (edit : Edit) (left : List (List ℕ)) → access_line_in words ≡ Some (edit, left) → Says One (codes "access" ∷ words) edit left
access_said = word_said access_field One (codes "access") Kind (λ name x named good. record { in_range = tt; named = named; sayable = tt; kind = refl }) (λ name x. refl)

pub access_back : (task : List ℕ) (access : AccessKind) → IsLineEdit Two (Kind task access)
    → access_line_in (task ∷ access_word access ∷ []) ≡ Some (Kind task access, [])
access_back task access good = gave name_field task _ _ good.named ∙ gave access_field access _ _ tt

pub drop_task_said : (words : List (List ℕ)) (edit : Edit) (left : List (List ℕ)) → drop_task_in words ≡ Some (edit, left)
    → Says One (codes "drop-task" ∷ words) edit left
drop_task_said = name_said One (codes "drop-task") DropTask (λ name named. record { in_range = tt; named = named; sayable = tt; kind = refl }) (λ name. refl)

pub drop_task_back : (task : List ℕ) → IsLineEdit Two (DropTask task) → drop_task_in (task ∷ []) ≡ Some (DropTask task, [])
drop_task_back task good = gave name_field task _ _ good.named

pub drop_chain_said : (words : List (List ℕ)) (edit : Edit) (left : List (List ℕ)) → drop_chain_in words ≡ Some (edit, left)
    → Says One (codes "drop-chain" ∷ words) edit left
drop_chain_said = name_said One (codes "drop-chain") DropChain (λ name named. record { in_range = tt; named = named; sayable = tt; kind = refl }) (λ name. refl)

pub drop_chain_back : (chain : List ℕ) → IsLineEdit Two (DropChain chain) → drop_chain_in (chain ∷ []) ≡ Some (DropChain chain, [])
drop_chain_back chain good = gave name_field chain _ _ good.named

-- ---- the line of a new chain

abbrev new_chain : (name : List ℕ) → (runnables labels : List (List ℕ)) → Edit
new_chain name runnables labels = AddChain (record { name = name; runnables = runnables; labels = labels })

pub chain_said : (words : List (List ℕ)) (edit : Edit) (left : List (List ℕ)) → chain_in words ≡ Some (edit, left) → Says One (codes "chain" ∷ words) edit left
chain_said = two_words_said (names_field MOST_STEPS) (names_field MOST_HOPS) One (codes "chain") new_chain
    (λ name runnables labels named good good_next. record {
      in_range = record { runnables = good.0; labels = good_next.0 };
      named = record { name = named; runnables = good.1; labels = good_next.1 };
      sayable = tt;
      kind = refl;
    })
    (λ name runnables labels. refl)

pub chain_back : (chain : ChainDef) → IsLineEdit Two (AddChain chain)
    → chain_in (chain.name ∷ names_word chain.runnables ∷ names_word chain.labels ∷ []) ≡ Some (AddChain chain, [])
chain_back chain good =
    gave name_field chain.name _ _ good.named.name ∙ gave (names_field MOST_STEPS) chain.runnables _ _ (good.in_range.runnables, good.named.runnables)
    ∙ gave (names_field MOST_HOPS) chain.labels _ _ (good.in_range.labels, good.named.labels)
