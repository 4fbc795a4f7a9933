-- The document of a model in range whose names are names is plain.
use Rattle.std.proofs.Common.{◌≡◌, ℕ, ◌≤◌, Bool, true, false, cond, List, [], ◌∷◌, map, get_or, All, Option, Some, None, Ordering, Less, Equal, Greater, refl, sym, ap, ◌∙◌, zero, suc, arith}
use Rattle.std.specs.Prelude.{IfSome, ◌==◌, nat_lt}
use Rattle.std.specs.List.{AllByRecursion, list_all}
use Rattle.std.proofs.lemmas.Bool.Decides.{nat_tests}
use Rattle.cl_model.proofs.ListFacts.{both_pass}
use Rattle.std.specs.Ordering.{nat_cmp, is_lt, match_ordering, ordering_reverse}
use Rattle.std.specs.Cmp.Lexicographic.{slice_cmp}
use Rattle.std.specs.Str.{IsAscii}
use Rattle.std.proofs.lemmas.Cmp.{nat_list_cmp_total}
use Rattle.std.proofs.lemmas.List.Elements.{recursion_from_All}
use Rattle.toml.specs.{Data.{Data, string, table, Members, no_members, member, is_before}, View.items_of}
use Rattle.toml_writer.specs.Text as written
use Rattle.cl_model.specs.declared.{limits.TheConstants.MOST_REQUIRED, chain.{ChainDef.ChainDef, LengthKind.TheVariants.{Reaction, Age, Reduced}, RequirementDef.RequirementDef, RequirementKind.{RequirementKind, TheVariants.{Length, Delay}}}, model.SystemModel.SystemModel, place.Key.Key}
use Rattle.cl_model.specs.{declared.{stimulus.StimulusKind.{StimulusKind, TheVariants.{Periodic, Sporadic, Burst}}, task.{AccessKind.{AccessKind, TheVariants.{Explicit, Implicit, Timed}}, RunnableDef.RunnableDef, TaskDef.TaskDef}}, AreNamed.{IsRunnableNamed, IsTaskNamed, IsChainNamed}}
use Rattle.cl_model.specs.{AreNamed.{IsRequirementNamed, AreNamed}, Name.IsName, Place.key_text, Ranges.{IsTime, IsKindInRange, IsRunnableInRange, IsTaskInRange, IsInRange}, Kinds.{access_word, requirement_word}}
use Rattle.cl_model.specs.declared.place.Key.TheVariants as key
use Rattle.cl_write.specs.{Entries.{Entry, with_member, with_entry, with_entries, members_with, number, number_data_if, unless_zero, when_true, unless_empty, names_data, tables}, Writing.{has_delay, version_for, core_table_entries, label_entries, kind_entries, stimulus_entries}}
use Rattle.cl_write.specs.Writing.{runnable_entries, task_entries, chain_entries, requirement_entries, model_entries, document}
use Rattle.cl_write.proofs.PlainData.{IsPlain, ArePlainItems, ArePlain}

-- ---- keys are ASCII

by_test : (bs : List ℕ) → list_all (λ b. nat_lt b 128) bs ≡ true → IsAscii bs
by_test [] h i = omega arith
by_test (b ∷ bs) h zero = let (first, rest) = both_pass (nat_lt b 128) (list_all (λ b. nat_lt b 128) bs) h in grind (arith, nat_tests)
by_test (b ∷ bs) h (suc i) = by_test bs (both_pass (nat_lt b 128) (list_all (λ b. nat_lt b 128) bs) h).1 i

is_ascii_key : (k : Key) → list_all (λ b. nat_lt b 128) (written.key_text (key_text k)) ≡ true
unfolding written.key_text
is_ascii_key key.Format = refl
is_ascii_key key.Version = refl
is_ascii_key key.Core = refl
is_ascii_key key.Stimulus = refl
is_ascii_key key.Label = refl
is_ascii_key key.Task = refl
is_ascii_key key.Chain = refl
is_ascii_key key.Requirement = refl
is_ascii_key key.Name = refl
is_ascii_key key.Kind = refl
is_ascii_key key.Period = refl
is_ascii_key key.Offset = refl
is_ascii_key key.Jitter = refl
is_ascii_key key.Count = refl
is_ascii_key key.Distance = refl
is_ascii_key key.Least = refl
is_ascii_key key.Greatest = refl
is_ascii_key key.Whole = refl
is_ascii_key key.Priority = refl
is_ascii_key key.Access = refl
is_ascii_key key.Deadline = refl
is_ascii_key key.Runnable = refl
is_ascii_key key.Reads = refl
is_ascii_key key.Writes = refl
is_ascii_key key.Runnables = refl
is_ascii_key key.Labels = refl
is_ascii_key key.Most = refl

ascii_key : (k : Key) → IsAscii (written.key_text (key_text k))
ascii_key k = by_test (written.key_text (key_text k)) (is_ascii_key k)

-- ---- one member more

before_with : (l k : List ℕ) (d : Data) (ms : Members) → slice_cmp nat_cmp k l ≡ Greater → is_before l ms ≡ true → is_before l (with_member k d ms) ≡ true
unfolding with_member
before_with l k d no_members greater before = ap is_lt (nat_list_cmp_total.antisymm l k ∙ ap ordering_reverse greater)
before_with l k d (member m e ms) greater before = by_order (slice_cmp nat_cmp k m)
  where
    by_order : (o : Ordering) → is_before l (match_ordering o (member k d (member m e ms)) (member m d ms) (member m e (with_member k d ms))) ≡ true
    by_order Less = ap is_lt (nat_list_cmp_total.antisymm l k ∙ ap ordering_reverse greater)
    by_order Equal = before
    by_order Greater = before

lesser_before : (k l : List ℕ) (d e : Data) (ms : Members) → Less ≡ slice_cmp nat_cmp k l → is_before k (member l e ms) ≡ true
lesser_before k l d e ms less = ap is_lt (sym less)

member_plain : (k : List ℕ) (d : Data) (ms : Members) → IsAscii (written.key_text k) → IsPlain d → ArePlain ms → ArePlain (with_member k d ms)
unfolding with_member
member_plain k d no_members ascii plain all = (ascii, refl, plain, tt)
member_plain k d (member l e ms) ascii plain all = by_order (slice_cmp nat_cmp k l) refl (member_plain k d ms ascii plain all.3)
  where
    by_order : (o : Ordering) → o ≡ slice_cmp nat_cmp k l → ArePlain (with_member k d ms)
        → ArePlain (match_ordering o (member k d (member l e ms)) (member l d ms) (member l e (with_member k d ms)))
    by_order Less is more = (ascii, lesser_before k l d e ms is, plain, all)
    by_order Equal is more = (all.0, all.1, plain, all.3)
    by_order Greater is more = (all.0, before_with l k d ms (sym is) all.1, all.2, more)

-- ---- entries

-- each value that is written is plain
abbrev pub IsPlainValue : Option Data → Type 0
IsPlainValue v = IfSome v IsPlain

abbrev pub ArePlainEntries : List Entry → Type 0
ArePlainEntries entries = AllByRecursion (λ (entry : Entry). IsPlainValue entry.1) entries

entry_plain : (entry : Entry) (ms : Members) → IsPlainValue entry.1 → ArePlain ms → ArePlain (with_entry entry.0 entry.1 ms)
entry_plain (k, None) ms plain all = all
entry_plain (k, Some d) ms plain all = member_plain (key_text k) d ms (ascii_key k) plain all

entries_plain : (entries : List Entry) (ms : Members) → ArePlainEntries entries → ArePlain ms → ArePlain (with_entries entries ms)
entries_plain [] ms each all = all
entries_plain (entry ∷ entries) ms each all = entries_plain entries (with_entry entry.0 entry.1 ms) each.1 (entry_plain entry ms each.0 all)

-- ---- values

number_if_plain : (n : Option ℕ) → IfSome n (λ n. n ≤ MOST_REQUIRED) → IsPlainValue (number_data_if n)
number_if_plain None within = tt
number_if_plain (Some n) within = within

unless_zero_plain : (n : ℕ) → n ≤ MOST_REQUIRED → IsPlainValue (unless_zero n)
unless_zero_plain n within = by_test (n == 0)
  where
    by_test : (is_zero : Bool) → IsPlainValue (cond is_zero None (Some (number n)))
    by_test true = tt
    by_test false = within

when_true_plain : (b : Bool) → IsPlainValue (when_true b)
when_true_plain true = tt
when_true_plain false = tt

items_plain : {X : Type 0} (f : X → Data) (xs : List X) → AllByRecursion (λ x. IsPlain (f x)) xs → ArePlainItems (items_of (map f xs))
items_plain f [] all = tt
items_plain f (x ∷ xs) all = (all.0, items_plain f xs all.1)

array_plain : {X : Type 0} (f : X → Data) (xs : List X) → All (λ x. IsPlain (f x)) xs → IsPlainValue (unless_empty f xs)
array_plain f [] all = tt
array_plain f (x ∷ xs) all = items_plain f (x ∷ xs) (recursion_from_All (λ x. IsPlain (f x)) (x ∷ xs) all)

names_plain : (words : List (List ℕ)) → All IsName words → IsPlainValue (names_data words)
names_plain words all = array_plain string words all

tables_plain : {X : Type 0} (entries : X → List Entry) (xs : List X) → All (λ x. ArePlainEntries (entries x)) xs → IsPlainValue (tables entries xs)
tables_plain entries xs all = array_plain (λ x. table (members_with (entries x))) xs (λ k d lt. entries_plain (entries (get_or xs k d)) no_members (all k d lt) tt)

-- ---- tables

kind_plain : (kind : StimulusKind) → IsKindInRange kind → ArePlainEntries (kind_entries kind)
kind_plain (Periodic period offset jitter) in_range =
    (refl, (omega (arith, in_range.0.1), (unless_zero_plain offset (omega (arith, in_range.1)), (unless_zero_plain jitter (omega (arith, in_range.2)), tt))))
kind_plain (Sporadic least greatest) in_range = (refl, (omega (arith, in_range.0.1), (omega (arith, in_range.1.1), tt)))
kind_plain (Burst period offset count distance) in_range =
    (refl, (omega (arith, in_range.0.1), (unless_zero_plain offset (omega (arith, in_range.1)), (omega (arith, in_range.2.1), (omega (arith, in_range.3.1), tt)))))

runnable_plain : (r : RunnableDef) → IsRunnableInRange r → IsRunnableNamed r → ArePlainEntries (runnable_entries r)
runnable_plain r in_range named =
    (named.name, (omega (arith, in_range.least.1), (omega (arith, in_range.greatest.1), (when_true_plain r.whole, (names_plain r.reads named.reads, (names_plain r.writes named.writes, tt))))))

pub access_plain : (access : AccessKind) → IsName (access_word access)
access_plain Explicit = refl
access_plain Implicit = refl
access_plain Timed = refl

pub deadline_plain : (n : Option ℕ) → IfSome n IsTime → IfSome n (λ n. n ≤ MOST_REQUIRED)
deadline_plain None within = tt
deadline_plain (Some n) within = omega (arith, within.1)

task_plain : (t : TaskDef) → IsTaskInRange t → IsTaskNamed t → ArePlainEntries (task_entries t)
task_plain t in_range named = (
  named.name,
  (
    named.core,
    (
      named.stimulus,
      (
        omega (arith, in_range.priority),
        (
          access_plain t.access,
          (
            number_if_plain t.deadline (deadline_plain t.deadline in_range.deadline),
            (tables_plain runnable_entries t.runnables (λ k d lt. runnable_plain (get_or t.runnables k d) (in_range.runnables k d lt) (named.runnables k d lt)), tt),
          ),
        ),
      ),
    ),
  ),
)

chain_plain : (c : ChainDef) → IsChainNamed c → ArePlainEntries (chain_entries c)
chain_plain c named = (named.name, (names_plain c.runnables named.runnables, (names_plain c.labels named.labels, tt)))

pub requirement_word_plain : (kind : RequirementKind) → IsName (requirement_word kind)
requirement_word_plain (Length Reaction) = refl
requirement_word_plain (Length Age) = refl
requirement_word_plain (Length Reduced) = refl
requirement_word_plain Delay = refl

requirement_plain : (r : RequirementDef) → r.most ≤ MOST_REQUIRED → IsRequirementNamed r → ArePlainEntries (requirement_entries r)
requirement_plain r most named = (named.name, (named.chain, (requirement_word_plain r.kind, (most, tt))))

small_version : (late : Bool) → cond late 3 2 ≤ MOST_REQUIRED
small_version true = omega arith
small_version false = omega arith

pub version_is_small : (m : SystemModel) → version_for m ≤ MOST_REQUIRED
version_is_small m = small_version (has_delay m)

pub document_is_plain : (m : SystemModel) → IsInRange m → AreNamed m → ArePlain (document m)
unfolding document
document_is_plain m in_range named = entries_plain (model_entries m) no_members (
  refl,
  (
    version_is_small m,
    (
      tables_plain core_table_entries m.cores (λ k d lt. (named.cores k d lt, tt)),
      (
        tables_plain stimulus_entries m.stimuli (λ k d lt. (named.stimuli k d lt, kind_plain (get_or m.stimuli k d).kind (in_range.stimuli k d lt))),
        (
          tables_plain label_entries m.labels (λ k d lt. (named.labels k d lt, tt)),
          (
            tables_plain task_entries m.tasks (λ k d lt. task_plain (get_or m.tasks k d) (in_range.tasks k d lt) (named.tasks k d lt)),
            (
              tables_plain chain_entries m.chains (λ k d lt. chain_plain (get_or m.chains k d) (named.chains k d lt)),
              (
                tables_plain requirement_entries m.requirements (λ k d lt. requirement_plain (get_or m.requirements k d) (in_range.requirements k d lt) (named.requirements k d lt)),
                tt,
              ),
            ),
          ),
        ),
      ),
    ),
  ),
) tt
