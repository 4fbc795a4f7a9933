-- A line is read as an edit of a version exactly where it is the line of an edit that may be one of the version.
use Rattle.std.proofs.Common.{◌≡◌, ℕ, true, false, cond, Option, Some, List, [], ◌∷◌, refl, sym, ap, ◌∙◌, subst, arith}
use Rattle.std.specs.Prelude.{codes, All, ◌==◌}
use Rattle.std.specs.List.{list_all, join_with_byte}
use Rattle.std.specs.Str.{bytes_eq}
use Rattle.std.proofs.lemmas.List.{append-nil}
use Rattle.std.proofs.lemmas.List.Sums.{AllPass-from_list_all}
use Rattle.cl_text.specs.Line.{is_graphic}
use Rattle.cl_model.specs.declared.limits.TheConstants.{MOST_STEPS, MOST_HOPS}
use Rattle.cl_edit.specs.declared.{edit.Edit.{Edit, TheVariants.{Range, Whole, Period, Offset, Jitter, Distances, Burst, Deadline, Swap, Priorities, Move, Kind, AddTask, DropTask, AddChain, DropChain, Requirement, DropRequirement, Report, Tighten, Verify}}, version.Version.Version}
use Rattle.cl_edit.specs.{declared.version.Version.TheVariants.{One, Two}, Lines.{edit_words, edit_text}, Reading.{IsLineEdit, is_later}, Inner.{Parts.{parts, then_read, if_done}, LineReads.{fields_in, later_fields_in, fields_of, words_in, edit_in}}}
use Rattle.cl_edit.proofs.{PartFacts.{Lacks, joined_parts, parts_joined}, FieldFacts.{is_word, name_field, time_field, ticks_field, priority_field, count_field, most_field, flag_field, access_field, requirement_field, deadline_field, choose, of_word, some_same}, NamesFacts.names_field}
use Rattle.cl_edit.proofs.{NamesFacts.{words_parts, lacks_of}, SimpleLines.{Says, so_says, answer_of, range_said, whole_said, period_said, offset_said, jitter_said, distances_said, burst_said, deadline_said, swap_said, move_said, access_said, drop_task_said, drop_chain_said, chain_said}}
use Rattle.cl_edit.proofs.{SimpleLines.{range_back, whole_back, period_back, offset_back, jitter_back, distances_back, burst_back, deadline_back, swap_back, move_back, access_back, drop_task_back, drop_chain_back, chain_back}, WordLists.then_some, TaskLines.{are_new, runnables_are_words}}
use Rattle.cl_edit.proofs.{TaskLines.{task_said, task_back}, LaterLines.{requirement_said, requirement_back, drop_requirement_said, drop_requirement_back, priorities_said, priorities_back, are_good, priorities_are_words}}

-- ---- the words of an edit are read as that edit

later_back : (edit : Edit) → IsLineEdit Two edit → words_in Two (edit_words edit) ≡ Some edit
unfolding words_in later_fields_in fields_in
later_back (Range runnable least greatest) good = ap (λ o. then_read o if_done) (range_back runnable least greatest good)
later_back (Whole runnable whole) good = ap (λ o. then_read o if_done) (whole_back runnable whole good)
later_back (Period stimulus period) good = ap (λ o. then_read o if_done) (period_back stimulus period good)
later_back (Offset stimulus offset) good = ap (λ o. then_read o if_done) (offset_back stimulus offset good)
later_back (Jitter stimulus jitter) good = ap (λ o. then_read o if_done) (jitter_back stimulus jitter good)
later_back (Distances stimulus least greatest) good = ap (λ o. then_read o if_done) (distances_back stimulus least greatest good)
later_back (Burst stimulus period count distance) good = ap (λ o. then_read o if_done) (burst_back stimulus period count distance good)
later_back (Deadline task deadline) good = ap (λ o. then_read o if_done) (deadline_back task deadline good)
later_back (Swap one other) good = ap (λ o. then_read o if_done) (swap_back one other good)
later_back (Move task core priority) good = ap (λ o. then_read o if_done) (move_back task core priority good)
later_back (Kind task access) good = ap (λ o. then_read o if_done) (access_back task access good)
later_back (AddTask task) good = ap (λ o. then_read o if_done) (task_back task good)
later_back (DropTask task) good = ap (λ o. then_read o if_done) (drop_task_back task good)
later_back (AddChain chain) good = ap (λ o. then_read o if_done) (chain_back chain good)
later_back (DropChain chain) good = ap (λ o. then_read o if_done) (drop_chain_back chain good)
later_back Report good = refl
later_back (Priorities priorities) good = ap (λ o. then_read o if_done) (priorities_back priorities good)
later_back (Requirement requirement) good = ap (λ o. then_read o if_done) (requirement_back requirement good)
later_back (DropRequirement requirement) good = ap (λ o. then_read o if_done) (drop_requirement_back requirement good)
later_back Tighten good = refl
later_back Verify good = refl

-- those of version 1 in both versions
same_words : (edit : Edit) → is_later edit ≡ false → words_in One (edit_words edit) ≡ words_in Two (edit_words edit)
unfolding words_in later_fields_in
same_words (Range runnable least greatest) first = refl
same_words (Whole runnable whole) first = refl
same_words (Period stimulus period) first = refl
same_words (Offset stimulus offset) first = refl
same_words (Jitter stimulus jitter) first = refl
same_words (Distances stimulus least greatest) first = refl
same_words (Burst stimulus period count distance) first = refl
same_words (Deadline task deadline) first = refl
same_words (Swap one other) first = refl
same_words (Priorities priorities) first = absurd (cc)
same_words (Move task core priority) first = refl
same_words (Kind task access) first = refl
same_words (AddTask task) first = refl
same_words (DropTask task) first = refl
same_words (AddChain chain) first = refl
same_words (DropChain chain) first = refl
same_words (Requirement requirement) first = absurd (cc)
same_words (DropRequirement requirement) first = absurd (cc)
same_words Report first = refl
same_words Tighten first = absurd (cc)
same_words Verify first = absurd (cc)

-- what may be a line of any version may be one of version 2
pub of_later : (version : Version) (edit : Edit) → IsLineEdit version edit → IsLineEdit Two edit
of_later version edit good = record { in_range = good.in_range; named = good.named; sayable = good.sayable; kind = tt }

words_back : (version : Version) (edit : Edit) → IsLineEdit version edit → words_in version (edit_words edit) ≡ Some edit
words_back One edit good = same_words edit good.kind ∙ later_back edit (of_later One edit good)
words_back Two edit good = later_back edit good

-- they are words
pub edit_are_words : (edit : Edit) → IsLineEdit Two edit → list_all is_word (edit_words edit) ≡ true
edit_are_words (Range runnable least greatest) good =
    rw (name_field.word runnable good.named, time_field.word least good.in_range.0, time_field.word greatest good.in_range.1) refl
edit_are_words (Whole runnable whole) good = rw (name_field.word runnable good.named, flag_field.word whole tt) refl
edit_are_words (Period stimulus period) good = rw (name_field.word stimulus good.named, time_field.word period good.in_range) refl
edit_are_words (Offset stimulus offset) good = rw (name_field.word stimulus good.named, ticks_field.word offset (omega arith, good.in_range)) refl
edit_are_words (Jitter stimulus jitter) good = rw (name_field.word stimulus good.named, ticks_field.word jitter (omega arith, good.in_range)) refl
edit_are_words (Distances stimulus least greatest) good =
    rw (name_field.word stimulus good.named, time_field.word least good.in_range.0, time_field.word greatest good.in_range.1) refl
edit_are_words (Burst stimulus period count distance) good =
    rw (
      name_field.word stimulus good.named,
      time_field.word period good.in_range.0,
      count_field.word count good.in_range.1,
      time_field.word distance good.in_range.2,
    )
    refl
edit_are_words (Deadline task deadline) good = rw (name_field.word task good.named, deadline_field.word deadline good.in_range) refl
edit_are_words (Swap one other) good = rw (name_field.word one good.named.0, name_field.word other good.named.1) refl
edit_are_words (Move task core priority) good =
    rw (name_field.word task good.named.0, name_field.word core good.named.1, priority_field.word priority (omega arith, good.in_range)) refl
edit_are_words (Kind task access) good = rw (name_field.word task good.named, access_field.word access tt) refl
edit_are_words (AddTask task) good =
    rw (
      name_field.word task.name good.named.name,
      name_field.word task.core good.named.core,
      name_field.word task.stimulus good.named.stimulus,
      priority_field.word task.priority (omega arith, good.in_range.priority),
      access_field.word task.access tt,
      deadline_field.word task.deadline good.in_range.deadline,
      runnables_are_words task.runnables (are_new task good),
    )
    refl
edit_are_words (DropTask task) good = rw (name_field.word task good.named) refl
edit_are_words (AddChain chain) good =
    rw (
      name_field.word chain.name good.named.name,
      (names_field MOST_STEPS).word chain.runnables (good.in_range.runnables, good.named.runnables),
      (names_field MOST_HOPS).word chain.labels (good.in_range.labels, good.named.labels),
    )
    refl
edit_are_words (DropChain chain) good = rw (name_field.word chain good.named) refl
edit_are_words Report good = refl
edit_are_words (Priorities priorities) good = rw (priorities_are_words priorities (are_good priorities good)) refl
edit_are_words (Requirement r) good =
    rw (
      name_field.word r.name good.named.name,
      name_field.word r.chain good.named.chain,
      requirement_field.word r.kind tt,
      most_field.word r.most (omega arith, good.in_range),
    )
    refl
edit_are_words (DropRequirement requirement) good = rw (name_field.word requirement good.named) refl
edit_are_words Tighten good = refl
edit_are_words Verify good = refl

-- there is a word, and it doesn't begin with `#`
pub record AreSpoken (words : List (List ℕ)) : Type 0 where
  pub byte : ℕ
  pub bytes : List ℕ
  pub others : List (List ℕ)
  pub are : words ≡ (byte ∷ bytes) ∷ others
  pub no_comment : (byte == 0x23) ≡ false

pub edit_is_spoken : (edit : Edit) → AreSpoken (edit_words edit)
edit_is_spoken (Range runnable least greatest) = record { byte = _; bytes = _; others = _; are = refl; no_comment = refl }
edit_is_spoken (Whole runnable whole) = record { byte = _; bytes = _; others = _; are = refl; no_comment = refl }
edit_is_spoken (Period stimulus period) = record { byte = _; bytes = _; others = _; are = refl; no_comment = refl }
edit_is_spoken (Offset stimulus offset) = record { byte = _; bytes = _; others = _; are = refl; no_comment = refl }
edit_is_spoken (Jitter stimulus jitter) = record { byte = _; bytes = _; others = _; are = refl; no_comment = refl }
edit_is_spoken (Distances stimulus least greatest) = record { byte = _; bytes = _; others = _; are = refl; no_comment = refl }
edit_is_spoken (Burst stimulus period count distance) = record { byte = _; bytes = _; others = _; are = refl; no_comment = refl }
edit_is_spoken (Deadline task deadline) = record { byte = _; bytes = _; others = _; are = refl; no_comment = refl }
edit_is_spoken (Swap one other) = record { byte = _; bytes = _; others = _; are = refl; no_comment = refl }
edit_is_spoken (Priorities priorities) = record { byte = _; bytes = _; others = _; are = refl; no_comment = refl }
edit_is_spoken (Move task core priority) = record { byte = _; bytes = _; others = _; are = refl; no_comment = refl }
edit_is_spoken (Kind task access) = record { byte = _; bytes = _; others = _; are = refl; no_comment = refl }
edit_is_spoken (AddTask task) = record { byte = _; bytes = _; others = _; are = refl; no_comment = refl }
edit_is_spoken (DropTask task) = record { byte = _; bytes = _; others = _; are = refl; no_comment = refl }
edit_is_spoken (AddChain chain) = record { byte = _; bytes = _; others = _; are = refl; no_comment = refl }
edit_is_spoken (DropChain chain) = record { byte = _; bytes = _; others = _; are = refl; no_comment = refl }
edit_is_spoken (Requirement requirement) = record { byte = _; bytes = _; others = _; are = refl; no_comment = refl }
edit_is_spoken (DropRequirement requirement) = record { byte = _; bytes = _; others = _; are = refl; no_comment = refl }
edit_is_spoken Report = record { byte = _; bytes = _; others = _; are = refl; no_comment = refl }
edit_is_spoken Tighten = record { byte = _; bytes = _; others = _; are = refl; no_comment = refl }
edit_is_spoken Verify = record { byte = _; bytes = _; others = _; are = refl; no_comment = refl }

blank_free : (edit : Edit) → IsLineEdit Two edit → All (Lacks 0x20) (edit_words edit)
blank_free edit good = λ k d within.
    lacks_of 0x20 is_graphic _ refl (AllPass-from_list_all (list_all is_graphic) (edit_words edit) (words_parts (edit_words edit) (edit_are_words edit good)).1 k d within)

parts_of_words : (words : List (List ℕ)) → AreSpoken words → All (Lacks 0x20) words → parts 0x20 (join_with_byte 0x20 words) ≡ words
parts_of_words [] spoken free = let are = spoken.are in absurd (cc)
parts_of_words (word ∷ words) spoken free = parts_joined 0x20 word words free

pub edit_back : (version : Version) (edit : Edit) → IsLineEdit version edit → edit_in version (edit_text edit) ≡ Some edit
unfolding edit_in edit_text
edit_back version edit good =
    ap (words_in version) (parts_of_words (edit_words edit) (edit_is_spoken edit) (blank_free edit (of_later version edit good))) ∙ words_back version edit good

-- ---- and words that are read are those of the edit

report_said : (words : List (List ℕ)) (edit : Edit) (left : List (List ℕ)) → answer_of Report words ≡ answer_of edit left → Says One (codes "report" ∷ words) edit left
report_said words edit left is = so_says One (codes "report" ∷ words) Report words edit left is (record { in_range = tt; named = tt; sayable = tt; kind = refl }, refl)

tighten_said : (words : List (List ℕ)) (edit : Edit) (left : List (List ℕ)) → answer_of Tighten words ≡ answer_of edit left → Says Two (codes "tighten" ∷ words) edit left
tighten_said words edit left is = so_says Two (codes "tighten" ∷ words) Tighten words edit left is (record { in_range = tt; named = tt; sayable = tt; kind = tt }, refl)

verify_said : (words : List (List ℕ)) (edit : Edit) (left : List (List ℕ)) → answer_of Verify words ≡ answer_of edit left → Says Two (codes "verify" ∷ words) edit left
verify_said words edit left is = so_says Two (codes "verify" ∷ words) Verify words edit left is (record { in_range = tt; named = tt; sayable = tt; kind = tt }, refl)

module _ (version : Version) (keyword : List ℕ) (words : List (List ℕ)) (edit : Edit) (left : List (List ℕ)) where
  -- by the word that the keyword is, or else by what is read of it otherwise
  by_word : (word : List ℕ) (here other : Option (Edit × List (List ℕ))) → cond (bytes_eq keyword word) here other ≡ answer_of edit left
      → (here ≡ answer_of edit left → Says version (word ∷ words) edit left) → (other ≡ answer_of edit left → Says version (keyword ∷ words) edit left)
      → Says version (keyword ∷ words) edit left
  by_word word here other is says more =
      choose (bytes_eq keyword word) here other (answer_of edit left) (Says version (keyword ∷ words) edit left) is
      (λ same read. subst (λ k. Says version (k ∷ words) edit left) (sym (of_word keyword word same)) (says read)) more

fields_said : (keyword : List ℕ) (words : List (List ℕ)) (edit : Edit) (left : List (List ℕ)) → fields_in keyword words ≡ Some (edit, left)
    → Says One (keyword ∷ words) edit left
unfolding fields_in
fields_said keyword words edit left is =
    by_word One keyword words edit left (codes "range") _ _ is (range_said words edit left) (λ is.
    by_word One keyword words edit left (codes "whole") _ _ is (whole_said words edit left) (λ is.
    by_word One keyword words edit left (codes "period") _ _ is (period_said words edit left) (λ is.
    by_word One keyword words edit left (codes "offset") _ _ is (offset_said words edit left) (λ is.
    by_word One keyword words edit left (codes "jitter") _ _ is (jitter_said words edit left) (λ is.
    by_word One keyword words edit left (codes "distances") _ _ is (distances_said words edit left) (λ is.
    by_word One keyword words edit left (codes "burst") _ _ is (burst_said words edit left) (λ is.
    by_word One keyword words edit left (codes "deadline") _ _ is (deadline_said words edit left) (λ is.
    by_word One keyword words edit left (codes "swap") _ _ is (swap_said words edit left) (λ is.
    by_word One keyword words edit left (codes "move") _ _ is (move_said words edit left) (λ is.
    by_word One keyword words edit left (codes "access") _ _ is (access_said words edit left) (λ is.
    by_word One keyword words edit left (codes "task") _ _ is (task_said words edit left) (λ is.
    by_word One keyword words edit left (codes "drop-task") _ _ is (drop_task_said words edit left) (λ is.
    by_word One keyword words edit left (codes "chain") _ _ is (chain_said words edit left) (λ is.
    by_word One keyword words edit left (codes "drop-chain") _ _ is (drop_chain_said words edit left) (λ is.
    by_word One keyword words edit left (codes "report") _ _ is (report_said words edit left) (λ is.
    absurd (cc)))))))))))))))))

later_fields_said : (keyword : List ℕ) (words : List (List ℕ)) (edit : Edit) (left : List (List ℕ)) → later_fields_in keyword words ≡ Some (edit, left)
    → Says Two (keyword ∷ words) edit left
unfolding later_fields_in
later_fields_said keyword words edit left is =
    by_word Two keyword words edit left (codes "priorities") _ _ is (priorities_said words edit left) (λ is.
    by_word Two keyword words edit left (codes "requirement") _ _ is (requirement_said words edit left) (λ is.
    by_word Two keyword words edit left (codes "drop-requirement") _ _ is (drop_requirement_said words edit left) (λ is.
    by_word Two keyword words edit left (codes "tighten") _ _ is (tighten_said words edit left) (λ is.
    by_word Two keyword words edit left (codes "verify") _ _ is (verify_said words edit left) (λ is.
    let said = fields_said keyword words edit left is in
    (of_later One edit said.0, said.1))))))

fields_of_said : (version : Version) (keyword : List ℕ) (words : List (List ℕ)) (edit : Edit) (left : List (List ℕ))
    → fields_of version keyword words ≡ Some (edit, left) → Says version (keyword ∷ words) edit left
fields_of_said One keyword words edit left is = fields_said keyword words edit left is
fields_of_said Two keyword words edit left is = later_fields_said keyword words edit left is

left_said : (version : Version) (keyword : List ℕ) (words : List (List ℕ)) (one edit : Edit) (left : List (List ℕ))
    → fields_of version keyword words ≡ Some (one, left) → if_done one left ≡ Some edit
    → IsLineEdit version edit × (keyword ∷ words ≡ edit_words edit)
left_said version keyword words one edit [] is done =
    let says = fields_of_said version keyword words one [] is in
    subst (λ e. IsLineEdit version e × (keyword ∷ words ≡ edit_words e)) (some_same one edit done) (says.0, says.1 ∙ append-nil (edit_words one))
left_said version keyword words one edit (word ∷ left) is done = absurd (cc)

words_said : (version : Version) (words : List (List ℕ)) (edit : Edit) → words_in version words ≡ Some edit → IsLineEdit version edit × (words ≡ edit_words edit)
unfolding words_in
words_said version [] edit is = absurd (cc)
words_said version (keyword ∷ words) edit is =
    let a = then_some (fields_of version keyword words) if_done edit is in
    left_said version keyword words a.0 edit a.1 a.2 a.3

pub edit_said : (version : Version) (text : List ℕ) (edit : Edit) → edit_in version text ≡ Some edit → IsLineEdit version edit × (text ≡ edit_text edit)
unfolding edit_in edit_text
edit_said version text edit is =
    let said = words_said version (parts 0x20 text) edit is in
    (said.0, sym (joined_parts 0x20 text) ∙ ap (join_with_byte 0x20) said.1)
