-- The rhythms of groups, their ends and the lags of hops, on which exact lengths and bounds depend, are functions of
-- questions.
use Rattle.std.proofs.Common.{◌≡◌, ℕ, ℤ, pos, Bool, true, false, cond, List, [], ◌∷◌, refl, sym, ap, ◌∙◌}
use Rattle.std.specs.Prelude.{◌==◌, ◌-◌, ◌-ℤ◌, map}
use Rattle.std.proofs.lemmas.Simd.{map-map}
use Rattle.cl_model.specs.{declared.{group.Group.Group, task.AccessKind.{AccessKind, TheVariants.{Explicit, Implicit, Timed}}}, Timing.{greatest_distance, greatest_jitter}}
use Rattle.cl_runs.specs.TaskTiming.{System, timing_at}
use Rattle.cl_comm.specs.{declared.spot.Spot.Spot, Windows.{spot_at, window_of}}
use Rattle.cl_hop.specs.{Ends.{Ends, ends_of, lags_from, lags}, Hops.{group_timing, saves, lag}}
use Rattle.cl_bound.specs.{Answers.{answers_of, answer_at, response_in}, Bounds.{settled_timing, settled_timings, bounds_of}}
use Rattle.cl_bound.proofs.SameEnds.{same_bounds as same_bounds_of}
use Rattle.cl_exact.specs.Rhythms.{Rhythm, rhythms}
use Rattle.cl_incr.specs.{declared.question.{GroupQuestion.GroupQuestion, HopLine.{HopLine, TheVariants.{SameTask, Saving, Plain}}}, Questions.{group_question, hop_bounded_by, hop_lines_from, hop_lines}}

-- the question of a group of a system
abbrev pub asked : System → Group → GroupQuestion
asked system = group_question system (answers_of system)

-- two lists of groups ask the same
abbrev pub AskTheSame : (one other : System) → (groups others : List Group) → Type 0
AskTheSame one other groups others = map (asked one) groups ≡ map (asked other) others

-- ---- rhythms

rhythm_in : GroupQuestion → Rhythm
rhythm_in question = record { pattern = question.pattern; access = question.access; deadline = question.deadline }

rhythms_are : (system : System) (groups : List Group) → rhythms system groups ≡ map rhythm_in (map (asked system) groups)
unfolding group_question rhythm_in
rhythms_are system groups = sym (map-map rhythm_in (asked system) groups)

pub same_rhythms : (one other : System) (groups others : List Group) → AskTheSame one other groups others → rhythms one groups ≡ rhythms other others
same_rhythms one other groups others same = rhythms_are one groups ∙ ap (map rhythm_in) same ∙ sym (rhythms_are other others)

-- ---- ends

-- when a group reads at the earliest and writes at the latest
read_in : AccessKind → (before : ℕ) → ℕ
read_in Explicit before = before
read_in Implicit before = 0
read_in Timed before = 0

write_in : AccessKind → (after response deadline : ℕ) → ℕ
write_in Explicit after response deadline = response - after
write_in Implicit after response deadline = response
write_in Timed after response deadline = deadline

reads_in : (access : AccessKind) (spot : Spot) (response : ℕ) → (window_of access spot response).rlo ≡ read_in access spot.before
unfolding read_in
reads_in Explicit spot response = refl
reads_in Implicit spot response = refl
reads_in Timed spot response = refl

writes_in : (access : AccessKind) (spot : Spot) (response : ℕ)
    → (window_of access spot response).whi ≡ write_in access spot.after response spot.deadline
unfolding write_in
writes_in Explicit spot response = refl
writes_in Implicit spot response = refl
writes_in Timed spot response = refl

ends_in : GroupQuestion → Ends
ends_in question = record {
  distance = greatest_distance question.pattern;
  read = read_in question.access question.before;
  write = write_in question.access question.after question.response question.deadline;
}

same_ends : (distance read write r w : ℕ) → read ≡ r → write ≡ w
    → ◌≡◌ {A = Ends} (record { distance = distance; read = read; write = write }) (record { distance = distance; read = r; write = w })
same_ends distance read write r w e f = cc

ends_are : (system : System) (group : Group) → ends_of (settled_timing system group) ≡ ends_in (asked system group)
unfolding group_timing spot_at group_question ends_in
ends_are system group =
    let timing = timing_at system group.task in
    let response = response_in (answer_at (answers_of system) group.task) in
    same_ends (greatest_distance timing.pattern) _ _ _ _
    (reads_in timing.access (spot_at timing group.first) response) (writes_in timing.access (spot_at timing group.last) response)

all_ends_are : (system : System) (groups : List Group) → map ends_of (settled_timings system groups) ≡ map ends_in (map (asked system) groups)
all_ends_are system [] = refl
all_ends_are system (group ∷ groups) = let first = ends_are system group in let rest = all_ends_are system groups in cc

-- ---- lags

lag_by : HopLine → (jitter write read : ℕ) → ℤ
lag_by SameTask jitter write read = pos 1
lag_by Saving jitter write read = pos jitter -ℤ pos read
lag_by Plain jitter write read = pos write -ℤ pos read

lag_is_by : (one_task saving : Bool) (jitter write read : ℕ) → cond one_task (pos 1) (cond saving (pos jitter -ℤ pos read) (pos write -ℤ pos read))
    ≡ lag_by (cond one_task SameTask (cond saving Saving Plain)) jitter write read
unfolding lag_by
lag_is_by true saving jitter write read = refl
lag_is_by false true jitter write read = refl
lag_is_by false false jitter write read = refl

-- the lag of a hop by its line and by the questions of its two groups
lag_in : HopLine → (writer reader : GroupQuestion) → ℤ
lag_in line writer reader = lag_by line (greatest_jitter writer.pattern) (ends_in writer).write (ends_in reader).read

lag_is : (system : System) (writer reader : Group) → lag (settled_timing system writer) (settled_timing system reader)
    ≡ lag_in (hop_bounded_by system writer reader) (asked system writer) (asked system reader)
unfolding group_timing group_question lag_in
lag_is system writer reader =
    let line = hop_bounded_by system writer reader in
    let jitter = greatest_jitter (timing_at system writer.task).pattern in
    lag_is_by (writer.task == reader.task) (saves (settled_timing system writer) (settled_timing system reader))
    jitter (settled_timing system writer).write (settled_timing system reader).read
    ∙ ap (λ (ends : Ends). lag_by line jitter ends.write (settled_timing system reader).read) (ends_are system writer)
    ∙ ap (λ (ends : Ends). lag_by line jitter (ends_in (asked system writer)).write ends.read) (ends_are system reader)

module _ (one other : System) where
  same_lag : (w r v s : Group) → asked one w ≡ asked other v → asked one r ≡ asked other s → hop_bounded_by one w r ≡ hop_bounded_by other v s
      → lag (settled_timing one w) (settled_timing one r) ≡ lag (settled_timing other v) (settled_timing other s)
  same_lag w r v s writers readers lines =
      lag_is one w r
      ∙ ap (λ line. lag_in line (asked one w) (asked one r)) lines
      ∙ ap (λ writer. lag_in (hop_bounded_by other v s) writer (asked one r)) writers
      ∙ ap (λ reader. lag_in (hop_bounded_by other v s) (asked other v) reader) readers
      ∙ sym (lag_is other v s)

  same_lags_from : (x y : Group) (xs ys : List Group) → asked one x ≡ asked other y → map (asked one) xs ≡ map (asked other) ys
      → hop_lines_from one x xs ≡ hop_lines_from other y ys
      → lags_from (settled_timing one x) (settled_timings one xs) ≡ lags_from (settled_timing other y) (settled_timings other ys)
  same_lags_from x y [] [] first rest lines = refl
  same_lags_from x y [] (s ∷ ys) first rest lines = absurd cc
  same_lags_from x y (r ∷ xs) [] first rest lines = absurd cc
  same_lags_from x y (r ∷ xs) (s ∷ ys) first rest lines =
      let next : asked one r ≡ asked other s = cc in
      let line : hop_bounded_by one x r ≡ hop_bounded_by other y s = cc in
      let here = same_lag x r y s first next line in
      let later_questions : map (asked one) xs ≡ map (asked other) ys = cc in
      let later_lines : hop_lines_from one r xs ≡ hop_lines_from other s ys = cc in
      let later = same_lags_from r s xs ys next later_questions later_lines in
      cc

  same_lags : (xs ys : List Group) → AskTheSame one other xs ys → hop_lines one xs ≡ hop_lines other ys
      → lags (settled_timings one xs) ≡ lags (settled_timings other ys)
  same_lags [] [] all lines = refl
  same_lags [] (y ∷ ys) all lines = absurd cc
  same_lags (x ∷ xs) [] all lines = absurd cc
  same_lags (x ∷ xs) (y ∷ ys) all lines =
      let first : asked one x ≡ asked other y = cc in
      let rest : map (asked one) xs ≡ map (asked other) ys = cc in
      same_lags_from x y xs ys first rest lines

-- ---- bounds

-- groups that ask the same, over the same lines of hops, have the same bounds
pub same_bounds : (one other : System) (groups others : List Group) → AskTheSame one other groups others
    → hop_lines one groups ≡ hop_lines other others → bounds_of one groups ≡ bounds_of other others
same_bounds one other groups others same lines =
    same_bounds_of one other groups others
    (all_ends_are one groups ∙ ap (map ends_in) same ∙ sym (all_ends_are other others)) (same_lags one other groups others same lines)
