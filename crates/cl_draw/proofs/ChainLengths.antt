-- How long the lines of a chain are.
use Rattle.std.proofs.Common.{◌≡◌, ℕ, ◌+◌, ◌-◌, ◌*◌, ◌^◌, ◌<◌, ◌≤◌, if◌then◌else◌, Option, Some, None, List, [], ◌∷◌, length, get_or, arith}
use Rattle.std.specs.Prelude.{All, codes, max, nat_lt, nat_le, slice_index, ◌==◌}
use Rattle.std.specs.List.{range_with_len}
use Rattle.std.proofs.lemmas.List.Elements.{All-from_get_or}
use Rattle.std.proofs.lemmas.List.FromFn.{length-range_with_len, get_or-range_with_len}
use Rattle.cl_model.specs.{declared.{model.SystemModel.SystemModel, group.Group.Group}, AreNamed.AreNamed, Groups.{no_group, group_at, groups_at}, Validity.IsValid}
use Rattle.cl_model.proofs.GroupFacts.{groups_at_are}
use Rattle.cl_runs.specs.{Chains.{JobChain, IsForwardChain, first_group, first_job, last_group, last_job}, Legal.IsLegal, Measured.IsMeasuredBy, Moments.{Reads, Writes}, Run.Run, RunChains.run_moments, SystemOf.system_of}
use Rattle.cl_runs.proofs.{ModelSystem.system_sound, MomentFacts.{reads_below, writes_within}}
use Rattle.cl_picture.specs.Window.{IsPictureWindow, x_of}
use Rattle.cl_picture.proofs.{BarSides.choose, Lengths.x_most, TextLengths.{IsWithin, AreWithin, HasDigits, IsShortName, digits, none, wider, fixed, number, name, both, each_of, no_lines, wider_lines, a_line, both_lines, lines_of}, FrameLengths.x_digits}
use Rattle.cl_draw.specs.{declared.{chain_lines.Look.Look, stops.{Reaction.Reaction, Stop.Stop}}, ChainLines.{middle_of, stop_line, half_of, leave, first_stop, last_stop, stop_pieces, reaction_title_line, falls_line, step_pieces_at, steps_line, frame_line, input_line, output_line}}
use Rattle.cl_draw.specs.{ChainLines.{drawn_length_line, words_left, words_right, words_place, drawn_words_line, inside_lines, open_lines, drawn_none_line, outside_line, is_whole_inside, reaction_lines, shown_lines, drawn_chain_lines}, Reactions.{no_drawn_stop, stop_at_group, IsShown}}
use Rattle.cl_draw.specs.Reactions.{IsShownOf, IsDrawnReaction}
use Rattle.cl_draw.proofs.SmallNumbers.{IsHeight, height_digits, row_height_is, task_short, job_below}

-- ---- the numbers of a reaction

-- a stop is a job of a task of the model, of a small number
pub record IsSmallStop (model : SystemModel) (stop : Stop) : Type 0 where
  pub known : stop.task < length model.tasks
  pub job : stop.job < 10 ^ 10

pub record IsSmallReaction (model : SystemModel) (groups : ℕ) (reaction : Reaction) : Type 0 where
  pub from : reaction.from < 10 ^ 10
  pub to : reaction.to < 10 ^ 10
  pub count : length reaction.stops ≡ groups
  pub some : 0 < length reaction.stops
  pub stops : (k : ℕ) → k < length reaction.stops → IsSmallStop model (stop_at_group reaction.stops k)

abbrev pub IsSmallShown : SystemModel → (groups : ℕ) → Option Reaction → Type 0
IsSmallShown model groups None = Unit {0}
IsSmallShown model groups (Some reaction) = IsSmallReaction model groups reaction

reads_are : (model : SystemModel) (run : Run) (group : Group) (job tick : ℕ) → (run_moments (system_of model) run).reads group job tick → Reads (system_of model) run group.task job group.first tick
unfolding run_moments
reads_are model run group job tick is = is

writes_are : (model : SystemModel) (run : Run) (group : Group) (job tick : ℕ) → (run_moments (system_of model) run).writes group job tick → Writes (system_of model) run group.task job group.last tick
unfolding run_moments
writes_are model run group job tick is = is

module _ (model : SystemModel) (valid : IsValid model) (run : Run) (legal : IsLegal (system_of model) run) (few : run.table.ticks ≤ 1000000000) (chain : ℕ) where
  small_stop : (longest : JobChain) (reaction : Reaction) → IsShown (run_moments (system_of model) run) (groups_at model chain) longest reaction
      → (k : ℕ) → k < length (groups_at model chain) → IsSmallStop model (stop_at_group reaction.stops k)
  small_stop longest reaction shown k within =
      let stop = shown.stops k within in
      let group : Group = group_at (groups_at model chain) k in
      let known = (groups_at_are model valid chain k no_group within).known in
      let writes = writes_are model run group (slice_index longest.jobs k) (stop_at_group reaction.stops k).write stop.writes in
      let below = job_below model run group.task (record { is_task = known; valid = valid; legal = legal }) (slice_index longest.jobs k) writes.in_table in
      record { known = omega (arith, stop.task, known); job = omega (arith, stop.job_is, below, few) }

  small_shown : (longest : Option JobChain) (reaction : Option Reaction)
      → IsMeasuredBy (IsForwardChain (run_moments (system_of model) run) (groups_at model chain)) first_job longest
      → IsShownOf (run_moments (system_of model) run) (groups_at model chain) longest reaction → IsSmallShown model (length (groups_at model chain)) reaction
  small_shown None None is shown = tt
  small_shown None (Some reaction) is shown = absurd shown
  small_shown (Some longest) None is shown = absurd shown
  small_shown (Some longest) (Some reaction) is shown =
      let first = reads_are model run (first_group (groups_at model chain)) (first_job longest - 1) longest.from is.is_chain.from in
      let last = writes_are model run (last_group (groups_at model chain)) (last_job longest) longest.to is.is_chain.to in
      let sound = system_sound model valid in
      record {
        from = omega (
          arith,
          shown.from,
          reads_below (system_of model) sound run legal (first_group (groups_at model chain)).task (first_job longest - 1) (first_group (groups_at model chain)).first longest.from first,
          few,
        );
        to = omega (
          arith,
          shown.to,
          writes_within (system_of model) sound run legal (last_group (groups_at model chain)).task (last_job longest) (last_group (groups_at model chain)).last longest.to last,
          few,
        );
        count = shown.one_a_group;
        some = omega (arith, shown.one_a_group, is.is_chain.some_group);
        stops = λ k within. small_stop longest reaction shown k (omega (arith, within, shown.one_a_group));
      }

  pub small_reaction : (reaction : Option Reaction) → IsDrawnReaction model run chain reaction → IsSmallShown model (length (groups_at model chain)) reaction
  small_reaction reaction is = small_shown is.measured.reaction reaction is.is_measured.is_reaction is.shown

-- ---- lines

ten_digits : (n : ℕ) → n < 10 ^ 10 → HasDigits n 10
ten_digits n small = digits 10 n (omega arith) small (omega (arith, small))

-- a height of seven digits
seven_digits : (n : ℕ) → n ≤ 9900000 → HasDigits n 7
seven_digits n small = digits 7 n (omega arith) (omega (arith, small)) (omega (arith, small))

module _ (model : SystemModel) (valid : IsValid model) (named : AreNamed model) (look : Look) (window : IsPictureWindow look.window) (colour : look.colour < 4)
    (high : IsHeight look.y) where
  y_digits : (more : ℕ) → more ≤ 900000 → HasDigits (look.y + more) 7
  y_digits more small = height_digits look.y more high small

  x_at : (tick : ℕ) → HasDigits (x_of look.window tick) 5
  x_at tick = x_digits look.window window tick

  -- the heights of a stop
  middle_most : (stop : Stop) → IsSmallStop model stop → middle_of model stop.task ≤ 9000180
  middle_most stop is = omega (arith, (row_height_is model valid stop.task is.known).most)

  line_most : (stop : Stop) → IsSmallStop model stop → stop_line model look.colour stop ≤ 9000260
  line_most stop is =
      let middle : ℕ = middle_of model stop.task in
      let most = middle_most stop is in
      choose (λ h. h ≤ 9000260) (look.colour == 0) middle (if look.colour == 1 then middle + 40 else (if look.colour == 2 then middle - 40 else middle + 80))
      (λ yes. omega (arith, most))
      (λ no. choose (λ h. h ≤ 9000260) (look.colour == 1) (middle + 40) (if look.colour == 2 then middle - 40 else middle + 80) (λ yes. omega (arith, most))
      (λ also. choose (λ h. h ≤ 9000260) (look.colour == 2) (middle - 40) (middle + 80) (λ yes. omega (arith, most)) (λ other. omega (arith, most))))

  leave_most : (stop next : Stop) → IsSmallStop model stop → IsSmallStop model next
      → leave look.colour (middle_of model stop.task) (middle_of model next.task) (stop_line model look.colour next) ≤ 9900000
  leave_most stop next is also =
      let middle : ℕ = middle_of model stop.task in
      let other : ℕ = middle_of model next.task in
      let most = middle_most stop is in
      choose (λ h. h ≤ 9900000) (nat_lt middle other) (middle + half_of look.colour) (if nat_lt other middle then middle - half_of look.colour else stop_line model look.colour next)
      (λ below. omega (arith, most, colour))
      (λ no. choose (λ h. h ≤ 9900000) (nat_lt other middle) (middle - half_of look.colour) (stop_line model look.colour next) (λ above. omega (arith, most))
      (λ same. omega (arith, line_most next also)))

  line_digits : (stop : Stop) → IsSmallStop model stop → HasDigits (stop_line model look.colour stop) 7
  line_digits stop is = seven_digits (stop_line model look.colour stop) (omega (arith, line_most stop is))

  group_within : (word : List ℕ) → IsShortName word → AreWithin (open_lines word look) 140
  group_within word short = wider_lines 140
      (a_line (fixed _ (name short (fixed _ (number (digits 1 look.colour (omega arith) (omega (arith, colour)) (omega (arith, colour))) (fixed _ none)))))
      (a_line (fixed _ (number (y_digits 185 (omega arith)) (fixed _ none))) no_lines)) (omega arith)

  none_within : AreWithin (drawn_none_line look ∷ []) 140
  none_within = wider_lines 140 (a_line (fixed _ (number (y_digits 230 (omega arith)) (fixed _ none))) no_lines) (omega arith)

  module _ (groups : ℕ) (reaction : Reaction) (small : IsSmallReaction model groups reaction) where
    lasted : HasDigits (reaction.to - reaction.from) 10
    lasted = ten_digits (reaction.to - reaction.from) (omega (arith, small.to))

    from_digits : HasDigits reaction.from 10
    from_digits = ten_digits reaction.from small.from

    to_digits : HasDigits reaction.to 10
    to_digits = ten_digits reaction.to small.to

    first_is : IsSmallStop model (first_stop reaction)
    first_is = small.stops 0 small.some

    last_is : IsSmallStop model (last_stop reaction)
    last_is = small.stops (length reaction.stops - 1) (omega (arith, small.some))

    outside_within : AreWithin (outside_line look reaction ∷ []) 140
    outside_within = wider_lines 140
        (a_line (fixed _ (number (y_digits 230 (omega arith)) (fixed _ (number lasted (fixed _ (number from_digits (fixed _ (number to_digits (fixed _ none))))))))) no_lines)
        (omega arith)

    stop_within : (stop : Stop) → IsSmallStop model stop → IsWithin (stop_pieces model stop) 76
    stop_within stop is = fixed _ (name (task_short model named stop.task) (fixed _ (number (ten_digits stop.job is.job) none)))

    -- each stop of the list
    each_stop : (P : Stop → Type 0) → ((stop : Stop) → IsSmallStop model stop → P stop) → All P reaction.stops
    each_stop P has = All-from_get_or P reaction.stops no_drawn_stop (λ i within. has (stop_at_group reaction.stops i) (small.stops i within))

    title_within : (word : List ℕ) → IsShortName word → IsWithin (reaction_title_line model word reaction) (145 + 76 * groups)
    title_within word short =
        let stops = each_of (stop_pieces model) reaction.stops 76 (each_stop (λ (stop : Stop). IsWithin (stop_pieces model stop) 76) stop_within) in
        wider (145 + 76 * groups)
        (both (both (fixed _ (name short (fixed _ (number lasted (fixed _ (number from_digits (fixed _ (number to_digits (fixed _ none)))))))))
        stops) (fixed _ none)) (omega (arith, small.count))

    falls_within : IsWithin (falls_line model look reaction) 80
    falls_within = wider 80
        (fixed _ (number (x_at reaction.from) (fixed _ (number (y_digits 270 (omega arith)) (fixed _ (number (line_digits (first_stop reaction) first_is)
        (fixed _ (number (x_at reaction.to) (fixed _ (number (y_digits 270 (omega arith)) (fixed _ (number (line_digits (last_stop reaction) last_is)
        (fixed _ none))))))))))))) (omega arith)

    step_within : (k : ℕ) → k + 1 < length reaction.stops → IsWithin (step_pieces_at model look reaction.stops k) 28
    step_within k within =
        let stop : Stop = stop_at_group reaction.stops k in
        let next : Stop = stop_at_group reaction.stops (k + 1) in
        let is = small.stops k (omega (arith, within)) in
        let also = small.stops (k + 1) within in
        fixed _ (number (x_at stop.write) (fixed _ (number (seven_digits _ (leave_most stop next is also))
        (fixed _ (number (line_digits next also) (fixed _ (number (x_at next.read) none)))))))

    steps_within : (opening : List ℕ) → length opening ≤ 20 → IsWithin (steps_line model look opening reaction) (45 + 28 * groups)
    steps_within opening short =
        let count = length-range_with_len 0 (length reaction.stops - 1) in
        let steps = each_of (step_pieces_at model look reaction.stops) (range_with_len 0 (length reaction.stops - 1)) 28
        (λ k d within.
        let below : k < length reaction.stops - 1 = omega (arith, within, count) in
        step_within (get_or (range_with_len 0 (length reaction.stops - 1)) k d) (omega (arith, below, get_or-range_with_len 0 (length reaction.stops - 1) k d below))) in
        wider (45 + 28 * groups)
        (both (both (fixed opening (number (x_at reaction.from) (fixed _ (number (line_digits (first_stop reaction) first_is)
        (fixed _ (number (x_at (first_stop reaction).read) none)))))) steps) (fixed _ none)) (omega (arith, short, count, small.count))

    frame_within : (stop : Stop) → IsSmallStop model stop → IsWithin (frame_line model look stop) 67
    frame_within stop is =
        let width : max (x_of look.window stop.write - x_of look.window stop.read) 10 < 10 ^ 5 = omega (arith, x_most look.window stop.write window) in
        wider 67
        (fixed _ (number (x_at stop.read) (fixed _ (number (seven_digits (middle_of model stop.task - half_of look.colour) (omega (arith, middle_most stop is)))
        (fixed _ (number (digits 5 _ (omega arith) width (omega (arith, width)))
        (fixed _ (number (digits 3 (2 * half_of look.colour) (omega arith) (omega (arith, colour)) (omega (arith, colour))) (fixed _ none))))))))) (omega arith)

    place_within : IsWithin (words_place look reaction) 35
    place_within = choose (λ ps. IsWithin ps 35) (nat_le (x_of look.window reaction.from + x_of look.window reaction.to) 14000) (words_left look reaction) (words_right look reaction)
        (λ yes.
        let left : x_of look.window reaction.from + 60 < 10 ^ 5 = omega (arith, x_most look.window reaction.from window) in
        wider 35 (fixed _ (number (digits 5 _ (omega arith) left (omega (arith, left))) (fixed _ none))) (omega arith))
        (λ no.
        let right : x_of look.window reaction.to - 60 < 10 ^ 5 = omega (arith, x_most look.window reaction.to window) in
        wider 35 (fixed _ (number (digits 5 _ (omega arith) right (omega (arith, right))) (fixed _ none))) (omega arith))

    said_within : IsWithin (drawn_words_line model look reaction) 295
    said_within = wider 295
        (both place_within
        (number (y_digits 210 (omega arith)) (fixed _ (number lasted (fixed _ (name (task_short model named (first_stop reaction).task)
        (fixed _ (number (ten_digits ((first_stop reaction).job - 1) (omega (arith, first_is.job)))
        (fixed _ (name (task_short model named (last_stop reaction).task) (fixed _ (number (ten_digits (last_stop reaction).job last_is.job) (fixed _ none)))))))))))))
        (omega arith)

    end_lines : AreWithin (input_line model look reaction ∷ output_line model look reaction ∷ drawn_length_line look reaction ∷ drawn_words_line model look reaction ∷ []) 470
    end_lines = wider_lines 470
        (a_line (fixed _ (number (x_at reaction.from) (fixed _ (number (line_digits (first_stop reaction) first_is) (fixed _ none)))))
        (a_line (fixed _ (number (x_at reaction.to) (fixed _ (number (line_digits (last_stop reaction) last_is) (fixed _ none)))))
        (a_line (fixed _ (number (x_at reaction.from) (fixed _ (number (y_digits 210 (omega arith)) (fixed _ (number (x_at reaction.to) (fixed _ none)))))))
        (a_line said_within no_lines)))) (omega arith)

    inside_within : (word : List ℕ) → IsShortName word → AreWithin (inside_lines model look word reaction) (800 + 200 * groups)
    unfolding inside_lines
    inside_within word short =
        let frames = lines_of (frame_line model look) reaction.stops 67 (each_stop (λ (stop : Stop). IsWithin (frame_line model look stop) 67) frame_within) in
        wider_lines (800 + 200 * groups)
        (a_line (title_within word short) (a_line falls_within
        (a_line (steps_within (codes "<path class=\"o\" d=\"M") (omega arith)) (a_line (steps_within (codes "<path class=\"l\" d=\"M") (omega arith))
        (both_lines frames end_lines))))) (omega (arith, small.count))

    reaction_within : (word : List ℕ) → IsShortName word → AreWithin (reaction_lines model look word reaction) (800 + 200 * groups)
    reaction_within word short = choose (λ es. AreWithin es (800 + 200 * groups)) (is_whole_inside look reaction) (inside_lines model look word reaction) (outside_line look reaction ∷ [])
        (λ yes. inside_within word short) (λ no. wider_lines (800 + 200 * groups) outside_within (omega arith))

  shown_within : (groups : ℕ) (word : List ℕ) → IsShortName word → (reaction : Option Reaction) → IsSmallShown model groups reaction
      → AreWithin (shown_lines model look word reaction) (800 + 200 * groups)
  shown_within groups word short None small = wider_lines (800 + 200 * groups) none_within (omega arith)
  shown_within groups word short (Some reaction) small = reaction_within groups reaction small word short

  pub chain_within : (groups : ℕ) (word : List ℕ) → IsShortName word → (reaction : Option Reaction) → IsSmallShown model groups reaction
      → AreWithin (drawn_chain_lines model look word reaction) (1000 + 200 * groups)
  unfolding drawn_chain_lines
  chain_within groups word short reaction small = wider_lines (1000 + 200 * groups)
      (both_lines (both_lines (group_within word short) (shown_within groups word short reaction small)) (a_line (fixed _ none) no_lines)) (omega arith)
