-- The lines of a chain: its longest reaction, over each job that carries it.
use Rattle.std.specs.Prelude.{ℕ, Bool, Option, Some, None, ◌+◌, ◌-◌, ◌*◌, ◌&&◌, ◌==◌, nat_lt, nat_le, max, if◌then◌else◌, List, [], ◌∷◌, ◌++◌, length, map, codes}
use Rattle.std.specs.List.{flat_map, range_with_len}
use Rattle.cl_model.specs.{declared.model.SystemModel.SystemModel, ByNumber.task_at}
use Rattle.cl_picture.specs.{Pieces.{Piece, Fixed, Number, Name, Element}, Window.x_of, Frame.close_line}
use Rattle.cl_draw.specs.{declared.{chain_lines.Look.Look, stops.{Stop.Stop, Reaction.Reaction}}, Places.row_top, Reactions.stop_at_group}

-- ---- heights

-- the middle of the row of a task
abbrev pub middle_of : SystemModel → (task : ℕ) → ℕ
middle_of model task = row_top model task + 180

-- the line of a chain in a row with this middle: chains of two colours don't hide each other
abbrev pub coloured_line : (colour middle : ℕ) → ℕ
coloured_line colour middle =
    if colour == 0 then middle else (if colour == 1 then middle + 40 else (if colour == 2 then middle - 40 else middle + 80))

-- the line of a chain in the row of a stop
abbrev pub stop_line : SystemModel → (colour : ℕ) → Stop → ℕ
stop_line model colour stop = coloured_line colour (middle_of model stop.task)

-- half the height of the frame round a job
abbrev pub half_of : (colour : ℕ) → ℕ
half_of colour = 110 + 20 * colour

-- where a chain leaves the frame of a job for the next one: below, above, or on its line in the same row
abbrev pub leave : (colour middle next line : ℕ) → ℕ
leave colour middle next line =
    if nat_lt middle next then middle + half_of colour else (if nat_lt next middle then middle - half_of colour else line)

-- the first and the last stop of a reaction
abbrev pub first_stop : Reaction → Stop
first_stop reaction = stop_at_group reaction.stops 0

abbrev pub last_stop : Reaction → Stop
last_stop reaction = stop_at_group reaction.stops (length reaction.stops - 1)

-- ---- the lines of a reaction in the window

abbrev pub stop_pieces : SystemModel → Stop → List Piece
stop_pieces model stop = Fixed (codes " ") ∷ Name (task_at model stop.task).name ∷ Fixed (codes ":") ∷ Number stop.job ∷ []

abbrev pub title_head : (name : List ℕ) → Reaction → List Piece
title_head name reaction =
    Fixed (codes "<title>") ∷ Name name ∷ Fixed (codes ": reaction ") ∷ Number (reaction.to - reaction.from)
    ∷ Fixed (codes " from ") ∷ Number reaction.from ∷ Fixed (codes " to ") ∷ Number reaction.to ∷ Fixed (codes " jobs") ∷ []

-- the title: the reaction as a replay says it
abbrev pub reaction_title_line : SystemModel → (name : List ℕ) → Reaction → Element
reaction_title_line model name reaction = title_head name reaction ++ flat_map (stop_pieces model) reaction.stops ++ Fixed (codes "</title>") ∷ []

-- the lines between the ends of the reaction and its length below
abbrev pub falls_line : SystemModel → Look → Reaction → Element
falls_line model look reaction =
    Fixed (codes "<path class=\"v\" d=\"M") ∷ Number (x_of look.window reaction.from) ∷ Fixed (codes " ") ∷ Number (look.y + 270)
    ∷ Fixed (codes "V") ∷ Number (stop_line model look.colour (first_stop reaction))
    ∷ Fixed (codes "M") ∷ Number (x_of look.window reaction.to) ∷ Fixed (codes " ") ∷ Number (look.y + 270)
    ∷ Fixed (codes "V") ∷ Number (stop_line model look.colour (last_stop reaction)) ∷ Fixed (codes "\"/>") ∷ []

-- from the input to the read of the first job
abbrev pub steps_head : SystemModel → Look → (opening : List ℕ) → Reaction → List Piece
steps_head model look opening reaction =
    Fixed opening ∷ Number (x_of look.window reaction.from) ∷ Fixed (codes " ") ∷ Number (stop_line model look.colour (first_stop reaction))
    ∷ Fixed (codes "H") ∷ Number (x_of look.window (first_stop reaction).read) ∷ []

-- from the write of a job to the read of the next
abbrev pub step_pieces : SystemModel → Look → (stop next : Stop) → List Piece
step_pieces model look stop next =
    Fixed (codes "M") ∷ Number (x_of look.window stop.write) ∷ Fixed (codes " ")
    ∷ Number (leave look.colour (middle_of model stop.task) (middle_of model next.task) (stop_line model look.colour next))
    ∷ Fixed (codes "V") ∷ Number (stop_line model look.colour next) ∷ Fixed (codes "H") ∷ Number (x_of look.window next.read) ∷ []

-- the step to the stop after a stop
abbrev pub step_pieces_at : SystemModel → Look → List Stop → (k : ℕ) → List Piece
step_pieces_at model look stops k = step_pieces model look (stop_at_group stops k) (stop_at_group stops (k + 1))

-- the steps of the reaction
abbrev pub steps_line : SystemModel → Look → (opening : List ℕ) → Reaction → Element
steps_line model look opening reaction =
    steps_head model look opening reaction ++ flat_map (step_pieces_at model look reaction.stops) (range_with_len 0 (length reaction.stops - 1))
    ++ Fixed (codes "\"/>") ∷ []

-- the frame of a job, from its read to its write
abbrev pub frame_line : SystemModel → Look → Stop → Element
frame_line model look stop =
    Fixed (codes "<rect class=\"q\" x=\"") ∷ Number (x_of look.window stop.read)
    ∷ Fixed (codes "\" y=\"") ∷ Number (middle_of model stop.task - half_of look.colour)
    ∷ Fixed (codes "\" width=\"") ∷ Number (max (x_of look.window stop.write - x_of look.window stop.read) 10)
    ∷ Fixed (codes "\" height=\"") ∷ Number (2 * half_of look.colour) ∷ Fixed (codes "\"/>") ∷ []

-- the input and the output
abbrev pub input_line : SystemModel → Look → Reaction → Element
input_line model look reaction =
    Fixed (codes "<circle class=\"i\" cx=\"") ∷ Number (x_of look.window reaction.from)
    ∷ Fixed (codes "\" cy=\"") ∷ Number (stop_line model look.colour (first_stop reaction)) ∷ Fixed (codes "\" r=\"45\"/>") ∷ []

abbrev pub output_line : SystemModel → Look → Reaction → Element
output_line model look reaction =
    Fixed (codes "<circle class=\"f\" cx=\"") ∷ Number (x_of look.window reaction.to)
    ∷ Fixed (codes "\" cy=\"") ∷ Number (stop_line model look.colour (last_stop reaction)) ∷ Fixed (codes "\" r=\"25\"/>") ∷ []

-- the length, below
abbrev pub drawn_length_line : Look → Reaction → Element
drawn_length_line look reaction =
    Fixed (codes "<path class=\"l\" d=\"M") ∷ Number (x_of look.window reaction.from) ∷ Fixed (codes " ") ∷ Number (look.y + 210)
    ∷ Fixed (codes "v120m0-60H") ∷ Number (x_of look.window reaction.to) ∷ Fixed (codes "m0-60v120\"/>") ∷ []

-- where the words begin
abbrev pub words_left : Look → Reaction → List Piece
words_left look reaction = Fixed (codes "<text x=\"") ∷ Number (x_of look.window reaction.from + 60) ∷ Fixed (codes "\" y=\"") ∷ []

-- or end, where there is more room on that side
abbrev pub words_right : Look → Reaction → List Piece
words_right look reaction = Fixed (codes "<text class=\"z\" x=\"") ∷ Number (x_of look.window reaction.to - 60) ∷ Fixed (codes "\" y=\"") ∷ []

abbrev pub words_place : Look → Reaction → List Piece
words_place look reaction =
    if nat_le (x_of look.window reaction.from + x_of look.window reaction.to) 14000 then words_left look reaction else words_right look reaction

-- the words behind their place: the job that just misses the input is the one before the first
abbrev pub words_rest : SystemModel → Look → Reaction → (first last : Stop) → List Piece
words_rest model look reaction first last =
    Number (look.y + 210) ∷ Fixed (codes "\"><tspan>reaction ") ∷ Number (reaction.to - reaction.from)
    ∷ Fixed (codes "</tspan> input just missed by ") ∷ Name (task_at model first.task).name ∷ Fixed (codes ":") ∷ Number (first.job - 1)
    ∷ Fixed (codes ", output by ") ∷ Name (task_at model last.task).name ∷ Fixed (codes ":") ∷ Number last.job ∷ Fixed (codes "</text>") ∷ []

-- the words
abbrev pub drawn_words_line : SystemModel → Look → Reaction → Element
drawn_words_line model look reaction = words_place look reaction ++ words_rest model look reaction (first_stop reaction) (last_stop reaction)

unfoldable pub inside_lines : SystemModel → Look → (name : List ℕ) → Reaction → List Element
inside_lines model look name reaction =
    reaction_title_line model name reaction ∷ falls_line model look reaction
    ∷ steps_line model look (codes "<path class=\"o\" d=\"M") reaction ∷ steps_line model look (codes "<path class=\"l\" d=\"M") reaction
    ∷ map (frame_line model look) reaction.stops
    ++ input_line model look reaction ∷ output_line model look reaction ∷ drawn_length_line look reaction ∷ drawn_words_line model look reaction ∷ []

-- ---- the lines of a chain

abbrev pub drawn_group_line : (name : List ℕ) → Look → Element
drawn_group_line name look =
    Fixed (codes "<g id=\"chain-") ∷ Name name ∷ Fixed (codes "\" class=\"c c") ∷ Number look.colour ∷ Fixed (codes "\">") ∷ []

abbrev pub open_lines : (name : List ℕ) → Look → List Element
open_lines name look =
    drawn_group_line name look ∷ (Fixed (codes "<path class=\"w\" d=\"M160 ") ∷ Number (look.y + 185) ∷ Fixed (codes "h90\"/>") ∷ []) ∷ []

abbrev pub drawn_none_line : Look → Element
drawn_none_line look =
    Fixed (codes "<text class=\"m\" x=\"2080\" y=\"") ∷ Number (look.y + 230) ∷ Fixed (codes "\">no complete reaction in this run</text>") ∷ []

abbrev pub outside_line : Look → Reaction → Element
outside_line look reaction =
    Fixed (codes "<text class=\"m\" x=\"2080\" y=\"") ∷ Number (look.y + 230) ∷ Fixed (codes "\">reaction ")
    ∷ Number (reaction.to - reaction.from) ∷ Fixed (codes " from ") ∷ Number reaction.from ∷ Fixed (codes " to ") ∷ Number reaction.to
    ∷ Fixed (codes ", not in this window</text>") ∷ []

-- whether all of a reaction lies in the window
abbrev pub is_whole_inside : Look → Reaction → Bool
is_whole_inside look reaction = nat_le look.window.from reaction.from && nat_le reaction.to look.window.to

-- the lines of a reaction, by whether it lies in the window
abbrev pub reaction_lines : SystemModel → Look → (name : List ℕ) → Reaction → List Element
reaction_lines model look name reaction =
    if is_whole_inside look reaction then inside_lines model look name reaction else (outside_line look reaction ∷ [])

-- what is shown of a chain
abbrev pub shown_lines : SystemModel → Look → (name : List ℕ) → Option Reaction → List Element
shown_lines model look name None = drawn_none_line look ∷ []
shown_lines model look name (Some reaction) = reaction_lines model look name reaction

-- the lines of a chain of this name
unfoldable pub drawn_chain_lines : SystemModel → Look → (name : List ℕ) → Option Reaction → List Element
drawn_chain_lines model look name reaction = open_lines name look ++ shown_lines model look name reaction ++ close_line ∷ []
