-- The commands that `help` tells of, and what it says of each.
use Rattle.std.specs.Prelude.{ℕ, List, if◌then◌else◌, Option, Some, None, codes}
use Rattle.std.specs.Str.{bytes_eq}
use Rattle.cl_help.specs.declared.{topic.Topic.Topic, texts.TheConstants.{ANALYSE, TIGHTEN, VERIFY, EXPLAIN, WITNESS, WHY, CHECK, CUT, ORDER, HEADROOM, MARGIN, MIGRATE, EDIT, APPLY, SIMULATE, REPLAY, OBSERVE, DRAW, GENERATE, SURVEY, HELP, VERSION}}
use Rattle.cl_help.specs.declared.topic.Topic.TheVariants as topic

-- the command of a verb
abbrev pub topic_of : List ℕ → Option Topic
topic_of verb =
    if bytes_eq verb (codes "analyse") then Some topic.Analyse
    else if bytes_eq verb (codes "tighten") then Some topic.Tighten
    else if bytes_eq verb (codes "verify") then Some topic.Verify
    else if bytes_eq verb (codes "explain") then Some topic.Explain
    else if bytes_eq verb (codes "witness") then Some topic.Witness
    else if bytes_eq verb (codes "why") then Some topic.Why
    else if bytes_eq verb (codes "check") then Some topic.Check
    else if bytes_eq verb (codes "cut") then Some topic.Cut
    else if bytes_eq verb (codes "order") then Some topic.Order
    else if bytes_eq verb (codes "headroom") then Some topic.Headroom
    else if bytes_eq verb (codes "margin") then Some topic.Margin
    else if bytes_eq verb (codes "migrate") then Some topic.Migrate
    else if bytes_eq verb (codes "edit") then Some topic.Edit
    else if bytes_eq verb (codes "apply") then Some topic.Apply
    else if bytes_eq verb (codes "simulate") then Some topic.Simulate
    else if bytes_eq verb (codes "replay") then Some topic.Replay
    else if bytes_eq verb (codes "observe") then Some topic.Observe
    else if bytes_eq verb (codes "draw") then Some topic.Draw
    else if bytes_eq verb (codes "generate") then Some topic.Generate
    else if bytes_eq verb (codes "survey") then Some topic.Survey
    else if bytes_eq verb (codes "help") then Some topic.Help
    else if bytes_eq verb (codes "version") then Some topic.Version
    else None

-- its words, what it writes, its statuses and an example
abbrev pub about : Topic → List ℕ
about topic.Analyse = ANALYSE.now
about topic.Tighten = TIGHTEN.now
about topic.Verify = VERIFY.now
about topic.Explain = EXPLAIN.now
about topic.Witness = WITNESS.now
about topic.Why = WHY.now
about topic.Check = CHECK.now
about topic.Cut = CUT.now
about topic.Order = ORDER.now
about topic.Headroom = HEADROOM.now
about topic.Margin = MARGIN.now
about topic.Migrate = MIGRATE.now
about topic.Edit = EDIT.now
about topic.Apply = APPLY.now
about topic.Simulate = SIMULATE.now
about topic.Replay = REPLAY.now
about topic.Observe = OBSERVE.now
about topic.Draw = DRAW.now
about topic.Generate = GENERATE.now
about topic.Survey = SURVEY.now
about topic.Help = HELP.now
about topic.Version = VERSION.now
