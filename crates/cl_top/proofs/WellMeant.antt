-- Each command is meant well.
pub mod Alone
pub mod OnModels
pub mod Simulate
pub mod Witness
pub mod Why
pub mod Replay
pub mod Observe
pub mod Draw
pub mod Edit
pub mod Apply
pub mod Check
pub mod CheckFile
use Rattle.std.proofs.Common.{◌≡◌, ℕ, ◌<◌, List, [], ◌∷◌, length, Option, Some, None, subst, arith}
use Rattle.std.proofs.lemmas.Bool.{cond_both}
use Rattle.std.specs.Prelude.{◌==◌, codes}
use Rattle.std.specs.Str.{bytes_eq}
use Rattle.cl_gen.specs.declared.limits.TheConstants.{MOST_RUN_TICKS}
use Rattle.cl_picture.specs.declared.window.TheConstants.{MOST_WINDOW}
use Rattle.cl_engine.specs.{Files.file_count, declared.outcome.Outcome.Outcome}
use Rattle.cl_model.specs.{declared.model.SystemModel.SystemModel, Validity.IsValid}
use Rattle.cl_runs.specs.{Legal.IsLegal, Run.Run, SystemOf.system_of}
use Rattle.cl_top.specs.{declared.{command.Command.Command, commands.help.TheConstants.VERSION}, Command.{files_read, upto, some_tasks, any_seed, whole, checking_of, with_two_numbers, with_subject, with_topic, asks_help, asks_version, by_verb, command_of, AsksForFew}}
use Rattle.cl_top.specs.Commands.{command_meaning, of_run}
use Rattle.cl_top.specs.declared.command.Command.TheVariants as command
use Rattle.cl_help.specs.{declared.overview.TheConstants.HELP, Topic.about}
use Rattle.cl_top.proofs.WellMeant.{Alone.{saying_well, generating_well, surveying_well}, Apply.applying_well, Check.checking_well, CheckFile.checking_file_well, Draw.{drawing_well, drawn_once}, Edit.editing_well, Observe.observing_well, OnModels.{analysing_well, migrating_well}}
use Rattle.cl_top.proofs.{WellMeant.{OnModels.{cutting_well, ordering_well, headroom_well, margin_well, tightening_well, verifying_well, explaining_well}, Replay.{replaying_well, replayed_once}, Simulate.simulating_well, Why.reasoning_well, Witness.witnessing_well}, Meanings.IsMeantWell}
use Rattle.cl_top.proofs.Words.{IsGood, whole_good, numbered_good, subject_good, topic_good}

pub meant_well : (asked : Command) → IsMeantWell (files_read asked) (command_meaning asked) (AsksForFew asked)
unfolding command_meaning AsksForFew
meant_well command.Analyse = analysing_well
meant_well command.Migrate = migrating_well
meant_well command.Cut = cutting_well
meant_well command.Order = ordering_well
meant_well command.Headroom = headroom_well
meant_well command.Margin = margin_well
meant_well command.Tighten = tightening_well
meant_well command.Verify = verifying_well
meant_well command.Explain = explaining_well
meant_well (command.Witness what name) = witnessing_well what name (AsksForFew (command.Witness what name))
meant_well (command.Why what name) = reasoning_well what name (AsksForFew (command.Why what name))
meant_well (command.Simulate ticks seed) = simulating_well ticks seed (AsksForFew (command.Simulate ticks seed))
meant_well command.Replay = replaying_well
meant_well command.Observe = observing_well
meant_well (command.Draw from to) = drawing_well from to (AsksForFew (command.Draw from to))
meant_well command.Edit = editing_well
meant_well command.Apply = applying_well
meant_well command.Check = checking_well
meant_well command.CheckFile = checking_file_well
meant_well (command.Generate seed tasks) = generating_well seed tasks
meant_well (command.Survey seed tasks) = surveying_well seed tasks
meant_well command.Help = saying_well HELP.now
meant_well (command.HelpOn topic) = saying_well (about topic)
meant_well command.Version = saying_well VERSION.now

-- what comes of a legal run is one outcome
pub of_run_same : (asked : Command) (model : SystemModel) → IsValid model → (run : Run) → IsLegal (system_of model) run → (one other : Outcome)
    → of_run asked model run one → of_run asked model run other → one ≡ other
of_run_same command.Replay model valid run legal one other h k = replayed_once model run legal one other h k
of_run_same (command.Draw from to) model valid run legal one other h k = drawn_once from to model valid run legal one other h k
of_run_same asked model valid run legal one other h k = absurd h

-- ---- the words of each command

-- what holds of each command behind a verb, and of none, holds of the words
module _ (P : Option Command → Type 0) (words : List (List ℕ)) (of_whole : (asked : Command) → AsksForFew asked → P (whole asked words))
    (witness : P (with_subject command.Witness words)) (why : P (with_subject command.Why words))
    (simulate : P (with_two_numbers command.Simulate 2 (upto MOST_RUN_TICKS) any_seed words)) (draw : P (with_two_numbers command.Draw 3 (upto MOST_WINDOW) (upto MOST_WINDOW) words))
    (generate : P (with_two_numbers command.Generate 1 any_seed some_tasks words)) (survey : P (with_two_numbers command.Survey 1 any_seed some_tasks words))
    (help : P (with_topic words)) (none : P None) where
  of_check : P (checking_of words)
  unfolding AsksForFew
  of_check = cond_both (length words == 2) (whole command.Check words) (whole command.CheckFile words) P (λ _. of_whole command.Check tt) (λ _. of_whole command.CheckFile tt)

  each_verb : (verb : List ℕ) → P (by_verb verb words)
  unfolding AsksForFew
  each_verb verb =
      cond_both (bytes_eq verb (codes "analyse")) _ _ P (λ _. of_whole command.Analyse tt) (λ _.
      cond_both (bytes_eq verb (codes "migrate")) _ _ P (λ _. of_whole command.Migrate tt) (λ _.
      cond_both (bytes_eq verb (codes "cut")) _ _ P (λ _. of_whole command.Cut tt) (λ _.
      cond_both (bytes_eq verb (codes "order")) _ _ P (λ _. of_whole command.Order tt) (λ _.
      cond_both (bytes_eq verb (codes "headroom")) _ _ P (λ _. of_whole command.Headroom tt) (λ _.
      cond_both (bytes_eq verb (codes "margin")) _ _ P (λ _. of_whole command.Margin tt) (λ _.
      cond_both (bytes_eq verb (codes "tighten")) _ _ P (λ _. of_whole command.Tighten tt) (λ _.
      cond_both (bytes_eq verb (codes "verify")) _ _ P (λ _. of_whole command.Verify tt) (λ _.
      cond_both (bytes_eq verb (codes "explain")) _ _ P (λ _. of_whole command.Explain tt) (λ _.
      cond_both (bytes_eq verb (codes "check")) _ _ P (λ _. of_check) (λ _.
      cond_both (bytes_eq verb (codes "witness")) _ _ P (λ _. witness) (λ _.
      cond_both (bytes_eq verb (codes "why")) _ _ P (λ _. why) (λ _.
      cond_both (bytes_eq verb (codes "simulate")) _ _ P (λ _. simulate) (λ _.
      cond_both (bytes_eq verb (codes "replay")) _ _ P (λ _. of_whole command.Replay tt) (λ _.
      cond_both (bytes_eq verb (codes "observe")) _ _ P (λ _. of_whole command.Observe tt) (λ _.
      cond_both (bytes_eq verb (codes "draw")) _ _ P (λ _. draw) (λ _.
      cond_both (bytes_eq verb (codes "edit")) _ _ P (λ _. of_whole command.Edit tt) (λ _.
      cond_both (bytes_eq verb (codes "apply")) _ _ P (λ _. of_whole command.Apply tt) (λ _.
      cond_both (bytes_eq verb (codes "generate")) _ _ P (λ _. generate) (λ _.
      cond_both (bytes_eq verb (codes "survey")) _ _ P (λ _. survey) (λ _.
      cond_both (bytes_eq verb (codes "help")) _ _ P (λ _. help) (λ _.
      cond_both (asks_help verb) _ _ P (λ _. of_whole command.Help tt) (λ _.
      cond_both (asks_version verb) _ _ P (λ _. of_whole command.Version tt) (λ _. none)))))))))))))))))))))))

by_words : (words : List (List ℕ)) → IsGood AsksForFew words (command_of words)
unfolding command_of AsksForFew
by_words [] = tt
by_words (verb ∷ rest) =
    let words = verb ∷ rest in
    each_verb (IsGood AsksForFew words) words (λ asked few. whole_good AsksForFew asked few words)
    (subject_good AsksForFew command.Witness (λ what name. (tt, omega arith)) words)
    (subject_good AsksForFew command.Why (λ what name. (tt, omega arith)) words)
    (numbered_good AsksForFew command.Simulate (upto MOST_RUN_TICKS) any_seed 2 (λ n m small low high. (small, omega arith)) words)
    (numbered_good AsksForFew command.Draw (upto MOST_WINDOW) (upto MOST_WINDOW) 3 (λ n m small low high. (high, omega arith)) words)
    (numbered_good AsksForFew command.Generate any_seed some_tasks 1 (λ n m small low high. ((low, high), omega arith)) words)
    (numbered_good AsksForFew command.Survey any_seed some_tasks 1 (λ n m small low high. ((low, high), omega arith)) words)
    (topic_good AsksForFew tt (λ topic. tt) verb rest)
    tt verb

module _ (words : List (List ℕ)) (asked : Command) (is : command_of words ≡ Some asked) where
  good : AsksForFew asked × (file_count (files_read asked) < length words)
  good = subst (IsGood AsksForFew words) is (by_words words)

  pub asks_for_few : AsksForFew asked
  asks_for_few = good.0

  pub has_file_words : file_count (files_read asked) < length words
  has_file_words = good.1
