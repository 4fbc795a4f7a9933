use Rattle.std.proofs.Common.{refl, sym, subst}
use Rattle.std.proofs.lemmas.Result.{on_ok_weaker}
use Rattle.cl_model.specs.ByNumber.{task_at}
use Rattle.cl_runs.specs.SystemOf.{system_of}
use Rattle.cl_check.specs.{declared.run_fault.{Rule.{Rule, TheVariants.{Arrival, Release, Time, Missing}}, RunFault.TheVariants.Illegal}, Legality.IsFirstBroken}
use Rattle.cl_traces.specs.SaidOfRules.{said_of_arrival, said_of_release, said_of_time, missing_text, TellsOfRule}
use Rattle.cl_traces.proofs.{BrokenPlaces.{IsTableRule, broken_task, broken_jobs, broken_core}, OneText.tells}
use Rattle.cl_traces.proofs.broken.put_broken_rule.Goals as goal

pub put_arrival_of-requires-clause-task : goal.put_arrival_of-requires-clause-task
put_arrival_of-requires-clause-task c =
    broken_task c.args.model.now c.args.run.now c.args.rule c.args.place c.args.tick (subst IsTableRule (sym c.in-Arrival.is) tt) c.requires.broken

pub put_arrival_of-requires-clause-jobs : goal.put_arrival_of-requires-clause-jobs
put_arrival_of-requires-clause-jobs c =
    broken_jobs c.args.model.now c.args.run.now c.requires.in_form c.args.place
    (broken_task c.args.model.now c.args.run.now c.args.rule c.args.place c.args.tick (subst IsTableRule (sym c.in-Arrival.is) tt) c.requires.broken)

pub returns-in-Arrival : goal.returns-in-Arrival
returns-in-Arrival c =
    on_ok_weaker c.put_arrival_of.result
    (tells c.args.model.now c.args.run.now c.args.place c.args.tick c.args.text.now c.put_arrival_of.new.text (said_of_arrival c.args.model.now c.args.run.now c.args.place)
    c.args.rule Arrival c.in-Arrival.is refl)
    c.put_arrival_of.ensures

pub put_release_of-requires-clause-task : goal.put_release_of-requires-clause-task
put_release_of-requires-clause-task c =
    broken_task c.args.model.now c.args.run.now c.args.rule c.args.place c.args.tick (subst IsTableRule (sym c.in-Release.is) tt) c.requires.broken

pub put_release_of-requires-clause-jobs : goal.put_release_of-requires-clause-jobs
put_release_of-requires-clause-jobs c =
    broken_jobs c.args.model.now c.args.run.now c.requires.in_form c.args.place
    (broken_task c.args.model.now c.args.run.now c.args.rule c.args.place c.args.tick (subst IsTableRule (sym c.in-Release.is) tt) c.requires.broken)

pub returns-in-Release : goal.returns-in-Release
returns-in-Release c =
    on_ok_weaker c.put_release_of.result
    (tells c.args.model.now c.args.run.now c.args.place c.args.tick c.args.text.now c.put_release_of.new.text (said_of_release c.args.model.now c.args.run.now c.args.place)
    c.args.rule Release c.in-Release.is refl)
    c.put_release_of.ensures

pub put_time_of-requires-clause-task : goal.put_time_of-requires-clause-task
put_time_of-requires-clause-task c =
    broken_task c.args.model.now c.args.run.now c.args.rule c.args.place c.args.tick (subst IsTableRule (sym c.in-Time.is) tt) c.requires.broken

pub put_time_of-requires-clause-jobs : goal.put_time_of-requires-clause-jobs
put_time_of-requires-clause-jobs c =
    broken_jobs c.args.model.now c.args.run.now c.requires.in_form c.args.place
    (broken_task c.args.model.now c.args.run.now c.args.rule c.args.place c.args.tick (subst IsTableRule (sym c.in-Time.is) tt) c.requires.broken)

pub returns-in-Time : goal.returns-in-Time
returns-in-Time c =
    on_ok_weaker c.put_time_of.result
    (tells c.args.model.now c.args.run.now c.args.place c.args.tick c.args.text.now c.put_time_of.new.text (said_of_time c.args.model.now c.args.run.now c.args.place)
    c.args.rule Time c.in-Time.is refl)
    c.put_time_of.ensures

pub put_missing-requires : goal.put_missing-requires
put_missing-requires c =
    broken_task c.args.model.now c.args.run.now c.args.rule c.args.place c.args.tick (subst IsTableRule (sym c.in-Missing.is) tt) c.requires.broken

pub returns-in-Missing : goal.returns-in-Missing
returns-in-Missing c =
    on_ok_weaker c.put_missing.result
    (tells c.args.model.now c.args.run.now c.args.place c.args.tick c.args.text.now c.put_missing.new.text (missing_text (task_at c.args.model.now c.args.place).name c.args.tick)
    c.args.rule Missing c.in-Missing.is refl)
    c.put_missing.ensures

pub put_schedule-requires-clause-lawful : goal.put_schedule-requires-clause-lawful
put_schedule-requires-clause-lawful c =
    (broken_core c.args.model.now c.args.run.now c.args.place c.args.tick c.requires.in_form (subst (λ (rule : Rule). IsFirstBroken (system_of c.args.model.now) c.args.run.now (Illegal rule c.args.place c.args.tick)) c.in-Schedule.is c.requires.broken)).lawful

pub put_schedule-requires-clause-core : goal.put_schedule-requires-clause-core
put_schedule-requires-clause-core c =
    (broken_core c.args.model.now c.args.run.now c.args.place c.args.tick c.requires.in_form (subst (λ (rule : Rule). IsFirstBroken (system_of c.args.model.now) c.args.run.now (Illegal rule c.args.place c.args.tick)) c.in-Schedule.is c.requires.broken)).is_core

pub put_schedule-requires-clause-tick : goal.put_schedule-requires-clause-tick
put_schedule-requires-clause-tick c =
    (broken_core c.args.model.now c.args.run.now c.args.place c.args.tick c.requires.in_form (subst (λ (rule : Rule). IsFirstBroken (system_of c.args.model.now) c.args.run.now (Illegal rule c.args.place c.args.tick)) c.in-Schedule.is c.requires.broken)).is_tick

pub returns-in-Schedule : goal.returns-in-Schedule
returns-in-Schedule c =
    on_ok_weaker c.put_schedule.result
    (λ told. subst (λ (rule : Rule). TellsOfRule c.args.model.now c.args.run.now rule c.args.place c.args.tick c.args.text.now c.put_schedule.new.text)
    (sym c.in-Schedule.is) told)
    c.put_schedule.ensures
