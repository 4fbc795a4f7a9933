use Rattle.std.proofs.Common.{ℕ, ◌<◌, ◌++◌, length, Option, refl, sym, ap, ◌∙◌, subst, arith}
use Rattle.std.specs.Prelude.{IfSome}
use Rattle.cl_runs.specs.{declared.job.JobTable.JobTable, Run.entry_at}
use Rattle.cl_traces.specs.SaidOfRules.{found_and_wanted, entry_words}
use Rattle.cl_traces.proofs.CoreEntries.{has_entries, has_entry, entry_within}
use Rattle.cl_traces.proofs.schedule.put_schedule.Goals as goal

pub entry-found-requires-clause-is_core : goal.entry-found-requires-clause-is_core
entry-found-requires-clause-is_core c = has_entries c.args.model.now c.args.run.now c.requires.in_form c.args.core c.args.tick c.requires.core c.requires.tick

pub entry-wanted-requires-clause-is_core : goal.entry-wanted-requires-clause-is_core
entry-wanted-requires-clause-is_core c = has_entries c.args.model.now c.in_ok-legal.legal c.in_ok-legal.ensures.legal.in_form c.args.core c.args.tick c.requires.core
    (let ticks = ap (λ (t : JobTable). t.ticks) c.in_ok-legal.ensures.table in omega (arith, c.requires.tick, ticks))

pub entry-found-requires-clause-is_tick : goal.entry-found-requires-clause-is_tick
entry-found-requires-clause-is_tick c = has_entry c.args.model.now c.args.run.now c.requires.in_form c.args.core c.args.tick c.requires.core c.requires.tick

pub entry-wanted-requires-clause-is_tick : goal.entry-wanted-requires-clause-is_tick
entry-wanted-requires-clause-is_tick c = has_entry c.args.model.now c.in_ok-legal.legal c.in_ok-legal.ensures.legal.in_form c.args.core c.args.tick c.requires.core
    (let ticks = ap (λ (t : JobTable). t.ticks) c.in_ok-legal.ensures.table in omega (arith, c.requires.tick, ticks))

pub put_entries-requires-clause-found : goal.put_entries-requires-clause-found
put_entries-requires-clause-found c =
    subst (λ (entry : Option ℕ). IfSome entry (λ task. task < length c.args.model.now.tasks)) (sym c.entry-found.ensures)
    (entry_within c.args.model.now c.args.run.now c.requires.in_form c.args.core c.args.tick c.requires.core c.requires.tick)

pub put_entries-requires-clause-wanted : goal.put_entries-requires-clause-wanted
put_entries-requires-clause-wanted c =
    subst (λ (entry : Option ℕ). IfSome entry (λ task. task < length c.args.model.now.tasks)) (sym c.entry-wanted.ensures)
    (entry_within c.args.model.now c.in_ok-legal.legal c.in_ok-legal.ensures.legal.in_form c.args.core c.args.tick c.requires.core
    (let ticks = ap (λ (t : JobTable). t.ticks) c.in_ok-legal.ensures.table in omega (arith, c.requires.tick, ticks)))

pub returns : goal.returns
returns c =
    let model = c.args.model.now in
    let old = c.args.text.now in
    record {
      said = found_and_wanted (entry_words model (entry_at c.args.run.now c.args.core c.args.tick))
          (entry_words model (entry_at c.in_ok-legal.legal c.args.core c.args.tick));
      is_said = record {
        legal = c.in_ok-legal.legal;
        is_legal = c.in_ok-legal.ensures.legal;
        same_table = c.in_ok-legal.ensures.table;
        text_is = refl;
      };
      text_is = c.in_ok-put_entries.ensures
          ∙ ap (λ (entry : Option ℕ). old ++ found_and_wanted (entry_words model entry) (entry_words model c.entry-wanted.result)) c.entry-found.ensures
          ∙ ap (λ (entry : Option ℕ). old ++ found_and_wanted (entry_words model (entry_at c.args.run.now c.args.core c.args.tick)) (entry_words model entry))
          c.entry-wanted.ensures;
    }
