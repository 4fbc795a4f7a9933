use Rattle.std.proofs.Common.{rules, ◌≡◌, ℕ, ◌+◌, ◌-◌, ◌^◌, min, Option, None, Some, List, sym, subst, arith}
use Rattle.cl_run_data.specs.Stretches.{entries_from}
use Rattle.cl_check.specs.{declared.job_ends.End.{End, TheVariants.{Start, Finish}}, JobMoments.IsMomentOf, Inner.Walks.{RunsAfter, EndsAfter, IsEndAfter}}
use Rattle.cl_check.proofs.job_ends.end_after.Goals as goal

module _ (entries : List (Option ℕ)) (task before own : ℕ) (end : End) where
  start_at : (found : Option ℕ) → end ≡ Start → IsMomentOf (RunsAfter entries task before) found → IsMomentOf (IsEndAfter end entries task before own) found
  start_at found is runs = subst (λ e. IsMomentOf (IsEndAfter e entries task before own) found) (sym is) runs

  module _ (is : end ≡ Finish) (work : ℕ) (same : work ≡ min (before + (own - 1)) (2 ^ 64 - 1)) where
    none_ends : IsMomentOf (RunsAfter entries task work) None → IsMomentOf (IsEndAfter end entries task before own) None
    none_ends none = subst (λ e. IsMomentOf (IsEndAfter e entries task before own) None) (sym is)
        (λ t ends. none ends.tick (subst (λ w. RunsAfter entries task w ends.tick) (sym same) ends.runs))

    ends_behind : (tick : ℕ) → RunsAfter entries task work tick → IsMomentOf (IsEndAfter end entries task before own) (Some (tick + 1))
    ends_behind tick runs =
        let at_finish : EndsAfter entries task (min (before + (own - 1)) (2 ^ 64 - 1)) (tick + 1)
        = record { tick = tick; ends = omega arith; runs = subst (λ w. RunsAfter entries task w tick) same runs } in
        subst (λ e. IsMomentOf (IsEndAfter e entries task before own) (Some (tick + 1))) (sym is) at_finish

pub returns-in-Start-clause-end : goal.returns-in-Start-clause-end
returns-in-Start-clause-end c = start_at (entries_from 0 c.args.stretches.now) c.args.task c.args.before c.args.own c.args.end _ c.in-Start.is c.seek.ensures.tick

pub returns-in_err-last-in-Finish-clause-end : goal.returns-in_err-last-in-Finish-clause-end
returns-in_err-last-in-Finish-clause-end c =
    let none : c.from_residual.result ≡ None = search rules in
    subst (λ (found : Option ℕ). IsMomentOf (IsEndAfter c.args.end (entries_from 0 c.args.stretches.now) c.args.task c.args.before c.args.own) found) (sym none)
    (none_ends (entries_from 0 c.args.stretches.now) c.args.task c.args.before c.args.own c.args.end c.in-Finish.is
    c.saturating_add.result c.saturating_add.ensures c.in_err-last-in-Finish.ensures.tick)

pub returns-in_ok-last-in-Finish-clause-end : goal.returns-in_ok-last-in-Finish-clause-end
returns-in_ok-last-in-Finish-clause-end c = ends_behind (entries_from 0 c.args.stretches.now) c.args.task c.args.before c.args.own c.args.end c.in-Finish.is
    c.saturating_add.result c.saturating_add.ensures c.in_ok-last-in-Finish.last c.in_ok-last-in-Finish.ensures.tick
