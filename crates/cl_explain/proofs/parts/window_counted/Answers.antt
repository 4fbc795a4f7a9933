use Rattle.std.proofs.Common.{sym, ◌∙◌, arith}
use Rattle.cl_explain.proofs.SettledWindows.{narrow_window}
use Rattle.cl_explain.proofs.parts.window_counted.Goals as goal

pub returns-in-Settled-clause-narrow : goal.returns-in-Settled-clause-narrow
returns-in-Settled-clause-narrow c =
    omega (arith, c.window.ensures, narrow_window c.args.question.now c.requires.in_range c.in-Settled.settled (sym c.in-Settled.is ∙ c.requires.answer))
