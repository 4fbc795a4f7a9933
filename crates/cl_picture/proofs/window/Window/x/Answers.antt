use Rattle.std.proofs.Common.{◌≤◌, ℕ, rules, sym, subst}
use Rattle.cl_picture.specs.Window.{x_of}
use Rattle.cl_picture.proofs.Lengths.{x_most}
use Rattle.cl_picture.proofs.window.Window.x.Goals as goal

pub returns-clause-x : goal.returns-clause-x
unfolding x_of
returns-clause-x c = search rules

pub returns-clause-most : goal.returns-clause-most
returns-clause-most c = subst (λ (n : ℕ). n ≤ 11600) (sym (returns-clause-x c)) (x_most c.args.self c.args.tick c.requires)
