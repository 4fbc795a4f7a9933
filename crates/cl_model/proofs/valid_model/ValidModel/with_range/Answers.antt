use Rattle.std.proofs.Common.{refl, arith}
use Rattle.cl_model.proofs.{KeptLookUps.{range_stands, changed_task}, ValidTasks.time_few}
use Rattle.cl_model.proofs.valid_model.ValidModel.with_range.Goals as goal

pub greatest_time-requires : goal.greatest_time-requires
greatest_time-requires c =
    let valid = rw (← c.self.view_is) at c.requires.valid in
    let known = rw (← c.self.view_is) at c.requires.step.known in
    let here = changed_task c.self.inside.model c.args.step c.args.least c.args.greatest c.set_range.new.self c.as_slice.result.now c.index-as_slice-task.result
    valid known c.set_range.ensures c.as_slice.ensures c.index-as_slice-task.is in
    omega (arith, time_few c.index-as_slice-task.result here.1)

pub invariant_of-result : goal.invariant_of-result
invariant_of-result c =
    let valid = rw (← c.self.view_is) at c.requires.valid in
    let known = rw (← c.self.view_is) at c.requires.step.known in
    let here = changed_task c.self.inside.model c.args.step c.args.least c.args.greatest c.set_range.new.self c.as_slice.result.now c.index-as_slice-task.result
    valid known c.set_range.ensures c.as_slice.ensures c.index-as_slice-task.is in
    rw (c.set_range.ensures, c.greatest_time.ensures, here.0) (range_stands c.self.inside c.self.invariant c.args.step c.args.least c.args.greatest valid _ refl known refl refl refl refl refl refl)
