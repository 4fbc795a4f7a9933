-- Ways to access labels, by their kinds.
use Rattle.cl_model.specs.declared.task.AccessKind.{AccessKind}
use Rattle.cl_model.specs.declared.task.AccessKind.TheVariants as kinds
use Rattle.cl_comm.specs.declared.any_access.AnyAccess.{AnyAccess}
use Rattle.cl_comm.specs.declared.any_access.AnyAccess.TheVariants as ways

-- the kind of a way to access labels
abbrev pub access_kind_of : AnyAccess → AccessKind
access_kind_of (ways.Explicit access) = kinds.Explicit
access_kind_of (ways.Implicit access) = kinds.Implicit
access_kind_of (ways.Timed access) = kinds.Timed
