-- `level::Level::plot`: the quotient of a valid level is the f64 nearest to it.
use Rattle.std.proofs.Common.{rules}
use mathlib.Core.Path.{sym, subst}
use Rattle.level.specs.Plot.{NearestF64}
use Rattle.level.proofs.NearestF64.{nearest-f64}
use Rattle.level.proofs.Level.plot.Goals as goal

pub returns-clause-nearest : goal.returns-clause-nearest
returns-clause-nearest c = subst (NearestF64 _) (sym c.quotient.ensures) (nearest-f64 _ (search rules))
