-- `sums::build`: what is filled in are the checkpoints of the series.
use mathlib.Core.Path.{sym, subst}
use Rattle.sums.specs.Checkpoints.{Kept}
use Rattle.sums.proofs.KeptLaws.{filled}
use Rattle.sums.proofs.build.Goals as goal

pub returns-clause-kept : goal.returns-clause-kept
returns-clause-kept c = subst (Kept _) (sym c.fill.ensures) (filled c.args.samples.now c.args.entries.now c.if-entries-count.false)
