-- `fast::line`: what its lists hold is the one line of the series, the least.
use Rattle.std.proofs.Common.{rules}
use Rattle.denoise.proofs.LineLaws.{drawn-meets, drawn-only, drawn-least}
use Rattle.fast.proofs.line.Goals as goal

pub returns-clause-meets : goal.returns-clause-meets
returns-clause-meets c = drawn-meets c.args.samples.now c.args.smoothing c.args.lengths.now c.args.totals.now (search rules) (search rules) (search rules)

pub returns-clause-only : goal.returns-clause-only
returns-clause-only c = drawn-only c.args.samples.now c.args.smoothing c.args.lengths.now c.args.totals.now (search rules) (search rules) (search rules)

pub returns-clause-least : goal.returns-clause-least
returns-clause-least c = drawn-least c.args.samples.now c.args.smoothing c.args.lengths.now c.args.totals.now (search rules) (search rules) (search rules)
