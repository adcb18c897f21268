-- `text::inner::width`: as many digits as the power of ten tells.
use Rattle.text.proofs.TextParts.{width_is}
use Rattle.text.proofs.inner.width.Goals as goal

pub returns : goal.returns
returns c =
    let f = c.ilog10.ensures in
    let e = c.max.ensures in
    record { answer = width_is c.ilog10.result c.args.n (rw e at f.power_le) (rw e at f.next_power_gt) }
