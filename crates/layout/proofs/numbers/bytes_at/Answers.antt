-- `layout::numbers::bytes_at`: the part of the slice that is copied.
use Rattle.std.proofs.Common.{◌≡◌, ◌∙◌, ◌+◌, ◌-◌, take, drop, arith}
use mathlib.Core.Path.{ap}
use Rattle.codec.specs.Place.{bytes_at}
use Rattle.layout.proofs.numbers.bytes_at.Goals as goal

pub returns : goal.returns
unfolding bytes_at
returns g c =
    let n : (c.args.at + g.row.N) - c.args.at ≡ g.row.N = omega arith in
    c.copy_from_slice.ensures.after ∙ ap (λ k. take k (drop c.args.at c.args.sheet.now)) n
