-- `chart::line::Line::minutes`: a length more of the sum.
use mathlib.Core.Path.{refl, ap, ◌∙◌}
use native.Mathlib.Numerals.{add-one}
use native.Mathlib.Omega.{arith}
use Prim.Native.Nat.{suc}
use lib.ListN.{take}
use lib.Seq.{take_all}
use Rattle.chart.specs.Drawable.{sum}
use Rattle.chart.proofs.SumLaws.{sum-next, sum-part}
use Rattle.chart.proofs.line.Line.minutes.Goals as goal

pub loop-length-init : goal.loop-length-init
unfolding sum
loop-length-init c = refl

pub overflow_add-n : goal.overflow_add-n
overflow_add-n c =
    let ns = c.args.self.lengths.now in
    let xs = take c.args.k ns in
    let i = c.loop-length.length-index in
    record { fits = omega (arith, c.loop-length.invariant, sum-next xs i c.loop-length-test.true, sum-part xs (suc i), sum-part ns c.args.k, c.args.self.drawable.short) }

pub loop-length-preserved : goal.loop-length-preserved
loop-length-preserved c =
    let i = c.loop-length.length-index in
    rw (add-one i, c.loop-length.invariant, sum-next (take c.args.k c.args.self.lengths.now) i c.loop-length-test.true) refl

pub returns : goal.returns
returns c = c.loop-length.invariant ∙ ap sum (take_all c.loop-length.length-index (take c.args.k c.args.self.lengths.now) (omega (arith, c.loop-length-test.false)))
