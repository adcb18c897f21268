-- `delay_csv::table::count`: a record that ends, a byte more, or no byte.
use mathlib.Core.Path.{sym, ◌∙◌}
use native.Mathlib.Omega.{arith}
use lib.ListN.{drop}
use Rattle.delay_csv.proofs.StartLaws.{ends_in}
use Rattle.delay_csv.proofs.PassLaws.{left-all, left_ended, left-more}
use Rattle.delay_csv.proofs.table.count.Goals as goal

pub loop-k-init : goal.loop-k-init
loop-k-init c = (omega (arith, left-all (drop c.args.at c.args.text.now)), omega arith, c.requires)

pub loop-k-preserved-then-ends : goal.loop-k-preserved-then-ends
loop-k-preserved-then-ends c =
    let text = c.args.text.now in
    let l = c.loop-k in
    let e = sym c.ends.ensures ∙ c.if-ends.true in
    (omega (arith, left_ended text l.begun l.k c.loop-k-test.true e, l.invariant.0), omega (arith, l.invariant.1), ends_in text l.k e)

pub loop-k-preserved : goal.loop-k-preserved
loop-k-preserved c =
    let text = c.args.text.now in
    let l = c.loop-k in
    let e = sym c.ends.ensures ∙ c.if-ends.false in
    (omega (arith, left-more text l.begun l.k c.loop-k-test.true e, l.invariant.0), omega (arith, l.invariant.1), omega (arith, c.loop-k-test.true))
