-- `delay_csv::table::walk`: a record more, or none.
use mathlib.Core.Path.{◌≡◌, ap, ◌∙◌}
use native.Mathlib.Numerals.{add-one}
use native.Mathlib.Omega.{arith}
use Rattle.std.proofs.Common.{rules}
use Prim.Native.Nat.{◌+◌}
use Rattle.std.specs.Option.{option_or}
use Rattle.std.specs.Bool.{then_some}
use mir.Syntax.{w32}
use mir.Val.{SFits}
use Rattle.series.proofs.LimitsLaws.{handed}
use Rattle.delay_csv.proofs.PassLaws.{turn}
use Rattle.delay_csv.proofs.WalkLaws.{walks-none, walks_more, walks-stop}
use Rattle.delay_csv.proofs.table.walk.Goals as goal

pub loop-minutes-init : goal.loop-minutes-init
loop-minutes-init c = walks-none c.args.text.now

pub returns-in_default-clause-stops : goal.returns-in_default-clause-stops
returns-in_default-clause-stops c h =
    let text = c.args.text.now in
    let l = c.loop-minutes in
    walks-stop text l.minutes l.at l.far l.invariant (rw (add-one l.minutes) at (turn text (l.minutes + 1) l.at _ l.invariant.within c.in_default.ensures))

pub loop-minutes-preserved : goal.loop-minutes-preserved
loop-minutes-preserved c =
    let text = c.args.text.now in
    let l = c.loop-minutes in
    let fits : SFits w32 c.in-Some.delay = search rules in
    let t = rw (add-one l.minutes) at (turn text (l.minutes + 1) l.at _ l.invariant.within c.in-Some.ensures) in
    let beyond = handed c.in-Some.delay fits c.beyond.ensures.answer in
    let far = c.or-far.ensures ∙ ap (option_or l.far) (c.then_some.ensures ∙ ap (λ b. then_some b (l.minutes + 1)) beyond) in
    rw (far, add-one l.minutes) (walks_more text l.minutes l.at l.far l.invariant _ _ t c.loop-minutes-test.true)

pub returns-clause-answer : goal.returns-clause-answer
returns-clause-answer c =
    let e : c.loop-minutes.minutes ≡ 65536 = omega (arith, c.loop-minutes-test.false, c.loop-minutes.auto.minutes-end) in
    rw e at c.loop-minutes.invariant

pub returns-clause-stops : goal.returns-clause-stops
returns-clause-stops c h = absurd (omega arith)
