-- `denoise::walk::walk`: each pass goes on by a minute, or writes a segment.
use native.Mathlib.Omega.{arith}
use mathlib.Core.Logic.{inl, inr}
use Prim.Native.Nat.{◌<◌}
use Rattle.optimality.specs.Walk.{left}
use Rattle.denoise.specs.Variables.{data_of, state_of}
use Rattle.denoise.proofs.WalkSteps.{known, ready}
use Rattle.denoise.proofs.WalkLoop.{Ending, scanned_on, scanned_set, finished-set, finished-end, below, stops-2, kept-first, inside_on, turned, again, unspent, room, ended, waited, stands}
use Rattle.denoise.proofs.walk.walk.Goals.{Joined-scan, in-On, in-Set+else-spent-budget, else-spent-budget-via-then-spent-budget+else-r-series-2, else-spent-budget-via-else-spent-budget}
use Rattle.denoise.proofs.walk.walk.Goals as goal

-- ---- step 2, where the walk begins
pub returns-then-running : goal.returns-then-running
returns-then-running c =
    let z = waited _ _ _ _ _ _ (kept-first _ _ c.args.running _ _ _ c.requires.starts.good) c.requires.limited c.requires.fits (omega arith) c.if-running.true (omega (arith, c.if-r-series.true)) c.done.ensures in
    record { answer = z.0; lengths = z.1.lengths_are; totals = z.1.totals_are }

pub last-requires : goal.last-requires
last-requires c =
    let G = c.requires.starts.good in
    let e = c.if-r-series.true in
    let S = stops-2 _ _ c.args.running c.requires.limited G c.if-running.false e (c.requires.starts.one e) c.step_2.ensures.part in
    let r = room _ _ _ _ _ _ (kept-first _ _ c.args.running _ _ _ c.requires.starts.good) c.requires.limited c.requires.fits (omega arith) in
    record { len_bound = omega (arith, S.short, c.requires.limited.few); lengths_room = r.0; totals_room = r.1 }

pub returns-then-r-series : goal.returns-then-r-series
returns-then-r-series c =
    let G = c.requires.starts.good in
    let e = c.if-r-series.true in
    let S = stops-2 _ _ c.args.running c.requires.limited G c.if-running.false e (c.requires.starts.one e) c.step_2.ensures.part in
    let z = ended _ _ _ _ _ _ (kept-first _ _ c.args.running _ _ _ c.requires.starts.good) c.requires.limited c.requires.fits (omega arith) _ S (c.last.ensures.answer, (c.last.ensures.lengths, c.last.ensures.totals)) in
    record { answer = z.0; lengths = z.1.lengths_are; totals = z.1.totals_are }

-- ---- steps 3 to 6
pub write-m-requires : goal.write-m-requires
write-m-requires c =
    let I = c.loop-next.invariant in
    let E = scanned_set _ _ c.args.running c.requires.limited I.kept.good I.before {p = c.in-Set.x} {q = c.in-Set.next} c.in-Set.ensures in
    let r = room _ _ _ _ _ _ I.kept c.requires.limited c.requires.fits (omega (arith, I.counted.least, I.within)) in
    record { len_bound = omega (arith, E.short, c.requires.limited.few); lengths_room = r.0; totals_room = r.1 }

pub returns-then-r-series-2 : goal.returns-then-r-series-2
returns-then-r-series-2 c =
    let I = c.loop-next.invariant in
    let E = scanned_set _ _ c.args.running c.requires.limited I.kept.good I.before {p = c.in-Set.x} {q = c.in-Set.next} c.in-Set.ensures in
    let T = turned _ _ _ _ _ _ _ c.requires.limited I.kept I.counted I.within _ _ E (c.write-m.ensures.answer, (c.write-m.ensures.lengths, c.write-m.ensures.totals)) _ c.looked_at-spent.ensures in
    let z = stands _ _ _ _ _ _ T.kept c.requires.limited c.requires.fits T.room T.counted c.if-spent-budget.true c.if-r-series-2.true T.one c.paused.ensures in
    record { answer = z.0; lengths = z.1.lengths_are; totals = z.1.totals_are }

-- ---- step 7
joined : (c : Joined-scan) → let a = c.args in
    Ending a.samples.now a.smoothing c.args.running c.args.from c.args.lengths.now c.args.totals.now c.args.budget c.match-scan.lengths c.match-scan.totals
    c.match-scan.m c.match-scan.spent c.match-scan.r
    × (left (data_of a.samples.now a.smoothing) (state_of c.match-scan.r) < left (data_of a.samples.now a.smoothing) (state_of c.loop-next.r))
joined c =
    let W = c.requires.limited in
    let I = c.loop-next.invariant in
    elim c.match-scan.branch [
      | in-On w ↦ let g = scanned_on _ _ c.args.running W I.kept.good I.before {q = w.in-On.next} w.in-On.ensures in
          rw (w.lengths-is, w.totals-is, w.m-is, w.spent-is, w.r-is) (inside_on _ _ _ _ _ _ _ I _ g, g.less)
      | in-Set+else-spent-budget w ↦ let E = scanned_set _ _ c.args.running W I.kept.good I.before {p = w.in-Set.x} {q = w.in-Set.next} w.in-Set.ensures in
          let T = turned _ _ _ _ _ _ _ W I.kept I.counted I.within _ _ E (w.write-m.ensures.answer, (w.write-m.ensures.lengths, w.write-m.ensures.totals)) _ w.looked_at-spent.ensures in
          rw (w.lengths-is, w.totals-is, w.m-is, w.spent-is, w.r-is) (
            again _ _ _ _ _ _ _ T (elim w.else-spent-budget.branch [
              | else-spent-budget-via-then-spent-budget+else-r-series-2 w' ↦ inr (omega (arith, w'.if-r-series-2.false, (known _ _ W T.kept.good).upto))
              | else-spent-budget-via-else-spent-budget w' ↦ inl (omega (arith, w'.if-spent-budget.false))
            ]),
            E.less,
          )
    ]

pub loop-r-init : goal.loop-r-init
loop-r-init c = ((joined c).0, omega arith)

pub loop-next-smaller : goal.loop-next-smaller
loop-next-smaller c = omega (arith, c.loop-r.invariant.1, (joined (goal.at.loop-next-smaller c).Joined-scan).1)

pub returns-then-running-2 : goal.returns-then-running-2
returns-then-running-2 c =
    let K = c.loop-r.invariant.0 in
    let z = waited _ _ _ _ _ _ K.kept c.requires.limited c.requires.fits K.room c.if-running-2.true c.loop-r-test.true c.done-then-running-2.ensures in
    record { answer = z.0; lengths = z.1.lengths_are; totals = z.1.totals_are }

-- ---- steps 8 to 10
pub write-m-requires-in-Set-finish : goal.write-m-requires-in-Set-finish
write-m-requires-in-Set-finish c =
    let I = c.loop-r.invariant.0 in
    let E = finished-set _ _ c.args.running c.requires.limited I.kept.good c.if-running-2.false c.in-Set-finish.x c.in-Set-finish.next c.in-Set-finish.ensures in
    let r = room _ _ _ _ _ _ I.kept c.requires.limited c.requires.fits I.room in
    record { len_bound = omega (arith, E.short, c.requires.limited.few); lengths_room = r.0; totals_room = r.1 }

pub last-requires-in-End : goal.last-requires-in-End
last-requires-in-End c =
    let I = c.loop-r.invariant.0 in
    let S = finished-end _ _ c.args.running c.requires.limited I.kept.good c.if-running-2.false c.in-End.x c.in-End.ensures in
    let r = room _ _ _ _ _ _ I.kept c.requires.limited c.requires.fits I.room in
    record { len_bound = omega (arith, S.short, c.requires.limited.few); lengths_room = r.0; totals_room = r.1 }

pub returns-in-End : goal.returns-in-End
returns-in-End c =
    let I = c.loop-r.invariant.0 in
    let S = finished-end _ _ c.args.running c.requires.limited I.kept.good c.if-running-2.false c.in-End.x c.in-End.ensures in
    let z = ended _ _ _ _ _ _ I.kept c.requires.limited c.requires.fits I.room _ S (c.last-in-End.ensures.answer, (c.last-in-End.ensures.lengths, c.last-in-End.ensures.totals)) in
    record { answer = z.0; lengths = z.1.lengths_are; totals = z.1.totals_are }

-- ---- step 2 after steps 8 and 9
pub step_2-requires-then-r-series-3 : goal.step_2-requires-then-r-series-3
step_2-requires-then-r-series-3 c =
    let I = c.loop-r.invariant.0 in
    let E = finished-set _ _ c.args.running c.requires.limited I.kept.good c.if-running-2.false c.in-Set-finish.x c.in-Set-finish.next c.in-Set-finish.ensures in
    record { ready = ready _ _ c.requires.limited E.good; at_end = c.if-r-series-3.true; one_minute = E.one }

pub last-requires-then-r-series-3 : goal.last-requires-then-r-series-3
last-requires-then-r-series-3 c =
    let I = c.loop-r.invariant.0 in
    let E = finished-set _ _ c.args.running c.requires.limited I.kept.good c.if-running-2.false c.in-Set-finish.x c.in-Set-finish.next c.in-Set-finish.ensures in
    let T = turned _ _ _ _ _ _ _ c.requires.limited I.kept I.counted (unspent _ _ _ _ _ _ _ c.requires.limited I E) _ _ E (c.write-m-in-Set-finish.ensures.answer, (c.write-m-in-Set-finish.ensures.lengths, c.write-m-in-Set-finish.ensures.totals)) _ c.looked_at-spent-in-Set-finish.ensures in
    let S = stops-2 _ _ c.args.running c.requires.limited E.good c.if-running-2.false c.if-r-series-3.true E.one c.step_2-then-r-series-3.ensures.part in
    let r = room _ _ _ _ _ _ T.kept c.requires.limited c.requires.fits T.room in
    record { len_bound = omega (arith, S.short, c.requires.limited.few); lengths_room = r.0; totals_room = r.1 }

pub returns-then-r-series-3 : goal.returns-then-r-series-3
returns-then-r-series-3 c =
    let I = c.loop-r.invariant.0 in
    let E = finished-set _ _ c.args.running c.requires.limited I.kept.good c.if-running-2.false c.in-Set-finish.x c.in-Set-finish.next c.in-Set-finish.ensures in
    let T = turned _ _ _ _ _ _ _ c.requires.limited I.kept I.counted (unspent _ _ _ _ _ _ _ c.requires.limited I E) _ _ E (c.write-m-in-Set-finish.ensures.answer, (c.write-m-in-Set-finish.ensures.lengths, c.write-m-in-Set-finish.ensures.totals)) _ c.looked_at-spent-in-Set-finish.ensures in
    let S = stops-2 _ _ c.args.running c.requires.limited E.good c.if-running-2.false c.if-r-series-3.true E.one c.step_2-then-r-series-3.ensures.part in
    let z = ended _ _ _ _ _ _ T.kept c.requires.limited c.requires.fits T.room _ S (c.last-then-r-series-3.ensures.answer, (c.last-then-r-series-3.ensures.lengths, c.last-then-r-series-3.ensures.totals)) in
    record { answer = z.0; lengths = z.1.lengths_are; totals = z.1.totals_are }

-- ---- or the budget is spent
pub returns-then-spent-budget-2 : goal.returns-then-spent-budget-2
returns-then-spent-budget-2 c =
    let I = c.loop-r.invariant.0 in
    let E = finished-set _ _ c.args.running c.requires.limited I.kept.good c.if-running-2.false c.in-Set-finish.x c.in-Set-finish.next c.in-Set-finish.ensures in
    let T = turned _ _ _ _ _ _ _ c.requires.limited I.kept I.counted (unspent _ _ _ _ _ _ _ c.requires.limited I E) _ _ E (c.write-m-in-Set-finish.ensures.answer, (c.write-m-in-Set-finish.ensures.lengths, c.write-m-in-Set-finish.ensures.totals)) _ c.looked_at-spent-in-Set-finish.ensures in
    let h = below _ _ c.args.running c.requires.limited T.kept.good c.if-r-series-3.false in
    let z = stands _ _ _ _ _ _ T.kept c.requires.limited c.requires.fits T.room T.counted c.if-spent-budget-2.true h T.one c.paused-then-spent-budget-2.ensures in
    record { answer = z.0; lengths = z.1.lengths_are; totals = z.1.totals_are }

pub loop-r-smaller : goal.loop-r-smaller
loop-r-smaller c =
    let I = c.loop-r.invariant.0 in
    let E = finished-set _ _ c.args.running c.requires.limited I.kept.good c.if-running-2.false c.in-Set-finish.x c.in-Set-finish.next c.in-Set-finish.ensures in
    E.less

pub loop-r-preserved : goal.loop-r-preserved
loop-r-preserved c =
    let I = c.loop-r.invariant.0 in
    let E = finished-set _ _ c.args.running c.requires.limited I.kept.good c.if-running-2.false c.in-Set-finish.x c.in-Set-finish.next c.in-Set-finish.ensures in
    let T = turned _ _ _ _ _ _ _ c.requires.limited I.kept I.counted (unspent _ _ _ _ _ _ _ c.requires.limited I E) _ _ E (c.write-m-in-Set-finish.ensures.answer, (c.write-m-in-Set-finish.ensures.lengths, c.write-m-in-Set-finish.ensures.totals)) _ c.looked_at-spent-in-Set-finish.ensures in
    (again _ _ _ _ _ _ _ T (inl (omega (arith, c.if-spent-budget-2.false))), omega (arith, E.less, c.loop-r.invariant.1))
