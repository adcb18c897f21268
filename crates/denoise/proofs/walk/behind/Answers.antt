-- `denoise::walk::behind`: the walk in the lists from entry m on.
use native.Mathlib.Omega.{arith}
use mathlib.Core.Bool.{false}
use Prim.Native.Nat.{◌-◌, ◌<◌}
use lib.ListN.{length, take, drop, length-drop}
use lib.Seq.{length-take-le}
use Rattle.optimality.specs.PlainSeries.{line_lengths, line_totals}
use Rattle.denoise.specs.Walk.{rest}
use Rattle.denoise.proofs.StoreLaws.{part-stored}
use Rattle.denoise.proofs.WalkSteps.{known}
use Rattle.denoise.proofs.WalkLoop.{looked}
use Rattle.denoise.proofs.walk.behind.Goals as goal

pub walk-requires-clause-fits : goal.walk-requires-clause-fits
walk-requires-clause-fits c =
    let a = c.args in
    let n = length-take-le (length a.lengths.now - a.m) (drop a.m a.lengths.now) (omega (arith, length-drop a.m a.lengths.now)) in
    let t = length-take-le (length a.totals.now - a.m) (drop a.m a.totals.now) (omega (arith, length-drop a.m a.totals.now)) in
    record { room = λ m l _. (omega (arith, n, l, c.requires.few_taken, c.requires.lengths_room), omega (arith, t, l, c.requires.few_taken, c.requires.totals_room)) }

pub returns-clause-answer : goal.returns-clause-answer
returns-clause-answer c =
    let a = c.args in
    let n = length-take-le (length a.lengths.now - a.m) (drop a.m a.lengths.now) (omega (arith, length-drop a.m a.lengths.now)) in
    let w = c.walk.ensures.answer in
    record { few = w.few; fits = omega (arith, w.fits, n); reached = w.reached }

pub returns-clause-lengths : goal.returns-clause-lengths
returns-clause-lengths c =
    let a = c.args in
    let s : c.args.m < length c.args.series.samples.now = omega (arith, c.requires.few_taken, looked _ _ false c.args.series.limited c.requires.starts.good, (known _ _ c.args.series.limited c.requires.starts.good).upto) in
    part-stored a.m a.lengths.now (line_lengths (take c.walk.result.segments (rest a.series.samples.now a.series.smoothing false a.from))) (omega (arith, s, c.requires.lengths_room)) c.walk.ensures.lengths

pub returns-clause-totals : goal.returns-clause-totals
returns-clause-totals c =
    let a = c.args in
    let s : c.args.m < length c.args.series.samples.now = omega (arith, c.requires.few_taken, looked _ _ false c.args.series.limited c.requires.starts.good, (known _ _ c.args.series.limited c.requires.starts.good).upto) in
    part-stored a.m a.totals.now (line_totals (take c.walk.result.segments (rest a.series.samples.now a.series.smoothing false a.from))) (omega (arith, s, c.requires.totals_room)) c.walk.ensures.totals
