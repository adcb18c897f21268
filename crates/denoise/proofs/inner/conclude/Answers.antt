-- `denoise::inner::conclude`: steps 8 to 10 set the last segment, or one more and the walk those behind it.
use Rattle.std.proofs.Common.{arith, refl, sym, ap, ◌∙◌, false, length, take, ◌+◌, ◌≤◌}
use lib.Seq.{sets}
use Rattle.optimality.specs.PlainSeries.{line_lengths, line_totals}
use Rattle.denoise.proofs.StoreLaws.{stored-first}
use Rattle.denoise.proofs.WalkLoop.{looked, finished-set, finished-end, reached-more}
use Rattle.denoise.proofs.inner.conclude.Goals as goal

pub write-requires-clause-len_bound : goal.write-requires-clause-len_bound
write-requires-clause-len_bound c =
    let W = c.args.series.limited in
    omega (arith, (finished-end _ _ false W c.requires.from_good refl c.in-End.x c.in-End.ensures).short, W.few)

pub write-k-requires-clause-len_bound : goal.write-k-requires-clause-len_bound
write-k-requires-clause-len_bound c =
    let W = c.args.series.limited in
    omega (arith, (finished-set _ _ false W c.requires.from_good refl c.in-Set.x c.in-Set.next c.in-Set.ensures).short, W.few)

pub behind-w-requires-clause-starts : goal.behind-w-requires-clause-starts
behind-w-requires-clause-starts c =
    let E = finished-set _ _ false c.args.series.limited c.requires.from_good refl c.in-Set.x c.in-Set.next c.in-Set.ensures in
    record { good = E.good; one = λ _. E.one }

pub behind-w-requires-clause-few_taken : goal.behind-w-requires-clause-few_taken
behind-w-requires-clause-few_taken c =
    let E = finished-set _ _ false c.args.series.limited c.requires.from_good refl c.in-Set.x c.in-Set.next c.in-Set.ensures in
    omega (arith, E.further, c.write-k.ensures.answer, c.requires.few_taken)

pub returns-in-End-clause-answer : goal.returns-in-End-clause-answer
returns-in-End-clause-answer c =
    let S = finished-end _ _ false c.args.series.limited c.requires.from_good refl c.in-End.x c.in-End.ensures in
    let k = looked _ _ false c.args.series.limited c.requires.from_good in
    rw c.done.ensures record { few = omega (arith, k, c.requires.at_end); fits = omega (arith, k, c.requires.few_taken, c.requires.at_end, c.requires.lengths_room); reached = sym (ap length S.rest) }

pub returns-in-End-clause-lengths : goal.returns-in-End-clause-lengths
returns-in-End-clause-lengths c =
    let S = finished-end _ _ false c.args.series.limited c.requires.from_good refl c.in-End.x c.in-End.ensures in
    rw c.done.ensures (c.write.ensures.lengths ∙ ap (λ l. sets c.args.lengths.now c.args.m (line_lengths (take 1 l))) (sym S.rest))

pub returns-in-End-clause-totals : goal.returns-in-End-clause-totals
returns-in-End-clause-totals c =
    let S = finished-end _ _ false c.args.series.limited c.requires.from_good refl c.in-End.x c.in-End.ensures in
    rw c.done.ensures (c.write.ensures.totals ∙ ap (λ l. sets c.args.totals.now c.args.m (line_totals (take 1 l))) (sym S.rest))

pub returns-in-Set-clause-answer : goal.returns-in-Set-clause-answer
returns-in-Set-clause-answer c =
    let E = finished-set _ _ false c.args.series.limited c.requires.from_good refl c.in-Set.x c.in-Set.next c.in-Set.ensures in
    let k = looked _ _ false c.args.series.limited c.requires.from_good in
    let w = c.behind-w.result in
    let few : c.args.from.k0 + (w.segments + 1) ≤ length c.args.series.samples.now + 1 = omega (arith, c.behind-w.ensures.answer.few, E.further) in
    record {
      few = few;
      fits = omega (arith, c.behind-w.ensures.answer.fits, c.write-k.ensures.answer, c.write-k.auto.lengths, k, c.requires.few_taken, c.requires.at_end, c.requires.lengths_room);
      reached = reached-more _ _ false E c.args.budget w.segments w.next c.behind-w.ensures.answer.reached;
    }

pub returns-in-Set-clause-lengths : goal.returns-in-Set-clause-lengths
returns-in-Set-clause-lengths c =
    let E = finished-set _ _ false c.args.series.limited c.requires.from_good refl c.in-Set.x c.in-Set.next c.in-Set.ensures in
    stored-first (λ g. g.len) c.args.lengths.now c.args.m c.behind-w.result.segments E.rest c.write-k.ensures.answer c.write-k.ensures.lengths c.behind-w.ensures.lengths

pub returns-in-Set-clause-totals : goal.returns-in-Set-clause-totals
returns-in-Set-clause-totals c =
    let E = finished-set _ _ false c.args.series.limited c.requires.from_good refl c.in-Set.x c.in-Set.next c.in-Set.ensures in
    stored-first (λ g. g.total) c.args.totals.now c.args.m c.behind-w.result.segments E.rest c.write-k.ensures.answer c.write-k.ensures.totals c.behind-w.ensures.totals
