-- `denoise::steps::begin`: the first minute of a segment is small.
use Rattle.optimality.proofs.SmallNumbers.{sample-small}
use Rattle.denoise.proofs.VariableLaws.{first-small}
use Rattle.denoise.proofs.steps.begin.Goals as goal

pub further-mean-requires-clause-sample_bound : goal.further-mean-requires-clause-sample_bound
further-mean-requires-clause-sample_bound c = sample-small 16777216 _ c.args.series.limited.samples _ c.requires.i_in_bounds

pub lower-requires-clause-a_small : goal.lower-requires-clause-a_small
lower-requires-clause-a_small c = rw c.further-mean.ensures (first-small c.args.series.samples.now c.args.i _ c.requires.dual_bound (sample-small 16777216 _ c.args.series.limited.samples _ c.requires.i_in_bounds))

pub upper-requires-clause-a_small : goal.upper-requires-clause-a_small
upper-requires-clause-a_small c = rw c.further-mean.ensures (first-small c.args.series.samples.now c.args.i _ c.requires.dual_bound (sample-small 16777216 _ c.args.series.limited.samples _ c.requires.i_in_bounds))
