-- `denoise::inner::portion`: the walk has room, and gives no more than is left.
use mathlib.Core.Path.{◌∙◌}
use Rattle.denoise.proofs.PortionLaws.{portion_fits, portion_of, portion_stored}
use Rattle.denoise.proofs.inner.portion.Goals as goal

pub walk-requires-clause-fits : goal.walk-requires-clause-fits
walk-requires-clause-fits c = portion_fits c.requires.lengths_128 c.requires.totals_128

pub returns-clause-answer : goal.returns-clause-answer
returns-clause-answer c = portion_of _ _ c.args.series.limited c.requires.stands c.requires.lengths_128 c.walk.result c.walk.ensures.answer

pub returns-clause-lengths : goal.returns-clause-lengths
returns-clause-lengths c =
    let P = portion_of _ _ c.args.series.limited c.requires.stands c.requires.lengths_128 c.walk.result c.walk.ensures.answer in
    c.walk.ensures.lengths ∙ portion_stored _ _ c.args.series.limited c.requires.stands c.walk.result P (λ g. g.len) _ c.requires.lengths_128

pub returns-clause-totals : goal.returns-clause-totals
returns-clause-totals c =
    let P = portion_of _ _ c.args.series.limited c.requires.stands c.requires.lengths_128 c.walk.result c.walk.ensures.answer in
    c.walk.ensures.totals ∙ portion_stored _ _ c.args.series.limited c.requires.stands c.walk.result P (λ g. g.total) _ c.requires.totals_128
