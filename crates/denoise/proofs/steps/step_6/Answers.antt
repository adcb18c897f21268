-- `denoise::steps::step_6`: as printed.
use mathlib.Core.Path.{ap, ◌∙◌}
use mathlib.Core.List.{[]}
use lib.IntN.{pos}
use Rattle.optimality.specs.TenSteps.{step6}
use Rattle.optimality.specs.StateValues.{roofed, touched}
use Rattle.optimality.proofs.TenStepsLaws.{touched6}
use Rattle.denoise.specs.Variables.{state_of, variables_of}
use Rattle.denoise.proofs.VariableLaws.{floored-ready, told}
use Rattle.denoise.proofs.steps.step_6.Goals as goal

pub touch_max-requires-clause-ready : goal.touch_max-requires-clause-ready
touch_max-requires-clause-ready c = rw (c.touch_min.ensures []) (floored-ready c.requires.ready c.args.smoothing c.requires.smoothing_bound [])

pub returns-clause-state : goal.returns-clause-state
returns-clause-state c ys = c.touch_max.ensures ys ∙ ap (λ q. variables_of (roofed (pos c.args.smoothing) ys (state_of q))) (c.touch_min.ensures ys)

pub returns-clause-values : goal.returns-clause-values
returns-clause-values c ys =
    let r = c.args.r in
    let R = c.requires.ready in
    let L = pos c.args.smoothing in
    told r R.first (step6 L ys) (touched L ys (state_of r)) (c.touch_max.ensures ys ∙ ap (λ q. variables_of (roofed L ys (state_of q))) (c.touch_min.ensures ys)) (touched6 L ys (state_of r) R.fair)
