-- `series::first_beyond`: a minute more of the search.
use mathlib.Core.Path.{sym, ◌∙◌}
use native.Mathlib.Numerals.{add-one}
use mir.Syntax.{w32}
use mir.Val.{SFits}
use Rattle.std.proofs.Common.{rules, pos, get_or}
use Rattle.series.specs.Limits.{bad_sample}
use Rattle.series.proofs.SearchLaws.{next}
use Rattle.series.proofs.LimitsLaws.{handed}
use Rattle.series.proofs.first_beyond.Goals as goal

pub returns-then-beyond : goal.returns-then-beyond
returns-then-beyond c =
    let f : SFits w32 (get_or c.args.samples.now c.loop-k.k (pos 0)) = search rules in
    let t = sym (handed _ f c.beyond.ensures.answer) ∙ c.if-beyond.true in
    record { answer = rw (add-one c.loop-k.k) (sym (c.loop-k.invariant ∙ rw t at (next bad_sample c.args.samples.now c.loop-k.k (pos 0) c.loop-k-test.true))) }

pub loop-k-preserved : goal.loop-k-preserved
loop-k-preserved c =
    let f : SFits w32 (get_or c.args.samples.now c.loop-k.k (pos 0)) = search rules in
    let t = sym (handed _ f c.beyond.ensures.answer) ∙ c.if-beyond.false in
    rw (add-one c.loop-k.k) (c.loop-k.invariant ∙ rw t at (next bad_sample c.args.samples.now c.loop-k.k (pos 0) c.loop-k-test.true))
