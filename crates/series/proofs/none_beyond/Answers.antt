-- `series::none_beyond`: a sample more of the search.
use mathlib.Core.Path.{◌≡◌, refl, ◌∙◌}
use mathlib.Core.Bool.{Bool, true, false, not, ◌&&◌}
use mathlib.Core.Option.{Option}
use Prim.Native.Nat.{ℕ}
use native.Mathlib.Numerals.{add-one}
use mir.Syntax.{w32}
use mir.Val.{SFits}
use Rattle.std.proofs.Common.{rules, pos, get_or}
use Rattle.optimality.specs.Search.{found}
use Rattle.series.specs.Search.{is_none}
use Rattle.series.specs.Limits.{bad_sample}
use Rattle.series.proofs.SearchLaws.{next}
use Rattle.series.proofs.LimitsLaws.{handed}
use Rattle.series.proofs.none_beyond.Goals as goal

-- none is found where this one is not it, and none among the rest
one-more : (all bad : Bool) (i : ℕ) (rest : Option ℕ) → (all && is_none (found bad i rest)) ≡ ((all && not bad) && is_none rest)
one-more true true i rest = refl
one-more true false i rest = refl
one-more false bad i rest = refl

pub loop-sample-preserved : goal.loop-sample-preserved
loop-sample-preserved c =
    let f : SFits w32 (get_or c.args.samples.now c.loop-sample.sample-index (pos 0)) = search rules in
    c.loop-sample.invariant ∙ rw (add-one c.loop-sample.sample-index, next bad_sample c.args.samples.now c.loop-sample.sample-index (pos 0) c.loop-sample-test.true, handed _ f c.beyond.ensures.answer) (one-more c.loop-sample.all _ _ _)
