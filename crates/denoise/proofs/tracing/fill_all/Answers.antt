-- `denoise::tracing::fill_all`: each turn fills in a segment.
use native.Mathlib.Numerals.{add-one}
use Rattle.denoise.proofs.FillAllLoop.{filling_all-first, filling_all-turn, next-fills, all_end, all-filled}
use Rattle.denoise.proofs.tracing.fill_all.Goals as goal

pub loop-j-init : goal.loop-j-init
loop-j-init c = filling_all-first _ _ _ _ _ c.requires.fills_all

pub fill-q-requires-clause-fills : goal.fill-q-requires-clause-fills
fill-q-requires-clause-fills c = next-fills _ _ _ _ _ c.loop-j.invariant c.loop-j-test.true c.requires.same_length c.segment_at.ensures

pub loop-j-preserved : goal.loop-j-preserved
loop-j-preserved c =
    rw (c.fill-q.ensures.answer, c.fill-q.ensures.out, add-one) (filling_all-turn _ _ _ _ _ c.loop-j.invariant c.loop-j-test.true c.requires.same_length c.segment_at.ensures)

pub returns-clause-answer : goal.returns-clause-answer
returns-clause-answer c = all_end _ _ _ _ _ c.loop-j.invariant c.loop-j-test.false

pub returns-clause-out : goal.returns-clause-out
returns-clause-out c = all-filled _ _ _ _ _ c.loop-j.invariant c.loop-j-test.false
