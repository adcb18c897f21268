-- `delay_csv::table::fill`: a delay more, until no record is left.
use mathlib.Core.Path.{◌≡◌, sym, ap, ◌∙◌}
use native.Mathlib.Numerals.{add-one}
use native.Mathlib.Omega.{arith}
use Prim.Native.Nat.{suc, ◌+◌, ◌-◌}
use lib.ListN.{length, get_or, length-map, length-drop}
use mir.Facts.{to_z-of_z}
use mir.Syntax.{w32}
use mir.Val.{SFits, to_z, of_z}
use Rattle.std.proofs.Common.{rules}
use Rattle.series.proofs.ListLoop.{copied_more, copied_all}
use Rattle.delay_csv.specs.Records.{rows, delay, delays}
use Rattle.delay_csv.proofs.PassLaws.{rows-some, rows-past, silence, turn}
use Rattle.delay_csv.proofs.FillLaws.{Next, next, more-left}
use Rattle.delay_csv.proofs.table.fill.Goals as goal

-- another record is left
pub record-requires-clause-minute_bound : goal.record-requires-clause-minute_bound
record-requires-clause-minute_bound c =
    let text = c.args.text.now in
    let l = c.loop-at in
    omega (arith, rows-some text (suc l.k) l.at c.loop-at-test.true, ap length l.invariant.1, length-drop l.k (rows text), c.requires.rows_bound)

pub returns-in_default : goal.returns-in_default
returns-in_default c =
    let text = c.args.text.now in
    let l = c.loop-at in
    let t = rw (add-one l.k) at (turn text (l.k + 1) l.at _ l.invariant.3 c.in_default.ensures) in
    absurd (more-left text l.k l.at c.requires.rules_kept c.loop-at-test.true l.invariant.1 t)

-- what it tells
told : (c : goal.In-Some) → Next c.args.text.now c.loop-at.k c.in-Some.delay c.in-Some.next c.loop-at.at
told c =
    let text = c.args.text.now in
    let l = c.loop-at in
    let t = rw (add-one l.k) at (turn text (l.k + 1) l.at _ l.invariant.3 c.in-Some.ensures) in
    next text l.k l.at _ _ c.requires.rules_kept c.loop-at-test.true l.invariant.1 t

pub bounds-samples-k : goal.bounds-samples-k
bounds-samples-k c =
    omega (arith, (told c).within, length-map (rows c.args.text.now) delay, c.requires.samples_room, c.loop-at.invariant.0.1)

pub loop-at-smaller : goal.loop-at-smaller
loop-at-smaller c = omega (arith, (told c).on, (told c).end)

pub loop-at-preserved : goal.loop-at-preserved
loop-at-preserved c =
    let text = c.args.text.now in
    let l = c.loop-at in
    let samples = c.args.samples.now in
    let w = told c in
    let f : SFits w32 c.in-Some.delay = search rules in
    let v : to_z w32 (of_z w32 c.in-Some.delay) ≡ get_or (delays text) l.k silence = to_z-of_z {w = w32} f ∙ w.value in (
      copied_more samples (delays text) l.k l.samples _ silence (omega (arith, w.within, length-map (rows text) delay, c.requires.samples_room)) w.within v l.invariant.0,
      rw (add-one l.k) w.rest,
      omega (arith, w.within, length-map (rows text) delay),
      w.end,
    )

pub returns : goal.returns
returns c =
    let text = c.args.text.now in
    let l = c.loop-at in
    let none_left : length (rows text) - l.k ≡ 0 =
    sym (length-drop l.k (rows text)) ∙ ap length (sym l.invariant.1 ∙ rows-past text (suc l.k) l.at (omega arith)) in
    copied_all c.args.samples.now (delays text) l.k l.samples (omega (arith, l.invariant.2, length-map (rows text) delay)) l.invariant.0
