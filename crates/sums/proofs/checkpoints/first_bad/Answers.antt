-- `sums::checkpoints::first_bad`: an entry more of the search.
use mathlib.Core.Path.{◌≡◌, sym, ◌∙◌}
use native.Mathlib.Numerals.{add-one}
use mir.Facts.{to_z-of_z}
use mir.Syntax.{w64}
use mir.Val.{SFits}
use Rattle.std.proofs.Common.{rules, suc, pos, get_or}
use Rattle.sums.specs.Checkpoints.{bad_total}
use Rattle.sums.proofs.EntryLaws.{next, past}
use Rattle.sums.proofs.checkpoints.first_bad.Goals as goal

pub returns-then-bad_total : goal.returns-then-bad_total
returns-then-bad_total c =
    let f : SFits w64 (get_or c.args.entries.now c.loop-k.k (pos 0)) = search rules in
    let told : c.bad_total.result ≡ bad_total (suc c.loop-k.k) (get_or c.args.entries.now c.loop-k.k (pos 0)) = rw (to_z-of_z f, add-one c.loop-k.k) at c.bad_total.ensures in
    let t = sym told ∙ c.if-bad_total.true in
    rw (add-one c.loop-k.k) (sym (c.loop-k.invariant ∙ rw t at (next c.args.entries.now c.loop-k.k c.loop-k-test.true)))

pub loop-k-preserved : goal.loop-k-preserved
loop-k-preserved c =
    let f : SFits w64 (get_or c.args.entries.now c.loop-k.k (pos 0)) = search rules in
    let told : c.bad_total.result ≡ bad_total (suc c.loop-k.k) (get_or c.args.entries.now c.loop-k.k (pos 0)) = rw (to_z-of_z f, add-one c.loop-k.k) at c.bad_total.ensures in
    let t = sym told ∙ c.if-bad_total.false in
    rw (add-one c.loop-k.k) (c.loop-k.invariant ∙ rw t at (next c.args.entries.now c.loop-k.k c.loop-k-test.true))

pub returns : goal.returns
returns c = sym (c.loop-k.invariant ∙ past c.args.entries.now c.loop-k.k c.loop-k-test.false)
