-- `fused_lasso::threshold::put_zero`: a 0 joins one before it, and is stored by itself where there is none or that one isn't 0.
use mathlib.Core.Path.{sym, ap, ◌∙◌}
use native.Mathlib.Omega.{arith}
use Prim.Native.Nat.{◌-◌}
use lib.IntN.{pos}
use lib.ListN.{get_or}
use mir.Syntax.{w64}
use mir.Val.{SFits, to_z, of_z}
use mir.Facts.{to_z-of_z}
use Rattle.std.proofs.Common.{rules}
use Rattle.fused_lasso.proofs.ThresholdLaws.{Apart, none_before, put-new, put-joined, join-short}
use Rattle.fused_lasso.proofs.threshold.put_zero.Goals.{then-m-eq0-via-then-m-eq0, then-m-eq0-via-else-m-eq0+then-totals-m-ne0}
use Rattle.fused_lasso.proofs.threshold.put_zero.Goals as goal

pub returns-then-m-eq0 : goal.returns-then-m-eq0
returns-then-m-eq0 c =
    let a = c.args in
    let e = c.append.ensures in
    let apart : Apart a.lengths.now a.totals.now a.m (pos 0) =
    elim c.then-m-eq0.branch [ then-m-eq0-via-then-m-eq0 w ↦ none_before a.lengths.now a.totals.now w.if-m-eq0.true | then-m-eq0-via-else-m-eq0+then-totals-m-ne0 w ↦ λ h z. absurd (w.if-totals-m-ne0.true (ap (of_z w64) z)) ] in
    let p = put-new _ _ a.m a.len (pos 0) (omega (arith, c.requires.lengths)) (omega (arith, c.requires.totals)) apart (e.answer, (e.lengths, e.totals)) in
    record { answer = p.0; lengths = p.1.0; totals = p.1.1 }

pub overflow_add-lengths : goal.overflow_add-lengths
overflow_add-lengths c = omega (arith, join-short _ _ c.args.m c.args.len c.requires c.if-m-eq0.false)

pub returns : goal.returns
returns c =
    let a = c.args in
    let f : SFits w64 (get_or a.totals.now (a.m - 1) (pos 0)) = search rules in
    let p = put-joined _ _ a.m a.len c.requires c.if-m-eq0.false (sym (to_z-of_z f) ∙ ap (to_z w64) c.if-totals-m-ne0.false) in
    record { answer = p.0; lengths = p.1.0; totals = p.1.1 }
