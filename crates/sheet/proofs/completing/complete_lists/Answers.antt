-- `sheet::completing::complete_lists`: the line of the sheet's own lists, and 5 or the sheet with it.
use mathlib.Core.Path.{◌≡◌, refl, sym}
use Rattle.std.proofs.Common.{arith}
use Rattle.std.proofs.lemmas.Grind.{common_steps}
use Rattle.level.specs.Answer.{refused}
use Rattle.level.specs.Refusal.{number, place}
use Rattle.sheet.specs.Complete.{complete_of}
use Rattle.sheet.proofs.DecodedLists.{samples_loaded, lengths_loaded, totals_loaded, line_refused, completes}
use Rattle.sheet.proofs.completing.complete_lists.Goals as goal

-- 1, 2, 4, 3 or 6 to 9
refuses : (c : goal.After-from_residual) → let r = c.in_err-k.field-0.0 in complete_of c.args.sheet.bytes.now c.args.out.now ≡ refused (number r) (place r)
refuses c =
    let s = c.args.sheet in
    let d = c.decode.ensures in
    line_refused s.bytes.now s.head s.told s.in_order _ _ _ (samples_loaded s.bytes.now s.head s.told _ _ d.ys) (lengths_loaded s.bytes.now s.head s.told _ _ d.ns) (totals_loaded s.bytes.now s.head s.told _ _ d.ts) c.args.out.now
    (sym c.in_err-k.ensures.answer)

pub returns-in_err-k-clause-answer : goal.returns-in_err-k-clause-answer
returns-in_err-k-clause-answer c = let t = refuses c in grind (arith, common_steps, t)

pub returns-in_err-k-clause-out : goal.returns-in_err-k-clause-out
returns-in_err-k-clause-out c = rw (refuses c) refl

-- the sheet with its line
pub returns : goal.returns
returns c =
    let s = c.args.sheet in
    let d = c.decode.ensures in
    let p = c.put_sheet.ensures in
    let t = completes s.bytes.now s.head s.told s.in_order _ _ _ (samples_loaded s.bytes.now s.head s.told _ _ d.ys) (lengths_loaded s.bytes.now s.head s.told _ _ d.ns) (totals_loaded s.bytes.now s.head s.told _ _ d.ts) c.args.out.now
    _ (sym c.in_ok-k.ensures.answer) _ _ _ _ c.in_ok-k.ensures.has_line (p.answer, p.out) in
    record { answer = t.0; out = t.1 }
