-- `console::dawhikura_sheet_read`: with too few fields, and where the reader refuses.
use mathlib.Core.Path.{◌≡◌, refl, sym, ap, ◌∙◌}
use mir.Syntax.{w64}
use mir.Val.{SFits}
use mir.Facts.{to_z-of_z}
use Rattle.level.specs.Answer.{refused}
use Rattle.level.specs.Refusal.{number, place}
use Rattle.sheet.proofs.PlaceLaws.{read-placed}
use Rattle.console.specs.Code.{refusal, code}
use Rattle.console.specs.Reading.{reading_of}
use Rattle.console.proofs.ReadingLaws.{few-kept, read-refused, read-lists}
use Rattle.console.proofs.ToldPlaces.{told_refused}
use Rattle.console.proofs.dawhikura_sheet_read.Goals as goal

pub returns-then-fields-lt3-clause-samples : goal.returns-then-fields-lt3-clause-samples
returns-then-fields-lt3-clause-samples c = let a = c.args in few-kept a.sheet.now a.samples.now a.lengths.now a.totals.now a.fields.now c.if-fields-lt3.true _ _

pub returns-then-fields-lt3-clause-lengths : goal.returns-then-fields-lt3-clause-lengths
returns-then-fields-lt3-clause-lengths c = let a = c.args in few-kept a.sheet.now a.samples.now a.lengths.now a.totals.now a.fields.now c.if-fields-lt3.true _ _

pub returns-then-fields-lt3-clause-totals : goal.returns-then-fields-lt3-clause-totals
returns-then-fields-lt3-clause-totals c = let a = c.args in few-kept a.sheet.now a.samples.now a.lengths.now a.totals.now a.fields.now c.if-fields-lt3.true _ _

pub returns-then-fields-lt3-clause-fields : goal.returns-then-fields-lt3-clause-fields
returns-then-fields-lt3-clause-fields c = let a = c.args in few-kept a.sheet.now a.samples.now a.lengths.now a.totals.now a.fields.now c.if-fields-lt3.true _ _

pub returns-in-Err : goal.returns-in-Err
returns-in-Err c =
    let a = c.args in
    let x = c.in-Err.r in
    let r : SFits w64 c.refusal.result = record { sfits = c.refusal.type_inv } in
    let told = sym c.in-Err.ensures.answer in
    let e : reading_of a.sheet.now a.samples.now a.lengths.now a.totals.now a.fields.now ≡ refused (number x) (place x) =
    read-refused a.sheet.now a.samples.now a.lengths.now a.totals.now a.fields.now c.if-fields-lt3.false told in
    record {
      answer = to_z-of_z r ∙ c.refusal.ensures.answer ∙ ap (refusal (number x)) (told_refused (read-placed a.sheet.now a.samples.now a.lengths.now a.totals.now) told) ∙ ap code (sym e);
      samples = c.in-Err.ensures.samples ∙ read-lists a.sheet.now a.samples.now a.lengths.now a.totals.now a.fields.now c.if-fields-lt3.false _ _;
      lengths = c.in-Err.ensures.lengths ∙ read-lists a.sheet.now a.samples.now a.lengths.now a.totals.now a.fields.now c.if-fields-lt3.false _ _;
      totals = c.in-Err.ensures.totals ∙ read-lists a.sheet.now a.samples.now a.lengths.now a.totals.now a.fields.now c.if-fields-lt3.false _ _;
      fields = rw e refl;
    }
