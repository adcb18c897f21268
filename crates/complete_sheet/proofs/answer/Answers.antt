-- `complete_sheet::answer`: what the reader says, in text.
use mathlib.Core.Path.{sym}
use lib.Seq.{length-take-le}
use native.Mathlib.Omega.{arith}
use Rattle.level.specs.Refusal.{number, place}
use Rattle.sheet.specs.Read.{read_of}
use Rattle.complete_sheet.specs.Report.{answer_text}
use Rattle.complete_sheet.proofs.ReadyLists.{room-read, ready_read, samples-read}
use Rattle.complete_sheet.proofs.ShownLaws.{Begins, refused-shown, given-shown}
use Rattle.complete_sheet.proofs.answer.Goals as goal

pub slice_bounds-finish-end-in-Ok : goal.slice_bounds-finish-end-in-Ok
slice_bounds-finish-end-in-Ok c =
    let a = c.args in
    let room = room-read a.sheet.now a.samples.now a.lengths.now a.totals.now c.in-Ok.f (sym (c.in-Ok.ensures).answer) in
    sym (length-take-le _ _ (omega (arith, room, c.read.auto.samples)))

pub finish-requires-clause-ready : goal.finish-requires-clause-ready
finish-requires-clause-ready c =
    let a = c.args in
    let e = c.read.ensures in
    ready_read a.sheet.now a.samples.now a.lengths.now a.totals.now c.in-Ok.f (sym (c.in-Ok.ensures).answer) _ e.samples _ _ e.lengths e.totals

shown : (c : goal.After-totals-in-Ok-1) → let a = c.args in
    Begins a.out.now (answer_text a.sheet.now (read_of a.sheet.now a.samples.now a.lengths.now a.totals.now)) c.finish.result c.finish.new.out
shown c =
    let a = c.args in
    let f = c.in-Ok.f in
    let gives = sym (c.in-Ok.ensures).answer in
    let e = c.finish.ensures in
    given-shown a.sheet.now (read_of a.sheet.now a.samples.now a.lengths.now a.totals.now) a.out.now f _ gives
    (samples-read a.sheet.now a.samples.now a.lengths.now a.totals.now f gives c.read.new.samples c.read.ensures.samples) (e.answer, e.out)

sent_back : (c : goal.After-slice_known-in-Err-1) → let a = c.args in
    Begins a.out.now (answer_text a.sheet.now (read_of a.sheet.now a.samples.now a.lengths.now a.totals.now)) c.put_refusal.result c.put_refusal.new.out
sent_back c =
    let a = c.args in
    let e = c.put_refusal.ensures in
    refused-shown a.sheet.now (read_of a.sheet.now a.samples.now a.lengths.now a.totals.now) a.out.now (number c.in-Err.r) (place c.in-Err.r) (sym (c.in-Err.ensures).answer) (e.answer, e.out)

pub returns-in-Ok-clause-answer : goal.returns-in-Ok-clause-answer
returns-in-Ok-clause-answer c = (shown c).0

pub returns-in-Ok-clause-out : goal.returns-in-Ok-clause-out
returns-in-Ok-clause-out c = (shown c).1

pub returns-in-Err-clause-answer : goal.returns-in-Err-clause-answer
returns-in-Err-clause-answer c = (sent_back c).0

pub returns-in-Err-clause-out : goal.returns-in-Err-clause-out
returns-in-Err-clause-out c = (sent_back c).1
