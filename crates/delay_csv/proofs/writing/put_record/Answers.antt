-- `delay_csv::writing::put_record`: minute, comma, delay, CR LF, one after the other.
use native.Mathlib.Omega.{arith}
use lib.ListN.{length-set}
use Rattle.delay_csv.proofs.WriteLaws.{record-size, comma_within, delay-room, put-length, record_told, widened}
use Rattle.delay_csv.proofs.writing.put_record.Goals as goal

pub put_digits-comma-requires : goal.put_digits-comma-requires
put_digits-comma-requires c = omega (arith, c.requires, record-size c.args.minute c.args.delay)

pub bounds-out-comma : goal.bounds-out-comma
bounds-out-comma c =
    let d = c.put_digits-comma.ensures in
    comma_within c.args.out.now c.args.at c.args.minute c.args.delay c.requires _ _ (d.answer, d.out)

pub overflow_add-comma : goal.overflow_add-comma
overflow_add-comma c =
    let d = c.put_digits-comma.ensures in
    record { fits = omega (arith, comma_within c.args.out.now c.args.at c.args.minute c.args.delay c.requires _ _ (d.answer, d.out), put-length c.args.out.now c.args.at c.args.minute c.args.delay c.requires _ _ (d.answer, d.out)) }

pub put_signed-end-requires : goal.put_signed-end-requires
put_signed-end-requires c =
    let d = c.put_digits-comma.ensures in
    let room = delay-room c.args.out.now c.args.at c.args.minute c.args.delay c.requires _ _ (d.answer, d.out) in
    rw (widened c.args.delay c.ranges.delay) (omega (arith, room))

pub bounds-out-end : goal.bounds-out-end
bounds-out-end c =
    let d = c.put_digits-comma.ensures in
    let e = c.put_signed-end.ensures in
    let t = record_told c.args.out.now c.put_digits-comma.new.out c.put_signed-end.new.out c.args.at c.args.minute _ _ c.args.delay c.ranges.delay c.requires (d.answer, d.out) (e.answer, e.out) in
    omega (arith, t.0)

pub overflow_add-out : goal.overflow_add-out
overflow_add-out c =
    let d = c.put_digits-comma.ensures in
    let e = c.put_signed-end.ensures in
    let t = record_told c.args.out.now c.put_digits-comma.new.out c.put_signed-end.new.out c.args.at c.args.minute _ _ c.args.delay c.ranges.delay c.requires (d.answer, d.out) (e.answer, e.out) in
    record { fits = omega (arith, t.1) }

pub bounds-out-end-2 : goal.bounds-out-end-2
bounds-out-end-2 c =
    let d = c.put_digits-comma.ensures in
    let e = c.put_signed-end.ensures in
    let t = record_told c.args.out.now c.put_digits-comma.new.out c.put_signed-end.new.out c.args.at c.args.minute _ _ c.args.delay c.ranges.delay c.requires (d.answer, d.out) (e.answer, e.out) in
    simp length-set t.0

pub overflow_add-result : goal.overflow_add-result
overflow_add-result c =
    let d = c.put_digits-comma.ensures in
    let e = c.put_signed-end.ensures in
    let t = record_told c.args.out.now c.put_digits-comma.new.out c.put_signed-end.new.out c.args.at c.args.minute _ _ c.args.delay c.ranges.delay c.requires (d.answer, d.out) (e.answer, e.out) in
    record { fits = omega (arith, t.1) }

pub returns-clause-answer : goal.returns-clause-answer
returns-clause-answer c =
    let d = c.put_digits-comma.ensures in
    let e = c.put_signed-end.ensures in
    let t = record_told c.args.out.now c.put_digits-comma.new.out c.put_signed-end.new.out c.args.at c.args.minute _ _ c.args.delay c.ranges.delay c.requires (d.answer, d.out) (e.answer, e.out) in
    t.2.0

pub returns-clause-out : goal.returns-clause-out
returns-clause-out c =
    let d = c.put_digits-comma.ensures in
    let e = c.put_signed-end.ensures in
    let t = record_told c.args.out.now c.put_digits-comma.new.out c.put_signed-end.new.out c.args.at c.args.minute _ _ c.args.delay c.ranges.delay c.requires (d.answer, d.out) (e.answer, e.out) in
    t.2.1
