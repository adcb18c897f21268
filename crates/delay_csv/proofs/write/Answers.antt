-- `delay_csv::write`: what is written is read back.
use mathlib.Core.Path.{◌≡◌, sym, ap, ◌∙◌}
use native.Mathlib.Omega.{arith}
use Prim.Native.Nat.{◌≤◌}
use lib.ListN.{length}
use Rattle.level.specs.Answer.{given}
use Rattle.delay_csv.specs.Format.{text_of}
use Rattle.delay_csv.specs.Calls.{write_of, text_after}
use Rattle.delay_csv.proofs.WriteLaws.{size-most}
use Rattle.delay_csv.proofs.TripLaws.{text-delays, text-reads, write_passed, written_back}
use Rattle.delay_csv.proofs.write.Goals as goal

pub overflow_cast-result : goal.overflow_cast-result
overflow_cast-result c = record { fits = omega (arith, c.size-bytes.ensures, size-most c.args.samples.now c.in_ok-limits.ensures.limited) }

pub returns-clause-reads : goal.returns-clause-reads
returns-clause-reads c =
    let ys = c.args.samples.now in
    let out = c.args.out.now in
    let within = c.in_ok-limits.ensures.limited in
    let room : length (text_of ys) ≤ length out = omega (arith, c.size-bytes.ensures, c.if-out-bytes.false) in
    let e : write_of ys (length out) ≡ given c.size-bytes.result = write_passed ys (length out) within room ∙ ap given (sym c.size-bytes.ensures) in
    let q : c.put.new.out ≡ text_after ys out = rw e c.put.ensures in
    rw (q, written_back ys out _ e) (text-reads ys within (length ys) (omega arith), text-delays ys)
