-- `delay_csv::writing::size`: a record more, until none is left.
use mathlib.Core.Path.{◌≡◌, sym, ap, ◌∙◌}
use native.Mathlib.Numerals.{add-one}
use native.Mathlib.Omega.{arith}
use Prim.Native.Nat.{suc, ◌+◌}
use lib.ListN.{length, get_or, length-append}
use lib.IntN.{pos}
use mir.Syntax.{w32}
use mir.Val.{SFits}
use Rattle.std.proofs.Common.{rules}
use Rattle.delay_csv.specs.Format.{record_text}
use Rattle.delay_csv.proofs.WriteLaws.{text_after, text-more, text-none, size-most, handed-record}
use Rattle.delay_csv.proofs.writing.size.Goals as goal

-- a record more
split : (c : goal.After-record_size-n) → length (text_after c.args.samples.now c.loop-k.k) ≡ c.record_size-n.result + length (text_after c.args.samples.now (suc c.loop-k.k))
split c =
    let ys = c.args.samples.now in
    let k = c.loop-k.k in
    let y = get_or ys k (pos 0) in
    let f : SFits w32 y = search rules in
    let bytes : c.record_size-n.result ≡ length (record_text (suc k) y) = c.record_size-n.ensures ∙ ap length (handed-record k y f) in
    ap length (text-more ys k c.loop-k-test.true) ∙ length-append (record_text (suc k) y) _ ∙ ap (λ n. n + length (text_after ys (suc k))) (sym bytes)

pub overflow_add-n : goal.overflow_add-n
overflow_add-n c = record { fits = omega (arith, split c, c.loop-k.invariant, size-most c.args.samples.now c.requires) }

pub loop-k-preserved : goal.loop-k-preserved
loop-k-preserved c = rw (add-one c.loop-k.k) (omega (arith, split c, c.loop-k.invariant))

pub returns : goal.returns
returns c = omega (arith, c.loop-k.invariant, ap length (text-none c.args.samples.now c.loop-k.k (omega arith)))
