-- `sums::checkpoints::bad_rest`: none of the samples is beyond the limits, from whatever number they are counted.
use mathlib.Core.Path.{◌≡◌, sym, ap, ◌∙◌}
use mathlib.Core.Bool.{true}
use native.Mathlib.Omega.{arith}
use Rattle.std.proofs.Common.{suc, ◌*◌, ◌/◌, pos}
use Rattle.series.specs.Search.{first, is_none}
use Rattle.series.specs.Limits.{bad_sample}
use Rattle.series.proofs.SearchLaws.{none-picked, none_where, none_is}
use Rattle.sums.specs.Checkpoints.{rest}
use Rattle.sums.proofs.CheckpointLaws.{rest_part}
use Rattle.sums.proofs.checkpoints.bad_rest.Goals as goal

pub returns-then-none_beyond : goal.returns-then-none_beyond
returns-then-none_beyond c =
    let n = c.args.n in
    let l = rest c.args.samples.now n in
    let told : is_none (first bad_sample l) ≡ true =
    ap (λ ys. is_none (first bad_sample ys)) (sym (rest_part c.args.samples.now n (omega arith))) ∙ sym c.none_beyond.ensures.answer ∙ c.if-none_beyond.true in
    sym (none_where bad_sample l (suc (256 * (n / 256))) (pos 0) (none-picked bad_sample l 1 (none_is _ told) (pos 0)))
