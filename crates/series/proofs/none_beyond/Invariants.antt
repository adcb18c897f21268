-- `series::none_beyond`: what is found in all samples is what is found in those that are left, where none was beyond so far.
use Rattle.std.proofs.Common.{◌≡◌, suc, drop}
use mathlib.Core.Bool.{◌&&◌}
use Rattle.series.specs.Search.{first, first_from, is_none}
use Rattle.series.specs.Limits.{bad_sample}
use Rattle.series.proofs.none_beyond.Given as goal

abbrev pub invariant-loop-sample : goal.invariant-loop-sample
invariant-loop-sample l = is_none (first bad_sample l.samples) ≡ (l.all && is_none (first_from bad_sample (suc l.sample-index) (drop l.sample-index l.samples)))
