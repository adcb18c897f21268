-- `counts::walk::advance`: the first k samples were at the top, and are 0.
use Rattle.std.proofs.Common.{◌≡◌, ◌++◌, drop, replicate, pos}
use Rattle.series.proofs.ListLoop.{Begins}
use Rattle.counts.specs.Walk.{next_series}
use Rattle.counts.proofs.walk.advance.Given as goal

abbrev pub invariant-loop-k : goal.invariant-loop-k
invariant-loop-k l =
    Begins l.fn.samples (replicate l.k (pos 0)) l.k l.samples × (next_series l.top l.fn.samples ≡ replicate l.k (pos 0) ++ next_series l.top (drop l.k l.fn.samples))
