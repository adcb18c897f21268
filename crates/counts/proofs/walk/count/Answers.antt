-- `counts::walk::count`: the walk has as many samples and counts as there are minutes.
use mathlib.Core.Path.{◌≡◌, refl, sym, ap, ◌∙◌}
use mathlib.Core.List.{◌∷◌}
use native.Mathlib.Omega.{arith}
use Prim.Native.Nat.{ℕ, zero, suc, ◌≤◌}
use lib.ListN.{length, take, replicate, length-replicate}
use lib.IntN.{pos}
use Rattle.series.specs.Answer.{refill}
use Rattle.counts.specs.EverySeries.{every_series}
use Rattle.counts.specs.Counts.{step_counts}
use Rattle.counts.proofs.CountLaws.{counts-length}
use Rattle.counts.proofs.walk.count.Goals as goal

zeros : (m n : ℕ) → m ≤ n → take m (replicate n (pos 0)) ≡ replicate m (pos 0)
zeros zero n h = refl
zeros (suc m) zero h = absurd (omega arith)
zeros (suc m) (suc n) h = ap (λ l. pos 0 ∷ l) (zeros m n (omega arith))

long : (m : ℕ) → m ≤ 6 → length (take m (replicate 6 (pos 0))) ≡ m
long m h = ap length (zeros m 6 h) ∙ length-replicate m (pos 0)

pub walk-requires-clause-all_zero : goal.walk-requires-clause-all_zero
walk-requires-clause-all_zero c = let h = c.requires.few in zeros c.args.minutes 6 h ∙ sym (ap (λ k. replicate k (pos 0)) (long c.args.minutes h))

pub returns : goal.returns
unfolding refill
returns c =
    let a = c.args in
    let e : c.walk.new.counts ≡ step_counts a.minutes a.top a.smoothing = c.walk.ensures.counts ∙ ap (λ k. step_counts k a.top a.smoothing) (long a.minutes c.requires.few) in
    rw (e, counts-length a.smoothing a.minutes (every_series a.minutes a.top))
