-- `checker::dual_walk::Progress::advance`: nothing wraps.
use mathlib.Core.Path.{◌≡◌, sym, ap, ap₂, ◌∙◌}
use native.Mathlib.Numerals.{add-one}
use Prim.Native.Nat.{ℕ}
use lib.IntN.{ℤ, pos, ◌+ℤ◌, ◌*ℤ◌, ◌-ℤ◌}
use mir.Syntax.{w32, w64}
use mir.Val.{to_z, of_z}
use Rattle.std.specs.Prelude.{None}
use Rattle.integers.specs.Laws.{one-*ℤ}
use Rattle.integers.specs.Bounds.{Upto, Atmost, cleaning, fit, clean}
use Rattle.level.proofs.LimitsLaws.{short, small}
use Rattle.checker.proofs.dual_walk.Progress.advance.Goals as goal

pub overflow_add-result-2 : goal.overflow_add-result-2
overflow_add-result-2 c =
    let n = short c.requires.t_valid in
    let t = small c.requires.t_valid in
    let y : Upto 16777216 c.args.y = record { upto = c.requires.y_bound } in
    let v : Upto 72057594037927936 c.args.self.v = record { upto = c.requires.v_bound } in
    fit (search cleaning depth 20) tt

-- what the machine computes
sum : (n : ℕ) (t v y : ℤ) → Atmost 65536 n → Upto 1099511627776 t → Upto 72057594037927936 v → Upto 16777216 y →
    to_z w64 (of_z w64 (to_z w64 (of_z w64 v) +ℤ to_z w64 (of_z w64 (to_z w64 (of_z w64 (to_z w64 n *ℤ to_z w64 (of_z w64 (to_z w32 (of_z w32 y))))) -ℤ to_z w64 (of_z w64 t))))) ≡ v +ℤ (pos n *ℤ y -ℤ t)
sum n t v y hn ht hv hy = clean (search cleaning depth 20) tt

pub returns : goal.returns
returns c =
    let t = c.args.t in
    let d = c.args.self in
    let y = c.args.y in
    ap₂ (λ at v. record { at = at; v = v; stop = None }) (add-one d.at)
    (sum t.length t.total d.v y (short c.requires.t_valid) (small c.requires.t_valid) (record { upto = c.requires.v_bound }) (record { upto = c.requires.y_bound })
    ∙ ap (λ x. d.v +ℤ x) (sym (one-*ℤ (pos t.length *ℤ y -ℤ t.total))))
