-- `sheet::complete`: what is promised of the sheet with its line.
use Rattle.std.specs.Prelude.{IfOk, take}
use Rattle.std.proofs.lemmas.Result.{IfOk-weaker}
use Rattle.sheet.proofs.CompleteLaws.{Completed, promised}
use Rattle.sheet.proofs.complete.Goals as goal

pub returns : goal.returns
returns c =
    let a = c.args in
    let r = c.complete.result in
    let e = rw c.in_ok-new.ensures.bytes at c.complete.ensures in
    let h : IfOk r (λ b. Completed a.sheet.now (take b c.complete.new.out)) = promised a.sheet.now a.out.now r e.answer e.out in
    record {
      answer = e.answer;
      out = e.out;
      same = IfOk-weaker r _ _ (λ b h. (h.same_samples, h.same_smoothing)) h;
      meets = IfOk-weaker r _ _ (λ b h. h.meets) h;
      only = IfOk-weaker r _ _ (λ b h. h.only) h;
      least = IfOk-weaker r _ _ (λ b h. h.least) h;
    }
