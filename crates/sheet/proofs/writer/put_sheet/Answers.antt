-- `sheet::writer::put_sheet`: the sheet's bytes.
use Rattle.series.specs.Answer.{refill}
use Rattle.layout.specs.SheetLaws.{length-sheet_bytes}
use Rattle.sheet.proofs.writer.put_sheet.Goals as goal

pub returns-clause-out : goal.returns-clause-out
unfolding refill
returns-clause-out c = let a = c.args in rw (length-sheet_bytes a.samples.now a.smoothing a.lengths.now a.totals.now c.requires.same_length) c.encode.ensures
