-- `delay_csv::read`: a table that is read keeps the rules, and is the table of its delays.
use mathlib.Core.Path.{◌≡◌, sym, ap, ◌∙◌}
use lib.ListN.{length}
use Rattle.delay_csv.specs.Format.{text_of}
use Rattle.delay_csv.specs.Calls.{samples_after}
use Rattle.delay_csv.proofs.ReadLaws.{read-given, read_back, kept-text}
use Rattle.delay_csv.proofs.read.Goals as goal

pub fill-requires : goal.fill-requires
fill-requires c =
    let w = (read-given c.args.text.now (length c.args.samples.now) (sym c.in_ok-n.ensures)).0 in
    record { rows_bound = w.few; rules_kept = w.kept; samples_room = w.room }

pub returns-clause-same : goal.returns-clause-same
returns-clause-same c =
    let text = c.args.text.now in
    let old = c.args.samples.now in
    let gives = sym c.in_ok-n.ensures in
    let w = (read-given text (length old) gives).0 in
    let q : c.fill.new.samples ≡ samples_after text old = rw gives c.fill.ensures in
    rw q (kept-text text w.kept ∙ ap text_of (sym (read_back text old _ gives)))
