-- One line more is judged, if none before it failed.
use Rattle.std.proofs.Common.{Ok, rules, ap, subst, refl}
use Rattle.cell_base.specs.declared.cells.Cell.{Cell}
use Rattle.record_text.specs.BadLines.{RefusedAt}
use Rattle.record_text.specs.Remains.{AreRead}
use Rattle.record_text.specs.Turns.{with_line}
use Rattle.shift_checker.proofs.Judged.{all_judged, stays_wrong}
use Rattle.shift_checker.proofs.checking.check_text.Goals as goal

pub returns-in_err-line-clause-refused : goal.returns-in_err-line-clause-refused
returns-in_err-line-clause-refused c =
    let so_far = c.loop-walk.invariant in
    let why : RefusedAt c.args.cell.now c.args.bytes.now c.in_err-line.field-0.0 =
    subst (λ (cell : Cell). RefusedAt cell c.args.bytes.now c.in_err-line.field-0.0) so_far.of
    (rw c.in_err-line.was at (c.next.ensures.refused c.args.bytes.now so_far.so_far so_far.read)) in
    search (rules, why)

pub returns-in_default-clause-judged : goal.returns-in_default-clause-judged
returns-in_default-clause-judged c =
    let so_far = c.loop-walk.invariant in
    let none = ap Ok c.in_default.is in
    let left = c.in_ok-line.ensures in
    all_judged c.args.cell.now c.args.bytes.now c.loop-walk.left c.loop-walk.walk c.loop-walk.verdict so_far
    (left.ended c.args.bytes.now so_far.so_far so_far.read none) (left.whole c.args.bytes.now so_far.so_far so_far.read none)
    (left.formed c.args.bytes.now so_far.so_far so_far.read none)

pub loop-walk-preserved : goal.loop-walk-preserved
loop-walk-preserved c =
    let so_far = c.loop-walk.invariant in
    let left = c.in_ok-line.ensures in
    let read : AreRead c.next.new.self c.args.bytes.now
    (with_line c.loop-walk.left.number so_far.so_far.0 so_far.so_far.1 c.in-Some.line) =
    rw c.in-Some.is at (left.line c.args.bytes.now so_far.so_far so_far.read) in
    stays_wrong c.args.cell.now c.args.bytes.now c.loop-walk.left c.next.new.self c.loop-walk.walk c.loop-walk.verdict so_far
    left.cell c.in-Some.line (rw c.in-Some.is at left.fits) (rw c.in-Some.is at left.suits) (rw c.in-Some.is at left.number) read
    c.loop-walk.walk c.loop-walk.verdict c.in_default-verdict.not-Yes refl
