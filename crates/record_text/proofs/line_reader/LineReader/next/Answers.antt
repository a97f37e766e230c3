-- One line more is read, and what the bytes are where there is none.
use Rattle.std.proofs.Common.{◌≡◌, ℕ, ◌+◌, ◌<◌, ◌≤◌, ◌⊎◌, length, sym, ap, subst}
use Rattle.record_text.specs.declared.record.RecordFault.TheVariants.{Bad}
use Rattle.record_text.specs.declared.record_lines.Turn.{Turn}
use Rattle.record_text.specs.declared.record_lines.Turn.TheVariants as turns
use Rattle.record_text.specs.BadLines.{RefusedAt}
use Rattle.record_text.specs.Remains.{LinesLeft, AreRead}
use Rattle.record_text.specs.Turns.{with_line}
use Rattle.record_text.proofs.LinesRead.{formed, line_read, refused_end, refused_line, whole}
use Rattle.record_text.proofs.line_reader.LineReader.next.Goals as goal

pub returns-then-is_at_end-clause-whole : goal.returns-then-is_at_end-clause-whole
returns-then-is_at_end-clause-whole c = λ bytes so_far is ended.
    let end = c.is_at_end.ensures.ended c.if-is_at_end.true in
    whole c.args.self.now bytes so_far is end.0 end.1 end.2

pub returns-then-is_at_end-clause-formed : goal.returns-then-is_at_end-clause-formed
returns-then-is_at_end-clause-formed c = λ bytes so_far is ended.
    let end = c.is_at_end.ensures.ended c.if-is_at_end.true in
    formed c.args.self.now bytes so_far is end.0 end.1 end.2

pub returns-in_default-clause-refused : goal.returns-in_default-clause-refused
returns-in_default-clause-refused c = λ bytes so_far is.
    let here = c.self.inside in
    let left : LinesLeft = record { cell = here.cell.now; number = here.number; bytes = here.rest.now; turn = here.turn } in
    let same : left ≡ c.args.self.now = c.self.view_is in
    subst (λ (left : LinesLeft). RefusedAt left.cell bytes (Bad here.number)) same
    (refused_end left bytes so_far (subst (λ (left : LinesLeft). AreRead left bytes so_far) (sym same) is) c.self.invariant.0
    c.cut_line.result.0.now (rw c.in_default.is at c.cut_line.ensures.pieces)
    (subst (λ (left : LinesLeft). left.turn ≡ turns.Between → (0 < length left.bytes) ⊎ (left.number ≤ 1)) (sym same)
    (c.is_at_end.ensures.goes_on c.if-is_at_end.false)))

pub returns-in_default-read_line-clause-refused : goal.returns-in_default-read_line-clause-refused
returns-in_default-read_line-clause-refused c = λ bytes so_far is.
    let here = c.self.inside in
    let left : LinesLeft = record { cell = here.cell.now; number = here.number; bytes = here.rest.now; turn = here.turn } in
    let same : left ≡ c.args.self.now = c.self.view_is in
    subst (λ (left : LinesLeft). RefusedAt left.cell bytes (Bad here.number)) same
    (refused_line left bytes so_far (subst (λ (left : LinesLeft). AreRead left bytes so_far) (sym same) is) c.self.invariant.0
    c.cut_line.result.0.now c.in-Some.rest.now (rw c.in-Some.is at c.cut_line.ensures.pieces)
    (rw c.in_default-read_line.is at c.read_line.ensures.said))

pub returns-clause-line : goal.returns-clause-line
returns-clause-line c = λ bytes so_far is.
    let here = c.self.inside in
    let left : LinesLeft = record { cell = here.cell.now; number = here.number; bytes = here.rest.now; turn = here.turn } in
    let same : left ≡ c.args.self.now = c.self.view_is in
    let said = c.in-Some-read_line.found in
    let after = c.turn_after-self-inside in
    subst (λ (number : ℕ). AreRead (record { cell = left.cell; number = left.number + 1; bytes = c.in-Some.rest.now; turn = after.result })
    bytes (with_line number so_far.0 so_far.1 said)) (ap (λ (left : LinesLeft). left.number) same)
    (subst (λ (turn : Turn). AreRead (record { cell = left.cell; number = left.number + 1; bytes = c.in-Some.rest.now; turn = turn }) bytes
    (with_line left.number so_far.0 so_far.1 said)) (sym after.ensures.next)
    (line_read left bytes so_far (subst (λ (left : LinesLeft). AreRead left bytes so_far) (sym same) is)
    c.cut_line.result.0.now c.in-Some.rest.now said c.self.invariant.2 (rw c.in-Some-read_line.is at c.read_line.ensures.suits)
    (rw c.in-Some.is at c.cut_line.ensures.pieces) (rw c.in-Some-read_line.is at c.read_line.ensures.said)))
