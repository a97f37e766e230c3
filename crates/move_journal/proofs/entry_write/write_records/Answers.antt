-- The write begins after the closed gate, so no image counts its bytes.
use Rattle.std.proofs.Common.{◌-◌, List, ℕ, length, take, drop}
use Rattle.std.proofs.lemmas.List.{take_rest}
use Rattle.outside_io.specs.Moments.{widened}
use Rattle.outside_io.specs.Telling.{turned, shown}
use Rattle.journal_format.specs.Journals.{IsJournal}
use Rattle.move_journal.proofs.Turning.{on_ok}
use Rattle.move_journal.proofs.Staging.{records_torn, records_written}
use Rattle.move_journal.proofs.entry_write.write_records.Goals as goal

pub returns-clause-staged : goal.returns-clause-staged
returns-clause-staged g c file text grants more told only holds =
    let bytes : List ℕ = c.args.bytes.now in
    let piece : List ℕ = take (length bytes - 1) (drop 1 bytes) in
    on_ok c.write_through.result (λ written. let new = turned _ _ _ file told written in
    shown _ _ new.0 new.1 (
      records_written file text grants c.args.gate more bytes piece holds (take_rest bytes 1) new.0 new.2.0,
      new.2.1,
    )) c.write_through.ensures.written

pub returns-clause-left : goal.returns-clause-left
returns-clause-left g c file text grants more told only holds f left =
    let bytes : List ℕ = c.args.bytes.now in
    let piece : List ℕ = take (length bytes - 1) (drop 1 bytes) in
    records_torn file text grants c.args.gate more bytes piece holds (take_rest bytes 1) _ only f
    (c.write_through.ensures.torn f left)

pub returns-clause-any_moment : goal.returns-clause-any_moment
returns-clause-any_moment g c file text grants more told only holds =
    let bytes : List ℕ = c.args.bytes.now in
    let piece : List ℕ = take (length bytes - 1) (drop 1 bytes) in
    widened g.D.Disk.moment g.D.Disk.left_since _ _ _ (λ f. IsJournal f text grants) c.write_through.ensures.any_moment
    (λ f torn. records_torn file text grants c.args.gate more bytes piece holds (take_rest bytes 1) _ only f torn)
