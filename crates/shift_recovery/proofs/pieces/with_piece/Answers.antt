-- What was read is what the file has there.
use Rattle.std.proofs.Common.{◌≡◌, ◌+◌, ◌-◌, ◌++◌, ◌∙◌, ℕ, min, length, drop, ap, arith}
use Rattle.std.specs.Prelude.{slice_range}
use Rattle.std.proofs.lemmas.List.{take_at}
use Rattle.shift_recovery.specs.declared.pieces.TheConstants.{PIECE}
use Rattle.outside_io.specs.Telling.{where_told, told}
use Rattle.journal_format.proofs.Windowed.{piece_more}
use Rattle.shift_recovery.proofs.pieces.with_piece.Goals as goal

pub returns-clause-bytes : goal.returns-clause-bytes
returns-clause-bytes g c =
    let n : ℕ = min PIECE (c.args.len - c.args.at) in
    let long : length c.deref_mut.result.now ≡ n = omega (arith, c.deref_mut.ensures.len, c.in_ok-piece.ensures.len, c.min-size.ensures) in
    let same : length c.read_at.new.out ≡ c.in_ok-piece.piece.len = omega (arith, c.deref_mut.ensures.len, c.read_at.auto.out) in
    let piece = c.deref.ensures.value ∙ take_at c.read_at.new.out _ c.in_ok-piece.piece.len same in
    where_told _ (λ file. c.args.kept.now ++ drop c.args.at file ≡ c.extend_from_slice.new.self.items ++ drop
    (c.args.at + n) file) (λ file is.
    piece_more c.args.kept.now c.in_ok-window.window.items c.extend_from_slice.new.self.items c.deref.result.now file c.args.at
    n c.in_ok-window.ensures.items c.in_ok-extend_from_slice.ensures.items
    (piece ∙ told _ _ file is c.in_ok-read_at.ensures.read ∙ ap (λ (k : ℕ). slice_range file c.args.at (c.args.at + k)) long))
