-- The piece is ahead.
use Rattle.std.specs.Prelude.{slice_range}
use Rattle.std.proofs.Common.{ℕ, List, ap, arith, length, take, ◌∙◌, ◌-◌, ◌≡◌}
use Rattle.std.proofs.lemmas.List.{length-take-le}
use Rattle.input_lines.specs.Reading.{LinesState}
use Rattle.input_lines.proofs.Steps.{reads_piece, written_over}
use Rattle.input_lines.proofs.input_lines.InputLines.fill.Goals as goal

pub returns-in-Ok-clause-goes_on : goal.returns-in-Ok-clause-goes_on
returns-in-Ok-clause-goes_on g c =
    let count = c.in-Ok.count in
    let bytes : List ℕ = c.next_piece.new.out in
    let all : count - 0 ≡ count = omega arith in
    let size : length bytes ≡ c.self.inside.piece.len = omega (arith, c.next_piece.auto.out, c.as_mut_slice.ensures.len) in
    let ahead = ap (λ (ls : List ℕ). slice_range ls 0 count) (written_over c.self.inside.piece.len bytes _ size)
    ∙ ap (λ (n : ℕ). take n bytes) all in
    record {
      piece = take count bytes;
      count_is = length-take-le count bytes c.in-Ok.ensures.within;
      came = c.in-Ok.ensures.gives;
      ahead_is = ahead;
      reads = λ text given reads. reads_piece text given c.args.self.now _ reads (take count bytes) c.requires.spent ahead
          (ap (λ (s : LinesState). s.begun) c.self.view_is);
    }
