-- The bytes up to the newline go over, and the line that has begun is the one at hand.
use Rattle.std.specs.Prelude.{slice_range}
use Rattle.std.proofs.Common.{◌≡◌, ◌-◌, ◌≤◌, ◌∙◌, List, ℕ, ap, arith, drop, length}
use Rattle.std.proofs.lemmas.List.{length-take}
use Rattle.input_lines.specs.Reading.{LinesState}
use Rattle.input_lines.proofs.Steps.{ahead_after, drop_one, length_drop}
use Rattle.input_lines.proofs.input_lines.InputLines.finish.Goals as goal

pub invariant_of-self-inside : goal.invariant_of-self-inside
invariant_of-self-inside c =
    let now = c.self.inside in
    let ahead = c.args.self.now.ahead in
    let rest : slice_range now.piece.items now.at now.end ≡ drop c.args.count ahead =
    ap (λ (s : LinesState). s.ahead) (c.self.view_is ∙ c.keep.ensures) in
    let some = length_drop c.args.count ahead c.requires in (
      (
        omega (arith, some, ap (λ (l : List ℕ). length l) rest, length-take (now.end - now.at) (drop now.at now.piece.items)),
        now.within.1,
        now.within.2,
      ),
      (λ place is. absurd cc, tt),
    )

pub returns : goal.returns
returns c =
    let now = c.self.inside in
    let count = c.args.count in
    let ahead = c.args.self.now.ahead in
    let kept = c.self.view_is ∙ c.keep.ensures in
    let rest : slice_range now.piece.items now.at now.end ≡ drop count ahead = ap (λ (s : LinesState). s.ahead) kept in
    let some : 1 ≤ length (slice_range now.piece.items now.at now.end) =
    omega (arith, length_drop count ahead c.requires, ap (λ (l : List ℕ). length l) rest) in
    record {
      begun = c.clear.ensures;
      ahead = ahead_after now.piece.items now.at now.end 1 some ∙ ap (drop 1) rest ∙ drop_one count ahead;
      line = ap (λ v. v.items) c.swap.ensures.x_after ∙ ap (λ (s : LinesState). s.begun) kept;
    }
