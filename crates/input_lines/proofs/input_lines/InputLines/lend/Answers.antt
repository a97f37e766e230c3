-- The line stands from where the bytes ahead begin.
use Rattle.std.specs.Prelude.{slice_range}
use Rattle.std.proofs.Common.{◌+◌, ◌<◌, ◌≡◌, ◌∙◌, ◌++◌, List, ℕ, ap, arith, drop, length, suc, sym, subst, take}
use Rattle.input_lines.specs.Reading.{LinesState}
use Rattle.input_lines.proofs.Steps.{ahead_after, lent_line}
use Rattle.input_lines.proofs.input_lines.InputLines.lend.Goals as goal

pub returns : goal.returns
returns c =
    let i = c.self.inside in
    let count = c.args.count in
    let ahead_is = ap (λ (s : LinesState). s.ahead) c.self.view_is in
    let begun_is = ap (λ (s : LinesState). s.begun) c.self.view_is in
    let more : count + 1 ≡ suc count = omega arith in
    let few = subst (λ (ahead : List ℕ). count < length ahead) (sym ahead_is) c.requires.inside in
    record {
      begun = begun_is ∙ c.requires.whole;
      ahead = ap (λ (n : ℕ). slice_range i.piece.items (i.at + n) i.end) more
          ∙ ahead_after i.piece.items i.at i.end (suc count) few ∙ ap (drop (suc count)) ahead_is;
      line = ap (λ (n : ℕ). slice_range i.piece.items i.at (i.at + n)) c.min.ensures
          ∙ lent_line i.piece.items i.at i.end count (omega (arith, few))
          ∙ (λ k. take 67 (sym c.requires.whole k ++ take count (ahead_is k)));
    }
