-- The bytes go over into the line that has begun.
use Rattle.std.specs.Prelude.{slice_range}
use Rattle.std.proofs.Common.{◌+◌, ◌≤◌, ◌∙◌, ◌++◌, List, ℕ, ap, drop, length, sym, subst, take}
use Rattle.input_lines.specs.declared.input_lines.TheConstants.{LINE_KEPT}
use Rattle.input_lines.specs.Reading.{LinesState}
use Rattle.input_lines.proofs.Steps.{ahead_after, ahead_first}
use Rattle.input_lines.proofs.input_lines.InputLines.keep.Goals as goal

pub returns : goal.returns
returns c =
    let i = c.self.inside in
    let old = c.args.self.now in
    let count = c.args.count in
    let ahead_is = ap (λ (s : LinesState). s.ahead) c.self.view_is in
    let begun_is = ap (λ (s : LinesState). s.begun) c.self.view_is in
    let few = subst (λ (ahead : List ℕ). count ≤ length ahead) (sym ahead_is) c.requires in
    let first = ap (λ (piece : List ℕ). slice_range piece i.at (i.at + count)) c.deref.ensures.value
    ∙ ahead_first i.piece.items i.at i.end count few ∙ ap (take count) ahead_is in
    let begun = c.keep_first.ensures ∙ (λ k. take LINE_KEPT (begun_is k ++ first k)) in
    let ahead = ahead_after i.piece.items i.at i.end count few ∙ ap (drop count) ahead_is in
    λ k. record { begun = begun k; ahead = ahead k; line = ap (λ (s : LinesState). s.line) c.self.view_is k }
