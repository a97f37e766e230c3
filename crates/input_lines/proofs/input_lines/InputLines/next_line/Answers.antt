-- Up to a newline, or to the end of what was read.
use Rattle.std.specs.Prelude.{slice_range}
use Rattle.std.proofs.Common.{◌-◌, ◌≤◌, ◌∙◌, ◌++◌, ℕ, List, Some, None, ap, arith, drop, length, subst, take}
use Rattle.std.proofs.lemmas.List.{drop_all, length-take, take_all}
use Rattle.memchr.specs.Find.{IsFirstByte}
use Rattle.input_lines.specs.Lines.{is_newline}
use Rattle.input_lines.specs.Reading.{LinesState}
use Rattle.input_lines.proofs.Steps.{reads_line, reads_none}
use Rattle.input_lines.proofs.input_lines.InputLines.next_line.Goals as goal

pub returns-in-Some-clause-whole : goal.returns-in-Some-clause-whole
returns-in-Some-clause-whole c = λ same text given reads.
    let i = c.self.inside in
    let count = c.in-Some.count in
    let ahead_is = ap (λ (piece : List ℕ). slice_range piece i.at i.end) c.deref.ensures.value
    ∙ ap (λ (s : LinesState). s.ahead) c.self.view_is in
    let first = subst (λ (ahead : List ℕ). IsFirstByte is_newline ahead (Some count)) ahead_is c.in-Some.ensures in
    let taken = c.lend.ensures in
    reads_line text given c.args.self.now c.lend.new.self reads count first taken.ahead taken.begun taken.line

pub returns-in-Some-2-clause-whole : goal.returns-in-Some-2-clause-whole
returns-in-Some-2-clause-whole c = λ same text given reads.
    let i = c.self.inside in
    let count = c.in-Some.count in
    let ahead_is = ap (λ (piece : List ℕ). slice_range piece i.at i.end) c.deref.ensures.value
    ∙ ap (λ (s : LinesState). s.ahead) c.self.view_is in
    let first = subst (λ (ahead : List ℕ). IsFirstByte is_newline ahead (Some count)) ahead_is c.in-Some.ensures in
    let taken = c.finish.ensures in
    reads_line text given c.args.self.now c.finish.new.self reads count first taken.ahead taken.begun taken.line

pub returns-in-None-clause-none : goal.returns-in-None-clause-none
returns-in-None-clause-none c = λ same.
    let i = c.self.inside in
    let old = c.args.self.now in
    let ahead_is = ap (λ (piece : List ℕ). slice_range piece i.at i.end) c.deref.ensures.value
    ∙ ap (λ (s : LinesState). s.ahead) c.self.view_is in
    let none = subst (λ (ahead : List ℕ). IsFirstByte is_newline ahead None) ahead_is c.in-None.ensures in
    let n = c.keep.inside in
    let same_ahead = ap (λ (s : LinesState). s.ahead) c.keep.view_is in
    let few : length old.ahead ≤ n.end - n.at =
    omega (arith, ap (λ (l : List ℕ). length l) same_ahead, length-take (n.end - n.at) (drop n.at n.piece.items)) in
    let away = c.put_away-in-None.ensures in
    let spent = ap (λ (s : LinesState). s.ahead) away ∙ ap (λ (s : LinesState). s.ahead) c.keep-in-None.ensures
    ∙ drop_all (n.end - n.at) old.ahead few in (
      spent,
      λ text given reads. reads_none text given old c.put_away-in-None.new.self reads none spent
          (ap (λ (s : LinesState). s.begun) away ∙ ap (λ (s : LinesState). s.begun) c.keep-in-None.ensures
          ∙ ap (λ (l : List ℕ). take 67 (old.begun ++ l)) (take_all (n.end - n.at) old.ahead few)),
    )
