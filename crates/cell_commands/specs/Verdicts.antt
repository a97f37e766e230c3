-- The line of a verdict on a record.
use Rattle.std.specs.Prelude.{ℕ, List, [], ◌∷◌, ◌++◌, codes}
use Rattle.std.specs.Fmt.{decimal}
use Rattle.record_text.specs.Lines.{line_of}
use Rattle.shift_checker.specs.declared.verdict.Verdict.{Verdict}
use Rattle.shift_checker.specs.declared.verdict.Verdict.TheVariants.{Yes, No}
use Rattle.shift_checker.specs.declared.verdict.Why.{Why}
use Rattle.shift_checker.specs.declared.verdict.Why.TheVariants.{After, Reply, Left, Step, Parts}

-- why a line of a record fails
abbrev pub why_word : Why → List ℕ
why_word After = codes "after"
why_word Reply = codes "reply"
why_word Left = codes "left"
why_word Step = codes "step"
why_word Parts = codes "parts"

-- the line of a verdict
abbrev pub verdict_text : Verdict → List ℕ
verdict_text Yes = codes "yes" ++ 10 ∷ []
verdict_text (No line why) = line_of (codes "no" ∷ decimal line ∷ why_word why ∷ [])
