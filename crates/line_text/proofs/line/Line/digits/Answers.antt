-- The digits are those that the text of the number has.
use Rattle.std.proofs.Common.{◌+◌, ◌/◌, ◌%◌, ℕ, List, [], ◌∷◌, ◌++◌, append_assoc, arith, ap, sym, ◌∙◌}
use Rattle.std.proofs.lemmas.Fmt.{decimal_digit, decimal_step}
use Rattle.line_text.proofs.line.Line.digits.Goals as goal

pub returns-then-n-lt10-clause-bytes : goal.returns-then-n-lt10-clause-bytes
returns-then-n-lt10-clause-bytes c =
    c.push.ensures.bytes ∙ ap (λ (digits : List ℕ). c.args.self.now ++ digits) (sym (decimal_digit c.args.n c.if-n-lt10.true))

pub returns-then-n-lt100-clause-bytes : goal.returns-then-n-lt100-clause-bytes
returns-then-n-lt100-clause-bytes c =
    let n = c.args.n in
    c.push-then-n-lt100-2.ensures.bytes
    ∙ ap (λ (line : List ℕ). line ++ (48 + n % 10) ∷ []) c.push-then-n-lt100.ensures.bytes
    ∙ append_assoc c.args.self.now ((48 + n / 10) ∷ []) ((48 + n % 10) ∷ [])
    ∙ ap (λ (digits : List ℕ). c.args.self.now ++ digits)
    (sym (decimal_step n c.if-n-lt10.false (omega (arith, c.ranges.n.fits))
    ∙ ap (λ (digits : List ℕ). digits ++ (48 + n % 10) ∷ []) (decimal_digit (n / 10) (omega (arith, c.if-n-lt100.true)))))
