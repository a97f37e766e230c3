-- The text is the digits, a space and the rest.
use Rattle.std.proofs.Common.{◌≡◌, ◌+◌, ◌-◌, ◌∷◌, ◌++◌, ℕ, List, take, drop, length, sym, subst, ap, ◌∙◌, arith}
use Rattle.std.specs.Str.Parse.{digits_value}
use Rattle.std.proofs.lemmas.List.{drop_more, take-append-drop, take_all, length-drop}
use Rattle.step_text.specs.Steps.{BeginsWithJob}
use Rattle.step_text.proofs.JobWords.{begins_with}
use Rattle.step_text.proofs.loads.job_before.Goals as goal

pub returns-in-Ok : goal.returns-in-Ok
returns-in-Ok c =
    let text = c.args.text.now in
    let at = c.args.at in
    let word = take at text in
    let rest = drop (at + 1) text in
    let space : drop at text ≡ 32 ∷ rest = drop_more text at 0 c.requires.inside ∙ ap (λ b. b ∷ rest) c.requires.space in
    let whole : word ++ 32 ∷ rest ≡ text = ap (λ (xs : List ℕ). word ++ xs) (sym space) ∙ take-append-drop at text in
    let begins : BeginsWithJob text (digits_value 10 word) rest =
    subst (λ (xs : List ℕ). BeginsWithJob xs (digits_value 10 word) rest) whole
    (begins_with word rest c.requires.digits (sym c.if-not-is_plain.ensures) (omega (arith, c.in-Ok.ensures.0, c.requires.value))) in
    let whole_rest : take (length text - (at + 1)) rest ≡ rest = take_all _ rest (omega (arith, length-drop (at + 1) text)) in
    rw (whole_rest, c.in-Ok.ensures.1, c.requires.value) begins
