-- The unload of a job, and its move by the first branch.
use Rattle.std.proofs.Common.{◌≡◌, ℕ, List, [], ◌∷◌, Ok, codes, subst, ap, refl, ◌∙◌, arith}
use Rattle.std.specs.Fmt.{decimal}
use Rattle.std.proofs.lemmas.List.Elements.{All-nil}
use Rattle.cell_base.specs.declared.cells.Cell.{Cell}
use Rattle.cell_base.specs.declared.requests.Request.TheVariants.{Move, Unload}
use Rattle.step_text.specs.Words.{words}
use Rattle.step_text.specs.Steps.{job_of, move_of, step_of, step_of_two, step_of_words, unload_of}
use Rattle.step_text.proofs.Joined.{IsWord, decimal_word, words_again}
use Rattle.step_text.proofs.Numerals.{job_back, job_small}

-- a job is one word
one_word : (rest : List ℕ) (job : ℕ) → job_of rest ≡ Ok job → words rest ≡ rest ∷ []
one_word rest job is =
    subst (λ (w : List ℕ). words w ≡ w ∷ []) (job_back job rest is)
    (words_again (decimal job) [] (decimal_word job (omega (arith, job_small job rest is))) (All-nil IsWord))

-- the text of two words: "unload" and a job
pub unload_read : (cell : Cell) (text rest : List ℕ) (job : ℕ) → words text ≡ codes "unload" ∷ words rest → job_of rest ≡ Ok job
    → step_of cell text ≡ Ok (Unload (record { 0 = job }))
unfolding step_of step_of_two unload_of
unload_read cell text rest job verb is =
    let all : words text ≡ codes "unload" ∷ rest ∷ [] = verb ∙ ap (λ ws. codes "unload" ∷ ws) (one_word rest job is) in
    ap (step_of_words cell) all ∙ rw is refl

-- the text of two words: "move" and a job
pub move_read : (cell : Cell) (text rest : List ℕ) (job : ℕ) → words text ≡ codes "move" ∷ words rest → job_of rest ≡ Ok job
    → step_of cell text ≡ Ok (Move (record { 0 = job }) 0)
unfolding step_of step_of_two move_of
move_read cell text rest job verb is =
    let all : words text ≡ codes "move" ∷ rest ∷ [] = verb ∙ ap (λ ws. codes "move" ∷ ws) (one_word rest job is) in
    ap (step_of_words cell) all ∙ rw is refl
