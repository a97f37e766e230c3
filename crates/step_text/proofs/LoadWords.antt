-- The load of a type whose name is known.
use Rattle.std.proofs.Common.{◌≡◌, ℕ, List, [], ◌∷◌, Ok, codes, Some, position, ap, refl, ◌∙◌}
use Rattle.std.specs.Str.{bytes_eq}
use Rattle.std.proofs.lemmas.List.Elements.{All-nil}
use Rattle.cell_base.specs.declared.cells.Cell.{Cell}
use Rattle.cell_base.specs.declared.requests.Request.TheVariants.{Load}
use Rattle.cell_base.specs.Fits.{CellFits}
use Rattle.cell_base.specs.Named.{type_names}
use Rattle.step_text.specs.Words.{words}
use Rattle.step_text.specs.Steps.{job_of, load_of, number_of_name, step_of, step_of_three, step_of_words}
use Rattle.step_text.proofs.Joined.{IsWord, name_word, words_again}
use Rattle.step_text.proofs.Naming.{type_among, type_found}

-- the text of three words: "load", a job, and the name of a type of the cell
pub load_read : (cell : Cell) → CellFits cell → (text rest job_word name : List ℕ) (job k : ℕ) → words text ≡ codes "load" ∷ words rest
    → words rest ≡ job_word ∷ words name → job_of job_word ≡ Ok job → position (bytes_eq name) (type_names cell.types) ≡ Some k
    → step_of cell text ≡ Ok (Load (record { 0 = job }) (record { 0 = k }))
unfolding step_of step_of_three load_of
load_read cell fits text rest job_word name job k verb cut job_is found =
    let one : words name ≡ name ∷ [] = words_again name [] (name_word name (type_among cell fits name k found)) (All-nil IsWord) in
    let all : words text ≡ codes "load" ∷ job_word ∷ name ∷ [] =
    verb ∙ ap (λ ws. codes "load" ∷ ws) (cut ∙ ap (λ ws. job_word ∷ ws) one) in
    let number : number_of_name (type_names cell.types) name ≡ Ok k = type_found cell fits name k found in
    ap (step_of_words cell) all ∙ rw (job_is, number) refl
