-- What a line asks, by its words.
use Rattle.std.specs.Prelude.{Result, Ok, Err, codes, if◌then◌else◌}
use Rattle.std.specs.Option.{option_map_or, option_or}
use Rattle.std.specs.Result.{result_ok}
use Rattle.std.proofs.Common.{◌≡◌, ℕ, ◌<◌, inl, inr, Bool, false, true, List, [], ◌∷◌, Option}
use Rattle.std.proofs.Common.{None, Some, refl, length, take, sym, ap, subst, ◌∙◌, arith}
use Rattle.std.proofs.lemmas.Bool.{cases_lt, false_from_ne_true, lt-leb}
use Rattle.std.proofs.lemmas.List.{length-take, take_all}
use Rattle.std.proofs.lemmas.Slice.Eq.{bytes_eq-Decides}
use Rattle.cell_base.specs.declared.cells.Cell.{Cell}
use Rattle.cell_base.specs.declared.requests.Request.{Request}
use Rattle.record_text.specs.Reading.{placing_of}
use Rattle.step_text.specs.declared.faults.StepFault.{StepFault}
use Rattle.step_text.specs.declared.faults.StepFault.TheVariants.{BadStep}
use Rattle.step_text.specs.Steps.{step_of, step_of_three, step_of_two, step_of_words}
use Rattle.step_text.specs.Words.{words}
use Rattle.step_text.proofs.Cuts.{words_some}
use Rattle.serve_command.specs.Asks.{ask_of, ask_of_session, ask_of_several, ask_of_words, job_asked, request_of, step_asked}
use Rattle.serve_command.specs.Asks.{wait_asked}
use Rattle.std.specs.Str.{bytes_eq}
use Rattle.serve_command.specs.declared.asks.Ask.{Ask}
use Rattle.serve_command.specs.declared.asks.Ask.TheVariants.{Cancel, Count, Last, Nothing, Step}

too_long : (cell : Cell) (text : List ℕ) → 66 < length text → ask_of cell text ≡ Nothing
unfolding ask_of
too_long cell text long = ap (λ (short : Bool). if short then ask_of_words cell (words text) else Nothing) (lt-leb (length text) 66 long)

-- a line of which more bytes are kept than an ask has asks what it asked
pub ask_of-kept : (cell : Cell) (line : List ℕ) → ask_of cell (take 67 line) ≡ ask_of cell line
ask_of-kept cell line = elim (cases_lt (length line) 67) [
  | inl short ↦ ap (ask_of cell) (take_all 67 line (omega (arith, short)))
  | inr long ↦
      too_long cell (take 67 line) (omega (arith, length-take 67 line, long)) ∙ sym (too_long cell line (omega (arith, long)))
]

-- the step of a text is that of its words
pub step_is : (cell : Cell) (text : List ℕ) → step_of cell text ≡ step_of_words cell (words text)
unfolding step_of
step_is cell text = refl

-- a word alone that is none of the three is a step that none is
pub asked_alone : {A : Type 0} (text_of : A → List ℕ) (all : List (List ℕ)) (word : List ℕ) (rest : Option A)
    → all ≡ word ∷ option_map_or (λ r. words (text_of r)) rest [] → rest ≡ None → (cell : Cell) (session : ℕ)
    → bytes_eq word (codes "grants") ≡ false → bytes_eq word (codes "last") ≡ false → bytes_eq word (codes "cancel") ≡ false
    → step_asked cell session all ≡ ask_of_session cell session all
asked_alone {A} text_of all word rest parted none cell session grants last cancel =
    let alone : all ≡ word ∷ [] = parted ∙ ap (λ (o : Option A). word ∷ option_map_or (λ r. words (text_of r)) o []) none in
    ap (step_asked cell session) alone
    ∙ sym (ap (ask_of_session cell session) alone
    ∙ (λ i. if grants i then Count session else (if last i then Last session else (if cancel i then Cancel session
    else step_asked cell session (word ∷ [])))))

-- a text after the first word
module _ {A : Type 0} (text_of : A → List ℕ) (all : List (List ℕ)) (word : List ℕ) (rest : Option A)
    (parted : all ≡ word ∷ option_map_or (λ r. words (text_of r)) rest []) (some : A) (is : rest ≡ Some some) where
  -- is of one word or more
  all_words : all ≡ word ∷ (words_some (text_of some)).0 ∷ (words_some (text_of some)).1
  all_words =
      parted ∙ ap (λ (o : Option A). word ∷ option_map_or (λ r. words (text_of r)) o []) is
      ∙ ap (λ (ws : List (List ℕ)). word ∷ ws) (words_some (text_of some)).2

  pub several_asked : (cell : Cell) → ask_of_words cell all ≡ ask_of_several cell word (words (text_of some))
  several_asked cell = ap (ask_of_words cell) all_words ∙ ap (ask_of_several cell word) (sym (words_some (text_of some)).2)

  -- what a session asks, by the first word
  session_asked : (cell : Cell) (session : ℕ) → ask_of_session cell session all
      ≡ (if bytes_eq word (codes "wait") then wait_asked cell session (words (text_of some)) else step_asked cell session all)
  session_asked cell session =
      let more = words_some (text_of some) in
      ap (ask_of_session cell session) all_words
      ∙ ap (λ (waits : Ask). if bytes_eq word (codes "wait") then waits else step_asked cell session (word ∷ more.0 ∷ more.1))
      (ap (wait_asked cell session) (sym more.2))
      ∙ ap (λ (ws : List (List ℕ)). if bytes_eq word (codes "wait") then wait_asked cell session (words (text_of some)) else step_asked cell session ws)
      (sym all_words)

  -- the word asks to wait
  pub wait_asked_first : (cell : Cell) (session : ℕ) → bytes_eq word (codes "wait") ≡ true
      → wait_asked cell session (words (text_of some)) ≡ ask_of_session cell session all
  wait_asked_first cell session is = sym (session_asked cell session ∙ ap (λ (waits : Bool).
      if waits then wait_asked cell session (words (text_of some)) else step_asked cell session all) is)

  -- the word doesn't
  pub step_asked_first : (cell : Cell) (session : ℕ) → bytes_eq word (codes "wait") ≡ false
      → step_asked cell session all ≡ ask_of_session cell session all
  step_asked_first cell session is = sym (session_asked cell session ∙ ap (λ (waits : Bool).
      if waits then wait_asked cell session (words (text_of some)) else step_asked cell session all) is)

  pub no_job_asked : job_asked all ≡ Nothing
  no_job_asked = ap job_asked all_words

-- the request of a text is its step, where it has one
pub step_first : (cell : Cell) (text : List ℕ) (read : Result Request StepFault) → read ≡ step_of cell text
    → option_or (result_ok read) (placing_of cell (words text)) ≡ request_of cell (words text)
step_first cell text read is =
    ap (λ (r : Result Request StepFault). option_or (result_ok r) (placing_of cell (words text))) (is ∙ step_is cell text)

-- no step begins with the word that waits
no_step : (cell : Cell) (next : List ℕ) (rest : List (List ℕ)) (request : Request)
    → step_of_words cell (codes "wait" ∷ next ∷ rest) ≡ Ok request → ⊥
unfolding step_of_two step_of_three
no_step cell next [] request is = let wrong : Err BadStep ≡ Ok request = is in absurd cc
no_step cell next (last ∷ []) request is = let wrong : Err BadStep ≡ Ok request = is in absurd cc
no_step cell next (last ∷ more ∷ others) request is = let wrong : Err BadStep ≡ Ok request = is in absurd cc

-- a session that sends the words of a step asks for it
words_of_session : (cell : Cell) (session : ℕ) (ws : List (List ℕ)) (request : Request) → step_of_words cell ws ≡ Ok request
    → Step session request ≡ ask_of_session cell session ws
words_of_session cell session [] request is = let wrong : Err BadStep ≡ Ok request = is in absurd cc
words_of_session cell session (first ∷ []) request is = let wrong : Err BadStep ≡ Ok request = is in absurd cc
words_of_session cell session (first ∷ next ∷ rest) request is =
    let all : List (List ℕ) = first ∷ next ∷ rest in
    let goes : bytes_eq first (codes "wait") ≡ false = false_from_ne_true _ (λ same. no_step cell next rest request
    (subst (λ (word : List ℕ). step_of_words cell (word ∷ next ∷ rest) ≡ Ok request) ((bytes_eq-Decides first (codes "wait")).0 same) is)) in
    sym (ap (λ (waits : Bool). if waits then wait_asked cell session (next ∷ rest) else step_asked cell session all) goes
    ∙ ap (λ (read : Result Request StepFault). option_map_or (Step session) (option_or (result_ok read) (placing_of cell all)) Nothing) is)

-- the same of its text
pub step_of_session : (cell : Cell) (session : ℕ) (text : List ℕ) (request : Request) → step_of cell text ≡ Ok request
    → Step session request ≡ ask_of_session cell session (words text)
step_of_session cell session text request is = words_of_session cell session (words text) request (sym (step_is cell text) ∙ is)
