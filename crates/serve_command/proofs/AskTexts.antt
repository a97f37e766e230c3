-- A line that asks for a step is the text of it.
use Rattle.std.specs.Prelude.{Result, Ok, Err, codes, if◌then◌else◌, ⊤}
use Rattle.std.specs.Fmt.{decimal}
use Rattle.std.specs.Option.{option_map_or, option_or}
use Rattle.std.specs.Result.{result_ok}
use Rattle.std.specs.Str.{bytes_eq}
use Rattle.std.proofs.Common.{◌≡◌, ℕ, ◌≤◌, Bool, true, false, List, [], ◌∷◌, Option, None, Some}
use Rattle.std.proofs.Common.{length, refl, sym, ap, subst, ◌∙◌, arith}
use Rattle.std.proofs.lemmas.List.Splits.{join_with_byte-slice_split}
use Rattle.cell_base.specs.declared.cells.Cell.{Cell}
use Rattle.cell_base.specs.declared.requests.Request.{Request}
use Rattle.record_text.specs.Reading.{placing_of}
use Rattle.record_text.proofs.Placing.{placing-sound}
use Rattle.step_text.specs.declared.faults.StepFault.{StepFault}
use Rattle.step_text.specs.Steps.{request_words, step_of_words}
use Rattle.step_text.specs.Words.{joined, number_of, words}
use Rattle.step_text.proofs.Back.{words_back}
use Rattle.step_text.proofs.Numerals.{number_back}
use Rattle.serve_command.specs.Asks.{SaysAsk, ask_of_number, ask_of_one, ask_of_session, ask_of_several, ask_of_words}
use Rattle.serve_command.specs.Asks.{asked_jobs, asked_why}
use Rattle.serve_command.specs.Asks.{is_word, job_asked, request_asked, request_of, step_asked, step_waited, wait_asked}
use Rattle.serve_command.specs.declared.asks.Ask.{Ask}
use Rattle.serve_command.specs.declared.asks.Ask.TheVariants.{Step, Cancel, Count, Last, Job, Next, Room, Left, Parts, Nothing}

-- the words that ask for a step are the session and the words of the request
abbrev SaysWords : Cell → List (List ℕ) → Ask → Type 0
SaysWords cell ws (Step session request) = ws ≡ decimal session ∷ request_words cell request
SaysWords cell ws _ = ⊤

module _ (cell : Cell) where
  -- ---- a request

  -- a step that is read, or else a place
  request_words_of : (ws : List (List ℕ)) (read : Result Request StepFault) (request : Request) → step_of_words cell ws ≡ read
      → option_or (result_ok read) (placing_of cell ws) ≡ Some request → ws ≡ request_words cell request
  request_words_of ws (Ok step) request is found =
      let same : step ≡ request = cc in
      sym (words_back cell ws request (is ∙ ap (λ (r : Request). Ok r) same)).words
  request_words_of ws (Err fault) request is found = (placing-sound cell ws request found).0

  -- ---- asks

  -- whichever of two is asked
  either : (ws : List (List ℕ)) (test : Bool) (one other : Ask) → SaysWords cell ws one → SaysWords cell ws other
      → SaysWords cell ws (if test then one else other)
  either ws true one other this that = this
  either ws false one other this that = that

  module _ (session : ℕ) where
    step_says : (rest : List (List ℕ)) (found : Option Request) → request_of cell rest ≡ found
        → SaysWords cell (decimal session ∷ rest) (option_map_or (Step session) found Nothing)
    step_says rest (Some request) is =
        ap (λ (ws : List (List ℕ)). decimal session ∷ ws) (request_words_of rest (step_of_words cell rest) request refl is)
    step_says rest None is = tt

    wait_says : (ws : List (List ℕ)) (read : Result Request StepFault) → SaysWords cell ws (step_waited session read)
    wait_says ws (Ok request) = tt
    wait_says ws (Err fault) = tt

    request_says : (rest : List (List ℕ)) → SaysWords cell (decimal session ∷ rest) (request_asked cell session rest)
    request_says [] = step_says [] (request_of cell []) refl
    request_says (first ∷ []) = step_says (first ∷ []) (request_of cell (first ∷ [])) refl
    request_says (first ∷ next ∷ rest) =
        let all : List (List ℕ) = first ∷ next ∷ rest in
        let ws : List (List ℕ) = decimal session ∷ all in
        either ws (bytes_eq first (codes "wait")) (wait_asked cell session (next ∷ rest)) (step_asked cell session all)
        (wait_says ws (step_of_words cell (next ∷ rest))) (step_says all (request_of cell all) refl)

    session_says : (rest : List (List ℕ)) → SaysWords cell (decimal session ∷ rest) (ask_of_session cell session rest)
    session_says rest =
        let ws : List (List ℕ) = decimal session ∷ rest in
        either ws (is_word (codes "grants") rest) (Count session) _ tt
        (either ws (is_word (codes "last") rest) (Last session) _ tt
        (either ws (is_word (codes "cancel") rest) (Cancel session) _ tt (request_says rest)))

  number_says : (word : List ℕ) (rest : List (List ℕ)) (number : Option ℕ) → number_of 1 65535 word ≡ number
      → SaysWords cell (word ∷ rest) (ask_of_number cell number rest)
  number_says word rest (Some session) is =
      subst (λ (w : List ℕ). SaysWords cell (w ∷ rest) (ask_of_session cell session rest))
      (number_back 1 65535 session word (omega arith) is).text (session_says session rest)
  number_says word rest None is = tt

  why_says : (ws : List (List ℕ)) (read : Result Request StepFault) → SaysWords cell ws (asked_why read)
  why_says ws (Ok request) = tt
  why_says ws (Err fault) = tt

  jobs_says : (ws : List (List ℕ)) (read : Result Request StepFault) → SaysWords cell ws (asked_jobs read)
  jobs_says ws (Ok request) = tt
  jobs_says ws (Err fault) = tt

  job_of_says : (ws : List (List ℕ)) (number : Option ℕ)
      → SaysWords cell ws (option_map_or (λ job. Job (record { 0 = job })) number Nothing)
  job_of_says ws (Some job) = tt
  job_of_says ws None = tt

  job_says : (ws rest : List (List ℕ)) → SaysWords cell ws (job_asked rest)
  job_says ws [] = tt
  job_says ws (word ∷ []) = job_of_says ws (number_of 0 4294967295 word)
  job_says ws (word ∷ next ∷ rest) = tt

  one_says : (ws : List (List ℕ)) (word : List ℕ) → SaysWords cell ws (ask_of_one word)
  one_says ws word =
      either ws (bytes_eq word (codes "left")) Left _ tt
      (either ws (bytes_eq word (codes "next")) Next _ tt
      (either ws (bytes_eq word (codes "room")) Room _ tt
      (either ws (bytes_eq word (codes "parts")) Parts Nothing tt tt)))

  several_says : (word : List ℕ) (rest : List (List ℕ)) → SaysWords cell (word ∷ rest) (ask_of_several cell word rest)
  several_says word rest =
      let ws : List (List ℕ) = word ∷ rest in
      either ws (bytes_eq word (codes "why")) _ _ (why_says ws (step_of_words cell rest))
      (either ws (bytes_eq word (codes "jobs")) _ _ (jobs_says ws (step_of_words cell rest))
      (either ws (bytes_eq word (codes "job")) (job_asked rest) _ (job_says ws rest) (number_says word rest (number_of 1 65535 word) refl)))

  words_say : (ws : List (List ℕ)) → SaysWords cell ws (ask_of_words cell ws)
  words_say [] = tt
  words_say (word ∷ []) = one_says (word ∷ []) word
  words_say (word ∷ next ∷ rest) = several_says word (next ∷ rest)

  -- ---- a line

  line_says : (line : List ℕ) (ask : Ask) → length line ≤ 66 → SaysWords cell (words line) ask → SaysAsk cell line ask
  line_says line (Step session request) short says =
      record { is = sym (join_with_byte-slice_split 32 line) ∙ ap joined says; short = omega (arith, short) }
  line_says line _ short says = tt

  -- a line that is short enough, by its words
  pub says_ask : (line : List ℕ) → length line ≤ 66 → SaysAsk cell line (ask_of_words cell (words line))
  says_ask line short = line_says line (ask_of_words cell (words line)) short (words_say (words line))
