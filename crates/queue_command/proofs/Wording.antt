-- A line of a record, and the same line with another word.
use Rattle.std.proofs.Common.{codes, ◌≡◌, ℕ, ◌+◌, ◌-◌, List, [], ◌∷◌, ◌++◌, length, take, drop, refl, sym, ◌∙◌, ap, arith}
use Rattle.std.specs.Fmt.{decimal}
use Rattle.std.proofs.lemmas.List.{append_assoc, length-append}
use Rattle.std.proofs.Math.Seq.{take-append_seam}
use Rattle.cell_base.specs.declared.cells.Cell.{Cell}
use Rattle.cell_base.specs.declared.requests.Refusal.{Refusal}
use Rattle.cell_base.specs.declared.requests.Reply.{Reply}
use Rattle.cell_base.specs.declared.requests.Reply.TheVariants.{Granted, Refused}
use Rattle.cell_base.specs.declared.requests.Request.{Request}
use Rattle.cell_base.specs.declared.requests.Told.TheVariants.{Answered}
use Rattle.step_text.specs.Steps.{request_words}
use Rattle.step_text.specs.Words.{joined}
use Rattle.record_text.specs.Lines.{line_of, told_words, why_words}
use Rattle.record_text.proofs.Appending.{line_parted}
use Rattle.queue_command.specs.Lines.{asked_line, reason_words}

-- the first words
first_part : (whole first behind : List ℕ) (n : ℕ) → whole ≡ first ++ 32 ∷ behind → n ≡ length whole - length behind - 1
    → take n whole ≡ first
first_part whole first behind n is at =
    let long = ap length is ∙ length-append first (32 ∷ behind) in
    let same : n ≡ length first = omega (arith, at, long) in
    ap (λ k. take k whole) same ∙ ap (take (length first)) is ∙ take-append_seam first (32 ∷ behind)

module _ (cell : Cell) (session : ℕ) (request : Request) where
  abbrev asked : List ℕ
  asked = joined (decimal session ∷ request_words cell request)

  -- the line of a record with this reply
  abbrev recorded : Reply → List ℕ
  recorded reply = line_of (decimal session ∷ request_words cell request ++ told_words cell (Answered reply))

  abbrev replied : Reply → List ℕ
  replied reply = line_of (told_words cell (Answered reply))

  recorded_parted : (reply : Reply) → recorded reply ≡ asked ++ 32 ∷ replied reply
  recorded_parted Granted = line_parted (decimal session) (request_words cell request) (codes "granted") []
  recorded_parted (Refused why) = line_parted (decimal session) (request_words cell request) (codes "refused") (why_words cell why)

  module _ (reply : Reply) (one two three begun : List ℕ) (one_is : one ≡ recorded reply) (two_is : two ≡ replied reply)
      (three_is : three ≡ recorded reply) (begun_is : begun ≡ take (length one - length two - 1) three) where
    begins_asked : begun ≡ asked
    begins_asked =
        begun_is ∙ ap (take (length one - length two - 1)) three_is
        ∙ first_part (recorded reply) asked (replied reply) (length one - length two - 1) (recorded_parted reply)
        (omega (arith, ap length one_is, ap length two_is))

    module _ (word worded closed : List ℕ) (worded_is : worded ≡ begun ++ 32 ∷ word) where
      worded_asked : worded ≡ asked ++ 32 ∷ word
      worded_asked = worded_is ∙ ap (λ bytes. bytes ++ 32 ∷ word) begins_asked

      -- of a grant
      pub line_of_grant : reply ≡ Granted → closed ≡ worded ++ 10 ∷ []
          → closed ≡ asked_line cell session request (word ∷ reason_words cell reply)
      line_of_grant is closed_is =
          closed_is ∙ ap (λ bytes. bytes ++ 10 ∷ []) worded_asked ∙ append_assoc asked (32 ∷ word) (10 ∷ [])
          ∙ sym (line_parted (decimal session) (request_words cell request) word [])
          ∙ ap (λ reply. asked_line cell session request (word ∷ reason_words cell reply)) (sym is)

      -- of a refusal
      module _ (why : Refusal) (four five reason line : List ℕ) (is : reply ≡ Refused why) (four_is : four ≡ replied reply)
          (five_is : five ≡ replied reply) (reason_is : reason ≡ take (length five - 1 - 8) (drop 8 four)) where
        -- what stands after the word is the text of the reason
        reason_text : reason ≡ joined (why_words cell why)
        reason_text =
            let words = why_words cell why in
            let behind : drop 8 (line_of (codes "refused" ∷ words)) ≡ joined words ++ 10 ∷ [] = refl in
            let long : length (line_of (codes "refused" ∷ words)) ≡ 8 + length (joined words ++ 10 ∷ []) = omega arith in
            let end = length-append (joined words) (10 ∷ []) in
            let n : length five - 1 - 8 ≡ length (joined words) = omega (arith, ap length (five_is ∙ ap replied is), long, end) in
            reason_is ∙ ap (λ k. take k (drop 8 four)) n ∙ ap (λ bytes. take (length (joined words)) (drop 8 bytes)) (four_is ∙ ap replied is)
            ∙ ap (take (length (joined words))) behind ∙ take-append_seam (joined words) (10 ∷ [])

        pub line_of_refusal : line ≡ worded ++ 32 ∷ reason → closed ≡ line ++ 10 ∷ []
            → closed ≡ asked_line cell session request (word ∷ reason_words cell reply)
        line_of_refusal line_is closed_is =
            let text = joined (why_words cell why) in
            let made : closed ≡ ((asked ++ 32 ∷ word) ++ 32 ∷ text) ++ 10 ∷ [] =
            closed_is ∙ ap (λ bytes. bytes ++ 10 ∷ []) (line_is ∙ ap (λ bytes. bytes ++ 32 ∷ reason) worded_asked
            ∙ ap (λ bytes. (asked ++ 32 ∷ word) ++ 32 ∷ bytes) reason_text) in
            made ∙ ap (λ bytes. bytes ++ 10 ∷ []) (append_assoc asked (32 ∷ word) (32 ∷ text))
            ∙ append_assoc asked (32 ∷ word ++ 32 ∷ text) (10 ∷ [])
            ∙ sym (line_parted (decimal session) (request_words cell request) word (why_words cell why))
            ∙ ap (λ reply. asked_line cell session request (word ∷ reason_words cell reply)) (sym is)
