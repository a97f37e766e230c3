-- The words of the lines have neither spaces nor newlines.
use Rattle.std.proofs.Common.{codes, ◌≡◌, ℕ, ◌<◌, ◌^◌, Bool, true, false, nat_lt, List, [], ◌∷◌, ◌++◌, get_or, refl, arith, ltb-true}
use Rattle.std.specs.Prelude.{if◌then◌else◌, IsTrue}
use Rattle.std.specs.List.{All, list_all}
use Rattle.std.specs.Fmt.{decimal}
use Rattle.std.proofs.lemmas.Bool.{ne_eqb}
use Rattle.std.proofs.lemmas.Bool.Decides.{nat_tests}
use Rattle.std.proofs.lemmas.Fmt.{decimal_is_IsNumeral}
use Rattle.std.proofs.lemmas.List.{get_or_default}
use Rattle.std.proofs.lemmas.List.Elements.{All-nil, All-cons, All-append, All-weaker}
use Rattle.std.proofs.lemmas.List.Sums.{AllPass-from_list_all}
use Rattle.std.proofs.lemmas.Str.Parse.{digit_at}
use Rattle.cell_base.specs.declared.cells.Cell.{Cell}
use Rattle.cell_base.specs.declared.requests.Request.{Request}
use Rattle.cell_base.specs.declared.requests.Request.TheVariants.{Load, Process, Move, Unload, Place}
use Rattle.cell_base.specs.declared.requests.Refusal.{Refusal}
use Rattle.cell_base.specs.declared.requests.Refusal.TheVariants.{Saturated}
use Rattle.cell_base.specs.declared.requests.Reply.TheVariants.{Granted, Refused}
use Rattle.cell_base.specs.declared.requests.Told.{Told}
use Rattle.cell_base.specs.declared.requests.Told.TheVariants.{Answered, Halted}
use Rattle.cell_base.specs.declared.shifts.Entry.{Entry}
use Rattle.cell_base.specs.Names.{IsName, is_name_byte}
use Rattle.cell_base.specs.Fits.{CellFits, RequestFits}
use Rattle.step_text.specs.Words.{is_space, words, joined}
use Rattle.step_text.specs.Steps.{job_number, request_words, done_word}
use Rattle.step_text.proofs.Joined.{IsWord, words_again}
use Rattle.step_text.proofs.Naming.{resource_named, type_named}
use Rattle.record_text.specs.BadLines.{is_newline}
use Rattle.record_text.specs.Fitting.{RefusalFits, ToldFits}
use Rattle.record_text.specs.Ranges.{RefusalInRange, ToldInRange, EntryIsWritten, StepIsWritten}
use Rattle.record_text.specs.Lines.{head_words, why_words, told_words, entry_words, left_words, plan_words}
use Rattle.record_text.specs.RefusalWords.{refusal_word}
use Rattle.record_text.proofs.Requesting.{stage_is_small, step_fits}
use Rattle.record_text.proofs.Splitting.{IsLine}

-- a byte after the space
abbrev pub IsPrinted : ℕ → Type 0
IsPrinted b = 32 < b

abbrev pub IsPlain : List ℕ → Type 0
IsPlain word = All IsPrinted word

abbrev pub ArePlain : List (List ℕ) → Type 0
ArePlain [] = Unit {0}
ArePlain (word ∷ ws) = IsPlain word × ArePlain ws

both : (xs ys : List (List ℕ)) → ArePlain xs → ArePlain ys → ArePlain (xs ++ ys)
both [] ys front back = back
both (x ∷ xs) ys front back = (front.0, both xs ys front.1 back)

-- ---- words

-- a word that is written out
pub key : (word : List ℕ) → list_all (λ b. nat_lt 32 b) word ≡ true → IsPlain word
key word test = λ k d within. ltb-true 32 (get_or word k d) (AllPass-from_list_all (λ b. nat_lt 32 b) word test k d within)

pub plain_decimal : (n : ℕ) → n < 2 ^ 64 → IsPlain (decimal n)
plain_decimal n small = λ k d within.
    let digit = digit_at (decimal n) k (decimal_is_IsNumeral n small).0.1 within in
    omega (arith, digit.0, get_or_default (decimal n) k d 0 within)

name_byte : (b : ℕ) → IsTrue (is_name_byte b) → IsPrinted b
name_byte b is = grind (arith, nat_tests)

pub plain_name : (name : List ℕ) → IsName name → IsPlain name
plain_name name is = All-weaker (λ b. IsTrue (is_name_byte b)) IsPrinted name_byte name is.spelled

job : (n : ℕ) → n < 2 ^ 32 → IsPlain (decimal n)
job n small = plain_decimal n (omega (arith, small))

branch : (n : ℕ) (first : Bool) → n < 8 → ArePlain (if first then [] else decimal n ∷ [])
branch n true small = tt
branch n false small = (plain_decimal n (omega (arith, small)), tt)

plain_done : (done : Bool) → IsPlain (done_word done)
plain_done true = key (codes "done") refl
plain_done false = key (codes "waiting") refl

-- ---- the words of lines

module _ (cell : Cell) (fits : CellFits cell) where
  plain_request : (request : Request) → RequestFits cell request → job_number request < 2 ^ 32 → ArePlain (request_words cell request)
  plain_request (Load n kind) asked small =
      (key (codes "load") refl, (job n.0 small, (plain_name _ (type_named cell fits kind.0 asked), tt)))
  plain_request (Process machine) asked small =
      (key (codes "process") refl, (plain_name _ (resource_named cell fits machine.0 asked), tt))
  plain_request (Move n b) asked small = (key (codes "move") refl, (job n.0 small, branch b _ asked))
  plain_request (Unload n) asked small = (key (codes "unload") refl, (job n.0 small, tt))
  plain_request (Place done kind n place) asked small =
      let is_small = stage_is_small cell fits kind.0 place asked.0 in (
        key (codes "place") refl,
        (
          job n.0 small,
          (
            plain_name _ (type_named cell fits kind.0 is_small.kind),
            (plain_decimal place (omega (arith, is_small.place)), (plain_done done, tt)),
          ),
        ),
      )

  plain_why : (why : Refusal) → RefusalFits cell why → RefusalInRange why → ArePlain (why_words cell why)
  plain_why (Saturated at count capacity) known range = (
    key (codes "saturated") refl,
    (
      plain_name _ (resource_named cell fits at.0 known),
      (job count range.0, (key (codes "of") refl, (job capacity range.1, tt))),
    ),
  )
  plain_why why known range = (key (refusal_word why) refl, tt)

  plain_told : (told : Told) → ToldFits cell told → ToldInRange told → ArePlain (told_words cell told)
  plain_told (Answered Granted) known range = (key (codes "granted") refl, tt)
  plain_told (Answered (Refused why)) known range = (key (codes "refused") refl, plain_why why known range)
  plain_told Halted known range = (key (codes "halted") refl, tt)

  pub plain_entry : (entry : Entry) → EntryIsWritten cell entry → ArePlain (entry_words cell entry)
  plain_entry entry written = (
    plain_decimal entry.session (omega (arith, written.session)),
    both (request_words cell entry.request) (told_words cell entry.told)
        (plain_request entry.request written.fits.request written.job) (plain_told entry.told written.fits.told written.told),
  )

  pub plain_step : (step : Request) → StepIsWritten cell step → ArePlain (request_words cell step)
  plain_step step written = plain_request step (step_fits cell step written.step) written.job

pub plain_head : (shift after : ℕ) → shift < 2 ^ 32 → after < 2 ^ 64 → ArePlain (head_words shift after)
plain_head shift after small short =
    (key (codes "shift") refl, (job shift small, (key (codes "after") refl, (plain_decimal after short, tt))))

pub plain_left : (n : ℕ) → n < 2 ^ 32 → ArePlain (left_words n)
plain_left n small = (key (codes "left") refl, (job n small, tt))

pub plain_plan : (n : ℕ) → n < 2 ^ 64 → ArePlain (plan_words n)
plain_plan n small = (key (codes "plan") refl, (plain_decimal n small, tt))

-- ---- joined words

lacks_space : (word : List ℕ) → IsPlain word → IsWord word
lacks_space word plain = All-weaker IsPrinted (λ b. is_space b ≡ false)
    (λ b printed. ne_eqb b 32 (λ e. omega (arith, printed, e))) word plain

lacks_newline : (word : List ℕ) → IsPlain word → IsLine word
lacks_newline word plain =
    All-weaker IsPrinted (λ b. is_newline b ≡ false) (λ b printed. ne_eqb b 10 (λ e. omega (arith, printed, e))) word plain

-- words that are joined are a line
pub IsLine-joined : (ws : List (List ℕ)) → ArePlain ws → IsLine (joined ws)
IsLine-joined [] are = All-nil (λ b. is_newline b ≡ false)
IsLine-joined (word ∷ []) are = lacks_newline word are.0
IsLine-joined (word ∷ next ∷ ws) are =
    All-append (λ b. is_newline b ≡ false) word (32 ∷ joined (next ∷ ws)) (lacks_newline word are.0)
    (All-cons (λ b. is_newline b ≡ false) 32 (joined (next ∷ ws)) refl (IsLine-joined (next ∷ ws) are.1))

each_lacks : (ws : List (List ℕ)) → ArePlain ws → All IsWord ws
each_lacks [] are = All-nil IsWord
each_lacks (word ∷ ws) are = All-cons IsWord word ws (lacks_space word are.0) (each_lacks ws are.1)

-- and are split into themselves
pub plain_again : (word : List ℕ) (ws : List (List ℕ)) → ArePlain (word ∷ ws) → words (joined (word ∷ ws)) ≡ word ∷ ws
plain_again word ws are = words_again word ws (lacks_space word are.0) (each_lacks ws are.1)
