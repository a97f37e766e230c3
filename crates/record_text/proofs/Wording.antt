-- Lines as words, both ways.
use Rattle.std.proofs.Common.{codes, ◌≡◌, ℕ, ◌<◌, ◌^◌, Bool, true, false, ◌==◌, ◌&&◌, ◌+◌, List, [], ◌∷◌, ◌++◌}
use Rattle.std.proofs.Common.{Option, Some, None, Ok, refl, sym, ap, ◌∙◌, subst, inl, inr, arith, lit<}
use Rattle.std.specs.Fmt.{decimal}
use Rattle.std.specs.Prelude.{if◌then◌else◌}
use Rattle.std.specs.Result.{result_ok}
use Rattle.std.specs.Str.{bytes_eq}
use Rattle.std.proofs.lemmas.Fmt.{decimal_digit}
use Rattle.std.proofs.lemmas.Option.{same_Some}
use Rattle.cell_base.specs.declared.cells.Cell.{Cell}
use Rattle.cell_base.specs.declared.cells.TypeId.{TypeId}
use Rattle.cell_base.specs.declared.limits.TheConstants.{MAX_BRANCHES}
use Rattle.cell_base.specs.declared.requests.JobId.{JobId}
use Rattle.cell_base.specs.declared.requests.Request.{Request}
use Rattle.cell_base.specs.declared.requests.Request.TheVariants.{Load, Process, Move, Unload, Place}
use Rattle.cell_base.specs.declared.requests.Told.{Told}
use Rattle.cell_base.specs.declared.shifts.Entry.{Entry}
use Rattle.cell_base.specs.Fits.{CellFits, RequestFits}
use Rattle.cell_base.specs.Named.{resource_name, type_name}
use Rattle.step_text.specs.Steps.{job_number, request_words, step_of_two, step_of_three, step_of_words}
use Rattle.step_text.proofs.Again.{move_again, request_again}
use Rattle.step_text.proofs.Back.{words_back}
use Rattle.record_text.specs.Fitting.{ToldFits}
use Rattle.record_text.specs.Ranges.{ToldInRange, EntryIsWritten, StepIsWritten}
use Rattle.record_text.specs.Lines.{head_words, told_words, entry_words, left_words, plan_words}
use Rattle.record_text.specs.Reading.{Words, after_word, is_end, number_at, two_at, three_at, place_at, told_of}
use Rattle.record_text.specs.Reading.{told_at, told_after, asked_at, entry_at, head_at, left_at, plan_at, step_at}
use Rattle.record_text.proofs.Chains.{bind_some, or_some, ok_some}
use Rattle.record_text.proofs.Requesting.{after_word-sound, after_word-complete, ended-sound, number_at-sound, number_at-complete}
use Rattle.record_text.proofs.Requesting.{IsRead, two_at-sound, three_at-sound, place_at-sound, place_at-complete}
use Rattle.record_text.proofs.Telling.{told_at-sound, told_at-complete}

-- ---- entries

-- a request and what was told of it
record IsAsked (cell : Cell) (ws : Words) (a : Request × Told) : Type 0 where
  text : ws ≡ request_words cell a.0 ++ told_words cell a.1
  fits : RequestFits cell a.0
  job : job_number a.0 < 2 ^ 32
  told : ToldFits cell a.1
  range : ToldInRange a.1

told_after-sound : (cell : Cell) (ws : Words) (o : Option (Request × Words)) (a : Request × Told)
    → ((r : Request × Words) → o ≡ Some r → IsRead cell ws r) → told_after cell o ≡ Some a → IsAsked cell ws a
unfolding told_after
told_after-sound cell ws o a read is =
    let request = bind_some _ o a is in
    let asked = read request.0 request.1 in
    let told = bind_some _ (told_at cell request.0.1) a request.2 in
    let answered = told_at-sound cell request.0.1 told.0 told.1 in
    subst (IsAsked cell ws) (same_Some (request.0.0, told.0) a told.2)
    (record {
      text = asked.text ∙ ap (λ xs. request_words cell request.0.0 ++ xs) answered.text;
      fits = asked.fits;
      job = asked.job;
      told = answered.fits;
      range = answered.range;
    })

asked_at-sound : (cell : Cell) (ws : Words) (a : Request × Told) → asked_at cell ws ≡ Some a → IsAsked cell ws a
unfolding asked_at
asked_at-sound cell ws a is =
    elim (or_some (told_after cell (two_at cell ws)) _ a is) [
      | inl two ↦ told_after-sound cell ws (two_at cell ws) a (two_at-sound cell ws) two
      | inr more ↦ elim (or_some (told_after cell (three_at cell ws)) (told_after cell (place_at cell ws)) a more) [
        | inl three ↦ told_after-sound cell ws (three_at cell ws) a (three_at-sound cell ws) three
        | inr place ↦ told_after-sound cell ws (place_at cell ws) a (place_at-sound cell ws) place
      ]
    ]

-- a line is read as this entry
pub record IsEntry (cell : Cell) (ws : Words) (entry : Entry) : Type 0 where
  pub text : ws ≡ entry_words cell entry
  pub written : EntryIsWritten cell entry

pub entry_at-sound : (cell : Cell) (ws : Words) (entry : Entry) → entry_at cell ws ≡ Some entry → IsEntry cell ws entry
unfolding entry_at
entry_at-sound cell ws entry is =
    let session = bind_some _ (number_at 0 65535 ws) entry is in
    let number = number_at-sound 0 65535 ws session.0 (lit< tt) session.1 in
    let asked = bind_some _ (asked_at cell session.0.1) entry session.2 in
    let read = asked_at-sound cell session.0.1 asked.0 asked.1 in
    subst (IsEntry cell ws) (same_Some _ entry asked.2)
    (record {
      text = number.0 ∙ ap (λ xs. decimal session.0.0 ∷ xs) read.text;
      written = record {
        fits = record { request = read.fits; told = read.told };
        session = omega (arith, number.2);
        job = read.job;
        told = read.range;
      };
    })

-- a word of one byte is none of these that have more
longer : (b c d : ℕ) (ds : List ℕ) → bytes_eq (b ∷ []) (c ∷ d ∷ ds) ≡ false
longer b c d ds = neither (b == c) where
  neither : (t : Bool) → (t && false) ≡ false
  neither true = refl
  neither false = refl

-- what is told begins with no number of a branch
digit_tells_nothing : (cell : Cell) (branch : ℕ) (rest : Words) → branch < 10 → told_of cell (decimal branch) rest ≡ None
unfolding told_of
digit_tells_nothing cell branch rest small =
    rw (
      decimal_digit branch small,
      longer (48 + branch) 103 114 (codes "anted"),
      longer (48 + branch) 114 101 (codes "fused"),
      longer (48 + branch) 104 97 (codes "lted"),
    ) refl

module _ (cell : Cell) (fits : CellFits cell) (told : Told) (known : ToldFits cell told) (range : ToldInRange told) where
  told_again : told_at cell (told_words cell told) ≡ Some told
  told_again = told_at-complete cell told fits known range

  -- a step of two words
  by_two : (verb word : List ℕ) (request : Request) → step_of_two cell verb word ≡ Ok request
      → asked_at cell (verb ∷ word ∷ told_words cell told) ≡ Some (request, told)
  unfolding asked_at two_at told_after
  by_two verb word request is = rw (is, told_again) refl

  -- a step of three words, whose first two are no request of which the third one tells
  by_three : (verb word last : List ℕ) (request : Request) → told_after cell (two_at cell (verb ∷ word ∷ last ∷ told_words cell told))
      ≡ None
      → step_of_three cell verb word last ≡ Ok request → asked_at cell (verb ∷ word ∷ last ∷ told_words cell told) ≡ Some (request, told)
  unfolding asked_at three_at told_after
  by_three verb word last request none is = rw (none, is, told_again) refl

  no_load_of_two : (job name : List ℕ) → told_after cell (two_at cell (codes "load" ∷ job ∷ name ∷ told_words cell told)) ≡ None
  unfolding two_at step_of_two told_after
  no_load_of_two job name = refl

  no_branch_told : (job branch : ℕ) → job < 2 ^ 32 → branch < 10
      → told_after cell (two_at cell (codes "move" ∷ decimal job ∷ decimal branch ∷ told_words cell told)) ≡ None
  unfolding two_at told_after told_at
  no_branch_told job branch small below =
      rw (
        move_again cell fits (record { 0 = job }) 0 true refl (omega arith) small,
        digit_tells_nothing cell branch (told_words cell told) below,
      ) refl

  move_asked : (job : JobId) (branch : ℕ) (first : Bool) → (branch == 0) ≡ first → branch < MAX_BRANCHES → job.0 < 2 ^ 32
      → asked_at cell (codes "move" ∷ decimal job.0 ∷ (if first then [] else decimal branch ∷ []) ++ told_words cell told)
      ≡ Some (Move job branch, told)
  move_asked job branch true is below small =
      by_two (codes "move") (decimal job.0) (Move job branch) (move_again cell fits job branch true is below small)
  move_asked job branch false is below small =
      by_three (codes "move") (decimal job.0) (decimal branch) (Move job branch) (no_branch_told job.0 branch small (omega (arith, below)))
      (move_again cell fits job branch false is below small)

  placed : (job : JobId) (kind : TypeId) (place : ℕ) (done : Bool) → RequestFits cell (Place done kind job place) → job.0 < 2 ^ 32
      → asked_at cell (request_words cell (Place done kind job place) ++ told_words cell told) ≡ Some (Place done kind job place, told)
  unfolding asked_at two_at three_at told_after step_of_two step_of_three
  placed job kind place done standing small =
      rw (place_at-complete cell fits job kind place done (told_words cell told) standing small, told_again) refl

  asked_at-complete : (request : Request) → RequestFits cell request → job_number request < 2 ^ 32
      → asked_at cell (request_words cell request ++ told_words cell told) ≡ Some (request, told)
  asked_at-complete (Load job kind) asked small =
      by_three (codes "load") (decimal job.0) (type_name cell kind.0) (Load job kind)
      (no_load_of_two (decimal job.0) (type_name cell kind.0))
      (request_again cell fits (Load job kind) asked small)
  asked_at-complete (Process machine) asked small =
      by_two (codes "process") (resource_name cell machine.0) (Process machine) (request_again cell fits (Process machine) asked small)
  asked_at-complete (Move job branch) asked small = move_asked job branch (branch == 0) refl asked small
  asked_at-complete (Unload job) asked small =
      by_two (codes "unload") (decimal job.0) (Unload job) (request_again cell fits (Unload job) asked small)
  asked_at-complete (Place done kind job place) asked small = placed job kind place done asked small

pub entry_at-complete : (cell : Cell) → CellFits cell → (entry : Entry) → EntryIsWritten cell entry
    → entry_at cell (entry_words cell entry) ≡ Some entry
unfolding entry_at
entry_at-complete cell fits entry written =
    rw (
      number_at-complete 0 65535 entry.session (request_words cell entry.request ++ told_words cell entry.told) (lit< tt) (omega arith)
          (omega (arith, written.session)),
      asked_at-complete cell fits entry.told written.fits.told written.told entry.request written.fits.request written.job,
    ) refl

-- ---- the other lines

pub head_at-sound : (ws : Words) (r : ℕ × ℕ) → head_at ws ≡ Some r → (ws ≡ head_words r.0 r.1) × (r.0 < 2 ^ 32) × (r.1 < 2 ^ 64)
unfolding head_at
head_at-sound ws r is =
    let key = bind_some _ (after_word (codes "shift") ws) r is in
    let first = after_word-sound (codes "shift") ws key.0 key.1 in
    let shift = bind_some _ (number_at 0 4294967295 key.0) r key.2 in
    let number = number_at-sound 0 4294967295 key.0 shift.0 (lit< tt) shift.1 in
    let other = bind_some _ (after_word (codes "after") shift.0.1) r shift.2 in
    let second = after_word-sound (codes "after") shift.0.1 other.0 other.1 in
    let grants = bind_some _ (number_at 0 18446744073709551615 other.0) r other.2 in
    let counted = number_at-sound 0 18446744073709551615 other.0 grants.0 (lit< tt) grants.1 in
    let end = ended-sound (shift.0.0, grants.0.0) r grants.0.1 grants.2 in
    subst (λ (r : ℕ × ℕ). (ws ≡ head_words r.0 r.1) × (r.0 < 2 ^ 32) × (r.1 < 2 ^ 64)) end.1 (
      first ∙ ap (λ xs. codes "shift" ∷ xs)
          (number.0 ∙ ap (λ xs. decimal shift.0.0 ∷ xs)
          (second ∙ ap (λ xs. codes "after" ∷ xs) (counted.0 ∙ ap (λ xs. decimal grants.0.0 ∷ xs) end.0))),
      omega (arith, number.2),
      omega (arith, counted.2),
    )

pub head_at-complete : (shift after : ℕ) → shift < 2 ^ 32 → after < 2 ^ 64 → head_at (head_words shift after) ≡ Some (shift, after)
unfolding head_at is_end
head_at-complete shift after small short =
    rw (
      after_word-complete (codes "shift") (decimal shift ∷ codes "after" ∷ decimal after ∷ []),
      number_at-complete 0 4294967295 shift (codes "after" ∷ decimal after ∷ []) (lit< tt) (omega arith) (omega (arith, small)),
      after_word-complete (codes "after") (decimal after ∷ []),
      number_at-complete 0 18446744073709551615 after [] (lit< tt) (omega arith) (omega (arith, short)),
    ) refl

pub left_at-sound : (ws : Words) (n : ℕ) → left_at ws ≡ Some n → (ws ≡ left_words n) × (n < 2 ^ 32)
unfolding left_at
left_at-sound ws n is =
    let key = bind_some _ (after_word (codes "left") ws) n is in
    let first = after_word-sound (codes "left") ws key.0 key.1 in
    let left = bind_some _ (number_at 0 4294967295 key.0) n key.2 in
    let number = number_at-sound 0 4294967295 key.0 left.0 (lit< tt) left.1 in
    let end = ended-sound left.0.0 n left.0.1 left.2 in
    subst (λ (n : ℕ). (ws ≡ left_words n) × (n < 2 ^ 32)) end.1
    (first ∙ ap (λ xs. codes "left" ∷ xs) (number.0 ∙ ap (λ xs. decimal left.0.0 ∷ xs) end.0), omega (arith, number.2))

pub left_at-complete : (n : ℕ) → n < 2 ^ 32 → left_at (left_words n) ≡ Some n
unfolding left_at is_end
left_at-complete n small =
    rw (
      after_word-complete (codes "left") (decimal n ∷ []),
      number_at-complete 0 4294967295 n [] (lit< tt) (omega arith) (omega (arith, small)),
    ) refl

pub plan_at-sound : (ws : Words) (n : ℕ) → plan_at ws ≡ Some n → (ws ≡ plan_words n) × (n < 2 ^ 64)
unfolding plan_at
plan_at-sound ws n is =
    let key = bind_some _ (after_word (codes "plan") ws) n is in
    let first = after_word-sound (codes "plan") ws key.0 key.1 in
    let steps = bind_some _ (number_at 0 18446744073709551615 key.0) n key.2 in
    let number = number_at-sound 0 18446744073709551615 key.0 steps.0 (lit< tt) steps.1 in
    let end = ended-sound steps.0.0 n steps.0.1 steps.2 in
    subst (λ (n : ℕ). (ws ≡ plan_words n) × (n < 2 ^ 64)) end.1
    (first ∙ ap (λ xs. codes "plan" ∷ xs) (number.0 ∙ ap (λ xs. decimal steps.0.0 ∷ xs) end.0), omega (arith, number.2))

pub plan_at-complete : (n : ℕ) → n < 2 ^ 64 → plan_at (plan_words n) ≡ Some n
unfolding plan_at is_end
plan_at-complete n small =
    rw (
      after_word-complete (codes "plan") (decimal n ∷ []),
      number_at-complete 0 18446744073709551615 n [] (lit< tt) (omega arith) (omega (arith, small)),
    ) refl

-- ---- steps

-- a line is read as this step
pub record IsStepLine (cell : Cell) (ws : Words) (request : Request) : Type 0 where
  pub text : ws ≡ request_words cell request
  pub written : StepIsWritten cell request

pub step_at-sound : (cell : Cell) (ws : Words) (request : Request) → step_at cell ws ≡ Some request → IsStepLine cell ws request
unfolding step_at
step_at-sound cell ws request is =
    let spells = words_back cell ws request (ok_some (step_of_words cell ws) request is) in
    record { text = sym spells.words; written = record { step = spells.step; job = spells.job } }

pub step_at-complete : (cell : Cell) → CellFits cell → (request : Request) → StepIsWritten cell request
    → step_at cell (request_words cell request) ≡ Some request
unfolding step_at
step_at-complete cell fits request written = ap result_ok (request_again cell fits request written.step written.job)
