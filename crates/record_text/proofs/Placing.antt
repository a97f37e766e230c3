-- The words of a placed part, both ways.
use Rattle.std.proofs.Common.{codes, ◌≡◌, ℕ, ◌<◌, ◌^◌, Bool, [], ◌++◌, Option, None, Some, refl, sym, ap, ◌∙◌, subst, append-nil, rules}
use Rattle.std.specs.Prelude.{IfSome}
use Rattle.std.proofs.lemmas.Option.{cond_some}
use Rattle.cell_base.specs.declared.cells.Cell.{Cell}
use Rattle.cell_base.specs.declared.cells.TypeId.{TypeId}
use Rattle.cell_base.specs.declared.requests.JobId.{JobId}
use Rattle.cell_base.specs.declared.requests.Reply.TheVariants.{Granted}
use Rattle.cell_base.specs.declared.requests.Request.{Request}
use Rattle.cell_base.specs.declared.requests.Request.TheVariants.{Load, Process, Move, Unload, Place}
use Rattle.cell_base.specs.declared.requests.Told.TheVariants.{Answered}
use Rattle.cell_base.specs.declared.shifts.Entry.{Entry}
use Rattle.cell_base.specs.Fits.{CellFits, RequestFits}
use Rattle.step_text.specs.Words.{words, joined}
use Rattle.step_text.specs.Steps.{job_number, request_words}
use Rattle.record_text.specs.Reading.{Words, after_word, done_at, is_end, number_at, place_at, place_fits, placing_of, type_at}
use Rattle.record_text.specs.Ranges.{EntryIsWritten}
use Rattle.record_text.proofs.Chains.{bind_some}
use Rattle.record_text.proofs.Plain.{ArePlain, IsLine-joined, plain_again, plain_entry}
use Rattle.record_text.proofs.Requesting.{ended-sound, place_at-complete, place_at-sound}
use Rattle.record_text.proofs.Splitting.{IsLine}
use Rattle.record_text.specs.StartFiles.{IsPlacing}

-- a request is a place
record IsPlace (request : Request) : Type 0 where
  job : JobId
  kind : TypeId
  place : ℕ
  done : Bool
  is : request ≡ Place done kind job place

-- what is read as a place is one
place_is : (cell : Cell) (ws : Words) (r : Request × Words) → place_at cell ws ≡ Some r → IsPlace r.0
unfolding place_at
place_is cell ws r is =
    let verb = bind_some _ (after_word (codes "place") ws) r is in
    let job = bind_some _ (number_at 0 4294967295 verb.0) r verb.2 in
    let kind = bind_some _ (type_at cell job.0.1) r job.2 in
    let place = bind_some _ (number_at 0 65535 kind.0.1) r kind.2 in
    let done = bind_some _ (done_at place.0.1) r place.2 in
    let test = cond_some (place_fits cell kind.0.0 place.0.0 done.0.0) _ r done.2 in
    record {
      job = record { 0 = job.0.0 };
      kind = record { 0 = kind.0.0 };
      place = place.0.0;
      done = done.0.0;
      is = ap (λ (r : Request × Words). r.0) (sym test.1);
    }

-- such a request that fits, with a job of 32 bits
placing_so : (cell : Cell) (request : Request) → IsPlace request → RequestFits cell request → job_number request < 2 ^ 32
    → IsPlacing cell request
placing_so cell request place fits small =
    subst (IsPlacing cell) (sym place.is)
    (subst (RequestFits cell) place.is fits, subst (λ (r : Request). job_number r < 2 ^ 32) place.is small)

pub placing-sound : (cell : Cell) (ws : Words) (request : Request) → placing_of cell ws ≡ Some request
    → (ws ≡ request_words cell request) × IsPlacing cell request
unfolding placing_of
placing-sound cell ws request is =
    let read = bind_some _ (place_at cell ws) request is in
    let at = place_at-sound cell ws read.0 read.1 in
    let end = ended-sound read.0.0 request read.0.1 read.2 in
    subst (λ (r : Request). (ws ≡ request_words cell r) × IsPlacing cell r) end.1 (
      at.text ∙ ap (λ (rest : Words). request_words cell read.0.0 ++ rest) end.0 ∙ append-nil (request_words cell read.0.0),
      placing_so cell read.0.0 (place_is cell ws read.0 read.1) at.fits at.job,
    )

placing_is_fit : (cell : Cell) (request : Request) → IsPlacing cell request → RequestFits cell request
placing_is_fit cell (Place done kind job place) placing = placing.0
placing_is_fit cell (Load job kind) placing = absurd placing
placing_is_fit cell (Process machine) placing = absurd placing
placing_is_fit cell (Move job branch) placing = absurd placing
placing_is_fit cell (Unload job) placing = absurd placing

-- what is read fits the cell
pub placed_fits : (cell : Cell) (ws : Words) (read : Option Request) → read ≡ placing_of cell ws → IfSome read (RequestFits cell)
placed_fits cell ws None is = tt
placed_fits cell ws (Some request) is = placing_is_fit cell request (placing-sound cell ws request (sym is)).1

pub placing-complete : (cell : Cell) → CellFits cell → (request : Request) → IsPlacing cell request
    → placing_of cell (request_words cell request) ≡ Some request
unfolding placing_of is_end
placing-complete cell fits (Place done kind job place) placing =
    rw (place_at-complete cell fits job kind place done [] placing.0 placing.1) refl
placing-complete cell fits (Load job kind) placing = absurd placing
placing-complete cell fits (Process machine) placing = absurd placing
placing-complete cell fits (Move job branch) placing = absurd placing
placing-complete cell fits (Unload job) placing = absurd placing

-- ---- lines without their newlines

plain_placing : (cell : Cell) → CellFits cell → (request : Request) → IsPlacing cell request → ArePlain (request_words cell request)
plain_placing cell fits (Place done kind job place) placing =
    let entry : Entry = record { session = 0; request = Place done kind job place; told = Answered Granted } in
    let written : EntryIsWritten cell entry = record {
      fits = record { request = placing.0; told = tt };
      session = search rules;
      job = placing.1;
      told = tt;
    } in
    let plain = plain_entry cell fits entry written in
    (plain.1.0, (plain.1.1.0, (plain.1.1.1.0, (plain.1.1.1.1.0, (plain.1.1.1.1.1.0, tt)))))
plain_placing cell fits (Load job kind) placing = absurd placing
plain_placing cell fits (Process machine) placing = absurd placing
plain_placing cell fits (Move job branch) placing = absurd placing
plain_placing cell fits (Unload job) placing = absurd placing

module _ (cell : Cell) (fits : CellFits cell) (request : Request) (placing : IsPlacing cell request) where
  pub is_line : IsLine (joined (request_words cell request))
  is_line = IsLine-joined (request_words cell request) (plain_placing cell fits request placing)

  pub words_again : words (joined (request_words cell request)) ≡ request_words cell request
  words_again = plain_again _ _ (plain_placing cell fits request placing)
