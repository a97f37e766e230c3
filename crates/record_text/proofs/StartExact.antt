-- The reading of a start file is exact.
use Rattle.std.proofs.Common.{◌≡◌, ◌⊎◌, inl, inr, ℕ, ◌+◌, ◌<◌, ◌≤◌, Bool, true, false, cond, ◌==◌, nat_lt, List}
use Rattle.std.proofs.Common.{[], ◌∷◌, ◌++◌, length, Option, Some, None, Result, Ok, Err, IfOk, IfErr, refl, sym}
use Rattle.std.proofs.Common.{ap, ◌∙◌, subst, arith, eqb-true, ne_eqb, ltb-true, append_assoc, append-nil}
use Rattle.std.specs.List.{All, join_with_byte}
use Rattle.std.specs.Option.{option_map_or}
use Rattle.std.proofs.lemmas.Bool.{true≢false}
use Rattle.std.proofs.lemmas.List.{length-append}
use Rattle.std.proofs.lemmas.List.Concat.{flat_map-append}
use Rattle.std.proofs.lemmas.List.Elements.{All-nil, All-cons, All-append, All-head}
use Rattle.std.proofs.lemmas.List.Splits.{slice_split_at}
use Rattle.cell_base.specs.declared.cells.Cell.{Cell}
use Rattle.cell_base.specs.declared.requests.Request.{Request}
use Rattle.cell_base.specs.Fits.{CellFits}
use Rattle.step_text.specs.Words.{words, joined}
use Rattle.step_text.specs.Steps.{request_words}
use Rattle.record_text.specs.BadLines.{is_newline, pieces}
use Rattle.record_text.specs.declared.record.RecordFault.{RecordFault}
use Rattle.record_text.specs.declared.record.RecordFault.TheVariants.{Bad, Memory}
use Rattle.record_text.proofs.Ending.{same_Ok, same_Err}
use Rattle.record_text.proofs.Pieces.{pieces_lines, pieces_some}
use Rattle.record_text.proofs.Splitting.{IsLine, joined-pieces, joined-words}
use Rattle.record_text.specs.declared.start.TheConstants.{MAX_START_BYTES, MAX_START_LINES}
use Rattle.record_text.specs.Reading.{placing_of}
use Rattle.record_text.specs.StartLines.{GivesStart, next_request, read_from}
use Rattle.record_text.specs.StartFiles.{IsBadStartLine, IsPlacing, IsStartOf, StartRefusedAt, place_line, start_reads, start_text}
use Rattle.record_text.proofs.StartLines.{first_piece, next_is, read_all, read_cons}
use Rattle.record_text.proofs.Placing.{placing-sound}

same_rest : (line : List ℕ) (one other : List (List ℕ)) → line ∷ one ≡ line ∷ other → one ≡ other
same_rest line one other is = cc

module _ (cell : Cell) (fits : CellFits cell) where
  abbrev line : Request → List ℕ
  line request = joined (request_words cell request)

  -- ---- what is so, is read so

  pub read_start : (bytes : List ℕ) (requests : List Request) → IsStartOf cell bytes requests
      → read_from cell [] (pieces bytes) ≡ Ok requests
  read_start bytes requests is =
      ap (λ (text : List ℕ). read_from cell [] (pieces text)) (is.text ∙ sym (append-nil (start_text cell requests)))
      ∙ read_all cell fits [] requests [] is.placing (omega (arith, is.few))

  -- where nothing that begins with a line of a request stands, reading stops
  stops : (before : List Request) (rest : List ℕ) → 1 ≤ length rest
      → (length before < MAX_START_LINES → (request : Request) (more : List ℕ) → IsPlacing cell request
      → rest ≡ place_line cell request ++ more → ⊥)
      → (piece : List ℕ) (others : List (List ℕ)) → pieces rest ≡ piece ∷ others
      → read_from cell before (pieces rest) ≡ Err (length before + 1)
  stops before rest some bad piece [] are =
      let is : piece ≡ rest = sym (ap (join_with_byte 10) are) ∙ joined-pieces rest in
      ap (read_from cell before) are
      ∙ ap (λ (b : Bool). cond {A = Result (List Request) ℕ} b (Ok before) (Err (length before + 1)))
      (ne_eqb (length piece) 0 (λ none. omega (arith, some, none, ap length is)))
  stops before rest some bad piece (next ∷ more) are =
      ap (read_from cell before) are ∙ read_cons cell before piece next more None (none (nat_lt (length before) MAX_START_LINES) refl)
    where
      unread : (o : Option Request) → placing_of cell (words piece) ≡ o → length before < MAX_START_LINES → o ≡ None
      unread None is room = refl
      unread (Some request) is room =
          let sound = placing-sound cell (words piece) request is in
          let same : piece ≡ line request = sym (joined-words piece) ∙ ap joined sound.0 in
          absurd (bad room request (join_with_byte 10 (next ∷ more)) sound.1
          (sym (joined-pieces rest) ∙ ap (join_with_byte 10) are
          ∙ ap (λ (l : List ℕ). l ++ 10 ∷ join_with_byte 10 (next ∷ more)) same
          ∙ sym (append_assoc (line request) (10 ∷ []) (join_with_byte 10 (next ∷ more)))))

      none : (room : Bool) → nat_lt (length before) MAX_START_LINES ≡ room → next_request cell before piece ≡ None
      none true is =
          ap (λ (b : Bool). cond b (placing_of cell (words piece)) None) is
          ∙ unread (placing_of cell (words piece)) refl (ltb-true (length before) MAX_START_LINES is)
      none false is = ap (λ (b : Bool). cond b (placing_of cell (words piece)) None) is

  pub read_bad : (bytes : List ℕ) (n : ℕ) → IsBadStartLine cell bytes n → read_from cell [] (pieces bytes) ≡ Err n
  read_bad bytes n is =
      let some = pieces_some is.rest in
      ap (λ (text : List ℕ). read_from cell [] (pieces text)) is.text
      ∙ read_all cell fits [] is.before is.rest is.placing (omega (arith, is.few))
      ∙ stops is.before is.rest is.some is.bad some.0 some.1 some.2
      ∙ ap Err (sym is.number)

  -- ---- what is read so, is so

  -- the lines of these requests stand before the rest
  record IsFront (bytes : List ℕ) (found : List Request) (rest : List ℕ) : Type 0 where
    placing : All (IsPlacing cell) found
    few : length found ≤ MAX_START_LINES
    text : bytes ≡ start_text cell found ++ rest

  nothing : (xs : List ℕ) → (length xs == 0) ≡ true → xs ≡ []
  nothing [] is = refl
  nothing (x ∷ xs) is = absurd (let none = eqb-true (length (x ∷ xs)) 0 is in omega (arith, none))

  -- no line is read of the rest
  bad_line : (bytes : List ℕ) (found : List Request) (rest : List ℕ) → IsFront bytes found rest → 1 ≤ length rest
      → (piece : List ℕ) (others : List (List ℕ)) → pieces rest ≡ piece ∷ others
      → (1 ≤ length others → next_request cell found piece ≡ None) → IsBadStartLine cell bytes (length found + 1)
  bad_line bytes found rest front some piece others are unread = record {
    before = found;
    rest = rest;
    placing = front.placing;
    few = front.few;
    text = front.text;
    number = refl;
    some = some;
    bad = λ room request more placing is.
        let behind = pieces_some more in
        let both : line request ∷ behind.0 ∷ behind.1 ≡ piece ∷ others =
        ap (λ (ps : List (List ℕ)). line request ∷ ps) (sym behind.2) ∙ sym (first_piece cell fits request more placing)
        ∙ ap pieces (sym is) ∙ are in
        let same : line request ≡ piece = cc in
        let rest_is : behind.0 ∷ behind.1 ≡ others = cc in
        let none : Some request ≡ None = sym (next_is cell fits found request placing room) ∙ ap (next_request cell found) same
        ∙ unread (omega (arith, ap length rest_is)) in
        absurd cc;
  }

  -- how the answer tells the bytes
  abbrev Tells : List ℕ → Result (List Request) ℕ → Type 0
  Tells bytes (Ok requests) = IsFront bytes requests []
  Tells bytes (Err n) = IsBadStartLine cell bytes n

  one_more : (bytes : List ℕ) (found : List Request) (rest : List ℕ) (request : Request) (more : List ℕ) → IsFront bytes found rest
      → length found < MAX_START_LINES → IsPlacing cell request → rest ≡ place_line cell request ++ more
      → IsFront bytes (found ++ request ∷ []) more
  one_more bytes found rest request more front room placing is = record {
    placing = All-append (IsPlacing cell) found (request ∷ []) front.placing
        (All-cons (IsPlacing cell) request [] placing (All-nil (IsPlacing cell)));
    few = omega (arith, room, length-append found (request ∷ []));
    text = front.text ∙ ap (λ (text : List ℕ). start_text cell found ++ text) is
        ∙ sym (append_assoc (start_text cell found) (place_line cell request) more)
        ∙ ap (λ (text : List ℕ). text ++ more)
        (ap (λ (text : List ℕ). start_text cell found ++ text) (sym (append-nil (place_line cell request)))
        ∙ sym (flat_map-append (place_line cell) found (request ∷ [])));
  }

  tells : (bytes : List ℕ) (found : List Request) (rest : List ℕ) (ps : List (List ℕ)) → pieces rest ≡ ps → IsFront bytes found rest
      → Tells bytes (read_from cell found ps)
  tells bytes found rest [] are front = absurd (let some = pieces_some rest in let none = sym are ∙ some.2 in cc)
  tells bytes found rest (piece ∷ []) are front = by_end (length piece == 0) refl
    where
      is : piece ≡ rest
      is = sym (ap (join_with_byte 10) are) ∙ joined-pieces rest

      by_end : (whole : Bool) → (length piece == 0) ≡ whole
          → Tells bytes (cond {A = Result (List Request) ℕ} whole (Ok found) (Err (length found + 1)))
      by_end true none = subst (IsFront bytes found) (sym is ∙ nothing piece none) front
      by_end false some =
          bad_line bytes found rest front (at_least piece some is) piece [] are (λ more. absurd (omega (arith, more)))
        where
          at_least : (xs : List ℕ) → (length xs == 0) ≡ false → xs ≡ rest → 1 ≤ length rest
          at_least [] none is = absurd (true≢false none)
          at_least (x ∷ xs) some is = omega (arith, ap length is)
  tells bytes found rest (piece ∷ next ∷ more) are front =
      by_next (next_request cell found piece) refl
      (λ request. tells bytes (found ++ request ∷ []) (join_with_byte 10 (next ∷ more)) (next ∷ more) behind)
    where
      text : rest ≡ piece ++ 10 ∷ join_with_byte 10 (next ∷ more)
      text = sym (joined-pieces rest) ∙ ap (join_with_byte 10) are

      piece_is_line : IsLine piece
      piece_is_line = All-head IsLine piece (next ∷ more) (subst (All IsLine) are (pieces_lines rest))

      behind : pieces (join_with_byte 10 (next ∷ more)) ≡ next ∷ more
      behind =
          same_rest piece (pieces (join_with_byte 10 (next ∷ more))) (next ∷ more)
          (sym (slice_split_at is_newline piece 10 (join_with_byte 10 (next ∷ more)) piece_is_line refl) ∙ ap pieces (sym text) ∙ are)

      some : 1 ≤ length rest
      some = omega (arith, ap length text, length-append piece (10 ∷ join_with_byte 10 (next ∷ more)))

      room_of : (room : Bool) (o : Option Request) (request : Request) → cond room o None ≡ Some request
          → (room ≡ true) × (o ≡ Some request)
      room_of true o request is = (refl, is)
      room_of false o request is = absurd cc

      by_next : (o : Option Request) → next_request cell found piece ≡ o
          → ((request : Request) → IsFront bytes (found ++ request ∷ []) (join_with_byte 10 (next ∷ more))
          → Tells bytes (read_from cell (found ++ request ∷ []) (next ∷ more)))
          → Tells bytes (option_map_or (λ (request : Request). read_from cell (found ++ request ∷ []) (next ∷ more)) o
          (Err (length found + 1)))
      by_next None is later = bad_line bytes found rest front some piece (next ∷ more) are (λ others. is)
      by_next (Some request) is later =
          let read = room_of (nat_lt (length found) MAX_START_LINES) (placing_of cell (words piece)) request is in
          let sound = placing-sound cell (words piece) request read.1 in
          let same : piece ≡ line request = sym (joined-words piece) ∙ ap joined sound.0 in
          later request (one_more bytes found rest request (join_with_byte 10 (next ∷ more)) front
          (ltb-true (length found) MAX_START_LINES read.0) sound.1
          (text ∙ ap (λ (l : List ℕ). l ++ 10 ∷ join_with_byte 10 (next ∷ more)) same
          ∙ sym (append_assoc (line request) (10 ∷ []) (join_with_byte 10 (next ∷ more)))))

  told : (bytes : List ℕ) → Tells bytes (read_from cell [] (pieces bytes))
  told bytes = tells bytes [] bytes (pieces bytes) refl
      (record { placing = All-nil (IsPlacing cell); few = omega arith; text = refl })

  -- ---- what is answered

  module _ (bytes : List ℕ) (short : length bytes ≤ MAX_START_BYTES) where
    is_start : (requests : List Request) → IsFront bytes requests [] → IsStartOf cell bytes requests
    is_start requests front = record {
      short = short;
      few = front.few;
      placing = front.placing;
      text = front.text ∙ append-nil (start_text cell requests);
    }

    pub answers_found : (result : Result (List Request) RecordFault) → GivesStart result (read_from cell [] (pieces bytes))
        → IfOk result (IsStartOf cell bytes)
    answers_found (Ok requests) gives = is_start requests (subst (Tells bytes) gives (told bytes))
    answers_found (Err fault) gives = tt

    pub answers_refused : (result : Result (List Request) RecordFault) → GivesStart result (read_from cell [] (pieces bytes))
        → IfErr result (StartRefusedAt cell bytes)
    answers_refused (Ok requests) gives = tt
    answers_refused (Err (Bad n)) gives = inr (short, subst (Tells bytes) gives (told bytes))
    answers_refused (Err Memory) gives = tt

  pub answers_complete : (bytes : List ℕ) (result : Result (List Request) RecordFault)
      → GivesStart result (read_from cell [] (pieces bytes))
      → (requests : List Request) → IsStartOf cell bytes requests → (result ≡ Ok requests) ⊎ (result ≡ Err Memory)
  answers_complete bytes (Ok others) gives requests is =
      inl (ap Ok (same_Ok others requests (sym gives ∙ read_start bytes requests is)))
  answers_complete bytes (Err (Bad n)) gives requests is =
      absurd (let both : Err n ≡ Ok requests = sym gives ∙ read_start bytes requests is in cc)
  answers_complete bytes (Err Memory) gives requests is = inr refl

-- ---- bytes are read in one way

one_bad : (cell : Cell) → CellFits cell → (bytes : List ℕ) (n m : ℕ) → StartRefusedAt cell bytes (Bad n)
    → StartRefusedAt cell bytes (Bad m) → n ≡ m
one_bad cell fits bytes n m (inl a) (inl b) = a.1 ∙ sym b.1
one_bad cell fits bytes n m (inl a) (inr b) = absurd (omega (arith, a.0, b.0))
one_bad cell fits bytes n m (inr a) (inl b) = absurd (omega (arith, a.0, b.0))
one_bad cell fits bytes n m (inr a) (inr b) = same_Err n m (sym (read_bad cell fits bytes n a.1) ∙ read_bad cell fits bytes m b.1)

no_start : (cell : Cell) → CellFits cell → (bytes : List ℕ) (requests : List Request) (n : ℕ) → IsStartOf cell bytes requests
    → StartRefusedAt cell bytes (Bad n) → ⊥
no_start cell fits bytes requests n is (inl long) = omega (arith, long.0, is.short)
no_start cell fits bytes requests n is (inr bad) =
    let both : Ok requests ≡ Err n = sym (read_start cell fits bytes requests is) ∙ read_bad cell fits bytes n bad.1 in cc

pub start_once : (cell : Cell) (bytes : List ℕ) (first second : Result (List Request) RecordFault) → start_reads cell bytes first
    → start_reads cell bytes second → first ≡ second
start_once cell bytes (Ok a) (Ok b) one other =
    ap Ok (same_Ok a b (sym (read_start cell one.0 bytes a one.1) ∙ read_start cell one.0 bytes b other.1))
start_once cell bytes (Ok a) (Err (Bad n)) one other = absurd (no_start cell one.0 bytes a n one.1 other.1)
start_once cell bytes (Err (Bad n)) (Ok b) one other = absurd (no_start cell one.0 bytes b n other.1 one.1)
start_once cell bytes (Err (Bad n)) (Err (Bad m)) one other = ap (λ (k : ℕ). Err (Bad k)) (one_bad cell one.0 bytes n m one.1 other.1)
start_once cell bytes (Err Memory) second one other = absurd one
start_once cell bytes first (Err Memory) one other = absurd other
