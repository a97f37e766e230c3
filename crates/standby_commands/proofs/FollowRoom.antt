-- Frames for whose grants a journal has room leave one that can be read.
use Rattle.std.specs.Prelude.{Bool, true, false, ◌&&◌, ◌==◌, not, cond, IfSome, IsSomeAnd, Result, Ok, Err, ⊤}
use Rattle.std.specs.Option.{option_map, option_map_or}
use Rattle.std.proofs.Common.{◌≡◌, ◌≢◌, inl, inr, ℕ, ◌≤◌, Option, Some, None, List, [], ◌∷◌, ◌++◌, length, drop, refl, sym, ap, ◌∙◌, subst, arith}
use Rattle.std.proofs.lemmas.Bool.{and_parts, cases_lt, eqb-false, eqb-true, not-true}
use Rattle.std.proofs.lemmas.List.{append-nil, length_push}
use Rattle.cell_base.specs.declared.cells.Cell.{Cell}
use Rattle.cell_base.specs.declared.shifts.Grant.{Grant}
use Rattle.durable_cell.specs.declared.replays.TheConstants.{MAX_ROOM}
use Rattle.entry_codec.specs.Decoding.{grant_of}
use Rattle.cell_walks.specs.Observed.{FilesTold, ShowsFile}
use Rattle.cell_walks.specs.Outcomes.{Outcome}
use Rattle.standby_link.specs.declared.frame.Frame.{Frame}
use Rattle.standby_link.specs.Deliveries.{delivered, delivered_all}
use Rattle.standby_link.specs.Followers.{IsGrantedNext}
use Rattle.standby_link.specs.Following.{received}
use Rattle.standby_link.specs.Frames.{frame_in, framed, index_in}
use Rattle.standby_commands.specs.Follow.{Followed, EndsFollowing, HaltedAt, RefusedAt}
use Rattle.standby_commands.specs.FrameFiles.{are_whole, frames_in, frames_reads, have_room}

-- there is room for one grant more
below : (grants : List Grant) → length grants ≢ MAX_ROOM → length grants ≤ MAX_ROOM → (grant : Grant)
    → length (grants ++ grant ∷ []) ≤ MAX_ROOM
below grants short few grant = elim (cases_lt (length grants) MAX_ROOM) [
  | inl less ↦ omega (arith, less, length_push grants grant)
  | inr rest ↦ absurd (short (omega (arith, few, rest)))
]

-- a grant that comes in a frame comes at the frame's index
more : (grants : List Grant) (index : ℕ) (found : Option Grant) → index ≢ MAX_ROOM → length grants ≤ MAX_ROOM
    → length (option_map_or (received grants) (option_map (framed index) found) grants) ≤ MAX_ROOM
more grants index None near few = few
more grants index (Some grant) near few = by_test (index == length grants) refl
  where
    by_test : (test : Bool) → (index == length grants) ≡ test → length (cond test (grants ++ grant ∷ []) grants) ≤ MAX_ROOM
    by_test true is =
        let same = eqb-true index (length grants) is in
        below grants (λ full. near (same ∙ full)) few grant
    by_test false is = few

-- the frame is not of the first grant without room
is_other : (bytes : List ℕ) → not (index_in bytes == MAX_ROOM) ≡ true → index_in bytes ≢ MAX_ROOM
is_other bytes near = eqb-false (index_in bytes) MAX_ROOM (not-true (index_in bytes == MAX_ROOM) near)

pub one_more : (grants : List Grant) (bytes : List ℕ) → not (index_in bytes == MAX_ROOM) ≡ true → length grants ≤ MAX_ROOM
    → length (delivered grants bytes) ≤ MAX_ROOM
one_more grants bytes near few =
    more grants (index_in bytes) (grant_of (drop 8 bytes)) (is_other bytes near) few

pub all_more : (grants : List Grant) (frames : List (List ℕ)) → have_room frames ≡ true → length grants ≤ MAX_ROOM
    → length (delivered_all grants frames) ≤ MAX_ROOM
all_more grants [] near few = few
all_more grants (bytes ∷ frames) near few =
    let both = and_parts (not (index_in bytes == MAX_ROOM)) (have_room frames) near in
    all_more (delivered grants bytes) frames both.1 (one_more grants bytes both.0 few)

-- the frames before some frame have places, and it has one
parted : (first : List (List ℕ)) (bytes : List ℕ) (rest : List (List ℕ)) → have_room (first ++ bytes ∷ rest) ≡ true
    → (have_room first ≡ true) × (not (index_in bytes == MAX_ROOM) ≡ true)
parted [] bytes rest near = (refl, (and_parts (not (index_in bytes == MAX_ROOM)) (have_room rest) near).0)
parted (one ∷ first) bytes rest near =
    let both = and_parts (not (index_in one == MAX_ROOM)) (have_room (first ++ bytes ∷ rest)) near in
    let later = parted first bytes rest both.1 in
    ((λ i. both.0 i && later.0 i), later.1)

-- the index of the next frame is the number of the grants
next_index : (grants : List Grant) (bytes : List ℕ) (grant : Grant) (found : Option Grant)
    → option_map (framed (index_in bytes)) found ≡ Some (framed (length grants) grant) → index_in bytes ≡ length grants
next_index grants bytes grant None is = absurd (cc)
next_index grants bytes grant (Some got) is = let same : framed (index_in bytes) got ≡ framed (length grants) grant = cc in
    ap (λ (f : Frame). f.index) same

module _ (cell : Cell) (frames : List (List ℕ)) (opening : List Grant) (outcome : Outcome) (near : have_room frames ≡ true)
    (few : length opening ≤ MAX_ROOM) where
  sure : (grants : List Grant) → opening ++ outcome.added ≡ grants → outcome.unsure ≡ [] → length grants ≤ MAX_ROOM
      → length (opening ++ outcome.added ++ outcome.unsure) ≤ MAX_ROOM
  sure grants added none all =
      let is : length (opening ++ outcome.added ++ outcome.unsure) ≡ length grants =
      ap (λ (more : List Grant). length (opening ++ outcome.added ++ more)) none
      ∙ ap length (append-nil (opening ++ outcome.added)) ∙ ap length added in
      omega (arith, is, all)

  pub room : EndsFollowing cell opening frames outcome → length (opening ++ outcome.added ++ outcome.unsure) ≤ MAX_ROOM
  room (Followed is) = sure (delivered_all opening frames) is.added is.sure (all_more opening frames near few)
  room (RefusedAt is) =
      let places = parted is.first is.bytes is.rest (ap have_room (sym is.parted) ∙ near) in
      sure (delivered_all opening is.first) is.added is.sure (all_more opening is.first places.0 few)
  room (HaltedAt is) =
      let places = parted is.first is.bytes is.rest (ap have_room (sym is.parted) ∙ near) in
      let index = next_index (delivered_all opening is.first) is.bytes is.grant (grant_of (drop 8 is.bytes)) is.granted.next in
      let all : length (opening ++ outcome.added ++ outcome.unsure) ≡ length (delivered_all opening is.first ++ is.grant ∷ []) =
      ap (λ (more : List Grant). length (opening ++ outcome.added ++ more)) is.unsure
      ∙ ap (λ (grants : List Grant). length (grants ++ is.grant ∷ [])) is.added in
      let fits = below (delivered_all opening is.first) (λ full. is_other is.bytes places.1 (index ∙ full))
      (all_more opening is.first places.0 few) is.grant in
      omega (arith, all, fits)

-- ---- the frames of a file

abbrev fault : Result (List (List ℕ)) ⊤
fault = Err tt

places_of : (whole places : Bool) (frames list : List (List ℕ))
    → cond (whole && places) (Ok frames) fault ≡ Ok list → (places ≡ true) × (frames ≡ list)
places_of false places frames list is = absurd (cc)
places_of true false frames list is = absurd (cc)
places_of true true frames list is = (refl, cc)

places_read : (bytes : List ℕ) (list : List (List ℕ)) → frames_reads bytes (Ok list) → have_room list ≡ true
places_read bytes list is =
    let both = places_of (are_whole bytes) (have_room (frames_in bytes)) (frames_in bytes) list is in
    ap have_room (sym both.1) ∙ both.0

pub places_shown : (files : FilesTold) (name : List ℕ) (list : List (List ℕ)) → ShowsFile files name (λ bytes. frames_reads bytes (Ok list))
    → IfSome files.names (λ names. have_room list ≡ true)
places_shown files name list = by_names files.names
  where
    by_bytes : (bytes : Option (List ℕ)) → IsSomeAnd bytes (λ bytes. frames_reads bytes (Ok list)) → have_room list ≡ true
    by_bytes None none = absurd none
    by_bytes (Some bytes) is = places_read bytes list is

    by_names : (names : Option (List ℕ → Option (List ℕ))) → IfSome names (λ names. IsSomeAnd (names name) (λ bytes. frames_reads bytes (Ok list)))
        → IfSome names (λ names. have_room list ≡ true)
    by_names None shows = tt
    by_names (Some names) shows = by_bytes (names name) shows

pub room_told : (files : FilesTold) (name : List ℕ) (cell : Cell) (list : List (List ℕ)) (opening : List Grant) (outcome : Outcome)
    → ShowsFile files name (λ bytes. frames_reads bytes (Ok list)) → EndsFollowing cell opening list outcome
    → IfSome files.names (λ names. length opening ≤ MAX_ROOM → length (opening ++ outcome.added ++ outcome.unsure) ≤ MAX_ROOM)
room_told files name cell list opening outcome shows ends = by_names files.names (places_shown files name list shows)
  where
    by_names : (names : Option (List ℕ → Option (List ℕ))) → IfSome names (λ names. have_room list ≡ true)
        → IfSome names (λ names. length opening ≤ MAX_ROOM → length (opening ++ outcome.added ++ outcome.unsure) ≤ MAX_ROOM)
    by_names None places = tt
    by_names (Some names) places = λ few. room cell list opening outcome places few ends
