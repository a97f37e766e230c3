-- The parts of the entries that stay: which is found first, and how they change.
use Rattle.std.proofs.Common.{◌≡◌, ℕ, zero, suc, ◌<◌, ◌==◌, Bool, true, false, cond, not, ◌&&◌, List, [], ◌∷◌, ◌++◌, length, map, Some, All}
use Rattle.std.proofs.Common.{None, slice_get, get_or, set, find, filter, take, length-take, ap, ap₂, subst, refl, sym, arith, ◌∙◌}
use Rattle.std.proofs.lemmas.Bool.{false≢true, eq-eqb, ne_eqb, or_parts, or_from}
use Rattle.std.proofs.lemmas.Option.{none-some, same_Some, slice_get_within, get_or_from_slice_get}
use Rattle.std.proofs.lemmas.List.{length-map, get_or-map, get_or-take}
use Rattle.cell_base.specs.declared.cells.ResId.{ResId}
use Rattle.cell_base.specs.declared.requests.JobId.{JobId}
use Rattle.cell_base.specs.declared.requests.Part.{Part}
use Rattle.cell_base.specs.Policy.{is_of_job, is_loaded, HaveDistinctJobs}
use Rattle.policy_laws.proofs.Lists.{filter_all}
use Rattle.std.proofs.lemmas.List.Elements.{filter_passes}
use Rattle.part_table.specs.declared.standing.Standing.{Standing}
use Rattle.part_table.specs.declared.standing.Entry.{Entry}
use Rattle.part_table.specs.Chains.{OFF, IsFirst, standing_key, waiting_key}
use Rattle.part_table.specs.Standings.{parts_of, is_job, is_on, is_waiting, without_job, finished}
use Rattle.part_table.specs.Logs.{gone_entry, done_entry, staying, entry_job, IsAbsent}
use Rattle.part_table.proofs.Chains.{seen_at}
use Rattle.part_table.proofs.Standings.{finish_no}

abbrev pub is_staying : Entry → Bool
is_staying entry = entry.stays

abbrev pub item_of : Entry → Standing
item_of entry = entry.item

-- the first that passes a test, among those that stay
module _ (test : Standing → Bool) where
  -- the entry stays, and passes
  abbrev pub passes : Entry → Bool
  passes entry = entry.stays && test entry.item

  find_skip : (y : Entry) (ys : List Entry) → passes y ≡ false → find test (staying (y ∷ ys)) ≡ find test (staying ys)
  find_skip y ys e = at y.stays (test y.item) refl e
    where
      at : (a b : Bool) → test y.item ≡ b → (a && b) ≡ false
          → find test (map item_of (cond a (y ∷ filter is_staying ys) (filter is_staying ys))) ≡ find test (staying ys)
      at true true is h = absurd (false≢true (sym h))
      at true false is h = ap (λ b. cond b (Some y.item) (find test (staying ys))) is
      at false b is h = refl

  find_take : (y : Entry) (ys : List Entry) → passes y ≡ true → find test (staying (y ∷ ys)) ≡ Some y.item
  find_take y ys e = at y.stays (test y.item) refl e
    where
      at : (a b : Bool) → test y.item ≡ b → (a && b) ≡ true
          → find test (map item_of (cond a (y ∷ filter is_staying ys) (filter is_staying ys))) ≡ Some y.item
      at true true is h = ap (λ b. cond b (Some y.item) (find test (staying ys))) is
      at true false is h = absurd (false≢true h)
      at false b is h = absurd (false≢true h)

  pub first_staying : (entries : List Entry) (at : ℕ) (found : Entry) → slice_get entries at ≡ Some found → passes found ≡ true
      → ((k : ℕ) (entry : Entry) → k < at → slice_get entries k ≡ Some entry → passes entry ≡ false)
      → find test (staying entries) ≡ Some found.item
  first_staying [] at found e here before = absurd (none-some found e)
  first_staying (y ∷ ys) zero found e here before =
      let same = same_Some y found e in
      find_take y ys (ap passes same ∙ here) ∙ ap (λ (x : Entry). Some x.item) same
  first_staying (y ∷ ys) (suc at) found e here before =
      find_skip y ys (before 0 y (omega arith) refl)
      ∙ first_staying ys at found e here (λ k entry less is. before (suc k) entry (omega (arith, less)) is)

  pub none_staying : (entries : List Entry) → ((k : ℕ) (entry : Entry) → slice_get entries k ≡ Some entry → passes entry ≡ false)
      → find test (staying entries) ≡ None
  none_staying [] fails = refl
  none_staying (y ∷ ys) fails = find_skip y ys (fails 0 y refl) ∙ none_staying ys (λ k entry is. fails (suc k) entry is)

  -- by the first place of a key that shows what passes
  module _ (key : Entry → ℕ) (r : ℕ) (shows : (entry : Entry) → (key entry == r) ≡ passes entry) (entries : List Entry) where
    pub passes_by_key : (at : ℕ) (found : Entry) → IsFirst (map key entries) (length entries) r at → slice_get entries at ≡ Some found
        → passes found ≡ true
    passes_by_key at found first e =
        sym (shows found)
        ∙ eq-eqb (key found) r (sym (seen_at key entries at found e) ∙ first.here (slice_get_within entries at found e))

    pub found_by_key : (at : ℕ) (found : Entry) → IsFirst (map key entries) (length entries) r at → slice_get entries at ≡ Some found
        → find test (staying entries) ≡ Some found.item
    found_by_key at found first e = first_staying entries at found e (passes_by_key at found first e) before
      where
        before : (k : ℕ) (entry : Entry) → k < at → slice_get entries k ≡ Some entry → passes entry ≡ false
        before k entry less is =
            let inside = slice_get_within entries k entry is in
            sym (shows entry)
            ∙ ne_eqb (key entry) r (λ same. absurd (omega (arith, less, first.least k inside (seen_at key entries k entry is ∙ same))))

    pub none_by_key : ((k : ℕ) → k < length entries → get_or (map key entries) k 0 ≡ r → ⊥) → find test (staying entries) ≡ None
    none_by_key none = none_staying entries fails
      where
        fails : (k : ℕ) (entry : Entry) → slice_get entries k ≡ Some entry → passes entry ≡ false
        fails k entry is =
            sym (shows entry)
            ∙ ne_eqb (key entry) r (λ same. none k (slice_get_within entries k entry is) (seen_at key entries k entry is ∙ same))

-- what the keys of the entries show
off_is_no_resource : (r : ℕ) → r < OFF → (OFF == r) ≡ false
off_is_no_resource r below = ne_eqb OFF r (λ same. absurd (omega (arith, same, below)))

pub standing_shows : (on : ResId) → on.0 < OFF → (entry : Entry) → (standing_key entry == on.0) ≡ passes (is_on on) entry
standing_shows on below entry = at entry.stays
  where
    at : (stays : Bool) → (cond stays entry.item.on.0 OFF == on.0) ≡ (stays && is_on on entry.item)
    at true = refl
    at false = off_is_no_resource on.0 below

pub waiting_shows : (on : ResId) → on.0 < OFF → (entry : Entry) → (waiting_key entry == on.0) ≡ passes (is_waiting on) entry
waiting_shows on below entry = at entry.stays entry.item.part.done
  where
    at : (stays done : Bool) → (cond stays (cond done OFF entry.item.on.0) OFF == on.0) ≡ (stays && (not done && is_on on entry.item))
    at true true = off_is_no_resource on.0 below
    at true false = refl
    at false done = off_is_no_resource on.0 below

-- none of the entries that stay is of the job, as a fact of the parts
pub not_loaded_from_absent : (entries : List Entry) (job : JobId) → IsAbsent entries job
    → is_loaded (parts_of (staying entries)) job ≡ false
not_loaded_from_absent [] job absent = refl
not_loaded_from_absent (y ∷ ys) job absent =
    at y.stays refl (not_loaded_from_absent ys job (λ k entry e stays same. absent (suc k) entry e stays same))
  where
    at : (a : Bool) → y.stays ≡ a → is_loaded (parts_of (staying ys)) job ≡ false
        → is_loaded (parts_of (map item_of (cond a (y ∷ filter is_staying ys) (filter is_staying ys)))) job ≡ false
    at true stays rest =
        or_from (is_of_job job y.item.part) (is_loaded (parts_of (staying ys)) job)
        (ne_eqb (entry_job y) job.0 (absent 0 y refl stays)) rest
    at false stays rest = rest

pub absent_from_not_loaded : (entries : List Entry) (job : JobId) → is_loaded (parts_of (staying entries)) job ≡ false
    → IsAbsent entries job
absent_from_not_loaded [] job none = λ k entry e stays same. none-some entry e
absent_from_not_loaded (y ∷ ys) job none = at y.stays refl none (absent_from_not_loaded ys job)
  where
    head : (k : ℕ) (entry : Entry) → (y.stays ≡ true → entry_job y ≡ job.0 → ⊥) → IsAbsent ys job → slice_get (y ∷ ys) k ≡ Some entry
        → entry.stays ≡ true
        → entry_job entry ≡ job.0 → ⊥
    head zero entry here behind e stays same =
        let is = same_Some y entry e in
        here (ap is_staying is ∙ stays) (ap entry_job is ∙ same)
    head (suc k) entry here behind e stays same = behind k entry e stays same

    at : (a : Bool) → y.stays ≡ a
        → is_loaded (parts_of (map item_of (cond a (y ∷ filter is_staying ys) (filter is_staying ys)))) job ≡ false
        → (is_loaded (parts_of (staying ys)) job ≡ false → IsAbsent ys job) → IsAbsent (y ∷ ys) job
    at true stays none later k entry e stays_too same =
        let split = or_parts (is_of_job job y.item.part) (is_loaded (parts_of (staying ys)) job) none in
        head k entry (λ h is. false≢true (sym split.0 ∙ eq-eqb (entry_job y) job.0 is)) (later split.1) e stays_too same
    at false gone none later k entry e stays_too same =
        head k entry (λ h is. false≢true (sym gone ∙ h)) (later none) e stays_too same

-- a job that none of them has
pub without_absent : (entries : List Entry) (job : JobId) → IsAbsent entries job → without_job (staying entries) job ≡ staying entries
without_absent [] job absent = refl
without_absent (y ∷ ys) job absent =
    at y.stays refl (without_absent ys job (λ k entry e stays same. absent (suc k) entry e stays same))
  where
    at : (a : Bool) → y.stays ≡ a → without_job (staying ys) job ≡ staying ys
        → (let rest = map item_of (cond a (y ∷ filter is_staying ys) (filter is_staying ys)) in without_job rest job ≡ rest)
    at true stays rest = rw (ne_eqb (entry_job y) job.0 (absent 0 y refl stays)) (ap (λ items. y.item ∷ items) rest)
    at false stays rest = rest

pub finished_absent : (entries : List Entry) (job : JobId) → IsAbsent entries job → finished (staying entries) job ≡ staying entries
finished_absent [] job absent = refl
finished_absent (y ∷ ys) job absent =
    at y.stays refl (finished_absent ys job (λ k entry e stays same. absent (suc k) entry e stays same))
  where
    at : (a : Bool) → y.stays ≡ a → finished (staying ys) job ≡ staying ys
        → (let rest = map item_of (cond a (y ∷ filter is_staying ys) (filter is_staying ys)) in finished rest job ≡ rest)
    at true stays rest = ap₂ ◌∷◌ (finish_no job y.item (ne_eqb (entry_job y) job.0 (absent 0 y refl stays))) rest
    at false stays rest = rest

-- the part of a job leaves
pub staying_taken : (entries : List Entry) (at : ℕ) (old : Entry) (job : JobId) → slice_get entries at ≡ Some old → old.stays ≡ true
    → entry_job old ≡ job.0
    → ((k : ℕ) (entry : Entry) → slice_get entries k ≡ Some entry → entry.stays ≡ true → entry_job entry ≡ job.0 → k ≡ at)
    → staying (set entries at (gone_entry old)) ≡ without_job (staying entries) job
staying_taken [] at old job e stays is unique = absurd (none-some old e)
staying_taken (y ∷ ys) zero old job e stays is unique =
    let same = same_Some y old e in
    let here : y.stays ≡ true = ap is_staying same ∙ stays in
    let of_job : is_job job y.item ≡ true = eq-eqb (entry_job y) job.0 (ap entry_job same ∙ is) in
    let others = without_absent ys job
    (λ k entry there stays_too of_it. absurd (omega (arith, unique (suc k) entry there stays_too of_it))) in
    rw (here, of_job) (sym others)
staying_taken (y ∷ ys) (suc at) old job e stays is unique =
    by y.stays refl (staying_taken ys at old job e stays is
    (λ k entry there stays_too of_it. omega (arith, unique (suc k) entry there stays_too of_it)))
  where
    by : (a : Bool) → y.stays ≡ a → staying (set ys at (gone_entry old)) ≡ without_job (staying ys) job
        → map item_of (cond a (y ∷ filter is_staying (set ys at (gone_entry old))) (filter is_staying (set ys at (gone_entry old))))
        ≡ without_job (map item_of (cond a (y ∷ filter is_staying ys) (filter is_staying ys))) job
    by true here rest =
        let other : is_job job y.item ≡ false = ne_eqb (entry_job y) job.0 (λ of_it. absurd (omega (arith, unique 0 y refl here of_it))) in
        rw other (ap (λ items. y.item ∷ items) rest)
    by false gone rest = rest

-- the part of a job is done
pub staying_finished : (entries : List Entry) (at : ℕ) (old : Entry) (job : JobId) → slice_get entries at ≡ Some old → old.stays ≡ true
    → entry_job old ≡ job.0
    → ((k : ℕ) (entry : Entry) → slice_get entries k ≡ Some entry → entry.stays ≡ true → entry_job entry ≡ job.0 → k ≡ at)
    → staying (set entries at (done_entry old)) ≡ finished (staying entries) job
staying_finished [] at old job e stays is unique = absurd (none-some old e)
staying_finished (y ∷ ys) zero old job e stays is unique =
    let same = same_Some y old e in
    let here : y.stays ≡ true = ap is_staying same ∙ stays in
    let of_job : is_job job y.item ≡ true = eq-eqb (entry_job y) job.0 (ap entry_job same ∙ is) in
    let others = finished_absent ys job
    (λ k entry there stays_too of_it. absurd (omega (arith, unique (suc k) entry there stays_too of_it))) in
    rw (here, of_job, stays)
    (ap₂ (λ (item : Standing) items. (let done : Standing = record item { part = record item.part { done = true } } in done) ∷ items)
    (ap item_of (sym same)) (sym others))
staying_finished (y ∷ ys) (suc at) old job e stays is unique =
    by y.stays refl (staying_finished ys at old job e stays is
    (λ k entry there stays_too of_it. omega (arith, unique (suc k) entry there stays_too of_it)))
  where
    by : (a : Bool) → y.stays ≡ a
        → staying (set ys at (done_entry old)) ≡ finished (staying ys) job
        → map item_of (cond a (y ∷ filter is_staying (set ys at (done_entry old))) (filter is_staying (set ys at (done_entry old))))
        ≡ finished (map item_of (cond a (y ∷ filter is_staying ys) (filter is_staying ys))) job
    by true here rest =
        let other : is_job job y.item ≡ false = ne_eqb (entry_job y) job.0 (λ of_it. absurd (omega (arith, unique 0 y refl here of_it))) in
        ap₂ ◌∷◌ (sym (finish_no job y.item other)) rest
    by false gone rest = rest

-- one part more
pub staying_pushed : (entries : List Entry) (item : Standing) (slot : ℕ)
    → staying (entries ++ (record { item = item; stays = true; slot = slot }) ∷ []) ≡ staying entries ++ item ∷ []
staying_pushed [] item slot = refl
staying_pushed (y ∷ ys) item slot = at y.stays (staying_pushed ys item slot)
  where
    at : (a : Bool) → staying (ys ++ (record { item = item; stays = true; slot = slot }) ∷ []) ≡ staying ys ++ item ∷ []
        → map item_of (cond a (y ∷ filter is_staying (ys ++ (record { item = item; stays = true; slot = slot }) ∷ []))
        (filter is_staying (ys ++ (record { item = item; stays = true; slot = slot }) ∷ [])))
        ≡ map item_of (cond a (y ∷ filter is_staying ys) (filter is_staying ys)) ++ item ∷ []
    at true rest = ap (λ items. y.item ∷ items) rest
    at false rest = rest

-- the entries that stay, among themselves
pub staying_kept : (entries : List Entry) → staying (filter is_staying entries) ≡ staying entries
staying_kept entries =
    ap (λ es. map item_of es) (filter_all is_staying (filter is_staying entries) (filter_passes is_staying entries))

-- entries that all stay
pub staying_all : (entries : List Entry) → All (λ (entry : Entry). entry.stays ≡ true) entries → staying entries ≡ map item_of entries
staying_all entries stay = ap (λ es. map item_of es) (filter_all is_staying entries stay)

pub parts_of_entries : (entries : List Entry) → map (λ (x : Entry). x.item.part) entries ≡ parts_of (map item_of entries)
parts_of_entries [] = refl
parts_of_entries (y ∷ ys) = ap (λ parts. y.item.part ∷ parts) (parts_of_entries ys)

-- the job of an entry is that of none before it
pub absent_before : (entries : List Entry) (i : ℕ) (entry : Entry) → i < length entries → entry ≡ get_or entries i entry
    → HaveDistinctJobs (map (λ (x : Entry). x.item.part) entries) → IsAbsent (take i entries) entry.item.part.job
absent_before entries i entry inside is distinct k other e stays same =
    let short = slice_get_within (take i entries) k other e in
    let earlier : k < i = omega (arith, short, length-take i entries) in
    let there : get_or entries k other ≡ other = sym (get_or-take i entries k other earlier)
    ∙ get_or_from_slice_get (take i entries) k other other e in
    let part = λ (x : Entry). x.item.part in
    let first : get_or (map part entries) k other.item.part ≡ other.item.part =
    get_or-map part entries k other other.item.part (omega (arith, earlier, inside)) ∙ ap part there in
    let second : get_or (map part entries) i other.item.part ≡ entry.item.part = get_or-map part entries i entry other.item.part inside
    ∙ ap part (sym is) in
    let jobs : other.item.part.job ≡ entry.item.part.job = λ j. record { 0 = same j } in
    distinct k i other.item.part earlier (subst (λ n. i < n) (sym (length-map entries part)) inside)
    (ap (λ (p : Part). p.job) first ∙ jobs ∙ ap (λ (p : Part). p.job) (sym second))
