-- The waiters of the keys at a place, counted.
use Rattle.std.proofs.Common.{◌≡◌, ℕ, zero, suc, ◌+◌, ◌-◌, ◌%◌, ◌<◌, ◌≤◌, ◌==◌, true, false, not, cond, Option, Some, None, List, [], ◌∷◌, ◌++◌, ◌≢◌, length, length-set, get_or, slice_set, refl, sym, subst, ap, ◌∙◌, arith, All}
use Rattle.std.specs.List.{filter, remove, slice_index}
use Rattle.std.specs.Option.{option_map_or}
use Rattle.std.proofs.lemmas.Bool.{both_ways, eq-eqb, eqb-true, ne_eqb, not-false}
use Rattle.std.proofs.lemmas.List.Elements.{All-cons, All-nil}
use Rattle.std.proofs.lemmas.Nat.{mod_below}
use Rattle.cell_base.specs.declared.requests.JobId.{JobId}
use Rattle.wait_queue.specs.declared.waiter.Waiter.{Waiter}
use Rattle.wait_queue.specs.Counting.{AreCounted, CanCount, CountsOne, is_at, job_key, number_of, session_key, waiting_at}
use Rattle.wait_queue.specs.Waiting.{is_of_session}
use Rattle.wait_queue.specs.Watching.{is_of, job_of}
use Rattle.wait_queue.proofs.Looks.{set-one}

module _ (key : Waiter → Option ℕ) (places place : ℕ) where
  -- the waiter that leaves is counted no more
  waiting-removed : (ws : List Waiter) (i : ℕ) (w : Waiter) → i < length ws → get_or ws i w ≡ w
      → waiting_at key places place ws ≡ waiting_at key places place (remove ws i) + cond (is_at key places place w) 1 0
  waiting-removed [] i w within is = absurd (omega arith)
  waiting-removed (v ∷ ws) zero w within is =
      let rest = filter (is_at key places place) ws in
      subst (λ (u : Waiter). length (cond (is_at key places place v) (v ∷ rest) rest) ≡ length rest + cond (is_at key places place u) 1 0) is
      (elim (is_at key places place v) as (λ b. length (cond b (v ∷ rest) rest) ≡ length rest + cond b 1 0) [
        | true ↦ omega arith
        | false ↦ omega arith
      ])
  waiting-removed (v ∷ ws) (suc i) w within is =
      let rest = filter (is_at key places place) ws in
      let fewer = filter (is_at key places place) (remove ws i) in
      let later = waiting-removed ws i w (omega arith) is in
      elim (is_at key places place v) as (λ b. length (cond b (v ∷ rest) rest)
      ≡ length (cond b (v ∷ fewer) fewer) + cond (is_at key places place w) 1 0) [
        | true ↦ omega (arith, later)
        | false ↦ later
      ]

  -- the waiter that comes is counted
  waiting-pushed : (ws : List Waiter) (w : Waiter)
      → waiting_at key places place (ws ++ w ∷ []) ≡ waiting_at key places place ws + cond (is_at key places place w) 1 0
  waiting-pushed [] w =
      elim (is_at key places place w) as (λ b. length (cond b (w ∷ []) []) ≡ 0 + cond b 1 0) [
        | true ↦ omega arith
        | false ↦ omega arith
      ]
  waiting-pushed (v ∷ ws) w =
      let rest = filter (is_at key places place) ws in
      let more = filter (is_at key places place) (ws ++ w ∷ []) in
      let later = waiting-pushed ws w in
      elim (is_at key places place v) as (λ b. length (cond b (v ∷ more) more)
      ≡ length (cond b (v ∷ rest) rest) + cond (is_at key places place w) 1 0) [
        | true ↦ omega (arith, later)
        | false ↦ later
      ]

  -- no more are counted than wait
  pub waiting-few : (ws : List Waiter) → waiting_at key places place ws ≤ length ws
  waiting-few [] = omega arith
  waiting-few (v ∷ ws) =
      let rest = filter (is_at key places place) ws in
      let later = waiting-few ws in
      elim (is_at key places place v) as (λ b. length (cond b (v ∷ rest) rest) ≤ suc (length ws)) [
        | true ↦ omega (arith, later)
        | false ↦ omega (arith, later)
      ]

  -- where none is counted none is at the place
  none-waiting : (ws : List Waiter) → waiting_at key places place ws ≡ 0 → All (λ (w : Waiter). is_at key places place w ≡ false) ws
  none-waiting [] none = All-nil (λ (w : Waiter). is_at key places place w ≡ false)
  none-waiting (v ∷ ws) none =
      let rest = filter (is_at key places place) ws in
      elim (is_at key places place v) as (λ b. is_at key places place v ≡ b → length (cond b (v ∷ rest) rest) ≡ 0
      → All (λ (w : Waiter). is_at key places place w ≡ false) (v ∷ ws)) [
        | true ↦ λ is many. absurd (omega (arith, many))
        | false ↦ λ is fewer. All-cons (λ (w : Waiter). is_at key places place w ≡ false) v ws is (none-waiting ws fewer)
      ] refl none

module _ (key : Waiter → Option ℕ) where
  -- whether a waiter is at a place is known from its key
  is_at-key : (places place : ℕ) (w : Waiter) (o : Option ℕ) → key w ≡ o
      → is_at key places place w ≡ option_map_or (λ (k : ℕ). (k % places) == place) o false
  is_at-key places place w o is = ap (λ (p : Option ℕ). option_map_or (λ (k : ℕ). (k % places) == place) p false) is

  -- at its own place it is
  at-own : (places k : ℕ) (w : Waiter) → key w ≡ Some k → is_at key places (k % places) w ≡ true
  at-own places k w own = is_at-key places (k % places) w (Some k) own ∙ eq-eqb (k % places) (k % places) refl

  -- the place of the key of the waiter that comes has one more, and the others have as many
  pub counted-added : (counts : List ℕ) (ws : List Waiter) (n : ℕ) (w : Waiter) (k : ℕ) → key w ≡ Some k → 0 < length counts
      → n ≡ slice_index counts (k % length counts) → AreCounted key counts ws
      → AreCounted key (slice_set counts (k % length counts) (n + 1)) (ws ++ w ∷ [])
  counted-added counts ws n w k own some is_n counted q below =
      let places = length counts in
      let at = k % places in
      let here : at < places = mod_below k places some in
      let same : length (slice_set counts at (n + 1)) ≡ places = length-set counts at (n + 1) in
      let inside : q < places = omega (arith, below, same) in
      set-one (λ (p m : ℕ). m ≡ waiting_at key places p (ws ++ w ∷ [])) counts (slice_set counts at (n + 1)) at (n + 1) 0 q refl here
      (λ (away : q ≡ at → ⊥).
      let other : cond (is_at key places q w) 1 0 ≡ 0 =
      ap (λ b. cond {A = ℕ} b 1 0) (is_at-key places q w (Some k) own ∙ ne_eqb at q (λ e. away (sym e))) in
      omega (arith, counted q inside, waiting-pushed key places q ws w, other))
      (let one : cond (is_at key places at w) 1 0 ≡ 1 = ap (λ b. cond {A = ℕ} b 1 0) (at-own places k w own) in
      omega (arith, is_n, counted at here, waiting-pushed key places at ws w, one))
      ∙ ap (λ m. waiting_at key m q (ws ++ w ∷ [])) (sym same)

  -- the place of the key of the waiter that leaves has one fewer, and the others have as many
  pub counted-removed : (counts : List ℕ) (ws : List Waiter) (i n : ℕ) (w : Waiter) (k : ℕ) → key w ≡ Some k → 0 < length counts
      → i < length ws → get_or ws i w ≡ w → n ≡ slice_index counts (k % length counts) → AreCounted key counts ws
      → AreCounted key (slice_set counts (k % length counts) (n - 1)) (remove ws i)
  counted-removed counts ws i n w k own some within is_w is_n counted q below =
      let places = length counts in
      let at = k % places in
      let here : at < places = mod_below k places some in
      let same : length (slice_set counts at (n - 1)) ≡ places = length-set counts at (n - 1) in
      let inside : q < places = omega (arith, below, same) in
      set-one (λ (p m : ℕ). m ≡ waiting_at key places p (remove ws i)) counts (slice_set counts at (n - 1)) at (n - 1) 0 q refl here
      (λ (away : q ≡ at → ⊥).
      let other : cond (is_at key places q w) 1 0 ≡ 0 =
      ap (λ b. cond {A = ℕ} b 1 0) (is_at-key places q w (Some k) own ∙ ne_eqb at q (λ e. away (sym e))) in
      omega (arith, counted q inside, waiting-removed key places q ws i w within is_w, other))
      (let one : cond (is_at key places at w) 1 0 ≡ 1 = ap (λ b. cond {A = ℕ} b 1 0) (at-own places k w own) in
      omega (arith, is_n, counted at here, waiting-removed key places at ws i w within is_w, one))
      ∙ ap (λ m. waiting_at key m q (remove ws i)) (sym same)

  -- a waiter without a key leaves all places as they are, whether it comes ..
  pub added-without : (counts : List ℕ) (ws : List Waiter) (w : Waiter) → key w ≡ None → AreCounted key counts ws
      → AreCounted key counts (ws ++ w ∷ [])
  added-without counts ws w own counted q below =
      let places = length counts in
      let other : cond (is_at key places q w) 1 0 ≡ 0 = ap (λ b. cond {A = ℕ} b 1 0) (is_at-key places q w None own) in
      omega (arith, counted q below, waiting-pushed key places q ws w, other)

  -- .. or leaves
  pub removed-without : (counts : List ℕ) (ws : List Waiter) (i : ℕ) (w : Waiter) → key w ≡ None → i < length ws
      → get_or ws i w ≡ w → AreCounted key counts ws → AreCounted key counts (remove ws i)
  removed-without counts ws i w own within is_w counted q below =
      let places = length counts in
      let other : cond (is_at key places q w) 1 0 ≡ 0 = ap (λ b. cond {A = ℕ} b 1 0) (is_at-key places q w None own) in
      omega (arith, counted q below, waiting-removed key places q ws i w within is_w, other)

  -- the place of a waiter's key counts it
  pub counts-one : (counts : List ℕ) (ws : List Waiter) (i : ℕ) (w : Waiter) → 0 < length counts → i < length ws → get_or ws i w ≡ w
      → AreCounted key counts ws → CountsOne counts (key w)
  counts-one counts ws i w some within is_w counted k own =
      let places = length counts in
      let at = k % places in
      let one : cond (is_at key places at w) 1 0 ≡ 1 = ap (λ b. cond {A = ℕ} b 1 0) (at-own places k w own) in
      omega (arith, counted at (mod_below k places some), waiting-removed key places at ws i w within is_w, one)

  -- fewer waiters than the type of a count holds: each place can count one more
  pub can-count : (counts : List ℕ) (ws : List Waiter) (w : Waiter) → 0 < length counts → AreCounted key counts ws → length ws < 65535
      → CanCount counts (key w)
  can-count counts ws w some counted few k own =
      let places = length counts in
      let at = k % places in
      omega (arith, counted at (mod_below k places some), waiting-few key places at ws, few)

  -- where the place of a key counts none, no waiter is of the key
  pub uncounted : (counts : List ℕ) (ws : List Waiter) (k : ℕ) → 0 < length counts → AreCounted key counts ws
      → slice_index counts (k % length counts) ≡ 0 → All (λ (w : Waiter). key w ≢ Some k) ws
  uncounted counts ws k some counted none i d within own =
      let places = length counts in
      let at = k % places in
      both_ways (is_at key places at (get_or ws i d))
      (none-waiting key places at ws (sym (counted at (mod_below k places some)) ∙ none) i d within) (at-own places k (get_or ws i d) own)

-- a number that isn't other than 0
pub none-there : (n : ℕ) → not (n == 0) ≡ false → n ≡ 0
none-there n is = eqb-true n 0 (not-false (n == 0) is)

-- so none is of the job
pub no-job : (counts : List ℕ) (ws : List Waiter) (job : JobId) → 0 < length counts → AreCounted job_key counts ws
    → slice_index counts (job.0 % length counts) ≡ 0 → All (λ (w : Waiter). is_of job w.request ≡ false) ws
no-job counts ws job some counted none i d within =
    by (job_of (get_or ws i d).request) refl
  where
    by : (o : Option JobId) → job_of (get_or ws i d).request ≡ o → is_of job (get_or ws i d).request ≡ false
    by None own = ap (λ (p : Option JobId). option_map_or (λ (j : JobId). j.0 == job.0) p false) own
    by (Some other) own =
        ap (λ (p : Option JobId). option_map_or (λ (j : JobId). j.0 == job.0) p false) own
        ∙ ne_eqb other.0 job.0 (λ e. uncounted job_key counts ws job.0 some counted none i d within (ap number_of own ∙ ap Some e))

-- .. or of the session
pub no-session : (counts : List ℕ) (ws : List Waiter) (session : ℕ) → 0 < length counts → AreCounted session_key counts ws
    → slice_index counts (session % length counts) ≡ 0 → All (λ (w : Waiter). is_of_session session w ≡ false) ws
no-session counts ws session some counted none i d within =
    ne_eqb (get_or ws i d).session session
    (λ e. uncounted session_key counts ws session some counted none i d within (ap Some e))
