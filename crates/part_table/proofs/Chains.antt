-- Entries that are linked, as one more comes and as one changes.
use Rattle.std.proofs.Common.{◌≡◌, ℕ, ◌+◌, ◌<◌, ◌≤◌, ◌&&◌, not, min, Bool, true, false, cond, refl, List, length, map}
use Rattle.std.proofs.Common.{Some, slice_get, get_or, set, subst, sym, ap, arith, ◌∙◌, ⊎_elim, length-set}
use Rattle.std.proofs.Common.{get_or-set_same, get_or-set_other}
use Rattle.std.proofs.Math.Seq.{map-set_same}
use Rattle.std.proofs.lemmas.Bool.{cases_eq, cases_lt}
use Rattle.std.proofs.lemmas.List.{get_or-map, length-map, map-set}
use Rattle.std.proofs.lemmas.Option.{slice_get_within, get_or_from_slice_get}
use Rattle.part_table.specs.declared.chain.Ends.{Ends}
use Rattle.part_table.specs.declared.chain.TheConstants.{NOWHERE}
use Rattle.part_table.specs.declared.standing.Entry.{Entry}
use Rattle.part_table.specs.Chains.{OFF, told_key, standing_key, waiting_key, key_of, IsFirst, WasFirst, IsNextOf, IsLast}
use Rattle.part_table.specs.Chains.{AreNone, IsChained, linked, no_end}
use Rattle.part_table.proofs.Firsts.{first_kept, first_met, was_first, first_of_other}
use Rattle.part_table.proofs.Links.{last_kept, last_new, linked_more}

-- what stands at a place, seen by a function
pub seen_at : {X : Type 0} (f : X → ℕ) (xs : List X) (k : ℕ) (x : X) → slice_get xs k ≡ Some x → get_or (map f xs) k 0 ≡ f x
seen_at f xs k x there =
    get_or-map f xs k x 0 (slice_get_within xs k x there) ∙ ap f (get_or_from_slice_get xs k x x there)

-- an end of each resource, where the ends of one of them change
ends_set : (P : ℕ → ℕ → Type 0) (f : Ends → ℕ) (ends : List Ends) (lane : ℕ) (end : Ends) → lane < length ends
    → ((r : ℕ) → r < length ends → (r ≡ lane → ⊥) → P r (get_or (map f ends) r 0)) → P lane (f end)
    → (r : ℕ) → r < length (set ends lane end) → P r (get_or (map f (set ends lane end)) r 0)
ends_set P f ends lane end inside each this r within =
    subst (λ xs. P r (get_or xs r 0)) (sym (map-set f ends lane end)) (⊎_elim here other (cases_eq r lane))
  where
    here : r ≡ lane → P r (get_or (set (map f ends) lane (f end)) r 0)
    here same =
        subst (λ q. P q (get_or (set (map f ends) lane (f end)) q 0)) (sym same)
        (subst (P lane)
        (sym (get_or-set_same (map f ends) lane (f end) 0 (subst (λ l. lane < l) (sym (length-map ends f)) inside))) this)

    other : (r ≡ lane → ⊥) → P r (get_or (set (map f ends) lane (f end)) r 0)
    other away =
        subst (P r) (sym (get_or-set_other (map f ends) lane r (f end) 0 away))
        (each r (subst (λ l. r < l) (length-set ends lane end) within) away)

-- no entries are linked, where no resource has one
pub chained_none : (entries : List Entry) (next : List ℕ) (ends : List Ends) → length ends ≤ OFF → AreNone ends
    → IsChained entries next ends 0
chained_none entries next ends few none = record {
  few = few;
  told = λ k below. absurd (omega (arith, below));
  links = λ k below. absurd (omega (arith, below));
  lasts = λ r within. record {
    here = λ below. absurd (omega (arith, below));
    after = λ k above below. absurd (omega (arith, below));
    none = λ beyond k below. absurd (omega (arith, below));
    past = λ beyond. far (λ (e : Ends). e.last) r within refl;
  };
  firsts = λ r within. none_of (map standing_key entries) (λ (e : Ends). e.first) r within refl;
  waiting = λ r within. none_of (map waiting_key entries) (λ (e : Ends). e.waiting) r within refl;
}
  where
    far : (f : Ends → ℕ) (r : ℕ) → r < length ends → f no_end ≡ NOWHERE → NOWHERE ≤ get_or (map f ends) r 0
    far f r within is = omega (arith, get_or-map f ends r no_end 0 within, ap f (none r no_end within), is)

    none_of : (keys : List ℕ) (f : Ends → ℕ) (r : ℕ) → r < length ends → f no_end ≡ NOWHERE → IsFirst keys 0 r (get_or (map f ends) r 0)
    none_of keys f r within is = record {
      here = λ below. absurd (omega (arith, below));
      least = λ k below. absurd (omega (arith, below));
      past = λ beyond. far f r within is;
    }

-- other entries and links that are seen as the same as far as they count
module _ (entries others : List Entry) (next after : List ℕ) (ends : List Ends) (n : ℕ)
    (told : (k : ℕ) → k < n → get_or (map told_key others) k 0 ≡ get_or (map told_key entries) k 0)
    (standing : (k : ℕ) → k < n → get_or (map standing_key others) k 0 ≡ get_or (map standing_key entries) k 0)
    (waits : (k : ℕ) → k < n → get_or (map waiting_key others) k 0 ≡ get_or (map waiting_key entries) k 0)
    (nexts : (k : ℕ) → k < n → get_or after k 0 ≡ get_or next k 0) where
  same_first : (keys others : List ℕ) (r h : ℕ) → ((k : ℕ) → k < n → get_or others k 0 ≡ get_or keys k 0) → IsFirst keys n r h
      → IsFirst others n r h
  same_first keys others r h same is = record {
    here = λ below. same h below ∙ is.here below;
    least = λ k below has. is.least k below (sym (same k below) ∙ has);
    past = is.past;
  }

  same_next : (r from place : ℕ) → IsNextOf (map told_key entries) n r from place → IsNextOf (map told_key others) n r from place
  same_next r from place is = record {
    after = is.after;
    here = λ below. told place below ∙ is.here below;
    between = λ k above below within has. is.between k above below within (sym (told k within) ∙ has);
    past = is.past;
  }

  pub chained_same : IsChained entries next ends n → IsChained others after ends n
  chained_same is = record {
    few = is.few;
    told = λ k below. subst (λ r. r < length ends) (sym (told k below)) (is.told k below);
    links = λ k below.
        subst (λ r. IsNextOf (map told_key others) n r k (get_or after k 0)) (sym (told k below))
        (subst (λ place. IsNextOf (map told_key others) n (get_or (map told_key entries) k 0) k place) (sym (nexts k below))
        (same_next (get_or (map told_key entries) k 0) k (get_or next k 0) (is.links k below)));
    lasts = λ r within. let last = is.lasts r within in record {
      here = λ below. told _ below ∙ last.here below;
      after = λ k above below has. last.after k above below (sym (told k below) ∙ has);
      none = λ beyond k below has. last.none beyond k below (sym (told k below) ∙ has);
      past = last.past;
    };
    firsts = λ r within. same_first (map standing_key entries) (map standing_key others) r _ standing (is.firsts r within);
    waiting = λ r within. same_first (map waiting_key entries) (map waiting_key others) r _ waits (is.waiting r within);
  }

-- the key of an entry is the resource that it was told, or none
pub standing_told : (entry : Entry) (r : ℕ) → r < OFF → standing_key entry ≡ r → told_key entry ≡ r
standing_told entry r below is = at entry.stays is
  where
    at : (stays : Bool) → cond stays (told_key entry) OFF ≡ r → told_key entry ≡ r
    at true same = same
    at false same = absurd (omega (arith, same, below))

pub waiting_told : (entry : Entry) (r : ℕ) → r < OFF → waiting_key entry ≡ r → told_key entry ≡ r
waiting_told entry r below is = at entry.stays entry.item.part.done is
  where
    at : (stays done : Bool) → cond stays (cond done OFF (told_key entry)) OFF ≡ r → told_key entry ≡ r
    at true true same = absurd (omega (arith, same, below))
    at true false same = same
    at false done same = absurd (omega (arith, same, below))

pub key_told : (waiting : Bool) (entry : Entry) (r : ℕ) → r < OFF → key_of waiting entry ≡ r → told_key entry ≡ r
key_told true entry r below is = waiting_told entry r below is
key_told false entry r below is = standing_told entry r below is

-- the key of an entry that is sought, and of one that is not
pub key_sought : (waiting : Bool) (entry : Entry) → (entry.stays && not (waiting && entry.item.part.done)) ≡ true
    → key_of waiting entry ≡ told_key entry
key_sought waiting entry is = at waiting entry.stays entry.item.part.done is
  where
    at : (waiting stays done : Bool) → (stays && not (waiting && done)) ≡ true
        → cond waiting (cond stays (cond done OFF (told_key entry)) OFF) (cond stays (told_key entry) OFF) ≡ told_key entry
    at true true true h = absurd (cc h)
    at true true false h = refl
    at true false done h = absurd (cc h)
    at false true done h = refl
    at false false done h = absurd (cc h)

pub key_passed : (waiting : Bool) (entry : Entry) → (entry.stays && not (waiting && entry.item.part.done)) ≡ false
    → key_of waiting entry ≡ OFF
key_passed waiting entry is = at waiting entry.stays entry.item.part.done is
  where
    at : (waiting stays done : Bool) → (stays && not (waiting && done)) ≡ false
        → cond waiting (cond stays (cond done OFF (told_key entry)) OFF) (cond stays (told_key entry) OFF) ≡ OFF
    at true true true h = refl
    at true true false h = absurd (cc h)
    at true false done h = refl
    at false true done h = absurd (cc h)
    at false false done h = refl

-- one entry more counts
module _ (entries : List Entry) (next : List ℕ) (ends : List Ends) (n : ℕ) (entry : Entry) (end after : Ends)
    (chained : IsChained entries next ends n) (there : slice_get entries n ≡ Some entry) (stays : entry.stays ≡ true)
    (lane : told_key entry < length ends) (read : end ≡ get_or ends (told_key entry) end) (more : n < NOWHERE) (long : n < length next)
    (nowhere : get_or next n 0 ≡ NOWHERE) (last_is : after.last ≡ n) (first_is : after.first ≡ min end.first n)
    (waiting_is : after.waiting ≡ cond entry.item.part.done end.waiting (min end.waiting n)) where
  told_at : get_or (map told_key entries) n 0 ≡ told_key entry
  told_at = seen_at told_key entries n entry there

  end_at : (f : Ends → ℕ) → get_or (map f ends) (told_key entry) 0 ≡ f end
  end_at f = get_or-map f ends (told_key entry) end 0 lane ∙ ap f (sym read)

  standing_at : get_or (map standing_key entries) n 0 ≡ told_key entry
  standing_at = seen_at standing_key entries n entry there ∙ ap (λ b. cond b (told_key entry) OFF) stays

  waiting_at : get_or (map waiting_key entries) n 0 ≡ cond entry.item.part.done OFF (told_key entry)
  waiting_at =
      seen_at waiting_key entries n entry there ∙ ap (λ b. cond b (cond entry.item.part.done OFF (told_key entry)) OFF) stays

  -- the first that waits, whether this one does or not
  first_waits : (done : Bool) → get_or (map waiting_key entries) n 0 ≡ cond done OFF (told_key entry)
      → after.waiting ≡ cond done end.waiting (min end.waiting n)
      → IsFirst (map waiting_key entries) (n + 1) (told_key entry) after.waiting
  first_waits true off is =
      subst (IsFirst (map waiting_key entries) (n + 1) (told_key entry)) (end_at (λ (e : Ends). e.waiting) ∙ sym is)
      (first_kept (map waiting_key entries) n (told_key entry) _ (chained.waiting (told_key entry) lane) more
      (λ same. absurd (omega (arith, off, same, lane, chained.few))))
  first_waits false on is =
      let old : IsFirst (map waiting_key entries) n (told_key entry) end.waiting =
      subst (IsFirst (map waiting_key entries) n (told_key entry)) (end_at (λ (e : Ends). e.waiting))
      (chained.waiting (told_key entry) lane) in
      first_met (map waiting_key entries) n (told_key entry) end.waiting old after.waiting on (λ less. omega (arith, is, less))
      (λ far. omega (arith, is, far))

  other_waits : (done : Bool) → get_or (map waiting_key entries) n 0 ≡ cond done OFF (told_key entry) → (r : ℕ) → r < length ends
      → (r ≡ told_key entry → ⊥) → get_or (map waiting_key entries) n 0 ≡ r → ⊥
  other_waits true off r within away same = absurd (omega (arith, off, same, within, chained.few))
  other_waits false on r within away same = away (sym same ∙ on)

  pub chained_joined : IsChained entries (linked next end.last n) (set ends (told_key entry) after) (n + 1)
  chained_joined = record {
    few = subst (λ l. l ≤ OFF) (sym (length-set ends (told_key entry) after)) chained.few;
    told = λ k below. subst (λ l. get_or (map told_key entries) k 0 < l) (sym (length-set ends (told_key entry) after))
        (⊎_elim (λ inside. chained.told k inside)
        (λ late. subst (λ q. get_or (map told_key entries) q 0 < length ends) (sym (omega (arith, below, late)))
        (subst (λ r. r < length ends) (sym told_at) lane)) (cases_lt k n));
    links = linked_more (map told_key entries) next n end.last chained.links
        (subst (λ r. IsLast (map told_key entries) n r end.last) (sym told_at)
        (subst (IsLast (map told_key entries) n (told_key entry)) (end_at (λ (e : Ends). e.last)) (chained.lasts (told_key entry) lane)))
        more long nowhere;
    lasts = ends_set (IsLast (map told_key entries) (n + 1)) (λ (e : Ends). e.last) ends (told_key entry) after lane
        (λ r within away. last_kept (map told_key entries) n r _ (λ same. away (sym same ∙ told_at)) more (chained.lasts r within))
        (subst (IsLast (map told_key entries) (n + 1) (told_key entry)) (sym last_is)
        (last_new (map told_key entries) n (told_key entry) told_at));
    firsts = ends_set (IsFirst (map standing_key entries) (n + 1)) (λ (e : Ends). e.first) ends (told_key entry) after lane
        (λ r within away. first_kept (map standing_key entries) n r _ (chained.firsts r within) more
        (λ same. absurd (away (sym same ∙ standing_at))))
        (first_met (map standing_key entries) n (told_key entry) end.first
        (subst (IsFirst (map standing_key entries) n (told_key entry)) (end_at (λ (e : Ends). e.first))
        (chained.firsts (told_key entry) lane)) after.first standing_at (λ less. omega (arith, first_is, less))
        (λ far. omega (arith, first_is, far)));
    waiting = ends_set (IsFirst (map waiting_key entries) (n + 1)) (λ (e : Ends). e.waiting) ends (told_key entry) after lane
        (λ r within away. first_kept (map waiting_key entries) n r _ (chained.waiting r within) more
        (λ same. absurd (other_waits entry.item.part.done waiting_at r within away same)))
        (first_waits entry.item.part.done waiting_at waiting_is);
  }

-- an entry changes, and keeps its resource
module _ (entries : List Entry) (next : List ℕ) (ends : List Ends) (n at : ℕ) (entry new : Entry) (end : Ends)
    (chained : IsChained entries next ends n) (there : slice_get entries at ≡ Some entry) (inside : at < n)
    (kept : told_key new ≡ told_key entry) (read : end ≡ get_or ends (told_key entry) end) where
  pub lane_inside : told_key entry < length ends
  lane_inside = subst (λ r. r < length ends) (seen_at told_key entries at entry there) (chained.told at inside)

  pub same_told : map told_key (set entries at new) ≡ map told_key entries
  same_told = map-set_same told_key entries at new entry (kept ∙ ap told_key (sym (get_or_from_slice_get entries at entry entry there)))

  -- where it loses a key
  module _ (f : Entry → ℕ) (g : Ends → ℕ) (off : f new ≡ OFF) (of : (r : ℕ) → r < OFF → f entry ≡ r → told_key entry ≡ r)
      (are : (r : ℕ) → r < length ends → IsFirst (map f entries) n r (get_or (map g ends) r 0)) where
    keys_left : map f (set entries at new) ≡ set (map f entries) at OFF
    keys_left = map-set f entries at new ∙ ap (set (map f entries) at) off

    long : at < length (map f entries)
    long = subst (λ l. at < l) (sym (length-map entries f)) (slice_get_within entries at entry there)

    other_first : (r : ℕ) → r < length ends → (r ≡ told_key entry → ⊥) → IsFirst (map f (set entries at new)) n r (get_or (map g ends) r 0)
    other_first r within away =
        let below : r < OFF = omega (arith, within, chained.few) in
        subst (λ keys. IsFirst keys n r (get_or (map g ends) r 0)) (sym keys_left)
        (first_of_other (map f entries) n r _ (are r within) at below long inside
        (λ same. away (sym (of r below (sym (seen_at f entries at entry there) ∙ same)))))

    pub this_was : WasFirst (map f (set entries at new)) n (told_key entry) at (g end)
    this_was =
        let old : IsFirst (map f entries) n (told_key entry) (g end) =
        subst (IsFirst (map f entries) n (told_key entry)) (get_or-map g ends (told_key entry) end 0 lane_inside ∙ ap g (sym read))
        (are (told_key entry) lane_inside) in
        subst (λ keys. WasFirst keys n (told_key entry) at (g end)) (sym keys_left)
        (was_first (map f entries) n (told_key entry) (g end) old at (omega (arith, lane_inside, chained.few)) long)

    pub firsts_lost : (after : Ends) → IsFirst (map f (set entries at new)) n (told_key entry) (g after) → (r : ℕ)
        → r < length (set ends (told_key entry) after)
        → IsFirst (map f (set entries at new)) n r (get_or (map g (set ends (told_key entry) after)) r 0)
    firsts_lost after this =
        ends_set (IsFirst (map f (set entries at new)) n) g ends (told_key entry) after lane_inside other_first this

  pub chained_changed : (after : Ends) → after.last ≡ end.last
      → ((r : ℕ) → r < length (set ends (told_key entry) after)
      → IsFirst (map standing_key (set entries at new)) n r (get_or (map (λ (e : Ends). e.first) (set ends (told_key entry) after)) r 0))
      → ((r : ℕ) → r < length (set ends (told_key entry) after)
      → IsFirst (map waiting_key (set entries at new)) n r (get_or (map (λ (e : Ends). e.waiting) (set ends (told_key entry) after)) r 0))
      → IsChained (set entries at new) next (set ends (told_key entry) after) n
  chained_changed after last_is firsts waiting = record {
    few = subst (λ l. l ≤ OFF) (sym (length-set ends (told_key entry) after)) chained.few;
    told = λ k below. subst (λ l. get_or (map told_key (set entries at new)) k 0 < l) (sym (length-set ends (told_key entry) after))
        (subst (λ told. get_or told k 0 < length ends) (sym same_told) (chained.told k below));
    links = λ k below. subst (λ told. IsNextOf told n (get_or told k 0) k (get_or next k 0)) (sym same_told) (chained.links k below);
    lasts = ends_set (IsLast (map told_key (set entries at new)) n) (λ (e : Ends). e.last) ends (told_key entry) after lane_inside
        (λ r within away. subst (λ told. IsLast told n r (get_or (map (λ (e : Ends). e.last) ends) r 0)) (sym same_told)
        (chained.lasts r within))
        (subst (λ told. IsLast told n (told_key entry) after.last) (sym same_told)
        (subst (IsLast (map told_key entries) n (told_key entry))
        (get_or-map (λ (e : Ends). e.last) ends (told_key entry) end 0 lane_inside ∙ ap (λ (e : Ends). e.last) (sym read) ∙ sym last_is)
        (chained.lasts (told_key entry) lane_inside)));
    firsts = firsts;
    waiting = waiting;
  }
