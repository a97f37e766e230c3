-- The way along the links to the next entry that is sought.
use Rattle.std.proofs.Common.{◌≡◌, ℕ, zero, suc, ◌-◌, ◌<◌, ◌&&◌, not, Bool, true, false, cond, List, [], ◌∷◌, length, map, filter, All}
use Rattle.std.proofs.Common.{Some, slice_get, get_or, set, subst, sym, ap, arith, ◌∙◌, refl, get_or-set_other}
use Rattle.std.proofs.Math.Seq.{map-set_same}
use Rattle.std.proofs.lemmas.List.{get_or-map, length-map, map-set}
use Rattle.std.proofs.lemmas.Option.{slice_get_within, get_or_from_slice_get}
use Rattle.part_table.specs.declared.chain.Ends.{Ends}
use Rattle.part_table.specs.declared.link.Link.{Link}
use Rattle.part_table.specs.declared.standing.Entry.{Entry}
use Rattle.part_table.specs.Chains.{OFF, link_entries, nexts_of, told_key, key_of, IsFirst, WasFirst}
use Rattle.part_table.specs.Chains.{IsOnWay, AreLinked, IsChained, IsChain}
use Rattle.part_table.proofs.Chains.{key_told, key_sought, key_passed, chained_same}
use Rattle.part_table.proofs.Firsts.{way_from, way_on, way_found}

-- what was read of the links at a place
pub entry_read : (links : List Link) (i : ℕ) (link : Link) → i < length links → link ≡ get_or links i link
    → slice_get (link_entries links) i ≡ Some link.entry
entry_read [] i link below is = absurd (omega arith)
entry_read (y ∷ ys) zero link below is = ap (λ (x : Link). Some x.entry) (sym is)
entry_read (y ∷ ys) (suc i) link below is = entry_read ys i link (omega arith) is

seen_key : (f : Entry → ℕ) (links : List Link) (k : ℕ) (d : Link) → k < length links
    → get_or (map f (link_entries links)) k 0 ≡ f (get_or links k d).entry
seen_key f links k d inside =
    get_or-map f (link_entries links) k d.entry 0 (subst (λ l. k < l) (sym (length-map links (λ (link : Link). link.entry))) inside)
    ∙ ap f (get_or-map (λ (link : Link). link.entry) links k d d.entry inside)

pub seen_next : (links : List Link) (k : ℕ) (d : Link) → k < length links → get_or (nexts_of links) k 0 ≡ (get_or links k d).next
seen_next links k d inside = get_or-map (λ (link : Link). link.next) links k d 0 inside

-- a link that leads elsewhere
module _ (links : List Link) (at : ℕ) (old : Link) (place : ℕ) (read : old ≡ get_or links at old) where
  pub same_entries : link_entries (set links at (record old { next = place })) ≡ link_entries links
  same_entries =
      map-set_same (λ (link : Link). link.entry) links at (record old { next = place }) old (ap (λ (link : Link). link.entry) read)

  pub next_set : nexts_of (set links at (record old { next = place })) ≡ set (nexts_of links) at place
  next_set = map-set (λ (link : Link). link.next) links at (record old { next = place })

  pub chained_apart : (ends : List Ends) → IsChained (link_entries links) (nexts_of links) ends at
      → IsChained (link_entries (set links at (record old { next = place })))
      (nexts_of (set links at (record old { next = place }))) ends at
  chained_apart ends chained =
      rw (same_entries, next_set)
      (chained_same (link_entries links) (link_entries links) (nexts_of links) (set (nexts_of links) at place) ends at (λ k below. refl)
      (λ k below. refl) (λ k below. refl)
      (λ k below. get_or-set_other (nexts_of links) at k place 0 (λ same. absurd (omega (arith, same, below)))) chained)

-- an entry that changes keeps its link
module _ (links : List Link) (at : ℕ) (old : Link) (entry : Entry) (read : old ≡ get_or links at old) where
  pub entry_set : link_entries (set links at (record old { entry = entry })) ≡ set (link_entries links) at entry
  entry_set = map-set (λ (link : Link). link.entry) links at (record old { entry = entry })

  pub same_nexts : nexts_of (set links at (record old { entry = entry })) ≡ nexts_of links
  same_nexts =
      map-set_same (λ (link : Link). link.next) links at (record old { entry = entry }) old (ap (λ (link : Link). link.next) read)

-- what holds of all entries holds of one
pub all_at : (P : Entry → Type 0) (entries : List Entry) (k : ℕ) (entry : Entry) → All P entries → slice_get entries k ≡ Some entry
    → P entry
all_at P entries k entry all there =
    subst P (get_or_from_slice_get entries k entry entry there) (all k entry (slice_get_within entries k entry there))

-- each entry was told a resource
pub all_told : (links : List Link) (ends : List Ends) (room : ℕ) → IsChain links ends room
    → All (λ (entry : Entry). told_key entry < length ends) (link_entries links)
all_told links ends room chain k d within =
    let inside : k < length links = subst (λ l. k < l) (length-map links (λ (link : Link). link.entry)) within in
    subst (λ r. r < length ends) (get_or-map told_key (link_entries links) k d 0 within) (chain.chained.told k inside)

-- the entries of the links that stay
pub entries_kept : (links : List Link)
    → link_entries (filter (λ (link : Link). link.entry.stays) links) ≡ filter (λ (entry : Entry). entry.stays) (link_entries links)
entries_kept [] = refl
entries_kept (y ∷ ys) = at y.entry.stays (entries_kept ys)
  where
    at : (b : Bool) → link_entries (filter (λ (link : Link). link.entry.stays) ys)
        ≡ filter (λ (entry : Entry). entry.stays) (link_entries ys)
        → link_entries (cond b (y ∷ filter (λ (link : Link). link.entry.stays) ys) (filter (λ (link : Link). link.entry.stays) ys))
        ≡ cond b (y.entry ∷ filter (λ (entry : Entry). entry.stays) (link_entries ys))
        (filter (λ (entry : Entry). entry.stays) (link_entries ys))
    at true rest = ap (λ entries. y.entry ∷ entries) rest
    at false rest = rest

-- a place that has the key was told it
keys_told : (waiting : Bool) (entries : List Entry) (r : ℕ) → r < OFF → (k : ℕ) → k < length entries
    → get_or (map (key_of waiting) entries) k 0 ≡ r → get_or (map told_key entries) k 0 ≡ r
keys_told waiting [] r below k inside is = absurd (omega (arith, inside))
keys_told waiting (y ∷ ys) r below zero inside is = key_told waiting y r below is
keys_told waiting (y ∷ ys) r below (suc k) inside is = keys_told waiting ys r below k (omega (arith, inside)) is

module _ (links : List Link) (waiting : Bool) (r at : ℕ) (d : Link) (below : r < OFF) (inside : at < length links)
    (linked : AreLinked (link_entries links) (nexts_of links) (length links)) where
  abbrev keys : List ℕ
  keys = map (key_of waiting) (link_entries links)

  abbrev told : List ℕ
  told = map told_key (link_entries links)

  kept : (k : ℕ) → k < length links → get_or (map (key_of waiting) (link_entries links)) k 0 ≡ r
      → get_or (map told_key (link_entries links)) k 0 ≡ r
  kept k within =
      keys_told waiting (link_entries links) r below k (subst (λ l. k < l) (sym (length-map links (λ (link : Link). link.entry))) within)

  pub passed_on : IsOnWay keys told (length links) r at
      → ((get_or links at d).entry.stays && not (waiting && (get_or links at d).entry.item.part.done)) ≡ false
      → IsOnWay keys told (length links) r (get_or links at d).next
  passed_on way passed =
      subst (IsOnWay keys told (length links) r) (seen_next links at d inside)
      (way_on keys told (nexts_of links) (length links) r kept linked at inside way
      (λ is. absurd (omega (
        arith,
        below,
        is,
        seen_key (key_of waiting) links at d inside,
        key_passed waiting (get_or links at d).entry passed,
      ))))

  pub found_at : IsOnWay keys told (length links) r at
      → ((get_or links at d).entry.stays && not (waiting && (get_or links at d).entry.item.part.done)) ≡ true
      → IsFirst keys (length links) r at
  found_at way sought =
      way_found keys told (length links) r at way inside
      (seen_key (key_of waiting) links at d inside ∙ key_sought waiting (get_or links at d).entry sought
      ∙ sym (seen_key told_key links at d inside) ∙ way.here inside)

  pub after_lost : (first : ℕ) → first ≡ at → get_or told at 0 ≡ r → WasFirst keys (length links) r at first
      → IsOnWay keys told (length links) r (get_or links at d).next
  after_lost first same here was =
      subst (IsOnWay keys told (length links) r) (seen_next links at d inside)
      (way_from keys told (nexts_of links) (length links) r kept linked at inside here (was.here same))

  pub goes_on : length links - (get_or links at d).next < length links - at
  goes_on =
      let after : at < (get_or links at d).next = subst (λ next. at < next) (seen_next links at d inside) (linked at inside).after in
      omega (arith, after, inside)
