-- A chain of which one entry changes, and keeps its resource.
use Rattle.std.proofs.Common.{◌≡◌, ℕ, ◌<◌, ◌≤◌, Bool, true, false, cond, List, length, map, refl}
use Rattle.std.proofs.Common.{Some, slice_get, get_or, set, subst, sym, ap, ◌∙◌, length-set, arith}
use Rattle.std.proofs.Math.Seq.{map-set_same}
use Rattle.std.proofs.lemmas.List.{get_or-map, length-map}
use Rattle.std.proofs.lemmas.Option.{same_Some, get_or_from_slice_get}
use Rattle.part_table.specs.declared.chain.Ends.{Ends}
use Rattle.part_table.specs.declared.link.Link.{Link}
use Rattle.part_table.specs.declared.standing.Entry.{Entry}
use Rattle.part_table.specs.Chains.{OFF, link_entries, nexts_of, told_key, standing_key, waiting_key}
use Rattle.part_table.specs.Chains.{IsFirst, WasFirst, IsNextOf, AreLinked, IsChain}
use Rattle.part_table.specs.Logs.{gone_entry, done_entry, with_slot}
use Rattle.part_table.proofs.Chains.{seen_at, standing_told, waiting_told, this_was, firsts_lost}
use Rattle.part_table.proofs.Chains.{chained_changed, chained_same}
use Rattle.part_table.proofs.Seeking.{entry_read, entry_set, same_nexts}

-- a place of an entry is one of a link
pub inside_links : (links : List Link) (at : ℕ) → at < length (link_entries links) → at < length links
inside_links links at = subst (λ l. at < l) (length-map links (λ (link : Link). link.entry))

-- the first place of a key, read at the end of its resource
module _ (links : List Link) (ends : List Ends) (key : Entry → ℕ) (g : Ends → ℕ) (on : ℕ) (end : Ends)
    (inside : on < length ends) (read : end ≡ get_or ends on end)
    (are : (r : ℕ) → r < length ends → IsFirst (map key (link_entries links)) (length links) r (get_or (map g ends) r 0)) where
  first_read : IsFirst (map key (link_entries links)) (length links) on (g end)
  first_read =
      subst (IsFirst (map key (link_entries links)) (length links) on) (get_or-map g ends on end 0 inside ∙ ap g (sym read)) (are on inside)

  pub some_read : g end < length links
      → (g end < length (link_entries links)) × IsFirst (map key (link_entries links)) (length (link_entries links)) on (g end)
  some_read below = rw (length-map links (λ (link : Link). link.entry)) (below, first_read)

  pub none_read : length links ≤ g end → (k : ℕ) → k < length (link_entries links) → get_or (map key (link_entries links)) k 0 ≡ on → ⊥
  none_read beyond k within is =
      let below = inside_links links k within in
      absurd (omega (arith, first_read.least k below is, below, beyond))

module _ (links : List Link) (ends : List Ends) (room at : ℕ) (old : Link) (chain : IsChain links ends room) (inside : at < length links)
    (read : old ≡ get_or links at old) where
  there : slice_get (link_entries links) at ≡ Some old.entry
  there = entry_read links at old inside read

  -- the entry that was read is the one that stands there
  pub entry_same : (entry : Entry) → slice_get (link_entries links) at ≡ Some entry → old.entry ≡ entry
  entry_same entry is = same_Some old.entry entry (sym there ∙ is)

  pub lane_of : told_key old.entry < length ends
  lane_of =
      subst (λ r. r < length ends) (seen_at told_key (link_entries links) at old.entry there) (chain.chained.told at inside)

  -- a change that no key shows
  same_key : (f : Entry → ℕ) (new : Entry) → f new ≡ f old.entry → map f (set (link_entries links) at new) ≡ map f (link_entries links)
  same_key f new same =
      map-set_same f (link_entries links) at new old.entry
      (same ∙ ap f (sym (get_or_from_slice_get (link_entries links) at old.entry old.entry there)))

  pub chain_with_slot : (slot : ℕ) → IsChain (set links at (record old { entry = with_slot old.entry slot })) ends room
  chain_with_slot slot =
      let new = with_slot old.entry slot in
      let seen : (f : Entry → ℕ) → f new ≡ f old.entry → (k : ℕ) → k < length links
      → get_or (map f (set (link_entries links) at new)) k 0 ≡ get_or (map f (link_entries links)) k 0 =
      λ f same k below. ap (λ keys. get_or keys k 0) (same_key f new same) in
      record {
        within = subst (λ l. l ≤ room) (sym (length-set links at (record old { entry = new }))) chain.within;
        small = chain.small;
        chained = rw (entry_set links at old new read, same_nexts links at old new read, length-set links at (record old { entry = new }))
            (chained_same (link_entries links) (set (link_entries links) at new) (nexts_of links) (nexts_of links) ends (length links)
            (seen told_key refl) (seen standing_key refl) (seen waiting_key refl) (λ k below. refl) chain.chained);
      }

  -- links keep what they lead to
  module _ (new : Entry) (kept : told_key new ≡ told_key old.entry) where
    pub told_still : get_or (map told_key (link_entries (set links at (record old { entry = new })))) at 0 ≡ told_key old.entry
    told_still =
        rw (entry_set links at old new read, same_key told_key new kept) (seen_at told_key (link_entries links) at old.entry there)

    pub linked_still : AreLinked (link_entries (set links at (record old { entry = new })))
        (nexts_of (set links at (record old { entry = new }))) (length (set links at (record old { entry = new })))
    linked_still =
        rw (entry_set links at old new read, same_nexts links at old new read, length-set links at (record old { entry = new }))
        (λ k below. subst (λ told. IsNextOf told (length links) (get_or told k 0) k (get_or (nexts_of links) k 0))
        (sym (same_key told_key new kept)) (chain.chained.links k below))

  -- the first places of the entry's resource, where it may have been one of them
  module _ (end : Ends) (found : end ≡ get_or ends (told_key old.entry) end) where
    abbrev IsNext : (Entry → ℕ) → Entry → ℕ → ℕ → Type 0
    IsNext f new before after =
        WasFirst (map f (link_entries (set links at (record old { entry = new })))) (length (set links at (record old { entry = new })))
        (told_key old.entry) at before
        → IsFirst (map f (link_entries (set links at (record old { entry = new })))) (length (set links at (record old { entry = new })))
        (told_key old.entry) after

    -- the next one, where the key of the entry is lost
    next_first : (f : Entry → ℕ) (g : Ends → ℕ) (new : Entry) (after : ℕ) → told_key new ≡ told_key old.entry → f new ≡ OFF
        → ((r : ℕ) → r < OFF → f old.entry ≡ r → told_key old.entry ≡ r)
        → ((r : ℕ) → r < length ends → IsFirst (map f (link_entries links)) (length links) r (get_or (map g ends) r 0))
        → IsNext f new (g end) after → IsFirst (map f (set (link_entries links) at new)) (length links) (told_key old.entry) after
    next_first f g new after kept off of are next =
        subst (λ n. WasFirst (map f (set (link_entries links) at new)) n (told_key old.entry) at (g end)
        → IsFirst (map f (set (link_entries links) at new)) n (told_key old.entry) after)
        (length-set links at (record old { entry = new }))
        (subst (λ entries. WasFirst (map f entries) (length (set links at (record old { entry = new }))) (told_key old.entry) at (g end)
        → IsFirst (map f entries) (length (set links at (record old { entry = new }))) (told_key old.entry) after)
        (entry_set links at old new read) next)
        (this_was (link_entries links) (nexts_of links) ends (length links) at old.entry new end chain.chained there inside kept found f g
        off of are)

    done_off : (stays : Bool) → cond stays OFF OFF ≡ OFF
    done_off true = refl
    done_off false = refl

    chain_changed : (new : Entry) (after : Ends) → told_key new ≡ told_key old.entry → after.last ≡ end.last
        → ((r : ℕ) → r < length (set ends (told_key old.entry) after) → IsFirst (map standing_key (set (link_entries links) at new))
        (length links) r (get_or (map (λ (e : Ends). e.first) (set ends (told_key old.entry) after)) r 0))
        → ((r : ℕ) → r < length (set ends (told_key old.entry) after) → IsFirst (map waiting_key (set (link_entries links) at new))
        (length links) r (get_or (map (λ (e : Ends). e.waiting) (set ends (told_key old.entry) after)) r 0))
        → IsChain (set links at (record old { entry = new })) (set ends (told_key old.entry) after) room
    chain_changed new after kept last_is firsts waiting = record {
      within = subst (λ l. l ≤ room) (sym (length-set links at (record old { entry = new }))) chain.within;
      small = chain.small;
      chained = rw (entry_set links at old new read, same_nexts links at old new read, length-set links at (record old { entry = new }))
          (chained_changed (link_entries links) (nexts_of links) ends (length links) at old.entry new end chain.chained there inside kept
          found after last_is firsts waiting);
    }

    pub chain_gone : (after : Ends) → after.last ≡ end.last → IsNext standing_key (gone_entry old.entry) end.first after.first
        → IsNext waiting_key (gone_entry old.entry) end.waiting after.waiting
        → IsChain (set links at (record old { entry = gone_entry old.entry })) (set ends (told_key old.entry) after) room
    chain_gone after last_is first waiting =
        let new = gone_entry old.entry in
        chain_changed new after refl last_is
        (firsts_lost (link_entries links) (nexts_of links) ends (length links) at old.entry new end chain.chained there inside refl found
        standing_key (λ (e : Ends). e.first) refl (standing_told old.entry) chain.chained.firsts after
        (next_first standing_key (λ (e : Ends). e.first) new after.first refl refl (standing_told old.entry) chain.chained.firsts first))
        (firsts_lost (link_entries links) (nexts_of links) ends (length links) at old.entry new end chain.chained there inside refl found
        waiting_key (λ (e : Ends). e.waiting) refl (waiting_told old.entry) chain.chained.waiting after
        (next_first waiting_key (λ (e : Ends). e.waiting) new after.waiting refl refl (waiting_told old.entry) chain.chained.waiting
        waiting))

    pub chain_done : (after : Ends) → after.last ≡ end.last → after.first ≡ end.first
        → IsNext waiting_key (done_entry old.entry) end.waiting after.waiting
        → IsChain (set links at (record old { entry = done_entry old.entry })) (set ends (told_key old.entry) after) room
    chain_done after last_is first_is waiting =
        let new = done_entry old.entry in
        let first_of = λ (e : Ends). e.first in
        let same_ends : map (λ (e : Ends). e.first) (set ends (told_key old.entry) after) ≡ map (λ (e : Ends). e.first) ends =
        map-set_same (λ (e : Ends). e.first) ends (told_key old.entry) after end (first_is ∙ ap (λ (e : Ends). e.first) found) in
        chain_changed new after refl last_is
        (λ r within. rw (same_key standing_key new refl, same_ends)
        (chain.chained.firsts r (subst (λ l. r < l) (length-set ends (told_key old.entry) after) within)))
        (firsts_lost (link_entries links) (nexts_of links) ends (length links) at old.entry new end chain.chained there inside refl found
        waiting_key (λ (e : Ends). e.waiting) (done_off old.entry.stays) (waiting_told old.entry) chain.chained.waiting after
        (next_first waiting_key (λ (e : Ends). e.waiting) new after.waiting refl (done_off old.entry.stays) (waiting_told old.entry)
        chain.chained.waiting waiting))
