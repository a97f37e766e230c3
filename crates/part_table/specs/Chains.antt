-- Entries that are linked by the resources that were told of them, and the first ones of each resource.
use Rattle.std.specs.Prelude.{◌≡◌, ◌≢◌, ℕ, ◌<◌, ◌≤◌, Bool, if◌then◌else◌, nat_lt, List, length, map, slice_index, slice_set}
use Rattle.std.specs.List.{All}
use Rattle.part_table.specs.declared.chain.Ends.{Ends}
use Rattle.part_table.specs.declared.link.Link.{Link}
use Rattle.part_table.specs.declared.chain.TheConstants.{NOWHERE}
use Rattle.part_table.specs.declared.standing.Entry.{Entry}
use Rattle.part_table.specs.declared.standing.Standing.{Standing}

-- what a contract sees of a chain: its entries, how many there may be, and the number of resources
pub record Chained : Type 0 where
  pub entries : List Entry
  pub room : ℕ
  pub resources : ℕ

-- the entries of links, and where each of them leads
abbrev pub link_entries : List Link → List Entry
link_entries links = map (λ link. link.entry) links

abbrev pub nexts_of : List Link → List ℕ
nexts_of links = map (λ link. link.next) links

-- no resource: past the number of each
abbrev pub OFF : ℕ
OFF = 65536

-- the resource that an entry was told
abbrev pub told_key : Entry → ℕ
told_key entry = entry.item.on.0

-- the resource on which the part of an entry stands, where it stays
abbrev pub standing_key : Entry → ℕ
standing_key entry = if entry.stays then told_key entry else OFF

-- the resource on which a part stands that is not done
abbrev pub key_of_waiting : Standing → ℕ
key_of_waiting item = if item.part.done then OFF else item.on.0

-- the same of an entry that stays
abbrev pub waiting_key : Entry → ℕ
waiting_key entry = if entry.stays then key_of_waiting entry.item else OFF

-- one of the two
abbrev pub key_of : Bool → Entry → ℕ
key_of waiting entry = if waiting then waiting_key entry else standing_key entry

-- among the first keys, the place is the first one of the key, or past every place where none has it
pub record IsFirst (keys : List ℕ) (count key place : ℕ) : Type 0 where
  pub here : place < count → slice_index keys place ≡ key
  pub least : (k : ℕ) → k < count → slice_index keys k ≡ key → place ≤ k
  pub past : count ≤ place → NOWHERE ≤ place

-- the place after a place that was told a resource, or past every place where there is none
pub record IsNextOf (told : List ℕ) (count r from place : ℕ) : Type 0 where
  pub after : from < place
  pub here : place < count → slice_index told place ≡ r
  pub between : (k : ℕ) → from < k → k < place → k < count → slice_index told k ≢ r
  pub past : count ≤ place → NOWHERE ≤ place

-- the last place that was told a resource, or one past every place where there is none
pub record IsLast (told : List ℕ) (count r place : ℕ) : Type 0 where
  pub here : place < count → slice_index told place ≡ r
  pub after : (k : ℕ) → place < k → k < count → slice_index told k ≢ r
  pub none : count ≤ place → (k : ℕ) → k < count → slice_index told k ≢ r
  pub past : count ≤ place → NOWHERE ≤ place

-- each place leads to the next one of its resource
abbrev pub LeadOn : List ℕ → List ℕ → ℕ → Type 0
LeadOn told next count = (k : ℕ) → k < count → IsNextOf told count (slice_index told k) k (slice_index next k)

-- the same of entries
abbrev pub AreLinked : List Entry → List ℕ → ℕ → Type 0
AreLinked entries next count = LeadOn (map told_key entries) next count

-- the first entries are linked, and the ends of each resource are known
pub record IsChained (entries : List Entry) (next : List ℕ) (ends : List Ends) (count : ℕ) : Type 0 where
  pub few : length ends ≤ OFF
  pub told : (k : ℕ) → k < count → slice_index (map told_key entries) k < length ends
  pub links : AreLinked entries next count
  pub lasts : (r : ℕ) → r < length ends → IsLast (map told_key entries) count r (slice_index (map (λ end. end.last) ends) r)
  pub firsts : (r : ℕ) → r < length ends → IsFirst (map standing_key entries) count r (slice_index (map (λ end. end.first) ends) r)
  pub waiting : (r : ℕ) → r < length ends → IsFirst (map waiting_key entries) count r (slice_index (map (λ end. end.waiting) ends) r)

-- the ends of a resource without entries, and of resources of which none has one
abbrev pub no_end : Ends
no_end = record { first = NOWHERE; waiting = NOWHERE; last = NOWHERE }

abbrev pub AreNone : List Ends → Type 0
AreNone ends = All (λ end. end ≡ no_end) ends

-- all entries are linked
pub record IsChain (links : List Link) (ends : List Ends) (room : ℕ) : Type 0 where
  pub within : length links ≤ room
  pub small : room < NOWHERE
  pub chained : IsChained (link_entries links) (nexts_of links) ends (length links)

-- the place after the last one, where there is one
abbrev pub linked : List ℕ → ℕ → ℕ → List ℕ
linked next last place = if nat_lt last place then slice_set next last place else next

-- none of the first keys before the place is the key, and the place was told it
pub record IsOnWay (keys told : List ℕ) (count key place : ℕ) : Type 0 where
  pub none : (k : ℕ) → k < place → k < count → slice_index keys k ≢ key
  pub here : place < count → slice_index told place ≡ key

-- a first place that may have lost its key
pub record WasFirst (keys : List ℕ) (count key lost place : ℕ) : Type 0 where
  pub here : place ≡ lost → (k : ℕ) → k ≤ lost → k < count → slice_index keys k ≢ key
  pub other : place ≢ lost → IsFirst keys count key place
