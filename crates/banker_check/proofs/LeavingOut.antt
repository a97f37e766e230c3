-- Rounds: each leaves out the parts that those of the round before do not hold up. What is left in the end is the largest stuck set.
use Rattle.std.proofs.Common.{◌≡◌, ℕ, ◌+◌, ◌≤◌, Bool, true, false, cond, List, [], ◌∷◌, length, Contains, filter, get_or, ap, refl, sym}
use Rattle.std.proofs.Common.{arith, ◌∙◌}
use Rattle.std.proofs.lemmas.Bool.{leb-true, le-leb, both_ways}
use Rattle.std.proofs.lemmas.List.Elements.{All-contains}
use Rattle.std.proofs.lemmas.List.Sums.{length-filter}
use Rattle.cell_base.specs.declared.cells.Cell.{Cell}
use Rattle.cell_base.specs.declared.requests.Part.{Part}
use Rattle.cell_base.specs.Stages.{capacity_of}
use Rattle.cell_base.specs.Policy.{HaveDistinctJobs}
use Rattle.cell_base.specs.Outcomes.{without}
use Rattle.policy_laws.proofs.Lists.{Contains-head, Contains-tail, list_any-found, list_any-Contains, list_all-Contains}
use Rattle.policy_laws.proofs.Lists.{list_all-from_Contains}
use Rattle.policy_laws.proofs.Parts.{sum_by-without}
use Rattle.banker_check.specs.declared.held.Held.{Held}
use Rattle.banker_check.specs.Ways.{way, stands_on, held, is_full, is_held_up}
use Rattle.banker_check.specs.StuckSets.{is_stuck, sublists, stuck}
use Rattle.banker_check.specs.Counts.{AreUnitsHeld, is_full_beside, is_held_up_by, counts_on}
use Rattle.banker_check.proofs.Within.{Within, Within-length, filter-kept, filter-keeps, distinct-filter, held-within}
use Rattle.banker_check.proofs.Sublists.{IsPartOf, sublists-parts, sublists-all, sublists-filter, stuck-over, stuck-most}

-- a filter that keeps less keeps fewer, and where it keeps as many it keeps the same
module _ (less more : Part → Bool) where
  filter-fewer : (parts : List Part) → ((part : Part) → Contains parts part → less part ≡ true → more part ≡ true)
      → length (filter less parts) ≤ length (filter more parts)
  filter-fewer [] each = omega arith
  filter-fewer (first ∷ parts) each =
      at (less first) (more first) refl refl (filter-fewer parts (λ part c. each part (Contains-tail first part parts c)))
    where
      at : (a b : Bool) → less first ≡ a → more first ≡ b → length (filter less parts) ≤ length (filter more parts)
          → length (cond a (first ∷ filter less parts) (filter less parts)) ≤ length
          (cond b (first ∷ filter more parts) (filter more parts))
      at true true e f later = omega (arith, later)
      at true false e f later = absurd (both_ways _ f (each first (Contains-head first parts) e))
      at false true e f later = omega (arith, later)
      at false false e f later = later

  filter-same : (parts : List Part) → ((part : Part) → Contains parts part → less part ≡ true → more part ≡ true)
      → length (filter less parts) ≡ length (filter more parts) → filter less parts ≡ filter more parts
  filter-same [] each e = refl
  filter-same (first ∷ parts) each e =
      let behind : (part : Part) → Contains parts part → less part ≡ true → more part ≡ true =
      λ part c. each part (Contains-tail first part parts c) in
      at (less first) (more first) refl refl e (filter-fewer parts behind) (filter-same parts behind)
    where
      at : (a b : Bool) → less first ≡ a → more first ≡ b
          → length (cond a (first ∷ filter less parts) (filter less parts)) ≡ length
          (cond b (first ∷ filter more parts) (filter more parts))
          → length (filter less parts) ≤ length (filter more parts)
          → (length (filter less parts) ≡ length (filter more parts) → filter less parts ≡ filter more parts)
          → cond a (first ∷ filter less parts) (filter less parts) ≡ cond b (first ∷ filter more parts) (filter more parts)
      at true true f g h fewer later = ap (λ rest. first ∷ rest) (later (omega (arith, h)))
      at true false f g h fewer later = absurd (both_ways _ g (each first (Contains-head first parts) f))
      at false true f g h fewer later = absurd (omega (arith, h, fewer))
      at false false f g h fewer later = later h

module _ (cell : Cell) where
  pub held-without : (set : List Part) (part : Part) (r : ℕ) → HaveDistinctJobs set → Contains set part
      → held cell (without set part.job) r + cond (stands_on cell r part) 1 0 ≡ held cell set r
  held-without set part r distinct c =
      omega (
        arith,
        length-filter (stands_on cell r) (without set part.job),
        length-filter (stands_on cell r) set,
        sum_by-without (λ other. cond {A = ℕ} (stands_on cell r other) 1 0) set part distinct c,
      )

  -- by the counts of more parts, a part of a set is held up where the others of the set hold it up
  pub held_up-counts : (set : List Part) (part : Part) (counts : List ℕ) → HaveDistinctJobs set → Contains set part
      → ((r : ℕ) → held cell set r ≤ get_or counts r 0) → is_held_up cell (without set part.job) part ≡ true
      → is_held_up_by cell counts part ≡ true
  held_up-counts set part counts distinct c more e =
      let full = list_any-found (is_full cell (without set part.job)) (way cell part) e in
      list_any-Contains (is_full_beside cell counts part) (way cell part) full.0 full.1
      (le-leb _ _ (omega (arith, more full.0, held-without set part full.0 distinct c, leb-true (capacity_of cell full.0) _ full.2)))

  -- and the other way round, by its own counts
  pub counts-held_up : (set : List Part) (part : Part) (counts : List ℕ) → HaveDistinctJobs set → Contains set part
      → ((r : ℕ) → get_or counts r 0 ≡ held cell set r) → is_held_up_by cell counts part ≡ true
      → is_held_up cell (without set part.job) part ≡ true
  counts-held_up set part counts distinct c same e =
      let full = list_any-found (is_full_beside cell counts part) (way cell part) e in
      list_any-Contains (is_full cell (without set part.job)) (way cell part) full.0 full.1
      (le-leb _ _ (omega (
        arith,
        same full.0,
        held-without set part full.0 distinct c,
        leb-true
            (capacity_of cell full.0 + cond (stands_on cell full.0 part) 1 0) (get_or counts full.0 0) full.2,
      )))

  -- lesser counts hold up fewer parts
  lesser-counts : (part : Part) (less more : List ℕ) → ((r : ℕ) → get_or less r 0 ≤ get_or more r 0)
      → is_held_up_by cell less part ≡ true → is_held_up_by cell more part ≡ true
  lesser-counts part less more fewer e =
      let full = list_any-found (is_full_beside cell less part) (way cell part) e in
      list_any-Contains (is_full_beside cell more part) (way cell part) full.0 full.1
      (le-leb _ _ (omega (
        arith,
        fewer full.0,
        leb-true (capacity_of cell full.0 + cond (stands_on cell full.0 part) 1 0)
            (get_or less full.0 0) full.2,
      )))

  -- the parts of a round: their counts, of whom they hold up none is left out, and no stuck set is
  pub record IsRound (parts : List Part) (test : Part → Bool) (counts : Held) : Type 0 where
    pub are : AreUnitsHeld cell (filter test parts) counts
    pub closed : (part : Part) → Contains parts part → is_held_up_by cell counts.on part ≡ true → test part ≡ true
    pub keeps : (set : List Part) → HaveDistinctJobs set → is_stuck cell set ≡ true → Within set parts → Within set (filter test parts)

  -- the first round has all parts
  pub round-first : (parts : List Part) (before : List ℕ) (counts : Held)
      → AreUnitsHeld cell (filter (counts_on cell before true) parts) counts
      → IsRound parts (counts_on cell before true) counts
  round-first parts before counts are = record {
    are = are;
    closed = λ part c e. refl;
    keeps = λ set apart stuck within part c. filter-keeps (counts_on cell before true) parts part (within part c) refl;
  }

  module _ (parts : List Part) (distinct : HaveDistinctJobs parts) (test : Part → Bool) (counts next : Held)
      (round : IsRound parts test counts)
      (are : AreUnitsHeld cell (filter (counts_on cell counts.on false) parts) next) where
    -- the test of the next round
    abbrev stays : Part → Bool
    stays = counts_on cell counts.on false

    less : Within (filter stays parts) (filter test parts)
    less part c =
        let kept = filter-kept stays parts part c in filter-keeps test parts part kept.0 (round.closed part kept.0 kept.1)

    fewer : (r : ℕ) → get_or next.on r 0 ≤ get_or counts.on r 0
    fewer r =
        omega (
          arith,
          are.each r,
          round.are.each r,
          held-within cell (filter stays parts) (filter test parts) (distinct-filter stays parts distinct) less r,
        )

    pub round-next : IsRound parts (counts_on cell counts.on false) next
    round-next = record {
      are = are;
      closed = λ part c e. lesser-counts part next.on counts.on fewer e;
      keeps = λ set apart stuck within part c.
          let inside = round.keeps set apart stuck within in
          filter-keeps stays parts part (within part c)
          (held_up-counts set part counts.on apart c
          (λ r. omega (arith, round.are.each r, held-within cell set (filter test parts) apart inside r))
          (list_all-Contains (λ part. is_held_up cell (without set part.job) part) set part stuck c));
    }

    pub round-fewer : next.parts ≤ counts.parts
    round-fewer =
        omega (arith, are.size, round.are.size, filter-fewer stays test parts (λ part c e. round.closed part c e))

    -- where none is left out, those that are left are the largest stuck set
    pub round-last : next.parts ≡ counts.parts → stuck cell parts ≡ next.parts
    round-last e = omega (arith, are.size, most, stuck-over cell parts left taken all_stuck)
      where
        left : List Part
        left = filter stays parts

        apart : HaveDistinctJobs left
        apart = distinct-filter stays parts distinct

        same : left ≡ filter test parts
        same = filter-same stays test parts (λ part c f. round.closed part c f) (omega (arith, e, are.size, round.are.size))

        all_stuck : is_stuck cell left ≡ true
        all_stuck =
            list_all-from_Contains (λ part. is_held_up cell (without left part.job) part) left (λ part c.
            counts-held_up left part counts.on apart c (λ r. round.are.each r ∙ ap (λ ps. held cell ps r) (sym same))
            (filter-kept stays parts part c).1)

        taken : Contains (sublists parts) left
        taken = All-contains (Contains (sublists parts)) (sublists left) left (sublists-filter stays parts) (sublists-all left)

        most : stuck cell parts ≤ length left
        most =
            stuck-most cell parts (length left) (λ set c f.
            let of = All-contains (IsPartOf parts) (sublists parts) set (sublists-parts parts distinct) c in
            Within-length set left of.distinct (round-next.keeps set of.distinct f of.within))
