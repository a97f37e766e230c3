-- Greed loses nothing: a part that could be first holds up no other one, so the order in which such parts are taken out does not matter.
use Rattle.std.proofs.Common.{◌≡◌, ◌≢◌, ℕ, zero, suc, ◌<◌, ◌≤◌, Bool, true, false, not, List, [], ◌∷◌, length, Contains, ap, refl, sym}
use Rattle.std.proofs.Common.{subst, ⊎_elim, arith}
use Rattle.std.specs.List.{list_all}
use Rattle.std.proofs.lemmas.Bool.{leb-true, leb-false, false_from_ne_true, both_ways, not-true, not_from_false, and_cases}
use Rattle.std.proofs.lemmas.List.Elements.{All-contains}
use Rattle.std.proofs.lemmas.List.Kept.{AllPairs-cons}
use Rattle.cell_base.specs.declared.cells.Cell.{Cell}
use Rattle.cell_base.specs.declared.requests.JobId.{JobId}
use Rattle.cell_base.specs.declared.requests.Part.{Part}
use Rattle.cell_base.specs.Stages.{capacity_of}
use Rattle.cell_base.specs.Policy.{is_of_job, HaveDistinctJobs}
use Rattle.cell_base.specs.Outcomes.{without}
use Rattle.policy_laws.proofs.Lists.{Contains-head, Contains-tail, Contains-cases, list_any-found, list_any-Contains, list_all-Contains}
use Rattle.policy_laws.proofs.Lists.{All-from_Contains}
use Rattle.policy_laws.proofs.Parts.{is_of_job-same, IsOther, distinct_after, distinct-without, without-others}
use Rattle.policy_laws.proofs.States.{IsState-without}
use Rattle.banker_check.specs.Ways.{way, held, is_full, is_held_up, CanRun}
use Rattle.banker_check.specs.StuckSets.{is_stuck, sublists, stuck}
use Rattle.banker_check.specs.Orders.{RunInTurn, IsOrder, IsOrdered}
use Rattle.banker_check.specs.HybridPlans.{goes_first}
use Rattle.banker_check.specs.Laws.{TakesOut, GreedLaw, FirstLaw}
use Rattle.banker_check.proofs.Within.{Within, Within-filter, Within-length, without-kept, without-keeps, without-fewer, without-first}
use Rattle.banker_check.proofs.Within.{one_of_job, held-within, held_up-within, free-within}
use Rattle.banker_check.proofs.Sublists.{IsPartOf, sublists-parts, sublists-all, sublists-filter, stuck-over, stuck-most}

-- some element fails
list_all-fails : {X : Type 0} (p : X → Bool) (xs : List X) → list_all p xs ≡ false → (x : X) × Contains xs x × (p x ≡ false)
list_all-fails p [] e = absurd (both_ways true e refl)
list_all-fails p (x ∷ xs) e =
    ⊎_elim (λ h. (x, Contains-head x xs, h)) (λ h. let later = list_all-fails p xs h in
    (later.0, Contains-tail x later.0 xs later.1, later.2))
    (and_cases (p x) (list_all p xs) e)

module _ (cell : Cell) where
  -- who is not held up can run
  pub free-runs : (others : List Part) (part : Part) → is_held_up cell others part ≡ false → CanRun cell others part
  free-runs others part e =
      All-from_Contains (λ r. held cell others r < capacity_of cell r) (way cell part)
      (λ r c. leb-false (capacity_of cell r) (held cell others r)
      (false_from_ne_true _ (λ full. both_ways _ e (list_any-Contains (is_full cell others) (way cell part) r c full))))

  pub runs-free : (others : List Part) (part : Part) → CanRun cell others part → is_held_up cell others part ≡ false
  runs-free others part runs =
      false_from_ne_true _ (λ e.
      let full = list_any-found (is_full cell others) (way cell part) e in
      let room : held cell others full.0 < capacity_of cell full.0 =
      All-contains (λ r. held cell others r < capacity_of cell r) (way cell part) full.0 runs full.1 in
      absurd (omega (arith, room, leb-true (capacity_of cell full.0) (held cell others full.0) full.2)))

  -- a stuck set is left as it is where a part is taken out that could be first
  pub stays : (parts set : List Part) (part : Part) → HaveDistinctJobs parts → HaveDistinctJobs set → is_stuck cell set ≡ true
      → Within set parts → Contains parts part → is_held_up cell (without parts part.job) part ≡ false → Within set (without parts part.job)
  stays parts set part distinct apart stuck within c free other d = at (is_of_job part.job other) refl
    where
      at : (b : Bool) → is_of_job part.job other ≡ b → Contains (without parts part.job) other
      at false e = without-keeps parts part.job other (within other d) e
      at true e =
          let same : part ≡ other = one_of_job parts part other distinct c (within other d) e in
          let inside : Contains set part = subst (Contains set) (sym same) d in
          let held_up : is_held_up cell (without set part.job) part ≡ true =
          list_all-Contains (λ part. is_held_up cell (without set part.job) part) set part stuck inside in
          absurd (both_ways _ free
          (held_up-within cell (without set part.job) (without parts part.job) (distinct-without set part.job apart)
          (Within-filter (λ other. not (is_of_job part.job other)) set parts within) part held_up))

  -- parts that can run in turn have no stuck set
  pub turns-loose : (list set : List Part) → HaveDistinctJobs list → RunInTurn cell list → HaveDistinctJobs set → is_stuck cell set ≡ true
      → Within set list → length set ≤ 0
  turns-loose [] set distinct turns apart stuck within = Within-length set [] apart within
  turns-loose (first ∷ behind) set distinct turns apart stuck within =
      let left = without-first first behind distinct in
      let free = free-within cell (without (first ∷ behind) first.job) behind
      (distinct-without (first ∷ behind) first.job distinct) left first
      (runs-free behind first turns.0) in
      let kept = stays (first ∷ behind) set first distinct apart stuck within (Contains-head first behind) free in
      turns-loose behind set (distinct_after first behind distinct) turns.1 apart stuck (λ part c. left part (kept part c))

  -- no set of the parts is stuck but the empty one
  abbrev pub IsLoose : List Part → Type 0
  IsLoose parts = (set : List Part) → Contains (sublists parts) set → is_stuck cell set ≡ true → length set ≤ 0

  pub loose-without : (parts : List Part) (job : JobId) → IsLoose parts → IsLoose (without parts job)
  loose-without parts job loose set c stuck =
      loose set
      (All-contains (Contains (sublists parts)) (sublists (without parts job)) set
      (sublists-filter (λ part. not (is_of_job job part)) parts) c) stuck

  -- such parts, if there are any, have one that could be first
  pub loose-first : (first : Part) (parts : List Part) → IsLoose (first ∷ parts)
      → (part : Part) × Contains (first ∷ parts) part × (is_held_up cell (without (first ∷ parts) part.job) part ≡ false)
  loose-first first parts loose =
      list_all-fails (λ part. is_held_up cell (without (first ∷ parts) part.job) part) (first ∷ parts)
      (false_from_ne_true _ (λ stuck. absurd (omega (arith, loose (first ∷ parts) (sublists-all (first ∷ parts)) stuck))))

  -- it stands before an order of the others
  pub order-cons : (parts behind : List Part) (part : Part) → HaveDistinctJobs parts → Contains parts part
      → is_held_up cell (without parts part.job) part ≡ false → IsOrder cell (without parts part.job) behind → IsOrder cell parts
      (part ∷ behind)
  order-cons parts behind part distinct c free order = record {
    listing = record {
      distinct = AllPairs-cons (λ a b. a.job ≢ b.job) part behind
          (All-from_Contains (IsOther part.job) behind
          (λ other d. All-contains (IsOther part.job) (without parts part.job) other (without-others parts part.job)
          ((order.listing.same other).0 d)))
          order.listing.distinct;
      same = λ other. (there other, back other);
    };
    turns = (
      free-runs behind part
          (free-within cell behind (without parts part.job) order.listing.distinct (λ other d. (order.listing.same other).0 d) part free),
      order.turns,
    );
  }
    where
      there : (other : Part) → Contains (part ∷ behind) other → Contains parts other
      there other d =
          ⊎_elim (λ same. subst (Contains parts) same c) (λ h. (without-kept parts part.job other ((order.listing.same other).0 h)).0)
          (Contains-cases part other behind d)

      back : (other : Part) → Contains parts other → Contains (part ∷ behind) other
      back other d = at (is_of_job part.job other) refl
        where
          at : (b : Bool) → is_of_job part.job other ≡ b → Contains (part ∷ behind) other
          at true e =
              subst (Contains (part ∷ behind)) (one_of_job parts part other distinct c d e) (Contains-head part behind)
          at false e = Contains-tail part other behind ((order.listing.same other).1 (without-keeps parts part.job other d e))

  order-of : (n : ℕ) (parts : List Part) → length parts ≤ n → HaveDistinctJobs parts → IsLoose parts → (list : List Part)
      × IsOrder cell parts list
  order-of n [] few distinct loose =
      ([], record { listing = record { distinct = distinct; same = λ part. (λ c. c, λ c. c) }; turns = tt })
  order-of zero (first ∷ parts) few distinct loose = absurd (omega (arith, few))
  order-of (suc n) (first ∷ parts) few distinct loose =
      let all : List Part = first ∷ parts in
      let pick = loose-first first parts loose in
      let later = order-of n (without all pick.0.job) (omega (arith, few, without-fewer all pick.0 pick.1))
      (distinct-without all pick.0.job distinct) (loose-without all pick.0.job loose) in
      (pick.0 ∷ later.0, order-cons all later.0 pick.0 distinct pick.1 pick.2 later.1)

  pub loose-order : (parts : List Part) → HaveDistinctJobs parts → IsLoose parts → (list : List Part) × IsOrder cell parts list
  loose-order parts distinct loose = order-of (length parts) parts (omega arith) distinct loose

  pub ordered-loose : (parts : List Part) → IsOrdered cell parts → IsLoose parts
  ordered-loose parts ordered set c stuck =
      let part_of_it = All-contains (IsPartOf parts) (sublists parts) set (sublists-parts parts ordered.state.distinct) c in
      let order = ordered.order.1 in
      turns-loose ordered.order.0 set order.listing.distinct order.turns part_of_it.distinct stuck
      (λ part d. (order.listing.same part).1 (part_of_it.within part d))

  pub loose-stuck : (parts : List Part) → IsLoose parts → stuck cell parts ≡ 0
  loose-stuck parts loose = omega (arith, stuck-most cell parts 0 loose)

  pub stuck-loose : (parts : List Part) → stuck cell parts ≡ 0 → IsLoose parts
  stuck-loose parts e set c f = omega (arith, e, stuck-over cell parts set c f)

  -- a state stays ordered where a part is taken out
  pub ordered-without : (parts : List Part) (job : JobId) → IsOrdered cell parts → IsOrdered cell (without parts job)
  ordered-without parts job ordered = record {
    state = IsState-without cell parts job ordered.state;
    within = λ r h. omega (
      arith,
      ordered.within r h,
      held-within cell (without parts job) parts (distinct-without parts job ordered.state.distinct)
          (λ part c. (without-kept parts job part c).0) r,
    );
    order = loose-order (without parts job) (distinct-without parts job ordered.state.distinct)
        (loose-without parts job (ordered-loose parts ordered));
  }

  -- what greed leaves
  record IsLeft (parts left : List Part) : Type 0 where
    pub taken : Contains (sublists parts) left
    pub stuck : is_stuck cell left ≡ true
    pub holds : (set : List Part) → HaveDistinctJobs set → is_stuck cell set ≡ true → Within set parts → Within set left

  greed-left : (taken parts left : List Part) → HaveDistinctJobs parts → TakesOut cell parts taken left → IsLeft parts left
  greed-left [] parts left distinct takes = record {
    taken = subst (Contains (sublists parts)) takes.0 (sublists-all parts);
    stuck = takes.1;
    holds = λ set apart stuck within. subst (Within set) takes.0 within;
  }
  greed-left (part ∷ taken) parts left distinct takes =
      let free = not-true _ takes.1 in
      let later = greed-left taken (without parts part.job) left (distinct-without parts part.job distinct) takes.2 in
      record {
        taken = All-contains (Contains (sublists parts)) (sublists (without parts part.job)) left
            (sublists-filter (λ other. not (is_of_job part.job other)) parts) later.taken;
        stuck = later.stuck;
        holds = λ set apart stuck within.
            later.holds set apart stuck (stays parts set part distinct apart stuck within takes.0 free);
      }

  pub greed_law : GreedLaw cell
  greed_law = record {
    harmless = λ parts part ordered c goes. ordered-without parts part.job ordered;
    leaves = λ parts taken left distinct takes.
        let rest = greed-left taken parts left distinct takes in
        let most = stuck-most cell parts (length left) (λ set c stuck.
        let of = All-contains (IsPartOf parts) (sublists parts) set (sublists-parts parts distinct) c in
        Within-length set left of.distinct (rest.holds set of.distinct stuck of.within)) in
        omega (arith, most, stuck-over cell parts left rest.taken rest.stuck);
    holds = λ parts taken left set distinct takes c stuck.
        let of = All-contains (IsPartOf parts) (sublists parts) set (sublists-parts parts distinct) c in
        (greed-left taken parts left distinct takes).holds set of.distinct stuck of.within;
  }

  pub first_law : FirstLaw cell
  first_law parts part ordered c = (there, back)
    where
      there : goes_first cell parts part ≡ true → (behind : List Part) × IsOrder cell parts (part ∷ behind)
      there goes =
          let left = ordered-without parts part.job ordered in
          (left.order.0, order-cons parts left.order.0 part ordered.state.distinct c (not-true _ goes) left.order.1)

      back : (behind : List Part) × IsOrder cell parts (part ∷ behind) → goes_first cell parts part ≡ true
      back (behind, order) =
          not_from_false _
          (free-within cell (without parts part.job) behind (distinct-without parts part.job ordered.state.distinct) left part
          (runs-free behind part order.turns.0))
        where
          left : Within (without parts part.job) behind
          left other d =
              let kept = without-kept parts part.job other d in
              ⊎_elim (λ same. absurd (both_ways _ kept.1 (is_of_job-same part.job other (ap (λ (p : Part). p.job) same)))) (λ h. h)
              (Contains-cases part other behind ((order.listing.same other).1 kept.0))
