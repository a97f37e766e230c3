-- Parts that are taken out round by round, all that could be first at a time: what is left, and the orders of both.
use Rattle.std.proofs.Common.{◌≡◌, ◌≢◌, Bool, true, false, cond, not, List, [], ◌∷◌, ◌++◌, length, map, All, Contains, filter, find}
use Rattle.std.proofs.Common.{None, refl, ap, sym, subst, ⊎_elim, arith, ◌∙◌}
use Rattle.std.proofs.lemmas.Bool.{not-true, not_from_false, both_ways}
use Rattle.std.proofs.lemmas.List.{append_assoc, append-nil, map-append}
use Rattle.std.proofs.lemmas.List.Elements.{All-nil, All-cons, All-contains, All-filter, All-weaker, Contains-append_left}
use Rattle.std.proofs.lemmas.List.Elements.{Contains-append_right, Contains-append_cases}
use Rattle.std.proofs.lemmas.List.Kept.{AllPairs-cons}
use Rattle.std.proofs.lemmas.Option.{none-some}
use Rattle.cell_base.specs.declared.cells.Cell.{Cell}
use Rattle.cell_base.specs.declared.requests.JobId.{JobId}
use Rattle.cell_base.specs.declared.requests.Part.{Part}
use Rattle.cell_base.specs.Stages.{IsStage, stage_of}
use Rattle.cell_base.specs.Policy.{HaveDistinctJobs}
use Rattle.cell_base.specs.Outcomes.{without}
use Rattle.policy_laws.proofs.Lists.{Contains-head, Contains-tail, All-from_Contains, find_none, find_some}
use Rattle.policy_laws.proofs.Parts.{is_of_job-same, is_of_job-other, IsOther, others_after, distinct_after}
use Rattle.banker_check.specs.StuckSets.{sublists}
use Rattle.banker_check.specs.Orders.{RunInTurn, IsOrder, IsJobOrder}
use Rattle.banker_check.specs.HybridPlans.{goes_first}
use Rattle.banker_check.proofs.Within.{Within, filter-kept, filter-keeps, length-filter_most, distinct-filter, without-keeps}
use Rattle.banker_check.proofs.Within.{one_of_job, free-within}
use Rattle.banker_check.proofs.Sublists.{IsPartOf, sublists-parts, sublists-filter}
use Rattle.banker_check.proofs.Greed.{IsLoose, free-runs, turns-loose, loose-first}

-- a filter that keeps as many keeps all
filter-whole : (test : Part → Bool) (parts : List Part) → length (filter test parts) ≡ length parts → All (λ part. test part ≡ true) parts
filter-whole test [] e = All-nil (λ part. test part ≡ true)
filter-whole test (first ∷ parts) e = at (test first) refl e (filter-whole test parts)
  where
    at : (b : Bool) → test first ≡ b → length (cond b (first ∷ filter test parts) (filter test parts)) ≡ length (first ∷ parts)
        → (length (filter test parts) ≡ length parts → All (λ part. test part ≡ true) parts)
        → All (λ part. test part ≡ true) (first ∷ parts)
    at true f h later = All-cons (λ part. test part ≡ true) first parts f (later (omega (arith, h)))
    at false f h later = absurd (omega (arith, h, length-filter_most test parts))

module _ (cell : Cell) where
  -- parts that have an order have no stuck set
  order-loose : (parts list : List Part) → HaveDistinctJobs parts → IsOrder cell parts list → IsLoose cell parts
  order-loose parts list distinct order set c stuck =
      let of = All-contains (IsPartOf parts) (sublists parts) set (sublists-parts parts distinct) c in
      turns-loose cell list set order.listing.distinct order.turns of.distinct stuck
      (λ part d. (order.listing.same part).1 (of.within part d))

  -- where none could be first and none are stuck, no part is left
  none_left : (parts : List Part) → IsLoose cell parts → find (goes_first cell parts) parts ≡ None → parts ≡ []
  none_left [] loose e = refl
  none_left (first ∷ parts) loose e =
      let all : List Part = first ∷ parts in
      let pick = loose-first cell first parts loose in
      let found = find_some (goes_first cell all) all pick.0 pick.1 (not_from_false _ pick.2) in
      absurd (none-some found.0 (sym e ∙ found.1))

  order-empty : IsOrder cell [] []
  order-empty = record {
    listing = record { distinct = λ i j d h k. absurd (omega (arith, k)); same = λ part. (λ c. c, λ c. c) };
    turns = tt;
  }

  -- the jobs that were taken out of the parts, and the parts that are left
  pub record IsTakenOut (parts : List Part) (jobs : List JobId) (left : List Part) : Type 0 where
    pub taken : List Part
    pub jobs_of : jobs ≡ map (λ part. part.job) taken
    pub onward : (rest : List Part) → IsOrder cell left rest → IsOrder cell parts (taken ++ rest)
    pub loose : IsLoose cell parts → IsLoose cell left
    pub distinct : HaveDistinctJobs left
    pub standing : All (λ part. IsStage cell (stage_of part)) left

  pub none_taken : (parts : List Part) → HaveDistinctJobs parts → All (λ part. IsStage cell (stage_of part)) parts
      → IsTakenOut parts [] parts
  none_taken parts distinct standing = record {
    taken = [];
    jobs_of = refl;
    onward = λ rest order. order;
    loose = λ loose. loose;
    distinct = distinct;
    standing = standing;
  }

  -- the parts that could be first before an order of the others
  module _ (left : List Part) (distinct : HaveDistinctJobs left) where
    abbrev goes : Part → Bool
    goes = goes_first cell left

    abbrev waits : Part → Bool
    waits part = not (goes part)

    -- a part that could be first is of another job than one that could not
    apart : (a b : Part) → Contains (filter goes left) a → Contains (filter waits left) b → a.job ≢ b.job
    apart a b ca cb same =
        let first = filter-kept goes left a ca in
        let other = filter-kept waits left b cb in
        let e : a ≡ b = one_of_job left a b distinct first.0 other.0 (is_of_job-same a.job b same) in
        absurd (both_ways (goes b) (not-true _ other.1) (subst (λ part. goes part ≡ true) e first.1))

    front : (taken rest : List Part) → HaveDistinctJobs taken → Within taken (filter goes left) → HaveDistinctJobs rest
        → Within rest (filter waits left) → RunInTurn cell rest → HaveDistinctJobs (taken ++ rest) × RunInTurn cell (taken ++ rest)
    front [] rest different within others behind turns = (others, turns)
    front (first ∷ taken) rest different within others behind turns =
        let later = front taken rest (distinct_after first taken different) (λ part c. within part (Contains-tail first part taken c))
        others behind turns in
        let here = within first (Contains-head first taken) in
        let away : (part : Part) → Contains (taken ++ rest) part → IsOther first.job part =
        λ part c. ⊎_elim (λ h. All-contains (IsOther first.job) taken part (others_after first taken different) h)
        (λ h. apart first part here (behind part h)) (Contains-append_cases taken rest part c) in
        let inside : Within (taken ++ rest) left =
        λ part c. ⊎_elim (λ h. (filter-kept goes left part (within part (Contains-tail first part taken h))).0)
        (λ h. (filter-kept waits left part (behind part h)).0) (Contains-append_cases taken rest part c) in (
          AllPairs-cons (λ a b. a.job ≢ b.job) first (taken ++ rest) (All-from_Contains (IsOther first.job) (taken ++ rest) away) later.0,
          (
            free-runs cell (taken ++ rest) first
                (free-within cell (taken ++ rest) (without left first.job) later.0
                (λ part c. without-keeps left first.job part (inside part c) (is_of_job-other first.job part (away part c))) first
                (not-true _ (filter-kept goes left first here).1)),
            later.1,
          ),
        )

    order-front : (rest : List Part) → IsOrder cell (filter waits left) rest → IsOrder cell left (filter goes left ++ rest)
    order-front rest order =
        let both = front (filter goes left) rest (distinct-filter goes left distinct) (λ part c. c) order.listing.distinct
        (λ part c. (order.listing.same part).0 c) order.turns in
        record {
          listing = record { distinct = both.0; same = λ part. (there part, λ c. back part c (goes part) refl) };
          turns = both.1;
        }
      where
        there : (part : Part) → Contains (filter goes left ++ rest) part → Contains left part
        there part c =
            ⊎_elim (λ h. (filter-kept goes left part h).0) (λ h. (filter-kept waits left part ((order.listing.same part).0 h)).0)
            (Contains-append_cases (filter goes left) rest part c)

        back : (part : Part) → Contains left part → (b : Bool) → goes part ≡ b → Contains (filter goes left ++ rest) part
        back part c true e = Contains-append_left (filter goes left) rest part (filter-keeps goes left part c e)
        back part c false e =
            Contains-append_right (filter goes left) rest part
            ((order.listing.same part).1 (filter-keeps waits left part c (not_from_false _ e)))

  module _ (parts : List Part) (jobs : List JobId) (left : List Part) (out : IsTakenOut parts jobs left) where
    -- one round more
    pub round_taken : IsTakenOut parts (jobs ++ map (λ part. part.job) (filter (goes_first cell left) left))
        (filter (λ part. not (goes_first cell left part)) left)
    round_taken =
        let first = filter (goes_first cell left) left in
        let others = λ (part : Part). not (goes_first cell left part) in
        record {
          taken = out.taken ++ first;
          jobs_of = ap (λ before. before ++ map (λ part. part.job) first) out.jobs_of
              ∙ sym (map-append (λ (part : Part). part.job) out.taken first);
          onward = λ rest order.
              subst (IsOrder cell parts) (sym (append_assoc out.taken first rest))
              (out.onward (first ++ rest) (order-front left out.distinct rest order));
          loose = λ loose set c stuck.
              out.loose loose set (All-contains (Contains (sublists left)) (sublists (filter others left)) set
              (sublists-filter others left) c)
              stuck;
          distinct = distinct-filter others left out.distinct;
          standing = All-filter _ (λ part. IsStage cell (stage_of part)) left out.standing;
        }

    -- where no part is left, the jobs are those of an order
    pub all_taken : left ≡ [] → IsJobOrder cell parts jobs
    all_taken e = (
      out.taken ++ [],
      out.onward [] (subst (λ ps. IsOrder cell ps []) (sym e) order-empty),
      out.jobs_of ∙ ap (map (λ (part : Part). part.job)) (sym (append-nil out.taken)),
    )

    -- where some are left of which none could be first, there is no order
    pub none_orders : HaveDistinctJobs parts → length (filter (λ part. not (goes_first cell left part)) left) ≡ length left
        → (left ≡ [] → ⊥)
        → (list : List Part) → IsOrder cell parts list → ⊥
    none_orders distinct e some list order =
        some (none_left left (out.loose (order-loose parts list distinct order))
        (find_none (goes_first cell left) left
        (All-weaker (λ part. not (goes_first cell left part) ≡ true) (λ part. goes_first cell left part ≡ false)
        (λ part f. not-true _ f) left
        (filter-whole (λ part. not (goes_first cell left part)) left e))))
