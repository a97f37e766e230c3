-- A part could be first exactly where it is not held up, and it goes to one of the two lists.
use Rattle.std.proofs.Common.{◌≡◌, ◌<◌, Bool, true, false, not, List, [], ◌∷◌, ◌++◌, length, map, filter, take, get_or, Contains, ap}
use Rattle.std.proofs.Common.{sym, arith, ◌∙◌}
use Rattle.std.proofs.lemmas.Bool.{not_from_false, not_from_true}
use Rattle.std.proofs.lemmas.List.{get_or_default, length-take, append_assoc, map-append}
use Rattle.std.proofs.lemmas.List.Elements.{Contains-get_or}
use Rattle.cell_base.specs.declared.requests.JobId.{JobId}
use Rattle.cell_base.specs.declared.requests.Part.{Part}
use Rattle.banker_check.specs.HybridPlans.{goes_first}
use Rattle.banker_check.proofs.Within.{length-filter_most}
use Rattle.banker_check.proofs.Counting.{filter-kept_more, filter-dropped_more}
use Rattle.banker_check.proofs.Finding.{goes_first-counts}
use Rattle.banker_check.proofs.ordering.take_out.Goals as goal
use Rattle.banker_check.proofs.ordering.take_out.Goals.{then-is_held_up, else-is_held_up+in_ok-try_push}

pub push_reserved-requires : goal.push_reserved-requires
push_reserved-requires c =
    let waits : Part → Bool = λ part. not (goes_first c.args.table.now c.args.parts.now part) in
    omega (
      arith,
      c.loop-part.invariant.room,
      ap length c.loop-part.invariant.others,
      length-filter_most waits (take c.loop-part.part-index c.args.parts.now),
      length-take c.loop-part.part-index c.args.parts.now,
      c.loop-part-test.true,
      c.loop-part.others.ok.0,
    )

pub loop-part-preserved : goal.loop-part-preserved
loop-part-preserved c =
    let cell = c.args.table.now in
    let parts = c.args.parts.now in
    let i = c.loop-part.part-index in
    let goes = goes_first cell parts in
    let waits : Part → Bool = λ part. not (goes part) in
    let within : i < length parts = c.loop-part-test.true in
    let part : Part = get_or parts i (record { job = record { 0 = 0 }; kind = record { 0 = 0 }; place = 0; done = false }) in
    let at : part ≡ get_or parts i part = get_or_default parts i _ _ within in
    let here : Contains parts part = Contains-get_or parts i _ within in
    let tested : goes part ≡ not c.is_held_up.result =
    goes_first-counts cell parts part c.held_by.result c.requires.distinct here c.held_by.ensures
    ∙ ap not (sym (c.is_held_up.ensures c.held_by.result.on c.fullness_of-full.ensures)) in
    elim c.if-is_held_up.branch [
      | then-is_held_up w ↦
          let held : goes part ≡ false = tested ∙ not_from_true _ w.if-is_held_up.true in
          rw (w.others-is, w.jobs-is) (record {
            others = w.push_reserved.ensures.items ∙ ap (λ (others : List Part). others ++ part ∷ []) c.loop-part.invariant.others
                ∙ sym (filter-kept_more waits parts i part within at (ap not held));
            jobs = c.loop-part.invariant.jobs
                ∙ ap (λ (first : List Part). c.args.jobs.now ++ map (λ (part : Part). part.job) first)
                (sym (filter-dropped_more goes parts i part within at held));
            room = omega (arith, c.loop-part.invariant.room, w.push_reserved.ensures.capacity);
          })
      | else-is_held_up+in_ok-try_push w ↦
          let free : goes part ≡ true = tested ∙ not_from_false _ w.if-is_held_up.false in
          rw (w.others-is, w.jobs-is) (record {
            others = c.loop-part.invariant.others ∙ sym (filter-dropped_more waits parts i part within at (ap not free));
            jobs = w.in_ok-try_push.ensures.ok
                ∙ ap (λ (jobs : List JobId). jobs ++ part.job ∷ []) c.loop-part.invariant.jobs
                ∙ append_assoc c.args.jobs.now (map (λ (part : Part). part.job) (filter goes (take i parts))) (part.job ∷ [])
                ∙ ap (λ (more : List JobId). c.args.jobs.now ++ more)
                (sym (map-append (λ (part : Part). part.job) (filter goes (take i parts)) (part ∷ [])))
                ∙ ap (λ (first : List Part). c.args.jobs.now ++ map (λ (part : Part). part.job) first)
                (sym (filter-kept_more goes parts i part within at free));
            room = c.loop-part.invariant.room;
          })
    ]
