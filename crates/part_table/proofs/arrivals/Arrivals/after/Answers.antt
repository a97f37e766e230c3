-- The entry of the job is found, and the one behind it; or the job has none.
use Rattle.std.proofs.Common.{◌≡◌, ℕ, suc, ◌+◌, Some, None, Option, List, drop, slice_get, ap, subst, sym, ◌∙◌, arith}
use Rattle.std.specs.Option.{option_map}
use Rattle.std.proofs.lemmas.Option.{slice_get-map, slice_get_within}
use Rattle.cell_base.specs.declared.requests.JobId.{JobId}
use Rattle.cell_base.specs.declared.requests.Part.{Part}
use Rattle.part_table.specs.declared.standing.Entry.{Entry}
use Rattle.part_table.specs.declared.standing.Standing.{Standing}
use Rattle.part_table.specs.Logs.{IsPlaceOf, staying}
use Rattle.part_table.specs.Standings.{Arrived, parts_of}
use Rattle.part_table.proofs.Following.{absent-nowhere, follows}
use Rattle.part_table.proofs.arrivals.Arrivals.after.Goals as goal

-- the entry behind, by native sums
behind : (entries : List Entry) (job : JobId) (at : ℕ) → IsPlaceOf entries job at → (i : ℕ) (part : Part)
    → slice_get (parts_of (staying entries)) i ≡ Some part → part.job ≡ job
    → slice_get (staying (drop (at + 1) entries)) 0 ≡ slice_get (staying entries) (i + 1)
behind entries job at place i part here own =
    let next : at + 1 ≡ suc at = omega arith in
    let more : suc i ≡ i + 1 = omega arith in
    ap (λ (n : ℕ). slice_get (staying (drop n entries)) 0) next ∙ follows entries job at place i part here own
    ∙ ap (λ (n : ℕ). slice_get (staying entries) n) more

pub returns-in_err-at : goal.returns-in_err-at
returns-in_err-at c = λ i part here own.
    absurd (absent-nowhere c.self.inside.log.entries c.args.job (c.in_err-at.ensures) i part
    (subst (λ (now : Arrived). slice_get (parts_of now.items) i ≡ Some part) (sym c.self.view_is) here) own)

pub after-requires : goal.after-requires
after-requires c =
    let place = c.in_ok-at.ensures in
    slice_get_within c.self.inside.log.entries c.in_ok-at.at place.0 place.1

pub returns-in-Some : goal.returns-in-Some
returns-in-Some c = λ i part here own.
    let entries = c.self.inside.log.entries in
    let found = subst (λ (now : Arrived). slice_get (parts_of now.items) i ≡ Some part) (sym c.self.view_is) here in
    subst (λ (now : Arrived). ◌≡◌ {A = Option Part} (Some c.in-Some.item.part) (slice_get (parts_of now.items) (i + 1))) c.self.view_is
    (ap (option_map (λ (item : Standing). item.part)) (c.in-Some.ensures ∙ behind entries c.args.job c.in_ok-at.at (c.in_ok-at.ensures) i part found own)
    ∙ sym (slice_get-map (λ (item : Standing). item.part) (staying entries) (i + 1)))

pub returns-in-None : goal.returns-in-None
returns-in-None c = λ i part here own.
    let entries = c.self.inside.log.entries in
    let found = subst (λ (now : Arrived). slice_get (parts_of now.items) i ≡ Some part) (sym c.self.view_is) here in
    subst (λ (now : Arrived). ◌≡◌ {A = Option Part} None (slice_get (parts_of now.items) (i + 1))) c.self.view_is
    (ap (option_map (λ (item : Standing). item.part)) (c.in-None.ensures ∙ behind entries c.args.job c.in_ok-at.at (c.in_ok-at.ensures) i part found own)
    ∙ sym (slice_get-map (λ (item : Standing). item.part) (staying entries) (i + 1)))
