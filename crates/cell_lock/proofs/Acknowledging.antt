-- What views saw granted is on each image, and stays there.
use Rattle.std.specs.Prelude.{Option, option_and_then, ⊤}
use Rattle.std.proofs.Common.{◌≡◌, ⊎_elim, ℕ, ◌≤◌, List, [], ◌∷◌, ◌++◌, set, sym, ap, ◌∙◌, subst, arith}
use Rattle.atomic_table.proofs.Lists.{at_set}
use Rattle.cell_base.specs.declared.shifts.Entry.{Entry}
use Rattle.outside_io.specs.Disk.{Turns}
use Rattle.outside_io.specs.Telling.{where_told, told, turned}
use Rattle.durable_cell.specs.Acknowledged.{HasFirst, LeftOnly, HasSince}
use Rattle.durable_cell.specs.DurableState.{DurableState}
use Rattle.durable_cell.specs.Kept.{KeepsDisk}
use Rattle.cell_lock.specs.declared.board.Opening.{Opening}
use Rattle.cell_lock.specs.declared.board.View.{View}
use Rattle.cell_lock.specs.Law.{AllStand, Acknowledges}
use Rattle.cell_lock.specs.Openings.{WhereTold, opening_of}
use Rattle.cell_lock.proofs.Views.{at_end}

module _ {D : Type 0} (has : DurableState D → ℕ → ℕ → Type 0) (shift : ℕ) where
  -- what stood in one durable cell stands in another that has all that the first had
  pub stand_on : (answers : List (List Entry × ℕ)) (a b : DurableState D) → ((then count : ℕ) → has a then count → has b then count)
      → AllStand has shift a answers → AllStand has shift b answers
  stand_on [] a b on h = tt
  stand_on (answer ∷ answers) a b on h = (on _ _ h.0, stand_on answers a b on h.1)

  pub stand_append : (xs ys : List (List Entry × ℕ)) (a : DurableState D) → AllStand has shift a xs → AllStand has shift a ys
      → AllStand has shift a (xs ++ ys)
  stand_append [] ys a h more = more
  stand_append (x ∷ xs) ys a h more = (h.0, stand_append xs ys a h.1 more)

module _ {D : Type 0} (has : DurableState D → ℕ → ℕ → Type 0) (moment : D → ℕ) (o : Opening D) (views : List (View D)) where
  -- a view that changes, and what it then saw granted stands
  pub acknowledged_set : (id : ℕ) (w : View D) (a b : DurableState D) → ((then count : ℕ) → has a then count → has b then count)
      → AllStand has o.shift b w.answers → Acknowledges has moment o views a
      → Acknowledges has moment o (set views id w) b
  acknowledged_set id w a b on mine h = record {
    begun = on _ _ h.begun;
    each = λ i v e. ⊎_elim (λ t. subst (λ (x : View D). AllStand has o.shift b x.answers) t.1 mine)
        (λ t. stand_on has o.shift v.answers a b on (h.each i v t.1)) (at_set views id i w v e);
  }

  -- a view more
  pub acknowledged_end : (w : View D) (a : DurableState D) → AllStand has o.shift a w.answers → Acknowledges has moment o views a
      → Acknowledges has moment o (views ++ w ∷ []) a
  acknowledged_end w a mine h = record {
    begun = h.begun;
    each = λ i v e. ⊎_elim (λ t. h.each i v t)
        (λ t. subst (λ (x : View D). AllStand has o.shift a x.answers) t.1 mine) (at_end views w v i e);
  }

-- since the disk was found each image has the grants of the opening
pub since_found : {D : Type 0} (reads_as : D → Option (List ℕ)) (may_leave : D → List ℕ → Type 0) (moment : D → ℕ)
    (left_since : D → ℕ → List ℕ → Type 0) (faults : D → ℕ) (durable : DurableState D)
    → KeepsDisk reads_as may_leave moment left_since faults durable
    → HasSince reads_as moment left_since durable (moment durable.found) 0
since_found reads_as may_leave moment left_since faults durable keeps = record {
  added = omega arith;
  left = where_told (reads_as durable.disk) (λ _. LeftOnly moment left_since durable.disk (moment durable.found) (HasFirst durable 0))
      (λ now is.
      let leaves = told _ _ now is keeps.any_moment in
      record {
        reached = leaves.later;
        each = λ c left. (let stands = leaves.each c left in (stands.0, omega arith, stands.1));
      });
}

-- a moment since which each image has something is no later than now
pub no_later : {D : Type 0} (reads_as : D → Option (List ℕ)) (moment : D → ℕ) (left_since : D → ℕ → List ℕ → Type 0) (o : Opening D)
    (durable : DurableState D) (then count now : ℕ) → opening_of durable o.shift o.passes ≡ o
    → Turns (reads_as durable.entry) (reads_as durable.disk) (λ _ _. ⊤) → HasSince reads_as moment left_since durable then count
    → now ≡ moment durable.disk → WhereTold reads_as o (then ≤ now)
no_later {D} reads_as moment left_since o durable then count now same tells has is =
    where_told (option_and_then reads_as o.entry) (λ _. then ≤ now) (λ file told_it.
    let entry = ap (λ (x : Opening D). option_and_then reads_as x.entry) same in
    let mid = turned (reads_as durable.entry) (reads_as durable.disk) (λ _ _. ⊤) file (entry ∙ told_it) tells in
    let left = told (reads_as durable.disk) (λ _. LeftOnly moment left_since durable.disk then (HasFirst durable count)) mid.0 mid.1
    has.left in
    subst (λ (n : ℕ). then ≤ n) (sym is) left.reached)
