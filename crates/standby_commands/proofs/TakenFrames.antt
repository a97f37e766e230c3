-- A follower that takes frames in turn: one frame more, or the one at which it stops.
use Rattle.std.specs.Prelude.{None}
use Rattle.std.proofs.Common.{◌≡◌, inl, inr, ℕ, ◌≤◌, List, [], ◌∷◌, ◌++◌, length, Ok, Err, refl, ◌∙◌, sym, ap, subst, arith, length-append}
use Rattle.std.proofs.lemmas.List.{length_push}
use Rattle.cell_base.specs.declared.cells.Cell.{Cell}
use Rattle.cell_base.specs.declared.shifts.Grant.{Grant}
use Rattle.durable_cell.specs.DurableState.{DurableState}
use Rattle.standby_link.specs.declared.take_fault.TakeFault.{TakeFault}
use Rattle.standby_link.specs.declared.take_fault.TakeFault.TheVariants as fault
use Rattle.standby_link.specs.Deliveries.{AreFramesTaken, Delivers, IsFrameTaken, acks_of, delivered, delivered_all}
use Rattle.standby_link.specs.Followers.{FollowerState, HasNotHalted, IsGrantedNext, IsHaltedAppend, IsFrameRefused, Takes, kept}
use Rattle.standby_link.specs.Frames.{index_in}
use Rattle.standby_commands.specs.Following.{ByDevice, ByRefusal, HasFollowed, HasStopped, IsOf, IsFreshFollower, StopsBy}

-- ---- one frame more

delivered_all-push : (grants : List Grant) (frames : List (List ℕ)) (bytes : List ℕ)
    → delivered_all grants (frames ++ bytes ∷ []) ≡ delivered (delivered_all grants frames) bytes
delivered_all-push grants [] bytes = refl
delivered_all-push grants (first ∷ frames) bytes = delivered_all-push (delivered grants first) frames bytes

acks_of-push : (grants : List Grant) (frames : List (List ℕ)) (bytes : List ℕ)
    → acks_of grants (frames ++ bytes ∷ []) ≡ acks_of grants frames ++ length (delivered (delivered_all grants frames) bytes) ∷ []
acks_of-push grants [] bytes = refl
acks_of-push grants (first ∷ frames) bytes =
    ap (λ (acks : List ℕ). length (delivered grants first) ∷ acks) (acks_of-push (delivered grants first) frames bytes)

are_taken-push : (cell : Cell) (grants : List Grant) (frames : List (List ℕ)) (bytes : List ℕ) → AreFramesTaken cell grants frames
    → IsFrameTaken cell (delivered_all grants frames) bytes → AreFramesTaken cell grants (frames ++ bytes ∷ [])
are_taken-push cell grants [] bytes taken next = (next, tt)
are_taken-push cell grants (first ∷ frames) bytes taken next =
    (taken.0, are_taken-push cell (delivered grants first) frames bytes taken.1 next)

-- ---- the follower

-- these frames were taken, and no writing has failed
pub record Underway {D : Type 0} (old : FollowerState D) (frames : List (List ℕ)) (now : FollowerState D) (acks : List ℕ) : Type 0 where
  pub followed : HasFollowed old frames now acks
  pub goes_on : HasNotHalted now
  pub sure : now.durable.unsure ≡ None
  pub few : length now.durable.added ≤ length frames
  pub room : now.room ≡ old.room

module _ {D : Type 0} where
  is_of : (old : DurableState D) → IsOf old old
  is_of old = record { cell = refl; text = refl; entry = refl; opening = refl }

  after : (old mid new : DurableState D) → IsOf old mid → IsOf mid new → IsOf old new
  after old mid new first second = record {
    cell = second.cell ∙ first.cell;
    text = second.text ∙ first.text;
    entry = second.entry ∙ first.entry;
    opening = second.opening ∙ first.opening;
  }

  pub begins : (old : FollowerState D) (frames : ℕ) → HasNotHalted old → IsFreshFollower old frames → Underway old [] old []
  begins old frames goes_on ready = record {
    followed = record { taken = tt; kept_is = refl; acks_are = refl; same = is_of old.durable };
    goes_on = goes_on;
    sure = ready.fresh.unsure;
    few = let none : length old.durable.added ≡ 0 = ap length ready.fresh.added in omega (arith, none);
    room = refl;
  }

  module _ (old now new : FollowerState D) (frames : List (List ℕ)) (acks : List ℕ) (bytes : List ℕ)
      (so_far : Underway old frames now acks) where
    -- what is said of the grants now is said of those after the frames
    there : (P : Cell → List Grant → Type 0) → P now.durable.cell (kept now) → P old.durable.cell (delivered_all (kept old) frames)
    there P holds =
        subst (λ (gs : List Grant). P old.durable.cell gs) so_far.followed.kept_is
        (subst (λ (cell : Cell). P cell (kept now)) so_far.followed.same.cell holds)

    grown : (ack : ℕ) → Takes now bytes (Ok ack) new → Delivers now bytes (Ok ack) new → IsOf now.durable new.durable
        → IsFrameTaken now.durable.cell (kept now) bytes → HasFollowed old (frames ++ bytes ∷ []) new (acks ++ ack ∷ [])
    grown ack takes delivers same taken = record {
      taken = are_taken-push old.durable.cell (kept old) frames bytes so_far.followed.taken
          (there (λ cell grants. IsFrameTaken cell grants bytes) taken);
      kept_is = delivers.0 ∙ ap (λ (gs : List Grant). delivered gs bytes) so_far.followed.kept_is
          ∙ sym (delivered_all-push (kept old) frames bytes);
      acks_are = (λ i. so_far.followed.acks_are i
          ++ (delivers.1 ∙ ap (length) delivers.0 ∙ ap (λ (gs : List Grant). length (delivered gs bytes)) so_far.followed.kept_is) i ∷ [])
          ∙ sym (acks_of-push (kept old) frames bytes);
      same = after old.durable now.durable new.durable so_far.followed.same same;
    }

    -- the frame is taken
    pub goes_on : (ack : ℕ) → Takes now bytes (Ok ack) new → Delivers now bytes (Ok ack) new
        → Underway old (frames ++ bytes ∷ []) new (acks ++ ack ∷ [])
    goes_on ack (before, behind, len, (inl (same, known))) delivers =
        let longer = length_push frames bytes in
        record {
          followed = grown ack (before, behind, len, (inl (same, known))) delivers
              (subst (λ (f : FollowerState D). IsOf now.durable f.durable) (sym same) (is_of now.durable)) (inl known);
          goes_on = behind;
          sure = ap (λ (f : FollowerState D). f.durable.unsure) same ∙ so_far.sure;
          few = let added : length new.durable.added ≡ length now.durable.added =
              ap (λ (f : FollowerState D). length f.durable.added) same in omega (arith, added, so_far.few, longer);
          room = ap (λ (f : FollowerState D). f.room) same ∙ so_far.room;
        }
    goes_on ack (before, behind, len, (inr is)) delivers =
        let longer = length_push frames bytes in
        record {
          followed = grown ack (before, behind, len, (inr is)) delivers
              (record {
                cell = ap (λ (f : FollowerState D). f.durable.cell) is.is;
                text = ap (λ (f : FollowerState D). f.durable.text) is.is;
                entry = ap (λ (f : FollowerState D). f.durable.entry) is.is;
                opening = ap (λ (f : FollowerState D). f.durable.opening) is.is;
              }) (inr (is.grant, is.granted));
          goes_on = behind;
          sure = ap (λ (f : FollowerState D). f.durable.unsure) is.is;
          few = let added : length new.durable.added ≡ length (now.durable.added ++ is.grant ∷ []) =
              ap (λ (f : FollowerState D). length f.durable.added) is.is in
              omega (arith, added, so_far.few, longer, length_push now.durable.added is.grant);
          room = ap (λ (f : FollowerState D). f.room) is.is ∙ so_far.room;
        }

    -- the follower stops at it
    module _ (every rest : List (List ℕ)) (parted : every ≡ frames ++ bytes ∷ rest) (enough : length every ≤ old.room) where
      still : Delivers now bytes (Err fault.Device) new → IsOf now.durable new.durable → HasFollowed old frames new acks
      still kept_is same = record {
        taken = so_far.followed.taken;
        kept_is = kept_is ∙ so_far.followed.kept_is;
        acks_are = so_far.followed.acks_are;
        same = after old.durable now.durable new.durable so_far.followed.same same;
      }

      stops : (why : TakeFault) (index : ℕ) → index ≡ index_in bytes → HasFollowed old frames new acks
          → StopsBy old.durable.cell (delivered_all (kept old) frames) bytes why new.durable
          → HasStopped old every new acks (record { index = index; why = why })
      stops why index index_is followed by = record {
        first = frames;
        bytes = bytes;
        rest = rest;
        parted = parted;
        followed = followed;
        index_is = index_is;
        stops = by;
      }

      refused : (why : TakeFault) (index : ℕ) → index ≡ index_in bytes → new ≡ now
          → IsFrameRefused now.durable.cell (kept now) bytes why → HasStopped old every new acks (record { index = index; why = why })
      refused why index index_is same is =
          stops why index index_is
          (still (ap (λ (f : FollowerState D). kept f) same)
          (subst (λ (f : FollowerState D). IsOf now.durable f.durable) (sym same) (is_of now.durable)))
          (ByRefusal (there (λ cell grants. IsFrameRefused cell grants bytes why) is)
          (ap (λ (f : FollowerState D). f.durable.unsure) same ∙ so_far.sure))

      too_few : length now.durable.added ≡ now.room → ⊥
      too_few full =
          let all = ap (λ (fs : List (List ℕ)). length fs) parted in
          omega (arith, full, so_far.few, so_far.room, enough, all, length-append frames (bytes ∷ rest))

      pub stopped : (why : TakeFault) (index : ℕ) → index ≡ index_in bytes → Takes now bytes (Err why) new
          → Delivers now bytes (Err why) new → HasStopped old every new acks (record { index = index; why = why })
      stopped (fault.Halted at) index index_is takes kept_is = absurd (let both = sym so_far.goes_on ∙ takes.1 in cc)
      stopped fault.NotAFrame index index_is takes kept_is = refused fault.NotAFrame index index_is takes.0 takes.2
      stopped (fault.Conflict at grant) index index_is takes kept_is =
          refused (fault.Conflict at grant) index index_is takes.0 takes.2
      stopped fault.NoFit index index_is takes kept_is = refused fault.NoFit index index_is takes.0 takes.2
      stopped (fault.NotGranted why) index index_is takes kept_is =
          refused (fault.NotGranted why) index index_is takes.0 takes.2
      stopped (fault.Full len) index index_is takes kept_is = absurd (too_few takes.2.room)
      stopped fault.Device index index_is takes kept_is =
          let is : IsHaltedAppend now bytes new = takes.1 in
          stops fault.Device index index_is
          (still kept_is (record {
            cell = ap (λ (f : FollowerState D). f.durable.cell) is.is;
            text = ap (λ (f : FollowerState D). f.durable.text) is.is;
            entry = ap (λ (f : FollowerState D). f.durable.entry) is.is;
            opening = ap (λ (f : FollowerState D). f.durable.opening) is.is;
          }))
          (ByDevice is.grant (there (λ cell grants. IsGrantedNext cell grants bytes is.grant) is.granted) refl
          (ap (λ (f : FollowerState D). f.durable.unsure) is.is))
