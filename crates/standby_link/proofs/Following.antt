-- What each event keeps, and the law.
use Rattle.std.proofs.Common.{◌≡◌, ℕ, zero, suc, ◌≤◌, ◌==◌, ◌&&◌, Bool, true, false, cond, Option, Some, None, List}
use Rattle.std.proofs.Common.{[], ◌∷◌, ◌++◌, length, slice_get, refl, sym, ◌∙◌, ap, subst, All, append_assoc, arith}
use Rattle.std.specs.List.{Contains}
use Rattle.std.specs.Option.{option_map}
use Rattle.std.proofs.lemmas.Bool.{eqb-true}
use Rattle.std.proofs.lemmas.List.{map-append, length-append}
use Rattle.std.proofs.lemmas.List.Elements.{All-append, All-cons, All-nil, All-contains}
use Rattle.std.proofs.lemmas.Bool.{and_from}
use Rattle.cell_base.specs.declared.cells.Cell.{Cell}
use Rattle.cell_base.specs.declared.requests.Part.{Part}
use Rattle.cell_base.specs.declared.requests.Request.{Request}
use Rattle.cell_base.specs.declared.requests.Reply.TheVariants.{Granted}
use Rattle.cell_base.specs.declared.shifts.Grant.{Grant}
use Rattle.cell_base.specs.Histories.{is_granted, all_granted, after_requests, is_replay, replay, requests_of}
use Rattle.cell_base.specs.Outcomes.{reply_to, state_after}
use Rattle.standby_link.specs.declared.frame.Frame.{Frame}
use Rattle.standby_link.specs.Frames.{framed, frame_at}
use Rattle.standby_link.specs.Following.{World, Event, grows, sends, delivers, hears, stops, received, IsPossible}
use mathlib.Core.List.{IsPrefix}
use Rattle.standby_link.specs.Following.{after_event, ArePossible, after_events, IsStart, FollowingLaw}

pub both : (a b : Bool) → (a && b) ≡ true → (a ≡ true) × (b ≡ true)
both true b is = (refl, is)
both false b is = absurd (let h : false ≡ true = is in cc)

-- the element that stands at an index still stands there when the list grows
grown-get : {X : Type 0} (xs : List X) (i : ℕ) (ys : List X) (x : X) → slice_get xs i ≡ Some x → slice_get (xs ++ ys) i ≡ Some x
grown-get [] i ys x is = absurd (let h : None ≡ Some x = is in cc)
grown-get (first ∷ xs) zero ys x is = is
grown-get (first ∷ xs) (suc i) ys x is = grown-get xs i ys x is

-- what stands after a list is the first of the rest
behind-get : {X : Type 0} (xs rest : List X) → slice_get (xs ++ rest) (length xs) ≡ slice_get rest 0
behind-get [] rest = refl
behind-get (x ∷ xs) rest = behind-get xs rest

grown-frame : (grants more : List Grant) (i : ℕ) (frame : Frame) → frame_at grants i ≡ Some frame → frame_at (grants ++ more) i ≡ Some frame
grown-frame grants more i frame is = by_grant (slice_get grants i) refl is
  where
    by_grant : (o : Option Grant) → slice_get grants i ≡ o → option_map (framed i) o ≡ Some frame
        → option_map (framed i) (slice_get (grants ++ more) i) ≡ Some frame
    by_grant None here none = absurd (let h : None ≡ Some frame = none in cc)
    by_grant (Some grant) here some = ap (option_map (framed i)) (grown-get grants i more grant here) ∙ some

-- a standby's grants stay a prefix of the first controller's
pub received_after : (some all : List Grant) (frame : Frame) → IsPrefix some all → frame_at all frame.index ≡ Some frame
    → IsPrefix (received some frame) all
received_after some all frame prefix is = by_index (frame.index == length some) refl
  where
    first : (rest : List Grant) → all ≡ some ++ rest → option_map (framed frame.index) (slice_get rest 0) ≡ Some frame
        → IsPrefix (some ++ frame.grant ∷ []) all
    first [] split none = absurd (let h : None ≡ Some frame = none in cc)
    first (grant ∷ rest) split here =
        let one : Some (framed frame.index grant) ≡ Some frame = here in
        let same : framed frame.index grant ≡ frame = cc in
        let own : some ++ grant ∷ rest ≡ some ++ frame.grant ∷ rest =
        ap (λ (g : Grant). some ++ g ∷ rest) (ap (λ (f : Frame). f.grant) same) in
        (rest, append_assoc some (frame.grant ∷ []) rest ∙ sym (split ∙ own))

    by_index : (b : Bool) → (frame.index == length some) ≡ b → IsPrefix (cond b (some ++ frame.grant ∷ []) some) all
    by_index false other = prefix
    by_index true next =
        let at : frame.index ≡ length some = eqb-true frame.index (length some) next in
        let there : slice_get prefix.0 0 ≡ slice_get all frame.index =
        sym (behind-get some prefix.0) ∙ ap (slice_get (some ++ prefix.0)) (sym at)
        ∙ ap (λ (gs : List Grant). slice_get gs frame.index) prefix.1 in
        first prefix.0 (sym prefix.1) (ap (option_map (framed frame.index)) there ∙ is)

-- and none is lost
received_more : (some : List Grant) (frame : Frame) → length some ≤ length (received some frame)
received_more some frame =
    elim (frame.index == length some) as (λ b. length some ≤ length (cond b (some ++ frame.grant ∷ []) some)) [
      | true ↦ let more = length-append some (frame.grant ∷ []) in omega (arith, more)
      | false ↦ omega arith
    ]

module _ (cell : Cell) where
  -- requests that are granted in turn, in two parts
  pub granted-append : (parts : List Part) (xs ys : List Request)
      → all_granted cell parts (xs ++ ys) ≡ (all_granted cell parts xs && all_granted cell (after_requests cell parts xs) ys)
  granted-append parts [] ys = refl
  granted-append parts (x ∷ xs) ys =
      ap (λ b. is_granted (reply_to cell parts x) && b) (granted-append (state_after cell parts x) xs ys)
      ∙ and-assoc (is_granted (reply_to cell parts x)) (all_granted cell (state_after cell parts x) xs) _
    where
      and-assoc : (a b c : Bool) → (a && (b && c)) ≡ ((a && b) && c)
      and-assoc true b c = refl
      and-assoc false b c = refl

  -- a prefix of grants that are granted in their turns is granted in its turns
  pub prefix_granted : (some all : List Grant) → IsPrefix some all → is_replay cell all ≡ true → is_replay cell some ≡ true
  prefix_granted some all prefix granted =
      let parted : requests_of all ≡ requests_of some ++ requests_of prefix.0 =
      ap requests_of (sym prefix.1) ∙ map-append (λ (g : Grant). g.request) some prefix.0 in
      (both _ _ (sym (granted-append [] (requests_of some) (requests_of prefix.0)) ∙ ap (all_granted cell []) (sym parted) ∙ granted)).0

  -- one more that is granted after them
  one_granted : (grants : List Grant) (grant : Grant) → is_replay cell grants ≡ true
      → reply_to cell (replay cell grants) grant.request ≡ Granted → is_replay cell (grants ++ grant ∷ []) ≡ true
  one_granted grants grant granted next =
      ap (all_granted cell []) (map-append (λ (g : Grant). g.request) grants (grant ∷ []))
      ∙ granted-append [] (requests_of grants) (grant.request ∷ [])
      ∙ and_from _ _ granted (and_from _ _ (ap is_granted next) refl)

  -- what every event keeps
  record Keeps (world : World) : Type 0 where
    granted : is_replay cell world.first ≡ true
    behind : IsPrefix world.standby world.first
    sent : All (λ (frame : Frame). frame_at world.first frame.index ≡ Some frame) world.sent
    answered : All (λ (n : ℕ). n ≤ length world.standby) world.answers
    known : world.known ≤ length world.standby

  -- a standby that has a frame received, and may have answered
  receives : (world : World) (frame : Frame) → Keeps world → Contains world.sent frame
      → Keeps (record world { standby = received world.standby frame })
  receives world frame keeps sent =
      let more = received_more world.standby frame in
      record {
        granted = keeps.granted;
        behind = received_after world.standby world.first frame keeps.behind
            (All-contains (λ (f : Frame). frame_at world.first f.index ≡ Some f) world.sent frame keeps.sent sent);
        sent = keeps.sent;
        answered = λ k d within. let few = keeps.answered k d within in omega (arith, few, more);
        known = let few = keeps.known in omega (arith, few, more);
      }

  keeps_on : (world : World) (event : Event) → Keeps world → IsPossible cell world event → Keeps (after_event world event)
  keeps_on world (grows grant) keeps possible = record {
    granted = one_granted world.first grant keeps.granted possible;
    behind = (
      keeps.behind.0 ++ grant ∷ [],
      sym (append_assoc world.standby keeps.behind.0 (grant ∷ [])) ∙ ap (λ (gs : List Grant). gs ++ grant ∷ []) keeps.behind.1,
    );
    sent = λ k d within. grown-frame world.first (grant ∷ []) _ _ (keeps.sent k d within);
    answered = keeps.answered;
    known = keeps.known;
  }
  keeps_on world (sends frame) keeps possible = record {
    granted = keeps.granted;
    behind = keeps.behind;
    sent = All-append (λ (f : Frame). frame_at world.first f.index ≡ Some f) world.sent (frame ∷ []) keeps.sent
        (All-cons (λ (f : Frame). frame_at world.first f.index ≡ Some f) frame [] possible
        (All-nil (λ (f : Frame). frame_at world.first f.index ≡ Some f)));
    answered = keeps.answered;
    known = keeps.known;
  }
  keeps_on world (delivers frame) keeps possible =
      let now = receives world frame keeps possible in
      let n = length (received world.standby frame) in
      record {
        granted = now.granted;
        behind = now.behind;
        sent = now.sent;
        answered = All-append (λ (m : ℕ). m ≤ n) world.answers (n ∷ []) now.answered
            (All-cons (λ (m : ℕ). m ≤ n) n [] (omega arith) (All-nil (λ (m : ℕ). m ≤ n)));
        known = now.known;
      }
  keeps_on world (hears answer) keeps possible =
      let few = All-contains (λ (n : ℕ). n ≤ length world.standby) world.answers answer keeps.answered possible in
      let before = keeps.known in
      record {
        granted = keeps.granted;
        behind = keeps.behind;
        sent = keeps.sent;
        answered = keeps.answered;
        known = omega (arith, few, before);
      }
  keeps_on world (stops frame true) keeps possible = receives world frame keeps possible
  keeps_on world (stops frame false) keeps possible = keeps

  keeps_all : (world : World) (events : List Event) → Keeps world → ArePossible cell world events → Keeps (after_events world events)
  keeps_all world [] keeps possible = keeps
  keeps_all world (event ∷ events) keeps possible =
      keeps_all (after_event world event) events (keeps_on world event keeps possible.0) possible.1

  starts : (world : World) → IsStart cell world → Keeps world
  starts world start = record {
    granted = start.granted;
    behind = start.behind;
    sent = subst (λ (fs : List Frame). All (λ (f : Frame). frame_at world.first f.index ≡ Some f) fs) (sym start.nothing_sent)
        (All-nil (λ (f : Frame). frame_at world.first f.index ≡ Some f));
    answered = subst (λ (ns : List ℕ). All (λ (n : ℕ). n ≤ length world.standby) ns) (sym start.nothing_answered)
        (All-nil (λ (n : ℕ). n ≤ length world.standby));
    known = let none = start.nothing_known in omega (arith, none);
  }

  pub following_law : FollowingLaw cell
  following_law world events start possible =
      let keeps = keeps_all world events (starts world start) possible in
      let now = after_events world events in
      record { behind = keeps.behind; granted = prefix_granted now.standby now.first keeps.behind keeps.granted; known = keeps.known }
