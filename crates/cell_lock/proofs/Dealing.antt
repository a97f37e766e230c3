-- The rule of the table holds when it is laid, is kept when passes are dealt and come together, and says what it held at the end.
use Rattle.std.proofs.Common.{◌≡◌, ◌≢◌, ◌⊎◌, inl, inr, ⊎_elim, ℕ, zero, suc, ◌+◌, ◌-◌, ◌<◌, ◌≤◌, true, false}
use Rattle.std.proofs.Common.{List, [], ◌∷◌, ◌++◌, replicate, set, get_or, refl, sym, ap, ◌∙◌, subst, arith}
use mathlib.Core.Option.{some, some-injective, some-ne-none}
use lib.ListN.{get_elem?}
use Rattle.atomic_table.specs.Table.{State, Enters, Splits, Joins, opening, Final, Seen}
use Rattle.atomic_table.proofs.Lists.{at_set, set_else, at_longer}
use Rattle.cell_base.specs.declared.shifts.Entry.{Entry}
use Rattle.cell_base.specs.Histories.{entries_of}
use Rattle.durable_cell.specs.DurableState.{DurableState}
use Rattle.cell_lock.specs.declared.board.Opening.{Opening}
use Rattle.cell_lock.specs.declared.board.View.{View}
use Rattle.cell_lock.specs.Openings.{Fits, Outside, first_moment}
use Rattle.cell_lock.specs.Views.{own_entries_of, initial_view, passing, gathered, spent}
use Rattle.cell_lock.specs.Law.{Has, AllBegin, AllStand, Acknowledges, Knows, Free, Taken, Kept, sat}
use Rattle.cell_lock.proofs.Histories.{prefix_nil, begin_append, own_entries-append, own_entries-empty}
use Rattle.cell_lock.proofs.Acknowledging.{acknowledged_end, acknowledged_set, stand_append}
use Rattle.cell_lock.proofs.Views.{at_end, each_set, each_end, apart_by, dealt, merged, split_at}
use Rattle.cell_lock.proofs.Turns.{Homes, any_step, not_true}

abbrev Turn : {D : Type 0} → (DurableState D → ℕ → ℕ → Type 0) → (D → ℕ) → Opening D → List Entry → List ℕ → Homes D → List (View D)
    → Type 0
Turn has moment o log words homes views = Free has moment o log words homes views ⊎ Taken has moment o log words homes views

-- a step that changes no view which has the turn
turn_moves : {D : Type 0} (has : DurableState D → ℕ → ℕ → Type 0) (moment : D → ℕ) (o : Opening D) (log : List Entry)
    (words : List ℕ) (homes : Homes D) (views views' : List (View D))
    → ((i : ℕ) (v : View D) → v.has_turn ≡ true → get_elem? views i ≡ some v → get_elem? views' i ≡ some v)
    → ((i : ℕ) (v : View D) → v.has_turn ≡ true → get_elem? views' i ≡ some v → get_elem? views i ≡ some v)
    → ((a : DurableState D) → Acknowledges has moment o views a → Acknowledges has moment o views' a)
    → Turn has moment o log words homes views → Turn has moment o log words homes views'
turn_moves has moment o log words homes views views' stay come stand turn = ⊎_elim
    (λ (f : Free has moment o log words homes views). inl record {
      words_are = f.words_are;
      held = f.held;
      home = f.home;
      seen = f.seen;
      fits = f.fits;
      acknowledges = stand f.held f.acknowledges;
      idle = λ i v e. not_true v.has_turn (λ t. let was : v.has_turn ≡ false = f.idle i v (come i v t e) in cc);
    })
    (λ (t : Taken has moment o log words homes views). inr record {
      words_are = t.words_are;
      away = t.away;
      who = t.who;
      holder = t.holder;
      at = stay t.who t.holder t.acting_is t.at;
      acting_is = t.acting_is;
      taken = t.taken;
      taken_is = t.taken_is;
      acknowledges = stand t.taken t.acknowledges;
      alone = λ i v e h. t.alone i v (come i v h e) h;
    }) turn

abbrev rest_of : List (List Entry) → List (List Entry)
rest_of [] = []
rest_of (x ∷ xs) = xs

only : {A : Type 0} {a : A} (i : ℕ) (b : A) → get_elem? (a ∷ []) i ≡ some b → (i ≡ 0) × (a ≡ b)
only zero b e = (refl, some-injective _ b e)
only (suc i) b e = absurd (some-ne-none b (sym e))

-- a view of no number knows nothing
nothing_known : {D : Type 0} (o p : Opening D) (log : List Entry) (first : ℕ) → Knows o log (initial_view p first 0)
nothing_known o p log first = record {
  same = λ h. absurd (omega arith);
  begin = tt;
  own_entries = refl;
  range = λ h. absurd (omega arith);
  acts = λ h. absurd (cc);
}

pub starts : {D : Type 0} (has : DurableState D → ℕ → ℕ → Type 0) (moment : D → ℕ) (o : Opening D) (c : DurableState D)
    (passes : ℕ) (words : List ℕ) (slots : List (DurableState D)) → words ≡ 0 ∷ 0 ∷ [] → slots ≡ c ∷ [] → c.history ≡ [] → Fits o c
    → o.passes ≡ passes → has c (first_moment moment o) 0
    → Kept has moment o (opening words slots (initial_view o 1 passes))
starts {D} has moment o c passes words slots words_are slots_are new fits count begun =
    let alone : (i : ℕ) (v : View D) → get_elem? (initial_view o 1 passes ∷ []) i ≡ some v → (i ≡ 0) × (initial_view o 1 passes ≡ v) =
    λ i v e. only i v e in
    let knows : Knows o [] (initial_view o 1 passes) = record {
      same = λ h. refl;
      begin = tt;
      own_entries = sym (own_entries-empty 1 passes);
      range = λ h. (omega arith, omega arith);
      acts = λ h. absurd (cc);
    } in
    let kept : Kept has moment o (opening (0 ∷ 0 ∷ []) (c ∷ []) (initial_view o 1 passes)) = record {
      log = [];
      each = λ i v e. subst (Knows o []) (alone i v e).1 knows;
      apart = λ i j k v w ev ew hv hw. (alone i v ev).0 ∙ sym (alone j w ew).0;
      others = λ k out. refl;
      turn = inl record {
        words_are = refl;
        held = c;
        home = refl;
        seen = new;
        fits = fits;
        acknowledges = record {
          begun = begun;
          each = λ i v e. subst (λ (x : View D). AllStand has o.shift c x.answers) (alone i v e).1 tt;
        };
        idle = λ i v e. ap (λ (x : View D). x.has_turn) (sym (alone i v e).1);
      };
    } in
    subst (λ (z : List ℕ × List (DurableState D)). Kept has moment o (opening z.0 z.1 (initial_view o 1 passes)))
    (λ i. (sym words_are i, sym slots_are i)) kept

pub sits : {D : Type 0} (has : DurableState D → ℕ → ℕ → Type 0) (moment : D → ℕ) (o : Opening D) (slots passes : ℕ)
    → Enters (Kept has moment o) slots 0 (λ n w. sat any_step (initial_view o 1 passes, []) n (w, []))
sits {D} has moment o slots passes s k deep small =
    let w : View D = initial_view o (1 + passes) 0 in
    let views' : List (View D) = s.views ++ w ∷ [] in (
      w,
      record {
        log = k.log;
        each = each_end o k.log s.views w (nothing_known o o k.log (1 + passes)) k.each;
        apart = apart_by s.views views' (λ i j a e h. ⊎_elim (λ t. (a, t, h))
            (λ t. let h' : Has w j = subst (λ (x : View D). Has x j) (sym t.1) h in absurd (omega arith)) (at_end s.views w a i e)) k.apart;
        others = k.others;
        turn = turn_moves has moment o k.log s.words s.homes s.views views' (λ i v t e. at_longer s.views (w ∷ []) i v e)
            (λ i v t e. ⊎_elim (λ z. z) (λ z. let no : false ≡ v.has_turn = ap (λ (x : View D). x.has_turn) z.1 in absurd (cc))
            (at_end s.views w v i e))
            (λ a h. acknowledged_end has moment o s.views w a tt h) k.turn;
      },
      refl,
    )

module _ {D : Type 0} (has : DurableState D → ℕ → ℕ → Type 0) (moment : D → ℕ) (o p : Opening D) (id n count : ℕ)
    (s : State (DurableState D) (View D)) (k : Kept has moment o s) (at : get_elem? s.views id ≡ some (initial_view p n (suc count))) where
  abbrev X : View D
  X = initial_view p n (suc count)

  abbrev Left : View D
  Left = initial_view p (n + 1) (suc count - 1)

  abbrev Right : View D
  Right = passing p n [] (first_moment moment p) [] []

  known : Knows o k.log X
  known = k.each id X at

  range : (1 ≤ n) × (n + suc count ≤ o.passes + 1)
  range = known.range (omega arith)

  left_knows : Knows o k.log Left
  left_knows =
      let fewer : suc count - 1 ≡ count = omega arith in
      record {
        same = λ h. known.same (omega arith);
        begin = tt;
        own_entries = subst (λ (c : ℕ). replicate c [] ≡ own_entries_of (n + 1) c k.log) (sym fewer)
            (ap (λ (l : List (List Entry)). rest_of l) known.own_entries);
        range = λ h. (omega arith, omega (arith, range.1));
        acts = λ h. absurd (cc);
      }

  right_knows : Knows o k.log Right
  right_knows = record {
    same = λ h. known.same (omega arith);
    begin = (prefix_nil k.log, tt);
    own_entries = ap (λ (l : List (List Entry)). get_or l 0 [] ∷ []) known.own_entries;
    range = λ h. (range.0, omega (arith, range.1));
    acts = λ h. absurd (cc);
  }

  cut : Kept has moment o (record { words = s.words; homes = s.homes; views = set s.views id Left ++ Right ∷ [] })
  cut =
      let first_views : List (View D) = set s.views id Left in
      let less : (j : ℕ) → Has Left j → Has X j = λ j h. (omega arith, omega arith) in
      record {
        log = k.log;
        each = each_end o k.log first_views Right right_knows (each_set o k.log s.views id Left left_knows (λ i u ne e. k.each i u e));
        apart = dealt s.views id X at Left Right less (λ j h. (omega arith, omega arith)) (λ j a b. omega arith) k.apart;
        others = k.others;
        turn = turn_moves has moment o k.log s.words s.homes s.views (first_views ++ Right ∷ [])
            (λ i u t e.
            let ne : i ≢ id = λ same. (let was : true ≡ false = sym t ∙ ap (λ (y : View D). y.has_turn)
            (some-injective u X (sym e ∙ (ap (get_elem? s.views) same ∙ at))) in absurd (cc)) in
            at_longer first_views (Right ∷ []) i u (set_else s.views id i Left ne ∙ e))
            (λ i u t e. ⊎_elim
            (λ z. ⊎_elim (λ y. let no : false ≡ u.has_turn = ap (λ (q : View D). q.has_turn) y.1 in absurd (cc)) (λ y. y.1)
            (at_set s.views id i Left u z))
            (λ z. let no : false ≡ u.has_turn = ap (λ (q : View D). q.has_turn) z.1 in absurd (cc)) (at_end first_views Right u i e))
            (λ a h. acknowledged_end has moment o first_views Right a
            (subst (λ (x : Opening D). has a (first_moment moment x) 0) (sym (known.same (omega arith))) h.begun, tt)
            (acknowledged_set has moment o s.views id Left a a (λ then n was. was) tt h)) k.turn;
      }

pub deals : {D : Type 0} (has : DurableState D → ℕ → ℕ → Type 0) (moment : D → ℕ) (o p : Opening D) (id n count : ℕ) (v : View D)
    → v ≡ initial_view p n (suc count) → Splits (Kept has moment o) id v (initial_view v.opening (v.first + 1) (v.count - 1))
    (passing v.opening v.first [] (first_moment moment v.opening) [] [])
deals {D} has moment o p id n count v is =
    subst (λ (x : View D). Splits (Kept has moment o) id x (initial_view x.opening (x.first + 1) (x.count - 1))
    (passing x.opening x.first [] (first_moment moment x.opening) [] [])) (sym is)
    (λ s k at. cut has moment o p id n count s k at)

module _ {D : Type 0} (has : DurableState D → ℕ → ℕ → Type 0) (moment : D → ℕ) (o : Opening D) (id other : ℕ) (v w : View D)
    (idle : v.has_turn ≡ false) (rests : w.has_turn ≡ false) (one : v.count ≡ 1) (next : w.first ≡ v.first + v.count)
    (s : State (DurableState D) (View D)) (k : Kept has moment o s)
    (at : get_elem? s.views id ≡ some v) (was : get_elem? s.views other ≡ some w) where
  abbrev Both : View D
  Both = gathered v w

  both_know : Knows o k.log Both
  both_know =
      let known : Knows o k.log v = k.each id v at in
      let joined : Knows o k.log w = k.each other w was in
      let range : (1 ≤ v.first) × (v.first + v.count ≤ o.passes + 1) = known.range (omega arith) in
      let whole : v.first + (v.count + w.count) ≤ o.passes + 1 = ⊎_elim
      (λ (some : 0 < w.count). omega (arith, (joined.range some).1)) (λ (none : w.count ≤ 0). omega (arith, range.1))
      (split_at 0 w.count) in
      record {
        same = λ h. known.same (omega arith);
        begin = begin_append v.answers w.answers k.log known.begin joined.begin;
        own_entries = (λ i. known.own_entries i ++ joined.own_entries i) ∙ sym (own_entries-append v.first v.count w.count w.first k.log next);
        range = λ h. (range.0, whole);
        acts = λ h. absurd (cc);
      }

  -- a view that has the turn is neither of the two
  idle_at : (i : ℕ) (u x : View D) → x.has_turn ≡ false → u.has_turn ≡ true → (j : ℕ) → get_elem? s.views j ≡ some x
      → get_elem? s.views i ≡ some u → i ≢ j
  idle_at i u x rest t j a e same =
      let one : u ≡ x = some-injective u x (sym e ∙ (ap (get_elem? s.views) same ∙ a)) in
      let no : true ≡ false = sym t ∙ (ap (λ (y : View D). y.has_turn) one ∙ rest) in
      absurd (cc)

  joined_kept : Kept has moment o (record { words = s.words; homes = s.homes; views = set (set s.views id Both) other spent })
  joined_kept =
      let mid : List (View D) = set s.views id Both in
      let views' : List (View D) = set mid other spent in
      record {
        log = k.log;
        each = each_set o k.log mid other spent (nothing_known o _ k.log 0)
            (λ i u ne e. each_set o k.log s.views id Both both_know (λ j y ne' e'. k.each j y e') i u e);
        apart = merged s.views id v at other w Both spent was
            (λ j h. ⊎_elim (λ lt. inl (h.0, lt)) (λ le. inr (omega arith, omega arith)) (split_at j (v.first + v.count)))
            (λ j h. omega arith) k.apart;
        others = k.others;
        turn = turn_moves has moment o k.log s.words s.homes s.views views'
            (λ i u t e. set_else mid other i spent (idle_at i u w rests t other was e)
            ∙ (set_else s.views id i Both (idle_at i u v idle t id at e) ∙ e))
            (λ i u t e. ⊎_elim
            (λ z. let no : false ≡ u.has_turn = ap (λ (q : View D). q.has_turn) z.1 in absurd (cc))
            (λ z. ⊎_elim (λ y. let no : v.has_turn ≡ u.has_turn = ap (λ (q : View D). q.has_turn) y.1 in absurd (cc)) (λ y. y.1)
            (at_set s.views id i Both u z.1))
            (at_set mid other i spent u e))
            (λ a h. acknowledged_set has moment o mid other spent a a (λ then n had. had) tt
            (acknowledged_set has moment o s.views id Both a a (λ then n had. had)
            (stand_append has o.shift v.answers w.answers a (h.each id v at) (h.each other w was)) h)) k.turn;
      }

pub gathers : {D : Type 0} (has : DurableState D → ℕ → ℕ → Type 0) (moment : D → ℕ) (o : Opening D) (id other : ℕ) (v w : View D)
    → v.has_turn ≡ false → w.has_turn ≡ false → v.count ≡ 1
    → w.first ≡ v.first + v.count → Joins (Kept has moment o) id v other w (gathered v w) spent
gathers has moment o id other v w idle rests one next s k at apart_are at_other =
    joined_kept has moment o id other v w idle rests one next s k at (sym (set_else s.views id other (gathered v w) apart_are) ∙ at_other)

-- once one view has every number, and has not the turn, the durable cell is at home
pub closes : {D : Type 0} (has : DurableState D → ℕ → ℕ → Type 0) (moment : D → ℕ) (o : Opening D) (id : ℕ) (v : View D)
    (words : List ℕ) (slots : List (DurableState D)) (c : DurableState D) → Final (Seen (Kept has moment o) id v) words slots
    → get_elem? slots 0 ≡ some c → v.has_turn ≡ false → v.first ≡ 1 → v.count ≡ o.passes
    → Fits o c × AllBegin v.answers c.history × (v.own_entries ≡ own_entries_of 1 o.passes c.history)
    × ((k : ℕ) → Outside o k → entries_of k c.history ≡ []) × AllStand has o.shift c v.answers
closes {D} has moment o id v words slots c final there idle from whole =
    let s : State (DurableState D) (View D) = final.0 in
    let k : Kept has moment o s = final.1.0 in
    let at : get_elem? s.views id ≡ some v = final.1.1 in
    let known : Knows o k.log v = k.each id v at in
    ⊎_elim
    (λ (f : Free has moment o k.log s.words s.homes s.views).
    let found : f.held ≡ c = some-injective f.held c (sym (final.4 0 f.held (ap (λ (h : Homes D). get_elem? h 0) f.home)) ∙ there) in
    let log_is : k.log ≡ c.history = sym f.seen ∙ ap (λ (a : DurableState D). a.history) found in (
      subst (Fits o) found f.fits,
      subst (AllBegin v.answers) log_is known.begin,
      known.own_entries ∙ (λ i. own_entries_of (from i) (whole i) (log_is i)),
      λ j out. ap (entries_of j) (sym log_is) ∙ k.others j out,
      subst (λ (a : DurableState D). AllStand has o.shift a v.answers) found (f.acknowledges.each id v at),
    ))
    (λ (t : Taken has moment o k.log s.words s.homes s.views).
    let holder : Knows o k.log t.holder = k.each t.who t.holder t.at in
    let one : t.holder.count ≡ 1 = (holder.acts t.acting_is).1 in
    let range : (1 ≤ t.holder.first) × (t.holder.first + t.holder.count ≤ o.passes + 1) = holder.range (omega arith) in
    let me : id ≡ t.who = k.apart id t.who t.holder.first v t.holder at t.at (omega arith, omega arith) (omega arith, omega arith) in
    let same : v ≡ t.holder = some-injective v t.holder (sym at ∙ (ap (get_elem? s.views) me ∙ t.at)) in
    let no : false ≡ true = sym idle ∙ (ap (λ (x : View D). x.has_turn) same ∙ t.acting_is) in
    absurd (cc))
    k.turn
