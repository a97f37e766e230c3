-- The steps of a pass keep the rule of the table: taking the turn, telling of an entry, and giving the turn up.
use Rattle.std.specs.Prelude.{Some, Option as Maybe}
use Rattle.std.proofs.Common.{◌≡◌, ◌≢◌, inl, inr, ⊎_elim, ℕ, ◌+◌, ◌≤◌, eqb, Bool, true, false, List}
use Rattle.std.proofs.Common.{[], ◌∷◌, ◌++◌, length, set, get_or, refl, sym, ap, ◌∙◌, subst, arith}
use mathlib.Core.Option.{Option, none, some, some-injective}
use mathlib.Core.List.{IsPrefix}
use lib.ListN.{get_elem?}
use prog.Atomic.{either}
use Rattle.atomic_table.specs.Table.{State, Step, step, Act, keeps, takes, gives, Valid, homes_after, carried_after, Allows}
use Rattle.atomic_table.proofs.Lists.{at_set, set_here, set_again}
use Rattle.cell_base.specs.declared.shifts.Entry.{Entry}
use Rattle.cell_base.specs.Histories.{entries_of, grants}
use Rattle.durable_cell.specs.DurableState.{DurableState}
use Rattle.cell_lock.specs.declared.board.Opening.{Opening}
use Rattle.cell_lock.specs.declared.board.View.{View}
use Rattle.cell_lock.specs.Openings.{Fits, Outside}
use Rattle.cell_lock.specs.Views.{AtSeat, passing, acting, caught_up, MayFind}
use Rattle.cell_lock.specs.Law.{Has, AllBegin, AllStand, Knows, Free, Taken, Kept, took, grew, gave}
use Rattle.cell_lock.proofs.Histories.{prefix_all, begin_more, entries-other, own_entries-other}
use Rattle.cell_lock.proofs.Acknowledging.{acknowledged_set, stand_on}
use Rattle.cell_lock.proofs.Views.{below, each_set, apart_set}

abbrev pub Homes : Type 0 → Type 0
Homes D = List (Option (DurableState D))

-- no step here reads what the step is
abbrev pub any_step : {D : Type 0} → Step (DurableState D)
any_step = step 0 0 0 0 none

pub not_true : (b : Bool) → (b ≡ true → ⊥) → b ≡ false
not_true true n = absurd (n refl)
not_true false n = refl

acting_knows : {D : Type 0} (o p : Opening D) (log : List Entry) (n : ℕ) (answers : List (List Entry × ℕ))
    (taken : Maybe (DurableState D)) → p ≡ o → (1 ≤ n) × (n + 1 ≤ o.passes + 1) → AllBegin answers log
    → Knows o log (acting p n answers log (entries_of n log) taken)
acting_knows o p log n answers taken is range begin = record {
  same = λ h. is;
  begin = begin;
  own_entries = refl;
  range = λ h. range;
  acts = λ h. (refl, refl);
}

-- what a step on the word i leaves
module _ {D : Type 0} (has : DurableState D → ℕ → ℕ → Type 0) (moment : D → ℕ) (o : Opening D) (id : ℕ) (views : List (View D)) where
  abbrev Leaves : List ℕ → Homes D → ℕ → ℕ → List (ℕ × DurableState D) → (ℕ → AtSeat D → Type 0) → Type 0
  Leaves words homes i n carried then = (w : View D) × (a : Act (DurableState D)) × Valid homes carried a
      × Kept has moment o (record { words = set words i n; homes = homes_after homes carried a; views = set views id w })
      × then (get_or words i 0) (w, carried_after carried a)

module _ {D : Type 0} (has : DurableState D → ℕ → ℕ → Type 0) (moment : D → ℕ) (o p : Opening D) (id n saw : ℕ)
    (seen : List Entry) (earlier : List (List Entry × ℕ)) (mine : List Entry) (s : State (DurableState D) (View D))
    (k : Kept has moment o s) (at : get_elem? s.views id ≡ some (passing p n seen saw earlier mine)) where
  abbrev V : View D
  V = passing p n seen saw earlier mine

  abbrev Took : List ℕ → Homes D → Type 0
  Took words homes =
      Leaves has moment o id s.views words homes 0 (either (eqb (get_or words 0 0) 0) 1 (get_or words 0 0)) [] (took has any_step (V, []))

  took_free : Free has moment o k.log s.words s.homes s.views → Took s.words s.homes
  took_free f =
      let known : Knows o k.log V = k.each id V at in
      let here : p ≡ o = known.same (omega arith) in
      let w : View D = caught_up V f.held.history (Some f.held) in
      let knows : Knows o k.log w =
      subst (λ (h : List Entry). Knows o k.log (caught_up V h (Some f.held))) (sym f.seen)
      (acting_knows o p k.log n V.answers (Some f.held) here (known.range (omega arith)) known.begin) in
      let kept : Kept has moment o (record { words = 1 ∷ length k.log ∷ []; homes = none ∷ []; views = set s.views id w }) = record {
        log = k.log;
        each = each_set o k.log s.views id w knows (λ i v ne e. k.each i v e);
        apart = apart_set s.views id V at w (λ j h. h) k.apart;
        others = k.others;
        turn = inr record {
          words_are = refl;
          away = refl;
          who = id;
          holder = w;
          at = set_here s.views id w (below s.views id V at);
          acting_is = refl;
          taken = f.held;
          taken_is = refl;
          acknowledges = acknowledged_set has moment o s.views id w f.held f.held (λ then count h. h)
              (f.acknowledges.each id V at) f.acknowledges;
          alone = λ i v e h. ⊎_elim (λ t. t.0) (λ t. let was : v.has_turn ≡ false = f.idle i v t.1 in cc) (at_set s.views id i w v e);
        };
      } in
      let mine_is : mine ≡ entries_of n k.log = ap (λ (l : List (List Entry)). get_or l 0 []) known.own_entries in
      let follows : MayFind V f.held = record {
        fits = subst (λ (x : Opening D). Fits x f.held) (sym here) f.fits;
        began = subst (λ (h : List Entry). IsPrefix seen h) (sym f.seen) known.begin.0;
        own = mine_is ∙ ap (entries_of n) (sym f.seen);
      } in
      let stand = subst (λ (x : Opening D). AllStand has x.shift f.held V.answers) (sym here) (f.acknowledges.each id V at) in
      subst (λ (z : List ℕ × Homes D). Took z.0 z.1) (λ i. (sym f.words_are i, sym f.home i))
      (w, takes 0 f.held, refl, kept, ((λ e. (f.held, refl, follows, stand)), (λ ne. absurd (ne refl))))

  took_busy : Taken has moment o k.log s.words s.homes s.views → Took s.words s.homes
  took_busy t =
      let kept : Kept has moment o (record { words = 1 ∷ length k.log ∷ []; homes = none ∷ []; views = s.views }) = record {
        log = k.log;
        each = k.each;
        apart = k.apart;
        others = k.others;
        turn = inr record {
          words_are = refl;
          away = refl;
          who = t.who;
          holder = t.holder;
          at = t.at;
          acting_is = t.acting_is;
          taken = t.taken;
          taken_is = t.taken_is;
          acknowledges = t.acknowledges;
          alone = t.alone;
        };
      } in
      subst (λ (z : List ℕ × Homes D). Took z.0 z.1) (λ i. (sym t.words_are i, sym t.away i)) (
        V,
        keeps,
        tt,
        subst (λ (vs : List (View D)). Kept has moment o (record { words = 1 ∷ length k.log ∷ []; homes = none ∷ []; views = vs }))
            (sym (set_again s.views id V at)) kept,
        ((λ e. absurd (omega arith)), (λ ne. refl)),
      )

pub takes_turn : {D : Type 0} (has : DurableState D → ℕ → ℕ → Type 0) (moment : D → ℕ) (o p : Opening D) (slots id n saw : ℕ)
    (seen : List Entry) (earlier : List (List Entry × ℕ)) (mine : List Entry) (m : AtSeat D)
    → m ≡ (passing p n seen saw earlier mine, [])
    → Allows (Kept has moment o) slots id m 0 (λ k. either (eqb k 0) 1 k) (took has any_step m)
takes_turn {D} has moment o p slots id n saw seen earlier mine m is =
    subst (λ (z : AtSeat D). Allows (Kept has moment o) slots id z 0 (λ k. either (eqb k 0) 1 k) (took has any_step z)) (sym is)
    (λ s k deep at small. ⊎_elim (took_free has moment o p id n saw seen earlier mine s k at)
    (took_busy has moment o p id n saw seen earlier mine s k at) k.turn)

-- a view keeps what it knows when another number's entry is added
knows_more : {D : Type 0} (o : Opening D) (log : List Entry) (e : Entry) (v : View D) → (Has v e.session → ⊥)
    → (v.has_turn ≡ true → ⊥) → Knows o log v → Knows o (log ++ e ∷ []) v
knows_more o log e v apart idle k = record {
  same = k.same;
  begin = begin_more v.answers log (e ∷ []) k.begin;
  own_entries = k.own_entries ∙ sym (own_entries-other v.first v.count log e apart);
  range = k.range;
  acts = λ h. absurd (idle h);
}

module _ {D : Type 0} (has : DurableState D → ℕ → ℕ → Type 0) (moment : D → ℕ) (o p : Opening D) (id n : ℕ)
    (answers : List (List Entry × ℕ)) (seen mine : List Entry) (took_it : Maybe (DurableState D)) (c : DurableState D)
    (s : State (DurableState D) (View D)) (k : Kept has moment o s)
    (at : get_elem? s.views id ≡ some (acting p n answers seen mine took_it)) (fits : Fits p c) where
  abbrev W : View D
  W = acting p n answers seen mine took_it

  abbrev Grew : List ℕ → Homes D → Type 0
  Grew words homes =
      Leaves has moment o id s.views words homes 1 (length c.history) ((0, c) ∷ [])
      (λ _. grew any_step (W, (0, c) ∷ []) (length c.history))

  abbrev Gave : List ℕ → Homes D → Type 0
  Gave words homes = Leaves has moment o id s.views words homes 0 0 ((0, c) ∷ []) (λ _. gave moment any_step (W, (0, c) ∷ []) 0)

  abbrev IsTaken : Type 0
  IsTaken = Taken has moment o k.log s.words s.homes s.views

  log_is : seen ≡ k.log
  log_is = ((k.each id W at).acts refl).0

  -- the view that has the turn is this one
  holder_is : (t : IsTaken) → W ≡ t.holder
  holder_is t = some-injective W t.holder (sym at ∙ (ap (get_elem? s.views) (t.alone id W at refl) ∙ t.at))

  grew_taken : (e : Entry) → c.history ≡ seen ++ e ∷ [] → e.session ≡ n → IsTaken → Grew s.words s.homes
  grew_taken e longer by t =
      let known : Knows o k.log W = k.each id W at in
      let here : p ≡ o = known.same (omega arith) in
      let range : (1 ≤ n) × (n + 1 ≤ o.passes + 1) = known.range (omega arith) in
      let more : k.log ++ e ∷ [] ≡ c.history = ap (λ (l : List Entry). l ++ e ∷ []) (sym log_is) ∙ sym longer in
      let mine_too : Has W e.session = (omega arith, omega arith) in
      let me : id ≡ t.who = t.alone id W at refl in
      let w : View D = caught_up W c.history took_it in
      let others_know : (i : ℕ) (v : View D) → i ≢ id → get_elem? s.views i ≡ some v → Knows o c.history v =
      λ i v ne a. subst (λ (l : List Entry). Knows o l v) more
      (knows_more o k.log e v (λ h. ne (k.apart i id e.session v W a at h mine_too)) (λ h. ne (t.alone i v a h ∙ sym me)) (k.each i v a)) in
      let outside : (j : ℕ) → Outside o j → entries_of j c.history ≡ [] =
      λ j out. ap (entries_of j) (sym more)
      ∙ (entries-other j k.log e (λ h. ⊎_elim (λ z. omega arith) (λ z. omega arith) out) ∙ k.others j out) in
      let kept : Kept has moment o (record { words = 1 ∷ length c.history ∷ []; homes = none ∷ []; views = set s.views id w }) = record {
        log = c.history;
        each = each_set o c.history s.views id w (acting_knows o p c.history n answers took_it here range
            (subst (λ (l : List Entry). AllBegin answers l) more (begin_more answers k.log (e ∷ []) known.begin))) others_know;
        apart = apart_set s.views id W at w (λ j h. h) k.apart;
        others = outside;
        turn = inr record {
          words_are = refl;
          away = refl;
          who = id;
          holder = w;
          at = set_here s.views id w (below s.views id W at);
          acting_is = refl;
          taken = t.taken;
          taken_is = ap (λ (x : View D). x.taken) (holder_is t) ∙ t.taken_is;
          acknowledges = acknowledged_set has moment o s.views id w t.taken t.taken (λ then count h. h)
              (t.acknowledges.each id W at) t.acknowledges;
          alone = λ i v a h. ⊎_elim (λ z. z.0) (λ z. t.alone i v z.1 h ∙ sym me) (at_set s.views id i w v a);
        };
      } in
      subst (λ (z : List ℕ × Homes D). Grew z.0 z.1) (λ i. (sym t.words_are i, sym t.away i)) (w, keeps, tt, kept, refl)

  gave_taken : c.history ≡ seen → has c (moment c.disk) (length (grants p.shift c.history))
      → ((taken : DurableState D) → took_it ≡ Some taken → (then count : ℕ) → has taken then count → has c then count)
      → IsTaken → Gave s.words s.homes
  gave_taken same stands still t =
      let known : Knows o k.log W = k.each id W at in
      let here : p ≡ o = known.same (omega arith) in
      let me : id ≡ t.who = t.alone id W at refl in
      let w : View D = passing p n seen (moment c.disk) answers mine in
      let on = still t.taken (ap (λ (x : View D). x.taken) (holder_is t) ∙ t.taken_is) in
      let stands_here : AllStand has o.shift c w.answers = (
        subst (λ (z : ℕ × List Entry). has c (moment c.disk) (length (grants z.0 z.1))) (λ i. ((here i).shift, same i)) stands,
        stand_on has o.shift answers t.taken c on (t.acknowledges.each id W at),
      ) in
      let knows : Knows o k.log w = record {
        same = known.same;
        begin = (subst (λ (l : List Entry). IsPrefix seen l) log_is (prefix_all seen), known.begin);
        own_entries = known.own_entries;
        range = known.range;
        acts = λ h. absurd (cc);
      } in
      let kept : Kept has moment o (record { words = 0 ∷ length k.log ∷ []; homes = some c ∷ []; views = set s.views id w }) = record {
        log = k.log;
        each = each_set o k.log s.views id w knows (λ i v ne a. k.each i v a);
        apart = apart_set s.views id W at w (λ j h. h) k.apart;
        others = k.others;
        turn = inl record {
          words_are = refl;
          held = c;
          home = refl;
          seen = same ∙ log_is;
          fits = subst (λ (x : Opening D). Fits x c) here fits;
          acknowledges = acknowledged_set has moment o s.views id w t.taken c on stands_here t.acknowledges;
          idle = λ i v a. ⊎_elim (λ z. ap (λ (x : View D). x.has_turn) (sym z.1))
              (λ z. not_true v.has_turn (λ h. z.0 (t.alone i v z.1 h ∙ sym me))) (at_set s.views id i w v a);
        };
      } in
      subst (λ (z : List ℕ × Homes D). Gave z.0 z.1) (λ i. (sym t.words_are i, sym t.away i)) (w, gives, tt, kept, refl)

  -- the pass that has the turn is the one that took it
  is_taken : IsTaken
  is_taken = ⊎_elim (λ (f : Free has moment o k.log s.words s.homes s.views). let was : true ≡ false = f.idle id W at in absurd (cc))
      (λ t. t) k.turn

pub grows : {D : Type 0} (has : DurableState D → ℕ → ℕ → Type 0) (moment : D → ℕ) (o p : Opening D) (slots id n : ℕ)
    (answers : List (List Entry × ℕ)) (seen mine : List Entry) (took_it : Maybe (DurableState D)) (c : DurableState D) (e : Entry)
    (m : AtSeat D) (new : ℕ)
    → m ≡ (acting p n answers seen mine took_it, (0, c) ∷ []) → Fits p c → c.history ≡ seen ++ e ∷ [] → e.session ≡ n
    → new ≡ length c.history → Allows (Kept has moment o) slots id m 1 (λ _. new) (λ _. grew any_step m new)
grows {D} has moment o p slots id n answers seen mine took_it c e m new is fits longer by count =
    subst (λ (z : AtSeat D × ℕ). Allows (Kept has moment o) slots id z.0 1 (λ _. z.1) (λ _. grew any_step z.0 z.1))
    (λ i. (sym is i, sym count i))
    (λ s k deep at small. grew_taken has moment o p id n answers seen mine took_it c s k at fits e longer by
    (is_taken has moment o p id n answers seen mine took_it c s k at fits))

pub gives_turn : {D : Type 0} (has : DurableState D → ℕ → ℕ → Type 0) (moment : D → ℕ) (o p : Opening D) (slots id n : ℕ)
    (answers : List (List Entry × ℕ)) (seen mine : List Entry) (took_it : Maybe (DurableState D)) (c : DurableState D) (m : AtSeat D)
    → m ≡ (acting p n answers seen mine took_it, (0, c) ∷ []) → Fits p c → c.history ≡ seen
    → has c (moment c.disk) (length (grants p.shift c.history))
    → ((taken : DurableState D) → took_it ≡ Some taken → (then count : ℕ) → has taken then count → has c then count)
    → Allows (Kept has moment o) slots id m 0 (λ _. 0) (λ _. gave moment any_step m 0)
gives_turn {D} has moment o p slots id n answers seen mine took_it c m is fits same stands still =
    subst (λ (z : AtSeat D). Allows (Kept has moment o) slots id z 0 (λ _. 0) (λ _. gave moment any_step z 0)) (sym is)
    (λ s k deep at small. gave_taken has moment o p id n answers seen mine took_it c s k at fits same stands still
    (is_taken has moment o p id n answers seen mine took_it c s k at fits))
