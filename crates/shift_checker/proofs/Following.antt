-- The lines of a block, read one after the other.
use Rattle.std.proofs.Common.{◌≡◌, ℕ, zero, suc, ◌+◌, ◌-◌, ◌<◌, ◌≤◌, false, List, [], ◌∷◌, ◌++◌, map, length, take}
use Rattle.std.proofs.Common.{append_assoc, append-nil, length-append, add-zero, zero-add, Some, refl, sym, ap, ◌∙◌, subst, arith}
use Rattle.std.proofs.Common.{eq-eqb, ne_eqb}
use Rattle.std.specs.List.{All, slice_get}
use Rattle.std.proofs.lemmas.Bool.{or_parts}
use Rattle.std.proofs.lemmas.List.Elements.{All-nil, All-cons, All-append, All-map}
use Rattle.cell_base.specs.declared.cells.Cell.{Cell}
use Rattle.cell_base.specs.declared.requests.Request.{Request}
use Rattle.cell_base.specs.declared.shifts.Entry.{Entry}
use Rattle.lists.proofs.Elements.{All-slice_get}
use Rattle.cell_base.specs.Fits.{RequestFits}
use Rattle.cell_base.specs.Histories.{was_halted}
use Rattle.cell_base.specs.Scripts.{holds_halt}
use Rattle.record_text.specs.declared.blocks.Block.{Block}
use Rattle.record_text.specs.declared.blocks.Tail.{Tail}
use Rattle.record_text.specs.declared.blocks.Tail.TheVariants as tails
use Rattle.record_text.specs.declared.record_lines.RecordLine.{RecordLine}
use Rattle.record_text.specs.declared.record_lines.RecordLine.TheVariants as lines
use Rattle.record_text.specs.declared.stages.Head.{Head}
use Rattle.record_text.specs.declared.stages.Stage.TheVariants.{Between, Entries, Left, Steps}
use Rattle.record_text.specs.Blocks.{HaltsRightly, BlockIsWellFormed, line_count, plan_steps}
use Rattle.record_text.specs.Progress.{Reading, closed}
use Rattle.record_text.specs.Turns.{LineFits, Suits, turn_of, with_line}
use Rattle.shift_checker.specs.declared.verdict.Why.{Why}
use Rattle.shift_checker.specs.declared.verdict.Verdict.TheVariants.{No}
use Rattle.shift_checker.specs.Judging.{verdict_from}
use Rattle.shift_checker.specs.Lines.{judged}
use Rattle.shift_checker.specs.Saying.{block_says, tail_says}
use Rattle.shift_checker.proofs.Staying.{stays}

-- what is read with lines, the first of which is the n-th
abbrev pub with_lines : ℕ → Reading → List RecordLine → Reading
with_lines n r [] = r
with_lines n r (line ∷ more) = with_lines (n + 1) (with_line n r.0 r.1 line) more

-- each of them may come where it stands
abbrev pub AllSuit : ℕ → Reading → List RecordLine → Type 0
AllSuit n r [] = Unit {0}
AllSuit n r (line ∷ more) = Suits (turn_of r.1) line × AllSuit (n + 1) (with_line n r.0 r.1 line) more

-- they lead there
pub record LeadTo (n : ℕ) (r : Reading) (more : List RecordLine) (end : Reading) : Type 0 where
  pub suit : AllSuit n r more
  pub there : with_lines n r more ≡ end

none_lead : (n : ℕ) (r : Reading) → LeadTo n r [] r
none_lead n r = record { suit = tt; there = refl }

one_leads : (n : ℕ) (r next : Reading) (line : RecordLine) (more : List RecordLine) (end : Reading) → Suits (turn_of r.1) line
    → with_line n r.0 r.1 line ≡ next → LeadTo (n + 1) next more end → LeadTo n r (line ∷ more) end
one_leads n r next line more end suits is later = record {
  suit = (suits, subst (λ (r : Reading). AllSuit (n + 1) r more) (sym is) later.suit);
  there = ap (λ (r : Reading). with_lines (n + 1) r more) is ∙ later.there;
}

-- ---- the lines of a block

module _ (given : List Block) (head : Head) where
  entries_lead : (n : ℕ) (entries more : List Entry) (others : List RecordLine) (end : Reading) → holds_halt more ≡ false
      → LeadTo (n + length more) (given, Entries head (entries ++ more)) others end
      → LeadTo n (given, Entries head entries) (map lines.Entry more ++ others) end
  entries_lead n entries [] others end unhalted later =
      subst (λ n. LeadTo n (given, Entries head entries) others end) (add-zero n)
      (subst (λ (es : List Entry). LeadTo (n + 0) (given, Entries head es) others end) (append-nil entries) later)
  entries_lead n entries (entry ∷ more) others end unhalted later =
      let parts = or_parts (was_halted entry.told) (holds_halt more) unhalted in
      let number : n + suc (length more) ≡ n + 1 + length more = omega arith in
      one_leads n (given, Entries head entries) (given, Entries head (entries ++ entry ∷ [])) (lines.Entry entry)
      (map lines.Entry more ++ others) end tt (rw parts.0 refl)
      (entries_lead (n + 1) (entries ++ entry ∷ []) more others end parts.1
      (subst (λ (es : List Entry). LeadTo (n + 1 + length more) (given, Entries head es) others end)
      (sym (append_assoc entries (entry ∷ []) more))
      (subst (λ n. LeadTo n (given, Entries head (entries ++ entry ∷ more)) others end) number later)))

  module _ (entries : List Entry) (left : ℕ) where
    steps_lead : (n missing : ℕ) (steps : List Request) (step : Request) (more : List Request) → missing ≡ suc (length more)
        → LeadTo n (given, Steps head entries left missing steps) (map lines.Step (step ∷ more))
        (closed given head entries (tails.Planned left (steps ++ step ∷ more)))
    steps_lead n missing steps step [] count =
        one_leads n (given, Steps head entries left missing steps) (closed given head entries (tails.Planned left (steps ++ step ∷ [])))
        (lines.Step step) [] (closed given head entries (tails.Planned left (steps ++ step ∷ []))) tt
        (rw (eq-eqb missing 1 count) refl) (none_lead (n + 1) _)
    steps_lead n missing steps step (next ∷ more) count =
        one_leads n (given, Steps head entries left missing steps) (given, Steps head entries left (missing - 1) (steps ++ step ∷ []))
        (lines.Step step) (map lines.Step (next ∷ more)) (closed given head entries (tails.Planned left (steps ++ step ∷ next ∷ more))) tt
        (rw (ne_eqb missing 1 (λ one. omega (arith, one, count))) refl)
        (subst (λ (all : List Request). LeadTo (n + 1) (given, Steps head entries left (missing - 1) (steps ++ step ∷ []))
        (map lines.Step (next ∷ more)) (closed given head entries (tails.Planned left all))) (append_assoc steps (step ∷ []) (next ∷ more))
        (steps_lead (n + 1) (missing - 1) (steps ++ step ∷ []) next more (omega (arith, count))))

    plan_leads : (n : ℕ) (steps : List Request)
        → LeadTo n (given, Left head entries left) (lines.Plan (length steps) ∷ map lines.Step steps)
        (closed given head entries (tails.Planned left steps))
    plan_leads n [] =
        one_leads n (given, Left head entries left) (closed given head entries (tails.Planned left [])) (lines.Plan 0) []
        (closed given head entries (tails.Planned left [])) tt refl (none_lead (n + 1) _)
    plan_leads n (step ∷ steps) =
        one_leads n (given, Left head entries left) (given, Steps head entries left (suc (length steps)) [])
        (lines.Plan (suc (length steps))) (map lines.Step (step ∷ steps)) (closed given head entries (tails.Planned left (step ∷ steps))) tt
        (rw (ne_eqb (suc (length steps)) 0 (λ none. omega (arith, none))) refl)
        (steps_lead (n + 1) (suc (length steps)) [] step steps refl)

  body_leads : (n : ℕ) (entries : List Entry) (tail : Tail) → HaltsRightly entries tail
      → LeadTo n (given, Entries head []) (map lines.Entry entries ++ tail_says tail) (closed given head entries tail)
  body_leads n entries (tails.Planned left steps) unhalted =
      entries_lead n [] entries (tail_says (tails.Planned left steps)) (closed given head entries (tails.Planned left steps)) unhalted
      (one_leads (n + length entries) (given, Entries head entries) (given, Left head entries left) (lines.Left left)
      (lines.Plan (length steps) ∷ map lines.Step steps) (closed given head entries (tails.Planned left steps)) tt refl
      (plan_leads entries left (n + length entries + 1) steps))
  body_leads n entries tails.Halted ends =
      subst (λ (es : List Entry). LeadTo n (given, Entries head []) (map lines.Entry es ++ []) (closed given head es tails.Halted))
      (sym ends.are)
      (subst (λ (ls : List RecordLine). LeadTo n (given, Entries head []) ls
      (closed given head (ends.front ++ ends.last ∷ []) tails.Halted))
      (sym (append-nil (map lines.Entry (ends.front ++ ends.last ∷ [])) ∙ map_last ends.front))
      (entries_lead n [] ends.front (lines.Entry ends.last ∷ []) (closed given head (ends.front ++ ends.last ∷ []) tails.Halted)
      ends.unhalted
      (one_leads (n + length ends.front) (given, Entries head ends.front) (closed given head (ends.front ++ ends.last ∷ []) tails.Halted)
      (lines.Entry ends.last) [] (closed given head (ends.front ++ ends.last ∷ []) tails.Halted) tt (rw ends.halted refl)
      (none_lead (n + length ends.front + 1) _))))
    where
      map_last : (front : List Entry) → map lines.Entry (front ++ ends.last ∷ []) ≡ map lines.Entry front ++ lines.Entry ends.last ∷ []
      map_last [] = refl
      map_last (entry ∷ front) = ap (λ ls. lines.Entry entry ∷ ls) (map_last front)

pub block_leads : (given : List Block) (block : Block) → HaltsRightly block.entries block.tail
    → LeadTo block.first_line (given, Between) (block_says block) (given ++ block ∷ [], Between)
block_leads given block halts =
    let head : Head = record { first_line = block.first_line; shift = block.shift; after = block.after } in
    one_leads block.first_line (given, Between) (given, Entries head []) (lines.Head block.shift block.after)
    (map lines.Entry block.entries ++ tail_says block.tail) (given ++ block ∷ [], Between) tt refl
    (body_leads given head (block.first_line + 1) block.entries block.tail halts)

length-map : {A B : Type 0} (f : A → B) (xs : List A) → length (map f xs) ≡ length xs
length-map f [] = refl
length-map f (x ∷ xs) = ap suc (length-map f xs)

pub length-says : (block : Block) → length (block_says block) ≡ line_count block
length-says block = by block.tail where
  by : (tail : Tail) → length (lines.Head block.shift block.after ∷ (map lines.Entry block.entries ++ tail_says tail))
      ≡ line_count (record block { tail = tail })
  by (tails.Planned left steps) =
      omega (
        arith,
        length-append (map lines.Entry block.entries) (tail_says (tails.Planned left steps)),
        length-map lines.Entry block.entries,
        length-map lines.Step steps,
      )
  by tails.Halted =
      omega (arith, length-append (map lines.Entry block.entries) (tail_says tails.Halted), length-map lines.Entry block.entries)

-- ---- the first lines of those that follow one another

pub line_suits : (n : ℕ) (r : Reading) (ls : List RecordLine) (i : ℕ) (line : RecordLine) → AllSuit n r ls → Some line ≡ slice_get ls i
    → Suits (turn_of (with_lines n r (take i ls)).1) line
line_suits n r [] i line suit is = absurd cc
line_suits n r (first ∷ ls) zero line suit is = subst (Suits (turn_of r.1)) (let e : first ≡ line = cc in e) suit.0
line_suits n r (first ∷ ls) (suc i) line suit is = line_suits (n + 1) (with_line n r.0 r.1 first) ls i line suit.1 is

pub with_next : (n : ℕ) (r : Reading) (ls : List RecordLine) (i : ℕ) (line : RecordLine) → Some line ≡ slice_get ls i
    → with_lines n r (take (i + 1) ls)
    ≡ with_line (n + i) (with_lines n r (take i ls)).0 (with_lines n r (take i ls)).1 line
with_next n r [] i line is = absurd cc
with_next n r (first ∷ ls) zero line is =
    let e : first ≡ line = cc in
    rw (add-zero n, e) refl
with_next n r (first ∷ ls) (suc i) line is =
    let next : Reading = with_line n r.0 r.1 first in
    let number : n + 1 + i ≡ n + suc i = omega arith in
    let places : suc i + 1 ≡ suc (i + 1) = omega arith in
    ap (λ k. with_lines n r (take k (first ∷ ls))) places
    ∙ with_next (n + 1) next ls i line is
    ∙ ap (λ m. with_line m (with_lines (n + 1) next (take i ls)).0 (with_lines (n + 1) next (take i ls)).1 line) number

-- a line that fails among the first ones is the verdict on all
pub all_stay : (cell : Cell) (n : ℕ) (r : Reading) (ls : List RecordLine) (i line : ℕ) (why : Why) → AllSuit n r ls
    → verdict_from 1 (judged cell (with_lines n r (take i ls))) ≡ No line why
    → verdict_from 1 (judged cell (with_lines n r ls)) ≡ No line why
all_stay cell n r [] zero line why suit wrong = wrong
all_stay cell n r [] (suc i) line why suit wrong = wrong
all_stay cell n r (first ∷ ls) zero line why suit wrong =
    all_stay cell (n + 1) (with_line n r.0 r.1 first) ls 0 line why suit.1 (stays cell n r.0 line why r.1 first suit.0 wrong)
all_stay cell n r (first ∷ ls) (suc i) line why suit wrong =
    all_stay cell (n + 1) (with_line n r.0 r.1 first) ls i line why suit.1 wrong

-- ---- what stands at a place of a block

behind : {A : Type 0} (xs ys : List A) (k : ℕ) → slice_get (xs ++ ys) (length xs + k) ≡ slice_get ys k
behind [] ys k = ap (slice_get ys) (zero-add k)
behind (x ∷ xs) ys k =
    let e : suc (length xs) + k ≡ suc (length xs + k) = omega arith in
    ap (slice_get (x ∷ (xs ++ ys))) e ∙ behind xs ys k

mapped : {A B : Type 0} (f : A → B) (xs : List A) (ys : List B) (k : ℕ) (x : A) → slice_get xs k ≡ Some x
    → Some (f x) ≡ slice_get (map f xs ++ ys) k
mapped f [] ys k x is = absurd cc
mapped f (y ∷ xs) ys zero x is = let e : y ≡ x = cc in ap (λ z. Some (f z)) (sym e)
mapped f (y ∷ xs) ys (suc k) x is = mapped f xs ys k x is

pub entry_there : (block : Block) (at : ℕ) (entry : Entry) → 0 < at → slice_get block.entries (at - 1) ≡ Some entry
    → Some (lines.Entry entry) ≡ slice_get (block_says block) at
entry_there block zero entry some is = absurd (omega (arith, some))
entry_there block (suc k) entry some is =
    let e : suc k - 1 ≡ k = omega arith in
    mapped lines.Entry block.entries (tail_says block.tail) k entry (ap (slice_get block.entries) (sym e) ∙ is)

pub tail_there : (block : Block) (at : ℕ) (line : RecordLine) → length block.entries < at
    → Some line ≡ slice_get (tail_says block.tail) (at - 1 - length block.entries) → Some line ≡ slice_get (block_says block) at
tail_there block zero line past is = absurd (omega (arith, past))
tail_there block (suc k) line past is =
    let e : length (map lines.Entry block.entries) + (suc k - 1 - length block.entries) ≡ k =
    omega (arith, past, length-map lines.Entry block.entries) in
    is ∙ sym (behind (map lines.Entry block.entries) (tail_says block.tail) (suc k - 1 - length block.entries))
    ∙ ap (slice_get (map lines.Entry block.entries ++ tail_says block.tail)) e

pub step_there : (left : ℕ) (steps : List Request) (at : ℕ) (step : Request) → 2 ≤ at → slice_get steps (at - 2) ≡ Some step
    → Some (lines.Step step) ≡ slice_get (tail_says (tails.Planned left steps)) at
step_there left steps zero step some is = absurd (omega (arith, some))
step_there left steps (suc zero) step some is = absurd (omega (arith, some))
step_there left steps (suc (suc k)) step some is =
    let e : suc (suc k) - 2 ≡ k = omega arith in
    mapped lines.Step steps [] k step (ap (slice_get steps) (sym e) ∙ is)
    ∙ ap (λ ls. slice_get ls k) (append-nil (map lines.Step steps))

-- each line of a block that may be judged fits the cell
pub line_there_fits : (cell : Cell) (block : Block) (at : ℕ) (line : RecordLine) → BlockIsWellFormed cell block
    → Some line ≡ slice_get (block_says block) at → LineFits cell line
line_there_fits cell block at line formed is =
    All-slice_get (LineFits cell) (block_says block) at line
    (All-cons (LineFits cell) (lines.Head block.shift block.after) (map lines.Entry block.entries ++ tail_says block.tail) tt
    (All-append (LineFits cell) (map lines.Entry block.entries) (tail_says block.tail)
    (All-map (LineFits cell) lines.Entry block.entries formed.entries) (tail_fits block.tail formed.steps)))
    (sym is)
  where
    tail_fits : (tail : Tail) → All (RequestFits cell) (plan_steps tail) → All (LineFits cell) (tail_says tail)
    tail_fits (tails.Planned left steps) fit =
        All-cons (LineFits cell) (lines.Left left) (lines.Plan (length steps) ∷ map lines.Step steps) tt
        (All-cons (LineFits cell) (lines.Plan (length steps)) (map lines.Step steps) tt (All-map (LineFits cell) lines.Step steps fit))
    tail_fits tails.Halted fit = All-nil (LineFits cell)
