-- That a text that is refused for a name lacks that name alone.
use Rattle.std.proofs.Common.{◌≡◌, ◌≢◌, ℕ, ◌<◌, ◌^◌, ◌↔◌, Bool, true, false, ◌&&◌, nat_lt, nat_le, List, [], ◌∷◌, ◌++◌, length}
use Rattle.std.proofs.Common.{get_or, Option, Some, None, Result, Ok, Err, position, refl, sym, ap, subst, ◌∙◌, arith, inl, inr}
use Rattle.std.specs.Prelude.{codes, if◌then◌else◌, slice_get}
use Rattle.std.specs.Fmt.{decimal}
use Rattle.std.specs.List.{list_all, position_or_len}
use Rattle.std.specs.Option.{option_map_or}
use Rattle.std.specs.Str.{bytes_eq}
use Rattle.std.proofs.lemmas.Bool.{and_parts, leb-true, le-ltb, ltb-false, false≢true}
use Rattle.std.proofs.lemmas.List.Elements.{All-cons, All-nil}
use Rattle.std.proofs.lemmas.List.Sums.{position_or_len_is, fails_before_first, AllPass-from_list_all}
use Rattle.std.proofs.lemmas.List.Splits.{join_with_byte-slice_split}
use Rattle.std.proofs.lemmas.Slice.Eq.{bytes_eq-Decides}
use Rattle.cell_base.specs.declared.cells.Cell.{Cell}
use Rattle.cell_base.specs.declared.cells.Resource.{Resource}
use Rattle.cell_base.specs.declared.cells.JobType.{JobType}
use Rattle.cell_base.specs.declared.requests.Request.{Request}
use Rattle.cell_base.specs.declared.requests.Request.TheVariants.{Load, Process, Move, Unload}
use Rattle.cell_base.specs.Faults.{◌>>=◌, or_fault}
use Rattle.cell_base.specs.Named.{resource_names, type_names, resource_name, type_name}
use Rattle.cell_base.specs.declared.names.TheConstants.{NAME_BYTES}
use Rattle.cell_base.specs.Names.{IsName, is_name, is_name_byte, name_of}
use Rattle.cell_base.proofs.NameTests.{name_of-name}
use Rattle.step_text.specs.declared.faults.StepFault.{StepFault}
use Rattle.step_text.specs.declared.faults.StepFault.TheVariants.{BadStep, UnknownName}
use Rattle.step_text.specs.Words.{words, joined, number_of}
use Rattle.step_text.specs.Steps.{step_text, job_of, number_of_name, load_of, process_of, move_of, branch_of}
use Rattle.step_text.specs.Steps.{unload_of, step_of_two, step_of_three, step_of_words, step_of}
use Rattle.step_text.specs.Lacking.{with_resource, with_type, IsFreeName, LacksName}
use Rattle.step_text.proofs.Chains.{if_some}
use Rattle.step_text.proofs.Joined.{IsWord, words_again, word_by_test, decimal_word, name_word}
use Rattle.step_text.proofs.Numerals.{job_again, job_small, job_back}

abbrev IsUnknown : {A : Type 0} → Result A StepFault → Type 0
IsUnknown r = r ≡ Err UnknownName

-- ---- a name that is not known

-- no name is this one exactly where none is found
new_from_none : (names : List (List ℕ)) (word : List ℕ) → position (bytes_eq word) names ≡ None → IsFreeName word names
new_from_none names word e k d within = at (nat_lt (position_or_len (bytes_eq word) names) (length names)) refl e
  where
    at : (b : Bool) → nat_lt (position_or_len (bytes_eq word) names) (length names) ≡ b
        → (if b then Some (position_or_len (bytes_eq word) names) else None) ≡ None → get_or names k d ≢ word
    at true passes h = absurd cc
    at false fails h = λ same.
        let early : k < position_or_len (bytes_eq word) names = omega (arith, within, ltb-false _ _ fails) in
        false≢true (sym (fails_before_first (bytes_eq word) names k d early) ∙ (bytes_eq-Decides word (get_or names k d)).1 (sym same))

none_from_new : (names : List (List ℕ)) (word : List ℕ) → IsFreeName word names → position (bytes_eq word) names ≡ None
none_from_new names word new =
    let last : position_or_len (bytes_eq word) names ≡ length names =
    position_or_len_is (bytes_eq word) names (length names) [] (omega arith)
    (λ k below. differs (get_or names k []) (λ e. new k [] below e)) (λ h. absurd (omega (arith, h))) in
    rw (last, le-ltb (length names) (length names) (omega arith)) refl
  where
    differs : (other : List ℕ) → other ≢ word → bytes_eq word other ≡ false
    differs other ne = at (bytes_eq word other) refl
      where
        at : (b : Bool) → bytes_eq word other ≡ b → b ≡ false
        at true e = absurd (ne (sym ((bytes_eq-Decides word other).0 e)))
        at false e = refl

-- bytes that pass the test are a name
name_from_test : (word : List ℕ) → is_name word ≡ true → IsName word
name_from_test word is =
    let letters = and_parts (nat_le 1 (length word) && nat_le (length word) NAME_BYTES) (list_all is_name_byte word) is in
    let long = and_parts (nat_le 1 (length word)) (nat_le (length word) NAME_BYTES) letters.0 in
    record {
      some = leb-true _ _ long.0;
      short = leb-true _ _ long.1;
      spelled = AllPass-from_list_all is_name_byte word letters.1;
    }

-- a word that is no known name is a name, and a new one
record IsNewName (names : List (List ℕ)) (word : List ℕ) : Type 0 where
  spelled : IsName word
  new : IsFreeName word names

unknown_is_new : (names : List (List ℕ)) (word : List ℕ) → IsUnknown (number_of_name names word) → IsNewName names word
unfolding number_of_name
unknown_is_new names word e = at (name_of word) refl e
  where
    none : (o : Option ℕ) → IsUnknown (or_fault o UnknownName) → o ≡ None
    none None f = refl
    none (Some k) f = absurd cc

    at : (o : Option (List ℕ)) → name_of word ≡ o
        → IsUnknown (or_fault o BadStep >>= λ name. or_fault (position (bytes_eq name) names) UnknownName)
        → IsNewName names word
    at None is f = absurd cc
    at (Some name) is f =
        let same = if_some (is_name word) word name is in
        let found : position (bytes_eq name) names ≡ None = none (position (bytes_eq name) names) f in
        record {
          spelled = name_from_test word same.0;
          new = new_from_none names word (subst (λ (n : List ℕ). position (bytes_eq n) names ≡ None) (sym same.1) found);
        }

new_is_unknown : (names : List (List ℕ)) (word : List ℕ) → IsName word → IsFreeName word names → IsUnknown (number_of_name names word)
unfolding number_of_name
new_is_unknown names word spelled new = rw (name_of-name word spelled, none_from_new names word new) refl

-- ---- steps before and after it

-- a value that is wrapped is unknown where the value is
wrapped : (m : Result ℕ StepFault) (f : ℕ → Request) → IsUnknown (m >>= λ n. Ok (f n)) → IsUnknown m
wrapped (Ok n) f e = absurd cc
wrapped (Err fault) f e = cc

-- a number is never unknown
number_known : (o : Option ℕ) (f : ℕ → Request) → IsUnknown (or_fault o BadStep >>= λ n. Ok (f n)) → ⊥
number_known None f e = absurd cc
number_known (Some n) f e = absurd cc

-- after the job, what is unknown comes after it
after_job : (word : List ℕ) (f : ℕ → Result Request StepFault) → IsUnknown (job_of word >>= f)
    → (job : ℕ) × ((job_of word ≡ Ok job) × IsUnknown (f job))
unfolding job_of
after_job word f e = at (number_of 0 4294967295 word) e
  where
    at : (o : Option ℕ) → IsUnknown (or_fault o BadStep >>= f) → (job : ℕ) × ((or_fault o BadStep ≡ Ok job) × IsUnknown (f job))
    at None h = absurd cc
    at (Some job) h = (job, (refl, h))

-- the verb is this one, or the others are tried
by_verb : (verb known : List ℕ) (here others : Result Request StepFault) (Goal : Type 0)
    → (verb ≡ known → IsUnknown here → Goal) → (IsUnknown others → Goal) → IsUnknown (if bytes_eq verb known then here else others) → Goal
by_verb verb known here others Goal this rest e = at (bytes_eq verb known) refl e
  where
    at : (b : Bool) → bytes_eq verb known ≡ b → IsUnknown (if b then here else others) → Goal
    at true same h = this ((bytes_eq-Decides verb known).0 same) h
    at false same h = rest h

-- ---- words that lack a name

-- they are the work of a resource of a new name, or the load of a type of one
data Lacks (cell : Cell) : List (List ℕ) → Type 0 where
  resource : (name : List ℕ) → IsNewName (resource_names cell.resources) name → Lacks cell (codes "process" ∷ name ∷ [])
  type : (job : ℕ) (name : List ℕ) → job < 2 ^ 32 → IsNewName (type_names cell.types) name
      → Lacks cell (codes "load" ∷ decimal job ∷ name ∷ [])

module _ (cell : Cell) where
  two_lack : (verb word : List ℕ) → IsUnknown (step_of_two cell verb word) → Lacks cell (verb ∷ word ∷ [])
  unfolding step_of_two process_of move_of unload_of
  two_lack verb word e =
      by_verb verb (codes "process") (process_of cell word) _ (Lacks cell (verb ∷ word ∷ []))
      (λ same h. subst (λ (v : List ℕ). Lacks cell (v ∷ word ∷ [])) (sym same)
      (resource word (unknown_is_new (resource_names cell.resources) word
      (wrapped (number_of_name (resource_names cell.resources) word) (λ machine. Process (record { 0 = machine })) h))))
      (by_verb verb (codes "move") (move_of word) _ (Lacks cell (verb ∷ word ∷ []))
      (λ same h. let found = after_job word (λ job. Ok (Move (record { 0 = job }) 0)) h in absurd (ok_known found.1.1))
      (by_verb verb (codes "unload") (unload_of word) _ (Lacks cell (verb ∷ word ∷ []))
      (λ same h. let found = after_job word (λ job. Ok (Unload (record { 0 = job }))) h in absurd (ok_known found.1.1))
      (λ h. absurd cc))) e
    where
      ok_known : {r : Request} → IsUnknown (Ok r) → ⊥
      ok_known h = cc

  three_lack : (verb word last : List ℕ) → IsUnknown (step_of_three cell verb word last) → Lacks cell (verb ∷ word ∷ last ∷ [])
  unfolding step_of_three load_of branch_of
  three_lack verb word last e =
      by_verb verb (codes "load") (load_of cell word last) _ (Lacks cell (verb ∷ word ∷ last ∷ [])) load
      (by_verb verb (codes "move") (branch_of word last) _ (Lacks cell (verb ∷ word ∷ last ∷ []))
      (λ same h.
      let branch_of_job : ℕ → Result Request StepFault =
      λ job. or_fault (number_of 1 7 last) BadStep >>= λ branch. Ok (Move (record { 0 = job }) branch) in
      let found = after_job word branch_of_job h in
      absurd (number_known (number_of 1 7 last) (λ branch. Move (record { 0 = found.0 }) branch) found.1.1))
      (λ h. absurd cc)) e
    where
      load : verb ≡ codes "load" → IsUnknown (load_of cell word last) → Lacks cell (verb ∷ word ∷ last ∷ [])
      load same h =
          let kind_of : Result ℕ StepFault = number_of_name (type_names cell.types) last in
          let found = after_job word (λ job. kind_of >>= λ kind. Ok (Load (record { 0 = job }) (record { 0 = kind }))) h in
          let new = unknown_is_new (type_names cell.types) last
          (wrapped kind_of (λ kind. Load (record { 0 = found.0 }) (record { 0 = kind })) found.1.1) in
          subst (λ (v : List ℕ). Lacks cell (v ∷ word ∷ last ∷ [])) (sym same)
          (subst (λ (w : List ℕ). Lacks cell (codes "load" ∷ w ∷ last ∷ [])) (job_back found.0 word found.1.0)
          (type found.0 last (job_small found.0 word found.1.0) new))

  words_lack : (ws : List (List ℕ)) → IsUnknown (step_of_words cell ws) → Lacks cell ws
  words_lack [] e = absurd cc
  words_lack (verb ∷ []) e = absurd cc
  words_lack (verb ∷ word ∷ []) e = two_lack verb word e
  words_lack (verb ∷ word ∷ last ∷ []) e = three_lack verb word last e
  words_lack (verb ∷ word ∷ last ∷ more ∷ ws) e = absurd cc

-- ---- the text with the name added

-- what is added stands last
last_there : {X : Type 0} (xs : List X) (x : X) → slice_get (xs ++ x ∷ []) (length xs) ≡ Some x
last_there [] x = refl
last_there (y ∷ ys) x = last_there ys x

added_resource : (cell : Cell) (name : List ℕ) → resource_name (with_resource cell name) (length cell.resources) ≡ name
added_resource cell name =
    ap (λ (o : Option Resource). option_map_or (λ (x : Resource). x.name) o [])
    (last_there cell.resources (record { name = name; capacity = 1; order = 0 }))

added_type : (cell : Cell) (name : List ℕ) → type_name (with_type cell name) (length cell.types) ≡ name
added_type cell name =
    ap (λ (o : Option JobType). option_map_or (λ (t : JobType). t.name) o [])
    (last_there cell.types (record { name = name; route = []; next = [] }))

module _ (cell : Cell) where
  process_text : (name : List ℕ)
      → step_text (with_resource cell name) (Process (record { 0 = length cell.resources })) ≡ joined (codes "process" ∷ name ∷ [])
  process_text name = ap (λ (n : List ℕ). joined (codes "process" ∷ n ∷ [])) (added_resource cell name)

  load_text : (name : List ℕ) (job : ℕ)
      → step_text (with_type cell name) (Load (record { 0 = job }) (record { 0 = length cell.types }))
      ≡ joined (codes "load" ∷ decimal job ∷ name ∷ [])
  load_text name job = ap (λ (n : List ℕ). joined (codes "load" ∷ decimal job ∷ n ∷ [])) (added_type cell name)

  lacks : (text : List ℕ) (ws : List (List ℕ)) → joined ws ≡ text → Lacks cell ws → LacksName cell text
  lacks text ws is (resource name new) =
      inl (name, record { spelled = new.spelled; new = new.new; step = process_text name ∙ is })
  lacks text ws is (type job name small new) =
      inr (name, (record { 0 = job }, record { spelled = new.spelled; new = new.new; job_fits = small; step = load_text name job ∙ is }))

  unknown_lacks : (text : List ℕ) → IsUnknown (step_of cell text) → LacksName cell text
  unfolding step_of
  unknown_lacks text e = lacks text (words text) (join_with_byte-slice_split 32 text) (words_lack cell (words text) e)

  -- ---- and the other way

  process_unknown : (name : List ℕ) → IsNewName (resource_names cell.resources) name
      → IsUnknown (step_of cell (joined (codes "process" ∷ name ∷ [])))
  unfolding step_of step_of_two process_of
  process_unknown name new =
      ap (step_of_words cell) (words_again (codes "process") (name ∷ []) (word_by_test (codes "process") refl)
      (All-cons IsWord name [] (name_word name new.spelled) (All-nil IsWord)))
      ∙ rw (new_is_unknown (resource_names cell.resources) name new.spelled new.new) refl

  load_unknown : (name : List ℕ) (job : ℕ) → job < 2 ^ 32 → IsNewName (type_names cell.types) name
      → IsUnknown (step_of cell (joined (codes "load" ∷ decimal job ∷ name ∷ [])))
  unfolding step_of step_of_three load_of
  load_unknown name job small new =
      ap (step_of_words cell) (words_again (codes "load") (decimal job ∷ name ∷ []) (word_by_test (codes "load") refl)
      (All-cons IsWord (decimal job) (name ∷ []) (decimal_word job (omega (arith, small)))
      (All-cons IsWord name [] (name_word name new.spelled) (All-nil IsWord))))
      ∙ rw (job_again job small, new_is_unknown (type_names cell.types) name new.spelled new.new) refl

  lacks_unknown : (text : List ℕ) → LacksName cell text → IsUnknown (step_of cell text)
  lacks_unknown text (inl lack) =
      subst (λ (t : List ℕ). IsUnknown (step_of cell t)) (sym (process_text lack.0) ∙ lack.1.step)
      (process_unknown lack.0 (record { spelled = lack.1.spelled; new = lack.1.new }))
  lacks_unknown text (inr lack) =
      subst (λ (t : List ℕ). IsUnknown (step_of cell t)) (sym (load_text lack.0 lack.1.0.0) ∙ lack.1.1.step)
      (load_unknown lack.0 lack.1.0.0 lack.1.1.job_fits (record { spelled = lack.1.1.spelled; new = lack.1.1.new }))

  pub unknown_name : (text : List ℕ) → (step_of cell text ≡ Err UnknownName) ↔ LacksName cell text
  unknown_name text = (unknown_lacks text, lacks_unknown text)
