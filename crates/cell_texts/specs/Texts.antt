-- Every text that the program prints beside records.
use Rattle.std.specs.Prelude.{ℕ, List, [], ◌∷◌, ◌++◌, Option, Some, None, codes}
use Rattle.std.specs.Fmt.{decimal}
use Rattle.std.specs.Option.{option_map_or}
use Rattle.cell_base.specs.declared.places.Place.{Place}
use Rattle.cell_base.specs.declared.requests.JobId.{JobId}
use Rattle.cell_base.specs.declared.places.Section.{Section}
use Rattle.cell_base.specs.declared.places.Section.TheVariants.{Top, OfResource, OfJobType, OfSession}
use Rattle.cell_base.specs.declared.places.Field.{Field}
use Rattle.cell_base.specs.declared.places.Field.TheVariants.{Whole, Version, Resources, JobTypes, Name, Capacity, Order, Route, Next}
use Rattle.cell_base.specs.declared.places.Field.TheVariants.{Number, Patience, Sessions, Steps, Job, Kind, Path, Machine, Turns}
use Rattle.record_text.specs.Lines.{line_of}
use Rattle.cell_texts.specs.declared.fault_codes.FaultCode.{FaultCode}

-- ---- places

-- what a fault lies in
abbrev pub section_word : Section → List ℕ
section_word Top = codes "top"
section_word OfResource = codes "resource"
section_word OfJobType = codes "type"
section_word OfSession = codes "session"

-- the whole document has no number
abbrev pub item_words : Section → ℕ → List (List ℕ)
item_words Top item = []
item_words OfResource item = decimal item ∷ []
item_words OfJobType item = decimal item ∷ []
item_words OfSession item = decimal item ∷ []

-- the key that a field stands for; the section itself has none
abbrev pub field_word : Field → Option (List ℕ)
field_word Whole = None
field_word Version = Some (codes "version")
field_word Resources = Some (codes "resource")
field_word JobTypes = Some (codes "type")
field_word Name = Some (codes "name")
field_word Capacity = Some (codes "capacity")
field_word Order = Some (codes "order")
field_word Route = Some (codes "route")
field_word Next = Some (codes "next")
field_word Number = Some (codes "number")
field_word Patience = Some (codes "patience")
field_word Sessions = Some (codes "session")
field_word Steps = Some (codes "steps")
field_word Job = Some (codes "job")
field_word Kind = Some (codes "type")
field_word Path = Some (codes "path")
field_word Machine = Some (codes "machine")
field_word Turns = Some (codes "turns")

-- the same as words
abbrev pub field_words : Field → List (List ℕ)
field_words field = option_map_or (λ word. word ∷ []) (field_word field) []

-- a number, where there is one
abbrev pub number_words : Option ℕ → List (List ℕ)
number_words None = []
number_words (Some n) = decimal n ∷ []

-- a place as words
abbrev pub place_words : Place → List (List ℕ)
place_words place = section_word place.section ∷ item_words place.section place.item ++ field_words place.field ++ number_words place.at

-- ---- refusals

-- a fault code as words: its number, its place and its count
abbrev pub fault_code_words : FaultCode → List (List ℕ)
fault_code_words code = decimal code.number ∷ option_map_or place_words code.place [] ++ number_words code.count

-- the line of a file that is refused
abbrev pub refusal_text : List ℕ → FaultCode → List ℕ
refusal_text file code = line_of (file ∷ codes "refused" ∷ fault_code_words code)

-- the line of a record whose line of this number is bad
abbrev pub bad_line_text : ℕ → List ℕ
bad_line_text line = line_of (codes "record" ∷ codes "refused" ∷ decimal line ∷ [])

-- the line of a word that is no step
abbrev pub step_refused : List ℕ
step_refused = codes "step refused" ++ 10 ∷ []

-- ---- jobs

-- the line of a job that is counted
abbrev pub job_line : JobId → List ℕ
job_line job = line_of (codes "job" ∷ decimal job.0 ∷ [])
