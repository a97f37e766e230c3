-- A word that is a number of 64 bits.
use Rattle.std.specs.Prelude.{ℕ, ◌-◌, ◌^◌, List, Some, Result, ok_or, ⊤}
use Rattle.step_text.specs.Words.{number_of}
use Rattle.cell_walks.specs.Observed.{Word}
use Rattle.cell_walks.specs.Walks.{Test}
use Rattle.cell_walks.specs.declared.early_end.Subject.TheVariants.{Words}
use Rattle.cell_texts.specs.OneWay.{once, reads_by}

-- the number that a word is: decimal digits alone, with no leading zero but in `0` itself
abbrev pub number_read : List ℕ → Result ℕ ⊤
number_read word = ok_or (number_of 0 (2 ^ 64 - 1) word) tt

-- a word that is a number; for any other the commands are printed, status 2
abbrev pub number : List ℕ → List ℕ → Test
number usage word = record {
  Value = ℕ;
  Fault = ⊤;
  source = Word word;
  subject = Words;
  reads = reads_by number_read;
  one_way = once number_read;
  line = λ fault. Some usage;
}
