-- A walk from the document to what stands in its table.
use Rattle.std.proofs.Common.{◌≡◌, Result, Ok, Err, String, Global, BTreeMap, sym, ap, ◌∙◌, inl, inr}
use Rattle.toml.specs.Data.{Members}
use Rattle.toml.specs.View.{table_view}
use Rattle.toml.specs.declared.value.Value.{Value}
use Rattle.cell_base.specs.Faults.{◌>>=◌}
use Rattle.toml_walk.specs.declared.faults.DocumentFault.{DocumentFault}
use Rattle.toml_walk.specs.declared.faults.DocumentFault.TheVariants.{Memory}
use Rattle.toml_walk.specs.Outcomes.{with_fault, GivesSeenOr, GivesOr}

module _ {R F : Type 0} (fault_of : DocumentFault → F) (rest : Members → Result R F)
    (document : Result Members DocumentFault) (result : Result R F) where
  -- a document that is refused
  pub refused : (fault : DocumentFault) → GivesSeenOr Memory table_view (Err fault) document → result ≡ Err (fault_of fault)
      → GivesOr (fault_of Memory) result (with_fault fault_of document >>= rest)
  refused fault (inl e) is = let same : fault ≡ Memory = cc in inl (is ∙ ap (λ f. Err (fault_of f)) same)
  refused fault (inr e) is = inr (is ∙ sym (ap (λ r. with_fault fault_of r >>= rest) e))

  -- a document that is read
  pub walked : (table : BTreeMap (String Global) Value) → GivesSeenOr Memory table_view (Ok table) document
      → GivesOr (fault_of Memory) result (rest (table_view table))
      → GivesOr (fault_of Memory) result (with_fault fault_of document >>= rest)
  walked table (inl e) given = absurd cc
  walked table (inr e) (inl memory) = inl memory
  walked table (inr e) (inr is) = inr (is ∙ sym (ap (λ r. with_fault fault_of r >>= rest) e))
