-- What a pass over the fields comes to.
use Rattle.std.specs.Prelude.{ℕ, ◌≡◌, List, length}
use Rattle.std.proofs.lemmas.List.Edits.{sets}
use Rattle.chart_mend.specs.declared.Sorted.{Sorted}
use Rattle.chart_mend.specs.Mending.{held_of, kept_bytes, list_bytes}

-- it tells whether the question is kept, and the sizes; what is kept and what is listed is stored from the front as far as it fits
pub record PassedOver (input out list : List ℕ) (r : Sorted) (out' list' : List ℕ) : Type 0 where
  pub asked : r.asked ≡ (held_of input).asked
  pub kept : r.kept ≡ length (kept_bytes input)
  pub listed : r.listed ≡ length (list_bytes input)
  pub out_after : out' ≡ sets out 0 (kept_bytes input)
  pub list_after : list' ≡ sets list 0 (list_bytes input)
