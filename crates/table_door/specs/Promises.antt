-- What an image that can't be read gets: the number of a table out of range. proofs/Promises.antt has the theorem.
use Rattle.std.specs.Prelude.{◌≡◌, false, List, ℕ}
use Rattle.address.specs.declared.Port.{Port}
use Rattle.address.specs.declared.Address.{Address}
use Rattle.table_image.specs.Table.{readable_table}
use Rattle.table_door.specs.Calls.{pz_choose_refusal}

pub record Unreadable : Type 0 where
  pub choose : (b : List ℕ) (d : Address) (arrival : Port) → readable_table b ≡ false → pz_choose_refusal b d arrival ≡ 50
