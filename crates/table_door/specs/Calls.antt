-- What C gets of pz_choose (include/poztecameh.h): the choice's number; 1 where it is local; its port. Zeros beside a refusal.
use Rattle.std.specs.Prelude.{ℕ, cond, List}
use Rattle.address.specs.declared.Port.{Port}
use Rattle.address.specs.declared.Address.{Address}
use Rattle.table.specs.Choice.{Choice}
use Rattle.table.specs.Table.{choose_of, choice_refusal, choice_local, choice_port}
use Rattle.table_image.specs.Table.{table_of}

module _ (b : List ℕ) (d : Address) (arrival : Port) where
  unfoldable pub pz_choose : Choice
  pz_choose = choose_of (table_of b) d arrival

  unfoldable pub pz_choose_refusal : ℕ
  pz_choose_refusal = choice_refusal pz_choose

  unfoldable pub pz_choose_local : ℕ
  pz_choose_local = cond (choice_local pz_choose) 1 0

  unfoldable pub pz_choose_port : ℕ
  pz_choose_port = choice_port pz_choose
