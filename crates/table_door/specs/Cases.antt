-- What C gets of the table T: out by a port, local, refused.
use Rattle.std.specs.Prelude.{ℕ, ◌≡◌, refl, List, []}
use Rattle.lists.specs.Places.{any_below, first_from, first_below, element_at, firsts, row}
use Rattle.address.specs.Address.{address_of, station_in_range, in_range, same_station}
use Rattle.table.specs.Table.{entry_at, is_own, covers, qualifies, qualifies_at, has_route, out_port, out_choice, target_in_range, entry_in_range, stray_entry, table_in_range, call_in_range, choose_of}
use Rattle.table_image.specs.Table.{target_of, entry_in, stray_entry_in, entry_held, stray_entry_held, readable_table, table_in, table_of}
use Rattle.table_image.specs.Cases.{image_t}
use Rattle.table_door.specs.Calls.{pz_choose, pz_choose_refusal, pz_choose_local, pz_choose_port}

-- the number, `local` and `out`
pub record Says (image : List ℕ) (brigade node port arrival refusal local out : ℕ) : Type 0 where
  pub number : pz_choose_refusal image (address_of brigade node port) (record { 0 = arrival }) ≡ refusal
  pub here : pz_choose_local image (address_of brigade node port) (record { 0 = arrival }) ≡ local
  pub port_is : pz_choose_port image (address_of brigade node port) (record { 0 = arrival }) ≡ out

pub record Cases : Type 0 where
  pub p8 : Says image_t 9 20 5 3 0 0 4
  pub p9 : Says image_t 12 7 1 4 52 0 0
  pub p10 : Says image_t 9 1 6 3 0 1 6
  pub unreadable : Says [] 9 1 6 3 50 0 0

pub cases : Cases
unfolding image_t any_below first_from first_below element_at firsts row station_in_range in_range same_station entry_at is_own covers qualifies qualifies_at has_route out_port out_choice target_in_range entry_in_range stray_entry table_in_range call_in_range choose_of target_of entry_in stray_entry_in entry_held stray_entry_held readable_table table_in table_of pz_choose pz_choose_refusal pz_choose_local pz_choose_port
cases =
    record {
      p8 = record { number = refl; here = refl; port_is = refl };
      p9 = record { number = refl; here = refl; port_is = refl };
      p10 = record { number = refl; here = refl; port_is = refl };
      unreadable = record { number = refl; here = refl; port_is = refl };
    }
