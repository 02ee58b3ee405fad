-- The table T of document 01 ("Cases at the edges", P7 to P10), and both sides of each range.
use Rattle.std.specs.Prelude.{ℕ, ◌≡◌, refl, Bool, true, false, ◌∷◌, replicate}
use Rattle.lists.specs.Places.{any_below, first_from, first_below, element_at}
use Rattle.address.specs.Address.{address_of, station_in_range, in_range, same_station}
use Rattle.table.specs.declared.Target.{Target}
use Rattle.table.specs.declared.Target.TheVariants.{One, Brigade, Everything}
use Rattle.table.specs.declared.Entry.{Entry}
use Rattle.table.specs.declared.Table.{Table}
use Rattle.table.specs.Choice.{Local, Out, Refused}
use Rattle.table.specs.Table.{no_entry, entry_at, is_own, covers, qualifies, qualifies_at, has_route, out_port, out_choice, target_in_range, entry_in_range, stray_entry, table_in_range, call_in_range, choose_of, choose_refusal, choose_port, choice_refusal, choice_local, choice_port}

-- an entry
abbrev pub entry : Target → ℕ → Bool → Entry
entry target port on = record { target = target; port = record { 0 = port }; on = on }

-- own 9/1: node 9/20 to port 2, off; brigade 9 to port 3, on; everything to port 4, on
unfoldable pub T : Table
T =
    record {
      brigade = 9;
      node = record { 0 = 1 };
      count = 3;
      entries = entry (One 9 (record { 0 = 20 })) 2 false ∷ entry (Brigade 9) 3 true ∷ entry Everything 4 true ∷ replicate 29 no_entry;
    }

-- a table of 9/1 and this node with one entry, of which so many count
abbrev pub single : ℕ → ℕ → Entry → Table
single node count e = record { brigade = 9; node = record { 0 = node }; count = count; entries = e ∷ replicate 31 no_entry }

pub record Cases : Type 0 where
  pub p7 : choose_of T (address_of 9 20 5) (record { 0 = 0 }) ≡ Out (record { 0 = 3 })
  pub p8 : choose_of T (address_of 9 20 5) (record { 0 = 3 }) ≡ Out (record { 0 = 4 })
  pub p9 : choose_of T (address_of 12 7 1) (record { 0 = 4 }) ≡ Refused 52
  pub p10 : choose_of T (address_of 9 1 6) (record { 0 = 3 }) ≡ Local (record { 0 = 6 })
  -- one node is brigade and node
  pub one : choose_of (single 1 1 (entry (One 9 (record { 0 = 20 })) 2 true)) (address_of 9 20 5) (record { 0 = 0 }) ≡ Out (record { 0 = 2 })
  pub other_brigade : choose_of (single 1 1 (entry (One 8 (record { 0 = 20 })) 2 true)) (address_of 9 20 5) (record { 0 = 0 }) ≡ Refused 52
  pub other_node : choose_of (single 1 1 (entry (One 9 (record { 0 = 21 })) 2 true)) (address_of 9 20 5) (record { 0 = 0 }) ≡ Refused 52
  -- an entry past the count is not looked at
  pub past : choose_of (single 1 0 (entry Everything 0 true)) (address_of 9 20 5) (record { 0 = 0 }) ≡ Refused 52
  -- 50: own node, out port, named node
  pub own : choose_of (single 1024 1 (entry Everything 2 true)) (address_of 9 20 64) (record { 0 = 64 }) ≡ Refused 50
  pub port_0 : choose_of (single 1 1 (entry Everything 0 true)) (address_of 9 20 5) (record { 0 = 0 }) ≡ Refused 50
  pub port_64 : choose_of (single 1 1 (entry Everything 64 false)) (address_of 9 20 5) (record { 0 = 0 }) ≡ Refused 50
  pub port_63 : choose_of (single 1 1 (entry Everything 63 true)) (address_of 9 20 5) (record { 0 = 0 }) ≡ Out (record { 0 = 63 })
  pub named : choose_of (single 1 1 (entry (One 9 (record { 0 = 1024 })) 2 false)) (address_of 9 20 5) (record { 0 = 0 }) ≡ Refused 50
  pub many : table_in_range (single 1 33 (entry Everything 2 true)) ≡ false
  -- 51: destination, arrival port
  pub destination : choose_of T (address_of 9 20 64) (record { 0 = 0 }) ≡ Refused 51
  pub arrival : choose_of T (address_of 9 1 6) (record { 0 = 64 }) ≡ Refused 51
  -- numbers and values of the four answers
  pub refusals : (choose_refusal T (address_of 9 20 5) (record { 0 = 3 }) ≡ 0) × (choose_refusal T (address_of 12 7 1) (record { 0 = 4 }) ≡ 52)
  pub ports : (choose_port T (address_of 9 20 5) (record { 0 = 3 }) ≡ 4) × (choose_port T (address_of 9 1 6) (record { 0 = 3 }) ≡ 6)
  pub local : (choice_refusal (Local (record { 0 = 6 })) ≡ 0) × (choice_local (Local (record { 0 = 6 })) ≡ true) × (choice_port (Local (record { 0 = 6 })) ≡ 6)
  pub out : (choice_refusal (Out (record { 0 = 6 })) ≡ 0) × (choice_local (Out (record { 0 = 6 })) ≡ false) × (choice_port (Out (record { 0 = 6 })) ≡ 6)
  pub refused : (choice_refusal (Refused 52) ≡ 52) × (choice_local (Refused 52) ≡ false) × (choice_port (Refused 52) ≡ 0)

pub cases : Cases
unfolding T any_below first_from first_below element_at station_in_range in_range same_station entry_at is_own covers qualifies qualifies_at has_route out_port out_choice target_in_range entry_in_range stray_entry table_in_range call_in_range choose_of choose_refusal choose_port
cases =
    record {
      p7 = refl;
      p8 = refl;
      p9 = refl;
      p10 = refl;
      one = refl;
      other_brigade = refl;
      other_node = refl;
      past = refl;
      own = refl;
      port_0 = refl;
      port_64 = refl;
      port_63 = refl;
      named = refl;
      many = refl;
      destination = refl;
      arrival = refl;
      refusals = (refl, refl);
      ports = (refl, refl);
      local = (refl, refl, refl);
      out = (refl, refl, refl);
      refused = (refl, refl, refl);
    }
