-- The next route (document 01, "The next route").
use Rattle.std.specs.Prelude.{ℕ, Bool, true, false, not, ◌&&◌, ◌||◌, cond, leb, eqb}
use Rattle.lists.specs.Places.{any_below, first_below, element_at}
use Rattle.lists.specs.Refusals.{refuse}
use Rattle.address.specs.declared.Port.{Port}
use Rattle.address.specs.declared.Station.{Station}
use Rattle.address.specs.declared.Address.{Address}
use Rattle.address.specs.Address.{largest_port, station_of, station_in_range, in_range, same_station}
use Rattle.table.specs.declared.Target.{Target}
use Rattle.table.specs.declared.Target.TheVariants.{One, Brigade, Everything}
use Rattle.table.specs.declared.Entry.{Entry}
use Rattle.table.specs.declared.Table.{Table}
use Rattle.table.specs.Choice.{Choice, Local, Out, Refused}

-- ---- the table

-- a table has at most 32 entries
abbrev pub most_entries : ℕ
most_entries = 32

-- the station whose table it is
abbrev pub own_station : Table → Station
own_station t = record { brigade = t.brigade; node = t.node }

-- what stands at a place without an entry: everything, port 0, off
abbrev pub no_entry : Entry
no_entry = record { target = Everything; port = record { 0 = 0 }; on = false }

-- the entry at a place
unfoldable pub entry_at : Table → ℕ → Entry
entry_at t i = element_at no_entry t.entries i

-- ---- the choice

-- the destination has the own brigade and node
unfoldable pub is_own : Table → Address → Bool
is_own t d = same_station (own_station t) (station_of d)

-- the target takes in the destination: it is its node, or its whole brigade, or everything
unfoldable pub covers : Target → Address → Bool
covers (One brigade node) d = same_station (record { brigade = brigade; node = node }) (station_of d)
covers (Brigade brigade) d = eqb brigade d.brigade
covers Everything d = true

-- the entry is on, its out port is not the arrival port, and it matches
unfoldable pub qualifies : Address → Port → Entry → Bool
qualifies d arrival e = e.on && not (eqb e.port.0 arrival.0) && covers e.target d

module _ (t : Table) (d : Address) (arrival : Port) where
  -- the entry at a place qualifies
  unfoldable pub qualifies_at : ℕ → Bool
  qualifies_at i = qualifies d arrival (entry_at t i)

  -- some entry that counts qualifies
  unfoldable pub has_route : Bool
  has_route = any_below qualifies_at t.count

  -- the out port of the first entry that qualifies
  unfoldable pub out_port : Port
  out_port = (entry_at t (first_below qualifies_at t.count)).port

  -- out by that port; 52 where no entry qualifies
  unfoldable pub out_choice : Choice
  out_choice = cond has_route (Out out_port) (Refused 52)

-- ---- the refusals

-- a node that is named is at most 1023
unfoldable pub target_in_range : Target → Bool
target_in_range (One brigade node) = station_in_range (record { brigade = brigade; node = node })
target_in_range (Brigade brigade) = true
target_in_range Everything = true

-- the out port is 1 to 63, and the target is in range
unfoldable pub entry_in_range : Entry → Bool
entry_in_range e = leb 1 e.port.0 && leb e.port.0 largest_port && target_in_range e.target

-- the entry at a place is out of range
unfoldable pub stray_entry : Table → ℕ → Bool
stray_entry t i = not (entry_in_range (entry_at t i))

-- the count is at most 32, the own node is in range (every brigade is), and no entry that counts is out of range
unfoldable pub table_in_range : Table → Bool
table_in_range t = leb t.count most_entries && station_in_range (own_station t) && not (any_below (stray_entry t) t.count)

-- the destination and the arrival port are in range; arrival port 0 is that of a message that began here
unfoldable pub call_in_range : Address → Port → Bool
call_in_range d arrival = in_range d && leb arrival.0 largest_port

module _ (t : Table) (d : Address) (arrival : Port) where
  -- the choice: 50 for the table, then 51 for the call, then local at the destination's port, or the way out
  unfoldable pub choose_of : Choice
  choose_of =
      cond (not (table_in_range t)) (Refused 50)
      (cond (not (call_in_range d arrival)) (Refused 51)
      (cond (is_own t d) (Local d.port)
      (out_choice t d arrival)))

  -- document 01's numbers in their order: 52 is for a destination that is not the own station and has no route
  unfoldable pub choose_refusal : ℕ
  choose_refusal =
      refuse 50 (not (table_in_range t))
      (refuse 51 (not (call_in_range d arrival))
      (refuse 52 (not (is_own t d || has_route t d arrival))
      0))

  -- the port that stands beside no refusal: the destination's own where it is local, else the out port
  unfoldable pub choose_port : ℕ
  choose_port = cond (is_own t d) d.port.0 (out_port t d arrival).0

-- document 01's number and values for each case of a choice: 0 stands beside a port, 0 and false stand beside a refusal
abbrev pub choice_refusal : Choice → ℕ
choice_refusal (Local p) = 0
choice_refusal (Out p) = 0
choice_refusal (Refused n) = n

abbrev pub choice_local : Choice → Bool
choice_local (Local p) = true
choice_local (Out p) = false
choice_local (Refused n) = false

abbrev pub choice_port : Choice → ℕ
choice_port (Local p) = p.0
choice_port (Out p) = p.0
choice_port (Refused n) = 0
