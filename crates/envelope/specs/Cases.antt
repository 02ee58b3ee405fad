-- A frame by its bytes, what each field of it says, and a frame for each number (003, appendix A, <envelope>; document 01, the table).
use Rattle.std.specs.Prelude.{ℕ, ◌≡◌, refl, true, false, List, [], ◌∷◌, ◌++◌, drop, set}
use Rattle.lists.specs.Places.{any_below, first_from, first_below, same_at, repeat_at, repeats, element_at}
use Rattle.address.specs.Address.{address_of, station_in_range, in_range, same_station, same_address}
use Rattle.envelope.specs.declared.Fixed.{Fixed}
use Rattle.envelope.specs.Frame.{destinations_offset, length_of, count_of, contents_offset, size_of, fields_of, destination_at, xor_from, check_of}
use Rattle.envelope.specs.Refusal.{outside, stray_at, out_of_range, wrong_version, whole_refusal, values_refusal_by, frame_refusal}
use Rattle.envelope.specs.Place.{first_twin, stray_place, place_beside, frame_place}

-- all before the check character: from 9/1/2 to 9/20/5 and 9/21/5, priority 2, version 1, <seq> 300 with <ack_req>, type 2, "Fire"
unfoldable pub fire_body : List ℕ
fire_body =
    -- <source>; <count&length>, 4 * 64 + 2
    9 ∷ 0 ∷ 66 ∷ 1 ∷ 2 ∷
    -- two destinations
    9 ∷ 5 ∷ 5 ∷ 9 ∷ 5 ∷ 69 ∷
    -- <prot&priority>, <ack&seq>, <message_type>
    33 ∷ 2 ∷ 89 ∷ 2 ∷
    -- the contents
    70 ∷ 105 ∷ 114 ∷ 101 ∷ []

-- the frame: its check character is the exclusive or of those 19 bytes
unfoldable pub fire_frame : List ℕ
fire_frame = fire_body ++ (72 ∷ [])

-- its fixed fields
unfoldable pub fire_fields : Fixed
fire_fields =
    record { source = address_of 9 1 2; count = 2; length = 4; priority = 2; version = 1; ack = true; seq = record { 0 = 300 }; kind = 2 }

-- five destinations, 9/20/5 and 9/21/5 in turn, without contents
abbrev pub pairs : List ℕ
pairs = 9 ∷ 0 ∷ 66 ∷ 0 ∷ 5 ∷ 9 ∷ 5 ∷ 5 ∷ 9 ∷ 5 ∷ 69 ∷ 9 ∷ 5 ∷ 5 ∷ 9 ∷ 5 ∷ 69 ∷ 9 ∷ 5 ∷ 5 ∷ 33 ∷ 2 ∷ 89 ∷ 2 ∷ []

-- another byte at a place, and the check character that is then right
abbrev pub changed : ℕ → ℕ → List ℕ
changed at byte = set fire_body at byte ++ (check_of (set fire_body at byte) ∷ [])

pub record Cases : Type 0 where
  pub fields : fields_of fire_frame ≡ fire_fields
  pub first : destination_at (drop destinations_offset fire_frame) 0 ≡ address_of 9 20 5
  pub second : destination_at (drop destinations_offset fire_frame) 1 ≡ address_of 9 21 5
  pub begins : contents_offset (count_of fire_frame) ≡ 15
  pub size : size_of fire_frame ≡ 20
  pub check : check_of fire_body ≡ 72
  -- <ack&seq> 02 58: the same number, and no acknowledgement asked for
  pub quiet : (fields_of (changed 13 88)).ack ≡ false
  pub quiet_seq : (fields_of (changed 13 88)).seq.0 ≡ 300
  -- the frame is taken; the others are refused, each by its own number
  pub taken : frame_refusal fire_frame ≡ 0
  pub empty : frame_refusal [] ≡ 1
  pub cut : frame_refusal fire_body ≡ 1
  pub longer : frame_refusal (fire_frame ++ (0 ∷ [])) ≡ 2
  pub spoiled : frame_refusal (set fire_frame 16 106) ≡ 3
  -- a count of 0: ten bytes, no destination
  pub none : frame_refusal (9 ∷ 0 ∷ 66 ∷ 0 ∷ 0 ∷ 33 ∷ 2 ∷ 89 ∷ 2 ∷ 51 ∷ []) ≡ 4
  pub no_priority : frame_refusal (changed 11 1) ≡ 7
  pub low_priority : frame_refusal (changed 11 161) ≡ 7
  pub lowest : frame_refusal (changed 11 145) ≡ 0
  pub equal : frame_refusal (changed 10 5) ≡ 8
  pub version : frame_refusal (changed 11 34) ≡ 9
  -- type 3 has version 2
  pub page : frame_refusal (changed 14 3) ≡ 9
  pub paged : frame_refusal (set (set fire_body 14 3) 11 34 ++ (74 ∷ [])) ≡ 0
  -- and at its own place: the frame's length, the first byte too many, the check character, <dest_count>, <prot&priority>, the second of two equal destinations
  pub taken_at : frame_place fire_frame ≡ 0
  pub empty_at : frame_place [] ≡ 0
  pub cut_at : frame_place fire_body ≡ 19
  pub longer_at : frame_place (fire_frame ++ (0 ∷ 0 ∷ [])) ≡ 20
  pub spoiled_at : frame_place (set fire_frame 16 106) ≡ 19
  pub none_at : frame_place (9 ∷ 0 ∷ 66 ∷ 0 ∷ 0 ∷ 33 ∷ 2 ∷ 89 ∷ 2 ∷ 51 ∷ []) ≡ 4
  pub priority_at : frame_place (changed 11 1) ≡ 11
  pub equal_at : frame_place (changed 10 5) ≡ 8
  pub version_at : frame_place (changed 11 34) ≡ 11
  -- of five destinations a, b, a, b, a the third is the first that equals an earlier one
  pub third_at : frame_place (pairs ++ (check_of pairs ∷ [])) ≡ 11
  -- 5 and 6 come from no reader: <length>; the source, a destination, <ack&seq>
  pub length_at : place_beside 5 fire_frame ≡ 3
  pub source_at : stray_place (record { source = address_of 9 1024 2; count = 2; length = 4; priority = 2; version = 1; ack = true; seq = record { 0 = 32768 }; kind = 2 }) (element_at (address_of 9 20 64) []) ≡ 0
  pub destination_at : stray_place fire_fields (element_at (address_of 9 20 64) (address_of 9 20 5 ∷ [])) ≡ 8
  pub seq_at : stray_place fire_fields (element_at (address_of 9 20 5) []) ≡ 12

pub cases : Cases
unfolding fire_body fire_frame fire_fields length_of count_of fields_of destination_at xor_from any_below same_at repeat_at repeats station_in_range in_range same_station same_address outside stray_at out_of_range wrong_version whole_refusal values_refusal_by frame_refusal first_from first_below element_at first_twin stray_place place_beside frame_place
cases =
    record {
      fields = refl;
      first = refl;
      second = refl;
      begins = refl;
      size = refl;
      check = refl;
      quiet = refl;
      quiet_seq = refl;
      taken = refl;
      empty = refl;
      cut = refl;
      longer = refl;
      spoiled = refl;
      none = refl;
      no_priority = refl;
      low_priority = refl;
      lowest = refl;
      equal = refl;
      version = refl;
      page = refl;
      paged = refl;
      taken_at = refl;
      empty_at = refl;
      cut_at = refl;
      longer_at = refl;
      spoiled_at = refl;
      none_at = refl;
      priority_at = refl;
      equal_at = refl;
      version_at = refl;
      third_at = refl;
      length_at = refl;
      source_at = refl;
      destination_at = refl;
      seq_at = refl;
    }
