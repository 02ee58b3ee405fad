-- What the parts are, of a refused frame and of an accepted one.
use Prim.Native.Nat.{ℕ, ◌+◌, ◌*◌, ◌-◌, ◌<◌}
use mathlib.Core.Path.{◌≡◌, sym}
use mathlib.Core.List.{List, []}
use native.Mathlib.Omega.{arith}
use native.Mathlib.Nat.{add-sub_cancel_left}
use lib.ListN.{length, take, drop, replicate, length-drop}
use lib.Seq.{length-take-le}
use Rattle.lists.specs.Places.{element_at, row}
use Rattle.lists.proofs.Places.{row_at}
use Rattle.lists.proofs.Refusals.{taken, refused}
use Rattle.address.specs.declared.Address.{Address}
use Rattle.address.specs.Address.{zero_address}
use Rattle.envelope.specs.declared.Fixed.{Fixed}
use Rattle.envelope_read.specs.declared.Destinations.{Destinations}
use Rattle.envelope.specs.Frame.{destinations_offset, length_of, count_of, contents_offset, fields_of, destination_at}
use Rattle.envelope.specs.Refusal.{frame_refusal}
use Rattle.envelope_read.specs.Parts.{contents_of, contents_offset_of, destinations_of}
use Rattle.envelope.proofs.Laws.{part-from, accepted}
use Rattle.envelope_read.proofs.Laws.{Opened}

module _ (f : List ℕ) (h : frame_refusal f ≡ 0) where
  pub contents-taken : contents_of f ≡ take (length_of f) (drop (contents_offset (count_of f)) f)
  unfolding contents_of
  contents-taken = taken _ _ h

  pub contents-at-taken : contents_offset_of f ≡ contents_offset (count_of f)
  unfolding contents_offset_of
  contents-at-taken = taken _ _ h

  pub destinations-taken : destinations_of f ≡ record { count = count_of f; addresses = row 63 zero_address (destination_at (drop destinations_offset f)) (count_of f) }
  unfolding destinations_of
  destinations-taken = taken _ _ h

  -- each destination as it stands in the frame
  pub destination-taken : (i : ℕ) → i < count_of f → destination_at (drop destinations_offset f) i ≡ element_at zero_address (destinations_of f).addresses i
  destination-taken i l = rw destinations-taken (row_at 63 zero_address (destination_at (drop destinations_offset f)) (count_of f) i l)

  pub contents-long : length (contents_of f) ≡ length_of f
  contents-long =
      rw contents-taken
      (length-take-le (length_of f) (drop (contents_offset (count_of f)) f) (rw length-drop (omega (arith, (accepted f h).frame.sized))))

-- what the code cuts out of an accepted frame, by the fields that the reader gave
module _ (f : List ℕ) (e : Fixed) (o : Opened (frame_refusal f) e (fields_of f)) where
  pub contents-cut : take (9 + 3 * e.count + e.length - (9 + 3 * e.count)) (drop (9 + 3 * e.count) f) ≡ contents_of f
  unfolding fields_of
  contents-cut = rw (o.same, add-sub_cancel_left (9 + 3 * count_of f) (length_of f)) (sym (contents-taken f o.none))

  pub contents-begin : 9 + 3 * e.count ≡ contents_offset_of f
  unfolding fields_of
  contents-begin = rw o.same (sym (contents-at-taken f o.none))

  pub destinations-cut : {addresses : List Address} → addresses ≡ row 63 zero_address (destination_at (take (length f - 5) (drop 5 f))) e.count
      → ◌≡◌ {A = Destinations} (record { count = e.count; addresses = addresses }) (destinations_of f)
  unfolding fields_of
  destinations-cut h = rw (h, o.same, part-from 5 f) (sym (destinations-taken f o.none))

module _ (f : List ℕ) (h : frame_refusal f ≡ 0 → ⊥) where
  pub contents-refused : contents_of f ≡ []
  unfolding contents_of
  contents-refused = refused _ _ _ h

  pub contents-at-refused : contents_offset_of f ≡ 0
  unfolding contents_offset_of
  contents-at-refused = refused _ _ _ h

  pub destinations-refused : destinations_of f ≡ record { count = 0; addresses = replicate 63 zero_address }
  unfolding destinations_of
  destinations-refused = refused _ _ _ h
