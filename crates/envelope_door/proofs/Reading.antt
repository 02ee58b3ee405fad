-- Laws of reading into an image: what C gets, from the tests on the way.
use Prim.Native.Nat.{ℕ, ◌<◌, ◌≤◌}
use mathlib.Core.Path.{◌≡◌, sym, ◌∙◌}
use mathlib.Core.List.{List}
use lib.ListN.{length, drop}
use lib.Seq.{sets}
use borrow.Author.Tests.{lt-ltb, le-ltb}
use Rattle.lists.specs.Refusals.{unless_refused}
use Rattle.lists.proofs.Refusals.{or-refused, refused}
use Rattle.lists.proofs.Stores.{sets-front}
use Rattle.envelope.specs.declared.Fixed.{Fixed}
use Rattle.envelope.specs.Frame.{destinations_offset, fields_of, destination_at}
use Rattle.envelope.specs.Refusal.{frame_refusal}
use Rattle.envelope.specs.Place.{frame_place}
use Rattle.envelope.proofs.Laws.{no_place}
use Rattle.envelope_image.specs.Image.{envelope_bytes}
use Rattle.envelope_image.proofs.Undo.{envelope-undo}
use Rattle.envelope_door.specs.Calls.{pz_read_refusal, pz_read_place, pz_read_image}

module _ (f b : List ℕ) where
  pub read-refused : {k place : ℕ} → k ≡ frame_refusal f → (frame_refusal f ≡ 0 → ⊥) → place ≡ frame_place f
      → (k ≡ pz_read_refusal f (length b)) × (place ≡ pz_read_place f) × (b ≡ pz_read_image f b)
  unfolding pz_read_refusal pz_read_place pz_read_image
  read-refused {k} p h at =
      let q : pz_read_refusal f (length b) ≡ frame_refusal f = or-refused (frame_refusal f) _ h in
      (p ∙ sym q, at, rw q (sym (refused _ b (frame_refusal f) h)))

  pub read_short : frame_refusal f ≡ 0 → length b < 267 → (10 ≡ pz_read_refusal f (length b)) × (0 ≡ pz_read_place f) × (b ≡ pz_read_image f b)
  unfolding pz_read_refusal pz_read_place pz_read_image unless_refused
  read_short z h = (rw (z, lt-ltb (length b) 267 h), no_place f z, rw (z, lt-ltb (length b) 267 h))

  pub read_done : frame_refusal f ≡ 0 → 267 ≤ length b → {e : Fixed} → e ≡ fields_of f → {o : List ℕ} → o ≡ sets b 0 (envelope_bytes e (destination_at (drop destinations_offset f)))
      → (0 ≡ pz_read_refusal f (length b)) × (0 ≡ pz_read_place f) × (o ≡ pz_read_image f b)
  unfolding pz_read_refusal pz_read_place pz_read_image unless_refused
  read_done z h {e} p q =
      let d = destination_at (drop destinations_offset f) in
      let s = envelope-undo.size e d in
      (rw (z, le-ltb (length b) 267 h), no_place f z, rw (z, le-ltb (length b) 267 h, ← p) (q ∙ sets-front b (envelope_bytes e d) (rw s h)))
