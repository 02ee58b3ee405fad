-- The refusal numbers of an envelope and their order (document 01, "Addresses and the envelope", the table). 0 stands for none.
use Rattle.std.specs.Prelude.{ℕ, ◌-◌, List, Bool, not, ◌||◌, cond, eqb, ltb, length, get_or, take, drop}
use Rattle.lists.specs.Places.{any_below, repeats}
use Rattle.lists.specs.Refusals.{refuse, or_else}
use Rattle.address.specs.declared.Address.{Address}
use Rattle.address.specs.Address.{largest_seq, in_range, same_address}
use Rattle.envelope.specs.declared.Fixed.{Fixed}
use Rattle.envelope.specs.Frame.{destinations_offset, length_of, size_of, fields_of, destination_at, check_of}

-- the limits: destinations 1 to 63; L, the longest contents (3.6.5); priority 1 to 9, 1 the highest
abbrev pub most_destinations : ℕ
most_destinations = 63

abbrev pub longest_contents : ℕ
longest_contents = 1023

abbrev pub lowest_priority : ℕ
lowest_priority = 9

-- the message type Page_officer, and the version that a type has (3.3.2)
abbrev pub page_officer : ℕ
page_officer = 3

abbrev pub version_for : ℕ → ℕ
version_for kind = cond (eqb kind page_officer) 2 1

-- not 1 to top
unfoldable pub outside : ℕ → ℕ → Bool
outside top n = eqb n 0 || ltb top n

-- the destination at a place is out of range
unfoldable pub stray_at : (ℕ → Address) → ℕ → Bool
stray_at d i = not (in_range (d i))

-- the source, the sequence number or a destination is out of range; every byte is a brigade, and a message type
unfoldable pub out_of_range : Fixed → (ℕ → Address) → Bool
out_of_range e d = not (in_range e.source) || (ltb largest_seq e.seq.0 || any_below (stray_at d) e.count)

-- the version is not the one of the type
unfoldable pub wrong_version : ℕ → ℕ → Bool
wrong_version version kind = not (eqb version (version_for kind))

-- 1 to 3, of a frame: too short for its own two counts (which a frame that ends before its fixed fields is too), too long, the check character
unfoldable pub whole_refusal : List ℕ → ℕ
whole_refusal f =
    refuse 1 (ltb (length f) (size_of f))
    (refuse 2 (ltb (size_of f) (length f))
    (refuse 3 (not (eqb (check_of (take (length f - 1) f)) (get_or f (length f - 1) 0)))
    0))

-- 4 to 9, of the fields e and n bytes of contents: stray, something is out of range; equal, two destinations are equal
unfoldable pub values_refusal_by : Fixed → ℕ → Bool → Bool → ℕ
values_refusal_by e n stray equal =
    refuse 4 (outside most_destinations e.count)
    (refuse 5 (ltb longest_contents n)
    (refuse 6 stray
    (refuse 7 (outside lowest_priority e.priority)
    (refuse 8 equal
    (refuse 9 (wrong_version e.version e.kind)
    0)))))

-- 4 to 9, of the fields, n bytes of contents and the destinations d: what reader and writer share
abbrev pub values_refusal : Fixed → ℕ → (ℕ → Address) → ℕ
values_refusal e n d = values_refusal_by e n (out_of_range e d) (repeats same_address d e.count)

-- 1 to 9, of a frame
unfoldable pub frame_refusal : List ℕ → ℕ
frame_refusal f = or_else (whole_refusal f) (values_refusal (fields_of f) (length_of f) (destination_at (drop destinations_offset f)))
