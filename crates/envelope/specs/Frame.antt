-- Where each field of an envelope stands in a frame (003, appendix A, <envelope>). A frame is the list of its bytes; bit 0 is the highest (A.2.1).
use Rattle.std.specs.Prelude.{ℕ, ◌+◌, ◌*◌, ◌/◌, ◌%◌, List, [], ◌∷◌, eqb, get_or}
use Rattle.std.specs.Int.Bits.{bit_xor}
use Rattle.buffer.specs.Bytes.{word_at}
use Rattle.address.specs.declared.Address.{Address}
use Rattle.address_bytes.specs.Packed.{packed_size, packed_in}
use Rattle.envelope.specs.declared.Fixed.{Fixed}

-- <count&length>, after the three bytes of <source>: 10 bits of length, then 6 of count
unfoldable pub length_of : List ℕ → ℕ
length_of f = word_at f 3 / 64

unfoldable pub count_of : List ℕ → ℕ
count_of f = word_at f 3 % 64

-- where the destinations begin; after n of them stand <prot&priority>, <ack&seq> and <message_type>, and then the contents
abbrev pub destinations_offset : ℕ
destinations_offset = 5

abbrev pub prot_offset : ℕ → ℕ
prot_offset n = 5 + 3 * n

abbrev pub contents_offset : ℕ → ℕ
contents_offset n = 9 + 3 * n

-- the size of a frame of n destinations and so many bytes of contents: the fixed fields and the check character are 10 bytes
abbrev pub frame_size : ℕ → ℕ → ℕ
frame_size n long = 10 + 3 * n + long

-- the size that the two counts ask for
abbrev pub size_of : List ℕ → ℕ
size_of f = frame_size (count_of f) (length_of f)

-- the fixed fields. <prot&priority> is 4 bits and 4 bits, <ack&seq> 15 bits of <seq> and then <ack_req>
unfoldable pub fields_of : List ℕ → Fixed
fields_of f =
    record {
      source = packed_in f 0;
      count = count_of f;
      length = length_of f;
      priority = get_or f (prot_offset (count_of f)) 0 / 16;
      version = get_or f (prot_offset (count_of f)) 0 % 16;
      ack = eqb (word_at f (prot_offset (count_of f) + 1) % 2) 1;
      seq = record { 0 = word_at f (prot_offset (count_of f) + 1) / 2 };
      kind = get_or f (prot_offset (count_of f) + 3) 0;
    }

-- the same fields with another length
abbrev pub with_length : Fixed → ℕ → Fixed
with_length e n =
    record {
      source = e.source;
      count = e.count;
      length = n;
      priority = e.priority;
      version = e.version;
      ack = e.ack;
      seq = e.seq;
      kind = e.kind;
    }

-- the destination at a place, in the part of a frame that begins with the destinations
unfoldable pub destination_at : List ℕ → ℕ → Address
destination_at part i = packed_in part (packed_size * i)

-- <bcc>: the exclusive or of all bytes, first to last
unfoldable pub xor_from : ℕ → List ℕ → ℕ
xor_from x [] = x
xor_from x (b ∷ bs) = xor_from (bit_xor x b) bs

abbrev pub check_of : List ℕ → ℕ
check_of l = xor_from 0 l
