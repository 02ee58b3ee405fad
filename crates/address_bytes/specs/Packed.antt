-- An address in the wire's three bytes (003, appendix A, <comms_address>), and the same 24 bits as one number.
use Rattle.std.specs.Prelude.{ℕ, ◌+◌, ◌*◌, ◌/◌, ◌%◌, List, [], ◌∷◌, get_or}
use Rattle.address.specs.declared.Address.{Address}

-- the bytes of an address
abbrev pub packed_size : ℕ
packed_size = 3

-- <comms_address>, 24 bits, the highest first: 8 of the brigade, 10 of the node, 6 of the port; of a number out of range its low bits
abbrev pub packed_bytes : Address → List ℕ
packed_bytes a = a.brigade ∷ (a.node.0 / 4 % 256) ∷ (a.node.0 % 4 * 64 + a.port.0 % 64) ∷ []

-- the address whose three bytes begin at a place
abbrev pub packed_in : List ℕ → ℕ → Address
packed_in l at =
    record {
      brigade = get_or l at 0;
      node = record { 0 = get_or l (at + 1) 0 * 4 + get_or l (at + 2) 0 / 64 };
      port = record { 0 = get_or l (at + 2) 0 % 64 };
    }

-- the 24 bits as one number
abbrev pub address_key : Address → ℕ
address_key a = a.brigade * 65536 + a.node.0 * 64 + a.port.0
