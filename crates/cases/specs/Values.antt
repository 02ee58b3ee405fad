-- The values that document 01's cases speak of: numbers and addresses, and the variants of the chart S. The table T and the ledgers stand beside their
-- definitions (specs/Cases.antt of table and ledger).
use Rattle.std.specs.Prelude.{ℕ, ◌+◌, ◌*◌, List, set}
use Rattle.address.specs.declared.Port.{Port}
use Rattle.address.specs.declared.Seq.{Seq}
use Rattle.address.specs.declared.Address.{Address}

-- a port, a sequence number and an address, from their numbers
abbrev pub port : ℕ → Port
port p = record { 0 = p }

abbrev pub seq : ℕ → Seq
seq n = record { 0 = n }

abbrev pub at : ℕ → ℕ → ℕ → Address
at b n p = record { brigade = b; node = record { 0 = n }; port = port p }

-- ---- variants of the bytes of S

-- a link's last byte, 0 for off: the nodes have 43 bytes, and a link's field 12
abbrev pub off : ℕ → List ℕ → List ℕ
off i bytes = set bytes (43 + 12 * i + 11) 0

-- a directed link's direction, its last byte: its field has 13
abbrev pub way : ℕ → ℕ → List ℕ → List ℕ
way i d bytes = set bytes (43 + 13 * i + 12) d

-- another node of brigade 9 in the question's second half, the last byte of the 124
abbrev pub to : ℕ → List ℕ → List ℕ
to n bytes = set bytes 123 n
