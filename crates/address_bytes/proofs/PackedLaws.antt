-- The laws of addresses in three bytes: packing and unpacking undo one another, and the 24 bits tell addresses in range apart.
use Prim.Native.Nat.{ℕ, ◌+◌, ◌*◌, ◌/◌, ◌%◌, ◌<◌, ◌≤◌}
use mathlib.Core.Path.{◌≡◌, refl, sym, ap, ◌∙◌}
use mathlib.Core.Bool.{Bool, true, false}
use mathlib.Core.List.{List}
use native.Mathlib.Omega.{arith}
use lib.Dec.{eqb}
use lib.ListN.{get_or}
use borrow.Author.Tests.{le-leb, eqb-true, eq-eqb}
use Rattle.buffer.specs.Bytes.{Bytes}
use Rattle.address.specs.declared.Address.{Address}
use Rattle.address.specs.Address.{station_in_range, in_range, same_address}
use Rattle.address.proofs.Laws.{brigade-le, node-le, port-le, same-eq, same_refl}
use Rattle.address_bytes.specs.Packed.{packed_in, address_key}
use Rattle.address_bytes.specs.Promises.{PackedUndo}

node-back : (n p : ℕ) → n ≤ 1023 → p ≤ 63 → n / 4 % 256 * 4 + (n % 4 * 64 + p % 64) / 64 ≡ n
node-back n p hn hp = omega arith

port-back : (n p : ℕ) → p ≤ 63 → (n % 4 * 64 + p % 64) % 64 ≡ p
port-back n p hp = omega arith

high-back : (b1 b2 : ℕ) → b1 < 256 → b2 < 256 → (b1 * 4 + b2 / 64) / 4 % 256 ≡ b1
high-back b1 b2 h1 h2 = omega arith

low-back : (b1 b2 : ℕ) → b2 < 256 → (b1 * 4 + b2 / 64) % 4 * 64 + b2 % 64 % 64 ≡ b2
low-back b1 b2 h2 = omega arith

pub undo : PackedUndo
undo = record {
  read = λ a h rest i. record { brigade = a.brigade; node = record { 0 = node-back a.node.0 a.port.0 (node-le a h) (port-le a h) i }; port = record { 0 = port-back a.node.0 a.port.0 (port-le a h) i } };
  written = λ l b at. simp (high-back (get_or l (at + 1) 0) (get_or l (at + 2) 0) (b (at + 1)) (b (at + 2)), low-back (get_or l (at + 1) 0) (get_or l (at + 2) 0) (b (at + 2)));
}

-- whatever three bytes are, the address is in range
pub unpack-ranged : (l : List ℕ) → Bytes l → (at : ℕ) → in_range (packed_in l at) ≡ true
unfolding in_range station_in_range
unpack-ranged l b at =
    let h0 = b at in
    let h1 = b (at + 1) in
    let h2 = b (at + 2) in
    simp (le-leb (get_or l at 0) 255 (omega arith), le-leb (get_or l (at + 1) 0 * 4 + get_or l (at + 2) 0 / 64) 1023 (omega arith), le-leb (get_or l (at + 2) 0 % 64) 63 (omega arith))

-- two addresses in range are one exactly if their keys are
key-eq : (a b : Address) → in_range a ≡ true → in_range b ≡ true → address_key a ≡ address_key b → a ≡ b
key-eq a b ha hb e =
    let na = node-le a ha in
    let nb = node-le b hb in
    let pa = port-le a ha in
    let pb = port-le b hb in
    let g : a.brigade ≡ b.brigade = omega arith in
    let n : a.node.0 ≡ b.node.0 = omega arith in
    let p : a.port.0 ≡ b.port.0 = omega arith in
    λ i. record { brigade = g i; node = record { 0 = n i }; port = record { 0 = p i } }

pub key-same : (a b : Address) → in_range a ≡ true → in_range b ≡ true → same_address a b ≡ eqb (address_key a) (address_key b)
key-same a b ha hb = go (same_address a b) refl (eqb (address_key a) (address_key b)) refl
  where
    go : (x : Bool) → same_address a b ≡ x → (y : Bool) → eqb (address_key a) (address_key b) ≡ y → x ≡ y
    go true p y q = sym (eq-eqb (address_key a) (address_key b) (ap address_key (same-eq a b p))) ∙ q
    go false p true q = sym p ∙ ap (same_address a) (sym (key-eq a b ha hb (eqb-true (address_key a) (address_key b) q))) ∙ same_refl a
    go false p false q = refl

-- the key of an address in range has 24 bits
pub key-small : (a : Address) → in_range a ≡ true → address_key a < 16777216
key-small a h = omega (arith, brigade-le a h, node-le a h, port-le a h)
