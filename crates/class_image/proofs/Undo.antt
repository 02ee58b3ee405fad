-- The theorem of a message and its image: message-undo.
use Prim.Native.Nat.{ℕ, ◌≤◌}
use mathlib.Core.Path.{◌≡◌}
use mathlib.Core.List.{List, [], ◌∷◌, ◌++◌}
use native.Mathlib.Omega.{arith}
use lib.ListN.{length, take}
use Rattle.buffer.specs.Bytes.{Bytes}
use Rattle.buffer.proofs.Words.{word_back, high-back, low-back}
use Rattle.class.specs.declared.Message.{Message}
use Rattle.class_image.specs.Message.{message_size, message_in, message_bytes}
use Rattle.class_image.specs.Promises.{MessageUndo}

read_back : (m : Message) (rest : List ℕ) → message_in (message_bytes m ++ rest) ≡ m
unfolding message_in message_bytes
read_back m rest = rw word_back

write-back : (b : List ℕ) → Bytes b → message_size ≤ length b → message_bytes (message_in b) ≡ take message_size b
unfolding message_in message_bytes
write-back (a ∷ p ∷ h ∷ l ∷ e ∷ rest) small long = rw (high-back h l (small 3), low-back h l (small 3))
write-back [] small long = absurd (omega arith)
write-back (a ∷ []) small long = absurd (omega arith)
write-back (a ∷ p ∷ []) small long = absurd (omega arith)
write-back (a ∷ p ∷ h ∷ []) small long = absurd (omega arith)
write-back (a ∷ p ∷ h ∷ l ∷ []) small long = absurd (omega arith)

pub message-undo : MessageUndo
message-undo = record { read = read_back; write = write-back }
