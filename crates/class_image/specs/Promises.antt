-- A message and its image undo each other. proofs/Undo.antt has the theorem.
use Rattle.std.specs.Prelude.{ℕ, ◌≤◌, ◌≡◌, List, ◌++◌, length, take}
use Rattle.buffer.specs.Bytes.{Bytes}
use Rattle.class.specs.declared.Message.{Message}
use Rattle.class_image.specs.Message.{message_size, message_in, message_bytes}

pub record MessageUndo : Type 0 where
  -- reading undoes writing, of any message; the image may be longer
  pub read : (m : Message) (rest : List ℕ) → message_in (message_bytes m ++ rest) ≡ m
  -- writing undoes reading, of any image of bytes that is long enough
  pub write : (b : List ℕ) → Bytes b → message_size ≤ length b → message_bytes (message_in b) ≡ take message_size b
