-- The buffer that a sheet is written into has room for each, and 4,097 bytes of an input tell all of it.
use Rattle.std.proofs.Common.{◌≡◌, ℕ, ◌<◌, ◌≤◌, List, [], ◌++◌, length, take, Option, None, Some, IfSome, Result, Ok, Err, OnOk, refl, inl, inr, sym, ap, ◌∙◌, subst, arith, append-nil, length-append}
use borrow.Author.Tests.{lt-ltb, le-ltb}
use Rattle.std.proofs.lemmas.Bool.{cases_lt}
use lib.Seq.{take-append_seam}
use Rattle.std.specs.Io.KnownBytes.{Appends, Consumes, IsAtEnd}
use Rattle.lists.specs.Refusals.{unless_refused}
use Rattle.buffer.specs.Bytes.{Bytes}
use Rattle.refusal.specs.declared.Refusal.{Refusal}
use Rattle.refusal.specs.Numbers.{number}
use Rattle.refusal.proofs.Laws.{names}
use Rattle.sheet.specs.Sheet.{sheet_text, sheet_refusal, sheet_after}
use Rattle.sheet.proofs.Promises.{sheet-short}

-- ---- a buffer with room for every sheet

module _ (bytes : List ℕ) (s : Bytes bytes) (room : ℕ) (h : 47369 ≤ room) where
  fits : sheet_refusal bytes room ≡ 0
  unfolding sheet_refusal
  fits =
      let k : length (sheet_text bytes) ≤ 47369 = sheet-short bytes s in
      rw (le-ltb room (length (sheet_text bytes)) (omega arith))

  pub never_refused : (r : Refusal) → number r ≡ sheet_refusal bytes room → ⊥
  never_refused r e = names.none_zero r (e ∙ fits)

-- what stands at the start of the buffer
pub shown : (bytes out : List ℕ) → Bytes bytes → 47369 ≤ length out → (n : ℕ) → n ≡ length (sheet_text bytes) → (text : List ℕ) → text ≡ sheet_after bytes out
    → take n text ≡ sheet_text bytes
unfolding sheet_after unless_refused
shown bytes out s h n size text f =
    let laid = rw (fits bytes s (length out) h) at f in
    ap (take n) laid ∙ rw size (take-append_seam (sheet_text bytes) _)

-- ---- the bytes that were read tell all of the input

-- an input above 4,096 bytes has one sheet, whatever its bytes
pub same_sheet : (bs rest : List ℕ) → (length bs < 4097 → rest ≡ []) → sheet_text bs ≡ sheet_text (bs ++ rest)
unfolding sheet_text
same_sheet bs rest h =
    elim (cases_lt (length bs) 4097) [
      | inl w ↦ rw (h w, append-nil) refl
      | inr w ↦
          let more : 4096 < length (bs ++ rest) = rw length-append (omega arith) in
          rw (lt-ltb 4096 (length bs) (omega arith), lt-ltb 4096 (length (bs ++ rest)) more) refl
    ]

-- a writer that got the sheet of the bytes that were read got that of the whole input
pub whole : (a b : Option (List ℕ)) (bs : List ℕ) → Consumes a b bs → (length bs < 4097 → IsAtEnd b) → (o p : Option (List ℕ)) → Appends o p (sheet_text bs)
    → IfSome a (λ bytes. Appends o p (sheet_text bytes))
whole None b bs c end o p w = tt
whole (Some x) None bs c end o p w = absurd c
whole (Some x) (Some y) bs c end o p w = subst (λ l. Appends o p l) (same_sheet bs y end ∙ ap sheet_text (sym c)) w

-- what follows of a call that succeeded
pub on_ok : {T E P Q : Type 0} (r : Result T E) → (P → Q) → OnOk r P → OnOk r Q
on_ok (Ok x) f h = f h
on_ok (Err e) f h = tt
