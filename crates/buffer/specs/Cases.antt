-- Two-byte numbers, and what a writer answers, by example.
use Rattle.std.specs.Prelude.{◌≡◌, refl, [], ◌∷◌}
use Rattle.lists.specs.Refusals.{unless_refused}
use Rattle.buffer.specs.Writing.{Wrote, Refused, written_refusal, written_count, wrote_unless, lent_after}
use Rattle.buffer.specs.Bytes.{word_at, word_bytes}

pub record Cases : Type 0 where
  -- the high byte first; past the end 0
  pub word : word_at (7 ∷ 4 ∷ 210 ∷ []) 1 ≡ 1234
  pub cut : word_at (7 ∷ 4 ∷ []) 1 ≡ 1024
  pub bytes : word_bytes 1234 ≡ 4 ∷ 210 ∷ []
  -- 10 refuses, 0 does not
  pub refused : wrote_unless 10 3 ≡ Refused 10
  pub wrote : wrote_unless 0 3 ≡ Wrote 3
  pub refusal : written_refusal (Refused 10) ≡ 10
  pub none_written : written_count (Refused 10) ≡ 0
  pub none_refused : written_refusal (Wrote 3) ≡ 0
  pub count : written_count (Wrote 3) ≡ 3
  -- a refusal leaves the buffer, and what is written leaves what stands after it
  pub left : lent_after 10 (1 ∷ 2 ∷ []) (7 ∷ 8 ∷ 9 ∷ []) ≡ 7 ∷ 8 ∷ 9 ∷ []
  pub lent : lent_after 0 (1 ∷ 2 ∷ []) (7 ∷ 8 ∷ 9 ∷ []) ≡ 1 ∷ 2 ∷ 9 ∷ []

pub cases : Cases
unfolding wrote_unless unless_refused
cases =
    record {
      word = refl;
      cut = refl;
      bytes = refl;
      refused = refl;
      wrote = refl;
      refusal = refl;
      none_written = refl;
      none_refused = refl;
      count = refl;
      left = refl;
      lent = refl;
    }
