-- What C gets of pz_mend (include/poztecameh.h).
use Rattle.std.specs.Prelude.{ℕ, List, length}
use Rattle.buffer.specs.Writing.{lent_after}
use Rattle.chart_mend.specs.Mending.{kept_bytes, list_bytes, mend_refusal, mend_of}

module _ (input : List ℕ) where
  -- 33, 31, then 10 for a chart or a list of so much room that is too short
  unfoldable pub pz_mend_refusal : ℕ → ℕ → ℕ
  pz_mend_refusal room list_room = mend_refusal input room list_room

  -- the bytes kept and the bytes listed, 0 beside a refusal
  unfoldable pub pz_mend_kept : ℕ → ℕ → ℕ
  pz_mend_kept room list_room = (mend_of input room list_room).kept

  unfoldable pub pz_mend_listed : ℕ → ℕ → ℕ
  pz_mend_listed room list_room = (mend_of input room list_room).listed

  -- the lent chart and the lent list after the call
  unfoldable pub pz_mend_chart : List ℕ → List ℕ → List ℕ
  pz_mend_chart chart list = lent_after (mend_refusal input (length chart) (length list)) (kept_bytes input) chart

  unfoldable pub pz_mend_list : List ℕ → List ℕ → List ℕ
  pz_mend_list chart list = lent_after (mend_refusal input (length chart) (length list)) (list_bytes input) list
