-- The theorems of specs/Promises.antt.
use Prim.Native.Nat.{zero, suc, ◌+◌}
use mathlib.Core.Path.{◌≡◌, refl, sym, ap, ◌∙◌}
use mathlib.Core.List.Memᴰ
use mathlib.Core.List.{List, [], ◌∷◌, map}
use native.Mathlib.Omega.{arith}
use lib.ListN.{length, length-map}
use Rattle.ledger.specs.declared.Ledger.{Ledger}
use Rattle.ledger_laws.specs.Calls.{refusal_of, returned_count, after, after_all}
use Rattle.ledger_image.specs.Ledger.{leg_count, ledger_of}
use Rattle.ledger_history.specs.Log.{Made, log, accepted, cleared}
use Rattle.ledger_history.specs.Account.{account_from, account, unstruck, as_read}
use Rattle.ledger_history.specs.Images.{call_of, image_after_all}
use Rattle.ledger_history.specs.Promises.{listed_legs, EveryLegAccounted, SoFar, LeavesOnce, NeverOpen, ImagesFollowAll, ImageShows}
use Rattle.ledger_history.proofs.Lines.{struck-or-not}
use Rattle.ledger_history.proofs.Legs.{few, listed-count}
use Rattle.ledger_history.proofs.Calls.{good-all, shows-all, none-open-all, tally-all, lines-all, empty-good, empty-shows}
use Rattle.ledger_history.proofs.Leaving.{once, never}
use Rattle.ledger_history.proofs.Images.{told-all, held_all, count-read, empty-held}

pub every-leg-accounted : EveryLegAccounted
unfolding account
every-leg-accounted l cs e =
    let k = empty-good l e in
    let none : l.count ≡ 0 = e.none in
    let s = account_from [] (log l cs) in
    let t : (after_all l cs).count + cleared (log l cs) ≡ l.count + accepted (log l cs) = tally-all l cs k in
    let n : length s ≡ 0 + accepted (log l cs) = lines-all l cs [] k in
    let shows : listed_legs (after_all l cs) ≡ map as_read (unstruck s) = shows-all l cs [] k (empty-shows l e) in
    let m : length (unstruck s) ≡ (after_all l cs).count =
    sym (length-map (unstruck s) as_read) ∙ sym (ap length shows) ∙ listed-count (after_all l cs) (good-all l cs k) in
    record {
      counted = omega arith;
      lines = omega arith;
      strokes = omega (arith, struck-or-not s, m, n, t, none);
      none_open = none-open-all l cs [] k (empty-shows l e) (λ x h. absurd (Memᴰ.not-nil h));
      listed = shows;
    }

pub so_far : SoFar
unfolding log
so_far l [] zero = refl
so_far l [] (suc i) = refl
so_far l (c ∷ cs) zero = refl
so_far l (c ∷ cs) (suc i) = λ k. record { call = c; refusal = refusal_of l c; count = returned_count l c } ∷ so_far (after l c) cs i k

pub leaves-once : LeavesOnce
leaves-once ms n i j a b = once ms n i j a b

pub never-open : NeverOpen
never-open ms n i j u = never ms n i j u

-- ---- images

pub images-follow-all : ImagesFollowAll
images-follow-all b cs = record { told = told-all b cs; held = held_all b cs }

pub image-shows : ImageShows
image-shows b cs e =
    let l = ledger_of b in
    let calls = map call_of cs in
    let empty = empty-held b e in
    let a = every-leg-accounted l calls empty in
    let m = image_after_all b cs in
    let same : ledger_of m ≡ after_all l calls = held_all b cs in
    let count : (ledger_of m).count ≡ (after_all l calls).count = ap (λ (x : Ledger). x.count) same in
    let shown : (ledger_of m).count ≡ leg_count m = count-read m (omega (arith, count, few (after_all l calls) (good-all l calls (empty-good l empty)))) in
    record {
      listed = ap listed_legs same ∙ a.listed ∙ ap (λ (ms : List Made). map as_read (unstruck (account ms))) (sym (told-all b cs));
      counted = rw (told-all b cs) (omega (arith, a.counted, count, shown));
    }
