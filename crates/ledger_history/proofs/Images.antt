-- The image after each call holds the ledger after it, so what C gave back is what the ledger's own calls give back.
use Prim.Native.Nat.{ℕ, ◌≤◌}
use mathlib.Core.Path.{◌≡◌, refl, ap, ◌∙◌}
use mathlib.Core.Bool.{Bool, true, false, cond}
use mathlib.Core.List.{List, [], ◌∷◌, map}
use native.Mathlib.Omega.{arith}
use lib.ListN.{length}
use borrow.Author.Tests.{le-leb}
use Rattle.lists.specs.Places.{any_below}
use Rattle.ledger.specs.declared.Ledger.{Ledger}
use Rattle.ledger_laws.specs.Calls.{refusal_of, returned_count, after, after_all}
use Rattle.ledger_image.specs.Ledger.{leg_count, readable_ledger, ledger_in, broken_ledger, ledger_of}
use Rattle.ledger_door.specs.Calls.{pz_answer, pz_tick, pz_clear, pz_accept}
use Rattle.ledger_door.proofs.Images.{image-whole, images_follow}
use Rattle.ledger_history.specs.Log.{log}
use Rattle.ledger_history.specs.Images.{PzCall, pz_accepting, pz_answering, pz_ticking, pz_clearing, call_of, pz_refusal, pz_count, image_after, image_after_all, pz_log}
use Rattle.ledger_history.specs.Promises.{Empty, EmptyImage}

-- ---- one call

refusal-told : (b : List ℕ) (c : PzCall) → pz_refusal b c ≡ refusal_of (ledger_of b) (call_of c)
unfolding pz_refusal call_of refusal_of pz_answer pz_tick pz_clear pz_accept
refusal-told b (pz_accepting f arrival table ticks) = refl
refusal-told b (pz_answering by to seq nak set code) = refl
refusal-told b pz_ticking = refl
refusal-told b (pz_clearing place) = refl

count-told : (b : List ℕ) (c : PzCall) → pz_count b c ≡ returned_count (ledger_of b) (call_of c)
unfolding pz_count call_of returned_count pz_tick pz_accept
count-told b (pz_accepting f arrival table ticks) = refl
count-told b (pz_answering by to seq nak set code) = refl
count-told b pz_ticking = refl
count-told b (pz_clearing place) = refl

image_holds : (b : List ℕ) (c : PzCall) → ledger_of (image_after b c) ≡ after (ledger_of b) (call_of c)
unfolding image_after call_of after pz_answer pz_tick pz_clear pz_accept
image_holds b (pz_accepting f arrival table ticks) = images_follow.accept b f arrival table ticks
image_holds b (pz_answering by to seq nak set code) = images_follow.answer b by to seq _
image_holds b pz_ticking = images_follow.tick b
image_holds b (pz_clearing place) = images_follow.clear b place

-- ---- all of them

pub told-all : (b : List ℕ) (cs : List PzCall) → pz_log b cs ≡ log (ledger_of b) (map call_of cs)
unfolding pz_log log
told-all b [] = refl
told-all b (c ∷ cs) =
    let rest : pz_log (image_after b c) cs ≡ log (after (ledger_of b) (call_of c)) (map call_of cs) =
    told-all (image_after b c) cs ∙ ap (λ (l : Ledger). log l (map call_of cs)) (image_holds b c) in
    λ i. record { call = call_of c; refusal = refusal-told b c i; count = count-told b c i } ∷ rest i

pub held_all : (b : List ℕ) (cs : List PzCall) → ledger_of (image_after_all b cs) ≡ after_all (ledger_of b) (map call_of cs)
unfolding image_after_all after_all
held_all b [] = refl
held_all b (c ∷ cs) = held_all (image_after b c) cs ∙ ap (λ (l : Ledger). after_all l (map call_of cs)) (image_holds b c)

-- ---- the first byte of an image

-- a ledger with no more than 128 legs is not the one for an image that can't be read
pub count-read : (b : List ℕ) → (ledger_of b).count ≤ 128 → (ledger_of b).count ≡ leg_count b
unfolding ledger_of ledger_in
count-read b = go (readable_ledger b)
  where
    go : (r : Bool) → (cond r (ledger_in b) broken_ledger).count ≤ 128 → (cond r (ledger_in b) broken_ledger).count ≡ leg_count b
    go true h = refl
    go false h = absurd (omega arith)

pub empty-held : (b : List ℕ) → EmptyImage b → Empty (ledger_of b)
unfolding ledger_of ledger_in readable_ledger any_below
empty-held b e = record { none = rw (le-leb 1921 (length b) e.long, e.none); whole = image-whole b }
