-- What C gets of a call, from what each step of it gives.
use Prim.Native.Nat.{ℕ, ◌≤◌}
use mathlib.Core.Path.{◌≡◌, refl, sym, ap, ◌∙◌}
use mathlib.Core.List.{List}
use Rattle.lists.proofs.Refusals.{refused}
use Rattle.buffer.specs.Bytes.{Bytes}
use Rattle.address.specs.declared.Port.{Port}
use Rattle.address.specs.declared.Seq.{Seq}
use Rattle.address.specs.declared.Address.{Address}
use Rattle.refusal.specs.declared.Refusal.{Refusal}
use Rattle.refusal.specs.declared.Fault.{Fault}
use Rattle.refusal.specs.Numbers.{number}
use Rattle.refusal.proofs.Laws.{names}
use Rattle.envelope_read.proofs.Places.{places-near}
use Rattle.table.specs.declared.Table.{Table}
use Rattle.ledger.specs.declared.Ledger.{Ledger}
use Rattle.ledger_answer.specs.declared.Reply.{Reply}
use Rattle.ledger_tick.specs.declared.Ticked.{Ticked}
use Rattle.ledger_answer.specs.Answer.{answer_of}
use Rattle.ledger_tick.specs.Tick.{tick_of}
use Rattle.ledger_clear.specs.Clear.{clear_of}
use Rattle.ledger_accept.specs.declared.Added.{Added}
use Rattle.ledger_accept.specs.Accept.{accept_of}
use Rattle.table_image.specs.Table.{table_of}
use Rattle.ledger_image.specs.Ledger.{ledger_of, ledger_after}
use Rattle.ledger_door.specs.Calls.{pz_answer, pz_answer_image, pz_tick, pz_tick_image, pz_clear, pz_clear_image, pz_accept, pz_accept_image}

-- what is put back of a call with this number and this ledger: the number r, and the image m
abbrev Put : List ℕ → ℕ → Ledger → ℕ → ℕ → List ℕ → Type 0
Put b refusal after n r m = (r ≡ refusal) × (m ≡ ledger_after b refusal after n)

module _ (b : List ℕ) (refusal : ℕ) (after : Ledger) (n : ℕ) where
  -- of a call that is not refused, which gave the ledger x
  put : {x : Ledger} {r : ℕ} {m : List ℕ} → refusal ≡ 0 → x ≡ after → (r ≡ 0) × (m ≡ ledger_after b 0 x n) → Put b refusal after n r m
  put z e g = (g.0 ∙ sym z, g.1 ∙ rw (z, e))

  -- of a refused one, which leaves the image whatever the ledger x and its count j
  left : (k : Refusal) (x : Ledger) (j : ℕ) {r : ℕ} {m : List ℕ} → number k ≡ refusal → (r ≡ number k) × (m ≡ ledger_after b (number k) x j) → Put b refusal after n r m
  unfolding ledger_after
  left k x j e g = (g.0 ∙ e, g.1 ∙ refused _ b (number k) (names.none_zero k) ∙ sym (refused _ b refusal (λ z. names.none_zero k (e ∙ z))))

-- beside a refusal nothing is put back
unwritten : (b : List ℕ) (k : Refusal) (l : Ledger) (n : ℕ) → b ≡ ledger_after b (number k) l n
unfolding ledger_after
unwritten b k l n = sym (refused _ b (number k) (names.none_zero k))

module _ (b : List ℕ) (by to : Address) (seq : Seq) (reply : Reply) {l : Ledger} {p : Reply} (e : l ≡ ledger_of b) (q : p ≡ reply) where
  pub answer-put : {x : Ledger} {r : ℕ} {m : List ℕ} → ((answer_of l by to seq p).refusal ≡ 0) × (x ≡ (answer_of l by to seq p).ledger)
      → (r ≡ 0) × (m ≡ ledger_after b 0 x l.count) → (r ≡ (pz_answer b by to seq reply).refusal) × (m ≡ pz_answer_image b by to seq reply)
  unfolding pz_answer pz_answer_image
  answer-put {x} {r} {m} w g =
      let o : Put b (answer_of l by to seq p).refusal (answer_of l by to seq p).ledger l.count r m = put b _ _ _ w.0 w.1 g in
      rw (e, q) at o

  pub answer-refused : (k : Refusal) {r : ℕ} {m : List ℕ} → number k ≡ (answer_of l by to seq p).refusal → (r ≡ number k) × (m ≡ ledger_after b (number k) l l.count)
      → (r ≡ (pz_answer b by to seq reply).refusal) × (m ≡ pz_answer_image b by to seq reply)
  unfolding pz_answer pz_answer_image
  answer-refused k {r} {m} w g =
      let o : Put b (answer_of l by to seq p).refusal (answer_of l by to seq p).ledger l.count r m = left b _ _ _ k l l.count w g in
      rw (e, q) at o

  -- so of a refused call the image is as it was
  pub answer-left : (k : Refusal) {r : ℕ} → number k ≡ (answer_of l by to seq p).refusal → r ≡ number k
      → (r ≡ (pz_answer b by to seq reply).refusal) × (b ≡ pz_answer_image b by to seq reply)
  answer-left k w f = answer-refused k w (f, unwritten b k l l.count)

module _ (b : List ℕ) (place : ℕ) {l : Ledger} (e : l ≡ ledger_of b) where
  pub clear-put : {x : Ledger} {r : ℕ} {m : List ℕ} → ((clear_of l place).refusal ≡ 0) × (x ≡ (clear_of l place).ledger)
      → (r ≡ 0) × (m ≡ ledger_after b 0 x l.count) → (r ≡ (pz_clear b place).refusal) × (m ≡ pz_clear_image b place)
  unfolding pz_clear pz_clear_image
  clear-put {x} {r} {m} w g =
      let o : Put b (clear_of l place).refusal (clear_of l place).ledger l.count r m = put b _ _ _ w.0 w.1 g in
      rw e at o

  pub clear-refused : (k : Refusal) {r : ℕ} {m : List ℕ} → number k ≡ (clear_of l place).refusal → (r ≡ number k) × (m ≡ ledger_after b (number k) l l.count)
      → (r ≡ (pz_clear b place).refusal) × (m ≡ pz_clear_image b place)
  unfolding pz_clear pz_clear_image
  clear-refused k {r} {m} w g =
      let o : Put b (clear_of l place).refusal (clear_of l place).ledger l.count r m = left b _ _ _ k l l.count w g in
      rw e at o

  pub clear-left : (k : Refusal) {r : ℕ} → number k ≡ (clear_of l place).refusal → r ≡ number k
      → (r ≡ (pz_clear b place).refusal) × (b ≡ pz_clear_image b place)
  clear-left k w f = clear-refused k w (f, unwritten b k l l.count)

module _ (b : List ℕ) {l : Ledger} (e : l ≡ ledger_of b) where
  pub tick-put : {t : Ticked} {r : ℕ} {m : List ℕ} → ((tick_of l).refusal ≡ 0) × (t ≡ record { ledger = (tick_of l).ledger; ended = (tick_of l).ended })
      → (r ≡ 0) × (m ≡ ledger_after b 0 t.ledger l.count) → (r ≡ (pz_tick b).refusal) × (t.ended ≡ (pz_tick b).ended) × (m ≡ pz_tick_image b)
  unfolding pz_tick pz_tick_image
  tick-put {t} {r} {m} w g =
      let o : Put b (tick_of l).refusal (tick_of l).ledger l.count r m = put b _ _ _ w.0 (ap (λ (x : Ticked). x.ledger) w.1) g in
      let p : Put b (tick_of (ledger_of b)).refusal (tick_of (ledger_of b)).ledger (ledger_of b).count r m = rw e at o in
      (p.0, ap (λ (x : Ticked). x.ended) w.1 ∙ ap (λ (x : Ledger). (tick_of x).ended) e, p.1)

  none-ended : (k : Refusal) → number k ≡ (tick_of l).refusal → 0 ≡ (tick_of l).ended
  unfolding tick_of
  none-ended k w = sym (refused _ 0 _ (λ z. names.none_zero k (w ∙ z)))

  pub tick-refused : (k : Refusal) {r : ℕ} {m : List ℕ} → number k ≡ (tick_of l).refusal → (r ≡ number k) × (m ≡ ledger_after b (number k) l l.count)
      → (r ≡ (pz_tick b).refusal) × (0 ≡ (pz_tick b).ended) × (m ≡ pz_tick_image b)
  unfolding pz_tick pz_tick_image
  tick-refused k {r} {m} w g =
      let o : Put b (tick_of l).refusal (tick_of l).ledger l.count r m = left b _ _ _ k l l.count w g in
      let p : Put b (tick_of (ledger_of b)).refusal (tick_of (ledger_of b)).ledger (ledger_of b).count r m = rw e at o in
      (p.0, none-ended k w ∙ ap (λ (x : Ledger). (tick_of x).ended) e, p.1)

  pub tick-left : (k : Refusal) {r : ℕ} → number k ≡ (tick_of l).refusal → r ≡ number k
      → (r ≡ (pz_tick b).refusal) × (0 ≡ (pz_tick b).ended) × (b ≡ pz_tick_image b)
  tick-left k w f = tick-refused k w (f, unwritten b k l l.count)

module _ (b f : List ℕ) (arrival : Port) (table : List ℕ) (ticks : ℕ) {l : Ledger} {t : Table} (e : l ≡ ledger_of b) (q : t ≡ table_of table) where
  -- what accept comes to, by the values of the two images
  from-images : {r : ℕ} {m : List ℕ} {added place n : ℕ} → Put b (accept_of l f arrival t ticks).refusal (accept_of l f arrival t ticks).ledger n r m
      → added ≡ (accept_of l f arrival t ticks).added → place ≡ (accept_of l f arrival t ticks).place → n ≡ (accept_of l f arrival t ticks).ledger.count
      → (r ≡ (pz_accept b f arrival table ticks).refusal) × (added ≡ (pz_accept b f arrival table ticks).added) × (place ≡ (pz_accept b f arrival table ticks).place) × (m ≡ pz_accept_image b f arrival table ticks)
  unfolding pz_accept pz_accept_image
  from-images {r} {m} {added} {place} o a p c =
      let o' : Put b (accept_of l f arrival t ticks).refusal (accept_of l f arrival t ticks).ledger (accept_of l f arrival t ticks).ledger.count r m = rw c at o in
      rw (← e, ← q) (o'.0, a, p, o'.1)

  pub accept-put : {x : Added} {r : ℕ} {m : List ℕ}
      → ((accept_of l f arrival t ticks).refusal ≡ 0) × (((accept_of l f arrival t ticks).place ≡ 0) × (x ≡ record { ledger = (accept_of l f arrival t ticks).ledger; added = (accept_of l f arrival t ticks).added }))
      → (r ≡ 0) × (m ≡ ledger_after b 0 x.ledger x.ledger.count)
      → (r ≡ (pz_accept b f arrival table ticks).refusal) × (x.added ≡ (pz_accept b f arrival table ticks).added) × (0 ≡ (pz_accept b f arrival table ticks).place) × (m ≡ pz_accept_image b f arrival table ticks)
  accept-put w g =
      from-images (put b _ _ _ w.0 (ap (λ (y : Added). y.ledger) w.1.1) g) (ap (λ (y : Added). y.added) w.1.1) (sym w.1.0) (ap (λ (y : Added). y.ledger.count) w.1.1)

  none-added : (k : Fault) → number k.refusal ≡ (accept_of l f arrival t ticks).refusal → 0 ≡ (accept_of l f arrival t ticks).added
  unfolding accept_of
  none-added k w = sym (refused _ 0 _ (λ z. names.none_zero k.refusal (w ∙ z)))

  pub accept-refused : (k : Fault) {r : ℕ} {m : List ℕ} → (number k.refusal ≡ (accept_of l f arrival t ticks).refusal) × (k.place ≡ (accept_of l f arrival t ticks).place)
      → (r ≡ number k.refusal) × (m ≡ ledger_after b (number k.refusal) l l.count)
      → (r ≡ (pz_accept b f arrival table ticks).refusal) × (0 ≡ (pz_accept b f arrival table ticks).added) × (k.place ≡ (pz_accept b f arrival table ticks).place) × (m ≡ pz_accept_image b f arrival table ticks)
  accept-refused k w g = from-images (left b _ _ _ k.refusal l l.count w.0 g) (none-added k w.0) w.1 refl

  pub accept-left : (k : Fault) {r : ℕ} → (number k.refusal ≡ (accept_of l f arrival t ticks).refusal) × (k.place ≡ (accept_of l f arrival t ticks).place) → r ≡ number k.refusal
      → (r ≡ (pz_accept b f arrival table ticks).refusal) × (0 ≡ (pz_accept b f arrival table ticks).added) × (k.place ≡ (pz_accept b f arrival table ticks).place) × (b ≡ pz_accept_image b f arrival table ticks)
  accept-left k w g = accept-refused k w (g, unwritten b k.refusal l l.count)

  -- its place is near
  pub place-small : Bytes f → (k : Fault) → k.place ≡ (accept_of l f arrival t ticks).place → k.place ≤ 1222
  unfolding accept_of
  place-small bytes k h = rw h (places-near f bytes).small
