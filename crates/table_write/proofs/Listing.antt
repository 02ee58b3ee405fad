-- Where the entries stand: the entry for a node has as many before it as there are for the nodes before that one.
use Prim.Native.Nat.{ℕ, zero, suc, ◌+◌, ◌-◌, ◌<◌, ◌≤◌}
use mathlib.Core.Path.{◌≡◌, refl, sym, ap, ◌∙◌}
use mathlib.Core.Option.{Option, none, some}
use mathlib.Core.List.{List, [], ◌∷◌, ◌++◌, append_assoc, append-nil}
use native.Mathlib.Nat.{add-zero, add-suc}
use native.Mathlib.Decide.{dec_lt}
use native.Mathlib.Omega.{arith}
use lib.ListN.{length, get_or, length-append}
use lib.Seq.{get_or-append_seam}
use Rattle.address.specs.declared.Station.{Station}
use Rattle.table.specs.declared.Entry.{Entry}
use Rattle.table.specs.Table.{no_entry}
use Rattle.chart.specs.declared.Chart.{Chart}
use Rattle.chart.specs.Values.{node_at, link_at}
use Rattle.table_write.specs.Writing.{entry_over, entry_by, entries_by}
use Rattle.table_write.proofs.Entries.{entries-more}

module _ (first : ℕ → Option ℕ) (c : Chart) (s : Station) where
  -- the entry at place k is for the node at place b, of the first n, over link i
  pub record Listed (n k b i : ℕ) : Type 0 where
    pub node : b < n
    pub link : first b ≡ some i
    pub place : k ≡ length (entries_by first c s b)
    pub counts : k < length (entries_by first c s n)
    pub entry : get_or (entries_by first c s n) k no_entry ≡ entry_over (link_at c.links i) s (node_at c.nodes b).station

  -- the entries for the first nodes stand first
  begins : (m d : ℕ) → (rest : List Entry) × (entries_by first c s (m + d) ≡ entries_by first c s m ++ rest)
  unfolding entries_by
  begins m zero = ([], rw add-zero (sym (append-nil (entries_by first c s m))))
  begins m (suc d) =
      let r = begins m d in
      let more = entry_by c s (node_at c.nodes (m + d)).station (first (m + d)) in
      (r.0 ++ more, rw (add-suc, r.1) (append_assoc (entries_by first c s m) r.0 more))

  up_to : (m n : ℕ) → m ≤ n → (rest : List Entry) × (entries_by first c s n ≡ entries_by first c s m ++ rest)
  up_to m n h =
      let r = begins m (n - m) in
      let e : n ≡ m + (n - m) = omega arith in
      (r.0, ap (entries_by first c s) e ∙ r.1)

  pub fewer : (m n : ℕ) → m ≤ n → length (entries_by first c s m) ≤ length (entries_by first c s n)
  fewer m n h = let r = up_to m n h in omega (arith, ap length r.1, length-append (entries_by first c s m) r.0)

  -- each node to which a link leads has its entry
  pub listed : (n b i : ℕ) → b < n → first b ≡ some i → Listed n (length (entries_by first c s b)) b i
  listed n b i h e =
      let es = entries_by first c s b in
      let x = entry_over (link_at c.links i) s (node_at c.nodes b).station in
      let r = up_to (b + 1) n (omega arith) in
      let all : entries_by first c s n ≡ es ++ (x ∷ r.0) =
      r.1 ∙ ap (λ (l : List Entry). l ++ r.0) (entries-more first c s b i e) ∙ append_assoc es (x ∷ []) r.0
      in
      record {
        node = h;
        link = e;
        place = refl;
        counts = omega (arith, ap length all, length-append es (x ∷ r.0));
        entry = ap (λ (l : List Entry). get_or l (length es) no_entry) all ∙ get_or-append_seam es x r.0 no_entry;
      }

  -- and each entry is some node's
  pub whose : (n k : ℕ) → k < length (entries_by first c s n) → (b : ℕ) × (i : ℕ) × Listed n k b i
  unfolding entries_by entry_by
  whose zero k h = absurd (omega arith)
  whose (suc n) k h = go (first n) refl (dec_lt k (length (entries_by first c s n))) (whose n k) h
    where
      later : (b i : ℕ) → Listed n k b i → Listed (suc n) k b i
      later b i l = let m = listed (suc n) b i (omega (arith, l.node)) l.link in rw (← l.place) at m

      go : (o : Option ℕ) → first n ≡ o → Dec (k < length (entries_by first c s n)) → (k < length (entries_by first c s n) → (b : ℕ) × (i : ℕ) × Listed n k b i)
          → k < length (entries_by first c s n ++ entry_by c s (node_at c.nodes n).station (first n)) → (b : ℕ) × (i : ℕ) × Listed (suc n) k b i
      go o e (yes l) ih h = let w = ih l in (w.0, w.1, later w.0 w.1 w.2)
      go none e (no l) ih h = absurd (l (rw (e, append-nil (entries_by first c s n)) at h))
      go (some i) e (no l) ih h =
          let x = entry_over (link_at c.links i) s (node_at c.nodes n).station in
          let h' : k < length (entries_by first c s n ++ (x ∷ [])) = rw e at h in
          let q : length (entries_by first c s n) ≡ k = omega (arith, length-append (entries_by first c s n) (x ∷ [])) in
          (n, i, rw q at (listed (suc n) n i (omega arith) e))
