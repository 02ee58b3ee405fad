-- The entries of a table, one place more at a time; and two charts with the same stations and links have the same.
use Prim.Native.Nat.{ℕ, zero, suc, ◌+◌, ◌<◌, ◌≤◌}
use mathlib.Core.Path.{◌≡◌, refl, ap, ap₂, ◌∙◌}
use mathlib.Core.Option.{Option, none, some}
use mathlib.Core.List.{List, [], ◌∷◌, ◌++◌, append-nil}
use native.Mathlib.Numerals.{add-one}
use native.Mathlib.Omega.{arith}
use lib.ListN.{length, length-append}
use Rattle.address.specs.declared.Station.{Station}
use Rattle.table.specs.declared.Entry.{Entry}
use Rattle.chart.specs.declared.Links.{Links}
use Rattle.chart.specs.declared.Chart.{Chart}
use Rattle.chart.specs.Values.{node_at, link_at}
use Rattle.table_write.specs.Writing.{entry_over, entry_by, entries_by}

module _ (first : ℕ → Option ℕ) (c : Chart) (s : Station) where
  -- one entry more, or none
  pub entries-more : (b i : ℕ) → first b ≡ some i
      → entries_by first c s (b + 1) ≡ entries_by first c s b ++ (entry_over (link_at c.links i) s (node_at c.nodes b).station ∷ [])
  unfolding entries_by entry_by
  entries-more b i e = rw (add-one, e)

  pub entries-skip : (b : ℕ) → first b ≡ none → entries_by first c s (b + 1) ≡ entries_by first c s b
  unfolding entries_by entry_by
  entries-skip b e = rw (add-one, e) (append-nil (entries_by first c s b))

  -- at most one for each node
  pub entries-few : (b : ℕ) → length (entries_by first c s b) ≤ b
  unfolding entries_by entry_by
  entries-few zero = omega arith
  entries-few (suc b) = go (first b) (entries-few b)
    where
      go : (o : Option ℕ) → length (entries_by first c s b) ≤ b → length (entries_by first c s b ++ entry_by c s (node_at c.nodes b).station o) ≤ suc b
      go none h = rw append-nil (omega arith)
      go (some i) h = rw length-append (omega arith)

-- two charts with the same stations and the same links, by links that agree
module _ (first first' : ℕ → Option ℕ) (c d : Chart) (stations : (i : ℕ) → (node_at c.nodes i).station ≡ (node_at d.nodes i).station)
    (links : c.links ≡ d.links) (s : Station) where
  by-same : (to to' : Station) (o o' : Option ℕ) → to ≡ to' → o ≡ o' → entry_by c s to o ≡ entry_by d s to' o'
  unfolding entry_by
  by-same to to' o o' e q = ap₂ (entry_by c s) e q ∙ go o'
    where
      go : (o : Option ℕ) → entry_by c s to' o ≡ entry_by d s to' o
      go none = refl
      go (some i) = ap (λ (ls : Links). entry_over (link_at ls i) s to' ∷ []) links

  pub entries-same : (n : ℕ) → ((b : ℕ) → b < n → first b ≡ first' b) → entries_by first c s n ≡ entries_by first' d s n
  unfolding entries_by
  entries-same zero h = refl
  entries-same (suc n) h =
      ap₂ (λ (x y : List Entry). x ++ y) (entries-same n (λ b l. h b (omega arith)))
      (by-same (node_at c.nodes n).station (node_at d.nodes n).station (first n) (first' n) (stations n) (h n (omega arith)))
