-- Laws of keys: two stations are one exactly if their keys are, so the numbers by keys are those of the values.
use Prim.Native.Nat.{ℕ, ◌+◌, ◌*◌, ◌<◌, ◌≤◌}
use mathlib.Core.Path.{◌≡◌, refl, sym, ap, ap₂, subst, ◌∙◌}
use mathlib.Core.List.{List}
use mathlib.Core.Bool.{Bool, true, false, not, ◌&&◌, ◌||◌}
use native.Mathlib.Omega.{arith}
use lib.ListN.{length, get_or, set, take}
use lib.Seq.{get_or-set_same, get_or-set_other, ext_get_or}
use lib.Dec.{eqb}
use Rattle.std.specs.List.{list_any}
use borrow.Author.Tests.{eqb-true, eqb-false, eq-eqb}
use Rattle.lists.specs.Places.{any_below, element_at}
use Rattle.lists.specs.Refusals.{refuse}
use Rattle.lists.proofs.Places.{any-or, any-agree, any-taken}
use Rattle.lists.proofs.Bools.{both-same, and_left, and_right, and_both}
use Rattle.address.specs.declared.Station.{Station}
use Rattle.address.specs.declared.Address.{Address}
use Rattle.address.specs.Address.{station_of, same_station, same_address}
use Rattle.chart.specs.declared.ChartNode.{ChartNode}
use Rattle.chart.specs.declared.Link.{Link}
use Rattle.chart.specs.declared.Nodes.{Nodes}
use Rattle.chart.specs.declared.Links.{Links}
use Rattle.chart.specs.Values.{no_node, no_link, node_at, link_at, end_in_range, direction_in_range, link_in_range, stands_at, has_node, ends_at, has_end}
use Rattle.chart.specs.Refusals.{node_refusal_by, link_refusal_by, question_refusal_by, node_refusal, link_refusal, question_refusal}
use Rattle.chart_refuse.specs.Private.{station_key, end_key, KeysOf, StationKeyed, EndKeyed, KeyedNodes, KeyedLinks, key_is, known, used_by, node_refusal_by_keys, link_refusal_by_keys, ends_refusal_by_keys, question_refusal_by_keys}

-- ---- as the code has them: with the key at hand

pub known_by : (keys : List ℕ) (n : ℕ) (s : Station) {k : ℕ} → StationKeyed s k → any_below (key_is keys k) n ≡ known keys n s
unfolding known
known_by keys n s e = ap (λ (k : ℕ). any_below (key_is keys k) n) e.key

pub used-by : (akeys bkeys : List ℕ) (m : ℕ) (a : Address) {k : ℕ} → EndKeyed a k → (any_below (key_is akeys k) m || any_below (key_is bkeys k) m) ≡ used_by akeys bkeys m a
unfolding used_by
used-by akeys bkeys m a e = ap (λ (k : ℕ). any_below (key_is akeys k) m || any_below (key_is bkeys k) m) e.key

eqb-sym : (a b : ℕ) → eqb a b ≡ eqb b a
eqb-sym a b = both-same _ _ (λ e. eq-eqb _ _ (sym (eqb-true _ _ e))) (λ e. eq-eqb _ _ (sym (eqb-true _ _ e)))

-- a key is looked for among the first n alone
pub holds-key : (keys : List ℕ) (n k : ℕ) → n ≤ length keys → list_any (eqb k) (take n keys) ≡ any_below (key_is keys k) n
unfolding key_is element_at
holds-key keys n k h = any-taken (eqb k) 0 keys n h ∙ any-agree _ _ n (λ i l. eqb-sym k (get_or keys i 0))

-- ---- one key, one station; one key, one end

two-parts : (b n b' n' : ℕ) → n ≤ 65535 → n' ≤ 65535 → b * 65536 + n ≡ b' * 65536 + n' → (b ≡ b') × (n ≡ n')
two-parts b n b' n' h h' e = (omega arith, omega arith)

three-parts : (b n p b' n' p' : ℕ) → n ≤ 65535 → n' ≤ 65535 → p ≤ 255 → p' ≤ 255 → b * 16777216 + n * 256 + p ≡ b' * 16777216 + n' * 256 + p'
    → (b ≡ b') × ((n ≡ n') × (p ≡ p'))
three-parts b n p b' n' p' hn hn' hp hp' e = (omega arith, (omega arith, omega arith))

module _ (s t : Station) (hs : s.node.0 ≤ 65535) (ht : t.node.0 ≤ 65535) where
  pub station-same : eqb (station_key s) (station_key t) ≡ same_station s t
  unfolding station_key same_station
  station-same =
      both-same _ _
      (λ e. let p = two-parts s.brigade s.node.0 t.brigade t.node.0 hs ht (eqb-true _ _ e) in and_both (eq-eqb _ _ p.0) (eq-eqb _ _ p.1))
      (λ e. eq-eqb _ _ (ap₂ (λ (b n : ℕ). b * 65536 + n) (eqb-true s.brigade t.brigade (and_left _ _ e)) (eqb-true s.node.0 t.node.0 (and_right (eqb s.brigade t.brigade) _ e))))

module _ (a b : Address) (j k : ℕ) (ha : EndKeyed a j) (hb : EndKeyed b k) where
  end-one : eqb (end_key a) (end_key b) ≡ true → same_address a b ≡ true
  unfolding end_key same_address same_station
  end-one e =
      let p = three-parts a.brigade a.node.0 a.port.0 b.brigade b.node.0 b.port.0 ha.node hb.node ha.port hb.port (eqb-true _ _ e) in
      and_both (and_both (eq-eqb _ _ p.0) (eq-eqb _ _ p.1.0)) (eq-eqb _ _ p.1.1)

  one_end : same_address a b ≡ true → eqb (end_key a) (end_key b) ≡ true
  unfolding end_key same_address same_station
  one_end e =
      let s = and_left _ _ e in
      let x = eqb-true a.brigade b.brigade (and_left _ _ s) in
      let y = eqb-true a.node.0 b.node.0 (and_right (eqb a.brigade b.brigade) _ s) in
      let z = eqb-true a.port.0 b.port.0 (and_right (same_station (station_of a) (station_of b)) _ e) in
      eq-eqb _ _ (λ i. x i * 16777216 + y i * 256 + z i)

  pub end_same : eqb j (end_key b) ≡ same_address a b
  end_same = ap (λ (x : ℕ). eqb x (end_key b)) ha.key ∙ both-same _ _ end-one one_end

-- ---- what is written

module _ (ns : Nodes) (keys : List ℕ) (h : KeyedNodes ns keys) where
  pub stands-keyed : (s : Station) → s.node.0 ≤ 65535 → (i : ℕ) → i < ns.count → key_is keys (station_key s) i ≡ stands_at ns s i
  unfolding key_is stands_at
  stands-keyed s f i l = ap (λ (x : ℕ). eqb x (station_key s)) (h i l).key ∙ station-same (node_at ns i).station s (h i l).node f

  pub known_written : (s : Station) → s.node.0 ≤ 65535 → known keys ns.count s ≡ has_node ns s
  unfolding known has_node
  known_written s f = any-agree _ _ ns.count (stands-keyed s f)

  both-keyed : (s t : Station) → s.node.0 ≤ 65535 → t.node.0 ≤ 65535 → (known keys ns.count s && known keys ns.count t) ≡ (has_node ns s && has_node ns t)
  both-keyed s t f g = ap₂ ◌&&◌ (known_written s f) (known_written t g)

  pub node-keyed : (late : Bool) (n : ChartNode) → n.station.node.0 ≤ 65535 → node_refusal_by_keys late keys ns.count n ≡ node_refusal late ns n
  unfolding node_refusal_by_keys node_refusal node_refusal_by
  node-keyed late n f = rw (known_written n.station f)

  pub question-keyed : (late : Bool) (s t : Station) → s.node.0 ≤ 65535 → t.node.0 ≤ 65535
      → question_refusal_by_keys late keys ns.count s t ≡ question_refusal late ns s t
  unfolding question_refusal_by_keys question_refusal question_refusal_by
  question-keyed late s t f g = rw (both-keyed s t f g)

  module _ (ls : Links) (akeys bkeys : List ℕ) (g : KeyedLinks ls akeys bkeys) where
    ends-keyed : (e : Address) (k : ℕ) → EndKeyed e k → (i : ℕ) → i < ls.count → (key_is akeys (end_key e) i || key_is bkeys (end_key e) i) ≡ ends_at ls e i
    unfolding key_is ends_at
    ends-keyed e k f i l = ap₂ ◌||◌ (end_same (link_at ls i).a e _ k (g.a i l) f) (end_same (link_at ls i).b e _ k (g.b i l) f)

    used-keyed : (e : Address) (k : ℕ) → EndKeyed e k → used_by akeys bkeys ls.count e ≡ has_end ls e
    unfolding used_by has_end
    used-keyed e k f = any-or (key_is akeys (end_key e)) (key_is bkeys (end_key e)) ls.count ∙ any-agree _ _ ls.count (ends-keyed e k f)

    either-keyed : (l : Link) (j k : ℕ) → EndKeyed l.a j → EndKeyed l.b k → (used_by akeys bkeys ls.count l.a || used_by akeys bkeys ls.count l.b) ≡ (has_end ls l.a || has_end ls l.b)
    either-keyed l j k ha hb = ap₂ ◌||◌ (used-keyed l.a j ha) (used-keyed l.b k hb)

    pub link-keyed : (late : Bool) (form : ℕ) (l : Link) (j k : ℕ) → EndKeyed l.a j → EndKeyed l.b k
        → link_refusal_by_keys late form keys ns.count akeys bkeys ls.count l ≡ link_refusal late form ns ls l
    unfolding link_refusal_by_keys link_refusal link_refusal_by
    link-keyed late form l j k ha hb = rw (both-keyed (station_of l.a) (station_of l.b) ha.node hb.node, either-keyed l j k ha hb)

-- ---- the direction, then the ends

split : (x y way : Bool) (k : ℕ) → refuse 24 (not (x && y && way)) k ≡ refuse 24 (not way) (refuse 24 (not (x && y && true)) k)
split x y true k = refl
split true true false k = refl
split true false false k = refl
split false y false k = refl

-- a plain link both ways is in range where its ends are
pub ends-alone : (x y : Bool) → (x && y && true) ≡ (x && y)
ends-alone true true = refl
ends-alone true false = refl
ends-alone false y = refl

pub direction-first : (late : Bool) (form : ℕ) (keys : List ℕ) (n : ℕ) (akeys bkeys : List ℕ) (m : ℕ) (l : Link)
    → link_refusal_by_keys late form keys n akeys bkeys m l ≡ refuse 24 (not (direction_in_range form l.direction)) (ends_refusal_by_keys late keys n akeys bkeys m l.a l.b)
unfolding ends_refusal_by_keys link_refusal_by_keys link_refusal_by link_in_range direction_in_range
direction-first late form keys n akeys bkeys m l = split (end_in_range l.a) (end_in_range l.b) (direction_in_range form l.direction) _

-- ---- one more

-- items and their keys, with one more of each at the end
keyed-set : {A : Type 0} (P : A → ℕ → Type 0) (z : A) (items : List A) (keys : List ℕ) (c : ℕ) (x : A) (k : ℕ) → c < length items → c < length keys → P x k
    → ((i : ℕ) → i < c → P (get_or items i z) (get_or keys i 0)) → (i : ℕ) → i < c + 1 → P (get_or (set items c x) i z) (get_or (set keys c k) i 0)
keyed-set P z items keys c x k hi hk e h i l = by (eqb i c) refl
  where
    by : (t : Bool) → eqb i c ≡ t → P (get_or (set items c x) i z) (get_or (set keys c k) i 0)
    by true q =
        subst (λ (j : ℕ). P (get_or (set items c x) j z) (get_or (set keys c k) j 0)) (sym (eqb-true i c q))
        (subst (λ a. P a (get_or (set keys c k) c 0)) (sym (get_or-set_same items c x z hi)) (subst (P x) (sym (get_or-set_same keys c k 0 hk)) e))
    by false q =
        let n : i ≡ c → ⊥ = eqb-false i c q in
        subst (λ a. P a (get_or (set keys c k) i 0)) (sym (get_or-set_other items c i x z n))
        (subst (P (get_or items i z)) (sym (get_or-set_other keys c i k 0 n)) (h i (omega arith)))

pub keyed-node : (ns : Nodes) (keys : List ℕ) → KeyedNodes ns keys → (n : ChartNode) (k : ℕ) → StationKeyed n.station k → ns.count < length ns.items → ns.count < length keys
    → KeyedNodes (record { count = ns.count + 1; items = set ns.items ns.count n }) (set keys ns.count k)
unfolding node_at element_at
keyed-node ns keys h n k e hi hk = keyed-set (λ (x : ChartNode) (j : ℕ). StationKeyed x.station j) no_node ns.items keys ns.count n k hi hk e h

pub keyed-link : (ls : Links) (akeys bkeys : List ℕ) → KeyedLinks ls akeys bkeys → (form : ℕ) (l : Link) (j k : ℕ) → EndKeyed l.a j → EndKeyed l.b k → ls.count < length ls.items
    → ls.count < length akeys → ls.count < length bkeys
    → KeyedLinks (record { count = ls.count + 1; form = form; items = set ls.items ls.count l }) (set akeys ls.count j) (set bkeys ls.count k)
unfolding link_at element_at
keyed-link ls akeys bkeys h form l j k a b hi hn hf =
    record {
      a = keyed-set (λ (x : Link) (y : ℕ). EndKeyed x.a y) no_link ls.items akeys ls.count l j hi hn a h.a;
      b = keyed-set (λ (x : Link) (y : ℕ). EndKeyed x.b y) no_link ls.items bkeys ls.count l k hi hf b h.b;
    }

-- a row of keys with one more at the end
pub keyed-more : (P : ℕ → ℕ → Type 0) (keys : List ℕ) (c k : ℕ) → c < length keys → P c k → ((i : ℕ) → i < c → P i (get_or keys i 0)) → (i : ℕ) → i < c + 1
    → P i (get_or (set keys c k) i 0)
keyed-more P keys c k hk e h i l = by (eqb i c) refl
  where
    by : (t : Bool) → eqb i c ≡ t → P i (get_or (set keys c k) i 0)
    by true q = subst (λ (j : ℕ). P j (get_or (set keys c k) j 0)) (sym (eqb-true i c q)) (subst (P c) (sym (get_or-set_same keys c k 0 hk)) e)
    by false q =
        let n : i ≡ c → ⊥ = eqb-false i c q in
        subst (P i) (sym (get_or-set_other keys c i k 0 n)) (h i (omega arith))

-- two rows of keys that are both those of the nodes are one row
pub keys-one : (ns : Nodes) (k l : List ℕ) → KeysOf ns k → KeysOf ns l → k ≡ l
keys-one ns k l p q =
    ext_get_or 0 k l (p.long ∙ sym q.long) (λ i h. (p.keyed i (omega (arith, p.long))).key ∙ sym (q.keyed i (omega (arith, p.long))).key)

-- the keys of all places are those of the nodes
pub keyed-of : (ns : Nodes) (keys : List ℕ) → ns.count ≤ 16 → KeysOf ns keys → KeyedNodes ns keys
keyed-of ns keys f h i l = h.keyed i (omega arith)
