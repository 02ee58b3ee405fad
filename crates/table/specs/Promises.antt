-- What the choice says taken together. proofs/Promises.antt has the theorems.
use Rattle.std.specs.Prelude.{ℕ, ◌<◌, ◌≡◌, true, false, List, [], ◌∷◌, ◌↔◌}
use Rattle.lists.specs.Refusals.{among}
use Rattle.address.specs.declared.Port.{Port}
use Rattle.address.specs.declared.Address.{Address}
use Rattle.table.specs.declared.Table.{Table}
use Rattle.table.specs.Choice.{Local, Out, Refused}
use Rattle.table.specs.Table.{entry_at, is_own, covers, has_route, table_in_range, call_in_range, choose_of, choice_refusal}

module _ (t : Table) (d : Address) (arrival : Port) where
  -- the call is neither 50 nor 51
  pub record Taken : Type 0 where
    pub table : table_in_range t ≡ true
    pub call : call_in_range d arrival ≡ true

  -- the entry at a place counts, is on, takes in the destination, and does not leave by the arrival port
  pub record Qualifies (k : ℕ) : Type 0 where
    pub counts : k < t.count
    pub on : (entry_at t k).on ≡ true
    pub matches : covers (entry_at t k).target d ≡ true
    pub other_port : (entry_at t k).port.0 ≡ arrival.0 → ⊥

  -- it does all that, and no entry before it does
  pub record First (k : ℕ) : Type 0 where
    pub qualifies : Qualifies k
    pub none_before : (j : ℕ) → j < k → Qualifies j → ⊥

  -- demand 2, routes: a message for another node leaves by the first entry that qualifies, and is refused a route exactly if none does
  pub record NextRoute : Type 0 where
    pub leaves : (p : Port) → (choose_of t d arrival ≡ Out p) ↔ ((k : ℕ) × First k × (p ≡ (entry_at t k).port))
    pub refused : (choose_of t d arrival ≡ Refused 52) ↔ ((k : ℕ) → Qualifies k → ⊥)

  -- when each other answer is given, of any call: the refusals in their order; local for the own station, from any arrival port in range
  pub record ChoiceAnswers : Type 0 where
    pub refused_50 : (choose_of t d arrival ≡ Refused 50) ↔ (table_in_range t ≡ false)
    pub refused_51 : (choose_of t d arrival ≡ Refused 51) ↔ ((table_in_range t ≡ true) × (call_in_range d arrival ≡ false))
    pub refused_52 : (choose_of t d arrival ≡ Refused 52) ↔ (Taken × (is_own t d ≡ false) × (has_route t d arrival ≡ false))
    pub local : (p : Port) → (choose_of t d arrival ≡ Local p) ↔ (Taken × (is_own t d ≡ true) × (p ≡ d.port))

abbrev pub NextRoutes : Type 0
NextRoutes = (t : Table) (d : Address) (arrival : Port) → Taken t d arrival → is_own t d ≡ false → NextRoute t d arrival

abbrev pub EveryChoice : Type 0
EveryChoice = (t : Table) (d : Address) (arrival : Port) → ChoiceAnswers t d arrival

-- the numbers that a choice gives
abbrev pub choose_refusals : List ℕ
choose_refusals = 0 ∷ 50 ∷ 51 ∷ 52 ∷ []

abbrev pub ChooseNumbers : Type 0
ChooseNumbers = (t : Table) (d : Address) (arrival : Port) → among (choice_refusal (choose_of t d arrival)) choose_refusals ≡ true

-- two tables that differ only past the count
pub record Alike (t t' : Table) : Type 0 where
  pub brigade : t.brigade ≡ t'.brigade
  pub node : t.node ≡ t'.node
  pub count : t.count ≡ t'.count
  pub entries : (i : ℕ) → i < t.count → entry_at t i ≡ entry_at t' i

-- entries past the count make no difference
pub record PastCount (t t' : Table) : Type 0 where
  pub table : table_in_range t ≡ table_in_range t'
  pub choice : (d : Address) (arrival : Port) → choose_of t d arrival ≡ choose_of t' d arrival

abbrev pub EntriesPastCount : Type 0
EntriesPastCount = (t t' : Table) → Alike t t' → PastCount t t'
