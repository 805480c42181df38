-- The state that a store opens with, and the one that its contents at the end stand for.
use Rattle.std.specs.Prelude.{ℕ, ◌==◌, List, [], ◌∷◌, get_or, Option, Some, None, if◌then◌else◌}
use Rattle.serial_terms.specs.declared.store.Layout.{Layout}
use Rattle.serial_terms.specs.declared.store.PoolLayout.{PoolLayout}
use Rattle.serial_terms.specs.declared.store.StoreState.{StoreState}
use Rattle.serial_terms.specs.Serial.{State, pool_of}

-- the value of the key in a list of keys with their values
abbrev pub value_in : List (ℕ × ℕ) → ℕ → Option ℕ
value_in [] k = None
value_in (p ∷ ps) k = if p.0 == k then Some p.1 else value_in ps k

-- the number of slots of each pool
abbrev pub slots_of : List PoolLayout → List ℕ
slots_of [] = []
slots_of (p ∷ ps) = p.slots ∷ slots_of ps

-- the items with which each pool opens
abbrev pub items_of : List PoolLayout → List (List ℕ)
items_of [] = []
items_of (p ∷ ps) = p.items ∷ items_of ps

-- the state with these capacities and numbers of slots that has these contents
unfoldable pub state_of : Layout → StoreState → State
state_of layout contents = record {
  maps = λ m k. value_in (get_or contents.maps m []) k;
  queues = λ q. record { items = get_or contents.queues q []; capacity = get_or layout.queues q 0 };
  pools = λ p. pool_of (get_or (slots_of layout.pools) p 0) (get_or contents.pools p []);
  logs = λ l. record { items = get_or contents.logs l []; capacity = get_or layout.logs l 0 };
  cells = λ c. get_or contents.cells c 0;
}

-- the opening: each pool has its items, and all else is empty or 0
unfoldable pub opening_of : Layout → State
opening_of layout = record {
  maps = λ m k. None;
  queues = λ q. record { items = []; capacity = get_or layout.queues q 0 };
  pools = λ p. pool_of (get_or (slots_of layout.pools) p 0) (get_or (items_of layout.pools) p []);
  logs = λ l. record { items = []; capacity = get_or layout.logs l 0 };
  cells = λ c. 0;
}
