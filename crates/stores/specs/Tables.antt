-- The list that a table holds.
use Rattle.std.specs.Prelude.{◌≡◌, ℕ, ◌<◌, Bool, List, [], ◌∷◌, length, Ok, Err, Result, ◌==◌}
use Rattle.std.specs.List.{list_any}
use Rattle.jobs.specs.declared.refusal.Refusal.{Refusal}
use Rattle.jobs.specs.declared.refusal.Refusal.TheVariants.{Full, Nothing}
use Rattle.stores.specs.declared.table.RecordTable.{RecordTable}
use Rattle.rankings.specs.Ranked.{insert}

abbrev pub listed : {T : Type 0} → RecordTable T → List T
listed t = t.records.items

-- a record of this number stands in the list
abbrev pub known : {A : Type 0} → (A → ℕ) → ℕ → List A → Bool
known name n xs = list_any (λ x. name x == n) xs

-- putting a record into a list by an order: refused exactly where it has 64, and then nothing has changed
abbrev pub Kept : {A : Type 0} → (A → A → Bool) → A → List A → List A → Result (Unit {0}) Refusal → Type 0
Kept first x was is (Ok _) = (length was < 64) × (is ≡ insert first x was)
Kept first x was is (Err e) = (e ≡ Full) × (length was ≡ 64) × (is ≡ was)

-- taking out the first record: refused exactly where there is none, and then nothing has changed
abbrev pub First : {A : Type 0} → List A → List A → Result A Refusal → Type 0
First was is (Ok x) = was ≡ x ∷ is
First was is (Err e) = (e ≡ Nothing) × (was ≡ []) × (is ≡ was)
