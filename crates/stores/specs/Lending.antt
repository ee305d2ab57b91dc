-- What a table is once the `&mut` to its records, which it lent, has ended.
use Rattle.std.specs.Prelude.{◌≤◌, List, length, refl}
use Rattle.std.specs.Borrow.{Lends, Fml, RattleType, MutBor, Array}
use Rattle.std.specs.List.{length_refill}
use Rattle.std.proofs.Common.{subst}
use Rattle.arrayvec.specs.ArrayVec.{with_items}
use Rattle.stores.specs.declared.table.RecordTable.{RecordTable}
use Rattle.stores.specs.contracts.table.RecordTable.{the_row}

-- the table after a write of its records as a slice, which keeps their number
abbrev pub with_records : {T : Type 0} → RecordTable T → List T → RecordTable T
with_records t xs = record {
  records = with_items t.records xs;
  short = subst (λ n. n ≤ 64) (length_refill (length t.records.items) t.records.items xs refl) t.short;
}

abbrev pub LendsRecords : (T : RattleType) → MutBor (RecordTable T.Denot) → MutBor (List T.Denot) → Fml
LendsRecords T t r = Lends (the_row T) (Array T 0) t r (with_records t.now)
