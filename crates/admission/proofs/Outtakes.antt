-- A list from which the record at a place was taken out: what stands before the place, and what behind.
use Rattle.std.proofs.Common.{◌≡◌, ℕ, suc, ◌+◌, ◌<◌, List, length, take, drop, sym, ap, ◌∙◌, add-one, arith, length-take}
use Rattle.std.proofs.lemmas.List.{take_at, drop_at}
use Rattle.std.specs.List.{remove}

module _ {A : Type 0} (xs : List A) (i : ℕ) where
  pub taken_front : i < length xs → take i (remove xs i) ≡ take i xs
  taken_front within = take_at (take i xs) (drop (suc i) xs) i (length-take i xs ∙ omega arith)

  pub taken_rest : i < length xs → drop i (remove xs i) ≡ drop (i + 1) xs
  taken_rest within = drop_at (take i xs) (drop (suc i) xs) i (length-take i xs ∙ omega arith) ∙ ap (λ n. drop n xs) (sym (add-one i))
