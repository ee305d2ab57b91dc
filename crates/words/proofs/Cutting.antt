-- The bytes before the first that ends a piece, as a slice.
use Rattle.std.proofs.Common.{◌≡◌, ◌≢◌, ◌<◌, ◌≤◌, ℕ, zero, suc, get_or, List, [], ◌∷◌, length, take, refl, ap, arith}
use Rattle.std.proofs.lemmas.Bool.{eq-eqb, ne_eqb}
use Rattle.words.specs.Bytes.{before}

-- the first n bytes, where none of them is `stop` and the next one is, if there is one
pub cut_before : (stop : ℕ) (bs : List ℕ) (n : ℕ) → n ≤ length bs → ((k : ℕ) → k < n → get_or bs k 0 ≢ stop) → (n < length bs → get_or bs n 0 ≡ stop) → take n bs ≡ before stop bs
cut_before stop [] n within none found = let empty : n ≡ 0 = omega arith in rw empty refl
cut_before stop (b ∷ bs) zero within none found = simp (eq-eqb b stop (found (omega arith)))
cut_before stop (b ∷ bs) (suc n) within none found =
    simp (ne_eqb b stop (none 0 (omega arith))) (ap (λ l. b ∷ l) (cut_before stop bs n (omega arith) (λ k below. none (suc k) (omega arith)) (λ inside. found (omega arith))))
