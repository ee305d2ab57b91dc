-- The lines of an input: the first one, those behind it, and how many there are.
use Rattle.std.proofs.Common.{◌≡◌, ℕ, ◌+◌, ◌<◌, ◌≤◌, eqb, List, [], ◌∷◌, length, drop, Some, None, Option, sym, refl, ap, ◌∙◌, inl, inr, add-one, arith, Bor}
use Rattle.std.specs.Slice.{IsGetRangeResult}
use Rattle.std.proofs.lemmas.List.{take_rest}
use Rattle.std.proofs.lemmas.Bool.{cases_Bool, cond_both}
use Rattle.words.specs.Bytes.{before, lines, later_lines}
use Rattle.words.specs.Readers.{lines_in}

lines_after : (bs : List ℕ) → length (before 10 bs) < length bs → later_lines bs ≡ lines (drop (length (before 10 bs) + 1) bs)
lines_after [] inside = absurd (omega arith)
lines_after (b ∷ bs) inside =
    elim (cases_Bool (eqb b 10)) [
      | inl e ↦ simp e
      | inr e ↦ simp (e, add-one) (simp add-one at (lines_after bs (omega (arith, simp e at inside))))
    ]

no_lines_after : (bs : List ℕ) → length bs ≤ length (before 10 bs) → later_lines bs ≡ []
no_lines_after [] past = refl
no_lines_after (b ∷ bs) past =
    elim (cases_Bool (eqb b 10)) [
      | inl e ↦ absurd (omega (arith, simp e at past))
      | inr e ↦ simp e (no_lines_after bs (omega (arith, simp e at past)))
    ]

-- the first line, and what comes behind the newline that ends it
pub line_read : (bs line : List ℕ) (after : Option (Bor (List ℕ))) → line ≡ before 10 bs → IsGetRangeResult bs (length line + 1) (length bs) after → lines bs ≡ line ∷ lines_in after
line_read bs line None e part =
    let past : length bs ≤ length (before 10 bs) = omega (arith, part.0, ap length e) in
    λ i. sym e i ∷ no_lines_after bs past i
line_read bs line (Some r) e part =
    let inside : length (before 10 bs) < length bs = omega (arith, part.0.0, ap length e) in
    let behind : r.now ≡ drop (length (before 10 bs) + 1) bs = part.0.2 ∙ take_rest bs (length line + 1) ∙ ap (λ l. drop (length l + 1) bs) e in
    λ i. sym e i ∷ (lines_after bs inside ∙ sym (ap lines behind)) i

later_few : (bs : List ℕ) → length (later_lines bs) ≤ length bs
later_few [] = omega arith
later_few (b ∷ bs) =
    let ih = later_few bs in
    cond_both (eqb b 10) (before 10 bs ∷ later_lines bs) (later_lines bs) (λ ls. length ls ≤ length (b ∷ bs)) (λ _. omega arith) (λ _. omega arith)

-- an input has at most one line more than it has bytes
pub lines_few : (bs : List ℕ) → length (lines bs) ≤ length bs + 1
lines_few bs = let few = later_few bs in omega arith
