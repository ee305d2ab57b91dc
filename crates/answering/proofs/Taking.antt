-- What is read through a `Take`.
use Rattle.std.proofs.Common.{◌≡◌, ℕ, List, [], ◌++◌, take, Option, Some, None, IfSome, ◌∙◌}
use Rattle.std.specs.Io.Take.{take_remaining}
use Rattle.std.specs.Option.{option_map}
use Rattle.std.specs.declared.io.traits.Take.{Take}

-- all that it gives is the first bytes of its reader, where those are known
pub first_bytes :
    {R : Type 0} (remaining : R → Option (List ℕ)) (t : Take R) (bytes buf : List ℕ) →
    buf ≡ bytes → IfSome (take_remaining remaining t) (λ xs. bytes ≡ [] ++ xs) →
    IfSome (remaining t.inner) (λ xs. buf ≡ take t.limit xs)
first_bytes remaining t bytes buf e =
    elim (remaining t.inner) as (λ o. IfSome (option_map (take t.limit) o) (λ xs. bytes ≡ [] ++ xs) → IfSome o (λ xs. buf ≡ take t.limit xs)) [
      | None ↦ λ h. h
      | Some xs ↦ λ h. e ∙ h
    ]
