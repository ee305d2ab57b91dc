-- What a moment adds to the story of each job.
use Rattle.std.proofs.Common.{◌≡◌, ℕ, ◌≤◌, Bool, true, false, not, ◌&&◌, ◌||◌, eqb, List, [], ◌∷◌, refl, ◌∙◌, inl, inr, arith}
use Rattle.std.proofs.ByRecursion.{All-weaker}
use Rattle.std.proofs.lemmas.Bool.{eq-eqb, le-ltb, both_ways}
use Rattle.std.proofs.lemmas.Bool.Decides.{nat_tests}
use Rattle.std.specs.List.{AllByRecursion as Every}
use Rattle.jobs.specs.declared.ending.EndKind.{EndKind}
use Rattle.jobs.specs.declared.ending.EndKind.TheVariants.{InTime, Missed, Withdrawn}
use Rattle.jobs.specs.declared.ending.Ending.{Ending}
use Rattle.jobs.specs.declared.job.Job.{Job}
use Rattle.jobs.specs.Records.{number}
use Rattle.rules.specs.Lists.{some, count}
use Rattle.rules.specs.States.{Parts, State, has}
use Rattle.rules.proofs.Invariant.{Books, Told, Invariant}
use Rattle.rules.proofs.Keeping.{some_count, all_both}

-- each record of a list is counted under its own number
pub all_counted : {A : Type 0} (name : A → ℕ) (xs : List A) → Every (λ x. 1 ≤ count (λ y. eqb (name y) (name x)) xs) xs
all_counted name [] = tt
all_counted name (x ∷ xs) =
    let own = eq-eqb (name x) (name x) refl in
    (grind (arith, nat_tests), All-weaker _ _ (λ y h. omega arith) xs (all_counted name xs))

-- who stands elsewhere does not stand ready
pub not_some : {A : Type 0} (test : A → Bool) (xs : List A) → count test xs ≡ 0 → some test xs ≡ false
not_some test xs none = some_count test xs ∙ le-ltb 0 (count test xs) (omega arith)

module _ (s : State) (owed : List Job) (b : Books s owed) where
  pub parked_not_ready : Every (λ p. some (has (number p)) s.ready ≡ false) s.parked
  parked_not_ready =
      All-weaker _ _ (λ p h. not_some (has (number p)) s.ready (let e = b.each (number p) in let o = b.once (number p) in omega arith)) s.parked (all_counted number s.parked)

  pub ready_not_parked : Every (λ r. some (has (number r)) s.parked ≡ false) s.ready
  ready_not_parked =
      All-weaker _ _ (λ r h. not_some (has (number r)) s.parked (let e = b.each (number r) in let o = b.once (number r) in omega arith)) s.ready (all_counted number s.ready)

  pub ended_not_ready : Every (λ e. some (has e.number) s.ready ≡ false) s.ended
  ended_not_ready =
      All-weaker _ _ (λ l h. not_some (has l.number) s.ready (let e = b.each l.number in let o = b.once l.number in omega arith)) s.ended (all_counted (λ l. l.number) s.ended)

  pub ended_not_parked : Every (λ e. some (has e.number) s.parked ≡ false) s.ended
  ended_not_parked =
      All-weaker _ _ (λ l h. not_some (has l.number) s.parked (let e = b.each l.number in let o = b.once l.number in omega arith)) s.ended (all_counted (λ l. l.number) s.ended)

-- a line goes on explaining itself where its job is seen no more than it was, and has the same displacer
pub told_at : (seen seen' : ℕ → Bool) (last last' : ℕ → ℕ) (e : Ending) (k : EndKind) → (seen' e.number ≡ true → seen e.number ≡ true) → last' e.number ≡ last e.number → Told seen last e k → Told seen' last' e k
told_at seen seen' last last' e InTime f g h = tt
told_at seen seen' last last' e Missed f g (inl never) = inl (unseen (seen' e.number) f)
  where
    unseen : (b : Bool) → (b ≡ true → seen e.number ≡ true) → b ≡ false
    unseen true f = absurd (both_ways _ never (f refl))
    unseen false f = refl
told_at seen seen' last last' e Missed f g (inr by) = inr (by.0, g ∙ by.1)
told_at seen seen' last last' e Withdrawn f g h = tt

-- no more was seen of who does not stand ready
unready : (ready was : Bool) → ready ≡ false → (ready || (was && not false)) ≡ true → was ≡ true
unready true was h k = absurd (both_ways true h refl)
unready false true h k = refl
unready false false h k = k

-- a moment in which nothing is accepted
pub noted : (ρ : Parts) (s : State) (owed : List Job) (seen : ℕ → Bool) (last : ℕ → ℕ) → Invariant ρ s owed seen last → Invariant ρ s owed (λ n. some (has n) s.ready || (seen n && not false)) last
noted ρ s owed seen last i =
    let after : ℕ → Bool = λ n. some (has n) s.ready || (seen n && not false) in
    record {
      books = i.books;
      story = record {
        by_ready = i.story.by_ready;
        by_parked = i.story.by_parked;
        waits = All-weaker _ _ (λ p h was. h.1 (unready _ _ h.0 was)) s.parked (all_both _ _ s.parked (parked_not_ready s owed i.books) i.story.waits);
        told = All-weaker _ _ (λ e h. told_at seen after last last e e.kind (unready _ _ h.0) refl h.1) s.ended (all_both _ _ s.ended (ended_not_ready s owed i.books) i.story.told);
      };
      times = i.times;
      can = i.can;
      full = i.full;
    }
