-- Arrive by its cases: refused, or ready at once, or parked, or ready after others made way.
use Rattle.std.proofs.Common.{◌≡◌, ℕ, ◌+◌, ◌≤◌, Bool, true, false, cond, not, ◌&&◌, ◌||◌, ltb, leb, List, [], ◌∷◌, sym, refl, ap, ◌∙◌, subst, inl, inr, arith}
use Rattle.std.proofs.ByRecursion.{All-weaker}
use Rattle.std.proofs.lemmas.Bool.{cases_Bool, cond-false, cond_both, and_parts, or_parts, not-false, eqb-true, leb-true, ltb-true, ltb-false, lt-ltb, both_ways}
use Rattle.std.specs.List.{AllByRecursion as Every}
use Rattle.jobs.specs.declared.job.Class.{Class}
use Rattle.jobs.specs.declared.job.Class.TheVariants.{Hard, Critical}
use Rattle.jobs.specs.declared.job.Job.{Job}
use Rattle.jobs.specs.declared.refusal.Refusal.{Refusal}
use Rattle.jobs.specs.declared.refusal.Refusal.TheVariants.{Range, Class as ClassRule, Known, Full, Hopeless}
use Rattle.jobs.specs.Records.{number}
use Rattle.timing.specs.Timing.{exceeding, cause}
use Rattle.rules.specs.Calls.{between, refusing, out_of_range, job_of, give_way, admit, on_arrive}
use Rattle.rules.specs.Giving.{place, fits, sweep, among, without, victims}
use Rattle.rules.specs.Lists.{insert_all, some, count, Among}
use Rattle.rules.specs.Promise.{standing, MayGiveWay, ParkedOnlyForWant, StandsAsAnswered, GaveWay, DisplacedLawfully}
use Rattle.rules.specs.Runs.{arrived, accepts, note, displaced_by}
use Rattle.rules.specs.States.{Parts, LawfulParts, ready_order, parked_order, State, Arrival, ready, refused, Outcome, answers, has, line_has, known, population}
use Rattle.rules.proofs.Arriving.{Accepted, fitting, parking}
use Rattle.rules.proofs.MakingWay.{making_way, parked_from}
use Rattle.rules.proofs.Fitting.{without_none}
use Rattle.rules.proofs.Invariant.{Invariant}
use Rattle.rules.proofs.Keeping.{some_count, count_insert, all_zip}
use Rattle.rules.proofs.Naming.{count_named}
use Rattle.rules.proofs.Noting.{all_counted, noted, ready_not_parked}
use Rattle.rules.proofs.Refusing.{refusing_cases}
use Rattle.rules.proofs.Sweeping.{count_own, sweep_stays}
use Rattle.rules.proofs.Yielding.{GivingLaws, every_giving}

unknown_stands : (s : State) (n : ℕ) → known s n ≡ false → standing n s ≡ 0
unknown_stands s n h =
    let parts = or_parts _ _ h in
    let pending = or_parts _ _ parts.0 in
    let r = some_count (has n) s.ready in
    let p = some_count (has n) s.parked in
    let e = some_count (line_has n) s.ended in
    let no_r = ltb-false 0 _ (sym r ∙ pending.0) in
    let no_p = ltb-false 0 _ (sym p ∙ pending.1) in
    let no_e = ltb-false 0 _ (sym e ∙ parts.1) in
    omega arith

module _ (ρ : Parts) (s : State) (a : Arrival) where
  pub arrive_cases : (Q : Outcome → Type 0) → ((e : Refusal) → Q (answers (refused e) s)) → (out_of_range a ≡ false → leb 64 (population s) ≡ false → Accepted s (job_of s a) → Q (admit ρ s (job_of s a))) → Q (on_arrive ρ s a)
  arrive_cases Q turned taken =
      let admitted = admit ρ s (job_of s a) in
      let fifth = refusing (ltb (a.deadline_in + a.tolerance) a.computation) Hopeless s admitted in
      let fourth = refusing (leb 64 (population s)) Full s fifth in
      let third = refusing (known s a.number) Known s fourth in
      let second = refusing (ltb 1 a.class) ClassRule s third in
      refusing_cases Q (out_of_range a) Range s second (turned Range)
      (λ ranged. refusing_cases Q (ltb 1 a.class) ClassRule s third (turned ClassRule)
      (λ _. refusing_cases Q (known s a.number) Known s fourth (turned Known)
      (λ new. refusing_cases Q (leb 64 (population s)) Full s fifth (turned Full)
      (λ room. refusing_cases Q (ltb (a.deadline_in + a.tolerance) a.computation) Hopeless s admitted (turned Hopeless)
      (λ hope. taken ranged room (accepted_now ranged new hope))))))
    where
      accepted_now : out_of_range a ≡ false → known s a.number ≡ false → ltb (a.deadline_in + a.tolerance) a.computation ≡ false → Accepted s (job_of s a)
      accepted_now ranged new hope =
          let parts = and_parts (between 1 65535 a.number) _ (not-false _ ranged) in
          let numbered = leb-true 1 a.number (and_parts (leb 1 a.number) _ parts.0).0 in
          let rest = and_parts (between 1 1000000 a.computation) _ parts.1 in
          let lasts = leb-true 1 a.computation (and_parts (leb 1 a.computation) _ rest.0).0 in
          let enough_time = ltb-false _ _ hope in
          record { new = unknown_stands s a.number new; named = numbered; lasting = (lasts, omega arith); fresh = refl; can = omega arith }

-- the outcomes of an arrival that is accepted
module _ (ρ : Parts) (s : State) (j : Job) where
  abbrev pub excess : ℕ
  excess = exceeding s.clock (place ρ j s.ready)

  abbrev pub first_late : ℕ
  first_late = cause s.clock (place ρ j s.ready)

  abbrev pub at_once : Outcome
  at_once = answers (ready excess first_late 0) (record { clock = s.clock; ready = place ρ j s.ready; parked = s.parked; ended = s.ended })

  give_way_cases : (Q : Outcome → Type 0) (vs : List Job) → (vs ≡ [] → Q (give_way ρ s j excess first_late [])) → ((v : Job) (rest : List Job) → vs ≡ v ∷ rest → Q (give_way ρ s j excess first_late (v ∷ rest))) → Q (give_way ρ s j excess first_late vs)
  give_way_cases Q [] none some' = none refl
  give_way_cases Q (v ∷ rest) none some' = some' v rest refl

  pub admit_cases : (Q : Outcome → Type 0) → (fits ρ s.clock s.ready j ≡ true → Q at_once) → (fits ρ s.clock s.ready j ≡ false → victims ρ s j ≡ [] → Q (give_way ρ s j excess first_late [])) → ((v : Job) (rest : List Job) → fits ρ s.clock s.ready j ≡ false → victims ρ s j ≡ v ∷ rest → Q (give_way ρ s j excess first_late (v ∷ rest))) → Q (admit ρ s j)
  admit_cases Q room none some' =
      cond_both (fits ρ s.clock s.ready j) at_once (give_way ρ s j excess first_late (victims ρ s j)) Q room
      (λ no_room. give_way_cases Q (victims ρ s j) (none no_room) (λ v rest is. some' v rest no_room is))

module _ (ρ : Parts) (laws : LawfulParts ρ) (s : State) (owed : List Job) (seen : ℕ → Bool) (last : ℕ → ℕ) (i : Invariant ρ s owed seen last) where
  -- who gives way to an arrival that does not fit
  pub way : (j : Job) → Accepted s j → fits ρ s.clock s.ready j ≡ false → GivingLaws ρ s j
  way j ok no_room =
      every_giving ρ s j
      (record {
        lawful = laws;
        sorted = i.times.by_order;
        distinct = λ n. let e = i.books.each n in let o = i.books.once n in omega arith;
        new = let none = ok.new in omega arith;
        no_room = no_room;
      })

  pub own_victims : (j : Job) (v : Job) (rest : List Job) → GivingLaws ρ s j → victims ρ s j ≡ v ∷ rest → Every (λ u. Among (λ r. r ≡ u) s.ready) (v ∷ rest)
  own_victims j v rest g is = subst (Every (λ u. Among (λ r. r ≡ u) s.ready)) is g.own

  pub few_victims : (j : Job) (v : Job) (rest : List Job) → GivingLaws ρ s j → victims ρ s j ≡ v ∷ rest → (n : ℕ) → count (has n) (v ∷ rest) ≤ count (has n) s.ready
  few_victims j v rest g is n = subst (λ vs. count (has n) vs ≤ count (has n) s.ready) is (g.once n)

  module _ (a : Arrival) where
    -- THE INVARIANT

    abbrev Kept : Job → Outcome → Type 0
    Kept j o =
        Invariant ρ o.state (note (arrived j o.answer) owed)
        (λ n. some (has n) o.state.ready || (seen n && not (accepts n (arrived j o.answer))))
        (λ n. displaced_by n (arrived j o.answer) s o.state (last n))

    pub arrive_keeps : Kept (job_of s a) (on_arrive ρ s a)
    arrive_keeps =
        let j = job_of s a in
        arrive_cases ρ s a (Kept j) (λ e. noted ρ s owed seen last i)
        (λ _ _ ok. admit_cases ρ s j (Kept j)
        (λ room. fitting ρ laws s j owed seen last i ok room)
        (λ no_room _. parking ρ laws s j owed seen last i ok no_room)
        (λ v rest no_room is. let g = way j ok no_room in making_way ρ laws s j owed seen last i ok (v ∷ rest) (own_victims j v rest g is) (few_victims j v rest g is) (g.room v rest is)))

    -- THE ANSWER

    may_nobody : (j : Job) (c : Class) → MayGiveWay ρ s j c []
    may_nobody j Hard = inl refl
    may_nobody j Critical = tt

    pub arrive_fair : ParkedOnlyForWant ρ s (job_of s a) (on_arrive ρ s a).answer
    arrive_fair =
        let j = job_of s a in
        let Q : Outcome → Type 0 = λ o. ParkedOnlyForWant ρ s j o.answer in
        arrive_cases ρ s a Q (λ e. tt)
        (λ _ _ ok. admit_cases ρ s j Q
        (λ room. ([], may_nobody j j.mark.class, ap (λ rs. fits ρ s.clock rs j) (without_none s.ready) ∙ room))
        (λ no_room none. (way j ok no_room).none_help none)
        (λ v rest no_room is. let g = way j ok no_room in (v ∷ rest, g.may v rest is, g.room v rest is)))

    some_from_count : (n : ℕ) (js : List Job) → 1 ≤ count (has n) js → some (has n) js ≡ true
    some_from_count n js h = some_count (has n) js ∙ lt-ltb 0 _ h

    count_from_some : (n : ℕ) (js : List Job) → some (has n) js ≡ true → 1 ≤ count (has n) js
    count_from_some n js h = ltb-true 0 _ (sym (some_count (has n) js) ∙ h)

    pub arrive_placed : StandsAsAnswered a.number s (on_arrive ρ s a).state (on_arrive ρ s a).answer
    arrive_placed =
        let j = job_of s a in
        let own = count_own j [] in
        let Q : Outcome → Type 0 = λ o. StandsAsAnswered a.number s o.state o.answer in
        arrive_cases ρ s a Q (λ e. refl)
        (λ _ _ ok. admit_cases ρ s j Q
        (λ room. some_from_count (number j) _ (let more = count_insert (has (number j)) (ready_order ρ) j s.ready in omega arith))
        (λ no_room none. (some_from_count (number j) _ (let more = count_insert (has (number j)) (parked_order ρ) j s.parked in omega arith), refl))
        (λ v rest no_room is.
        some_from_count (number j) _
        (let more = count_insert (has (number j)) (ready_order ρ) j (without (v ∷ rest) s.ready) in
        let stays = sweep_stays ρ laws (has (number j)) s.clock (place ρ j (without (v ∷ rest) s.ready)) (insert_all (parked_order ρ) (v ∷ rest) s.parked) in
        omega arith)))

    -- who is ready and would be parked as before is not
    never : (j r : Job) (s' : State) → some (has (number r)) s'.parked ≡ false → some (has (number r)) s'.parked ≡ true → GaveWay ρ s j j.mark.class r
    never j r s' isnt is = absurd (both_ways _ isnt is)

    pub arrive_displaces : DisplacedLawfully ρ s (job_of s a) (on_arrive ρ s a).state
    arrive_displaces =
        let j = job_of s a in
        let Q : Outcome → Type 0 = λ o. DisplacedLawfully ρ s j o.state in
        let apart = ready_not_parked s owed i.books in
        let counted = all_counted number s.ready in
        arrive_cases ρ s a Q (λ e. All-weaker _ _ (λ r isnt. never j r s isnt) s.ready apart)
        (λ _ _ ok. admit_cases ρ s j Q
        (λ room. All-weaker _ _ (λ r isnt. never j r s isnt) s.ready apart)
        (λ no_room none.
        all_zip _ _ _ (λ r isnt stands is.
        let n = number r in
        let more = count_insert (has n) (parked_order ρ) j s.parked in
        let there = count_from_some n _ is in
        let none_parked = ltb-false 0 _ (sym (some_count (has n) s.parked) ∙ isnt) in
        let none_new = ok.new in
        absurd (not_both j r none_new stands (omega arith)))
        s.ready apart counted)
        (λ v rest no_room is.
        let g = way j ok no_room in
        all_zip _ _ _ (λ r lawful stands parked-now.
        let names = count_named (v ∷ rest) (number j) (number r) (swept_parked j (v ∷ rest)) in
        let there = count_from_some (number r) _ parked-now in
        lawful (ap (λ vs. among vs r) is ∙ parked_from ρ laws s j owed seen last i ok (v ∷ rest) (own_victims j v rest g is) (few_victims j v rest g is) (g.room v rest is) (number r) stands (omega arith)))
        s.ready g.lawfully counted))
      where
        swept_parked : Job → List Job → List Job
        swept_parked j vs = (sweep ρ s.clock (place ρ j (without vs s.ready)) (insert_all (parked_order ρ) vs s.parked)).parked

        not_both : (j r : Job) → standing (number j) s ≡ 0 → 1 ≤ count (has (number r)) s.ready → 1 ≤ cond (has (number r) j) 1 0 → ⊥
        not_both j r none stands is =
            elim (cases_Bool (has (number r) j)) [
              | inl same ↦ let nobody : standing (number r) s ≡ 0 = subst (λ m. standing m s ≡ 0) (eqb-true _ _ same) none in omega arith
              | inr other ↦ let first = cond-false {A = ℕ} (has (number r) j) 1 0 other in omega arith
            ]
