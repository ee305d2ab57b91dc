-- Who gives way to an arrival that does not fit, by its class: they may, they make room, and where there are none no set does.
use Rattle.std.proofs.Common.{◌≡◌, ℕ, ◌≤◌, true, false, not, List, [], ◌∷◌, sym, refl, ap, ◌∙◌, subst, inl, inr, le_trans, arith}
use Rattle.std.proofs.ByRecursion.{All-weaker}
use Rattle.std.proofs.lemmas.Bool.{false≢true, and_parts, and_from, not-true, not_from_false, cases_Bool}
use Rattle.std.specs.List.{AllByRecursion as Every}
use Rattle.jobs.specs.declared.job.Class.{Class}
use Rattle.jobs.specs.declared.job.Class.TheVariants.{Hard, Critical}
use Rattle.jobs.specs.declared.job.Job.{Job}
use Rattle.jobs.specs.Records.{number}
use Rattle.rankings.specs.Ranked.{Sorted}
use Rattle.rankings.proofs.Before.{Ordered}
use Rattle.rules.specs.Giving.{place, fits, among, without, is_hard, yields, gives_way, enough, victims}
use Rattle.rules.specs.Lists.{count, Among}
use Rattle.rules.specs.Promise.{Yields, MayGiveWay, NoSetHelps, WouldDo, GaveWay}
use Rattle.rules.specs.States.{Parts, LawfulParts, State, policy_order, ready_order, has}
use Rattle.rules.proofs.Candidates.{chosen, all_chosen, all_from_chosen, sorted_chosen, count_chosen}
use Rattle.rules.proofs.Enough.{MakesRoom, all_enough, count_enough, enough_first, enough_makes_room}
use Rattle.rules.proofs.Fitting.{without_both, fits_without_one, fits_fewer}
use Rattle.rules.proofs.Holding.{not_held}
use Rattle.rules.proofs.Keeping.{count_split, all_among, all_own}
use Rattle.rules.proofs.Numbered.{all_among_own, all_by_number}
use Rattle.rules.proofs.Orders.{ready_ordered, policy_ordered}
use Rattle.rules.proofs.Ordering.{sorted_kept}

-- what is known of a state and an arrival that does not fit
pub record TurnedAway (ρ : Parts) (s : State) (j : Job) : Type 0 where
  pub lawful : LawfulParts ρ
  pub sorted : Sorted (ready_order ρ) s.ready
  pub distinct : (n : ℕ) → count (has n) s.ready ≤ 1
  pub new : count (has (number j)) s.ready ≡ 0
  pub no_room : fits ρ s.clock s.ready j ≡ false

pub record GivingLaws (ρ : Parts) (s : State) (j : Job) : Type 0 where
  -- where nobody is set aside, no set helps
  pub none_help : victims ρ s j ≡ [] → NoSetHelps ρ s j
  -- where some are, they may give way, and without them the arrival fits
  pub may : (v : Job) (vs : List Job) → victims ρ s j ≡ v ∷ vs → MayGiveWay ρ s j j.mark.class (v ∷ vs)
  pub room : (v : Job) (vs : List Job) → victims ρ s j ≡ v ∷ vs → fits ρ s.clock (without (v ∷ vs) s.ready) j ≡ true
  -- each of them is a ready job, none twice, and gave way lawfully
  pub own : Every (λ v. Among (λ r. r ≡ v) s.ready) (victims ρ s j)
  pub once : (n : ℕ) → count (has n) (victims ρ s j) ≤ count (has n) s.ready
  pub lawfully : Every (λ r. among (victims ρ s j) r ≡ true → GaveWay ρ s j j.mark.class r) s.ready

abbrev pub EveryGiving : Type 0
EveryGiving = (ρ : Parts) (s : State) (j : Job) → TurnedAway ρ s j → GivingLaws ρ s j

-- the candidates for an arrival of this class, and those of them that are set aside
abbrev candidates_at : Parts → State → Job → Class → List Job
candidates_at ρ s j c = chosen (policy_order ρ) (gives_way ρ s j c) s.ready

abbrev victims_at : Parts → State → Job → Class → List Job
victims_at ρ s j c = enough ρ s.clock j s.ready (candidates_at ρ s j c)

-- v is a ready job that gives way
abbrev Gives : Parts → State → Job → Class → Job → Type 0
Gives ρ s j c v = Among (λ r. r ≡ v) s.ready × (gives_way ρ s j c v ≡ true)

hard_class : (c : Class) → is_hard c ≡ true → c ≡ Hard
hard_class Hard h = refl
hard_class Critical h = absurd (false≢true h)

module _ (ρ : Parts) (s : State) (j : Job) where
  -- TESTS AND WHAT THEY SAY

  yields_from : (v : Job) → Yields ρ s v → yields ρ v ≡ true
  yields_from v h = and_from _ _ (ap is_hard h.1) (not_from_false _ h.2)

  from_yields : (v : Job) → Among (λ r. r ≡ v) s.ready → yields ρ v ≡ true → Yields ρ s v
  from_yields v own h = let parts = and_parts _ _ h in (own, hard_class v.mark.class parts.0, not-true _ parts.1)

  gives_from : (v : Job) → WouldDo ρ s j v → Gives ρ s j Hard v
  gives_from v h = (h.0.0, and_from _ _ (yields_from v h.0) (and_from _ _ h.1 (sym (fits_without_one ρ s.clock j v s.ready) ∙ h.2)))

  from_gives : (v : Job) → Gives ρ s j Hard v → WouldDo ρ s j v
  from_gives v h =
      let parts = and_parts _ _ h.1 in
      let others = and_parts _ _ parts.1 in
      (from_yields v h.0 parts.0, others.0, fits_without_one ρ s.clock j v s.ready ∙ others.1)

  -- each of a set that may give way and helps is a candidate
  each_gives : (c : Class) (vs : List Job) → MayGiveWay ρ s j c vs → fits ρ s.clock (without vs s.ready) j ≡ true → Every (Gives ρ s j c) vs
  each_gives Hard vs (inl none) h = subst (Every (Gives ρ s j Hard)) (sym none) tt
  each_gives Hard vs (inr one) h =
      let would : WouldDo ρ s j one.0 = (one.2, one.3, subst (λ l. fits ρ s.clock (without l s.ready) j ≡ true) one.1 h) in
      subst (Every (Gives ρ s j Hard)) (sym one.1) (gives_from one.0 would, tt)
  each_gives Critical vs may h = All-weaker (Yields ρ s) (Gives ρ s j Critical) (λ v y. (y.0, yields_from v y)) vs may

  -- THE CANDIDATES

  all_give : (c : Class) → Every (Gives ρ s j c) (candidates_at ρ s j c)
  all_give c = all_chosen (policy_order ρ) (gives_way ρ s j c) s.ready

  -- what holds of each candidate holds of each job that gives way
  from_candidates : (c : Class) (P : Job → Type 0) → Every P (candidates_at ρ s j c) → (v : Job) → Gives ρ s j c v → P v
  from_candidates c P ps v h = all_among _ v s.ready (all_from_chosen (policy_order ρ) (gives_way ρ s j c) s.ready P ps) h.0 h.1

  all_would_do : Every (WouldDo ρ s j) (candidates_at ρ s j Hard)
  all_would_do = All-weaker (Gives ρ s j Hard) (WouldDo ρ s j) from_gives (candidates_at ρ s j Hard) (all_give Hard)

  all_yield : Every (Yields ρ s) (victims_at ρ s j Critical)
  all_yield = all_enough ρ s.clock j (Yields ρ s) s.ready (candidates_at ρ s j Critical) (All-weaker (Gives ρ s j Critical) (Yields ρ s) (λ v h. from_yields v h.0 h.1) (candidates_at ρ s j Critical) (all_give Critical))

  -- THE VICTIMS

  -- of candidates that would each do, the first alone
  first_alone : (v : Job) (vs : List Job) → WouldDo ρ s j v → enough ρ s.clock j s.ready (v ∷ vs) ≡ v ∷ []
  first_alone v vs would = enough_first ρ s.clock j v vs s.ready (sym (fits_without_one ρ s.clock j v s.ready) ∙ would.2)

  -- the victims may give way
  may_give_way : (c : Class) → MayGiveWay ρ s j c (victims_at ρ s j c)
  may_give_way Hard = alone (candidates_at ρ s j Hard) all_would_do
    where
      alone : (cs : List Job) → Every (WouldDo ρ s j) cs → MayGiveWay ρ s j Hard (enough ρ s.clock j s.ready cs)
      alone [] would = inl refl
      alone (v ∷ vs) would = inr (v, first_alone v vs would.0, would.0.0, would.0.1)
  may_give_way Critical = all_yield

  module _ (away : TurnedAway ρ s j) where
    -- and each did so lawfully: to a HARD arrival the first in the policy, as the candidates stand in its order
    gave_way : (c : Class) → Every (GaveWay ρ s j c) (victims_at ρ s j c)
    gave_way Hard = first_best (candidates_at ρ s j Hard) all_would_do (sorted_chosen (policy_order ρ) (gives_way ρ s j Hard) s.ready by_policy) (from_candidates Hard)
      where
        by_policy : Ordered (policy_order ρ)
        by_policy = policy_ordered ρ away.lawful

        not_before_itself : (v : Job) → policy_order ρ v v ≡ false
        not_before_itself v = elim (cases_Bool (policy_order ρ v v)) [ inl h ↦ by_policy.asym v v h | inr h ↦ h ]

        first_best : (cs : List Job) → Every (WouldDo ρ s j) cs → Sorted (policy_order ρ) cs → ((P : Job → Type 0) → Every P cs → (v : Job) → Gives ρ s j Hard v → P v) → Every (GaveWay ρ s j Hard) (enough ρ s.clock j s.ready cs)
        first_best [] would sorted each = tt
        first_best (v ∷ vs) would sorted each =
            let best = each (λ u. policy_order ρ u v ≡ false) (not_before_itself v, sorted.0) in
            let all_best = All-weaker _ (λ u. WouldDo ρ s j u → policy_order ρ u v ≡ false) (λ u _ w. best u (gives_from u w)) s.ready (all_own s.ready) in
            subst (Every (GaveWay ρ s j Hard)) (sym (first_alone v vs would.0)) ((would.0, all_best), tt)
    gave_way Critical = all_yield

    -- they make room, or not even all the candidates do
    makes_room : (c : Class) → MakesRoom ρ s.clock j s.ready (candidates_at ρ s j c) (victims_at ρ s j c)
    makes_room c = enough_makes_room ρ s.clock j s.ready (candidates_at ρ s j c) away.no_room

    -- where nobody is set aside, no set that may give way helps: else all the candidates would
    no_set_helps : (c : Class) → victims_at ρ s j c ≡ [] → (vs : List Job) → MayGiveWay ρ s j c vs → fits ρ s.clock (without vs s.ready) j ≡ false
    no_set_helps c none vs may =
        let cs = candidates_at ρ s j c in
        let left = without vs s.ready in
        let sorted = sorted_kept (ready_order ρ) (ready_ordered ρ away.lawful) (λ r. not (among vs r)) s.ready away.sorted in
        let split = count_split (has (number j)) (λ r. not (among vs r)) s.ready in
        let new : count (has (number j)) left ≡ 0 = omega arith in
        not_held s.clock (place ρ j (without cs s.ready)) (place ρ j left)
        (λ h.
        let within = All-weaker (Gives ρ s j c) _ (from_candidates c (λ v. among cs v ≡ true) (all_among_own cs)) vs (each_gives c vs may h) in
        ap (λ l. fits ρ s.clock l j) (sym (without_both vs cs s.ready within)) ∙ fits_fewer ρ away.lawful s.clock j (λ r. not (among cs r)) left sorted new h)
        (subst (MakesRoom ρ s.clock j s.ready cs) none (makes_room c))

pub every_giving : EveryGiving
every_giving ρ s j away =
    let c = j.mark.class in
    let cs = candidates_at ρ s j c in
    let own = all_enough ρ s.clock j (λ v. Among (λ r. r ≡ v) s.ready) s.ready cs (All-weaker (Gives ρ s j c) _ (λ v h. h.0) cs (all_give ρ s j c)) in
    record {
      none_help = no_set_helps ρ s j away c;
      may = λ v vs e. subst (MayGiveWay ρ s j c) e (may_give_way ρ s j c);
      room = λ v vs e. subst (MakesRoom ρ s.clock j s.ready cs) e (makes_room ρ s j away c);
      own = own;
      once = λ n. le_trans (count_enough ρ s.clock j (has n) s.ready cs) (count_chosen (policy_order ρ) (gives_way ρ s j c) s.ready (has n));
      lawfully = all_by_number s.ready away.distinct (GaveWay ρ s j c) (victims_at ρ s j c) own (gave_way ρ s j away c);
    }
