-- The worked runs, computed on the rules. Jobs are number, C, D, value, tolerance.
use Rattle.std.specs.Prelude.{◌≡◌, ℕ, Bool, true, false, List, [], ◌∷◌, ◌++◌, map, pos, negsuc, None, nat_le}
use Rattle.jobs.specs.declared.ending.EndKind.TheVariants.{Missed, InTime}
use Rattle.jobs.specs.declared.job.Job.{Job}
use Rattle.jobs.specs.declared.job.Mark.{Mark}
use Rattle.jobs.specs.declared.refusal.Refusal.TheVariants.{Unknown, Nothing}
use Rattle.rankings.specs.Rankings.{earlier_deadline, earlier_limit, smaller_value, larger_value}
use Rattle.jobs.specs.Records.{number}
use Rattle.timing.specs.Timing.{entries}
use Rattle.rules.specs.Calls.{job_of, serve}
use Rattle.rules.specs.Giving.{place}
use Rattle.rules.specs.Runs.{after, trace, owed, was_ready, displacer}
use Rattle.rules.specs.States.{Parts, LawfulParts, State, start, Arrival, Call, arrive, work, finish, collect, Answer, ready, parked, now_at, saved, line, refused}

-- the deadline order, or the order by limit, with the policy by value, or sheltered up to 3
abbrev pub parts : (Mark → Mark → Bool) → (Job → Bool) → Parts
parts order spared = record { order = order; policy = smaller_value; spared = spared; parking = larger_value }

abbrev pub plain : Parts
plain = parts earlier_deadline (λ _. false)

abbrev pub by_limit : Parts
by_limit = parts earlier_limit (λ _. false)

abbrev pub sheltered : Parts
sheltered = parts earlier_deadline (λ j. nat_le j.remaining 3)

abbrev pub arrival : ℕ → ℕ → ℕ → ℕ → ℕ → ℕ → Arrival
arrival k n c d v m = record { number = n; class = k; computation = c; deadline_in = d; tolerance = m; value = v }

abbrev pub hard : ℕ → ℕ → ℕ → ℕ → ℕ → Call
hard n c d v m = arrive (arrival 0 n c d v m)

abbrev pub critical : ℕ → ℕ → ℕ → ℕ → ℕ → Call
critical n c d v m = arrive (arrival 1 n c d v m)

abbrev pub answers_of : Parts → State → List Call → List Answer
answers_of ρ s [] = []
answers_of ρ s (k ∷ ks) = let o = serve ρ s k in o.answer ∷ answers_of ρ o.state ks

abbrev pub numbers : List Job → List ℕ
numbers js = map number js

-- 1. With 10 the list would exceed by 2, first at 11, and 10 is parked.
abbrev pub calls_1 : List Call
calls_1 = hard 11 14 16 5 0 ∷ work 3 ∷ hard 12 4 18 5 0 ∷ work 2 ∷ hard 13 5 23 5 0 ∷ work 2 ∷ []

abbrev pub state_1 : State
state_1 = after plain start calls_1

abbrev pub Run1 : Type 0
Run1 =
    (answers_of plain start (calls_1 ++ (hard 10 4 5 5 0 ∷ [])) ≡ (ready 0 0 0 ∷ now_at 3 ∷ ready 0 0 0 ∷ now_at 5 ∷ ready 0 0 0 ∷ now_at 7 ∷ parked 2 11 0 ∷ []))
    × (map (λ e. e.finish) (entries 7 0 (place plain (job_of state_1 (arrival 0 10 4 5 5 0)) state_1.ready)) ≡ (11 ∷ 18 ∷ 22 ∷ 27 ∷ []))
    × (map (λ e. e.residual) (entries 7 0 (place plain (job_of state_1 (arrival 0 10 4 5 5 0)) state_1.ready)) ≡ (pos 1 ∷ negsuc 1 ∷ negsuc 0 ∷ pos 1 ∷ []))

-- 2. With tolerance 2 on 11 and 1 on 12, 10 is ready.
abbrev pub Run2 : Type 0
Run2 =
    answers_of plain start (hard 11 14 16 5 2 ∷ work 3 ∷ hard 12 4 18 5 1 ∷ work 2 ∷ hard 13 5 23 5 0 ∷ work 2 ∷ hard 10 4 5 5 0 ∷ [])
    ≡ (ready 0 0 0 ∷ now_at 3 ∷ ready 0 0 0 ∷ now_at 5 ∷ ready 0 0 0 ∷ now_at 7 ∷ ready 0 0 0 ∷ [])

-- 3. After 1, to finish 11 saves 7 ticks, and 10 is ready.
abbrev pub after_1 : State
after_1 = after plain start (calls_1 ++ (hard 10 4 5 5 0 ∷ []))

abbrev pub Run3 : Type 0
Run3 = (answers_of plain after_1 (finish 11 ∷ []) ≡ (saved 7 ∷ [])) × (numbers (after plain after_1 (finish 11 ∷ [])).ready ≡ (10 ∷ 12 ∷ 13 ∷ []))

-- 4. After 1, 10 is parked at tick 8 and missed at 9.
abbrev pub Run4 : Type 0
Run4 =
    (numbers (after plain after_1 (work 1 ∷ [])).parked ≡ (10 ∷ []))
    × (answers_of plain after_1 (work 2 ∷ collect ∷ []) ≡ (now_at 9 ∷ line (record { number = 10; kind = Missed; tick = 9; by = 0 }) ∷ []))

-- 5. One is displaced for 5; nobody is called 9.
abbrev pub Run5 : Type 0
Run5 =
    answers_of plain start (hard 3 4 10 7 1 ∷ work 1 ∷ hard 1 5 7 5 2 ∷ work 1 ∷ hard 2 1 7 3 1 ∷ work 1 ∷ hard 4 3 12 2 2 ∷ work 1 ∷ hard 5 3 3 10 2 ∷ finish 9 ∷ [])
    ≡ (ready 0 0 0 ∷ now_at 1 ∷ ready 0 0 0 ∷ now_at 2 ∷ ready 0 0 0 ∷ now_at 3 ∷ ready 0 0 0 ∷ now_at 4 ∷ ready 2 3 1 ∷ refused Unknown ∷ [])

-- 6. For 23 the list would exceed by 2, first at 22; 21 is displaced.
abbrev pub calls_6 : List Call
calls_6 = hard 21 4 6 9 0 ∷ hard 22 6 11 1 0 ∷ hard 23 3 5 10 0 ∷ []

abbrev pub Run6 : Type 0
Run6 =
    (answers_of plain start calls_6 ≡ (ready 0 0 0 ∷ ready 0 0 0 ∷ ready 2 22 1 ∷ []))
    × (numbers (after plain start calls_6).ready ≡ (23 ∷ 22 ∷ []))
    × (numbers (after plain start calls_6).parked ≡ (21 ∷ []))

-- 7. 32 is parked by deadline, and ready by limit.
abbrev pub Run7 : Type 0
Run7 =
    (answers_of plain start (hard 31 5 5 5 10 ∷ hard 32 3 6 5 0 ∷ []) ≡ (ready 0 0 0 ∷ parked 2 32 0 ∷ []))
    × (answers_of by_limit start (hard 31 5 5 5 10 ∷ hard 32 3 6 5 0 ∷ []) ≡ (ready 0 0 0 ∷ ready 0 0 0 ∷ []))

-- 8. For CRITICAL 43, 42 is set aside and swept back; 41 is displaced.
abbrev pub calls_8 : List Call
calls_8 = hard 41 3 7 2 0 ∷ hard 42 1 20 1 0 ∷ critical 43 5 5 0 0 ∷ []

abbrev pub Run8 : Type 0
Run8 =
    (answers_of plain start calls_8 ≡ (ready 0 0 0 ∷ ready 0 0 0 ∷ ready 1 41 1 ∷ []))
    × (numbers (after plain start calls_8).ready ≡ (43 ∷ 42 ∷ []))
    × (numbers (after plain start calls_8).parked ≡ (41 ∷ []))

-- 9. Under a shelter of 3, 43 is parked.
abbrev pub Run9 : Type 0
Run9 = answers_of sheltered start calls_8 ≡ (ready 0 0 0 ∷ ready 0 0 0 ∷ parked 1 41 0 ∷ [])

-- 10. Two ticks on, 51 is at its deadline with one tick to go: it finishes at 3, one late, and has no load.
abbrev pub calls_10 : List Call
calls_10 = hard 51 3 2 0 2 ∷ work 2 ∷ []

abbrev pub Run10 : Type 0
Run10 =
    let s = after plain start calls_10 in
    (answers_of plain start calls_10 ≡ (ready 0 0 0 ∷ now_at 2 ∷ []))
    × (entries s.clock 0 s.ready ≡ (record { number = 51; finish = 3; residual = negsuc 0; load = None } ∷ []))

-- A story: 21 of run 6 was ready, was displaced by 23, and three ticks on is missed with that number; 22 was never displaced.
abbrev pub calls_story : List Call
calls_story = calls_6 ++ (work 3 ∷ [])

abbrev pub Story : Type 0
Story =
    (was_ready 21 false (trace plain start calls_story) ≡ true)
    × (displacer 21 0 (trace plain start calls_story) ≡ 23)
    × (displacer 22 0 (trace plain start calls_story) ≡ 0)
    × (numbers (owed (trace plain start calls_story) []) ≡ (23 ∷ 22 ∷ 21 ∷ []))
    × (answers_of plain (after plain start calls_story) (collect ∷ collect ∷ collect ∷ [])
    ≡ (line (record { number = 21; kind = Missed; tick = 3; by = 23 }) ∷ line (record { number = 23; kind = InTime; tick = 3; by = 0 }) ∷ refused Nothing ∷ []))
    × (numbers (owed (trace plain start (calls_story ++ (collect ∷ []))) []) ≡ (23 ∷ 22 ∷ []))

abbrev pub WorkedRuns : Type 0
WorkedRuns = Run1 × Run2 × Run3 × Run4 × Run5 × Run6 × Run7 × Run8 × Run9 × Story

-- the parts of these runs keep the laws, whatever they spare
abbrev pub BuiltPartsAreLawful : Type 0
BuiltPartsAreLawful = (spared : Job → Bool) → LawfulParts (parts earlier_deadline spared) × LawfulParts (parts earlier_limit spared)
