-- What each call answers, and how it leaves the clock and the three lists.
use Rattle.std.specs.Prelude.{ℕ, zero, suc, ◌+◌, ◌-◌, Bool, true, false, cond, not, ◌&&◌, List, [], ◌∷◌, map, filter, ◌==◌, nat_le, nat_lt}
use Rattle.jobs.specs.declared.ending.EndKind.{EndKind}
use Rattle.jobs.specs.declared.ending.EndKind.TheVariants.{InTime, Missed, Withdrawn}
use Rattle.jobs.specs.declared.ending.Ending.{Ending}
use Rattle.jobs.specs.declared.job.Job.{Job}
use Rattle.jobs.specs.declared.refusal.Refusal.{Refusal}
use Rattle.jobs.specs.declared.refusal.Refusal.TheVariants.{Range, Class as ClassRule, Horizon, Known, Full, Hopeless, Unknown, Waiting, Nothing}
use Rattle.rankings.specs.Ranked.{insert}
use Rattle.jobs.specs.Records.{class_of, number, limit}
use Rattle.timing.specs.Timing.{exceeding, cause}
use Rattle.rules.specs.Giving.{place, fits, swept, among, without, victims}
use Rattle.rules.specs.Lists.{insert_all, some, count}
use Rattle.rules.specs.States.{Parts, parked_order, ended_order, State, Arrival, Call, arrive, work, finish, withdraw, collect, ready, parked, now_at, saved, gone, line, refused, Outcome, answers, displaced, has, other, pending, known, population}

abbrev pub between : ℕ → ℕ → ℕ → Bool
between low high n = nat_le low n && nat_le n high

-- refused for this reason if the test says so; else as what follows says
abbrev pub refusing : Bool → Refusal → State → Outcome → Outcome
refusing true e s o = answers (refused e) s
refusing false e s o = o

-- ARRIVE

abbrev pub out_of_range : Arrival → Bool
out_of_range a =
    not (between 1 65535 a.number && (between 1 1000000 a.computation && (between 1 100000000 a.deadline_in && (nat_le a.tolerance 100000000 && nat_le a.value 65535))))

-- the job that arrives
abbrev pub job_of : State → Arrival → Job
job_of s a =
    record {
      mark = record {
        number = a.number;
        class = class_of a.class;
        arrival = s.clock;
        deadline = s.clock + a.deadline_in;
        tolerance = a.tolerance;
        value = a.value;
      };
      computation = a.computation;
      remaining = a.computation;
      by = 0;
    }

-- those of the jobs vs that are parked get the number of their displacer
abbrev pub name_displacer : List Job → ℕ → List Job → List Job
name_displacer vs n [] = []
name_displacer vs n (p ∷ ps) = cond (among vs p) (displaced n p) p ∷ name_displacer vs n ps

-- the jobs vs are parked, j becomes ready, the sweep runs, and whoever of vs is parked then is displaced
abbrev pub make_way : Parts → State → Job → List Job → State
make_way ρ s j vs =
    let w = swept ρ (record {
      clock = s.clock;
      ready = place ρ j (without vs s.ready);
      parked = insert_all (parked_order ρ) vs s.parked;
      ended = s.ended;
    }) in
    record { clock = w.clock; ready = w.ready; parked = name_displacer vs (number j) w.parked; ended = w.ended }

-- with the jobs to set aside known: none, and j is parked; some, and it becomes ready
abbrev pub give_way : Parts → State → Job → ℕ → ℕ → List Job → Outcome
give_way ρ s j e w [] =
    answers (parked e w 0) (record { clock = s.clock; ready = s.ready; parked = insert (parked_order ρ) j s.parked; ended = s.ended })
give_way ρ s j e w (v ∷ vs) =
    let after = make_way ρ s j (v ∷ vs) in answers (ready e w (count (among (v ∷ vs)) after.parked)) after

abbrev pub admit : Parts → State → Job → Outcome
admit ρ s j =
    let whole = place ρ j s.ready in
    let e = exceeding s.clock whole in
    let w = cause s.clock whole in
    cond (fits ρ s.clock s.ready j)
    (answers (ready e w 0) (record { clock = s.clock; ready = whole; parked = s.parked; ended = s.ended }))
    (give_way ρ s j e w (victims ρ s j))

abbrev pub on_arrive : Parts → State → Arrival → Outcome
on_arrive ρ s a =
    refusing (out_of_range a) Range s
    (refusing (nat_lt 1 a.class) ClassRule s
    (refusing (known s a.number) Known s
    (refusing (nat_le 64 (population s)) Full s
    (refusing (nat_lt (a.deadline_in + a.tolerance) a.computation) Hopeless s
    (admit ρ s (job_of s a))))))

-- WORK

-- the line of a job that ends at the tick t
abbrev pub ends : ℕ → EndKind → Job → Ending
ends t k j = record { number = number j; kind = k; tick = t; by = j.by }

abbrev pub shorter : Job → Job
shorter j = record { mark = j.mark; computation = j.computation; remaining = j.remaining - 1; by = j.by }

-- the first of the ready jobs rs, if any, loses one tick, and at its last one ends in time
abbrev pub worked : ℕ → State → List Job → State
worked t s [] = record { clock = t; ready = []; parked = s.parked; ended = s.ended }
worked t s (j ∷ js) =
    cond (j.remaining == 1)
    (record { clock = t; ready = js; parked = s.parked; ended = insert ended_order (ends t InTime j) s.ended })
    (record { clock = t; ready = shorter j ∷ js; parked = s.parked; ended = s.ended })

abbrev pub last_tick : List Job → Bool
last_tick [] = false
last_tick (j ∷ js) = j.remaining == 1

-- worked from the tick t on, it would pass its limit
abbrev pub late : ℕ → Job → Bool
late t j = nat_lt (limit j) (t + j.remaining)

-- each parked job that can no longer make its limit ends as missed
abbrev pub expire : State → State
expire s =
    record {
      clock = s.clock;
      ready = s.ready;
      parked = filter (λ j. not (late s.clock j)) s.parked;
      ended = insert_all ended_order (map (ends s.clock Missed) (filter (late s.clock) s.parked)) s.ended;
    }

-- one tick: the clock rises, and the sweep runs if a ready job ended
abbrev pub tick : Parts → State → State
tick ρ s = let w = expire (worked (s.clock + 1) s s.ready) in cond (last_tick s.ready) (swept ρ w) w

abbrev pub after_ticks : Parts → ℕ → State → State
after_ticks ρ zero s = s
after_ticks ρ (suc n) s = after_ticks ρ n (tick ρ s)

abbrev pub on_work : Parts → State → ℕ → Outcome
on_work ρ s n =
    refusing (not (between 1 10000 n)) Range s
    (refusing (nat_lt 1000000000 (s.clock + n)) Horizon s
    (let w = after_ticks ρ n s in answers (now_at w.clock) w))

-- FINISH

-- the first of the ready jobs ends early, if it is the one that is named
abbrev pub finish_first : Parts → State → ℕ → List Job → Outcome
finish_first ρ s n [] = answers (refused Waiting) s
finish_first ρ s n (j ∷ js) =
    refusing (other n j) Waiting s
    (answers (saved j.remaining) (swept ρ (record { clock = s.clock; ready = js; parked = s.parked; ended = insert ended_order (ends s.clock InTime j) s.ended })))

abbrev pub on_finish : Parts → State → ℕ → Outcome
on_finish ρ s n =
    refusing (not (between 1 65535 n)) Range s
    (refusing (not (pending s n)) Unknown s
    (finish_first ρ s n s.ready))

-- WITHDRAW

-- the lines of the jobs of that number among js
abbrev pub withdrawn : ℕ → ℕ → List Job → List Ending
withdrawn t n js = map (ends t Withdrawn) (filter (has n) js)

abbrev pub on_withdraw : Parts → State → ℕ → Outcome
on_withdraw ρ s n =
    refusing (not (between 1 65535 n)) Range s
    (refusing (not (pending s n)) Unknown s
    (answers gone
    (cond (some (has n) s.ready)
    (swept ρ (record { clock = s.clock; ready = filter (other n) s.ready; parked = s.parked; ended = insert_all ended_order (withdrawn s.clock n s.ready) s.ended }))
    (record { clock = s.clock; ready = s.ready; parked = filter (other n) s.parked; ended = insert_all ended_order (withdrawn s.clock n s.parked) s.ended }))))

-- COLLECT

abbrev pub collect_first : State → List Ending → Outcome
collect_first s [] = answers (refused Nothing) s
collect_first s (e ∷ es) = answers (line e) (record { clock = s.clock; ready = s.ready; parked = s.parked; ended = es })

abbrev pub serve : Parts → State → Call → Outcome
serve ρ s (arrive a) = on_arrive ρ s a
serve ρ s (work n) = on_work ρ s n
serve ρ s (finish n) = on_finish ρ s n
serve ρ s (withdraw n) = on_withdraw ρ s n
serve ρ s collect = collect_first s s.ended
