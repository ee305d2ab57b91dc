-- Readings of the published method that fail, each with a run on which it does.
use Rattle.std.specs.Prelude.{◌≡◌, ℕ, Bool, true, false, List, [], ◌∷◌}
use Rattle.jobs.specs.declared.job.Job.{Job}
use Rattle.timing.specs.Timing.{exceeding, cause}
use Rattle.rules.specs.Calls.{job_of}
use Rattle.rules.specs.Giving.{place, fits, without}
use Rattle.rules.specs.Runs.{after}
use Rattle.rules.specs.States.{State, start, Arrival, Call, work, finish, ready, saved}
use Rattle.rules.specs.Worked.{plain, arrival, hard, answers_of, numbers, after_1}

-- what a list exceeds its limits by with the arrival a, and whether the ready job v makes room for it
abbrev pub excess_with : State → Arrival → ℕ
excess_with s a = exceeding s.clock (place plain (job_of s a) s.ready)

abbrev pub makes_room : State → Arrival → Job → Bool
makes_room s a v = fits plain s.clock (without (v ∷ []) s.ready) (job_of s a)

abbrev pub first_ready : List Job → Job → Job
first_ready [] d = d
first_ready (j ∷ js) d = j

-- A job frees its remaining time, not its computation time. On run 5, at tick 5, job 1 has C 5 and c 1; the list exceeds by 2, and without job 1 it still exceeds.
-- At tick 4 its c is 2, which is just what the list exceeds by: that suffices.
abbrev pub calls_5 : ℕ → List Call
calls_5 n = hard 3 4 10 7 1 ∷ work 1 ∷ hard 1 5 7 5 2 ∷ work 1 ∷ hard 2 1 7 3 1 ∷ work 1 ∷ hard 4 3 12 2 2 ∷ work n ∷ []

abbrev pub fifth : Arrival
fifth = arrival 0 5 3 3 10 2

abbrev pub WholeTimeIsNotFreed : Type 0
WholeTimeIsNotFreed =
    let s = after plain start (calls_5 2) in
    let v = first_ready s.ready (job_of s fifth) in
    (v.computation ≡ 5) × (v.remaining ≡ 1) × (excess_with s fifth ≡ 2) × (makes_room s fifth v ≡ false)

abbrev pub EqualitySuffices : Type 0
EqualitySuffices =
    let s = after plain start (calls_5 1) in
    let v = first_ready s.ready (job_of s fifth) in
    (v.remaining ≡ 2) × (excess_with s fifth ≡ 2) × (makes_room s fifth v ≡ true)

-- The least valued job with more to do than the excess, at or before the cause, need not make room. In run 6 that is 22, and without it 21 still exceeds.
abbrev pub ShortTestFails : Type 0
ShortTestFails =
    let s = after plain start (hard 21 4 6 9 0 ∷ hard 22 6 11 1 0 ∷ []) in
    let j = arrival 0 23 3 5 10 0 in
    let v = job_of start (arrival 0 22 6 11 1 0) in
    (excess_with s j ≡ 2) × (cause 0 (place plain (job_of s j) s.ready) ≡ 22) × (makes_room s j v ≡ false)

-- Saved time may not be compared with the excess that a parked job was answered. In run 1, 10 is parked for an excess of 2; 14 arrives and is ready;
-- to finish 14 saves 2, and 10 still does not fit.
abbrev pub OldExcessMisleads : Type 0
OldExcessMisleads =
    let calls = hard 14 2 2 5 0 ∷ finish 14 ∷ [] in
    (answers_of plain after_1 calls ≡ (ready 0 0 0 ∷ saved 2 ∷ [])) × (numbers (after plain after_1 calls).parked ≡ (10 ∷ []))

abbrev pub FailedReadings : Type 0
FailedReadings = WholeTimeIsNotFreed × EqualitySuffices × ShortTestFails × OldExcessMisleads
