-- The records of the code as those of the definitions.
use Rattle.std.specs.Prelude.{ℕ, List, [], ◌++◌, Some, None, Ok, Err, Option, Result}
use Rattle.jobs.specs.declared.job.Job.{Job}
use Rattle.rankings.specs.declared.orders.ByDeadline.{ByDeadline}
use Rattle.rankings.specs.declared.policies.ByValue.{ByValue}
use Rattle.stores.specs.Tables.{listed}
use Rattle.stores.specs.declared.table.RecordTable.{RecordTable}
use Rattle.rules.specs.Promise.{Reached}
use Rattle.rules.specs.Runs.{Moment}
use Rattle.rules.specs.States.{State}
use Rattle.rules.specs.Worked.{plain}
use Rattle.scheduler.specs.Keeping.{view}
use Rattle.scheduler.specs.Written.{answer_text}
use Rattle.scheduler.specs.declared.scheduler.Scheduler.{Scheduler}
use Rattle.words.specs.Faults.{fault_in, fault_text}
use Rattle.words.specs.Readers.{piece}
use Rattle.words.specs.Texts.{newline}
use Rattle.words.specs.declared.fault.WordFault.{WordFault}
use Rattle.lines.specs.declared.request.ArrivalWords.{ArrivalWords}
use Rattle.lines.specs.declared.request.CallWords.{CallWords}
use Rattle.lines.specs.declared.request.CallWords.TheVariants.{Arrive, Work, Finish, Withdraw, Collect}
use Rattle.lines.specs.declared.request.Request.{Request as Requested}
use Rattle.lines.specs.declared.request.Request.TheVariants.{Call, Profile}
use Rattle.lines.specs.declared.session.Response.{Response}
use Rattle.lines.specs.declared.session.Response.TheVariants.{Answer as Answered, Profile as Profiled}
use Rattle.lines.specs.Answers.{profile_text}
use Rattle.lines.specs.Requests.{Arriving, Asking, arriving as is_arriving, working, finishing, withdrawing, collecting, Request, calling, profiling}

-- REQUESTS: the class is a part of the input there, and bytes with a place here

abbrev pub arriving : ArrivalWords → Arriving
arriving a =
    record { number = a.number; class = piece a.class; computation = a.computation; deadline_in = a.deadline_in; worth = a.worth }

abbrev pub asking : CallWords → Asking
asking (Arrive a) = is_arriving (arriving a)
asking (Work n) = working n
asking (Finish n) = finishing n
asking (Withdraw n) = withdrawing n
asking Collect = collecting

abbrev pub requested : Requested → Request
requested (Call q) = calling (asking q)
requested Profile = profiling

-- THE SCHEDULER

abbrev pub seen : Scheduler (RecordTable Job) ByDeadline ByValue → State
seen s = view listed s

-- calls on a new scheduler lead to the state
abbrev pub IsReached : State → Type 0
IsReached s = (ms : List Moment) × Reached plain s ms

-- ANSWERS

-- what is printed for an answer to the line of number n, the state being s now
abbrev pub response_text : ℕ → State → Result (Option Response) WordFault → List ℕ
response_text n s (Ok None) = []
response_text n s (Ok (Some (Answered x))) = answer_text x ++ newline
response_text n s (Ok (Some Profiled)) = profile_text s
response_text n s (Err f) = fault_text (fault_in n f) ++ newline
