-- What a line asks for, from its bytes on; the call that it makes; and the word that a refusal of the call is about.
--
--   Request                 what a line asks for: a call, or the profile
--   line_in line            what the bytes of a line ask for, or the leftmost fault of a word; nothing where there are no words
--   call_of q               the words q as a call of the rules
--   fault_place q e         the place of the word that the refusal e of that call is about, 1 where it is about none
--   line_calls line         the call that a line makes, if it makes one
use Rattle.std.specs.Prelude.{ℕ, cond, List, [], ◌∷◌, Some, None, Ok, Err, Option, Result}
use Rattle.std.specs.Option.{option_or}
use Rattle.jobs.specs.declared.refusal.Refusal.{Refusal}
use Rattle.jobs.specs.declared.refusal.Refusal.TheVariants.{Range, Class as ClassRule, Horizon, Known, Full, Hopeless, Unknown, Waiting, Nothing, Short}
use Rattle.rules.specs.Calls.{between}
use Rattle.rules.specs.States.{Arrival, Call, arrive, work, finish, withdraw, collect}
use Rattle.words.specs.Bytes.{Piece}
use Rattle.words.specs.Faults.{then}
use Rattle.words.specs.Readers.{Rest, whole, skip, first, first_word, first_number, optional_number, none_left, number_alone}
use Rattle.words.specs.declared.fault.WordFault.{WordFault}
use Rattle.words.specs.declared.words.Number.{Number}
use Rattle.lines.specs.declared.request.Worth.{Worth}
use Rattle.lines.specs.declared.token.Letter.{Letter}
use Rattle.lines.specs.declared.token.Letter.TheVariants.{Arrive, Work, Finish, Withdraw, Collect, Profile}
use Rattle.lines.specs.Tokens.{letter_in, letter_at, class_in}

-- THE WORDS OF A LINE

-- of an arrival, in the order of the line
pub record Arriving : Type 0 where
  pub number : Number
  pub class : Piece
  pub computation : Number
  pub deadline_in : Number
  pub worth : Worth

pub data Asking : Type 0 where
  arriving : Arriving → Asking
  working : Number → Asking
  finishing : Number → Asking
  withdrawing : Number → Asking
  collecting : Asking

pub data Request : Type 0 where
  calling : Asking → Request
  profiling : Request

-- READING: words from left to right, each fault at its word

-- the letter of a line, if it has words
abbrev pub first_letter : Rest → Result (Option Letter) WordFault
first_letter r = elim (first r) [ None ↦ Ok None | Some w ↦ then (letter_at w.place (letter_in w.text)) (λ l. Ok (Some l)) ]

-- VALUE [TOLERANCE], and no word more
abbrev pub worth_in : Rest → Result Worth WordFault
worth_in r =
    then (first_number r) (λ v.
    then (optional_number (skip 1 r)) (λ m.
    then (none_left (skip 2 r)) (λ _.
    Ok (record { value = v; tolerance = m }))))

-- NUMBER CLASS C D VALUE [TOLERANCE], and no word more
abbrev pub arrival_in : Rest → Result Arriving WordFault
arrival_in r =
    then (first_number r) (λ n.
    then (first_word (skip 1 r)) (λ k.
    then (first_number (skip 2 r)) (λ c.
    then (first_number (skip 3 r)) (λ d.
    then (worth_in (skip 4 r)) (λ x.
    Ok (record { number = n; class = k; computation = c; deadline_in = d; worth = x }))))))

-- what a letter asks for, its words being those of r
abbrev pub request_in : Letter → Rest → Result Request WordFault
request_in Arrive r = then (arrival_in r) (λ a. Ok (calling (arriving a)))
request_in Work r = then (number_alone r) (λ n. Ok (calling (working n)))
request_in Finish r = then (number_alone r) (λ n. Ok (calling (finishing n)))
request_in Withdraw r = then (number_alone r) (λ n. Ok (calling (withdrawing n)))
request_in Collect r = then (none_left r) (λ _. Ok (calling collecting))
request_in Profile r = then (none_left r) (λ _. Ok profiling)

abbrev pub asked_by : Option Letter → Rest → Result (Option Request) WordFault
asked_by None r = Ok None
asked_by (Some l) r = then (request_in l r) (λ q. Ok (Some q))

abbrev pub words_in : Rest → Result (Option Request) WordFault
words_in r = then (first_letter r) (λ l. asked_by l (skip 1 r))

abbrev pub line_in : List ℕ → Result (Option Request) WordFault
line_in line = words_in (whole line)

-- THE CALL

abbrev pub tolerance_of : Option Number → ℕ
tolerance_of None = 0
tolerance_of (Some m) = m.value

abbrev pub arrival_of : Arriving → Arrival
arrival_of a =
    record {
      number = a.number.value;
      class = class_in a.class.text;
      computation = a.computation.value;
      deadline_in = a.deadline_in.value;
      tolerance = tolerance_of a.worth.tolerance;
      value = a.worth.value.value;
    }

abbrev pub call_of : Asking → Call
call_of (arriving a) = arrive (arrival_of a)
call_of (working n) = work n.value
call_of (finishing n) = finish n.value
call_of (withdrawing n) = withdraw n.value
call_of collecting = collect

abbrev pub request_calls : Result (Option Request) WordFault → List Call
request_calls (Ok None) = []
request_calls (Ok (Some (calling q))) = call_of q ∷ []
request_calls (Ok (Some profiling)) = []
request_calls (Err f) = []

abbrev pub line_calls : List ℕ → List Call
line_calls line = request_calls (line_in line)

-- THE WORD AT FAULT

-- a number that lies outside its range
abbrev pub outside : ℕ → ℕ → Number → Option Number
outside low high n = cond (between low high n.value) None (Some n)

abbrev pub tolerance_outside : Option Number → Option Number
tolerance_outside None = None
tolerance_outside (Some m) = outside 0 100000000 m

-- the leftmost of them

abbrev pub worth_outside : Worth → Option Number
worth_outside x = option_or (outside 0 65535 x.value) (tolerance_outside x.tolerance)

abbrev pub first_outside : Arriving → Option Number
first_outside a =
    option_or (option_or (option_or
    (outside 1 65535 a.number)
    (outside 1 1000000 a.computation))
    (outside 1 100000000 a.deadline_in))
    (worth_outside a.worth)

abbrev pub call_outside : Asking → Option Number
call_outside (arriving a) = first_outside a
call_outside (working n) = outside 1 10000 n
call_outside (finishing n) = outside 1 65535 n
call_outside (withdrawing n) = outside 1 65535 n
call_outside collecting = None

abbrev pub number_place : Option Number → ℕ
number_place None = 1
number_place (Some n) = n.place

abbrev pub class_place : Asking → ℕ
class_place (arriving a) = a.class.place
class_place (working n) = 1
class_place (finishing n) = 1
class_place (withdrawing n) = 1
class_place collecting = 1

abbrev pub fault_place : Asking → Refusal → ℕ
fault_place q Range = number_place (call_outside q)
fault_place q ClassRule = class_place q
fault_place q Horizon = 1
fault_place q Known = 1
fault_place q Full = 1
fault_place q Hopeless = 1
fault_place q Unknown = 1
fault_place q Waiting = 1
fault_place q Nothing = 1
fault_place q Short = 1
