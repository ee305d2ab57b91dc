-- The parked jobs that can no longer make their limits end, job by job.
use Rattle.std.proofs.Common.{◌≡◌, ℕ, ◌+◌, ◌<◌, ◌≤◌, Bool, true, false, cond, not, List, [], ◌∷◌, map, length, filter, Ok, Err, Result, inl, inr, sym, ap, ◌∙◌, arith}
use Rattle.std.proofs.lemmas.Bool.{cond-true, cond-false, cond_both}
use Rattle.jobs.specs.declared.ending.EndKind.TheVariants.{Missed}
use Rattle.jobs.specs.declared.ending.Ending.{Ending}
use Rattle.jobs.specs.declared.job.Job.{Job}
use Rattle.jobs.specs.declared.refusal.Refusal.{Refusal}
use Rattle.rankings.specs.Ranked.{insert}
use Rattle.rules.proofs.Lengths.{length_insert}
use Rattle.rules.specs.Calls.{ends, late}
use Rattle.rules.specs.Lists.{insert_all}
use Rattle.rules.specs.States.{State, ended_order}
use Rattle.admission.specs.Retaining.{Retains}
use Rattle.admission.specs.Steps.{state, ExpiresOne, Expires}
use Rattle.admission.proofs.Answered.{not_false, not_true}

module _ (t : ℕ) where
  abbrev pub One : Unit {0} → List Ending → Job → Result Bool Refusal → Unit {0} → List Ending → Type 0
  One _ es j r _ es' = ExpiresOne t j es es' r

  -- the jobs that still can, and the endings with the lines of those that cannot
  abbrev lasting : List Job → List Job
  lasting ps = filter (λ j. not (late t j)) ps

  abbrev missed : List Job → List Ending → List Ending
  missed ps es = insert_all ended_order (map (ends t Missed) (filter (late t) ps)) es

  stay : (b : Bool) (j : Job) (ps zs : List Job) → b ≡ not (late t j) → lasting ps ≡ zs → lasting (j ∷ ps) ≡ cond b (j ∷ zs) zs
  stay b j ps zs is h = ap (λ b. cond b (j ∷ lasting ps) (lasting ps)) (sym is) ∙ ap (λ l. cond b (j ∷ l) l) h

  go : (b : Bool) (j : Job) (ps : List Job) (es is es' : List Ending) → b ≡ not (late t j) → is ≡ cond b es (insert ended_order (ends t Missed j) es) → missed ps is ≡ es' → missed (j ∷ ps) es ≡ es'
  go true j ps es is es' stays put h = ap (λ l. insert_all ended_order (map (ends t Missed) l) es) (cond-false _ _ _ (not_false _ stays)) ∙ ap (missed ps) (sym put) ∙ h
  go false j ps es is es' stays put h = ap (λ l. insert_all ended_order (map (ends t Missed) l) es) (cond-true _ _ _ (not_true _ stays)) ∙ ap (missed ps) (sym put) ∙ h

  longer : (b : Bool) (x : Ending) (es : List Ending) → length (cond b es (insert ended_order x es)) ≤ length es + 1
  longer b x es = let h = length_insert ended_order x es in cond_both b es (insert ended_order x es) (λ l. length l ≤ length es + 1) (λ _. omega arith) (λ _. omega arith)

  -- what stays and what goes, or that there was no room
  abbrev Done : List Job → List Ending → List Job → List Ending → Result (Unit {0}) Refusal → Type 0
  Done ps es ps' es' (Ok _) = (lasting ps ≡ ps') × (missed ps es ≡ es')
  Done ps es ps' es' (Err e) = 64 < length ps + length es

  done : (es : List Ending) (ps ps' : List Job) (es' : List Ending) (r : Result (Unit {0}) Refusal) → Retains One tt es ps ps' es' r → Done ps es ps' es' r
  done es [] ps' es' (Ok _) h = (sym h.0, sym h.1)
  done es (j ∷ ps) ps' es' (Ok u) h =
      let rest = done h.2 ps h.3 es' (Ok u) h.5 in
      (stay h.0 j ps h.3 h.4.0 rest.0 ∙ sym h.6, go h.0 j ps es h.2 es' h.4.0 h.4.1 rest.1)
  done es [] ps' es' (Err e) h = absurd h
  done es (j ∷ ps) ps' es' (Err e) h =
      elim h [
        | inl w ↦ omega (arith, w.1)
        | inr w ↦ let more = done w.2 ps w.3 es' (Err e) w.5 in omega (arith, ap length w.4.1, longer w.0 (ends t Missed j) es)
      ]

pub expired_in_turn : (s : State) (ps' : List Job) (es' : List Ending) (r : Result (Unit {0}) Refusal) → Retains (One s.clock) tt s.ended s.parked ps' es' r → Expires r s (state s.clock s.ready ps' es')
expired_in_turn s ps' es' (Ok u) h = let d = done s.clock s.ended s.parked ps' es' (Ok u) h in λ k. state s.clock s.ready (d.0 k) (d.1 k)
expired_in_turn s ps' es' (Err e) h = done s.clock s.ended s.parked ps' es' (Err e) h
