use Rattle.std.proofs.Common.{Err, ap, ◌∙◌}
use Rattle.lines.specs.Forms.{asking}
use Rattle.lines.proofs.Serving.{Told, served_state, served_value, served_same}
use Rattle.lines.proofs.session.Session.serve_call.Goals as goal
use Rattle.lines.proofs.session.Session.serve_call.Goals.{in-Ok, in-Err}

pub invariant_of-self : goal.invariant_of-self
invariant_of-self c = let by = c.self.invariant in (_, c.call-2.ensures.serves.reached by.0 by.1)

told : (c : goal.Joined-call) → Told (asking c.args.words.now) c.call-2.result c.match-call.result
told c = elim c.match-call.branch [ in-Ok w ↦ rw w.in-Ok.is w.result-is | in-Err w ↦ rw w.in-Err.is (w.result-is ∙ ap Err w.fault.ensures) ]

pub returns-clause-value : goal.returns-clause-value
returns-clause-value c = served_value (asking c.args.words.now) _ _ _ _ c.self.view_is c.call.ensures c.self.invariant c.call-2.result c.match-call.result c.call-2.ensures.serves (told c)

pub returns-clause-state : goal.returns-clause-state
returns-clause-state c = served_state (asking c.args.words.now) _ _ _ _ c.self.view_is c.call.ensures c.self.invariant c.call-2.result c.call-2.ensures.serves

pub returns-clause-same : goal.returns-clause-same
returns-clause-same c = served_same (asking c.args.words.now) _ _ _ _ c.self.view_is c.call.ensures c.self.invariant c.call-2.result c.match-call.result c.call-2.ensures.serves (told c)
