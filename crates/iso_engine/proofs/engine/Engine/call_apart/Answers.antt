use Rattle.iso_engine.proofs.engine.Engine.call_apart.Goals as goal

pub request_at-request-requires-clause-callable : goal.request_at-request-requires-clause-callable
request_at-request-requires-clause-callable g c i is = c.requires.calls.callable (i, is)
