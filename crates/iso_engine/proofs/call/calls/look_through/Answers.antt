use Rattle.std.proofs.Common.{sym, ◌∙◌}
use Rattle.iso_engine.proofs.call.calls.look_through.Goals as goal

pub request_at-request-requires-clause-callable : goal.request_at-request-requires-clause-callable
request_at-request-requires-clause-callable g c i is = c.requires.callable i (sym c.listed_at-listed.ensures.stands ∙ is)
