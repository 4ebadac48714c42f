use Rattle.std.proofs.Common.{sym, ◌∙◌}
use Rattle.hub_threads.specs.Held.{is_named}
use Rattle.hub_threads.proofs.Searched.{none_out}
use Rattle.hub_threads.proofs.Located.{located_out}
use Rattle.hub_threads.proofs.held.aliases.take_alias.Goals as goal

pub returns-in-None : goal.returns-in-None
returns-in-None c = rw (sym c.as_slice.ensures.value) (sym (none_out (is_named c.args.n) c.as_slice.result.now c.in-None.ensures))

pub returns-in-Some : goal.returns-in-Some
returns-in-Some c =
    c.remove.ensures.items
    ∙ rw (sym c.as_slice.ensures.value)
    (located_out (λ x. x.1) c.args.n c.as_slice.result.now c.in-Some.i c.in-Some.ensures (rw c.as_slice.ensures.value c.requires))
