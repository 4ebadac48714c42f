use Rattle.std.proofs.Common.{ℕ, List, [], sym, subst, ◌∙◌}
use Rattle.atom_words.specs.Seats.{seen}
use Rattle.atom_table.specs.Naming.{names}
use Rattle.atom_api.specs.Names.{Names}
use Rattle.term_store.specs.Live.{Gathers}
use Rattle.script_api.specs.Residents.{CanHold}
use Rattle.pl_sched.specs.Homes.{mark_names}
use Rattle.pl_sched.proofs.KeptLaws.{home_kept, kept_after}
use Rattle.pl_sched.proofs.home.Home.acknowledge.Goals as goal

pub invariant_of-self : goal.invariant_of-self
invariant_of-self g c =
    let s = c.self.inside in
    let a = s.atoms in
    let b = c.acknowledge.new.self in
    let m : Names = names (seen a.seat) in
    let n : Names = names (seen b.seat) in
    let can : CanHold m = record { fixed = a.lawful.stand; unlike = a.lawful.unlike; finite = a.lawful.finite } in
    let still : CanHold n = record { fixed = b.lawful.stand; unlike = b.lawful.unlike; finite = b.lawful.finite } in
    let first : Gathers (g.E.Roots.names s.engine) [] c.live_in.new.live =
    subst (λ (l : List ℕ). Gathers (g.E.Roots.names s.engine) l c.live_in.new.live) c.new-live.ensures c.in_ok-live_in.ensures in
    let listed : Gathers (mark_names s.mark) c.live_in.new.live c.as_slice.result.now =
    subst (λ (l : List ℕ). Gathers (mark_names s.mark) c.live_in.new.live l) (sym (c.as_slice.ensures.value ∙ c.into_atoms-live.ensures)) c.in_ok-name_awaited.ensures in
    let k = kept_after (g.E.Roots.names s.engine) (mark_names s.mark) c.as_slice.result.now m n c.acknowledge.result c.acknowledge.ensures.names can still c.live_in.new.live first listed in (
      home_kept g.E.Resident.stands g.E.Resident.ready g.E.Resident.moves g.K.Command.program g.E.Resident.over g.E.Roots.names g.met.E.Roots.kept g.K.Naming.history g.K.Naming.goals s.number s.mark m n s.front s.engine k.0 k.1 c.self.invariant.0,
      c.self.invariant.1,
    )
