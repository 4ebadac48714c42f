use Rattle.std.proofs.Common.{ℕ, sym, subst}
use Rattle.atom_words.specs.Seats.{seen}
use Rattle.atom_table.specs.Naming.{names}
use Rattle.atom_api.specs.Names.{Names}
use Rattle.script_api.specs.Residents.{CanHold}
use Rattle.pl_hub.specs.Fronts.{told_of}
use Rattle.pl_sched.proofs.EndLaws.{EndsHere, ends_still, home_ended}
use Rattle.pl_sched.proofs.OnlyLaws.{job_begun}
use Rattle.pl_sched.specs.declared.mark.End.{End}
use Rattle.pl_sched.specs.declared.mark.Mark.TheVariants.{Ended}
use Rattle.pl_sched.specs.Homes.{IsAtHome}
use Rattle.pl_sched.specs.Ledger.{IsBegun}
use Rattle.pl_sched.proofs.ends.end.Goals as goal

pub end-requires-clause-begun : goal.end-requires-clause-begun
end-requires-clause-begun g c =
    let way = c.requires.ended.0 in
    subst (λ (n : ℕ). IsBegun c.args.front.seen n) c.requires.own.engine (job_begun g.K.Command.program (told_of g.K.Naming.goals c.args.front).engine c.args.front.seen way.job way.low way.is_job)

pub new-requires-clause-home : goal.new-requires-clause-home
new-requires-clause-home g c =
    let a = c.status_of.new.atoms in
    let m = names (seen a.seat) in
    let st = c.in_ok-standing in
    let end : End = record { how = c.args.how; operators = st.standing.0; quotes = st.standing.1 } in
    let can : CanHold m = record { fixed = a.lawful.stand; unlike = a.lawful.unlike; finite = a.lawful.finite } in
    let here : EndsHere g.E.Resident.stands g.E.Resident.ready g.E.Resident.moves g.K.Command.program m (told_of g.K.Naming.goals c.args.front) c.args.engine c.args.how =
    ends_still g.E.Resident.stands g.E.Resident.ready g.E.Resident.moves g.K.Command.program g.met.E.Resident.later (names (seen c.args.atoms.seat)) m (told_of g.K.Naming.goals c.args.front) c.args.engine c.args.how c.status_of.ensures.holds can
    c.requires.ended in
    subst (λ (n : Names). IsAtHome g.E.Resident.stands g.E.Resident.ready g.E.Resident.moves g.K.Command.program g.E.Resident.over g.K.Naming.history g.K.Naming.goals c.args.number (Ended end) n c.end.new.front c.args.engine) (sym c.end.ensures.held)
    (home_ended g.E.Resident.stands g.E.Resident.ready g.E.Resident.moves g.K.Command.program g.E.Resident.over g.K.Naming.history g.K.Naming.goals c.args.number m c.args.front c.end.new.front _ _ c.args.engine end
    c.move_count.result c.move_count.ensures c.requires.own here c.in_ok-end.ensures.ended (record { operators = st.ensures.operators; quotes_are = st.ensures.quotes }))
