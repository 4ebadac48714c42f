use Rattle.std.proofs.Common.{ℕ, List, [], ◌∷◌, ◌++◌, sym, ap, subst, ◌∙◌}
use Rattle.atom_words.specs.Seats.{seen}
use Rattle.atom_table.specs.Naming.{names}
use Rattle.pl_history.specs.Fronts.{FrontState}
use Rattle.pl_sched.specs.Ledger.{AreBegun, AreOnly}
use Rattle.pl_sched.proofs.LedgerLaws.{begun_kept, begun_lent}
use Rattle.pl_sched.proofs.Starting.{new_engine}
use Rattle.pl_sched.proofs.hub.begin.Goals as goal

pub first_turn-requires : goal.first_turn-requires
first_turn-requires g c =
    record { new = λ above. new_engine g.K.Naming.history c.in-Some.begun (names (seen c.begin.new.atoms.seat)) c.front-front.result c.begin.new.front c.args.shared.now c.begin.new.self c.in-Some.ensures.begun above }

pub returns-in-None-clause-begun : goal.returns-in-None-clause-begun
returns-in-None-clause-begun g c =
    begun_kept c.args.started.now.items c.reserve.new.self.items c.args.shared.now c.begin.new.self c.reserve.ensures.items c.in-None.ensures.none.1 c.requires.begun

pub returns-in-None-clause-only : goal.returns-in-None-clause-only
returns-in-None-clause-only g c = subst (λ (f : FrontState). AreOnly f.seen) (sym c.in-None.ensures.none.1) c.requires.only

pub returns-clause-begun : goal.returns-clause-begun
returns-clause-begun g c =
    let b = c.in-Some.ensures.begun in
    let n = c.in-Some.begun.number in
    subst (λ (ns : List ℕ). AreBegun ns c.begin.new.self) (sym (c.push_reserved.ensures.items ∙ ap (λ (l : List ℕ). l ++ n ∷ []) c.reserve.ensures.items))
    (begun_lent c.args.started.now.items n c.args.shared.now c.begin.new.self c.requires.begun b.hub_was (ap (λ (f : FrontState). f.seen) b.same))

pub returns-clause-only : goal.returns-clause-only
returns-clause-only g c = subst AreOnly (sym (ap (λ (f : FrontState). f.seen) c.in-Some.ensures.begun.same)) c.requires.only
