use Rattle.std.proofs.Common.{sym, subst, ◌∙◌}
use Rattle.pl_history.specs.Fronts.{FrontState}
use Rattle.pl_model.specs.History.{erase}
use Rattle.pl_model.specs.Requests as requests
use Rattle.pl_model.specs.Requests.{Request}
use Rattle.atom_words.specs.Seats.{seen}
use Rattle.atom_table.specs.Naming.{names, requests as texts}
use Rattle.world_api.specs.Texts.{text_of}
use Rattle.world_api.specs.declared.visit.Visit.TheVariants.{AllOperators}
use Rattle.counted_terms.specs.Keeping.{keeper_view}
use Rattle.pl_hub.specs.Fronts.{IsOwn}
use Rattle.pl_hub.specs.Settling.{IsBehind}
use Rattle.pl_hub.specs.State.{IsShared}
use Rattle.pl_hub.specs.Visits.{IsVisit}
use Rattle.hub_database.specs.Database.{IsDatabase}
use Rattle.hub_database.specs.Rows.{Tells}
use Rattle.pl_hub.proofs.AskedTexts.{operators_asked}
use Rattle.pl_hub.proofs.ClauseRows.{told_after, told_visit_asking}
use Rattle.pl_hub.proofs.States.{told_can}
use Rattle.pl_hub.proofs.shared.Shared.all_operators.Goals as goal

pub settle-requires-clause-can : goal.settle-requires-clause-can
settle-requires-clause-can g c = told_can g.K.Naming.goals c.args.engine (text_of (names (seen c.all_operators-row.new.atoms.seat))) requests.read_operators c.tell.new.hub.seen (erase 0) c.all_operators-row.result
    (c.all_operators-row.ensures.says (keeper_view c.self.inside.keeper) g.K.Naming.goals c.args.engine c.tell.new.hub.seen (subst (λ (x : FrontState). IsDatabase (keeper_view c.self.inside.keeper) c.self.inside.db g.K.Naming.goals x.seen) (sym c.tell.ensures.hub) c.self.invariant.database))

pub invariant_of-self : goal.invariant_of-self
invariant_of-self g c =
    subst (λ (x : FrontState). IsShared g.K.NamesTable.atoms g.K.NamesTable.size g.K.Naming.history g.K.Naming.goals x c.self.inside.keeper c.self.inside.db c.self.inside.queues c.self.inside.count c.self.inside.begun.items)
    (sym (c.settle.ensures.hub ∙ told_after g.K.Naming.goals c.args.engine (text_of (names (seen c.all_operators-row.new.atoms.seat))) requests.read_operators c.tell.new.hub.seen (erase 0) c.all_operators-row.result c.tell.new.hub (c.all_operators-row.ensures.says (keeper_view c.self.inside.keeper) g.K.Naming.goals c.args.engine c.tell.new.hub.seen (subst (λ (x : FrontState). IsDatabase (keeper_view c.self.inside.keeper) c.self.inside.db g.K.Naming.goals x.seen) (sym c.tell.ensures.hub) c.self.invariant.database)) ∙ c.tell.ensures.hub))
    c.self.invariant

pub returns : goal.returns
returns g c =
    let f = c.tell.new.hub in
    let m = c.tell.new.front in
    let v = seen c.args.atoms.now.seat in
    let w = seen c.all_operators-row.new.atoms.seat in
    let k = keeper_view c.self.inside.keeper in
    let own : IsOwn g.K.Naming.history c.args.engine m = subst (IsOwn g.K.Naming.history c.args.engine) (sym c.tell.ensures.front) c.requires.front in
    let behind : IsBehind f.seen m =
    subst (λ (x : FrontState). IsBehind x.seen m) (sym c.tell.ensures.hub)
    (subst (λ (y : FrontState). IsBehind c.self.inside.front.seen y) (sym c.tell.ensures.front) (record { seen = c.tell.ensures.seen; told = c.tell.ensures.told })) in
    let is_database = subst (λ (x : FrontState). IsDatabase k c.self.inside.db g.K.Naming.goals x.seen) (sym c.tell.ensures.hub) c.self.invariant.database in
    let says = c.all_operators-row.ensures.says k g.K.Naming.goals c.args.engine f.seen is_database in
    subst (λ (x : FrontState). IsVisit g.K.Naming.history g.K.Naming.goals c.args.engine v w AllOperators c.settle.result x c.settle.new.front c.args.self.now c.settle.new.hub) c.tell.ensures.front
    (told_visit_asking g.K.Naming.goals c.args.engine (erase 0) f c.args.self.now (c.tell.ensures.hub ∙ c.self.view_is) v w AllOperators c.all_operators-row.result
    g.K.Naming.history (λ r n old before new x. x) c.all_operators-row.ensures.told requests.read_operators says (λ q asks. subst (λ (z : Request). Tells g.K.Naming.goals c.args.engine (text_of (names w)) z f.seen c.all_operators-row.result) (sym asks) says)
    m own c.settle.result c.settle.new.front c.settle.new.hub c.settle.ensures.answer c.settle.ensures.front c.settle.ensures.hub
    c.settle.ensures.sees c.all_operators-row.ensures.named c.all_operators-row.ensures.holds c.all_operators-row.ensures.refusals
    (operators_asked g.K.Naming.history g.K.Naming.goals c.args.engine m own f.seen behind (text_of (names v)) k c.self.inside.db is_database (texts v) (texts w) c.all_operators-row.ensures.asked))
