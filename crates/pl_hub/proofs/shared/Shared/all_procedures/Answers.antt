use Rattle.std.proofs.Common.{length, sym, ap, subst, ◌≡◌, ◌∙◌}
use Rattle.pl_history.specs.Fronts.{FrontState}
use Rattle.pl_model.specs.History.{erase}
use Rattle.pl_model.specs.Requests as requests
use Rattle.pl_model.specs.Requests.{Request}
use Rattle.atom_words.specs.Seats.{seen}
use Rattle.atom_table.specs.Naming.{names, requests as texts}
use Rattle.world_api.specs.Texts.{text_of}
use Rattle.world_api.specs.declared.visit.Visit.TheVariants.{AllProcedures}
use Rattle.counted_terms.specs.Keeping.{keeper_view}
use Rattle.pl_hub.specs.Fronts.{IsOwn}
use Rattle.pl_hub.specs.Settling.{IsBehind}
use Rattle.pl_hub.specs.State.{IsShared}
use Rattle.pl_hub.specs.Visits.{IsVisit}
use Rattle.hub_database.specs.Database.{IsDatabase}
use Rattle.hub_database.specs.Rows.{Tells}
use Rattle.pl_hub.proofs.AskedTexts.{listed_asked}
use Rattle.pl_hub.proofs.ClauseRows.{told_after, told_visit_asking}
use Rattle.pl_hub.proofs.States.{told_can}
use Rattle.pl_hub.proofs.Visiting.{any_reply}
use Rattle.pl_hub.proofs.shared.Shared.all_procedures.Goals as goal

pub settle-requires-clause-can : goal.settle-requires-clause-can
settle-requires-clause-can g c = told_can g.K.Naming.goals c.args.engine (text_of (names (seen c.all_procedures-row.new.atoms.seat))) requests.all_procedures c.tell-generation.new.hub.seen (erase 0) c.all_procedures-row.result
    (c.all_procedures-row.ensures.says (keeper_view c.self.inside.keeper) g.K.Naming.goals c.args.engine c.tell-generation.new.hub.seen (ap (λ (x : FrontState). length x.seen) c.tell-generation.ensures.hub ∙ sym c.tell-generation.ensures.generation) (subst (λ (x : FrontState). IsDatabase (keeper_view c.self.inside.keeper) c.self.inside.db g.K.Naming.goals x.seen) (sym c.tell-generation.ensures.hub) c.self.invariant.database))

pub invariant_of-self : goal.invariant_of-self
invariant_of-self g c =
    subst (λ (x : FrontState). IsShared g.K.NamesTable.atoms g.K.NamesTable.size g.K.Naming.history g.K.Naming.goals x c.self.inside.keeper c.self.inside.db c.self.inside.queues c.self.inside.count c.self.inside.begun.items)
    (sym (c.settle.ensures.hub ∙ told_after g.K.Naming.goals c.args.engine (text_of (names (seen c.all_procedures-row.new.atoms.seat))) requests.all_procedures c.tell-generation.new.hub.seen (erase 0) c.all_procedures-row.result c.tell-generation.new.hub (c.all_procedures-row.ensures.says (keeper_view c.self.inside.keeper) g.K.Naming.goals c.args.engine c.tell-generation.new.hub.seen (ap (λ (x : FrontState). length x.seen) c.tell-generation.ensures.hub ∙ sym c.tell-generation.ensures.generation) (subst (λ (x : FrontState). IsDatabase (keeper_view c.self.inside.keeper) c.self.inside.db g.K.Naming.goals x.seen) (sym c.tell-generation.ensures.hub) c.self.invariant.database)) ∙ c.tell-generation.ensures.hub))
    c.self.invariant

pub returns : goal.returns
returns g c =
    let f = c.tell-generation.new.hub in
    let m = c.tell-generation.new.front in
    let v = seen c.args.atoms.now.seat in
    let w = seen c.all_procedures-row.new.atoms.seat in
    let k = keeper_view c.self.inside.keeper in
    let own : IsOwn g.K.Naming.history c.args.engine m = subst (IsOwn g.K.Naming.history c.args.engine) (sym c.tell-generation.ensures.front) c.requires.front in
    let behind : IsBehind f.seen m =
    subst (λ (x : FrontState). IsBehind x.seen m) (sym c.tell-generation.ensures.hub)
    (subst (λ (y : FrontState). IsBehind c.self.inside.front.seen y) (sym c.tell-generation.ensures.front) (record { seen = c.tell-generation.ensures.seen; told = c.tell-generation.ensures.told })) in
    let long : length f.seen ≡ c.tell-generation.result = ap (λ (x : FrontState). length x.seen) c.tell-generation.ensures.hub ∙ sym c.tell-generation.ensures.generation in
    let is_database = subst (λ (x : FrontState). IsDatabase k c.self.inside.db g.K.Naming.goals x.seen) (sym c.tell-generation.ensures.hub) c.self.invariant.database in
    let says = c.all_procedures-row.ensures.says k g.K.Naming.goals c.args.engine f.seen long is_database in
    subst (λ (x : FrontState). IsVisit g.K.Naming.history g.K.Naming.goals c.args.engine v w AllProcedures c.settle.result x c.settle.new.front c.args.self.now c.settle.new.hub) c.tell-generation.ensures.front
    (told_visit_asking g.K.Naming.goals c.args.engine (erase 0) f c.args.self.now (c.tell-generation.ensures.hub ∙ c.self.view_is) v w AllProcedures c.all_procedures-row.result
    g.K.Naming.history (λ r n old before new x. x) (any_reply AllProcedures (λ r. tt) c.all_procedures-row.result) requests.all_procedures says (λ q asks. subst (λ (z : Request). Tells g.K.Naming.goals c.args.engine (text_of (names w)) z f.seen c.all_procedures-row.result) (sym asks) says)
    m own c.settle.result c.settle.new.front c.settle.new.hub c.settle.ensures.answer c.settle.ensures.front c.settle.ensures.hub
    c.settle.ensures.sees c.all_procedures-row.ensures.named c.all_procedures-row.ensures.holds c.all_procedures-row.ensures.refusals
    (listed_asked g.K.Naming.history g.K.Naming.goals c.args.engine m own f.seen behind (text_of (names v)) c.tell-generation.result long (texts v) (texts w) (c.all_procedures-row.ensures.asked k g.K.Naming.goals f.seen is_database)))
