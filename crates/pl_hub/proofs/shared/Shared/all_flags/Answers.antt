use Rattle.std.proofs.Common.{List, refl, sym, ap, subst, ◌∙◌, append-nil, ◌++◌}
use Rattle.pl_model.specs.History.{erase}
use Rattle.pl_model.specs.Requests as requests
use Rattle.pl_model.specs.Requests.{Request}
use Rattle.pl_history.specs.Fronts.{FrontState}
use Rattle.atom_words.specs.Seats.{seen}
use Rattle.atom_words.specs.declared.view.Refusal.{Refusal}
use Rattle.atom_table.specs.Naming.{names}
use Rattle.world_api.specs.Texts.{text_of}
use Rattle.world_api.specs.declared.visit.Visit.TheVariants.{AllFlags}
use Rattle.counted_terms.specs.Keeping.{keeper_view}
use Rattle.hub_database.specs.Rows.{Tells}
use Rattle.pl_hub.specs.State.{IsShared}
use Rattle.pl_hub.proofs.ClauseRows.{told_after, told_visit}
use Rattle.pl_hub.proofs.States.{told_can}
use Rattle.pl_hub.proofs.Visiting.{any_reply}
use Rattle.pl_hub.proofs.shared.Shared.all_flags.Goals as goal

pub settle-requires-clause-can : goal.settle-requires-clause-can
settle-requires-clause-can g c =
    told_can g.K.Naming.goals c.args.engine (text_of (names (seen c.args.atoms.now.seat))) requests.all_flags c.self.inside.front.seen (erase 0) c.all_flags-row.result
    (c.all_flags-row.ensures.says (keeper_view c.self.inside.keeper) g.K.Naming.goals c.args.engine c.self.inside.front.seen c.self.invariant.database)

pub invariant_of-self : goal.invariant_of-self
invariant_of-self g c =
    subst (λ (x : FrontState). IsShared g.K.NamesTable.atoms g.K.NamesTable.size g.K.Naming.history g.K.Naming.goals x c.self.inside.keeper c.self.inside.db c.self.inside.queues c.self.inside.count c.self.inside.begun.items)
    (sym (c.settle.ensures.hub ∙ told_after g.K.Naming.goals c.args.engine (text_of (names (seen c.args.atoms.now.seat))) requests.all_flags c.self.inside.front.seen (erase 0) c.all_flags-row.result c.self.inside.front
    (c.all_flags-row.ensures.says (keeper_view c.self.inside.keeper) g.K.Naming.goals c.args.engine c.self.inside.front.seen c.self.invariant.database)))
    c.self.invariant

pub returns : goal.returns
returns g c =
    let v = seen c.args.atoms.now.seat in
    let f = c.self.inside.front in
    let says = (c.all_flags-row.ensures.says (keeper_view c.self.inside.keeper) g.K.Naming.goals c.args.engine c.self.inside.front.seen c.self.invariant.database) in
    told_visit g.K.Naming.goals c.args.engine (erase 0) f c.args.self.now c.self.view_is v v AllFlags c.all_flags-row.result
    g.K.Naming.history (λ r n old before new x. x) (any_reply AllFlags (λ r. tt) c.all_flags-row.result) requests.all_flags says (λ q asks. subst (λ (z : Request). Tells g.K.Naming.goals c.args.engine (text_of (names v)) z f.seen c.all_flags-row.result) (sym asks) says)
    c.args.front.now c.requires.front c.settle.result c.settle.new.front c.settle.new.hub c.settle.ensures.answer c.settle.ensures.front c.settle.ensures.hub
    c.settle.ensures.sees c.all_flags-row.ensures.named
    (λ a t e. e) (sym (append-nil v.refusals) ∙ ap (λ (l : List Refusal). v.refusals ++ l) (sym c.all_flags-row.ensures.unrefused)) refl
