use Rattle.std.proofs.Common.{ℕ, List, refl, sym, ap, subst, ◌∙◌, append-nil, ◌++◌}
use Rattle.std.specs.Prelude.{IsSome}
use Rattle.std.specs.List.{All}
use Rattle.std.proofs.lemmas.List.Elements.{All-nil}
use Rattle.pl_model.specs.History.{erase}
use Rattle.pl_model.specs.Requests as requests
use Rattle.pl_model.specs.Requests.{Request}
use Rattle.pl_history.specs.Fronts.{FrontState}
use Rattle.atom_words.specs.Seats.{seen}
use Rattle.atom_words.specs.declared.view.Refusal.{Refusal}
use Rattle.atom_table.specs.Naming.{names}
use Rattle.world_api.specs.Texts.{text_of}
use Rattle.world_api.specs.declared.visit.Visit.TheVariants.{CollectAtoms, CollectClauses}
use Rattle.hub_database.specs.Rows.{Tells}
use Rattle.pl_hub.specs.State.{IsShared}
use Rattle.pl_hub.proofs.ClauseRows.{told_after, told_visit}
use Rattle.pl_hub.proofs.States.{told_can}
use Rattle.pl_hub.proofs.Visiting.{any_reply}
use Rattle.pl_hub.proofs.shared.Shared.collection.Goals as goal

pub settle-requires-clause-can : goal.settle-requires-clause-can
settle-requires-clause-can g c =
    told_can g.K.Naming.goals c.args.engine (text_of (names (seen c.args.atoms.now.seat))) requests.collect_atoms c.self.inside.front.seen (erase 0) c.collection-row.result
    (c.collection-row.ensures.atoms g.K.Naming.goals c.args.engine c.self.inside.front.seen (text_of (names (seen c.args.atoms.now.seat))))

pub invariant_of-self : goal.invariant_of-self
invariant_of-self g c =
    subst (λ (x : FrontState). IsShared g.K.NamesTable.atoms g.K.NamesTable.size g.K.Naming.history g.K.Naming.goals x c.self.inside.keeper c.self.inside.db c.self.inside.queues c.self.inside.count c.self.inside.begun.items)
    (sym (c.settle.ensures.hub ∙ told_after g.K.Naming.goals c.args.engine (text_of (names (seen c.args.atoms.now.seat))) requests.collect_atoms c.self.inside.front.seen (erase 0) c.collection-row.result c.self.inside.front
    (c.collection-row.ensures.atoms g.K.Naming.goals c.args.engine c.self.inside.front.seen (text_of (names (seen c.args.atoms.now.seat))))))
    c.self.invariant

pub returns-clause-atoms : goal.returns-clause-atoms
returns-clause-atoms g c =
    let v = seen c.args.atoms.now.seat in
    let f = c.self.inside.front in
    let says = (c.collection-row.ensures.atoms g.K.Naming.goals c.args.engine c.self.inside.front.seen (text_of (names (seen c.args.atoms.now.seat)))) in
    told_visit g.K.Naming.goals c.args.engine (erase 0) f c.args.self.now c.self.view_is v v CollectAtoms c.collection-row.result
    g.K.Naming.history (λ r n old before new x. x) (any_reply CollectAtoms (λ r. tt) c.collection-row.result) requests.collect_atoms says (λ q asks. subst (λ (z : Request). Tells g.K.Naming.goals c.args.engine (text_of (names v)) z f.seen c.collection-row.result) (sym asks) says)
    c.args.front.now c.requires.front c.settle.result c.settle.new.front c.settle.new.hub c.settle.ensures.answer c.settle.ensures.front c.settle.ensures.hub
    c.settle.ensures.sees (subst (λ (l : List ℕ). All (λ x. IsSome (names v x)) l) (sym c.collection-row.ensures.named) (All-nil (λ x. IsSome (names v x))))
    (λ a t e. e) (sym (append-nil v.refusals) ∙ ap (λ (l : List Refusal). v.refusals ++ l) (sym c.collection-row.ensures.unrefused)) refl

pub returns-clause-clauses : goal.returns-clause-clauses
returns-clause-clauses g c =
    let v = seen c.args.atoms.now.seat in
    let f = c.self.inside.front in
    let says = (c.collection-row.ensures.clauses g.K.Naming.goals c.args.engine c.self.inside.front.seen (text_of (names (seen c.args.atoms.now.seat)))) in
    told_visit g.K.Naming.goals c.args.engine (erase 0) f c.args.self.now c.self.view_is v v CollectClauses c.collection-row.result
    g.K.Naming.history (λ r n old before new x. x) (any_reply CollectClauses (λ r. tt) c.collection-row.result) requests.collect_clauses says (λ q asks. subst (λ (z : Request). Tells g.K.Naming.goals c.args.engine (text_of (names v)) z f.seen c.collection-row.result) (sym asks) says)
    c.args.front.now c.requires.front c.settle.result c.settle.new.front c.settle.new.hub c.settle.ensures.answer c.settle.ensures.front c.settle.ensures.hub
    c.settle.ensures.sees (subst (λ (l : List ℕ). All (λ x. IsSome (names v x)) l) (sym c.collection-row.ensures.named) (All-nil (λ x. IsSome (names v x))))
    (λ a t e. e) (sym (append-nil v.refusals) ∙ ap (λ (l : List Refusal). v.refusals ++ l) (sym c.collection-row.ensures.unrefused)) refl
