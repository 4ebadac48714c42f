use Rattle.std.proofs.Common.{refl, sym}
use Rattle.atom_words.specs.Seats.{seen}
use Rattle.atom_table.specs.Naming.{names}
use Rattle.world_api.specs.Texts.{text_of}
use Rattle.pl_model.specs.Predicates.{proc_of}
use Rattle.world_api.specs.Visits.{clause_in}
use Rattle.counted_terms.specs.CountedTerms.{said}
use Rattle.hub_database.specs.Adding.{adding_kind, adding_request}
use Rattle.pl_hub.specs.Adding.{adding_visit}
use Rattle.pl_hub.proofs.Added.{adding_asks, adding_clauses, adding_only, adding_plain, adding_serves, held_by}
use Rattle.counted_terms.specs.Keeping.{keeper_view}
use Rattle.pl_hub.proofs.ClauseRows.{changes_can, changes_shared, changes_visit, clause_counts_of, upto_of}
use Rattle.pl_hub.proofs.shared.Shared.add_clause_by.Goals as goal

pub add_clause-row-requires-clause-upto : goal.add_clause-row-requires-clause-upto
add_clause-row-requires-clause-upto g c = upto_of c.self.invariant c.generation-generation.result c.generation-generation.ensures

pub add_clause-row-requires-clause-counts : goal.add_clause-row-requires-clause-counts
add_clause-row-requires-clause-counts g c = clause_counts_of c.self.invariant c.generation-generation.result c.generation-generation.ensures

pub add_clause-row-requires-clause-held : goal.add_clause-row-requires-clause-held
add_clause-row-requires-clause-held g c = held_by c.args.by c.args.clause (names (seen c.args.atoms.now.seat)) c.requires.held

pub settle-requires-clause-can : goal.settle-requires-clause-can
settle-requires-clause-can g c =
    let f = c.self.inside.front in
    let n = names (seen c.args.atoms.now.seat) in
    let q = adding_request c.args.by (clause_in (said n c.args.clause)) in
    let k = adding_kind c.args.by (proc_of (clause_in (said n c.args.clause)).head) (clause_in (said n c.args.clause)) in
    changes_can g.K.Naming.goals c.args.engine g.N.Updates.kind k c.requires.kind (adding_plain c.args.by (proc_of (clause_in (said n c.args.clause)).head) (clause_in (said n c.args.clause))) (adding_clauses c.args.by (proc_of (clause_in (said n c.args.clause)).head) (clause_in (said n c.args.clause))) f c.args.self.now c.self.view_is q
    (seen c.add_clause-row.new.atoms.seat) (keeper_view c.add_clause-row.new.keeper) c.add_clause-row.new.db c.add_clause-row.result
    (c.add_clause-row.ensures.says g.K.Naming.goals c.args.engine f.seen (sym c.generation-generation.ensures) c.self.invariant.database)

pub invariant_of-self : goal.invariant_of-self
invariant_of-self g c =
    let f = c.self.inside.front in
    let n = names (seen c.args.atoms.now.seat) in
    let q = adding_request c.args.by (clause_in (said n c.args.clause)) in
    let k = adding_kind c.args.by (proc_of (clause_in (said n c.args.clause)).head) (clause_in (said n c.args.clause)) in
    changes_shared g.K.Naming.goals c.args.engine g.N.Updates.kind k c.requires.kind (adding_plain c.args.by (proc_of (clause_in (said n c.args.clause)).head) (clause_in (said n c.args.clause))) (adding_clauses c.args.by (proc_of (clause_in (said n c.args.clause)).head) (clause_in (said n c.args.clause))) f c.args.self.now c.self.view_is q
    (seen c.add_clause-row.new.atoms.seat) (keeper_view c.add_clause-row.new.keeper) c.add_clause-row.new.db c.add_clause-row.result
    (c.add_clause-row.ensures.says g.K.Naming.goals c.args.engine f.seen (sym c.generation-generation.ensures) c.self.invariant.database)
    c.self.invariant c.is_sound.ensures c.add_clause-row.ensures.keeper refl c.generation-generation.result c.generation-generation.ensures
    c.add_clause-row.ensures.restored
    c.add_clause-row.ensures.upto c.add_clause-row.ensures.floor c.settle.new.hub c.settle.ensures.hub

pub returns : goal.returns
returns g c =
    let f = c.self.inside.front in
    let n = names (seen c.args.atoms.now.seat) in
    let q = adding_request c.args.by (clause_in (said n c.args.clause)) in
    let k = adding_kind c.args.by (proc_of (clause_in (said n c.args.clause)).head) (clause_in (said n c.args.clause)) in
    changes_visit g.K.Naming.goals c.args.engine g.N.Updates.kind k c.requires.kind (adding_plain c.args.by (proc_of (clause_in (said n c.args.clause)).head) (clause_in (said n c.args.clause))) (adding_clauses c.args.by (proc_of (clause_in (said n c.args.clause)).head) (clause_in (said n c.args.clause))) f c.args.self.now c.self.view_is q
    (seen c.add_clause-row.new.atoms.seat) (keeper_view c.add_clause-row.new.keeper) c.add_clause-row.new.db c.add_clause-row.result
    (c.add_clause-row.ensures.says g.K.Naming.goals c.args.engine f.seen (sym c.generation-generation.ensures) c.self.invariant.database)
    g.K.Naming.history (seen c.args.atoms.now.seat) (adding_visit c.args.by c.args.clause) (adding_serves c.args.by c.args.clause (text_of n) (text_of (names (seen c.add_clause-row.new.atoms.seat)))) (adding_asks c.args.by c.args.clause n) (adding_only c.args.by c.args.clause n)
    c.args.front.now c.requires.front c.settle.result c.settle.new.front c.settle.new.hub c.settle.ensures.answer c.settle.ensures.front c.settle.ensures.hub
    c.settle.ensures.sees c.add_clause-row.ensures.named c.add_clause-row.ensures.quiet c.add_clause-row.ensures.unrefused
