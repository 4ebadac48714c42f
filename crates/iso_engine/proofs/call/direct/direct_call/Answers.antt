use Rattle.std.proofs.Common.{refl}
use Rattle.term_store.specs.Contents.{arguments_at, term_at}
use Rattle.iso_search.proofs.Constructing.{how_many}
use Rattle.iso_engine.proofs.Builtins.{atom_is_none, compound_is_none}
use Rattle.iso_engine.proofs.FreeNames.{atom_other, atom_proc, compound_other, direct}
use Rattle.iso_engine.proofs.Procedures.{atom_no_integer, compound_no_integer, compound_proc}
use Rattle.iso_engine.proofs.Requests.{atom_request, compound_request}
use Rattle.iso_engine.proofs.call.direct.direct_call.Goals as goal

pub returns-in-Atom-clause-calls : goal.returns-in-Atom-clause-calls
returns-in-Atom-clause-calls c =
    let s = c.args.store.now in
    let at = c.args.goal in
    let a = c.in-Atom.name in
    let p = c.atom_call in
    direct s at a 0 p.result c.requires
    (atom_no_integer s at a c.in-Atom.ensures)
    (λ t view. atom_proc t.view s at a c.in-Atom.ensures)
    (λ high v view. atom_other v view s at a high c.in-Atom.ensures)
    (λ rows shares v view. atom_is_none v view s at a c.in-Atom.ensures rows shares)
    p.ensures.named p.ensures.own p.ensures.rows p.ensures.shares

pub returns-in-Atom-clause-asked : goal.returns-in-Atom-clause-asked
returns-in-Atom-clause-asked c =
    let p = c.atom_call in
    atom_request (term_at c.args.store.now c.args.goal) c.in-Atom.name p.result c.in-Atom.ensures p.ensures.named p.ensures.key

pub returns-in-Compound-clause-calls : goal.returns-in-Compound-clause-calls
returns-in-Compound-clause-calls c =
    let s = c.args.store.now in
    let at = c.args.goal in
    let a = c.in-Compound.name in
    let ws = c.in-Compound.arguments in
    let is = c.in-Compound.ensures.0 in
    let args = c.in-Compound.ensures.1.0 in
    let some = c.in-Compound.ensures.1.1 in
    let p = c.compound_call in
    direct s at a ws.count p.result c.requires
    (compound_no_integer s at a ws is args some)
    (λ t view. compound_proc t.view s at a ws.count ws is args some refl)
    (λ high v view. compound_other v view s at a ws high is args some)
    (λ rows shares v view. compound_is_none v view s at a ws is args some rows shares)
    p.ensures.named p.ensures.own p.ensures.rows p.ensures.shares

pub returns-in-Compound-clause-asked : goal.returns-in-Compound-clause-asked
returns-in-Compound-clause-asked c =
    let s = c.args.store.now in
    let ws = c.in-Compound.arguments in
    let seen = c.in-Compound.ensures in
    let p = c.compound_call in
    compound_request c.in-Compound.name ws.count (arguments_at s ws) (term_at s c.args.goal) p.result seen.0 (how_many s ws seen.1.0) seen.1.1
    p.ensures.named p.ensures.own p.ensures.key
