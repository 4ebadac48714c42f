use Rattle.std.proofs.Common.{Some, refl, sym, ap, subst, ◌∙◌}
use Rattle.pl_term.specs.Tree.{atom, int, var}
use Rattle.builtin_rows.specs.Laws.{IsNamed, TellsRows}
use Rattle.builtin_rows.specs.Predicates.{has_row}
use Rattle.term_store.specs.Heap.{atom_name}
use Rattle.term_store.specs.Contents.{term_at}
use Rattle.iso_search.specs.Spelling.{text_of}
use Rattle.iso_engine.proofs.Builtins.{alone_no_lines, compound_no_lines}
use Rattle.iso_engine.proofs.builtin.row_goal_at.Goals as goal

pub returns-in-Variable : goal.returns-in-Variable
returns-in-Variable c v view =
    alone_no_lines (text_of v.names) (term_at c.args.store.now c.args.goal) (var c.in-Variable.field-0) c.in-Variable.ensures refl

pub returns-in-Integer : goal.returns-in-Integer
returns-in-Integer c v view =
    alone_no_lines (text_of v.names) (term_at c.args.store.now c.args.goal) (int c.in-Integer.field-0) c.in-Integer.ensures refl

pub returns-in-Atom : goal.returns-in-Atom
returns-in-Atom c v view =
    alone_no_lines (text_of v.names) (term_at c.args.store.now c.args.goal) (atom (atom_name c.in-Atom.field-0)) c.in-Atom.ensures refl

pub returns-in_default : goal.returns-in_default
returns-in_default c v view =
    let p = c.predicate_of-found in
    let a = c.in-Compound.arguments in
    compound_no_lines v view c.args.store.now c.args.goal c.in-Compound.name a c.in-Compound.ensures.0 c.in-Compound.ensures.1.0 c.in-Compound.ensures.1.1
    p.result (ap has_row c.in_default.is) (subst (λ k. TellsRows c.in-Compound.name k p.result) c.len.ensures p.ensures.rows)

pub returns-in-Asks : goal.returns-in-Asks
returns-in-Asks c v view =
    let p = c.predicate_of-found in
    let a = c.in-Compound.arguments in
    compound_no_lines v view c.args.store.now c.args.goal c.in-Compound.name a c.in-Compound.ensures.0 c.in-Compound.ensures.1.0 c.in-Compound.ensures.1.1
    p.result (ap has_row c.in-Some.is ∙ ap (λ w. has_row (Some w)) c.in-Asks.is) (subst (λ k. TellsRows c.in-Compound.name k p.result) c.len.ensures p.ensures.rows)

pub returns-in-Steps : goal.returns-in-Steps
returns-in-Steps c v view =
    let p = c.predicate_of-found in
    let a = c.in-Compound.arguments in
    compound_no_lines v view c.args.store.now c.args.goal c.in-Compound.name a c.in-Compound.ensures.0 c.in-Compound.ensures.1.0 c.in-Compound.ensures.1.1
    p.result (ap has_row c.in-Some.is ∙ ap (λ w. has_row (Some w)) c.in-Steps.is) (subst (λ k. TellsRows c.in-Compound.name k p.result) c.len.ensures p.ensures.rows)

pub returns-in-Row : goal.returns-in-Row
returns-in-Row c =
    let p = c.predicate_of-found in
    let name = c.in-Compound.name in
    let named = subst (λ w. IsNamed name c.len.result (Some w)) c.in-Row.is (subst (IsNamed name c.len.result) c.in-Some.is p.ensures.named) in (
      refl,
      record {
        holds = c.requires;
        inside = c.in-Compound.ensures.1.0;
        some = c.in-Compound.ensures.1.1;
        means = c.in-Compound.ensures.0;
        named = named.0;
        many = sym c.len.ensures ∙ named.1;
      },
    )
