use Rattle.std.proofs.Common.{◌<◌, length, sym, subst}
use Rattle.std.proofs.lemmas.Result.{IfOk-weaker}
use Rattle.term_store.specs.Apart.{IsApart}
use Rattle.term_store.specs.Cells.{heap_of}
use Rattle.term_store.specs.Unifying.{Solves}
use Rattle.term_store.proofs.Apartness.{apart_none}
use Rattle.term_store.proofs.Entering.{joins_solves}
use Rattle.term_store.proofs.Extending.{extends_grown}
use Rattle.term_store.proofs.heads.meet_variable.Goals as goal

pub unify-requires-clause-apart : goal.unify-requires-clause-apart
unify-requires-clause-apart c = subst (IsApart (heap_of c.args.cells.now)) (sym c.none.ensures) (apart_none (heap_of c.args.cells.now))

pub returns-then-variable-len-clause-extends : goal.returns-then-variable-len-clause-extends
returns-then-variable-len-clause-extends c = extends_grown (heap_of c.args.cells.now) (heap_of c.unify.new.cells) c.unify.ensures.grown

pub returns-then-variable-len-clause-joins : goal.returns-then-variable-len-clause-joins
returns-then-variable-len-clause-joins c =
    let h = heap_of c.args.cells.now in
    let d = heap_of c.unify.new.cells in
    let ks = c.args.known.now.items in
    let lt : c.args.variable < length ks = subst (λ n. c.args.variable < n) c.len.ensures c.if-variable-len.true in
    IfOk-weaker c.unify.result _ _
    (λ r s. joins_solves r h c.args.from ks c.args.word c.args.variable d c.requires.fit.fit c.requires.known c.requires.word lt
    c.unify.ensures.grown
    (subst (λ w. Solves r h c.args.word w d) c.known_at-met.ensures s))
    c.unify.ensures.solves
