use Rattle.std.proofs.Common.{◌≡◌, ◌<◌, ◌+◌, IsSome, sym, ap, ◌∙◌, take, length, get_or, arith}
use Rattle.std.specs.List.{All}
use Rattle.std.proofs.lemmas.List.{take_all, take_more}
use Rattle.std.proofs.lemmas.List.Elements.{All-same}
use Rattle.term_store.specs.declared.nodes.AtomNode.TheVariants.{Var}
use Rattle.world_api.specs.Texts.{text_of}
use Rattle.world_api.specs.NamedNodes.{atoms_of, nodes_in}
use Rattle.world_api.proofs.NamedTerms.{reads_so, spelled_named}
use Rattle.world_api.proofs.HeldNodes.{nodes_more, named_more}
use Rattle.world_api.proofs.readings.reads_as.Goals as goal

pub loop-i-preserved : goal.loop-i-preserved
loop-i-preserved g c =
    let m = g.A.Atoms.held c.args.atoms.now in
    let own = c.nodes-own.result.now in
    let all = c.nodes-all.result.now in
    let i = c.loop-i.i in
    let next = get_or own i (Var 0) in
    let below : i < length all = omega (arith, c.if-own-all.false, c.loop-i-test.true) in
    record {
      reads =
          nodes_more m m all i c.index-all-i.result (take i own) (take (i + 1) own) next below c.index-all-i.is
          c.loop-i.invariant.reads c.loop-i.invariant.named (λ a t e. e) (c.node_reads_as.ensures.node c.if-not-node_reads_as.false)
          (take_more own i (Var 0) c.loop-i-test.true);
      named =
          named_more m m (take i own) (take (i + 1) own) next c.loop-i.invariant.named (λ a t e. e)
          (c.node_reads_as.ensures.named c.if-not-node_reads_as.false) (take_more own i (Var 0) c.loop-i-test.true);
    }

pub returns-clause-term : goal.returns-clause-term
returns-clause-term g c so =
    let m = g.A.Atoms.held c.args.atoms.now in
    let own = c.nodes-own.result.now in
    let all = c.nodes-all.result.now in
    let own_all : take c.loop-i.i own ≡ own = take_all c.loop-i.i own c.loop-i-test.false in
    let all_all : take c.loop-i.i all ≡ all = take_all c.loop-i.i all (omega (arith, c.if-own-all.false, c.loop-i-test.false)) in
    reads_so m c.args.t.now c.args.flat.now own all (g.met.A.Atoms.fixed_held c.args.atoms.now) c.nodes-own.ensures.spelled c.nodes-all.ensures
    (ap (nodes_in (text_of m)) (sym own_all) ∙ c.loop-i.invariant.reads ∙ all_all)

pub returns-clause-named : goal.returns-clause-named
returns-clause-named g c so =
    let m = g.A.Atoms.held c.args.atoms.now in
    let own = c.nodes-own.result.now in
    spelled_named m c.args.t.now own (g.met.A.Atoms.fixed_held c.args.atoms.now) c.nodes-own.ensures.spelled
    (All-same (λ a. IsSome (m a)) (atoms_of own) (atoms_of (take c.loop-i.i own)) (ap atoms_of (sym (take_all c.loop-i.i own c.loop-i-test.false))) c.loop-i.invariant.named)
