use Rattle.std.proofs.Common.{◌<◌, [], ◌∷◌, length, sym, subst, arith}
use Rattle.std.specs.List.{All}
use Rattle.std.proofs.lemmas.List.{drop_all}
use Rattle.std.proofs.lemmas.List.Elements.{All-cons, All-nil, All-push}
use Rattle.pl_term.specs.Tree.{atom}
use Rattle.term_store.specs.Heap.{atom_name}
use Rattle.term_store.specs.Contents.{Holds, arguments_at}
use Rattle.builtin_term.proofs.Seeing.{arguments_long}
use Rattle.builtin_term.proofs.Parts.{first_part, last_part, next_part}
use Rattle.builtin_term.proofs.decomposition.parts_at.Goals as goal

pub loop-i-init : goal.loop-i-init
loop-i-init c =
    let s = c.args.store.now in
    let H = Holds s in
    let p = c.atom.result in
    let ps = c.in_ok-parts.parts.items in
    let items = c.in_ok-parts.ensures.items in
    record {
      inside = subst (All H) (sym items) (All-cons H p [] (c.atom.ensures s).0 (All-nil H));
      terms = first_part s [] (arguments_at s c.args.arguments) ps p (atom (atom_name c.args.name)) items (c.atom.ensures s).1;
    }

pub loop-i-preserved : goal.loop-i-preserved
loop-i-preserved c =
    let s = c.args.store.now in
    let ts = arguments_at s c.args.arguments in
    let ps = c.loop-i.parts.items in
    let p = c.argument.result in
    let pushed = c.in_ok-push.ensures.items in
    let lt : c.loop-i.i < length ts = omega (arith, arguments_long s c.args.arguments c.requires, c.loop-i-test.true) in
    record {
      inside = subst (All (Holds s)) (sym pushed) (All-push (Holds s) ps p c.loop-i.invariant.inside c.argument.ensures.holds);
      terms =
          next_part s (atom (atom_name c.args.name) ∷ ts) ts ps c.push.new.self.items p c.loop-i.i (atom []) lt c.loop-i.invariant.terms
          c.argument.ensures.stands pushed;
    }

pub returns-clause-terms : goal.returns-clause-terms
returns-clause-terms c =
    let s = c.args.store.now in
    let ts = arguments_at s c.args.arguments in
    let i = c.loop-i.i in
    last_part s (atom (atom_name c.args.name) ∷ ts) ts c.loop-i.parts.items i
    (drop_all i ts (omega (arith, arguments_long s c.args.arguments c.requires, c.loop-i-test.false))) c.loop-i.invariant.terms
