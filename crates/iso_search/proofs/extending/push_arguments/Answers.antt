use Rattle.std.proofs.Common.{◌<◌, ◌≤◌, ◌∷◌, [], length, map, sym, ap, subst, ◌∙◌, arith, length-append}
use Rattle.std.specs.List.{All}
use Rattle.std.proofs.lemmas.List.Elements.{All-push}
use Rattle.pl_term.specs.Tree.{atom}
use Rattle.term_store.specs.Contents.{Holds, arguments_at, term_at}
use Rattle.iso_search.proofs.Constructing.{how_many}
use Rattle.iso_search.proofs.Enlarging.{all_pushed, argument_pushed}
use Rattle.iso_search.proofs.extending.push_arguments.Goals as goal

pub loop-i-preserved : goal.loop-i-preserved
loop-i-preserved c =
    let s = c.args.store.now in
    let args = arguments_at s c.args.arguments in
    let within : c.loop-i.i < length args = omega (arith, how_many s c.args.arguments c.requires.arguments, c.len-i-end.ensures) in
    record {
      inside =
          subst (All (Holds s)) (sym c.in_ok-push.ensures.items) (All-push (Holds s) c.loop-i.places.items c.argument.result c.loop-i.invariant.inside c.argument.ensures.holds);
      pushed =
          argument_pushed s c.loop-i.places.items c.push.new.self.items c.argument.result args c.loop-i.i (atom []) within c.in_ok-push.ensures.items c.argument.ensures.stands
          ∙ c.loop-i.invariant.pushed;
      some = λ _. omega (arith, ap length c.in_ok-push.ensures.items, length-append c.loop-i.places.items (c.argument.result ∷ []));
    }

pub returns-clause-pushed : goal.returns-clause-pushed
returns-clause-pushed c =
    let s = c.args.store.now in
    let args = arguments_at s c.args.arguments in
    let past : length args ≤ c.loop-i.i = omega (arith, how_many s c.args.arguments c.requires.arguments, c.len-i-end.ensures) in
    all_pushed s c.loop-i.places.items args (map (term_at s) c.args.places.now.items) c.loop-i.i c.args.from past c.loop-i.invariant.pushed

pub returns-clause-some : goal.returns-clause-some
returns-clause-some c below = c.loop-i.invariant.some (omega (arith, below, c.len-i-end.ensures))
