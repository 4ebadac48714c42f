use Rattle.std.proofs.Common.{◌≡◌, ◌∷◌, [], ◌++◌, length, arith}
use Rattle.std.proofs.lemmas.List.Elements.{All-push, All-same}
use Rattle.term_store.specs.Contents.{Holds, arguments_at}
use Rattle.builtin_term.proofs.Compounds.{how_many}
use Rattle.builtin_term.proofs.Walked.{gains_all, gains_more, gains_none}
use Rattle.builtin_term.proofs.variable_walk.push_arguments.Goals as goal

pub loop-i-init : goal.loop-i-init
loop-i-init c =
    let s = c.args.store.now in
    let a = c.args.arguments in
    record {
      within = omega arith;
      inside = c.requires.walk;
      gains = gains_none s (arguments_at s a) c.args.walk.now.items c.len-i.result (omega (arith, how_many s a c.requires.arguments, c.len-i.ensures));
    }

pub loop-i-preserved : goal.loop-i-preserved
loop-i-preserved c =
    let s = c.args.store.now in
    let a = c.args.arguments in
    let ws = c.loop-i.walk.items in
    let p = c.argument.result in
    let within = c.loop-i.invariant.within in
    let long : length (arguments_at s a) ≡ a.count = how_many s a c.requires.arguments in
    record {
      within = omega arith;
      inside = All-same (Holds s) c.push.new.self.items (ws ++ p ∷ []) c.in_ok-push.ensures.items (All-push (Holds s) ws p c.loop-i.invariant.inside c.argument.ensures.holds);
      gains =
          gains_more s (arguments_at s a) c.args.walk.now.items ws c.push.new.self.items p c.loop-i.i (omega arith) (omega arith) c.loop-i.invariant.gains
          c.in_ok-push.ensures.items c.argument.ensures.stands;
    }

pub returns-clause-gains : goal.returns-clause-gains
returns-clause-gains c =
    let s = c.args.store.now in
    gains_all s (arguments_at s c.args.arguments) c.args.walk.now.items c.loop-i.walk.items c.loop-i.i (omega arith) c.loop-i.invariant.gains
