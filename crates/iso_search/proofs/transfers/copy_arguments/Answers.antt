use Rattle.std.proofs.Common.{sym, subst, arith}
use Rattle.std.specs.List.{All}
use Rattle.std.proofs.lemmas.List.Elements.{All-push}
use Rattle.term_store.specs.Contents.{Holds, term_at}
use Rattle.iso_search.proofs.Transferring.{argument_copied}
use Rattle.iso_search.proofs.transfers.copy_arguments.Goals as goal

pub loop-i-preserved : goal.loop-i-preserved
loop-i-preserved c =
    let s = c.args.store.now in
    let t = c.args.other.now in
    let at = c.argument-at.result in
    let place = c.in-Some.place in
    let stands = c.in-Some.ensures s t (term_at s at) c.requires.copies c.look.ensures in
    record {
      holds = subst (All (Holds t)) (sym c.in_ok-push.ensures.items) (All-push (Holds t) c.loop-i.words.items place c.loop-i.invariant.holds stands.holds);
      means =
          argument_copied s t c.args.arguments c.loop-i.words.items c.push.new.self.items c.loop-i.i at place c.requires.arguments (omega (arith, c.len-i-end.ensures))
          c.loop-i.invariant.means c.in_ok-push.ensures.items stands.means c.argument-at.ensures.stands;
    }
