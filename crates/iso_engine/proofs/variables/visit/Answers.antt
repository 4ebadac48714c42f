use Rattle.std.proofs.Common.{sym, subst, arith}
use Rattle.std.specs.List.{All}
use Rattle.std.proofs.lemmas.List.Elements.{All-push}
use Rattle.term_store.specs.Contents.{Holds}
use Rattle.iso_engine.proofs.Places.{found_more}
use Rattle.iso_engine.proofs.variables.visit.Goals as goal

pub returns-in_ok-push-in-Variable : goal.returns-in_ok-push-in-Variable
returns-in_ok-push-in-Variable c =
    let s = c.args.store.now in
    let found = c.args.found.now.items in
    let e = c.in_ok-push-in-Variable.ensures.items in
    record {
      walk_inside = c.requires.found.walk_inside;
      inside = subst (All (Holds s)) (sym e) (All-push (Holds s) found c.args.place c.requires.found.inside c.requires.place);
      stands =
          found_more s found c.push.new.self.items c.args.place c.in-Variable.number e c.in-Variable.ensures
          (omega (arith, c.if-number-len.false, c.len.ensures, c.args.found.now.ok.0)) c.requires.found.stands;
    }
