use Rattle.std.proofs.Common.{sym, subst}
use Rattle.pl_term.specs.Tree.{Chars}
use Rattle.pl_io.specs.Faults.{Rose}
use Rattle.command_line.specs.Commands.{told_order}
use Rattle.command_line.specs.declared.command.Order.{Order}
use Rattle.toplevel.specs.Headline.{PromisedOf}
use Rattle.toplevel.proofs.run.obey.Goals as goal

pub returns-in-Load-clause-promised : goal.returns-in-Load-clause-promised
returns-in-Load-clause-promised g c =
    let reads : Chars → Type 0 = λ (name : Chars). Rose (g.F.Files.faults c.args.files.now name) (g.F.Files.faults c.args.files.now name) in
    let writes : Type 0 = Rose (g.S.Sink.faults c.args.out.now) (g.S.Sink.faults c.run_load.new.out) in
    let told = g.F.Files.told c.args.files.now in
    let old = g.S.Sink.written c.args.out.now in
    let new = g.S.Sink.written c.run_load.new.out in
    subst (λ (o : Order). PromisedOf reads writes told (told_order o) old new c.run_load.result c.run_load.result.end) (sym c.in-Load.is) c.run_load.ensures.promised
