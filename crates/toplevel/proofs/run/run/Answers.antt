use Rattle.std.proofs.Common.{◌≡◌, List, ℕ, Option, Some, ap, subst, sym, ◌∙◌}
use Rattle.pl_term.specs.Tree.{Chars}
use Rattle.pl_io.specs.Faults.{Rose}
use Rattle.command_line.specs.CommandLine.{Order as OrderOf, order}
use Rattle.command_line.specs.Commands.{told_order}
use Rattle.run_model.specs.declared.ends.End.{End}
use Rattle.toplevel.specs.Headline.{PromisedOf, file_of}
use Rattle.toplevel.proofs.ObeyedLaws.{done_by, done_else, read_by, unwritten_by}
use Rattle.toplevel.proofs.run.run.Goals as goal

pub returns-in-Ok-Some-clause-headline : goal.returns-in-Ok-Some-clause-headline
returns-in-Ok-Some-clause-headline g c has =
    let o = told_order c.in-Ok-Some.order in
    let is : order c.args.words.now ≡ Some o = rw c.in-Ok-Some.field-0-is at c.in-Ok-Some.ensures.order in
    let reads : Chars → Type 0 = λ (name : Chars). Rose (g.F.Files.faults c.args.files.now name) (g.F.Files.faults c.obey.new.files name) in
    (o, (is, done_by reads _ (g.F.Files.told c.args.files.now) o _ _ c.obey.result c.obey.result.end c.obey.ensures.promised has))

pub returns-in-Ok-Some-clause-complete : goal.returns-in-Ok-Some-clause-complete
returns-in-Ok-Some-clause-complete g c other asked read write some =
    let o = told_order c.in-Ok-Some.order in
    let is : order c.args.words.now ≡ Some o = rw c.in-Ok-Some.field-0-is at c.in-Ok-Some.ensures.order in
    let reads : Chars → Type 0 = λ (name : Chars). Rose (g.F.Files.faults c.args.files.now name) (g.F.Files.faults c.obey.new.files name) in
    done_else reads _ (g.F.Files.told c.args.files.now) o _ _ c.obey.result c.obey.result.end c.obey.ensures.promised
    (λ name named rose. read name (ap file_of (sym asked ∙ is) ∙ named) rose)
    write
    some

pub returns-in-Ok-Some-clause-read_fault : goal.returns-in-Ok-Some-clause-read_fault
returns-in-Ok-Some-clause-read_fault g c ends =
    let o = told_order c.in-Ok-Some.order in
    let is : order c.args.words.now ≡ Some o = rw c.in-Ok-Some.field-0-is at c.in-Ok-Some.ensures.order in
    let reads : Chars → Type 0 = λ (name : Chars). Rose (g.F.Files.faults c.args.files.now name) (g.F.Files.faults c.obey.new.files name) in
    let writes : Type 0 = Rose (g.S.Sink.faults c.args.out.now) (g.S.Sink.faults c.obey.new.out) in
    let told = g.F.Files.told c.args.files.now in
    let old = g.S.Sink.written c.args.out.now in
    let new = g.S.Sink.written c.obey.new.out in
    let r = read_by reads writes told o old new c.obey.result
    (subst (λ (e : End). PromisedOf reads writes told o old new c.obey.result e) ends c.obey.ensures.promised) in
    (r.0, (r.1.0, (ap file_of is ∙ r.1.1.0, r.1.1.1)))

pub returns-in-Ok-Some-clause-write_fault : goal.returns-in-Ok-Some-clause-write_fault
returns-in-Ok-Some-clause-write_fault g c ends =
    let o = told_order c.in-Ok-Some.order in
    let is : order c.args.words.now ≡ Some o = rw c.in-Ok-Some.field-0-is at c.in-Ok-Some.ensures.order in
    let reads : Chars → Type 0 = λ (name : Chars). Rose (g.F.Files.faults c.args.files.now name) (g.F.Files.faults c.obey.new.files name) in
    let writes : Type 0 = Rose (g.S.Sink.faults c.args.out.now) (g.S.Sink.faults c.obey.new.out) in
    let told = g.F.Files.told c.args.files.now in
    let old = g.S.Sink.written c.args.out.now in
    let new = g.S.Sink.written c.obey.new.out in
    let u = unwritten_by reads writes told o old new c.obey.result
    (subst (λ (e : End). PromisedOf reads writes told o old new c.obey.result e) ends c.obey.ensures.promised) in
    (u.0, (o, (is, u.1)))
