use Rattle.std.proofs.Common.{refl, Some}
use Rattle.pl_consult.specs.declared.stage.Stage.TheVariants.{Words}
use Rattle.pl_consult.proofs.NarrowLaws.{narrows_same, read_narrows}
use Rattle.pl_consult.proofs.FileLaws.{read_moved, read_failed}
use Rattle.pl_consult.proofs.file_script.FileScript.read_under.Goals as goal

pub returns-in-Some-clause-moved : goal.returns-in-Some-clause-moved
returns-in-Some-clause-moved c name term t u out l =
    read_moved term name c.args.self.now c.args.operators c.args.quotes t u out l c.in-Ok.field-0 (record c.args.self.now { read = Some c.in-Some.words })
    (rw (c.as_slice.ensures.value, c.deref.ensures) at c.in-Ok.ensures) refl refl c.in-Some.ensures.1 refl

pub returns-in-None-clause-moved : goal.returns-in-None-clause-moved
returns-in-None-clause-moved c name term t u out l =
    read_failed term name c.args.self.now c.args.operators c.args.quotes t u out l c.args.self.now Words

pub returns-in-Err-clause-moved : goal.returns-in-Err-clause-moved
returns-in-Err-clause-moved c name term t u out l =
    read_failed term name c.args.self.now c.args.operators c.args.quotes t u out l c.args.self.now Words

pub returns-in-None-clause-narrows : goal.returns-in-None-clause-narrows
returns-in-None-clause-narrows c = narrows_same c.args.self.now.words.items c.args.self.now.consult Words

pub returns-in-Some-clause-narrows : goal.returns-in-Some-clause-narrows
returns-in-Some-clause-narrows c =
    read_narrows c.args.self.now.words.items c.args.self.now.consult c.args.self.now.consult c.args.operators c.args.quotes c.in-Ok.field-0 0 refl
    (rw (c.as_slice.ensures.value, c.deref.ensures) at c.in-Ok.ensures)

pub returns-in-Err-clause-narrows : goal.returns-in-Err-clause-narrows
returns-in-Err-clause-narrows c = narrows_same c.args.self.now.words.items c.args.self.now.consult Words
