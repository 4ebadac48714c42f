use Rattle.std.proofs.Common.{refl}
use Rattle.pl_consult.specs.declared.stage.Stage.TheVariants.{Items}
use Rattle.pl_consult.proofs.FileLaws.{file_moved}
use Rattle.pl_consult.proofs.file_script.FileScript.take_next.Goals as goal

pub returns-in-Initialization-clause-moved : goal.returns-in-Initialization-clause-moved
returns-in-Initialization-clause-moved g c name =
    file_moved _ name c.args.self.now (record c.args.self.now { consult = c.next_initialization.new.consult }) Items c.next_initialization.result.0 _ _
    c.args.text.now.items c.args.text.now.items c.next_initialization.result.1 refl refl refl
    (c.next_initialization.ensures.moved _ _ c.args.text.now.items)
