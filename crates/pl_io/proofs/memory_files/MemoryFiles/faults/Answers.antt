use Rattle.std.proofs.Common.{◌≡◌, Some, None, sym}
use Rattle.std.specs.List.{position}
use Rattle.pl_io.specs.contracts.memory_files.MemoryFiles.{the_view}
use Rattle.pl_io.specs.MemoryFilesState.{is_named}
use Rattle.pl_io.proofs.FileStates.{count_found, count_nowhere}
use Rattle.pl_io.proofs.memory_files.MemoryFiles.faults.Goals as goal

pub returns-in-Some : goal.returns-in-Some
returns-in-Some c =
    let is : position (is_named c.args.name.now) c.self.inside.files.items ≡ Some c.in-Some.i = cc (c.place.ensures, c.as_slice.ensures.value) in
    rw (← c.self.view_is) (sym (count_found (the_view c.self.inside) c.args.name.now c.in-Some.i c.index.result.now is c.index.ensures))

pub returns-in-None : goal.returns-in-None
returns-in-None c =
    let is : position (is_named c.args.name.now) c.self.inside.files.items ≡ None = cc (c.place.ensures, c.as_slice.ensures.value) in
    rw (← c.self.view_is) (sym (count_nowhere (the_view c.self.inside) c.args.name.now is))
