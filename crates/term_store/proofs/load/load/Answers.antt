use Rattle.std.proofs.Common.{◌∙◌}
use Rattle.term_store.specs.Cells.{heap_of}
use Rattle.term_store.specs.Contents.{upwards}
use Rattle.term_store.proofs.Loading.{keeps_of, longer_numbers, longer_twice, nodes_below, raised_if}
use Rattle.term_store.proofs.load.load.Goals as goal

pub returns-in_err-make_variables-clause-longer : goal.returns-in_err-make_variables-clause-longer
returns-in_err-make_variables-clause-longer c =
    let m = c.make_variables.ensures.made in
    longer_numbers (heap_of c.args.cells.now) (heap_of c.make_variables.new.cells) (upwards c.args.from m.0) m.1

pub returns-in_err-make_variables-clause-keeps : goal.returns-in_err-make_variables-clause-keeps
returns-in_err-make_variables-clause-keeps c =
    let m = c.make_variables.ensures.made in
    keeps_of (heap_of c.args.cells.now) (heap_of c.make_variables.new.cells) c.requires.fit.fit
    (longer_numbers (heap_of c.args.cells.now) (heap_of c.make_variables.new.cells) (upwards c.args.from m.0) m.1)

pub build-requires-clause-below : goal.build-requires-clause-below
build-requires-clause-below c =
    nodes_below (heap_of c.args.cells.now) (heap_of c.make_variables.new.cells) c.args.from c.args.count c.len-base.result c.args.nodes.now
    c.in_ok-make_variables.ensures.all (c.len-base.ensures ∙ c.args.cells.now.numbers.ok.0) c.requires.below

pub returns-clause-keeps : goal.returns-clause-keeps
returns-clause-keeps c =
    let h = heap_of c.args.cells.now in
    let m = heap_of c.make_variables.new.cells in
    let d = heap_of c.build.new.cells in
    keeps_of h d c.requires.fit.fit
    (longer_twice h m d (longer_numbers h m (upwards c.args.from c.args.count) c.in_ok-make_variables.ensures.all) c.build.ensures.gains.longer)

pub returns-clause-longer : goal.returns-clause-longer
returns-clause-longer c =
    let h = heap_of c.args.cells.now in
    let m = heap_of c.make_variables.new.cells in
    let d = heap_of c.build.new.cells in
    longer_twice h m d (longer_numbers h m (upwards c.args.from c.args.count) c.in_ok-make_variables.ensures.all) c.build.ensures.gains.longer

pub returns-clause-loaded : goal.returns-clause-loaded
returns-clause-loaded c =
    raised_if c.build.result (heap_of c.args.cells.now) (heap_of c.make_variables.new.cells) (heap_of c.build.new.cells) c.args.from c.args.count c.len-base.result
    c.args.nodes.now c.requires.spelled.0 c.requires.spelled.1 c.in_ok-make_variables.ensures.all (c.len-base.ensures ∙ c.args.cells.now.numbers.ok.0)
    c.requires.below c.build.ensures.built
