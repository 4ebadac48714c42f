use Rattle.std.proofs.Common.{refl, arith}
use Rattle.iso_search.specs.declared.frames.Frame.{Frame}
use Rattle.iso_search.specs.declared.search.Search.{Search}
use Rattle.iso_search.proofs.Replacing.{choices_over, node_over, whole_over}
use Rattle.iso_search.proofs.search.Search.put_over.Goals as goal

pub returns-clause-whole : goal.returns-clause-whole
returns-clause-whole c =
    let e = c.args.self.now in
    let f : Frame = record { task = c.args.task; continuation = c.args.next } in
    let d : Search = record e { frames = c.put_frame.new.frames } in
    whole_over e d c.args.keep f refl c.put_frame.ensures c.requires.held c.requires.within c.requires.task c.requires.next c.requires.whole

pub returns-clause-node : goal.returns-clause-node
returns-clause-node c v =
    let e = c.args.self.now in
    let f : Frame = record { task = c.args.task; continuation = c.args.next } in
    let d : Search = record e { frames = c.put_frame.new.frames } in
    node_over e d c.args.keep f refl c.put_frame.ensures c.requires.held c.requires.within v c.len.result (omega (arith, c.len.ensures, c.put_frame.new.frames.ok.0)) c.requires.next

pub returns-clause-choices : goal.returns-clause-choices
returns-clause-choices c v =
    let e = c.args.self.now in
    let f : Frame = record { task = c.args.task; continuation = c.args.next } in
    let d : Search = record e { frames = c.put_frame.new.frames } in
    choices_over e d c.args.keep f refl c.put_frame.ensures c.requires.held c.requires.within v c.requires.whole
