use Rattle.std.proofs.Common.{◌+◌, reverse, ap, ◌∙◌}
use Rattle.pl_model.specs.Resolution.{collected_cells}
use Rattle.iso_search.specs.declared.frames.Frame.{Frame}
use Rattle.iso_search.proofs.Growing.{base_pushed, rests_pushed, choices_pushed}
use Rattle.iso_search.proofs.search.Search.push.Goals as goal

pub returns-clause-whole : goal.returns-clause-whole
returns-clause-whole c =
    let s = c.args.self.now in
    let f : Frame = record { task = c.args.task; continuation = c.args.next } in
    let e = c.in_ok-list.ensures.longer in
    record {
      base = base_pushed s.answer.items s.store s.frames.items c.push_task.new.frames.items f c.requires.whole.base c.requires.task e c.push_task.ensures.linked;
      rests = rests_pushed s.answer.items s.store s.frames.items c.push_task.new.frames.items f (reverse s.choices.items) c.requires.whole.rests e;
      budget =
          λ v. ap (λ cs. s.store.budget + collected_cells cs)
          (choices_pushed v s.answer.items s.store s.frames.items c.push_task.new.frames.items f (reverse s.choices.items) c.requires.whole.rests e)
          ∙ c.requires.whole.budget v;
      above = c.requires.whole.above;
      older = c.requires.whole.older;
    }

pub returns-clause-choices : goal.returns-clause-choices
returns-clause-choices c v =
    let s = c.args.self.now in
    let f : Frame = record { task = c.args.task; continuation = c.args.next } in
    choices_pushed v s.answer.items s.store s.frames.items c.push_task.new.frames.items f (reverse s.choices.items) c.requires.whole.rests c.in_ok-list.ensures.longer
