use Rattle.std.proofs.Common.{◌++◌, flat_map, subst}
use Rattle.term_store.specs.Live.{Gathers, cell_atoms, place_atoms}
use Rattle.term_store.proofs.Gathering.{gathers_both}
use Rattle.iso_search.specs.Live.{alternative_atoms, task_atoms}
use Rattle.iso_search.proofs.Living.{read_by}
use Rattle.iso_search.proofs.search.Search.live_in.Goals as goal

pub returns-in_err-live_in-clause-read : goal.returns-in_err-live_in-clause-read
returns-in_err-live_in-clause-read c v w agree = read_by v w c.args.self.now agree

pub returns-in_err-list_places-clause-read : goal.returns-in_err-list_places-clause-read
returns-in_err-list_places-clause-read c v w agree = read_by v w c.args.self.now agree

pub returns-in_err-list_frames-clause-read : goal.returns-in_err-list_frames-clause-read
returns-in_err-list_frames-clause-read c v w agree = read_by v w c.args.self.now agree

pub returns-in_err-list_choices-clause-read : goal.returns-in_err-list_choices-clause-read
returns-in_err-list_choices-clause-read c v w agree = read_by v w c.args.self.now agree

pub returns-clause-read : goal.returns-clause-read
returns-clause-read c v w agree = read_by v w c.args.self.now agree

pub returns-clause-gathers : goal.returns-clause-gathers
returns-clause-gathers c =
    let e = c.args.self.now in
    let cells = cell_atoms e.store in
    let answer = flat_map place_atoms e.answer.items in
    let frames = flat_map (λ f. task_atoms f.task) e.frames.items in
    let choices = flat_map (λ k. alternative_atoms k.alternative) e.choices.items in
    let answered : Gathers answer c.live_in.new.live c.list_places.new.live =
    subst (λ ps. Gathers (flat_map place_atoms ps) c.live_in.new.live c.list_places.new.live) c.deref.ensures.value c.in_ok-list_places.ensures in
    let framed : Gathers frames c.list_places.new.live c.list_frames.new.live =
    subst (λ fs. Gathers (flat_map (λ f. task_atoms f.task) fs) c.list_places.new.live c.list_frames.new.live) c.deref-2.ensures.value c.in_ok-list_frames.ensures in
    let chosen : Gathers choices c.list_frames.new.live c.list_choices.new.live =
    subst (λ ks. Gathers (flat_map (λ k. alternative_atoms k.alternative) ks) c.list_frames.new.live c.list_choices.new.live) c.deref-3.ensures.value c.in_ok-list_choices.ensures in
    gathers_both cells (answer ++ (frames ++ choices)) c.args.live.now c.live_in.new.live c.list_choices.new.live c.in_ok-live_in.ensures.gathers
    (gathers_both answer (frames ++ choices) c.live_in.new.live c.list_places.new.live c.list_choices.new.live answered
    (gathers_both frames choices c.list_places.new.live c.list_frames.new.live c.list_choices.new.live framed chosen))
