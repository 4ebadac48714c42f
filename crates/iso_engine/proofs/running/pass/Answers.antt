use Rattle.std.proofs.Common.{[], ◌∷◌, refl, sym, ap, ap₂, ◌∙◌}
use Rattle.pl_model.specs.Predicates.{proc_of}
use Rattle.pl_model.specs.Resolution.{Node, goes, goal as goal_of}
use Rattle.pl_model.specs.Control.{before, take_up}
use Rattle.term_store.specs.Contents.{Contents}
use Rattle.iso_search.specs.declared.outcome.Outcome.TheVariants.{Run}
use Rattle.iso_search.specs.declared.search.Search.{Search}
use Rattle.iso_search.specs.Constructs.{construction}
use Rattle.iso_search.specs.Outcomes.{limits_in, state_in}
use Rattle.iso_search.specs.Reading.{reads}
use Rattle.iso_search.specs.Searching.{node_of}
use Rattle.iso_search.proofs.Over.{run_made}
use Rattle.iso_search.proofs.Taking.{conjoined, cut_made, succeeded}
use Rattle.iso_engine.specs.declared.doing.Doing.TheVariants.{Running}
use Rattle.iso_engine.proofs.Followed.{goal_done, run_setting}
use Rattle.iso_engine.proofs.Passing.{passing_alone}
use Rattle.iso_engine.proofs.running.pass.Goals as goal

pub unreachable-requires : goal.unreachable-requires
unreachable-requires c = passing_alone c.args.kind c.requires.passes c.in_default.not-Succeeds c.in_default.not-Cuts c.in_default.not-Conjunction

pub returns-in-Succeeds-clause-done : goal.returns-in-Succeeds-clause-done
returns-in-Succeeds-clause-done c list is t view =
    let e = c.args.search.now in
    let rest = c.args.rest in
    let o = Run rest in
    let r = run_setting t e e list rest c.args.cut c.args.goal o (Running rest) in
    let n = node_of t.view e rest in
    let g = reads t.view e.store c.args.goal in
    goal_done t e e list rest c.args.cut c.args.goal o (Running rest) (proc_of g) is c.requires.rest tt refl
    (succeeded (limits_in r e) (state_in r e) n g c.args.cut
    ∙ ap (take_up (limits_in r e) (state_in r e) n g c.args.cut) (sym (ap (construction t.view e.store) c.in-Succeeds.is) ∙ c.requires.stands t.view view))
    refl

pub returns-in-Cuts-clause-done : goal.returns-in-Cuts-clause-done
returns-in-Cuts-clause-done c list is t view =
    let e = c.args.search.now in
    let f = c.cut_to.new.self in
    let rest = c.args.rest in
    let o = Run rest in
    let r = run_setting t e f list rest c.args.cut c.args.goal o (Running rest) in
    let n = node_of t.view e rest in
    let g = reads t.view e.store c.args.goal in
    goal_done t e f list rest c.args.cut c.args.goal o (Running rest) (proc_of g) is c.requires.rest tt refl
    (cut_made r e f g c.args.cut rest (c.cut_to.ensures.choices t.view) c.cut_to.ensures.kept
    ∙ ap (take_up (limits_in r e) (state_in r e) n g c.args.cut) (sym (ap (construction t.view e.store) c.in-Cuts.is) ∙ c.requires.stands t.view view))
    refl

pub returns-in_ok-list-in-Conjunction-clause-done : goal.returns-in_ok-list-in-Conjunction-clause-done
returns-in_ok-list-in-Conjunction-clause-done c list is t view =
    let e = c.args.search.now in
    let b = c.push.new.self in
    let f = c.push-in-Conjunction.new.self in
    let rest = c.args.rest in
    let k = c.in_ok-list-in-Conjunction.list in
    let o = Run k in
    let v = t.view in
    let r = run_setting t e f list rest c.args.cut c.args.goal o (Running k) in
    let n = node_of v e rest in
    let g = reads v e.store c.args.goal in
    let left = c.in-Conjunction.left in
    let right = c.in-Conjunction.right in
    let one = c.in_ok-second-in-Conjunction.ensures in
    let two = c.in_ok-list-in-Conjunction.ensures in
    let both : Node = before (goal_of (reads v e.store left) c.args.cut ∷ (goal_of (reads v e.store right) c.args.cut ∷ [])) n in
    goal_done t e f list rest c.args.cut c.args.goal o (Running k) (proc_of g) is c.requires.rest tt refl
    (ap goes
    (run_made r e f n both (proc_of g) k (two.choices v ∙ one.choices v)
    (two.node v ∙ ap₂ (λ (s : Contents) (m : Node). before (goal_of (reads v s left) c.args.cut ∷ []) m) (ap (λ (x : Search). x.store) one.kept) (one.node v))
    (ap (λ (x : Search). x.next_variable) two.kept ∙ ap (λ (x : Search). x.next_variable) one.kept)
    (ap (λ (x : Search). x.inferences) two.kept ∙ ap (λ (x : Search). x.inferences) one.kept))
    ∙ conjoined (limits_in r e) (state_in r e) n g (reads v e.store left) (reads v e.store right) c.args.cut
    ∙ ap (take_up (limits_in r e) (state_in r e) n g c.args.cut) (sym (ap (construction v e.store) c.in-Conjunction.is) ∙ c.requires.stands v view))
    refl
