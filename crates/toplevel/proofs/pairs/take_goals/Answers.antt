use Rattle.std.proofs.Common.{◌≡◌, ◌∷◌, Bool, true, false, suc, add-one, arith, drop, sym, ◌∙◌, ap}
use Rattle.std.proofs.Math.Seq.{drop-cons}
use Rattle.std.proofs.lemmas.List.{drop_all}
use Rattle.std.specs.Vec.Iter.{into_iter_items}
use Rattle.run_model.specs.Lawful.{is_goal_number}
use Rattle.toplevel.proofs.PairLaws.{Taking, all_taken, begun_at, goal_told, none_at, taking_goal, taking_none, taking_other}
use Rattle.toplevel.proofs.pairs.take_goals.Goals.{then-is_goal+in_ok-next_part+in_ok-push, else-is_goal}
use Rattle.toplevel.proofs.pairs.take_goals.Goals as goal

pub loop-number-init : goal.loop-number-init
loop-number-init c p told finals ws bs counted are kept = taking_none p told finals ws bs c.args.engines.now.items (into_iter_items c.args.rest.now) kept

pub loop-number-preserved : goal.loop-number-preserved
loop-number-preserved c p told finals ws bs counted are kept =
    let i = c.loop-number.number-index in
    let all = c.args.begun.now in
    let x = c.loop-number-item.result in
    let at : drop i all ≡ x ∷ drop (suc i) all =
    drop-cons all i x (omega (arith, c.loop-number-test.true)) ∙ ap (λ y. y ∷ drop (suc i) all) (sym c.loop-number-item.is) in
    let b = begun_at bs all i x (drop (suc i) all) are at in
    let so = c.loop-number.invariant p told finals ws bs counted are kept in
    let is : (t : Bool) → c.is_goal.result ≡ t → is_goal_number p b.beginning.engine ≡ t =
    λ t told_so. goal_told p b.beginning.engine x.0 c.args.goals c.is_goal.result t b.number counted c.is_goal.ensures told_so in
    let more : Taking p told finals ws (suc i) bs c.args.engines.now.items c.if-is_goal.engines.items (into_iter_items c.if-is_goal.rest) =
    elim c.if-is_goal.branch [
      | then-is_goal+in_ok-next_part+in_ok-push w ↦
          rw (w.engines-is, w.rest-is)
          (taking_goal p told finals ws i bs x.0 x.1 c.args.engines.now.items c.loop-number.engines.items w.push.new.self.items
          (into_iter_items c.loop-number.rest) (into_iter_items w.next_part.new.rest) w.in_ok-next_part.field-0 b (is true w.if-is_goal.true)
          w.in_ok-next_part.ensures w.in_ok-push.ensures.items so)
      | else-is_goal w ↦
          rw (w.engines-is, w.rest-is)
          (taking_other p told finals ws i bs x.0 x.1 c.args.engines.now.items c.loop-number.engines.items (into_iter_items c.loop-number.rest) b
          (is false w.if-is_goal.false) so)
    ] in
    rw add-one more

pub returns : goal.returns
returns c p told finals ws bs counted are kept =
    let i = c.loop-number.number-index in
    all_taken p told finals ws i bs c.args.engines.now.items c.loop-number.engines.items (into_iter_items c.loop-number.rest)
    (none_at bs c.args.begun.now i are (drop_all i c.args.begun.now (omega (arith, c.loop-number-test.false))))
    (c.loop-number.invariant p told finals ws bs counted are kept)
