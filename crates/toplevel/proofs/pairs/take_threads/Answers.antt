use Rattle.std.proofs.Common.{◌≡◌, ◌∷◌, Bool, true, false, suc, add-one, arith, drop, sym, ◌∙◌, ap}
use Rattle.std.proofs.Math.Seq.{drop-cons}
use Rattle.std.proofs.lemmas.List.{drop_all}
use Rattle.std.specs.Vec.Iter.{into_iter_items}
use Rattle.run_model.specs.Lawful.{is_goal_number}
use Rattle.toplevel.proofs.PairLaws.{Threading, all_threads, begun_at, goal_told, none_at, threading_goal, threading_none, threading_thread}
use Rattle.toplevel.proofs.pairs.take_threads.Goals.{then-not-is_goal+in_ok-part+in_ok-named+in_ok-push, else-not-is_goal}
use Rattle.toplevel.proofs.pairs.take_threads.Goals as goal

pub loop-number-init : goal.loop-number-init
loop-number-init c p told finals ws bs counted are kept =
    threading_none p told finals ws bs c.new-threads.result.items (into_iter_items c.args.rest.now) c.new-threads.ensures.items kept

pub loop-number-preserved : goal.loop-number-preserved
loop-number-preserved c p told finals ws bs counted are kept =
    let i = c.loop-number.number-index in
    let all = c.args.begun.now in
    let x = c.loop-number-item.result in
    let at : drop i all ≡ x ∷ drop (suc i) all =
    drop-cons all i x (omega (arith, c.loop-number-test.true)) ∙ ap (λ y. y ∷ drop (suc i) all) (sym c.loop-number-item.is) in
    let b = begun_at bs all i x (drop (suc i) all) are at in
    let so = c.loop-number.invariant p told finals ws bs counted are kept in
    let is : (t : Bool) → c.is_goal.result ≡ t → is_goal_number p b.beginning.engine ≡ t =
    λ t told_so. goal_told p b.beginning.engine x.0 c.args.goals c.is_goal.result t b.number counted c.is_goal.ensures told_so in
    let more : Threading p told finals ws (suc i) bs c.if-not-is_goal.threads.items (into_iter_items c.if-not-is_goal.rest) =
    elim c.if-not-is_goal.branch [
      | then-not-is_goal+in_ok-part+in_ok-named+in_ok-push w ↦
          rw (w.threads-is, w.rest-is)
          (threading_thread p told finals ws i bs x.0 x.1 c.loop-number.threads.items w.push.new.self.items
          (into_iter_items c.loop-number.rest) (into_iter_items w.next_part.new.rest) w.in_ok-part.part w.in_ok-named.field-0 b
          (is false w.if-not-is_goal.true) w.in_ok-part.ensures w.in_ok-named.ensures w.in_ok-push.ensures.items so)
      | else-not-is_goal w ↦
          rw (w.threads-is, w.rest-is)
          (threading_goal p told finals ws i bs x.0 x.1 c.loop-number.threads.items (into_iter_items c.loop-number.rest) b
          (is true w.if-not-is_goal.false) so)
    ] in
    rw add-one more

pub returns : goal.returns
returns c p told finals ws bs counted are kept =
    let i = c.loop-number.number-index in
    all_threads p told finals ws i bs c.loop-number.threads.items (into_iter_items c.loop-number.rest)
    (none_at bs c.args.begun.now i are (drop_all i c.args.begun.now (omega (arith, c.loop-number-test.false))))
    (c.loop-number.invariant p told finals ws bs counted are kept)
