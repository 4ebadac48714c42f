use Rattle.std.proofs.Common.{◌≡◌, ◌-◌, ◌++◌, length, take, drop, reverse, pos, sym, ap, ◌∙◌, arith, append-nil, length-take, length-drop}
use Rattle.std.proofs.lemmas.List.{drop_all, get_or-take, get_or-drop}
use Rattle.term_store.specs.declared.words.Word.TheVariants.{Int}
use Rattle.term_store.proofs.Walking.{word_pushed}
use Rattle.term_store.proofs.save.push_reversed.Goals as goal

pub loop-i-init : goal.loop-i-init
loop-i-init c =
    let args = c.args.cells.now.args.items in
    let ws = take c.args.count (drop c.args.start args) in
    record {
      within = omega arith;
      pushed =
          sym (ap (λ vs. c.args.walk.now.items ++ reverse vs) (drop_all c.args.count ws (omega (arith, length-take c.args.count (drop c.args.start args))))
          ∙ append-nil c.args.walk.now.items);
    }

pub loop-i-preserved : goal.loop-i-preserved
loop-i-preserved c =
    let args = c.args.cells.now.args.items in
    let count = c.args.count in
    let ws = take count (drop c.args.start args) in
    let j = c.loop-i.i - 1 in
    let long : length ws ≡ count = omega (arith, length-take count (drop c.args.start args), length-drop c.args.start args, c.requires) in
    let within = c.loop-i.invariant.within in
    record {
      within = omega arith;
      pushed =
          word_pushed c.args.walk.now.items c.loop-i.walk.items c.push.new.self.items ws c.loop-i.i c.word_at.result (Int (pos 0)) (omega arith) (omega arith)
          c.loop-i.invariant.pushed c.in_ok-push.ensures.items
          (c.word_at.ensures ∙ sym (get_or-take count (drop c.args.start args) j (Int (pos 0)) (omega arith) ∙ get_or-drop c.args.start args j (Int (pos 0))));
    }
