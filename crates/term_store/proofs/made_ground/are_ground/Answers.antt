use Rattle.std.proofs.Common.{◌≡◌, ◌+◌, ◌-◌, ◌∷◌, ap, drop, get_or, pos, sym, subst, ◌∙◌, arith}
use Rattle.std.specs.List.{All}
use Rattle.std.proofs.Math.Seq.{drop-length}
use Rattle.std.proofs.lemmas.List.{drop_more}
use Rattle.std.proofs.lemmas.List.Elements.{All-cons, All-nil}
use Rattle.term_store.specs.declared.words.Word.TheVariants.{Int}
use Rattle.term_store.specs.GroundMarks.{IsMarked}
use Rattle.term_store.proofs.made_ground.are_ground.Goals as goal

pub loop-i-init : goal.loop-i-init
loop-i-init c =
    record {
      within = omega (arith, c.len-i.ensures);
      from = omega (arith, c.len-i.ensures, c.requires);
      behind = subst (All (IsMarked c.args.grounds.now)) (sym (ap (λ n. drop n c.args.words.now.items) c.len-i.ensures ∙ drop-length c.args.words.now.items)) (All-nil (IsMarked c.args.grounds.now));
    }

pub loop-i-preserved : goal.loop-i-preserved
loop-i-preserved c =
    let ws = c.args.words.now.items in
    let j = c.loop-i.i - 1 in
    let w = get_or ws j (Int (pos 0)) in
    let P = IsMarked c.args.grounds.now in
    let within = c.loop-i.invariant.within in
    let next : j + 1 ≡ c.loop-i.i = omega arith in
    record {
      within = omega arith;
      from = omega (arith, c.loop-i-test.true);
      behind =
          subst (All P) (sym (drop_more ws j (Int (pos 0)) (omega arith) ∙ ap (λ n. w ∷ drop n ws) next))
          (All-cons P w (drop c.loop-i.i ws) (subst P c.get.ensures (c.is_ground_word.ensures c.if-not-is_ground_word.false)) c.loop-i.invariant.behind);
    }

pub returns : goal.returns
returns c _ =
    let from = c.loop-i.invariant.from in
    let here : c.loop-i.i ≡ c.args.start = omega (arith, from, c.loop-i-test.false) in
    subst (λ n. All (IsMarked c.args.grounds.now) (drop n c.args.words.now.items)) here c.loop-i.invariant.behind
