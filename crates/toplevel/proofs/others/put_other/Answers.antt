use Rattle.std.proofs.Common.{◌<◌, refl, sym, ◌∙◌, subst, arith, ℕ}
use Rattle.pl_consult.specs.GoalWords.{words_of}
use Rattle.toplevel.specs.Others.{IsNamedSo}
use Rattle.toplevel.proofs.OtherLaws.{other_so}
use Rattle.toplevel.proofs.others.put_other.Goals as goal

pub returns-clause-above : goal.returns-clause-above
returns-clause-above c = c.if-number-last.false

pub returns-clause-put : goal.returns-clause-put
returns-clause-put c p file board h counted o =
    record {
      front = c.args.opened.front;
      part = c.args.opened.part;
      fronts = c.in_ok-push.ensures.items;
      parts = c.in_ok-push-2.ensures.items;
      number_is = o.left.number;
      above = subst (λ (n : ℕ). c.args.last < n) o.left.number c.if-number-last.false;
      is =
          other_so p file board h c.args.opened o (words_of c.args.words.now) c.args.goals counted
          (let high = c.if-number-last.false in let one = c.requires in let same = o.left.number in omega (arith, high, one, same))
          (subst (λ (n : ℕ). IsNamedSo c.args.opened.script n (words_of c.args.words.now) c.args.goals) o.left.number (c.is_named.ensures c.if-not-is_named.false));
    }
